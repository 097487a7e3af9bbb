-- What a start does to registers and tables, once the checks of its entry are made.
use Rattle.std.specs.Prelude.{ℕ, zero, suc, List, [], ◌∷◌, map, length, replicate, eqb, Result, Ok, Err}
use Rattle.value.specs.declared.refusal.Refusal.{Refusal}
use Rattle.value.specs.Answer.{pick}
use Rattle.value.specs.Value.{Value, tag}
use Rattle.memory.specs.declared.Registers.{Registers}
use Rattle.memory.specs.Tables.{Tables, registers}
use Rattle.instruction.specs.Code.{Stepped, stepped}
use Rattle.instruction.specs.Decode.{field_at}
use Rattle.instruction.specs.Variables.{found, set_variable}
use Rattle.instruction.specs.declared.variables.Found.{Found}
use Rattle.instruction.specs.declared.step.Progress.{Progress}
use Rattle.instruction.specs.declared.step.Progress.TheVariants as progress
use Rattle.instruction.specs.Storage.{unstepped}
use Rattle.calls.specs.Fields.{callee_at, place_in, entry_of}
use Rattle.calls.specs.Room.{room_in_of}
use Rattle.calls.specs.Variables.{slots_pointed}
use Rattle.calls.specs.Code.{Entered, slots_made_of, where_room}
use Rattle.calls.specs.declared.fields.Callee.{Callee}

-- the host's values, as they are lent
abbrev pub tags_of : List Value → List ℕ
tags_of gs = map (λ g. tag g.kind) gs

abbrev pub bits_of : List Value → List ℕ
bits_of gs = map (λ g. g.bits) gs

-- "sets parameters in order": n of them, from values as far as there are any
unfoldable pub values_set : (image : List ℕ) → (n at : ℕ) → (tags bits vars : List ℕ) → List ℕ
values_set s zero at ts bs vars = vars
values_set s (suc n) at [] bs vars = vars
values_set s (suc n) at (t ∷ ts) [] vars = vars
values_set s (suc n) at (t ∷ ts) (b ∷ bs) vars =
    let to = field_at s at in
    values_set s n to.next ts bs (set_variable vars to.value (found t b))

-- the first value is the return pointer, the others are the parameters'
unfoldable pub flagged_set : (image : List ℕ) → Callee → (tags bits vars : List ℕ) → List ℕ
flagged_set s f [] bs vars = vars
flagged_set s f (t ∷ ts) [] vars = vars
flagged_set s f (t ∷ ts) (b ∷ bs) vars = values_set s f.wanted f.parameters ts bs (set_variable vars f.result (found t b))

-- "takes the first argument as return pointer where flagged, sets parameters in order"
unfoldable pub started_set : (image : List ℕ) → Callee → (tags bits vars : List ℕ) → List ℕ
started_set s f ts bs vars = pick (eqb f.flag 0) (values_set s f.wanted f.parameters ts bs vars) (flagged_set s f ts bs vars)

-- "Start clears all variables, sets the context, .. then makes slots", the first of which has pointer g
unfoldable pub variables_set : (image : List ℕ) → Callee → Found → (tags bits : List ℕ) → (g : ℕ) → (vars : List ℕ) → List ℕ
variables_set s f context ts bs g vars =
    slots_pointed s f.count f.slots g (started_set s f ts bs (set_variable (replicate (length vars) 0) f.context context))

-- "the next place is the entry label's and the machine runs"
unfoldable pub ran_at : (place : ℕ) → (Result Registers Refusal) → Result Progress Refusal
ran_at k (Ok m) = Ok (progress.Next (registers 1 k m.counter m.depth m.pointers))
ran_at k (Err n) = Err n

abbrev pub with_slots : (place : ℕ) → Entered → (vars : List ℕ) → Stepped
with_slots k e vs = stepped (ran_at k e.answer) e.store e.frames e.bounds e.pointers vs

unfoldable pub begun_in : Tables → (vars image : List ℕ) → (place : ℕ) → Callee → Found → (tags bits : List ℕ) → Stepped
begun_in t vars s k f context ts bs =
    where_room (room_in_of t.registers s f (length t.store) t.frames t.bounds (length t.pointers)) t vars
    (with_slots k (slots_made_of s f.count f.slots t) (variables_set s f context ts bs t.registers.pointers vars))

abbrev pub begun_at : Tables → (vars image : List ℕ) → (Result ℕ Refusal) → Callee → Found → (tags bits : List ℕ) → Stepped
begun_at t vars s (Ok k) f context ts bs = begun_in t vars s k f context ts bs
begun_at t vars s (Err n) f context ts bs = unstepped t vars n

unfoldable pub begun_of : Tables → (vars image labels functions : List ℕ) → (number : ℕ) → (context : Found) → (tags bits : List ℕ) → Stepped
begun_of t vars s labels functions number context ts bs =
    let f = callee_at s (place_in functions number) in
    begun_at t vars s (entry_of labels f) f context ts bs
