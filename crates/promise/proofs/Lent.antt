-- The tags and bits of a start: spare bits are not looked at, and all that are no values are refused alike, by 15 in its place.
use Rattle.std.specs.Prelude.{Result, Ok, Err, ⊤}
use Prim.Native.Nat.{ℕ, zero, suc, ◌<◌}
use native.Mathlib.Omega.{arith}
use mathlib.Core.Bool.{Bool, true, false, not, ◌&&◌}
use mathlib.Core.Path.{◌≡◌, refl, sym, ap, ap₂, ◌∙◌}
use mathlib.Core.List.{List, [], ◌∷◌, ◌++◌}
use lib.ListN.{length, replicate, length-append, length-map, length-replicate, get_or-append}
use lib.Dec.{T, leb, eqb}
use borrow.Author.Tests.{lt-ltb}
use Rattle.value.specs.declared.refusal.Refusal.{Refusal}
use Rattle.value.specs.Answer.{pick}
use Rattle.value.specs.Refusal as Refusal
use Rattle.value.specs.Value.{Value, char, tag, is_scalar}
use Rattle.value.specs.Tags.{holds, held}
use Rattle.value.proofs.Tags.{kind_of_tag}
use Rattle.image.specs.declared.number.Stop.{Stop}
use Rattle.loader.specs.declared.load.Loaded.{Loaded}
use Rattle.loader.specs.Tables.{loaded_from}
use Rattle.memory.specs.declared.Registers.{Registers}
use Rattle.memory.specs.Tables.{State, every, sound_of}
use Rattle.machine.specs.Sound.{all}
use Rattle.machine.specs.Accepted.{given}
use Rattle.machine.specs.Accepted.{bad_char}
use Rattle.instruction.specs.Variables.{found, set_variable}
use Rattle.instruction.specs.Decode.{field_at}
use Rattle.instruction.specs.Code.{Stepped}
use Rattle.instruction.specs.declared.variables.Found.{Found}
use Rattle.calls.specs.Fields.{callee_at, place_in, entry_of}
use Rattle.calls.specs.Room.{room_in_of}
use Rattle.calls.specs.Variables.{slots_pointed}
use Rattle.calls.specs.Code.{slots_made_of, where_room}
use Rattle.calls.specs.Begin.{values_set, flagged_set, started_set, variables_set, with_slots, begun_in, begun_at, begun_of, tags_of, bits_of}
use Rattle.calls.specs.declared.fields.Callee.{Callee}
use Rattle.step.specs.Items.{Items}
use Rattle.eval.specs.Loaded.{items_of}
use Rattle.eval.specs.Entry.{Entering, stepped_from, staying}
use Rattle.eval.specs.Start.{is_value, value_at, wanted_of, start_refusal, where_none, start_loaded, start_after, start_entered}
use Rattle.eval.specs.declared.entry.EntryError.TheVariants as entry
use Rattle.promise.specs.Calls.{are_values}

-- ---- spare bits

values_spare : (s : List ℕ) (n at : ℕ) (ts bs spare vars : List ℕ) → length ts ≡ length bs → values_set s n at ts (bs ++ spare) vars ≡ values_set s n at ts bs vars
unfolding values_set
values_spare s zero at ts bs spare vars h = refl
values_spare s (suc n) at [] bs spare vars h = refl
values_spare s (suc n) at (t ∷ ts) [] spare vars h = absurd (omega arith)
values_spare s (suc n) at (t ∷ ts) (b ∷ bs) spare vars h = values_spare s n (field_at s at).next ts bs spare (set_variable vars (field_at s at).value (found t b)) (omega arith)

flagged_spare : (s : List ℕ) (f : Callee) (ts bs spare vars : List ℕ) → length ts ≡ length bs → flagged_set s f ts (bs ++ spare) vars ≡ flagged_set s f ts bs vars
unfolding flagged_set
flagged_spare s f [] bs spare vars h = refl
flagged_spare s f (t ∷ ts) [] spare vars h = absurd (omega arith)
flagged_spare s f (t ∷ ts) (b ∷ bs) spare vars h = values_spare s f.wanted f.parameters ts bs spare (set_variable vars f.result (found t b)) (omega arith)

value_spare : (ts bs spare : List ℕ) (k : ℕ) → k < length bs → value_at ts (bs ++ spare) k ≡ value_at ts bs k
unfolding value_at
value_spare ts bs spare k l =
    let a = lt-ltb k (length (bs ++ spare)) (simp length-append (omega arith)) in
    let b = lt-ltb k (length bs) l in
    let c = get_or-append bs spare 0 k l in
    rw (a, b, c) refl

every-same : (n : ℕ) (f g : ℕ → Bool) → ((k : ℕ) → k < n → f k ≡ g k) → every n f ≡ every n g
unfolding every
every-same zero f g h = refl
every-same (suc n) f g h = ap₂ ◌&&◌ (every-same n f g (λ k l. h k (omega arith))) (h n (omega arith))

-- the k-th bits of the host's values
pub equal_lengths : (gs : List Value) → length (tags_of gs) ≡ length (bits_of gs)
equal_lengths gs = length-map gs (λ g. tag g.kind) ∙ sym (length-map gs (λ g. g.bits))

module _ (s : List ℕ) (n : ℕ) (context : Found) (ts bs spare : List ℕ) (t : State) (h : length ts ≡ length bs) where
  variables_spare : (f : Callee) (g : ℕ) (vars : List ℕ) → variables_set s f context ts (bs ++ spare) g vars ≡ variables_set s f context ts bs g vars
  unfolding variables_set started_set
  variables_spare f g vars =
      let before = set_variable (replicate (length vars) 0) f.context context in
      ap (slots_pointed s f.count f.slots g)
      (ap₂ (λ (x y : List ℕ). pick (eqb f.flag 0) x y) (values_spare s f.wanted f.parameters ts bs spare before h) (flagged_spare s f ts bs spare before h))

  begun_spare : (labels functions : List ℕ) → begun_of t.memory t.variables s labels functions n context ts (bs ++ spare) ≡ begun_of t.memory t.variables s labels functions n context ts bs
  unfolding begun_of begun_in
  begun_spare labels functions = let f = callee_at s (place_in functions n) in at_place (entry_of labels f) f
    where
      at_place : (p : Result ℕ Refusal) (f : Callee) → begun_at t.memory t.variables s p f context ts (bs ++ spare) ≡ begun_at t.memory t.variables s p f context ts bs
      at_place (Ok k) f =
          let m = t.memory in
          let room = room_in_of m.registers s f (length m.store) m.frames m.bounds (length m.pointers) in
          ap (λ (vs : List ℕ). where_room room m t.variables (with_slots k (slots_made_of s f.count f.slots m) vs)) (variables_spare f m.registers.pointers t.variables)
      at_place (Err k) f = refl

  checks_spare : (m : Registers) (functions : List ℕ) → start_refusal m s functions n context ts (bs ++ spare) ≡ start_refusal m s functions n context ts bs
  unfolding start_refusal
  checks_spare m functions =
      let e = every-same (length ts) (value_at ts (bs ++ spare)) (value_at ts bs) (λ k l. value_spare ts bs spare k (omega arith)) in
      ap (λ (b : Bool). pick (eqb m.running 1) (Err Refusal.running)
      (pick (leb (length functions) n) (Err Refusal.no_function)
      (pick (not (wanted_of (callee_at s (place_in functions n)) (length ts))) (Err Refusal.wrong_arguments)
      (pick (not (is_value context.tag context.bits)) (Err Refusal.not_scalar) (pick (not b) (Err Refusal.not_scalar) (Ok tt)))))) e

module _ (n : ℕ) (context : Found) (ts bs spare : List ℕ) (t : State) (h : length ts ≡ length bs) where
  start_spare : (r : Result Loaded Stop) (i : Items) → start_after r i n context ts (bs ++ spare) t ≡ start_after r i n context ts bs t
  unfolding start_loaded
  start_spare (Ok l) i =
      ap₂ (λ (c : Result ⊤ Refusal) (w : Stepped). pick (sound_of t) (where_none c t (stepped_from w)) (staying (Err (entry.Refused Refusal.not_sound)) t))
      (checks_spare i.bytes n context ts bs spare t h t.memory.registers i.functions) (begun_spare i.bytes n context ts bs spare t h i.labels i.functions)
  start_spare (Err e) i = refl

pub spare_unused : (s : List ℕ) (n : ℕ) (context : Found) (ts bs spare : List ℕ) (t : State) → length ts ≡ length bs → start_entered s n context ts (bs ++ spare) t ≡ start_entered s n context ts bs t
unfolding start_entered
spare_unused s n context ts bs spare t h = start_spare n context ts bs spare t h (loaded_from s) (items_of s)

-- ---- no values

-- both are refused, and alike
record Same (x y : Result ⊤ Refusal) : Type 0 where
  why : Refusal
  first : x ≡ Err why
  second : y ≡ Err why

-- the checks of a start, the last two by whether the context and the arguments are values
abbrev checks : (a b c d e : Bool) → Result ⊤ Refusal
checks a b c d e =
    pick a (Err Refusal.running) (pick b (Err Refusal.no_function) (pick c (Err Refusal.wrong_arguments) (pick (not d) (Err Refusal.not_scalar) (pick (not e) (Err Refusal.not_scalar) (Ok tt)))))

one_of : (a b c d d' e e' : Bool) → (d && e) ≡ false → (d' && e') ≡ false → Same (checks a b c d e) (checks a b c d' e')
one_of true b c d d' e e' h k = record { why = Refusal.running; first = refl; second = refl }
one_of false true c d d' e e' h k = record { why = Refusal.no_function; first = refl; second = refl }
one_of false false true d d' e e' h k = record { why = Refusal.wrong_arguments; first = refl; second = refl }
one_of false false false d d' e e' h k = record { why = Refusal.not_scalar; first = last d e h; second = last d' e' k }
  where
    last : (d e : Bool) → (d && e) ≡ false → checks false false false d e ≡ Err Refusal.not_scalar
    last false e h = refl
    last true false h = refl
    last true true h = absurd (let z : ◌≡◌ {A = Bool} true false = h in let y : ◌≡◌ {A = ℕ} 0 1 = cc in omega arith)

module _ (n : ℕ) (context context' : Found) (ts bs ts' bs' : List ℕ) (t : State) (l : length ts ≡ length ts')
    (h : are_values context ts bs ≡ false) (k : are_values context' ts' bs' ≡ false) where
  checks_same : (m : Registers) (s functions : List ℕ) → Same (start_refusal m s functions n context ts bs) (start_refusal m s functions n context' ts' bs')
  unfolding start_refusal
  checks_same m s functions =
      rw l
      (one_of (eqb m.running 1) (leb (length functions) n) (not (wanted_of (callee_at s (place_in functions n)) (length ts'))) (is_value context.tag context.bits) (is_value context'.tag context'.bits)
      (every (length ts') (value_at ts bs)) (every (length ts') (value_at ts' bs')) (rw l at h) k)

  refused_alike : (x y : Result ⊤ Refusal) (w w' : Entering) → Same x y → where_none x t w ≡ where_none y t w'
  refused_alike x y w w' e = ap (λ (r : Result ⊤ Refusal). where_none r t w) e.first ∙ sym (ap (λ (r : Result ⊤ Refusal). where_none r t w') e.second)

  start_alike : (r : Result Loaded Stop) (i : Items) → start_after r i n context ts bs t ≡ start_after r i n context' ts' bs' t
  unfolding start_loaded
  start_alike (Ok l) i =
      ap (λ (x : Entering). pick (sound_of t) x (staying (Err (entry.Refused Refusal.not_sound)) t))
      (refused_alike _ _ _ _ (checks_same t.memory.registers i.bytes i.functions))
  start_alike (Err e) i = refl

pub no_values : (s : List ℕ) (n : ℕ) (context context' : Found) (ts bs ts' bs' : List ℕ) (t : State) → length ts ≡ length ts' → are_values context ts bs ≡ false
    → are_values context' ts' bs' ≡ false → start_entered s n context ts bs t ≡ start_entered s n context' ts' bs' t
unfolding start_entered
no_values s n context context' ts bs ts' bs' t l h k = start_alike n context context' ts bs ts' bs' t l h k (loaded_from s) (items_of s)

-- the Chars that stand for them

pub bad-length : (n : ℕ) → n ≡ length (tags_of (replicate n bad_char))
bad-length n = sym (length-map (replicate n bad_char) (λ g. tag g.kind) ∙ length-replicate n bad_char)

pub bad-values : (ts bs : List ℕ) → are_values (found (tag char) 0xd800) ts bs ≡ false
unfolding held holds is_scalar
bad-values ts bs = rw (kind_of_tag char) refl

pub bad-given : (n : ℕ) → T (all given (bad_char ∷ replicate n bad_char))
unfolding all given tag
bad-given zero = tt
bad-given (suc n) = bad-given n
