-- What a start makes of an image, of registers and of tables: its checks in their order, and then the function begins.
use Rattle.std.specs.Prelude.{ℕ, ◌-◌, Bool, false, not, ◌&&◌, List, length, get_or, ltb, leb, eqb, Result, Ok, Err, ⊤}
use Rattle.value.specs.Answer.{pick}
use Rattle.value.specs.Refusal as refusal
use Rattle.value.specs.declared.refusal.Refusal.{Refusal}
use Rattle.value.specs.Tags.{kind_at, held}
use Rattle.image.specs.declared.number.Stop.{Stop}
use Rattle.loader.specs.Tables.{loaded_from}
use Rattle.loader.specs.declared.load.Loaded.{Loaded}
use Rattle.memory.specs.declared.Registers.{Registers}
use Rattle.memory.specs.Tables.{State, every, sound_of}
use Rattle.instruction.specs.declared.variables.Found.{Found}
use Rattle.calls.specs.Fields.{place_in, callee_at}
use Rattle.calls.specs.Begin.{begun_of}
use Rattle.calls.specs.declared.fields.Callee.{Callee}
use Rattle.step.specs.Items.{Items}
use Rattle.eval.specs.Loaded.{items_of}
use Rattle.eval.specs.Entry.{Entering, staying, stepped_from}
use Rattle.eval.specs.declared.entry.EntryError.TheVariants as entry

-- a tag and bits that are a value's
abbrev pub is_value : (tag bits : ℕ) → Bool
is_value t b = held (kind_at t) b

-- the k-th, if there are bits for it
unfoldable pub value_at : (tags bits : List ℕ) → ℕ → Bool
value_at ts bs k = ltb k (length bs) && is_value (get_or ts k 0) (get_or bs k 0)

-- "14 wrong number of arguments": one for each parameter, and one more where flagged
unfoldable pub wanted_of : Callee → (given : ℕ) → Bool
wanted_of f n = pick (eqb f.flag 0) (eqb n f.wanted) (pick (eqb n 0) false (eqb (n - 1) f.wanted))

-- "11 or 12, 13, 14, 15": the first that is met
unfoldable pub start_refusal : Registers → (image functions : List ℕ) → (number : ℕ) → Found → (tags bits : List ℕ) → Result ⊤ Refusal
start_refusal m s functions n context ts bs =
    pick (eqb m.running 1) (Err refusal.running)
    (pick (leb (length functions) n) (Err refusal.no_function)
    (pick (not (wanted_of (callee_at s (place_in functions n)) (length ts))) (Err refusal.wrong_arguments)
    (pick (not (is_value context.tag context.bits)) (Err refusal.not_scalar)
    (pick (not (every (length ts) (value_at ts bs))) (Err refusal.not_scalar) (Ok tt)))))

-- where no check refuses; else nothing has changed
abbrev pub where_none : Result ⊤ Refusal → State → Entering → Entering
where_none (Ok u) t a = a
where_none (Err n) t a = staying (Err (entry.Refused n)) t

-- "10 state not sound", those, "then room"
unfoldable pub start_loaded : Items → (number : ℕ) → Found → (tags bits : List ℕ) → State → Entering
start_loaded i n context ts bs t =
    pick (sound_of t)
    (where_none (start_refusal t.memory.registers i.bytes i.functions n context ts bs) t
    (stepped_from (begun_of t.memory t.variables i.bytes i.labels i.functions n context ts bs)))
    (staying (Err (entry.Refused refusal.not_sound)) t)

abbrev pub start_after : Result Loaded Stop → Items → (number : ℕ) → Found → (tags bits : List ℕ) → State → Entering
start_after (Ok l) i n context ts bs t = start_loaded i n context ts bs t
start_after (Err e) i n context ts bs t = staying (Err (entry.NotLoaded e)) t

unfoldable pub start_entered : (bytes : List ℕ) → (number : ℕ) → Found → (tags bits : List ℕ) → State → Entering
start_entered s n context ts bs t = start_after (loaded_from s) (items_of s) n context ts bs t
