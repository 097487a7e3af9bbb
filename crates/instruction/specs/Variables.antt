-- What the code does with the variables as they are lent: of each the tag of its kind, 0 where it is unset, and its bits.
use Rattle.std.specs.Prelude.{ℕ, ◌+◌, ◌*◌, ◌/◌, List, length, get_or, set, ltb, eqb, Result, Ok, Err}
use Rattle.value.specs.declared.refusal.Refusal.{Refusal}
use Rattle.value.specs.Refusal.{never_set, no_instruction}
use Rattle.value.specs.Answer.{pick}
use Rattle.instruction.specs.declared.field.Operand.{Operand}
use Rattle.instruction.specs.declared.variables.Found.{Found}

abbrev pub found : (tag bits : ℕ) → Found
found t b = record { tag = t; bits = b }

-- a variable's value, or the refusal of one that was never set
unfoldable pub read_variable : List ℕ → ℕ → Result Found Refusal
read_variable vars x =
    pick (ltb x (length vars / 2))
    (pick (eqb (get_or vars (x * 2) 0) 0) (Err never_set) (Ok (found (get_or vars (x * 2) 0) (get_or vars (x * 2 + 1) 0))))
    (Err never_set)

-- the variable is set; beyond the last there is none
unfoldable pub set_variable : List ℕ → ℕ → Found → List ℕ
set_variable vars x v = pick (ltb x (length vars / 2)) (set (set vars (x * 2) v.tag) (x * 2 + 1) v.bits) vars

-- an operand's value: its variable's, or its own
unfoldable pub evaluated : List ℕ → Operand → Result Found Refusal
evaluated vars o =
    pick (eqb o.next 0) (Err no_instruction)
    (pick (eqb o.tag 0) (read_variable vars o.bits) (Ok (found o.tag o.bits)))
