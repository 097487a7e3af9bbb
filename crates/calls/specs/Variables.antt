-- What a Call does to the variables as they are lent. Each part answers the table after it, or refuses, and then nothing has changed.
use Rattle.std.specs.Prelude.{ℕ, zero, suc, ◌+◌, ◌*◌, ◌/◌, Bool, true, List, ◌≡◌, length, get_or, ltb, Option, Some, None, Result, Ok, Err, is_ok, IsOk, ◌&&◌, ⊤}
use Rattle.value.specs.declared.refusal.Refusal.{Refusal}
use Rattle.value.specs.Answer.{Answer, ok, refused, pick, ◌>>=◌}
use Rattle.value.specs.Value.{tag, pointer}
use Rattle.memory.specs.Tables.{Both, both}
use Rattle.instruction.specs.Decode.{field_at, operand_at}
use Rattle.instruction.specs.Variables.{found, set_variable, read_variable, evaluated}
use Rattle.instruction.specs.declared.variables.Found.{Found}
use Rattle.calls.specs.Fields.{slot_at}
use Rattle.calls.specs.declared.fields.CallFields.{CallFields}
use Rattle.calls.specs.declared.fields.Callee.{Callee}

-- "A refusal leaves state and lent buffers untouched"
unfoldable pub all_or_nothing : List ℕ → Answer (List ℕ) → Both (Result ⊤ Refusal)
all_or_nothing vars (ok vs) = both (Ok tt) vs
all_or_nothing vars (refused n) = both (Err n) vars

-- a variable's two words as they stand
unfoldable pub held_of : List ℕ → ℕ → Found
held_of vars x = pick (ltb x (length vars / 2)) (found (get_or vars (x * 2) 0) (get_or vars (x * 2 + 1) 0)) (found 0 0)

-- where the rest was refused, the variable gets its old words back
abbrev pub undone_of : List ℕ → ℕ → Found → (Result ⊤ Refusal) → Both (Result ⊤ Refusal)
undone_of vars x old (Ok u) = both (Ok tt) vars
undone_of vars x old (Err n) = both (Err n) (set_variable vars x old)

-- the variable is set to what was found, or that is refused
unfoldable pub found_set : List ℕ → ℕ → Result Found Refusal → Answer (List ℕ)
found_set vars x (Ok v) = ok (set_variable vars x v)
found_set vars x (Err n) = refused n

-- the variables of n slots take the pointers from number g on
unfoldable pub slots_pointed : (image : List ℕ) → (n at g : ℕ) → List ℕ → List ℕ
slots_pointed s zero at g vars = vars
slots_pointed s (suc n) at g vars =
    let x = slot_at s at in
    slots_pointed s n x.next (g + 1) (set_variable vars x.variable (found (tag pointer) g))

-- "the arguments, each set before the next is read. Spare arguments are not evaluated; missing ones leave the old value."
unfoldable pub arguments_set : (image : List ℕ) → (wanted parameters given arguments : ℕ) → List ℕ → Answer (List ℕ)
arguments_set s zero p k a vars = ok vars
arguments_set s (suc n) p zero a vars = ok vars
arguments_set s (suc n) p (suc k) a vars =
    let to = field_at s p in
    let from = operand_at s a in
    found_set vars to.value (evaluated vars from) >>= λ vs. arguments_set s n to.next k from.next vs

-- what is done with what there is, if there is one
abbrev pub with_given : {A : Type 0} → Option A → List ℕ → (A → Answer (List ℕ)) → Answer (List ℕ)
with_given None vars f = ok vars
with_given (Some a) vars f = f a

-- the context, if there is one
unfoldable pub context_set : (image : List ℕ) → CallFields → Callee → List ℕ → Answer (List ℕ)
context_set s call f vars = with_given call.context vars (λ at. found_set vars f.context (evaluated vars (operand_at s at)))

-- the return pointer, if there is one, whatever the callee's flag says
unfoldable pub pointer_set : CallFields → Callee → List ℕ → Answer (List ℕ)
pointer_set call f vars = with_given call.pointer vars (λ x. found_set vars f.result (read_variable vars x))

-- the context, then the arguments
unfoldable pub context_on : (image : List ℕ) → CallFields → Callee → List ℕ → Answer (List ℕ)
context_on s call f vars = context_set s call f vars >>= λ vs. arguments_set s f.wanted f.parameters call.given call.arguments vs

-- the return pointer, then the context and the arguments
unfoldable pub pointer_on : (image : List ℕ) → CallFields → Callee → List ℕ → Answer (List ℕ)
pointer_on s call f vars = pointer_set call f vars >>= λ vs. context_on s call f vs

-- whether n operands all have values
unfoldable pub all_found : (image : List ℕ) → (n at : ℕ) → List ℕ → Bool
all_found s zero at vars = true
all_found s (suc n) at vars =
    let from = operand_at s at in
    is_ok (evaluated vars from) && all_found s n from.next vars

-- all that a Call hands over has a value, so that none of it is refused
pub record Sure (image : List ℕ) (call : CallFields) (vars : List ℕ) : Type 0 where
  pub pointer : (x : ℕ) → call.pointer ≡ Some x → IsOk (read_variable vars x)
  pub context : (at : ℕ) → call.context ≡ Some at → IsOk (evaluated vars (operand_at image at))
  pub arguments : all_found image call.given call.arguments vars ≡ true

-- the callee's slots, the first of which has pointer g, then the return pointer, the context and the arguments
unfoldable pub slots_on : (image : List ℕ) → CallFields → Callee → (n at g : ℕ) → List ℕ → Answer (List ℕ)
slots_on s call f n at g vars = pointer_on s call f (slots_pointed s n at g vars)
