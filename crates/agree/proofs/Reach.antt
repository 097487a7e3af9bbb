-- Where an operand has to be a pointer: the code refuses as the believed machine does, or both go on with the same number.
use Prim.Native.Nat.{ℕ}
use Rattle.value.specs.declared.refusal.Refusal.{Refusal}
use Rattle.value.specs.Refusal.{wrong_kinds}
use Rattle.value.specs.Answer.{Answer, ok, refused, need, ◌>>=◌}
use Rattle.value.specs.Value.{Value, pointer, same}
use Rattle.memory.proofs.Every.{by_test}
use Rattle.machine.specs.Machine.{as_pointer}
use Rattle.machine.proofs.Values.{Keeps, Good}
use Rattle.instruction.specs.Compute.{found_of}
use Rattle.instruction.specs.Code.{either}
use Rattle.instruction.specs.Storage.{as_pointer_of, number_in}
use Rattle.instruction.proofs.Values.{found-answer}

-- a value that is a pointer
abbrev pointed : Value → Answer Value
pointed v = need (same v.kind pointer) wrong_kinds (ok v)

module _ {X B : Type 0} (R : X → Answer B → Type 0) (refuse : Refusal → X) (go : ℕ → X) (k : ℕ → Answer B)
    (refuses : (n : Refusal) → R (refuse n) (refused n)) (goes : (p : ℕ) → R (go p) (k p)) where
  by_answer : (a : Answer Value) → R (either (number_in (a >>= pointed)) refuse go) ((a >>= as_pointer) >>= k)
  unfolding ◌>>=◌ need as_pointer
  by_answer (refused n) = refuses n
  by_answer (ok v) = by_test (same v.kind pointer) (λ t. rw t (goes v.bits)) (λ t. rw t (refuses wrong_kinds))

  pub reached : (a : Answer Value) → Keeps Good a → R (either (number_in (as_pointer_of (found_of a))) refuse go) ((a >>= as_pointer) >>= k)
  unfolding as_pointer_of
  reached a g = rw (found-answer a g) (by_answer a)
