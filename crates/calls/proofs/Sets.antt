-- A Call's variables: what each part of their definition is, at the tests that the code makes.
use Rattle.std.specs.Prelude.{Some, None, Result, Ok, Err}
use Prim.Native.Nat.{ℕ, zero, suc, ◌+◌, ◌-◌, ◌<◌, ◌≤◌}
use native.Mathlib.Numerals.{sub-one}
use native.Mathlib.Omega.{arith}
use mathlib.Core.Path.{◌≡◌, refl, sym, ap}
use mathlib.Core.List.{List}
use Rattle.value.specs.declared.refusal.Refusal.{Refusal}
use Rattle.value.specs.Answer.{Answer, ok, refused, ◌>>=◌}
use Rattle.value.specs.Value.{tag}
use Rattle.instruction.specs.Decode.{field_at, operand_at}
use Rattle.instruction.specs.Variables.{found, set_variable, read_variable, evaluated}
use Rattle.instruction.specs.declared.variables.Found.{Found}
use Rattle.instruction.specs.declared.field.Field.{Field}
use Rattle.instruction.specs.declared.field.Operand.{Operand}
use Rattle.calls.specs.Fields.{slot_at}
use Rattle.calls.specs.Variables.{slots_pointed, found_set, arguments_set, context_set, pointer_set, context_on, pointer_on, slots_on}
use Rattle.calls.specs.declared.fields.Slot.{Slot}
use Rattle.calls.specs.declared.fields.CallFields.{CallFields}
use Rattle.calls.specs.declared.fields.Callee.{Callee}
use Rattle.calls.proofs.Laws.{one_fewer, none_left}

module _ (s : List ℕ) where
  -- ---- slots' variables

  pub pointed_on : (n at g : ℕ) (vars set_first : List ℕ) (x : Slot) → 0 < n → x ≡ slot_at s at → set_first ≡ set_variable vars x.variable (found 14 g)
      → slots_pointed s (n - 1) x.next (g + 1) set_first ≡ slots_pointed s n at g vars
  unfolding slots_pointed tag
  pointed_on zero at g vars set_first x p e d = absurd (omega arith)
  pointed_on (suc n) at g vars set_first x p e d = simp (← e, d, sub-one)

  pub pointed_none : (n at g : ℕ) (vars : List ℕ) → n ≡ 0 → slots_pointed s n at g vars ≡ vars
  unfolding slots_pointed
  pointed_none zero at g vars e = refl
  pointed_none (suc n) at g vars e = absurd (omega arith)

  -- one turn of the loop, and its end
  pub slot_pointed : (n k at g : ℕ) (vars : List ℕ) → k < n
      → slots_pointed s (n - (k + 1)) (slot_at s at).next (g + (k + 1)) (set_variable vars (slot_at s at).variable (found 14 (g + k))) ≡ slots_pointed s (n - k) at (g + k) vars
  unfolding slots_pointed tag
  slot_pointed n k at g vars h = let e : g + (k + 1) ≡ g + k + 1 = omega arith in rw (one_fewer n k h, e)

  pub slots_done : (n k at g : ℕ) (vars : List ℕ) → n ≤ k → slots_pointed s (n - k) at g vars ≡ vars
  unfolding slots_pointed
  slots_done n k at g vars h = rw (none_left n k h)

-- ---- a Call's arguments

module _ (s : List ℕ) where
  pub arguments_on : (n p k a : ℕ) (vars set_first : List ℕ) (to : Field) (from : Operand) (r : Result Found Refusal) (v : Found) → (n ≡ 0 → ⊥) → (k ≡ 0 → ⊥)
      → to ≡ field_at s p → from ≡ operand_at s a → r ≡ evaluated vars from → r ≡ Ok v → set_first ≡ set_variable vars to.value v
      → arguments_set s (n - 1) to.next (k - 1) from.next set_first ≡ arguments_set s n p k a vars
  unfolding arguments_set found_set ◌>>=◌
  arguments_on zero p k a vars set_first to from r v i j e f g h d = absurd (i refl)
  arguments_on (suc n) p zero a vars set_first to from r v i j e f g h d = absurd (j refl)
  arguments_on (suc n) p (suc k) a vars set_first to from r v i j e f g h d = simp (← e, ← f, ← g, h, d, sub-one)

  pub arguments_refused : (n p k a : ℕ) (vars : List ℕ) (from : Operand) (r : Result Found Refusal) (why : Refusal) → (n ≡ 0 → ⊥) → (k ≡ 0 → ⊥)
      → from ≡ operand_at s a → r ≡ evaluated vars from → r ≡ Err why → arguments_set s n p k a vars ≡ refused why
  unfolding arguments_set found_set ◌>>=◌
  arguments_refused zero p k a vars from r why i j f g h = absurd (i refl)
  arguments_refused (suc n) p zero a vars from r why i j f g h = absurd (j refl)
  arguments_refused (suc n) p (suc k) a vars from r why i j f g h = rw (← f, ← g, h)

  pub arguments_unwanted : (n p k a : ℕ) (vars : List ℕ) → n ≡ 0 → arguments_set s n p k a vars ≡ ok vars
  unfolding arguments_set
  arguments_unwanted zero p k a vars e = refl
  arguments_unwanted (suc n) p k a vars e = absurd (omega arith)

  pub arguments_missing : (n p k a : ℕ) (vars : List ℕ) → k ≡ 0 → arguments_set s n p k a vars ≡ ok vars
  unfolding arguments_set
  arguments_missing zero p k a vars e = refl
  arguments_missing (suc n) p zero a vars e = refl
  arguments_missing (suc n) p (suc k) a vars e = absurd (omega arith)

  -- one turn of the loop over arguments that all have values, and its end
  pub argument_set : (n m k p a : ℕ) (vars : List ℕ) (v : Found) → k < n → k < m → evaluated vars (operand_at s a) ≡ Ok v
      → arguments_set s (n - (k + 1)) (field_at s p).next (m - (k + 1)) (operand_at s a).next (set_variable vars (field_at s p).value v) ≡ arguments_set s (n - k) p (m - k) a vars
  unfolding arguments_set found_set ◌>>=◌
  argument_set n m k p a vars v h i e = rw (one_fewer n k h, one_fewer m k i, e)

  pub unwanted_done : (n m k p a : ℕ) (vars : List ℕ) → n ≤ k → arguments_set s (n - k) p (m - k) a vars ≡ ok vars
  unwanted_done n m k p a vars h = arguments_unwanted _ p (m - k) a vars (none_left n k h)

  pub missing_done : (n m k p a : ℕ) (vars : List ℕ) → m ≤ k → arguments_set s (n - k) p (m - k) a vars ≡ ok vars
  missing_done n m k p a vars h = arguments_missing (n - k) p _ a vars (none_left m k h)

-- ---- a Call's context and return pointer, if there are any

module _ (s : List ℕ) (call : CallFields) (f : Callee) (vars : List ℕ) where
  abbrev arguments : List ℕ → Answer (List ℕ)
  arguments vs = arguments_set s f.wanted f.parameters call.given call.arguments vs

  pub context_none : call.context ≡ None → arguments vars ≡ context_on s call f vars
  unfolding context_on context_set ◌>>=◌
  context_none e = rw e

  pub context_refused : (at : ℕ) (from : Operand) (r : Result Found Refusal) (why : Refusal) → call.context ≡ Some at → from ≡ operand_at s at → r ≡ evaluated vars from → r ≡ Err why
      → refused why ≡ context_on s call f vars
  unfolding context_on context_set found_set ◌>>=◌
  context_refused at from r why n e d z = rw (n, ← e, ← d, z)

  pub context_on_lem : (at : ℕ) (from : Operand) (r : Result Found Refusal) (v : Found) (set_first : List ℕ) → call.context ≡ Some at → from ≡ operand_at s at → r ≡ evaluated vars from → r ≡ Ok v
      → set_first ≡ set_variable vars f.context v → arguments set_first ≡ context_on s call f vars
  unfolding context_on context_set found_set ◌>>=◌
  context_on_lem at from r v set_first n e d z g = rw (n, ← e, ← d, z, g)

  pub pointer_none : call.pointer ≡ None → context_on s call f vars ≡ pointer_on s call f vars
  unfolding pointer_on pointer_set ◌>>=◌
  pointer_none e = rw e

  pub pointer_refused : (x : ℕ) (r : Result Found Refusal) (why : Refusal) → call.pointer ≡ Some x → r ≡ read_variable vars x → r ≡ Err why
      → refused why ≡ pointer_on s call f vars
  unfolding pointer_on pointer_set found_set ◌>>=◌
  pointer_refused x r why n d z = rw (n, ← d, z)

  pub pointer_on_lem : (x : ℕ) (r : Result Found Refusal) (v : Found) (set_first : List ℕ) → call.pointer ≡ Some x → r ≡ read_variable vars x → r ≡ Ok v
      → set_first ≡ set_variable vars f.result v → context_on s call f set_first ≡ pointer_on s call f vars
  unfolding pointer_on pointer_set found_set ◌>>=◌
  pointer_on_lem x r v set_first n d z g = rw (n, ← d, z, g)

  pub slots_none : (n at g : ℕ) → n ≡ 0 → pointer_on s call f vars ≡ slots_on s call f n at g vars
  unfolding slots_on
  slots_none n at g e = ap (pointer_on s call f) (sym (pointed_none s n at g vars e))

  pub slots_on_lem : (n at g : ℕ) (set_first : List ℕ) (x : Slot) → (n ≡ 0 → ⊥) → x ≡ slot_at s at → set_first ≡ set_variable vars x.variable (found 14 g)
      → slots_on s call f (n - 1) x.next (g + 1) set_first ≡ slots_on s call f n at g vars
  unfolding slots_on
  slots_on_lem n at g set_first x p e d = ap (pointer_on s call f) (pointed_on s n at g vars set_first x (omega arith) e d)
