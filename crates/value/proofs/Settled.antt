-- What a contract leaves open: nothing. Each public function ensures that its answer, and each lent slice at exit, is a definition's at its arguments.
use mathlib.Core.Path.{◌≡◌, sym, ap, ◌∙◌}
use Rattle.value.specs.Value.{Value, value, tag}
use Rattle.value.specs.Ir.{value_of}
use Rattle.value.specs.declared.IrValue.{IrValue}
use Rattle.value.proofs.Tags.{tags-equal}

-- two answers that a contract allows are equal
pub settled : {A : Type 0} {x r s : A} → r ≡ x → s ≡ x → r ≡ s
settled p q = p ∙ sym q

-- values with equal tag and bits are one to every definition
pub same-value : (x y : IrValue) → tag (value_of x).kind ≡ tag (value_of y).kind → (value_of x).bits ≡ (value_of y).bits → value_of x ≡ value_of y
same-value x y e f = ap (λ k. value k (value_of x).bits) (tags-equal e) ∙ ap (value (value_of y).kind) f

-- so an operation's answers to them are equal
pub factors : {A : Type 0} (f : Value → A) (x y : IrValue) {r s : A} → tag (value_of x).kind ≡ tag (value_of y).kind → (value_of x).bits ≡ (value_of y).bits → r ≡ f (value_of x) → s ≡ f (value_of y) → r ≡ s
factors f x y e b p q = p ∙ ap f (same-value x y e b) ∙ sym q
