-- `mul`: the test of the kinds, then the product of the two numbers in the kind; what 128 bits do not hold, no width holds.
use mathlib.Core.Path.{refl, sym, ◌∙◌, subst}
use lib.IntN.{◌*ℤ◌}
use mir.Syntax.{w128}
use mir.Val.{SFits}
use mir.ValLaws.{to_z-of_z}
use Rattle.value.specs.Ir.{value_of}
use Rattle.value.specs.Value.{operate}
use Rattle.value.specs.Value as Believed
use Rattle.operations.proofs.Arithmetic.{refuses, whole, too_wide}
use Rattle.operations.proofs.integer.mul.Goals as goal

pub returns-then-not-alike : goal.returns-then-not-alike
returns-then-not-alike c = refuses Believed.mul (value_of c.args.x) (value_of c.args.y) (sym c.alike.ensures ∙ c.if-not-alike.true)

pub returns-in-Some : goal.returns-in-Some
unfolding operate
returns-in-Some c =
    let N = to_z-of_z w128 c.number.result (record { sfits = c.number.type_inv }) in
    let M = to_z-of_z w128 c.number-2.result (record { sfits = c.number-2.type_inv }) in
    let h = rw (N, M, c.in-Some.is) at c.checked_mul.ensures in
    c.stored.ensures ∙ whole Believed.mul ◌*ℤ◌ (λ k a b. refl) (value_of c.args.x) (value_of c.args.y) c.alike.ensures c.if-not-alike.false c.number.ensures.is c.number-2.ensures.is (to_z-of_z w128 _ (subst (SFits w128) (sym h.1) h.0) ∙ h.1)

pub returns-in-None : goal.returns-in-None
unfolding operate
returns-in-None c =
    let N = to_z-of_z w128 c.number.result (record { sfits = c.number.type_inv }) in
    let M = to_z-of_z w128 c.number-2.result (record { sfits = c.number-2.type_inv }) in
    let h = rw (N, M, c.in-None.is) at c.checked_mul.ensures in
    too_wide _ _ h ∙ whole Believed.mul ◌*ℤ◌ (λ k a b. refl) (value_of c.args.x) (value_of c.args.y) c.alike.ensures c.if-not-alike.false c.number.ensures.is c.number-2.ensures.is refl
