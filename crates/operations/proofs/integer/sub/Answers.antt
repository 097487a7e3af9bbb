-- `sub`: the test of the kinds, then the difference of the two numbers in the kind.
use mathlib.Core.Path.{refl, sym, ◌∙◌}
use borrow.Author.Rules.{rules}
use lib.IntN.{◌-ℤ◌}
use mir.Syntax.{w128}
use mir.Val.{SFits, to_z, of_z}
use mir.ValLaws.{to_z-of_z}
use Rattle.value.specs.Ir.{value_of}
use Rattle.value.specs.Value.{operate}
use Rattle.value.specs.Value as Believed
use Rattle.operations.proofs.Arithmetic.{refuses, whole}
use Rattle.operations.proofs.integer.sub.Goals as goal

pub returns-then-not-alike : goal.returns-then-not-alike
returns-then-not-alike c = refuses Believed.sub (value_of c.args.x) (value_of c.args.y) (sym c.alike.ensures ∙ c.if-not-alike.true)

pub returns : goal.returns
unfolding operate
returns c =
    let N = to_z-of_z w128 c.number.result (record { sfits = c.number.type_inv }) in
    let M = to_z-of_z w128 c.number-2.result (record { sfits = c.number-2.type_inv }) in
    let fits : SFits w128 (to_z w128 (of_z w128 c.number.result) -ℤ to_z w128 (of_z w128 c.number-2.result)) = search rules in
    c.stored.ensures ∙ whole Believed.sub ◌-ℤ◌ (λ k a b. refl) (value_of c.args.x) (value_of c.args.y) c.alike.ensures c.if-not-alike.false c.number.ensures.is c.number-2.ensures.is (to_z-of_z w128 _ fits ∙ rw (N, M))
