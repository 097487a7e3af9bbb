-- `read_number` meets its contract: what the groups from `at` on make, with `weight` and `sum`, is the number at `start`.
use Prim.Native.Nat.{◌≤◌, ◌+◌, ◌-◌, ◌*◌}
use native.Mathlib.Omega.{arith}
use mathlib.Core.Path.{◌≡◌, refl, sym, ◌∙◌}
use borrow.Author.Rules.{rules}
use Rattle.image.specs.Number.{number}
use Rattle.image.proofs.Groups.{out, last_one, last-bad, more', ends', lighter, light, group_fits}
use Rattle.image.proofs.number.read_number.Goals as goal

pub loop-group-init : goal.loop-group-init
unfolding number
loop-group-init c = (refl, refl, omega arith)

pub returns-then-image-at : goal.returns-then-image-at
returns-then-image-at c =
    let a = c.args in
    let l = c.loop-group in
    sym (l.invariant.0 ∙ out a.start l.weight l.sum a.image.now l.at (9 - l.group) c.if-image-at.true)

pub overflow_mul-result : goal.overflow_mul-result
overflow_mul-result c =
    let l = c.loop-group in
    omega (arith, group_fits {b = c.from-b.result} l.weight (omega arith) l.invariant.2, light (9 - l.group - 1) (l.weight * 128) (lighter (9 - l.group) l.weight (omega arith) l.invariant.1))

pub overflow_add-result : goal.overflow_add-result
overflow_add-result c =
    let l = c.loop-group in
    omega (arith, group_fits {b = c.from-b.result} l.weight (omega arith) l.invariant.2, light (9 - l.group - 1) (l.weight * 128) (lighter (9 - l.group) l.weight (omega arith) l.invariant.1))

pub returns-then-b-lt128 : goal.returns-then-b-lt128
returns-then-b-lt128 c =
    let a = c.args in
    let l = c.loop-group in
    let w = c.from-b in
    let z : w.result ≡ 0 → 9 ≤ 9 - l.group = λ e. search rules in
    sym (l.invariant.0 ∙ ends' a.start l.weight l.sum a.image.now l.at w.result w.ensures (9 - l.group) (omega arith) (omega arith) (omega arith) z)

pub overflow_mul-sum : goal.overflow_mul-sum
overflow_mul-sum c =
    let l = c.loop-group in
    let b = c.type_inv.image l.at in
    omega (arith, group_fits {b = c.from-b.result - 128} l.weight (omega (arith, b)) l.invariant.2, light (9 - l.group - 1) (l.weight * 128) (lighter (9 - l.group) l.weight (omega arith) l.invariant.1))

pub overflow_add-sum : goal.overflow_add-sum
overflow_add-sum c =
    let l = c.loop-group in
    let b = c.type_inv.image l.at in
    omega (arith, group_fits {b = c.from-b.result - 128} l.weight (omega (arith, b)) l.invariant.2, light (9 - l.group - 1) (l.weight * 128) (lighter (9 - l.group) l.weight (omega arith) l.invariant.1))

pub overflow_mul-weight : goal.overflow_mul-weight
overflow_mul-weight c =
    let l = c.loop-group in
    let b = c.type_inv.image l.at in
    omega (arith, light (9 - l.group - 1) (l.weight * 128) (lighter (9 - l.group) l.weight (omega arith) l.invariant.1))

pub loop-group-preserved : goal.loop-group-preserved
loop-group-preserved c =
    let a = c.args in
    let l = c.loop-group in
    let w = c.from-b in
    let b = c.type_inv.image l.at in
    let less : 9 - l.group - 1 ≡ 9 - (l.group + 1) = omega arith in (
      rw less at (l.invariant.0 ∙ more' a.start l.weight l.sum a.image.now l.at w.result w.ensures (9 - l.group) (omega arith) (omega arith) (omega arith)),
      rw less at (lighter (9 - l.group) l.weight (omega arith) l.invariant.1),
      group_fits {b = w.result - 128} l.weight (omega (arith, b)) l.invariant.2,
    )

pub returns-then-image-at-2 : goal.returns-then-image-at-2
returns-then-image-at-2 c =
    let a = c.args in
    let l = c.loop-group in
    sym (l.invariant.0 ∙ out a.start l.weight l.sum a.image.now l.at (9 - l.group) c.if-image-at-2.true)

pub returns-then-image-at-eq1 : goal.returns-then-image-at-eq1
returns-then-image-at-eq1 c =
    let a = c.args in
    let l = c.loop-group in
    sym (l.invariant.0 ∙ last_one a.start l.weight l.sum a.image.now l.at (9 - l.group) (omega arith) (omega arith) c.if-image-at-eq1.true)

pub returns : goal.returns
returns c =
    let a = c.args in
    let l = c.loop-group in
    sym (l.invariant.0 ∙ last-bad a.start l.weight l.sum a.image.now l.at (9 - l.group) (omega arith) (omega arith) c.if-image-at-eq1.false)
