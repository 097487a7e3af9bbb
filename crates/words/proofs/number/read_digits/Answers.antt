-- `number::read_digits` meets its contract: the digits that are left, after those that were read, say what all of them say.
use Rattle.std.proofs.Common.{ℕ, ◌+◌, drop, arith, sym, ap, ◌∙◌}
use Rattle.words.specs.Number.{digits_say}
use Rattle.words.proofs.Digits.{other-at, over_at, more-at, all_said}
use Rattle.words.proofs.number.read_digits.Goals as goal

pub returns-then-not-is_ascii_digit : goal.returns-then-not-is_ascii_digit
returns-then-not-is_ascii_digit c =
    let l = c.loop-b in
    other-at c.args.word.now l.b-index l.n c.loop-b-test.true l.invariant.0 (sym c.is_ascii_digit.ensures.value ∙ c.if-not-is_ascii_digit.true)

pub returns-in_err-checked_mul : goal.returns-in_err-checked_mul
returns-in_err-checked_mul c =
    let l = c.loop-b in
    let m = c.in_err-checked_mul.ensures in
    c.from_residual.ensures ∙ over_at c.args.word.now l.b-index l.n c.loop-b-test.true l.invariant.0 (omega (arith, m))

pub returns-in_err-n : goal.returns-in_err-n
returns-in_err-n c =
    let l = c.loop-b in
    let m = c.in_err-n.ensures in
    c.from_residual-in_err-n.ensures ∙ over_at c.args.word.now l.b-index l.n c.loop-b-test.true l.invariant.0 (omega (arith, m))

pub loop-b-preserved : goal.loop-b-preserved
loop-b-preserved c =
    let l = c.loop-b in
    let m = c.in_ok-n.ensures in
    let t = more-at c.args.word.now l.b-index l.n c.loop-b-test.true l.invariant.0 (sym c.is_ascii_digit.ensures.value ∙ c.if-not-is_ascii_digit.false) in
    (ap (λ (n : ℕ). digits_say n (drop (l.b-index + 1) c.args.word.now)) (omega (arith, m)) ∙ t, omega (arith, m))

pub returns : goal.returns
returns c =
    let l = c.loop-b in
    all_said c.args.word.now l.b-index l.n c.loop-b-test.false (omega arith) l.invariant.0
