-- `number::write_number` meets its contract: the digits are stored where `place` gives them room.
use Rattle.std.proofs.Common.{ℕ, sym, ap, ◌∙◌}
use Rattle.words.specs.Number.{decimal, digits}
use Rattle.words.proofs.Pieces.{written, unwritten, part_length}
use Rattle.words.proofs.Digits.{length-decimal}
use Rattle.words.proofs.number.write_number.Goals as goal

pub returns-in_err-to : goal.returns-in_err-to
returns-in_err-to c =
    let a = c.args in
    let n = c.count_digits in
    rw c.from_residual.ensures (unwritten (decimal a.n) n.result a.at a.out.now (n.ensures ∙ sym (length-decimal a.n)) (sym c.in_err-to.was ∙ c.place.ensures))

pub returns : goal.returns
unfolding decimal
returns c =
    let a = c.args in
    let n = c.count_digits in
    let p = sym c.in_ok-to.was ∙ c.place.ensures in
    written (decimal a.n) n.result a.at a.out.now (n.ensures ∙ sym (length-decimal a.n)) c.in_ok-to.to _ p
    (c.spell.ensures ∙ ap (λ (k : ℕ). digits k a.n) (part_length n.result a.at a.out.now c.in_ok-to.to p ∙ n.ensures))
