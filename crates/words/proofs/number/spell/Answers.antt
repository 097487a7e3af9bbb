-- `number::spell` meets its contract: the digits that are left to spell, before those that are, are all of them.
use Rattle.std.proofs.Common.{length, length-set, refl, sym}
use Rattle.words.specs.Number.{digits}
use Rattle.words.proofs.Pieces.{sets-all}
use Rattle.words.proofs.Digits.{length_digits, spell_more, spell_done}
use Rattle.words.proofs.number.spell.Goals as goal

pub loop-i-init : goal.loop-i-init
loop-i-init c =
    let out = c.args.out.now in
    (sets-all out (digits (length out) c.args.n) (sym (length_digits (length out) c.args.n)), refl)

pub loop-i-preserved : goal.loop-i-preserved
loop-i-preserved c =
    let l = c.loop-i in
    (spell_more l.out l.i l.left c.loop-i-test.true l.invariant.0, simp length-set l.invariant.1)

pub returns : goal.returns
returns c =
    let l = c.loop-i in
    spell_done l.out l.i l.left c.loop-i-test.false l.invariant.0
