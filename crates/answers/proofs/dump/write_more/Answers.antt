-- `dump::write_more` meets its contract: the lengths that are left, put after those that are, are all of them.
use Rattle.std.proofs.Common.{Some}
use Rattle.words.specs.Text.{text}
use Rattle.answers.proofs.Parts.{more_lengths_lem, lengths_cut, no_more_lengths}
use Rattle.answers.proofs.dump.write_more.Goals as goal

pub returns-in_err-at : goal.returns-in_err-at
returns-in_err-at c =
    let l = c.loop-length in
    rw c.from_residual.ensures (lengths_cut c.args.lengths.now l.length-index (text (Some l.at) l.out) _ c.loop-length-test.true c.in_err-at.ensures l.invariant)

pub loop-length-preserved : goal.loop-length-preserved
loop-length-preserved c =
    let l = c.loop-length in
    more_lengths_lem c.args.lengths.now l.length-index (text (Some l.at) l.out) c.loop-length-test.true c.in_ok-at.ensures l.invariant

pub returns : goal.returns
returns c =
    let l = c.loop-length in
    no_more_lengths c.args.lengths.now l.length-index (text (Some l.at) l.out) c.loop-length-test.false l.invariant
