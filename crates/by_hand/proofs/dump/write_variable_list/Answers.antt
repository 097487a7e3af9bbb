-- `dump::write_variable_list` meets its contract: the variables that are left, put after those that are, are all of them.
use Rattle.std.specs.Prelude.{Some}
use Rattle.words.specs.Text.{text}
use Rattle.by_hand.specs.State.{variable_at}
use Rattle.by_hand.proofs.Showing.{more-each, stopped-each, no_more_each}
use Rattle.by_hand.proofs.dump.write_variable_list.Goals as goal

pub returns-in_err-at : goal.returns-in_err-at
returns-in_err-at c =
    let l = c.loop-i in
    rw c.from_residual.ensures (stopped-each (256) l.i (variable_at c.args.vars.now) (text (Some l.at) l.out) _ c.loop-i-test.true c.in_err-at.ensures l.invariant)

pub loop-i-preserved : goal.loop-i-preserved
loop-i-preserved c =
    let l = c.loop-i in
    more-each (256) l.i (variable_at c.args.vars.now) (text (Some l.at) l.out) c.loop-i-test.true c.in_ok-at.ensures l.invariant

pub returns : goal.returns
returns c =
    let l = c.loop-i in
    no_more_each (256) l.i (variable_at c.args.vars.now) (text (Some l.at) l.out) c.loop-i-test.false l.invariant
