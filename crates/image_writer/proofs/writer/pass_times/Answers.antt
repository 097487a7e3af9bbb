-- `pass_times` meets its contract: after i turns so many parts are passed.
use Rattle.std.proofs.Common.{rules}
use Rattle.image_writer.proofs.Keeps.{none_passed, more-passed, all-passed}
use Rattle.image_writer.proofs.writer.pass_times.Goals as goal

pub loop-init : goal.loop-init
loop-init g c s past h = none_passed past

pub loop-preserved : goal.loop-preserved
loop-preserved g c s past h = more-passed past c.loop.counter (c.loop.invariant s past h) (h _ _ _ _ c.part-c.ensures)

pub returns : goal.returns
returns g c s past h = all-passed past c.loop.counter c.args.count (search rules) (c.loop.invariant s past h)
