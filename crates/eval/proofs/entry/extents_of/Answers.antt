-- `entry::extents_of` meets its contract: after k constants the first k pairs are there.
use native.Mathlib.Omega.{arith}
use lib.ListN.{length-set}
use Rattle.eval.proofs.Constants.{extents_more}
use Rattle.eval.proofs.entry.extents_of.Goals as goal

pub loop-k-preserved : goal.loop-k-preserved
loop-k-preserved c = (simp length-set c.loop-k.invariant.0, extents_more _ _ _ _ _ c.loop-k-test.true (omega arith) c.extent_at-extent.ensures c.loop-k.invariant.1)
