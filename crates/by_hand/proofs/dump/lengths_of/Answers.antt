-- `dump::lengths_of` meets its contract: the lengths so far are those of the first allocations.
use Prim.Native.Nat.{ℕ, ◌-◌}
use native.Mathlib.Omega.{arith}
use mathlib.Core.Path.{refl, ap₂, ◌∙◌}
use lib.ListN.{length-set}
use Rattle.by_hand.specs.State.{lengths_from}
use Rattle.by_hand.proofs.Showing.{one-length}
use Rattle.by_hand.proofs.dump.lengths_of.Goals as goal

pub loop-k-init : goal.loop-k-init
unfolding lengths_from
loop-k-init c = (refl, refl, omega arith)

pub loop-k-preserved : goal.loop-k-preserved
loop-k-preserved c = (one-length c.args.bounds.now c.loop-k.lengths c.loop-k.k c.saturating_sub.result (omega arith) c.loop-k.invariant.0 (c.saturating_sub.ensures ∙ ap₂ (λ (m n : ℕ). m - n) c.word_at.ensures c.word_at-in-loop-k.ensures), length-set c.loop-k.lengths c.loop-k.k c.saturating_sub.result ∙ c.loop-k.invariant.1, omega arith)
