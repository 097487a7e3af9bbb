-- `poke::put_constants` meets its contract: the pointers that are left make up all of them.
use Prim.Native.Nat.{◌-◌}
use mathlib.Core.Path.{◌≡◌}
use Rattle.by_hand.specs.Changes.{constants_put}
use Rattle.by_hand.proofs.poke.put_constants.Given as goal

abbrev pub invariant-loop-p : goal.invariant-loop-p
invariant-loop-p l = constants_put (l.to - l.p) l.pointers l.p l.constant ≡ constants_put (l.to - l.from) l.initial.pointers l.from l.constant
