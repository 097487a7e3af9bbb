-- `read_number` meets its contract: what the groups from `at` on make, with `weight` and `sum`, is the number at `start`.
use Prim.Native.Nat.{◌<◌, ◌-◌, ◌*◌, ◌^◌}
use mathlib.Core.Path.{◌≡◌}
use Rattle.image.specs.Number.{groups, number}
use Rattle.image.proofs.number.read_number.Given as goal

abbrev pub invariant-loop-group : goal.invariant-loop-group
invariant-loop-group l =
    (number l.image l.start ≡ groups (9 - l.group) l.start l.weight l.sum l.image l.at) × (l.weight * 128 ^ (9 - l.group) ≡ 2 ^ 63) × (l.sum < l.weight)
