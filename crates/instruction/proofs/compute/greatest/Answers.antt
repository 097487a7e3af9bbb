-- `compute::greatest` meets its contract: each arm is an unsigned kind's, and the last has no number.
use mathlib.Core.Path.{◌≡◌}
use Rattle.value.specs.Value.{tag}
use Rattle.instruction.specs.Short.{u8, u16, u32, u64}
use Rattle.instruction.proofs.compute.greatest.Goals as goal

pub returns-in-2 : goal.returns-in-2
unfolding tag
returns-in-2 c top e = let same : top ≡ 255 = cc in rw (c.in-2.is, same) u8

pub returns-in-3 : goal.returns-in-3
unfolding tag
returns-in-3 c top e = let same : top ≡ 65535 = cc in rw (c.in-3.is, same) u16

pub returns-in-4 : goal.returns-in-4
unfolding tag
returns-in-4 c top e = let same : top ≡ 4294967295 = cc in rw (c.in-4.is, same) u32

pub returns-in-5 : goal.returns-in-5
unfolding tag
returns-in-5 c top e = let same : top ≡ 18446744073709551615 = cc in rw (c.in-5.is, same) u64
