-- `length_of` meets its contract: the bytes counted and those of what is left make up the number's.
use Prim.Native.Nat.{◌+◌, ◌-◌}
use native.Mathlib.Omega.{arith}
use mathlib.Core.Path.{◌≡◌, refl, ap}
use lib.ListN.{length}
use Rattle.image.specs.Number.{bytes_of}
use Rattle.image.proofs.Bytes.{last_byte, more_bytes, held_spare, held-less}
use Rattle.image.proofs.number.length_of.Goals as goal

pub loop-left-init : goal.loop-left-init
unfolding bytes_of
loop-left-init c = (refl, omega arith, omega arith)

pub loop-left-preserved : goal.loop-left-preserved
loop-left-preserved c =
    let l = c.loop-left in
    let spare = 10 - l.n in
    let p = held_spare (10 - l.n) l.left l.invariant.1 c.loop-left-test.true in
    let less : 10 - l.n - 1 ≡ 10 - (l.n + 1) = omega arith in (
      omega (arith, rw less at (ap length (more_bytes (10 - l.n) l.left p c.loop-left-test.true))),
      rw less at (held-less (10 - l.n) l.left p l.invariant.1),
      omega arith,
    )

pub returns : goal.returns
returns c =
    let l = c.loop-left in
    omega (arith, ap length (last_byte (10 - l.n) l.left c.loop-left-test.false))
