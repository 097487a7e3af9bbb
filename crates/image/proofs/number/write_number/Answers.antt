-- `write_number` meets its contract: storing the bytes of what is left finishes the whole store.
use Prim.Native.Nat.{◌+◌, ◌-◌}
use native.Mathlib.Omega.{arith}
use mathlib.Core.Path.{◌≡◌, refl, ap}
use lib.ListN.{length}
use Rattle.image.specs.Number.{bytes_of}
use Rattle.image.proofs.Bytes.{last_byte, more_bytes, held_spare, held-less, write-more, write-last, stored}
use Rattle.image.proofs.number.write_number.Goals as goal

pub loop-left-init : goal.loop-left-init
unfolding bytes_of
loop-left-init c =
    let all : c.args.start + 9 - c.args.start ≡ 9 = omega arith in
    rw all (refl, refl, omega arith, omega arith)

pub bounds-out-at : goal.bounds-out-at
bounds-out-at c =
    let l = c.loop-left in
    let spare = c.args.start + 9 - l.at in
    omega (arith, ap length (more_bytes spare l.left (held_spare spare l.left l.invariant.2 c.loop-left-test.true) c.loop-left-test.true))

pub loop-left-preserved : goal.loop-left-preserved
loop-left-preserved c =
    let l = c.loop-left in
    let spare = c.args.start + 9 - l.at in
    let p = held_spare spare l.left l.invariant.2 c.loop-left-test.true in
    let less : c.args.start + 9 - l.at - 1 ≡ c.args.start + 9 - (l.at + 1) = omega arith in (
      rw less at (write-more l.out l.at spare l.left p c.loop-left-test.true l.invariant.0),
      omega (arith, rw less at (ap length (more_bytes spare l.left p c.loop-left-test.true))),
      rw less at (held-less spare l.left p l.invariant.2),
      omega arith,
    )

pub bounds-out-at-2 : goal.bounds-out-at-2
bounds-out-at-2 c =
    let l = c.loop-left in
    omega (arith, ap length (last_byte (c.args.start + 9 - l.at) l.left c.loop-left-test.false))

pub returns : goal.returns
returns c =
    let l = c.loop-left in
    let spare = c.args.start + 9 - l.at in
    stored (bytes_of c.args.v) c.args.start c.args.out.now (l.at + 1) _ (omega arith) (omega (arith, ap length (last_byte spare l.left c.loop-left-test.false))) (write-last l.out l.at spare l.left c.loop-left-test.false l.invariant.0)
