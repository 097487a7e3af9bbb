-- The byte of this turn is pasted after those before it.
use Prim.Native.Nat.{◌+◌, ◌<◌}
use lib.ListN.{length-set, length-drop, length, get_or, set, drop}
use lib.Seq.{paste}
use mathlib.Core.Path.{ap, ◌∙◌}
use native.Mathlib.Omega.{arith}
use Rattle.memory.proofs.Lists.{filled}
use Rattle.memory.proofs.copy_out.Goals as goal

pub loop-i-preserved : goal.loop-i-preserved
loop-i-preserved c =
    let a = c.args in
    let i = c.loop-i.i in
    let t = drop a.at a.s.now in
    let h : i < length t = simp length-drop (omega arith) in (
      omega arith,
      simp length-set c.loop-i.invariant.1,
      ap (λ l. set l i (get_or a.s.now (a.at + i) 0)) c.loop-i.invariant.2
          ∙ filled a.d.now a.at a.s.now i (omega arith) h,
    )
