-- The byte of this turn is pasted after those before it.
use Prim.Native.Nat.{◌+◌}
use lib.ListN.{length-set, get_or, set}
use lib.Seq.{paste, paste-suc}
use mathlib.Core.Path.{ap, ◌∙◌, sym}
use native.Mathlib.Numerals.{add-one}
use native.Mathlib.Omega.{arith}
use Rattle.memory.proofs.copy_in.Goals as goal

pub loop-i-preserved : goal.loop-i-preserved
loop-i-preserved c =
    let a = c.args in
    let i = c.loop-i.i in (
      omega arith,
      simp length-set c.loop-i.invariant.1,
      ap (λ l. set l (a.at + i) (get_or a.s.now i 0)) c.loop-i.invariant.2
          ∙ paste-suc a.d.now a.at a.s.now i 0 (omega arith) (omega arith)
          ∙ ap (paste a.d.now a.at a.s.now) (sym (add-one i)),
    )
