-- The loop's invariant: the bytes passed are pasted, the rest as they were.
use Rattle.std.proofs.Common.{◌≡◌, ◌≤◌, length, drop}
use Rattle.std.proofs.Math.Seq.{paste}
use Rattle.memory.proofs.copy_out.Given as goal

abbrev pub invariant-loop-i : goal.invariant-loop-i
invariant-loop-i l = (l.i ≤ length l.initial.d) × (length l.d ≡ length l.initial.d) × (l.d ≡ paste l.initial.d 0 (drop l.at l.s) l.i)
