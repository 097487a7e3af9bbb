-- The loop's invariant: storing what is left finishes the whole store.
use Prim.Native.Nat.{◌+◌, ◌≤◌}
use mathlib.Core.Path.{◌≡◌}
use lib.ListN.{length, drop}
use lib.Seq.{sets}
use Rattle.image_writer.proofs.field.write_bytes.Given as goal

abbrev pub invariant-loop-i : goal.invariant-loop-i
invariant-loop-i l = (sets l.out (l.fn.start + l.i) (drop l.i l.fn.raw) ≡ sets l.initial.out l.fn.start l.fn.raw) × (l.i ≤ length l.fn.raw) × (length l.out ≡ length l.initial.out)
