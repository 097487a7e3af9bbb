-- `dump::write_frames` meets its contract: the frames that are left, put after those that are, are all of them.
use Prim.Native.Nat.{◌-◌}
use mathlib.Core.Path.{◌≡◌}
use Rattle.std.specs.Prelude.{Some}
use Rattle.words.specs.Text.{text, puts}
use Rattle.by_hand.specs.State.{each, frame_at, frames_text}
use Rattle.by_hand.proofs.dump.write_frames.Given as goal

abbrev pub invariant-loop-i : goal.invariant-loop-i
invariant-loop-i l = puts (each (l.i-end - l.i) l.i (frame_at l.frames l.lengths)) (text (Some l.at) l.out) ≡ puts (frames_text l.depth l.frames l.lengths) (text (Some l.initial.at) l.initial.out)
