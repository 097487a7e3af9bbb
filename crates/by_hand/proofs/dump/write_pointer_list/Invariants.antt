-- `dump::write_pointer_list` meets its contract: the pointers that are left, put after those that are, are all of them.
use Prim.Native.Nat.{◌-◌}
use mathlib.Core.Path.{◌≡◌}
use Rattle.std.specs.Prelude.{Some}
use Rattle.words.specs.Text.{text, puts}
use Rattle.by_hand.specs.State.{each, pointer_at}
use Rattle.by_hand.proofs.dump.write_pointer_list.Given as goal

abbrev pub invariant-loop-p : goal.invariant-loop-p
invariant-loop-p l = puts (each (l.count - l.p) l.p (pointer_at l.pointers)) (text (Some l.at) l.out) ≡ puts (each l.count 0 (pointer_at l.pointers)) (text (Some l.initial.at) l.initial.out)
