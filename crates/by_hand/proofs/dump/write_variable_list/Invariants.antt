-- `dump::write_variable_list` meets its contract: the variables that are left, put after those that are, are all of them.
use Prim.Native.Nat.{◌-◌}
use mathlib.Core.Path.{◌≡◌}
use Rattle.std.specs.Prelude.{Some}
use Rattle.words.specs.Text.{text, puts}
use Rattle.by_hand.specs.State.{each, variable_at}
use Rattle.by_hand.proofs.dump.write_variable_list.Given as goal

abbrev pub invariant-loop-i : goal.invariant-loop-i
invariant-loop-i l = puts (each (256 - l.i) l.i (variable_at l.vars)) (text (Some l.at) l.out) ≡ puts (each 256 0 (variable_at l.vars)) (text (Some l.initial.at) l.initial.out)
