-- `dump::write_more` meets its contract: the lengths that are left, put after those that are, are all of them.
use mathlib.Core.Path.{◌≡◌}
use lib.ListN.{drop}
use Rattle.std.specs.Prelude.{Some}
use Rattle.words.specs.Text.{text, puts}
use Rattle.answers.specs.Dump.{more_lengths}
use Rattle.answers.proofs.dump.write_more.Given as goal

abbrev pub invariant-loop-length : goal.invariant-loop-length
invariant-loop-length l =
    puts (more_lengths (drop l.length-index l.lengths)) (text (Some l.at) l.out) ≡ puts (more_lengths l.lengths) (text (Some l.initial.at) l.initial.out)
