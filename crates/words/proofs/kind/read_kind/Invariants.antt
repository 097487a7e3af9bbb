-- `kind::read_kind` meets its contract: the names that are left answer for all.
use mathlib.Core.Path.{◌≡◌}
use lib.ListN.{drop}
use Rattle.words.specs.Kinds.{names, kind_from, kind_read}
use Rattle.words.proofs.kind.read_kind.Given as goal

abbrev pub invariant-loop-tag : goal.invariant-loop-tag
invariant-loop-tag l = kind_from l.word l.tag (drop l.tag names) ≡ kind_read l.word
