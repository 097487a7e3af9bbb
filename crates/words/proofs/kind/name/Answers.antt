-- `kind::name` meets its contract: the table is that of the names.
use Rattle.std.proofs.Common.{List, ℕ}
use lib.ListN.{get_or-map}
use denote.Ref.{Bor}
use Rattle.words.specs.Kinds.{name, names, name_of}
use Rattle.words.proofs.Names.{no_name}
use Rattle.words.proofs.kind.name.Goals as goal

pub returns-then-tag-le-POINTER_TAG : goal.returns-then-tag-le-POINTER_TAG
unfolding name_of names name
returns-then-tag-le-POINTER_TAG c = rw (← get_or-map (λ (x : Bor (List ℕ)). x.now))

pub returns-else-tag-le-POINTER_TAG : goal.returns-else-tag-le-POINTER_TAG
returns-else-tag-le-POINTER_TAG c = no_name c.args.tag c.if-tag-le-POINTER_TAG.false
