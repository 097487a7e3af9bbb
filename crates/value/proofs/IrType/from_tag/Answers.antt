-- `from_tag`: a number that is none of a type's tags names no type.
use borrow.Author.Rules.{rules}
use Rattle.value.proofs.Tags.{no_type}
use Rattle.value.proofs.IrType.from_tag.Goals as goal

pub returns-in_default : goal.returns-in_default
returns-in_default c = no_type c.args.number (search rules)
