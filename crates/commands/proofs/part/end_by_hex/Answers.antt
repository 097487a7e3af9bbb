-- `part::end_by_hex` meets its contract: after a word of HEX there is a place.
use mathlib.Core.Path.{◌∙◌, sym}
use borrow.Author.Rules.{rules}
use Rattle.commands.proofs.Reading.{hex_there}
use Rattle.commands.proofs.part.end_by_hex.Goals as goal

pub overflow_add-k : goal.overflow_add-k
overflow_add-k c = record { fits = hex_there _ _ (search rules) _ _ (sym c.hex_at.ensures.0 ∙ c.in-Ok.is) }
