-- The header's counts and a function's kind, as the code holds them and as the definition has them.
use Rattle.std.specs.Prelude.{ℕ, [], ◌∷◌, get_or}
use Rattle.image.specs.Program.{Item}
use Rattle.image.specs.Image.{Counts}
use Rattle.loader.specs.declared.Counts as Code

abbrev pub counts_of : Code.Counts → Counts
counts_of n = record { variables = n.variables; constants = n.constants; functions = n.functions; blocks = n.blocks }

abbrev pub held_counts : Counts → Code.Counts
held_counts n = record { variables = n.variables; constants = n.constants; functions = n.functions; blocks = n.blocks }

-- "kind (0 function, 1 constant item)"; only the private functions speak of this
unfoldable pub item_of : ℕ → Item
item_of kind = get_or (Item.function ∷ Item.constant_item ∷ []) kind Item.function
