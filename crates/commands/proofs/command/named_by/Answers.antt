-- `command::named_by` meets its contract: the first of the list with this name.
use Rattle.std.proofs.Common.{rules, tests, sym, ◌∙◌}
use Rattle.std.specs.Prelude.{bytes_eq}
use Rattle.std.proofs.lemmas.Iterator.{YieldsList-from_slice}
use Rattle.std.proofs.lemmas.Iterator.Adapters.{option_map_id}
use Rattle.std.proofs.lemmas.Iterator.Consumers.{YieldsList-from_copied}
use Rattle.std.proofs.lemmas.Iterator.Search.{find_from_yields_List}
use Rattle.commands.proofs.command.named_by.Goals as goal

pub returns : goal.returns
returns g c =
    sym (option_map_id c.find.result)
    ∙ find_from_yields_List (λ x. bytes_eq (g.T.Named.name_of x) c.args.word.now) _ _ c.find.result c.find.ensures.ran (YieldsList-from_copied (YieldsList-from_slice c.args.all.now cc)) (λ x b q k. search (rules, tests))
