-- `dump::none_set` meets its contract: `all` over the variables answers as the definition does.
use Prim.Native.Nat.{ℕ, ◌*◌}
use mathlib.Core.Path.{refl, ◌∙◌}
use lib.ListN.{get_or}
use lib.Dec.{eqb}
use Rattle.std.proofs.Common.{rules, tests}
use Rattle.std.proofs.lemmas.Iterator.{YieldsList-from_range}
use Rattle.std.proofs.lemmas.Iterator.Search.{all_from_yields_List}
use Rattle.by_hand.proofs.Showing.{all-unset}
use Rattle.by_hand.proofs.dump.none_set.Goals as goal

pub returns : goal.returns
returns c =
    all_from_yields_List (λ (i : ℕ). eqb (get_or c.args.vars.now (i * 2) 0) 0) _ _ c.all.result c.all.ensures.ran (YieldsList-from_range 0 256 256 refl refl) (λ x b q k. search (rules, tests))
    ∙ all-unset c.args.vars.now 256 0
