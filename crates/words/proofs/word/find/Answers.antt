-- `word::find` meets its contract: the byte stands where `position` finds it.
use Rattle.std.proofs.Common.{ℕ, ◌+◌, rules, tests, eqb, ap, ◌∙◌}
use Rattle.std.proofs.lemmas.Iterator.{YieldsList-from_slice}
use Rattle.std.proofs.lemmas.Iterator.Search.{position_from_yields_List}
use Rattle.words.proofs.Parting.{until-found, rest-is}
use Rattle.words.proofs.word.find.Goals as goal

pub returns : goal.returns
returns c =
    let rest = c.unwrap_or_default-rest.result.now in
    let p = position_from_yields_List (λ x. eqb x c.args.b) _ _ c.position.result c.position.ensures.ran (YieldsList-from_slice rest cc) (λ x b q k. search (rules, tests)) in
    ap (λ (k : ℕ). c.args.from + k) (c.unwrap_or.ensures ∙ until-found c.args.b c.args.from c.args.s.now rest c.position.result (rest-is c.args.s.now c.args.from c.get.result _ c.get.ensures.lookup.0 c.unwrap_or_default-rest.ensures) p)
