-- `word::count_words` meets its contract: the words are the parts that `split` gives.
use Rattle.std.proofs.Common.{List, ℕ, length, rules, tests, eqb, sym, ap, ◌∙◌}
use Rattle.std.proofs.lemmas.Iterator.Consumers.{count_from_yields_List}
use Rattle.std.proofs.lemmas.Iterator.Splits.{YieldsList-from_slice_split}
use Rattle.words.proofs.Parting.{words-split}
use Rattle.words.proofs.word.count_words.Goals as goal

pub returns : goal.returns
returns c =
    count_from_yields_List c.split.result c.count.result c.count.ensures.ran (YieldsList-from_slice_split _ (λ b. eqb b 32) c.args.line.now c.split.ensures.rest c.split.ensures.done c.split.ensures.closure (λ x b q k. search (rules, tests)))
    ∙ ap (λ (ws : List (List ℕ)). length ws) (sym (words-split c.args.line.now))
