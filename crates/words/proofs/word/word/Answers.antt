-- `word::word` meets its contract: the words are the parts that `split` gives, and each stands where its span says.
use Rattle.std.proofs.Common.{rules, tests, eqb}
use Rattle.std.proofs.lemmas.Iterator.Consumers.{nth_from_yields_List}
use Rattle.std.proofs.lemmas.Iterator.Splits.{YieldsList-from_slice_split}
use Rattle.words.proofs.Parting.{word-chosen}
use Rattle.words.proofs.Spans.{word-stands}
use Rattle.words.proofs.word.word.Goals as goal

pub returns : goal.returns
returns c =
    let e = word-chosen c.args.line.now c.args.k c.nth.result c.unwrap_or_default.result (nth_from_yields_List c.nth.result c.nth.new.self c.args.k c.nth.ensures.ran (YieldsList-from_slice_split _ (λ b. eqb b 32) c.args.line.now c.split.ensures.rest c.split.ensures.done c.split.ensures.closure (λ x b q k. search (rules, tests)))) c.unwrap_or_default.ensures in
    record { value = e; stands = word-stands c.args.line.now c.args.k e }
