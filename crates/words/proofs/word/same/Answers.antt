-- `word::same` meets its contract.
use Rattle.std.proofs.Common.{◌∙◌}
use Rattle.words.proofs.Parting.{pointwise-same}
use Rattle.words.proofs.word.same.Goals as goal

pub returns : goal.returns
returns c = c.eq.ensures ∙ pointwise-same c.args.a.now c.args.b.now
