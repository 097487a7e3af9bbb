-- `parameters` meets its contract: the closure ends where its field ends.
use Rattle.std.proofs.Common.{rules, ℕ, ap, ◌∙◌}
use Rattle.image.specs.Fields.{list_of}
use Rattle.image.specs.Image.{var}
use Rattle.image.specs.Answer.{shape}
use Rattle.image.proofs.Shapes.{same-list}
use Rattle.loader.specs.Counts.{counts_of}
use Rattle.loader.proofs.fields.Fields.parameters.Goals as goal

pub returns : goal.returns
returns c =
    let s = c.args.self.image.now in
    let n = counts_of c.args.self.counts in
    c.list.ensures (λ at. shape (var s n at)) (λ at r h. search rules) ∙ same-list (var s n) s _ c.args.at ∙ ap (λ (k : ℕ). shape (list_of s k (var s n) c.args.at)) c.most_parameters.ensures
