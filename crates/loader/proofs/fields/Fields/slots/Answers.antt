-- `slots` meets its contract: the closure ends where its field ends.
use Rattle.std.proofs.Common.{rules, ◌∙◌}
use Rattle.image.specs.Image.{slot}
use Rattle.image.specs.Answer.{shape}
use Rattle.image.proofs.Shapes.{same-list}
use Rattle.loader.specs.Counts.{counts_of}
use Rattle.loader.proofs.fields.Fields.slots.Goals as goal

pub returns : goal.returns
returns c =
    let s = c.args.self.image.now in
    let n = counts_of c.args.self.counts in
    c.list.ensures (λ at. shape (slot s n at)) (λ at r h. search rules) ∙ same-list (slot s n) s 16 c.args.at
