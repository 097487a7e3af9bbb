-- `operands` meets its contract: the closure ends where its field ends.
use Rattle.std.proofs.Common.{rules, arith}
use Rattle.image.specs.Image.{operand}
use Rattle.image.specs.Answer.{shape}
use Rattle.image.proofs.Shapes.{same-many}
use Rattle.loader.specs.Counts.{counts_of}
use Rattle.loader.proofs.fields.Fields.operands.Goals as goal

pub returns : goal.returns
returns c =
    let s = c.args.self.image.now in
    let n = counts_of c.args.self.counts in
    grind (arith, c.many.ensures (λ at. shape (operand s n at)) (λ at r h. search rules), same-many (operand s n) s c.args.count c.args.at)
