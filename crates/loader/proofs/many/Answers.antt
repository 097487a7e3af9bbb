-- `many` meets its contract: after i turns the place is that after i fields.
use Rattle.std.proofs.Common.{rules, ◌≡◌, ◌∙◌, Err}
use Rattle.image.proofs.Shapes.{many_begun, many_went, many_stopped}
use Rattle.loader.proofs.many.Goals as goal

pub loop-init : goal.loop-init
loop-init g c ends h = many_begun ends c.args.start

pub returns-in_err-at : goal.returns-in_err-at
returns-in_err-at g c ends h =
    let l = c.loop in
    let is : c.from_residual.result ≡ Err c.in_err-at.field-0.0 = search rules in
    is ∙ many_stopped ends c.args.start l.counter (l.invariant ends h) c.args.count (search rules) (h l.at (Err c.in_err-at.field-0.0) c.in_err-at.ensures)

pub loop-preserved : goal.loop-preserved
loop-preserved g c ends h =
    let l = c.loop in
    many_went ends c.args.start l.counter (l.invariant ends h) (h l.at _ c.in_ok-at.ensures)

pub returns : goal.returns
returns g c ends h = search rules
