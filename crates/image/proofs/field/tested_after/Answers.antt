-- `tested_after` meets its contract: the number that is read passes the definition's test where it passes the code's.
use Rattle.std.proofs.Common.{rules, ◌≡◌, sym, ap, ◌∙◌, Bool, true, false, Err}
use Rattle.value.specs.Answer.{pick}
use Rattle.image.specs.Parse.{took, refused}
use Rattle.image.specs.Answer.{got}
use Rattle.image.proofs.Laws.{such-taken, such-refused}
use Rattle.image.proofs.field.tested_after.Goals as goal

pub returns-in_err-v : goal.returns-in_err-v
returns-in_err-v g c passes h =
    let a = c.args in
    let is : c.from_residual.result ≡ Err c.in_err-v.field-0.0 = search rules in
    ap got is ∙ sym (such-refused a.image.now passes a.why a.at (sym (c.in_err-v.ensures)))

pub returns-then-test : goal.returns-then-test
returns-then-test g c passes h =
    let a = c.args in
    let v = c.in_ok-v in
    sym (such-taken a.image.now passes a.why a.at (sym (v.ensures)) ∙ ap (λ (b : Bool). pick b (took v.v v.next) (refused a.why a.at)) (sym (h v.v true (search rules) (c.if-test.ensures))))

pub returns : goal.returns
returns g c passes h =
    let a = c.args in
    let v = c.in_ok-v in
    sym (such-taken a.image.now passes a.why a.at (sym (v.ensures)) ∙ ap (λ (b : Bool). pick b (took v.v v.next) (refused a.why a.at)) (sym (h v.v false (search rules) (c.if-test.ensures))))
