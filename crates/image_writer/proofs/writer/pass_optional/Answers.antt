-- `pass_optional` meets its contract: by its mark.
use Rattle.image_writer.proofs.Keeps.{absent_passed, present_passed}
use Rattle.image_writer.proofs.writer.pass_optional.Goals as goal

pub returns-then-mark-eq0 : goal.returns-then-mark-eq0
returns-then-mark-eq0 g c past h = absent_passed past c.pass_number-mark.ensures.passed c.pass_number-mark.ensures.number c.if-mark-eq0.true

pub returns : goal.returns
returns g c past h = present_passed past c.pass_number-mark.ensures.passed c.pass_number-mark.ensures.number c.if-mark-eq0.false (h _ _ _ _ c.part.ensures)
