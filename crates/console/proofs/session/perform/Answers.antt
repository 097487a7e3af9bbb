-- `session::perform` meets its contract: the image, or the machine.
use Rattle.console.proofs.Turning.{is-image, is-machine}
use Rattle.console.proofs.session.perform.Goals as goal

pub returns-in-Image : goal.returns-in-Image
returns-in-Image c = is-image _ _ _ _ _ _ _ _ c.in-Image.is c.take_image-taken.ensures c.write_image_taken-text.ensures c.tell.ensures c.turn.ensures

pub returns : goal.returns
returns c = is-machine _ _ _ _ _ _ _ _ c.in_default.not-Image c.within-n.ensures.value c.perform_on_machine-told.ensures c.turn-2.ensures
