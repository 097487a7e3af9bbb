-- `text::write_bytes` meets its contract: the bytes are stored where `place` gives them room.
use Rattle.std.proofs.Common.{length, refl, sym, ◌∙◌}
use Rattle.words.proofs.Pieces.{written, unwritten}
use Rattle.words.proofs.text.write_bytes.Goals as goal

pub returns-in_err-to : goal.returns-in_err-to
returns-in_err-to c =
    let a = c.args in
    rw c.from_residual.ensures (unwritten a.bytes.now (length a.bytes.now) a.at a.out.now refl (sym c.in_err-to.was ∙ c.place.ensures))

pub returns : goal.returns
returns c =
    let a = c.args in
    written a.bytes.now (length a.bytes.now) a.at a.out.now refl c.in_ok-to.to _ (sym c.in_ok-to.was ∙ c.place.ensures) c.copy_from_slice.ensures.after
