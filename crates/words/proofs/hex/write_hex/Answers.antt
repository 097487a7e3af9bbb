-- `hex::write_hex` meets its contract: the digits are stored where `place` gives them room, and `-` where there is no byte.
use Rattle.std.proofs.Common.{rules, ℕ, ◌*◌, List, Some, length, sym, ap, ◌∙◌}
use Rattle.words.specs.Text.{text, put}
use Rattle.words.specs.Hex.{hex_of}
use Rattle.words.proofs.Pieces.{written, unwritten}
use Rattle.words.proofs.HexDigits.{no_bytes, some_bytes, length-hex}
use Rattle.words.proofs.hex.write_hex.Goals as goal

pub returns-then-is_empty : goal.returns-then-is_empty
returns-then-is_empty c =
    let a = c.args in
    c.write_bytes.ensures ∙ ap (λ (l : List ℕ). put l (text (Some a.at) a.out.now)) (no_bytes a.bytes.now (search rules))

pub returns-in_err-to : goal.returns-in_err-to
returns-in_err-to c =
    let a = c.args in
    let bs = a.bytes.now in
    rw c.from_residual.ensures (unwritten (hex_of bs) (length bs * 2) a.at a.out.now (sym (length-hex bs (search rules))) (sym c.in_err-to.was ∙ c.place.ensures))

pub returns : goal.returns
returns c =
    let a = c.args in
    let bs = a.bytes.now in
    written (hex_of bs) (length bs * 2) a.at a.out.now (sym (length-hex bs (search rules))) c.in_ok-to.to _ (sym c.in_ok-to.was ∙ c.place.ensures) (c.encode.ensures ∙ some_bytes bs (search rules))
