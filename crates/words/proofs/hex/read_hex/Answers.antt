-- `hex::read_hex` meets its contract, by its two tests.
use Rattle.std.proofs.Common.{ℕ, ◌/◌, List, ◌++◌, length, drop, sym, ap, ◌∙◌}
use Rattle.words.proofs.HexDigits.{not-hex, too_long, unpaired}
use Rattle.words.proofs.hex.read_hex.Goals as goal

pub returns-then-not-is_hex : goal.returns-then-not-is_hex
returns-then-not-is_hex c =
    let a = c.args in
    not-hex a.word.now a.out.now (sym c.is_hex.ensures ∙ c.if-not-is_hex.true)

pub returns-then-out-count : goal.returns-then-out-count
returns-then-out-count c =
    let a = c.args in
    too_long a.word.now a.out.now (sym c.is_hex.ensures ∙ c.if-not-is_hex.false) c.if-out-count.true

pub returns : goal.returns
returns c =
    let a = c.args in
    unpaired a.word.now a.out.now (sym c.is_hex.ensures ∙ c.if-not-is_hex.false) c.if-out-count.false
    (ap (λ (l : List ℕ). l ++ drop (length a.word.now / 2) a.out.now) c.decode.ensures)
