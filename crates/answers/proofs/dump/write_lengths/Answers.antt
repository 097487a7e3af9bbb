-- `dump::write_lengths` meets its contract: the first length, and the others after it.
use Rattle.std.proofs.Common.{Some, drop, sym, ap, ◌∙◌}
use Rattle.std.proofs.lemmas.List.{take_rest}
use Rattle.words.specs.Text.{text, puts}
use Rattle.words.proofs.Whole.{nones_stay}
use Rattle.answers.specs.Lines.{Pieces}
use Rattle.answers.specs.Dump.{more_lengths}
use Rattle.answers.proofs.Parts.{no_lengths, some_lengths}
use Rattle.answers.proofs.dump.write_lengths.Goals as goal

pub returns-in-empty : goal.returns-in-empty
returns-in-empty c =
    let a = c.args in
    c.write_bytes.ensures ∙ ap (λ (ps : Pieces). puts ps (text (Some a.at) a.out.now)) (no_lengths a.lengths.now c.in-empty.len_below)

pub returns-in_err-at-in-len1-up : goal.returns-in_err-at-in-len1-up
returns-in_err-at-in-len1-up c =
    let a = c.args in
    rw c.from_residual.ensures
    (sym (nones_stay (more_lengths (drop 1 a.lengths.now)) _) ∙ ap (puts (more_lengths (drop 1 a.lengths.now))) c.in_err-at-in-len1-up.ensures
    ∙ ap (λ (ps : Pieces). puts ps (text (Some a.at) a.out.now)) (some_lengths a.lengths.now c.in-len1-up.len_at_least))

pub returns-in_ok-at-in-len1-up : goal.returns-in_ok-at-in-len1-up
returns-in_ok-at-in-len1-up c =
    let a = c.args in
    rw take_rest at c.write_more.ensures ∙ ap (puts (more_lengths (drop 1 a.lengths.now))) c.in_ok-at-in-len1-up.ensures
    ∙ ap (λ (ps : Pieces). puts ps (text (Some a.at) a.out.now)) (some_lengths a.lengths.now c.in-len1-up.len_at_least)
