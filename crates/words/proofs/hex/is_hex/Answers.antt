-- `hex::is_hex` meets its contract, by the tests of the length.
use Rattle.std.proofs.Common.{length, ◌%◌, rules, tests, arith, ◌∙◌}
use borrow.Author.Tests.{ne_eqb}
use Rattle.std.specs.Char.{is_ascii_hexdigit}
use Rattle.std.proofs.lemmas.Iterator.{YieldsList-from_slice}
use Rattle.std.proofs.lemmas.Iterator.Search.{all_from_yields_List}
use Rattle.words.proofs.HexDigits.{dash_alone, no_digit, odd_digits, even-digits, all_hex-list}
use Rattle.words.proofs.hex.is_hex.Goals as goal

pub returns-in-empty : goal.returns-in-empty
returns-in-empty c = no_digit c.args.word.now (omega arith)

pub returns-in-len1 : goal.returns-in-len1
returns-in-len1 c = dash_alone c.args.word.now (omega arith)

pub returns-then-word-eq0 : goal.returns-then-word-eq0
returns-then-word-eq0 c =
    let w = c.args.word.now in
    all_from_yields_List is_ascii_hexdigit _ _ c.all.result c.all.ensures.ran (YieldsList-from_slice w cc) (λ x b q k. search (rules, tests))
    ∙ all_hex-list w ∙ even-digits w (λ e. omega arith) (λ e. omega arith) c.if-word-eq0.true

pub returns-else-word-eq0 : goal.returns-else-word-eq0
returns-else-word-eq0 c =
    let w = c.args.word.now in
    ne_eqb (length w % 2) 0 c.if-word-eq0.false ∙ odd_digits w (λ e. omega arith) c.if-word-eq0.false
