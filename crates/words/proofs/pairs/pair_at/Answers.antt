-- `pairs::pair_at` meets its contract, by what its two words say.
use Rattle.std.proofs.Common.{◌+◌, [], get_or, arith, sym, ◌∙◌}
use Rattle.words.specs.declared.PairError.TheVariants.{Kind, Bits}
use Rattle.words.specs.Words.{words}
use Rattle.words.proofs.Reading.{some_of, none_of, err_is, pair_value, pair_no_bits, pair_no_kind, kind_there, words-bound}
use Rattle.words.proofs.pairs.pair_at.Goals as goal

pub returns-in_err-tag : goal.returns-in_err-tag
returns-in_err-tag c =
    let a = c.args in
    let n = none_of c.kind_at.result Kind (sym c.ok_or.ensures.value ∙ c.in_err-tag.was) in
    err_is c.from_residual.result c.from_residual.ensures n.1
    ∙ pair_no_kind (get_or (words a.line.now) a.k []) (get_or (words a.line.now) (a.k + 1) []) (sym c.kind_at.ensures ∙ n.0)

pub overflow_add-k : goal.overflow_add-k
overflow_add-k c =
    let a = c.args in
    let s = some_of c.kind_at.result Kind (sym c.ok_or.ensures.value ∙ c.in_ok-tag.was) in
    omega (arith, kind_there (words a.line.now) a.k c.in_ok-tag.tag (sym c.kind_at.ensures ∙ s), words-bound a.line.now)

pub returns-in_err-bits : goal.returns-in_err-bits
returns-in_err-bits c =
    let a = c.args in
    let s = some_of c.kind_at.result Kind (sym c.ok_or.ensures.value ∙ c.in_ok-tag.was) in
    let n = none_of c.bits_at.result Bits (sym c.ok_or-2.ensures.value ∙ c.in_err-bits.was) in
    err_is c.from_residual-in_err-bits.result c.from_residual-in_err-bits.ensures n.1
    ∙ pair_no_bits (get_or (words a.line.now) a.k []) (get_or (words a.line.now) (a.k + 1) []) c.in_ok-tag.tag (sym c.kind_at.ensures ∙ s) (sym c.bits_at.ensures ∙ n.0)

pub returns : goal.returns
returns c =
    let a = c.args in
    let s = some_of c.kind_at.result Kind (sym c.ok_or.ensures.value ∙ c.in_ok-tag.was) in
    let v = some_of c.bits_at.result Bits (sym c.ok_or-2.ensures.value ∙ c.in_ok-bits.was) in
    pair_value (get_or (words a.line.now) a.k []) (get_or (words a.line.now) (a.k + 1) []) c.in_ok-tag.tag c.in_ok-bits.bits (sym c.kind_at.ensures ∙ s) (sym c.bits_at.ensures ∙ v)
