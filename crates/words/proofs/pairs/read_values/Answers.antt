-- `pairs::read_values` meets its contract: what is still to be read, stored after what is, is what the whole line says.
use Rattle.std.proofs.Common.{◌+◌, min, [], Err, length, get_or, arith, sym, ap, ◌∙◌}
use Rattle.words.specs.Words.{words}
use Rattle.words.proofs.Reading.{kind-bad, bits-bad, all_read, more_left, no_room, pair_there, value_no_bad, bits_no_bad, words-bound}
use Rattle.words.proofs.pairs.read_values.Goals as goal

pub returns-in-Err-Kind : goal.returns-in-Err-Kind
returns-in-Err-Kind c =
    let a = c.args in
    let l = c.loop-i in
    kind-bad (min (length a.tags.now) (length a.bits.now)) l.i l.n (words a.line.now) l.invariant (omega arith) (sym (c.in-Err-Kind.is ∙ ap Err c.in-Err-Kind.field-0-is) ∙ c.pair_at.ensures)

pub overflow_add-result : goal.overflow_add-result
overflow_add-result c =
    let ws = words c.args.line.now in
    let l = c.loop-i in
    omega (arith, pair_there ws l.n (get_or ws (l.n + 1) []) (bits_no_bad (c.in-Err-Bits.is ∙ ap Err c.in-Err-Bits.field-0-is)) c.pair_at.ensures, words-bound c.args.line.now)

pub returns-in-Err-Bits : goal.returns-in-Err-Bits
returns-in-Err-Bits c =
    let a = c.args in
    let l = c.loop-i in
    bits-bad (min (length a.tags.now) (length a.bits.now)) l.i l.n (words a.line.now) l.invariant (omega arith) (sym (c.in-Err-Bits.is ∙ ap Err c.in-Err-Bits.field-0-is) ∙ c.pair_at.ensures)

pub overflow_add-n : goal.overflow_add-n
overflow_add-n c =
    let ws = words c.args.line.now in
    let l = c.loop-i in
    omega (arith, pair_there ws l.n (get_or ws (l.n + 1) []) (value_no_bad c.in-Ok.is) c.pair_at.ensures, words-bound c.args.line.now)

pub returns-then-total-n : goal.returns-then-total-n
returns-then-total-n c =
    let a = c.args in
    let l = c.loop-i in
    all_read (min (length a.tags.now) (length a.bits.now)) l.i l.n (words a.line.now) l.invariant (omega arith) (sym c.in-Ok.is ∙ c.pair_at.ensures) (omega arith)

pub loop-i-preserved : goal.loop-i-preserved
loop-i-preserved c =
    let a = c.args in
    let l = c.loop-i in
    more_left (min (length a.tags.now) (length a.bits.now)) l.i l.n (words a.line.now) l.invariant (omega arith) (sym c.in-Ok.is ∙ c.pair_at.ensures) (omega arith)

pub returns : goal.returns
returns c =
    let a = c.args in
    let l = c.loop-i in
    no_room (min (length a.tags.now) (length a.bits.now)) l.i l.n (words a.line.now) l.invariant (omega arith)
