-- `constants` meets its contract: after i turns, what is left to read gives what the whole gives.
use Rattle.std.proofs.Common.{rules, arith, suc, ◌+◌, ◌-◌, ◌≡◌, sym, length, Err, ◌∙◌}
use native.Mathlib.Nat.{zero-add}
use Rattle.value.specs.Refusal.{over_limit}
use Rattle.image.specs.Fields.{bytes}
use Rattle.image.specs.Image.{constants}
use Rattle.image.proofs.Shapes.{bytes-taken, bytes-refused, up_to_value}
use Rattle.loader.proofs.Turn.{turn-first, turn-next, turn_stopped, turn_last, bytes_used}
use Rattle.loader.proofs.fields.Fields.constants.Goals as goal

pub loop-i-init : goal.loop-i-init
loop-i-init c = let a = c.args in turn-first (λ x. length x.item) (bytes a.self.image.now) a.start 8192 a.self.counts.constants 0 a.table.now

pub returns-in_err-size : goal.returns-in_err-size
unfolding constants
returns-in_err-size c =
    let a = c.args in
    let l = c.loop-i in
    let is : c.from_residual.result ≡ Err c.in_err-size.field-0.0 = search rules in
    let more : a.self.counts.constants - l.i ≡ suc (a.self.counts.constants - (l.i + 1)) = omega arith in
    rw is (rw (zero-add l.i) at (turn_stopped (λ x. length x.item) (bytes a.self.image.now) a.start 8192 a.self.counts.constants 0 a.table.now l.at l.left (a.self.counts.constants - (l.i + 1)) l.i l.table (rw more at l.invariant) (bytes-refused a.self.image.now l.left l.at (sym c.in_err-size.ensures))))

pub returns-in_err-at : goal.returns-in_err-at
unfolding constants
returns-in_err-at c =
    let a = c.args in
    let l = c.loop-i in
    let is : c.from_residual-in_err-at.result ≡ Err c.in_err-at.field-0.0 = search rules in
    let more : a.self.counts.constants - l.i ≡ suc (a.self.counts.constants - (l.i + 1)) = omega arith in
    rw is (rw (zero-add l.i) at (turn_stopped (λ x. length x.item) (bytes a.self.image.now) a.start 8192 a.self.counts.constants 0 a.table.now l.at l.left (a.self.counts.constants - (l.i + 1)) l.i l.table (rw more at l.invariant) (bytes-taken a.self.image.now l.left l.at (sym c.in_ok-size.ensures) ∙ sym c.in_err-at.ensures)))

pub overflow_sub-left : goal.overflow_sub-left
overflow_sub-left c = up_to_value c.args.self.image.now c.loop-i.left over_limit c.loop-i.at (sym c.in_ok-size.ensures)

pub loop-i-preserved : goal.loop-i-preserved
loop-i-preserved c =
    let a = c.args in
    let l = c.loop-i in
    let more : a.self.counts.constants - l.i ≡ suc (a.self.counts.constants - (l.i + 1)) = omega arith in
    rw (zero-add l.i) at (turn-next (λ x. length x.item) (bytes a.self.image.now) a.start 8192 a.self.counts.constants 0 a.table.now l.at l.left (a.self.counts.constants - (l.i + 1)) l.i l.table (rw more at l.invariant) c.in_ok-at.at c.in_ok-size.size (bytes-taken a.self.image.now l.left l.at (sym c.in_ok-size.ensures) ∙ sym c.in_ok-at.ensures) (bytes_used a.self.image.now l.left l.at (sym c.in_ok-size.ensures)))

pub returns : goal.returns
unfolding constants
returns c =
    let a = c.args in
    let l = c.loop-i in
    let none_left : a.self.counts.constants - l.i ≡ 0 = omega arith in
    turn_last (λ x. length x.item) (bytes a.self.image.now) a.start 8192 a.self.counts.constants 0 a.table.now l.at l.left l.i l.table (rw none_left at l.invariant)
