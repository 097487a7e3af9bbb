-- `instructions` meets its contract: after i turns, what is left to read gives what the whole gives.
use Rattle.std.proofs.Common.{rules, arith, suc, ◌+◌, ◌-◌, ◌≡◌, refl, sym, Err}
use Rattle.image.specs.Image.{instruction}
use Rattle.loader.specs.Counts.{counts_of}
use Rattle.loader.proofs.Turn.{turn-first, turn-next, turn_stopped, turn_last, fills_many}
use Rattle.loader.proofs.fields.Fields.instructions.Goals as goal

pub loop-i-init : goal.loop-i-init
loop-i-init c = let a = c.args in turn-first (λ x. 0) (λ left. instruction a.self.image.now (counts_of a.self.counts)) a.start 0 a.count a.base a.table.now

pub returns-in_err-at : goal.returns-in_err-at
returns-in_err-at c =
    let a = c.args in
    let l = c.loop-i in
    let is : c.from_residual.result ≡ Err c.in_err-at.field-0.0 = search rules in
    let more : a.count - l.i ≡ suc (a.count - (l.i + 1)) = omega arith in
    rw is (fills_many (instruction a.self.image.now (counts_of a.self.counts)) a.count (turn_stopped (λ x. 0) (λ left. instruction a.self.image.now (counts_of a.self.counts)) a.start 0 a.count a.base a.table.now l.at 0 (a.count - (l.i + 1)) l.i l.table (rw more at l.invariant) (sym c.in_err-at.ensures)))

pub loop-i-preserved : goal.loop-i-preserved
loop-i-preserved c =
    let a = c.args in
    let l = c.loop-i in
    let more : a.count - l.i ≡ suc (a.count - (l.i + 1)) = omega arith in
    turn-next (λ x. 0) (λ left. instruction a.self.image.now (counts_of a.self.counts)) a.start 0 a.count a.base a.table.now l.at 0 (a.count - (l.i + 1)) l.i l.table (rw more at l.invariant) c.in_ok-at.at 0 (sym c.in_ok-at.ensures) (λ x e h. refl)

pub returns : goal.returns
returns c =
    let a = c.args in
    let l = c.loop-i in
    let none_left : a.count - l.i ≡ 0 = omega arith in
    fills_many (instruction a.self.image.now (counts_of a.self.counts)) a.count (turn_last (λ x. 0) (λ left. instruction a.self.image.now (counts_of a.self.counts)) a.start 0 a.count a.base a.table.now l.at 0 l.i l.table (rw none_left at l.invariant))
