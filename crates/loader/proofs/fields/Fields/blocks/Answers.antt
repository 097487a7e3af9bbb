-- `blocks` meets its contract: after i turns, what is left to read gives what the whole gives.
use Rattle.std.proofs.Common.{rules, arith, suc, ◌+◌, ◌-◌, ◌≡◌, refl, sym, Err, ◌∙◌}
use Rattle.value.specs.Refusal.{over_limit}
use Rattle.image.specs.Parse.{placed}
use Rattle.image.specs.Image.{instruction}
use Rattle.image.proofs.Shapes.{list-taken, list-refused, up_to_value}
use Rattle.loader.specs.Counts.{counts_of}
use Rattle.loader.proofs.Blocks.{blocked_first, blocked_next, blocked_stopped, blocked_last}
use Rattle.loader.proofs.fields.Fields.blocks.Goals as goal

pub loop-i-init : goal.loop-i-init
loop-i-init c = let a = c.args in (blocked_first a.self.image.now (counts_of a.self.counts) a.start a.self.counts.blocks a.labels.now a.places.now, omega arith)

pub returns-in_err-count : goal.returns-in_err-count
returns-in_err-count c =
    let a = c.args in
    let l = c.loop-i in
    let is : c.from_residual.result ≡ Err c.in_err-count.field-0.0 = search rules in
    let more : a.self.counts.blocks - l.i ≡ suc (a.self.counts.blocks - (l.i + 1)) = omega arith in
    rw is (blocked_stopped a.self.image.now (counts_of a.self.counts) a.start a.self.counts.blocks a.labels.now a.places.now l.end (a.self.counts.blocks - (l.i + 1)) l.total l.i l.labels l.places (rw more at l.invariant.0) refl (list-refused a.self.image.now (placed (instruction a.self.image.now (counts_of a.self.counts))) l.end (4096 - l.total) (sym c.in_err-count.ensures)))

pub instructions-requires : goal.instructions-requires
instructions-requires c =
    let l = c.loop-i in
    omega (arith, l.invariant.0.place-room, c.requires.1, up_to_value c.args.self.image.now (4096 - l.total) over_limit l.end (sym c.in_ok-count.ensures))

pub returns-in_err-end : goal.returns-in_err-end
returns-in_err-end c =
    let a = c.args in
    let l = c.loop-i in
    let is : c.from_residual-in_err-end.result ≡ Err c.in_err-end.field-0.0 = search rules in
    let more : a.self.counts.blocks - l.i ≡ suc (a.self.counts.blocks - (l.i + 1)) = omega arith in
    let stops = c.instructions.ensures.ends in
    rw is (blocked_stopped a.self.image.now (counts_of a.self.counts) a.start a.self.counts.blocks a.labels.now a.places.now l.end (a.self.counts.blocks - (l.i + 1)) l.total l.i l.labels l.places (rw more at l.invariant.0) refl (list-taken a.self.image.now (placed (instruction a.self.image.now (counts_of a.self.counts))) l.end (4096 - l.total) (sym c.in_ok-count.ensures) ∙ sym stops ∙ c.in_err-end.was))

pub overflow_add-total : goal.overflow_add-total
overflow_add-total c =
    let l = c.loop-i in
    omega (arith, up_to_value c.args.self.image.now (4096 - l.total) over_limit l.end (sym c.in_ok-count.ensures))

pub loop-i-preserved : goal.loop-i-preserved
loop-i-preserved c =
    let a = c.args in
    let l = c.loop-i in
    let more : a.self.counts.blocks - l.i ≡ suc (a.self.counts.blocks - (l.i + 1)) = omega arith in
    let fits = up_to_value a.self.image.now (4096 - l.total) over_limit l.end (sym c.in_ok-count.ensures) in (
      blocked_next a.self.image.now (counts_of a.self.counts) a.start a.self.counts.blocks a.labels.now a.places.now l.end (a.self.counts.blocks - (l.i + 1)) l.total l.i l.labels l.places (rw more at l.invariant.0) c.in_ok-count.count c.in_ok-count.next c.in_ok-end.end _ (sym c.in_ok-count.ensures) c.in_ok-end.ensures,
      omega (arith, fits),
    )

pub returns : goal.returns
returns c =
    let a = c.args in
    let l = c.loop-i in
    let none_left : a.self.counts.blocks - l.i ≡ 0 = omega arith in
    blocked_last a.self.image.now (counts_of a.self.counts) a.start a.labels.now a.places.now l.end l.total l.i l.labels l.places (rw none_left at l.invariant.0)
