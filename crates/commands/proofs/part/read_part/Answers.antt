-- `part::read_part` meets its contract: after a word that is read there is a place.
use mathlib.Core.Path.{◌∙◌, sym, ap}
use borrow.Author.Rules.{rules}
use Rattle.std.specs.Prelude.{ok_or}
use Rattle.words.specs.declared.BadWord.{BadWord}
use Rattle.commands.proofs.Reading.{part_there}
use Rattle.commands.proofs.part.read_part.Goals as goal

pub overflow_add-result : goal.overflow_add-result
overflow_add-result c =
    let read = ap (λ o. ok_or {E = BadWord} o (record { 0 = c.args.s.next })) (sym c.part_at.ensures) ∙ sym c.ok_or.ensures.value ∙ c.in_ok-value.was in
    record { fits = part_there c.args.line.now c.args.s.next (search rules) c.in-Some.part c.args.depth c.args.s.value _ read }
