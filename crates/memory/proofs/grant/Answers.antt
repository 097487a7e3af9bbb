-- `memory::grant` meets its contract: the part that is filled by 0 is the zeroed one.
use native.Mathlib.Omega.{arith}
use Rattle.memory.proofs.Laws.{ready_of_lem, out-same}
use Rattle.memory.proofs.Lists.{filled_part}
use Rattle.memory.proofs.grant.Goals as goal

pub returns : goal.returns
returns c =
    let b = c.requires in
    let r = ready_of_lem _ _ _ _ _ _ b.0 in
    let s = r.store in
    out-same (filled_part c.args.store.now _ _ c.args.size (omega arith) (c.fill.ensures.after (λ y e. e))) c.put_pointer.ensures
