-- `number::count_digits` meets its contract: only one count of digits is enough and needed.
use Rattle.std.proofs.Common.{rules, tests}
use Rattle.words.proofs.Numbers.{places-counted}
use Rattle.words.proofs.number.count_digits.Goals as goal

pub returns : goal.returns
returns c =
    let e = c.checked_ilog10.ensures in
    places-counted c.args.n c.ranges.n.fits c.checked_ilog10.result c.map_or.result e.none e.power_le e.next_power_gt c.map_or.ensures (λ k q. search (rules, tests))
