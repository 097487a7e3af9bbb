-- P1 to P11 hold: each part of the list was computed where its definitions are.
use mathlib.Core.Bool.{true}
use mathlib.Core.Path.{◌≡◌, refl}
use mathlib.Core.List.{List, [], ◌∷◌, ◌++◌}
use Rattle.value.specs.Cases.{Case, all_hold, value_cases}
use Rattle.value.proofs.Cases.{value_cases_hold}
use Rattle.value.proofs.Truth.{is_true, both_true, and_true}
use Rattle.image.specs.Cases.{p1-whole, p11, p11-holds}
use Rattle.memory.specs.Cases.{cases, cases_hold}
use Rattle.machine.specs.Cases.{papers, shown}
use Rattle.machine.specs.Believed.{believed}
use Rattle.machine.specs.Recalled.{recalled}
use Rattle.machine.specs.History.{among}
use Rattle.machine.specs.Sound.{all}
use Rattle.machine.proofs.Cases.{papers_hold, papers-told}
use Rattle.promise.specs.List.{one_to_eleven, each_there}

-- two lists that hold, one after the other
both_hold : (as' bs' : List Case) → all_hold as' ≡ true → all_hold bs' ≡ true → all_hold (as' ++ bs') ≡ true
unfolding all_hold
both_hold [] bs' a b = b
both_hold (c ∷ as') bs' a b = let x = both_true c.holds (all_hold as') a in and_true x.0 (both_hold as' bs' x.1 b)

pub one_to_eleven_lem : all_hold one_to_eleven ≡ true
unfolding all_hold
one_to_eleven_lem = and_true p1-whole
    (both_hold (shown believed papers) _ (is_true (all_hold (shown believed papers)) papers_hold)
    (both_hold (shown recalled papers) _ (is_true (all_hold (shown recalled papers)) papers-told)
    (both_hold value_cases _ (is_true (all_hold value_cases) value_cases_hold)
    (both_hold cases p11 (is_true (all_hold cases) cases_hold) p11-holds))))

pub each_there_lem : each_there ≡ true
unfolding all among papers value_cases
each_there_lem = refl
