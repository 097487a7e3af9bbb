-- P1 to P11: one list, each case by its number, with a single claim. P1's bytes load to their last and are written again; what they load as and the programs of P2 to P10 are
-- run over the believed machine and over the history; then the parts that the values, the memory and the numbers of an image decide by themselves.
use Rattle.std.specs.Prelude.{ℕ, List, [], ◌∷◌, ◌++◌, map, Bool}
use Rattle.value.specs.Cases.{Case, value_cases}
use Rattle.image.specs.Cases as Image
use Rattle.memory.specs.Cases as Memory
use Rattle.machine.specs.Cases.{papers, shown}
use Rattle.machine.specs.Believed.{believed}
use Rattle.machine.specs.Recalled.{recalled}
use Rattle.machine.specs.History.{among}
use Rattle.machine.specs.Sound.{all}

abbrev pub one_to_eleven : List Case
one_to_eleven = Image.p1_whole ∷ (shown believed papers ++ (shown recalled papers ++ (value_cases ++ (Memory.cases ++ Image.p11))))

-- none is left out
abbrev pub each_there : Bool
each_there = all (λ (n : ℕ). among n (map (λ (c : Case). c.number) one_to_eleven)) (1 ∷ 2 ∷ 3 ∷ 4 ∷ 5 ∷ 6 ∷ 7 ∷ 8 ∷ 9 ∷ 10 ∷ 11 ∷ [])
