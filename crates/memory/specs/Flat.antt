-- The allocations of a stack end to end in one store: frame by frame upward, in the order made.
use Rattle.std.specs.Prelude.{ℕ, zero, suc, ◌+◌, List, [], ◌∷◌, ◌++◌, length}
use Rattle.memory.specs.Memory.{Frame}

-- where the k-th begins, of lists one after another
unfoldable pub start_of : List (List ℕ) → ℕ → ℕ
start_of ls zero = 0
start_of [] (suc k) = 0
start_of (l ∷ ls) (suc k) = length l + start_of ls k

-- all allocations that live
unfoldable pub all_of : List Frame → List (List ℕ)
all_of [] = []
all_of (f ∷ fs) = f.allocations ++ all_of fs

-- how many of them lie in the frames below the i-th
unfoldable pub first_of : List Frame → ℕ → ℕ
first_of fs zero = 0
first_of [] (suc i) = 0
first_of (f ∷ fs) (suc i) = length f.allocations + first_of fs i
