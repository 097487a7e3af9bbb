-- Where the sequence has a live allocation: "end to end in the store from its start, frame by frame upward, in the order made".
use Rattle.std.specs.Prelude.{ℕ, ◌+◌, ◌≤◌, List, map, get_or, take}
use Rattle.memory.specs.Memory.{sum}
use Rattle.machine.specs.History.{History, Made, made_in, made_at}

-- the sizes of what was made in a frame, in order
abbrev pub sizes_in : History → (frame : ℕ) → List ℕ
sizes_in h f = map (λ (a : Made). a.size) (made_in h.made f)

-- a frame that has not ended stands at this index: as many stood when it began
abbrev pub index_of : History → (frame : ℕ) → ℕ
index_of h f = get_or h.below f 0

-- allocation j of frame f lies behind all of the frames that stand below f, and behind what was made in f before it
unfoldable pub place_of : History → (frame allocation : ℕ) → ℕ
place_of h f j = sum (map (λ (g : ℕ). sum (sizes_in h g)) (take (index_of h f) h.standing)) + sum (take j (sizes_in h f))

-- one ends before the other begins
abbrev pub Before : History → (f j f' j' : ℕ) → Type 0
Before h f j f' j' = place_of h f j + (made_at h.made f j).size ≤ place_of h f' j'
