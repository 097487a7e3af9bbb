-- A sound state. Each entry that takes a state asks this of it first, and else answers 10.
use Rattle.std.specs.Prelude.{ℕ, Bool, true, ◌&&◌, List, [], ◌∷◌, ltb}
use Rattle.memory.specs.Memory.{Memory, Frame}
use Rattle.memory.specs.Sound.{sound_machine, typed}
use Rattle.machine.specs.Machine.{Machine}

unfoldable pub all : {A : Type 0} → (A → Bool) → List A → Bool
all f [] = true
all f (x ∷ xs) = f x && all f xs

-- a byte is a number below 256
abbrev pub are_bytes : List ℕ → Bool
are_bytes bs = all (λ b. ltb b 256) bs

unfoldable pub bytes_in : List Frame → Bool
bytes_in fs = all (λ (f : Frame). all are_bytes f.allocations) fs

-- the list of a sound state; and what the types say: a value's bits are its kind's, and bytes are bytes
unfoldable pub sound : Machine Memory → Bool
sound s = sound_machine s.memory s.running s.place s.vars && (typed s.vars 256 && bytes_in s.memory.frames)
