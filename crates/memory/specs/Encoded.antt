-- The tables' own rules of encoding, from the layout in the head comment of src/lib.rt: that the words say a state at all.
-- What a state must be to be sound is in Sound.antt, asked of what the tables show.
use Rattle.std.specs.Prelude.{ℕ, ◌+◌, ◌*◌, ◌≡◌, Bool, ◌&&◌, ◌||◌, get_or, length, leb, eqb}
use Rattle.value.specs.Tags.{kind_at, held}
use Rattle.memory.specs.Sound.{sound_machine}
use Rattle.memory.specs.Tables.{Tables, State, every, frame_word, bound, live, pointer_at, sound_of}
use Rattle.memory.specs.View.{view, running_in, variables_in}
use Rattle.memory.specs.declared.PointerRecord.{PointerRecord}

-- each table has exactly its length: 32,768 bytes, 65 records of 4 words, 513 words, 4,096 records of 5, 256 records of 2
unfoldable pub exact_lengths : State → Bool
exact_lengths s =
    eqb (length s.memory.store) 32768
    && (eqb (length s.memory.frames) (65 * 4)
    && (eqb (length s.memory.bounds) 513
    && (eqb (length s.memory.pointers) (4096 * 5)
    && eqb (length s.variables) (256 * 2))))

-- the number of allocations below is 0 in frame 0's record, and in no record less than in the one below it, up to the record above the top
unfoldable pub firsts_encoded : Tables → Bool
firsts_encoded t =
    eqb (frame_word t.frames 0 3) 0
    && every t.registers.depth (λ i. leb (frame_word t.frames i 3) (frame_word t.frames (i + 1) 3))

-- allocation 0 starts at 0, none starts before the one made before it, and the live bytes lie in the store: past its end the view has none to show
unfoldable pub bounds_encoded : Tables → Bool
bounds_encoded t =
    eqb (bound t 0) 0
    && (every (live t) (λ k. leb (bound t k) (bound t (k + 1)))
    && leb (bound t (live t)) (length t.store))

-- a kind is 0, local, or 1, constant; a constant's id, allocation and offset are 0
unfoldable pub pointer_encoded : PointerRecord → Bool
pointer_encoded q = leb q.kind 1 && (eqb q.kind 0 || (eqb q.id 0 && (eqb q.allocation 0 && eqb q.offset 0)))

-- a tag is 0, for unset, with bits 0, or that of a kind, with bits of that kind
unfoldable pub variable_encoded : (tag bits : ℕ) → Bool
variable_encoded t b = (eqb t 0 && eqb b 0) || held (kind_at t) b

-- What lies above the depth and the counts is free. A depth over 64, over 512 allocations and over 4,096 pointers reach past the ends of their
-- tables; the view shows how many there are all the same, and the list refuses them.
unfoldable pub well_encoded : State → Bool
well_encoded s =
    exact_lengths s
    -- running is 0 or 1
    && (leb s.memory.registers.running 1
    && (firsts_encoded s.memory
    && (bounds_encoded s.memory
    -- of each pointer given out, and of all variables
    && (every s.memory.registers.pointers (λ p. pointer_encoded (pointer_at s.memory.pointers p))
    && every 256 (λ x. variable_encoded (get_or s.variables (x * 2) 0) (get_or s.variables (x * 2 + 1) 0))))))

-- tables are sound exactly when they are well encoded and what they show is on the list of a sound state
abbrev pub SoundExactlyWhen : Type 0
SoundExactlyWhen = (s : State)
    → sound_of s
    ≡ (well_encoded s
    && sound_machine (view s.memory) (running_in s.memory.registers.running) s.memory.registers.next (variables_in s.variables))
