-- "A sound state", on the machine a reader believes: its memory, whether it runs, its next place and its variables.
use Rattle.std.specs.Prelude.{ℕ, zero, suc, Bool, true, not, ◌&&◌, ◌||◌, List, [], ◌∷◌, length, ltb, leb, eqb}
use Rattle.std.proofs.Math.Option.{Option, none, some}
use Rattle.value.specs.Value.{Value, is_bad_char}
use Rattle.value.specs.Tags.{holds}
use Rattle.memory.specs.Memory.{Back, Frame, Memory, frame_at, live_count, live_bytes}

-- "ids rise up the stack and lie below the counter": each id is below the next, and the last below the counter
unfoldable pub rising : List Frame → (counter : ℕ) → Bool
rising [] c = true
rising (f ∷ []) c = ltb f.id c
rising (f ∷ g ∷ fs) c = ltb f.id g.id && rising (g ∷ fs) c

unfoldable pub good_var : Option ℕ → Bool
good_var none = true
good_var (some x) = ltb x 256

-- "return variables below 256, next and return places at most 4,096"
unfoldable pub good_back : Back → Bool
good_back b = good_var b.var && leb b.place 4096

-- of every frame, the root's too
unfoldable pub good_backs : List Frame → Bool
good_backs [] = true
good_backs (f ∷ fs) = good_back f.back && good_backs fs

-- "stored Chars scalar"
unfoldable pub good_value : Option Value → Bool
good_value none = true
good_value (some v) = not (is_bad_char v)

-- of the first n variables
unfoldable pub good_vars : (ℕ → Option Value) → (n : ℕ) → Bool
good_vars vs zero = true
good_vars vs (suc n) = good_value (vs n) && good_vars vs n

-- what is asked of the memory; its allocations lie end to end because each frame has a list of them
unfoldable pub sound_memory : Memory → Bool
sound_memory m =
    -- "Depth 1 to 64; frame 0 has id 0"
    (leb 1 (length m.frames) && leb (length m.frames) 64)
    && (eqb (frame_at m.frames 0).id 0
    -- "ids rise up the stack and lie below the counter, itself at most 4,294,967,295"
    && (rising m.frames m.counter
    && (leb m.counter 4294967295
    -- "allocations number at most 512, total at most 32,768"
    && (leb (live_count m.frames) 512
    && (leb (live_bytes m.frames) 32768
    -- "pointers at most 4,096; return variables below 256, .. return places at most 4,096"
    && (leb (length m.pointers) 4096
    && good_backs m.frames))))))

unfoldable pub sound_machine : Memory → (running : Bool) → (place : ℕ) → (variables : ℕ → Option Value) → Bool
sound_machine m running place vs =
    sound_memory m
    -- "next .. places at most 4,096; stored Chars scalar; idle only at depth 1"
    && (leb place 4096
    && (good_vars vs 256
    && (running || eqb (length m.frames) 1)))

-- what a value's type says: its bits are its kind's; of the first n variables
unfoldable pub in_kind : Option Value → Bool
in_kind none = true
in_kind (some v) = holds v.kind v.bits

unfoldable pub typed : (ℕ → Option Value) → (n : ℕ) → Bool
typed vs zero = true
typed vs (suc n) = in_kind (vs n) && typed vs n
