-- The memory of the evaluator, as the Rust has it: a stack of frames, each with its allocations, and all pointers given out.
-- Each function answers or refuses, with the document's number, by the first of its checks that fails.
use Rattle.std.specs.Prelude.{ℕ, ◌+◌, ◌-◌, ◌%◌, ◌^◌, Bool, false, ◌&&◌, List, [], ◌∷◌, ◌++◌, map, length, get_or, take, drop, set, replicate, ltb, leb, eqb}
use Rattle.std.proofs.Math.Option.{Option, none, some}
use Rattle.value.specs.Refusal.{not_given_out, through_constant, frame_gone, no_allocation, beyond_length, misaligned, offset_too_large, frames_full, ids_spent, allocations_full, bytes_full, pointers_full, no_constant}
use Rattle.memory.specs.Live.{Live, listed}
use Rattle.value.specs.Answer.{Answer, ok, refused, need, pick}

-- where a frame's Return goes on, and the variable that takes its value, or none: the Rust's `return_address` and `return_place`
pub record Back : Type 0 where
  pub place : ℕ
  pub var : Option ℕ

pub record Frame : Type 0 where
  pub id : ℕ
  pub back : Back
  pub allocations : List (List ℕ)

pub data Pointer : Type 0 where
  constant : ℕ → Pointer
  local : (index id allocation offset : ℕ) → Pointer

pub record Memory : Type 0 where
  pub counter : ℕ
  pub frames : List Frame
  pub pointers : List Pointer

-- the root's: return place 0 and no return variable
abbrev pub no_back : Back
no_back = record { place = 0; var = none }

-- what stands for a frame beyond the last; and the root of fresh memory
abbrev pub no_frame : Frame
no_frame = record { id = 0; back = no_back; allocations = [] }

unfoldable pub fresh : Memory
fresh = record { counter = 1; frames = no_frame ∷ []; pointers = [] }

abbrev pub frame_at : List Frame → ℕ → Frame
frame_at fs i = get_or fs i no_frame

abbrev pub pointer_at : Memory → ℕ → Pointer
pointer_at m p = get_or m.pointers p (constant 0)

abbrev pub top : {A : Type 0} → List A → ℕ
top s = length s - 1

abbrev pub with_pointer : Memory → Pointer → Memory
with_pointer m q = record { counter = m.counter; frames = m.frames; pointers = m.pointers ++ (q ∷ []) }

abbrev pub with_frames : Memory → List Frame → Memory
with_frames m fs = record { counter = m.counter; frames = fs; pointers = m.pointers }

abbrev pub with_allocations : Frame → List (List ℕ) → Frame
with_allocations f bss = record { id = f.id; back = f.back; allocations = bss }

unfoldable pub sum : List ℕ → ℕ
sum [] = 0
sum (x ∷ xs) = x + sum xs

-- how many allocations live, and how many bytes
unfoldable pub live_count : List Frame → ℕ
live_count fs = sum (map (λ (f : Frame). length f.allocations) fs)

unfoldable pub live_bytes : List Frame → ℕ
live_bytes fs = sum (map (λ (f : Frame). sum (map length f.allocations)) fs)

-- Allocating, in the top frame, zero-filled. The number given is that of pointers before.
abbrev pub allocated : Memory → ℕ → Memory
allocated m n =
    let i = top m.frames in
    let f = frame_at m.frames i in
    with_pointer (with_frames m (set m.frames i (with_allocations f (f.allocations ++ (replicate n 0 ∷ [])))))
    (local i f.id (length f.allocations) 0)

unfoldable pub allocate : Memory → ℕ → Answer Memory
allocate m n =
    need (ltb (live_count m.frames) 512) allocations_full
    (need (leb (live_bytes m.frames + n) 32768) bytes_full
    (need (ltb (length m.pointers) 4096) pointers_full
    (ok (allocated m n))))

unfoldable pub constant_address : Memory → ℕ → Answer Memory
constant_address m k = need (ltb (length m.pointers) 4096) pointers_full (ok (with_pointer m (constant k)))

-- the frame of a local pointer stands: one is at its index, and has its id
abbrev pub stands : List Frame → (index id : ℕ) → Bool
stands fs i f = ltb i (length fs) && eqb (frame_at fs i).id f

abbrev pub bytes_at : List Frame → (index allocation : ℕ) → List ℕ
bytes_at fs i j = get_or (frame_at fs i).allocations j []

-- size 0 divides only 0: `o % 0` is o
abbrev pub divides : ℕ → ℕ → Bool
divides n o = eqb (o % n) 0

-- the checks of a local access, 27 to 30
unfoldable pub access : {A : Type 0} → List Frame → (index id allocation offset size : ℕ) → Answer A → Answer A
access fs i f j o n a =
    need (stands fs i f) frame_gone
    (need (ltb j (length (frame_at fs i).allocations)) no_allocation
    (need (leb (o + n) (length (bytes_at fs i j))) beyond_length
    (need (divides n o) misaligned a)))

-- `bs` in place of the bytes from o on
abbrev pub overwrite : List ℕ → ℕ → List ℕ → List ℕ
overwrite l o bs = take o l ++ (bs ++ drop (o + length bs) l)

abbrev pub written : Memory → (index allocation offset : ℕ) → List ℕ → Memory
written m i j o bs =
    let f = frame_at m.frames i in
    with_frames m (set m.frames i (with_allocations f (set f.allocations j (overwrite (bytes_at m.frames i j) o bs))))

unfoldable pub write_at : Memory → Pointer → List ℕ → Answer Memory
write_at m (constant k) bs = refused through_constant
write_at m (local i f j o) bs = access m.frames i f j o (length bs) (ok (written m i j o bs))

unfoldable pub write_bytes : Memory → ℕ → List ℕ → Answer Memory
write_bytes m p bs = need (ltb p (length m.pointers)) not_given_out (write_at m (pointer_at m p) bs)

-- a constant's first n bytes; `constants` are the image's
unfoldable pub read_constant : List (List ℕ) → ℕ → ℕ → Answer (List ℕ)
read_constant constants k n =
    need (ltb k (length constants)) no_constant
    (need (leb n (length (get_or constants k []))) beyond_length
    (ok (take n (get_or constants k []))))

unfoldable pub read_at : List (List ℕ) → List Frame → Pointer → ℕ → Answer (List ℕ)
read_at constants fs (constant k) n = read_constant constants k n
read_at constants fs (local i f j o) n = access fs i f j o n (ok (take n (drop o (bytes_at fs i j))))

unfoldable pub read_bytes : List (List ℕ) → Memory → ℕ → ℕ → Answer (List ℕ)
read_bytes constants m p n = need (ltb p (length m.pointers)) not_given_out (read_at constants m.frames (pointer_at m p) n)

unfoldable pub offset_at : Memory → Pointer → ℕ → Answer Memory
offset_at m (constant k) d = refused through_constant
offset_at m (local i f j o) d =
    need (ltb (o + d) (2 ^ 64)) offset_too_large
    (need (ltb (length m.pointers) 4096) pointers_full
    (ok (with_pointer m (local i f j (o + d)))))

unfoldable pub offset_by : Memory → ℕ → ℕ → Answer Memory
offset_by m p d = need (ltb p (length m.pointers)) not_given_out (offset_at m (pointer_at m p) d)

abbrev pub pushed : Memory → Back → Memory
pushed m b = record {
  counter = m.counter + 1;
  frames = m.frames ++ (record { id = m.counter; back = b; allocations = [] } ∷ []);
  pointers = m.pointers;
}

unfoldable pub push_frame : Memory → Back → Answer Memory
push_frame m b =
    need (ltb (length m.frames) 64) frames_full
    (need (ltb m.counter 4294967295) ids_spent
    (ok (pushed m b)))

abbrev pub popped : Memory → Memory
popped m = with_frames m (take (top m.frames) m.frames)

-- where the top frame's Return goes on, and the memory without that frame; none at the root, which is kept
unfoldable pub pop_frame : Memory → Option (Back × Memory)
pop_frame m = pick (ltb 1 (length m.frames)) (some ((frame_at m.frames (top m.frames)).back, popped m)) none

-- "Live means that 25 to 28 would not be given."
unfoldable pub live_pointer : List Frame → Pointer → Live
live_pointer fs (constant k) = listed false 0 0 0
live_pointer fs (local i f j o) = listed (stands fs i f && ltb j (length (frame_at fs i).allocations)) i j o

-- "one for each pointer number, rising"
unfoldable pub live_list : Memory → List Live
live_list m = map (live_pointer m.frames) m.pointers
