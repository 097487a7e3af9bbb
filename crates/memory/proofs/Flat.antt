-- The allocations of a stack end to end in one store, and where each begins.
use mathlib.Core.Path.{◌≡◌, refl, ap, ◌∙◌}
use mathlib.Core.List.{List, [], ◌∷◌, ◌++◌, map, append_assoc, flatten}
use Prim.Native.Nat.{ℕ, ◌+◌, ◌<◌, zero, suc}
use native.Mathlib.Nat.{not-suc-le-zero, le_of_suc-le-suc}
use native.Mathlib.Omega.{arith}
use lib.ListN.{get_or, length, length-append, get_or-append}
use lib.Seq.{get_or-append-add, take-append_seam, drop-append-add}
use Rattle.memory.specs.Memory.{Frame, frame_at, sum, live_count, live_bytes}
use Rattle.memory.specs.View.{part}
use Rattle.memory.specs.Flat.{start_of, all_of, first_of}

pub start_zero : (ls : List (List ℕ)) → start_of ls 0 ≡ 0
unfolding start_of
start_zero [] = refl
start_zero (l ∷ ls) = refl

pub start-next : (ls : List (List ℕ)) (k : ℕ) → start_of ls (suc k) ≡ start_of ls k + length (get_or ls k [])
unfolding start_of
start-next [] zero = refl
start-next [] (suc k) = refl
start-next (l ∷ ls) zero = let z = start_zero ls in omega arith
start-next (l ∷ ls) (suc k) = let e = start-next ls k in omega arith

pub first_zero : (fs : List Frame) → first_of fs 0 ≡ 0
unfolding first_of
first_zero [] = refl
first_zero (f ∷ fs) = refl

pub first_next : (fs : List Frame) (i : ℕ) → first_of fs (suc i) ≡ first_of fs i + length (frame_at fs i).allocations
unfolding first_of
first_next [] zero = refl
first_next [] (suc i) = refl
first_next (f ∷ fs) zero = let z = first_zero fs in omega arith
first_next (f ∷ fs) (suc i) = let e = first_next fs i in omega arith

pub length_flat : (ls : List (List ℕ)) → length (flatten ls) ≡ start_of ls (length ls)
unfolding flatten start_of
length_flat [] = refl
length_flat (l ∷ ls) = length-append l (flatten ls) ∙ ap (λ n. length l + n) (length_flat ls)

pub length-all : (fs : List Frame) → length (all_of fs) ≡ first_of fs (length fs)
unfolding all_of first_of
length-all [] = refl
length-all (f ∷ fs) = length-append f.allocations (all_of fs) ∙ ap (λ n. length f.allocations + n) (length-all fs)

-- as many as the believed memory counts, and as many bytes
pub all-count : (fs : List Frame) → first_of fs (length fs) ≡ live_count fs
unfolding first_of live_count sum
all-count [] = refl
all-count (f ∷ fs) = ap (λ n. length f.allocations + n) (all-count fs)

flat_append : (ls ks : List (List ℕ)) → flatten (ls ++ ks) ≡ flatten ls ++ flatten ks
unfolding flatten
flat_append [] ks = refl
flat_append (x ∷ ls) ks = rw (flat_append ls ks, append_assoc)

flat_sum : (ls : List (List ℕ)) → length (flatten ls) ≡ sum (map length ls)
unfolding flatten sum
flat_sum [] = refl
flat_sum (x ∷ ls) = rw (length-append, flat_sum ls)

pub all-bytes : (fs : List Frame) → length (flatten (all_of fs)) ≡ live_bytes fs
unfolding live_bytes all_of sum
all-bytes [] = unfold flatten in refl
all-bytes (f ∷ fs) = rw (flat_append, length-append, flat_sum f.allocations, all-bytes fs)

-- the bytes of the k-th lie where it begins, whatever lies behind them all
pub bytes_flat : (ls : List (List ℕ)) (rest : List ℕ) (k : ℕ) → k < length ls → part (flatten ls ++ rest) (start_of ls k) (length (get_or ls k [])) ≡ get_or ls k []
unfolding start_of flatten
bytes_flat [] rest k h = absurd (not-suc-le-zero h)
bytes_flat (x ∷ ls) rest zero h = rw append_assoc (take-append_seam x (flatten ls ++ rest))
bytes_flat (x ∷ ls) rest (suc k) h = rw (append_assoc, drop-append-add) (bytes_flat ls rest k (le_of_suc-le-suc h))

-- the j-th allocation of frame i among all
pub all-at : (fs : List Frame) (i j : ℕ) → i < length fs → j < length (frame_at fs i).allocations
    → (first_of fs i + j < length (all_of fs)) × (get_or (all_of fs) (first_of fs i + j) [] ≡ get_or (frame_at fs i).allocations j [])
unfolding all_of first_of
all-at [] i j h k = absurd (not-suc-le-zero h)
all-at (f ∷ fs) zero j h k =
    let z : 0 + j ≡ j = omega arith in
    (rw length-append (omega arith), ap (λ x. get_or (f.allocations ++ all_of fs) x []) z ∙ get_or-append f.allocations (all_of fs) [] j k)
all-at (f ∷ fs) (suc i) j h k =
    let r = all-at fs i j (le_of_suc-le-suc h) k in
    let z : length f.allocations + first_of fs i + j ≡ length f.allocations + (first_of fs i + j) = omega arith in
    let y = r.0 in
    (rw length-append (omega arith), ap (λ x. get_or (f.allocations ++ all_of fs) x []) z ∙ get_or-append-add f.allocations (all_of fs) (first_of fs i + j) [] ∙ r.1)
