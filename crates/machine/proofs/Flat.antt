-- Where an allocation begins among lists end to end, as the sum of what lies before it.
use Prim.Native.Nat.{ℕ, zero, suc, ◌+◌, ◌≤◌, ◌<◌}
use native.Mathlib.Nat.{le_of_suc-le-suc, not-suc-le-zero}
use native.Mathlib.Omega.{arith}
use mathlib.Core.Path.{◌≡◌, refl, sym, ap, ◌∙◌}
use mathlib.Core.List.{List, [], ◌∷◌, ◌++◌, map}
use lib.ListN.{length, take}
use Rattle.memory.specs.Memory.{Frame, frame_at, sum}
use Rattle.memory.specs.Flat.{start_of, all_of, first_of}
use Rattle.memory.proofs.Flat.{start_zero}

start-sum : (ls : List (List ℕ)) (k : ℕ) → start_of ls k ≡ sum (take k (map length ls))
unfolding start_of sum
start-sum ls zero = start_zero ls
start-sum [] (suc k) = refl
start-sum (l ∷ ls) (suc k) = ap (λ n. length l + n) (start-sum ls k)

-- in the first of two, and behind it
start_first : (ls ks : List (List ℕ)) (j : ℕ) → j ≤ length ls → start_of (ls ++ ks) j ≡ start_of ls j
unfolding start_of
start_first ls ks zero h = start_zero (ls ++ ks) ∙ sym (start_zero ls)
start_first [] ks (suc j) h = absurd (not-suc-le-zero h)
start_first (l ∷ ls) ks (suc j) h = ap (λ n. length l + n) (start_first ls ks j (le_of_suc-le-suc h))

start_behind : (ls ks : List (List ℕ)) (k : ℕ) → start_of (ls ++ ks) (length ls + k) ≡ sum (map length ls) + start_of ks k
unfolding start_of sum
start_behind [] ks k =
    let e : 0 + k ≡ k = omega arith in
    let d = ap (start_of ks) e in
    omega arith
start_behind (l ∷ ls) ks k =
    let e : suc (length ls) + k ≡ suc (length ls + k) = omega arith in
    let d = ap (start_of ((l ∷ ls) ++ ks)) e in
    let r = start_behind ls ks k in
    omega arith

abbrev pub bytes_of : Frame → ℕ
bytes_of f = sum (map length f.allocations)

pub start-at : (fs : List Frame) (i j : ℕ) → i < length fs → j ≤ length (frame_at fs i).allocations
    → start_of (all_of fs) (first_of fs i + j) ≡ sum (map bytes_of (take i fs)) + sum (take j (map length (frame_at fs i).allocations))
unfolding all_of first_of sum
start-at [] i j h l = absurd (not-suc-le-zero h)
start-at (f ∷ fs) zero j h l =
    let e : 0 + j ≡ j = omega arith in
    let d = ap (start_of (f.allocations ++ all_of fs)) e ∙ start_first f.allocations (all_of fs) j l ∙ start-sum f.allocations j in
    omega arith
start-at (f ∷ fs) (suc i) j h l =
    let e : length f.allocations + first_of fs i + j ≡ length f.allocations + (first_of fs i + j) = omega arith in
    let d = ap (start_of (f.allocations ++ all_of fs)) e ∙ start_behind f.allocations (all_of fs) (first_of fs i + j) in
    let r = start-at fs i j (le_of_suc-le-suc h) l in
    omega arith
