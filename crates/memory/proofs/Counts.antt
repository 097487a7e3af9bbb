-- How many allocations and bytes live: sums over frames fall together, since each frame begins where the one below ends.
use mathlib.Core.Path.{◌≡◌, ap, ◌∙◌}
use mathlib.Core.List.{List, [], ◌∷◌, ◌++◌, map, map-append}
use Prim.Native.Nat.{ℕ, ◌+◌, ◌*◌, ◌-◌, ◌<◌, ◌≤◌, zero, suc}
use native.Mathlib.Numerals.{add-one}
use native.Mathlib.Omega.{arith}
use lib.ListN.{get_or, length}
use Rattle.memory.specs.Memory.{Frame, sum, live_count, live_bytes}
use Rattle.memory.specs.Tables.{Tables, live, bound}
use Rattle.memory.specs.View.{tab, bytes_of, allocations_in, frame_in, view}
use Rattle.memory.proofs.Tab.{length-tab, part_length}
use Rattle.memory.proofs.Facts.{Sound}
use Rattle.memory.proofs.Frames.{next-first, ends_up, end_live}

sum-append : (xs ys : List ℕ) → sum (xs ++ ys) ≡ sum xs + sum ys
unfolding sum
sum-append [] ys = omega arith
sum-append (x ∷ xs) ys = let e = sum-append xs ys in omega arith

-- what leads from h i to h (i + 1), summed up, leads from h 0 to h n
pub sum-tab : {A : Type 0} (n : ℕ) (f : ℕ → A) (g : A → ℕ) (h : ℕ → ℕ) → ((i : ℕ) → i < n → g (f i) + h i ≡ h (i + 1))
    → sum (map g (tab n f)) + h 0 ≡ h n
unfolding tab sum
sum-tab zero f g h e = omega arith
sum-tab (suc n) f g h e =
    let r = sum-tab n f g h (λ i k. e i (omega arith)) in
    let s : g (f n) + h n ≡ h (suc n) = rw add-one at (e n (omega arith)) in
    let m : sum (map g (tab n f ++ (f n ∷ []))) ≡ sum (map g (tab n f)) + sum (map g (f n ∷ [])) =
    ap sum (map-append g (tab n f) (f n ∷ [])) ∙ sum-append (map g (tab n f)) (map g (f n ∷ [])) in
    omega arith

-- no more is needed than that the first allocations begin at 0 and never fall
pub count-words : (t : Tables) → get_or t.frames 3 0 ≡ 0
    → ((i : ℕ) → i < t.registers.depth → get_or t.frames (i * 4 + 3) 0 ≤ get_or t.frames (i * 4 + 7) 0)
    → live_count (view t).frames ≡ live t
unfolding live_count view allocations_in
count-words t b up =
    let r = sum-tab t.registers.depth (frame_in t.frames t.bounds t.store) (λ (f : Frame). length f.allocations)
    (λ i. get_or t.frames (i * 4 + 3) 0)
    (λ i h. let l = length-tab (get_or t.frames (i * 4 + 7) 0 - get_or t.frames (i * 4 + 3) 0)
    (λ j. bytes_of t.bounds t.store (get_or t.frames (i * 4 + 3) 0 + j)) in
    let f = up i h in
    let q = ap (λ k. get_or t.frames k 0) (next-first i) in
    omega arith) in
    omega arith

module _ (t : Tables) (so : Sound t) where
  pub length-allocations : (lo hi : ℕ) → length (allocations_in t.bounds t.store lo hi) ≡ hi - lo
  unfolding allocations_in
  length-allocations lo hi = length-tab (hi - lo) _

  pub length-bytes : (k : ℕ) → k < live t → length (bytes_of t.bounds t.store k) ≡ bound t (k + 1) - bound t k
  length-bytes k h =
      let l = so.ready.store in
      let u = so.used in
      let e = so.ends k h in
      let f = ends_up t so (k + 1) (live t) (omega arith) (omega arith) in
      part_length t.store (bound t k) (bound t (k + 1) - bound t k) (omega arith)

  pub count-live : live_count (view t).frames ≡ live t
  count-live = count-words t so.bottom (λ i h. (so.each i h).first)

  -- the bytes of allocations lo to below hi
  bytes-between : (lo hi : ℕ) → lo ≤ hi → hi ≤ live t
      → sum (map length (allocations_in t.bounds t.store lo hi)) + bound t lo ≡ bound t hi
  unfolding allocations_in
  bytes-between lo hi a b =
      let r = sum-tab (hi - lo) (λ j. bytes_of t.bounds t.store (lo + j)) length (λ j. bound t (lo + j))
      (λ j h. let l = length-bytes (lo + j) (omega arith) in
      let e = so.ends (lo + j) (omega arith) in
      let w : lo + j + 1 ≡ lo + (j + 1) = omega arith in
      let q = ap (λ k. bound t k) w in
      omega arith) in
      let x : lo + 0 ≡ lo = omega arith in
      let y : lo + (hi - lo) ≡ hi = omega arith in
      let u = ap (λ k. bound t k) x in
      let v = ap (λ k. bound t k) y in
      omega arith

  pub bytes-live : live_bytes (view t).frames ≡ bound t (live t)
  unfolding live_bytes view
  bytes-live =
      let b = so.bottom in
      let z = ap (λ k. bound t k) b in
      let s = so.start in
      let r = sum-tab t.registers.depth (frame_in t.frames t.bounds t.store) (λ (f : Frame). sum (map length f.allocations))
      (λ i. bound t (get_or t.frames (i * 4 + 3) 0))
      (λ i h. let l = bytes-between (get_or t.frames (i * 4 + 3) 0) (get_or t.frames (i * 4 + 7) 0) (so.each i h).first (end_live t so i h) in
      let q = ap (λ k. bound t (get_or t.frames k 0)) (next-first i) in
      omega arith) in
      omega arith
