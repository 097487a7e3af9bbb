-- In a sound state the live allocations lie end to end in the store from its start, frame by frame upward, in the order made: each from its own bound to the next.
use mathlib.Core.Path.{◌≡◌, sym, ap, ◌∙◌}
use mathlib.Core.List.{List, [], ◌∷◌, ◌++◌, append_assoc, append-nil}
use Prim.Native.Nat.{ℕ, ◌+◌, ◌*◌, ◌-◌, ◌<◌, ◌≤◌, zero, suc}
use native.Mathlib.Numerals.{add-one}
use native.Mathlib.Omega.{arith}
use lib.ListN.{get_or, length}
use Rattle.memory.specs.Memory.{Frame, frame_at, bytes_at}
use Rattle.memory.specs.Tables.{Tables, frame_word, bound, live}
use Rattle.memory.specs.View.{tab, bytes_of, allocations_in, frame_in, view}
use Rattle.memory.specs.Flat.{start_of, all_of, first_of}
use Rattle.memory.proofs.Tab.{get_d_tab}
use Rattle.memory.proofs.Facts.{Sound}
use Rattle.memory.proofs.Frames.{ends_up, end_live}
use Rattle.memory.proofs.Counts.{length-allocations, length-bytes}
use Rattle.memory.proofs.Access.{depth_is, frame_is}
use Rattle.memory.proofs.Flat.{start_zero, start-next, first_zero, first_next, all-at}

tab-append : {A : Type 0} (a b : ℕ) (g : ℕ → A) → tab (a + b) g ≡ tab a g ++ tab b (λ j. g (a + j))
unfolding tab
tab-append a zero g = let e : a + 0 ≡ a = omega arith in ap (λ n. tab n g) e ∙ sym (append-nil (tab a g))
tab-append a (suc b) g =
    let e : a + suc b ≡ suc (a + b) = omega arith in
    ap (λ n. tab n g) e ∙ ap (λ l. l ++ (g (a + b) ∷ [])) (tab-append a b g) ∙ append_assoc (tab a g) (tab b (λ j. g (a + j))) (g (a + b) ∷ [])

all_more : (fs : List Frame) (f : Frame) → all_of (fs ++ (f ∷ [])) ≡ all_of fs ++ f.allocations
unfolding all_of
all_more [] f = append-nil f.allocations
all_more (x ∷ fs) f = ap (λ l. x.allocations ++ l) (all_more fs f) ∙ sym (append_assoc x.allocations (all_of fs) f.allocations)

module _ (t : Tables) (so : Sound t) where
  -- a frame's first allocation ranks as its record says
  pub first_word : (i : ℕ) → i ≤ t.registers.depth → first_of (view t).frames i ≡ frame_word t.frames i 3
  first_word zero h = first_zero (view t).frames ∙ sym so.bottom
  first_word (suc i) h =
      let r = first_word i (omega arith) in
      let n = first_next (view t).frames i in
      let l = ap (λ (f : Frame). length f.allocations) (frame_is t so i (omega arith)) ∙ length-allocations t so (frame_word t.frames i 3) (frame_word t.frames i 7) in
      let u = (so.each i (omega arith)).first in
      let e : suc i * 4 + 3 ≡ i * 4 + 7 = omega arith in
      let q = ap (λ k. get_or t.frames k 0) e in
      omega arith

  abbrev each : ℕ → List ℕ
  each k = bytes_of t.bounds t.store k

  all-tab : (n : ℕ) → n ≤ t.registers.depth → all_of (tab n (frame_in t.frames t.bounds t.store)) ≡ tab (frame_word t.frames n 3) each
  unfolding tab all_of allocations_in
  all-tab zero h = ap (λ k. tab k each) (sym so.bottom)
  all-tab (suc n) h =
      let lo = frame_word t.frames n 3 in
      let hi = frame_word t.frames n 7 in
      let u = (so.each n (omega arith)).first in
      let e : suc n * 4 + 3 ≡ n * 4 + 7 = omega arith in
      let q = ap (λ k. get_or t.frames k 0) e in
      let s : lo + (hi - lo) ≡ frame_word t.frames (suc n) 3 = omega arith in
      all_more (tab n (frame_in t.frames t.bounds t.store)) _
      ∙ ap (λ l. l ++ allocations_in t.bounds t.store lo hi) (all-tab n (omega arith))
      ∙ sym (tab-append lo (hi - lo) each) ∙ ap (λ k. tab k each) s

  -- the k-th of all has the bytes from its bound to the next
  all_live : all_of (view t).frames ≡ tab (live t) each
  unfolding view
  all_live = all-tab t.registers.depth (omega arith)

  start-bound : (k : ℕ) → k ≤ live t → start_of (all_of (view t).frames) k ≡ bound t k
  start-bound zero h = start_zero (all_of (view t).frames) ∙ sym so.start
  start-bound (suc k) h =
      let r = start-bound k (omega arith) in
      let n = start-next (all_of (view t).frames) k in
      let g : get_or (all_of (view t).frames) k [] ≡ each k = ap (λ l. get_or l k []) all_live ∙ get_d_tab (live t) each k [] (omega arith) in
      let l = ap length g ∙ length-bytes t so k (omega arith) in
      let u = so.ends k (omega arith) in
      let q = ap (λ x. bound t x) (add-one k) in
      omega arith

  -- allocation j of frame i: where it begins, where it ends, and that it ends in the store
  pub placed : (i j : ℕ) → i < length (view t).frames → j < length (frame_at (view t).frames i).allocations
      → (bound t (frame_word t.frames i 3 + j) ≡ start_of (all_of (view t).frames) (first_of (view t).frames i + j))
      × (bound t (frame_word t.frames i 3 + j + 1) ≡ bound t (frame_word t.frames i 3 + j) + length (bytes_at (view t).frames i j))
      × (bound t (frame_word t.frames i 3 + j + 1) ≤ length t.store)
  placed i j h l =
      let d : i < t.registers.depth = rw (depth_is t so) at h in
      let k = frame_word t.frames i 3 + j in
      let ls = all_of (view t).frames in
      let first = first_word i (omega arith) in
      let many = ap (λ (f : Frame). length f.allocations) (frame_is t so i d) ∙ length-allocations t so (frame_word t.frames i 3) (frame_word t.frames i 7) in
      let top = end_live t so i d in
      let rank : k ≡ first_of (view t).frames i + j = omega arith in
      let begins = start-bound k (omega arith) in
      let ends = start-bound (suc k) (omega arith) in
      let n = start-next ls k in
      let b : get_or ls k [] ≡ bytes_at (view t).frames i j = ap (λ x. get_or ls x []) rank ∙ (all-at (view t).frames i j h l).1 in
      let m = ap length b in
      let q = ap (λ x. bound t x) (add-one k) in
      let up = ends_up t so (k + 1) (live t) (omega arith) (omega arith) in
      let used = so.used in
      let long : length t.store ≡ 32768 = so.ready.store in
      (sym begins ∙ ap (start_of ls) rank, omega arith, omega arith)
