-- Bytes through the view: a write changes its own allocation alone, since the others lie apart; a read takes its own bytes.
use mathlib.Core.Path.{◌≡◌, refl, ap, ◌∙◌, sym}
use mathlib.Core.List.{List, [], ◌++◌, append_assoc}
use mathlib.Core.Logic.{◌⊎◌, inl, inr}
use Prim.Native.Nat.{ℕ, ◌+◌, ◌*◌, ◌-◌, ◌<◌, ◌≤◌}
use native.Mathlib.Omega.{arith}
use lib.ListN.{get_or, set, length, take, drop}
use lib.Seq.{paste, take-length}
use lib.Dec.{ltb}
use borrow.Author.Tests.{ltb-true, ltb-false}
use Rattle.memory.specs.Memory.{Frame, no_frame, with_allocations, overwrite, written}
use Rattle.memory.specs.Memory as M
use Rattle.memory.specs.Tables.{Tables, tables}
use Rattle.memory.specs.View.{tab, part, bytes_of, allocations_in, frame_in, view}
use Rattle.memory.proofs.Every.{by_test}
use Rattle.memory.proofs.Tab.{get_d_tab, tab-set, part-below, part-above, part_in, part-part}
use Rattle.memory.proofs.Facts.{Sound}
use Rattle.memory.proofs.Frames.{frame_same, memory-same, next-first, firsts_up, ends_up, end_live}
use Rattle.memory.proofs.Allocating.{allocations-same, lt_of_ne}

paste_overwrite : (l : List ℕ) (o : ℕ) (bs : List ℕ) → paste l o bs (length bs) ≡ overwrite l o bs
paste_overwrite l o bs =
    ap (λ x. take o l ++ x ++ drop (o + length bs) l) (take-length bs) ∙ append_assoc (take o l) bs (drop (o + length bs) l)

abbrev pub store_tables : Tables → List ℕ → Tables
store_tables s x = tables s.registers x s.frames s.bounds s.pointers

module _ (s : Tables) (so : Sound s) (f a offset : ℕ) (bytes : List ℕ)
    (stands : f < s.registers.depth)
    (has : get_or s.frames (f * 4 + 3) 0 + a < get_or s.frames (f * 4 + 7) 0)
    (fits : offset + length bytes ≤ get_or s.bounds (get_or s.frames (f * 4 + 3) 0 + a + 1) 0 - get_or s.bounds (get_or s.frames (f * 4 + 3) 0 + a) 0) where
  -- the allocation's index among all, and the store afterwards
  abbrev at : ℕ
  at = get_or s.frames (f * 4 + 3) 0 + a

  abbrev after : List ℕ
  after = paste s.store (get_or s.bounds at 0 + offset) bytes (length bytes)

  write_other : (k : ℕ) → k < get_or s.frames (s.registers.depth * 4 + 3) 0 → (k ≡ at → ⊥) → bytes_of s.bounds after k ≡ bytes_of s.bounds s.store k
  write_other k h ne =
      let l : length s.store ≡ 32768 = so.ready.store in
      let e1 = end_live s so f stands in
      let e2 = so.ends k h in
      let e3 = so.ends at (omega arith) in
      let e4 = ends_up s so (k + 1) (get_or s.frames (s.registers.depth * 4 + 3) 0) (omega arith) (omega arith) in
      let e5 = ends_up s so (at + 1) (get_or s.frames (s.registers.depth * 4 + 3) 0) (omega arith) (omega arith) in
      let u = so.used in
      by_test (ltb k at)
      (λ t. let c : k < at = ltb-true k at t in
      let e6 = ends_up s so (k + 1) at (omega arith) (omega arith) in
      part-below s.store (get_or s.bounds at 0 + offset) bytes (length bytes) (omega arith) (omega arith) (get_or s.bounds k 0) (get_or s.bounds (k + 1) 0 - get_or s.bounds k 0) (omega arith))
      (λ t. let c : at ≤ k = ltb-false k at t in
      let c' : at < k = lt_of_ne c ne in
      let e6 = ends_up s so (at + 1) k (omega arith) (omega arith) in
      part-above s.store (get_or s.bounds at 0 + offset) bytes (length bytes) (omega arith) (omega arith) (get_or s.bounds k 0) (get_or s.bounds (k + 1) 0 - get_or s.bounds k 0) (omega arith) (omega arith))

  -- an allocation of another frame is another
  apart : (j : ℕ) → j < s.registers.depth → (j ≡ f → ⊥) → (k : ℕ) → get_or s.frames (j * 4 + 3) 0 ≤ k → k < get_or s.frames (j * 4 + 7) 0 → k ≡ at → ⊥
  apart j h ne k lo hi e =
      by_test (ltb j f)
      (λ t. let c : j < f = ltb-true j f t in
      let q = ap (λ x. get_or s.frames x 0) (next-first j) in
      let r = firsts_up s so (j + 1) f (omega arith) (omega arith) in
      omega arith)
      (λ t. let c : f ≤ j = ltb-false j f t in
      let c' : f < j = lt_of_ne c ne in
      let q = ap (λ x. get_or s.frames x 0) (next-first f) in
      let r = firsts_up s so (f + 1) j (omega arith) (omega arith) in
      omega arith)

  abbrev upd : Frame → Frame
  upd g = with_allocations g (set g.allocations a (overwrite (get_or g.allocations a []) offset bytes))

  write-here : bytes_of s.bounds after at ≡ overwrite (bytes_of s.bounds s.store at) offset bytes
  write-here =
      let l : length s.store ≡ 32768 = so.ready.store in
      let e1 = end_live s so f stands in
      let e3 = so.ends at (omega arith) in
      let e5 = ends_up s so (at + 1) (get_or s.frames (s.registers.depth * 4 + 3) 0) (omega arith) (omega arith) in
      let u = so.used in
      part_in s.store (get_or s.bounds at 0) (get_or s.bounds (at + 1) 0 - get_or s.bounds at 0) offset bytes (length bytes) (omega arith) (omega arith) (omega arith)
      ∙ paste_overwrite _ offset bytes

  write-allocations : allocations_in s.bounds after (get_or s.frames (f * 4 + 3) 0) (get_or s.frames (f * 4 + 7) 0)
      ≡ set (allocations_in s.bounds s.store (get_or s.frames (f * 4 + 3) 0) (get_or s.frames (f * 4 + 7) 0)) a
      (overwrite (get_or (allocations_in s.bounds s.store (get_or s.frames (f * 4 + 3) 0) (get_or s.frames (f * 4 + 7) 0)) a []) offset bytes)
  unfolding allocations_in
  write-allocations =
      let lo = get_or s.frames (f * 4 + 3) 0 in
      let hi = get_or s.frames (f * 4 + 7) 0 in
      let e1 = end_live s so f stands in
      let g : ℕ → List ℕ = λ j. bytes_of s.bounds s.store (lo + j) in
      let g' : ℕ → List ℕ = λ j. bytes_of s.bounds after (lo + j) in
      let i : a < hi - lo = omega arith in
      tab-set (hi - lo) g g' a (overwrite (get_or (tab (hi - lo) g) a []) offset bytes) i
      (write-here ∙ ap (λ x. overwrite x offset bytes) (sym (get_d_tab (hi - lo) g a [] i)))
      (λ j h n. write_other (lo + j) (omega arith) (λ e. n (omega arith)))

  pub write-seen : view (store_tables s after) ≡ written (view s) f a offset bytes
  unfolding view
  write-seen =
      let n = s.registers.depth in
      let F = frame_in s.frames s.bounds s.store in
      let F' = frame_in s.frames s.bounds after in
      let g : get_or (tab n F) f no_frame ≡ F f = get_d_tab n F f no_frame stands in
      memory-same
      (tab-set n F F' f (upd (get_or (tab n F) f no_frame)) stands
      (frame_same refl refl refl write-allocations ∙ ap upd (sym g))
      (λ j h ne. frame_same refl refl refl
      (allocations-same s.bounds s.bounds s.store after (get_or s.frames (j * 4 + 3) 0) (get_or s.frames (j * 4 + 7) 0)
      (λ k lo hi. let e1 = end_live s so j h in
      write_other k (omega arith) (λ e. apart j h ne k lo hi e)))))
      refl

-- a write leaves the state sound
pub write_kept : (s : Tables) → Sound s → (x : List ℕ) → length x ≡ length s.store → Sound (store_tables s x)
write_kept s so x e =
    let h = so.ready in
    record {
      ready = record { store = e ∙ h.store; frames = h.frames; bounds = h.bounds; pointers = h.pointers; deep = h.deep; given = h.given };
      some = so.some;
      counted = so.counted;
      root = so.root;
      bottom = so.bottom;
      start = so.start;
      each = so.each;
      few = so.few;
      ends = so.ends;
      used = so.used;
      kinds = so.kinds;
    }

module _ (s : Tables) (so : Sound s) (f a offset n : ℕ)
    (stands : f < s.registers.depth)
    (has : get_or s.frames (f * 4 + 3) 0 + a < get_or s.frames (f * 4 + 7) 0)
    (fits : offset + n ≤ get_or s.bounds (get_or s.frames (f * 4 + 3) 0 + a + 1) 0 - get_or s.bounds (get_or s.frames (f * 4 + 3) 0 + a) 0) where
  here : M.bytes_at (view s).frames f a ≡ bytes_of s.bounds s.store (get_or s.frames (f * 4 + 3) 0 + a)
  unfolding view allocations_in
  here =
      let F = frame_in s.frames s.bounds s.store in
      let lo = get_or s.frames (f * 4 + 3) 0 in
      let hi = get_or s.frames (f * 4 + 7) 0 in
      let g : ℕ → List ℕ = λ j. bytes_of s.bounds s.store (lo + j) in
      ap (λ (x : Frame). get_or x.allocations a []) (get_d_tab s.registers.depth F f no_frame stands) ∙ get_d_tab (hi - lo) g a [] (omega arith)

  -- the bytes that a read takes from the store are those of the allocation
  pub read-seen : part s.store (get_or s.bounds (get_or s.frames (f * 4 + 3) 0 + a) 0 + offset) n ≡ part (M.bytes_at (view s).frames f a) offset n
  read-seen =
      let k = get_or s.frames (f * 4 + 3) 0 + a in
      let l : length s.store ≡ 32768 = so.ready.store in
      let e1 = end_live s so f stands in
      let e3 = so.ends k (omega arith) in
      let e5 = ends_up s so (k + 1) (get_or s.frames (s.registers.depth * 4 + 3) 0) (omega arith) (omega arith) in
      let u = so.used in
      part-part s.store (get_or s.bounds k 0) (get_or s.bounds (k + 1) 0 - get_or s.bounds k 0) offset n (omega arith) (omega arith)
      ∙ ap (λ x. part x offset n) (sym here)

-- ---- apart

-- In a sound state the live extents lie apart: of two allocations, one ends before the other begins.
pub extents-apart : (s : Tables) → Sound s → (j k : ℕ) → j < get_or s.frames (s.registers.depth * 4 + 3) 0 → k < get_or s.frames (s.registers.depth * 4 + 3) 0
    → (j ≡ k → ⊥)
    → (get_or s.bounds (j + 1) 0 ≤ get_or s.bounds k 0) ⊎ (get_or s.bounds (k + 1) 0 ≤ get_or s.bounds j 0)
extents-apart s so j k hj hk ne =
    by_test (ltb j k)
    (λ t. let c : j < k = ltb-true j k t in inl (ends_up s so (j + 1) k (omega arith) (omega arith)))
    (λ t. let c : k ≤ j = ltb-false j k t in
    let d : k < j = lt_of_ne c ne in
    inr (ends_up s so (k + 1) j (omega arith) (omega arith)))

-- and all of them in the store
pub extent-stored : (s : Tables) → Sound s → (k : ℕ) → k < get_or s.frames (s.registers.depth * 4 + 3) 0
    → (get_or s.bounds k 0 ≤ get_or s.bounds (k + 1) 0) × (get_or s.bounds (k + 1) 0 ≤ length s.store)
extent-stored s so k h =
    let l : length s.store ≡ 32768 = so.ready.store in
    let u = so.used in
    let e = ends_up s so (k + 1) (get_or s.frames (s.registers.depth * 4 + 3) 0) (omega arith) (omega arith) in
    (so.ends k h, omega arith)
