-- Allocating through the view: the old allocations keep their bytes, the new one is all 0, and the top frame has one more.
use Rattle.std.specs.Prelude.{Result, Ok, Err}
use mathlib.Core.Path.{◌≡◌, refl, ap, ◌∙◌, sym}
use mathlib.Core.List.{List, [], ◌∷◌, ◌++◌}
use mathlib.Core.Bool.{true, false}
use Prim.Native.Nat.{ℕ, ◌+◌, ◌*◌, ◌-◌, ◌<◌, ◌≤◌}
use native.Mathlib.Omega.{arith}
use lib.ListN.{get_or, set, length, replicate, length-set, length-replicate}
use lib.Seq.{paste, length-paste, take_all, get_or-set_same, get_or-set_other}
use lib.Dec.{ltb, leb, eqb}
use borrow.Author.Tests.{ltb-true, ltb-false, leb-true, leb-false, eqb-true, eqb-false, lt-ltb, le-ltb, le-leb, lt-leb, ne_eqb}
use Rattle.value.specs.declared.refusal.Refusal.{Refusal}
use Rattle.value.specs.Answer.{ok, refused, need, pick}
use Rattle.value.specs.Refusal.{allocations_full, bytes_full, pointers_full}
use Rattle.memory.specs.Memory.{Frame, local, no_frame, with_allocations, allocated, allocate}
use Rattle.memory.specs.Tables.{Tables, tables, Out, more, pointer, pointer_at, pointer_set, zeroed, ready, live, bound, top_first, id_above, pointer_ok, pointers_ok, room_of, made, unmade, allocated_of}
use Rattle.memory.specs.View.{tab, part, bytes_of, allocations_in, frame_in, pointer_in, view, after_allocate}
use Rattle.memory.specs.declared.Registers.{Registers}
use Rattle.memory.specs.declared.PointerRecord.{PointerRecord}
use Rattle.memory.proofs.Lists.{zeroed_paste, full}
use Rattle.memory.proofs.Every.{by_test}
use Rattle.memory.proofs.Tab.{tab-more, length-tab, tab-same, get_d_tab, tab-set, part_length, part-below, part_in}
use Rattle.memory.proofs.Laws.{ok_same}
use Rattle.memory.proofs.Facts.{FrameSound, Sound, ready_test}
use Rattle.memory.proofs.Frames.{frame_same, memory-same, firsts_up, ends_up, end_live}
use Rattle.memory.proofs.Pointers.{given-more, length_pointer_set, pointer_other, pointer-put, count-seen, kind_at, local-ok, never_given}
use Rattle.memory.proofs.Counts.{count-live, bytes-live, length-allocations}

pub lt_of_ne : {a b : ℕ} → a ≤ b → (b ≡ a → ⊥) → a < b
lt_of_ne {a} {b} h n = by_test (ltb a b) (λ t. ltb-true a b t) (λ t. let c : b ≤ a = ltb-false a b t in absurd (n (omega arith)))

below : {j d : ℕ} → j < d → (j ≡ d - 1 → ⊥) → j + 1 < d
below {j} {d} h n = by_test (ltb (j + 1) d) (λ t. ltb-true (j + 1) d t) (λ t. let c : d ≤ j + 1 = ltb-false (j + 1) d t in absurd (n (omega arith)))

pub allocations-same : (bo bo' store store' : List ℕ) (lo hi : ℕ) → ((k : ℕ) → lo ≤ k → k < hi → bytes_of bo' store' k ≡ bytes_of bo store k)
    → allocations_in bo' store' lo hi ≡ allocations_in bo store lo hi
unfolding allocations_in
allocations-same bo bo' store store' lo hi h =
    tab-same (hi - lo) (λ j. bytes_of bo' store' (lo + j)) (λ j. bytes_of bo store (lo + j)) (λ j k. h (lo + j) (omega arith) (omega arith))

pub allocations-more : (bo store : List ℕ) (lo hi : ℕ) → lo ≤ hi → allocations_in bo store lo (hi + 1) ≡ allocations_in bo store lo hi ++ (bytes_of bo store hi ∷ [])
unfolding allocations_in
allocations-more bo store lo hi h =
    let e : hi + 1 - lo ≡ hi - lo + 1 = omega arith in
    let k : lo + (hi - lo) ≡ hi = omega arith in
    ap (λ n. tab n (λ j. bytes_of bo store (lo + j))) e ∙ tab-more (hi - lo) (λ j. bytes_of bo store (lo + j))
    ∙ ap (λ x. tab (hi - lo) (λ j. bytes_of bo store (lo + j)) ++ (bytes_of bo store x ∷ [])) k

local_in : (i f j : ℕ) → pointer_in (pointer 0 i f j 0) ≡ local i f j 0
unfolding pointer_in
local_in i f j = refl

local_same : {i i' f f' j j' : ℕ} → i ≡ i' → f ≡ f' → j ≡ j' → local i f j 0 ≡ local i' f' j' 0
local_same p q r = cc

above_same : (fr fr' : List ℕ) (d counter i : ℕ) → get_or fr' (i * 4 + 4) 0 ≡ get_or fr (i * 4 + 4) 0 → id_above fr' d counter i ≡ id_above fr d counter i
unfolding id_above
above_same fr fr' d counter i e = ap (λ x. pick (ltb (i + 1) d) x counter) e

module _ (s : Tables) (so : Sound s) (size : ℕ)
    (some : get_or s.frames (s.registers.depth * 4 + 3) 0 < 512)
    (room : get_or s.bounds (get_or s.frames (s.registers.depth * 4 + 3) 0) 0 + size ≤ 32768)
    (left : s.registers.pointers < 4096) where
  abbrev count : ℕ
  count = get_or s.frames (s.registers.depth * 4 + 3) 0

  abbrev u : ℕ
  u = get_or s.bounds count 0

  abbrev zs : List ℕ
  zs = replicate size 0

  abbrev fr' : List ℕ
  fr' = set s.frames (s.registers.depth * 4 + 3) (count + 1)

  abbrev bo' : List ℕ
  bo' = set s.bounds (count + 1) (u + size)

  abbrev store' : List ℕ
  store' = paste s.store u zs size

  abbrev F : ℕ → Frame
  F = frame_in s.frames s.bounds s.store

  abbrev F' : ℕ → Frame
  F' = frame_in fr' bo' store'

  size_zs : length zs ≡ size
  size_zs = length-replicate size 0

  alloc_old : (k : ℕ) → k < count → bytes_of bo' store' k ≡ bytes_of s.bounds s.store k
  alloc_old k h =
      let l : length s.store ≡ 32768 = so.ready.store in
      let z = size_zs in
      let e2 = so.ends k h in
      let e4 = ends_up s so (k + 1) count (omega arith) (omega arith) in
      let a : get_or bo' k 0 ≡ get_or s.bounds k 0 = get_or-set_other s.bounds (count + 1) k (u + size) 0 (λ e. omega arith) in
      let b : get_or bo' (k + 1) 0 ≡ get_or s.bounds (k + 1) 0 = get_or-set_other s.bounds (count + 1) (k + 1) (u + size) 0 (λ e. omega arith) in
      ap (λ x. part store' x (get_or bo' (k + 1) 0 - x)) a
      ∙ ap (λ x. part store' (get_or s.bounds k 0) (x - get_or s.bounds k 0)) b
      ∙ part-below s.store u zs size (omega arith) (omega arith) (get_or s.bounds k 0) (get_or s.bounds (k + 1) 0 - get_or s.bounds k 0) (omega arith)

  alloc_new : bytes_of bo' store' count ≡ zs
  alloc_new =
      let l : length s.store ≡ 32768 = so.ready.store in
      let lb : length s.bounds ≡ 513 = so.ready.bounds in
      let z = size_zs in
      let a : get_or bo' count 0 ≡ u = get_or-set_other s.bounds (count + 1) count (u + size) 0 (λ e. omega arith) in
      let b : get_or bo' (count + 1) 0 ≡ u + size = get_or-set_same s.bounds (count + 1) (u + size) 0 (omega arith) in
      let c : u + size - u ≡ size = omega arith in
      let p : length (part s.store u size) ≡ size = part_length s.store u size (omega arith) in
      let q : u ≡ u + 0 = omega arith in
      ap (λ x. part store' x (get_or bo' (count + 1) 0 - x)) a ∙ ap (λ x. part store' u (x - u)) b ∙ ap (λ x. part store' u x) c
      ∙ ap (λ x. part (paste s.store x zs size) u size) q
      ∙ part_in s.store u size 0 zs size (omega arith) (omega arith) (omega arith)
      ∙ ap (λ x. paste (part s.store u size) 0 zs x) (sym p) ∙ full (part s.store u size) zs
      ∙ take_all (length (part s.store u size)) zs (omega arith)

  abbrev grow : Frame → Frame
  grow g = with_allocations g (g.allocations ++ (zs ∷ []))

  fr_other : (k : ℕ) → (k ≡ s.registers.depth * 4 + 3 → ⊥) → get_or fr' k 0 ≡ get_or s.frames k 0
  fr_other k n = get_or-set_other s.frames (s.registers.depth * 4 + 3) k (count + 1) 0 n

  alloc_below : (j : ℕ) → j < s.registers.depth → (j ≡ s.registers.depth - 1 → ⊥) → F' j ≡ F j
  alloc_below j h n =
      let c : j + 1 < s.registers.depth = below h n in
      let e1 = end_live s so j h in
      frame_same (fr_other (j * 4) (λ e. omega arith)) (fr_other (j * 4 + 1) (λ e. omega arith)) (fr_other (j * 4 + 2) (λ e. omega arith))
      (ap (λ x. allocations_in bo' store' x (get_or fr' (j * 4 + 7) 0)) (fr_other (j * 4 + 3) (λ e. omega arith))
      ∙ ap (λ x. allocations_in bo' store' (get_or s.frames (j * 4 + 3) 0) x) (fr_other (j * 4 + 7) (λ e. omega arith))
      ∙ allocations-same s.bounds bo' s.store store' (get_or s.frames (j * 4 + 3) 0) (get_or s.frames (j * 4 + 7) 0) (λ k lo hi. alloc_old k (omega arith)))

  alloc_top : F' (s.registers.depth - 1) ≡ grow (F (s.registers.depth - 1))
  alloc_top =
      let o = so.some in
      let lf : length s.frames ≡ 260 = so.ready.frames in
      let dp = so.ready.deep in
      let t = s.registers.depth - 1 in
      let e : t * 4 + 7 ≡ s.registers.depth * 4 + 3 = omega arith in
      let lo = get_or s.frames (t * 4 + 3) 0 in
      let le = firsts_up s so t s.registers.depth (omega arith) (omega arith) in
      let hi : get_or fr' (t * 4 + 7) 0 ≡ count + 1 = ap (λ x. get_or fr' x 0) e ∙ get_or-set_same s.frames (s.registers.depth * 4 + 3) (count + 1) 0 (omega arith) in
      frame_same (fr_other (t * 4) (λ e. omega arith)) (fr_other (t * 4 + 1) (λ e. omega arith)) (fr_other (t * 4 + 2) (λ e. omega arith))
      (ap (λ x. allocations_in bo' store' x (get_or fr' (t * 4 + 7) 0)) (fr_other (t * 4 + 3) (λ e. omega arith))
      ∙ ap (λ x. allocations_in bo' store' lo x) hi
      ∙ allocations-more bo' store' lo count (omega arith)
      ∙ ap (λ x. x ++ (bytes_of bo' store' count ∷ [])) (allocations-same s.bounds bo' s.store store' lo count (λ k l h. alloc_old k h))
      ∙ ap (λ x. allocations_in s.bounds s.store lo count ++ (x ∷ [])) alloc_new
      ∙ ap (λ x. allocations_in s.bounds s.store lo (get_or s.frames x 0) ++ (zs ∷ [])) (sym e))

  abbrev pub alloc_tables : Tables
  alloc_tables =
      tables (more s.registers) (zeroed s.store u size) fr' bo'
      (pointer_set s.pointers s.registers.pointers
      (pointer 0 (s.registers.depth - 1) (get_or s.frames (s.registers.depth * 4 - 4) 0) (count - get_or s.frames (s.registers.depth * 4 - 1) 0) 0))

  alloc_seen : view alloc_tables ≡ allocated (view s) size
  unfolding view
  alloc_seen =
      let n = s.registers.depth in
      let o = so.some in
      let l : length s.store ≡ 32768 = so.ready.store in
      let T = tab n F in
      let et : length T - 1 ≡ n - 1 = ap (λ k. k - 1) (length-tab n F) in
      let g : get_or T (length T - 1) no_frame ≡ F (n - 1) = ap (λ x. get_or T x no_frame) et ∙ get_d_tab n F (n - 1) no_frame (omega arith) in
      let ps = s.pointers in
      let p = s.registers.pointers in
      let a : n * 4 - 4 ≡ (n - 1) * 4 = omega arith in
      let b : n * 4 - 1 ≡ (n - 1) * 4 + 3 = omega arith in
      let c : n * 4 + 3 ≡ (n - 1) * 4 + 7 = omega arith in
      memory-same
      (ap (λ x. tab n (frame_in fr' bo' x)) (zeroed_paste s.store u size size (omega arith) (omega arith))
      ∙ tab-set n F F' (n - 1) (grow (F (n - 1))) (omega arith) alloc_top alloc_below
      ∙ ap (λ x. set T x (grow (F (n - 1)))) (sym et)
      ∙ ap (λ x. set T (length T - 1) (grow x)) (sym g))
      (given-more ps p (pointer 0 (n - 1) (get_or s.frames (n * 4 - 4) 0) (count - get_or s.frames (n * 4 - 1) 0) 0) left so.ready.pointers
      ∙ ap (λ x. tab p (λ q. pointer_in (pointer_at ps q)) ++ (x ∷ []))
      (local_in _ _ _ ∙ local_same (sym et) (ap (λ k. get_or s.frames k 0) a ∙ sym (ap (λ (x : Frame). x.id) g))
      (ap (λ k. get_or s.frames k 0 - get_or s.frames (n * 4 - 1) 0) c ∙ ap (λ k. get_or s.frames ((n - 1) * 4 + 7) 0 - get_or s.frames k 0) b
      ∙ sym (ap (λ (x : Frame). length x.allocations) g ∙ length-allocations s so (get_or s.frames ((n - 1) * 4 + 3) 0) (get_or s.frames ((n - 1) * 4 + 7) 0)))))

  abbrev v : PointerRecord
  v = pointer 0 (s.registers.depth - 1) (get_or s.frames (s.registers.depth * 4 - 4) 0) (count - get_or s.frames (s.registers.depth * 4 - 1) 0) 0

  new-top : get_or fr' (s.registers.depth * 4 + 3) 0 ≡ count + 1
  new-top =
      let lf : length s.frames ≡ 260 = so.ready.frames in
      let dp = so.ready.deep in
      get_or-set_same s.frames (s.registers.depth * 4 + 3) (count + 1) 0 (omega arith)

  alloc_each : (i : ℕ) → i < s.registers.depth → FrameSound fr' s.registers.depth s.registers.counter i
  alloc_each i k =
      let n = s.registers.depth in
      let f = so.each i k in
      let x0 = fr_other (i * 4) (λ e. omega arith) in
      let x1 = fr_other (i * 4 + 1) (λ e. omega arith) in
      let x2 = fr_other (i * 4 + 2) (λ e. omega arith) in
      let x3 = fr_other (i * 4 + 3) (λ e. omega arith) in
      let up = above_same s.frames fr' n s.registers.counter i (fr_other (i * 4 + 4) (λ e. omega arith)) in
      let g0 = f.id in
      let g1 = f.place in
      let g2 = f.variable in
      let g3 = f.first in
      record {
        id = omega arith;
        place = omega arith;
        variable = omega arith;
        first = by_test (eqb (i + 1) n)
            (λ t. let c : i + 1 ≡ n = eqb-true _ _ t in
            let e : i * 4 + 7 ≡ n * 4 + 3 = omega arith in
            let y = ap (λ j. get_or fr' j 0) e in
            let z = ap (λ j. get_or s.frames j 0) e in
            let w = new-top in
            omega arith)
            (λ t. let c = eqb-false (i + 1) n t in
            let y = fr_other (i * 4 + 7) (λ e. c (omega arith)) in
            omega arith);
      }

  alloc_kinds : (p : ℕ) → p < s.registers.pointers + 1 → pointers_ok (pointer_set s.pointers s.registers.pointers v) p ≡ true
  unfolding pointers_ok
  alloc_kinds p l =
      let n = s.registers.pointers in
      let len = so.ready.pointers in
      by_test (ltb p n)
      (λ t. ap pointer_ok (pointer_other s.pointers n v p (ltb-true _ _ t)) ∙ kind_at s so p (ltb-true _ _ t))
      (λ t. let w : n ≤ p = ltb-false _ _ t in
      let e : p ≡ n = omega arith in
      ap (λ q. pointer_ok (pointer_at (pointer_set s.pointers n v) q)) e ∙ ap pointer_ok (pointer-put s.pointers n v (omega arith)) ∙ local-ok _ _ _ _)

  alloc_kept : Sound alloc_tables
  alloc_kept =
      let h = so.ready in
      let hs = h.store in
      let hb = h.bounds in
      let n = s.registers.depth in
      let bo : (k : ℕ) → (k ≡ count + 1 → ⊥) → get_or bo' k 0 ≡ get_or s.bounds k 0 =
      λ k ne. get_or-set_other s.bounds (count + 1) k (u + size) 0 ne in
      let end : get_or bo' (count + 1) 0 ≡ u + size = get_or-set_same s.bounds (count + 1) (u + size) 0 (omega arith) in
      let r = size_zs in
      let zl : length (zeroed s.store u size) ≡ length s.store =
      ap length (zeroed_paste s.store u size size (omega arith) (omega arith)) ∙ length-paste s.store u (replicate size 0) size (omega arith) (omega arith) in
      let top = new-top in
      record {
        ready = record {
          store = zl ∙ hs;
          frames = length-set s.frames (n * 4 + 3) (count + 1) ∙ h.frames;
          bounds = length-set s.bounds (count + 1) (u + size) ∙ hb;
          pointers = length_pointer_set s.pointers s.registers.pointers v ∙ h.pointers;
          deep = h.deep;
          given = omega arith;
        };
        some = so.some;
        counted = so.counted;
        root = fr_other 0 (λ e. omega arith) ∙ so.root;
        bottom = let o = so.some in fr_other 3 (λ e. omega arith) ∙ so.bottom;
        start = bo 0 (λ e. omega arith) ∙ so.start;
        each = alloc_each;
        few = omega arith;
        ends = λ k j. by_test (ltb k count)
            (λ t. let c : k < count = ltb-true _ _ t in
            let f = so.ends k c in
            let x = bo k (λ e. omega arith) in
            let y = bo (k + 1) (λ e. omega arith) in
            omega arith)
            (λ t. let c : count ≤ k = ltb-false _ _ t in
            let q : k ≡ count = omega arith in
            let x = ap (λ i. get_or bo' i 0) q ∙ bo count (λ e. omega arith) in
            let y = ap (λ i. get_or bo' (i + 1) 0) q in
            omega arith);
        used = let g = ap (λ i. get_or bo' i 0) top in omega arith;
        kinds = alloc_kinds;
      }

-- ---- the answer

room-bytes : (u size p : ℕ) → u ≤ 32768 → 32768 < u + size → room_of u size p ≡ Err bytes_full
unfolding room_of
room-bytes u size p h k = simp (le-ltb _ _ h, lt-ltb (32768 - u) size (omega arith))

room-pointers : (u size p : ℕ) → u + size ≤ 32768 → 4096 ≤ p → room_of u size p ≡ Err pointers_full
unfolding room_of
room-pointers u size p h k = simp (le-ltb 32768 u (omega arith), le-ltb (32768 - u) size (omega arith), le-leb _ _ k)

room-left : (u size p : ℕ) → u + size ≤ 32768 → p < 4096 → room_of u size p ≡ Ok tt
unfolding room_of
room-left u size p h k = simp (le-ltb 32768 u (omega arith), le-ltb (32768 - u) size (omega arith), lt-leb _ _ k)

-- 37 to 39 in the tables are 37 to 39 in the believed memory, one after the other
pub data Allocation (t : Tables) (size : ℕ) : Type 0 where
  full_allocations : allocated_of t size ≡ unmade t allocations_full → allocate (view t) size ≡ refused allocations_full → Allocation t size
  full_bytes : allocated_of t size ≡ unmade t bytes_full → allocate (view t) size ≡ refused bytes_full → Allocation t size
  full_pointers : allocated_of t size ≡ unmade t pointers_full → allocate (view t) size ≡ refused pointers_full → Allocation t size
  room_for : (few : live t < 512) (room : bound t (live t) + size ≤ 32768) (left : t.registers.pointers < 4096)
      → allocated_of t size ≡ made t size → allocate (view t) size ≡ ok (allocated (view t) size) → Allocation t size

module _ (t : Tables) (so : Sound t) (size : ℕ) where
  is-ready : ready t ≡ true
  is-ready = ready_test _ _ _ _ _ _ so.ready

  some-frame : eqb t.registers.depth 0 ≡ false
  some-frame = ne_eqb t.registers.depth 0 (λ e. let p = so.some in omega arith)

  in_order : ltb (live t) (top_first t) ≡ false
  in_order =
      let n = t.registers.depth in
      let o = so.some in
      let f = firsts_up t so (n - 1) n (omega arith) (omega arith) in
      let e : n * 4 - 1 ≡ (n - 1) * 4 + 3 = omega arith in
      let q = ap (λ k. get_or t.frames k 0) e in
      le-ltb (live t) (top_first t) (omega arith)

  allocation : Allocation t size
  unfolding allocated_of allocate need
  allocation =
      let r = is-ready in
      let d = some-frame in
      let o = in_order in
      let u = so.used in
      by_test (leb 512 (live t))
      (λ w. full_allocations (simp (r, d, o, w)) (simp (ap (λ n. ltb n 512) (count-live t so) ∙ le-ltb (live t) 512 (leb-true _ _ w))))
      (λ w. let few : live t < 512 = leb-false _ _ w in
      let cl = ap (λ n. ltb n 512) (count-live t so) ∙ lt-ltb (live t) 512 few in
      by_test (leb (bound t (live t) + size) 32768)
      (λ x. let room : bound t (live t) + size ≤ 32768 = leb-true _ _ x in
      let bl = ap (λ n. leb (n + size) 32768) (bytes-live t so) ∙ x in
      by_test (leb 4096 t.registers.pointers)
      (λ y. full_pointers (simp (r, d, o, w, room-pointers (bound t (live t)) size t.registers.pointers room (leb-true _ _ y)))
      (simp (cl, bl, ap (λ n. ltb n 4096) (count-seen t so) ∙ le-ltb t.registers.pointers 4096 (leb-true _ _ y))))
      (λ y. let left : t.registers.pointers < 4096 = leb-false _ _ y in
      room_for few room left (simp (r, d, o, w, room-left (bound t (live t)) size t.registers.pointers room left))
      (simp (cl, bl, ap (λ n. ltb n 4096) (count-seen t so) ∙ lt-ltb t.registers.pointers 4096 left))))
      (λ x. let over : 32768 < bound t (live t) + size = leb-false _ _ x in
      let bl = ap (λ n. leb (n + size) 32768) (bytes-live t so) ∙ x in
      full_bytes (simp (r, d, o, w, room-bytes (bound t (live t)) size t.registers.pointers u over)) (simp (cl, bl))))

  seen : Allocation t size → after_allocate (allocated_of t size) ≡ allocate (view t) size
  unfolding after_allocate
  seen (full_allocations a b) = ap after_allocate a ∙ sym b
  seen (full_bytes a b) = ap after_allocate a ∙ sym b
  seen (full_pointers a b) = ap after_allocate a ∙ sym b
  seen (room_for few room left a b) = ap after_allocate a ∙ ap ok (alloc_seen t so size few room left) ∙ sym b

  -- Allocating is the believed one, and gives a sound state again.
  pub allocate-view : after_allocate (allocated_of t size) ≡ allocate (view t) size
  allocate-view = seen allocation

  abbrev answer : Out → Result (ℕ × Registers) Refusal
  answer o = o.answer

  abbrev afterwards : Registers → Out → Tables
  afterwards m o = tables m o.store o.frames o.bounds o.pointers

  kept : Allocation t size → (p : ℕ) (m : Registers) → (allocated_of t size).answer ≡ Ok (p, m) → Sound (afterwards m (allocated_of t size))
  kept (full_allocations a b) p m e = absurd (never_given allocations_full p m (sym (ap answer a) ∙ e))
  kept (full_bytes a b) p m e = absurd (never_given bytes_full p m (sym (ap answer a) ∙ e))
  kept (full_pointers a b) p m e = absurd (never_given pointers_full p m (sym (ap answer a) ∙ e))
  kept (room_for few room left a b) p m e =
      let g : more t.registers ≡ m = ap (λ x. x.1) (ok_same (t.registers.pointers, more t.registers) (p, m) (sym (ap answer a) ∙ e)) in
      rw a (rw g at (alloc_kept t so size few room left))

  pub allocate-sound : (p : ℕ) (m : Registers) → (allocated_of t size).answer ≡ Ok (p, m) → Sound (afterwards m (allocated_of t size))
  allocate-sound = kept allocation

  numbered : Allocation t size → (p : ℕ) (m : Registers) → (allocated_of t size).answer ≡ Ok (p, m) → p ≡ length (view t).pointers
  numbered (full_allocations a b) p m e = absurd (never_given allocations_full p m (sym (ap answer a) ∙ e))
  numbered (full_bytes a b) p m e = absurd (never_given bytes_full p m (sym (ap answer a) ∙ e))
  numbered (full_pointers a b) p m e = absurd (never_given pointers_full p m (sym (ap answer a) ∙ e))
  numbered (room_for few room left a b) p m e =
      let g : t.registers.pointers ≡ p = ap (λ x. x.0) (ok_same (t.registers.pointers, more t.registers) (p, m) (sym (ap answer a) ∙ e)) in
      sym g ∙ sym (count-seen t so)

  -- The number given is that of pointers before.
  pub allocate-number : (p : ℕ) (m : Registers) → (allocated_of t size).answer ≡ Ok (p, m) → p ≡ length (view t).pointers
  allocate-number = numbered allocation
