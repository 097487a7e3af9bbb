-- Accesses through the view: each check of the tables is the believed one's, in the same order; so reads and writes are too.
use Rattle.std.specs.Prelude.{Result, Ok, Err}
use mathlib.Core.Path.{◌≡◌, refl, ap, ◌∙◌, sym}
use mathlib.Core.List.{List, []}
use mathlib.Core.Bool.{Bool, true, false}
use Prim.Native.Nat.{ℕ, ◌+◌, ◌*◌, ◌-◌, ◌/◌, ◌<◌, ◌≤◌, zero, suc}
use native.Mathlib.Nat.{mod-zero}
use native.Mathlib.Omega.{arith}
use lib.ListN.{get_or, length, take, drop}
use lib.Seq.{paste, length-paste, take-take}
use lib.Dec.{ltb, leb, eqb}
use borrow.Author.Tests.{ltb-true, ltb-false, leb-true, leb-false, lt-ltb, le-ltb, le-leb, lt-leb, ne_eqb}
use Rattle.value.specs.declared.refusal.Refusal.{Refusal}
use Rattle.value.specs.Answer.{Answer, ok, refused, need}
use Rattle.value.specs.Refusal.{not_given_out, through_constant, frame_gone, no_allocation, beyond_length, misaligned}
use Rattle.memory.specs.Memory.{Frame, constant, local, no_frame, stands, divides, access, written, write_at, write_bytes, read_constant, read_at, read_bytes}
use Rattle.memory.specs.Memory as M
use Rattle.memory.specs.Tables.{Tables, both, ready, live, bound, pointer_at, aligned_of, within_of, ranked_of, standing_of, from_store, accessed_at, local_of, read_access_of, for_write, write_access_of, put_at, written_of, constant_access_of, constant_of, get_at, read_of}
use Rattle.memory.specs.View.{tab, part, bytes_of, allocations_in, frame_in, view, constants_in, after_write, after_read}
use Rattle.memory.specs.declared.PointerRecord.{PointerRecord}
use Rattle.memory.specs.declared.Source.{Source}
use Rattle.memory.specs.declared.Source.TheVariants as source
use Rattle.memory.proofs.Every.{by_test}
use Rattle.memory.proofs.Tab.{length-tab, get_d_tab, part_length}
use Rattle.memory.proofs.Laws.{never, local_at, write-fits}
use Rattle.memory.proofs.Facts.{Sound, ready_test}
use Rattle.memory.proofs.Frames.{ends_up, end_live}
use Rattle.memory.proofs.Pointers.{count-seen, pointer-seen, seen-local, seen-constant}
use Rattle.memory.proofs.Counts.{length-allocations, length-bytes}
use Rattle.memory.proofs.Bytes.{store_tables, write-seen, write_kept, read-seen}

-- the answer, where the access was granted
abbrev pub granted : {A : Type 0} → (Result Source Refusal) → Answer A → Answer A
granted (Ok (source.Local x)) a = a
granted (Ok (source.Constant k)) a = a
granted (Err n) a = refused n

aligned_divides : (o n : ℕ) → aligned_of o n ≡ divides n o
unfolding aligned_of
aligned_divides o zero = ap (λ k. eqb k 0) (sym (mod-zero o))
aligned_divides o (suc n) = simp (ne_eqb (suc n) 0 (λ e. omega arith))

-- 29 and 30
within-view : {A : Type 0} (start stop o n : ℕ) (a : Answer A) → stop ≤ 32768 → start ≤ stop
    → granted (from_store (within_of start stop o n)) a ≡ need (leb (o + n) (stop - start)) beyond_length (need (divides n o) misaligned a)
unfolding within_of need
within-view start stop o n a h k =
    let x = le-ltb 32768 stop h in
    let y = le-ltb stop start k in
    by_test (leb (o + n) (stop - start))
    (λ t. let c : o + n ≤ stop - start = leb-true _ _ t in
    let u = le-ltb (stop - start) n (omega arith) in
    let v = le-ltb (stop - start - n) o (omega arith) in
    by_test (divides n o)
    (λ d. simp (x, y, u, v, t, d, aligned_divides o n ∙ d))
    (λ d. simp (x, y, u, v, t, d, aligned_divides o n ∙ d)))
    (λ t. let c : stop - start < o + n = leb-false _ _ t in
    by_test (ltb (stop - start) n)
    (λ u. simp (x, y, u, t))
    (λ u. let w : n ≤ stop - start = ltb-false _ _ u in
    simp (x, y, u, lt-ltb (stop - start - n) o (omega arith), t)))

-- the believed checks, of a frame that stands
frame-access : {A : Type 0} (fs : List Frame) (i f j o n : ℕ) (a : Answer A) (G : Frame) → get_or fs i no_frame ≡ G → i < length fs
    → access fs i f j o n a
    ≡ need (eqb G.id f) frame_gone
    (need (ltb j (length G.allocations)) no_allocation
    (need (leb (o + n) (length (get_or G.allocations j []))) beyond_length (need (divides n o) misaligned a)))
unfolding access
frame-access fs i f j o n a G e h = simp (lt-ltb _ _ h, e)

stays : {A : Type 0} (b : Bool) (n : Refusal) (a : Answer A) → b ≡ true → need b n a ≡ a
unfolding need
stays b n a e = simp e

goes : {A : Type 0} (b : Bool) (n : Refusal) (a : Answer A) → b ≡ false → need b n a ≡ refused n
unfolding need
goes b n a e = simp e

module _ (t : Tables) (so : Sound t) where
  abbrev F : ℕ → Frame
  F = frame_in t.frames t.bounds t.store

  pub depth_is : length (view t).frames ≡ t.registers.depth
  unfolding view
  depth_is = length-tab t.registers.depth F

  pub frame_is : (i : ℕ) → i < t.registers.depth → get_or (view t).frames i no_frame ≡ F i
  unfolding view
  frame_is i h = get_d_tab t.registers.depth F i no_frame h

  pub bytes-are : (lo hi j : ℕ) → j < hi - lo → get_or (allocations_in t.bounds t.store lo hi) j [] ≡ bytes_of t.bounds t.store (lo + j)
  unfolding allocations_in
  bytes-are lo hi j h = get_d_tab (hi - lo) (λ k. bytes_of t.bounds t.store (lo + k)) j [] h

  -- 28, 29, 30
  ranked_view : {A : Type 0} (i j o n : ℕ) (a : Answer A) → i < t.registers.depth
      → granted (accessed_at (ranked_of t.frames i j) t.bounds o n) a
      ≡ need (ltb j (length (F i).allocations)) no_allocation
      (need (leb (o + n) (length (get_or (F i).allocations j []))) beyond_length (need (divides n o) misaligned a))
  unfolding ranked_of need
  ranked_view i j o n a h =
      let lo = get_or t.frames (i * 4 + 3) 0 in
      let hi = get_or t.frames (i * 4 + 7) 0 in
      let e1 = end_live t so i h in
      let e2 = so.few in
      let e3 = (so.each i h).first in
      let len : length (F i).allocations ≡ hi - lo = length-allocations t so lo hi in
      let x = le-ltb 512 hi (omega arith) in
      let y = le-ltb hi lo (omega arith) in
      by_test (leb (hi - lo) j)
      (λ u. simp (x, y, u, ap (λ k. ltb j k) len ∙ le-ltb j (hi - lo) (leb-true _ _ u)))
      (λ u. let c : j < hi - lo = leb-false _ _ u in
      let e4 = so.ends (lo + j) (omega arith) in
      let e5 = ends_up t so (lo + j + 1) (live t) (omega arith) (omega arith) in
      let w = so.used in
      let size : length (get_or (F i).allocations j []) ≡ bound t (lo + j + 1) - bound t (lo + j) = ap length (bytes-are lo hi j c) ∙ length-bytes t so (lo + j) (omega arith) in
      simp (x, y, u, ap (λ k. ltb j k) len ∙ lt-ltb j (hi - lo) c)
      (within-view (bound t (lo + j)) (bound t (lo + j + 1)) o n a (omega arith) (omega arith)
      ∙ sym (ap (λ k. need (leb (o + n) k) beyond_length (need (divides n o) misaligned a)) size)))

  beyond : {A : Type 0} (i f j o n : ℕ) (a : Answer A) → t.registers.depth ≤ i → access (view t).frames i f j o n a ≡ refused frame_gone
  unfolding access need
  beyond i f j o n a h = simp (ap (λ k. ltb i k) depth_is ∙ le-ltb i t.registers.depth h)

  -- 27, 28, 29, 30: a local access is the believed one
  pub local-view : {A : Type 0} (q : PointerRecord) (n : ℕ) (a : Answer A)
      → granted (local_of t.registers.depth t.frames t.bounds q n) a
      ≡ access (view t).frames q.index q.id q.allocation q.offset n a
  unfolding local_of standing_of
  local-view q n a =
      let d = t.registers.depth in
      by_test (leb d q.index)
      (λ u. simp u (sym (beyond q.index q.id q.allocation q.offset n a (leb-true _ _ u))))
      (λ u. let c : q.index < d = leb-false _ _ u in
      let r = frame-access (view t).frames q.index q.id q.allocation q.offset n a (F q.index) (frame_is q.index c) (rw depth_is c) in
      by_test (eqb (get_or t.frames (q.index * 4) 0) q.id)
      (λ v. simp (u, v) (ranked_view q.index q.allocation q.offset n a c ∙ sym (r ∙ stays (eqb (F q.index).id q.id) frame_gone _ v)))
      (λ v. simp (u, v) (sym (r ∙ goes (eqb (F q.index).id q.id) frame_gone _ v))))

-- ---- writes

from_store_local : (p : (Result ℕ Refusal)) (k : ℕ) → from_store p ≡ Ok (source.Constant k) → ⊥
from_store_local (Ok x) k e = let z : ◌≡◌ {A = ℕ} 0 1 = cc in omega arith
from_store_local (Err m) k e = never m (source.Constant k) e

accessed_local : (p : (Result ℕ Refusal)) (bo : List ℕ) (o n k : ℕ) → accessed_at p bo o n ≡ Ok (source.Constant k) → ⊥
accessed_local (Ok x) bo o n k e = from_store_local (within_of (get_or bo x 0) (get_or bo (x + 1) 0) o n) k e
accessed_local (Err m) bo o n k e = never m (source.Constant k) e

-- a local access never leads to a constant
local-local : (d : ℕ) (fr bo : List ℕ) (q : PointerRecord) (n k : ℕ) → local_of d fr bo q n ≡ Ok (source.Constant k) → ⊥
unfolding local_of
local-local d fr bo q n k e = accessed_local (standing_of d fr q) bo q.offset n k e

module _ (t : Tables) (so : Sound t) where
  is-ready : ready t ≡ true
  is-ready = ready_test _ _ _ _ _ _ so.ready

  -- what pointer p reads: not given out, a constant, or a local access
  not-given : (p n : ℕ) → t.registers.pointers ≤ p → read_access_of t p n ≡ Err not_given_out
  unfolding read_access_of
  not-given p n h = simp (is-ready, le-leb _ _ h)

  pub through-constant : (p n : ℕ) → p < t.registers.pointers → eqb (pointer_at t.pointers p).kind 0 ≡ false
      → read_access_of t p n ≡ Ok (source.Constant (pointer_at t.pointers p).index)
  unfolding read_access_of
  through-constant p n h k = simp (is-ready, lt-leb _ _ h, k)

  pub through-local : (p n : ℕ) → p < t.registers.pointers → eqb (pointer_at t.pointers p).kind 0 ≡ true
      → read_access_of t p n ≡ local_of t.registers.depth t.frames t.bounds (pointer_at t.pointers p) n
  unfolding read_access_of
  through-local p n h k = simp (is-ready, lt-leb _ _ h, k)

  -- the believed memory's first test
  given_test : (p : ℕ) → p < t.registers.pointers → ltb p (length (view t).pointers) ≡ true
  given_test p h = ap (λ n. ltb p n) (count-seen t so) ∙ lt-ltb p t.registers.pointers h

  beyond_test : (p : ℕ) → t.registers.pointers ≤ p → ltb p (length (view t).pointers) ≡ false
  beyond_test p h = ap (λ n. ltb p n) (count-seen t so) ∙ le-ltb p t.registers.pointers h

  write-constant : (k : ℕ) (bytes : List ℕ) → write_at (view t) (constant k) bytes ≡ refused through_constant
  unfolding write_at
  write-constant k bytes = refl

  write-local : (q : PointerRecord) (bytes : List ℕ) (r : (Result Source Refusal)) → local_of t.registers.depth t.frames t.bounds q (length bytes) ≡ r
      → after_write t (put_at (for_write r) t.store bytes)
      ≡ granted r (ok (written (view t) q.index q.allocation q.offset bytes))
  unfolding after_write
  write-local q bytes (Ok (source.Local x)) e =
      let a = local_at t.registers.depth t.frames t.bounds q (length bytes) x e in
      let k = a.rank in
      let s = a.standing in
      let rk = s.ranked.rank in
      let w = a.within in
      let at : x ≡ bound t (get_or t.frames (q.index * 4 + 3) 0 + q.allocation) + q.offset = w.place ∙ ap (λ j. bound t j + q.offset) rk in
      let fits : q.offset + length bytes ≤ bound t (get_or t.frames (q.index * 4 + 3) 0 + q.allocation + 1) - bound t (get_or t.frames (q.index * 4 + 3) 0 + q.allocation) =
      rw rk at w.fits in
      ap (λ y. ok (view (store_tables t (paste t.store y bytes (length bytes))))) at
      ∙ ap ok (write-seen t so q.index q.allocation q.offset bytes s.stands s.ranked.has fits)
  write-local q bytes (Ok (source.Constant k)) e = absurd (local-local _ _ _ q (length bytes) k e)
  write-local q bytes (Err m) e = refl

  write-at : (q : PointerRecord) (bytes : List ℕ)
      → access (view t).frames q.index q.id q.allocation q.offset (length bytes) (ok (written (view t) q.index q.allocation q.offset bytes))
      ≡ write_at (view t) (local q.index q.id q.allocation q.offset) bytes
  unfolding write_at
  write-at q bytes = refl

  write-refused : (n : Refusal) (l : List ℕ) → after_write t (both (Err n) l) ≡ refused n
  unfolding after_write
  write-refused n l = refl

  -- Writing is the believed one.
  pub write_view : (p : ℕ) (bytes : List ℕ) → after_write t (written_of t p bytes) ≡ write_bytes (view t) p bytes
  unfolding written_of write_access_of write_bytes
  write_view p bytes =
      let n = length bytes in
      let q = pointer_at t.pointers p in
      by_test (leb t.registers.pointers p)
      (λ u. let c = leb-true _ _ u in
      ap (λ r. after_write t (put_at (for_write r) t.store bytes)) (not-given p n c) ∙ write-refused not_given_out t.store ∙ sym (goes _ not_given_out _ (beyond_test p c)))
      (λ u. let c : p < t.registers.pointers = leb-false _ _ u in
      by_test (eqb q.kind 0)
      (λ v. ap (λ r. after_write t (put_at (for_write r) t.store bytes)) (through-local p n c v)
      ∙ write-local q bytes (local_of t.registers.depth t.frames t.bounds q n) refl
      ∙ local-view t so q n (ok (written (view t) q.index q.allocation q.offset bytes))
      ∙ write-at q bytes
      ∙ sym (stays _ not_given_out _ (given_test p c) ∙ ap (λ x. write_at (view t) x bytes) (pointer-seen t so p c ∙ seen-local t so q v)))
      (λ v. ap (λ r. after_write t (put_at (for_write r) t.store bytes)) (through-constant p n c v)
      ∙ write-refused through_constant t.store
      ∙ sym (stays _ not_given_out _ (given_test p c) ∙ ap (λ x. write_at (view t) x bytes) (pointer-seen t so p c ∙ seen-constant t so q v) ∙ write-constant q.index bytes)))

  put-kept : (pl : (Result ℕ Refusal)) (bytes : List ℕ) → ((x : ℕ) → pl ≡ Ok x → x + length bytes ≤ length t.store)
      → (put_at pl t.store bytes).answer ≡ (Ok tt) → Sound (store_tables t (put_at pl t.store bytes).table)
  put-kept (Ok x) bytes f e = write_kept t so _ (length-paste t.store x bytes (length bytes) (f x refl) (omega arith))
  put-kept (Err n) bytes f e = absurd (never n tt e)

  pub write-sound : (p : ℕ) (bytes : List ℕ) → (written_of t p bytes).answer ≡ (Ok tt) → Sound (store_tables t (written_of t p bytes).table)
  unfolding written_of
  write-sound p bytes e = put-kept (write_access_of t p (length bytes)) bytes (λ x. write-fits t p (length bytes) x) e

-- ---- reads

-- the constants' extents lie in the image's bytes
abbrev pub Extents : (raw extents : List ℕ) → Type 0
Extents raw extents = (k : ℕ) → k < length extents / 2 → get_or extents (k * 2) 0 + get_or extents (k * 2 + 1) 0 ≤ length raw

read_done : (l : List ℕ) → after_read (both (Ok tt) l) ≡ ok l
unfolding after_read
read_done l = refl

read-refused : (n : Refusal) (l : List ℕ) → after_read (both (Err n) l) ≡ refused n
unfolding after_read
read-refused n l = refl

-- 40, 29
pub constant-view : (raw extents : List ℕ) → Extents raw extents → (k : ℕ) (bytes : List ℕ)
    → after_read (constant_of k bytes raw extents) ≡ read_constant (constants_in raw extents) k (length bytes)
unfolding constant_of constant_access_of read_constant constants_in need after_read
constant-view raw extents good k bytes =
    let n = length bytes in
    let f : ℕ → List ℕ = λ j. part raw (get_or extents (j * 2) 0) (get_or extents (j * 2 + 1) 0) in
    let len = length-tab (length extents / 2) f in
    by_test (leb (length extents / 2) k)
    (λ u. simp (u, ap (λ x. ltb k x) len ∙ le-ltb k (length extents / 2) (leb-true _ _ u)))
    (λ u. let c : k < length extents / 2 = leb-false _ _ u in
    let s = get_or extents (k * 2) 0 in
    let l = get_or extents (k * 2 + 1) 0 in
    let w : s + l ≤ length raw = good k c in
    let g : get_or (tab (length extents / 2) f) k [] ≡ part raw s l = get_d_tab (length extents / 2) f k [] c in
    let p : length (part raw s l) ≡ l = part_length raw s l w in
    let x = le-ltb (length raw) s (omega arith) in
    let y = le-ltb (length raw - s) l (omega arith) in
    let z = ap (λ i. ltb k i) len ∙ lt-ltb k (length extents / 2) c in
    by_test (ltb l n)
    (λ v. simp (u, x, y, v, z, g, ap (λ i. leb n i) p ∙ lt-leb n l (ltb-true _ _ v)))
    (λ v. let h : n ≤ l = ltb-false _ _ v in
    simp (u, x, y, v, z, g, ap (λ i. leb n i) p ∙ le-leb n l h) (ap ok (sym (take-take n l (drop s raw) h)))))

-- what a read of n bytes gives, by where it takes them
abbrev pub bytes_from : (Result Source Refusal) → (store : List ℕ) → (constants : List (List ℕ)) → (n : ℕ) → Answer (List ℕ)
bytes_from (Ok (source.Local x)) store constants n = ok (part store x n)
bytes_from (Ok (source.Constant k)) store constants n = read_constant constants k n
bytes_from (Err m) store constants n = refused m

module _ (t : Tables) (so : Sound t) (constants : List (List ℕ)) where
  read-local : (q : PointerRecord) (n : ℕ) (r : (Result Source Refusal)) → local_of t.registers.depth t.frames t.bounds q n ≡ r
      → bytes_from r t.store constants n ≡ granted r (ok (take n (drop q.offset (M.bytes_at (view t).frames q.index q.allocation))))
  read-local q n (Ok (source.Local x)) e =
      let a = local_at t.registers.depth t.frames t.bounds q n x e in
      let s = a.standing in
      let rk = s.ranked.rank in
      let w = a.within in
      let at : x ≡ bound t (get_or t.frames (q.index * 4 + 3) 0 + q.allocation) + q.offset = w.place ∙ ap (λ j. bound t j + q.offset) rk in
      let fits : q.offset + n ≤ bound t (get_or t.frames (q.index * 4 + 3) 0 + q.allocation + 1) - bound t (get_or t.frames (q.index * 4 + 3) 0 + q.allocation) =
      rw rk at w.fits in
      ap (λ y. ok (part t.store y n)) at ∙ ap ok (read-seen t so q.index q.allocation q.offset n s.stands s.ranked.has fits)
  read-local q n (Ok (source.Constant k)) e = absurd (local-local _ _ _ q n k e)
  read-local q n (Err m) e = refl

  read_at_local : (q : PointerRecord) (n : ℕ)
      → access (view t).frames q.index q.id q.allocation q.offset n (ok (take n (drop q.offset (M.bytes_at (view t).frames q.index q.allocation))))
      ≡ read_at constants (view t).frames (local q.index q.id q.allocation q.offset) n
  unfolding read_at
  read_at_local q n = refl

  read_at_constant : (k n : ℕ) → read_constant constants k n ≡ read_at constants (view t).frames (constant k) n
  unfolding read_at
  read_at_constant k n = refl

  -- Reading is the believed one, whatever the constants are.
  pub read_access_view : (p n : ℕ) → bytes_from (read_access_of t p n) t.store constants n ≡ read_bytes constants (view t) p n
  unfolding read_bytes
  read_access_view p n =
      let q = pointer_at t.pointers p in
      by_test (leb t.registers.pointers p)
      (λ u. let c = leb-true _ _ u in
      ap (λ r. bytes_from r t.store constants n) (not-given t so p n c) ∙ sym (goes _ not_given_out _ (beyond_test t so p c)))
      (λ u. let c : p < t.registers.pointers = leb-false _ _ u in
      by_test (eqb q.kind 0)
      (λ v. ap (λ r. bytes_from r t.store constants n) (through-local t so p n c v)
      ∙ read-local q n (local_of t.registers.depth t.frames t.bounds q n) refl
      ∙ local-view t so q n (ok (take n (drop q.offset (M.bytes_at (view t).frames q.index q.allocation))))
      ∙ read_at_local q n
      ∙ sym (stays _ not_given_out _ (given_test t so p c) ∙ ap (λ x. read_at constants (view t).frames x n) (pointer-seen t so p c ∙ seen-local t so q v)))
      (λ v. ap (λ r. bytes_from r t.store constants n) (through-constant t so p n c v)
      ∙ read_at_constant q.index n
      ∙ sym (stays _ not_given_out _ (given_test t so p c) ∙ ap (λ x. read_at constants (view t).frames x n) (pointer-seen t so p c ∙ seen-constant t so q v))))

get_seen : (raw extents : List ℕ) → Extents raw extents → (r : (Result Source Refusal)) (store bytes : List ℕ)
    → after_read (get_at r store bytes raw extents) ≡ bytes_from r store (constants_in raw extents) (length bytes)
get_seen raw extents good (Ok (source.Local x)) store bytes = read_done _
get_seen raw extents good (Ok (source.Constant k)) store bytes = constant-view raw extents good k bytes
get_seen raw extents good (Err m) store bytes = read-refused m bytes

-- Reading into lent bytes is the believed one, with the constants of the image.
pub read_view : (t : Tables) → Sound t → (raw extents : List ℕ) → Extents raw extents → (p : ℕ) (bytes : List ℕ)
    → after_read (read_of t p bytes raw extents) ≡ read_bytes (constants_in raw extents) (view t) p (length bytes)
unfolding read_of
read_view t so raw extents good p bytes =
    get_seen raw extents good (read_access_of t p (length bytes)) t.store bytes ∙ read_access_view t so (constants_in raw extents) p (length bytes)
