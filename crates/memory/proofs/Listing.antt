-- The live list through the view: record by record the believed one; and live is what 25 to 28 say.
use Rattle.std.specs.Prelude.{Ok}
use mathlib.Core.Path.{◌≡◌, refl, ap, ◌∙◌, sym}
use mathlib.Core.List.{List, [], ◌∷◌, ◌++◌, map, map-append}
use mathlib.Core.Bool.{Bool, true, false, ◌&&◌}
use Prim.Native.Nat.{ℕ, ◌+◌, ◌*◌, ◌-◌, ◌<◌, ◌≤◌, zero, suc}
use native.Mathlib.Nat.{not-suc-le-zero}
use native.Mathlib.Omega.{arith}
use lib.ListN.{get_or, set, length, length-set}
use lib.Seq.{get_or-set_same, get_or-set_other}
use lib.Dec.{ltb, leb, eqb}
use borrow.Author.Tests.{leb-true, leb-false, eqb-true, eqb-false, lt-ltb, le-ltb}
use Rattle.value.specs.declared.refusal.Refusal.{Refusal}
use Rattle.value.specs.Answer.{Answer, ok, refused, need}
use Rattle.value.specs.Refusal.{through_constant, frame_gone, no_allocation, beyond_length, misaligned, number_of}
use Rattle.value.proofs.Truth.{both_true, no}
use Rattle.memory.specs.Memory.{Frame, Pointer, constant, local, Memory, stands, divides, access, written, write_at, write_bytes, live_pointer, live_list}
use Rattle.memory.specs.Memory as M
use Rattle.memory.specs.Live.{listed}
use Rattle.memory.specs.Tables.{Tables, pointer_at, ranked_of, standing_of, flag_of, record_of, filled, Columns, filled_of, roomy_of, listed_of}
use Rattle.memory.specs.View.{tab, frame_in, pointer_in, view, live_in}
use Rattle.memory.specs.declared.PointerRecord.{PointerRecord}
use Rattle.memory.specs.declared.LiveRecord.{LiveRecord}
use Rattle.memory.proofs.Every.{by_test}
use Rattle.memory.proofs.Tab.{tab-same}
use Rattle.memory.proofs.Facts.{Sound, ready_test}
use Rattle.memory.proofs.Last.{roomy_of_lem}
use Rattle.memory.proofs.Frames.{end_live}
use Rattle.memory.proofs.Pointers.{seen-local, seen-constant}
use Rattle.memory.proofs.Counts.{length-allocations}
use Rattle.memory.proofs.Access.{depth_is, frame_is}
use Rattle.memory.proofs.Allocating.{lt_of_ne}

-- ---- filled slices

pub length-filled : (n : ℕ) (f : ℕ → ℕ) (l : List ℕ) → length (filled n f l) ≡ length l
unfolding filled
length-filled zero f l = refl
length-filled (suc n) f l = length-set (filled n f l) n (f n) ∙ length-filled n f l

pub filled_at : (n : ℕ) (f : ℕ → ℕ) (l : List ℕ) (p : ℕ) → p < n → n ≤ length l → get_or (filled n f l) p 0 ≡ f p
unfolding filled
filled_at zero f l p h k = absurd (not-suc-le-zero h)
filled_at (suc n) f l p h k =
    let len = length-filled n f l in
    by_test (eqb p n)
    (λ t. let e : p ≡ n = eqb-true p n t in
    ap (λ j. get_or (set (filled n f l) n (f n)) j 0) e ∙ get_or-set_same (filled n f l) n (f n) 0 (omega arith) ∙ ap f (sym e))
    (λ t. let e = eqb-false p n t in
    get_or-set_other (filled n f l) n p (f n) 0 e ∙ filled_at n f l p (lt_of_ne (omega arith) (λ q. e (sym q))) (omega arith))

-- the rest of a slice stays
pub filled-beyond : (n : ℕ) (f : ℕ → ℕ) (l : List ℕ) (p : ℕ) → n ≤ p → get_or (filled n f l) p 0 ≡ get_or l p 0
unfolding filled
filled-beyond zero f l p h = refl
filled-beyond (suc n) f l p h = get_or-set_other (filled n f l) n p (f n) 0 (λ e. omega arith) ∙ filled-beyond n f l p (omega arith)

-- ---- one record

listed_same : {b b' : Bool} {i i' j j' o o' : ℕ} → b ≡ b' → i ≡ i' → j ≡ j' → o ≡ o' → listed b i j o ≡ listed b' i' j' o'
listed_same p q r s = cc

module _ (t : Tables) (so : Sound t) where
  abbrev F : ℕ → Frame
  F = frame_in t.frames t.bounds t.store

  ranked_flag : (i j : ℕ) → i < t.registers.depth → eqb (flag_of (ranked_of t.frames i j)) 1 ≡ ltb j (length (F i).allocations)
  unfolding ranked_of
  ranked_flag i j h =
      let lo = get_or t.frames (i * 4 + 3) 0 in
      let hi = get_or t.frames (i * 4 + 7) 0 in
      let e1 = end_live t so i h in
      let e2 = so.few in
      let e3 = (so.each i h).first in
      let len : length (F i).allocations ≡ hi - lo = length-allocations t so lo hi in
      let x = le-ltb 512 hi (omega arith) in
      let y = le-ltb hi lo (omega arith) in
      by_test (leb (hi - lo) j)
      (λ u. simp (x, y, u) (sym (ap (λ k. ltb j k) len ∙ le-ltb j (hi - lo) (leb-true _ _ u))))
      (λ u. simp (x, y, u) (sym (ap (λ k. ltb j k) len ∙ lt-ltb j (hi - lo) (leb-false _ _ u))))

  standing-flag : (q : PointerRecord)
      → eqb (flag_of (standing_of t.registers.depth t.frames q)) 1
      ≡ (stands (view t).frames q.index q.id && ltb q.allocation (length (M.frame_at (view t).frames q.index).allocations))
  unfolding standing_of
  standing-flag q =
      let d = t.registers.depth in
      by_test (leb d q.index)
      (λ u. simp (u, ap (λ k. ltb q.index k) (depth_is t so) ∙ le-ltb q.index d (leb-true _ _ u)))
      (λ u. let c : q.index < d = leb-false _ _ u in
      let g = frame_is t so q.index c in
      let s = ap (λ k. ltb q.index k) (depth_is t so) ∙ lt-ltb q.index d c in
      by_test (eqb (get_or t.frames (q.index * 4) 0) q.id)
      (λ v. simp (u, v, s, g) (ranked_flag q.index q.allocation c))
      (λ v. simp (u, v, s, g)))

  -- the record of a pointer is the believed one
  record_view : (q : PointerRecord)
      → listed (eqb (record_of t.registers.depth t.frames q).live 1) (record_of t.registers.depth t.frames q).frame
      (record_of t.registers.depth t.frames q).allocation (record_of t.registers.depth t.frames q).offset
      ≡ live_pointer (view t).frames (pointer_in q)
  unfolding record_of live_pointer
  record_view q =
      by_test (eqb q.kind 0)
      (λ k. simp (k, seen-local t so q k) (listed_same (standing-flag q) refl refl refl))
      (λ k. simp (k, seen-constant t so q k))

map-tab : {A B : Type 0} (g : A → B) (n : ℕ) (f : ℕ → A) → map g (tab n f) ≡ tab n (λ i. g (f i))
unfolding tab
map-tab g zero f = refl
map-tab g (suc n) f = map-append g (tab n f) (f n ∷ []) ∙ ap (λ l. l ++ (g (f n) ∷ [])) (map-tab g n f)

-- ---- the list

module _ (t : Tables) (so : Sound t) (l f a o : List ℕ)
    (room : roomy_of t.registers.pointers (length l) (length f) (length a) (length o) ≡ true) where
  abbrev n : ℕ
  n = t.registers.pointers

  abbrev slices : Columns
  slices = filled_of t.registers.depth n t.frames t.pointers l f a o

  -- with room for all pointers the list is made
  pub listed-is : ((listed_of t l f a o).answer ≡ (Ok tt)) × ((listed_of t l f a o).slices ≡ slices)
  unfolding listed_of
  listed-is = let r = ready_test _ _ _ _ _ _ so.ready in (simp (r, room), simp (r, room))

  record_at_lem : (p : ℕ) → p < n → live_in slices p ≡ live_pointer (view t).frames (pointer_in (pointer_at t.pointers p))
  unfolding live_in
  record_at_lem p h =
      let r = roomy_of_lem _ _ _ _ _ room in
      let g : ℕ → LiveRecord = λ q. record_of t.registers.depth t.frames (pointer_at t.pointers q) in
      listed_same (ap (λ x. eqb x 1) (filled_at n (λ q. (g q).live) l p h r.0)) (filled_at n (λ q. (g q).frame) f p h r.1)
      (filled_at n (λ q. (g q).allocation) a p h r.2) (filled_at n (λ q. (g q).offset) o p h r.3)
      ∙ record_view t so (pointer_at t.pointers p)

  -- The live list is the believed one.
  pub live_view : tab n (live_in slices) ≡ live_list (view t)
  unfolding live_list view
  live_view =
      tab-same n (live_in slices) (λ p. live_pointer (tab t.registers.depth (frame_in t.frames t.bounds t.store)) (pointer_in (pointer_at t.pointers p))) (λ p h. record_at_lem p h)
      ∙ sym (map-tab (live_pointer (tab t.registers.depth (frame_in t.frames t.bounds t.store))) n (λ p. pointer_in (pointer_at t.pointers p)))

-- ---- what live means

-- a refusal by 25 to 28
abbrev pub Early : Refusal → Type 0
Early r = (25 ≤ number_of r) × (number_of r ≤ 28)

pub record Refused (A : Type 0) (a : Answer A) : Type 0 where
  pub why : Refusal
  pub is : a ≡ refused why
  pub early : Early why

same_number : {A : Type 0} (n : Refusal) (r : Refusal) → ◌≡◌ {A = Answer A} (refused n) (refused r) → n ≡ r
same_number n r e = cc

never_ok : {A : Type 0} (a : A) (r : Refusal) → ◌≡◌ {A = Answer A} (ok a) (refused r) → ⊥
never_ok a r e = let z : ◌≡◌ {A = ℕ} 0 1 = cc in omega arith

later : {A : Type 0} (x y : Bool) (a : A) (r : Refusal) → ◌≡◌ {A = Answer A} (need x beyond_length (need y misaligned (ok a))) (refused r) → Early r → ⊥
unfolding need
later true true a r e h = never_ok a r e
later true false a r e h = let k = ap number_of (same_number misaligned r e) in let u = h.1 in omega arith
later false y a r e h = let k = ap number_of (same_number beyond_length r e) in let u = h.1 in omega arith

both_false : (x y : Bool) → (x && y) ≡ false → x ≡ true → y ≡ false
both_false true y e h = e
both_false false y e h = let z : ◌≡◌ {A = ℕ} 0 1 = cc in absurd (omega arith)

module _ (m : Memory) where
  -- of a live pointer no write is refused by 25 to 28, whatever its bytes
  live-local : (i f j o : ℕ) (bytes : List ℕ) (r : Refusal) → (live_pointer m.frames (local i f j o)).live ≡ true
      → write_at m (local i f j o) bytes ≡ refused r → Early r → ⊥
  unfolding live_pointer write_at access need
  live-local i f j o bytes r l e h =
      let b = both_true (stands m.frames i f) (ltb j (length (M.frame_at m.frames i).allocations)) l in
      later (leb (o + length bytes) (length (M.bytes_at m.frames i j))) (divides (length bytes) o) (written m i j o bytes) r (simp (b.0, b.1) at e) h

  dead_local : (i f j o : ℕ) (bytes : List ℕ) → (live_pointer m.frames (local i f j o)).live ≡ false
      → Refused Memory (write_at m (local i f j o) bytes)
  unfolding live_pointer write_at access need
  dead_local i f j o bytes l =
      by_test (stands m.frames i f)
      (λ s. let c = both_false _ _ l s in record { why = no_allocation; is = simp (s, c); early = (omega arith, omega arith) })
      (λ s. record { why = frame_gone; is = simp s; early = (omega arith, omega arith) })

  not_live : (k : ℕ) → (live_pointer m.frames (constant k)).live ≡ true → ⊥
  unfolding live_pointer
  not_live k e = no e

  no_write : (k : ℕ) (bytes : List ℕ) → write_at m (constant k) bytes ≡ refused through_constant
  unfolding write_at
  no_write k bytes = refl

  live_at : (q : Pointer) (bytes : List ℕ) (r : Refusal) → (live_pointer m.frames q).live ≡ true → write_at m q bytes ≡ refused r → Early r → ⊥
  live_at (constant k) bytes r l e h = not_live k l
  live_at (local i f j o) bytes r l e h = live-local i f j o bytes r l e h

  dead_at : (q : Pointer) (bytes : List ℕ) → (live_pointer m.frames q).live ≡ false → Refused Memory (write_at m q bytes)
  dead_at (constant k) bytes l = record { why = through_constant; is = no_write k bytes; early = (omega arith, omega arith) }
  dead_at (local i f j o) bytes l = dead_local i f j o bytes l

  -- Live is true exactly when a write of any size through that number is refused with none of 25 to 28.
  pub live_means : (p : ℕ) → p < length m.pointers → (bytes : List ℕ) (r : Refusal) → (live_pointer m.frames (M.pointer_at m p)).live ≡ true
      → write_bytes m p bytes ≡ refused r → Early r → ⊥
  unfolding write_bytes need
  live_means p h bytes r l e k = live_at (M.pointer_at m p) bytes r l (simp (lt-ltb _ _ h) at e) k

  pub dead_means : (p : ℕ) → p < length m.pointers → (bytes : List ℕ) → (live_pointer m.frames (M.pointer_at m p)).live ≡ false
      → Refused Memory (write_bytes m p bytes)
  unfolding write_bytes need
  dead_means p h bytes l = rw (lt-ltb _ _ h) (dead_at (M.pointer_at m p) bytes l)
