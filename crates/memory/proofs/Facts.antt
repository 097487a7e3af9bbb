-- The memory's part of a sound state as facts, both ways to the test.
use mathlib.Core.Path.{◌≡◌, ◌∙◌}
use mathlib.Core.List.{List}
use mathlib.Core.Bool.{true, not}
use Prim.Native.Nat.{ℕ, ◌+◌, ◌*◌, ◌<◌, ◌≤◌}
use native.Mathlib.Omega.{arith}
use lib.ListN.{get_or, length}
use lib.Dec.{ltb, leb, eqb}
use borrow.Author.Tests.{ltb-true, leb-true, eqb-true, eqb-false, le-leb, eq-eqb, not-true}
use Rattle.memory.specs.Tables.{Tables, ready, ready_of, live, every, id_above, frame_ok, bound_ok, pointers_ok, ends_ok, allocations_ok, memory_ok}
use Rattle.memory.proofs.Laws.{Ready, ready_of_lem}
use Rattle.memory.proofs.Every.{every-at, every-all}
use Rattle.memory.proofs.Last.{frame-last, memory-last}
use Rattle.value.proofs.Truth.{both_true}

pub record FrameSound (fr : List ℕ) (d counter i : ℕ) : Type 0 where
  pub id : get_or fr (i * 4) 0 < id_above fr d counter i
  pub place : get_or fr (i * 4 + 1) 0 ≤ 4096
  pub variable : get_or fr (i * 4 + 2) 0 ≤ 256
  pub first : get_or fr (i * 4 + 3) 0 ≤ get_or fr (i * 4 + 7) 0

pub record Sound (t : Tables) : Type 0 where
  pub ready : Ready t.registers.depth t.registers.pointers (length t.store) (length t.frames) (length t.bounds) (length t.pointers)
  pub some : 0 < t.registers.depth
  pub counted : t.registers.counter ≤ 4294967295
  pub root : get_or t.frames 0 0 ≡ 0
  pub bottom : get_or t.frames 3 0 ≡ 0
  pub start : get_or t.bounds 0 0 ≡ 0
  pub each : (i : ℕ) → i < t.registers.depth → FrameSound t.frames t.registers.depth t.registers.counter i
  pub few : get_or t.frames (t.registers.depth * 4 + 3) 0 ≤ 512
  pub ends : (k : ℕ) → k < get_or t.frames (t.registers.depth * 4 + 3) 0 → get_or t.bounds k 0 ≤ get_or t.bounds (k + 1) 0
  pub used : get_or t.bounds (get_or t.frames (t.registers.depth * 4 + 3) 0) 0 ≤ 32768
  pub kinds : (p : ℕ) → p < t.registers.pointers → pointers_ok t.pointers p ≡ true

pub ready_test : (d n s f b p : ℕ) → Ready d n s f b p → ready_of d n s f b p ≡ true
unfolding ready_of
ready_test d n s f b p h =
    simp (eq-eqb _ _ h.store, eq-eqb _ _ h.frames, eq-eqb _ _ h.bounds, eq-eqb _ _ h.pointers, le-leb _ _ h.deep, le-leb _ _ h.given)

frame-of : (fr : List ℕ) (d counter i : ℕ) → frame_ok fr d counter i ≡ true → FrameSound fr d counter i
unfolding frame_ok
frame-of fr d counter i e =
    let a = both_true (ltb (get_or fr (i * 4) 0) (id_above fr d counter i)) _ e in
    let b = both_true (leb (get_or fr (i * 4 + 1) 0) 4096) _ a.1 in
    let c = both_true (leb (get_or fr (i * 4 + 2) 0) 256) (leb (get_or fr (i * 4 + 3) 0) (get_or fr (i * 4 + 7) 0)) b.1 in
    record { id = ltb-true _ _ a.0; place = leb-true _ _ b.0; variable = leb-true _ _ c.0; first = leb-true _ _ c.1 }

frame_test : (fr : List ℕ) (d counter i : ℕ) → FrameSound fr d counter i → frame_ok fr d counter i ≡ true
frame_test fr d counter i h = frame-last fr d counter i h.id h.place h.variable ∙ le-leb _ _ h.first

ends_of : (id first start : ℕ) → ends_ok id first start ≡ true → (id ≡ 0) × (first ≡ 0) × (start ≡ 0)
unfolding ends_ok
ends_of id first start e =
    let a = both_true (eqb id 0) _ e in
    let b = both_true (eqb first 0) (eqb start 0) a.1 in
    (eqb-true _ _ a.0, eqb-true _ _ b.0, eqb-true _ _ b.1)

ends_test : (id first start : ℕ) → id ≡ 0 → first ≡ 0 → start ≡ 0 → ends_ok id first start ≡ true
unfolding ends_ok
ends_test id first start a b c = simp (eq-eqb _ _ a, eq-eqb _ _ b, eq-eqb _ _ c)

bound_of : (bo : List ℕ) (k : ℕ) → bound_ok bo k ≡ true → get_or bo k 0 ≤ get_or bo (k + 1) 0
unfolding bound_ok
bound_of bo k e = leb-true _ _ e

bound_test : (bo : List ℕ) (k : ℕ) → get_or bo k 0 ≤ get_or bo (k + 1) 0 → bound_ok bo k ≡ true
unfolding bound_ok
bound_test bo k h = le-leb _ _ h

allocations-of : (n : ℕ) (bo : List ℕ) → allocations_ok n bo ≡ true
    → (n ≤ 512) × ((k : ℕ) → k < n → get_or bo k 0 ≤ get_or bo (k + 1) 0) × (get_or bo n 0 ≤ 32768)
unfolding allocations_ok
allocations-of n bo e =
    let a = both_true (leb n 512) _ e in
    let b = both_true (every n (bound_ok bo)) (leb (get_or bo n 0) 32768) a.1 in
    (leb-true _ _ a.0, (λ k h. bound_of bo k (every-at n (bound_ok bo) b.0 k h)), leb-true _ _ b.1)

allocations_test : (n : ℕ) (bo : List ℕ) → n ≤ 512 → ((k : ℕ) → k < n → get_or bo k 0 ≤ get_or bo (k + 1) 0) → get_or bo n 0 ≤ 32768
    → allocations_ok n bo ≡ true
unfolding allocations_ok
allocations_test n bo a b c = simp (le-leb _ _ a, every-all n (bound_ok bo) (λ k h. bound_test bo k (b k h)), le-leb _ _ c)

pos_of : (d : ℕ) → not (eqb d 0) ≡ true → 0 < d
pos_of d e = let n = eqb-false d 0 (not-true (eqb d 0) e) in omega arith

-- the test gives the facts
pub sound-of : (t : Tables) → memory_ok t ≡ true → Sound t
unfolding memory_ok
sound-of t e =
    let a = both_true (ready t) _ e in
    let b = both_true (not (eqb t.registers.depth 0)) _ a.1 in
    let c = both_true (leb t.registers.counter 4294967295) _ b.1 in
    let d = both_true (ends_ok (get_or t.frames 0 0) (get_or t.frames 3 0) (get_or t.bounds 0 0)) _ c.1 in
    let f = both_true (every t.registers.depth (frame_ok t.frames t.registers.depth t.registers.counter)) _ d.1 in
    let g = both_true (allocations_ok (live t) t.bounds) (every t.registers.pointers (pointers_ok t.pointers)) f.1 in
    let x = ends_of _ _ _ d.0 in
    let y = allocations-of _ _ g.0 in
    record {
      ready = ready_of_lem _ _ _ _ _ _ a.0;
      some = pos_of _ b.0;
      counted = leb-true _ _ c.0;
      root = x.0;
      bottom = x.1;
      start = x.2;
      each = λ i h. frame-of _ _ _ i (every-at t.registers.depth (frame_ok t.frames t.registers.depth t.registers.counter) f.0 i h);
      few = y.0;
      ends = y.1;
      used = y.2;
      kinds = every-at t.registers.pointers (pointers_ok t.pointers) g.1;
    }

-- and the facts the test
pub sound_test : (t : Tables) → Sound t → memory_ok t ≡ true
sound_test t h =
    memory-last t (ready_test _ _ _ _ _ _ h.ready) (λ e. let p = h.some in omega arith) h.counted
    (ends_test _ _ _ h.root h.bottom h.start)
    (every-all t.registers.depth _ (λ i k. frame_test _ _ _ i (h.each i k)))
    (allocations_test _ _ h.few h.ends h.used)
    ∙ every-all t.registers.pointers _ h.kinds

-- ---- what never falls
