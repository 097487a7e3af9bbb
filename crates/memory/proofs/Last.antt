-- A test of many parts, all but the last of which hold, is its last part.
use mathlib.Core.Path.{◌≡◌}
use mathlib.Core.List.{List}
use mathlib.Core.Bool.{true}
use Prim.Native.Nat.{ℕ, ◌*◌, ◌<◌, ◌≤◌}
use lib.ListN.{get_or}
use lib.Dec.{leb}
use borrow.Author.Tests.{lt-ltb, le-leb, ne_eqb, leb-true}
use Rattle.memory.specs.Tables.{Tables, ready, live, frame_word, every, id_above, frame_ok, pointers_ok, ends_ok, allocations_ok, memory_ok, roomy_of}
use Rattle.value.proofs.Truth.{both_true}

pub frame-last : (fr : List ℕ) (d counter i : ℕ) → get_or fr (i * 4) 0 < id_above fr d counter i → frame_word fr i 1 ≤ 4096 → frame_word fr i 2 ≤ 256
    → frame_ok fr d counter i ≡ leb (frame_word fr i 3) (frame_word fr i 7)
unfolding frame_ok
frame-last fr d counter i a b c = simp (lt-ltb _ _ a, le-leb _ _ b, le-leb _ _ c)

pub memory-last : (t : Tables) → ready t ≡ true → (t.registers.depth ≡ 0 → ⊥) → t.registers.counter ≤ 4294967295
    → ends_ok (get_or t.frames 0 0) (get_or t.frames 3 0) (get_or t.bounds 0 0) ≡ true
    → every t.registers.depth (frame_ok t.frames t.registers.depth t.registers.counter) ≡ true
    → allocations_ok (live t) t.bounds ≡ true
    → memory_ok t ≡ every t.registers.pointers (pointers_ok t.pointers)
unfolding memory_ok
memory-last t a b c d e f = simp (a, ne_eqb _ _ b, le-leb _ _ c, d, e, f)

-- ---- the live list

pub roomy_of_lem : (n l f a o : ℕ) → roomy_of n l f a o ≡ true → (n ≤ l) × (n ≤ f) × (n ≤ a) × (n ≤ o)
unfolding roomy_of
roomy_of_lem n l f a o e =
    let x = both_true (leb n l) _ e in
    let y = both_true (leb n f) _ x.1 in
    let z = both_true (leb n a) (leb n o) y.1 in
    (leb-true _ _ x.0, leb-true _ _ y.0, leb-true _ _ z.0, leb-true _ _ z.1)
