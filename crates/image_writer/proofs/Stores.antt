-- Bytes stored in a buffer, one field after another.
use Rattle.std.specs.Prelude.{Option, Some, None}
use Prim.Native.Nat.{ℕ, zero, suc, ◌+◌, ◌-◌, ◌/◌, ◌%◌, ◌≤◌}
use native.Mathlib.Omega.{arith}
use mathlib.Core.Bool.{Bool, true, false}
use mathlib.Core.Path.{◌≡◌, sym, ap, ap₂, ◌∙◌}
use mathlib.Core.List.{List, [], ◌∷◌, ◌++◌, append_assoc}
use lib.ListN.{length, take, drop, length-append}
use lib.Seq.{sets, sets-eq, drop-drop, length-sets}
use lib.Dec.{ltb}
use borrow.Author.Tests.{le-leb}
use Rattle.value.specs.Answer.{pick}
use Rattle.image.specs.Number.{bytes_of, bytes_from}
use Rattle.image.specs.Answer.{Stored}
use Rattle.value.proofs.Stores.{sets-append}

-- where there is room, the bytes are there
pub has_room : (x : List ℕ) (start : ℕ) (before : List ℕ) {r : Option ℕ} {after : List ℕ} → start + length x ≤ length before → Stored x start before r after
    → (r ≡ Some (start + length x)) × (after ≡ sets before start x)
has_room x start before {r} {after} room h =
    let b = le-leb (start + length x) (length before) room in
    (h.answer ∙ ap (λ (t : Bool). pick t (Some (start + length x)) None) b, h.buffer ∙ ap (λ (t : Bool). pick t (sets before start x) before) b)

-- one after the other, where there is room for both
module _ (x y : List ℕ) (start : ℕ) (before : List ℕ) (room : start + length (x ++ y) ≤ length before) where
  pub both : (r r' : Option ℕ) (at : ℕ) (mid after : List ℕ) → Stored x start before r mid → r ≡ Some at → Stored y at mid r' after → Stored (x ++ y) start before r' after
  both r r' at mid after h e k =
      let first = has_room x start before (omega (arith, length-append x y)) h in
      let place : at ≡ start + length x = same-to (sym e ∙ first.0) in
      let long : length mid ≡ length before = ap length first.1 ∙ length-sets before start x in
      let second = has_room y at mid (omega (arith, length-append x y)) k in
      let b = le-leb (start + length (x ++ y)) (length before) room in
      record {
        answer = rw b (second.0 ∙ ap Some (omega (arith, length-append x y)));
        buffer = rw b (second.1 ∙ ap₂ (λ (l : List ℕ) (i : ℕ). sets l i y) first.1 place ∙ sym (sets-append before start x y));
      }
    where
      same-to : {a b : ℕ} → Some a ≡ Some b → a ≡ b
      same-to {a} {b} e = cc

-- a number has one to ten bytes
groups-length : (spare v : ℕ) → (1 ≤ length (bytes_from spare v)) × (length (bytes_from spare v) ≤ suc spare)
unfolding bytes_from
groups-length zero v = omega arith
groups-length (suc f) v = by_test (ltb v 128) (bytes_from f (v / 128)) (groups-length f (v / 128)).1
  where
    by_test : (b : Bool) (more : List ℕ) → length more ≤ suc f
        → (1 ≤ length (pick b (v ∷ []) ((v % 128 + 128) ∷ more))) × (length (pick b (v ∷ []) ((v % 128 + 128) ∷ more)) ≤ suc (suc f))
    by_test true more h = omega arith
    by_test false more h = omega arith

pub number-length : (v : ℕ) → (1 ≤ length (bytes_of v)) × (length (bytes_of v) ≤ 10)
unfolding bytes_of
number-length v = groups-length 9 v

-- a part of a buffer that is replaced has those bytes
pub put_bytes : (x before new : List ℕ) (start : ℕ) → new ≡ x → start + length x ≤ length before → take start before ++ (new ++ drop (start + length x - start) (drop start before)) ≡ sets before start x
put_bytes x before new start e room =
    let size : start + length x - start ≡ length x = omega arith in
    rw (e, size) (ap (λ (l : List ℕ). take start before ++ (x ++ l)) (drop-drop (length x) start before)
    ∙ sym (append_assoc (take start before) x (drop (start + length x) before)) ∙ sym (sets-eq x before start room))
