-- Stores as the library writes them; and a piece that was placed was put, and one that was not was not, by the test of its room.
use Prim.Native.Nat.{ℕ, ◌+◌, ◌-◌, ◌≤◌, ◌<◌}
use native.Mathlib.Nat.{zero-add}
use native.Mathlib.Omega.{arith}
use mathlib.Core.Bool.{Bool, true, false}
use mathlib.Core.Path.{◌≡◌, refl, sym, ap, ap₂, ◌∙◌}
use mathlib.Core.List.{List, [], ◌∷◌, ◌++◌, append_assoc, append-nil}
use lib.ListN.{length, take, drop, length-drop, drop_of_length-le}
use lib.Seq.{sets, drop-drop, length-take-le}
use borrow.Rule.Slice.PartMut.{put_mid}
use Rattle.std.proofs.lemmas.List.Edits.{sets-eq}
use lib.Dec.{leb}
use borrow.Author.Tests.{leb-true, le-leb, lt-leb}
use Rattle.std.specs.Prelude.{Some, None}
use Rattle.value.specs.Answer.{pick}
use Rattle.words.specs.Text.{text, placed, put}

module _ (count at room : ℕ) where
  pub has_room : at + count ≤ room → Some (at + count) ≡ placed count (Some at) room
  has_room h = rw (le-leb (at + count) room h)

  pub no_room : room < at + count → None ≡ placed count (Some at) room
  no_room h = rw (lt-leb (at + count) room h)

  -- a placed piece of `count` bytes ends at `to`, within the buffer
  pub placed_at : (to : ℕ) → Some to ≡ placed count (Some at) room → (to ≡ at + count) × (at + count ≤ room)
  placed_at to e = go (leb (at + count) room) refl e
    where
      go : (b : Bool) → leb (at + count) room ≡ b → Some to ≡ pick b (Some (at + count)) None → (to ≡ at + count) × (at + count ≤ room)
      go true t h = let s : to ≡ at + count = cc in (omega arith, leb-true (at + count) room t)
      go false t h = let z : ◌≡◌ {A = ℕ} 0 1 = cc in absurd (omega arith)

  unplaced : None ≡ placed count (Some at) room → leb (at + count) room ≡ false
  unplaced e = go (leb (at + count) room) refl e
    where
      go : (b : Bool) → leb (at + count) room ≡ b → None ≡ pick b (Some (at + count)) None → b ≡ false
      go true t h = let z : ◌≡◌ {A = ℕ} 0 1 = cc in absurd (omega arith)
      go false t h = refl

-- what a write to a part leaves
pub part-sets : (at k : ℕ) (before part : List ℕ) → length part ≡ k → at + k ≤ length before → put_mid at k before part ≡ sets before at part
part-sets at k before part e h =
    let d : at + k ≡ at + length part = omega arith in
    ap (λ (l : List ℕ). take at before ++ (part ++ l)) (drop-drop k at before ∙ ap (λ (n : ℕ). drop n before) d)
    ∙ sym (append_assoc (take at before) part (drop (at + length part) before)) ∙ sym (sets-eq part before at (omega arith))

-- stores from the buffer's start on, and those that are all of it
pub from_start : (out ys : List ℕ) → length ys ≤ length out → sets out 0 ys ≡ ys ++ drop (length ys) out
from_start [] ys h = sets-eq ys [] 0 (omega arith) ∙ ap (λ (k : ℕ). ys ++ drop k []) (zero-add (length ys))
from_start (x ∷ out) ys h = sets-eq ys (x ∷ out) 0 (omega arith) ∙ ap (λ (k : ℕ). ys ++ drop k (x ∷ out)) (zero-add (length ys))

pub sets-all : (out ys : List ℕ) → length out ≡ length ys → sets out 0 ys ≡ ys
sets-all out ys e =
    from_start out ys (omega arith) ∙ ap (λ (l : List ℕ). ys ++ l) (drop_of_length-le out {i = length ys} (omega arith)) ∙ append-nil ys

-- the part that a placed piece is given
pub part_length : (count at : ℕ) (before : List ℕ) (to : ℕ) → Some to ≡ placed count (Some at) (length before) → length (take (to - at) (drop at before)) ≡ count
part_length count at before to h =
    let p = placed_at count at (length before) to h in
    length-take-le (to - at) (drop at before) (omega (arith, p.0, p.1, length-drop at before)) ∙ omega (arith, p.0)

module _ (piece : List ℕ) (count at : ℕ) (before : List ℕ) (e : count ≡ length piece) where
  -- a piece that has room: its stores are what `put` says
  pub written : (to : ℕ) (part : List ℕ) → Some to ≡ placed count (Some at) (length before) → part ≡ piece
      → text (Some to) (put_mid at (to - at) before part) ≡ put piece (text (Some at) before)
  unfolding put
  written to part h f =
      let p = placed_at count at (length before) to h in
      let l : at + length piece ≤ length before = omega (arith, p.1) in
      let s : to ≡ at + length piece = omega (arith, p.0) in
      let n : length part ≡ to - at = omega (arith, ap length f) in
      rw (le-leb (at + length piece) (length before) l)
      (ap₂ (λ (k : ℕ) (bs : List ℕ). text (Some k) bs) s (part-sets at (to - at) before part n (omega arith) ∙ ap (sets before at) f))

  -- a piece that has no room: nothing is stored
  pub unwritten : None ≡ placed count (Some at) (length before) → text None before ≡ put piece (text (Some at) before)
  unfolding put
  unwritten h = rw (ap (λ (k : ℕ). leb (at + k) (length before)) (sym e) ∙ unplaced count at (length before) h)
