-- The constants that the extents show in an image are its program's: each extent is where the constant's raw bytes stand.
use Prim.Native.Nat.{ℕ, zero, suc, ◌+◌, ◌*◌, ◌/◌, ◌≤◌, ◌<◌}
use native.Mathlib.Omega.{arith}
use mathlib.Core.Path.{◌≡◌, refl, sym, ap, ap₂, ◌∙◌}
use mathlib.Core.List.{List, [], ◌∷◌, ◌++◌}
use lib.ListN.{length, get_or, length-append}
use lib.Seq.{length-take-le, get_or-take, ext_get_or}
use Rattle.image.specs.Parse.{Got, took, refused}
use Rattle.image.specs.Number.{number}
use Rattle.image.specs.Program.{Program}
use Rattle.image.specs.Image.{loaded}
use Rattle.loader.specs.Tables.{tables_from}
use Rattle.memory.specs.View.{tab, part, constants_in}
use Rattle.memory.proofs.Tab.{length-tab, get_d_tab}
use Rattle.memory.proofs.Access.{Extents}
use Rattle.decode.specs.Extents.{extent, extents_at, places_of, extents_of}
use Rattle.image.proofs.Standing.{raw-took}
use Rattle.decode.proofs.Items.{counted, constants-room, constant-stands}
use Rattle.image.specs.Limits.{AreBytes}

-- ---- two words each

two-words : (g : Got ℕ) → length (extent g) ≡ 2
two-words (took n start) = refl
two-words (refused n place) = refl

extents-length : (s ps : List ℕ) → length (extents_at s ps) ≡ length ps * 2
unfolding extents_at
extents-length s [] = refl
extents-length s (at ∷ ps) = length-append (extent (number s at)) (extents_at s ps) ∙ omega (arith, two-words (number s at), extents-length s ps)

skip_words : (g : Got ℕ) (rest : List ℕ) (j i : ℕ) → i ≡ suc (suc j) → get_or (extent g ++ rest) i 0 ≡ get_or rest j 0
skip_words (took n start) rest j i e = ap (λ (k : ℕ). get_or (start ∷ n ∷ rest) k 0) e
skip_words (refused n place) rest j i e = ap (λ (k : ℕ). get_or (0 ∷ 0 ∷ rest) k 0) e

extent-at : (s ps : List ℕ) (k n start : ℕ) → k < length ps → number s (get_or ps k 0) ≡ took n start
    → (get_or (extents_at s ps) (k * 2) 0 ≡ start) × (get_or (extents_at s ps) (k * 2 + 1) 0 ≡ n)
unfolding extents_at
extent-at s [] k n start lt h = absurd (omega arith)
extent-at s (at ∷ ps) zero n start lt h = (rw h, rw h)
extent-at s (at ∷ ps) (suc k) n start lt h =
    let r = extent-at s ps k n start (omega arith) h in
    (skip_words (number s at) (extents_at s ps) (k * 2) _ (omega arith) ∙ r.0, skip_words (number s at) (extents_at s ps) (k * 2 + 1) _ (omega arith) ∙ r.1)

module _ (s : List ℕ) (bytes : AreBytes s) (P : Program) (e : ℕ) (h : loaded s ≡ took P e) where
  -- a constant's raw bytes, in the image
  record Shown (c : ℕ) : Type 0 where
    shows : part s (get_or (extents_of s) (c * 2) 0) (get_or (extents_of s) (c * 2 + 1) 0) ≡ get_or P.constants c []
    inside : get_or (extents_of s) (c * 2) 0 + get_or (extents_of s) (c * 2 + 1) 0 ≤ length s

  count : (tables_from s).counts.constants ≡ length P.constants
  count = (counted s bytes P e h).constants

  places-length : length (places_of s) ≡ length P.constants
  places-length = length-take-le (tables_from s).counts.constants (tables_from s).constants (omega (arith, count, constants-room s bytes P e h)) ∙ count

  shown : (c : ℕ) → c < length P.constants → Shown c
  shown c lt =
      let st = constant-stands s bytes P e h c lt in
      let (start, counts, rest) = st.stand in
      let (end, reads, last) = rest in
      let (is, ends, le) = raw-took s (length (get_or P.constants c [])) start reads in
      let at : get_or (places_of s) c 0 ≡ get_or (tables_from s).constants c 0 = get_or-take (tables_from s).counts.constants (tables_from s).constants c 0 (omega (arith, count)) in
      let x = extent-at s (places_of s) c (length (get_or P.constants c [])) start (omega (arith, places-length)) (ap (number s) at ∙ counts) in
      record { shows = ap₂ (part s) x.0 x.1 ∙ sym is; inside = omega (arith, x.0, x.1, le) }

  extents-count : length (extents_of s) / 2 ≡ length P.constants
  extents-count = omega (arith, extents-length s (places_of s), places-length)

  -- the constants in the image's bytes are the program's
  pub constants-shown : constants_in s (extents_of s) ≡ P.constants
  unfolding constants_in
  constants-shown =
      let f : ℕ → List ℕ = λ k. part s (get_or (extents_of s) (k * 2) 0) (get_or (extents_of s) (k * 2 + 1) 0) in
      let size = length-tab (length (extents_of s) / 2) f in
      ext_get_or [] (tab (length (extents_of s) / 2) f) P.constants (size ∙ extents-count)
      (λ c lt. get_d_tab (length (extents_of s) / 2) f c [] (omega (arith, size)) ∙ (shown c (omega (arith, size, extents-count))).shows)

  -- and each lies in the image
  pub extents-inside : Extents s (extents_of s)
  extents-inside c lt = (shown c (omega (arith, extents-count))).inside
