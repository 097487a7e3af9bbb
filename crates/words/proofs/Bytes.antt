-- There and back: bytes written as HEX are read again, and HEX that was read is written in lower case.
use Prim.Native.Nat.{ℕ, suc, ◌+◌, ◌-◌, ◌*◌, ◌/◌, ◌%◌, ◌<◌, ◌≤◌}
use native.Mathlib.Decide.{dec_le}
use native.Mathlib.Omega.{arith}
use mathlib.Core.Bool.{Bool, true, false, ◌&&◌, ◌||◌}
use mathlib.Core.Path.{◌≡◌, refl, sym, ap, ap₂, ◌∙◌}
use mathlib.Core.List.{List, [], ◌∷◌, map}
use lib.ListN.{length, get_or}
use lib.Dec.{leb, eqb}
use borrow.Author.Tests.{leb-true, eqb-true, lt-ltb, le-ltb, ne_eqb}
use Rattle.value.specs.Answer.{pick}
use Rattle.value.proofs.Truth.{both_true}
use Rattle.words.specs.Hex.{between, is_hex_digit, nibble, all_hex, is_hex, bytes_said, glyph, pairs_of, hex_of}
use Rattle.words.proofs.HexDigits.{in_range, below, above, length_pairs, even-digits}

-- a digit that was written is read again
module _ (d : ℕ) (h : d < 16) where
  pub glyph-said : nibble (glyph d) ≡ d
  unfolding nibble
  glyph-said = elim (dec_le 10 d) [
    | yes big ↦ rw (le-ltb d 10 big, above 48 57 (87 + d) (omega arith) (omega arith), in_range 97 102 (87 + d) (omega arith) (omega arith)) (omega arith)
    | no small ↦ rw (lt-ltb d 10 (omega arith), in_range 48 57 (48 + d) (omega arith) (omega arith)) (omega arith)
  ]

  pub glyph-is : is_hex_digit (glyph d) ≡ true
  unfolding is_hex_digit
  glyph-is = elim (dec_le 10 d) [
    | yes big ↦ rw (le-ltb d 10 big, above 48 57 (87 + d) (omega arith) (omega arith), in_range 97 102 (87 + d) (omega arith) (omega arith))
    | no small ↦ rw (lt-ltb d 10 (omega arith), in_range 48 57 (48 + d) (omega arith) (omega arith))
  ]

pairs_are : (bs : List ℕ) → ((k : ℕ) → get_or bs k 0 < 256) → all_hex (pairs_of bs) ≡ true
unfolding all_hex pairs_of
pairs_are [] h = refl
pairs_are (b ∷ bs) h = rw (glyph-is (b / 16) (omega (arith, h 0)), glyph-is (b % 16) (omega arith)) (pairs_are bs (λ k. h (suc k)))

pairs_said : (bs : List ℕ) → ((k : ℕ) → get_or bs k 0 < 256) → bytes_said (pairs_of bs) ≡ bs
unfolding bytes_said pairs_of
pairs_said [] h = refl
pairs_said (b ∷ bs) h =
    let e : nibble (glyph (b / 16)) * 16 + nibble (glyph (b % 16)) ≡ b = omega (arith, glyph-said (b / 16) (omega (arith, h 0)), glyph-said (b % 16) (omega arith)) in
    ap₂ (λ (x : ℕ) (l : List ℕ). x ∷ l) e (pairs_said bs (λ k. h (suc k)))

-- what is written is HEX, and says the bytes
pub there : (bs : List ℕ) → ((k : ℕ) → get_or bs k 0 < 256) → (is_hex (hex_of bs) ≡ true) × (bytes_said (hex_of bs) ≡ bs)
unfolding is_hex hex_of bytes_said pairs_of
there [] h = (refl, refl)
there (b ∷ bs) h =
    let w = pairs_of (b ∷ bs) in
    let l = length_pairs (b ∷ bs) in
    (sym (even-digits w (λ e. omega arith) (λ e. omega arith) (omega arith)) ∙ pairs_are (b ∷ bs) h, pairs_said (b ∷ bs) h)

-- ---- the digits of HEX that was read

-- a digit in lower case
unfoldable pub lower : ℕ → ℕ
lower b = pick (between 65 70 b) (b + 32) b

data Digit (b : ℕ) : Type 0 where
  ten : 48 ≤ b → b ≤ 57 → Digit b
  small : 97 ≤ b → b ≤ 102 → Digit b
  large : 65 ≤ b → b ≤ 70 → Digit b

digit : (b : ℕ) → is_hex_digit b ≡ true → Digit b
unfolding is_hex_digit
digit b h = go (between 48 57 b) (between 97 102 b) (between 65 70 b) refl refl refl h
  where
    within : (low high : ℕ) → between low high b ≡ true → (low ≤ b) × (b ≤ high)
    within low high e =
        let t = both_true (leb low b) (leb b high) e in
        (leb-true low b t.0, leb-true b high t.1)

    go : (x y z : Bool) → between 48 57 b ≡ x → between 97 102 b ≡ y → between 65 70 b ≡ z → (x || (y || z)) ≡ true → Digit b
    go true y z e f g t = let w = within 48 57 e in ten w.0 w.1
    go false true z e f g t = let w = within 97 102 f in small w.0 w.1
    go false false true e f g t = let w = within 65 70 g in large w.0 w.1
    go false false false e f g t = let z : ◌≡◌ {A = ℕ} 0 1 = cc in absurd (omega arith)

-- what a digit says is below 16, and is written as the digit in lower case
record Kept (b : ℕ) : Type 0 where
  below16 : nibble b < 16
  same : glyph (nibble b) ≡ lower b

kept : (b : ℕ) → Digit b → Kept b
unfolding nibble lower
kept b (ten l h) =
    let n : nibble b ≡ b - 48 = rw (in_range 48 57 b l h) in
    record { below16 = omega arith; same = rw (n, lt-ltb (b - 48) 10 (omega arith), below 65 70 b (omega arith)) (omega arith) }
kept b (small l h) =
    let n : nibble b ≡ b - 87 = rw (above 48 57 b (omega arith) (omega arith), in_range 97 102 b l h) in
    record { below16 = omega arith; same = rw (n, le-ltb (b - 87) 10 (omega arith), above 65 70 b (omega arith) (omega arith)) (omega arith) }
kept b (large l h) =
    let n : nibble b ≡ b - 55 = rw (above 48 57 b (omega arith) (omega arith), below 97 102 b (omega arith), in_range 65 70 b l h) in
    record { below16 = omega arith; same = rw (n, le-ltb (b - 55) 10 (omega arith), in_range 65 70 b l h) (omega arith) }

pairs_kept : (w : List ℕ) → length w % 2 ≡ 0 → all_hex w ≡ true → pairs_of (bytes_said w) ≡ map lower w
unfolding bytes_said pairs_of all_hex
pairs_kept [] e h = refl
pairs_kept (a ∷ []) e h = absurd (omega arith)
pairs_kept (a ∷ b ∷ w) e h =
    let f = both_true (is_hex_digit a) (is_hex_digit b && all_hex w) h in
    let g = both_true (is_hex_digit b) (all_hex w) f.1 in
    let x = kept a (digit a f.0) in
    let y = kept b (digit b g.0) in
    let q : (nibble a * 16 + nibble b) / 16 ≡ nibble a = omega (arith, x.below16, y.below16) in
    let r : (nibble a * 16 + nibble b) % 16 ≡ nibble b = omega (arith, x.below16, y.below16) in
    ap₂ (λ (c d : ℕ). c ∷ d ∷ pairs_of (bytes_said w)) (ap glyph q ∙ x.same) (ap glyph r ∙ y.same)
    ∙ ap (λ (l : List ℕ). lower a ∷ lower b ∷ l) (pairs_kept w (omega arith) g.1)

-- HEX that was read is written as the same digits in lower case
pub back : (w : List ℕ) → is_hex w ≡ true → hex_of (bytes_said w) ≡ map lower w
unfolding is_hex bytes_said hex_of lower
back [] h = let z : ◌≡◌ {A = ℕ} 0 1 = cc in absurd (omega arith)
back (a ∷ []) h = let e = eqb-true a 45 h in rw e
back (a ∷ b ∷ w) h =
    let n : is_hex (a ∷ b ∷ w) ≡ (eqb (length (a ∷ b ∷ w) % 2) 0 && all_hex (a ∷ b ∷ w)) =
    rw (ne_eqb (suc (suc (length w))) 1 (λ e. omega arith), lt-ltb 0 (suc (suc (length w))) (omega arith)) in
    let t = both_true (eqb (length (a ∷ b ∷ w) % 2) 0) (all_hex (a ∷ b ∷ w)) (sym n ∙ h) in
    pairs_kept (a ∷ b ∷ w) (eqb-true (length (a ∷ b ∷ w) % 2) 0 t.0) t.1
