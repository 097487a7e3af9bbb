-- The ranges of hex digits, and the steps of reading and writing pairs of them.
use Prim.Native.Nat.{ℕ, suc, ◌+◌, ◌*◌, ◌/◌, ◌%◌, ◌<◌, ◌≤◌}
use native.Mathlib.Numerals.{add-one}
use native.Mathlib.Omega.{arith}
use mathlib.Core.Bool.{Bool, true, false, ◌&&◌, ◌||◌}
use mathlib.Core.Path.{◌≡◌, refl, sym, ap, ap₂, ◌∙◌}
use mathlib.Core.List.{List, [], ◌∷◌, ◌++◌}
use lib.ListN.{length, get_or, set, drop, length-drop, drop_of_length-le}
use lib.Seq.{sets, drop-cons}
use lib.Dec.{eqb}
use borrow.Author.Tests.{lt-ltb, le-leb, lt-leb, eq-eqb, ne_eqb}
use Rattle.std.specs.Prelude.{Ok, Err}
use Rattle.std.specs.Char.{is_ascii_hexdigit}
use Rattle.std.specs.List.{list_all}
use Rattle.words.proofs.Pieces.{from_start}
use Rattle.words.specs.Hex.{between, is_hex_digit, nibble, all_hex, is_hex, bytes_said, hex_answer, hex_buffer, glyph, pairs_of, hex_of}
use Rattle.words.specs.declared.HexError.TheVariants.{Long, Bad}

-- ---- ranges

module _ (low high b : ℕ) where
  pub in_range : low ≤ b → b ≤ high → between low high b ≡ true
  in_range l h = rw (le-leb low b l, le-leb b high h)

  pub below : b < low → between low high b ≡ false
  below l = rw (lt-leb low b l)

  pub above : low ≤ b → high < b → between low high b ≡ false
  above l h = rw (le-leb low b l, lt-leb b high h)

-- ---- reading

-- the library's test of a digit, which asks the ranges in another order
pub all_hex-list : (w : List ℕ) → list_all is_ascii_hexdigit w ≡ all_hex w
unfolding all_hex is_hex_digit
all_hex-list [] = refl
all_hex-list (b ∷ bs) = ap₂ (λ (s t : Bool). s && t) (turned (between 48 57 b) (between 65 70 b) (between 97 102 b)) (all_hex-list bs)
  where
    turned : (p q r : Bool) → ((p || q) || r) ≡ (p || (r || q))
    turned true q r = refl
    turned false true true = refl
    turned false true false = refl
    turned false false true = refl
    turned false false false = refl

two_at : (l : List ℕ) (j : ℕ) → j + 1 < length l → drop j l ≡ get_or l j 0 ∷ get_or l (j + 1) 0 ∷ drop (j + 2) l
two_at l j h =
    drop-cons l j 0 (omega arith) ∙ ap (λ (k : ℕ). get_or l j 0 ∷ drop k l) (sym (add-one j))
    ∙ ap (λ (m : List ℕ). get_or l j 0 ∷ m) (drop-cons l (j + 1) 0 h ∙ ap (λ (k : ℕ). get_or l (j + 1) 0 ∷ drop k l) e)
  where
    e : suc (j + 1) ≡ j + 2
    e = omega arith

pub decode_more : (word out : List ℕ) (i a b : ℕ) {whole : List ℕ} → 2 * i + 1 < length word → a ≡ nibble (get_or word (2 * i) 0) → b ≡ nibble (get_or word (2 * i + 1) 0)
    → sets out i (bytes_said (drop (2 * i) word)) ≡ whole → sets (set out i (a * 16 + b)) (i + 1) (bytes_said (drop (2 * (i + 1)) word)) ≡ whole
unfolding bytes_said
decode_more word out i a b h p q e =
    let d : 2 * (i + 1) ≡ 2 * i + 2 = omega arith in
    ap (λ (k : ℕ). sets (set out i (a * 16 + b)) (i + 1) (bytes_said (drop k word))) d
    ∙ ap₂ (λ (k n : ℕ). sets (set out i n) k (bytes_said (drop (2 * i + 2) word))) (add-one i) (ap₂ (λ (x y : ℕ). x * 16 + y) p q)
    ∙ ap (λ (l : List ℕ). sets out i (bytes_said l)) (sym (two_at word (2 * i) h)) ∙ e

none_said : (l : List ℕ) → length l ≤ 1 → bytes_said l ≡ []
unfolding bytes_said
none_said [] h = refl
none_said (a ∷ []) h = refl
none_said (a ∷ b ∷ l) h = absurd (omega arith)

pub decode_done : (word out : List ℕ) (i : ℕ) {whole : List ℕ} → length word ≤ 2 * i + 1 → sets out i (bytes_said (drop (2 * i) word)) ≡ whole → out ≡ whole
decode_done word out i h e = ap (sets out i) (sym (none_said (drop (2 * i) word) (simp length-drop (omega arith)))) ∙ e

pub length-said : (w : List ℕ) → length (bytes_said w) ≡ length w / 2
unfolding bytes_said
length-said [] = refl
length-said (a ∷ []) = refl
length-said (a ∷ b ∷ w) = omega (arith, length-said w)

-- a word that is `-`, is empty, has a digit too many, or has pairs
module _ (w : List ℕ) where
  pub dash_alone : length w ≡ 1 → eqb (get_or w 0 0) 45 ≡ is_hex w
  unfolding is_hex
  dash_alone h = rw (eq-eqb (length w) 1 h)

  pub no_digit : length w ≡ 0 → false ≡ is_hex w
  unfolding is_hex
  no_digit h = rw h

  pub odd_digits : (length w ≡ 1 → ⊥) → (length w % 2 ≡ 0 → ⊥) → false ≡ is_hex w
  unfolding is_hex
  odd_digits h g = rw (ne_eqb (length w) 1 h, lt-ltb 0 (length w) (some (length w) g), ne_eqb (length w % 2) 0 g)
    where
      some : (n : ℕ) → (n % 2 ≡ 0 → ⊥) → 0 < n
      some n f = omega arith

  pub even-digits : (length w ≡ 1 → ⊥) → (length w ≡ 0 → ⊥) → length w % 2 ≡ 0 → all_hex w ≡ is_hex w
  unfolding is_hex
  even-digits h g e = rw (ne_eqb (length w) 1 h, lt-ltb 0 (length w) (omega arith), eq-eqb (length w % 2) 0 e)

-- what reading a word answers and leaves, by the tests of the code
module _ (w before : List ℕ) where
  pub not-hex : is_hex w ≡ false → (Err Bad ≡ hex_answer w (length before)) × (before ≡ hex_buffer w before)
  unfolding hex_answer hex_buffer
  not-hex h = (rw h, rw h)

  pub too_long : is_hex w ≡ true → length before < length w / 2 → (Err Long ≡ hex_answer w (length before)) × (before ≡ hex_buffer w before)
  unfolding hex_answer hex_buffer
  too_long h l =
      let t = lt-leb (length (bytes_said w)) (length before) (omega (arith, length-said w)) in
      (rw (h, t), rw (h, t))

  pub unpaired : {after : List ℕ} → is_hex w ≡ true → length w / 2 ≤ length before → after ≡ bytes_said w ++ drop (length w / 2) before
      → (Ok (length w / 2) ≡ hex_answer w (length before)) × (after ≡ hex_buffer w before)
  unfolding hex_answer hex_buffer
  unpaired h l e =
      let t = le-leb (length (bytes_said w)) (length before) (omega (arith, length-said w)) in
      (rw (h, t) (ap Ok (sym (length-said w))), rw (h, t) (e ∙ ap (λ (k : ℕ). bytes_said w ++ drop k before) (sym (length-said w)) ∙ sym (from_start before (bytes_said w) (omega (arith, length-said w)))))

-- ---- writing

pub length_pairs : (bs : List ℕ) → length (pairs_of bs) ≡ length bs * 2
unfolding pairs_of
length_pairs [] = refl
length_pairs (b ∷ bs) = omega (arith, length_pairs bs)

pub encode_more : (bytes out : List ℕ) (i a b : ℕ) {whole : List ℕ} → i < length bytes → a ≡ glyph (get_or bytes i 0 / 16) → b ≡ glyph (get_or bytes i 0 % 16)
    → sets out (2 * i) (pairs_of (drop i bytes)) ≡ whole → sets (set (set out (2 * i) a) (2 * i + 1) b) (2 * (i + 1)) (pairs_of (drop (i + 1) bytes)) ≡ whole
unfolding pairs_of
encode_more bytes out i a b h p q e =
    let d : 2 * (i + 1) ≡ suc (suc (2 * i)) = omega arith in
    ap (λ (k : ℕ). sets (set (set out (2 * i) a) (2 * i + 1) b) (2 * (i + 1)) (pairs_of (drop k bytes))) (add-one i)
    ∙ ap₂ (λ (k m : ℕ). sets (set (set out (2 * i) a) k b) m (pairs_of (drop (suc i) bytes))) (add-one (2 * i)) d
    ∙ ap₂ (λ (x y : ℕ). sets (set (set out (2 * i) x) (suc (2 * i)) y) (suc (suc (2 * i))) (pairs_of (drop (suc i) bytes))) p q
    ∙ ap (λ (l : List ℕ). sets out (2 * i) (pairs_of l)) (sym (drop-cons bytes i 0 h)) ∙ e

pub encode_done : (bytes out : List ℕ) (i : ℕ) {whole : List ℕ} → length bytes ≤ i → sets out (2 * i) (pairs_of (drop i bytes)) ≡ whole → out ≡ whole
unfolding pairs_of
encode_done bytes out i h e = ap (λ (l : List ℕ). sets out (2 * i) (pairs_of l)) (sym (drop_of_length-le bytes h)) ∙ e

pub no_bytes : (bs : List ℕ) → length bs ≡ 0 → 45 ∷ [] ≡ hex_of bs
unfolding hex_of
no_bytes [] h = refl
no_bytes (b ∷ bs) h = absurd (omega arith)

pub some_bytes : (bs : List ℕ) → (length bs ≡ 0 → ⊥) → pairs_of bs ≡ hex_of bs
unfolding hex_of
some_bytes [] h = absurd (h refl)
some_bytes (b ∷ bs) h = refl

pub length-hex : (bs : List ℕ) → (length bs ≡ 0 → ⊥) → length (hex_of bs) ≡ length bs * 2
length-hex bs h = ap length (sym (some_bytes bs h)) ∙ length_pairs bs
