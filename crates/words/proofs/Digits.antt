-- The steps of `places_within`, `digits` and `digits_say`, and how a number's digits are led.
use Prim.Native.Nat.{ℕ, zero, suc, ◌+◌, ◌-◌, ◌*◌, ◌/◌, ◌%◌, ◌^◌, ◌<◌, ◌≤◌}
use native.Mathlib.Nat.{zero-add, pow-suc, div-lt_iff_lt-mul, le_trans}
use native.Mathlib.Numerals.{sub-one, add-one}
use native.Mathlib.Omega.{arith}
use mathlib.Core.Bool.{true, false, and-false}
use mathlib.Core.Path.{◌≡◌, refl, sym, ap, ◌∙◌}
use mathlib.Core.List.{List, [], ◌∷◌}
use lib.ListN.{length, get_or, set, drop, length-append, drop_of_length-le}
use lib.Seq.{sets, drop-cons}
use borrow.Author.Tests.{lt-ltb, le-ltb, eq-eqb, ne_eqb}
use Rattle.std.specs.Prelude.{Option, Some, None}
use Rattle.words.specs.Number.{is_digit, all_digits, value_after, digits_say, number, digits, places_within, places, decimal}
use Rattle.value.proofs.Stores.{sets_last}

-- ---- how many digits

pub last-place : (spare n : ℕ) → n < 10 → places_within spare n ≡ 1
unfolding places_within
last-place zero n h = refl
last-place (suc f) n h = rw (lt-ltb n 10 h)

pub more-places : (spare n : ℕ) → 0 < spare → 10 ≤ n → places_within spare n ≡ suc (places_within (spare - 1) (n / 10))
unfolding places_within
more-places zero n p h = absurd (omega arith)
more-places (suc f) n p h = rw (sub-one, le-ltb n 10 h)

-- n is below what `spare` digits after the first can say
abbrev pub Held : ℕ → ℕ → Type 0
Held spare n = n < 10 ^ suc spare

pub held-less : (spare n : ℕ) → 0 < spare → Held spare n → Held (spare - 1) (n / 10)
held-less zero n p h = absurd (omega arith)
held-less (suc f) n p h = rw sub-one ((div-lt_iff_lt-mul {k = 10} (omega arith)).1 (rw (← pow-suc 10 (suc f)) h))

-- ---- the digits

pub length_digits : (k n : ℕ) → length (digits k n) ≡ k
unfolding digits
length_digits zero n = refl
length_digits (suc k) n = simp (length-append, length_digits k (n / 10)) (omega arith)

pub length-decimal : (n : ℕ) → length (decimal n) ≡ places n
unfolding decimal
length-decimal n = length_digits (places n) n

-- the digits are stored from the last to the first
pub spell_more : (out : List ℕ) (i left : ℕ) {whole : List ℕ} → 0 < i → sets out 0 (digits i left) ≡ whole
    → sets (set out (i - 1) (48 + left % 10)) 0 (digits (i - 1) (left / 10)) ≡ whole
unfolding digits
spell_more out zero left p e = absurd (omega arith)
spell_more out (suc k) left p e =
    rw (sub-one (suc k)) (sym (sets_last out 0 (digits k (left / 10)) k (48 + left % 10) (sym (zero-add (length (digits k (left / 10))) ∙ length_digits k (left / 10)))) ∙ e)

pub spell_done : (out : List ℕ) (i left : ℕ) {whole : List ℕ} → i ≤ 0 → sets out 0 (digits i left) ≡ whole → out ≡ whole
unfolding digits
spell_done out zero left h e = e
spell_done out (suc k) left h e = absurd (omega arith)

-- ---- what digits say

pub value_grows : (w : List ℕ) (n : ℕ) → n ≤ value_after n w
unfolding value_after
value_grows [] n = omega arith
value_grows (b ∷ bs) n = le_trans (omega arith) (value_grows bs (n * 10 + (b - 48)))

module _ (n b : ℕ) (bs : List ℕ) where
  say_other : is_digit b ≡ false → digits_say n (b ∷ bs) ≡ None
  unfolding digits_say all_digits
  say_other h = rw h

  say_over : 2 ^ 64 ≤ n * 10 + (b - 48) → digits_say n (b ∷ bs) ≡ None
  unfolding digits_say value_after
  say_over h = rw (le-ltb (value_after (n * 10 + (b - 48)) bs) (2 ^ 64) (le_trans h (value_grows bs (n * 10 + (b - 48)))), and-false)

  say_more : is_digit b ≡ true → digits_say n (b ∷ bs) ≡ digits_say (n * 10 + (b - 48)) bs
  unfolding digits_say all_digits value_after
  say_more h = rw h

-- the same at a place of a word
module _ (word : List ℕ) (i n : ℕ) {r : Option ℕ} (h : i < length word) (so : digits_say n (drop i word) ≡ r) where
  here : digits_say n (get_or word i 0 ∷ drop (i + 1) word) ≡ r
  here = ap (digits_say n) (ap (λ (k : ℕ). get_or word i 0 ∷ drop k word) (add-one i) ∙ sym (drop-cons word i 0 h)) ∙ so

  pub other-at : is_digit (get_or word i 0) ≡ false → None ≡ r
  other-at d = sym (say_other n (get_or word i 0) (drop (i + 1) word) d) ∙ here

  pub over_at : 2 ^ 64 ≤ n * 10 + (get_or word i 0 - 48) → None ≡ r
  over_at l = sym (say_over n (get_or word i 0) (drop (i + 1) word) l) ∙ here

  pub more-at : is_digit (get_or word i 0) ≡ true → digits_say (n * 10 + (get_or word i 0 - 48)) (drop (i + 1) word) ≡ r
  more-at d = sym (say_more n (get_or word i 0) (drop (i + 1) word) d) ∙ here

pub all_said : (word : List ℕ) (i n : ℕ) {r : Option ℕ} → length word ≤ i → n < 2 ^ 64 → digits_say n (drop i word) ≡ r → Some n ≡ r
unfolding digits_say all_digits value_after
all_said word i n h f so = sym (ap (digits_say n) (drop_of_length-le word h) ∙ rw (lt-ltb n (2 ^ 64) f)) ∙ so

-- ---- a word's first digit

module _ (w : List ℕ) where
  pub none_led : length w ≡ 0 → None ≡ number w
  unfolding number
  none_led h = rw h

  pub zero_led : (length w ≡ 0 → ⊥) → (length w ≡ 1 → ⊥) → get_or w 0 0 ≡ 48 → None ≡ number w
  unfolding number
  zero_led h g e = rw (lt-ltb 0 (length w) (omega arith), ne_eqb (length w) 1 g, eq-eqb (get_or w 0 0) 48 e)

  pub one_led : length w ≡ 1 → digits_say 0 w ≡ number w
  unfolding number
  one_led h = rw h

  pub more_led : (length w ≡ 0 → ⊥) → (length w ≡ 1 → ⊥) → (get_or w 0 0 ≡ 48 → ⊥) → digits_say 0 w ≡ number w
  unfolding number
  more_led h g e = rw (lt-ltb 0 (length w) (omega arith), ne_eqb (length w) 1 g, ne_eqb (get_or w 0 0) 48 e)
