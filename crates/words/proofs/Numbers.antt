-- There and back: what is written is read as the number, and a number that was read is written as the same digits.
use Prim.Native.Nat.{ℕ, zero, suc, ◌+◌, ◌-◌, ◌*◌, ◌/◌, ◌%◌, ◌^◌, ◌<◌, ◌≤◌}
use native.Mathlib.Nat.{pow-suc, div-lt_iff_lt-mul, le-div_iff_mul-le, add-zero, zero-add, pow-succ', mul_assoc, mul-le-mul_right, le-add_right, le_trans, le_antisymm, lt_of_lt_of_le, pow-le-pow_right, le-mul_of_pos_right}
use native.Mathlib.Numerals.{add-one, sub-one}
use native.Mathlib.Decide.{dec_le, ℕ_discrete}
use native.Mathlib.Omega.{arith}
use mathlib.Core.Bool.{Bool, true, false, ◌&&◌}
use mathlib.Core.Path.{◌≡◌, refl, sym, ap, ap₂, ◌∙◌}
use mathlib.Core.List.{List, [], ◌∷◌, ◌++◌, append_assoc, append-nil}
use lib.ListN.{length, get_or, get_or-append}
use lib.Dec.{leb, ltb}
use borrow.Author.Tests.{lt-ltb, le-leb, ltb-true, leb-true}
use Rattle.std.specs.Prelude.{Option, Some, None}
use Rattle.std.specs.Option.{IfNone, IfSome, MatchOption}
use Rattle.value.specs.Answer.{pick}
use Rattle.value.proofs.Truth.{both_true}
use Rattle.words.specs.Number.{is_digit, all_digits, value_after, digits_say, number, digits, places_within, places, decimal}
use Rattle.words.proofs.Digits.{last-place, more-places, Held, held-less, length_digits, none_led, one_led, more_led, zero_led}

-- ---- what the digits of a number say

all-last : (w : List ℕ) (b : ℕ) → all_digits w ≡ true → is_digit b ≡ true → all_digits (w ++ (b ∷ [])) ≡ true
unfolding all_digits
all-last [] b h g = rw g
all-last (x ∷ xs) b h g = both (is_digit x) (λ k. all-last xs b k g) h
  where
    both : (t : Bool) → (all_digits xs ≡ true → all_digits (xs ++ (b ∷ [])) ≡ true) → (t && all_digits xs) ≡ true → (t && all_digits (xs ++ (b ∷ []))) ≡ true
    both true f h = f h
    both false f h = h

value-last : (w : List ℕ) (n b : ℕ) → value_after n (w ++ (b ∷ [])) ≡ value_after n w * 10 + (b - 48)
unfolding value_after
value-last [] n b = refl
value-last (x ∷ xs) n b = value-last xs (n * 10 + (x - 48)) b

all_digits_lem : (k n : ℕ) → all_digits (digits k n) ≡ true
unfolding digits all_digits
all_digits_lem zero n = refl
all_digits_lem (suc k) n =
    all-last (digits k (n / 10)) (48 + n % 10) (all_digits_lem k (n / 10)) (rw (le-leb 48 (48 + n % 10) (omega arith), le-leb (48 + n % 10) 57 (omega arith)))

pub all-decimal : (n : ℕ) → all_digits (decimal n) ≡ true
unfolding decimal
all-decimal n = all_digits_lem (places n) n

value-digits : (k n : ℕ) → n < 10 ^ k → value_after 0 (digits k n) ≡ n
unfolding digits value_after
value-digits zero n h = omega arith
value-digits (suc k) n h =
    value-last (digits k (n / 10)) 0 (48 + n % 10)
    ∙ ap (λ (v : ℕ). v * 10 + (48 + n % 10 - 48)) (value-digits k (n / 10) ((div-lt_iff_lt-mul {k = 10} (omega arith)).1 (rw (← pow-suc 10 k) h)))
    ∙ omega arith

-- the first digit of a number that needs them all is not 0
first_digit : (k n : ℕ) → 10 ^ k ≤ n → n < 10 ^ suc k → get_or (digits (suc k) n) 0 0 ≡ 48 → ⊥
unfolding digits
first_digit zero n h g e = omega arith
first_digit (suc k) n h g e =
    first_digit k (n / 10) ((le-div_iff_mul-le {k = 10} (omega arith)).1 (rw (← pow-suc 10 k) h))
    ((div-lt_iff_lt-mul {k = 10} (omega arith)).1 (rw (← pow-suc 10 (suc k)) g))
    (sym (get_or-append (digits (suc k) (n / 10)) ((48 + n % 10) ∷ []) 0 0 (omega (arith, length_digits (suc k) (n / 10)))) ∙ e)

-- as many digits as it takes, and no more
record Taken (n k : ℕ) : Type 0 where
  enough : n < 10 ^ k
  needed : 1 < k → 10 ^ (k - 1) ≤ n

taken_more : (k n : ℕ) → 10 ≤ n → Taken (n / 10) k → Taken n (suc k)
taken_more k n big t = record { enough = rw (pow-suc 10 k) ((div-lt_iff_lt-mul {k = 10} {x = n} {y = 10 ^ k} (omega arith)).0 t.enough); needed = λ l. rw (sub-one (suc k)) (low k t.needed) }
  where
    low : (k : ℕ) → (1 < k → 10 ^ (k - 1) ≤ n / 10) → 10 ^ k ≤ n
    low zero f = omega arith
    low (suc zero) f = omega arith
    low (suc (suc j)) f = rw (pow-suc 10 (suc j)) ((le-div_iff_mul-le {k = 10} {x = 10 ^ suc j} {y = n} (omega arith)).0 (rw (sub-one (suc (suc j))) at (f (omega arith))))

-- a number of one digit
taken-last : (n : ℕ) → n < 10 → Taken n 1
taken-last n h = record { enough = omega arith; needed = λ l. absurd (omega arith) }

taken : (spare n : ℕ) → Held spare n → Taken n (places_within spare n)
taken zero n h = rw (last-place zero n (omega arith)) (taken-last n (omega arith))
taken (suc f) n h =
    elim (dec_le 10 n) [
      | yes big ↦
          rw (more-places (suc f) n (omega arith) big, sub-one (suc f))
          (taken_more (places_within f (n / 10)) n big (taken f (n / 10) (rw (sub-one (suc f)) at (held-less (suc f) n (omega arith) h))))
      | no small ↦ rw (last-place (suc f) n (omega arith)) (taken-last n (omega arith))
    ]

some-place : (spare n : ℕ) → 0 < places_within spare n
unfolding places_within
some-place zero n = omega arith
some-place (suc f) n =
    elim (dec_le 10 n) [
      | yes big ↦ omega (arith, more-places (suc f) n (omega arith) big)
      | no small ↦ omega (arith, last-place (suc f) n (omega arith))
    ]

-- its digits are led as a number's are
led : (k n : ℕ) → 0 < k → Taken n k → digits_say 0 (digits k n) ≡ number (digits k n)
led zero n p t = absurd (omega arith)
led (suc zero) n p t = one_led (digits 1 n) (length_digits 1 n)
led (suc (suc j)) n p t =
    let l = length_digits (suc (suc j)) n in
    more_led (digits (suc (suc j)) n) (λ e. omega arith) (λ e. omega arith)
    (first_digit (suc j) n (rw (sub-one (suc (suc j))) at (t.needed (omega arith))) t.enough)

said : (k n : ℕ) → n < 10 ^ k → n < 2 ^ 64 → digits_say 0 (digits k n) ≡ Some n
unfolding digits_say
said k n h g = rw (all_digits_lem k n, value-digits k n h, lt-ltb n (2 ^ 64) g)

-- what is written is read as the number
pub there : (n : ℕ) → n < 2 ^ 64 → number (decimal n) ≡ Some n
unfolding decimal places
there n h =
    let t = taken 19 n (omega arith) in
    sym (led (places_within 19 n) n (some-place 19 n) t) ∙ said (places_within 19 n) n t.enough h

-- ---- the digits of a number that was read

-- a first digit, and digits after it
pub record First (b : ℕ) (bs : List ℕ) : Type 0 where
  pub low : 48 ≤ b
  pub high : b ≤ 57
  pub after : all_digits bs ≡ true

pub first : (b : ℕ) (bs : List ℕ) → all_digits (b ∷ bs) ≡ true → First b bs
unfolding all_digits
first b bs h =
    let t = both_true (is_digit b) (all_digits bs) h in
    let d = both_true (leb 48 b) (leb b 57) t.0 in
    record { low = leb-true 48 b d.0; high = leb-true b 57 d.1; after = t.1 }

respell : (w : List ℕ) (k n : ℕ) → all_digits w ≡ true → digits (k + length w) (value_after n w) ≡ digits k n ++ w
unfolding value_after digits
respell [] k n h = rw add-zero (sym (append-nil (digits k n)))
respell (b ∷ bs) k n h =
    let f = first b bs h in
    let e : k + suc (length bs) ≡ suc k + length bs = omega arith in
    let front : (n * 10 + (b - 48)) / 10 ≡ n = omega (arith, f.low, f.high) in
    let last : 48 + (n * 10 + (b - 48)) % 10 ≡ b = omega (arith, f.low, f.high) in
    ap (λ (j : ℕ). digits j (value_after (n * 10 + (b - 48)) bs)) e
    ∙ respell bs (suc k) (n * 10 + (b - 48)) f.after
    ∙ ap₂ (λ (m c : ℕ). digits k m ++ (c ∷ []) ++ bs) front last
    ∙ append_assoc (digits k n) (b ∷ []) bs

value_low : (w : List ℕ) (n : ℕ) → n * 10 ^ length w ≤ value_after n w
unfolding value_after
value_low [] n = omega arith
value_low (b ∷ bs) n =
    le_trans (rw (pow-succ' 10 (length bs), ← mul_assoc n 10 (10 ^ length bs)) (mul-le-mul_right (10 ^ length bs) (le-add_right (n * 10) (b - 48))))
    (value_low bs (n * 10 + (b - 48)))

value_high : (w : List ℕ) (n : ℕ) → all_digits w ≡ true → value_after n w < suc n * 10 ^ length w
unfolding value_after
value_high [] n h = omega arith
value_high (b ∷ bs) n h =
    let f = first b bs h in
    lt_of_lt_of_le (value_high bs (n * 10 + (b - 48)) f.after)
    (rw (pow-succ' 10 (length bs), ← mul_assoc (suc n) 10 (10 ^ length bs)) (mul-le-mul_right (10 ^ length bs) (top n b f.low f.high)))
  where
    top : (n b : ℕ) → 48 ≤ b → b ≤ 57 → suc (n * 10 + (b - 48)) ≤ suc n * 10
    top n b l h = omega arith

-- only one count of digits is enough and needed
no_fewer : (n k m : ℕ) → 0 < k → Taken n k → Taken n m → m ≤ k
no_fewer n k m p t u =
    elim (dec_le m k) [
      | yes h ↦ h
      | no g ↦
          let le = pow-le-pow_right {n = 10} (omega arith) {i = k} {j = m - 1} (omega arith) in
          absurd (omega (arith, le, t.enough, u.needed (omega arith)))
    ]

-- what digits said
record Says (w : List ℕ) (n : ℕ) : Type 0 where
  all : all_digits w ≡ true
  value : value_after 0 w ≡ n
  below : n < 2 ^ 64

says : (w : List ℕ) (n : ℕ) → digits_say 0 w ≡ Some n → Says w n
unfolding digits_say
says w n e = go (all_digits w) (ltb (value_after 0 w) (2 ^ 64)) refl refl e
  where
    go : (a b : Bool) → all_digits w ≡ a → ltb (value_after 0 w) (2 ^ 64) ≡ b → pick (a && b) (Some (value_after 0 w)) None ≡ Some n → Says w n
    go true true d l e =
        let v : value_after 0 w ≡ n = cc in
        record { all = d; value = v; below = omega (arith, ltb-true (value_after 0 w) (2 ^ 64) l) }
    go true false d l e = let z : ◌≡◌ {A = ℕ} 0 1 = cc in absurd (omega arith)
    go false b d l e = let z : ◌≡◌ {A = ℕ} 0 1 = cc in absurd (omega arith)

same_digits : (w : List ℕ) (n : ℕ) → 0 < length w → Says w n → Taken n (length w) → decimal n ≡ w
unfolding decimal places digits
same_digits w n p s t =
    let u = taken 19 n (omega (arith, s.below)) in
    let k : places_within 19 n ≡ length w = le_antisymm (no_fewer n (length w) (places_within 19 n) p t u) (no_fewer n (places_within 19 n) (length w) (some-place 19 n) u t) in
    ap₂ digits (k ∙ sym (zero-add (length w))) (sym s.value) ∙ respell w 0 0 s.all

from_said : (b : ℕ) (bs : List ℕ) (n : ℕ) → Says (b ∷ bs) n → (0 < length bs → b ≡ 48 → ⊥) → (decimal n ≡ b ∷ bs) × (n < 2 ^ 64)
unfolding value_after
from_said b bs n s d =
    let f = first b bs s.all in
    let low = value_low bs (0 * 10 + (b - 48)) in
    let t : Taken n (length (b ∷ bs)) = record {
      enough = omega (arith, s.value, value_high (b ∷ bs) 0 s.all);
      needed = λ l. rw (sub-one (suc (length bs))) (lead (0 * 10 + (b - 48)) (10 ^ length bs) n (some f.low (d (omega arith))) (omega (arith, low, s.value)));
    } in
    (same_digits (b ∷ bs) n (omega arith) s t, s.below)
  where
    some : 48 ≤ b → (b ≡ 48 → ⊥) → 0 < 0 * 10 + (b - 48)
    some l e = omega arith

    lead : (m p n : ℕ) → 0 < m → m * p ≤ n → p ≤ n
    lead m p n h g = omega (arith, le-mul_of_pos_right p h)

never : {B : Type 0} {r : Option ℕ} {n : ℕ} → None ≡ r → r ≡ Some n → B
never {B} {r} {n} e f = let z : ◌≡◌ {A = ℕ} 0 1 = cc in absurd (omega arith)

-- a number that was read is written as the same digits, and is below 2^64
pub back : (w : List ℕ) (n : ℕ) → number w ≡ Some n → (decimal n ≡ w) × (n < 2 ^ 64)
back [] n e = never (none_led [] refl) e
back (b ∷ bs) n e =
    elim (ℕ_discrete (length bs) 0) [
      | yes z ↦ from_said b bs n (says (b ∷ bs) n (one_led (b ∷ bs) (omega arith) ∙ e)) (λ l. absurd (omega arith))
      | no z ↦ elim (ℕ_discrete b 48) [
        | yes d ↦ never (zero_led (b ∷ bs) (λ k. omega arith) (λ k. omega arith) d) e
        | no d ↦ from_said b bs n (says (b ∷ bs) n (more_led (b ∷ bs) (λ k. omega arith) (λ k. omega arith) d ∙ e)) (λ l. d)
      ]
    ]

-- ---- how many digits a number takes, by its power of ten

-- a count of digits that is enough and needed is the count
places-are : (n k : ℕ) → n < 2 ^ 64 → 0 < k → Taken n k → k ≡ places n
unfolding places
places-are n k h p t =
    let u = taken 19 n (omega arith) in
    le_antisymm (no_fewer n (places_within 19 n) k (some-place 19 n) u t) (no_fewer n k (places_within 19 n) p t u)

pub places-counted : (n : ℕ) → n < 2 ^ 64 → (o : Option ℕ) (r : ℕ) → IfNone o (n ≡ 0) → IfSome o (λ k. 10 ^ k ≤ n) → IfSome o (λ k. n < 10 * 10 ^ k)
    → {Q : ℕ → Type 0} → MatchOption o (r ≡ 1) Q → ((k : ℕ) → Q k → r ≡ k + 1) → r ≡ places n
places-counted n h None r z l g e f = e ∙ places-are n 1 h (omega arith) (record { enough = omega arith; needed = λ i. absurd (omega arith) })
places-counted n h (Some k) r z l g e f =
    f k e ∙ places-are n (k + 1) h (omega arith) (record { enough = rw (add-one, pow-succ' 10 k) g; needed = λ i. rw (add-one, sub-one) l })
