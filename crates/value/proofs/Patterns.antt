-- Bit patterns and NaNs, for either format: the code's tests as the definition's, and a pattern that goes in and comes out.
use mathlib.Core.Path.{◌≡◌, refl, sym, ◌∙◌, subst}
use Prim.Native.Nat.{ℕ, ◌<◌, ◌≤◌, ◌*◌, ◌%◌}
use mathlib.Core.Bool.{Bool, true, false, not, cond}
use lib.Dec.{T}
use lib.Ieee.{Float, nan, inf, fin, Format, binary32, binary64, ones, hid, top, to_bits, of_bits, nan_bits, is_nan, fits, div}
use lib.Ieee.Bits.{nan_bits_above, nan_bits_is, to_bits-of_bits, of_bits-to_bits}
use borrow.Author.Tests.{lt-ltb, le-ltb}
use Rattle.value.specs.declared.Single.{Single}
use Rattle.value.specs.declared.Double.{Double}
use Rattle.value.specs.declared.Single.TheVariants as S
use Rattle.value.specs.declared.Double.TheVariants as D
use Rattle.value.specs.Floats.{bits32, bits64, single, double}

-- the code's test of a pattern, as the definition's
pub is-pattern : (f : Format) (n : ℕ) → ones f * hid f < n % top f → nan_bits f n ≡ true
is-pattern f n h = nan_bits_above f n ∙ lt-ltb _ _ h

pub no_pattern : (f : Format) (n : ℕ) → n % top f ≤ ones f * hid f → nan_bits f n ≡ false
no_pattern f n h = nan_bits_above f n ∙ le-ltb _ _ h

pub not_t : (b : Bool) → b ≡ false → T (not b)
not_t b e = subst (λ (t : Bool). T (not t)) (sym e) tt

pub ruleset pattern_tests = (is-pattern, no_pattern, not_t)

-- a NaN's pattern stands for the one NaN
pub is_the_nan : (v : Float) → is_nan v ≡ true → v ≡ nan
unfolding is_nan
is_the_nan nan e = refl
is_the_nan (inf s) e = absurd (subst (λ (b : Bool). T (not b)) e tt)
is_the_nan (fin s m e) h = absurd (subst (λ (b : Bool). T (not b)) h tt)

-- 0 / 0
pub no_number : (f : Format) → div f (of_bits f 0) (of_bits f 0) ≡ nan
unfolding div of_bits
no_number binary32 = refl
no_number binary64 = refl

pub nan-of : (f : Format) (n : ℕ) → ones f * hid f < n % top f → div f (of_bits f 0) (of_bits f 0) ≡ of_bits f n
nan-of f n h = no_number f ∙ sym (is_the_nan (of_bits f n) (sym (nan_bits_is f n) ∙ is-pattern f n h))

-- a pattern goes in and comes out, at either format
module _ (f : Format) (A : Type 0) (number : Float → A) (strange : ℕ → A) (bits : A → ℕ)
    (at-number : (x : Float) → bits (number x) ≡ to_bits f x) (at-strange : (b : ℕ) → bits (strange b) ≡ b) where
  pub there : (b : ℕ) → b < 2 * top f → bits (cond (nan_bits f b) (strange b) (number (of_bits f b))) ≡ b
  there b h = go (nan_bits f b) refl
    where
      go : (t : Bool) → nan_bits f b ≡ t → bits (cond t (strange b) (number (of_bits f b))) ≡ b
      go true e = at-strange b
      go false e = at-number (of_bits f b) ∙ to_bits-of_bits f b h (not_t _ (sym (nan_bits_is f b) ∙ e))

  -- and the other way, of a number that is no NaN
  pub back-number : (x : Float) → T (fits f x) → T (not (is_nan x)) → cond (nan_bits f (to_bits f x)) (strange (to_bits f x)) (number (of_bits f (to_bits f x))) ≡ number x
  back-number x h k = rw (nan_bits_is, of_bits-to_bits f x h) (go (is_nan x) k)
    where
      go : (t : Bool) → T (not t) → cond t (strange (to_bits f x)) (number x) ≡ number x
      go true k = absurd k
      go false k = refl

pub single_there : (b : ℕ) → b < 2 * top binary32 → bits32 (single b) ≡ b
single_there = there binary32 Single S.Number S.Nan bits32 (λ x. refl) (λ b. refl)

pub double_there : (b : ℕ) → b < 2 * top binary64 → bits64 (double b) ≡ b
double_there = there binary64 Double D.Number D.Nan bits64 (λ x. refl) (λ b. refl)

pub single-back : (x : Float) → T (fits binary32 x) → T (not (is_nan x)) → single (to_bits binary32 x) ≡ S.Number x
single-back = back-number binary32 Single S.Number S.Nan bits32 (λ x. refl) (λ b. refl)

pub double-back : (x : Float) → T (fits binary64 x) → T (not (is_nan x)) → double (to_bits binary64 x) ≡ D.Number x
double-back = back-number binary64 Double D.Number D.Nan bits64 (λ x. refl) (λ b. refl)
