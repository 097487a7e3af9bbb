-- The pattern of a rounded fraction: the kept digits and the number of dropped ones give the fields.
use mathlib.Core.Path.{◌≡◌, refl, sym, ap, ◌∙◌, subst}
use mathlib.Core.Logic.{inl, inr}
use Prim.Native.Nat.{ℕ, zero, suc, ◌+◌, ◌-◌, ◌*◌, ◌/◌, ◌%◌, ◌^◌, ◌<◌, ◌≤◌, compare}
use native.Mathlib.Nat.{le_trans, le_of_eq, lt_of_le_of_lt, eq-or-lt_of_le, mul-div_cancel, mul-le-mul_right, le-div_iff_mul-le, div-div-eq-div-mul, lt_of_not-le, suc-mul, add_assoc}
use native.Mathlib.Omega.{arith}
use mathlib.Core.Bool.{Bool, true, false, cond}
use lib.Dec.{ltb}
use lib.Pow.{pow-add, pow_pos, pow_mono, pow-lt, shl_lt}
use lib.Ieee.{Float, nan, inf, fin, Format, binary32, binary64, prec, emax, low, hid, ones, top, up, down, size, nearest, odd, units, round, to_bits}
use lib.Ieee.Digits.{size-lt, size-le, size_reaches}
use lib.Ieee.Fits.{down_pos, nearest-le, kept-lt, round_is}
use lib.Ieee.Nearest.{nearest-ge}
use lib.Ieee.Exact.{HasValue, odd_sign}
use Rattle.value.specs.Divide.{round_bits}

-- the bits of a finite value, by its size in units of the smallest value
bits_of : (f : Format) (s : Bool) (x : Float) (a : ℕ) → HasValue x s a (2 ^ low f) → to_bits f x ≡ cond s (top f) 0 + (size a - prec f) * hid f + a / 2 ^ (size a - prec f)
unfolding to_bits
bits_of f s nan a h = absurd h
bits_of f s (inf t) a h = absurd h
bits_of f s (fin t m e) a h =
    let v : m * up e * 2 ^ low f / down e ≡ a = ap (λ (x : ℕ). x / down e) h.1 ∙ mul-div_cancel a (down_pos e) in
    ap (λ (n : ℕ). cond t (top f) 0 + (size n - prec f) * hid f + n / 2 ^ (size n - prec f)) v
    ∙ ap (λ (b : Bool). cond b (top f) 0 + (size a - prec f) * hid f + a / 2 ^ (size a - prec f)) h.0

size-gt : (n j : ℕ) → 2 ^ j ≤ n → j < size n
size-gt n j h = lt_of_not-le (λ k. clash n (size n) j h (size-lt n) (pow_mono k))
  where
    clash : (n z j : ℕ) → 2 ^ j ≤ n → n < 2 ^ z → 2 ^ z ≤ 2 ^ j → ⊥
    clash n z j a b c = omega arith

-- q of p digits at most, and of p exactly where any were dropped
dropped : (p k q : ℕ) → 0 < p → q < 2 ^ p → (0 < k → 2 ^ (p - 1) ≤ q) → size (q * 2 ^ k) - p ≡ k
dropped p zero q P h lo = let u = size-le (q * 2 ^ 0) (p + 0) (shl_lt p 0 h) in omega arith
dropped p (suc j) q P h lo =
    let u = size-le (q * 2 ^ suc j) (p + suc j) (shl_lt p (suc j) h) in
    let l = size-gt (q * 2 ^ suc j) (p - 1 + suc j) (le_trans (le_of_eq (pow-add 2 (p - 1) (suc j))) (mul-le-mul_right (2 ^ suc j) (lo (omega arith)))) in
    omega arith

pattern-of : (p k q : ℕ) → 0 < p → q ≤ 2 ^ p → (0 < k → 2 ^ (p - 1) ≤ q) → (size (q * 2 ^ k) - p) * 2 ^ (p - 1) + q * 2 ^ k / 2 ^ (size (q * 2 ^ k) - p) ≡ k * 2 ^ (p - 1) + q
pattern-of p k q P hi lo = elim (eq-or-lt_of_le hi) [
  | inl e ↦
      let w : q * 2 ^ k ≡ 2 ^ (p + k) = ap (λ (x : ℕ). x * 2 ^ k) e ∙ sym (pow-add 2 p k) in
      let u = size-le (q * 2 ^ k) (suc (p + k)) (lt_of_le_of_lt (le_of_eq w) (pow-lt (omega arith))) in
      let l = size-gt (q * 2 ^ k) (p + k) (le_of_eq (sym w)) in
      let z : size (q * 2 ^ k) - p ≡ suc k = omega arith in
      let r : p + k ≡ p - 1 + suc k = omega arith in
      let v : q * 2 ^ k ≡ 2 ^ (p - 1) * 2 ^ suc k = w ∙ ap (λ (x : ℕ). 2 ^ x) r ∙ pow-add 2 (p - 1) (suc k) in
      let d : q * 2 ^ k / 2 ^ suc k ≡ 2 ^ (p - 1) = ap (λ (x : ℕ). x / 2 ^ suc k) v ∙ mul-div_cancel (2 ^ (p - 1)) (pow_pos (suc k)) in
      let t : p ≡ p - 1 + 1 = omega arith in
      let y : 2 ^ p ≡ 2 ^ (p - 1) * 2 = ap (λ (x : ℕ). 2 ^ x) t ∙ pow-add 2 (p - 1) 1 in
      ap (λ (x : ℕ). x * 2 ^ (p - 1) + q * 2 ^ k / 2 ^ x) z ∙ ap (λ (x : ℕ). suc k * 2 ^ (p - 1) + x) d ∙ omega (arith, suc-mul k (2 ^ (p - 1)))
  | inr h ↦ ap (λ (x : ℕ). x * 2 ^ (p - 1) + q * 2 ^ k / 2 ^ x) (dropped p k q P h lo) ∙ ap (λ (x : ℕ). k * 2 ^ (p - 1) + x) (mul-div_cancel q (pow_pos k))
]

-- what `round` keeps
module _ (p n den : ℕ) (P : 0 < p) where
  kept-le : nearest (n / (den * 2 ^ (size (n / den) - p))) (compare (n % (den * 2 ^ (size (n / den) - p)) * 2) (den * 2 ^ (size (n / den) - p))) ≤ 2 ^ p
  kept-le =
      let k = size (n / den) - p in
      let u = den * 2 ^ k in
      le_trans (nearest-le (n / u) (compare (n % u * 2) u)) (subst (λ (x : ℕ). x < 2 ^ p) (div-div-eq-div-mul n den (2 ^ k)) (kept-lt p (n / den)))

  in_use : (z : ℕ) → 0 < z - p → p - 1 + (z - p) < z
  in_use z h = omega arith

  kept-ge : 0 < size (n / den) - p → 2 ^ (p - 1) ≤ nearest (n / (den * 2 ^ (size (n / den) - p))) (compare (n % (den * 2 ^ (size (n / den) - p)) * 2) (den * 2 ^ (size (n / den) - p)))
  kept-ge K =
      let k = size (n / den) - p in
      let u = den * 2 ^ k in
      let w = n / den in
      let a : 2 ^ (p - 1) * 2 ^ k ≤ w = le_trans (le_of_eq (sym (pow-add 2 (p - 1) k))) (size_reaches w (p - 1 + k) (in_use (size w) K)) in
      le_trans (subst (λ (x : ℕ). 2 ^ (p - 1) ≤ x) (div-div-eq-div-mul n den (2 ^ k)) ((le-div_iff_mul-le (pow_pos k)).1 a)) (nearest-ge (n / u) (compare (n % u * 2) u))

prec_pos : (f : Format) → 0 < prec f
prec_pos binary32 = omega arith
prec_pos binary64 = omega arith

units_bits : (f : Format) (s : Bool) (q k : ℕ) → q ≤ 2 ^ prec f → (0 < k → 2 ^ (prec f - 1) ≤ q)
    → to_bits f (units f s q k) ≡ cond s (top f) 0 + cond (ltb (q * 2 ^ k) (2 ^ (low f + suc (emax f)))) (k * hid f + q) (ones f * hid f)
unfolding units
units_bits f s q k hi lo = go (ltb (q * 2 ^ k) (2 ^ (low f + suc (emax f))))
  where
    overflow : to_bits f (inf s) ≡ cond s (top f) 0 + ones f * hid f
    overflow = unfold to_bits in refl

    go : (t : Bool) → to_bits f (cond t (odd (suc (prec f)) s q k (low f)) (inf s)) ≡ cond s (top f) 0 + cond t (k * hid f + q) (ones f * hid f)
    go true =
        bits_of f s (odd (suc (prec f)) s q k (low f)) (q * 2 ^ k) (odd_sign (suc (prec f)) s q k (low f))
        ∙ add_assoc (cond s (top f) 0) _ _
        ∙ ap (λ (x : ℕ). cond s (top f) 0 + x) (pattern-of (prec f) k q (prec_pos f) hi lo)
    go false = overflow

pub round_bits_lem : (f : Format) (s : Bool) (num den : ℕ) → to_bits f (round f s num den) ≡ cond s (top f) 0 + round_bits f num den
unfolding round_bits
round_bits_lem f s num den =
    ap (to_bits f) (round_is f s num den)
    ∙ units_bits f s _ (size (num * 2 ^ low f / den) - prec f) (kept-le (prec f) (num * 2 ^ low f) den (prec_pos f)) (kept-ge (prec f) (num * 2 ^ low f) den (prec_pos f))
