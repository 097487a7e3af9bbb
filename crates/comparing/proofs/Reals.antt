-- The machine's comparisons of two floats are those of the numbers that their bits stand for, counted in units of 2 ^ -1074.
use Rattle.std.proofs.Common.{◌≡◌, ℕ, zero, suc, ◌+◌, ◌-◌, ◌*◌, ◌/◌, ◌%◌, ◌^◌, ◌<◌, ◌≤◌, Bool, true, false, cond, not, ◌&&◌, ◌||◌, eqb, ltb, leb, ℤ, sym, refl, ap, ◌∙◌, subst, mul-le-mul_right, mul_assoc, mul_comm, add-mul, mul-lt-mul_of_pos_right, mul-pos, zero-mul, mul_right_comm, arith, pow_pos, pow-add, ltb-false, ltb-true, le-ltb, lt-ltb, eq-eqb, ne_eqb, eqb-true}
use mathlib.Core.Bool.{beq, and-false}
use lib.Ieee.{Float, inf, fin, Format, binary32, binary64, low, hid, ones, top, up, down, below, level, of_fields, of_bits, lt, eq}
use lib.Ieee as I
use lib.Ieee.Fits.{down_pos}
use lib.Ieee.Exact.{HasValue}
use Rattle.value.specs.Answer.{pick}
use Rattle.value.specs.Divide.{count}
use Rattle.value.specs.Value.{Value, Real, nan, infinite, finite, sign_of, fields, real, reals, integers, naturals, passes, family, is_float, format_of, Order, less, equal, greater, unordered}
use Rattle.value.specs.Value as Believed
use Rattle.comparing.specs.Orders.{ordered, floating, wide_of}
use Rattle.std.specs.Prelude.{Some, None}
use Rattle.std.specs.Ordering.{float_partial_cmp}
use Rattle.std.specs.declared.cmp.Ordering.TheVariants.{Less, Equal, Greater}
use Rattle.value.proofs.Fields as Fields

-- a machine's float and the number that it is
pub data Means : Float → Real → Type 0 where
  is-nan : Means I.nan nan
  is_inf : (s : Bool) → Means (inf s) (infinite s)
  is_fin : (s : Bool) (m : ℕ) (e : ℤ) (a : ℕ) → m * up e * 2 ^ 1074 ≡ a * down e → Means (fin s m e) (finite (sign_of s a))

-- ---- a pattern's float is a pattern's number

rescaled : (m u l j a d c : ℕ) → l + j ≡ c → m * u * 2 ^ l ≡ a * d → m * u * 2 ^ c ≡ a * 2 ^ j * d
rescaled m u l j a d c e h =
    ap (λ (n : ℕ). m * u * 2 ^ n) (sym e)
    ∙ ap (λ (n : ℕ). m * u * n) (pow-add 2 l j)
    ∙ sym (mul_assoc (m * u) (2 ^ l) (2 ^ j))
    ∙ ap (λ (n : ℕ). n * 2 ^ j) h
    ∙ mul_right_comm a d (2 ^ j)

of-value : (u : Float) (s : Bool) (a l j : ℕ) → l + j ≡ 1074 → HasValue u s a (2 ^ l) → Means u (finite (sign_of s (a * 2 ^ j)))
of-value I.nan s a l j e h = absurd h
of-value (inf t) s a l j e h = absurd h
of-value (fin t m x) s a l j e h =
    subst (λ (s : Bool). Means (fin t m x) (finite (sign_of s (a * 2 ^ j)))) h.0 (is_fin t m x (a * 2 ^ j) (rescaled m (up x) l j a (down x) 1074 e h.1))

unit : (f : Format) → low f + (1074 - low f) ≡ 1074
unit binary32 = refl
unit binary64 = refl

of-fields : (f : Format) (s : Bool) (x t : ℕ) → Means (of_fields f s x t) (fields f s x t)
of-fields f s x t = go (eqb x (ones f)) refl
  where
    special : (b : Bool) → Means (cond b (inf s) I.nan) (pick b (infinite s) nan)
    special true = is_inf s
    special false = is-nan

    go : (b : Bool) → eqb x (ones f) ≡ b → Means (of_fields f s x t) (pick b (pick (eqb t 0) (infinite s) nan) (finite (sign_of s (count f x t * 2 ^ (1074 - low f)))))
    go true e = subst (λ (u : Float). Means u (pick (eqb t 0) (infinite s) nan)) (sym (Fields.special f s x t e)) (special (eqb t 0))
    go false e = of-value (of_fields f s x t) s (count f x t) (low f) (1074 - low f) (unit f) (Fields.finite f s x t e)

pub of_wide : (v : Value) → Means (wide_of v) (floating v)
unfolding wide_of floating real of_bits
of_wide v = go (is_float (family v.kind))
  where
    go : (b : Bool) → Means (pick b (of_bits (format_of v.kind) v.bits) I.nan) (pick b (real v) nan)
    go true = let f = format_of v.kind in of-fields f (leb (top f) v.bits) (v.bits % top f / hid f) (v.bits % hid f)
    go false = is-nan

pub no_wide : (v : Value) → is_float (family v.kind) ≡ false → wide_of v ≡ I.nan
unfolding wide_of
no_wide v e = rw e

-- ---- sizes: two of the machine's are to each other as the two counts

module _ (c p x y a b : ℕ) (C : 0 < c) (P : 0 < p) (X : x * c ≡ a * p) (Y : y * c ≡ b * p) where
  up_scaled : x < y → a < b
  up_scaled h = go (ltb a b) refl
    where
      clash : b ≤ a → a < b
      clash k = let l = mul-lt-mul_of_pos_right h C in let m = mul-le-mul_right p k in absurd (omega arith)

      go : (t : Bool) → ltb a b ≡ t → a < b
      go true e = ltb-true a b e
      go false e = clash (ltb-false a b e)

  down_scaled : y ≤ x → b ≤ a
  down_scaled h = go (ltb a b) refl
    where
      clash : a < b → b ≤ a
      clash k = let l = mul-le-mul_right c h in let m = mul-lt-mul_of_pos_right k P in absurd (omega arith)

      go : (t : Bool) → ltb a b ≡ t → b ≤ a
      go true e = clash (ltb-true a b e)
      go false e = ltb-false a b e

  same_ltb : ltb x y ≡ ltb a b
  same_ltb = go (ltb x y) refl
    where
      go : (t : Bool) → ltb x y ≡ t → t ≡ ltb a b
      go true e = sym (lt-ltb a b (up_scaled (ltb-true x y e)))
      go false e = sym (le-ltb a b (down_scaled (ltb-false x y e)))

-- equal is neither above nor below
apart : (a b : ℕ) → eqb a b ≡ not (ltb a b || ltb b a)
apart a b = go (ltb a b) (ltb b a) refl refl
  where
    go : (s t : Bool) → ltb a b ≡ s → ltb b a ≡ t → eqb a b ≡ not (s || t)
    go true t e f = let h = ltb-true a b e in ne_eqb a b (λ p. omega arith)
    go false true e f = let h = ltb-true b a f in ne_eqb a b (λ p. omega arith)
    go false false e f = let h = ltb-false a b e in let k = ltb-false b a f in eq-eqb a b (omega arith)

-- ---- the order of two numbers

lt-naturals : (a b : ℕ) → ltb a b ≡ passes Believed.lt (naturals a b)
unfolding naturals passes
lt-naturals a b = go (ltb a b) (eqb a b)
  where
    go : (s t : Bool) → s ≡ passes Believed.lt (pick s less (pick t equal greater))
    go true t = refl
    go false true = refl
    go false false = refl

gt-naturals : (a b : ℕ) → ltb b a ≡ passes Believed.gt (naturals a b)
unfolding naturals passes
gt-naturals a b = rw apart (go (ltb a b) (ltb b a) refl refl)
  where
    go : (s t : Bool) → ltb a b ≡ s → ltb b a ≡ t → t ≡ passes Believed.gt (pick s less (pick (not (s || t)) equal greater))
    go true true e f = let h = ltb-true a b e in let k = ltb-true b a f in absurd (omega arith)
    go true false e f = refl
    go false true e f = refl
    go false false e f = refl

eq-naturals : (a b : ℕ) → eqb a b ≡ passes Believed.eq (naturals a b)
unfolding naturals passes
eq-naturals a b = rw apart (go (ltb a b) (ltb b a))
  where
    go : (s t : Bool) → not (s || t) ≡ passes Believed.eq (pick s less (pick (not (s || t)) equal greater))
    go true t = refl
    go false true = refl
    go false false = refl

more : (a b : ℕ) → ltb (suc a) (suc b) ≡ ltb a b
more a b = go (ltb a b) refl
  where
    go : (t : Bool) → ltb a b ≡ t → ltb (suc a) (suc b) ≡ t
    go true e = let h = ltb-true a b e in lt-ltb (suc a) (suc b) (omega arith)
    go false e = let h = ltb-false a b e in le-ltb (suc a) (suc b) (omega arith)

same : (a b : ℕ) → eqb (suc a) (suc b) ≡ eqb b a
same a b = apart (suc a) (suc b) ∙ rw (more a b, more b a) (go (ltb a b) (ltb b a)) ∙ sym (apart b a)
  where
    go : (s t : Bool) → not (s || t) ≡ not (t || s)
    go true true = refl
    go true false = refl
    go false true = refl
    go false false = refl

one : (t : Bool) → (t && true) ≡ t
one true = refl
one false = refl

twice : (t : Bool) → (t && t) ≡ t
twice true = refl
twice false = refl

lt-signed : (s : Bool) (a : ℕ) (t : Bool) (b : ℕ) → below s a t b ≡ passes Believed.lt (integers (sign_of s a) (sign_of t b))
unfolding integers passes
lt-signed false a false b = lt-naturals a b
lt-signed false a true zero = sym (le-ltb a 0 (omega arith)) ∙ lt-naturals a 0
lt-signed false a true (suc b) = refl
lt-signed true zero false b = let z : 0 + b ≡ b = omega arith in ap (ltb 0) z ∙ lt-naturals 0 b
lt-signed true (suc a) false b = lt-ltb 0 (suc a + b) (omega arith)
lt-signed true zero true zero = lt-naturals 0 0
lt-signed true zero true (suc b) = le-ltb (suc b) 0 (omega arith)
lt-signed true (suc a) true zero = lt-ltb 0 (suc a) (omega arith)
lt-signed true (suc a) true (suc b) = more b a ∙ lt-naturals b a

gt-signed : (s : Bool) (a : ℕ) (t : Bool) (b : ℕ) → below t b s a ≡ passes Believed.gt (integers (sign_of s a) (sign_of t b))
unfolding integers passes
gt-signed false a false b = gt-naturals a b
gt-signed false a true zero = let z : 0 + a ≡ a = omega arith in ap (ltb 0) z ∙ gt-naturals a 0
gt-signed false a true (suc b) = lt-ltb 0 (suc b + a) (omega arith)
gt-signed true zero false b = sym (le-ltb b 0 (omega arith)) ∙ gt-naturals 0 b
gt-signed true (suc a) false b = refl
gt-signed true zero true zero = gt-naturals 0 0
gt-signed true zero true (suc b) = lt-ltb 0 (suc b) (omega arith)
gt-signed true (suc a) true zero = le-ltb (suc a) 0 (omega arith)
gt-signed true (suc a) true (suc b) = more a b ∙ gt-naturals b a

eq-signed : (s : Bool) (a : ℕ) (t : Bool) (b : ℕ) → level s a t b ≡ passes Believed.eq (integers (sign_of s a) (sign_of t b))
unfolding integers passes
eq-signed false a false b = one (eqb a b) ∙ eq-naturals a b
eq-signed false a true zero = twice (eqb a 0) ∙ eq-naturals a 0
eq-signed false a true (suc b) = go (eqb a (suc b)) (eqb a 0) refl refl
  where
    go : (s t : Bool) → eqb a (suc b) ≡ s → eqb a 0 ≡ t → (s && (false || t)) ≡ false
    go true true e f = let h = eqb-true a (suc b) e in let k = eqb-true a 0 f in absurd (omega arith)
    go true false e f = refl
    go false t e f = refl
eq-signed true zero false b = one (eqb 0 b) ∙ eq-naturals 0 b
eq-signed true (suc a) false b = ap (λ (t : Bool). eqb (suc a) b && (false || t)) (ne_eqb (suc a) 0 (λ p. omega arith)) ∙ and-false (eqb (suc a) b)
eq-signed true zero true zero = eq-naturals 0 0
eq-signed true zero true (suc b) = one (eqb 0 (suc b)) ∙ ne_eqb 0 (suc b) (λ p. omega arith)
eq-signed true (suc a) true zero = one (eqb (suc a) 0) ∙ ne_eqb (suc a) 0 (λ p. omega arith)
eq-signed true (suc a) true (suc b) = one (eqb (suc a) (suc b)) ∙ same a b ∙ eq-naturals b a

-- ---- the machine's comparisons

-- the sizes that the machine compares, and the counts
module _ (m u d a n v e b : ℕ) (D : 0 < d) (E : 0 < e) (X : m * u * 2 ^ 1074 ≡ a * d) (Y : n * v * 2 ^ 1074 ≡ b * e) where
  left : m * u * e * 2 ^ 1074 ≡ a * (d * e)
  left = mul_right_comm (m * u) e (2 ^ 1074) ∙ ap (λ (k : ℕ). k * e) X ∙ mul_assoc a d e

  right : n * v * d * 2 ^ 1074 ≡ b * (d * e)
  right = mul_right_comm (n * v) d (2 ^ 1074) ∙ ap (λ (k : ℕ). k * d) Y ∙ mul_assoc b e d ∙ ap (λ (k : ℕ). b * k) (mul_comm e d)

  pub forth : ltb (m * u * e) (n * v * d) ≡ ltb a b
  forth = same_ltb (2 ^ 1074) (d * e) (m * u * e) (n * v * d) a b (pow_pos 1074) (mul-pos D E) left right

  pub back : ltb (n * v * d) (m * u * e) ≡ ltb b a
  back = same_ltb (2 ^ 1074) (d * e) (n * v * d) (m * u * e) b a (pow_pos 1074) (mul-pos D E) right left

  pub both : ltb 0 (m * u * e + n * v * d) ≡ ltb 0 (a + b)
  both =
      same_ltb (2 ^ 1074) (d * e) 0 (m * u * e + n * v * d) 0 (a + b) (pow_pos 1074) (mul-pos D E)
      (zero-mul (2 ^ 1074) ∙ sym (zero-mul (d * e)))
      (add-mul (m * u * e) (n * v * d) (2 ^ 1074) ∙ ap (λ (k : ℕ). k + n * v * d * 2 ^ 1074) left ∙ ap (λ (k : ℕ). a * (d * e) + k) right ∙ sym (add-mul a b (d * e)))

  pub null : eqb (m * u * e) 0 ≡ eqb a 0
  null =
      let z : 0 * 2 ^ 1074 ≡ 0 * (d * e) = zero-mul (2 ^ 1074) ∙ sym (zero-mul (d * e)) in
      apart (m * u * e) 0
      ∙ ap (λ (t : Bool). not (t || ltb 0 (m * u * e))) (same_ltb (2 ^ 1074) (d * e) (m * u * e) 0 a 0 (pow_pos 1074) (mul-pos D E) left z)
      ∙ ap (λ (t : Bool). not (ltb a 0 || t)) (same_ltb (2 ^ 1074) (d * e) 0 (m * u * e) 0 a (pow_pos 1074) (mul-pos D E) z left)
      ∙ sym (apart a 0)

  pub alike : eqb (m * u * e) (n * v * d) ≡ eqb a b
  alike = apart (m * u * e) (n * v * d) ∙ ap (λ (t : Bool). not (t || ltb (n * v * d) (m * u * e))) forth ∙ ap (λ (t : Bool). not (ltb a b || t)) back ∙ sym (apart a b)

  -- by sign and size
  pub below-is : (s t : Bool) → below s (m * u * e) t (n * v * d) ≡ below s a t b
  below-is false false = forth
  below-is false true = refl
  below-is true false = both
  below-is true true = back

  pub level_is : (s t : Bool) → level s (m * u * e) t (n * v * d) ≡ level s a t b
  level_is s t = ap (λ (z : Bool). z && (beq s t || eqb (m * u * e) 0)) alike ∙ ap (λ (z : Bool). eqb a b && (beq s t || z)) null

pub lt-is : {u v : Float} {x y : Real} → Means u x → Means v y → lt u v ≡ passes Believed.lt (reals x y)
unfolding lt reals passes
lt-is is-nan k = refl
lt-is (is_inf s) is-nan = refl
lt-is (is_inf true) (is_inf true) = refl
lt-is (is_inf true) (is_inf false) = refl
lt-is (is_inf false) (is_inf true) = refl
lt-is (is_inf false) (is_inf false) = refl
lt-is (is_inf true) (is_fin t n d b Y) = refl
lt-is (is_inf false) (is_fin t n d b Y) = refl
lt-is (is_fin s m e a X) is-nan = refl
lt-is (is_fin s m e a X) (is_inf true) = refl
lt-is (is_fin s m e a X) (is_inf false) = refl
lt-is (is_fin s m e a X) (is_fin t n d b Y) = below-is m (up e) (down e) a n (up d) (down d) b (down_pos e) (down_pos d) X Y s t ∙ lt-signed s a t b

pub gt-is : {u v : Float} {x y : Real} → Means u x → Means v y → lt v u ≡ passes Believed.gt (reals x y)
unfolding lt reals passes
gt-is is-nan is-nan = refl
gt-is is-nan (is_inf t) = refl
gt-is is-nan (is_fin t n d b Y) = refl
gt-is (is_inf s) is-nan = refl
gt-is (is_inf true) (is_inf true) = refl
gt-is (is_inf true) (is_inf false) = refl
gt-is (is_inf false) (is_inf true) = refl
gt-is (is_inf false) (is_inf false) = refl
gt-is (is_inf true) (is_fin t n d b Y) = refl
gt-is (is_inf false) (is_fin t n d b Y) = refl
gt-is (is_fin s m e a X) is-nan = refl
gt-is (is_fin s m e a X) (is_inf true) = refl
gt-is (is_fin s m e a X) (is_inf false) = refl
gt-is (is_fin s m e a X) (is_fin t n d b Y) = below-is n (up d) (down d) b m (up e) (down e) a (down_pos d) (down_pos e) Y X t s ∙ gt-signed s a t b

pub eq_is : {u v : Float} {x y : Real} → Means u x → Means v y → eq u v ≡ passes Believed.eq (reals x y)
unfolding eq reals passes
eq_is is-nan k = refl
eq_is (is_inf s) is-nan = refl
eq_is (is_inf true) (is_inf true) = refl
eq_is (is_inf true) (is_inf false) = refl
eq_is (is_inf false) (is_inf true) = refl
eq_is (is_inf false) (is_inf false) = refl
eq_is (is_inf true) (is_fin t n d b Y) = refl
eq_is (is_inf false) (is_fin t n d b Y) = refl
eq_is (is_fin s m e a X) is-nan = refl
eq_is (is_fin s m e a X) (is_inf true) = refl
eq_is (is_fin s m e a X) (is_inf false) = refl
eq_is (is_fin s m e a X) (is_fin t n d b Y) = level_is m (up e) (down e) a n (up d) (down d) b (down_pos e) (down_pos d) X Y s t ∙ eq-signed s a t b

-- ---- std's order of two floats

by_tests : (o : Order) → cond (passes Believed.lt o) (Some Less) (cond (passes Believed.eq o) (Some Equal) (cond (passes Believed.gt o) (Some Greater) None)) ≡ ordered o
unfolding ordered passes
by_tests less = refl
by_tests equal = refl
by_tests greater = refl
by_tests unordered = refl

pub order-is : (x y : Value) {u v : Float} → u ≡ wide_of x → v ≡ wide_of y → float_partial_cmp u v ≡ ordered (reals (floating x) (floating y))
order-is x y e f = rw (e, f, lt-is (of_wide x) (of_wide y), eq_is (of_wide x) (of_wide y), gt-is (of_wide x) (of_wide y)) (by_tests (reals (floating x) (floating y)))
