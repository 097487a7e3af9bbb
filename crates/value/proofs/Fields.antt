-- The machine's quotient of two floats is the quotient by their fields: by which fields are all ones, and else by a fraction of the two counts.
use mathlib.Core.Path.{◌≡◌, refl, sym, ap, ◌∙◌, subst}
use Prim.Native.Nat.{ℕ, zero, suc, ◌+◌, ◌*◌, ◌/◌, ◌%◌, ◌^◌, ◌<◌}
use native.Mathlib.Nat.{mul-one, mul_comm, mul_assoc, mul_left_comm, mul-pos, zero-mul, eq_of_mul-eq-mul_right, zero-lt-suc}
use native.Mathlib.Omega.{arith}
use mathlib.Core.Bool.{Bool, true, false, not, cond}
use borrow.Author.Tests.{ne_eqb, eqb-false}
use lib.Dec.{T, leb, eqb}
use lib.IntN.{pos}
use lib.Pow.{pow_pos}
use lib.Ieee.{Float, nan, inf, fin, Format, binary32, binary64, prec, low, hid, ones, top, up, down, unlike, round, odd, of_fields, of_bits, to_bits, div}
use lib.Ieee.Fits.{up_pos, down_pos}
use lib.Ieee.Exact.{HasValue, odd_sign}
use lib.Ieee.Scale.{round_same}
use Rattle.value.specs.Divide.{count, quiet, signed, quotient_bits, divide_bits}
use Rattle.value.proofs.Rounding.{round_bits_lem}

-- the same as a float
abbrev quotient : Format → Bool → ℕ → ℕ → Bool → ℕ → ℕ → Float
quotient f s x t s' x' t' =
    cond (eqb x (ones f))
    (cond (eqb t 0) (cond (eqb x' (ones f)) nan (inf (unlike s s'))) nan)
    (cond (eqb x' (ones f))
    (cond (eqb t' 0) (fin (unlike s s') 0 (pos 0)) nan)
    (cond (eqb (count f x' t') 0)
    (cond (eqb (count f x t) 0) nan (inf (unlike s s')))
    (round f (unlike s s') (count f x t) (count f x' t'))))

pub special : (f : Format) (s : Bool) (x t : ℕ) → eqb x (ones f) ≡ true → of_fields f s x t ≡ cond (eqb t 0) (inf s) nan
unfolding of_fields
special binary32 s zero t e = absurd (subst (λ (b : Bool). T (not b)) e tt)
special binary64 s zero t e = absurd (subst (λ (b : Bool). T (not b)) e tt)
special f s (suc x) t e = rw e

pub finite : (f : Format) (s : Bool) (x t : ℕ) → eqb x (ones f) ≡ false → HasValue (of_fields f s x t) s (count f x t) (2 ^ low f)
unfolding of_fields
finite f s zero t e = subst (λ (n : ℕ). HasValue (odd (prec f) s t 0 (low f)) s n (2 ^ low f)) (mul-one t) (odd_sign (prec f) s t 0 (low f))
finite f s (suc x) t e = rw e (odd_sign (prec f) s (hid f + t) x (low f))

-- a number is 0 exactly if its count is
pos_ne : (n : ℕ) → 0 < n → n ≡ 0 → ⊥
pos_ne n h e = omega arith

same_zero : (n u c b d : ℕ) → 0 < u → 0 < c → 0 < d → n * u * c ≡ b * d → eqb n 0 ≡ eqb b 0
same_zero zero u c zero d U C D e = refl
same_zero zero u c (suc b) d U C D e = absurd (pos_ne (suc b * d) (mul-pos (zero-lt-suc b) D) (sym e ∙ ap (λ (z : ℕ). z * c) (zero-mul u) ∙ zero-mul c))
same_zero (suc n) u c zero d U C D e = absurd (pos_ne (suc n * u * c) (mul-pos (mul-pos (zero-lt-suc n) U) C) (e ∙ zero-mul d))
same_zero (suc n) u c (suc b) d U C D e = ne_eqb (suc n) 0 (λ p. omega arith) ∙ sym (ne_eqb (suc b) 0 (λ p. omega arith))

cross : (m n a b de dd c : ℕ) → 0 < c → m * c ≡ a * de → n * c ≡ b * dd → m * dd * b ≡ a * (n * de)
cross m n a b de dd c C p q =
    let l : m * dd * b * c ≡ a * de * (dd * b) = simp (mul_assoc, mul_comm, mul_left_comm) (simp (mul_assoc, mul_comm, mul_left_comm) at (ap (λ (z : ℕ). z * (dd * b)) p)) in
    let r : a * (n * de) * c ≡ b * dd * (a * de) = simp (mul_assoc, mul_comm, mul_left_comm) (simp (mul_assoc, mul_comm, mul_left_comm) at (ap (λ (z : ℕ). z * (a * de)) q)) in
    let o : a * de * (dd * b) ≡ b * dd * (a * de) = simp (mul_assoc, mul_comm, mul_left_comm) in
    eq_of_mul-eq-mul_right c C (m * dd * b) (a * (n * de)) (l ∙ o ∙ sym r)

not_zero : (n : ℕ) → eqb n 0 ≡ false → 0 < n
not_zero n e = let z = eqb-false n 0 e in omega arith

quotient_of : (f : Format) (u v : Float) (s s' : Bool) (a b c : ℕ) → 0 < c → HasValue u s a c → HasValue v s' b c
    → div f u v ≡ cond (eqb b 0) (cond (eqb a 0) nan (inf (unlike s s'))) (round f (unlike s s') a b)
unfolding div
quotient_of f nan v s s' a b c C h k = absurd h
quotient_of f (inf p) v s s' a b c C h k = absurd h
quotient_of f (fin p m e) nan s s' a b c C h k = absurd k
quotient_of f (fin p m e) (inf q) s s' a b c C h k = absurd k
quotient_of f (fin p m e) (fin q n d) s s' a b c C h k =
    let N = same_zero n (up d) c b (down d) (up_pos d) C (down_pos d) k.1 in
    rw (N, same_zero m (up e) c a (down e) (up_pos e) C (down_pos e) h.1, h.0, k.0) (go N (eqb b 0) refl)
  where
    go : eqb n 0 ≡ eqb b 0 → (t : Bool) → eqb b 0 ≡ t
        → cond t (cond (eqb a 0) nan (inf (unlike s s'))) (round f (unlike s s') (m * up e * down d) (n * up d * down e))
        ≡ cond t (cond (eqb a 0) nan (inf (unlike s s'))) (round f (unlike s s') a b)
    go N true z = refl
    go N false z =
        round_same f (unlike s s') (m * up e * down d) (n * up d * down e) a b
        (mul-pos (mul-pos (not_zero n (N ∙ z)) (up_pos d)) (down_pos e)) (not_zero b z)
        (cross (m * up e) (n * up d) a b (down e) (down d) c C h.1 k.1)

both_special : (f : Format) (s s' : Bool) (p q : Bool) → div f (cond p (inf s) nan) (cond q (inf s') nan) ≡ cond p nan nan
unfolding div
both_special f s s' true true = refl
both_special f s s' true false = refl
both_special f s s' false q = refl

left_special : (f : Format) (s s' : Bool) (p : Bool) (v : Float) (b c : ℕ) → HasValue v s' b c → div f (cond p (inf s) nan) v ≡ cond p (inf (unlike s s')) nan
unfolding div
left_special f s s' p nan b c h = absurd h
left_special f s s' p (inf q) b c h = absurd h
left_special f s s' true (fin q n d) b c h = ap (λ (z : Bool). inf (unlike s z)) h.0
left_special f s s' false (fin q n d) b c h = refl

right_special : (f : Format) (s s' : Bool) (q : Bool) (u : Float) (a c : ℕ) → HasValue u s a c → div f u (cond q (inf s') nan) ≡ cond q (fin (unlike s s') 0 (pos 0)) nan
unfolding div
right_special f s s' q nan a c h = absurd h
right_special f s s' q (inf p) a c h = absurd h
right_special f s s' true (fin p m e) a c h = ap (λ (z : Bool). fin (unlike z s') 0 (pos 0)) h.0
right_special f s s' false (fin p m e) a c h = refl

-- the four ways in which two fields can be all ones
by_fields : (f : Format) (s : Bool) (x t : ℕ) (s' : Bool) (x' t' : ℕ) → div f (of_fields f s x t) (of_fields f s' x' t') ≡ quotient f s x t s' x' t'
by_fields f s x t s' x' t' = go (eqb x (ones f)) (eqb x' (ones f)) refl refl
  where
    go : (p q : Bool) → eqb x (ones f) ≡ p → eqb x' (ones f) ≡ q → div f (of_fields f s x t) (of_fields f s' x' t') ≡ quotient f s x t s' x' t'
    go true true e e' = rw (special f s x t e, special f s' x' t' e', e, e') (both_special f s s' (eqb t 0) (eqb t' 0))
    go true false e e' = rw (special f s x t e, e, e') (left_special f s s' (eqb t 0) (of_fields f s' x' t') (count f x' t') (2 ^ low f) (finite f s' x' t' e'))
    go false true e e' = rw (special f s' x' t' e', e, e') (right_special f s s' (eqb t' 0) (of_fields f s x t) (count f x t) (2 ^ low f) (finite f s x t e))
    go false false e e' = rw (e, e') (quotient_of f (of_fields f s x t) (of_fields f s' x' t') s s' (count f x t) (count f x' t') (2 ^ low f) (pow_pos (low f)) (finite f s x t e) (finite f s' x' t' e'))

of_nan : (f : Format) → to_bits f nan ≡ quiet f
unfolding to_bits
of_nan f = refl

of_inf : (f : Format) (s : Bool) → to_bits f (inf s) ≡ signed f s (ones f * hid f)
unfolding to_bits
of_inf f s = refl

of_zero : (f : Format) (s : Bool) → to_bits f (fin s 0 (pos 0)) ≡ signed f s 0
unfolding to_bits
of_zero binary32 true = refl
of_zero binary32 false = refl
of_zero binary64 true = refl
of_zero binary64 false = refl

into : (f : Format) (b : Bool) (x y : Float) {m n : ℕ} → to_bits f x ≡ m → to_bits f y ≡ n → to_bits f (cond b x y) ≡ cond b m n
into f true x y p q = p
into f false x y p q = q

pattern : (f : Format) (s : Bool) (x t : ℕ) (s' : Bool) (x' t' : ℕ) → to_bits f (quotient f s x t s' x' t') ≡ quotient_bits f s x t s' x' t'
unfolding quotient_bits
pattern f s x t s' x' t' =
    let z = unlike s s' in
    into f (eqb x (ones f)) _ _ (into f (eqb t 0) _ _ (into f (eqb x' (ones f)) _ _ (of_nan f) (of_inf f z)) (of_nan f))
    (into f (eqb x' (ones f)) _ _ (into f (eqb t' 0) _ _ (of_zero f z) (of_nan f))
    (into f (eqb (count f x' t') 0) _ _ (into f (eqb (count f x t) 0) _ _ (of_nan f) (of_inf f z)) (round_bits_lem f z (count f x t) (count f x' t'))))

pub divide_is : (f : Format) (a b : ℕ) → to_bits f (div f (of_bits f a) (of_bits f b)) ≡ divide_bits f a b
unfolding of_bits divide_bits
divide_is f a b =
    ap (to_bits f) (by_fields f (leb (top f) a) (a % top f / hid f) (a % hid f) (leb (top f) b) (b % top f / hid f) (b % hid f))
    ∙ pattern f (leb (top f) a) (a % top f / hid f) (a % hid f) (leb (top f) b) (b % top f / hid f) (b % hid f)
