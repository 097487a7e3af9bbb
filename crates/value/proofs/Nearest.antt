-- `round_bits` gives the pattern that is nearest to the quotient, a tie to the even one, and no other pattern is so.
use mathlib.Core.Path.{◌≡◌, refl, sym, ap, ◌∙◌, subst}
use mathlib.Core.Logic.{◌⊎◌, inl, inr, ◌≢◌}
use mathlib.Core.Bool.{Bool, true, false, not, cond}
use Prim.Native.Nat.{ℕ, zero, suc, ◌+◌, ◌-◌, ◌*◌, ◌/◌, ◌%◌, ◌^◌, ◌<◌, ◌≤◌, compare, Ordering}
use native.Mathlib.Nat.{add-mul, add-sub_of_le, add-zero, div-add-mod', div-div-eq-div-mul, div-lt_iff_lt-mul, eq_of_mul-eq-mul_right, eq-or-lt_of_le, le-add_right, le_antisymm, le-div_iff_mul-le, le_of_eq, le_of_lt, le_of_suc-le-suc, le_refl, le_trans, lt_irrefl, lt_of_le_of_lt, lt_of_lt_of_le, lt_of_not-le, lt_trans, mod-eq_of_lt, mod-lt, mul_assoc, mul_comm, mul-le-mul_left, mul-le-mul_right, mul_left_comm, mul-lt-mul_of_pos_right, mul-one, mul-pos, ne_of_gt, ne_of_lt, not-le_of_lt, not-suc-le-zero, pow-succ', sub-le, zero-lt-suc}
use native.Mathlib.Omega.{arith}
use borrow.Author.Tests.{ne_eqb}
use lib.Arith.{digits_div, digits_mod, lt_of_le-ne}
use lib.Dec.{T, lit<, is_le, compare_is_eq, leb, ltb, eqb, leb→le, nleb→lt, ltb→lt, nltb→le, eqb→eq, eqb_refl}
use lib.Pow.{pow-add, pow_pos, pow_mono}
use lib.Ieee.{Format, binary32, binary64, prec, low, hid, ones, top, size, nearest}
use lib.Ieee.Digits.{size_reaches}
use lib.Ieee.Fits.{two, kept-lt, nearest-le}
use lib.Ieee.Nearest.{nearest-ge}
use Rattle.value.specs.Divide.{count, round_bits, quotient_bits, divide_bits}
use Rattle.value.specs.Nearest.{infinity, magnitude, apart, distance, limit, Overflows, Rounded, DividesToNearest}

-- ---- a pattern's magnitude, with no bound on the exponent: a greater pattern has a greater one
abbrev worth : Format → ℕ → ℕ
worth f p = count f (p / hid f) (p % hid f)

count_under : (f : Format) (x t : ℕ) → t < hid f → count f x t < hid f * 2 ^ x
count_under f zero t h = omega arith
count_under f (suc x) t h =
    lt_of_lt_of_le (mul-lt-mul_of_pos_right {m = hid f + t} {n = hid f * 2} (omega arith) (pow_pos x)) (le_of_eq (mul_assoc (hid f) 2 (2 ^ x) ∙ ap (λ (z : ℕ). hid f * z) (sym (pow-succ' 2 x))))

field_rises : (f : Format) (x t y u : ℕ) → t < hid f → x < y → count f x t < count f y u
field_rises f x t zero u h l = omega arith
field_rises f x t (suc y) u h l =
    lt_of_lt_of_le (count_under f x t h) (le_trans (mul-le-mul_left (hid f) (pow_mono (omega arith))) (mul-le-mul_right (2 ^ y) (le-add_right (hid f) u)))

digits_rise : (f : Format) (x t u : ℕ) → t < u → count f x t < count f x u
digits_rise f zero t u l = l
digits_rise f (suc x) t u l = mul-lt-mul_of_pos_right (omega arith) (pow_pos x)

hid_pos : (f : Format) → 0 < hid f
hid_pos f = pow_pos (prec f - 1)

digits : (f : Format) (p : ℕ) → p % hid f < hid f
digits f p = mod-lt p (hid_pos f)

rises : (f : Format) (p q : ℕ) → p < q → worth f p < worth f q
rises f p q l =
    let h = hid f in
    let a = div-add-mod' p h in
    let b = div-add-mod' q h in
    elim (eq-or-lt_of_le {n = p / h} {m = q / h} ((le-div_iff_mul-le (hid_pos f)).1 (omega arith))) [
      | inl e ↦
          let c = ap (λ (z : ℕ). z * h) e in
          subst (λ (z : ℕ). count f z (p % h) < worth f q) (sym e) (digits_rise f (q / h) (p % h) (q % h) (omega arith))
      | inr k ↦ field_rises f (p / h) (p % h) (q / h) (q % h) (digits f p) k
    ]

falls : (f : Format) (p q : ℕ) → worth f p ≤ worth f q → p ≤ q
falls f p q h = le_of_suc-le-suc (lt_of_not-le (λ (g : suc q ≤ p). not-le_of_lt (rises f q p g) h))

rises_le : (f : Format) (p q : ℕ) → p ≤ q → worth f p ≤ worth f q
rises_le f p q h = elim (eq-or-lt_of_le h) [ inl e ↦ le_of_eq (ap (worth f) e) | inr l ↦ le_of_lt (rises f p q l) ]

same-pattern : (f : Format) (p q : ℕ) → worth f p ≡ worth f q → p ≡ q
same-pattern f p q e = le_antisymm (falls f p q (le_of_eq e)) (falls f q p (le_of_eq (sym e)))

-- ---- the pattern of the digits q that are kept where k are dropped
of-fields : (f : Format) (x t : ℕ) → t < hid f → worth f (x * hid f + t) ≡ count f x t
of-fields f x t h = ap (λ (z : ℕ). count f z ((x * hid f + t) % hid f)) (digits_div x h) ∙ ap (λ (z : ℕ). count f x z) (digits_mod x h)

worth-kept : (f : Format) (k q : ℕ) → q ≤ 2 * hid f → (0 < k → hid f ≤ q) → worth f (k * hid f + q) ≡ q * 2 ^ k
worth-kept f k q hi lo = go (ltb q (hid f)) (ltb→lt q (hid f)) (nltb→le q (hid f)) (eq-or-lt_of_le hi)
  where
    few : (k : ℕ) → q < hid f → (0 < k → hid f ≤ q) → worth f (k * hid f + q) ≡ q * 2 ^ k
    few zero a l = of-fields f 0 q a ∙ sym (mul-one q)
    few (suc j) a l = absurd (not-le_of_lt a (l (zero-lt-suc j)))

    go : (b : Bool) → (T b → q < hid f) → (T (not b) → hid f ≤ q) → (q ≡ 2 * hid f) ⊎ (q < 2 * hid f) → worth f (k * hid f + q) ≡ q * 2 ^ k
    go true a b c = few k (a tt) lo
    go false a b (inl e) =
        let s : k * hid f + q ≡ suc (suc k) * hid f + 0 = omega arith in
        ap (worth f) s ∙ of-fields f (suc (suc k)) 0 (hid_pos f)
        ∙ ap (λ (z : ℕ). z * 2 ^ suc k) (add-zero (hid f)) ∙ ap (λ (z : ℕ). hid f * z) (pow-succ' 2 k) ∙ mul_left_comm (hid f) 2 (2 ^ k) ∙ sym (mul_assoc 2 (hid f) (2 ^ k))
        ∙ ap (λ (z : ℕ). z * 2 ^ k) (sym e)
    go false a b (inr l) =
        let h = b tt in
        let s : k * hid f + q ≡ suc k * hid f + (q - hid f) = omega arith in
        ap (worth f) s ∙ of-fields f (suc k) (q - hid f) (omega arith) ∙ ap (λ (z : ℕ). z * 2 ^ k) (add-sub_of_le h)

-- ---- no magnitude lies strictly between m * 2 ^ k and (m + 1) * 2 ^ k, where m has all the digits or k is 0
either : (a b : ℕ) → (a ≤ b) ⊎ (b < a)
either a b = go (leb a b) (leb→le a b) (nleb→lt a b)
  where
    go : (t : Bool) → (T t → a ≤ b) → (T (not t) → b < a) → (a ≤ b) ⊎ (b < a)
    go true h k = inl (h tt)
    go false h k = inr (k tt)

multiple : (c m k : ℕ) → (c * 2 ^ k ≤ m * 2 ^ k) ⊎ (suc m * 2 ^ k ≤ c * 2 ^ k)
multiple c m k = elim (either c m) [ inl h ↦ inl (mul-le-mul_right (2 ^ k) h) | inr h ↦ inr (mul-le-mul_right (2 ^ k) h) ]

between : (f : Format) (k m x t : ℕ) → t < hid f → (0 < k → hid f ≤ m) → (count f x t ≤ m * 2 ^ k) ⊎ (suc m * 2 ^ k ≤ count f x t)
between f zero m x t h lo = subst (λ (c : ℕ). (c ≤ m * 1) ⊎ (suc m * 1 ≤ c)) (mul-one (count f x t)) (multiple (count f x t) m 0)
between f (suc j) m x t h lo = go x (either x (suc j))
  where
    go : (x : ℕ) → (x ≤ suc j) ⊎ (suc j < x) → (count f x t ≤ m * 2 ^ suc j) ⊎ (suc m * 2 ^ suc j ≤ count f x t)
    go x (inl l) = inl (le_trans (le_of_lt (count_under f x t h)) (le_trans (mul-le-mul_left (hid f) (pow_mono l)) (mul-le-mul_right (2 ^ suc j) (lo (zero-lt-suc j)))))
    go zero (inr l) = absurd (not-suc-le-zero l)
    go (suc y) (inr l) =
        let s : y ≡ y - suc j + suc j = omega arith in
        let e : (hid f + t) * 2 ^ (y - suc j) * 2 ^ suc j ≡ (hid f + t) * 2 ^ y = mul_assoc (hid f + t) (2 ^ (y - suc j)) (2 ^ suc j) ∙ ap (λ (z : ℕ). (hid f + t) * z) (sym (pow-add 2 (y - suc j) (suc j)) ∙ ap (λ (z : ℕ). 2 ^ z) (sym s)) in
        subst (λ (c : ℕ). (c ≤ m * 2 ^ suc j) ⊎ (suc m * 2 ^ suc j ≤ c)) e (multiple ((hid f + t) * 2 ^ (y - suc j)) m (suc j))

-- ---- of the multiples q * u and (q + 1) * u around q * u + r, `nearest` takes the nearer, and the even one of two that are as near
abbrev Cmp : Ordering → ℕ → ℕ → Type 0
Cmp Ordering.lt a b = a < b
Cmp Ordering.eq a b = a ≡ b
Cmp Ordering.gt a b = b < a

cmp : (a b : ℕ) → Cmp (compare a b) a b
cmp a b = go (compare a b) (leb→le a b) (nleb→lt a b) (eqb→eq a b) (λ (e : a ≡ b). subst (λ (x : ℕ). T (eqb a x)) e (eqb_refl a))
  where
    go : (o : Ordering) → (T (is_le o) → a ≤ b) → (T (not (is_le o)) → b < a) → (T (compare_is_eq o) → a ≡ b) → (a ≡ b → T (compare_is_eq o)) → Cmp o a b
    go Ordering.lt h k e n = lt_of_le-ne (h tt) n
    go Ordering.eq h k e n = e tt
    go Ordering.gt h k e n = k tt

-- v is the multiple that is taken, and w is not strictly between the two
abbrev Took : (q u r v : ℕ) → Type 0
Took q u r v = ((v ≡ q * u) × (r * 2 ≤ u)) ⊎ ((v ≡ suc q * u) × (u ≤ r * 2))

abbrev Outside : (q u w : ℕ) → Type 0
Outside q u w = (w ≤ q * u) ⊎ (suc q * u ≤ w)

took : (q u r : ℕ) (o : Ordering) → Cmp o (r * 2) u → Took q u r (nearest q o * u)
took q u r Ordering.lt c = inl (refl, le_of_lt c)
took q u r Ordering.eq c = elim (either (q % 2) 0) [ inl h ↦ inl (ap (λ (z : ℕ). z * u) (omega arith), le_of_eq c) | inr h ↦ inr (ap (λ (z : ℕ). z * u) (omega arith), le_of_eq (sym c)) ]
took q u r Ordering.gt c = inr (refl, le_of_lt c)

half_even : (q u r : ℕ) (o : Ordering) → Cmp o (r * 2) u → r * 2 ≡ u → nearest q o % 2 ≡ 0
half_even q u r Ordering.lt c e = absurd (lt_irrefl (r * 2) (lt_of_lt_of_le c (le_of_eq (sym e))))
half_even q u r Ordering.eq c e = omega arith
half_even q u r Ordering.gt c e = absurd (lt_irrefl u (lt_of_lt_of_le c (le_of_eq e)))

module _ (q u r v w : ℕ) (R : r < u) where
  nearer : Took q u r v → Outside q u w → apart v (q * u + r) ≤ apart w (q * u + r)
  nearer (inl (e, h)) (inl k) = omega arith
  nearer (inl (e, h)) (inr k) = omega arith
  nearer (inr (e, h)) (inl k) = omega arith
  nearer (inr (e, h)) (inr k) = omega arith

  halfway : Took q u r v → Outside q u w → w ≢ v → apart w (q * u + r) ≡ apart v (q * u + r) → r * 2 ≡ u
  halfway (inl (e, h)) (inl k) d t = omega arith
  halfway (inl (e, h)) (inr k) d t = omega arith
  halfway (inr (e, h)) (inl k) d t = omega arith
  halfway (inr (e, h)) (inr k) d t = omega arith

-- ---- num / den rounded with no bound on the exponent is the best of all patterns
abbrev gap : Format → (num den p : ℕ) → ℕ
gap f num den p = apart (worth f p * den) (num * 2 ^ low f)

record Best (f : Format) (num den r : ℕ) : Type 0 where
  near : (p : ℕ) → gap f num den r ≤ gap f num den p
  tie : (p : ℕ) → p ≢ r → gap f num den p ≡ gap f num den r → r % 2 ≡ 0

twice_hid : (f : Format) → 2 ^ prec f ≡ 2 * hid f
twice_hid binary32 = refl
twice_hid binary64 = refl

hid_even : (f : Format) → hid f % 2 ≡ 0
hid_even binary32 = refl
hid_even binary64 = refl

even_sum : (k h q : ℕ) → h % 2 ≡ 0 → q % 2 ≡ 0 → (k * h + q) % 2 ≡ 0
even_sum k h q a b = let e : k * h ≡ 2 * (k * (h / 2)) = ap (λ (x : ℕ). k * x) (omega arith) ∙ mul_left_comm k 2 (h / 2) in omega arith

all_used : (z p : ℕ) → 2 ≤ p → 0 < z - p → p - 1 + (z - p) < z
all_used z p P h = omega arith

module _ (f : Format) (num den : ℕ) where
  abbrev n : ℕ
  n = num * 2 ^ low f

  abbrev dropped : ℕ
  dropped = size (n / den) - prec f

  abbrev unit : ℕ
  unit = den * 2 ^ dropped

  abbrev kept : ℕ
  kept = nearest (n / unit) (compare (n % unit * 2) unit)

  abbrev unbounded : ℕ
  unbounded = dropped * hid f + kept

  -- the whole part has no more digits than the format, and all of them where any are dropped
  floor_under : n / unit < 2 * hid f
  floor_under = subst (λ (x : ℕ). n / unit < x) (twice_hid f) (subst (λ (x : ℕ). x < 2 ^ prec f) (div-div-eq-div-mul n den (2 ^ dropped)) (kept-lt (prec f) (n / den)))

  floor_over : 0 < dropped → hid f ≤ n / unit
  floor_over K =
      subst (λ (x : ℕ). hid f ≤ x) (div-div-eq-div-mul n den (2 ^ dropped))
      ((le-div_iff_mul-le (pow_pos dropped)).1 (le_trans (le_of_eq (sym (pow-add 2 (prec f - 1) dropped))) (size_reaches (n / den) (prec f - 1 + dropped) (all_used (size (n / den)) (prec f) (two f) K))))

  worth-is : worth f unbounded ≡ kept * 2 ^ dropped
  worth-is =
      let o = compare (n % unit * 2) unit in
      worth-kept f dropped kept (le_trans (nearest-le (n / unit) o) floor_under) (λ (K : 0 < dropped). le_trans (floor_over K) (nearest-ge (n / unit) o))

  scaled : (m : ℕ) → m * 2 ^ dropped * den ≡ m * unit
  scaled m = mul_assoc m (2 ^ dropped) den ∙ ap (λ (x : ℕ). m * x) (mul_comm (2 ^ dropped) den)

  outside : (p : ℕ) → Outside (n / unit) unit (worth f p * den)
  outside p = elim (between f dropped (n / unit) (p / hid f) (p % hid f) (digits f p) floor_over) [
    | inl h ↦ inl (le_trans (mul-le-mul_right den h) (le_of_eq (scaled (n / unit))))
    | inr h ↦ inr (le_trans (le_of_eq (sym (scaled (suc (n / unit))))) (mul-le-mul_right den h))
  ]

  best : 0 < den → Best f num den unbounded
  best D =
      let q = n / unit in
      let r = n % unit in
      let v : worth f unbounded * den ≡ kept * unit = ap (λ (x : ℕ). x * den) worth-is ∙ scaled kept in
      let e : q * unit + r ≡ n = div-add-mod' n unit in
      let R : r < unit = mod-lt n (mul-pos D (pow_pos dropped)) in
      let c = cmp (r * 2) unit in
      let g = took q unit r (compare (r * 2) unit) c in
      record {
        near = λ p.
            subst (λ (x : ℕ). apart x n ≤ gap f num den p) (sym v)
            (subst (λ (x : ℕ). apart (kept * unit) x ≤ apart (worth f p * den) x) e (nearer q unit r (kept * unit) (worth f p * den) R g (outside p)));
        tie = λ p d t.
            even_sum dropped (hid f) kept (hid_even f)
            (half_even q unit r (compare (r * 2) unit) c
            (halfway q unit r (kept * unit) (worth f p * den) R g (outside p)
            (λ (s : worth f p * den ≡ kept * unit). d (same-pattern f p unbounded (eq_of_mul-eq-mul_right den D (worth f p) (worth f unbounded) (s ∙ sym v))))
            (subst (λ (x : ℕ). apart (worth f p * den) x ≡ apart (kept * unit) x) (sym e) (t ∙ ap (λ (x : ℕ). apart x n) v))));
      }

-- ---- with the bound: the best pattern where it is finite, else the infinity
worth-infinity : (f : Format) → worth f (infinity f) ≡ limit f
worth-infinity binary32 = refl
worth-infinity binary64 = refl

last_odd : (f : Format) → (infinity f - 1) % 2 ≡ 1
last_odd binary32 = refl
last_odd binary64 = refl

infinity_pos : (f : Format) → 0 < infinity f
infinity_pos binary32 = lit< tt
infinity_pos binary64 = lit< tt

infinity-top : (f : Format) → infinity f < top f
infinity-top binary32 = lit< tt
infinity-top binary64 = lit< tt

magnitude-is : (f : Format) (p : ℕ) → p ≤ infinity f → magnitude f p ≡ worth f p
magnitude-is f p h = ap (λ (x : ℕ). count f (x / hid f) (p % hid f)) (mod-eq_of_lt (lt_of_le_of_lt h (infinity-top f)))

distance_is : (f : Format) (num den p : ℕ) → p < infinity f → gap f num den p ≡ distance f num den p
distance_is f num den p h = ap (λ (x : ℕ). apart (x * den) (num * 2 ^ low f)) (sym (magnitude-is f p (le_of_lt h)))

-- n is at or past the middle of g and b: what is up to g and as near as b is g itself, at the middle
squeeze : (a g b n : ℕ) → a ≤ g → g < b → apart a n ≤ apart b n → g + b ≤ 2 * n → (a ≡ g) × (apart b n ≡ apart a n)
squeeze a g b n h l m o = omega arith

-- n is there if something from b on is as near as g
past : (g b a n : ℕ) → g < b → b ≤ a → apart a n ≤ apart g n → g + b ≤ 2 * n
past g b a n l h m = omega arith

module _ (f : Format) (num den r : ℕ) (D : 0 < den) (B : Best f num den r) where
  abbrev last : ℕ
  last = infinity f - 1

  last_under : worth f last * den < worth f (infinity f) * den
  last_under = mul-lt-mul_of_pos_right (rises f last (infinity f) (omega (arith, infinity_pos f))) D

  middle : (magnitude f last + limit f) * den ≡ worth f last * den + worth f (infinity f) * den
  middle = ap (λ (x : ℕ). (x + limit f) * den) (magnitude-is f last (sub-le (infinity f) 1)) ∙ ap (λ (x : ℕ). (worth f last + x) * den) (sym (worth-infinity f)) ∙ add-mul (worth f last) (worth f (infinity f)) den

  not-past : r < infinity f → Overflows f num den → ⊥
  not-past h o =
      let s = squeeze (worth f r * den) (worth f last * den) (worth f (infinity f) * den) (num * 2 ^ low f) (mul-le-mul_right den (rises_le f r last (le_pred h))) last_under (B.near (infinity f)) (le_trans (le_of_eq (sym middle)) o) in
      let e : r ≡ last = same-pattern f r last (eq_of_mul-eq-mul_right den D (worth f r) (worth f last) s.0) in
      odd_even (B.tie (infinity f) (λ (x : infinity f ≡ r). lt_irrefl r (lt_of_lt_of_le h (le_of_eq x))) s.1) (ap (λ (x : ℕ). x % 2) e ∙ last_odd f)
    where
      le_pred : {a b : ℕ} → a < b → a ≤ b - 1
      le_pred h = omega arith

      odd_even : {a : ℕ} → a ≡ 0 → a ≡ 1 → ⊥
      odd_even e o = omega arith

  below : r < infinity f → Rounded f num den r
  below h = record {
    pattern = le_of_lt h;
    infinite = (λ (e : r ≡ infinity f). absurd (lt_irrefl r (lt_of_lt_of_le h (le_of_eq (sym e)))), λ o. absurd (not-past h o));
    nearest = λ l p k. le_trans (le_of_eq (sym (distance_is f num den r h))) (le_trans (B.near p) (le_of_eq (distance_is f num den p k)));
    even = λ l p k d t. B.tie p d (distance_is f num den p k ∙ t ∙ sym (distance_is f num den r h));
  }

  above : infinity f ≤ r → Rounded f num den (infinity f)
  above h = record {
    pattern = le_refl (infinity f);
    infinite = (λ e. le_trans (le_of_eq middle) (past (worth f last * den) (worth f (infinity f) * den) (worth f r * den) (num * 2 ^ low f) last_under (mul-le-mul_right den (rises_le f (infinity f) r h)) (B.near last)), λ o. refl);
    nearest = λ l. absurd (lt_irrefl (infinity f) l);
    even = λ l. absurd (lt_irrefl (infinity f) l);
  }

pub rounded : (f : Format) (num den : ℕ) → 0 < den → Rounded f num den (round_bits f num den)
unfolding round_bits
rounded f num den D = go (ltb w (limit f)) (ltb→lt w (limit f)) (nltb→le w (limit f))
  where
    w : ℕ
    w = kept f num den * 2 ^ dropped f num den

    r : ℕ
    r = unbounded f num den

    under : w < limit f → infinity f ≤ r → ⊥
    under l h = not-le_of_lt l (le_trans (le_of_eq (sym (worth-infinity f))) (le_trans (rises_le f (infinity f) r h) (le_of_eq (worth-is f num den))))

    go : (b : Bool) → (T b → w < limit f) → (T (not b) → limit f ≤ w) → Rounded f num den (cond b r (infinity f))
    go true a b = below f num den r D (best f num den D) (lt_of_not-le (under (a tt)))
    go false a b = above f num den r D (best f num den D) (falls f (infinity f) r (le_trans (le_of_eq (worth-infinity f)) (le_trans (b tt) (le_of_eq (sym (worth-is f num den))))))

-- ---- no other pattern is num / den rounded: of two that are as near both would be even, and the one after the lesser is nearer
inner : (a b c n : ℕ) → a < b → b < c → apart a n ≡ apart c n → apart a n ≤ apart b n → ⊥
inner a b c n h k e l = omega arith

apart_evens : (r s : ℕ) → r < s → r % 2 ≡ 0 → s % 2 ≡ 0 → suc r < s
apart_evens r s h a b = omega arith

module _ (f : Format) (num den r s : ℕ) (D : 0 < den) (A : Rounded f num den r) (B : Rounded f num den s) where
  two-finite : r < s → s < infinity f → ⊥
  two-finite h S =
      let R = lt_trans h S in
      let e : distance f num den r ≡ distance f num den s = le_antisymm (A.nearest R s S) (B.nearest S r R) in
      let m : suc r < s = apart_evens r s h (A.even R s S (ne_of_gt h) (sym e)) (B.even S r R (ne_of_lt h) e) in
      let M = lt_trans m S in
      inner (worth f r * den) (worth f (suc r) * den) (worth f s * den) (num * 2 ^ low f)
      (mul-lt-mul_of_pos_right (rises f r (suc r) (le_refl (suc r))) D) (mul-lt-mul_of_pos_right (rises f (suc r) s m) D)
      (distance_is f num den r R ∙ e ∙ sym (distance_is f num den s S))
      (le_trans (le_of_eq (distance_is f num den r R)) (le_trans (A.nearest R (suc r) M) (le_of_eq (sym (distance_is f num den (suc r) M)))))

  not-less : r < s → ⊥
  not-less h = elim (eq-or-lt_of_le B.pattern) [
    | inl e ↦ lt_irrefl r (lt_of_lt_of_le h (le_of_eq (e ∙ sym (A.infinite.1 (B.infinite.0 e)))))
    | inr l ↦ two-finite h l
  ]

pub only_one : (f : Format) (num den r s : ℕ) → 0 < den → Rounded f num den r → Rounded f num den s → r ≡ s
only_one f num den r s D A B = le_antisymm (up_to s r B A) (up_to r s A B)
  where
    up_to : (x y : ℕ) → Rounded f num den x → Rounded f num den y → y ≤ x
    up_to x y X Y = le_of_suc-le-suc (lt_of_not-le (not-less f num den x y D X Y))

-- ---- FDiv of two finite patterns, the second not zero
field_under : (f : Format) (a : ℕ) → a % top f < infinity f → eqb (a % top f / hid f) (ones f) ≡ false
field_under f a h = ne_eqb (a % top f / hid f) (ones f) (ne_of_lt ((div-lt_iff_lt-mul (hid_pos f)).1 h))

pub divides_to_nearest : DividesToNearest
unfolding divide_bits quotient_bits
divides_to_nearest f a b A B D =
    (round_bits f (magnitude f a) (magnitude f b), rw (field_under f a A, field_under f b B, ne_eqb (magnitude f b) 0 (ne_of_gt D)), rounded f (magnitude f a) (magnitude f b) D)
