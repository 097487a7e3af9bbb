-- Add, Sub, Mul, Div, Mod and Negate on values: the test of the kinds, then the operation on the numbers that the bits stand for.
use Rattle.std.specs.Prelude.{Option, Some, None, Result, Ok, Err, SomeIff, IsSomeAnd, IsErrAnd, MatchOption}
use Rattle.std.specs.Int.{CanDivide}
use Rattle.std.specs.Option.{ok_or, option_map}
use mathlib.Core.Path.{◌≡◌, refl, sym, ap, ◌∙◌, subst}
use mathlib.Core.Bool as B
use mathlib.Core.Bool.{true, false, not, ◌&&◌, ◌||◌}
use mathlib.Core.List.{[], ◌∷◌}
use mathlib.Core.Option.{some, some-injective}
use Prim.Native.Nat.{ℕ, zero, suc, ◌-◌, ◌/◌, ◌%◌, ◌<◌, ◌≤◌, ◌^◌}
use native.Mathlib.Omega.{arith}
use native.Mathlib.Nat.{div-le_self, mod-le, lt_of_le_of_lt, lt_of_lt_of_le}
use borrow.Author.Tests.{eq-eqb, ne_eqb, eqb-true, lt-ltb, ltb-true}
use denote.Enum.Declared.{tag_of}
use lib.Dec.{T, leb, ltb, eqb}
use lib.Pow.{pow_mono}
use lib.IntN.{ℤ, pos, negsuc, neg_ℤ, ◌-ℤ◌}
use lib.Signed.{quot_z, rem_z, mag_rem}
use mir.Syntax.{Width, w128}
use mir.Val as Machine
use mir.Val.{SFits, hbits, to_z, of_z}
use mir.ValLaws.{to_z-of_z, to_z_pos, pow-bits}
use types.Run.{OneOf}
use Rattle.value.specs.declared.refusal.Refusal.{Refusal}
use Rattle.value.specs.Answer.{Answer, need, pick, ◌>>=◌}
use Rattle.value.specs.Floats.{bits32, bits64, single, double}
use Rattle.value.specs.Ir.{value_of, ir_of, computed}
use Rattle.value.specs.Refusal.{wrong_kinds, outside_width, zero_divisor}
use Rattle.value.specs.Tags.{kind_at, named}
use Rattle.value.specs.Value.{Kind, Value, value, Family, Operation, tag, same, family, is_unsigned, is_signed, is_float, size, width, within, integer, bits_of, checked, operate, arithmetic, flip, negate_as, negated, is_zero, bool, u8, u16, u32, u64, i8, i16, i32, i64, f32, f64, char, asn, pointer}
use Rattle.value.specs.Value as Believed
use Rattle.value.specs.declared.Single.{Single}
use Rattle.value.specs.declared.Double.{Double}
use Rattle.value.specs.declared.IrValue.{IrValue}
use Rattle.value.specs.declared.IrValue.TheVariants.{F32, F64}
use Rattle.value.proofs.Leftover.{rest, fails, left_over_lem}
use Rattle.value.specs.contracts.IrValue.{the_type}
use Rattle.value.proofs.Complement.{bits_are}
use Rattle.value.proofs.Tags.{kind_of_tag}
use Rattle.operations.proofs.Widths.{Counts, Signs, out, read_back, count_within, count-holds, within-is, sign_holds, minus-checked, div_unfit}

-- ---- what the last arms of the matches know

-- no integer
none_within : (f : Family) (v : ℕ) (z : ℤ) → (is_unsigned f || is_signed f) ≡ false → within f v z ≡ false
none_within Believed.unsigned v z e = absurd (subst T e tt)
none_within Believed.signed v z e = absurd (subst T e tt)
none_within Believed.floating v z e = refl
none_within Believed.neither v z e = refl

pub no_integer : (v : IrValue) (z : ℤ) → OneOf (rest (1 ∷ 2 ∷ 3 ∷ 4 ∷ 5 ∷ 6 ∷ 7 ∷ 8 ∷ [])) (tag_of the_type v) → Err outside_width ≡ computed (checked (value_of v).kind z)
unfolding family
no_integer v z o =
    out (value_of v).kind z
    (none_within (family (value_of v).kind) _ z (left_over_lem (λ (k : Kind). is_unsigned (family k) || is_signed (family k)) (rest (1 ∷ 2 ∷ 3 ∷ 4 ∷ 5 ∷ 6 ∷ 7 ∷ 8 ∷ [])) v tt o))

-- no signed integer
no_sign : (v : IrValue) → OneOf (rest (5 ∷ 6 ∷ 7 ∷ 8 ∷ [])) (tag_of the_type v) → is_signed (family (value_of v).kind) ≡ false
unfolding family
no_sign v o = left_over_lem (λ (k : Kind). is_signed (family k)) (rest (5 ∷ 6 ∷ 7 ∷ 8 ∷ [])) v tt o

-- neither a signed integer nor a float
none-negated : (f : Family) (v : Value) → (is_signed f || is_float f) ≡ false → Err wrong_kinds ≡ computed (negate_as f v)
unfolding computed
none-negated Believed.unsigned v e = refl
none-negated Believed.signed v e = absurd (subst T e tt)
none-negated Believed.floating v e = absurd (subst T e tt)
none-negated Believed.neither v e = refl

pub no_negation : (v : IrValue) → OneOf (rest (5 ∷ 6 ∷ 7 ∷ 8 ∷ 9 ∷ 10 ∷ [])) (tag_of the_type v) → Err wrong_kinds ≡ computed (negated (value_of v))
unfolding family negated
no_negation v o = none-negated (family (value_of v).kind) (value_of v) (left_over_lem (λ (k : Kind). is_signed (family k) || is_float (family k)) (rest (5 ∷ 6 ∷ 7 ∷ 8 ∷ 9 ∷ 10 ∷ [])) v tt o)

-- ---- the test of the kinds

abbrev pub integral : Kind → B.Bool
integral k = is_unsigned (family k) || is_signed (family k)

module _ (op : Operation) (x y : Value) where
  pub refuses : (same x.kind y.kind && integral x.kind) ≡ false → Err wrong_kinds ≡ computed (arithmetic op x y)
  unfolding arithmetic need computed
  refuses e = sym (ap (λ (t : B.Bool). computed (need t wrong_kinds (operate op x.kind (integer x) (integer y)))) e)

  pub operates : (same x.kind y.kind && integral x.kind) ≡ true → computed (operate op x.kind (integer x) (integer y)) ≡ computed (arithmetic op x y)
  unfolding arithmetic need
  operates e = sym (ap (λ (t : B.Bool). computed (need t wrong_kinds (operate op x.kind (integer x) (integer y)))) e)

-- x is of the kind k, and y is another variant than the j-th; or x is no integer
module _ (op : Operation) (x y : IrValue) where
  pub unlike : (k : Kind) (j : ℕ) → (value_of x).kind ≡ k → T (fails (same k) (rest (j ∷ []))) → OneOf (rest (j ∷ [])) (tag_of the_type y) → Err wrong_kinds ≡ computed (arithmetic op (value_of x) (value_of y))
  unlike k j e f o = refuses op (value_of x) (value_of y) (ap (λ (t : B.Bool). t && integral (value_of x).kind) (ap (λ (l : Kind). same l (value_of y).kind) e ∙ left_over_lem (same k) (rest (j ∷ [])) y f o))

  pub not-integral : OneOf (rest (1 ∷ 2 ∷ 3 ∷ 4 ∷ 5 ∷ 6 ∷ 7 ∷ 8 ∷ [])) (tag_of the_type x) → Err wrong_kinds ≡ computed (arithmetic op (value_of x) (value_of y))
  unfolding family
  not-integral o = refuses op (value_of x) (value_of y) (go (same (value_of x).kind (value_of y).kind) (left_over_lem integral (rest (1 ∷ 2 ∷ 3 ∷ 4 ∷ 5 ∷ 6 ∷ 7 ∷ 8 ∷ [])) x tt o))
    where
      go : (s : B.Bool) {t : B.Bool} → t ≡ false → (s && t) ≡ false
      go true e = e
      go false e = refl

-- "then 24"
module _ (x y : Value) (e : (same x.kind y.kind && integral x.kind) ≡ true) (z : is_zero (integer y) ≡ true) where
  pub div_by_zero : Err zero_divisor ≡ computed (arithmetic Believed.div x y)
  unfolding operate need computed
  div_by_zero = sym (ap (λ (t : B.Bool). computed (need (not t) zero_divisor (checked x.kind (quot_z (integer x) (integer y))))) z) ∙ operates Believed.div x y e

  pub rem_by_zero : Err zero_divisor ≡ computed (arithmetic Believed.mod' x y)
  unfolding operate need computed
  rem_by_zero = sym (ap (λ (t : B.Bool). computed (need (not t) zero_divisor (checked x.kind (quot_z (integer x) (integer y)) >>= λ q. checked x.kind (rem_z (integer x) (integer y))))) z) ∙ operates Believed.mod' x y e

-- ---- the number of a value, at 128 bits

pub plain : (x : Value) → is_signed (family x.kind) ≡ false → integer x ≡ pos x.bits
unfolding integer
plain x n = ap (λ (t : B.Bool). pick (t && leb (2 ^ (width x.kind - 1)) x.bits) (pos x.bits -ℤ pos (2 ^ width x.kind)) (pos x.bits)) n

module _ {w : Width} {k : Kind} {con : ℤ → IrValue} (s : Signs w k con) where
  pub integer_of : {x : IrValue} {a : ℤ} → SFits w a → x ≡ con a → integer (value_of x) ≡ a
  integer_of {a = a} h e = ap integer (ap value_of e ∙ s.value-is a) ∙ read_back s a h

  pub widened : {x : IrValue} {a : ℤ} → SFits w a → 2 ^ hbits w ≤ 2 ^ 127 → x ≡ con a → to_z w128 (of_z w128 (to_z w (of_z w a))) ≡ integer (value_of x)
  widened {a = a} h l e = to_z-of_z w128 _ (subst (SFits w128) (sym r) (record { sfits = let f = h.sfits in omega arith })) ∙ r ∙ sym (integer_of h e)
    where
      r : to_z w (of_z w a) ≡ a
      r = to_z-of_z w a h

-- what is no signed integer, by its bits
pub by_bits : (x : IrValue) {b : ℕ} → OneOf (rest (5 ∷ 6 ∷ 7 ∷ 8 ∷ [])) (tag_of the_type x) → b ≡ (value_of x).bits → b < 2 ^ 64 → to_z w128 b ≡ integer (value_of x)
by_bits x {b} o e h = to_z_pos w128 b (omega arith) ∙ ap pos e ∙ sym (plain (value_of x) (no_sign x o))

-- ---- sums, differences and products

module _ (op : Operation) (f : ℤ → ℤ → ℤ) (o : (k : Kind) (a b : ℤ) → operate op k a b ≡ checked k (f a b)) (x y : Value) {t : B.Bool} (T : t ≡ (same x.kind y.kind && integral x.kind)) (e : t ≡ true) where
  pub whole : {n m z : ℤ} → n ≡ integer x → m ≡ integer y → z ≡ f n m → computed (checked x.kind z) ≡ computed (arithmetic op x y)
  whole {n} {m} N M Z =
      ap (λ (z : ℤ). computed (checked x.kind z)) (Z ∙ ap (λ (n : ℤ). f n m) N ∙ ap (f (integer x)) M)
      ∙ sym (ap (λ (a : Answer Value). computed a) (o x.kind (integer x) (integer y)))
      ∙ operates op x y (sym T ∙ e)

width-le : (k : Kind) → width k ≤ 64
unfolding size
width-le bool = omega arith
width-le u8 = omega arith
width-le u16 = omega arith
width-le u32 = omega arith
width-le u64 = omega arith
width-le i8 = omega arith
width-le i16 = omega arith
width-le i32 = omega arith
width-le i64 = omega arith
width-le f32 = omega arith
width-le f64 = omega arith
width-le char = omega arith
width-le asn = omega arith
width-le pointer = omega arith

-- 128 bits hold each number that a width holds
pub too_wide : (k : Kind) (z : ℤ) → (SFits w128 z → ⊥) → Err outside_width ≡ computed (checked k z)
too_wide k z n = out k z (none (family k) (width k) (width-le k) z n)
  where
    narrow : (v : ℕ) → v ≤ 64 → (n : ℕ) → (n < 2 ^ 127 → ⊥) → ltb n (2 ^ v) ≡ false
    narrow v l n h = go (ltb n (2 ^ v)) refl
      where
        go : (t : B.Bool) → ltb n (2 ^ v) ≡ t → t ≡ false
        go true e = absurd (h (lt_of_lt_of_le (ltb-true n (2 ^ v) e) (pow_mono {j = 127} (omega arith))))
        go false e = refl

    none : (f : Family) (v : ℕ) → v ≤ 64 → (z : ℤ) → (SFits w128 z → ⊥) → within f v z ≡ false
    none Believed.signed v l (pos n) h = narrow (v - 1) (omega arith) n (λ p. h (record { sfits = p }))
    none Believed.signed v l (negsuc n) h = narrow (v - 1) (omega arith) n (λ p. h (record { sfits = p }))
    none Believed.unsigned v l (pos n) h = narrow v l n (λ p. h (record { sfits = p }))
    none Believed.unsigned v l (negsuc n) h = refl
    none Believed.floating v l z h = refl
    none Believed.neither v l z h = refl

-- ---- quotients and remainders

-- what `map` gave
module _ {A : Type 0} (con : A → IrValue) where
  abbrev pub Mapped : Option A → Option IrValue → Type 0
  Mapped d q = MatchOption d (q ≡ None) (λ c. IsSomeAnd q (λ v. v ≡ con c))

  mapped : (d : Option A) (q : Option IrValue) → Mapped d q → q ≡ option_map con d
  mapped None q h = h
  mapped (Some c) (Some v) h = ap Some h
  mapped (Some c) None h = absurd h

-- one tag, one kind
same_kind : (k l : Kind) → same k l ≡ true → k ≡ l
same_kind k l e = let p : some k ≡ some l = sym (kind_of_tag k) ∙ ap kind_at (eqb-true (tag k) (tag l) e) ∙ kind_of_tag l in cc

-- what the values of an integer kind have in common: `num` is their number, and `Fits` what the variant's type says of its field
pub record Numbers {A : Type 0} (k : Kind) (con : A → IrValue) (num : A → ℤ) (Fits : A → Type 0) : Type 0 where
  pub kind-is : (a : A) → (value_of (con a)).kind ≡ k
  pub integral-is : integral k ≡ true
  pub integer-is : (a : A) → Fits a → integer (value_of (con a)) ≡ num a
  pub zero-is : (a : A) → Fits a → eqb (value_of (con a)).bits 0 ≡ is_zero (num a)
  pub holds : (a : A) → Fits a → Ok (con a) ≡ computed (checked k (num a))

pub counts : {w : Width} {k : Kind} {con : ℕ → IrValue} → Counts w k con → Numbers k con pos (λ n. n < 2 ^ Machine.bits w)
counts {k = k} s = record {
  kind-is = λ a. ap (λ (v : Value). v.kind) (s.value-is a);
  integral-is = ap (λ (f : Family). is_unsigned f || is_signed f) s.family-is;
  integer-is = λ a h. plain _ (ap (λ (v : Value). is_signed (family v.kind)) (s.value-is a) ∙ ap is_signed s.family-is) ∙ ap (λ (v : Value). pos v.bits) (s.value-is a);
  zero-is = λ a h. ap (λ (v : Value). eqb v.bits 0) (s.value-is a);
  holds = count-holds s;
}

no_bits : (w : Width) (z : ℤ) → SFits w z → eqb (of_z w z) 0 ≡ is_zero z
no_bits w (pos n) h = refl
no_bits w (negsuc n) h = let f = h.sfits in ne_eqb _ 0 (λ e. omega (arith, pow-bits w)) ∙ sym (ne_eqb (suc n) 0 (λ e. omega arith))

pub signs : {w : Width} {k : Kind} {con : ℤ → IrValue} → Signs w k con → Numbers k con (λ z. z) (SFits w)
signs {w} {k} s = record {
  kind-is = λ a. ap (λ (v : Value). v.kind) (s.value-is a);
  integral-is = ap (λ (f : Family). is_unsigned f || is_signed f) s.family-is;
  integer-is = λ a h. ap integer (s.value-is a) ∙ read_back s a h;
  zero-is = λ a h. ap (λ (v : Value). eqb v.bits 0) (s.value-is a) ∙ ap (λ (b : ℕ). eqb b 0) (sym (bits_are w k s.width_is a)) ∙ no_bits w a h;
  holds = sign_holds s;
}

-- a checked division of a by b: its answer is the number f of both, and where there is none, b is 0 or the quotient lies outside
abbrev pub Divides : {A : Type 0} (k : Kind) (num : A → ℤ) (Fits : A → Type 0) (f : ℤ → ℤ → ℤ) (a b : ℤ) → Option A → Type 0
Divides k num Fits f a b (Some c) = (is_zero b ≡ false) × (within (family k) (width k) (quot_z a b) ≡ true) × Fits c × (num c ≡ f a b)
Divides k num Fits f a b None = is_zero b ≡ false → within (family k) (width k) (quot_z a b) ≡ false

-- why there is none
abbrev pub reason : Value → Refusal
reason y = pick (eqb y.bits 0) zero_divisor outside_width

module _ {A : Type 0} {k : Kind} {con : A → IrValue} {num : A → ℤ} {Fits : A → Type 0} (s : Numbers k con num Fits) {x y : IrValue} {a b : A} (X : x ≡ con a) (Y : y ≡ con b) (F : Fits a) (G : Fits b) where
  kind-at : (value_of x).kind ≡ k
  kind-at = ap (λ (v : IrValue). (value_of v).kind) X ∙ s.kind-is a

  alike-at : (same (value_of x).kind (value_of y).kind && integral (value_of x).kind) ≡ true
  alike-at = rw (kind-at, ap (λ (v : IrValue). (value_of v).kind) Y ∙ s.kind-is b, s.integral-is) (ap (λ (t : B.Bool). t && true) (eq-eqb (tag k) (tag k) refl))

  left-at : integer (value_of x) ≡ num a
  left-at = ap (λ (v : IrValue). integer (value_of v)) X ∙ s.integer-is a F

  right-at : integer (value_of y) ≡ num b
  right-at = ap (λ (v : IrValue). integer (value_of v)) Y ∙ s.integer-is b G

  at_kind : (op : Operation) → computed (operate op k (num a) (num b)) ≡ computed (arithmetic op (value_of x) (value_of y))
  at_kind op = rw (sym left-at, sym right-at, sym kind-at) (operates op (value_of x) (value_of y) alike-at)

  -- there is no answer
  none_at : (op : Operation) → (is_zero (integer (value_of y)) ≡ true → Err zero_divisor ≡ computed (arithmetic op (value_of x) (value_of y)))
      → (is_zero (num b) ≡ false → Err outside_width ≡ computed (arithmetic op (value_of x) (value_of y)))
      → Err (reason (value_of y)) ≡ computed (arithmetic op (value_of x) (value_of y))
  none_at op f g = go (is_zero (num b)) refl
    where
      zero-at : eqb (value_of y).bits 0 ≡ is_zero (num b)
      zero-at = ap (λ (v : IrValue). eqb (value_of v).bits 0) Y ∙ s.zero-is b G

      go : (t : B.Bool) → is_zero (num b) ≡ t → Err (reason (value_of y)) ≡ computed (arithmetic op (value_of x) (value_of y))
      go true i = rw (zero-at, i) (f (ap is_zero right-at ∙ i))
      go false i = rw (zero-at, i) (g i)

  quotient : (d : Option A) → Divides k num Fits quot_z (num a) (num b) d → ok_or (option_map con d) (reason (value_of y)) ≡ computed (arithmetic Believed.div (value_of x) (value_of y))
  unfolding operate need
  quotient (Some c) h = s.holds c h.2 ∙ rw (h.3) (sym (rw (h.0))) ∙ at_kind Believed.div
  quotient None h = none_at Believed.div (div_by_zero (value_of x) (value_of y) alike-at) (λ i. out k _ (h i) ∙ sym (rw i) ∙ at_kind Believed.div)

  remainder : (d : Option A) → Divides k num Fits rem_z (num a) (num b) d → ok_or (option_map con d) (reason (value_of y)) ≡ computed (arithmetic Believed.mod' (value_of x) (value_of y))
  unfolding operate need ◌>>=◌ checked computed
  remainder (Some c) h = s.holds c h.2 ∙ rw (h.3) (sym (rw (h.0, h.1))) ∙ at_kind Believed.mod'
  remainder None h = none_at Believed.mod' (rem_by_zero (value_of x) (value_of y) alike-at) (λ i. sym (rw (i, h i)) ∙ at_kind Believed.mod')

  -- what std's checked operation, `map` and `ok_or_else` gave
  module _ (d : Option A) {q m : Option IrValue} (r : Result IrValue Refusal) {P : Refusal → Type 0} (M : Mapped con d q) (Q : m ≡ q) (U : (n : Refusal) → P n → n ≡ reason (value_of y)) (R : MatchOption m (IsErrAnd r P) (λ v. r ≡ Ok v)) where
    given : r ≡ ok_or (option_map con d) (reason (value_of y))
    given = go m (Q ∙ mapped con d q M) r R
      where
        go : (m : Option IrValue) → m ≡ option_map con d → (r : Result IrValue Refusal) → MatchOption m (IsErrAnd r P) (λ v. r ≡ Ok v) → r ≡ ok_or (option_map con d) (reason (value_of y))
        go (Some v) e r h = h ∙ ap (λ (o : Option IrValue). ok_or o (reason (value_of y))) e
        go None e (Err n) h = ap Err (U n h) ∙ ap (λ (o : Option IrValue). ok_or o (reason (value_of y))) e
        go None e (Ok v) h = absurd h

    pub quotient-is : Divides k num Fits quot_z (num a) (num b) d → r ≡ computed (arithmetic Believed.div (value_of x) (value_of y))
    quotient-is h = given ∙ quotient d h

    pub remainder-is : Divides k num Fits rem_z (num a) (num b) d → r ≡ computed (arithmetic Believed.mod' (value_of x) (value_of y))
    remainder-is h = given ∙ remainder d h

-- ---- what std's contracts say of a checked division

some_bits : (n : ℕ) → eqb n 0 ≡ false → 0 < n
some_bits zero e = absurd (subst (λ (t : B.Bool). T (not t)) (sym e) tt)
some_bits (suc n) e = omega arith

-- as the machine has it
abbrev own : Width → ℤ → ℤ
own w z = to_z w (of_z w z)

refused-out : (k : Kind) (z : ℤ) → Err outside_width ≡ computed (checked k z) → within (family k) (width k) z ≡ false
unfolding checked need computed
refused-out k z e = go (within (family k) (width k) z) refl
  where
    go : (t : B.Bool) → within (family k) (width k) z ≡ t → t ≡ false
    go true i = let n : Err outside_width ≡ Ok (ir_of k (bits_of k z)) = e ∙ rw i refl in absurd (let z : ◌≡◌ {A = ℕ} 0 1 = cc in omega arith)
    go false i = refl

module _ {w : Width} {k : Kind} {con : ℤ → IrValue} (s : Signs w k con) (a b : ℤ) (F : SFits w a) (G : SFits w b) (d : Option ℤ) where
  -- a quotient that is refused lies outside
  no_quotient : is_zero b ≡ false → (SFits w (quot_z a b) → ⊥) → within (family k) (width k) (quot_z a b) ≡ false
  unfolding operate need
  no_quotient i n = refused-out k (quot_z a b) (div_unfit s a b F G n ∙ rw i)

  signed_divides : (f : ℤ → ℤ → ℤ) → (SFits w (quot_z a b) → SFits w (f a b)) → SomeIff d (CanDivide w (own w a) (own w b)) (f (own w a) (own w b)) → Divides k (λ z. z) (SFits w) f a b d
  signed_divides f g h = go d (rw (to_z-of_z w a F, to_z-of_z w b G) at h)
    where
      go : (d : Option ℤ) → SomeIff d (CanDivide w a b) (f a b) → Divides k (λ z. z) (SFits w) f a b d
      go (Some c) h = (sym (no_bits w b G) ∙ ne_eqb _ 0 (λ e. let l = h.0.0 in omega arith), within-is s _ ∙ lt-ltb _ _ h.0.1.sfits, subst (SFits w) (sym h.1) (g h.0.1), h.1)
      go None h = λ i. no_quotient i (λ f. h (some_bits _ (no_bits w b G ∙ i), f))

  pub signed-divides : SomeIff d (CanDivide w (own w a) (own w b)) (quot_z (own w a) (own w b)) → Divides k (λ z. z) (SFits w) quot_z a b d
  signed-divides = signed_divides quot_z (λ f. f)

  pub signed-remains : SomeIff d (CanDivide w (own w a) (own w b)) (rem_z (own w a) (own w b)) → Divides k (λ z. z) (SFits w) rem_z a b d
  signed-remains = signed_divides rem_z (λ f. record { sfits = lt_of_le_of_lt (mag_rem a b) F.sfits })

module _ {w : Width} {k : Kind} {con : ℕ → IrValue} (s : Counts w k con) (a b : ℕ) (F : a < 2 ^ Machine.bits w) (d : Option ℕ) where
  pub divides : SomeIff d (0 < b) (a / b) → Divides k pos (λ n. n < 2 ^ Machine.bits w) quot_z (pos a) (pos b) d
  divides h = go d h
    where
      go : (d : Option ℕ) → SomeIff d (0 < b) (a / b) → Divides k pos (λ n. n < 2 ^ Machine.bits w) quot_z (pos a) (pos b) d
      go (Some c) h = let f = lt_of_le_of_lt (div-le_self a b) F in (ne_eqb b 0 (λ e. let l = h.0 in omega arith), count_within s _ ∙ lt-ltb _ _ f, subst (λ (n : ℕ). n < 2 ^ Machine.bits w) (sym h.1) f, ap pos h.1)
      go None h = λ i. absurd (h (some_bits b i))

  pub remains : SomeIff d (0 < b) (a % b) → Divides k pos (λ n. n < 2 ^ Machine.bits w) rem_z (pos a) (pos b) d
  remains h = go d h
    where
      go : (d : Option ℕ) → SomeIff d (0 < b) (a % b) → Divides k pos (λ n. n < 2 ^ Machine.bits w) rem_z (pos a) (pos b) d
      go (Some c) h =
          let f = lt_of_le_of_lt (div-le_self a b) F in
          let g = lt_of_le_of_lt (mod-le a b) F in
          (ne_eqb b 0 (λ e. let l = h.0 in omega arith), count_within s _ ∙ lt-ltb _ _ f, subst (λ (n : ℕ). n < 2 ^ Machine.bits w) (sym h.1) g, ap pos h.1)
      go None h = λ i. absurd (h (some_bits b i))

-- ---- opposites

module _ {w : Width} {k : Kind} {con : ℤ → IrValue} (s : Signs w k con) {x : IrValue} {a : ℤ} (X : x ≡ con a) (F : SFits w a) where
  negated-at : computed (checked k (neg_ℤ a)) ≡ computed (negated (value_of x))
  unfolding negated
  negated-at =
      let p = ap (λ (v : IrValue). (value_of v).kind) X ∙ ap (λ (v : Value). v.kind) (s.value-is a) in
      ap (λ (z : ℤ). computed (checked k (neg_ℤ z))) (sym (integer_of s F X))
      ∙ ap (λ (l : Kind). computed (checked l (neg_ℤ (integer (value_of x))))) (sym p)
      ∙ sym (ap (λ (f : Family). computed (negate_as f (value_of x))) (ap family p ∙ s.family-is))

  opposite : (d : Option ℤ) → SomeIff d (SFits w (neg_ℤ a)) (neg_ℤ a) → ok_or (option_map con d) outside_width ≡ computed (negated (value_of x))
  opposite d h = minus-checked s a F d h ∙ negated-at

  pub opposite-is : (d : Option ℤ) {q m : Option IrValue} {r : Result IrValue Refusal} → SomeIff d (SFits w (neg_ℤ (own w a))) (neg_ℤ (own w a)) → Mapped con d q → m ≡ q → r ≡ ok_or m outside_width → r ≡ computed (negated (value_of x))
  opposite-is d {q} h M Q R = R ∙ rw (Q, mapped con d q M) (opposite d (rw (to_z-of_z w a F) at h))

-- the sign bit of a float flips
pub minus32 : {x : IrValue} {a r : Single} {b c : ℕ} → x ≡ F32 a → b ≡ bits32 a → c ≡ flip 32 b → r ≡ single c → Ok (F32 r) ≡ computed (negated (value_of x))
unfolding negated computed value_of ir_of family size
minus32 {r = r} e f g h = ap (λ (r : Single). Ok (F32 r)) (h ∙ ap single (g ∙ ap (flip 32) f)) ∙ sym (ap (λ (v : IrValue). computed (negated (value_of v))) e)

pub minus64 : {x : IrValue} {a r : Double} {b c : ℕ} → x ≡ F64 a → b ≡ bits64 a → c ≡ flip 64 b → r ≡ double c → Ok (F64 r) ≡ computed (negated (value_of x))
unfolding negated computed value_of ir_of family size
minus64 {r = r} e f g h = ap (λ (r : Double). Ok (F64 r)) (h ∙ ap double (g ∙ ap (flip 64) f)) ∙ sym (ap (λ (v : IrValue). computed (negated (value_of v))) e)

-- ---- MIN / -1 at 32 bits

is_32 : (k : Kind) → tag k ≡ 8 → k ≡ i32
unfolding tag kind_at named
is_32 k e = some-injective _ _ (sym (kind_of_tag k) ∙ ap kind_at e)

pub least_32 : (x y : IrValue) → tag (value_of x).kind ≡ 8 → (value_of x).bits ≡ 2147483648 → tag (value_of y).kind ≡ 8 → (value_of y).bits ≡ 4294967295
    → Err outside_width ≡ computed (arithmetic Believed.div (value_of x) (value_of y))
unfolding arithmetic operate checked computed need integer family tag size
least_32 x y e f g h = of_values (value_of x).kind (value_of y).kind (value_of x).bits (value_of y).bits (is_32 _ e) (is_32 _ g) f h
  where
    of_values : (k l : Kind) (a b : ℕ) → k ≡ i32 → l ≡ i32 → a ≡ 2147483648 → b ≡ 4294967295 → Err outside_width ≡ computed (arithmetic Believed.div (value k a) (value l b))
    of_values k l a b e g f h = rw (e, g, f, h) refl
