-- Which numbers each integer kind holds, proved once over the width, what the machine's own negation and quotient give there, and what std's conversion into a width says of it.
use Rattle.std.specs.Prelude.{Option, Some, None, Result, Ok, Err, SomeIff, OkIff, MatchResult, IsOkAnd, IsErrAnd}
use Rattle.std.specs.Option.{ok_or, option_map}
use Rattle.std.specs.Int.{FitsUnsigned}
use mathlib.Core.Path.{◌≡◌, refl, sym, ap, ◌∙◌, subst}
use mathlib.Core.Bool.{Bool, true, false, ◌&&◌}
use Prim.Native.Nat.{ℕ, zero, suc, ◌-◌, ◌/◌, ◌<◌, ◌≤◌, ◌^◌}
use native.Mathlib.Omega.{arith}
use native.Mathlib.Nat.{div-le_self, div-one, lt_of_le_of_lt, div-lt_iff_lt-mul, mul_comm, suc-mul}
use borrow.Author.Tests.{lt-ltb, le-ltb, le-leb, ltb-true, ltb-false, eqb-true, eqb-false}
use lib.Dec.{ltb, leb, eqb}
use lib.IntN.{ℤ, pos, negsuc, neg_ℤ, nat_abs, ◌-ℤ◌}
use lib.Pow.{pow_pos}
use lib.Signed.{mag, quot_z}
use mir.Syntax.{Width, w8, w16, w32, w64}
use mir.Val as Machine
use mir.Val.{SFits, hbits, to_z, of_z}
use mir.ValLaws.{to_z-of_z, of_z_fits, pow-bits}
use Rattle.value.specs.Answer.{need, pick, ok}
use Rattle.value.specs.Ir.{value_of, ir_of, computed}
use Rattle.value.specs.Refusal.{outside_width}
use Rattle.value.specs.declared.refusal.Refusal.{Refusal}
use Rattle.value.specs.Value.{Kind, Value, value, Family, signed, unsigned, family, is_signed, size, width, within, integer, bits_of, checked, operate, is_zero, u8, u16, u32, u64, i8, i16, i32, i64}
use Rattle.value.specs.Value as Believed
use Rattle.value.specs.declared.IrValue.{IrValue}
use Rattle.value.specs.declared.IrValue.TheVariants.{U8, U16, U32, U64, I8, I16, I32, I64}
use Rattle.value.proofs.Complement.{bits_are, reading}
use Rattle.value.proofs.Truth.{is_true, is_yes}

-- ---- the kinds of a width

pub record Counts (w : Width) (k : Kind) (con : ℕ → IrValue) : Type 0 where
  pub family-is : family k ≡ unsigned
  pub width_is : Machine.bits w ≡ width k
  pub made-is : (b : ℕ) → ir_of k b ≡ con b
  pub value-is : (b : ℕ) → value_of (con b) ≡ value k b

pub u8_is : Counts w8 u8 U8
unfolding family size ir_of value_of
u8_is = record { family-is = refl; width_is = refl; made-is = λ b. refl; value-is = λ b. refl }

pub u16-is : Counts w16 u16 U16
unfolding family size ir_of value_of
u16-is = record { family-is = refl; width_is = refl; made-is = λ b. refl; value-is = λ b. refl }

pub u32-is : Counts w32 u32 U32
unfolding family size ir_of value_of
u32-is = record { family-is = refl; width_is = refl; made-is = λ b. refl; value-is = λ b. refl }

pub u64-is : Counts w64 u64 U64
unfolding family size ir_of value_of
u64-is = record { family-is = refl; width_is = refl; made-is = λ b. refl; value-is = λ b. refl }

pub record Signs (w : Width) (k : Kind) (con : ℤ → IrValue) : Type 0 where
  pub family-is : family k ≡ signed
  pub width_is : Machine.bits w ≡ width k
  pub half_is : hbits w ≡ width k - 1
  pub made-is : (b : ℕ) → ir_of k b ≡ con (integer (value k b))
  pub value-is : (z : ℤ) → value_of (con z) ≡ value k (bits_of k z)

pub i8-is : Signs w8 i8 I8
unfolding family size ir_of value_of
i8-is = record { family-is = refl; width_is = refl; half_is = refl; made-is = λ b. refl; value-is = λ z. refl }

pub i16-is : Signs w16 i16 I16
unfolding family size ir_of value_of
i16-is = record { family-is = refl; width_is = refl; half_is = refl; made-is = λ b. refl; value-is = λ z. refl }

pub i32-is : Signs w32 i32 I32
unfolding family size ir_of value_of
i32-is = record { family-is = refl; width_is = refl; half_is = refl; made-is = λ b. refl; value-is = λ z. refl }

pub i64-is : Signs w64 i64 I64
unfolding family size ir_of value_of
i64-is = record { family-is = refl; width_is = refl; half_is = refl; made-is = λ b. refl; value-is = λ z. refl }

-- ---- which numbers a kind holds

held : (k : Kind) (z : ℤ) (v : IrValue) → within (family k) (width k) z ≡ true → ir_of k (bits_of k z) ≡ v → Ok v ≡ computed (checked k z)
unfolding checked computed need
held k z v e f = sym (ap (λ (t : Bool). computed (need t outside_width (ok (value k (bits_of k z))))) e ∙ ap Ok f)

pub out : (k : Kind) (z : ℤ) → within (family k) (width k) z ≡ false → Err outside_width ≡ computed (checked k z)
unfolding checked computed need
out k z e = sym (ap (λ (t : Bool). computed (need t outside_width (ok (value k (bits_of k z))))) e)

module _ {w : Width} {k : Kind} {con : ℕ → IrValue} (s : Counts w k con) where
  pub count_within : (n : ℕ) → within (family k) (width k) (pos n) ≡ ltb n (2 ^ Machine.bits w)
  count_within n = ap (λ (f : Family). within f (width k) (pos n)) s.family-is ∙ ap (λ (j : ℕ). ltb n (2 ^ j)) (sym s.width_is)

  pub count-holds : (n : ℕ) → n < 2 ^ Machine.bits w → Ok (con n) ≡ computed (checked k (pos n))
  unfolding bits_of
  count-holds n h = held k (pos n) (con n) (count_within n ∙ lt-ltb _ _ h) (s.made-is n)

  count_over : (n : ℕ) → 2 ^ Machine.bits w ≤ n → Err outside_width ≡ computed (checked k (pos n))
  count_over n h = out k (pos n) (count_within n ∙ le-ltb _ _ h)

  count-below : (n : ℕ) → Err outside_width ≡ computed (checked k (negsuc n))
  count-below n = out k (negsuc n) (ap (λ (f : Family). within f (width k) (negsuc n)) s.family-is)

-- bits that are read again, at a signed kind
module _ {w : Width} {k : Kind} {con : ℤ → IrValue} (s : Signs w k con) where
  integer-is : (b : ℕ) → integer (value k b) ≡ pick (leb (2 ^ hbits w) b) (pos b -ℤ pos (2 ^ Machine.bits w)) (pos b)
  unfolding integer
  integer-is b =
      ap (λ (f : Family). pick (is_signed f && leb (2 ^ (width k - 1)) b) (pos b -ℤ pos (2 ^ width k)) (pos b)) s.family-is
      ∙ ap (λ (j : ℕ). pick (leb (2 ^ j) b) (pos b -ℤ pos (2 ^ width k)) (pos b)) (sym s.half_is)
      ∙ ap (λ (j : ℕ). pick (leb (2 ^ hbits w) b) (pos b -ℤ pos (2 ^ j)) (pos b)) (sym s.width_is)

  pub read_back : (z : ℤ) → SFits w z → integer (value k (bits_of k z)) ≡ z
  read_back z h =
      let e = bits_are w k s.width_is z in
      integer-is (bits_of k z) ∙ reading w (bits_of k z) (subst (λ (b : ℕ). b < 2 ^ Machine.bits w) e (of_z_fits w z h).fits) ∙ ap (to_z w) (sym e) ∙ to_z-of_z w z h

  pub within-is : (z : ℤ) → within (family k) (width k) z ≡ ltb (mag z) (2 ^ hbits w)
  within-is z = ap (λ (f : Family). within f (width k) z) s.family-is ∙ go z ∙ ap (λ (j : ℕ). ltb (mag z) (2 ^ j)) (sym s.half_is)
    where
      go : (z : ℤ) → within signed (width k) z ≡ ltb (mag z) (2 ^ (width k - 1))
      go (pos n) = refl
      go (negsuc n) = refl

  pub sign_holds : (z : ℤ) → SFits w z → Ok (con z) ≡ computed (checked k z)
  sign_holds z h = held k z (con z) (within-is z ∙ lt-ltb _ _ h.sfits) (s.made-is (bits_of k z) ∙ ap con (read_back z h))

  -- what does not fit lies outside
  pub unfit : (z : ℤ) → (SFits w z → ⊥) → within (family k) (width k) z ≡ false
  unfit z n = within-is z ∙ go (ltb (mag z) (2 ^ hbits w)) refl
    where
      go : (t : Bool) → ltb (mag z) (2 ^ hbits w) ≡ t → t ≡ false
      go true e = absurd (n (record { sfits = ltb-true _ _ e }))
      go false e = refl

-- ---- the machine's own negation: MIN alone has no opposite

least : (w : Width) (z : ℤ) → SFits w z → of_z w z ≡ 2 ^ hbits w → z ≡ negsuc (2 ^ hbits w - 1)
least w (pos n) h e = let f = h.sfits in absurd (omega arith)
least w (negsuc n) h e = let f = h.sfits in ap negsuc (omega (arith, pow-bits w))

minus_mag : (w : Width) (z : ℤ) → SFits w z → (of_z w z ≡ 2 ^ hbits w → ⊥) → mag (neg_ℤ z) < 2 ^ hbits w
minus_mag w (pos zero) h n = h.sfits
minus_mag w (pos (suc m)) h n = let f = h.sfits in omega arith
minus_mag w (negsuc m) h n = let f = h.sfits in go (ltb (suc m) (2 ^ hbits w)) refl
  where
    go : (t : Bool) → ltb (suc m) (2 ^ hbits w) ≡ t → suc m < 2 ^ hbits w
    go true e = omega (arith, ltb-true (suc m) (2 ^ hbits w) e)
    go false e = let f = h.sfits in absurd (n (omega (arith, pow-bits w, ltb-false (suc m) (2 ^ hbits w) e)))

zero_minus : (z : ℤ) → pos 0 -ℤ z ≡ neg_ℤ z
zero_minus (pos zero) = refl
zero_minus (pos (suc n)) = rw (lt-ltb 0 (suc n) (omega arith)) (ap negsuc (omega arith))
zero_minus (negsuc n) = ap pos (omega arith)

module _ {w : Width} {k : Kind} {con : ℤ → IrValue} (s : Signs w k con) (z : ℤ) (h : SFits w z) where
  negated : pos 0 -ℤ to_z w (of_z w z) ≡ neg_ℤ z
  negated = ap (λ (y : ℤ). pos 0 -ℤ y) (to_z-of_z w z h) ∙ zero_minus z

  pub minus-fits : (of_z w z ≡ 2 ^ hbits w → ⊥) → SFits w (pos 0 -ℤ to_z w (of_z w z))
  minus-fits n = subst (SFits w) (sym negated) (record { sfits = minus_mag w z h n })

  pub minus_is : (of_z w z ≡ 2 ^ hbits w → ⊥) → Ok (con (to_z w (of_z w (pos 0 -ℤ to_z w (of_z w z))))) ≡ computed (checked k (neg_ℤ z))
  minus_is n = ap (λ (y : ℤ). Ok (con y)) (to_z-of_z w _ (minus-fits n) ∙ negated) ∙ sign_holds s (neg_ℤ z) (record { sfits = minus_mag w z h n })

  -- MIN has no opposite
  pub minus-least : of_z w z ≡ 2 ^ hbits w → Err outside_width ≡ computed (checked k (neg_ℤ z))
  minus-least e = out k (neg_ℤ z) (within-is s (neg_ℤ z) ∙ le-ltb _ _ (subst (λ (y : ℤ). 2 ^ hbits w ≤ mag (neg_ℤ y)) (sym (least w z h e)) (omega (arith, pow_pos (hbits w)))))

  -- so std's checked negation is one of these two
  pub minus-checked : (d : Option ℤ) → SomeIff d (SFits w (neg_ℤ z)) (neg_ℤ z) → ok_or (option_map con d) outside_width ≡ computed (checked k (neg_ℤ z))
  minus-checked d f = go (eqb (of_z w z) (2 ^ hbits w)) refl d f
    where
      go : (t : Bool) → eqb (of_z w z) (2 ^ hbits w) ≡ t → (d : Option ℤ) → SomeIff d (SFits w (neg_ℤ z)) (neg_ℤ z) → ok_or (option_map con d) outside_width ≡ computed (checked k (neg_ℤ z))
      go true e None f = minus-least (eqb-true _ _ e)
      go true e (Some c) f =
          let g = subst (λ (y : ℤ). mag (neg_ℤ y) < 2 ^ hbits w) (least w z h (eqb-true _ _ e)) f.0.sfits in
          absurd (omega (arith, pow_pos (hbits w)))
      go false e None f = absurd (f (subst (SFits w) negated (minus-fits (eqb-false _ _ e))))
      go false e (Some c) f =
          let n = eqb-false _ _ e in
          ap (λ (y : ℤ). Ok (con y)) (f.1 ∙ sym (to_z-of_z w _ (minus-fits n) ∙ negated)) ∙ minus_is n

-- ---- the machine's own quotient: MIN by -1 alone lies outside

one_less : (w : Width) (z : ℤ) → SFits w z → of_z w z ≡ 2 ^ Machine.bits w - 1 → z ≡ negsuc 0
one_less w (pos n) h e = let f = h.sfits in absurd (omega (arith, pow-bits w, pow_pos (hbits w)))
one_less w (negsuc n) h e = let f = h.sfits in ap negsuc (omega (arith, pow-bits w))

neg_mag : (r a : ℕ) → r ≤ suc a → mag (neg_ℤ (pos r)) ≤ a
neg_mag zero a h = omega arith
neg_mag (suc r) a h = omega arith

half_le : (a b : ℕ) → suc a / suc (suc b) ≤ a
half_le a b = let h : suc a / suc (suc b) < suc a = (div-lt_iff_lt-mul {k = suc (suc b)} (omega arith)).1 (omega (arith, mul_comm (suc a) (suc (suc b)), suc-mul (suc b) (suc a), suc-mul b (suc a))) in omega arith

quotient_mag : (w : Width) (a b : ℤ) → SFits w a → SFits w b → (of_z w b ≡ 2 ^ Machine.bits w - 1 → of_z w a ≡ 2 ^ hbits w → ⊥) → mag (quot_z a b) < 2 ^ hbits w
quotient_mag w (pos a) (pos b) A B n = lt_of_le_of_lt (div-le_self a b) A.sfits
quotient_mag w (pos a) (negsuc b) A B n = lt_of_le_of_lt (neg_mag (a / suc b) a (let h = div-le_self a (suc b) in omega arith)) A.sfits
quotient_mag w (negsuc a) (pos b) A B n = lt_of_le_of_lt (neg_mag (suc a / b) a (div-le_self (suc a) b)) A.sfits
quotient_mag w (negsuc a) (negsuc zero) A B n = subst (λ (q : ℕ). q < 2 ^ hbits w) (sym (div-one (suc a))) (minus_mag w (negsuc a) A (n refl))
quotient_mag w (negsuc a) (negsuc (suc b)) A B n = lt_of_le_of_lt (half_le a b) A.sfits

least_quotient : (h : ℕ) → 0 < h → h ≤ mag (quot_z (negsuc (h - 1)) (negsuc 0))
least_quotient h p = subst (λ (q : ℕ). h ≤ q) (sym (div-one (suc (h - 1)))) (omega arith)

module _ {w : Width} {k : Kind} {con : ℤ → IrValue} (s : Signs w k con) (a b : ℤ) (A : SFits w a) (B : SFits w b) where
  outside : of_z w b ≡ 2 ^ Machine.bits w - 1 → of_z w a ≡ 2 ^ hbits w → 2 ^ hbits w ≤ mag (quot_z a b)
  outside e f = subst (λ (y : ℤ). 2 ^ hbits w ≤ mag (quot_z a y)) (sym (one_less w b B e)) (subst (λ (x : ℤ). 2 ^ hbits w ≤ mag (quot_z x (negsuc 0))) (sym (least w a A f)) (least_quotient (2 ^ hbits w) (pow_pos (hbits w))))

  -- MIN by -1
  pub div-least : of_z w b ≡ 2 ^ Machine.bits w - 1 → of_z w a ≡ 2 ^ hbits w → Err outside_width ≡ computed (operate Believed.div k a b)
  unfolding operate need
  div-least e f = out k (quot_z a b) (within-is s (quot_z a b) ∙ le-ltb _ _ (outside e f)) ∙ sym (rw (ap is_zero (one_less w b B e)))

  -- a quotient that does not fit is that one
  pub div_unfit : (SFits w (quot_z a b) → ⊥) → Err outside_width ≡ computed (operate Believed.div k a b)
  div_unfit n = go (eqb (of_z w b) (2 ^ Machine.bits w - 1)) (eqb (of_z w a) (2 ^ hbits w)) refl refl
    where
      go : (t u : Bool) → eqb (of_z w b) (2 ^ Machine.bits w - 1) ≡ t → eqb (of_z w a) (2 ^ hbits w) ≡ u → Err outside_width ≡ computed (operate Believed.div k a b)
      go true true e f = div-least (eqb-true _ _ e) (eqb-true _ _ f)
      go true false e f = absurd (n (record { sfits = quotient_mag w a b A B (λ x y. eqb-false _ _ f y) }))
      go false u e f = absurd (n (record { sfits = quotient_mag w a b A B (λ x y. eqb-false _ _ e x) }))

-- ---- a conversion into the width, whose value a variant takes, and whose error the refusal

module _ {A E : Type 0} (con : A → IrValue) where
  abbrev renamed : Result A E → Result IrValue Refusal
  renamed (Ok a) = Ok (con a)
  renamed (Err e) = Err outside_width

  -- what `map` and `map_err` gave, and the closure that `map_err` called
  abbrev pub Mapped : Result A E → Result IrValue E → Type 0
  Mapped t q = MatchResult t (λ a. IsOkAnd q (λ v. v ≡ con a)) (λ e. q ≡ Err e)

  abbrev pub Passed : Result IrValue E → Result IrValue Refusal → (E → Refusal → Type 0) → Type 0
  Passed q r Q = MatchResult q (λ v. r ≡ Ok v) (λ e. IsErrAnd r (Q e))

  renamed-is : (t : Result A E) (q : Result IrValue E) (r : Result IrValue Refusal) {Q : E → Refusal → Type 0} → Mapped t q → Passed q r Q → ((e : E) (n : Refusal) → Q e n → n ≡ outside_width) → r ≡ renamed t
  renamed-is (Ok a) (Ok v) r p h g = h ∙ ap Ok p
  renamed-is (Ok a) (Err e) r p h g = absurd p
  renamed-is (Err e) (Ok v) r p h g = let z : ◌≡◌ {A = ℕ} 0 1 = cc in absurd (omega arith)
  renamed-is (Err e) (Err f) (Ok v) p h g = absurd h
  renamed-is (Err e) (Err f) (Err n) p h g = ap Err (g f n h)

-- the number as the conversion had it, and the variant that names the kind
module _ {z y : ℤ} (Z : y ≡ z) {x : IrValue} {E : Type 0} (t : Result ℕ E) (q : Result IrValue E) {u : Result IrValue E} (U : u ≡ q) (r : Result IrValue Refusal) {Q : E → Refusal → Type 0} (g : (e : E) (n : Refusal) → Q e n → n ≡ outside_width) where
  pub count_stored : {w : Width} {k : Kind} {con : ℕ → IrValue} (s : Counts w k con) {n : ℕ} → x ≡ con n → OkIff t (FitsUnsigned w y) (nat_abs y) → Mapped con t q → Passed con u r Q → r ≡ computed (checked (value_of x).kind z)
  count_stored {w} {k} {con} s X h p f =
      renamed-is con t q r p (subst (λ (u : Result IrValue E). Passed con u r Q) U f) g
      ∙ go y t h
      ∙ ap (λ (z : ℤ). computed (checked k z)) Z
      ∙ ap (λ (l : Kind). computed (checked l z)) (sym (ap (λ (v : IrValue). (value_of v).kind) X ∙ ap (λ (v : Value). v.kind) (s.value-is _)))
    where
      over : (n : ℕ) → (FitsUnsigned w (pos n) → ⊥) → (b : Bool) → ltb n (2 ^ Machine.bits w) ≡ b → Err outside_width ≡ computed (checked k (pos n))
      over n h true e = absurd (h (record { le = is_yes (le-leb 0 n (omega arith)) }, record { lt = is_yes e }))
      over n h false e = out k (pos n) (count_within s n ∙ e)

      go : (z : ℤ) (t : Result ℕ E) → OkIff t (FitsUnsigned w z) (nat_abs z) → renamed con t ≡ computed (checked k z)
      go (pos n) (Ok a) h = ap (λ (b : ℕ). Ok (con b)) h.1 ∙ count-holds s n (ltb-true n (2 ^ Machine.bits w) (is_true _ h.0.1.lt))
      go (pos n) (Err a) h = over n h _ refl
      go (negsuc n) (Ok a) h = absurd h.0.0.le
      go (negsuc n) (Err a) h = count-below s n

module _ {z y : ℤ} (Z : y ≡ z) {x : IrValue} {E : Type 0} (t : Result ℤ E) (q : Result IrValue E) {u : Result IrValue E} (U : u ≡ q) (r : Result IrValue Refusal) {Q : E → Refusal → Type 0} (g : (e : E) (n : Refusal) → Q e n → n ≡ outside_width) where
  pub sign-stored : {w : Width} {k : Kind} {con : ℤ → IrValue} (s : Signs w k con) {n : ℤ} → x ≡ con n → OkIff t (SFits w y) y → Mapped con t q → Passed con u r Q → r ≡ computed (checked (value_of x).kind z)
  sign-stored {w} {k} {con} s X h p f =
      renamed-is con t q r p (subst (λ (u : Result IrValue E). Passed con u r Q) U f) g
      ∙ go t h
      ∙ ap (λ (z : ℤ). computed (checked k z)) Z
      ∙ ap (λ (l : Kind). computed (checked l z)) (sym (ap (λ (v : IrValue). (value_of v).kind) X ∙ ap (λ (v : Value). v.kind) (s.value-is _)))
    where
      go : (t : Result ℤ E) → OkIff t (SFits w y) y → renamed con t ≡ computed (checked k y)
      go (Ok a) h = ap (λ (b : ℤ). Ok (con b)) h.1 ∙ sign_holds s y h.0
      go (Err a) h = out k y (unfit s y h)
