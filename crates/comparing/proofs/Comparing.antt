-- What the steps of a comparison found gives what its definition answers.
use Rattle.std.proofs.Common.{◌≡◌, ℕ, ◌^◌, ◌≤◌, Bool, true, false, cond, ◌&&◌, leb, ltb, eqb, ℤ, pos, negsuc, ◌-ℤ◌, sym, refl, ap, ◌∙◌, subst, lt_of_lt_of_le, arith, pow_mono, w64, SFits, to_z, of_z, ltb-true, ltb-false, eq-eqb, ne_eqb}
use Rattle.std.specs.Prelude.{Option, Some, None, Ok, Err}
use Rattle.std.specs.Ordering.{nat_cmp, int_cmp}
use Rattle.std.specs.declared.cmp.Ordering.{Ordering}
use Rattle.std.specs.declared.cmp.Ordering.TheVariants.{Less, Equal, Greater}
use mir.Syntax.{Width}
use mir.Val.{hbits, bits}
use mir.ValLaws.{to_z-of_z}
use Rattle.value.specs.Answer.{Answer, ok, need, pick}
use Rattle.value.specs.Refusal.{wrong_kinds}
use Rattle.value.specs.Value.{Value, Kind, value, width, bits_of, same, tag, family, is_unsigned, is_signed, is_float, has_equality, integer, real, naturals, integers, reals, equality, unsigned_order, signed_order, float_order, passes, truth, bool, notted}
use Rattle.value.specs.Value as Believed
use Rattle.value.specs.Ir.{value_of, ir_of, computed}
use Rattle.value.specs.declared.IrValue.{IrValue}
use Rattle.value.specs.declared.IrValue.TheVariants as Ir
use Rattle.value.proofs.Roundtrip.{signed_back}
use Rattle.value.proofs.Tags.{tags-equal}
use Rattle.comparing.specs.Orders.{ordered, floating}
use Rattle.comparing.specs.Compare.{order_of, as_unsigned, as_signed}

-- a signed integer at the wider type
module _ (w : Width) (k : Kind) (z : ℤ) (f : SFits w z) where
  pub widens : hbits w ≤ 63 → SFits w64 (to_z w (of_z w z))
  widens h = subst (SFits w64) (sym (to_z-of_z w z f)) (record { sfits = lt_of_lt_of_le f.sfits (pow_mono h) })

  pub widened : hbits w ≤ 63 → bits w ≡ width k → pick (leb (2 ^ hbits w) (bits_of k z)) (pos (bits_of k z) -ℤ pos (2 ^ bits w)) (pos (bits_of k z)) ≡ integer (value k (bits_of k z))
      → to_z w64 (of_z w64 (to_z w (of_z w z))) ≡ integer (value k (bits_of k z))
  widened h e i = to_z-of_z w64 _ (widens h) ∙ to_z-of_z w z f ∙ sym (signed_back w k z e i f)

  pub same_width : bits w ≡ width k → pick (leb (2 ^ hbits w) (bits_of k z)) (pos (bits_of k z) -ℤ pos (2 ^ bits w)) (pos (bits_of k z)) ≡ integer (value k (bits_of k z))
      → to_z w (of_z w z) ≡ integer (value k (bits_of k z))
  same_width e i = to_z-of_z w z f ∙ sym (signed_back w k z e i f)

-- a case's number is its family's
pub told-signed : {v w : IrValue} {r : Option ℤ} → v ≡ w → r ≡ as_signed (value_of w) → r ≡ as_signed (value_of v)
told-signed e h = h ∙ sym (ap (λ (v : IrValue). as_signed (value_of v)) e)

-- ---- std's order of two numbers

pub naturals-is : (a b : ℕ) → Some (nat_cmp a b) ≡ ordered (naturals a b)
unfolding naturals ordered
naturals-is a b = go (ltb a b) (eqb a b)
  where
    go : (s t : Bool) → Some (cond s Less (cond t Equal Greater)) ≡ ordered (pick s Believed.less (pick t Believed.equal Believed.greater))
    go true t = refl
    go false true = refl
    go false false = refl

-- the same by two tests
by_less : (a b : ℕ) → Some (cond (ltb a b) Less (cond (ltb b a) Greater Equal)) ≡ ordered (naturals a b)
unfolding naturals ordered
by_less a b = go (ltb a b) (ltb b a) refl refl
  where
    go : (s t : Bool) → ltb a b ≡ s → ltb b a ≡ t → Some (cond s Less (cond t Greater Equal)) ≡ ordered (pick s Believed.less (pick (eqb a b) Believed.equal Believed.greater))
    go true t e f = refl
    go false true e f = let h = ltb-true b a f in rw (ne_eqb a b (λ e. omega arith))
    go false false e f = let h = ltb-false a b e in let i = ltb-false b a f in rw (eq-eqb a b (omega arith))

pub integers-is : (x y : ℤ) → Some (int_cmp x y) ≡ ordered (integers x y)
unfolding integers ordered
integers-is (pos a) (pos b) = by_less a b
integers-is (pos a) (negsuc b) = refl
integers-is (negsuc a) (pos b) = refl
integers-is (negsuc a) (negsuc b) = by_less b a

order-back : (o : Believed.Order) → order_of (ordered o) ≡ o
unfolding ordered order_of
order-back Believed.less = refl
order-back Believed.equal = refl
order-back Believed.greater = refl
order-back Believed.unordered = refl

-- ---- answers

truth-is : (p : Bool) → Ok (Ir.Bool p) ≡ computed (ok (truth p))
unfolding computed ir_of
truth-is true = refl
truth-is false = refl

-- two tests of kinds, then the answer
refuse_left : {p : Bool} (q : Bool) (a : Answer Value) → p ≡ false → Err wrong_kinds ≡ computed (need (p && q) wrong_kinds a)
unfolding computed need
refuse_left q a e = rw e

refuse_right : (p : Bool) {q : Bool} (a : Answer Value) → q ≡ false → Err wrong_kinds ≡ computed (need (p && q) wrong_kinds a)
unfolding computed need
refuse_right true a e = rw e
refuse_right false a e = refl

-- both hold, and the code's order is the definition's
accept : (t : Believed.Test) (o : Believed.Order) {p q r : Bool} {found : Option Ordering} → p ≡ true → q ≡ true → found ≡ ordered o → r ≡ passes t (order_of found)
    → Ok (Ir.Bool r) ≡ computed (need (p && q) wrong_kinds (ok (truth (passes t o))))
unfolding need
accept t o e f g h = truth-is _ ∙ rw (e, f, h, g, order-back o)

picked : {A : Type 0} (t : Bool) {a b : A} → pick t (Some a) None ≡ Some b → (t ≡ true) × (b ≡ a)
picked true h = (refl, cc)
picked false h = let z : ◌≡◌ {A = ℕ} 0 1 = cc in absurd (omega arith)

passed_over : {A : Type 0} (t : Bool) (a : A) → pick t (Some a) None ≡ None → t ≡ false
passed_over true a h = let z : ◌≡◌ {A = ℕ} 0 1 = cc in absurd (omega arith)
passed_over false a h = refl

a_float : (v : Value) → is_float (family v.kind) ≡ true → floating v ≡ real v
unfolding floating
a_float v h = rw h

module _ (t : Believed.Test) (x y : Value) where
  pub unsigned-left : {u : Option ℕ} → u ≡ as_unsigned x → u ≡ None → Err wrong_kinds ≡ computed (unsigned_order t x y)
  unfolding unsigned_order as_unsigned
  unsigned-left p h = refuse_left _ _ (passed_over (is_unsigned (family x.kind)) _ (sym p ∙ h))

  pub unsigned_right : {u : Option ℕ} → u ≡ as_unsigned y → u ≡ None → Err wrong_kinds ≡ computed (unsigned_order t x y)
  unfolding unsigned_order as_unsigned
  unsigned_right p h = refuse_right (is_unsigned (family x.kind)) _ (passed_over (is_unsigned (family y.kind)) _ (sym p ∙ h))

  pub unsigned-both : {u v : Option ℕ} {a b : ℕ} {o : Ordering} {r : Bool} → u ≡ as_unsigned x → u ≡ Some a → v ≡ as_unsigned y → v ≡ Some b
      → o ≡ nat_cmp a b → r ≡ passes t (order_of (Some o)) → Ok (Ir.Bool r) ≡ computed (unsigned_order t x y)
  unfolding unsigned_order as_unsigned
  unsigned-both {o = o} p h q i f g =
      let m = picked (is_unsigned (family x.kind)) (sym p ∙ h) in
      let n = picked (is_unsigned (family y.kind)) (sym q ∙ i) in
      accept t _ {found = Some o} m.0 n.0 (rw (f, m.1, n.1) (naturals-is x.bits y.bits)) g

  pub signed-left : {u : Option ℤ} → u ≡ as_signed x → u ≡ None → Err wrong_kinds ≡ computed (signed_order t x y)
  unfolding signed_order as_signed
  signed-left p h = refuse_left _ _ (passed_over (is_signed (family x.kind)) _ (sym p ∙ h))

  pub signed_right : {u : Option ℤ} → u ≡ as_signed y → u ≡ None → Err wrong_kinds ≡ computed (signed_order t x y)
  unfolding signed_order as_signed
  signed_right p h = refuse_right (is_signed (family x.kind)) _ (passed_over (is_signed (family y.kind)) _ (sym p ∙ h))

  pub signed-both : {u v : Option ℤ} {a b : ℤ} {o : Ordering} {r : Bool} → u ≡ as_signed x → u ≡ Some a → v ≡ as_signed y → v ≡ Some b → SFits w64 a → SFits w64 b
      → o ≡ int_cmp (to_z w64 (of_z w64 a)) (to_z w64 (of_z w64 b)) → r ≡ passes t (order_of (Some o)) → Ok (Ir.Bool r) ≡ computed (signed_order t x y)
  unfolding signed_order as_signed
  signed-both {a = a} {b = b} {o = o} p h q i j k f g =
      let m = picked (is_signed (family x.kind)) (sym p ∙ h) in
      let n = picked (is_signed (family y.kind)) (sym q ∙ i) in
      accept t _ {found = Some o} m.0 n.0 (rw (f, to_z-of_z w64 a j, to_z-of_z w64 b k, m.1, n.1) (integers-is (integer x) (integer y))) g

  pub float_left : {s : Bool} → s ≡ is_float (family x.kind) → s ≡ false → Err wrong_kinds ≡ computed (float_order t x y)
  unfolding float_order
  float_left p h = refuse_left _ _ (sym p ∙ h)

  pub float_right : {s : Bool} → s ≡ is_float (family y.kind) → s ≡ false → Err wrong_kinds ≡ computed (float_order t x y)
  unfolding float_order
  float_right p h = refuse_right (is_float (family x.kind)) _ (sym p ∙ h)

  pub float_both : {s u : Bool} {found : Option Ordering} {r : Bool} → s ≡ is_float (family x.kind) → s ≡ true → u ≡ is_float (family y.kind) → u ≡ true
      → found ≡ ordered (reals (floating x) (floating y)) → r ≡ passes t (order_of found) → Ok (Ir.Bool r) ≡ computed (float_order t x y)
  unfolding float_order
  float_both p h q i f g =
      let m = sym p ∙ h in
      let n = sym q ∙ i in
      accept t _ m n (f ∙ rw (a_float x m, a_float y n)) g

  -- ---- equality

  pub kinds_differ : {m n : ℕ} → m ≡ tag x.kind → n ≡ tag y.kind → (m ≡ n → ⊥) → Err wrong_kinds ≡ computed (equality t x y)
  unfolding equality
  kinds_differ p q h = refuse_left _ _ (ne_eqb _ _ (λ e. h (p ∙ e ∙ sym q)))

  pub no_equality : {s : Bool} → s ≡ has_equality x.kind → s ≡ false → Err wrong_kinds ≡ computed (equality t x y)
  unfolding equality
  no_equality p h = refuse_right (same x.kind y.kind) _ (sym p ∙ h)

  module _ {m n : ℕ} {s u r : Bool} {found : Option Ordering} (p : m ≡ tag x.kind) (q : n ≡ tag y.kind) (e : m ≡ n) (h : s ≡ has_equality x.kind) (i : s ≡ true) (j : u ≡ is_float (family x.kind)) (g : r ≡ passes t (order_of found)) where
    pub equal_floats : u ≡ true → found ≡ ordered (reals (floating x) (floating y)) → Ok (Ir.Bool r) ≡ computed (equality t x y)
    unfolding equality
    equal_floats k f =
        let l = sym j ∙ k in
        let o : is_float (family y.kind) ≡ true = ap (λ k. is_float (family k)) (sym (tags-equal (sym p ∙ e ∙ q))) ∙ l in
        accept t _ (eq-eqb _ _ (sym p ∙ e ∙ q)) (sym h ∙ i) (f ∙ rw (l, a_float x l, a_float y o)) g

    pub equal-bits : u ≡ false → {a b : ℕ} {c : Ordering} → a ≡ x.bits → b ≡ y.bits → c ≡ nat_cmp a b → found ≡ Some c → Ok (Ir.Bool r) ≡ computed (equality t x y)
    unfolding equality
    equal-bits k A B C f = accept t _ (eq-eqb _ _ (sym p ∙ e ∙ q)) (sym h ∙ i) (f ∙ rw (C, A, B, sym j ∙ k) (naturals-is x.bits y.bits)) g

-- Not gives its Bool
pub not_is : {v : IrValue} (b : Bool) → v ≡ Ir.Bool b → Ok (Ir.Bool b) ≡ computed (notted (value_of v))
unfolding value_of notted computed ir_of need tag
not_is true e = rw e
not_is false e = rw e
