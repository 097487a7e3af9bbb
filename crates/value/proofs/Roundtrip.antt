-- Values and their bits, there and back.
use mathlib.Core.Path.{◌≡◌, refl, sym, ap, ◌∙◌, subst}
use mathlib.Core.Bool.{Bool, true, false, not, ◌&&◌, ◌||◌}
use mathlib.Core.Option.{Option, none, some}
use Prim.Native.Nat.{ℕ, zero, suc, ◌-◌, ◌<◌, ◌≤◌, ◌^◌}
use native.Mathlib.Omega.{arith}
use borrow.Author.Tests.{leb-true, ltb-true, lt-ltb}
use lib.Dec.{T, ltb, leb}
use lib.Ieee.{binary32, binary64, fits, is_nan, nan_bits}
use lib.Ieee.Bits.{to_bits-lt}
use lib.IntN.{ℤ, pos, negsuc, ◌-ℤ◌}
use Rattle.std.specs.Prelude.{Some, None}
use mir.Syntax.{Width, w8, w16, w32, w64}
use mir.Val.{SFits, bits, hbits, to_z, bool_byte}
use mir.ValLaws.{of_z-to_z, of_z_fits, to_z-of_z}
use Rattle.value.specs.Answer.{pick}
use Rattle.value.specs.Value.{Kind, value, tag, width, family, size, integer, bits_of, within, signed, is_scalar, bool, u8, u16, u32, u64, i8, i16, i32, i64, f32, f64, char, asn, pointer}
use Rattle.value.specs.Tags.{kind_at, holds}
use Rattle.value.specs.Floats.{bits32, bits64, single, double}
use Rattle.value.specs.Ir.{value_of, ir_of, ir_value, own_single, own_double, own, made}
use Rattle.value.specs.declared.IrValue.{IrValue}
use Rattle.value.specs.declared.IrValue.TheVariants as Ir
use Rattle.value.specs.declared.Single.{Single}
use Rattle.value.specs.declared.Double.{Double}
use Rattle.value.specs.declared.Single.TheVariants as S
use Rattle.value.specs.declared.Double.TheVariants as D
use Rattle.value.proofs.Complement.{bits_are, reading}
use Rattle.value.proofs.Patterns.{single_there, double_there, single-back, double-back}
use Rattle.value.proofs.Tags.{kind_of_tag, tag_of_kind}
use Rattle.value.proofs.Truth.{is_yes, both_true}

-- the bits of a value of which the case is known
pub told : {v w : IrValue} {n : ℕ} → v ≡ w → n ≡ (value_of w).bits → n ≡ (value_of v).bits
told e h = h ∙ sym (ap (λ (v : IrValue). (value_of v).bits) e)

pub byte_of : (b : Bool) → bool_byte b ≡ pick b 1 0
byte_of true = refl
byte_of false = refl

-- a scalar value has 32 bits at most
pub scalar_small : (b : ℕ) → is_scalar b ≡ true → b < 2 ^ 32
unfolding is_scalar
scalar_small b h = go (leb b 0xd7ff) (leb 0xe000 b) (leb b 0x10ffff) h (leb-true b 0xd7ff) (leb-true b 0x10ffff)
  where
    go : (s t u : Bool) → s || (t && u) ≡ true → (s ≡ true → b ≤ 0xd7ff) → (u ≡ true → b ≤ 0x10ffff) → b < 2 ^ 32
    go true t u e p q = let l = p refl in omega arith
    go false true true e p q = let l = q refl in omega arith
    go false true false e p q = absurd (subst (λ (t : Bool). T (not t)) e tt)
    go false false u e p q = absurd (subst (λ (t : Bool). T (not t)) e tt)

-- ---- bits go in and come out

complement_back : (w : Width) (k : Kind) (b : ℕ) → bits w ≡ width k → (pick (leb (2 ^ hbits w) b) (pos b -ℤ pos (2 ^ bits w)) (pos b)) ≡ integer (value k b) → b < 2 ^ bits w → bits_of k (integer (value k b)) ≡ b
complement_back w k b e i h =
    ap (bits_of k) (sym i ∙ reading w b h) ∙ sym (bits_are w k e (to_z w b)) ∙ of_z-to_z w b (record { fits = h })

-- "the round trip on bits": a kind's bits make a value that has them
pub bits_back : (k : Kind) (b : ℕ) → holds k b ≡ true → value_of (ir_of k b) ≡ value k b
unfolding value_of ir_of holds integer family size
bits_back bool zero h = refl
bits_back bool (suc zero) h = refl
bits_back bool (suc (suc b)) h = absurd (omega (arith, ltb-true (suc (suc b)) 2 h))
bits_back u8 b h = refl
bits_back u16 b h = refl
bits_back u32 b h = refl
bits_back u64 b h = refl
bits_back i8 b h = ap (value i8) (complement_back w8 i8 b refl refl (ltb-true b _ h))
bits_back i16 b h = ap (value i16) (complement_back w16 i16 b refl refl (ltb-true b _ h))
bits_back i32 b h = ap (value i32) (complement_back w32 i32 b refl refl (ltb-true b _ h))
bits_back i64 b h = ap (value i64) (complement_back w64 i64 b refl refl (ltb-true b _ h))
bits_back f32 b h = ap (value f32) (single_there b (ltb-true b _ h))
bits_back f64 b h = ap (value f64) (double_there b (ltb-true b _ h))
bits_back char b h = refl
bits_back asn b h = refl
bits_back pointer b h = refl

-- ---- a value of its own goes out and comes in

within-fits : (w : Width) (v : ℕ) (z : ℤ) → v - 1 ≡ hbits w → within signed v z ≡ true → SFits w z
within-fits w v (pos n) e h = record { sfits = subst (λ (j : ℕ). n < 2 ^ j) e (ltb-true n _ h) }
within-fits w v (negsuc n) e h = record { sfits = subst (λ (j : ℕ). n < 2 ^ j) e (ltb-true n _ h) }

pub signed_back : (w : Width) (k : Kind) (z : ℤ) → bits w ≡ width k → (pick (leb (2 ^ hbits w) (bits_of k z)) (pos (bits_of k z) -ℤ pos (2 ^ bits w)) (pos (bits_of k z))) ≡ integer (value k (bits_of k z)) → SFits w z → integer (value k (bits_of k z)) ≡ z
signed_back w k z e i h =
    let f = subst (λ (b : ℕ). b < 2 ^ bits w) (bits_are w k e z) (of_z_fits w z h).fits in
    sym i ∙ reading w (bits_of k z) f ∙ ap (to_z w) (sym (bits_are w k e z)) ∙ to_z-of_z w z h

signed-holds : (w : Width) (k : Kind) (z : ℤ) → bits w ≡ width k → SFits w z → ltb (bits_of k z) (2 ^ bits w) ≡ true
signed-holds w k z e h = lt-ltb _ _ (subst (λ (b : ℕ). b < 2 ^ bits w) (bits_are w k e z) (of_z_fits w z h).fits)

single-own : (x : Single) → own_single x ≡ true → (single (bits32 x) ≡ x) × (ltb (bits32 x) (2 ^ 32) ≡ true)
single-own (S.Number x) h = let t = both_true (fits binary32 x) (not (is_nan x)) h in (single-back x (is_yes t.0) (is_yes t.1), lt-ltb _ _ (to_bits-lt binary32 x (is_yes t.0)))
single-own (S.Nan b) h = let t = both_true (nan_bits binary32 b) (ltb b (2 ^ 32)) h in (rw t.0, t.1)

double-own : (x : Double) → own_double x ≡ true → (double (bits64 x) ≡ x) × (ltb (bits64 x) (2 ^ 64) ≡ true)
double-own (D.Number x) h = let t = both_true (fits binary64 x) (not (is_nan x)) h in (double-back x (is_yes t.0) (is_yes t.1), lt-ltb _ _ (to_bits-lt binary64 x (is_yes t.0)))
double-own (D.Nan b) h = let t = both_true (nan_bits binary64 b) (ltb b (2 ^ 64)) h in (rw t.0, t.1)

-- "on values for every value that has bits of its own"
pub value-back : (v : IrValue) → own v ≡ true → ir_value (value_of v) ≡ v
unfolding value_of ir_of own integer family size
value-back (Ir.Bool true) h = refl
value-back (Ir.Bool false) h = refl
value-back (Ir.U8 n) h = refl
value-back (Ir.U16 n) h = refl
value-back (Ir.U32 n) h = refl
value-back (Ir.U64 n) h = refl
value-back (Ir.I8 z) h = ap Ir.I8 (signed_back w8 i8 z refl refl (within-fits w8 8 z refl h))
value-back (Ir.I16 z) h = ap Ir.I16 (signed_back w16 i16 z refl refl (within-fits w16 16 z refl h))
value-back (Ir.I32 z) h = ap Ir.I32 (signed_back w32 i32 z refl refl (within-fits w32 32 z refl h))
value-back (Ir.I64 z) h = ap Ir.I64 (signed_back w64 i64 z refl refl (within-fits w64 64 z refl h))
value-back (Ir.F32 x) h = ap Ir.F32 (single-own x h).0
value-back (Ir.F64 x) h = ap Ir.F64 (double-own x h).0
value-back (Ir.Char n) h = refl
value-back (Ir.Asn n) h = refl
value-back (Ir.Pointer n) h = refl

pub own-holds : (v : IrValue) → own v ≡ true → holds (value_of v).kind (value_of v).bits ≡ true
unfolding value_of own holds size
own-holds (Ir.Bool true) h = refl
own-holds (Ir.Bool false) h = refl
own-holds (Ir.U8 n) h = h
own-holds (Ir.U16 n) h = h
own-holds (Ir.U32 n) h = h
own-holds (Ir.U64 n) h = h
own-holds (Ir.I8 z) h = signed-holds w8 i8 z refl (within-fits w8 8 z refl h)
own-holds (Ir.I16 z) h = signed-holds w16 i16 z refl (within-fits w16 16 z refl h)
own-holds (Ir.I32 z) h = signed-holds w32 i32 z refl (within-fits w32 32 z refl h)
own-holds (Ir.I64 z) h = signed-holds w64 i64 z refl (within-fits w64 64 z refl h)
own-holds (Ir.F32 x) h = (single-own x h).1
own-holds (Ir.F64 x) h = (double-own x h).1
own-holds (Ir.Char n) h = h
own-holds (Ir.Asn n) h = h
own-holds (Ir.Pointer n) h = h

-- ---- the same of the functions: `from_bits` of `tag` and `bits`, and back

made_of : (k : Kind) (b : ℕ) → holds k b ≡ true → made (kind_at (tag k)) b ≡ Some (ir_of k b)
unfolding made
made_of k b h = ap (λ o. made o b) (kind_of_tag k) ∙ rw h

pub made-back : (v : IrValue) → own v ≡ true → made (kind_at (tag (value_of v).kind)) (value_of v).bits ≡ Some v
made-back v h = made_of (value_of v).kind (value_of v).bits (own-holds v h) ∙ ap Some (value-back v h)

pub made_from_lem : (n b : ℕ) (v : IrValue) → made (kind_at n) b ≡ Some v → (tag (value_of v).kind ≡ n) × ((value_of v).bits ≡ b)
unfolding made
made_from_lem n b v h = go (kind_at n) refl h
  where
    value-of : (k : Kind) (t : Bool) → holds k b ≡ t → kind_at n ≡ some k → pick t (Some (ir_of k b)) None ≡ Some v → (tag (value_of v).kind ≡ n) × ((value_of v).bits ≡ b)
    value-of k true e f h =
        let i : ir_of k b ≡ v = cc in
        let w : value_of v ≡ value k b = sym (ap value_of i) ∙ bits_back k b e in
        (ap (λ u. tag u.kind) w ∙ tag_of_kind n k f, ap (λ u. u.bits) w)
    value-of k false e f h = let z : ◌≡◌ {A = ℕ} 0 1 = cc in absurd (omega arith)

    go : (o : Option Kind) → kind_at n ≡ o → made o b ≡ Some v → (tag (value_of v).kind ≡ n) × ((value_of v).bits ≡ b)
    go none e h = let z : ◌≡◌ {A = ℕ} 0 1 = cc in absurd (omega arith)
    go (some k) e h = value-of k (holds k b) refl e h
