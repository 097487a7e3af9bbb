-- From values come values: what an operation makes has bits of its kind. By cases of the kind, each by the bound of its width.
use Prim.Native.Nat.{ℕ, zero, suc, ◌+◌, ◌-◌, ◌*◌, ◌/◌, ◌%◌, ◌^◌, ◌<◌}
use native.Mathlib.Nat.{mod-lt, one-le-pow, pow-succ'}
use native.Mathlib.Decide.{dec_lt}
use native.Mathlib.Omega.{arith}
use mathlib.Core.Bool.{Bool, true, false, not, ◌&&◌}
use mathlib.Core.Path.{◌≡◌, subst}
use mathlib.Core.List.{List, [], ◌∷◌}
use lib.ListN.{length}
use lib.Dec.{T, ltb, lt→ltb, ltb→lt, T_not}
use lib.Ieee.{Format, binary32, binary64, top, of_bits}
use lib.Ieee.Bits.{to_bits-lt}
use lib.Ieee.Fits.{div-fits}
use lib.IntN.{ℤ, pos, negsuc}
use mir.Facts.{and_yes, yes_and}
use Rattle.value.specs.declared.refusal.Refusal.{Refusal}
use Rattle.value.specs.Answer.{Answer, ok, refused, need, ◌>>=◌, pick}
use Rattle.value.specs.Value.{Value, value, Kind, bool, u8, u16, u32, u64, i8, i16, i32, i64, f32, f64, char, asn, pointer, IrType, Boolean, U8, U16, U32, U64, I8, I16, I32, I64, F32, F64, Pointer, kind_of, tag, same, width, Family, unsigned, signed, floating, neither, family, is_float, format_of, truth, integer, bits_of, within, checked, Operation, add, sub, mul, div, mod', operate, arithmetic, divide_floats, negate_as, negated, notted, Test, passes, real, reals, naturals, integers, equality, unsigned_order, signed_order, float_order, IntCmp, Eq, Ne, ULt, ULe, UGt, UGe, SLt, SLe, SGt, SGe, FloatCmp, FEq, FNe, FLt, FLe, FGt, FGe, compare_ints, compare_floats, size, le_bytes, le_number, bytes_of, from_bytes}
use Rattle.value.specs.Divide.{divide_bits}
use Rattle.value.specs.Tags.{holds}
use Rattle.value.proofs.Fields.{divide_is}
use Rattle.machine.specs.Sound.{all, are_bytes}

-- ---- answers that keep what is asked of them

pub data Keeps {A : Type 0} (Q : A → Type 0) : Answer A → Type 0 where
  kept : {a : A} → Q a → Keeps Q (ok a)
  no_answer : {n : Refusal} → Keeps Q (refused n)

pub keeps-need : {A : Type 0} (Q : A → Type 0) (b : Bool) (n : Refusal) {a : Answer A} → (T b → Keeps Q a) → Keeps Q (need b n a)
unfolding need
keeps-need Q true n k = k tt
keeps-need Q false n k = no_answer

pub keeps_then : {A B : Type 0} (Q : A → Type 0) (R : B → Type 0) {a : Answer A} {f : A → Answer B} → Keeps Q a → ((x : A) → Q x → Keeps R (f x)) → Keeps R (a >>= f)
unfolding ◌>>=◌
keeps_then Q R (kept {a} q) k = k a q
keeps_then Q R no_answer k = no_answer

pub keeps-after : {A B : Type 0} (R : B → Type 0) (a : Answer A) {f : A → Answer B} → ((x : A) → Keeps R (f x)) → Keeps R (a >>= f)
unfolding ◌>>=◌
keeps-after R (ok x) k = k x
keeps-after R (refused n) k = no_answer

-- ---- good values

abbrev pub Good : Value → Type 0
Good v = T (holds v.kind v.bits)

pub pointer-good : (n : ℕ) → n < 2 ^ 64 → Good (value pointer n)
unfolding holds
pointer-good n l = lt→ltb n (2 ^ 64) l

truth-good : (b : Bool) → Good (truth b)
unfolding holds
truth-good true = tt
truth-good false = tt

-- what lies within a kind has bits of it
within-good : (k : Kind) (z : ℤ) → T (within (family k) (width k) z) → Good (value k (bits_of k z))
unfolding holds family size bits_of
within-good bool (pos n) t = absurd t
within-good bool (negsuc n) t = absurd t
within-good u8 (pos n) t = t
within-good u8 (negsuc n) t = absurd t
within-good u16 (pos n) t = t
within-good u16 (negsuc n) t = absurd t
within-good u32 (pos n) t = t
within-good u32 (negsuc n) t = absurd t
within-good u64 (pos n) t = t
within-good u64 (negsuc n) t = absurd t
within-good i8 (pos n) t = lt→ltb n (2 ^ 8) (omega (arith, ltb→lt n (2 ^ 7) t))
within-good i8 (negsuc n) t = lt→ltb (2 ^ 8 - suc n) (2 ^ 8) (omega arith)
within-good i16 (pos n) t = lt→ltb n (2 ^ 16) (omega (arith, ltb→lt n (2 ^ 15) t))
within-good i16 (negsuc n) t = lt→ltb (2 ^ 16 - suc n) (2 ^ 16) (omega arith)
within-good i32 (pos n) t = lt→ltb n (2 ^ 32) (omega (arith, ltb→lt n (2 ^ 31) t))
within-good i32 (negsuc n) t = lt→ltb (2 ^ 32 - suc n) (2 ^ 32) (omega arith)
within-good i64 (pos n) t = lt→ltb n (2 ^ 64) (omega (arith, ltb→lt n (2 ^ 63) t))
within-good i64 (negsuc n) t = lt→ltb (2 ^ 64 - suc n) (2 ^ 64) (omega arith)
within-good f32 (pos n) t = absurd t
within-good f32 (negsuc n) t = absurd t
within-good f64 (pos n) t = absurd t
within-good f64 (negsuc n) t = absurd t
within-good char (pos n) t = absurd t
within-good char (negsuc n) t = absurd t
within-good asn (pos n) t = absurd t
within-good asn (negsuc n) t = absurd t
within-good pointer (pos n) t = absurd t
within-good pointer (negsuc n) t = absurd t

checked-good : (k : Kind) (z : ℤ) → Keeps Good (checked k z)
unfolding checked
checked-good k z = keeps-need Good _ _ (λ t. kept (within-good k z t))

-- a float's kind and bits below its width
float_good : (k : Kind) (b : ℕ) → T (is_float (family k)) → b < 2 ^ width k → Good (value k b)
unfolding holds family size
float_good bool b t l = absurd t
float_good u8 b t l = absurd t
float_good u16 b t l = absurd t
float_good u32 b t l = absurd t
float_good u64 b t l = absurd t
float_good i8 b t l = absurd t
float_good i16 b t l = absurd t
float_good i32 b t l = absurd t
float_good i64 b t l = absurd t
float_good f32 b t l = lt→ltb b (2 ^ 32) l
float_good f64 b t l = lt→ltb b (2 ^ 64) l
float_good char b t l = absurd t
float_good asn b t l = absurd t
float_good pointer b t l = absurd t

operate-good : (op : Operation) (k : Kind) (a b : ℤ) → Keeps Good (operate op k a b)
unfolding operate
operate-good add k a b = checked-good k _
operate-good sub k a b = checked-good k _
operate-good mul k a b = checked-good k _
operate-good div k a b = keeps-need Good _ _ (λ t. checked-good k _)
operate-good mod' k a b = keeps-need Good _ _ (λ t. keeps-after Good _ (λ q. checked-good k _))

pub arithmetic-good : (op : Operation) (x y : Value) → Keeps Good (arithmetic op x y)
unfolding arithmetic
arithmetic-good op x y = keeps-need Good _ _ (λ t. operate-good op x.kind (integer x) (integer y))

-- a quotient has as many bits as its format
bound : (f : Format) (a b : ℕ) → divide_bits f a b < 2 * top f
bound f a b = subst (λ (n : ℕ). n < 2 * top f) (divide_is f a b) (to_bits-lt f _ (div-fits f (of_bits f a) (of_bits f b)))

quotient_below : (k : Kind) (a b : ℕ) → T (is_float (family k)) → divide_bits (format_of k) a b < 2 ^ width k
unfolding family size tag
quotient_below bool a b t = absurd t
quotient_below u8 a b t = absurd t
quotient_below u16 a b t = absurd t
quotient_below u32 a b t = absurd t
quotient_below u64 a b t = absurd t
quotient_below i8 a b t = absurd t
quotient_below i16 a b t = absurd t
quotient_below i32 a b t = absurd t
quotient_below i64 a b t = absurd t
quotient_below f32 a b t = bound binary32 a b
quotient_below f64 a b t = bound binary64 a b
quotient_below char a b t = absurd t
quotient_below asn a b t = absurd t
quotient_below pointer a b t = absurd t

pub divided_good : (x y : Value) → Keeps Good (divide_floats x y)
unfolding divide_floats
divided_good x y =
    keeps-need Good _ _ (λ t.
    let float = (and_yes (same x.kind y.kind) (is_float (family x.kind)) t).1 in
    kept (float_good x.kind _ float (quotient_below x.kind x.bits y.bits float)))

pub negated-good : (v : Value) → Keeps Good (negated v)
unfolding negated
negated-good v = go (family v.kind) (λ t. float_good v.kind _ t (mod-lt _ (one-le-pow (width v.kind) 2 (omega arith))))
  where
    go : (F : Family) → (T (is_float F) → Good (value v.kind ((v.bits + 2 ^ (width v.kind - 1)) % 2 ^ width v.kind))) → Keeps Good (negate_as F v)
    go unsigned f = no_answer
    go signed f = checked-good v.kind _
    go floating f = kept (f tt)
    go neither f = no_answer

pub notted-good : (v : Value) → Good v → Keeps Good (notted v)
unfolding notted
notted-good v g = keeps-need Good _ _ (λ t. kept g)

-- every comparison gives a Bool
equality-good : (t : Test) (x y : Value) → Keeps Good (equality t x y)
unfolding equality
equality-good t x y = keeps-need Good _ _ (λ b. kept (truth-good (passes t (pick (is_float (family x.kind)) (reals (real x) (real y)) (naturals x.bits y.bits)))))

unsigned-good : (t : Test) (x y : Value) → Keeps Good (unsigned_order t x y)
unfolding unsigned_order
unsigned-good t x y = keeps-need Good _ _ (λ b. kept (truth-good (passes t (naturals x.bits y.bits))))

signed-good : (t : Test) (x y : Value) → Keeps Good (signed_order t x y)
unfolding signed_order
signed-good t x y = keeps-need Good _ _ (λ b. kept (truth-good (passes t (integers (integer x) (integer y)))))

floats_good : (t : Test) (x y : Value) → Keeps Good (float_order t x y)
unfolding float_order
floats_good t x y = keeps-need Good _ _ (λ b. kept (truth-good (passes t (reals (real x) (real y)))))

pub compared_ints_good : (cmp : IntCmp) (x y : Value) → Keeps Good (compare_ints cmp x y)
unfolding compare_ints
compared_ints_good Eq x y = equality-good _ x y
compared_ints_good Ne x y = equality-good _ x y
compared_ints_good ULt x y = unsigned-good _ x y
compared_ints_good ULe x y = unsigned-good _ x y
compared_ints_good UGt x y = unsigned-good _ x y
compared_ints_good UGe x y = unsigned-good _ x y
compared_ints_good SLt x y = signed-good _ x y
compared_ints_good SLe x y = signed-good _ x y
compared_ints_good SGt x y = signed-good _ x y
compared_ints_good SGe x y = signed-good _ x y

pub compared_floats_good : (cmp : FloatCmp) (x y : Value) → Keeps Good (compare_floats cmp x y)
unfolding compare_floats
compared_floats_good FEq x y = equality-good _ x y
compared_floats_good FNe x y = equality-good _ x y
compared_floats_good FLt x y = floats_good _ x y
compared_floats_good FLe x y = floats_good _ x y
compared_floats_good FGt x y = floats_good _ x y
compared_floats_good FGe x y = floats_good _ x y

-- ---- bytes

abbrev pub Bytes : (count : ℕ) → List ℕ → Type 0
Bytes n bs = (length bs ≡ n) × T (are_bytes bs)

-- n bytes make a number below 256 ^ n
number-below : (bs : List ℕ) → T (are_bytes bs) → le_number bs < 256 ^ length bs
unfolding le_number all
number-below [] t = omega arith
number-below (b ∷ bs) t =
    let u = and_yes (ltb b 256) (are_bytes bs) t in
    let below : b < 256 = ltb→lt b 256 u.0 in
    let rest = number-below bs u.1 in
    rw (pow-succ' 256 (length bs)) (omega arith)

-- and a number makes bytes
are-bytes : (n b : ℕ) → T (are_bytes (le_bytes n b))
unfolding le_bytes all
are-bytes zero b = tt
are-bytes (suc n) b = yes_and (ltb (b % 256) 256) (are_bytes (le_bytes n (b / 256))) (lt→ltb (b % 256) 256 (mod-lt b (omega arith))) (are-bytes n (b / 256))

pub stored_bytes : (v : Value) → T (are_bytes (bytes_of v))
unfolding bytes_of
stored_bytes v = are-bytes (size v.kind) v.bits

read_at_lem : (t : IrType) (b : ℕ) → b < 256 ^ size (kind_of t) → T (not (same (kind_of t) bool && ltb 1 b)) → Good (value (kind_of t) b)
unfolding holds kind_of size tag
read_at_lem Boolean b l u = lt→ltb b 2 (elim (dec_lt b 2) [ yes h ↦ h | no n ↦ absurd (T_not (ltb 1 b) u (lt→ltb 1 b (omega arith))) ])
read_at_lem U8 b l u = lt→ltb b (2 ^ 8) l
read_at_lem U16 b l u = lt→ltb b (2 ^ 16) l
read_at_lem U32 b l u = lt→ltb b (2 ^ 32) l
read_at_lem U64 b l u = lt→ltb b (2 ^ 64) l
read_at_lem I8 b l u = lt→ltb b (2 ^ 8) l
read_at_lem I16 b l u = lt→ltb b (2 ^ 16) l
read_at_lem I32 b l u = lt→ltb b (2 ^ 32) l
read_at_lem I64 b l u = lt→ltb b (2 ^ 64) l
read_at_lem F32 b l u = lt→ltb b (2 ^ 32) l
read_at_lem F64 b l u = lt→ltb b (2 ^ 64) l
read_at_lem Pointer b l u = lt→ltb b (2 ^ 64) l

pub read-good : (t : IrType) (bs : List ℕ) → Bytes (size (kind_of t)) bs → Keeps Good (from_bytes t bs)
unfolding from_bytes
read-good t bs b = keeps-need Good _ _ (λ u. kept (read_at_lem t (le_number bs) (subst (λ (n : ℕ). le_number bs < 256 ^ n) b.0 (number-below bs b.1)) u))
