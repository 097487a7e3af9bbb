-- From a tag and bits to a value and back: what the code's operations answer is what the definitions do, found again as tag and bits.
use Rattle.std.specs.Prelude.{Some, None, Result, Ok, Err, ok_or}
use Rattle.std.specs.Result.{result_ok}
use Prim.Native.Nat.{ℕ, ◌<◌}
use native.Mathlib.Omega.{arith}
use mathlib.Core.Bool.{Bool, true, false}
use mathlib.Core.Path.{◌≡◌, refl, sym, ap, ◌∙◌, subst}
use mathlib.Core.Option.{Option, none, some}
use lib.Dec.{eqb}
use borrow.Author.Tests.{lt-ltb}
use Rattle.value.specs.declared.refusal.Refusal.{Refusal}
use Rattle.value.specs.Refusal.{not_sound, no_instruction}
use Rattle.value.specs.Answer.{Answer, ok, refused, need, pick, ◌>>=◌}
use Rattle.value.specs.Value.{Value, value, Kind, tag, IntCmp, Eq, Ne, ULt, ULe, UGt, UGe, SLt, SLe, SGt, SGe, FloatCmp, FEq, FNe, FLt, FLe, FGt, FGe, compare_ints, compare_floats, divide_floats, size}
use Rattle.value.specs.Floats.{double}
use Rattle.value.specs.Tags.{kind_at, named, holds, int_cmp_at, float_cmp_at}
use Rattle.value.specs.Ir.{value_of, ir_of, made, computed}
use Rattle.value.specs.Compare.{int_cmp_of, ir_int_cmp, int_comparison, float_cmp_of, ir_float_cmp, float_comparison}
use Rattle.value.specs.declared.IrValue.{IrValue}
use Rattle.value.specs.declared.IrValue.TheVariants.{F64}
use Rattle.value.specs.declared.Double.{Double}
use Rattle.value.proofs.Roundtrip.{bits_back}
use Rattle.value.proofs.Truth.{is_true, is_yes}
use Rattle.instruction.specs.Code.{either}
use Rattle.instruction.specs.Compute.{stored, answer_of, found_of, found_as, compared_ints, compared_floats, operated, with_second, binary_of, altered, unary_of}
use Rattle.instruction.specs.declared.variables.Found.{Found}
use Rattle.machine.proofs.Values.{Keeps, kept, no_answer, Good, arithmetic-good, divided_good, compared_ints_good, compared_floats_good, notted-good, negated-good}

-- ---- a value out of its tag and bits

-- as the code makes it
pub as_value : (o : Option Kind) (b : ℕ) → ok_or (made o b) not_sound ≡ computed (stored o b)
unfolding made computed need
as_value none b = refl
as_value (some k) b = go (holds k b)
  where
    go : (h : Bool) → ok_or (pick h (Some (ir_of k b)) None) not_sound ≡ computed (need h not_sound (ok (value k b)))
    go true = refl
    go false = refl

value-at : (k : Kind) (b : ℕ) (h : Bool) → holds k b ≡ h → (v : IrValue) → computed (need h not_sound (ok (value k b))) ≡ Ok v → need h not_sound (ok (value k b)) ≡ ok (value_of v)
unfolding need computed
value-at k b true h v e = let same : ir_of k b ≡ v = cc in ap ok (sym (bits_back k b h) ∙ ap value_of same)
value-at k b false h v e = absurd (let z : ◌≡◌ {A = ℕ} 0 1 = cc in omega arith)

-- the value that was made, or the refusal
pub valued : (y : Found) (v : IrValue) → computed (answer_of (Ok y)) ≡ Ok v → answer_of (Ok y) ≡ ok (value_of v)
unfolding answer_of computed
valued y v e = go (kind_at y.tag) e
  where
    go : (o : Option Kind) → computed (stored o y.bits) ≡ Ok v → stored o y.bits ≡ ok (value_of v)
    go none d = absurd (let z : ◌≡◌ {A = ℕ} 0 1 = cc in omega arith)
    go (some k) d = value-at k y.bits (holds k y.bits) refl v d

pub unvalued : (y : Found) (n : Refusal) → computed (answer_of (Ok y)) ≡ Err n → answer_of (Ok y) ≡ refused n
unfolding computed
unvalued y n e = go (answer_of (Ok y)) e
  where
    go : (a : Answer Value) → computed a ≡ Err n → a ≡ refused n
    go (ok v) d = absurd (let z : ◌≡◌ {A = ℕ} 0 1 = cc in omega arith)
    go (refused m) d = let same : m ≡ n = cc in ap refused same

-- ---- an answer, as tag and bits

pub found_back : (a : Answer Value) → Keeps Good a → found_as (computed a) ≡ found_of a
unfolding computed
found_back (ok v) (kept g) = ap (λ (w : Value). found_of (ok w)) (bits_back v.kind v.bits (is_true (holds v.kind v.bits) g))
found_back (refused n) k = refl

keeps-pick : (b : Bool) {x y : Answer Value} → Keeps Good x → Keeps Good y → Keeps Good (pick b x y)
keeps-pick true x y = x
keeps-pick false x y = y

ints_good : (o : Option IntCmp) (x y : Value) → Keeps Good (compared_ints o x y)
unfolding compared_ints
ints_good none x y = no_answer
ints_good (some c) x y = compared_ints_good c x y

floats_good : (o : Option FloatCmp) (x y : Value) → Keeps Good (compared_floats o x y)
unfolding compared_floats
floats_good none x y = no_answer
floats_good (some c) x y = compared_floats_good c x y

operated-good : (n how : ℕ) (x y : Value) → Keeps Good (operated n how x y)
unfolding operated
operated-good n how x y =
    keeps-pick (eqb n 6) (ints_good (int_cmp_at how) x y)
    (keeps-pick (eqb n 7) (floats_good (float_cmp_at how) x y)
    (keeps-pick (eqb n 8) (arithmetic-good _ x y)
    (keeps-pick (eqb n 9) (arithmetic-good _ x y)
    (keeps-pick (eqb n 10) (arithmetic-good _ x y)
    (keeps-pick (eqb n 11) (arithmetic-good _ x y)
    (keeps-pick (eqb n 12) (arithmetic-good _ x y)
    (keeps-pick (eqb n 13) (divided_good x y) no_answer)))))))

-- ---- comparisons by their numbers

int_there : (c : IntCmp) → int_cmp_of (ir_int_cmp c) ≡ c
unfolding int_cmp_of ir_int_cmp
int_there Eq = refl
int_there Ne = refl
int_there ULt = refl
int_there ULe = refl
int_there UGt = refl
int_there UGe = refl
int_there SLt = refl
int_there SLe = refl
int_there SGt = refl
int_there SGe = refl

float_there : (c : FloatCmp) → float_cmp_of (ir_float_cmp c) ≡ c
unfolding float_cmp_of ir_float_cmp
float_there FEq = refl
float_there FNe = refl
float_there FLt = refl
float_there FLe = refl
float_there FGt = refl
float_there FGe = refl

module _ (x y : Value) where
  pub ints_compared : (o : Option IntCmp) → computed (compared_ints o x y) ≡ either (ok_or (int_comparison o) no_instruction) (λ n. Err n) (λ c. computed (compare_ints (int_cmp_of c) x y))
  unfolding int_comparison compared_ints computed
  ints_compared none = refl
  ints_compared (some c) = ap (λ (d : IntCmp). computed (compare_ints d x y)) (sym (int_there c))

  pub floats_compared : (o : Option FloatCmp) → computed (compared_floats o x y) ≡ either (ok_or (float_comparison o) no_instruction) (λ n. Err n) (λ c. computed (compare_floats (float_cmp_of c) x y))
  unfolding float_comparison compared_floats computed
  floats_compared none = refl
  floats_compared (some c) = ap (λ (d : FloatCmp). computed (compare_floats d x y)) (sym (float_there c))

-- ---- the second operand, and the first

module _ (opcode how : ℕ) where
  module _ (v : Value) (y : Found) where
    second_value : (b : IrValue) → computed (answer_of (Ok y)) ≡ Ok b → found_of (with_second opcode how v (Ok y)) ≡ found_as (computed (operated opcode how v (value_of b)))
    unfolding with_second ◌>>=◌
    second_value b e = rw (valued y b e) (sym (found_back (operated opcode how v (value_of b)) (operated-good opcode how v (value_of b))))

    second_unsound : (n : Refusal) → computed (answer_of (Ok y)) ≡ Err n → with_second opcode how v (Ok y) ≡ refused n
    unfolding with_second ◌>>=◌
    second_unsound n e = rw (unvalued y n e) refl

    pub second_is : found_of (with_second opcode how v (Ok y)) ≡ either (computed (answer_of (Ok y))) (λ n. Err n) (λ b. found_as (computed (operated opcode how v (value_of b))))
    second_is = go (computed (answer_of (Ok y))) refl
      where
        go : (r : Result IrValue Refusal) → computed (answer_of (Ok y)) ≡ r → found_of (with_second opcode how v (Ok y)) ≡ either r (λ n. Err n) (λ b. found_as (computed (operated opcode how v (value_of b))))
        go (Ok b) e = second_value b e
        go (Err n) e = ap found_of (second_unsound n e)

  pub second_refused : (v : Value) (n : Refusal) → with_second opcode how v (Err n) ≡ refused n
  unfolding with_second answer_of ◌>>=◌
  second_refused v n = refl

  module _ (x : Found) (y : Result Found Refusal) where
    first_value : (a : IrValue) → computed (answer_of (Ok x)) ≡ Ok a → binary_of opcode how (Ok x) y ≡ with_second opcode how (value_of a) y
    unfolding binary_of ◌>>=◌
    first_value a e = rw (valued x a e) refl

    first_unsound : (n : Refusal) → computed (answer_of (Ok x)) ≡ Err n → binary_of opcode how (Ok x) y ≡ refused n
    unfolding binary_of ◌>>=◌
    first_unsound n e = rw (unvalued x n e) refl

    pub first_is : found_of (binary_of opcode how (Ok x) y) ≡ either (computed (answer_of (Ok x))) (λ n. Err n) (λ a. found_of (with_second opcode how (value_of a) y))
    first_is = go (computed (answer_of (Ok x))) refl
      where
        go : (r : Result IrValue Refusal) → computed (answer_of (Ok x)) ≡ r → found_of (binary_of opcode how (Ok x) y) ≡ either r (λ n. Err n) (λ a. found_of (with_second opcode how (value_of a) y))
        go (Ok a) e = ap found_of (first_value a e)
        go (Err n) e = ap found_of (first_unsound n e)

  pub first_refused : (y : Result Found Refusal) (n : Refusal) → binary_of opcode how (Err n) y ≡ refused n
  unfolding binary_of answer_of ◌>>=◌
  first_refused y n = refl

-- an F64 of its bits
double-made : (x : Found) → x.tag ≡ 11 → x.bits < 18446744073709551616 → computed (answer_of (Ok x)) ≡ Ok (F64 (double x.bits))
unfolding computed answer_of need kind_at named tag holds ir_of size
double-made x e h = rw (e, lt-ltb x.bits 18446744073709551616 h)

-- an answer that `ok` keeps
pub ok_is : (x : Result Found Refusal) (r : Found) → result_ok x ≡ Some r → x ≡ Ok r
ok_is (Ok v) r e = let same : v ≡ r = cc in ap Ok same
ok_is (Err n) r e = absurd (let z : ◌≡◌ {A = ℕ} 0 1 = cc in omega arith)

-- FDiv of two F64, by what the code's own division answers
pub quotients : (opcode how : ℕ) (x y : Found) (a b : Double) (r : Result Found Refusal) → opcode ≡ 13 → x.tag ≡ 11 → y.tag ≡ 11 → x.bits < 18446744073709551616 → y.bits < 18446744073709551616
    → a ≡ double x.bits → b ≡ double y.bits → r ≡ found_as (computed (divide_floats (value_of (F64 a)) (value_of (F64 b)))) → r ≡ found_of (binary_of opcode how (Ok x) (Ok y))
unfolding operated
quotients opcode how x y a b r e d f h k i j g =
    rw (e, first_value 13 how x (Ok y) (F64 (double x.bits)) (double-made x d h), second_value 13 how (value_of (F64 (double x.bits))) y (F64 (double y.bits)) (double-made y f k))
    (g ∙ ap (λ (z : Double). found_as (computed (divide_floats (value_of (F64 z)) (value_of (F64 b))))) i ∙ ap (λ (z : Double). found_as (computed (divide_floats (value_of (F64 (double x.bits))) (value_of (F64 z))))) j)

-- ---- one operand

stored-good : (o : Option Kind) (b : ℕ) → Keeps Good (stored o b)
unfolding need
stored-good none b = no_answer
stored-good (some k) b = go (holds k b) refl
  where
    go : (h : Bool) → holds k b ≡ h → Keeps Good (need h not_sound (ok (value k b)))
    go true e = kept (is_yes e)
    go false e = no_answer

-- a value that was made is one of its kind
value-good : (y : Found) (v : IrValue) → computed (answer_of (Ok y)) ≡ Ok v → Good (value_of v)
unfolding answer_of
value-good y v e = go (stored (kind_at y.tag) y.bits) (stored-good (kind_at y.tag) y.bits) (valued y v e)
  where
    go : (a : Answer Value) → Keeps Good a → a ≡ ok (value_of v) → Good (value_of v)
    go (ok w) (kept g) d = let same : w ≡ value_of v = cc in subst (λ (u : Value). Good u) same g
    go (refused n) k d = absurd (let z : ◌≡◌ {A = ℕ} 0 1 = cc in omega arith)

altered-good : (n : ℕ) (v : Value) → Good v → Keeps Good (altered n v)
unfolding altered
altered-good n v g = keeps-pick (eqb n 14) (notted-good v g) (keeps-pick (eqb n 15) (negated-good v) no_answer)

module _ (opcode : ℕ) where
  pub alone_is : (x : Found) → found_of (unary_of opcode (Ok x)) ≡ either (computed (answer_of (Ok x))) (λ n. Err n) (λ a. found_as (computed (altered opcode (value_of a))))
  unfolding unary_of ◌>>=◌
  alone_is x = go (computed (answer_of (Ok x))) refl
    where
      go : (r : Result IrValue Refusal) → computed (answer_of (Ok x)) ≡ r → found_of (unary_of opcode (Ok x)) ≡ either r (λ n. Err n) (λ a. found_as (computed (altered opcode (value_of a))))
      go (Ok a) e = rw (valued x a e) (sym (found_back (altered opcode (value_of a)) (altered-good opcode (value_of a) (value-good x a e))))
      go (Err n) e = rw (unvalued x n e) refl

  pub alone_refused : (n : Refusal) → unary_of opcode (Err n) ≡ refused n
  unfolding unary_of answer_of ◌>>=◌
  alone_refused n = refl

-- ---- what the code's functions cite

pub ruleset first = (first_is, first_refused)

pub ruleset second = (second_is, second_refused)

pub ruleset alone = (alone_is, alone_refused)
