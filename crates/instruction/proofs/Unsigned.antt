-- Unsigned integers of one kind are added, subtracted and compared by their bits: kind by kind, where the definitions compute.
use Rattle.std.specs.Prelude.{Result, Ok}
use Prim.Native.Nat.{ℕ, ◌+◌, ◌-◌, ◌≤◌}
use native.Mathlib.Omega.{arith}
use mathlib.Core.Bool.{Bool, true, false}
use mathlib.Core.Path.{◌≡◌, refl, sym, ap, ◌∙◌}
use lib.Dec.{ltb, leb, eqb}
use lib.IntN.{ℤ, pos, ◌-ℤ◌, pos-+ℤ-pos, +ℤ-neg_ℤ_cancel}
use borrow.Author.Tests.{lt-ltb, le-ltb, le-leb, lt-leb, ltb-true, ltb-false, eqb-true, eqb-false}
use Rattle.value.specs.declared.refusal.Refusal.{Refusal}
use Rattle.value.specs.Answer.{ok, need, pick, ◌>>=◌}
use Rattle.value.specs.Value.{Value, value, Kind, tag, size, family, arithmetic, operate, checked, integer, bits_of, compare_ints, unsigned_order, naturals, passes, truth, Test, lt, le, gt, ge, less, equal, greater}
use Rattle.value.specs.Value as Kinds
use Rattle.value.specs.Tags.{kind_at, named, holds, int_cmp_at}
use Rattle.instruction.specs.Variables.{found}
use Rattle.instruction.specs.Compute.{answer_of, found_of, operated, with_second, binary_of, compared_ints}
use Rattle.instruction.specs.Short.{Unsigned, u8, u16, u32, u64, Alike}
use Rattle.instruction.specs.declared.variables.Found.{Found}

kind : {tag top : ℕ} → Unsigned tag top → Kind
kind u8 = Kinds.u8
kind u16 = Kinds.u16
kind u32 = Kinds.u32
kind u64 = Kinds.u64

whole : {t top : ℕ} (u : Unsigned t top) (b : ℕ) → b ≤ top → answer_of (Ok (found t b)) ≡ ok (value (kind u) b)
unfolding answer_of kind_at named tag holds need kind
whole u8 b h = rw (lt-ltb b 256 (omega arith))
whole u16 b h = rw (lt-ltb b 65536 (omega arith))
whole u32 b h = rw (lt-ltb b 4294967296 (omega arith))
whole u64 b h = rw (lt-ltb b 18446744073709551616 (omega arith))

minus : (a b : ℕ) → b ≤ a → pos a -ℤ pos b ≡ pos (a - b)
minus a b h =
    let e : a ≡ a - b + b = omega arith in
    ap (λ (n : ℕ). pos n -ℤ pos b) e ∙ ap (λ (z : ℤ). z -ℤ pos b) (sym (pos-+ℤ-pos (a - b) b)) ∙ +ℤ-neg_ℤ_cancel (pos (a - b)) (pos b)

added : {t top : ℕ} (u : Unsigned t top) (how a b : ℕ) → a + b ≤ top → Ok (found t (a + b)) ≡ found_of (operated 8 how (value (kind u) a) (value (kind u) b))
unfolding operated arithmetic operate checked integer family tag size bits_of need kind
added u8 how a b h = rw (lt-ltb (a + b) 256 (omega arith))
added u16 how a b h = rw (lt-ltb (a + b) 65536 (omega arith))
added u32 how a b h = rw (lt-ltb (a + b) 4294967296 (omega arith))
added u64 how a b h = rw (lt-ltb (a + b) 18446744073709551616 (omega arith))

taken : {t top : ℕ} (u : Unsigned t top) (how a b : ℕ) → a ≤ top → b ≤ a → Ok (found t (a - b)) ≡ found_of (operated 9 how (value (kind u) a) (value (kind u) b))
unfolding operated arithmetic operate checked integer family tag size bits_of need kind
taken u8 how a b h k = rw (minus a b k, lt-ltb (a - b) 256 (omega arith))
taken u16 how a b h k = rw (minus a b k, lt-ltb (a - b) 65536 (omega arith))
taken u32 how a b h k = rw (minus a b k, lt-ltb (a - b) 4294967296 (omega arith))
taken u64 how a b h k = rw (minus a b k, lt-ltb (a - b) 18446744073709551616 (omega arith))

compared : {t top : ℕ} (u : Unsigned t top) (test : Test) (a b : ℕ) → unsigned_order test (value (kind u) a) (value (kind u) b) ≡ ok (truth (passes test (naturals a b)))
unfolding unsigned_order family need kind
compared u8 test a b = refl
compared u16 test a b = refl
compared u32 test a b = refl
compared u64 test a b = refl

shown : (b : Bool) → Ok (found (tag Kinds.bool) (pick b 1 0)) ≡ found_of (ok (truth b))
shown true = refl
shown false = refl

-- ---- the tests of an order, as the tests of the code

module _ (a b : ℕ) where
  below : passes lt (naturals a b) ≡ ltb a b
  unfolding naturals passes
  below = go (ltb a b) (eqb a b)
    where
      go : (l e : Bool) → passes lt (pick l less (pick e equal greater)) ≡ l
      go true e = refl
      go false true = refl
      go false false = refl

  not-above : passes le (naturals a b) ≡ leb a b
  unfolding naturals passes
  not-above = go (ltb a b) (eqb a b) refl refl
    where
      go : (l e : Bool) → ltb a b ≡ l → eqb a b ≡ e → passes le (pick l less (pick e equal greater)) ≡ leb a b
      go true e p q = sym (le-leb a b (omega (arith, ltb-true a b p)))
      go false true p q = sym (le-leb a b (omega (arith, eqb-true a b q)))
      go false false p q = sym (lt-leb a b (omega (arith, ltb-false a b p, eqb-false a b q)))

  above : passes gt (naturals a b) ≡ ltb b a
  unfolding naturals passes
  above = go (ltb a b) (eqb a b) refl refl
    where
      go : (l e : Bool) → ltb a b ≡ l → eqb a b ≡ e → passes gt (pick l less (pick e equal greater)) ≡ ltb b a
      go true e p q = sym (le-ltb b a (omega (arith, ltb-true a b p)))
      go false true p q = sym (le-ltb b a (omega (arith, eqb-true a b q)))
      go false false p q = sym (lt-ltb b a (omega (arith, ltb-false a b p, eqb-false a b q)))

  not-below : passes ge (naturals a b) ≡ leb b a
  unfolding naturals passes
  not-below = go (ltb a b) (eqb a b) refl refl
    where
      go : (l e : Bool) → ltb a b ≡ l → eqb a b ≡ e → passes ge (pick l less (pick e equal greater)) ≡ leb b a
      go true e p q = sym (lt-leb b a (omega (arith, ltb-true a b p)))
      go false true p q = sym (le-leb b a (omega (arith, eqb-true a b q)))
      go false false p q = sym (le-leb b a (omega (arith, ltb-false a b p, eqb-false a b q)))

-- ---- two operands

module _ (opcode how t top a b : ℕ) (p : Alike t top a b) where
  both : operated opcode how (value (kind p.kind) a) (value (kind p.kind) b) ≡ binary_of opcode how (Ok (found t a)) (Ok (found t b))
  unfolding binary_of with_second ◌>>=◌
  both = rw (whole p.kind a p.first, whole p.kind b p.second)

module _ (t top a b : ℕ) (p : Alike t top a b) where
  pub sums : (how : ℕ) → a + b ≤ top → Ok (found t (a + b)) ≡ found_of (binary_of 8 how (Ok (found t a)) (Ok (found t b)))
  sums how h = added p.kind how a b h ∙ ap found_of (both 8 how t top a b p)

  pub differences : (how : ℕ) → b ≤ a → Ok (found t (a - b)) ≡ found_of (binary_of 9 how (Ok (found t a)) (Ok (found t b)))
  differences how h = taken p.kind how a b p.first h ∙ ap found_of (both 9 how t top a b p)

  module _ (how : ℕ) (test : Test) (named : (x y : Value) → operated 6 how x y ≡ unsigned_order test x y) where
    ordered : (b' : Bool) → passes test (naturals a b) ≡ b' → Ok (found (tag Kinds.bool) (pick b' 1 0)) ≡ found_of (binary_of 6 how (Ok (found t a)) (Ok (found t b)))
    ordered b' e =
        shown b' ∙ ap (λ (d : Bool). found_of (ok (truth d))) (sym e)
        ∙ ap found_of (sym (named (value (kind p.kind) a) (value (kind p.kind) b) ∙ compared p.kind test a b) ∙ both 6 how t top a b p)

  pub ult : Ok (found (tag Kinds.bool) (pick (ltb a b) 1 0)) ≡ found_of (binary_of 6 2 (Ok (found t a)) (Ok (found t b)))
  unfolding operated compared_ints int_cmp_at compare_ints
  ult = ordered 2 lt (λ x y. refl) (ltb a b) (below a b)

  pub ule : Ok (found (tag Kinds.bool) (pick (leb a b) 1 0)) ≡ found_of (binary_of 6 3 (Ok (found t a)) (Ok (found t b)))
  unfolding operated compared_ints int_cmp_at compare_ints
  ule = ordered 3 le (λ x y. refl) (leb a b) (not-above a b)

  pub ugt : Ok (found (tag Kinds.bool) (pick (ltb b a) 1 0)) ≡ found_of (binary_of 6 4 (Ok (found t a)) (Ok (found t b)))
  unfolding operated compared_ints int_cmp_at compare_ints
  ugt = ordered 4 gt (λ x y. refl) (ltb b a) (above a b)

  pub uge : Ok (found (tag Kinds.bool) (pick (leb b a) 1 0)) ≡ found_of (binary_of 6 5 (Ok (found t a)) (Ok (found t b)))
  unfolding operated compared_ints int_cmp_at compare_ints
  uge = ordered 5 ge (λ x y. refl) (leb b a) (not-below a b)

pub ruleset orders = (ult, ule, ugt, uge)

-- two operands with one tag, whose bits were combined
pub alike_found : (opcode how n : ℕ) (x y : Found) (r : Result Found Refusal) → opcode ≡ n → x.tag ≡ y.tag → r ≡ found_of (binary_of n how (Ok (found x.tag x.bits)) (Ok (found x.tag y.bits)))
    → r ≡ found_of (binary_of opcode how (Ok x) (Ok y))
alike_found opcode how n x y r e same h = rw e (h ∙ ap (λ (t : ℕ). found_of (binary_of n how (Ok x) (Ok (found t y.bits)))) same)
