-- Two's complement at every width: the definition's reading of bits is the machine's, and `-1 - x` turns each half of the integers into the other.
use mathlib.Core.Path.{◌≡◌, refl, sym, ap, ◌∙◌, subst}
use mathlib.Core.Bool.{Bool, true, false}
use Prim.Native.Nat.{ℕ, zero, suc, ◌-◌, ◌<◌, ◌^◌}
use native.Mathlib.Omega.{arith}
use borrow.Author.Tests.{lt-ltb, le-ltb, le-leb, lt-leb, ltb-true, ltb-false}
use lib.Dec.{T, ltb, leb}
use lib.IntN.{ℤ, pos, negsuc, ◌-ℤ◌}
use lib.Signed.{mag, lt_z}
use mir.Syntax.{Width}
use mir.Val.{SFits, bits, hbits, to_z, of_z}
use mir.ValLaws.{to_z-of_z}
use Rattle.value.specs.Answer.{pick}
use Rattle.value.specs.Value.{Kind, width, bits_of}

-- the definition's bits are the machine's
pub bits_are : (w : Width) (k : Kind) → bits w ≡ width k → (z : ℤ) → of_z w z ≡ bits_of k z
unfolding bits_of
bits_are w k e (pos n) = refl
bits_are w k e (negsuc n) = ap (λ (j : ℕ). 2 ^ j - suc n) e

-- -1 - x
pub down : (n : ℕ) → negsuc 0 -ℤ pos n ≡ negsuc n
down zero = refl
down (suc n) = ap negsuc (omega arith)

up : (n : ℕ) → negsuc 0 -ℤ negsuc n ≡ pos n
up n = rw (le-ltb (suc n) 1 (omega arith)) (ap pos (omega arith))

-- what `x < 0` tells
pub below_zero : (x : ℤ) → lt_z x (pos 0) ≡ true → x ≡ negsuc (mag x)
below_zero (pos n) t = absurd (omega (arith, ltb-true n 0 t))
below_zero (negsuc n) t = refl

pub from_zero : (x : ℤ) → lt_z x (pos 0) ≡ false → x ≡ pos (mag x)
from_zero (pos n) t = refl
from_zero (negsuc n) t = absurd (subst T t tt)

-- an integer's other sign
module _ (w : Width) (x : ℤ) (h : SFits w x) where
  turned : lt_z (to_z w (of_z w x)) (pos 0) ≡ true → negsuc 0 -ℤ to_z w (of_z w x) ≡ pos (mag x)
  turned t =
      let e = to_z-of_z w x h in
      ap (λ (y : ℤ). negsuc 0 -ℤ y) (e ∙ below_zero x (subst (λ (y : ℤ). lt_z y (pos 0) ≡ true) e t)) ∙ up (mag x)

  pub in_sub : lt_z (to_z w (of_z w x)) (pos 0) ≡ true → SFits w (negsuc 0 -ℤ to_z w (of_z w x))
  in_sub t = subst (SFits w) (sym (turned t)) (record { sfits = h.sfits })

  pub below : lt_z (to_z w (of_z w x)) (pos 0) ≡ true → to_z w (of_z w (negsuc 0 -ℤ to_z w (of_z w x))) ≡ pos (mag x)
  below t = to_z-of_z w _ (in_sub t) ∙ turned t

  pub above : lt_z (to_z w (of_z w x)) (pos 0) ≡ false → to_z w (of_z w x) ≡ pos (mag x)
  above t = to_z-of_z w x h ∙ from_zero x (subst (λ (y : ℤ). lt_z y (pos 0) ≡ false) (to_z-of_z w x h) t)

less : (b m : ℕ) → b < m → pos b -ℤ pos m ≡ negsuc (m - suc b)
less b zero h = absurd (omega arith)
less b (suc m) h = rw (lt-ltb b (suc m) h)

-- the definition's reading of bits
pub reading : (w : Width) (b : ℕ) → b < 2 ^ bits w → pick (leb (2 ^ hbits w) b) (pos b -ℤ pos (2 ^ bits w)) (pos b) ≡ to_z w b
reading w b h = go (ltb b (2 ^ hbits w)) refl
  where
    go : (t : Bool) → ltb b (2 ^ hbits w) ≡ t → pick (leb (2 ^ hbits w) b) (pos b -ℤ pos (2 ^ bits w)) (pos b) ≡ to_z w b
    go true e = rw (e, lt-leb _ _ (ltb-true b _ e))
    go false e = rw (e, le-leb _ _ (ltb-false b _ e)) (less b (2 ^ bits w) h)

-- what the casts between a signed and an unsigned integer give is the definition's
pub unsigned_is : (w : Width) (k : Kind) → bits w ≡ width k → (z : ℤ) → SFits w z → of_z w (to_z w (of_z w z)) ≡ bits_of k z
unsigned_is w k e z h = ap (of_z w) (to_z-of_z w z h) ∙ bits_are w k e z

pub signed_is : (w : Width) (b : ℕ) {z : ℤ} → SFits w z → z ≡ to_z w b → b < 2 ^ bits w → to_z w (of_z w z) ≡ pick (leb (2 ^ hbits w) b) (pos b -ℤ pos (2 ^ bits w)) (pos b)
signed_is w b h e l = to_z-of_z w _ h ∙ e ∙ sym (reading w b l)
