-- One step of `groups`, by what its tests say; and the bounds that keep a number's groups within 64 bits.
use Prim.Native.Nat.{ℕ, zero, suc, ◌+◌, ◌-◌, ◌*◌, ◌^◌, ◌≤◌, ◌<◌}
use native.Mathlib.Nat.{pow-succ', mul_assoc, le-mul_of_pos_right, one-le-pow, mul-le-mul_right}
use native.Mathlib.Numerals.{sub-one}
use native.Mathlib.Omega.{arith}
use native.Mathlib.Decide.{ℕ_discrete}
use lib.Dec.{leb, ltb, eqb}
use mathlib.Core.Bool.{Bool, true, false}
use mathlib.Core.Path.{◌≡◌, sym, ◌∙◌}
use mathlib.Core.List.{List}
use lib.ListN.{length, get_or}
use borrow.Author.Tests.{le-leb, lt-leb, lt-ltb, le-ltb, eq-eqb, ne_eqb}
use Rattle.image.specs.Parse.{Got, took, refused}
use Rattle.value.specs.declared.refusal.Refusal.{Refusal}
use Rattle.value.specs.Answer.{pick}
use Rattle.value.specs.Refusal.{bytes_run_out, malformed}
use Rattle.image.specs.Number.{number, groups}

module _ (start w sum : ℕ) (s : List ℕ) (at : ℕ) where
  pub out : (left : ℕ) → length s ≤ at → groups left start w sum s at ≡ refused bytes_run_out start
  unfolding groups
  out zero h = rw (le-leb (length s) at h)
  out (suc l) h = rw (le-leb (length s) at h)

  pub last_one : (left : ℕ) → left ≤ 0 → at < length s → get_or s at 0 ≡ 1 → groups left start w sum s at ≡ took (sum + w) (at + 1)
  unfolding groups
  last_one (suc l) z h e = absurd (omega arith)
  last_one zero z h e = rw (lt-leb (length s) at h, eq-eqb (get_or s at 0) 1 e)

  pub last-bad : (left : ℕ) → left ≤ 0 → at < length s → (get_or s at 0 ≡ 1 → ⊥) → groups left start w sum s at ≡ refused malformed start
  unfolding groups
  last-bad (suc l) z h e = absurd (omega arith)
  last-bad zero z h e = rw (lt-leb (length s) at h, ne_eqb (get_or s at 0) 1 e)

  pub more : (left : ℕ) → 0 < left → at < length s → 128 ≤ get_or s at 0
      → groups left start w sum s at ≡ groups (left - 1) start (w * 128) (sum + (get_or s at 0 - 128) * w) s (at + 1)
  unfolding groups
  more zero p h g = absurd (omega arith)
  more (suc l) p h g = rw (sub-one, lt-leb (length s) at h, le-ltb (get_or s at 0) 128 g)

  pub padded : (left : ℕ) → 0 < left → left < 9 → at < length s → get_or s at 0 ≡ 0 → groups left start w sum s at ≡ refused malformed start
  unfolding groups
  padded zero p q h e = absurd (omega arith)
  padded (suc l) p q h e =
      rw (lt-leb (length s) at h, lt-ltb (get_or s at 0) 128 (omega arith), eq-eqb (get_or s at 0) 0 e, lt-ltb l 8 (omega arith))

  pub ends : (left : ℕ) → 0 < left → at < length s → get_or s at 0 < 128 → (get_or s at 0 ≡ 0 → 9 ≤ left)
      → groups left start w sum s at ≡ took (sum + get_or s at 0 * w) (at + 1)
  unfolding groups
  ends zero p h g z = absurd (omega arith)
  ends (suc l) p h g z =
      rw (lt-leb (length s) at h, lt-ltb (get_or s at 0) 128 g) (zero_case (ℕ_discrete (get_or s at 0) 0))
    where
      zero_case : Dec (get_or s at 0 ≡ 0)
          → pick (eqb (get_or s at 0) 0) (pick (ltb l 8) (refused malformed start) (took (sum + get_or s at 0 * w) (at + 1))) (took (sum + get_or s at 0 * w) (at + 1))
          ≡ took (sum + get_or s at 0 * w) (at + 1)
      zero_case (yes e) = rw (eq-eqb (get_or s at 0) 0 e, le-ltb l 8 (omega (arith, z e)))
      zero_case (no e) = rw (ne_eqb (get_or s at 0) 0 e)

  -- the same with the byte as the code has it
  module _ (b : ℕ) (e : b ≡ get_or s at 0) (left : ℕ) (p : 0 < left) (h : at < length s) where
    pub more' : 128 ≤ b → groups left start w sum s at ≡ groups (left - 1) start (w * 128) (sum + (b - 128) * w) s (at + 1)
    more' g = rw e (more left p h (rw e at g))

    pub padded' : left < 9 → b ≡ 0 → groups left start w sum s at ≡ refused malformed start
    padded' q z = padded left p q h (sym e ∙ z)

    pub ends' : b < 128 → (b ≡ 0 → 9 ≤ left) → groups left start w sum s at ≡ took (sum + b * w) (at + 1)
    ends' g z = rw e (ends left p h (rw e at g) (λ n. z (e ∙ n)))

-- the weight of a group, with what the groups after it can weigh
pub lighter : (left w : ℕ) → 0 < left → w * 128 ^ left ≡ 2 ^ 63 → (w * 128) * 128 ^ (left - 1) ≡ 2 ^ 63
lighter zero w p e = absurd (omega arith)
lighter (suc l) w p e = rw (sub-one, mul_assoc, ← pow-succ' 128 l) e

pub light : (left w : ℕ) → w * 128 ^ left ≡ 2 ^ 63 → w ≤ 2 ^ 63
light left w e = omega (arith, le-mul_of_pos_right w (one-le-pow left 128 (omega arith)))

-- a group of seven bits, and the groups before it, stay below the next weight
pub group_fits : {b : ℕ} (w : ℕ) {sum : ℕ} → b < 128 → sum < w → sum + b * w < w * 128
group_fits {b} w h g = omega (arith, mul-le-mul_right w (b_le h))
  where
    b_le : {b : ℕ} → b < 128 → b ≤ 127
    b_le h = omega arith

-- a number whose last group is 0 and not the tenth is not in the shortest form
pub padded_number : (image : List ℕ) (start left w sum at b : ℕ) → number image start ≡ groups left start w sum image at → 0 < left → at < length image → b ≡ get_or image at 0 → left < 9 → b ≡ 0 → refused malformed start ≡ number image start
padded_number image start left w sum at b n p h e q z = sym (n ∙ padded' start w sum image at b e left p h q z)

-- ---- a number is refused at its first byte

-- something taken, or a refusal at `start`
data Here (start : ℕ) : Got ℕ → Type 0 where
  taken : {v next : ℕ} → Here start (took v next)
  refusing : {why : Refusal} → Here start (refused why start)

either : {start : ℕ} (b : Bool) {g h : Got ℕ} → Here start g → Here start h → Here start (pick b g h)
either true x y = x
either false x y = y

groups_here : (left start w sum : ℕ) (s : List ℕ) (at : ℕ) → Here start (groups left start w sum s at)
unfolding groups
groups_here zero start w sum s at = either (leb (length s) at) refusing (either (eqb (get_or s at 0) 1) taken refusing)
groups_here (suc left) start w sum s at =
    either (leb (length s) at) refusing
    (either (ltb (get_or s at 0) 128) (either (eqb (get_or s at 0) 0) (either (ltb left 8) refusing taken) taken)
    (groups_here left start (w * 128) (sum + (get_or s at 0 - 128) * w) s (at + 1)))

pub number_refused_here : (s : List ℕ) (at : ℕ) {why : Refusal} {place : ℕ} → number s at ≡ refused why place → place ≡ at
unfolding number
number_refused_here s at {why} {place} h = by_got (number s at) (groups_here 9 at 1 0 s at) h
  where
    by_got : (g : Got ℕ) → Here at g → g ≡ refused why place → place ≡ at
    by_got g taken e = absurd (let z : ◌≡◌ {A = ℕ} 0 1 = cc in omega arith)
    by_got g refusing e = cc
