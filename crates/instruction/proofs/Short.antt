-- A number of one byte is that byte; branches of two such numbers are gone through two bytes at a time.
use Prim.Native.Nat.{ℕ, zero, suc, ◌+◌, ◌-◌, ◌*◌, ◌/◌, ◌%◌, ◌≤◌, ◌<◌}
use native.Mathlib.Omega.{arith}
use mathlib.Core.Bool.{Bool, true, false}
use mathlib.Core.List.{List}
use mathlib.Core.Path.{◌≡◌, refl, sym, ap, ◌∙◌}
use lib.ListN.{length, get_or}
use lib.Dec.{eqb}
use borrow.Author.Tests.{lt-leb, lt-ltb, ne_eqb}
use Rattle.value.specs.Answer.{pick}
use Rattle.image.specs.Parse.{took}
use Rattle.image.specs.Number.{number, groups}
use Rattle.instruction.specs.Decode.{field, field_at}
use Rattle.instruction.specs.Code.{branch_of}
use Rattle.instruction.specs.Short.{Pairs, First}
use Rattle.instruction.proofs.Laws.{branch-hit, branch_on, branch-none}

either : {A : Type 0} (b : Bool) (x : A) → pick b x x ≡ x
either true x = refl
either false x = refl

pub one_byte : (s : List ℕ) (at : ℕ) → at < length s → get_or s at 0 < 128 → number s at ≡ took (get_or s at 0) (at + 1)
unfolding number groups
one_byte s at h k =
    let e : 0 + get_or s at 0 * 1 ≡ get_or s at 0 = omega arith in
    rw (lt-leb _ _ h, lt-ltb _ _ k) (either (eqb (get_or s at 0) 0) (took (0 + get_or s at 0 * 1) (at + 1)) ∙ ap (λ (n : ℕ). took n (at + 1)) e)

pub field_of_byte : (s : List ℕ) (at byte : ℕ) → (at ≡ 0 → ⊥) → at < length s → byte ≡ get_or s at 0 → byte < 128 → field byte (at + 1) ≡ field_at s at
unfolding field_at
field_of_byte s at byte z h e k = rw (ne_eqb _ _ z, one_byte s at h (omega arith), e) refl

-- ---- branches whose numbers and labels have one byte each

pub many_pairs : (s : List ℕ) (start count greatest : ℕ) → (start ≡ 0 → ⊥) → start ≤ length s → count ≤ (length s - start) / 2 → greatest ≤ 127
    → ((i : ℕ) → start ≤ i → i < start + count * 2 → get_or s i 0 ≤ greatest) → Pairs s start count
many_pairs s start count greatest z h k g l = record { some = z; room = omega arith; low = λ i a b. omega (arith, l i a b) }

module _ (s : List ℕ) (start count bits at left byte : ℕ) (p : Pairs s start count) (q : start ≤ at) (e : at + left * 2 ≡ start + count * 2) (h : 0 < left) (is : byte ≡ get_or s at 0) where
  number_read : field byte (at + 1) ≡ field_at s at
  number_read =
      let some : at ≡ 0 → ⊥ = λ z. p.some (omega arith) in
      let low : byte < 128 = omega (arith, p.low at q (omega arith)) in
      let within : at < length s = omega (arith, p.room) in
      field_of_byte s at byte some within is low

  pub pair_hit : byte ≡ bits → field_at s (at + 1) ≡ branch_of s left bits at
  pair_hit d = sym (branch-hit s bits at (field byte (at + 1)) (field_at s (at + 1)) number_read refl left h d)

  label-read : field (get_or s (at + 1) 0) (at + 1 + 1) ≡ field_at s (at + 1)
  label-read =
      let some : at + 1 ≡ 0 → ⊥ = λ z. omega arith in
      let low : get_or s (at + 1) 0 < 128 = p.low (at + 1) (omega arith) (omega arith) in
      let within : at + 1 < length s = omega (arith, p.room) in
      field_of_byte s (at + 1) (get_or s (at + 1) 0) some within refl low

  pub pair_on : (byte ≡ bits → ⊥) → branch_of s (left - 1) bits (at + 2) ≡ branch_of s left bits at
  pair_on d =
      let two : at + 2 ≡ at + 1 + 1 = omega arith in
      rw two (sym (branch_on s bits at (field byte (at + 1)) (field (get_or s (at + 1) 0) (at + 1 + 1)) number_read label-read left h d))

module _ (s : List ℕ) (start count bits : ℕ) (p : Pairs s start count) where
  -- pairs without the number are passed over
  passed : (j : ℕ) → j ≤ count → ((i : ℕ) → i < j → get_or s (start + i * 2) 0 ≡ bits → ⊥) → branch_of s (count - j) bits (start + j * 2) ≡ branch_of s count bits start
  passed zero h none =
      let a : count - 0 ≡ count = omega arith in
      let b : start + 0 * 2 ≡ start = omega arith in
      rw (a, b)
  passed (suc j) h none =
      let a : count - suc j ≡ count - j - 1 = omega arith in
      let b : start + suc j * 2 ≡ start + j * 2 + 2 = omega arith in
      rw (a, b)
      (pair_on s start count bits (start + j * 2) (count - j) (get_or s (start + j * 2) 0) p (omega arith) (omega arith) (omega arith) refl (none j (omega arith))
      ∙ passed j (omega arith) (λ i l. none i (omega arith)))

  module _ (first : ℕ) (f : First s start (count * 2) bits first) where
    misses : (i : ℕ) → i * 2 < count * 2 → i * 2 < first → get_or s (start + i * 2) 0 ≡ bits → ⊥
    misses i h l e =
        let even : i * 2 % 2 ≡ 0 = omega arith in
        omega (arith, f.least (i * 2) h even e)

    -- the first place with the number has its label after it
    pub first_hit : (first ≡ 255 → ⊥) → field_at s (start + first + 1) ≡ branch_of s count bits start
    first_hit n =
        let j = first / 2 in
        let w = f.within n in
        let e = f.even n in
        let two : first ≡ j * 2 = omega arith in
        let at : start + first ≡ start + j * 2 = omega arith in
        let hit : get_or s (start + j * 2) 0 ≡ bits = ap (λ (k : ℕ). get_or s k 0) (sym at) ∙ f.hit n in
        ap (λ (k : ℕ). field_at s (k + 1)) at
        ∙ pair_hit s start count bits (start + j * 2) (count - j) (get_or s (start + j * 2) 0) p (omega arith) (omega arith) (omega arith) refl hit
        ∙ passed j (omega arith) (λ i l. misses i (omega arith) (omega arith))

    -- where there is none, the default stands after the pairs
    pub first_missing : first ≡ 255 → count ≤ 64 → field_at s (start + count * 2) ≡ branch_of s count bits start
    first_missing n c =
        sym (branch-none s bits (start + count * 2) (count - count) (omega arith))
        ∙ passed count (omega arith) (λ i l. misses i (omega arith) (omega arith))

pub ruleset pairs = (many_pairs, first_hit, first_missing)
