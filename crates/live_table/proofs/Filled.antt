-- A table with its first records written: its length, one record more, and each record.
use Prim.Native.Nat.{ℕ, zero, suc, ◌+◌, ◌<◌, ◌≤◌}
use native.Mathlib.Numerals.{add-one}
use native.Mathlib.Omega.{arith}
use mathlib.Core.Path.{◌≡◌, refl, sym, ap, ◌∙◌}
use mathlib.Core.List.{List}
use lib.ListN.{length, get_or, set, length-set}
use lib.Seq.{get_or-set_same, get_or-set_other}
use lib.Dec.{eqb}
use borrow.Author.Tests.{eqb-true, eqb-false}
use Rattle.memory.proofs.Every.{by_test}
use Rattle.live_table.specs.Table.{filled}
use Rattle.live_table.specs.declared.PointerRecord.{PointerRecord}

module _ (f : ℕ → PointerRecord) (l : List PointerRecord) where
  pub filled-length : (k : ℕ) → length (filled k f l) ≡ length l
  unfolding filled
  filled-length zero = refl
  filled-length (suc k) = length-set (filled k f l) k (f k) ∙ filled-length k

  pub filled_none : l ≡ filled 0 f l
  unfolding filled
  filled_none = refl

  pub filled_more : (k : ℕ) → set (filled k f l) k (f k) ≡ filled (k + 1) f l
  unfolding filled
  filled_more k = ap (λ (j : ℕ). filled j f l) (sym (add-one k))

  -- each record that was written, and the rest as it stood
  pub filled-below : (n k : ℕ) (d : PointerRecord) → k < n → n ≤ length l → get_or (filled n f l) k d ≡ f k
  unfolding filled
  filled-below zero k d h r = absurd (omega (arith, h))
  filled-below (suc n) k d h r =
      let long = filled-length n in
      by_test (eqb k n)
      (λ t. let e : k ≡ n = eqb-true k n t in
      ap (λ j. get_or (set (filled n f l) n (f n)) j d) e ∙ get_or-set_same (filled n f l) n (f n) d (omega (arith, long, r)) ∙ ap f (sym e))
      (λ t. let e = eqb-false k n t in
      get_or-set_other (filled n f l) n k (f n) d e ∙ filled-below n k d (omega (arith, h, e)) (omega (arith, r)))

  pub filled-above : (n k : ℕ) (d : PointerRecord) → n ≤ k → get_or (filled n f l) k d ≡ get_or l k d
  unfolding filled
  filled-above zero k d h = refl
  filled-above (suc n) k d h = get_or-set_other (filled n f l) n k (f n) d (λ e. omega (arith, h, e)) ∙ filled-above n k d (omega (arith, h))
