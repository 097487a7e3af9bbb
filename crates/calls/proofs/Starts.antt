-- A start's variables: one turn of the loop that sets parameters, and the first value where it is the return pointer's.
use Prim.Native.Nat.{ℕ, zero, suc, ◌+◌, ◌-◌, ◌<◌, ◌≤◌}
use native.Mathlib.Numerals.{add-one}
use native.Mathlib.Omega.{arith}
use mathlib.Core.Path.{◌≡◌, refl, ap, ◌∙◌}
use mathlib.Core.List.{List, [], ◌∷◌}
use lib.ListN.{length, get_or, drop, drop_of_length-le}
use lib.Seq.{drop-cons}
use Rattle.instruction.specs.Decode.{field_at}
use Rattle.instruction.specs.Variables.{found, set_variable}
use Rattle.calls.specs.Begin.{values_set, flagged_set}
use Rattle.calls.specs.declared.fields.Callee.{Callee}
use Rattle.calls.proofs.Laws.{one_fewer, none_left}

-- ---- a start's values

module _ (s : List ℕ) where
  pub value_set : (n j at k : ℕ) (ts bs vars : List ℕ) → j < n → k < length ts → k < length bs
      → values_set s (n - (j + 1)) (field_at s at).next (drop (k + 1) ts) (drop (k + 1) bs) (set_variable vars (field_at s at).value (found (get_or ts k 0) (get_or bs k 0)))
      ≡ values_set s (n - j) at (drop k ts) (drop k bs) vars
  unfolding values_set
  value_set n j at k ts bs vars p h i = rw (one_fewer n j p, drop-cons ts k 0 h, drop-cons bs k 0 i, add-one k)

  pub values_done : (n j at : ℕ) (ts bs vars : List ℕ) → n ≤ j → values_set s (n - j) at ts bs vars ≡ vars
  unfolding values_set
  values_done n j at ts bs vars h = rw (none_left n j h)

  no_tags : (n at : ℕ) (bs vars : List ℕ) → values_set s n at [] bs vars ≡ vars
  unfolding values_set
  no_tags zero at bs vars = refl
  no_tags (suc n) at bs vars = refl

  no_bits : (n at : ℕ) (ts vars : List ℕ) → values_set s n at ts [] vars ≡ vars
  unfolding values_set
  no_bits zero at ts vars = refl
  no_bits (suc n) at [] vars = refl
  no_bits (suc n) at (t ∷ ts) vars = refl

  pub values_tags : (n at k : ℕ) (ts bs vars : List ℕ) → length ts ≤ k → values_set s n at (drop k ts) bs vars ≡ vars
  values_tags n at k ts bs vars h = rw (drop_of_length-le ts h) (no_tags n at bs vars)

  pub values_bits : (n at k : ℕ) (ts bs vars : List ℕ) → length bs ≤ k → values_set s n at ts (drop k bs) vars ≡ vars
  values_bits n at k ts bs vars h = rw (drop_of_length-le bs h) (no_bits n at ts vars)

-- ---- a start's variables

module _ (s : List ℕ) (f : Callee) (vars : List ℕ) where
  pub no_first_tag : (ts bs : List ℕ) → length ts ≡ 0 → vars ≡ flagged_set s f ts bs vars
  unfolding flagged_set
  no_first_tag [] bs e = refl
  no_first_tag (t ∷ ts) bs e = absurd (omega arith)

  pub no_first_bits : (ts bs : List ℕ) → length bs ≡ 0 → vars ≡ flagged_set s f ts bs vars
  unfolding flagged_set
  no_first_bits [] bs e = refl
  no_first_bits (t ∷ ts) [] e = refl
  no_first_bits (t ∷ ts) (b ∷ bs) e = absurd (omega arith)

  pub first_value : (ts bs set_first left : List ℕ) → (length ts ≡ 0 → ⊥) → (length bs ≡ 0 → ⊥) → set_first ≡ set_variable vars f.result (found (get_or ts 0 0) (get_or bs 0 0))
      → left ≡ values_set s f.wanted f.parameters (drop 1 ts) (drop 1 bs) set_first → left ≡ flagged_set s f ts bs vars
  unfolding flagged_set
  first_value [] bs set_first left h i e d = absurd (h refl)
  first_value (t ∷ ts) [] set_first left h i e d = absurd (i refl)
  first_value (t ∷ ts) (b ∷ bs) set_first left h i e d = d ∙ ap (values_set s f.wanted f.parameters ts bs) e
