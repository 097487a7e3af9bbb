-- Runs of stores: one run after another, and one made from the back.
use Prim.Native.Nat.{ℕ, suc, ◌+◌, ◌≤◌}
use native.Mathlib.Nat.{add-zero}
use native.Mathlib.Omega.{arith}
use mathlib.Core.Path.{◌≡◌, refl, sym, ap, ◌∙◌}
use mathlib.Core.List.{List, [], ◌∷◌, ◌++◌}
use lib.ListN.{length, set}
use lib.Seq.{sets, set_comm}

pub sets-append : (l : List ℕ) (i : ℕ) (xs ys : List ℕ) → sets l i (xs ++ ys) ≡ sets (sets l i xs) (i + length xs) ys
sets-append l i [] ys = rw add-zero
sets-append l i (x ∷ xs) ys =
    sets-append (set l i x) (suc i) xs ys ∙ ap (λ (k : ℕ). sets (sets (set l i x) (suc i) xs) k ys) (omega arith)

-- a store past a run may come first
pub set-sets : (l : List ℕ) (i : ℕ) (xs : List ℕ) (j y : ℕ) → i + length xs ≤ j → sets (set l j y) i xs ≡ set (sets l i xs) j y
set-sets l i [] j y h = refl
set-sets l i (x ∷ xs) j y h =
    ap (λ (m : List ℕ). sets m (suc i) xs) (set_comm l j i y x (omega arith)) ∙ set-sets (set l i x) (suc i) xs j y (omega arith)

-- the last store of a run may come first
pub sets_last : (l : List ℕ) (i : ℕ) (xs : List ℕ) (j y : ℕ) → j ≡ i + length xs → sets l i (xs ++ (y ∷ [])) ≡ sets (set l j y) i xs
sets_last l i xs j y e =
    sets-append l i xs (y ∷ []) ∙ ap (λ (k : ℕ). set (sets l i xs) k y) (sym e) ∙ sym (set-sets l i xs j y (omega arith))
