-- A table's rule: a test that is computed at every entry holds at each.
use Prim.Native.Nat.{ℕ, zero, suc, ◌+◌, ◌<◌}
use native.Mathlib.Nat.{add-zero, zero-add}
use native.Mathlib.Omega.{arith}
use mathlib.Core.Bool.{Bool, true, ◌&&◌}
use mathlib.Core.Path.{◌≡◌, sym, ap, ◌∙◌}
use mathlib.Core.List.{List, [], ◌∷◌}
use lib.ListN.{length, get_or}
use Rattle.value.proofs.Truth.{both_true}

-- the test passes at each entry and its place, counted from i
abbrev pub every : {A : Type 0} → (ℕ → A → Bool) → ℕ → List A → Bool
every f i [] = true
every f i (x ∷ xs) = f i x && every f (suc i) xs

from : {A : Type 0} (f : ℕ → A → Bool) (d : A) (xs : List A) (i : ℕ) → every f i xs ≡ true → (k : ℕ) → k < length xs → f (i + k) (get_or xs k d) ≡ true
from f d [] i t k h = absurd (omega arith)
from f d (x ∷ xs) i t zero h = ap (λ (m : ℕ). f m x) (add-zero i) ∙ (both_true (f i x) (every f (suc i) xs) t).0
from f d (x ∷ xs) i t (suc k) h =
    let e : i + suc k ≡ suc i + k = omega arith in
    ap (λ (m : ℕ). f m (get_or xs k d)) e ∙ from f d xs (suc i) (both_true (f i x) (every f (suc i) xs) t).1 k (omega arith)

pub entry : {A : Type 0} (f : ℕ → A → Bool) (d : A) (xs : List A) → every f 0 xs ≡ true → (k : ℕ) → k < length xs → f k (get_or xs k d) ≡ true
entry f d xs t k h = ap (λ (m : ℕ). f m (get_or xs k d)) (sym (zero-add k)) ∙ from f d xs 0 t k h
