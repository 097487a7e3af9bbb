-- Pointers to a constant, one by one: those that are left make up all of them.
use Prim.Native.Nat.{ℕ, suc, ◌+◌, ◌-◌, ◌≤◌, ◌<◌}
use native.Mathlib.Omega.{arith}
use mathlib.Core.Path.{◌≡◌, ap, ◌∙◌}
use mathlib.Core.List.{List}
use Rattle.memory.specs.Tables.{pointer}
use Rattle.by_hand.specs.Changes.{pointer_put, constants_put}

module _ (to p k : ℕ) (ps : List ℕ) where
  pub one_more_lem : {a whole : List ℕ} → p < to → a ≡ pointer_put ps p (pointer 1 k 0 0 0) → constants_put (to - p) ps p k ≡ whole → constants_put (to - (p + 1)) a (p + 1) k ≡ whole
  unfolding constants_put
  one_more_lem h e w =
      let n : suc (to - (p + 1)) ≡ to - p = omega arith in
      ap (λ (l : List ℕ). constants_put (to - (p + 1)) l (p + 1) k) e ∙ ap (λ (n : ℕ). constants_put n ps p k) n ∙ w

  pub no_more : {whole : List ℕ} → to ≤ p → constants_put (to - p) ps p k ≡ whole → ps ≡ whole
  unfolding constants_put
  no_more h w =
      let n : 0 ≡ to - p = omega arith in
      ap (λ (n : ℕ). constants_put n ps p k) n ∙ w
