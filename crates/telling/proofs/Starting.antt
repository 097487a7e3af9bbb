-- A start's values are the context and the arguments.
use Rattle.std.proofs.Common.{◌≡◌, ℕ, ◌-◌, min, List, length, get_or, take, drop, sym, ap, ◌∙◌, ap₂, arith}
use native.Mathlib.Nat.{min-eq_left, min-eq_right}
use native.Mathlib.Decide.{dec_le}
use Rattle.memory.specs.Tables.{State}
use Rattle.instruction.specs.Variables.{found}
use Rattle.eval.specs.Entry.{Entering}
use Rattle.eval.specs.Start.{start_entered}
use Rattle.telling.specs.Starts.{value_count, arguments_of, begun_of}

-- the first value is left out
module _ (end : ℕ) (l : List ℕ) where
  pub first_out : (from : ℕ) → from ≡ min 1 end → take (end - from) (drop from l) ≡ arguments_of end l
  first_out from e =
      elim (dec_le 1 end) [
        | yes h ↦ let q : from ≡ 1 = e ∙ min-eq_left h in ap (λ (k : ℕ). take (end - k) (drop k l)) q
        | no h ↦
            let z : end ≡ 0 = omega arith in
            let q : from ≡ 0 = e ∙ ap (min 1) z ∙ min-eq_right {n = 0} {m = 1} (omega arith) in
            ap₂ (λ (n k : ℕ). take (n - k) (drop k l)) z q ∙ ap (λ (n : ℕ). take (n - 1) (drop 1 l)) (sym z)
      ]

module _ (s : List ℕ) (function count : ℕ) (ts bs : List ℕ) (t : State) {tag bits both end from : ℕ} {r : Entering} where
  pub begins : tag ≡ get_or ts 0 0 → bits ≡ get_or bs 0 0 → both ≡ min (length ts) (length bs) → end ≡ min count both → from ≡ min 1 end
      → r ≡ start_entered s function (found tag bits) (take (end - from) (drop from ts)) (take (end - from) (drop from bs)) t → r ≡ begun_of s function count ts bs t
  unfolding begun_of
  begins a b i k f h =
      let e : end ≡ value_count count ts bs = k ∙ ap (min count) i in
      h ∙ ap₂ (λ (x y : List ℕ). start_entered s function (found tag bits) x y t) (first_out end ts from f ∙ ap (λ (n : ℕ). arguments_of n ts) e)
      (first_out end bs from f ∙ ap (λ (n : ℕ). arguments_of n bs) e)
      ∙ ap₂ (λ (x y : ℕ). start_entered s function (found x y) (arguments_of (value_count count ts bs) ts) (arguments_of (value_count count ts bs) bs) t) a b
