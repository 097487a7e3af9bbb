-- Live allocations never share a byte of the store.
use Prim.Native.Nat.{ℕ, zero, suc, ◌+◌, ◌≤◌, ◌<◌}
use native.Mathlib.Nat.{le_of_suc-le-suc, not-suc-le-zero}
use native.Mathlib.Decide.{dec_lt}
use native.Mathlib.Omega.{arith}
use mathlib.Core.Logic.{◌≢◌, ◌⊎◌, inl, inr}
use mathlib.Core.Path.{◌≡◌, subst}
use mathlib.Core.List.{List, [], ◌∷◌}
use lib.ListN.{length, get_or}
use Rattle.memory.specs.Memory.{Frame, frame_at, bytes_at}
use Rattle.memory.specs.Flat.{start_of, all_of, first_of}
use Rattle.memory.proofs.Flat.{all-at}

-- where allocation j of frame i begins, all of them end to end
abbrev pub start_at : List Frame → (index allocation : ℕ) → ℕ
start_at fs i j = start_of (all_of fs) (first_of fs i + j)

pub record Lives (fs : List Frame) (i j : ℕ) : Type 0 where
  pub frame : i < length fs
  pub allocation : j < length (frame_at fs i).allocations

-- one ends before the other begins
abbrev pub Ahead : List Frame → (i j i' j' : ℕ) → Type 0
Ahead fs i j i' j' = start_at fs i j + length (bytes_at fs i j) ≤ start_at fs i' j'

in_order : (ls : List (List ℕ)) (k k' : ℕ) → k < k' → k < length ls → start_of ls k + length (get_or ls k []) ≤ start_of ls k'
unfolding start_of
in_order [] k k' l h = absurd (not-suc-le-zero h)
in_order (x ∷ ls) zero zero l h = absurd (not-suc-le-zero l)
in_order (x ∷ ls) zero (suc k') l h = omega arith
in_order (x ∷ ls) (suc k) zero l h = absurd (not-suc-le-zero l)
in_order (x ∷ ls) (suc k) (suc k') l h = omega (arith, in_order ls k k' (le_of_suc-le-suc l) (le_of_suc-le-suc h))

-- an allocation of a lower frame ranks lower
rank_lower : (fs : List Frame) (i j i' j' : ℕ) → Lives fs i j → i < i' → first_of fs i + j < first_of fs i' + j'
unfolding first_of
rank_lower [] i j i' j' v l = absurd (not-suc-le-zero v.frame)
rank_lower (f ∷ fs) zero j zero j' v l = absurd (not-suc-le-zero l)
rank_lower (f ∷ fs) zero j (suc i') j' v l = omega (arith, v.allocation)
rank_lower (f ∷ fs) (suc i) j zero j' v l = absurd (not-suc-le-zero l)
rank_lower (f ∷ fs) (suc i) j (suc i') j' v l =
    omega (arith, rank_lower fs i j i' j' (record { frame = le_of_suc-le-suc v.frame; allocation = v.allocation }) (le_of_suc-le-suc l))

before : (fs : List Frame) (i j i' j' : ℕ) → Lives fs i j → first_of fs i + j < first_of fs i' + j' → Ahead fs i j i' j'
before fs i j i' j' v l =
    let r = all-at fs i j v.frame v.allocation in
    subst (λ (b : List ℕ). start_of (all_of fs) (first_of fs i + j) + length b ≤ start_of (all_of fs) (first_of fs i' + j')) r.1 (in_order (all_of fs) (first_of fs i + j) (first_of fs i' + j') l r.0)

-- Two live allocations that are not the same lie apart.
pub apart : (fs : List Frame) (i j i' j' : ℕ) → Lives fs i j → Lives fs i' j' → (i ≢ i') ⊎ (j ≢ j') → Ahead fs i j i' j' ⊎ Ahead fs i' j' i j
apart fs i j i' j' v v' d =
    elim (dec_lt i i') [
      | yes l ↦ inl (before fs i j i' j' v (rank_lower fs i j i' j' v l))
      | no n ↦ elim (dec_lt i' i) [
        | yes l ↦ inr (before fs i' j' i j v' (rank_lower fs i' j' i j v' l))
        | no n' ↦ same-frame (omega arith)
      ]
    ]
  where
    other : i ≡ i' → j ≢ j'
    other e = elim d [ inl a ↦ absurd (a e) | inr b ↦ b ]

    same-frame : i ≡ i' → Ahead fs i j i' j' ⊎ Ahead fs i' j' i j
    same-frame e = elim (dec_lt j j') [
      | yes l ↦ inl (before fs i j i' j' v (rw (← e) (omega arith)))
      | no n ↦ inr (before fs i' j' i j v' (rw e (omega (arith, other e))))
    ]
