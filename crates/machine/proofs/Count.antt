-- A run answers what its steps mean.
use Prim.Native.Nat.{ℕ, zero, suc, ◌+◌}
use native.Mathlib.Nat.{add-zero, zero-add}
use native.Mathlib.Omega.{arith}
use mathlib.Core.Path.{◌≡◌, refl, subst}
use Rattle.value.specs.Answer.{Answer, ok, refused}
use Rattle.image.specs.Program.{Program}
use Rattle.machine.specs.Machine.{Memories, Machine, Stepped, went, ended, step, after, run_from}
use Rattle.machine.specs.Count.{Took, none-taken, one-taken, Means, pauses, returns, refuses}

module _ {M : Type 0} (mem : Memories M) (P : Program) where
  -- one more step at the end
  more : {n : ℕ} {s s' s'' : Machine M} → Took mem P n s s' → step mem P s' ≡ ok (went s'') → Took mem P (suc n) s s''
  more none-taken e = one-taken e none-taken
  more (one-taken d t) e = one-taken d (more t e)

  runs_on : (left done : ℕ) {s s' : Machine M} → Took mem P done s s' → Means mem P (done + left) s (run_from mem P left done s')
  unfolding run_from after
  runs_on zero done {s} {s'} t = rw add-zero (pauses t)
  runs_on (suc left) done {s} {s'} t = go (step mem P s') refl (λ s'' t'. runs_on left (done + 1) t')
    where
      go : (a : Answer (Stepped M)) → step mem P s' ≡ a
          → ((s'' : Machine M) → Took mem P (done + 1) s s'' → Means mem P (done + 1 + left) s (run_from mem P left (done + 1) s''))
          → Means mem P (done + suc left) s (after mem s' done a (λ x. run_from mem P left (done + 1) x))
      go (ok (went s'')) e k =
          subst (λ (b : ℕ). Means mem P b s (run_from mem P left (done + 1) s'')) (omega arith)
          (k s'' (subst (λ (n : ℕ). Took mem P n s s'') (omega arith) (more t e)))
      go (ok (ended v s'')) e k = returns {n = done} (omega arith) t e
      go (refused n) e k = refuses {n = done} (omega arith) t e

  pub run_means : (budget : ℕ) (s : Machine M) → Means mem P budget s (run_from mem P budget 0 s)
  run_means budget s = subst (λ (b : ℕ). Means mem P b s (run_from mem P budget 0 s)) (zero-add budget) (runs_on budget 0 none-taken)
