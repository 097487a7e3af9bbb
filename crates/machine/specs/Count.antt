-- "the count is the number of definition steps taken"
use Rattle.std.specs.Prelude.{ℕ, suc, ◌+◌, ◌<◌, ◌≡◌}
use Rattle.std.proofs.Math.Option.{Option}
use Rattle.value.specs.declared.refusal.Refusal.{Refusal}
use Rattle.value.specs.Answer.{ok, refused}
use Rattle.value.specs.Value.{Value}
use Rattle.image.specs.Program.{Program}
use Rattle.machine.specs.Machine.{Memories, Machine, went, ended, returned, paused, stopped, Ran, step}

module _ {M : Type 0} (mem : Memories M) (P : Program) where
  -- n steps lead from one machine to the other, and each goes on
  pub data Took : ℕ → Machine M → Machine M → Type 0 where
    none-taken : {s : Machine M} → Took 0 s s
    one-taken : {n : ℕ} {s s' s'' : Machine M} → step mem P s ≡ ok (went s') → Took n s' s'' → Took (suc n) s s''

  -- What a run's answer means: so many steps, and then why it ended.
  pub data Means (budget : ℕ) (s : Machine M) : Ran M → Type 0 where
    pauses : {s' : Machine M} → Took budget s s' → Means budget s (record { outcome = paused; count = budget; machine = s' })
    returns : {n : ℕ} {s' s'' : Machine M} {v : Option Value} → n < budget → Took n s s' → step mem P s' ≡ ok (ended v s'')
        → Means budget s (record { outcome = returned v; count = n + 1; machine = s'' })
    refuses : {n : ℕ} {k : Refusal} {s' : Machine M} → n < budget → Took n s s' → step mem P s' ≡ refused k
        → Means budget s (record { outcome = stopped k; count = n; machine = s' })
