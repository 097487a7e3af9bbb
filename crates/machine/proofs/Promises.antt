-- What is promised of every entry: by cases of the ask, and of the instruction where only a Return at root ends a run.
use Prim.Native.Nat.{ℕ}
use mathlib.Core.Bool.{Bool, true, false}
use mathlib.Core.Path.{◌≡◌, refl, subst}
use mathlib.Core.List.{List}
use mathlib.Core.Option.{Option, none, some}
use Rattle.std.proofs.lemmas.Bool.{false≢true}
use Rattle.value.specs.declared.refusal.Refusal.{Refusal}
use Rattle.value.specs.Refusal.{not_sound}
use Rattle.value.specs.Answer.{Answer, ok, refused, pick}
use Rattle.value.specs.Value.{Value}
use Rattle.image.specs.Program.{Program, Operand, Instruction, Jump, Switch, Assign, ConstantAddress, Call, Return, IntCmp', FloatCmp', Add, Sub, Mul, Div, Mod, FDiv, Not, Negate, Offset, Initialize, Write, Read, Copy, Drop}
use Rattle.memory.specs.Memory.{Memory, Back}
use Rattle.memory.specs.Live.{Live}
use Rattle.machine.specs.Machine.{Machine, Stepped, went, ended, Ran, sets₁, sets₂, leave, execute, step}
use Rattle.machine.specs.Believed.{believed}
use Rattle.machine.specs.Sound.{sound}
use Rattle.machine.specs.Asks.{Ask, to_allocate, to_write, to_read, to_start, to_step, to_run, to_list, Reply, refusal, turn, changes, shows, steps, goes, lays, ask}
use Rattle.machine.specs.Entries.{enter}
use Rattle.machine.specs.Promises.{RefusedChangesNothing, UnsoundRefused, KeepsSound, CountIsSteps, ReturnedStays}
use Rattle.machine.proofs.Values.{Keeps, kept, keeps-need, keeps-after}
use Rattle.machine.proofs.Sound.{enter-sound}
use Rattle.machine.proofs.Count.{run_means}

pub keeps-sound : KeepsSound
keeps-sound a s t u = (enter-sound a s t u).0

pub unsound_refused : UnsoundRefused
unfolding enter
unsound_refused a s e = rw e refl

pub count_is_steps : CountIsSteps
count_is_steps P budget s = run_means believed P budget s

-- ---- a refusal changes nothing

module _ (s : Machine Memory) (k : Refusal) where
  changes-nothing : (r : Reply) → (r ≡ refusal k → ⊥) → (a : Answer (Machine Memory)) → (changes s r a).reply ≡ refusal k → (changes s r a).machine ≡ s
  unfolding changes
  changes-nothing r f (ok s') e = absurd (f e)
  changes-nothing r f (refused n) e = refl

  shows_nothing : (a : Answer (List ℕ)) → (shows s a).machine ≡ s
  unfolding shows
  shows_nothing (ok bs) = refl
  shows_nothing (refused n) = refl

  steps-nothing : (a : Answer (Stepped Memory)) → (steps s a).reply ≡ refusal k → (steps s a).machine ≡ s
  unfolding steps
  steps-nothing (ok (went s')) e = absurd (false≢true cc)
  steps-nothing (ok (ended v s')) e = absurd (false≢true cc)
  steps-nothing (refused n) e = refl

  goes-nothing : (a : Answer (Ran Memory)) → (goes s a).reply ≡ refusal k → (goes s a).machine ≡ s
  unfolding goes
  goes-nothing (ok r) e = absurd (false≢true cc)
  goes-nothing (refused n) e = refl

  lays-nothing : (a : Answer (List Live)) → (lays s a).machine ≡ s
  unfolding lays
  lays-nothing (ok ls) = refl
  lays-nothing (refused n) = refl

  asks_nothing : (a : Ask) → (ask believed a s).reply ≡ refusal k → (ask believed a s).machine ≡ s
  unfolding ask
  asks_nothing (to_allocate n) e = changes-nothing _ (λ d. absurd (false≢true cc)) _ e
  asks_nothing (to_write p bs) e = changes-nothing _ (λ d. absurd (false≢true cc)) _ e
  asks_nothing (to_read P p n) e = shows_nothing _
  asks_nothing (to_start P f context gs) e = changes-nothing _ (λ d. absurd (false≢true cc)) _ e
  asks_nothing (to_step P) e = steps-nothing _ e
  asks_nothing (to_run P budget) e = goes-nothing _ e
  asks_nothing (to_list room) e = lays-nothing _

pub refused_changes_nothing : RefusedChangesNothing
unfolding enter
refused_changes_nothing a s k e = go (sound s) e
  where
    go : (b : Bool) → (pick b (ask believed a s) (turn (refusal not_sound) s)).reply ≡ refusal k → (pick b (ask believed a s) (turn (refusal not_sound) s)).machine ≡ s
    go true d = asks_nothing s k a d
    go false d = refl

-- ---- only a Return at root ends a run, and it leaves all as it was

module _ (P : Program) (s : Machine Memory) where
  data Stays : Stepped Memory → Type 0 where
    goes_on : {s' : Machine Memory} → Stays (went s')
    stays : {v : Option Value} → Stays (ended v (record { memory = s.memory; running = false; place = s.place; vars = s.vars }))

  leave-stays : (v : Option Value) (a : Option (Back × Memory)) → Keeps Stays (leave believed s v a)
  unfolding leave
  leave-stays v none = kept stays
  leave-stays v (some r) = keeps-after Stays _ (λ vs. kept goes_on)

  sets₁-stays : (to : ℕ) (f : Value → Answer Value) (x : Operand) → Keeps Stays (sets₁ believed s to f x)
  sets₁-stays to f x = keeps-after Stays _ (λ a. keeps-after Stays _ (λ v. kept goes_on))

  sets₂-stays : (to : ℕ) (f : Value → Value → Answer Value) (x y : Operand) → Keeps Stays (sets₂ believed s to f x y)
  sets₂-stays to f x y = keeps-after Stays _ (λ a. keeps-after Stays _ (λ b. keeps-after Stays _ (λ v. kept goes_on)))

  execute-stays : (x : Instruction) → Keeps Stays (execute believed P s x)
  unfolding execute
  execute-stays (Jump label) = kept goes_on
  execute-stays (Switch x branches default) = keeps-after Stays _ (λ v. keeps-after Stays _ (λ n. kept goes_on))
  execute-stays (Assign to x type) = keeps-after Stays _ (λ v. kept goes_on)
  execute-stays (ConstantAddress to k) = keeps-after Stays _ (λ m. kept goes_on)
  execute-stays (Call to context f arguments return_pointer) =
      keeps-after Stays _ (λ m. keeps-after Stays _ (λ x. keeps-after Stays _ (λ vs₂. keeps-after Stays _ (λ vs₃. keeps-after Stays _ (λ vs₄. kept goes_on)))))
  execute-stays (Return x) = keeps-after Stays _ (λ v. leave-stays v _)
  execute-stays (IntCmp' to cmp x y) = sets₂-stays to _ x y
  execute-stays (FloatCmp' to cmp x y) = sets₂-stays to _ x y
  execute-stays (Add to x y) = sets₂-stays to _ x y
  execute-stays (Sub to x y) = sets₂-stays to _ x y
  execute-stays (Mul to x y) = sets₂-stays to _ x y
  execute-stays (Div to signed x y) = sets₂-stays to _ x y
  execute-stays (Mod to signed x y) = sets₂-stays to _ x y
  execute-stays (FDiv to x y) = sets₂-stays to _ x y
  execute-stays (Not to x) = sets₁-stays to _ x
  execute-stays (Negate to x) = sets₁-stays to _ x
  execute-stays (Offset to x d) = keeps-after Stays _ (λ p. keeps-after Stays _ (λ m. kept goes_on))
  execute-stays (Initialize to n bytes) = keeps-need Stays _ _ (λ t. keeps-after Stays _ (λ m. keeps-after Stays _ (λ m'. kept goes_on)))
  execute-stays (Write x y) = keeps-after Stays _ (λ p. keeps-after Stays _ (λ v. keeps-after Stays _ (λ m. kept goes_on)))
  execute-stays (Read to x type) = keeps-after Stays _ (λ p. keeps-after Stays _ (λ bytes. keeps-after Stays _ (λ v. kept goes_on)))
  execute-stays (Copy x y n) = keeps-after Stays _ (λ to. keeps-after Stays _ (λ from. keeps-after Stays _ (λ bytes. keeps-after Stays _ (λ m. kept goes_on))))
  execute-stays (Drop x) = kept goes_on

  step_stays : Keeps Stays (step believed P s)
  unfolding step
  step_stays = keeps-after Stays _ (λ x. execute-stays x)

  of-ended : {v : Option Value} {s' : Machine Memory} → Keeps Stays (ok (ended v s')) → s' ≡ record { memory = s.memory; running = false; place = s.place; vars = s.vars }
  of-ended (kept stays) = refl

pub returned-stays : ReturnedStays
returned-stays P s s' v e = of-ended P s (subst (Keeps (Stays P s)) e (step_stays P s))
