-- How an instruction that only sets a variable ends: its result goes to the variable, or its refusal is the answer, as in the believed machine.
use Rattle.std.specs.Prelude.{Result, Err}
use Prim.Native.Nat.{ℕ, ◌+◌, ◌<◌}
use native.Mathlib.Omega.{arith}
use mathlib.Core.Bool.{Bool}
use mathlib.Core.Path.{◌≡◌, refl}
use mathlib.Core.List.{List}
use borrow.Author.Tests.{eq-eqb}
use Rattle.value.specs.declared.refusal.Refusal.{Refusal}
use Rattle.value.specs.Answer.{Answer, ok, refused, ◌>>=◌}
use Rattle.value.specs.Value.{Value}
use Rattle.memory.specs.Memory.{Memory}
use Rattle.memory.specs.Tables.{Both, tables, State, state}
use Rattle.memory.specs.declared.Registers.{Registers}
use Rattle.machine.specs.Machine.{Vars, Stepped, went, sets}
use Rattle.machine.specs.Believed.{believed}
use Rattle.machine.proofs.Values.{Keeps, kept, no_answer, Good}
use Rattle.instruction.specs.Compute.{found_of}
use Rattle.instruction.specs.Code.{with_next, finished_of}
use Rattle.instruction.specs.declared.step.Progress.{Progress}
use Rattle.calls.proofs.CallAgrees.{moved-sound, moved-seen}
use Rattle.agree.specs.Seen.{seen, Agrees}
use Rattle.instruction.proofs.Values.{variable-set, variables-kept}
use Rattle.agree.proofs.Steady.{Steady, runs}

-- the same machine, part by part
pub went-same : {m m' : Memory} {r r' : Bool} {p p' : ℕ} {vs vs' : Vars} → m ≡ m' → r ≡ r' → p ≡ p' → vs ≡ vs'
    → ◌≡◌ {A = Answer (Stepped Memory)} (ok (went (record { memory = m; running = r; place = p; vars = vs }))) (ok (went (record { memory = m'; running = r'; place = p'; vars = vs' })))
went-same a b c d = λ i. ok (went (record { memory = a i; running = b i; place = c i; vars = d i }))

-- both refuse with the same number, and everything is as it stood
pub refusal : {s : State} {n : Refusal} {after : Registers → State} → after s.memory.registers ≡ s → Agrees s (Err n) after (refused n)
refusal e = record { same = refl; kept = e }

-- the registers that an instruction is given: those of the state, with the next place already
abbrev pub onward : State → Registers
onward s = with_next s.memory.registers (s.memory.registers.next + 1)

-- the state with its memory's tables as they were, and these variables and registers
abbrev pub with_variables : State → List ℕ → Registers → State
with_variables s vars m = state (tables m s.memory.store s.memory.frames s.memory.bounds s.memory.pointers) vars

-- an instruction that changes nothing but variables
abbrev pub VariablesAgree : State → Both (Result Progress Refusal) → Answer (Stepped Memory) → Type 0
VariablesAgree s b x = Agrees s b.answer (with_variables s b.table) x

module _ (s : State) (st : Steady s) (room : s.memory.registers.next < 4096) where
  pub finish_agrees : (to : ℕ) → to < 256 → (a : Answer Value) → Keeps Good a
      → VariablesAgree s (finished_of (onward s) s.variables to (found_of a)) (a >>= λ v. sets believed (seen s) to v)
  unfolding finished_of ◌>>=◌
  finish_agrees to l (ok v) (kept g) = record {
    same = went-same (moved-seen s.memory _ _) (eq-eqb _ 1 st.running) refl (variable-set s.variables st.variables to l v);
    kept = runs _ _ (moved-sound s.memory _ _ st.memory) (variables-kept s.variables st.variables to l v g) st.running (omega arith) st.bytes;
  }
  finish_agrees to l (refused n) no_answer = refusal refl
