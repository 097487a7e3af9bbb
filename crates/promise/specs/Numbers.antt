-- "each entry answers, or refuses by a number": the refusals of document 01 that a call of the compiled entries can give, on any state.
use Rattle.std.specs.Prelude.{ℕ, ◌≡◌, List, [], ◌∷◌, ◌++◌, T}
use Rattle.value.specs.declared.refusal.Refusal.{Refusal}
use Rattle.value.specs.Refusal.{bytes_run_out, malformed, unknown, over_limit, beyond_count, left_over}
use Rattle.image.specs.Parse.{refused}
use Rattle.image.specs.Image.{loaded}
use Rattle.image.specs.Limits.{AreBytes}
use Rattle.memory.specs.Tables.{State}
use Rattle.machine.specs.Machine.{stopped}
use Rattle.machine.specs.Asks.{refusal, ran}
use Rattle.machine.specs.Promises.{is_among, step_refusals, allocate_refusals, write_refusals, read_refusals, start_refusals, run_refusals, list_refusals}
use Rattle.promise.specs.Calls.{Call, call_allocate, call_write, call_read, call_start, call_step, call_run, call_list, call, Lent}

-- "at each: 1 bytes run out, .. Last, 6 bytes left over."
abbrev pub load_refusals : List Refusal
load_refusals = bytes_run_out ∷ malformed ∷ unknown ∷ over_limit ∷ beyond_count ∷ left_over ∷ []

abbrev pub LoadingGives : Type 0
LoadingGives = (s : List ℕ) (k : Refusal) (place : ℕ) → loaded s ≡ refused k place → T (is_among k load_refusals)

-- "Loading (also done first by each entry that takes an image)"
abbrev pub call_refusals : Call → List Refusal
call_refusals (call_allocate n) = allocate_refusals
call_refusals (call_write p bs) = write_refusals
call_refusals (call_read s p buffer) = load_refusals ++ read_refusals
call_refusals (call_start s f context ts bs) = load_refusals ++ start_refusals
call_refusals (call_step s) = load_refusals ++ (run_refusals ++ step_refusals)
call_refusals (call_run s budget) = load_refusals ++ run_refusals
call_refusals (call_list l f a o) = list_refusals

-- a refused call gives one of its refusals: any registers and tables, sound or not, the store made of bytes as its type says
abbrev pub CodeGives : Type 0
CodeGives = (c : Call) → Lent c → (t : State) → AreBytes t.memory.store → (k : Refusal) → (call c t).reply ≡ refusal k → T (is_among k (call_refusals c))

-- where a run stops, the refusal is a step's
abbrev pub CodeStopsWith : Type 0
CodeStopsWith = (s : List ℕ) → AreBytes s → (budget : ℕ) (t : State) → AreBytes t.memory.store → (k : Refusal) (n : ℕ) → (call (call_run s budget) t).reply ≡ ran (stopped k) n → T (is_among k step_refusals)
