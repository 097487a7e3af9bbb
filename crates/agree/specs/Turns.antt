-- What an entry's answer says in the believed machine's words, with the tables after it: the reply, and the machine afterwards.
use Rattle.std.specs.Prelude.{ℕ, List, Result, Ok, Err, ⊤}
use Rattle.value.specs.declared.refusal.Refusal.{Refusal}
use Rattle.memory.specs.Memory.{Memory}
use Rattle.memory.specs.Tables.{Both, Out, Columns, Listing, State, state, tables}
use Rattle.memory.specs.View.{tab, live_in}
use Rattle.memory.specs.declared.Registers.{Registers}
use Rattle.machine.specs.Machine as Machine
use Rattle.machine.specs.Asks.{Reply, done, gave, bytes, lists, returned, refusal, Turn, turn}
use Rattle.machine.specs.Asks as Asks
use Rattle.instruction.specs.declared.step.Progress.{Progress}
use Rattle.instruction.specs.declared.step.Progress.TheVariants as progress
use Rattle.run.specs.Run.{Running}
use Rattle.eval.specs.Entry.{Entering, Reading}
use Rattle.eval.specs.After.{after_entered, after_run, after_given}
use Rattle.run.specs.declared.Ran.{Ran}
use Rattle.run.specs.declared.Ran.TheVariants as ran
use Rattle.eval.specs.declared.entry.EntryError.{EntryError}
use Rattle.eval.specs.declared.entry.EntryError.TheVariants as entry
use Rattle.agree.specs.Seen.{seen, returned_in}

-- `before` are the caller's registers.

-- why an entry is refused; an image that is not loaded has its own
abbrev pub refusal_of : EntryError → Refusal
refusal_of (entry.Refused why) = why
refusal_of (entry.NotLoaded stop) = stop.why

-- ---- run

-- "The answer is returned (a value or none), paused, or refused, with the count"
abbrev pub ran_reply : Result Ran EntryError → Reply
ran_reply (Ok (ran.Returned m v count)) = Asks.ran (Machine.returned (returned_in v)) count
ran_reply (Ok (ran.Paused m count)) = Asks.ran Machine.paused count
ran_reply (Ok (ran.Stopped m why count)) = Asks.ran (Machine.stopped why) count
ran_reply (Err e) = refusal (refusal_of e)

abbrev pub ran_state : (before : Registers) → Running (Result Ran EntryError) → State
ran_state before r = state (tables (after_run r.answer before) r.store r.frames r.bounds r.pointers) r.variables

abbrev pub ran_turn : (before : Registers) → Running (Result Ran EntryError) → Turn Memory
ran_turn before r = turn (ran_reply r.answer) (seen (ran_state before r))

-- ---- step and start

abbrev pub entered_reply : Result Progress EntryError → Reply
entered_reply (Ok (progress.Next m)) = done
entered_reply (Ok (progress.Ended m v)) = returned (returned_in v)
entered_reply (Err e) = refusal (refusal_of e)

abbrev pub entered_state : (before : Registers) → Entering → State
entered_state before r = state (tables (after_entered r.answer before) r.store r.frames r.bounds r.pointers) r.variables

abbrev pub entered_turn : (before : Registers) → Entering → Turn Memory
entered_turn before r = turn (entered_reply r.answer) (seen (entered_state before r))

-- ---- the host's calls

abbrev pub allocated_reply : Result (ℕ × Registers) Refusal → Reply
allocated_reply (Ok (p, m)) = gave p
allocated_reply (Err why) = refusal why

abbrev pub allocated_state : State → Out → State
allocated_state t o = state (tables (after_given o.answer t.memory.registers) o.store o.frames o.bounds o.pointers) t.variables

abbrev pub allocated_turn : State → Out → Turn Memory
allocated_turn t o = turn (allocated_reply o.answer) (seen (allocated_state t o))

abbrev pub written_reply : Result ⊤ Refusal → Reply
written_reply (Ok u) = done
written_reply (Err why) = refusal why

abbrev pub written_state : State → Both (Result ⊤ Refusal) → State
written_state t r = state (tables t.memory.registers r.table t.memory.frames t.memory.bounds t.memory.pointers) t.variables

abbrev pub written_turn : State → Both (Result ⊤ Refusal) → Turn Memory
written_turn t r = turn (written_reply r.answer) (seen (written_state t r))

-- a read and the list change no state
abbrev pub read_reply : Result ⊤ EntryError → (read : List ℕ) → Reply
read_reply (Ok u) bs = bytes bs
read_reply (Err e) bs = refusal (refusal_of e)

abbrev pub read_turn : State → Reading → Turn Memory
read_turn t r = turn (read_reply r.answer r.bytes) (seen t)

-- the records that were filled in, one for each pointer
abbrev pub listed_reply : (pointers : ℕ) → Result ⊤ Refusal → Columns → Reply
listed_reply n (Ok u) c = lists (tab n (live_in c))
listed_reply n (Err why) c = refusal why

abbrev pub listed_turn : State → Listing → Turn Memory
listed_turn t r = turn (listed_reply t.memory.registers.pointers r.answer r.slices) (seen t)
