-- What a host may call, in any order, on one set of tables: what it is answered in the machine's words, and the state that it then holds.
use Rattle.std.specs.Prelude.{ℕ, Bool, true, false, ◌&&◌, ◌≡◌, List, [], ◌∷◌, ◌++◌, length, replicate, T}
use Rattle.value.specs.declared.refusal.Refusal.{Refusal}
use Rattle.value.specs.Value.{Value, tag}
use Rattle.image.specs.Parse.{took}
use Rattle.image.specs.Parse as Parse
use Rattle.image.specs.Program.{Program}
use Rattle.image.specs.Image.{loaded}
use Rattle.memory.specs.Memory.{Memory}
use Rattle.memory.specs.Tables.{State, every, sound_of}
use Rattle.machine.specs.Sound.{all}
use Rattle.machine.specs.Accepted.{given}
use Rattle.machine.specs.Asks.{Ask, to_allocate, to_write, to_read, to_start, to_step, to_run, to_list, Reply, refusal, Turn, turn}
use Rattle.machine.specs.Accepted.{bad_char}
use Rattle.instruction.specs.Variables.{found}
use Rattle.instruction.specs.declared.variables.Found.{Found}
use Rattle.eval.specs.Host.{host_allocated, host_written, host_listed}
use Rattle.eval.specs.Entry.{run_entered, step_entered, read_entered}
use Rattle.eval.specs.Start.{is_value, value_at, start_entered}
use Rattle.agree.specs.Seen.{seen, room}
use Rattle.agree.specs.Turns.{ran_reply, ran_state, entered_reply, entered_state, allocated_reply, allocated_state, written_reply, written_state, read_reply, listed_reply}
use Rattle.image.specs.Limits.{AreBytes}
use Rattle.calls.specs.Begin.{tags_of, bits_of}

-- ---- a call

-- each entry with what it takes besides registers and tables; images, bytes to write and buffers are as they are lent
pub data Call : Type 0 where
  call_allocate : (size : ℕ) → Call
  call_write : (pointer : ℕ) → (bytes : List ℕ) → Call
  call_read : (image : List ℕ) → (pointer : ℕ) → (buffer : List ℕ) → Call
  call_start : (image : List ℕ) → (function : ℕ) → (context : Found) → (tags bits : List ℕ) → Call
  call_step : (image : List ℕ) → Call
  call_run : (image : List ℕ) → (budget : ℕ) → Call
  call_list : (live frame allocation offset : List ℕ) → Call

-- the reply, and the registers and tables that the host then holds
pub record Heard : Type 0 where
  pub reply : Reply
  pub left : State

abbrev pub heard : Reply → State → Heard
heard r t = record { reply = r; left = t }

-- by the definition that the entry's contract cites; "A refusal leaves state and lent buffers untouched": it hands out no registers
abbrev pub call : Call → State → Heard
call (call_allocate n) t = heard (allocated_reply (host_allocated t n).answer) (allocated_state t (host_allocated t n))
call (call_write p bs) t = heard (written_reply (host_written t p bs).answer) (written_state t (host_written t p bs))
call (call_read s p buffer) t = heard (read_reply (read_entered s p buffer t).answer (read_entered s p buffer t).bytes) t
call (call_start s f context ts bs) t = heard (entered_reply (start_entered s f context ts bs t).answer) (entered_state t.memory.registers (start_entered s f context ts bs t))
call (call_step s) t = heard (entered_reply (step_entered s t).answer) (entered_state t.memory.registers (step_entered s t))
call (call_run s budget) t = heard (ran_reply (run_entered s budget t).answer) (ran_state t.memory.registers (run_entered s budget t))
call (call_list l f a o) t = heard (listed_reply t.memory.registers.pointers (host_listed t l f a o).answer (host_listed t l f a o).slices) t

-- as the host sees it
abbrev pub shown : Heard → Turn Memory
shown h = turn h.reply (seen h.left)

-- what a host may go on with: a sound state, its store made of bytes
pub record Good (t : State) : Type 0 where
  pub sound : sound_of t ≡ true
  pub bytes : AreBytes t.memory.store

-- ---- what is asked by it

-- the context's tag and bits are a value's, and so are each argument's
abbrev pub are_values : (context : Found) → (tags bits : List ℕ) → Bool
are_values context ts bs = is_value context.tag context.bits && every (length ts) (value_at ts bs)

-- a call whose image was loaded is an ask of its program. A host read's size is its buffer's length. A start's tags and bits are values, spare bits are not looked at,
-- and where they are no values the ask is one with a Char that is no scalar value: 15, in its place
pub data Asks : Call → Ask → Type 0 where
  allocating : {n : ℕ} → Asks (call_allocate n) (to_allocate n)
  writing : {p : ℕ} {bs : List ℕ} → AreBytes bs → Asks (call_write p bs) (to_write p bs)
  reading : {s : List ℕ} {P : Program} {e p : ℕ} {buffer : List ℕ} → AreBytes s → loaded s ≡ took P e → Asks (call_read s p buffer) (to_read P p (length buffer))
  starting : {s : List ℕ} {P : Program} {e f : ℕ} {context : Value} {gs : List Value} (spare : List ℕ) → AreBytes s → loaded s ≡ took P e → T (all given (context ∷ gs))
      → Asks (call_start s f (found (tag context.kind) context.bits) (tags_of gs) (bits_of gs ++ spare)) (to_start P f context gs)
  misgiven : {s : List ℕ} {P : Program} {e f : ℕ} {context : Found} {ts bs : List ℕ} → AreBytes s → loaded s ≡ took P e → are_values context ts bs ≡ false
      → Asks (call_start s f context ts bs) (to_start P f bad_char (replicate (length ts) bad_char))
  stepping : {s : List ℕ} {P : Program} {e : ℕ} → AreBytes s → loaded s ≡ took P e → Asks (call_step s) (to_step P)
  running : {s : List ℕ} {P : Program} {e budget : ℕ} → AreBytes s → loaded s ≡ took P e → Asks (call_run s budget) (to_run P budget)
  listing : {l f a o : List ℕ} → Asks (call_list l f a o) (to_list (room l f a o))

-- a call whose image is refused asks nothing
pub data Refuses : Call → Refusal → Type 0 where
  refuses-read : {s : List ℕ} {n : Refusal} {q p : ℕ} {buffer : List ℕ} → loaded s ≡ Parse.refused n q → Refuses (call_read s p buffer) n
  refuses-start : {s : List ℕ} {n : Refusal} {q f : ℕ} {context : Found} {ts bs : List ℕ} → loaded s ≡ Parse.refused n q → Refuses (call_start s f context ts bs) n
  refuses-step : {s : List ℕ} {n : Refusal} {q : ℕ} → loaded s ≡ Parse.refused n q → Refuses (call_step s) n
  refuses-run : {s : List ℕ} {n : Refusal} {q budget : ℕ} → loaded s ≡ Parse.refused n q → Refuses (call_run s budget) n

-- what is lent as bytes is bytes, as the code's types say
abbrev pub Lent : Call → Type 0
Lent (call_allocate n) = Unit
Lent (call_write p bs) = AreBytes bs
Lent (call_read s p buffer) = AreBytes s
Lent (call_start s f context ts bs) = AreBytes s
Lent (call_step s) = AreBytes s
Lent (call_run s budget) = AreBytes s
Lent (call_list l f a o) = Unit

abbrev pub AllLent : List Call → Type 0
AllLent [] = Unit
AllLent (c ∷ cs) = Lent c × AllLent cs

-- ---- any calls, one after the other

unfoldable pub heard_by : List Call → State → List Reply
heard_by [] t = []
heard_by (c ∷ cs) t = (call c t).reply ∷ heard_by cs (call c t).left

unfoldable pub left_by : List Call → State → State
left_by [] t = t
left_by (c ∷ cs) t = left_by cs (call c t).left

-- what they ask, in order, where images may be refused in between
pub data Tells : List Call → List Ask → Type 0 where
  no_more : Tells [] []
  asked : {c : Call} {a : Ask} {cs : List Call} {as' : List Ask} → Asks c a → Tells cs as' → Tells (c ∷ cs) (a ∷ as')
  passed : {c : Call} {n : Refusal} {cs : List Call} {as' : List Ask} → Refuses c n → Tells cs as' → Tells (c ∷ cs) as'

-- the replies to what they ask, and where an image was refused, that refusal
unfoldable pub with_refusals : {cs : List Call} {as' : List Ask} → Tells cs as' → List Reply → List Reply
with_refusals no_more rs = []
with_refusals (asked q w) [] = []  -- never: each ask has its reply
with_refusals (asked q w) (r ∷ rs) = r ∷ with_refusals w rs
with_refusals (passed {n} q w) rs = refusal n ∷ with_refusals w rs
