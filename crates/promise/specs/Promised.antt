-- What is promised of the compiled entries: seen through their tables they are the believed machine's, whoever calls them and in whatever order.
use Rattle.std.specs.Prelude.{ℕ, ◌+◌, ◌≤◌, ◌<◌, true, false, ◌≢◌, ◌⊎◌, ◌↔◌, ◌≡◌, List, [], ◌∷◌, ◌++◌, length, get_or, take, Ok}
use Rattle.std.proofs.Math.Option.{Option, some}
use Rattle.value.specs.declared.refusal.Refusal.{Refusal}
use Rattle.value.specs.Refusal.{not_sound, frame_gone, not_bool}
use Rattle.value.specs.Answer.{ok}
use Rattle.value.specs.Value.{Value, value, pointer, IrType, kind_of, size, bytes_of, from_bytes}
use Rattle.image.specs.Parse.{took}
use Rattle.image.specs.Program.{Program, Operand, Declared, function_at, Call as Calls, Return, Initialize, Write}
use Rattle.image.specs.Image.{loaded}
use Rattle.memory.specs.Tables.{State, state, tables, registers, columns, frame_word, bound, read_access_of, fresh_of, sound_of}
use Rattle.memory.specs.Encoded.{well_encoded}
use Rattle.memory.specs.Memory.{write_bytes}
use Rattle.memory.specs.declared.Source.TheVariants.{Local}
use Rattle.machine.specs.Asks.{Ask, to_start, to_step, Reply, done, bytes, lists, refusal, replies}
use Rattle.machine.specs.Machine.{pointer_of, value_of}
use Rattle.machine.specs.Machine as Machine
use Rattle.machine.specs.Recalled.{recalled}
use Rattle.machine.specs.Entries.{enter, answers, onwards}
use Rattle.machine.specs.History.{History, of_constant, of_place, made_at, bytes_from, StandsFor, Ended, told_list}
use Rattle.machine.specs.Flat.{index_of, place_of}
use Rattle.machine.specs.Demand.{tells, state_after, Right, Why, Alive, AtRead, AtCopy, At, tells_with, Begins, StartsIn, Ends, Stores, Makes}
use Rattle.eval.specs.Host.{host_listed}
use Rattle.eval.specs.Entry.{read_entered}
use Rattle.agree.specs.Seen.{seen, room}
use Rattle.promise.specs.Calls.{Call, call_read, call_write, call_step, call_list, call, Heard, heard, shown, Good, Asks, Refuses, AllLent, Tells, with_refusals, heard_by, left_by}
use Rattle.image.specs.Limits.{AreBytes}

-- ---- one call

-- a call on a good state is what the machine makes of the ask, and leaves a good state
pub record Answers (c : Call) (a : Ask) (t : State) : Type 0 where
  pub same : shown (call c t) ≡ enter a (seen t)
  pub good : Good (call c t).left

abbrev pub EntriesAnswer : Type 0
EntriesAnswer = (c : Call) (a : Ask) → Asks c a → (t : State) → Good t → Answers c a t

-- "Order: image, 10, ..": an image that is refused is answered by its number, before all else, and nothing changes
abbrev pub ImagesRefused : Type 0
ImagesRefused = (c : Call) (n : Refusal) → Refuses c n → (t : State) → call c t ≡ heard (refusal n) t

-- "10 state not sound", and nothing changes
abbrev pub UnsoundRefused : Type 0
UnsoundRefused = (c : Call) (a : Ask) → Asks c a → (t : State) → sound_of t ≡ false → call c t ≡ heard (refusal not_sound) t

-- so a call on any state that is well encoded, sound or not, is what the machine makes of the ask
abbrev pub EncodedAnswer : Type 0
EncodedAnswer = (c : Call) (a : Ask) → Asks c a → (t : State) → well_encoded t ≡ true → AreBytes t.memory.store → shown (call c t) ≡ enter a (seen t)

-- "A refusal leaves state and lent buffers untouched": each element of each table, stale ones too
abbrev pub RefusalsChangeNothing : Type 0
RefusalsChangeNothing = (c : Call) (a : Ask) → Asks c a → (t : State) → Good t → (n : Refusal) → (call c t).reply ≡ refusal n → (call c t).left ≡ t

-- the buffer of a read, and the slices of the list, on any state
abbrev pub BuffersStay : Type 0
BuffersStay = (s : List ℕ) (p : ℕ) (buffer : List ℕ) (t : State) (n : Refusal) → (call (call_read s p buffer) t).reply ≡ refusal n → (read_entered s p buffer t).bytes ≡ buffer

abbrev pub SlicesStay : Type 0
SlicesStay = (l f a o : List ℕ) (t : State) (n : Refusal) → (call (call_list l f a o) t).reply ≡ refusal n → (host_listed t l f a o).slices ≡ columns l f a o

-- ---- any calls, in any order

-- the replies are the machine's, and where an image was refused, that refusal
abbrev pub RepliesAreAnswers : Type 0
RepliesAreAnswers = (cs : List Call) (as' : List Ask) (w : Tells cs as') (t : State) → Good t → heard_by cs t ≡ with_refusals w (answers as' (seen t))

-- and the state that is left is the machine's
pub record Follows (cs : List Call) (as' : List Ask) (t : State) : Type 0 where
  pub same : seen (left_by cs t) ≡ onwards as' (seen t)
  pub good : Good (left_by cs t)

abbrev pub StatesFollow : Type 0
StatesFollow = (cs : List Call) (as' : List Ask) → Tells cs as' → (t : State) → Good t → Follows cs as' t

-- whatever is called, it asks something or its image is refused
abbrev pub CallsTell : Type 0
CallsTell = (cs : List Call) → AllLent cs → (as' : List Ask) × Tells cs as'

-- ---- tables that began as fresh

-- as `fresh` leaves them, whatever stood in tables of the right lengths
pub data Begun : State → Type 0 where
  begun : (s f b p v : List ℕ) → length s ≡ 32768 → length f ≡ 260 → length b ≡ 513 → length p ≡ 20480 → length v ≡ 512
      → Begun (state (tables (registers 0 0 1 1 0) (fresh_of s f b p v).store (fresh_of s f b p v).frames (fresh_of s f b p v).bounds (fresh_of s f b p v).pointers) (fresh_of s f b p v).variables)

-- calls on fresh tables that tell as', and the state that they leave
pub record After (as' : List Ask) (t : State) : Type 0 where
  pub first : State
  pub fresh : Begun first
  pub calls : List Call
  pub tell : Tells calls as'
  pub left : left_by calls first ≡ t

-- any calls on fresh tables tell some asks, and leave a state after them
abbrev pub AnyCalls : Type 0
AnyCalls = (t : State) → Begun t → (cs : List Call) → AllLent cs → (as' : List Ask) × Tells cs as' × After as' (left_by cs t)

-- the believed machine after them is what the host sees, and the host may go on
abbrev pub FreshFollows : Type 0
FreshFollows = (as' : List Ask) (t : State) → After as' t → (seen t ≡ state_after as') × Good t

-- every reply is the one that the sequence tells, or the refusal of an image
abbrev pub CodeRepliesAreTold : Type 0
CodeRepliesAreTold = (t : State) → Begun t → (cs : List Call) (as' : List Ask) (w : Tells cs as') → heard_by cs t ≡ with_refusals w (replies recalled as' (Machine.fresh recalled))

-- ---- demand 3, of the code: `as'` is what was asked so far, `t` the registers and tables that the host holds

-- an image that was loaded, and its program
pub record Image (s : List ℕ) (P : Program) : Type 0 where
  pub bytes : AreBytes s
  pub end : ℕ
  pub taken : loaded s ≡ took P end

abbrev pub read_of : State → (image : List ℕ) → (p : ℕ) → (buffer : List ℕ) → Reply
read_of t s p buffer = (call (call_read s p buffer) t).reply

-- 1. a host read is granted exactly when it is right
abbrev pub CodeGrantsExactlyWhenRight : Type 0
CodeGrantsExactlyWhenRight = (as' : List Ask) (t : State) → After as' t → (s : List ℕ) (P : Program) → Image s P → (p : ℕ) (buffer : List ℕ)
    → ((bs : List ℕ) × (read_of t s p buffer ≡ bytes bs)) ↔ Right (tells as') P p (length buffer)

-- 2. "Each byte granted is the one last stored at that place of that allocation, or zero."
abbrev pub CodeReadsLastStored : Type 0
CodeReadsLastStored = (as' : List Ask) (t : State) → After as' t → (s : List ℕ) (P : Program) → Image s P → (p : ℕ) (buffer : List ℕ) (f j o : ℕ) (bs : List ℕ)
    → StandsFor (tells as') p (of_place f j o) → read_of t s p buffer ≡ bytes bs
    → (length bs ≡ length buffer) × ((i : ℕ) → i < length buffer → get_or bs i 0 ≡ (made_at (tells as').made f j).byte (o + i))

-- of a constant, its first bytes
abbrev pub CodeReadsConstants : Type 0
CodeReadsConstants = (as' : List Ask) (t : State) → After as' t → (s : List ℕ) (P : Program) → Image s P → (p : ℕ) (buffer : List ℕ) (k : ℕ) (bs : List ℕ)
    → StandsFor (tells as') p (of_constant k) → read_of t s p buffer ≡ bytes bs → bs ≡ take (length buffer) (get_or P.constants k [])

-- 3. and the others are refused with their number
abbrev pub CodeRefusesWithItsNumber : Type 0
CodeRefusesWithItsNumber = (as' : List Ask) (t : State) → After as' t → (s : List ℕ) (P : Program) → Image s P → (p : ℕ) (buffer : List ℕ) (k : Refusal)
    → (read_of t s p buffer ≡ refusal k) ↔ Why (tells as') P p (length buffer) k

-- 27 is given exactly where the frame has returned
abbrev pub CodeGoneExactlyWhenEnded : Type 0
CodeGoneExactlyWhenEnded = (as' : List Ask) (t : State) → After as' t → (s : List ℕ) (P : Program) → Image s P → (p : ℕ) (buffer : List ℕ)
    → (read_of t s p buffer ≡ refusal frame_gone) ↔ ((f : ℕ) × (j : ℕ) × (o : ℕ) × StandsFor (tells as') p (of_place f j o) × Ended (tells as') f)

-- 4. "Live allocations never share a byte."

-- the bytes of the store that the code has for allocation j of frame f: from `begins` to below `ends`, by the record at the frame's index and by two bounds
abbrev pub rank_of : History → State → (frame allocation : ℕ) → ℕ
rank_of h t f j = frame_word t.memory.frames (index_of h f) 3 + j

abbrev pub begins : History → State → (frame allocation : ℕ) → ℕ
begins h t f j = bound t.memory (rank_of h t f j)

abbrev pub ends : History → State → (frame allocation : ℕ) → ℕ
ends h t f j = bound t.memory (rank_of h t f j + 1)

-- an access through p that is granted has its n bytes there, `at` being the first; a write's place is a read's (`write_access_of`)
abbrev pub CodeAccessesItsOwn : Type 0
CodeAccessesItsOwn = (as' : List Ask) (t : State) → After as' t → (p n at f j o : ℕ) → StandsFor (tells as') p (of_place f j o) → read_access_of t.memory p n ≡ Ok (Local at)
    → (at ≡ begins (tells as') t f j + o) × (at + n ≤ ends (tells as') t f j)

-- of two that live and are not the same, one ends before the other begins
abbrev pub CodeExtentsApart : Type 0
CodeExtentsApart = (as' : List Ask) (t : State) → After as' t → (f j f' j' : ℕ) → Alive (tells as') f j → Alive (tells as') f' j' → (f ≢ f') ⊎ (j ≢ j')
    → (ends (tells as') t f j ≤ begins (tells as') t f' j') ⊎ (ends (tells as') t f' j' ≤ begins (tells as') t f j)

-- each lies "end to end in the store from its start, frame by frame upward, in the order made", is as long as it was made, and ends in the store
pub record Lies (as' : List Ask) (t : State) (f j : ℕ) : Type 0 where
  pub place : begins (tells as') t f j ≡ place_of (tells as') f j
  pub long : ends (tells as') t f j ≡ begins (tells as') t f j + (made_at (tells as').made f j).size
  pub stored : ends (tells as') t f j ≤ length t.memory.store

abbrev pub CodeExtentsLie : Type 0
CodeExtentsLie = (as' : List Ask) (t : State) → After as' t → (f j : ℕ) → Alive (tells as') f j → Lies as' t f j

-- an accepted write through one allocation changes no byte that is granted through another
abbrev pub CodeWritesStayApart : Type 0
CodeWritesStayApart = (as' : List Ask) (t : State) → After as' t → (p q f j o f' j' o' : ℕ) (bs : List ℕ) → AreBytes bs → (call (call_write p bs) t).reply ≡ done
    → StandsFor (tells as') p (of_place f j o) → StandsFor (tells as') q (of_place f' j' o') → (f ≢ f') ⊎ (j ≢ j')
    → (s : List ℕ) (P : Program) → Image s P → (buffer : List ℕ) → read_of (call (call_write p bs) t).left s q buffer ≡ read_of t s q buffer

-- 5. the live list is the one that is told
abbrev pub CodeListsAsTold : Type 0
CodeListsAsTold = (as' : List Ask) (t : State) → After as' t → (l f a o : List ℕ) → length (tells as').given ≤ room l f a o
    → (call (call_list l f a o) t).reply ≡ lists (told_list (tells as'))

-- 6. a step reads as the host does

abbrev pub step_of : State → (image : List ℕ) → Heard
step_of t s = call (call_step s) t

-- a Read is refused with no number, or with 31 alone, exactly when the host's read would be granted; every other number is the host's
abbrev pub CodeStepsGrantExactlyWhenRight : Type 0
CodeStepsGrantExactlyWhenRight = (as' : List Ask) (t : State) → After as' t → (s : List ℕ) (P : Program) → Image s P → (to : ℕ) (type : IrType) (p : ℕ) → AtRead (seen t) P to type p
    → (((k : Refusal) → (step_of t s).reply ≡ refusal k → k ≡ not_bool) ↔ Right (tells as') P p (size (kind_of type)))
    × ((k : Refusal) → k ≢ not_bool → ((step_of t s).reply ≡ refusal k) ↔ Why (tells as') P p (size (kind_of type)) k)

-- and its value is made of the bytes last stored
abbrev pub CodeStepsReadLastStored : Type 0
CodeStepsReadLastStored = (as' : List Ask) (t : State) → After as' t → (s : List ℕ) (P : Program) → Image s P → (to : ℕ) (type : IrType) (p f j o : ℕ) → AtRead (seen t) P to type p
    → StandsFor (tells as') p (of_place f j o) → (step_of t s).reply ≡ done
    → (v : Value) × (from_bytes type (bytes_from (made_at (tells as').made f j) o (size (kind_of type))) ≡ ok v) × ((seen (step_of t s).left).vars to ≡ some v)

-- a Copy is refused as the host's read would be, else it writes the bytes last stored
abbrev pub CodeCopiesRefused : Type 0
CodeCopiesRefused = (as' : List Ask) (t : State) → After as' t → (s : List ℕ) (P : Program) → Image s P → (q p n : ℕ) (k : Refusal) → AtCopy (seen t) P q p n → Why (tells as') P p n k
    → (step_of t s).reply ≡ refusal k

abbrev pub CodeCopiesLastStored : Type 0
CodeCopiesLastStored = (as' : List Ask) (t : State) → After as' t → (s : List ℕ) (P : Program) → Image s P → (q p n f j o : ℕ) → AtCopy (seen t) P q p n
    → StandsFor (tells as') p (of_place f j o) → (step_of t s).reply ≡ done
    → write_bytes (seen t).memory q (bytes_from (made_at (tells as').made f j) o n) ≡ ok (seen (step_of t s).left).memory

-- 7. what is done tells, and the state left is one after it: "an accepted Call begins a frame, the accepted Return that pops it ends it"

abbrev pub CodeGoesOn : Type 0
CodeGoesOn = (as' : List Ask) (t : State) → After as' t → (c : Call) (a : Ask) → Asks c a → After (as' ++ (a ∷ [])) (call c t).left

abbrev pub CodeCallsBegin : Type 0
CodeCallsBegin = (as' : List Ask) (t : State) → After as' t → (s : List ℕ) (P : Program) → Image s P
    → (to : Option Declared) (context : Option Operand) (f : ℕ) (arguments : List Operand) (return_pointer : Option ℕ)
    → At (seen t) P (Calls to context f arguments return_pointer) → (step_of t s).reply ≡ done → Begins (tells as') (tells_with as' (to_step P)) (function_at P f).slots

abbrev pub CodeStartsMakeSlots : Type 0
CodeStartsMakeSlots = (as' : List Ask) (t : State) → After as' t → (c : Call) (P : Program) (f : ℕ) (context : Value) (gs : List Value) → Asks c (to_start P f context gs)
    → (call c t).reply ≡ done → StartsIn (tells as') (tells_with as' (to_start P f context gs)) (function_at P f).slots

abbrev pub CodeReturnsEnd : Type 0
CodeReturnsEnd = (as' : List Ask) (t : State) → After as' t → (s : List ℕ) (P : Program) → Image s P → (x : Option Operand) → At (seen t) P (Return x) → (step_of t s).reply ≡ done
    → Ends (tells as') (tells_with as' (to_step P))

-- 8. a Write stores its value's bytes, and Initialize its own, with zeros after them
abbrev pub CodeWritesStore : Type 0
CodeWritesStore = (as' : List Ask) (t : State) → After as' t → (s : List ℕ) (P : Program) → Image s P → (x y : Operand) (p f j o : ℕ) (v : Value) → At (seen t) P (Write x y)
    → pointer_of (seen t).vars x ≡ ok p → value_of (seen t).vars y ≡ ok v → StandsFor (tells as') p (of_place f j o) → (step_of t s).reply ≡ done
    → Stores (tells as') (tells_with as' (to_step P)) f j o (bytes_of v)

abbrev pub CodeInitializesMake : Type 0
CodeInitializesMake = (as' : List Ask) (t : State) → After as' t → (s : List ℕ) (P : Program) → Image s P → (to n : ℕ) (bs : List ℕ) → At (seen t) P (Initialize to n bs)
    → (step_of t s).reply ≡ done → Makes (tells as') (tells_with as' (to_step P)) n bs × ((seen (step_of t s).left).vars to ≡ some (value pointer (length (tells as').given)))

-- A pointer made in a call is refused in every later state after that call has returned: p is given for a place of the frame f, f has ended some asks later,
-- and after any more asks every host read and write through p is 27, and so is a step's Read through it and a Copy from it.
abbrev pub CodeRefusesEverAfter : Type 0
CodeRefusesEverAfter = (as' bs' cs' : List Ask) (t : State) → After ((as' ++ bs') ++ cs') t → (p f j o : ℕ) → StandsFor (tells as') p (of_place f j o) → Ended (tells (as' ++ bs')) f
    → ((s : List ℕ) (P : Program) → Image s P → (buffer : List ℕ) → read_of t s p buffer ≡ refusal frame_gone)
    × ((bs : List ℕ) → AreBytes bs → (call (call_write p bs) t).reply ≡ refusal frame_gone)
    × ((s : List ℕ) (P : Program) → Image s P → (to : ℕ) (type : IrType) → AtRead (seen t) P to type p → (step_of t s).reply ≡ refusal frame_gone)
    × ((s : List ℕ) (P : Program) → Image s P → (q n : ℕ) → AtCopy (seen t) P q p n → (step_of t s).reply ≡ refusal frame_gone)
