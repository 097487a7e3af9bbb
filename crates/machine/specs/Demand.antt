-- Demand 3, in the customer's words: "Take any sequence of accepted allocations, host writes, starts, steps and reads since fresh memory, under any programs. A host read,
-- under an accepted program, through a local pointer is granted exactly when the frame in which its allocation was made has not returned (root never does), offset plus size
-- is within the allocation, and size divides offset (size 0: only at offset 0). Each byte granted is the one last stored at that place of that allocation, or zero. Whether a
-- frame has returned, and what was last stored where, is told from the sequence itself (an accepted Call begins a frame, the accepted Return that pops it ends it), not from
-- the machine's ids or store. Live allocations never share a byte. The live list names exactly the local pointers whose frame has not returned."
-- A sequence here is any list of asks, each with any accepted program, from fresh memory on: also runs, listings, and asks that are refused and so change nothing.
use Rattle.std.specs.Prelude.{ℕ, ◌+◌, ◌≤◌, ◌<◌, ◌≢◌, ◌⊎◌, ◌↔◌, ◌≡◌, List, [], ◌∷◌, ◌++◌, map, length, get_or, take, T}
use Rattle.std.specs.Int.{◌∣◌}
use Rattle.std.proofs.Math.Option.{Option, some}
use Rattle.std.proofs.Math.ListN.{get_elem?}
use Rattle.value.specs.declared.refusal.Refusal.{Refusal}
use Rattle.value.specs.Refusal.{not_given_out, frame_gone, beyond_length, misaligned, not_bool, no_constant}
use Rattle.value.specs.Answer.{ok, refused}
use Rattle.value.specs.Value.{Value, value, pointer, IrType, kind_of, size, bytes_of, from_bytes}
use Rattle.image.specs.Program.{Program, Operand, Slot, Declared, function_at, code, Instruction, Call, Return, Initialize, Write, Read, Copy}
use Rattle.memory.specs.Memory.{Memory, read_bytes, write_bytes}
use Rattle.machine.specs.Machine.{Machine, fresh, value_of, pointer_of}
use Rattle.machine.specs.Believed.{believed}
use Rattle.machine.specs.Sound.{all, sound}
use Rattle.machine.specs.Accepted.{accepted_ask}
use Rattle.machine.specs.Asks.{Ask, to_allocate, to_write, to_read, to_start, to_step, to_list, Reply, done, gave, bytes, returned, lists, refusal, Turn, replies, following}
use Rattle.machine.specs.Entries.{enter, answers, onwards}
use Rattle.machine.specs.History.{History, zeros, of_constant, of_place, made_in, made_at, starts, top_frame, bytes_from, StandsFor, Open, Ended, told_list}
use Rattle.machine.specs.Recalled.{recalled}
use Rattle.machine.specs.Flat.{Before}

abbrev pub Accepted : List Ask → Type 0
Accepted as' = T (all accepted_ask as')

-- ---- the state after a sequence, and what the sequence tells

abbrev pub state_after : List Ask → Machine Memory
state_after as' = onwards as' (fresh believed)

-- the same asks over the history: nothing of the machine is used, neither ids nor store nor variables that were read from it
abbrev pub tells : List Ask → History
tells as' = (following recalled as' (fresh recalled)).memory

-- what a host read of n bytes through p is answered after a sequence
abbrev pub reply : List Ask → Program → (p n : ℕ) → Reply
reply as' P p n = (enter (to_read P p n) (state_after as')).reply

-- every reply, of whatever is asked, is the one that the sequence tells
abbrev pub RepliesAreTold : Type 0
RepliesAreTold = (as' : List Ask) → Accepted as' → answers as' (fresh believed) ≡ replies recalled as' (fresh recalled)

-- no ask makes the state unsound: 10 is never given
abbrev pub AlwaysSound : Type 0
AlwaysSound = (as' : List Ask) → Accepted as' → T (sound (state_after as'))

-- ---- 1. which reads are granted

-- of a local pointer "the frame in which its allocation was made has not returned (root never does), offset plus size is within the allocation, and size divides offset
-- (size 0: only at offset 0)"; of a constant's, the constant is in the program and as long
pub data Right (h : History) (P : Program) (p n : ℕ) : Type 0 where
  of-constant : {k : ℕ} → StandsFor h p (of_constant k) → k < length P.constants → n ≤ length (get_or P.constants k []) → Right h P p n
  of-place : {f j o : ℕ} → StandsFor h p (of_place f j o) → Open h f → o + n ≤ (made_at h.made f j).size → n ∣ o → Right h P p n

abbrev pub GrantedExactlyWhenRight : Type 0
GrantedExactlyWhenRight = (as' : List Ask) → Accepted as' → (P : Program) (p n : ℕ) → ((bs : List ℕ) × (reply as' P p n ≡ bytes bs)) ↔ Right (tells as') P p n

-- ---- 2. with which bytes

-- "Each byte granted is the one last stored at that place of that allocation, or zero."
abbrev pub BytesAreLastStored : Type 0
BytesAreLastStored = (as' : List Ask) → Accepted as' → (P : Program) (p n f j o : ℕ) (bs : List ℕ) → StandsFor (tells as') p (of_place f j o) → reply as' P p n ≡ bytes bs
    → (length bs ≡ n) × ((i : ℕ) → i < n → get_or bs i 0 ≡ (made_at (tells as').made f j).byte (o + i))

-- of a constant, its first n bytes
abbrev pub BytesOfConstants : Type 0
BytesOfConstants = (as' : List Ask) → Accepted as' → (P : Program) (p n k : ℕ) (bs : List ℕ) → StandsFor (tells as') p (of_constant k) → reply as' P p n ≡ bytes bs
    → bs ≡ take n (get_or P.constants k [])

-- ---- 3. and with which number the others are refused

pub data Why (h : History) (P : Program) (p n : ℕ) : Refusal → Type 0 where
  never_given : length h.given ≤ p → Why h P p n not_given_out
  ended : {f j o : ℕ} → StandsFor h p (of_place f j o) → Ended h f → Why h P p n frame_gone
  too_long : {f j o : ℕ} → StandsFor h p (of_place f j o) → Open h f → (made_at h.made f j).size < o + n → Why h P p n beyond_length
  uneven : {f j o : ℕ} → StandsFor h p (of_place f j o) → Open h f → o + n ≤ (made_at h.made f j).size → (n ∣ o → ⊥) → Why h P p n misaligned
  not-here : {k : ℕ} → StandsFor h p (of_constant k) → length P.constants ≤ k → Why h P p n no_constant
  past-constant : {k : ℕ} → StandsFor h p (of_constant k) → k < length P.constants → length (get_or P.constants k []) < n → Why h P p n beyond_length

abbrev pub RefusedWithItsNumber : Type 0
RefusedWithItsNumber = (as' : List Ask) → Accepted as' → (P : Program) (p n : ℕ) (k : Refusal) → (reply as' P p n ≡ refusal k) ↔ Why (tells as') P p n k

-- 27 is given exactly where the frame has returned
abbrev pub GoneExactlyWhenEnded : Type 0
GoneExactlyWhenEnded = (as' : List Ask) → Accepted as' → (P : Program) (p n : ℕ)
    → (reply as' P p n ≡ refusal frame_gone) ↔ ((f : ℕ) × (j : ℕ) × (o : ℕ) × StandsFor (tells as') p (of_place f j o) × Ended (tells as') f)

-- ---- 4. "Live allocations never share a byte."

-- allocation j of frame f lives: f has not ended, and more than j were made in it
abbrev pub Alive : History → (frame allocation : ℕ) → Type 0
Alive h f j = Open h f × (j < length (made_in h.made f))

-- of two that are not the same, one ends before the other begins
abbrev pub ExtentsApart : Type 0
ExtentsApart = (as' : List Ask) → Accepted as' → (f j f' j' : ℕ) → Alive (tells as') f j → Alive (tells as') f' j' → (f ≢ f') ⊎ (j ≢ j')
    → Before (tells as') f j f' j' ⊎ Before (tells as') f' j' f j

-- an accepted write through one allocation changes no byte that is granted through another, the host's and a step's alike
abbrev pub WritesStayApart : Type 0
WritesStayApart = (as' : List Ask) → Accepted as' → (p q f j o f' j' o' : ℕ) (bs : List ℕ) (m : Memory) → write_bytes (state_after as').memory p bs ≡ ok m
    → StandsFor (tells as') p (of_place f j o) → StandsFor (tells as') q (of_place f' j' o') → (f ≢ f') ⊎ (j ≢ j')
    → (constants : List (List ℕ)) (n : ℕ) → read_bytes constants m q n ≡ read_bytes constants (state_after as').memory q n

-- ---- 5. the live list

-- it "names exactly the local pointers whose frame has not returned", and shows of each, dead or alive, what the sequence tells
abbrev pub ListingIsTold : Type 0
ListingIsTold = (as' : List Ask) → Accepted as' → (room : ℕ) → length (tells as').given ≤ room → (enter (to_list room) (state_after as')).reply ≡ lists (told_list (tells as'))

-- ---- 6. a step reads as the host does

-- the machine runs, and stands at a Read through the pointer p
pub record AtRead (s : Machine Memory) (P : Program) (to : ℕ) (type : IrType) (p : ℕ) : Type 0 where
  pub runs : T s.running
  pub operand : Operand
  pub here : get_elem? (code P) s.place ≡ some (Read to operand type)
  pub through : pointer_of s.vars operand ≡ ok p

-- or at a Copy of n bytes from the pointer p to the pointer q
pub record AtCopy (s : Machine Memory) (P : Program) (q p n : ℕ) : Type 0 where
  pub runs : T s.running
  pub target : Operand
  pub source : Operand
  pub here : get_elem? (code P) s.place ≡ some (Copy target source n)
  pub onto : pointer_of s.vars target ≡ ok q
  pub through : pointer_of s.vars source ≡ ok p

abbrev pub stepped : List Ask → Program → Turn Memory
stepped as' P = enter (to_step P) (state_after as')

-- a Read is refused with no number, or with 31 alone, exactly when the host's read would be granted; every other number is the host's
abbrev pub StepsGrantedExactlyWhenRight : Type 0
StepsGrantedExactlyWhenRight = (as' : List Ask) → Accepted as' → (P : Program) (to : ℕ) (type : IrType) (p : ℕ) → AtRead (state_after as') P to type p
    → (((k : Refusal) → (stepped as' P).reply ≡ refusal k → k ≡ not_bool) ↔ Right (tells as') P p (size (kind_of type)))
    × ((k : Refusal) → k ≢ not_bool → ((stepped as' P).reply ≡ refusal k) ↔ Why (tells as') P p (size (kind_of type)) k)

-- and its value is made of the bytes last stored
abbrev pub StepsReadLastStored : Type 0
StepsReadLastStored = (as' : List Ask) → Accepted as' → (P : Program) (to : ℕ) (type : IrType) (p f j o : ℕ) → AtRead (state_after as') P to type p
    → StandsFor (tells as') p (of_place f j o) → (stepped as' P).reply ≡ done
    → (v : Value) × (from_bytes type (bytes_from (made_at (tells as').made f j) o (size (kind_of type))) ≡ ok v) × ((stepped as' P).machine.vars to ≡ some v)

-- a Copy is refused as the host's read would be
abbrev pub CopiesRefused : Type 0
CopiesRefused = (as' : List Ask) → Accepted as' → (P : Program) (q p n : ℕ) (k : Refusal) → AtCopy (state_after as') P q p n → Why (tells as') P p n k → (stepped as' P).reply ≡ refusal k

-- and writes the bytes last stored
abbrev pub CopiesLastStored : Type 0
CopiesLastStored = (as' : List Ask) → Accepted as' → (P : Program) (q p n f j o : ℕ) → AtCopy (state_after as') P q p n
    → StandsFor (tells as') p (of_place f j o) → (stepped as' P).reply ≡ done
    → write_bytes (state_after as').memory q (bytes_from (made_at (tells as').made f j) o n) ≡ ok (stepped as' P).machine.memory

-- ---- 7. what was done tells: "an accepted Call begins a frame, the accepted Return that pops it ends it"

-- the machine runs, and stands at this instruction
abbrev pub At : Machine Memory → Program → Instruction → Type 0
At s P i = T s.running × (get_elem? (code P) s.place ≡ some i)

-- what the sequence tells with one ask more
abbrev pub tells_with : List Ask → Ask → History
tells_with as' a = tells (as' ++ (a ∷ []))

-- A frame begins, with these slots. Its name is how many began before it, which no frame that stands has; it stands above all others. The slots were made in it, zero-filled
-- and in order, and a pointer to the start of each was given; all else is as it was.
pub record Begins (h h' : History) (slots : List Slot) : Type 0 where
  pub new : Ended h (length h.made)
  pub above : h'.standing ≡ h.standing ++ (length h.made ∷ [])
  pub made : h'.made ≡ h.made ++ (map (λ (x : Slot). zeros x.size) slots ∷ [])
  pub given : h'.given ≡ h.given ++ starts (length h.made) 0 (length slots)

abbrev pub CallsBegin : Type 0
CallsBegin = (as' : List Ask) → Accepted as' → (P : Program) (to : Option Declared) (context : Option Operand) (f : ℕ) (arguments : List Operand) (return_pointer : Option ℕ)
    → At (state_after as') P (Call to context f arguments return_pointer) → (stepped as' P).reply ≡ done → Begins (tells as') (tells_with as' (to_step P)) (function_at P f).slots

-- A start begins no frame: its slots are made in the root, after what was made there before, and a pointer to the start of each was given.
pub record StartsIn (h h' : History) (slots : List Slot) : Type 0 where
  pub standing : h'.standing ≡ h.standing
  pub made : made_in h'.made 0 ≡ made_in h.made 0 ++ map (λ (x : Slot). zeros x.size) slots
  pub elsewhere : (f : ℕ) → 0 < f → made_in h'.made f ≡ made_in h.made f
  pub given : h'.given ≡ h.given ++ starts 0 (length (made_in h.made 0)) (length slots)

abbrev pub StartsMakeSlots : Type 0
StartsMakeSlots = (as' : List Ask) → Accepted as' → (P : Program) (f : ℕ) (context : Value) (gs : List Value) → (enter (to_start P f context gs) (state_after as')).reply ≡ done
    → StartsIn (tells as') (tells_with as' (to_start P f context gs)) (function_at P f).slots

-- Of the frames that stand, the one that began last ends; all that was made and given is told as before.
pub record Ends (h h' : History) : Type 0 where
  pub last : h.standing ≡ h'.standing ++ (top_frame h ∷ [])
  pub ended : Ended h' (top_frame h)
  pub made : h'.made ≡ h.made
  pub given : h'.given ≡ h.given

abbrev pub ReturnsEnd : Type 0
ReturnsEnd = (as' : List Ask) → Accepted as' → (P : Program) (x : Option Operand) → At (state_after as') P (Return x) → (stepped as' P).reply ≡ done
    → Ends (tells as') (tells_with as' (to_step P))

-- "(root never does)": after any asks it stands; and the Return that ends the run ends no frame
abbrev pub RootNeverEnds : Type 0
RootNeverEnds = (as' : List Ask) → Accepted as' → Open (tells as') 0

abbrev pub LastReturnEndsNone : Type 0
LastReturnEndsNone = (as' : List Ask) → Accepted as' → (P : Program) (x : Option Operand) (v : Option Value) → At (state_after as') P (Return x) → (stepped as' P).reply ≡ returned v
    → tells_with as' (to_step P) ≡ tells as'

-- and no other step begins or ends one
pub data MovesFrames : Instruction → Type 0 where
  of-call : {to : Option Declared} {context : Option Operand} {f : ℕ} {arguments : List Operand} {return_pointer : Option ℕ} → MovesFrames (Call to context f arguments return_pointer)
  of-return : {x : Option Operand} → MovesFrames (Return x)

abbrev pub OthersMoveNone : Type 0
OthersMoveNone = (as' : List Ask) → Accepted as' → (P : Program) (i : Instruction) → At (state_after as') P i → (stepped as' P).reply ≡ done
    → MovesFrames i ⊎ ((tells_with as' (to_step P)).standing ≡ (tells as').standing)

-- ---- 8. and what was stored: "the one last stored at that place of that allocation, or zero"

-- These bytes were stored from the place o on of the allocation j of the frame f, and all else is as it was.
pub record Stores (h h' : History) (f j o : ℕ) (bs : List ℕ) : Type 0 where
  pub stored : (i : ℕ) → i < length bs → (made_at h'.made f j).byte (o + i) ≡ get_or bs i 0
  pub beside : (i : ℕ) → (i < o) ⊎ (o + length bs ≤ i) → (made_at h'.made f j).byte i ≡ (made_at h.made f j).byte i
  pub size : (made_at h'.made f j).size ≡ (made_at h.made f j).size
  pub others : (j' : ℕ) → j ≢ j' → made_at h'.made f j' ≡ made_at h.made f j'
  pub count : length (made_in h'.made f) ≡ length (made_in h.made f)
  pub elsewhere : (f' : ℕ) → f ≢ f' → made_in h'.made f' ≡ made_in h.made f'
  pub standing : h'.standing ≡ h.standing
  pub given : h'.given ≡ h.given

-- a Write stores the value's bytes, all of them
abbrev pub WritesStore : Type 0
WritesStore = (as' : List Ask) → Accepted as' → (P : Program) (x y : Operand) (p f j o : ℕ) (v : Value) → At (state_after as') P (Write x y)
    → pointer_of (state_after as').vars x ≡ ok p → value_of (state_after as').vars y ≡ ok v → StandsFor (tells as') p (of_place f j o) → (stepped as' P).reply ≡ done
    → Stores (tells as') (tells_with as' (to_step P)) f j o (bytes_of v)

-- a Copy those that were last stored where it reads
abbrev pub CopiesStore : Type 0
CopiesStore = (as' : List Ask) → Accepted as' → (P : Program) (q p n f j o f' j' o' : ℕ) → AtCopy (state_after as') P q p n → StandsFor (tells as') p (of_place f j o)
    → StandsFor (tells as') q (of_place f' j' o') → (stepped as' P).reply ≡ done
    → Stores (tells as') (tells_with as' (to_step P)) f' j' o' (bytes_from (made_at (tells as').made f j) o n)

-- a host's write the bytes that are given
abbrev pub HostWritesStore : Type 0
HostWritesStore = (as' : List Ask) → Accepted as' → (p f j o : ℕ) (bs : List ℕ) → StandsFor (tells as') p (of_place f j o) → (enter (to_write p bs) (state_after as')).reply ≡ done
    → Stores (tells as') (tells_with as' (to_write p bs)) f j o bs

-- how many allocations the frame has that began last of those that stand: the next one's number
abbrev pub next_in : History → ℕ
next_in h = length (made_in h.made (top_frame h))

-- An allocation of n bytes is made, the next of that frame. Its first bytes are these, and zeros after them; a pointer to its start was given, and all else is as it was.
pub record Makes (h h' : History) (n : ℕ) (bs : List ℕ) : Type 0 where
  pub size : (made_at h'.made (top_frame h) (next_in h)).size ≡ n
  pub bytes : (i : ℕ) → (made_at h'.made (top_frame h) (next_in h)).byte i ≡ get_or bs i 0
  pub given : h'.given ≡ h.given ++ (of_place (top_frame h) (next_in h) 0 ∷ [])
  pub others : (j : ℕ) → j < next_in h → made_at h'.made (top_frame h) j ≡ made_at h.made (top_frame h) j
  pub count : length (made_in h'.made (top_frame h)) ≡ next_in h + 1
  pub elsewhere : (f : ℕ) → top_frame h ≢ f → made_in h'.made f ≡ made_in h.made f
  pub standing : h'.standing ≡ h.standing

-- Initialize stores its bytes in it, and its variable is that pointer
abbrev pub InitializesMake : Type 0
InitializesMake = (as' : List Ask) → Accepted as' → (P : Program) (to n : ℕ) (bs : List ℕ) → At (state_after as') P (Initialize to n bs) → (stepped as' P).reply ≡ done
    → Makes (tells as') (tells_with as' (to_step P)) n bs × ((stepped as' P).machine.vars to ≡ some (value pointer (length (tells as').given)))

-- a host's allocation holds zeros alone
abbrev pub HostAllocationsMake : Type 0
HostAllocationsMake = (as' : List Ask) → Accepted as' → (n p : ℕ) → (enter (to_allocate n) (state_after as')).reply ≡ gave p
    → Makes (tells as') (tells_with as' (to_allocate n)) n [] × (p ≡ length (tells as').given)

-- ---- in plain words

-- A pointer made in a call is refused in every later state after that call has returned, whatever stands at its frame's index by then:
-- p is given for a place of the frame f, f has ended some asks later, and after any more asks every read and write through p is 27.
abbrev pub RefusedEverAfter : Type 0
RefusedEverAfter = (as' bs' cs' : List Ask) → Accepted ((as' ++ bs') ++ cs') → (p f j o : ℕ) → StandsFor (tells as') p (of_place f j o) → Ended (tells (as' ++ bs')) f
    → ((P : Program) (n : ℕ) → reply ((as' ++ bs') ++ cs') P p n ≡ refusal frame_gone)
    × ((constants : List (List ℕ)) (n : ℕ) → read_bytes constants (state_after ((as' ++ bs') ++ cs')).memory p n ≡ refused frame_gone)
    × ((bs : List ℕ) → write_bytes (state_after ((as' ++ bs') ++ cs')).memory p bs ≡ refused frame_gone)
