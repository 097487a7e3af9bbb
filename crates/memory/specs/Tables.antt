-- What the code does to its registers and to each element of the lent tables, stale ones included. `View` joins this to the memory a reader believes.
use Rattle.std.specs.Prelude.{List, Bool, true, not, ◌&&◌, ℕ, zero, suc, ◌+◌, ◌-◌, ◌*◌, ◌/◌, ◌%◌, get_or, set, length, take, drop, replicate, ltb, leb, eqb, Result, Ok, Err, Option, Some, None, ⊤}
use Rattle.std.proofs.Math.Seq.{paste}
use Rattle.value.specs.declared.refusal.Refusal.{Refusal}
use Rattle.value.specs.Answer.{pick}
use Rattle.value.specs.Refusal.{not_sound, short_table, not_given_out, through_constant, frame_gone, no_allocation, beyond_length, misaligned, offset_too_large, frames_full, ids_spent, allocations_full, bytes_full, pointers_full, no_constant}
use Rattle.memory.specs.declared.Registers.{Registers}
use Rattle.memory.specs.declared.PointerRecord.{PointerRecord}
use Rattle.value.specs.Tags.{kind_at, held}
use Rattle.memory.specs.declared.LiveRecord.{LiveRecord}
use Rattle.memory.specs.declared.Popped.{Popped}
use Rattle.memory.specs.declared.Source.{Source}
use Rattle.memory.specs.declared.Source.TheVariants as source

-- ---- the tables

-- registers and the memory's tables
pub record Tables : Type 0 where
  pub registers : Registers
  pub store : List ℕ
  pub frames : List ℕ
  pub bounds : List ℕ
  pub pointers : List ℕ

abbrev pub tables : Registers → (store frames bounds pointers : List ℕ) → Tables
tables m s f b p = record { registers = m; store = s; frames = f; bounds = b; pointers = p }

abbrev pub registers : (running next counter depth pointers : ℕ) → Registers
registers a b c d e = record { running = a; next = b; counter = c; depth = d; pointers = e }

-- the same, with so many pointers
abbrev pub with_pointers : Registers → ℕ → Registers
with_pointers m n = registers m.running m.next m.counter m.depth n

-- an answer, with the one table that a function changes
pub record Both (A : Type 0) : Type 0 where
  pub answer : A
  pub table : List ℕ

abbrev pub both : {A : Type 0} → A → List ℕ → Both A
both a l = record { answer = a; table = l }

-- an answer, with the memory's tables
pub record Out : Type 0 where
  pub answer : Result (ℕ × Registers) Refusal
  pub store : List ℕ
  pub frames : List ℕ
  pub bounds : List ℕ
  pub pointers : List ℕ

abbrev pub out : (Result (ℕ × Registers) Refusal) → (store frames bounds pointers : List ℕ) → Out
out a s f b p = record { answer = a; store = s; frames = f; bounds = b; pointers = p }

-- an answer, with all tables
pub record All : Type 0 where
  pub answer : Result Registers Refusal
  pub store : List ℕ
  pub frames : List ℕ
  pub bounds : List ℕ
  pub pointers : List ℕ
  pub variables : List ℕ

abbrev pub all : (Result Registers Refusal) → (store frames bounds pointers variables : List ℕ) → All
all a s f b p v = record { answer = a; store = s; frames = f; bounds = b; pointers = p; variables = v }

-- the tables have their lengths, and depth and pointers lie in them
unfoldable pub ready_of : (depth given store frames bounds pointers : ℕ) → Bool
ready_of d n s f b p = eqb s 32768 && (eqb f 260 && (eqb b 513 && (eqb p 20480 && (leb d 64 && leb n 4096))))

abbrev pub ready : Tables → Bool
ready t =
    ready_of t.registers.depth t.registers.pointers (length t.store) (length t.frames) (length t.bounds) (length t.pointers)

-- ---- words

-- word c of frame i's record; from 4 on, of the record above it
abbrev pub frame_word : List ℕ → (i c : ℕ) → ℕ
frame_word fr i c = get_or fr (i * 4 + c) 0

abbrev pub bound : Tables → ℕ → ℕ
bound t k = get_or t.bounds k 0

-- how many allocations live: the record above the top has it
abbrev pub live : Tables → ℕ
live t = get_or t.frames (t.registers.depth * 4 + 3) 0

abbrev pub top_first : Tables → ℕ
top_first t = get_or t.frames (t.registers.depth * 4 - 1) 0

abbrev pub top_id : Tables → ℕ
top_id t = get_or t.frames (t.registers.depth * 4 - 4) 0

abbrev pub pointer : (kind index id allocation offset : ℕ) → PointerRecord
pointer a b c d e = record { kind = a; index = b; id = c; allocation = d; offset = e }

unfoldable pub pointer_at : List ℕ → ℕ → PointerRecord
pointer_at l p =
    pointer (get_or l (p * 5) 0) (get_or l (p * 5 + 1) 0) (get_or l (p * 5 + 2) 0) (get_or l (p * 5 + 3) 0) (get_or l (p * 5 + 4) 0)

abbrev pub pointer_set : List ℕ → ℕ → PointerRecord → List ℕ
pointer_set l p v =
    set (set (set (set (set l (p * 5) v.kind) (p * 5 + 1) v.index) (p * 5 + 2) v.id) (p * 5 + 3) v.allocation) (p * 5 + 4) v.offset

-- ---- fresh

-- every element is 0: a root frame with id 0, return place 0, no return variable and no allocation
abbrev pub cleared : (store frames bounds pointers variables : List ℕ) → All
cleared s f b p v =
    all (Ok (registers 0 0 1 1 0))
    (replicate (length s) 0) (replicate (length f) 0) (replicate (length b) 0) (replicate (length p) 0) (replicate (length v) 0)

unfoldable pub fresh_of : (store frames bounds pointers variables : List ℕ) → All
fresh_of s f b p v =
    pick (ready (tables (registers 0 0 1 1 0) s f b p))
    (pick (eqb (length v) 512) (cleared s f b p v) (all (Err not_sound) s f b p v))
    (all (Err not_sound) s f b p v)

-- ---- frames

-- the record at d is the new frame's, and the one above it has the number of live allocations
abbrev pub frame_set : List ℕ → (d id place variable : ℕ) → List ℕ
frame_set l d id place variable =
    set (set (set (set l (d * 4) id) (d * 4 + 1) place) (d * 4 + 2) variable) (d * 4 + 7) (get_or l (d * 4 + 3) 0)

unfoldable pub pushed_of : Registers → (place variable : ℕ) → List ℕ → Both (Result Registers Refusal)
pushed_of m place variable l =
    pick (eqb (length l) 260)
    (pick (leb 64 m.depth) (both (Err frames_full) l)
    (pick (leb 4294967295 m.counter) (both (Err ids_spent) l)
    (both (Ok (registers m.running m.next (m.counter + 1) (m.depth + 1) m.pointers))
    (frame_set l m.depth m.counter place variable))))
    (both (Err not_sound) l)

abbrev pub lowered : Registers → Registers
lowered m = registers m.running m.next m.counter (m.depth - 1) m.pointers

abbrev pub popped : (place variable : ℕ) → Registers → Popped
popped p v m = record { place = p; variable = v; registers = m }

unfoldable pub popped_of : Registers → List ℕ → Result (Option Popped) Refusal
popped_of m l =
    pick (eqb (length l) 260)
    (pick (ltb 64 m.depth) (Err not_sound)
    (pick (leb m.depth 1) (Ok None)
    (Ok (Some (popped (get_or l (m.depth * 4 - 3) 0) (get_or l (m.depth * 4 - 2) 0) (lowered m))))))
    (Err not_sound)

-- ---- allocations

-- n elements from `from` on are 0, the others as they were
unfoldable pub zeroed : List ℕ → (from n : ℕ) → List ℕ
zeroed s from zero = s
zeroed s from (suc n) = set (zeroed s from n) (from + n) 0

unfoldable pub room_of : (used size given : ℕ) → Result ⊤ Refusal
room_of u size p =
    pick (ltb 32768 u) (Err bytes_full)
    (pick (ltb (32768 - u) size) (Err bytes_full)
    (pick (leb 4096 p) (Err pointers_full) (Ok tt)))

abbrev pub more : Registers → Registers
more m = with_pointers m (m.pointers + 1)

abbrev pub made : Tables → ℕ → Out
made t size =
    out (Ok (t.registers.pointers, more t.registers))
    (zeroed t.store (bound t (live t)) size)
    (set t.frames (t.registers.depth * 4 + 3) (live t + 1))
    (set t.bounds (live t + 1) (bound t (live t) + size))
    (pointer_set t.pointers t.registers.pointers (pointer 0 (t.registers.depth - 1) (top_id t) (live t - top_first t) 0))

abbrev pub unmade : Tables → Refusal → Out
unmade t n = out (Err n) t.store t.frames t.bounds t.pointers

-- where there is room
abbrev pub made_where : Tables → (size : ℕ) → Result ⊤ Refusal → Out
made_where t size (Ok u) = made t size
made_where t size (Err n) = unmade t n

unfoldable pub allocated_of : Tables → (size : ℕ) → Out
allocated_of t size =
    pick (ready t)
    (pick (eqb t.registers.depth 0) (unmade t not_sound)
    (pick (ltb (live t) (top_first t)) (unmade t not_sound)
    (pick (leb 512 (live t)) (unmade t allocations_full)
    (made_where t size (room_of (bound t (live t)) size t.registers.pointers)))))
    (unmade t not_sound)

-- ---- accesses

unfoldable pub aligned_of : (offset size : ℕ) → Bool
aligned_of offset size = pick (eqb size 0) (eqb offset 0) (eqb (offset % size) 0)

unfoldable pub within_of : (start stop offset size : ℕ) → Result ℕ Refusal
within_of start stop offset n =
    pick (ltb 32768 stop) (Err beyond_length)
    (pick (ltb stop start) (Err beyond_length)
    (pick (ltb (stop - start) n) (Err beyond_length)
    (pick (ltb (stop - start - n) offset) (Err beyond_length)
    (pick (aligned_of offset n) (Ok (start + offset)) (Err misaligned)))))

-- the rank of frame f's allocation a among all
unfoldable pub ranked_of : List ℕ → (f a : ℕ) → Result ℕ Refusal
ranked_of fr f a =
    pick (ltb 512 (frame_word fr f 7)) (Err no_allocation)
    (pick (ltb (frame_word fr f 7) (frame_word fr f 3)) (Err no_allocation)
    (pick (leb (frame_word fr f 7 - frame_word fr f 3) a) (Err no_allocation) (Ok (frame_word fr f 3 + a))))

unfoldable pub standing_of : (depth : ℕ) → List ℕ → PointerRecord → Result ℕ Refusal
standing_of d fr q =
    pick (leb d q.index) (Err frame_gone)
    (pick (eqb (get_or fr (q.index * 4) 0) q.id) (ranked_of fr q.index q.allocation) (Err frame_gone))

-- the same for any depth and any frames: 10 first
unfoldable pub stands_of : (depth : ℕ) → List ℕ → PointerRecord → Result ℕ Refusal
stands_of d fr q =
    pick (eqb (length fr) 260)
    (pick (ltb 64 d) (Err not_sound) (standing_of d fr q))
    (Err not_sound)

abbrev pub from_store : (Result ℕ Refusal) → Result Source Refusal
from_store (Ok at) = Ok (source.Local at)
from_store (Err n) = Err n

abbrev pub accessed_at : (Result ℕ Refusal) → List ℕ → (offset size : ℕ) → Result Source Refusal
accessed_at (Ok k) bo offset n = from_store (within_of (get_or bo k 0) (get_or bo (k + 1) 0) offset n)
accessed_at (Err n') bo offset n = Err n'

unfoldable pub local_of : (depth : ℕ) → (frames bounds : List ℕ) → PointerRecord → (size : ℕ) → Result Source Refusal
local_of d fr bo q n = accessed_at (standing_of d fr q) bo q.offset n

unfoldable pub read_access_of : Tables → (p size : ℕ) → Result Source Refusal
read_access_of t p n =
    pick (ready t)
    (pick (leb t.registers.pointers p) (Err not_given_out)
    (pick (eqb (pointer_at t.pointers p).kind 0)
    (local_of t.registers.depth t.frames t.bounds (pointer_at t.pointers p) n)
    (Ok (source.Constant (pointer_at t.pointers p).index))))
    (Err not_sound)

-- a write goes through no constant
abbrev pub for_write : (Result Source Refusal) → Result ℕ Refusal
for_write (Ok (source.Local at)) = Ok at
for_write (Ok (source.Constant k)) = Err through_constant
for_write (Err n) = Err n

unfoldable pub write_access_of : Tables → (p size : ℕ) → Result ℕ Refusal
write_access_of t p n = for_write (read_access_of t p n)

abbrev pub put_at : (Result ℕ Refusal) → (store bytes : List ℕ) → Both (Result ⊤ Refusal)
put_at (Ok at) store bytes = both (Ok tt) (paste store at bytes (length bytes))
put_at (Err n) store bytes = both (Err n) store

unfoldable pub written_of : Tables → ℕ → (bytes : List ℕ) → Both (Result ⊤ Refusal)
written_of t p bytes = put_at (write_access_of t p (length bytes)) t.store bytes

-- a constant's record of `extents` has its start and its length in `raw`: where its first bytes stand
unfoldable pub constant_access_of : (k size : ℕ) → (raw extents : List ℕ) → Result ℕ Refusal
constant_access_of k n raw extents =
    pick (leb (length extents / 2) k) (Err no_constant)
    (pick (ltb (length raw) (get_or extents (k * 2) 0)) (Err no_constant)
    (pick (ltb (length raw - get_or extents (k * 2) 0) (get_or extents (k * 2 + 1) 0)) (Err no_constant)
    (pick (ltb (get_or extents (k * 2 + 1) 0) n) (Err beyond_length) (Ok (get_or extents (k * 2) 0)))))

abbrev pub taken_at : (Result ℕ Refusal) → (bytes raw : List ℕ) → Both (Result ⊤ Refusal)
taken_at (Ok at) bytes raw = both (Ok tt) (take (length bytes) (drop at raw))
taken_at (Err n) bytes raw = both (Err n) bytes

unfoldable pub constant_of : ℕ → (bytes raw extents : List ℕ) → Both (Result ⊤ Refusal)
constant_of k bytes raw extents = taken_at (constant_access_of k (length bytes) raw extents) bytes raw

abbrev pub get_at : (Result Source Refusal) → (store bytes raw extents : List ℕ) → Both (Result ⊤ Refusal)
get_at (Ok (source.Local at)) store bytes raw extents = both (Ok tt) (take (length bytes) (drop at store))
get_at (Ok (source.Constant k)) store bytes raw extents = constant_of k bytes raw extents
get_at (Err n) store bytes raw extents = both (Err n) bytes

unfoldable pub read_of : Tables → ℕ → (bytes raw extents : List ℕ) → Both (Result ⊤ Refusal)
read_of t p bytes raw extents = get_at (read_access_of t p (length bytes)) t.store bytes raw extents

-- what was read is written
abbrev pub written_next : Tables → (to : ℕ) → (Result ⊤ Refusal) → (bytes : List ℕ) → Both (Result ⊤ Refusal)
written_next t to (Ok u) bytes = written_of t to bytes
written_next t to (Err n) bytes = both (Err n) t.store

abbrev pub written_after : Tables → (to : ℕ) → Both (Result ⊤ Refusal) → Both (Result ⊤ Refusal)
written_after t to r = written_next t to r.answer r.table

-- "Copy checks its read in full, then its write; bytes as before the copy."
unfoldable pub copied_of : Tables → (to from size : ℕ) → (raw extents : List ℕ) → Both (Result ⊤ Refusal)
copied_of t to from n raw extents = written_after t to (read_of t from (replicate n 0) raw extents)

-- ---- pointers

abbrev pub handed : Registers → PointerRecord → List ℕ → Both (Result (ℕ × Registers) Refusal)
handed m q l = both (Ok (m.pointers, more m)) (pointer_set l m.pointers q)

unfoldable pub offset_of : Registers → (p by : ℕ) → List ℕ → Both (Result (ℕ × Registers) Refusal)
offset_of m p by l =
    pick (eqb (length l) 20480)
    (pick (ltb 4096 m.pointers) (both (Err not_sound) l)
    (pick (leb m.pointers p) (both (Err not_given_out) l)
    (pick (eqb (pointer_at l p).kind 0)
    (pick (ltb (18446744073709551615 - by) (pointer_at l p).offset) (both (Err offset_too_large) l)
    (pick (leb 4096 m.pointers) (both (Err pointers_full) l)
    (handed m (pointer 0 (pointer_at l p).index (pointer_at l p).id (pointer_at l p).allocation ((pointer_at l p).offset + by)) l)))
    (both (Err through_constant) l))))
    (both (Err not_sound) l)

unfoldable pub address_of : Registers → (k : ℕ) → List ℕ → Both (Result (ℕ × Registers) Refusal)
address_of m k l =
    pick (eqb (length l) 20480)
    (pick (leb 4096 m.pointers) (both (Err pointers_full) l) (handed m (pointer 1 k 0 0 0) l))
    (both (Err not_sound) l)

-- ---- the live list

abbrev pub live_record : (live frame allocation offset : ℕ) → LiveRecord
live_record l f a o = record { live = l; frame = f; allocation = a; offset = o }

abbrev pub flag_of : (Result ℕ Refusal) → ℕ
flag_of (Ok k) = 1
flag_of (Err n) = 0

unfoldable pub record_of : (depth : ℕ) → (frames : List ℕ) → PointerRecord → LiveRecord
record_of d fr q =
    pick (eqb q.kind 0) (live_record (flag_of (standing_of d fr q)) q.index q.allocation q.offset) (live_record 0 0 0 0)

-- f 0 to f (n - 1) in place of the first n
unfoldable pub filled : (n : ℕ) → (ℕ → ℕ) → List ℕ → List ℕ
filled zero f l = l
filled (suc n) f l = set (filled n f l) n (f n)

pub record Columns : Type 0 where
  pub live : List ℕ
  pub frame : List ℕ
  pub allocation : List ℕ
  pub offset : List ℕ

abbrev pub columns : (live frame allocation offset : List ℕ) → Columns
columns l f a o = record { live = l; frame = f; allocation = a; offset = o }

abbrev pub filled_of : (depth n : ℕ) → (frames pointers live frame allocation offset : List ℕ) → Columns
filled_of d n fr ps l f a o =
    columns
    (filled n (λ p. (record_of d fr (pointer_at ps p)).live) l)
    (filled n (λ p. (record_of d fr (pointer_at ps p)).frame) f)
    (filled n (λ p. (record_of d fr (pointer_at ps p)).allocation) a)
    (filled n (λ p. (record_of d fr (pointer_at ps p)).offset) o)

-- an answer, with the four slices
pub record Listing : Type 0 where
  pub answer : Result ⊤ Refusal
  pub slices : Columns

abbrev pub listing : (Result ⊤ Refusal) → (live frame allocation offset : List ℕ) → Listing
listing r l f a o = record { answer = r; slices = columns l f a o }

unfoldable pub roomy_of : (n live frame allocation offset : ℕ) → Bool
roomy_of n l f a o = leb n l && (leb n f && (leb n a && leb n o))

unfoldable pub listed_of : Tables → (live frame allocation offset : List ℕ) → Listing
listed_of t l f a o =
    pick (ready t)
    (pick (roomy_of t.registers.pointers (length l) (length f) (length a) (length o))
    (record { answer = (Ok tt); slices = filled_of t.registers.depth t.registers.pointers t.frames t.pointers l f a o })
    (listing (Err short_table) l f a o))
    (listing (Err not_sound) l f a o)

-- ---- a sound state

-- the whole state: the memory's tables, and the variables
pub record State : Type 0 where
  pub memory : Tables
  pub variables : List ℕ

abbrev pub state : Tables → List ℕ → State
state t vs = record { memory = t; variables = vs }

-- f holds of each number below n
unfoldable pub every : ℕ → (ℕ → Bool) → Bool
every zero f = true
every (suc n) f = every n f && f n

-- the id that frame i's lies below: that of the frame above, and above the top the counter
unfoldable pub id_above : List ℕ → (depth counter i : ℕ) → ℕ
id_above fr d counter i = pick (ltb (i + 1) d) (get_or fr (i * 4 + 4) 0) counter

-- ids rise; return places are at most 4,096 and return variables below 256; first allocations never fall
unfoldable pub frame_ok : List ℕ → (depth counter i : ℕ) → Bool
frame_ok fr d counter i =
    ltb (get_or fr (i * 4) 0) (id_above fr d counter i)
    && (leb (frame_word fr i 1) 4096 && (leb (frame_word fr i 2) 256 && leb (frame_word fr i 3) (frame_word fr i 7)))

unfoldable pub bound_ok : List ℕ → ℕ → Bool
bound_ok bo k = leb (get_or bo k 0) (get_or bo (k + 1) 0)

-- a pointer is local or constant, and a constant's other fields are 0
unfoldable pub pointer_ok : PointerRecord → Bool
pointer_ok q =
    pick (eqb q.kind 0) true (eqb q.kind 1 && (eqb q.id 0 && (eqb q.allocation 0 && eqb q.offset 0)))

unfoldable pub pointers_ok : List ℕ → ℕ → Bool
pointers_ok ps p = pointer_ok (pointer_at ps p)

-- a tag is 0, with bits 0, or that of a kind, with bits of that kind
unfoldable pub stored_ok : (tag bits : ℕ) → Bool
stored_ok t b = pick (eqb t 0) (eqb b 0) (held (kind_at t) b)

unfoldable pub variable_ok : List ℕ → ℕ → Bool
variable_ok vs x = stored_ok (get_or vs (x * 2) 0) (get_or vs (x * 2 + 1) 0)

-- flags are 0 or 1; idle only at depth 1
unfoldable pub registers_ok : (running next depth : ℕ) → Bool
registers_ok running next depth = leb next 4096 && pick (eqb running 1) true (eqb running 0 && eqb depth 1)

unfoldable pub ends_ok : (id first start : ℕ) → Bool
ends_ok id first start = eqb id 0 && (eqb first 0 && eqb start 0)

unfoldable pub allocations_ok : (live : ℕ) → List ℕ → Bool
allocations_ok n bo = leb n 512 && (every n (bound_ok bo) && leb (get_or bo n 0) 32768)

unfoldable pub memory_ok : Tables → Bool
memory_ok t =
    ready t
    && (not (eqb t.registers.depth 0)
    && (leb t.registers.counter 4294967295
    && (ends_ok (get_or t.frames 0 0) (get_or t.frames 3 0) (get_or t.bounds 0 0)
    && (every t.registers.depth (frame_ok t.frames t.registers.depth t.registers.counter)
    && (allocations_ok (live t) t.bounds
    && every t.registers.pointers (pointers_ok t.pointers))))))

unfoldable pub sound_of : State → Bool
sound_of s =
    memory_ok s.memory
    && (eqb (length s.variables) 512
    && (registers_ok s.memory.registers.running s.memory.registers.next s.memory.registers.depth
    && every 256 (variable_ok s.variables)))
