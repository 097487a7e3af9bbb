-- P4, P5 and the access parts of P7 and P10, by their numbers, as one list that is computed: what each asks of the memory, and what it must answer.
use Rattle.std.specs.Prelude.{ℕ, Bool, false, List, [], ◌∷◌, ◌++◌, replicate, T, eqb}
use Rattle.std.proofs.Math.Option.{Option, none, some}
use Rattle.value.specs.Refusal.{frame_gone, beyond_length, misaligned, not_bool, not_sound, number_of}
use Rattle.value.specs.Answer.{Answer, ok, refused, need, ◌>>=◌}
use Rattle.value.specs.Cases.{Case, all_hold}
use Rattle.value.specs.Value.{IrType, bytes_of, kind_of, tag, size, le_bytes, le_number, from_bytes}
use Rattle.value.specs.Bytes.{same_bytes}
use Rattle.memory.specs.Memory.{Memory, Back, fresh, sum, live_count, live_bytes, allocate, access, write_at, write_bytes, read_at, read_bytes, offset_at, offset_by, push_frame, pop_frame, no_back}

-- ---- a case

unfoldable pub same_answer : Answer (List ℕ) → Answer (List ℕ) → Bool
same_answer (ok a) (ok b) = same_bytes a b
same_answer (ok a) (refused n) = false
same_answer (refused m) (ok b) = false
same_answer (refused m) (refused n) = eqb (number_of m) (number_of n)

-- of one of P1 to P11: what is asked, and what it must answer
abbrev pub gives : (number : ℕ) → Answer (List ℕ) → Answer (List ℕ) → Case
gives p a b = record { number = p; holds = same_answer a b }

-- ---- what is asked

-- pointer 1 leads so far into an allocation of 8 bytes
unfoldable pub pointed : (offset : ℕ) → Answer Memory
pointed o = do
  m ← allocate fresh 8
  offset_by m 0 o

unfoldable pub read_there : (offset size : ℕ) → Answer (List ℕ)
read_there o n = do
  m ← pointed o
  read_bytes [] m 1 n

-- as many bytes of 7, written there; then the whole allocation
unfoldable pub written_there : (offset size : ℕ) → Answer (List ℕ)
written_there o n = do
  m ← pointed o
  m ← write_bytes m 1 (replicate n 7)
  read_bytes [] m 0 8

-- a byte is written and read as a Bool
unfoldable pub read_as_bool : (byte : ℕ) → Answer (List ℕ)
read_as_bool b = do
  m ← allocate fresh 1
  m ← write_bytes m 0 (b ∷ [])
  bs ← read_bytes [] m 0 1
  v ← from_bytes IrType.Boolean bs
  ok (bytes_of v)

unfoldable pub popped_off : Option (Back × Memory) → Answer Memory
popped_off none = refused not_sound
popped_off (some (b, m)) = ok m

-- a frame's pointer, after that frame returned and another stands at its index, with an allocation of its own
unfoldable pub after_return : Answer (List ℕ)
after_return = do
  m ← push_frame fresh no_back
  m ← allocate m 8
  m ← popped_off (pop_frame m)
  m ← push_frame m no_back
  m ← allocate m 8
  read_bytes [] m 0 4

-- ---- the list

-- "P4 length 8, size 4: offset 4 granted, 2 is 30, 6 is 29."
abbrev pub p4 : List Case
p4 =
    gives 4 (read_there 4 4) (ok (0 ∷ 0 ∷ 0 ∷ 0 ∷ [])) ∷
    gives 4 (read_there 2 4) (refused misaligned) ∷
    gives 4 (read_there 6 4) (refused beyond_length) ∷
    gives 4 (written_there 4 4) (ok (0 ∷ 0 ∷ 0 ∷ 0 ∷ 7 ∷ 7 ∷ 7 ∷ 7 ∷ [])) ∷
    gives 4 (written_there 2 4) (refused misaligned) ∷
    gives 4 (written_there 6 4) (refused beyond_length) ∷
    []

-- "P5 length 8, size 0: offset 0 granted, 8 is 30, 9 is 29."
abbrev pub p5 : List Case
p5 =
    gives 5 (read_there 0 0) (ok []) ∷
    gives 5 (read_there 8 0) (refused misaligned) ∷
    gives 5 (read_there 9 0) (refused beyond_length) ∷
    gives 5 (written_there 0 0) (ok (0 ∷ 0 ∷ 0 ∷ 0 ∷ 0 ∷ 0 ∷ 0 ∷ 0 ∷ [])) ∷
    gives 5 (written_there 8 0) (refused misaligned) ∷
    gives 5 (written_there 9 0) (refused beyond_length) ∷
    []

-- "P7 Bool from byte 2 is 31."
abbrev pub p7 : List Case
p7 = gives 7 (read_as_bool 1) (ok (1 ∷ [])) ∷ gives 7 (read_as_bool 2) (refused not_bool) ∷ []

-- "P10 pointer of a returned frame, another frame now at its index: 27."
abbrev pub p10 : List Case
p10 = gives 10 after_return (refused frame_gone) ∷ []

abbrev pub cases : List Case
cases = p4 ++ (p5 ++ (p7 ++ p10))

pub cases_hold : T (all_hold cases)
unfolding
    all_hold same_answer same_bytes read_there written_there pointed read_as_bool after_return popped_off
    fresh sum live_count live_bytes allocate access offset_at offset_by write_at write_bytes read_at read_bytes push_frame pop_frame
    from_bytes bytes_of kind_of tag size le_bytes le_number need ◌>>=◌
cases_hold = tt
