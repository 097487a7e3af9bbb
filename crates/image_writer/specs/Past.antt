-- How far the fields of an image reach, their limits left aside: what the private parts of the writer's walk promise. The entry's contract rests on `loaded` and `written` alone.
use Rattle.std.specs.Prelude.{ℕ, zero, suc, Bool, false, ◌||◌, List, [], ◌∷◌, eqb}
use Rattle.value.specs.Answer.{pick}
use Rattle.image.specs.Parse.{Got, took, refused, Field, give, ◌>>=◌}
use Rattle.image.specs.Number.{number}
use Rattle.image.specs.Fields.{raw}

-- the place after what was read, or where it stood
abbrev pub end_of : {A : Type 0} → Got A → ℕ → ℕ
end_of (took a next) at = next
end_of (refused n place) at = at

-- the value, or `d` where it was refused
abbrev pub or_else : {A : Type 0} → A → Got A → A
or_else d (took a next) = a
or_else d (refused n place) = d

-- so many times, one after another
unfoldable pub times : ℕ → (ℕ → ℕ) → ℕ → ℕ
times zero past at = at
times (suc n) past at = times n past (past at)

unfoldable pub among : List ℕ → ℕ → Bool
among [] x = false
among (k ∷ ks) x = eqb x k || among ks x

module _ (s : List ℕ) where
  unfoldable pub number_at : ℕ → ℕ
  number_at at = or_else 0 (number s at)

  unfoldable pub past_number : ℕ → ℕ
  past_number at = end_of (number s at) at

  -- two numbers: an operand's tag and bits, a slot, a branch, a declaration
  unfoldable pub pair : Field (ℕ × ℕ)
  pair = number s >>= λ first. number s >>= λ second. give (first, second)

  unfoldable pub past_pair : ℕ → ℕ
  past_pair at = end_of (pair at) at

  unfoldable pub past_raw : (count : ℕ) → ℕ → ℕ
  past_raw count at = end_of (raw s count at) at

  -- a mark, and what follows the mark 1
  unfoldable pub past_optional : (ℕ → ℕ) → ℕ → ℕ
  past_optional past at = pick (eqb (number_at at) 0) (past_number at) (past (past_number at))

  -- a count, and as many items
  unfoldable pub past_list : (ℕ → ℕ) → ℕ → ℕ
  past_list past at = times (number_at at) past (past_number at)

  unfoldable pub past_bytes : ℕ → ℕ
  past_bytes at = past_raw (number_at at) (past_number at)

  -- ---- the fields of the opcodes, by their shapes

  -- operand, branches, label
  unfoldable pub past_switch : ℕ → ℕ
  past_switch at = past_number (past_list past_pair (past_pair at))

  -- declaration, context, function, arguments, variable
  unfoldable pub past_call : ℕ → ℕ
  past_call at = past_optional past_number (past_list past_pair (past_number (past_optional past_pair (past_optional past_pair at))))

  -- to, comparison or flag, two operands
  unfoldable pub past_chosen : ℕ → ℕ
  past_chosen at = past_pair (past_pair (past_number (past_number at)))

  -- to, two operands
  unfoldable pub past_three : ℕ → ℕ
  past_three at = past_pair (past_pair (past_number at))

  -- to, operand, type or number
  unfoldable pub past_typed : ℕ → ℕ
  past_typed at = past_number (past_pair (past_number at))

  -- to, operand
  unfoldable pub past_two : ℕ → ℕ
  past_two at = past_pair (past_number at)

  -- to, size, bytes
  unfoldable pub past_initialize : ℕ → ℕ
  past_initialize at = past_bytes (past_number (past_number at))

  -- two operands
  unfoldable pub past_write : ℕ → ℕ
  past_write at = past_pair (past_pair at)

  -- two operands, number
  unfoldable pub past_copy : ℕ → ℕ
  past_copy at = past_number (past_pair (past_pair at))

  -- the fields that an opcode has
  unfoldable pub past_fields : (opcode : ℕ) → ℕ → ℕ
  past_fields opcode at =
      pick (among (0 ∷ []) opcode) (past_number at)
      (pick (among (1 ∷ []) opcode) (past_switch at)
      (pick (among (2 ∷ 16 ∷ 19 ∷ []) opcode) (past_typed at)
      (pick (among (3 ∷ 21 ∷ []) opcode) (past_pair at)
      (pick (among (4 ∷ []) opcode) (past_call at)
      (pick (among (5 ∷ []) opcode) (past_optional past_pair at)
      (pick (among (6 ∷ 11 ∷ []) opcode) (past_chosen at)
      (pick (among (7 ∷ 12 ∷ []) opcode) (past_chosen at)
      (pick (among (8 ∷ 10 ∷ 13 ∷ []) opcode) (past_three at)
      (pick (among (9 ∷ []) opcode) (past_three at)
      (pick (among (14 ∷ []) opcode) (past_two at)
      (pick (among (15 ∷ []) opcode) (past_two at)
      (pick (among (17 ∷ []) opcode) (past_initialize at)
      (pick (among (18 ∷ []) opcode) (past_write at)
      (pick (among (20 ∷ []) opcode) (past_copy at) at))))))))))))))

  unfoldable pub past_instruction : ℕ → ℕ
  past_instruction at = past_fields (number_at at) (past_number at)

  -- ---- the parts of an image

  -- kind, entry, return variable, context variable, flag, parameters, slots
  unfoldable pub past_function : ℕ → ℕ
  past_function at = past_list past_pair (past_list past_number (times 5 past_number at))

  -- constants, functions, blocks
  unfoldable pub past_parts : (constants functions blocks : ℕ) → ℕ → ℕ
  past_parts constants functions blocks at = times blocks (past_list past_instruction) (times functions past_function (times constants past_bytes at))

  -- version and variables, the other counts, and what they count
  unfoldable pub past_whole : ℕ → ℕ
  past_whole at =
      let constants = times 2 past_number at in
      let functions = past_number constants in
      let blocks = past_number functions in
      past_parts (number_at constants) (number_at functions) (number_at blocks) (past_number blocks)
