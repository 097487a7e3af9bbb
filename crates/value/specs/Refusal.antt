-- The refusals, each under one name, with the document's own words, and their numbers.
use Rattle.std.specs.Prelude.{ℕ}
use Rattle.value.specs.declared.refusal.Refusal.{Refusal}
use Rattle.value.specs.declared.refusal.Refusal.TheVariants as R

-- ---- loading

-- "bytes run out, in a number before its tenth"
abbrev pub bytes_run_out : Refusal
bytes_run_out = R.BytesRunOut

-- "number malformed"
abbrev pub malformed : Refusal
malformed = R.Malformed

-- "unknown tag, flag, opcode or version, or a value too large for its width or kind"
abbrev pub unknown : Refusal
unknown = R.Unknown

-- "a count, size or running total over its limit"
abbrev pub over_limit : Refusal
over_limit = R.OverLimit

-- "a variable, label, constant or function beyond its count"
abbrev pub beyond_count : Refusal
beyond_count = R.BeyondCount

-- "bytes left over"
abbrev pub left_over : Refusal
left_over = R.LeftOver

-- ---- entries

-- "state not sound"
abbrev pub not_sound : Refusal
not_sound = R.NotSound

-- "start on a running machine"
abbrev pub running : Refusal
running = R.Running

-- "run on an idle one"
abbrev pub idle : Refusal
idle = R.Idle

-- "no such function"
abbrev pub no_function : Refusal
no_function = R.NoFunction

-- "wrong number of arguments"
abbrev pub wrong_arguments : Refusal
wrong_arguments = R.WrongArguments

-- "a Char that is no scalar value"
abbrev pub not_scalar : Refusal
not_scalar = R.NotScalar

-- "list table shorter than the pointers"
abbrev pub short_table : Refusal
short_table = R.ShortTable

-- "image writer's buffer too short"
abbrev pub short_buffer : Refusal
short_buffer = R.ShortBuffer

-- ---- steps

-- "no instruction at this place"
abbrev pub no_instruction : Refusal
no_instruction = R.NoInstruction

-- "variable never set"
abbrev pub never_set : Refusal
never_set = R.NeverSet

-- "wrong kinds for the instruction"
abbrev pub wrong_kinds : Refusal
wrong_kinds = R.WrongKinds

-- "integer result outside its width"
abbrev pub outside_width : Refusal
outside_width = R.OutsideWidth

-- "integer division by zero"
abbrev pub zero_divisor : Refusal
zero_divisor = R.ZeroDivisor

-- "pointer number not given out"
abbrev pub not_given_out : Refusal
not_given_out = R.NotGivenOut

-- "write or offset through a constant pointer"
abbrev pub through_constant : Refusal
through_constant = R.ThroughConstant

-- "frame index not on the stack, or its id differs"
abbrev pub frame_gone : Refusal
frame_gone = R.FrameGone

-- "no such allocation in that frame"
abbrev pub no_allocation : Refusal
no_allocation = R.NoAllocation

-- "offset + size beyond the length"
abbrev pub beyond_length : Refusal
beyond_length = R.BeyondLength

-- "size does not divide offset; size 0 divides only 0"
abbrev pub misaligned : Refusal
misaligned = R.Misaligned

-- "Bool read from a byte above 1"
abbrev pub not_bool : Refusal
not_bool = R.NotBool

-- "value returned where the call had no place"
abbrev pub no_return_place : Refusal
no_return_place = R.NoReturnPlace

-- "offset sum above 2^64 - 1"
abbrev pub offset_too_large : Refusal
offset_too_large = R.OffsetTooLarge

-- "Initialize bytes exceed its size"
abbrev pub bytes_exceed_size : Refusal
bytes_exceed_size = R.BytesExceedSize

-- "64 frames stand, root included"
abbrev pub frames_full : Refusal
frames_full = R.FramesFull

-- "id counter is 4,294,967,295"
abbrev pub ids_spent : Refusal
ids_spent = R.IdsSpent

-- "512 live allocations"
abbrev pub allocations_full : Refusal
allocations_full = R.AllocationsFull

-- "live bytes plus the request exceed 32,768"
abbrev pub bytes_full : Refusal
bytes_full = R.BytesFull

-- "4,096 pointers given out"
abbrev pub pointers_full : Refusal
pointers_full = R.PointersFull

-- "constant not in this image"
abbrev pub no_constant : Refusal
no_constant = R.NoConstant

-- ---- their numbers

abbrev pub number_of : Refusal → ℕ
number_of R.BytesRunOut = 1
number_of R.Malformed = 2
number_of R.Unknown = 3
number_of R.OverLimit = 4
number_of R.BeyondCount = 5
number_of R.LeftOver = 6
number_of R.NotSound = 10
number_of R.Running = 11
number_of R.Idle = 12
number_of R.NoFunction = 13
number_of R.WrongArguments = 14
number_of R.NotScalar = 15
number_of R.ShortTable = 41
number_of R.ShortBuffer = 42
number_of R.NoInstruction = 20
number_of R.NeverSet = 21
number_of R.WrongKinds = 22
number_of R.OutsideWidth = 23
number_of R.ZeroDivisor = 24
number_of R.NotGivenOut = 25
number_of R.ThroughConstant = 26
number_of R.FrameGone = 27
number_of R.NoAllocation = 28
number_of R.BeyondLength = 29
number_of R.Misaligned = 30
number_of R.NotBool = 31
number_of R.NoReturnPlace = 32
number_of R.OffsetTooLarge = 33
number_of R.BytesExceedSize = 34
number_of R.FramesFull = 35
number_of R.IdsSpent = 36
number_of R.AllocationsFull = 37
number_of R.BytesFull = 38
number_of R.PointersFull = 39
number_of R.NoConstant = 40
