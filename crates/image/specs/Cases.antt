-- Small images and what loading answers: P1's program, which is written as its image again, and each refusal from 1 to 6 with its place, as one list that is computed; and P11.
use Rattle.std.specs.Prelude.{ℕ, Bool, true, false, ◌&&◌, List, [], ◌∷◌, ◌≡◌, refl, length, take, replicate, eqb}
use Rattle.std.proofs.Math.Option.{some}
use Rattle.value.specs.Cases.{Case, all_hold}
use Rattle.value.specs.declared.refusal.Refusal as Enum
use Rattle.value.specs.Refusal.{bytes_run_out, malformed, unknown, over_limit, beyond_count, left_over, number_of}
use Rattle.value.specs.Value.{Kind, value, tag, is_scalar}
use Rattle.value.specs.Bytes.{same_bytes}
use Rattle.value.specs.Tags.{named, kind_at, type_of_kind, typed, holds, int_cmp_at}
use Rattle.image.specs.Parse.{Got, took, refused, and_then, many, within}
use Rattle.image.specs.Number.{groups, number, bytes_of, bytes_from}
use Rattle.image.specs.Fields.{such, known, optional, list_of, raw, bytes, at_end}
use Rattle.image.specs.Image.{header, literal_of, type, var, label, operand, table, instruction, function, constants, blocks, whole, image, program_of, loaded}
use Rattle.image.specs.Written.{pieces, written}
use Rattle.image.specs.Written as W
use Rattle.image.specs.Program.{Program, Operand, literal, Item, Add, Return}

-- ---- P1

-- "P1 whole image"
abbrev pub p1_image : List ℕ
p1_image = 0x01 ∷ 0x03 ∷ 0x00 ∷ 0x01 ∷ 0x01 ∷ 0x00 ∷ 0x00 ∷ 0x00 ∷ 0x01 ∷ 0x00 ∷ 0x01 ∷ 0x02 ∷ 0x00 ∷ 0x02 ∷ 0x08 ∷ 0x02 ∷ 0x00 ∷ 0x02 ∷ 0x02 ∷ 0x01 ∷ 0x05 ∷ 0x01 ∷ 0x00 ∷ 0x02 ∷ []

-- variable 2 is its parameter: it adds U8 1 to it, and returns it
abbrev pub p1 : Program
p1 = record {
  variables = 3;
  constants = [];
  functions =
      record { item = Item.function; entry = 0; return_var = 0; context_var = 1; return_pointer = false; parameters = 2 ∷ []; slots = [] } ∷ [];
  blocks = (Add 2 (Operand.variable 2) (literal (value Kind.u8 1)) ∷ Return (some (Operand.variable 2)) ∷ []) ∷ [];
}

pub p1_loads : loaded p1_image ≡ took p1 24
unfolding loaded program_of image whole header constants function blocks instruction table operand kind_at named tag literal_of holds var label optional list_of bytes raw at_end known such many within number groups and_then
p1_loads = refl

-- written, it is its image again
pub p1-written : written p1 ≡ p1_image
unfolding written pieces W.function W.instruction tag bytes_of bytes_from
p1-written = refl

-- a program was taken, to the last of the bytes, and it is written as these bytes
unfoldable pub wholly : Got Program → List ℕ → Bool
wholly (took P end) s = eqb end (length s) && same_bytes (written P) s
wholly (refused n place) s = false

-- "P1 whole image"; "Writing an accepted program gives its image's bytes again."
abbrev pub p1_whole : Case
p1_whole = record { number = 1; holds = wholly (loaded p1_image) p1_image }

pub p1-whole : p1_whole.holds ≡ true
unfolding wholly same_bytes
p1-whole = rw (p1_loads, wholly, p1-written)

-- the program that was taken; a refused image has none, and then there is no function to start
unfoldable pub program_taken : Got Program → Program
program_taken (took P end) = P
program_taken (refused n place) = record { variables = 0; constants = []; functions = []; blocks = [] }

-- ---- refusals

-- bytes that are refused, with the number and the place
pub record Refusal : Type 0 where
  pub bytes : List ℕ
  pub number : ℕ
  pub place : ℕ

unfoldable pub refused_as : {A : Type 0} → Got A → ℕ → ℕ → Bool
refused_as (took a next) number place = false
refused_as (refused m p) number place = eqb (number_of m) number && eqb p place

unfoldable pub all_refused : List Refusal → Bool
all_refused [] = true
all_refused (r ∷ rs) = refused_as (loaded r.bytes) r.number r.place && all_refused rs

abbrev refusal : List ℕ → Enum.Refusal → ℕ → Refusal
refusal s why p = record { bytes = s; number = number_of why; place = p }

-- no variables, constants or functions, and one block of these
abbrev block : List ℕ → List ℕ
block s = 1 ∷ 0 ∷ 0 ∷ 0 ∷ 1 ∷ s

-- one variable, one block, and one function of these
abbrev one_function : List ℕ → List ℕ
one_function s = 1 ∷ 1 ∷ 0 ∷ 1 ∷ 1 ∷ s

abbrev pub refusals : List Refusal
refusals =
    refusal [] bytes_run_out 0
    -- a number that stops before its tenth byte: the place is its first byte
    ∷ refusal (1 ∷ 0x80 ∷ 0x80 ∷ []) bytes_run_out 1
    -- P1 cut off inside its last operand
    ∷ refusal (take 23 p1_image) bytes_run_out 23
    -- a constant of 5 bytes, of which 2 are there
    ∷ refusal (1 ∷ 0 ∷ 1 ∷ 0 ∷ 0 ∷ 5 ∷ 7 ∷ 7 ∷ []) bytes_run_out 6
    -- not the shortest form, and a tenth byte of 2
    ∷ refusal (1 ∷ 0x80 ∷ 0 ∷ []) malformed 1
    ∷ refusal (0x80 ∷ 0x80 ∷ 0x80 ∷ 0x80 ∷ 0x80 ∷ 0x80 ∷ 0x80 ∷ 0x80 ∷ 0x80 ∷ 2 ∷ []) malformed 0
    -- version 2, opcode 22, a Char among the surrogates, the type Asn
    ∷ refusal (2 ∷ []) unknown 0
    ∷ refusal (block (1 ∷ 22 ∷ [])) unknown 6
    ∷ refusal (block (1 ∷ 21 ∷ 12 ∷ 0x80 ∷ 0xb0 ∷ 3 ∷ [])) unknown 8
    ∷ refusal (1 ∷ 1 ∷ 0 ∷ 0 ∷ 1 ∷ 1 ∷ 2 ∷ 0 ∷ 1 ∷ 0 ∷ 13 ∷ []) unknown 10
    -- a constant item without its flag, and with a parameter
    ∷ refusal (one_function (1 ∷ 0 ∷ 0 ∷ 0 ∷ 0 ∷ 0 ∷ 0 ∷ 0 ∷ [])) unknown 9
    ∷ refusal (one_function (1 ∷ 0 ∷ 0 ∷ 0 ∷ 1 ∷ 1 ∷ 0 ∷ 0 ∷ 0 ∷ [])) over_limit 10
    -- 257 variables; 4,097 instructions; a constant of 1 byte and one of 8,192: the total is over before a byte of it is read
    ∷ refusal (1 ∷ 0x81 ∷ 2 ∷ []) over_limit 1
    ∷ refusal (block (0x81 ∷ 0x20 ∷ [])) over_limit 5
    ∷ refusal (1 ∷ 0 ∷ 2 ∷ 0 ∷ 0 ∷ 1 ∷ 7 ∷ 0x80 ∷ 0x40 ∷ []) over_limit 7
    -- an image of 32,769 bytes
    ∷ refusal (replicate 32769 9) over_limit 0
    -- a jump to label 1, and a function's return variable, of none
    ∷ refusal (block (1 ∷ 0 ∷ 1 ∷ [])) beyond_count 7
    ∷ refusal (1 ∷ 0 ∷ 0 ∷ 1 ∷ 1 ∷ 0 ∷ 0 ∷ 0 ∷ []) beyond_count 7
    -- 3 before 5: an operand of tag 15 with a variable of none, and IntCmp with comparison 10 and an operand of a variable of none
    ∷ refusal (block (1 ∷ 21 ∷ 15 ∷ 9 ∷ [])) unknown 7
    ∷ refusal (1 ∷ 1 ∷ 0 ∷ 0 ∷ 1 ∷ 1 ∷ 6 ∷ 0 ∷ 10 ∷ 0 ∷ 9 ∷ []) unknown 8
    -- an empty program and one byte more
    ∷ refusal (1 ∷ 0 ∷ 0 ∷ 0 ∷ 0 ∷ 9 ∷ []) left_over 5
    ∷ []

pub all-refused : all_refused refusals ≡ true
unfolding type_of_kind typed kind_at named tag int_cmp_at all_refused refused_as loaded program_of image whole header constants function blocks instruction table operand literal_of holds is_scalar var label type optional list_of bytes raw at_end known such many within number groups and_then
all-refused = refl

-- ---- P11

-- this number, and what follows it begins at `end`
unfoldable pub number_is : Got ℕ → (v end : ℕ) → Bool
number_is (took w next) v end = eqb w v && eqb next end
number_is (refused m p) v end = false

abbrev pub eleventh : Bool → Case
eleventh b = record { number = 11; holds = b }

-- "P11 300 is AC 02; 80 00 is refused with 2.": read to the second byte's end, and written
abbrev pub p11 : List Case
p11 =
    eleventh (number_is (number (0xac ∷ 0x02 ∷ []) 0) 300 2)
    ∷ eleventh (same_bytes (bytes_of 300) (0xac ∷ 0x02 ∷ []))
    ∷ eleventh (refused_as (number (0x80 ∷ 0x00 ∷ []) 0) (number_of malformed) 0)
    ∷ []

pub p11-holds : all_hold p11 ≡ true
unfolding all_hold number_is refused_as same_bytes number groups bytes_of bytes_from
p11-holds = refl
