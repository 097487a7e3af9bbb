-- "KIND BITS [KIND BITS]...": values as pairs of words, one at least; "a word too many or too few" cannot be read.
use Rattle.std.specs.Prelude.{ℕ, zero, suc, ◌+◌, ◌≡◌, Option, Some, None, Result, Ok, Err, List, [], ◌∷◌, length, get_or, drop, leb}
use Rattle.std.proofs.lemmas.List.Edits.{sets}
use Rattle.value.specs.Answer.{pick}
use Rattle.words.specs.Kinds.{kind_read, bits_read}
use Rattle.words.specs.declared.PairError.{PairError}
use Rattle.words.specs.declared.PairError.TheVariants.{Kind, Bits}
use Rattle.words.specs.declared.BadWord.{BadWord}

-- ---- one pair

-- the tag and the bits, or which of the two cannot be read
abbrev pub Pair : Type 0
Pair = Result (ℕ × ℕ) PairError

abbrev pub with_bits : ℕ → Option ℕ → Pair
with_bits t (Some b) = Ok (t, b)
with_bits t None = Err Bits

abbrev pub with_kind : Option ℕ → List ℕ → Pair
with_kind (Some t) b = with_bits t (bits_read t b)
with_kind None b = Err Kind

-- what a word and the one after it say. A word that is missing is an empty one, which says nothing
unfoldable pub pair_said : (kind bits : List ℕ) → Pair
pair_said k b = with_kind (kind_read k) b

-- ---- pairs to the line's end

-- how many values there are, or the word that cannot be read
abbrev pub Values : Type 0
Values = Result ℕ BadWord

abbrev pub count : ℕ → Values
count n = Ok n

abbrev pub bad : ℕ → Values
bad n = Err (record { 0 = n })

-- the values before the end, and the end
pub record Said : Type 0 where
  pub end : Values
  pub tags : List ℕ
  pub bits : List ℕ

abbrev pub ended : Values → Said
ended v = record { end = v; tags = []; bits = [] }

abbrev pub and_more : Pair → (n : ℕ) → Said → Said
and_more (Ok (t, b)) n s = record { end = s.end; tags = t ∷ s.tags; bits = b ∷ s.bits }
and_more (Err Kind) n s = ended (bad n)
and_more (Err Bits) n s = ended (bad (n + 1))

-- after so many values, the word n and those after it, where `room` values have room
unfoldable pub values_from : (room done n : ℕ) → List (List ℕ) → Said
values_from zero done n ws = ended (bad n)
values_from (suc room) done n ws =
    let more = values_from room (done + 1) (n + 2) (drop 2 ws) in
    and_more (pair_said (get_or ws 0 []) (get_or ws 1 [])) n (pick (leb (length ws) 2) (ended (count (done + 1))) more)

-- the answer is the end, and the values stand in their tables from the start on
pub record Stored (s : Said) (r : Values) (tags tags' bits bits' : List ℕ) : Type 0 where
  pub answer : r ≡ s.end
  pub kinds : tags' ≡ sets tags 0 s.tags
  pub values : bits' ≡ sets bits 0 s.bits
