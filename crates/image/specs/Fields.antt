-- The kinds of field that an image is made of, each by a number or by raw bytes. A refusal's place is "the first byte of the refused field".
use Rattle.std.specs.Prelude.{ℕ, ◌+◌, Bool, List, length, get_or, take, drop, ltb, leb, eqb}
use Rattle.std.proofs.Math.Option.{Option, none, some}
use Rattle.value.specs.declared.refusal.Refusal.{Refusal}
use Rattle.value.specs.Answer.{pick}
use Rattle.value.specs.Refusal.{bytes_run_out, unknown, over_limit, left_over}
use Rattle.image.specs.Parse.{Got, took, refused, Field, and_then, give, many, ◌<$>◌, ◌>>=◌}
use Rattle.image.specs.Number.{number}

-- what a number means, else it is unknown
abbrev pub meant : {A : Type 0} → Option A → (at next : ℕ) → Got A
meant none at next = refused unknown at
meant (some a) at next = took a next

-- by position in a list
abbrev pub listed : {A : Type 0} → List (Option A) → ℕ → Option A
listed items v = get_or items v none

-- a number that was read at a place and passes a test, else the refusal `why` there
abbrev pub tested : (test : ℕ → Bool) → (why : Refusal) → (at : ℕ) → Got ℕ → Got ℕ
tested test why at g = and_then g (λ v next. pick (test v) (took v next) (refused why at))

-- the fields of the image whose bytes are s
module _ (s : List ℕ) where
  -- a number that passes a test, else the refusal `why`
  unfoldable pub such : (test : ℕ → Bool) → (why : Refusal) → Field ℕ
  such test why at = tested test why at (number s at)

  abbrev pub below : (limit : ℕ) → (why : Refusal) → Field ℕ
  below limit why = such (λ v. ltb v limit) why

  abbrev pub up_to : (most : ℕ) → (why : Refusal) → Field ℕ
  up_to most why = such (λ v. leb v most) why

  -- "4 a count, size or running total over its limit"
  abbrev pub at_most : (limit : ℕ) → Field ℕ
  at_most limit = up_to limit over_limit

  -- a number that stands for something: "3 unknown tag, flag, opcode or version"
  unfoldable pub known : {A : Type 0} → (ℕ → Option A) → Field A
  known item at = and_then (number s at) (λ v next. meant (item v) at next)

  -- "An optional field is 0, or 1 and the field."
  unfoldable pub optional : {A : Type 0} → Field A → Field (Option A)
  optional p = do
    mark ← up_to 1 unknown
    pick (eqb mark 0) (give none) (some <$> p)

  -- a count of at most `limit`, and as many fields
  unfoldable pub list_of : {A : Type 0} → (limit : ℕ) → Field A → Field (List A)
  list_of limit p = do
    count ← at_most limit
    many count p

  -- `count` raw bytes
  unfoldable pub raw : (count : ℕ) → Field (List ℕ)
  raw count at = pick (leb (at + count) (length s)) (took (take count (drop at s)) (at + count)) (refused bytes_run_out at)

  -- a length, and as many raw bytes
  unfoldable pub bytes : (limit : ℕ) → Field (List ℕ)
  bytes limit = do
    count ← at_most limit
    raw count

  -- the image ends here: "6 bytes left over"
  unfoldable pub at_end : Field Unit
  at_end at = pick (leb (length s) at) (took tt at) (refused left_over at)
