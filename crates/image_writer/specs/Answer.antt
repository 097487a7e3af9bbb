-- What the image writer answers and leaves in its buffer.
use Rattle.std.specs.Prelude.{ℕ, ◌≤◌, List, ◌++◌, ◌≡◌, length, take, drop, leb, Result, Ok, Err}
use denote.Ref.{MutBor}
use Rattle.value.specs.Answer.{pick}
use Rattle.value.specs.Refusal.{short_buffer}
use Rattle.image.specs.Parse.{Got, took, refused}
use Rattle.image.specs.Program.{Program}
use Rattle.image.specs.Image.{loaded}
use Rattle.image.specs.Written.{written}
use Rattle.image.specs.Answer.{stop}
use Rattle.image.specs.declared.number.Stop.{Stop}
use Rattle.image_writer.specs.declared.writer.Pass.{Pass}
use Rattle.image_writer.specs.declared.writer.WriteError.{WriteError}
use Rattle.image_writer.specs.declared.writer.WriteError.TheVariants.{NotLoaded, Short}

-- what the image writer answers: the length of what it wrote, the loader's refusal, or "image writer's buffer too short"
unfoldable pub outcome : Got Program → (before : List ℕ) → Result ℕ WriteError
outcome (refused why place) before = Err (NotLoaded (stop why place))
outcome (took P end) before = pick (leb (length (written P)) (length before)) (Ok (length (written P))) (Err (Short short_buffer))

-- The buffer: the program's bytes, and the rest of it as it stood; or untouched.
unfoldable pub buffer : Got Program → (before : List ℕ) → List ℕ
buffer (refused why place) before = before
buffer (took P end) before = pick (leb (length (written P)) (length before)) (written P ++ drop (length (written P)) before) before

pub record Rewrote (s before : List ℕ) (r : Result ℕ WriteError) (after : List ℕ) : Type 0 where
  pub answer : r ≡ outcome (loaded s) before
  pub bytes : after ≡ buffer (loaded s) before

-- ---- the walk: only the private functions speak of these

-- the two numbers that were read
abbrev pub got_pair : Result (ℕ × ℕ × ℕ) Stop → Got (ℕ × ℕ)
got_pair (Ok (first, second, next)) = took (first, second) next
got_pair (Err e) = refused e.why e.place

-- Reading stands at `from` and writing at `to`: as much is written as was read, and the rest of the buffer b is as it stood.
pub record Kept (s b : List ℕ) (from to : ℕ) (out : List ℕ) : Type 0 where
  pub even : to ≡ from
  pub inside : from ≤ length s
  pub front : out ≡ take from s ++ drop from b

-- A part of the walk: it goes where `past` says, and what it reads it writes, if the buffer is long enough for the image.
pub record Passed (s : List ℕ) (past : ℕ → ℕ) (c : Pass) (before : List ℕ) (r : Pass) (after : List ℕ) : Type 0 where
  pub place : r.from ≡ past c.from
  pub keeps : (b : List ℕ) → length s ≤ length b → Kept s b c.from c.to before → Kept s b r.from r.to after

-- every call of a part of the walk does so
abbrev pub Passes : (s : List ℕ) (past : ℕ → ℕ) → (MutBor (List ℕ) → Pass → Pass → MutBor (List ℕ) → Type 0) → Type 0
Passes s past part = (out : MutBor (List ℕ)) (c r : Pass) (after : MutBor (List ℕ)) → part out c r after → Passed s past c out.now r after.now
