-- How long a part of a buffer is, so that the code may lend it: an answer or a line fills only the start of its buffer.
use Rattle.std.specs.Prelude.{◌≡◌, ℕ, ◌≤◌, List, length, take}

-- so many elements stand at the start of a list
abbrev pub Counts : ℕ → List ℕ → Type 0
Counts n l = (n ≤ length l) × (n ≡ length (take n l))
