-- What the loader leaves in its tables: the places of what was read.
use Rattle.std.specs.Prelude.{ℕ, ◌+◌, ◌≡◌, length, replicate, Result, Ok, Err}
use mathlib.Core.List.{List, [], ◌∷◌, map, flatten}
use Rattle.std.proofs.lemmas.List.Edits.{sets}
use Rattle.image.specs.Parse.{Got, took, refused, Field, Placed}
use Rattle.image.specs.Program.{Instruction}
use Rattle.image.specs.Image.{Counts, Image, image}
use Rattle.image.specs.Answer.{stop, shape}
use Rattle.image.specs.declared.number.Stop.{Stop}
use Rattle.loader.specs.declared.load.Header as Held
use Rattle.loader.specs.declared.load.Blocks as Parts
use Rattle.loader.specs.declared.load.Loaded as Code
use Rattle.loader.specs.Counts.{held_counts}

-- where each item starts
abbrev pub ats : {A : Type 0} → List (Placed A) → List ℕ
ats xs = map (λ x. x.at) xs

-- "A label is a block's position": the position of its first instruction among all, after the `total` before it
abbrev pub starts : {A : Type 0} → (total : ℕ) → List (List A) → List ℕ
starts total [] = []
starts total (b ∷ bs) = total ∷ starts (total + length b) bs

-- ---- the header

-- the header's counts and its end, or why and where it is refused
abbrev pub header_of : Got Counts → Result Held.Header Stop
header_of (took n end) = Ok (record { end = end; counts = held_counts n })
header_of (refused why place) = Err (stop why place)

-- ---- of an image that was taken, the places from the tables' start on; of one that was refused nothing

abbrev pub table : (size : ℕ) → List ℕ → List ℕ
table size xs = sets (replicate size 0) 0 xs

unfoldable pub tables_of : Got Image → Code.Loaded
tables_of (took i end) = record {
  end = end;
  counts = record { variables = i.variables; constants = length i.constants; functions = length i.functions; blocks = length i.blocks };
  instructions = length (flatten i.blocks);
  places = table 4096 (ats (flatten i.blocks));
  labels = table 512 (starts 0 i.blocks);
  functions = table 64 (ats i.functions);
  constants = table 64 (ats i.constants);
}
tables_of (refused why place) = record {
  end = 0;
  counts = record { variables = 0; constants = 0; functions = 0; blocks = 0 };
  instructions = 0;
  places = replicate 4096 0;
  labels = replicate 512 0;
  functions = replicate 64 0;
  constants = replicate 64 0;
}

abbrev pub tables_from : List ℕ → Code.Loaded
tables_from s = tables_of (image s)

-- what loading answers: the tables, or why and where the image is refused
abbrev pub loaded_of : Got Image → Result Code.Loaded Stop
loaded_of (took i end) = Ok (tables_of (took i end))
loaded_of (refused why place) = Err (stop why place)

abbrev pub loaded_from : List ℕ → Result Code.Loaded Stop
loaded_from s = loaded_of (image s)

-- ---- one list of items, and the blocks, read with their tables: only the private functions speak of these

pub record Fills {A : Type 0} (p : Field (List (Placed A))) (start base : ℕ) (before : List ℕ) (end : Result ℕ Stop) (table : List ℕ) : Type 0 where
  pub ends : end ≡ shape (p start)
  pub places : (xs : List (Placed A)) (e : ℕ) → p start ≡ took xs e → table ≡ sets before base (ats xs)
  pub room : length table ≡ length before

-- the blocks' end and how many instructions they have, or why and where they are refused
abbrev pub blocks_read : Got (List (List (Placed Instruction))) → Result Parts.Blocks Stop
blocks_read (took bs end) = Ok (record { end = end; total = length (flatten bs) })
blocks_read (refused why place) = Err (stop why place)

pub record FillsBlocks (p : Field (List (List (Placed Instruction)))) (start : ℕ) (labels₀ places₀ : List ℕ) (r : Result Parts.Blocks Stop) (labels places : List ℕ) : Type 0 where
  pub answer : r ≡ blocks_read (p start)
  pub starting : (bs : List (List (Placed Instruction))) (e : ℕ) → p start ≡ took bs e → labels ≡ sets labels₀ 0 (starts 0 bs)
  pub placing : (bs : List (List (Placed Instruction))) (e : ℕ) → p start ≡ took bs e → places ≡ sets places₀ 0 (ats (flatten bs))
