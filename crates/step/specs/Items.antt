-- What a step takes of an image that was loaded: its bytes, and where its instructions, labels, functions and constants are.
use Rattle.std.specs.Prelude.{ℕ, List}

pub record Items : Type 0 where
  pub bytes : List ℕ
  pub places : List ℕ
  pub labels : List ℕ
  pub functions : List ℕ
  pub extents : List ℕ

abbrev pub items : (bytes places labels functions extents : List ℕ) → Items
items s p l f e = record { bytes = s; places = p; labels = l; functions = f; extents = e }
