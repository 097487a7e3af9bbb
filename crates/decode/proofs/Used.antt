-- The used part of each of the loader's tables has as many entries as the program has items, and leads to them.
use Prim.Native.Nat.{ℕ, ◌≤◌, ◌<◌}
use native.Mathlib.Omega.{arith}
use mathlib.Core.Path.{◌≡◌, sym, subst, ◌∙◌}
use mathlib.Core.List.{List, flatten}
use lib.ListN.{length, get_or, take, replicate, length-replicate}
use lib.Seq.{length-sets, length-take-le, get_or-take}
use Rattle.image.specs.Parse.{Got, took, refused}
use Rattle.image.specs.Program.{Program, Instruction, function_at, code, place_of}
use Rattle.image.specs.Image.{Image, image, loaded}
use Rattle.image.specs.Written as W
use Rattle.image.specs.Standing.{Stands}
use Rattle.loader.specs.Tables.{ats, starts, tables_of, tables_from}
use Rattle.decode.proofs.Items.{counted, within-limits, code-within, instruction-stands, function-stands, label_leads}
use Rattle.image.specs.Limits.{AreBytes}

-- the tables' sizes
record Sized (g : Got Image) : Type 0 where
  places : length (tables_of g).places ≡ 4096
  labels : length (tables_of g).labels ≡ 512
  functions : length (tables_of g).functions ≡ 64

sized : (g : Got Image) → Sized g
unfolding tables_of
sized (took i end) = record {
  places = length-sets (replicate 4096 0) 0 (ats (flatten i.blocks)) ∙ length-replicate {A = ℕ} 4096 0;
  labels = length-sets (replicate 512 0) 0 (starts 0 i.blocks) ∙ length-replicate {A = ℕ} 512 0;
  functions = length-sets (replicate 64 0) 0 (ats i.functions) ∙ length-replicate {A = ℕ} 64 0;
}
sized (refused n place) = record { places = length-replicate {A = ℕ} 4096 0; labels = length-replicate {A = ℕ} 512 0; functions = length-replicate {A = ℕ} 64 0 }

-- the first n entries of a table, where there are m items
module _ (table : List ℕ) (n m : ℕ) (same : n ≡ m) (room : m ≤ length table) where
  used_length : length (take n table) ≡ m
  used_length = length-take-le n table (omega arith) ∙ same

  used_at : (k : ℕ) → k < m → get_or (take n table) k 0 ≡ get_or table k 0
  used_at k lt = get_or-take n table k 0 (omega arith)

module _ (s : List ℕ) (bytes : AreBytes s) (P : Program) (e : ℕ) (h : loaded s ≡ took P e) where
  places-room : length (code P) ≤ length (tables_from s).places
  places-room = omega (arith, (sized (image s)).places, code-within s bytes P e h)

  labels-room : length P.blocks ≤ length (tables_from s).labels
  labels-room = omega (arith, (sized (image s)).labels, (within-limits s bytes P e h).block_count)

  functions-room : length P.functions ≤ length (tables_from s).functions
  functions-room = omega (arith, (sized (image s)).functions, (within-limits s bytes P e h).function_count)

  pub places_used : length (take (tables_from s).instructions (tables_from s).places) ≡ length (code P)
  places_used = used_length (tables_from s).places (tables_from s).instructions (length (code P)) (counted s bytes P e h).instructions places-room

  pub labels_used : length (take (tables_from s).counts.blocks (tables_from s).labels) ≡ length P.blocks
  labels_used = used_length (tables_from s).labels (tables_from s).counts.blocks (length P.blocks) (counted s bytes P e h).blocks labels-room

  pub functions_used : length (take (tables_from s).counts.functions (tables_from s).functions) ≡ length P.functions
  functions_used = used_length (tables_from s).functions (tables_from s).counts.functions (length P.functions) (counted s bytes P e h).functions functions-room

  pub instruction_used : (d : Instruction) (k : ℕ) → k < length (code P)
      → Stands s (get_or (take (tables_from s).instructions (tables_from s).places) k 0) (W.instruction (get_or (code P) k d))
  instruction_used d k lt =
      subst (λ (at : ℕ). Stands s at (W.instruction (get_or (code P) k d)))
      (sym (used_at (tables_from s).places (tables_from s).instructions (length (code P)) (counted s bytes P e h).instructions places-room k lt))
      (instruction-stands s bytes P e h d k lt)

  pub function_used : (f : ℕ) → f < length P.functions
      → Stands s (get_or (take (tables_from s).counts.functions (tables_from s).functions) f 0) (W.function (function_at P f))
  function_used f lt =
      subst (λ (at : ℕ). Stands s at (W.function (function_at P f)))
      (sym (used_at (tables_from s).functions (tables_from s).counts.functions (length P.functions) (counted s bytes P e h).functions functions-room f lt))
      (function-stands s bytes P e h f lt)

  pub label_used : (l : ℕ) → l < length P.blocks → get_or (take (tables_from s).counts.blocks (tables_from s).labels) l 0 ≡ place_of P l
  label_used l lt =
      used_at (tables_from s).labels (tables_from s).counts.blocks (length P.blocks) (counted s bytes P e h).blocks labels-room l lt
      ∙ label_leads s bytes P e h l lt
