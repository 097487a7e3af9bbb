-- An image that was taken is followed by its own tables: all that a step asks of them is what the loader's theorems say.
use Prim.Native.Nat.{ℕ}
use native.Mathlib.Omega.{arith}
use mathlib.Core.Path.{◌≡◌}
use mathlib.Core.List.{List}
use lib.ListN.{length, take}
use lib.Dec.{T, leb}
use Rattle.image.specs.Parse.{took}
use Rattle.image.specs.Program.{Program, code}
use Rattle.image.specs.Image.{loaded}
use Rattle.loader.specs.Tables.{tables_from}
use Rattle.machine.specs.Sound.{all, are_bytes}
use Rattle.machine.specs.Accepted.{accepted}
use Rattle.decode.specs.Extents.{extents_of}
use Rattle.decode.proofs.Items.{within-limits, instruction-within, function-within, code-within, place-within}
use Rattle.decode.proofs.Used.{places_used, labels_used, functions_used, instruction_used, function_used, label_used}
use Rattle.decode.proofs.Accepted.{loaded-accepted}
use Rattle.decode.proofs.Constants.{constants-shown, extents-inside}
use Rattle.agree.proofs.Follows.{Follows}
use Rattle.image.specs.Limits.{AreBytes}
use Rattle.value.proofs.Truth.{both_true}

module _ (s : List ℕ) (bytes : AreBytes s) (P : Program) (e : ℕ) (h : loaded s ≡ took P e) where
  constant-bytes : T (all are_bytes P.constants)
  unfolding accepted
  constant-bytes =
      let a = both_true (leb P.variables 256) _ (loaded-accepted s bytes P e h) in
      let b = both_true (leb (length (code P)) 4096) _ a.1 in
      rw (both_true (all are_bytes P.constants) _ b.1).0 tt

  -- the used parts of the loader's tables, and where the constants' bytes stand
  pub loaded_follows : Follows P s
      (take (tables_from s).instructions (tables_from s).places) (take (tables_from s).counts.blocks (tables_from s).labels)
      (take (tables_from s).counts.functions (tables_from s).functions) (extents_of s)
  loaded_follows = record {
    bytes = bytes;
    variables = (within-limits s bytes P e h).variable_count;
    instructions = code-within s bytes P e h;
    placed = places_used s bytes P e h;
    stands = instruction_used s bytes P e h;
    within = instruction-within s bytes P e h;
    labelled = record { room = omega (arith, labels_used s bytes P e h); leads = label_used s bytes P e h; within = λ l b. place-within s bytes P e h l };
    constants = record { inside = extents-inside s bytes P e h; shown = constants-shown s bytes P e h; bytes = constant-bytes };
    functions_placed = functions_used s bytes P e h;
    function_stands = function_used s bytes P e h;
    function_within = function-within s bytes P e h;
  }
