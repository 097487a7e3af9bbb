-- A copy's read is checked before its write: where the read is refused, so is the copy, by the read's refusal.
use Rattle.value.specs.declared.refusal.Refusal.{Refusal}
use Rattle.std.specs.Prelude.{Err}
use Prim.Native.Nat.{ℕ}
use mathlib.Core.Path.{◌≡◌}
use mathlib.Core.List.{List}
use lib.ListN.{replicate, length-replicate}
use Rattle.memory.specs.Tables.{Tables, both, read_access_of, constant_access_of, constant_of, read_of, written_after, copied_of}

module _ (t : Tables) (to n : ℕ) (raw extents : List ℕ) where
  pub not_copied : (from : ℕ) (m : Refusal) → read_access_of t from n ≡ Err m → copied_of t to from n raw extents ≡ both (Err m) t.store
  unfolding copied_of read_of
  not_copied from m h = simp (length-replicate, h)

  pub constant-not : (k : ℕ) (m : Refusal) → constant_access_of k n raw extents ≡ Err m → written_after t to (constant_of k (replicate n 0) raw extents) ≡ both (Err m) t.store
  unfolding constant_of
  constant-not k m h = simp (length-replicate, h)
