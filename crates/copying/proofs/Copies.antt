-- What `copy_within` leaves is what a write of the bytes read does.
use Prim.Native.Nat.{ℕ, ◌+◌, ◌-◌}
use native.Mathlib.Omega.{arith}
use mathlib.Core.Path.{◌≡◌}
use mathlib.Core.List.{List}
use lib.ListN.{length, take, drop, length-replicate}
use lib.Seq.{paste, take-take}
use Rattle.std.specs.List.{copy_within}
use Rattle.memory.proofs.Tab.{part_length}
use Rattle.memory.proofs.Laws.{fits}

pub moved : (s : List ℕ) (x from n k : ℕ) → k ≡ from + n → copy_within s from k x ≡ paste s x (take n (drop from s)) n
moved s x from n k h =
    let e : k - from ≡ n = omega arith in
    let g : take n (take n (drop from s)) ≡ take n (drop from s) = take-take n n (drop from s) (omega arith) in
    simp (e, g)

pub ruleset local = (fits, part_length, moved)

pub ruleset copied = (fits, length-replicate)
