-- Lists of bytes stay lists of bytes: cut, joined, set and pasted.
use Prim.Native.Nat.{ℕ, zero, suc, ◌+◌, ◌<◌}
use native.Mathlib.Omega.{arith}
use mathlib.Core.List.{List, [], ◌∷◌, ◌++◌}
use lib.ListN.{set, take, drop}
use lib.Seq.{get_or-drop, paste}
use lib.Dec.{T, ltb, ltb→lt, lt→ltb}
use mir.Facts.{and_yes, yes_and}
use Rattle.memory.specs.Tables.{zeroed}
use Rattle.memory.specs.View.{part}
use Rattle.machine.specs.Sound.{all, are_bytes}
use Rattle.image.specs.Limits.{AreBytes}

no_bytes : AreBytes []
no_bytes zero = omega arith
no_bytes (suc k) = omega arith

append-bytes : (a b : List ℕ) → AreBytes a → AreBytes b → AreBytes (a ++ b)
append-bytes [] b f g k = g k
append-bytes (x ∷ a) b f g zero = f 0
append-bytes (x ∷ a) b f g (suc k) = append-bytes a b (λ j. f (suc j)) g k

pub take-bytes : (n : ℕ) (l : List ℕ) → AreBytes l → AreBytes (take n l)
take-bytes zero l f k = no_bytes k
take-bytes (suc n) [] f k = no_bytes k
take-bytes (suc n) (x ∷ l) f zero = f 0
take-bytes (suc n) (x ∷ l) f (suc k) = take-bytes n l (λ j. f (suc j)) k

drop-bytes : (n : ℕ) (l : List ℕ) → AreBytes l → AreBytes (drop n l)
drop-bytes n l f k = rw (get_or-drop n l k 0) (f (n + k))

set-bytes : (l : List ℕ) (i v : ℕ) → v < 256 → AreBytes l → AreBytes (set l i v)
set-bytes [] i v h f k = no_bytes k
set-bytes (x ∷ l) zero v h f zero = h
set-bytes (x ∷ l) zero v h f (suc k) = f (suc k)
set-bytes (x ∷ l) (suc i) v h f zero = f 0
set-bytes (x ∷ l) (suc i) v h f (suc k) = set-bytes l i v h (λ j. f (suc j)) k

pub zeroed-bytes : (s : List ℕ) (from n : ℕ) → AreBytes s → AreBytes (zeroed s from n)
unfolding zeroed
zeroed-bytes s from zero f = f
zeroed-bytes s from (suc n) f = set-bytes (zeroed s from n) (from + n) 0 (omega arith) (zeroed-bytes s from n f)

pub part_bytes : (s : List ℕ) (x n : ℕ) → AreBytes s → AreBytes (part s x n)
part_bytes s x n f = take-bytes n (drop x s) (drop-bytes x s f)

pub paste_bytes : (d : List ℕ) (at : ℕ) (s : List ℕ) (n : ℕ) → AreBytes d → AreBytes s → AreBytes (paste d at s n)
paste_bytes d at s n f g = append-bytes (take at d ++ take n s) (drop (at + n) d) (append-bytes (take at d) (take n s) (take-bytes at d f) (take-bytes n s g)) (drop-bytes (at + n) d f)

-- as the believed machine tests it
pub are-bytes : (l : List ℕ) → AreBytes l → T (are_bytes l)
unfolding all
are-bytes [] f = tt
are-bytes (x ∷ l) f = yes_and (ltb x 256) (are_bytes l) (lt→ltb x 256 (f 0)) (are-bytes l (λ k. f (suc k)))

pub bytes-are : (l : List ℕ) → T (are_bytes l) → AreBytes l
unfolding all
bytes-are [] t k = no_bytes k
bytes-are (x ∷ l) t zero = ltb→lt x 256 (and_yes (ltb x 256) (are_bytes l) t).0
bytes-are (x ∷ l) t (suc k) = bytes-are l (and_yes (ltb x 256) (are_bytes l) t).1 k
