-- "A number is groups of seven bits, low group first, top bit set on every byte but the last, shortest form only, at most 2^64 - 1."
use Rattle.std.specs.Prelude.{ℕ, zero, suc, ◌+◌, ◌-◌, ◌*◌, ◌/◌, ◌%◌, List, [], ◌∷◌, length, get_or, ltb, leb, eqb}
use Rattle.value.specs.Answer.{pick}
use Rattle.value.specs.Refusal.{bytes_run_out, malformed}
use Rattle.image.specs.Parse.{took, refused, Field}

-- The groups of a number from `at` on: `left` bytes may have their top bit set, the next group weighs `weight`, and `sum` is
-- what the groups before it make. Nine groups hold what is below 2^63, and the tenth weighs 2^63, so a tenth byte can only be 1; and only the number 0 ends in a byte 0.
-- A refusal's place is the number's first byte.
unfoldable pub groups : (left start weight sum : ℕ) → List ℕ → Field ℕ
groups zero start weight sum s at =
    pick (leb (length s) at) (refused bytes_run_out start)
    (pick (eqb (get_or s at 0) 1) (took (sum + weight) (at + 1)) (refused malformed start))
groups (suc left) start weight sum s at =
    let more = groups left start (weight * 128) (sum + (get_or s at 0 - 128) * weight) s (at + 1) in
    pick (leb (length s) at) (refused bytes_run_out start)
    (pick (ltb (get_or s at 0) 128)
    (pick (eqb (get_or s at 0) 0) (pick (ltb left 8) (refused malformed start) (took (sum + get_or s at 0 * weight) (at + 1)))
    (took (sum + get_or s at 0 * weight) (at + 1)))
    more)

unfoldable pub number : List ℕ → Field ℕ
number s at = groups 9 at 1 0 s at

-- the bytes of v, its lowest group first, where at most `spare` more groups follow
unfoldable pub bytes_from : (spare v : ℕ) → List ℕ
bytes_from zero v = v ∷ []
bytes_from (suc spare) v =
    let more = bytes_from spare (v / 128) in
    pick (ltb v 128) (v ∷ []) ((v % 128 + 128) ∷ more)

unfoldable pub bytes_of : (v : ℕ) → List ℕ
bytes_of v = bytes_from 9 v
