-- How long a piece can be, whatever it says, and pieces that have room.
use Prim.Native.Nat.{ℕ, zero, suc, ◌+◌, ◌*◌, ◌/◌, ◌^◌, ◌<◌, ◌≤◌}
use native.Mathlib.Numerals.{sub-one}
use native.Mathlib.Decide.{dec_le}
use native.Mathlib.Omega.{arith}
use mathlib.Core.Bool.{Bool, true}
use mathlib.Core.Path.{◌≡◌, refl, ap, ◌∙◌}
use mathlib.Core.List.{List, [], ◌∷◌, ◌++◌}
use lib.ListN.{length, length-append, get_or-eq_default}
use lib.Dec.{leb}
use borrow.Author.Tests.{lt-ltb, le-ltb, leb-true}
use Rattle.std.specs.Prelude.{Some}
use Rattle.words.specs.Number.{places_within, places, decimal}
use Rattle.words.specs.Hex.{pairs_of, hex_of}
use Rattle.words.specs.Kinds.{name, names, name_of}
use Rattle.words.specs.Text.{Text}
use Rattle.words.specs.Room.{size, HasRoom}
use Rattle.words.proofs.Digits.{length-decimal, Held, held-less, last-place}
use Rattle.words.proofs.Names.{names-count}
use Rattle.words.proofs.Table.{every, entry}
use Rattle.words.proofs.Whole.{joined, has_room}

-- ---- numbers

places_most : (spare n : ℕ) → places_within spare n ≤ suc spare
unfolding places_within
places_most zero n = omega arith
places_most (suc spare) n =
    elim (dec_le 10 n) [
      | yes h ↦ rw (le-ltb n 10 h) (omega (arith, places_most spare (n / 10)))
      | no h ↦ rw (lt-ltb n 10 (omega arith)) (omega arith)
    ]

-- twenty digits at most, for any number
pub decimal-size : (n : ℕ) → length (decimal n) ≤ 20
unfolding places
decimal-size n = omega (arith, length-decimal n, places_most 19 n)

places-held : (k spare n : ℕ) → Held k n → places_within spare n ≤ suc k
unfolding places_within
places-held zero spare n h = omega (arith, last-place spare n h)
places-held (suc k) zero n h = omega arith
places-held (suc k) (suc spare) n h =
    elim (dec_le 10 n) [
      | yes g ↦ rw (le-ltb n 10 g) (omega (arith, places-held k spare (n / 10) (rw sub-one at (held-less (suc k) n (omega arith) h))))
      | no g ↦ rw (lt-ltb n 10 (omega arith)) (omega arith)
    ]

-- three at most below 1,000, four below 10,000
pub decimal-below : (k n : ℕ) → n < 10 ^ suc k → length (decimal n) ≤ suc k
unfolding places
decimal-below k n h = omega (arith, length-decimal n, places-held k 19 n h)

-- ---- names and HEX

name_test : ℕ → List ℕ → Bool
name_test k w = leb (length w) 7

names_short : every name_test 0 names ≡ true
unfolding name_test names name
names_short = refl

pub name-size : (t : ℕ) → length (name_of t) ≤ 7
unfolding name_of name_test
name-size t =
    elim (dec_le 15 t) [
      | yes h ↦ omega (arith, ap length (get_or-eq_default names [] {n = t} (omega (arith, names-count))))
      | no h ↦ leb-true _ 7 (entry name_test [] names names_short t (omega (arith, names-count)))
    ]

pairs_size : (bs : List ℕ) → length (pairs_of bs) ≡ 2 * length bs
unfolding pairs_of
pairs_size [] = refl
pairs_size (b ∷ bs) = omega (arith, pairs_size bs)

-- two digits a byte; `-` where there is none
pub hex-size : (bs : List ℕ) (most : ℕ) → length bs ≤ most → 0 < most → length (hex_of bs) ≤ 2 * most
unfolding hex_of
hex-size [] most h g = omega arith
hex-size (b ∷ bs) most h g = omega (arith, pairs_size (b ∷ bs))

-- ---- pieces

pub size-append : (ps qs : List (List ℕ)) → size (ps ++ qs) ≡ size ps + size qs
size-append [] qs = omega arith
size-append (p ∷ ps) qs = omega (arith, size-append ps qs)

joined_size : (ps : List (List ℕ)) → length (joined ps) ≡ size ps
joined_size [] = refl
joined_size (p ∷ ps) = omega (arith, length-append p (joined ps), joined_size ps)

-- a buffer that is as long as the pieces has room for them
pub roomy : (ps : List (List ℕ)) (out : List ℕ) (most : ℕ) → size ps ≤ most → most ≤ length out → HasRoom ps out
roomy ps out most h g =
    ap (λ (t : Text). t.place) (has_room ps 0 out (omega (arith, joined_size ps))) ∙ ap Some (omega (arith, joined_size ps))
