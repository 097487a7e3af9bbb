-- Registers told as words and read again are the words.
use Prim.Native.Nat.{ℕ}
use native.Mathlib.Omega.{arith}
use mathlib.Core.List.{List, [], ◌∷◌}
use mathlib.Core.Path.{◌≡◌, refl}
use lib.ListN.{length}
use Rattle.replies.specs.Words.{registers_in, words_of}

-- registers that stay as they were are the words that were lent
pub words_back : (l : List ℕ) → length l ≡ 5 → words_of (registers_in l) ≡ l
words_back [] h = absurd (omega arith)
words_back (u ∷ []) h = absurd (omega arith)
words_back (u ∷ v ∷ []) h = absurd (omega arith)
words_back (u ∷ v ∷ w ∷ []) h = absurd (omega arith)
words_back (u ∷ v ∷ w ∷ x ∷ []) h = absurd (omega arith)
words_back (u ∷ v ∷ w ∷ x ∷ y ∷ []) h = refl
words_back (u ∷ v ∷ w ∷ x ∷ y ∷ z ∷ l) h = absurd (omega arith)
