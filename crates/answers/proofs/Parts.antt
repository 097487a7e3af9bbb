-- One part more of a list that is written, and a text in two halves.
use Prim.Native.Nat.{ℕ, ◌+◌, ◌<◌, ◌≤◌}
use native.Mathlib.Numerals.{add-one}
use native.Mathlib.Omega.{arith}
use mathlib.Core.Path.{◌≡◌, refl, sym, ap, ◌∙◌}
use mathlib.Core.List.{List, [], ◌∷◌, ◌++◌}
use lib.ListN.{length, get_or, drop, drop_of_length-le}
use lib.Seq.{drop-cons}
use Rattle.words.specs.Ascii.{ascii}
use Rattle.words.specs.Number.{decimal}
use Rattle.std.specs.Prelude.{None}
use Rattle.words.specs.Text.{Text, text, put, puts}
use Rattle.words.proofs.Whole.{nones_stay}
use Rattle.answers.specs.Lines.{Pieces}
use Rattle.answers.specs.Dump.{next_length, more_lengths, lengths_text}

pub puts-append : (ps qs : Pieces) (t : Text) → puts (ps ++ qs) t ≡ puts qs (puts ps t)
puts-append [] qs t = refl
puts-append (p ∷ ps) qs t = puts-append ps qs (put p t)

-- ---- the lengths of a frame's allocations

module _ (ls : List ℕ) (i : ℕ) where
  pub more_lengths_lem : (t : Text) {u whole : Text} → i < length ls → u ≡ puts (next_length (get_or ls i 0)) t → puts (more_lengths (drop i ls)) t ≡ whole
      → puts (more_lengths (drop (i + 1) ls)) u ≡ whole
  unfolding more_lengths
  more_lengths_lem t h e w =
      ap (puts (more_lengths (drop (i + 1) ls))) e
      ∙ ap (λ (k : ℕ). puts (more_lengths (drop k ls)) (puts (next_length (get_or ls i 0)) t)) (add-one i)
      ∙ ap (λ (m : List ℕ). puts (more_lengths m) t) (sym (drop-cons ls i 0 h)) ∙ w

  -- a length had no room
  pub lengths_cut : (t : Text) (before : List ℕ) {whole : Text} → i < length ls → text None before ≡ puts (next_length (get_or ls i 0)) t → puts (more_lengths (drop i ls)) t ≡ whole
      → text None before ≡ whole
  lengths_cut t before h e w = sym (nones_stay (more_lengths (drop (i + 1) ls)) before) ∙ more_lengths_lem t h e w

  pub no_more_lengths : (t : Text) {whole : Text} → length ls ≤ i → puts (more_lengths (drop i ls)) t ≡ whole → t ≡ whole
  unfolding more_lengths
  no_more_lengths t h w = ap (λ (m : List ℕ). puts (more_lengths m) t) (sym (drop_of_length-le ls h)) ∙ w

pub no_lengths : (ls : List ℕ) → length ls < 1 → ascii "-" ∷ [] ≡ lengths_text ls
unfolding lengths_text
no_lengths [] h = refl
no_lengths (l ∷ ls) h = absurd (omega arith)

pub some_lengths : (ls : List ℕ) → 1 ≤ length ls → decimal (get_or ls 0 0) ∷ more_lengths (drop 1 ls) ≡ lengths_text ls
unfolding lengths_text
some_lengths [] h = absurd (omega arith)
some_lengths (l ∷ ls) h = refl
