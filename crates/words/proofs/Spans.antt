-- A word stands in its line where its span says: the words from a place on are the first, up to the next space, and those after it.
use Prim.Native.Nat.{ℕ, zero, suc, ◌+◌, ◌-◌, ◌<◌, ◌≤◌}
use native.Mathlib.Decide.{dec_le}
use native.Mathlib.Omega.{arith}
use mathlib.Core.Path.{◌≡◌, refl, sym, ap, ◌∙◌}
use mathlib.Core.List.{List, [], ◌∷◌}
use lib.ListN.{length, get_or, take, drop, length-drop}
use lib.Seq.{take_all, drop-drop, length-take-le}
use Rattle.words.specs.Words.{Span, until, words, span_from, word_at, Stands}
use Rattle.words.proofs.Parting.{until-within, first_word, last_word}

-- where the word at k of these stands is where it stands in the line
abbrev pub Standing : List ℕ → (at : ℕ) → List (List ℕ) → ℕ → Type 0
Standing line at ws k = Stands line (span_from at ws k).from (span_from at ws k).to (get_or ws k [])

nowhere : (line : List ℕ) → Stands line 0 0 []
nowhere line = record { ordered = omega arith; within = omega arith; are = refl }

-- the first word ends at the next space, or with the line
module _ (line : List ℕ) (at : ℕ) (h : at ≤ length line) where
  abbrev gap : ℕ
  gap = until 32 (drop at line)

  abbrev first : List ℕ
  first = take gap (drop at line)

  first-size : length first ≡ gap
  first-size = length-take-le gap (drop at line) (until-within 32 (drop at line))

  first-at : at + gap < length line → words (drop at line) ≡ first ∷ words (drop (at + length first + 1) line)
  first-at l =
      first_word (drop at line) (omega (arith, length-drop at line))
      ∙ ap (λ (m : List ℕ). first ∷ words m) (drop-drop (suc gap) at line ∙ ap (λ (k : ℕ). drop k line) (omega (arith, first-size)))

  last-at : length line ≤ at + gap → words (drop at line) ≡ first ∷ []
  last-at l =
      last_word (drop at line) (omega (arith, length-drop at line))
      ∙ ap (λ (w : List ℕ). w ∷ []) (sym (take_all gap (drop at line) (omega (arith, length-drop at line))))

  first-stands : Stands line at (at + length first) first
  first-stands =
      let e : at + length first - at ≡ gap = omega (arith, first-size) in
      record {
        ordered = omega arith;
        within = omega (arith, first-size, length-drop at line, until-within 32 (drop at line));
        are = ap (λ (n : ℕ). take n (drop at line)) e;
      }

stands_from : (k : ℕ) (line : List ℕ) (at : ℕ) → at ≤ length line → Standing line at (words (drop at line)) k
unfolding span_from
stands_from zero line at h =
    elim (dec_le (length line) (at + gap line at h)) [
      | yes l ↦ rw (last-at line at h l) (first-stands line at h)
      | no l ↦ rw (first-at line at h (omega arith)) (first-stands line at h)
    ]
stands_from (suc k) line at h =
    elim (dec_le (length line) (at + gap line at h)) [
      | yes l ↦ rw (last-at line at h l) (nowhere line)
      | no l ↦ rw (first-at line at h (omega arith)) (stands_from k line (at + length (first line at h) + 1) (omega (arith, first-size line at h)))
    ]

pub stands : (line : List ℕ) (k : ℕ) → Standing line 0 (words line) k
stands line k = stands_from k line 0 (omega arith)

-- the same of bytes that are the word
pub word-stands : (line : List ℕ) (k : ℕ) {w : List ℕ} → w ≡ get_or (words line) k [] → Stands line (word_at line k).from (word_at line k).to w
unfolding word_at
word-stands line k e = rw e (stands line k)
