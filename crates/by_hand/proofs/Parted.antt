-- Each frame, pointer and variable of the dump is one word: parted at its own byte it gives the numbers and the kind that were written, since no number
-- or name holds that byte.
use Prim.Native.Nat.{ℕ, zero, suc, ◌^◌, ◌<◌}
use native.Mathlib.Omega.{arith}
use mathlib.Core.Bool.{false}
use mathlib.Core.Path.{◌≡◌, refl, ap, ap₂, ◌∙◌}
use mathlib.Core.List.{List, [], ◌∷◌, ◌++◌, map}
use lib.ListN.{get_or}
use lib.Dec.{eqb}
use borrow.Author.Tests.{eqb-false}
use Rattle.value.specs.Answer.{pick}
use Rattle.words.specs.Ascii.{ascii}
use Rattle.words.specs.Number.{decimal}
use Rattle.words.specs.Words.{until}
use Rattle.words.proofs.Whole.{joined}
use Rattle.answers.specs.Lines.{Pieces}
use Rattle.answers.specs.Dump.{var_piece, more_lengths, lengths_text, frame_text, constant_text, local_text, variable_text}
use Rattle.std.specs.Prelude.{Option, Some, None}
use Rattle.answers.proofs.Again.{number_without, name_without, no_colon, no_equals, Item, fixed, num, kind, shown, Held, parted, All, Apart, Lacks, parted_without, apart}
use Rattle.answers.proofs.Written.{parted_to, parted_to_lem, Part, nothing, word, either}

-- ---- the words

abbrev pub dash : Item
dash = fixed (ascii "-")

-- "VAR `-` for none"
abbrev pub var_item : Option ℕ → Item
var_item (Some n) = num n
var_item None = dash

-- "the lengths of its allocations parted by commas, `-` where it has none"
abbrev pub lengths_item : List ℕ → Item
lengths_item [] = dash
lengths_item (l ∷ ls) = fixed (parted 44 (num l) (map num ls))

-- "ID:PLACE:VAR:LENGTHS"
abbrev pub frame_item : (id place : ℕ) → Option ℕ → List ℕ → Item
frame_item i p v ls = fixed (parted 58 (num i) (num p ∷ var_item v ∷ lengths_item ls ∷ []))

-- "cK" and "lFRAME:ID:ALLOCATION:OFFSET"
abbrev pub constant_item : ℕ → Item
constant_item k = fixed (ascii "c" ++ parted 58 (num k) [])

abbrev pub local_item : (frame id allocation offset : ℕ) → Item
local_item f i a o = fixed (ascii "l" ++ parted 58 (num f) (num i ∷ num a ∷ num o ∷ []))

-- "I=KIND:BITS"
abbrev pub value_item : (tag bits : ℕ) → Item
value_item t b = fixed (parted 58 (kind t) (num b ∷ []))

abbrev pub variable_item : (place tag bits : ℕ) → Item
variable_item i t b = fixed (parted 61 (num i) (value_item t b ∷ []))

-- ---- each is read again

-- a table whose entries lie below a number
abbrev pub Below : ℕ → List ℕ → Type 0
Below b l = (k : ℕ) → get_or l k 0 < b

-- no number holds `:`
colon : (n : ℕ) → Lacks 58 (num n)
colon n = number_without 58 (λ l u. omega arith) n

nums_held : (l : ℕ) (ls : List ℕ) → Below (2 ^ 64) (l ∷ ls) → All Held (num l) (map num ls)
nums_held l [] h = h 0
nums_held l (m ∷ ms) h = (h 0, nums_held m ms (λ k. h (suc k)))

nums_lack : (b : ℕ) → ((n : ℕ) → Lacks b (num n)) → (l : ℕ) (ls : List ℕ) → All (Lacks b) (num l) (map num ls)
nums_lack b f l [] = f l
nums_lack b f l (m ∷ ms) = (f l, nums_lack b f m ms)

pub lengths_again : (l : ℕ) (ls : List ℕ) → Below (2 ^ 64) (l ∷ ls) → Apart 44 (num l) (map num ls)
lengths_again l ls h = apart 44 refl refl (num l) (map num ls) (nums_lack 44 (λ n. number_without 44 (λ a b. omega arith) n) l ls) (nums_held l ls h)

lengths_held : (ls : List ℕ) → Below (2 ^ 64) ls → Held (lengths_item ls)
unfolding until
lengths_held [] h = (refl, refl)
lengths_held (l ∷ ls) h = (lengths_again l ls h).whole

lengths_lack : (ls : List ℕ) → Lacks 58 (lengths_item ls)
unfolding until
lengths_lack [] = refl
lengths_lack (l ∷ ls) = parted_without 44 58 refl (num l) (map num ls) (nums_lack 58 colon l ls)

var_lacks : (v : Option ℕ) → Lacks 58 (var_item v)
unfolding until
var_lacks (Some n) = colon n
var_lacks None = refl

pub frame_again : (i p : ℕ) (v : Option ℕ) (ls : List ℕ) → i < 2 ^ 64 → p < 2 ^ 64 → Held (var_item v) → Below (2 ^ 64) ls
    → Apart 58 (num i) (num p ∷ var_item v ∷ lengths_item ls ∷ [])
frame_again i p v ls a b c d =
    apart 58 refl refl (num i) (num p ∷ var_item v ∷ lengths_item ls ∷ []) (colon i, (colon p, (var_lacks v, lengths_lack ls))) (a, (b, (c, lengths_held ls d)))

-- a pointer's word after its letter
pub local_again : (f i a o : ℕ) → f < 2 ^ 64 → i < 2 ^ 64 → a < 2 ^ 64 → o < 2 ^ 64 → Apart 58 (num f) (num i ∷ num a ∷ num o ∷ [])
local_again f i a o p q r s = apart 58 refl refl (num f) (num i ∷ num a ∷ num o ∷ []) (colon f, (colon i, (colon a, colon o))) (p, (q, (r, s)))

pub constant_again : (k : ℕ) → k < 2 ^ 64 → Apart 58 (num k) []
constant_again k h = apart 58 refl refl (num k) [] (colon k) h

pub value_again : (t b : ℕ) → 0 < t → t < 15 → b < 2 ^ 64 → Apart 58 (kind t) (num b ∷ [])
value_again t b l u h = apart 58 refl refl (kind t) (num b ∷ []) (name_without 58 no_colon t, colon b) ((l, u), h)

pub variable_again : (i t b : ℕ) → i < 2 ^ 64 → 0 < t → t < 15 → b < 2 ^ 64 → Apart 61 (num i) (value_item t b ∷ [])
variable_again i t b g l u h =
    apart 61 refl refl (num i) (value_item t b ∷ [])
    (equals i, parted_without 58 61 refl (kind t) (num b ∷ []) (name_without 61 no_equals t, equals b)) (g, (value_again t b l u h).whole)
  where
    equals : (n : ℕ) → Lacks 61 (num n)
    equals n = number_without 61 (λ l u. omega arith) n

-- ---- the pieces are these words

var-shown : (v : Option ℕ) → var_piece v ≡ shown (var_item v)
var-shown (Some n) = refl
var-shown None = refl

more-text : (l : ℕ) (ls : List ℕ) (rest : Pieces) → decimal l ++ joined (more_lengths ls ++ rest) ≡ parted_to 44 (num l) (map num ls) (joined rest)
unfolding more_lengths
more-text l [] rest = refl
more-text l (m ∷ ms) rest = ap (λ (x : List ℕ). decimal l ++ (44 ∷ x)) (more-text m ms rest)

lengths_text_lem : (ls : List ℕ) (rest : Pieces) → joined (lengths_text ls ++ rest) ≡ shown (lengths_item ls) ++ joined rest
unfolding lengths_text
lengths_text_lem [] rest = refl
lengths_text_lem (l ∷ ls) rest = more-text l ls rest ∙ parted_to_lem 44 (num l) (map num ls) (joined rest)

pub frame-part : (i p : ℕ) (v : Option ℕ) (ls : List ℕ) → i < 2 ^ 64 → p < 2 ^ 64 → Held (var_item v) → Below (2 ^ 64) ls
    → Part [] (frame_text i p v ls) (frame_item i p v ls ∷ [])
frame-part i p v ls a b c d = word (frame_text i p v ls) (frame_item i p v ls) text (frame_again i p v ls a b c d).whole
  where
    text : (rest : Pieces) → joined (frame_text i p v ls ++ rest) ≡ 32 ∷ (shown (frame_item i p v ls) ++ joined rest)
    text rest =
        ap₂ (λ (x y : List ℕ). 32 ∷ (decimal i ++ (58 ∷ (decimal p ++ (58 ∷ (x ++ (58 ∷ y))))))) (var-shown v) (lengths_text_lem ls rest)
        ∙ ap (λ (x : List ℕ). 32 ∷ x) (parted_to_lem 58 (num i) (num p ∷ var_item v ∷ lengths_item ls ∷ []) (joined rest))

lettered : (c : ℕ) (w : List ℕ) → eqb c 32 ≡ false → eqb c 10 ≡ false → Held (fixed w) → Held (fixed (c ∷ w))
unfolding until
lettered c w m n h = (rw m (ap suc h.0), rw n (ap suc h.1))

pub pointer-part : (t f i a o : ℕ) → f < 2 ^ 64 → i < 2 ^ 64 → a < 2 ^ 64 → o < 2 ^ 64
    → Part [] (pick (eqb t 0) (local_text f i a o) (constant_text f)) (pick (eqb t 0) (local_item f i a o ∷ []) (constant_item f ∷ []))
pointer-part t f i a o p q r s =
    either (eqb t 0)
    (λ e. word (local_text f i a o) (local_item f i a o) (λ rest. ap (λ (x : List ℕ). 32 ∷ 108 ∷ x) (parted_to_lem 58 (num f) (num i ∷ num a ∷ num o ∷ []) (joined rest)))
    (lettered 108 (parted 58 (num f) (num i ∷ num a ∷ num o ∷ [])) refl refl (local_again f i a o p q r s).whole))
    (λ e. word (constant_text f) (constant_item f) (λ rest. refl) (lettered 99 (decimal f) refl refl (constant_again f p).whole))

pub variable-part : (i t b : ℕ) → i < 2 ^ 64 → t < 15 → b < 2 ^ 64 → Part [] (pick (eqb t 0) [] (variable_text i t b)) (pick (eqb t 0) [] (variable_item i t b ∷ []))
variable-part i t b g u h =
    either (eqb t 0) (λ e. nothing) (λ e. word (variable_text i t b) (variable_item i t b) text (variable_again i t b g (some t (eqb-false t 0 e)) u h).whole)
  where
    text : (rest : Pieces) → joined (variable_text i t b ++ rest) ≡ 32 ∷ (shown (variable_item i t b) ++ joined rest)
    text rest =
        ap (λ (x : List ℕ). 32 ∷ (decimal i ++ (61 ∷ x))) (parted_to_lem 58 (kind t) (num b ∷ []) (joined rest))
        ∙ ap (λ (x : List ℕ). 32 ∷ x) (parted_to_lem 61 (num i) (value_item t b ∷ []) (joined rest))

    some : (n : ℕ) → (n ≡ 0 → ⊥) → 0 < n
    some zero f = absurd (f refl)
    some (suc n) f = omega arith
