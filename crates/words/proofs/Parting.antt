-- A search, a comparison and the words of a line, in the library's words; and a line as its first word and the rest.
use Prim.Native.Nat.{ℕ, suc, ◌+◌, ◌<◌, ◌≤◌}
use native.Mathlib.Decide.{dec_le, ℕ_discrete}
use native.Mathlib.Omega.{arith}
use mathlib.Core.Bool.{Bool, true, false, not, cond, ◌&&◌}
use mathlib.Core.Logic.{◌⊎◌, inl, inr}
use mathlib.Core.Path.{◌≡◌, refl, sym, ap, ap₂, ◌∙◌}
use mathlib.Core.List.{List, [], ◌∷◌}
use lib.ListN.{length, get_or, take, drop, drop_of_length-le}
use lib.Dec.{eqb, ltb}
use lib.Pointwise.{pointwise}
use denote.Ref.{Bor}
use borrow.Author.Tests.{eq-eqb, ne_eqb, eqb-true, lt-ltb, le-ltb}
use Rattle.std.specs.Prelude.{Option, Some, None}
use Rattle.std.specs.Option.{option_map, unwrap_or, UnwrapsOrElse, MatchOption}
use Rattle.std.specs.List.{slice_get, slice_range, slice_split, onto_first, position_or_len}
use Rattle.std.proofs.lemmas.Option.{unwrap_or-slice_get}
use Rattle.std.proofs.lemmas.List.{take_rest}
use Rattle.value.specs.Answer.{pick}
use Rattle.value.specs.Bytes.{same_bytes}
use Rattle.value.proofs.Truth.{both_true}
use Rattle.words.specs.Words.{until, onto, words, parts}

-- ---- a search

-- the place at which the library's `position` finds the byte
pub until-position : (b : ℕ) (s : List ℕ) → until b s ≡ position_or_len (λ x. eqb x b) s
unfolding until
until-position b [] = refl
until-position b (x ∷ xs) = go (eqb x b) (until-position b xs)
  where
    go : (t : Bool) → until b xs ≡ position_or_len (λ x. eqb x b) xs → pick t 0 (suc (until b xs)) ≡ cond (not t) (1 + position_or_len (λ x. eqb x b) xs) 0
    go true e = refl
    go false e = omega (arith, e)

pub until-within : (b : ℕ) (s : List ℕ) → until b s ≤ length s
unfolding until
until-within b [] = omega arith
until-within b (x ∷ xs) =
    elim (ℕ_discrete x b) [
      | yes e ↦ rw (eq-eqb x b e) (omega arith)
      | no e ↦ rw (ne_eqb x b e) (omega (arith, until-within b xs))
    ]

-- what the library finds in what is left from a place on
pub until-found : (b from : ℕ) (s rest : List ℕ) (p : Option ℕ) → rest ≡ drop from s
    → p ≡ cond (ltb (position_or_len (λ x. eqb x b) rest) (length rest)) (Some (position_or_len (λ x. eqb x b) rest)) None
    → unwrap_or p (length rest) ≡ until b (drop from s)
until-found b from s rest p e q =
    let u = until-position b rest in
    let w = until-within b rest in
    ap (λ (o : Option ℕ). unwrap_or o (length rest)) q ∙ chosen (position_or_len (λ x. eqb x b) rest) (length rest) (omega arith) ∙ sym u ∙ ap (until b) e
  where
    chosen : (k n : ℕ) → k ≤ n → unwrap_or (cond (ltb k n) (Some k) None) n ≡ k
    chosen k n h =
        elim (dec_le n k) [
          | yes g ↦ rw (le-ltb k n g) (omega arith)
          | no g ↦ rw (lt-ltb k n (omega arith))
        ]

-- what is left from a place on, where the place is in the slice; else no byte
pub rest-is : (s : List ℕ) (from : ℕ) (o : Option (Bor (List ℕ))) (r : Bor (List ℕ))
    → MatchOption o ((length s < from) ⊎ (length s < length s)) (λ x. (from ≤ length s) × (length s ≤ length s) × (x.now ≡ slice_range s from (length s)) × (length x.now + from ≡ length s))
    → UnwrapsOrElse o (λ d. d.now ≡ []) r → r.now ≡ drop from s
rest-is s from None r (inl h) u = u ∙ sym (drop_of_length-le s (omega arith))
rest-is s from None r (inr h) u = absurd (omega arith)
rest-is s from (Some x) r h u = ap (λ (b : Bor (List ℕ)). b.now) u ∙ h.2 ∙ take_rest s from

-- ---- a comparison

pub pointwise-same : (a b : List ℕ) → pointwise eqb a b ≡ same_bytes a b
unfolding same_bytes
pointwise-same [] [] = refl
pointwise-same [] (y ∷ ys) = refl
pointwise-same (x ∷ xs) [] = refl
pointwise-same (x ∷ xs) (y ∷ ys) = ap (λ (t : Bool). eqb x y && t) (pointwise-same xs ys)

-- the test and the equation
pub same-is : (a b : List ℕ) → same_bytes a b ≡ true → a ≡ b
unfolding same_bytes
same-is [] [] e = refl
same-is [] (y ∷ ys) e = let z : ◌≡◌ {A = ℕ} 0 1 = cc in absurd (omega arith)
same-is (x ∷ xs) [] e = let z : ◌≡◌ {A = ℕ} 0 1 = cc in absurd (omega arith)
same-is (x ∷ xs) (y ∷ ys) e =
    let t = both_true (eqb x y) (same_bytes xs ys) e in
    ap₂ (λ (n : ℕ) (l : List ℕ). n ∷ l) (eqb-true x y t.0) (same-is xs ys t.1)

-- ---- words

pub some_word : (s : List ℕ) → 0 < length (words s)
unfolding words parts
some_word [] = omega arith
some_word (x ∷ xs) =
    elim (ℕ_discrete x 32) [
      | yes e ↦ rw (eq-eqb x 32 e) (omega arith)
      | no e ↦ rw (ne_eqb x 32 e) (go (words xs) (some_word xs))
    ]
  where
    go : (ws : List (List ℕ)) → 0 < length ws → 0 < length (onto x ws)
    go [] h = omega arith
    go (w ∷ ws) h = omega arith

pub length-onto : (x : ℕ) (ws : List (List ℕ)) → 0 < length ws → length (onto x ws) ≡ length ws
length-onto x [] h = absurd (omega arith)
length-onto x (w ∷ ws) h = refl

-- the parts that the library's `split` gives
pub words-split : (line : List ℕ) → words line ≡ slice_split (λ b. eqb b 32) line
unfolding words parts
words-split [] = refl
words-split (x ∷ xs) = go (eqb x 32) (words xs) (words-split xs)
  where
    first-onto : (ps : List (List ℕ)) → onto x ps ≡ onto_first x ps
    first-onto [] = refl
    first-onto (p ∷ ps) = refl

    go : (t : Bool) (ps : List (List ℕ)) {qs : List (List ℕ)} → ps ≡ qs → pick t ([] ∷ ps) (onto x ps) ≡ cond t ([] ∷ qs) (onto_first x qs)
    go true ps e = ap (λ (l : List (List ℕ)). [] ∷ l) e
    go false ps e = first-onto ps ∙ ap (onto_first x) e

-- the word that a choice of one among them gives, or no byte
pub word-chosen : (line : List ℕ) (k : ℕ) (r : Option (Bor (List ℕ))) (w : Bor (List ℕ)) → option_map (λ x. x.now) r ≡ slice_get (slice_split (λ b. eqb b 32) line) k
    → UnwrapsOrElse r (λ d. d.now ≡ []) w → w.now ≡ get_or (words line) k []
word-chosen line k r w e u =
    chosen r u ∙ ap (λ (o : Option (List ℕ)). unwrap_or o []) e ∙ unwrap_or-slice_get (slice_split (λ b. eqb b 32) line) k []
    ∙ ap (λ (ws : List (List ℕ)). get_or ws k []) (sym (words-split line))
  where
    chosen : (r : Option (Bor (List ℕ))) → UnwrapsOrElse r (λ d. d.now ≡ []) w → w.now ≡ unwrap_or (option_map (λ x. x.now) r) []
    chosen None u = u
    chosen (Some x) u = ap (λ (b : Bor (List ℕ)). b.now) u

-- ---- a line as its first word and the rest

module _ (b : ℕ) (last : List (List ℕ)) where
  pub first_part : (s : List ℕ) → until b s < length s → parts b last s ≡ take (until b s) s ∷ parts b last (drop (suc (until b s)) s)
  unfolding until parts
  first_part [] h = absurd (omega arith)
  first_part (x ∷ xs) h =
      elim (ℕ_discrete x b) [
        | yes e ↦ rw (eq-eqb x b e)
        | no e ↦ rw (ne_eqb x b e) (ap (onto x) (first_part xs (less (rw (ne_eqb x b e) at h))))
      ]
    where
      less : {m n : ℕ} → suc m < suc n → m < n
      less h = omega arith

  pub last-part : ((x : ℕ) → onto x last ≡ (x ∷ []) ∷ []) → (x : ℕ) (xs : List ℕ) → length (x ∷ xs) ≤ until b (x ∷ xs) → parts b last (x ∷ xs) ≡ (x ∷ xs) ∷ []
  unfolding until parts
  last-part f x [] h =
      elim (ℕ_discrete x b) [
        | yes e ↦ absurd (none (rw (eq-eqb x b e) at h))
        | no e ↦ rw (ne_eqb x b e) (f x)
      ]
    where
      none : {n : ℕ} → suc n ≤ 0 → ⊥
      none h = omega arith
  last-part f x (y ∷ ys) h =
      elim (ℕ_discrete x b) [
        | yes e ↦ absurd (none (rw (eq-eqb x b e) at h))
        | no e ↦ rw (ne_eqb x b e) (ap (onto x) (last-part f y ys (less (rw (ne_eqb x b e) at h))))
      ]
    where
      none : {n : ℕ} → suc n ≤ 0 → ⊥
      none h = omega arith

      less : {m n : ℕ} → suc m ≤ suc n → m ≤ n
      less h = omega arith

pub first_word : (s : List ℕ) → until 32 s < length s → words s ≡ take (until 32 s) s ∷ words (drop (suc (until 32 s)) s)
unfolding words
first_word s h = first_part 32 ([] ∷ []) s h

pub last_word : (s : List ℕ) → length s ≤ until 32 s → words s ≡ s ∷ []
unfolding words parts
last_word [] h = refl
last_word (x ∷ xs) h = last-part 32 ([] ∷ []) (λ y. refl) x xs h
