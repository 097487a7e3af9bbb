-- The constants' starts and lengths, filled in one after another.
use Prim.Native.Nat.{ℕ, suc, ◌+◌, ◌*◌, ◌≤◌, ◌<◌}
use native.Mathlib.Omega.{arith}
use mathlib.Core.Path.{◌≡◌, refl, sym, ap, ap₂, ◌∙◌}
use mathlib.Core.List.{List, [], ◌∷◌, ◌++◌, append_assoc, append-nil}
use lib.ListN.{length, get_or, set, take, length-set}
use lib.Seq.{take_all, take-suc, take-suc-set}
use Rattle.image.specs.Parse.{Got, took, refused}
use Rattle.image.specs.Number.{number}
use Rattle.decode.specs.Extents.{extent, extents_at}
use Rattle.eval.specs.Loaded.{extent_of}
use Rattle.eval.specs.declared.entry.Extent.{Extent}

extents-append : (s xs : List ℕ) (c : ℕ) → extents_at s (xs ++ (c ∷ [])) ≡ extents_at s xs ++ extent (number s c)
unfolding extents_at
extents-append s [] c = append-nil (extent (number s c))
extents-append s (x ∷ xs) c = ap (λ (l : List ℕ). extent (number s x) ++ l) (extents-append s xs c) ∙ sym (append_assoc (extent (number s x)) (extents_at s xs) (extent (number s c)))

-- a constant's two words
two-words : (g : Got ℕ) → ((extent_of g).start ∷ (extent_of g).count ∷ []) ≡ extent g
two-words (took count start) = refl
two-words (refused n p) = refl

pub extents_none : (s cs e : List ℕ) → take (0 * 2) e ≡ extents_at s (take 0 cs)
unfolding extents_at
extents_none s cs e = refl

-- one constant more
pub extents_more : (s cs e : List ℕ) (k : ℕ) (f : Extent) → k < length cs → k * 2 + 1 < length e → f ≡ extent_of (number s (get_or cs k 0)) → take (k * 2) e ≡ extents_at s (take k cs)
    → take ((k + 1) * 2) (set (set e (k * 2) f.start) (k * 2 + 1) f.count) ≡ extents_at s (take (k + 1) cs)
extents_more s cs e k f lt room is h =
    let two : (k + 1) * 2 ≡ suc (k * 2 + 1) = omega arith in
    let one : k * 2 + 1 ≡ suc (k * 2) = omega arith in
    let more : k + 1 ≡ suc k = omega arith in
    let e₁ = set e (k * 2) f.start in
    ap (λ (n : ℕ). take n (set e₁ (k * 2 + 1) f.count)) two
    ∙ take-suc-set e₁ (k * 2 + 1) f.count (omega (arith, length-set e (k * 2) f.start))
    ∙ ap (λ (n : ℕ). take n e₁ ++ (f.count ∷ [])) one
    ∙ ap (λ (l : List ℕ). l ++ (f.count ∷ [])) (take-suc-set e (k * 2) f.start (omega arith))
    ∙ append_assoc (take (k * 2) e) (f.start ∷ []) (f.count ∷ [])
    ∙ ap₂ (λ (l : List ℕ) (g : Extent). l ++ (g.start ∷ g.count ∷ [])) h is
    ∙ ap (λ (l : List ℕ). extents_at s (take k cs) ++ l) (two-words (number s (get_or cs k 0)))
    ∙ sym (extents-append s (take k cs) (get_or cs k 0))
    ∙ ap (extents_at s) (sym (take-suc cs k 0 lt) ∙ ap (λ (n : ℕ). take n cs) (sym more))

-- all of them
pub extents_whole : (s cs e : List ℕ) (k : ℕ) → length cs ≤ k → k ≤ length cs → take (k * 2) e ≡ extents_at s (take k cs) → take (length cs * 2) e ≡ extents_at s cs
extents_whole s cs e k a b h =
    let same : length cs ≡ k = omega arith in
    ap (λ (n : ℕ). take (n * 2) e) same ∙ h ∙ ap (extents_at s) (take_all k cs a)
