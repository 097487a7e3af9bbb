-- `every` as a loop meets it, one number after another, and as facts about each number.
use mathlib.Core.Path.{◌≡◌, refl, ap, ◌∙◌, sym}
use mathlib.Core.Bool.{Bool, true, false, ◌&&◌, and-false}
use Prim.Native.Nat.{ℕ, zero, suc, ◌+◌, ◌<◌, ◌≤◌}
use native.Mathlib.Numerals.{add-one}
use native.Mathlib.Nat.{not-suc-le-zero}
use native.Mathlib.Omega.{arith}
use lib.Dec.{ltb}
use borrow.Author.Tests.{ltb-true, ltb-false}
use Rattle.memory.specs.Tables.{every}
use Rattle.value.proofs.Truth.{both_true}

pub by_test : {P : Type 0} (b : Bool) → (b ≡ true → P) → (b ≡ false → P) → P
by_test true f g = f refl
by_test false f g = g refl

-- two tests that hold together are one
pub same_truth : (a b : Bool) → (a ≡ true → b ≡ true) → (b ≡ true → a ≡ true) → a ≡ b
same_truth true b f g = sym (f refl)
same_truth false true f g = g refl
same_truth false false f g = refl

pub every-none : (f : ℕ → Bool) → every 0 f ≡ true
unfolding every
every-none f = refl

pub every_more : (n : ℕ) (f : ℕ → Bool) → every n f ≡ true → f n ≡ true → every (n + 1) f ≡ true
unfolding every
every_more n f a b = rw (add-one, a, b)

pub every-at : (n : ℕ) (f : ℕ → Bool) → every n f ≡ true → (i : ℕ) → i < n → f i ≡ true
unfolding every
every-at zero f e i h = absurd (not-suc-le-zero h)
every-at (suc n) f e i h =
    let x = both_true (every n f) (f n) e in
    by_test (ltb i n)
    (λ t. every-at n f x.0 i (ltb-true i n t))
    (λ t. let k : n ≤ i = ltb-false i n t in
    let q : i ≡ n = omega arith in
    ap f q ∙ x.1)

pub every-not : (n : ℕ) (f : ℕ → Bool) (i : ℕ) → i < n → f i ≡ false → every n f ≡ false
unfolding every
every-not zero f i h e = absurd (not-suc-le-zero h)
every-not (suc n) f i h e =
    by_test (ltb i n)
    (λ t. rw (every-not n f i (ltb-true i n t) e))
    (λ t. let k : n ≤ i = ltb-false i n t in
    let q : n ≡ i = omega arith in
    ap (λ b. every n f && b) (ap f q ∙ e) ∙ and-false (every n f))

-- what holds at each number below n is the test
pub every-all : (n : ℕ) (f : ℕ → Bool) → ((i : ℕ) → i < n → f i ≡ true) → every n f ≡ true
every-all zero f h = every-none f
every-all (suc n) f h = rw add-one at (every_more n f (every-all n f (λ i k. h i (omega arith))) (h n (omega arith)))
