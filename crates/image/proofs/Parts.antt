-- What was taken, taken apart: a sequence of fields, a test that let something through, and the item that a number stands for.
use Prim.Native.Nat.{ℕ, zero, suc}
use native.Mathlib.Omega.{arith}
use mathlib.Core.Bool.{Bool, true, false}
use mathlib.Core.Path.{◌≡◌, refl, ap, subst}
use mathlib.Core.List.{List, [], ◌∷◌}
use mathlib.Core.Option.{Option, none, some}
use lib.ListN.{get_or}
use Rattle.value.specs.declared.refusal.Refusal.{Refusal}
use Rattle.value.specs.Answer.{pick}
use Rattle.image.specs.Parse.{Got, took, refused, Field, and_then, ◌>>=◌, one, two, three, four, five}
use Rattle.image.specs.Fields.{meant}

-- a sequence that took something took its parts
pub record Parts {A B : Type 0} (g : Got A) (k : A → ℕ → Got B) (b : B) (m : ℕ) : Type 0 where
  pub value : A
  pub place : ℕ
  pub first : g ≡ took value place
  pub then' : k value place ≡ took b m

pub never : {A : Type 0} {B : Type 0} {n : Refusal} {q m : ℕ} {b : B} → ◌≡◌ {A = Got B} (refused n q) (took b m) → A
never {A} {B} {n} {q} {m} {b} e = let z : ◌≡◌ {A = ℕ} 0 1 = cc in absurd (omega arith)

pub parts : {A B : Type 0} (g : Got A) (k : A → ℕ → Got B) (b : B) (m : ℕ) → and_then g k ≡ took b m → Parts g k b m
unfolding and_then
parts (took a n) k b m e = record { value = a; place = n; first = refl; then' = e }
parts (refused n q) k b m e = never e

-- a test that let something through held
pub picked : {B : Type 0} (t : Bool) (g : Got B) (n : Refusal) (q : ℕ) (b : B) (m : ℕ) → pick t g (refused n q) ≡ took b m → (t ≡ true) × (g ≡ took b m)
picked true g n q b m e = (refl, e)
picked false g n q b m e = never e

pub same-value : {A : Type 0} {a b : A} {m n : ℕ} → took a m ≡ took b n → a ≡ b
same-value {A} {a} {b} {m} {n} e = cc

pub same_place : {A : Type 0} {a b : A} {m n : ℕ} → took a m ≡ took b n → m ≡ n
same_place {A} {a} {b} {m} {n} e = cc

-- ---- fields and f of their values, one after another to the right

pub two_right : {A B Z : Type 0} (f : A → B → Z) (p : Field A) (q : Field B) (at : ℕ) → two f p q at ≡ (p >>= λ a. one (f a) q) at
unfolding and_then
two_right {A} {B} {Z} f p q at = by_got (p at)
  where
    by_got : (g : Got A) → and_then (and_then g (λ a n. took (f a) n)) (λ h n. and_then (q n) (λ b m. took (h b) m)) ≡ and_then g (λ a n. and_then (q n) (λ b m. took (f a b) m))
    by_got (took a n) = refl
    by_got (refused n r) = refl

pub three_right : {A B C Z : Type 0} (f : A → B → C → Z) (p : Field A) (q : Field B) (r : Field C) (at : ℕ) → three f p q r at ≡ (p >>= λ a. two (f a) q r) at
unfolding and_then
three_right {A} {B} {C} {Z} f p q r at = by_got (p at)
  where
    by_got : (g : Got A)
        → and_then (and_then (and_then g (λ a n. took (f a) n)) (λ h n. and_then (q n) (λ b m. took (h b) m))) (λ h n. and_then (r n) (λ c m. took (h c) m)) ≡ and_then g (λ a. two (f a) q r)
    by_got (took a n) = refl
    by_got (refused n k) = refl

pub four_right : {A B C D Z : Type 0} (f : A → B → C → D → Z) (p : Field A) (q : Field B) (r : Field C) (t : Field D) (at : ℕ) → four f p q r t at ≡ (p >>= λ a. three (f a) q r t) at
unfolding and_then
four_right {A} {B} {C} {D} {Z} f p q r t at = by_got (p at)
  where
    by_got : (g : Got A)
        → and_then (and_then (and_then (and_then g (λ a n. took (f a) n)) (λ h n. and_then (q n) (λ b m. took (h b) m))) (λ h n. and_then (r n) (λ c m. took (h c) m))) (λ h n. and_then (t n) (λ d m. took (h d) m))
        ≡ and_then g (λ a. three (f a) q r t)
    by_got (took a n) = refl
    by_got (refused n k) = refl

pub five_right : {A B C D E Z : Type 0} (f : A → B → C → D → E → Z) (p : Field A) (q : Field B) (r : Field C) (t : Field D) (u : Field E) (at : ℕ)
    → five f p q r t u at ≡ (p >>= λ a. four (f a) q r t u) at
unfolding and_then
five_right {A} {B} {C} {D} {E} {Z} f p q r t u at = by_got (p at)
  where
    by_got : (g : Got A)
        → and_then (and_then (and_then (and_then (and_then g (λ a n. took (f a) n)) (λ h n. and_then (q n) (λ b m. took (h b) m))) (λ h n. and_then (r n) (λ c m. took (h c) m))) (λ h n. and_then (t n) (λ d m. took (h d) m)))
        (λ h n. and_then (u n) (λ e m. took (h e) m))
        ≡ and_then g (λ a. four (f a) q r t u)
    by_got (took a n) = refl
    by_got (refused n k) = refl

-- ---- items by their numbers

-- a law of each item of a list, by its position
unfoldable pub Every : {A : Type 0} → (ℕ → A → Type 0) → List (Option A) → Type 0
Every law [] = Unit
Every law (none ∷ xs) = Every (λ k. law (suc k)) xs
Every law (some a ∷ xs) = law 0 a × Every (λ k. law (suc k)) xs

pub every-at : {A : Type 0} (law : ℕ → A → Type 0) (xs : List (Option A)) → Every law xs → (v : ℕ) (a : A) → get_or xs v none ≡ some a → law v a
unfolding Every
every-at law [] h zero a e = let z : ◌≡◌ {A = ℕ} 0 1 = cc in absurd (omega arith)
every-at law [] h (suc v) a e = let z : ◌≡◌ {A = ℕ} 0 1 = cc in absurd (omega arith)
every-at law (none ∷ xs) h zero a e = let z : ◌≡◌ {A = ℕ} 0 1 = cc in absurd (omega arith)
every-at law (none ∷ xs) h (suc v) a e = every-at (λ k. law (suc k)) xs h v a e
every-at {A} law (some b ∷ xs) h zero a e = let same : b ≡ a = cc in subst (law 0) same h.0
every-at law (some b ∷ xs) h (suc v) a e = every-at (λ k. law (suc k)) xs h.1 v a e

pub meant-some : {A : Type 0} (o : Option A) (at m next : ℕ) (a : A) → meant o at m ≡ took a next → (o ≡ some a) × (m ≡ next)
meant-some none at m next a e = never e
meant-some (some b) at m next a e = let same : b ≡ a = cc in let place : m ≡ next = cc in (ap some same, place)
