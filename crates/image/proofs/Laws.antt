-- Fields one after another, as the code reads them: each from the step before it.
use Rattle.std.specs.Prelude.{Result, Ok, Err}
use Prim.Native.Nat.{ℕ, zero, suc}
use mathlib.Core.Bool.{Bool}
use mathlib.Core.Path.{◌≡◌, refl, sym, ap, ◌∙◌}
use mathlib.Core.List.{List, ◌∷◌}
use Rattle.value.specs.declared.refusal.Refusal.{Refusal}
use Rattle.value.specs.Answer.{pick}
use Rattle.image.specs.Parse.{Got, took, refused, Field, and_then, ◌>>=◌, ◌<$>◌, ◌<*>◌, two, three, four, five, many, placed}
use Rattle.image.specs.Number.{number}
use Rattle.image.specs.Fields.{such}
use Rattle.image.specs.Answer.{stop, shape, walk}
use Rattle.image.specs.declared.number.Stop.{Stop}

-- ---- one field and what follows it

-- what follows a field that was taken, and one that was refused
module _ {A B : Type 0} (p : Field A) (f : A → Field B) (at : ℕ) where
  pub then-taken : {a : A} {n : ℕ} → p at ≡ took a n → (p >>= f) at ≡ f a n
  unfolding and_then
  then-taken h = rw h refl

  pub then-refused : {k : Refusal} {q : ℕ} → p at ≡ refused k q → (p >>= f) at ≡ refused k q
  unfolding and_then
  then-refused h = rw h refl

module _ {A B : Type 0} where
  shape-map : (f : A → B) (g : Got A) → shape (and_then g (λ a n. took (f a) n)) ≡ shape g
  unfolding and_then
  shape-map f (took a n) = refl
  shape-map f (refused n q) = refl

  -- a field whose value is only dressed up ends where it ends
  pub walk-map : (f : A → B) (p : Field A) (c : Result ℕ Stop) → walk (f <$> p) c ≡ walk p c
  walk-map f p (Ok n) = shape-map f (p n)
  walk-map f p (Err e) = refl

  pub walk_ap : (p : Field (A → B)) (q : Field A) (c : Result ℕ Stop) → walk (p <*> q) c ≡ walk q (walk p c)
  unfolding and_then
  walk_ap p q (Err e) = refl
  walk_ap p q (Ok at) = by_got (p at)
    where
      by_got : (g : Got (A → B)) → shape (and_then g (λ f n. and_then (q n) (λ a m. took (f a) m))) ≡ walk q (shape g)
      by_got (took f n) = shape-map f (q n)
      by_got (refused k r) = refl

-- what follows a field, where it ends in the same place whatever the field's value is
pub walk-then : {A B : Type 0} (p : Field A) (f : A → Field B) (ends : Result ℕ Stop → Result ℕ Stop) → ((e : Stop) → Err e ≡ ends (Err e))
    → ((a : A) (n : ℕ) → shape (f a n) ≡ ends (Ok n)) → (c : Result ℕ Stop) → walk (p >>= f) c ≡ ends (walk p c)
unfolding and_then
walk-then p f ends stops h (Err e) = stops e
walk-then {A} p f ends stops h (Ok at) = by_got (p at)
  where
    by_got : (g : Got A) → shape (and_then g f) ≡ ends (shape g)
    by_got (took a n) = h a n
    by_got (refused k q) = stops (stop k q)

pub walk-placed : {A : Type 0} (p : Field A) (c : Result ℕ Stop) → walk (placed p) c ≡ walk p c
walk-placed p (Ok n) = shape-map _ (p n)
walk-placed p (Err e) = refl

pub walk-two : {A B Z : Type 0} (f : A → B → Z) (p : Field A) (q : Field B) (c : Result ℕ Stop) → walk (two f p q) c ≡ walk q (walk p c)
walk-two f p q c = walk_ap (f <$> p) q c ∙ ap (walk q) (walk-map f p c)

pub walk-three : {A B C Z : Type 0} (f : A → B → C → Z) (p : Field A) (q : Field B) (r : Field C) (c : Result ℕ Stop)
    → walk (three f p q r) c ≡ walk r (walk q (walk p c))
walk-three f p q r c = walk_ap (two f p q) r c ∙ ap (walk r) (walk-two f p q c)

pub walk-four : {A B C D Z : Type 0} (f : A → B → C → D → Z) (p : Field A) (q : Field B) (r : Field C) (t : Field D) (c : Result ℕ Stop)
    → walk (four f p q r t) c ≡ walk t (walk r (walk q (walk p c)))
walk-four f p q r t c = walk_ap (three f p q r) t c ∙ ap (walk t) (walk-three f p q r c)

pub walk-five : {A B C D E Z : Type 0} (f : A → B → C → D → E → Z) (p : Field A) (q : Field B) (r : Field C) (t : Field D) (u : Field E) (c : Result ℕ Stop)
    → walk (five f p q r t u) c ≡ walk u (walk t (walk r (walk q (walk p c))))
walk-five f p q r t u c = walk_ap (four f p q r t) u c ∙ ap (walk u) (walk-four f p q r t c)

-- ---- many fields

module _ {A : Type 0} (p : Field A) where
  pub many-none : (c : Result ℕ Stop) → walk (many 0 p) c ≡ c
  unfolding many
  many-none (Ok n) = refl
  many-none (Err e) = refl

  pub many-first : (n : ℕ) (c : Result ℕ Stop) → walk (many (suc n) p) c ≡ walk (many n p) (walk p c)
  unfolding many and_then
  many-first n (Err e) = refl
  many-first n (Ok at) = by_got (p at)
    where
      by_got : (g : Got A) → shape (and_then g (λ x m. and_then (many n p m) (λ xs e. took (x ∷ xs) e))) ≡ walk (many n p) (shape g)
      by_got (took x m) = shape-map (λ xs. x ∷ xs) (many n p m)
      by_got (refused k q) = refl

  -- one more field, at the end
  pub many-last : (n : ℕ) (c : Result ℕ Stop) → walk (many (suc n) p) c ≡ walk p (walk (many n p) c)
  many-last zero c = many-first zero c ∙ many-none (walk p c) ∙ ap (walk p) (sym (many-none c))
  many-last (suc n) c = many-first (suc n) c ∙ many-last n (walk p c) ∙ ap (walk p) (sym (many-first n c))

-- ---- numbers that pass a test, as the code has read them

module _ (s : List ℕ) (test : ℕ → Bool) (why : Refusal) (at : ℕ) where
  pub such-taken : {v n : ℕ} → number s at ≡ took v n → such s test why at ≡ pick (test v) (took v n) (refused why at)
  unfolding such and_then
  such-taken h = rw h refl

  pub such-refused : {k : Refusal} {q : ℕ} → number s at ≡ refused k q → such s test why at ≡ refused k q
  unfolding such and_then
  such-refused h = rw h refl
