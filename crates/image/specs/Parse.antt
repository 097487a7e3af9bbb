-- The vocabulary of the image's definition: what reading a field finds, and how fields are put one after another.
use Rattle.std.specs.Prelude.{ℕ, zero, suc, ◌-◌, List, [], ◌∷◌}
use Rattle.value.specs.declared.refusal.Refusal.{Refusal}

-- A value and the place after it, or a refusal's number and place.
pub data Got (A : Type 0) : Type 0 where
  took : A → ℕ → Got A
  refused : Refusal → ℕ → Got A

-- A field: what is found at a place.
abbrev pub Field : Type 0 → Type 0
Field A = ℕ → Got A

unfoldable pub and_then : {A B : Type 0} → Got A → (A → ℕ → Got B) → Got B
and_then (took a next) f = f a next
and_then (refused n place) f = refused n place

infixl 20 ◌>>=◌
infixl 30 ◌<$>◌
infixl 30 ◌<*>◌
-- one field, then another that may depend on the first's value: the first refusal is the answer. A block of `do` is made of these.
abbrev pub ◌>>=◌ : {A B : Type 0} → Field A → (A → Field B) → Field B
(p >>= f) at = and_then (p at) f

-- nothing more to read: the value
abbrev pub give : {A : Type 0} → A → Field A
give a at = took a at

-- `f <$> p <*> q`: the fields p and q one after the other, and f of their values
abbrev pub ◌<$>◌ : {A B : Type 0} → (A → B) → Field A → Field B
f <$> p = p >>= λ a. give (f a)

abbrev pub ◌<*>◌ : {A B : Type 0} → Field (A → B) → Field A → Field B
p <*> q = p >>= λ f. f <$> q

-- fields one after another, and f of their values
abbrev pub one : {A Z : Type 0} → (A → Z) → Field A → Field Z
one f p = f <$> p

abbrev pub two : {A B Z : Type 0} → (A → B → Z) → Field A → Field B → Field Z
two f p q = f <$> p <*> q

abbrev pub three : {A B C Z : Type 0} → (A → B → C → Z) → Field A → Field B → Field C → Field Z
three f p q r = f <$> p <*> q <*> r

abbrev pub four : {A B C D Z : Type 0} → (A → B → C → D → Z) → Field A → Field B → Field C → Field D → Field Z
four f p q r t = f <$> p <*> q <*> r <*> t

abbrev pub five : {A B C D E Z : Type 0} → (A → B → C → D → E → Z) → Field A → Field B → Field C → Field D → Field E → Field Z
five f p q r t u = f <$> p <*> q <*> r <*> t <*> u

-- `count` fields, one after another
unfoldable pub many : {A : Type 0} → (count : ℕ) → Field A → Field (List A)
many zero p = give []
many (suc n) p = p >>= λ x. (λ xs. x ∷ xs) <$> many n p

-- `count` fields with a limit over all: each is told what is left of it
unfoldable pub within : {A : Type 0} → (size : A → ℕ) → (left count : ℕ) → (ℕ → Field A) → Field (List A)
within size left zero p = give []
within size left (suc n) p = p left >>= λ x. (λ xs. x ∷ xs) <$> within size (left - size x) n p

-- what was read, with the place of its first byte
pub record Placed (A : Type 0) : Type 0 where
  pub at : ℕ
  pub item : A

abbrev pub placed : {A : Type 0} → Field A → Field (Placed A)
placed p at = ((λ a. record { at = at; item = a }) <$> p) at
