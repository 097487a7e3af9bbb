-- The grammar without the places: reading an image and forgetting where its items stood is reading its program.
use Prim.Native.Nat.{ℕ, zero, suc, ◌-◌}
use mathlib.Core.Bool.{Bool, true, false}
use mathlib.Core.Path.{◌≡◌, refl, sym, ap, ◌∙◌}
use mathlib.Core.List.{List, ◌∷◌, map}
use lib.ListN.{length, length-map}
use lib.Dec.{leb}
use Rattle.value.specs.Answer.{pick}
use Rattle.value.specs.Refusal.{over_limit}
use Rattle.image.specs.Parse.{Got, took, refused, Field, Placed, and_then, give, many, within, placed, ◌>>=◌, ◌<$>◌}
use Rattle.image.specs.Fields.{at_most, list_of, bytes, at_end}
use Rattle.image.specs.Image.{Counts, header, function, constants, block, blocks, instruction, unless_long, whole, image, program_of, loaded}
use Rattle.image.specs.Program.{Program}

module _ (s : List ℕ) where
  -- what follows the header, as the program
  unfoldable pub plain_parts : Counts → Field Program
  plain_parts n = do
    constants ← within length 8192 n.constants (bytes s)
    functions ← many n.functions (function s n)
    blocks ← within length 4096 n.blocks (block s (instruction s n))
    end ← at_end s
    give (record { variables = n.variables; constants = constants; functions = functions; blocks = blocks })

  -- an image's fields, as its program
  unfoldable pub plain : Field Program
  plain = do
    n ← header s
    plain_parts n

-- ---- forgetting, field by field

-- p, its value seen through f, is q
abbrev Seen : {A B : Type 0} → (A → B) → Field A → Field B → Type 0
Seen f p q = (at : ℕ) → (f <$> p) at ≡ q at

-- what follows may as well go on from what is seen
onward : {A B C : Type 0} (f : A → B) (g : Got A) (h : Got B) → and_then g (λ a n. took (f a) n) ≡ h → (k : A → ℕ → Got C) (l : B → ℕ → Got C)
    → ((a : A) (n : ℕ) → k a n ≡ l (f a) n) → and_then g k ≡ and_then h l
unfolding and_then
onward f (took a n) h e k l same = same a n ∙ ap (λ g. and_then g l) e
onward f (refused n q) h e k l same = ap (λ g. and_then g l) e

-- one continuation after another
nested : {A B C : Type 0} (g : Got A) (k : A → ℕ → Got B) (l : B → ℕ → Got C) → and_then (and_then g k) l ≡ and_then g (λ a n. and_then (k a n) l)
unfolding and_then
nested (took a n) k l = refl
nested (refused n q) k l = refl

seen_placed : {A : Type 0} (p : Field A) → Seen (λ c. c.item) (placed p) p
unfolding and_then
seen_placed {A} p at = by_got (p at)
  where
    by_got : (g : Got A) → and_then (and_then {B = Placed A} g (λ a n. took (record { at = at; item = a }) n)) (λ c n. took c.item n) ≡ g
    by_got (took a n) = refl
    by_got (refused n q) = refl

seen_itself : {A : Type 0} (p : Field A) → Seen (λ a. a) p p
unfolding and_then
seen_itself {A} p at = by_got (p at)
  where
    by_got : (g : Got A) → and_then g (λ a n. took a n) ≡ g
    by_got (took a n) = refl
    by_got (refused n q) = refl

-- one field after another, each seen
seen_then : {A B C D : Type 0} (f : A → B) (h : C → D) (p : Field A) (q : Field B) → Seen f p q → (k : A → Field C) (l : B → Field D) → ((a : A) → Seen h (k a) (l (f a)))
    → Seen h (p >>= k) (q >>= l)
seen_then f h p q e k l es at =
    nested (p at) k (λ c n. took (h c) n) ∙ onward f (p at) (q at) (e at) (λ a n. and_then (k a n) (λ c m. took (h c) m)) l (λ a n. es a n)

module _ {A B : Type 0} (f : A → B) where
  -- an item before the rest, each seen
  seen_cons : (p : Field A) (q : Field B) → Seen f p q → (ps : A → Field (List A)) (qs : B → Field (List B)) → ((a : A) → Seen (map f) (ps a) (qs (f a)))
      → Seen (map f) (p >>= λ x. (λ xs. x ∷ xs) <$> ps x) (q >>= λ x. (λ xs. x ∷ xs) <$> qs x)
  unfolding and_then
  seen_cons p q e ps qs es =
      seen_then f (map f) p q e _ _ (λ x. seen_then (map f) (map f) (ps x) (qs (f x)) (es x) (λ xs m. took (x ∷ xs) m) (λ xs m. took (f x ∷ xs) m) (λ xs m. refl))

  seen-many : (p : Field A) (q : Field B) → Seen f p q → (n : ℕ) → Seen (map f) (many n p) (many n q)
  unfolding many and_then
  seen-many p q e zero at = refl
  seen-many p q e (suc n) at = seen_cons p q e (λ x. many n p) (λ x. many n q) (λ x. seen-many p q e n) at

  seen-within : (size : A → ℕ) (size' : B → ℕ) → ((a : A) → size a ≡ size' (f a)) → (p : ℕ → Field A) (q : ℕ → Field B) → ((left : ℕ) → Seen f (p left) (q left)) → (left n : ℕ)
      → Seen (map f) (within size left n p) (within size' left n q)
  unfolding within and_then
  seen-within size size' z p q e left zero at = refl
  seen-within size size' z p q e left (suc n) at =
      seen_cons (p left) (q left) (e left) (λ x. within size (left - size x) n p) (λ x. within size' (left - size' x) n q)
      (λ x at. seen-within size size' z p q e (left - size x) n at ∙ ap (λ (k : ℕ). within size' (left - k) n q at) (z x)) at

  seen_list : (s : List ℕ) (most : ℕ) (p : Field A) (q : Field B) → Seen f p q → Seen (map f) (list_of s most p) (list_of s most q)
  unfolding list_of
  seen_list s most p q e = seen_then (λ count. count) (map f) (at_most s most) (at_most s most) (seen_itself (at_most s most)) (λ count. many count p) (λ count. many count q) (seen-many p q e)

-- ---- the whole image

module _ (s : List ℕ) where
  seen-whole : Seen program_of (whole s) (plain s)
  unfolding whole plain plain_parts constants blocks program_of and_then
  seen-whole =
      seen_then (λ n. n) program_of (header s) (header s) (seen_itself (header s)) _ _
      (λ n. seen_then (map (λ c. c.item)) program_of (constants s n) (within length 8192 n.constants (bytes s))
      (seen-within (λ c. c.item) (λ c. length c.item) length (λ c. refl) (λ left. placed (bytes s left)) (bytes s) (λ left. seen_placed (bytes s left)) 8192 n.constants) _ _
      (λ cs. seen_then (map (λ f. f.item)) program_of (many n.functions (placed (function s n))) (many n.functions (function s n))
      (seen-many (λ f. f.item) (placed (function s n)) (function s n) (seen_placed (function s n)) n.functions) _ _
      (λ fs. seen_then (map (map (λ i. i.item))) program_of (blocks s n) (within length 4096 n.blocks (block s (instruction s n)))
      (seen-within (map (λ i. i.item)) length length (λ b. sym (length-map b (λ i. i.item))) (block s (placed (instruction s n))) (block s (instruction s n))
      (λ left. seen_list (λ i. i.item) s left (placed (instruction s n)) (instruction s n) (seen_placed (instruction s n))) 4096 n.blocks) _ _
      (λ bs. seen_then (λ e. e) program_of (at_end s) (at_end s) (seen_itself (at_end s)) _ _ (λ e at. refl)))))

  pub loaded-plain : loaded s ≡ unless_long (length s) (plain s 0)
  unfolding loaded image and_then
  loaded-plain = by_test (leb (length s) 32768)
    where
      by_test : (b : Bool) → and_then (pick b (whole s 0) (refused over_limit 0)) (λ i end. took (program_of i) end) ≡ pick b (plain s 0) (refused over_limit 0)
      by_test true = seen-whole 0
      by_test false = refl
