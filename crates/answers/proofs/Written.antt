-- Pieces that are written as words, each after a space: those of two texts are those of the one and then those of the other.
use mathlib.Core.Bool.{Bool, true, false}
use mathlib.Core.Path.{◌≡◌, refl, sym, ap, ◌∙◌}
use mathlib.Core.List.{List, [], ◌∷◌, ◌++◌, append_assoc}
use Prim.Native.Nat.{ℕ}
use Rattle.value.specs.Answer.{pick}
use Rattle.words.proofs.Whole.{joined}
use Rattle.answers.specs.Lines.{Pieces}
use Rattle.answers.proofs.Again.{Item, shown, Held, parted, ended, All}

-- words, each after a space, and what comes after them
abbrev pub follow : List Item → List ℕ → List ℕ
follow [] e = e
follow (i ∷ is) e = 32 ∷ (shown i ++ follow is e)

pub follow_append : (is js : List Item) (e : List ℕ) → follow (is ++ js) e ≡ follow is (follow js e)
follow_append [] js e = refl
follow_append (i ∷ is) js e = ap (λ (x : List ℕ). 32 ∷ (shown i ++ x)) (follow_append is js e)

pub ended_follow : (i : Item) (is : List Item) → shown i ++ follow is (10 ∷ []) ≡ ended i is
ended_follow i [] = refl
ended_follow i (j ∷ is) = ap (λ (x : List ℕ). shown i ++ (32 ∷ x)) (ended_follow j is)

-- the same of words that are parted by a byte
abbrev pub parted_to : ℕ → Item → List Item → List ℕ → List ℕ
parted_to b i [] e = shown i ++ e
parted_to b i (j ∷ is) e = shown i ++ (b ∷ parted_to b j is e)

pub parted_to_lem : (b : ℕ) (i : Item) (is : List Item) (e : List ℕ) → parted_to b i is e ≡ parted b i is ++ e
parted_to_lem b i [] e = refl
parted_to_lem b i (j ∷ is) e = ap (λ (x : List ℕ). shown i ++ (b ∷ x)) (parted_to_lem b j is e) ∙ sym (append_assoc (shown i) (b ∷ parted b j is) e)

abbrev pub AllHeld : List Item → Type 0
AllHeld [] = Unit {0}
AllHeld (i ∷ is) = Held i × AllHeld is

pub held-append : (is js : List Item) → AllHeld is → AllHeld js → AllHeld (is ++ js)
held-append [] js h g = g
held-append (i ∷ is) js h g = (h.0, held-append is js h.1 g)

pub all_held : (i : Item) (is : List Item) → Held i → AllHeld is → All Held i is
all_held i [] h g = h
all_held i (j ∷ is) h g = (h, all_held j is g.0 g.1)

-- the pieces are the lead and these words, and a program can hold each
pub record Part (lead : List ℕ) (ps : Pieces) (is : List Item) : Type 0 where
  pub text : (rest : Pieces) → joined (ps ++ rest) ≡ lead ++ follow is (joined rest)
  pub held : AllHeld is

pub nothing : Part [] [] []
nothing = record { text = λ rest. refl; held = tt }

pub word : (ps : Pieces) (i : Item) → ((rest : Pieces) → joined (ps ++ rest) ≡ 32 ∷ (shown i ++ joined rest)) → Held i → Part [] ps (i ∷ [])
word ps i e h = record { text = e; held = (h, tt) }

pub both : {lead : List ℕ} {a b : Pieces} {is js : List Item} → Part lead a is → Part [] b js → Part lead (a ++ b) (is ++ js)
both {lead} {a} {b} {is} {js} p q = record {
  text = λ rest. ap joined (append_assoc a b rest) ∙ p.text (b ++ rest) ∙ ap (λ (x : List ℕ). lead ++ follow is x) (q.text rest)
      ∙ ap (λ (x : List ℕ). lead ++ x) (sym (follow_append is js (joined rest)));
  held = held-append is js p.held q.held;
}

pub either : {a b : Pieces} {is js : List Item} (t : Bool) → (t ≡ true → Part [] a is) → (t ≡ false → Part [] b js) → Part [] (pick t a b) (pick t is js)
either true p q = p refl
either false p q = q refl
