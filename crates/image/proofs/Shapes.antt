-- Where the image's kinds of field end, as the code goes from step to step.
use Rattle.std.specs.Prelude.{Result, Ok, Err}
use Prim.Native.Nat.{ℕ, zero, suc, ◌+◌, ◌-◌, ◌≤◌, ◌<◌}
use native.Mathlib.Nat.{zero-add}
use native.Mathlib.Omega.{arith}
use native.Mathlib.Numerals.{add-one}
use native.Mathlib.Decide.{dec_lt}
use mathlib.Core.Bool.{Bool, true, false}
use mathlib.Core.Path.{◌≡◌, refl, sym, ap, ◌∙◌}
use mathlib.Core.List.{List, [], ◌∷◌, map}
use mathlib.Core.Option.{Option, none, some}
use lib.ListN.{length, get_or, take, drop}
use lib.Dec.{ltb, leb, eqb, leb-suc-suc}
use borrow.Author.Tests.{ne_eqb, leb-true, lt-ltb, le-ltb}
use Rattle.value.specs.declared.refusal.Refusal.{Refusal}
use Rattle.value.specs.Answer.{pick}
use Rattle.value.specs.Refusal.{bytes_run_out, unknown}
use Rattle.value.specs.Tags.{type_at}
use Rattle.image.specs.Parse.{Got, took, refused, Field, and_then, ◌>>=◌, many, within}
use Rattle.image.specs.Number.{number}
use Rattle.image.specs.Fields.{such, below, up_to, at_most, meant, listed, known, optional, list_of, bytes, raw}
use Rattle.image.specs.Answer.{stop, shape, after, walk, ending, is_some, is_type}
use Rattle.image.specs.declared.number.Stop.{Stop}
use Rattle.image.proofs.Laws.{walk-map, many-none, many-first, many-last}
use Rattle.image.proofs.Parts.{never}

-- two tests that agree
pub such-same : (s : List ℕ) (test test' : ℕ → Bool) (why : Refusal) → ((v : ℕ) → test v ≡ test' v) → (c : Result ℕ Stop) → walk (such s test why) c ≡ walk (such s test' why) c
unfolding such and_then
such-same s test test' why h (Err e) = refl
such-same s test test' why h (Ok at) = by_got (number s at)
  where
    by_got : (g : Got ℕ) → shape (and_then g (λ v n. pick (test v) (took v n) (refused why at))) ≡ shape (and_then g (λ v n. pick (test' v) (took v n) (refused why at)))
    by_got (took v n) = ap (λ (b : Bool). shape (pick b (took v n) (refused why at))) (h v)
    by_got (refused k q) = refl

-- ---- numbers that stand for something

-- what stands for something is what passes the test
pub known-such : {A : Type 0} (s : List ℕ) (item : ℕ → Option A) (test : ℕ → Bool) → ((v : ℕ) → is_some (item v) ≡ test v)
    → (c : Result ℕ Stop) → walk (known s item) c ≡ walk (such s test unknown) c
unfolding known such and_then
known-such s item test h (Err e) = refl
known-such {A} s item test h (Ok at) = whole
  where
    by_item : (o : Option A) (v n : ℕ) → shape (meant o at n) ≡ shape (pick (is_some o) (took v n) (refused unknown at))
    by_item none v n = refl
    by_item (some a) v n = refl

    by_got : (g : Got ℕ) → shape (and_then g (λ v n. meant (item v) at n)) ≡ shape (and_then g (λ v n. pick (test v) (took v n) (refused unknown at)))
    by_got (took v n) = by_item (item v) v n ∙ ap (λ (b : Bool). shape (pick b (took v n) (refused unknown at))) (h v)
    by_got (refused k q) = refl

    whole : shape (known s item at) ≡ shape (such s test unknown at)
    whole = by_got (number s at)

each-known : {A : Type 0} (xs : List A) (v : ℕ) → is_some (get_or (map some xs) v none) ≡ ltb v (length xs)
each-known [] v = sym (le-ltb v 0 (omega arith))
each-known (x ∷ xs) zero = sym (lt-ltb 0 (suc (length xs)) (omega arith))
each-known (x ∷ xs) (suc v) = each-known xs v ∙ sym (leb-suc-suc (suc v) (length xs))

-- items at every position from 0 on
pub known-below : {A : Type 0} (s : List ℕ) (xs : List A) (c : Result ℕ Stop) → walk (known s (listed (map some xs))) c ≡ walk (below s (length xs) unknown) c
known-below s xs c = known-such s (listed (map some xs)) (λ v. ltb v (length xs)) (each-known xs) c

-- the item that a number below the length of the list stands for
pub known-item : {A : Type 0} (s : List ℕ) (a : A) (xs : List A) (at : ℕ) {v n : ℕ} → below s (length xs) unknown at ≡ took v n → known s (listed (map some xs)) at ≡ took (get_or xs v a) n
unfolding known such and_then
known-item {A} s a xs at = by_got (number s at)
  where
    there : (ys : List A) (v : ℕ) → v < length ys → get_or (map some ys) v none ≡ some (get_or ys v a)
    there [] v h = absurd (omega arith)
    there (y ∷ ys) zero h = refl
    there (y ∷ ys) (suc v) h = there ys v (omega arith)

    by_test : (u m : ℕ) {v n : ℕ} → Dec (u < length xs) → pick (ltb u (length xs)) (took u m) (refused unknown at) ≡ took v n → meant (get_or (map some xs) u none) at m ≡ took (get_or xs v a) n
    by_test u m (yes h) e =
        let is : took u m ≡ took _ _ = rw (lt-ltb u (length xs) h) at e in
        rw (there xs u h) cc
    by_test u m (no h) e = never (rw (le-ltb u (length xs) (omega arith)) at e)

    by_got : (g : Got ℕ) {v n : ℕ} → and_then g (λ u m. pick (ltb u (length xs)) (took u m) (refused unknown at)) ≡ took v n
        → and_then g (λ u m. meant (get_or (map some xs) u none) at m) ≡ took (get_or xs v a) n
    by_got (took u m) e = by_test u m (dec_lt u (length xs)) e
    by_got (refused k q) e = never e

-- an item at position 1 alone
pub known_only : {A : Type 0} (s : List ℕ) (a : A) (c : Result ℕ Stop) → walk (known s (listed (none ∷ some a ∷ []))) c ≡ walk (such s (λ v. eqb v 1) unknown) c
known_only s a c = known-such s (listed (none ∷ some a ∷ [])) (λ v. eqb v 1) one_alone c
  where
    one_alone : (v : ℕ) → is_some (get_or (none ∷ some a ∷ []) v none) ≡ eqb v 1
    one_alone zero = refl
    one_alone (suc zero) = refl
    one_alone (suc (suc n)) = sym (ne_eqb (suc (suc n)) 1 (λ e. omega arith))

pub known-type : (s : List ℕ) (c : Result ℕ Stop) → walk (known s type_at) c ≡ walk (such s is_type unknown) c
unfolding is_type
known-type s c = known-such s type_at is_type (λ v. refl) c

-- ---- forms that a number chooses

module _ {A : Type 0} (s : List ℕ) (row_of : ℕ → Option (Field A)) (at : ℕ) {v n : ℕ} (read : number s at ≡ took v n) where
  -- the number's row
  pub chosen : (row : Field A) → row_of v ≡ some row → shape ((known s row_of >>= λ p. p) at) ≡ shape (row n)
  unfolding known and_then
  chosen row h = rw (read, h) refl

  -- a number that has no row
  pub chosen_none : row_of v ≡ none → shape ((known s row_of >>= λ p. p) at) ≡ Err (stop unknown at)
  unfolding known and_then
  chosen_none h = rw (read, h) refl

-- no number
pub chosen-refused : {A : Type 0} (s : List ℕ) (row_of : ℕ → Option (Field A)) (at : ℕ) {k : Refusal} {q : ℕ} → number s at ≡ refused k q
    → shape ((known s row_of >>= λ p. p) at) ≡ Err (stop k q)
unfolding known and_then
chosen-refused s row_of at h = rw h refl

-- ---- a mark or a count, and what it announces

module _ {A : Type 0} (s : List ℕ) (p : Field A) (at : ℕ) where
  pub optional-none : {n : ℕ} → up_to s 1 unknown at ≡ took 0 n → shape (optional s p at) ≡ Ok n
  unfolding optional and_then
  optional-none h = rw h refl

  pub optional-some : {v n : ℕ} → up_to s 1 unknown at ≡ took v n → (v ≡ 0 → ⊥) → shape (optional s p at) ≡ shape (p n)
  unfolding optional and_then
  optional-some {v} {n} h z = rw (h, ne_eqb v 0 z) (walk-map some p (Ok n))

  pub optional-refused : {k : Refusal} {q : ℕ} → up_to s 1 unknown at ≡ refused k q → shape (optional s p at) ≡ Err (stop k q)
  unfolding optional and_then
  optional-refused h = rw h refl

  pub list-taken : (limit : ℕ) {k n : ℕ} → at_most s limit at ≡ took k n → shape (list_of s limit p at) ≡ shape (many k p n)
  unfolding list_of and_then
  list-taken limit h = rw h refl

  pub list-refused : (limit : ℕ) {k : Refusal} {q : ℕ} → at_most s limit at ≡ refused k q → shape (list_of s limit p at) ≡ Err (stop k q)
  unfolding list_of and_then
  list-refused limit h = rw h refl

module _ (s : List ℕ) (limit at : ℕ) where
  pub bytes-taken : {k n : ℕ} → at_most s limit at ≡ took k n → shape (bytes s limit at) ≡ shape (raw s k n)
  unfolding bytes and_then
  bytes-taken h = rw h refl

  pub bytes-refused : {k : Refusal} {q : ℕ} → at_most s limit at ≡ refused k q → shape (bytes s limit at) ≡ Err (stop k q)
  unfolding bytes and_then
  bytes-refused h = rw h refl

-- raw bytes are refused where they should begin
pub raw_refused_here : (s : List ℕ) (count at : ℕ) {e : Stop} → Err e ≡ shape (raw s count at) → e.place ≡ at
unfolding raw
raw_refused_here s count at {e} h = by_test (leb (at + count) (length s)) h
  where
    by_test : (b : Bool) → Err e ≡ shape (pick b (took (take count (drop at s)) (at + count)) (refused bytes_run_out at)) → e.place ≡ at
    by_test true h = absurd (let z : ◌≡◌ {A = ℕ} 0 1 = cc in omega arith)
    by_test false h = let same : e ≡ stop bytes_run_out at = cc in ap (λ (e : Stop). e.place) same

-- a number that was taken is within its limit
pub up_to_value : (s : List ℕ) (most : ℕ) (why : Refusal) (at : ℕ) {v n : ℕ} → up_to s most why at ≡ took v n → v ≤ most
unfolding such and_then
up_to_value s most why at = by_got (number s at)
  where
    by_test : (u m : ℕ) {v n : ℕ} (b : Bool) → leb u most ≡ b → pick b (took u m) (refused why at) ≡ took v n → v ≤ most
    by_test u m {v} true t e = let is : u ≡ v = cc in leb-true v most (ap (λ (w : ℕ). leb w most) (sym is) ∙ t)
    by_test u m false t e = never e

    by_got : (g : Got ℕ) {v n : ℕ} → and_then g (λ v n. pick (leb v most) (took v n) (refused why at)) ≡ took v n → v ≤ most
    by_got (took u m) e = by_test u m (leb u most) refl e
    by_got (refused k q) e = never e

-- ---- fields that end alike

-- a field of which only its end is known ends there
ending-at : (c : Result ℕ Stop) → shape {A = Unit} (after c (λ next. took tt next)) ≡ c
ending-at (Ok n) = refl
ending-at (Err e) = refl

-- a loop over fields of which only their ends are known: `at` is the place after n of them
module _ (ends : ℕ → Result ℕ Stop) (start : ℕ) where
  pub many_begun : Ok start ≡ shape (many 0 (ending ends) start)
  many_begun = sym (many-none (ending ends) (Ok start))

  module _ (n : ℕ) {at : ℕ} (here : Ok at ≡ shape (many n (ending ends) start)) where
    one_more : shape (many (suc n) (ending ends) start) ≡ ends at
    one_more = many-last (ending ends) n (Ok start) ∙ ap (walk (ending ends)) (sym here) ∙ ending-at (ends at)

    pub many_went : {at' : ℕ} → Ok at' ≡ ends at → Ok at' ≡ shape (many (n + 1) (ending ends) start)
    many_went e = rw add-one (e ∙ sym one_more)

    rest-stopped : (m : ℕ) {e : Stop} → Err e ≡ ends at → Err e ≡ shape (many (m + suc n) (ending ends) start)
    rest-stopped zero h = rw zero-add (h ∙ sym one_more)
    rest-stopped (suc m) h =
        let more : suc m + suc n ≡ suc (m + suc n) = omega arith in
        rw more (ap (walk (ending ends)) (rest-stopped m h) ∙ sym (many-last (ending ends) (m + suc n) (Ok start)))

    pub many_stopped : (count : ℕ) → n < count → {e : Stop} → Err e ≡ ends at → Err e ≡ shape (many count (ending ends) start)
    many_stopped count lt h = let is : count - suc n + suc n ≡ count = omega arith in rw is at (rest-stopped (count - suc n) h)

module _ {A : Type 0} (p : Field A) (s : List ℕ) where
  abbrev pub same : Field Unit
  same = ending (λ at. shape (p at))

  pub same-end : (at : ℕ) → shape (same at) ≡ shape (p at)
  same-end at = ending-at (shape (p at))

  same-walk : (c : Result ℕ Stop) → walk same c ≡ walk p c
  same-walk (Ok at) = same-end at
  same-walk (Err e) = refl

  same-times : (n : ℕ) (c : Result ℕ Stop) → walk (many n same) c ≡ walk (many n p) c
  same-times zero c = many-none same c ∙ sym (many-none p c)
  same-times (suc n) c = many-first same n c ∙ ap (walk (many n same)) (same-walk c) ∙ same-times n (walk p c) ∙ sym (many-first p n c)

  pub same-many : (n at : ℕ) → shape (many n same at) ≡ shape (many n p at)
  same-many n at = same-times n (Ok at)

  pub same-list : (limit at : ℕ) → shape (list_of s limit same at) ≡ shape (list_of s limit p at)
  same-list limit at = by_got (at_most s limit at) refl
    where
      by_got : (g : Got ℕ) → at_most s limit at ≡ g → shape (list_of s limit same at) ≡ shape (list_of s limit p at)
      by_got (took k n) h = list-taken s same at limit h ∙ same-many k n ∙ sym (list-taken s p at limit h)
      by_got (refused k q) h = list-refused s same at limit h ∙ sym (list-refused s p at limit h)

  pub same-optional : (at : ℕ) → shape (optional s same at) ≡ shape (optional s p at)
  same-optional at = by_got (up_to s 1 unknown at) refl
    where
      by_got : (g : Got ℕ) → up_to s 1 unknown at ≡ g → shape (optional s same at) ≡ shape (optional s p at)
      by_got (took zero n) h = optional-none s same at h ∙ sym (optional-none s p at h)
      by_got (took (suc k) n) h = optional-some s same at h (λ e. omega arith) ∙ same-end n ∙ sym (optional-some s p at h (λ e. omega arith))
      by_got (refused k q) h = optional-refused s same at h ∙ sym (optional-refused s p at h)

-- ---- many fields with a limit over all

module _ {A : Type 0} (size : A → ℕ) (p : ℕ → Field A) where
  pub within_none : (left : ℕ) (c : Result ℕ Stop) → walk (within size left 0 p) c ≡ c
  unfolding within
  within_none left (Ok n) = refl
  within_none left (Err e) = refl

  -- the first, of size k where it was taken, and the rest with what it leaves
  pub within_first : (left n k : ℕ) (c : Result ℕ Stop) → ((x : A) (e : ℕ) → after c (p left) ≡ took x e → size x ≡ k)
      → walk (within size left (suc n) p) c ≡ walk (within size (left - k) n p) (walk (p left) c)
  unfolding within and_then
  within_first left n k (Err e) h = refl
  within_first left n k (Ok at) h = by_got (p left at) h
    where
      dressed : (x : A) (g : Got (List A)) → shape (and_then g (λ xs e. took (x ∷ xs) e)) ≡ shape g
      dressed x (took xs e) = refl
      dressed x (refused j q) = refl

      by_got : (g : Got A) → ((x : A) (e : ℕ) → g ≡ took x e → size x ≡ k)
          → shape (and_then g (λ x m. and_then (within size (left - size x) n p m) (λ xs e. took (x ∷ xs) e))) ≡ walk (within size (left - k) n p) (shape g)
      by_got (took x m) h = dressed x (within size (left - size x) n p m) ∙ ap (λ (j : ℕ). shape (within size (left - j) n p m)) (h x m refl)
      by_got (refused j q) h = refl
