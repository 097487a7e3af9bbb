-- What stands as it is written is read as it was meant: a law for each shape of field, put together by `then_takes`.
use Prim.Native.Nat.{ℕ, ◌-◌, ◌^◌, ◌≤◌, ◌<◌}
use native.Mathlib.Omega.{arith}
use mathlib.Core.Bool.{Bool, true}
use mathlib.Core.Path.{◌≡◌, refl, ap, subst, ◌∙◌}
use mathlib.Core.List.{List, [], ◌∷◌, ◌++◌, flatten, append-nil}
use mathlib.Core.Option.{Option, none, some}
use lib.ListN.{length, length-append}
use lib.Dec.{ltb, leb, eqb}
use borrow.Author.Tests.{lt-ltb, le-leb}
use Rattle.value.specs.declared.refusal.Refusal.{Refusal}
use Rattle.value.specs.Answer.{pick}
use Rattle.value.specs.Refusal.{unknown, over_limit}
use Rattle.image.specs.Parse.{Got, took, refused, Field, and_then, give, many, within, ◌>>=◌, ◌<$>◌, ◌<*>◌, two, three, four, five}
use Rattle.image.specs.Number.{number}
use Rattle.image.specs.Fields.{such, below, up_to, known, meant, optional, list_of, bytes}
use Rattle.image.specs.Fields as Fields
use Rattle.image.specs.Written.{Piece, num, raw, each, counted, maybe, length_and}
use Rattle.image.specs.Written as W
use Rattle.image.specs.Limits.{Each, UpTo, IfAny, IsByte}
use Rattle.image.specs.Standing.{Stand}
use Rattle.image.proofs.Standing.{Writable, stand_split}

-- x can be written, and wherever it stands, p reads it as a, and ends after it
pub record Takes {A : Type 0} (s : List ℕ) (p : Field A) (x : List Piece) (a : A) : Type 0 where
  pub reads : (at end : ℕ) → Stand s at x end → p at ≡ took a end
  pub can : Each Writable x

-- ---- each item of a list

none_each : {A : Type 0} (ok : A → Type 0) → Each ok []
unfolding Each
none_each ok = tt

one_each : {A : Type 0} (ok : A → Type 0) (x : A) → ok x → Each ok (x ∷ [])
unfolding Each
one_each ok x h = (h, tt)

pub each_append : {A : Type 0} (ok : A → Type 0) (xs ys : List A) → Each ok xs → Each ok ys → Each ok (xs ++ ys)
unfolding Each
each_append ok [] ys h k = k
each_append ok (x ∷ xs) ys h k = (h.0, each_append ok xs ys h.1 k)

-- ---- one piece

number_read : (s : List ℕ) (v at end : ℕ) → Stand s at (W.number v) end → number s at ≡ took v end
number_read s v at end (m, e, z) = e ∙ ap (took v) z

raw-read : (s xs : List ℕ) (at end : ℕ) → Stand s at (raw xs ∷ []) end → Fields.raw s (length xs) at ≡ took xs end
raw-read s xs at end (m, e, z) = e ∙ ap (took xs) z

module _ {s : List ℕ} where
  -- ---- one field after another

  pub then_takes : {A B : Type 0} {p : Field A} {x y : List Piece} {a : A} {b : B} (f : A → Field B) → Takes s p x a → Takes s (f a) y b → Takes s (p >>= f) (x ++ y) b
  unfolding and_then
  then_takes {A} {B} {p} {x} {y} {a} {b} f t u = record {
    reads = λ at end st.
        let (m, first, rest) = stand_split s at end x y st in
        ap (λ (g : Got A). and_then g f) (t.reads at m first) ∙ u.reads m end rest;
    can = each_append Writable x y t.can u.can;
  }

  pub give_takes : {A : Type 0} {a : A} → Takes s (give a) [] a
  give_takes {A} {a} = record { reads = λ at end st. ap (took a) st; can = none_each Writable }

  -- the same pieces in other words
  pub same-pieces : {A : Type 0} {p : Field A} {x y : List Piece} {a : A} → x ≡ y → Takes s p x a → Takes s p y a
  same-pieces {A} {p} {x} {y} {a} e t = subst (λ (l : List Piece). Takes s p l a) e t

  pub map_takes : {A B : Type 0} {p : Field A} {x : List Piece} {a : A} (f : A → B) → Takes s p x a → Takes s (f <$> p) x (f a)
  map_takes {A} {B} {p} {x} {a} f t = same-pieces (append-nil x) (then_takes (λ a. give (f a)) t give_takes)

  pub ap_takes : {A B : Type 0} {p : Field (A → B)} {q : Field A} {x y : List Piece} {f : A → B} {a : A} → Takes s p x f → Takes s q y a → Takes s (p <*> q) (x ++ y) (f a)
  ap_takes {A} {B} {p} {q} {x} {y} {f} {a} t u = then_takes (λ f. f <$> q) t (map_takes f u)

  pub two_takes : {A B Z : Type 0} {p : Field A} {q : Field B} {x y : List Piece} {a : A} {b : B} (f : A → B → Z) → Takes s p x a → Takes s q y b → Takes s (two f p q) (x ++ y) (f a b)
  two_takes f t u = ap_takes (map_takes f t) u

  pub three_takes : {A B C Z : Type 0} {p : Field A} {q : Field B} {r : Field C} {x y z : List Piece} {a : A} {b : B} {c : C} (f : A → B → C → Z)
      → Takes s p x a → Takes s q y b → Takes s r z c → Takes s (three f p q r) (x ++ y ++ z) (f a b c)
  three_takes f t u v = ap_takes (two_takes f t u) v

  pub four_takes : {A B C D Z : Type 0} {p : Field A} {q : Field B} {r : Field C} {o : Field D} {x y z w : List Piece} {a : A} {b : B} {c : C} {d : D} (f : A → B → C → D → Z)
      → Takes s p x a → Takes s q y b → Takes s r z c → Takes s o w d → Takes s (four f p q r o) (x ++ y ++ z ++ w) (f a b c d)
  four_takes f t u v w = ap_takes (three_takes f t u v) w

  pub five_takes : {A B C D E Z : Type 0} {p : Field A} {q : Field B} {r : Field C} {o : Field D} {m : Field E} {x y z w l : List Piece} {a : A} {b : B} {c : C} {d : D} {e : E} (f : A → B → C → D → E → Z)
      → Takes s p x a → Takes s q y b → Takes s r z c → Takes s o w d → Takes s m l e → Takes s (five f p q r o m) (x ++ y ++ z ++ w ++ l) (f a b c d e)
  five_takes f t u v w n = ap_takes (four_takes f t u v w) n

  -- ---- numbers

  pub number_takes : {v : ℕ} → v < 2 ^ 64 → Takes s (number s) (W.number v) v
  number_takes {v} h = record { reads = number_read s v; can = one_each Writable (num v) h }

  pub such_takes : (test : ℕ → Bool) (why : Refusal) {v : ℕ} → v < 2 ^ 64 → test v ≡ true → Takes s (such s test why) (W.number v) v
  unfolding such and_then
  such_takes test why {v} h t = record {
    reads = λ at end st.
        ap (λ (g : Got ℕ). and_then g (λ v next. pick (test v) (took v next) (refused why at))) (number_read s v at end st)
        ∙ ap (λ (b : Bool). pick b (took v end) (refused why at)) t;
    can = one_each Writable (num v) h;
  }

  pub below_takes : (limit : ℕ) (why : Refusal) {v : ℕ} → limit ≤ 2 ^ 64 → v < limit → Takes s (below s limit why) (W.number v) v
  below_takes limit why {v} l h = such_takes (λ v. ltb v limit) why (omega arith) (lt-ltb v limit h)

  pub up_to_takes : (most : ℕ) (why : Refusal) {v : ℕ} → most < 2 ^ 64 → v ≤ most → Takes s (up_to s most why) (W.number v) v
  up_to_takes most why {v} l h = such_takes (λ v. leb v most) why (omega arith) (le-leb v most h)

  pub known_takes : {A : Type 0} (item : ℕ → Option A) {a : A} (k : ℕ) → k < 2 ^ 64 → item k ≡ some a → Takes s (known s item) (W.number k) a
  unfolding known and_then
  known_takes {A} item {a} k h m = record {
    reads = λ at end st.
        ap (λ (g : Got ℕ). and_then g (λ v next. meant (item v) at next)) (number_read s k at end st) ∙ ap (λ (o : Option A). meant o at end) m;
    can = one_each Writable (num k) h;
  }

  -- a number that says which field follows
  pub tabled_takes : {A : Type 0} (row_of : ℕ → Option (Field A)) {p : Field A} {x : List Piece} {a : A} (k : ℕ) → k < 2 ^ 64 → row_of k ≡ some p → Takes s p x a
      → Takes s (known s row_of >>= λ p. p) (W.number k ++ x) a
  tabled_takes row_of k h m t = then_takes (λ p. p) (known_takes row_of k h m) t

  -- ---- shapes of fields

  pub optional_takes : {A : Type 0} (p : Field A) (w : A → List Piece) (ok : A → Type 0) → ((a : A) → ok a → Takes s p (w a) a) → (o : Option A) → IfAny ok o
      → Takes s (optional s p) (maybe w o) o
  unfolding optional IfAny
  optional_takes {A} p w ok t none h =
      same-pieces refl (then_takes (λ mark. pick (eqb mark 0) (give none) (some <$> p)) (up_to_takes 1 unknown (omega arith) (omega arith)) give_takes)
  optional_takes {A} p w ok t (some a) h =
      then_takes (λ mark. pick (eqb mark 0) (give none) (some <$> p)) (up_to_takes 1 unknown (omega arith) (omega arith)) (map_takes some (t a h))

  pub many_takes : {A : Type 0} (p : Field A) (w : A → List Piece) (ok : A → Type 0) → ((a : A) → ok a → Takes s p (w a) a) → (xs : List A) → Each ok xs
      → Takes s (many (length xs) p) (each w xs) xs
  unfolding many Each
  many_takes p w ok t [] h = give_takes
  many_takes p w ok t (x ∷ xs) h = then_takes (λ x. (λ xs. x ∷ xs) <$> many (length xs) p) (t x h.0) (map_takes (λ xs. x ∷ xs) (many_takes p w ok t xs h.1))

  pub list_takes : {A : Type 0} (most : ℕ) (p : Field A) (w : A → List Piece) (ok : A → Type 0) → most < 2 ^ 64 → ((a : A) → ok a → Takes s p (w a) a) → (xs : List A) → UpTo most ok xs
      → Takes s (list_of s most p) (counted w xs) xs
  unfolding list_of
  list_takes most p w ok l t xs h = then_takes (λ count. many count p) (up_to_takes most over_limit l h.0) (many_takes p w ok t xs h.1)

  raw_takes : (xs : List ℕ) → Each IsByte xs → Takes s (Fields.raw s (length xs)) (raw xs ∷ []) xs
  raw_takes xs h = record { reads = raw-read s xs; can = one_each Writable (raw xs) h }

  pub bytes_takes : (most : ℕ) → most < 2 ^ 64 → (xs : List ℕ) → UpTo most IsByte xs → Takes s (bytes s most) (length_and xs) xs
  unfolding bytes
  bytes_takes most l xs h = then_takes (λ count. Fields.raw s count) (up_to_takes most over_limit l h.0) (raw_takes xs h.1)

  -- items with a limit over all
  pub within_takes : {A : Type 0} (p : ℕ → Field (List A)) (w : List A → List Piece) (ok : List A → Type 0) → ((left : ℕ) → left < 2 ^ 64 → (a : List A) → ok a → length a ≤ left → Takes s (p left) (w a) a)
      → (xs : List (List A)) (left : ℕ) → left < 2 ^ 64 → Each ok xs → length (flatten xs) ≤ left → Takes s (within length left (length xs) p) (each w xs) xs
  unfolding within Each flatten
  within_takes p w ok t [] left l h m = give_takes
  within_takes p w ok t (x ∷ xs) left l h m =
      then_takes (λ x. (λ xs. x ∷ xs) <$> within length (left - length x) (length xs) p) (t left l x h.0 (omega (arith, length-append x (flatten xs))))
      (map_takes (λ xs. x ∷ xs) (within_takes p w ok t xs (left - length x) (omega arith) h.1 (omega (arith, length-append x (flatten xs)))))
