-- What is read stands as it would be written, and is within the limits: a law for each shape of field, put together by `next_spells` and `last_spells`.
use Prim.Native.Nat.{ℕ, zero, suc, ◌-◌, ◌^◌, ◌≤◌, ◌<◌}
use native.Mathlib.Omega.{arith}
use mathlib.Core.Bool.{Bool, true}
use mathlib.Core.Path.{◌≡◌, refl, sym, ap, subst, ◌∙◌}
use mathlib.Core.List.{List, [], ◌∷◌, ◌++◌, flatten}
use mathlib.Core.Option.{Option, none, some}
use lib.ListN.{length, take, drop, length-append, length-drop}
use lib.Seq.{length-take-le}
use lib.Dec.{ltb, leb, eqb}
use borrow.Author.Tests.{ltb-true, leb-true}
use Rattle.value.specs.declared.refusal.Refusal.{Refusal}
use Rattle.value.specs.Answer.{pick}
use Rattle.value.specs.Refusal.{unknown, over_limit}
use Rattle.image.specs.Parse.{took, refused, Field, give, many, within, ◌>>=◌, ◌<$>◌, one, two, three, four, five}
use Rattle.image.specs.Number.{number}
use Rattle.image.specs.Fields.{such, below, up_to, listed, known, meant, optional, list_of, bytes}
use Rattle.image.specs.Fields as Fields
use Rattle.image.specs.Written.{Piece, num, raw, each, counted, maybe, length_and}
use Rattle.image.specs.Written as W
use Rattle.image.specs.Limits.{Each, UpTo, IfAny, IsByte, AreBytes}
use Rattle.image.specs.Standing.{Stand}
use Rattle.image.proofs.Round.{spelt}
use Rattle.image.proofs.Parts.{parts, picked, same-value, same_place, two_right, three_right, four_right, five_right, Every, every-at, meant-some}
use Rattle.image.proofs.Standing.{raw-took, stand-append}

-- Where the pieces x stand, and p takes a value after them, there its own pieces stand, x the first of them, and it is as it should be.
pub record Spells {A : Type 0} (s : List ℕ) (x : List Piece) (p : Field A) (w : A → List Piece) (ok : A → Type 0) : Type 0 where
  pub spells : (start at next : ℕ) (a : A) → Stand s start x at → p at ≡ took a next → Stand s start (w a) next × ok a

-- a field by itself
pub record Spelt {A : Type 0} (s : List ℕ) (w : A → List Piece) (ok : A → Type 0) (at next : ℕ) (a : A) : Type 0 where
  pub stands : Stand s at (w a) next
  pub fits : ok a

pub alone : {A : Type 0} {s : List ℕ} {p : Field A} {w : A → List Piece} {ok : A → Type 0} → Spells s [] p w ok → (at next : ℕ) (a : A) → p at ≡ took a next → Spelt s w ok at next a
alone h at next a e = let r = h.spells at at next a refl e in record { stands = r.0; fits = r.1 }

pub itself : {A : Type 0} {s : List ℕ} {p : Field A} {w : A → List Piece} {ok : A → Type 0} → ((at next : ℕ) (a : A) → p at ≡ took a next → Stand s at (w a) next × ok a) → Spells s [] p w ok
itself f = record { spells = λ start at next a st e. rw st (f at next a e) }

-- ---- one field after another

module _ {s : List ℕ} where
  pub next_spells : {A B : Type 0} {x : List Piece} {p : Field A} {k : A → Field B} {v : A → List Piece} {w : B → List Piece} {fit : A → Type 0} {ok : B → Type 0}
      → Spells s [] p v fit → ((a : A) → fit a → Spells s (x ++ v a) (k a) w ok) → Spells s x (p >>= k) w ok
  next_spells {A} {B} {x} {p} {k} {v} {w} {fit} {ok} h t = record {
    spells = λ start at next b st e.
        let i = parts (p at) k b next e in
        let first = alone h at i.place i.value i.first in
        (t i.value first.fits).spells start i.place next b (stand-append s start at i.place x (v i.value) st first.stands) i.then';
  }

  pub last_spells : {A : Type 0} {x : List Piece} {a : A} {w : A → List Piece} {ok : A → Type 0} → w a ≡ x → ok a → Spells s x (give a) w ok
  last_spells {A} {x} {a} {w} {ok} e h = record {
    spells = λ start at next b st t.
        let same : a ≡ b = same-value t in
        (subst (λ (l : List Piece). Stand s start l next) (sym e ∙ ap w same) (subst (λ (n : ℕ). Stand s start x n) (same_place t) st), subst ok same h);
  }

  -- the last field of several
  pub onto : {A : Type 0} {x : List Piece} {p : Field A} {v w : A → List Piece} {fit ok : A → Type 0} → Spells s [] p v fit → ((a : A) → fit a → (w a ≡ x ++ v a) × ok a) → Spells s x p w ok
  onto {A} {x} {p} {v} {w} {fit} {ok} h t = record {
    spells = λ start at next a st e.
        let got = alone h at next a e in
        let fits = t a got.fits in
        (subst (λ (l : List Piece). Stand s start l next) (sym fits.0) (stand-append s start at next x (v a) st got.stands), fits.1);
  }

  -- the same field in other words
  same-field : {A : Type 0} {x : List Piece} {p q : Field A} {w : A → List Piece} {ok : A → Type 0} → ((at : ℕ) → p at ≡ q at) → Spells s x q w ok → Spells s x p w ok
  same-field {A} {x} {p} {q} {w} {ok} e h = record { spells = λ start at next a st t. h.spells start at next a st (sym (e at) ∙ t) }

module _ {s : List ℕ} {Z : Type 0} {w : Z → List Piece} {ok : Z → Type 0} where
  pub one_spells : {x : List Piece} {A : Type 0} {p : Field A} {v : A → List Piece} {fit : A → Type 0} (f : A → Z) → Spells s [] p v fit
      → ((a : A) → fit a → (w (f a) ≡ x ++ v a) × ok (f a)) → Spells s x (one f p) w ok
  one_spells f h t = next_spells h (λ a i. last_spells (t a i).0 (t a i).1)

  pub two_spells : {x : List Piece} {A B : Type 0} {p : Field A} {q : Field B} {v : A → List Piece} {v' : B → List Piece} {fit : A → Type 0} {fit' : B → Type 0} (f : A → B → Z)
      → Spells s [] p v fit → Spells s [] q v' fit' → ((a : A) → fit a → (b : B) → fit' b → (w (f a b) ≡ x ++ v a ++ v' b) × ok (f a b)) → Spells s x (two f p q) w ok
  two_spells {x} {A} {B} {p} {q} f h h' t = same-field (two_right f p q) (next_spells h (λ a i. one_spells (f a) h' (t a i)))

  pub three_spells : {x : List Piece} {A B C : Type 0} {p : Field A} {q : Field B} {r : Field C} {v : A → List Piece} {v' : B → List Piece} {v'' : C → List Piece}
      {fit : A → Type 0} {fit' : B → Type 0} {fit'' : C → Type 0} (f : A → B → C → Z) → Spells s [] p v fit → Spells s [] q v' fit' → Spells s [] r v'' fit''
      → ((a : A) → fit a → (b : B) → fit' b → (c : C) → fit'' c → (w (f a b c) ≡ x ++ v a ++ v' b ++ v'' c) × ok (f a b c)) → Spells s x (three f p q r) w ok
  three_spells {x} {A} {B} {C} {p} {q} {r} f h h' h'' t = same-field (three_right f p q r) (next_spells h (λ a i. two_spells (f a) h' h'' (t a i)))

  pub four_spells : {x : List Piece} {A B C D : Type 0} {p : Field A} {q : Field B} {r : Field C} {o : Field D} {v : A → List Piece} {v' : B → List Piece} {v'' : C → List Piece} {v''' : D → List Piece}
      {fit : A → Type 0} {fit' : B → Type 0} {fit'' : C → Type 0} {fit''' : D → Type 0} (f : A → B → C → D → Z)
      → Spells s [] p v fit → Spells s [] q v' fit' → Spells s [] r v'' fit'' → Spells s [] o v''' fit'''
      → ((a : A) → fit a → (b : B) → fit' b → (c : C) → fit'' c → (d : D) → fit''' d → (w (f a b c d) ≡ x ++ v a ++ v' b ++ v'' c ++ v''' d) × ok (f a b c d))
      → Spells s x (four f p q r o) w ok
  four_spells {x} {A} {B} {C} {D} {p} {q} {r} {o} f h h' h'' h''' t = same-field (four_right f p q r o) (next_spells h (λ a i. three_spells (f a) h' h'' h''' (t a i)))

  pub five_spells : {x : List Piece} {A B C D E : Type 0} {p : Field A} {q : Field B} {r : Field C} {o : Field D} {l : Field E}
      {v : A → List Piece} {v' : B → List Piece} {v'' : C → List Piece} {v''' : D → List Piece} {v'''' : E → List Piece}
      {fit : A → Type 0} {fit' : B → Type 0} {fit'' : C → Type 0} {fit''' : D → Type 0} {fit'''' : E → Type 0} (f : A → B → C → D → E → Z)
      → Spells s [] p v fit → Spells s [] q v' fit' → Spells s [] r v'' fit'' → Spells s [] o v''' fit''' → Spells s [] l v'''' fit''''
      → ((a : A) → fit a → (b : B) → fit' b → (c : C) → fit'' c → (d : D) → fit''' d → (e : E) → fit'''' e → (w (f a b c d e) ≡ x ++ v a ++ v' b ++ v'' c ++ v''' d ++ v'''' e) × ok (f a b c d e))
      → Spells s x (five f p q r o l) w ok
  five_spells {x} {A} {B} {C} {D} {E} {p} {q} {r} {o} {l} f h h' h'' h''' h'''' t = same-field (five_right f p q r o l) (next_spells h (λ a i. four_spells (f a) h' h'' h''' h'''' (t a i)))

-- ---- bytes

each-byte : (s : List ℕ) → AreBytes s → Each IsByte s
unfolding Each
each-byte [] h = tt
each-byte (x ∷ xs) h = (h 0, each-byte xs (λ k. h (suc k)))

each-drop : {A : Type 0} (ok : A → Type 0) (n : ℕ) (xs : List A) → Each ok xs → Each ok (drop n xs)
unfolding Each
each-drop ok zero xs h = h
each-drop ok (suc n) [] h = tt
each-drop ok (suc n) (x ∷ xs) h = each-drop ok n xs h.1

each_take : {A : Type 0} (ok : A → Type 0) (n : ℕ) (xs : List A) → Each ok xs → Each ok (take n xs)
unfolding Each
each_take ok zero xs h = tt
each_take ok (suc n) [] h = tt
each_take ok (suc n) (x ∷ xs) h = (h.0, each_take ok n xs h.1)

-- ---- numbers

small : (s : List ℕ) → AreBytes s → (at next v : ℕ) → number s at ≡ took v next → v < 2 ^ 64
unfolding number
small s bs at next v e = let h = spelt 9 at 1 0 s at v next bs (omega arith) e in omega (arith, h.value, h.held)

module _ {s : List ℕ} (bs : AreBytes s) where
  pub number_spells : Spells s [] (number s) W.number (λ v. v < 2 ^ 64)
  number_spells = itself (λ at next v e. ((next, e, refl), small s bs at next v e))

  pub such_spells : (test : ℕ → Bool) (why : Refusal) → Spells s [] (such s test why) W.number (λ v. (v < 2 ^ 64) × (test v ≡ true))
  unfolding such
  such_spells test why =
      itself (λ at next v e.
      let i = parts (number s at) (λ v next. pick (test v) (took v next) (refused why at)) v next e in
      let j = picked (test i.value) (took i.value i.place) why at v next i.then' in
      let reads = i.first ∙ j.1 in
      ((next, reads, refl), (small s bs at next v reads, ap test (sym (same-value j.1)) ∙ j.0)))

  pub below_spells : (limit : ℕ) (why : Refusal) → Spells s [] (below s limit why) W.number (λ v. v < limit)
  below_spells limit why = onto (such_spells (λ v. ltb v limit) why) (λ v h. (refl, ltb-true v limit h.1))

  pub up_to_spells : (most : ℕ) (why : Refusal) → Spells s [] (up_to s most why) W.number (λ v. v ≤ most)
  up_to_spells most why = onto (such_spells (λ v. leb v most) why) (λ v h. (refl, leb-true v most h.1))

-- the number of what it stands for
index : (s : List ℕ) {A : Type 0} (item : ℕ → Option A) (at next : ℕ) (a : A) → known s item at ≡ took a next → (k : ℕ) × (number s at ≡ took k next) × (item k ≡ some a)
unfolding known
index s item at next a e =
    let i = parts (number s at) (λ v next. meant (item v) at next) a next e in
    let j = meant-some (item i.value) at i.place next a i.then' in
    (i.value, i.first ∙ ap (took i.value) j.1, j.0)

module _ {s : List ℕ} where
  -- a number that stands for something
  pub known_spells : {A : Type 0} (item : ℕ → Option A) (of : A → ℕ) (fit : A → Type 0) → ((k : ℕ) (a : A) → item k ≡ some a → (of a ≡ k) × fit a)
      → Spells s [] (known s item) (λ a. W.number (of a)) fit
  known_spells {A} item of fit law =
      itself (λ at next a e.
      let (k, reads, is) = index s item at next a e in
      let (named, fits) = law k a is in
      ((next, reads ∙ ap (λ (n : ℕ). took n next) (sym named), refl), fits))

  -- by position in a list
  pub listed_spells : {A : Type 0} (items : List (Option A)) (of : A → ℕ) (fit : A → Type 0) → Every (λ k a. (of a ≡ k) × fit a) items
      → Spells s [] (known s (listed items)) (λ a. W.number (of a)) fit
  listed_spells items of fit all = known_spells (listed items) of fit (every-at (λ k a. (of a ≡ k) × fit a) items all)

  -- a number that says which field follows
  pub tabled_spells : {A : Type 0} (row_of : ℕ → Option (Field A)) (w : A → List Piece) (ok : A → Type 0) → ((k : ℕ) (p : Field A) → row_of k ≡ some p → Spells s (W.number k) p w ok)
      → Spells s [] (known s row_of >>= λ p. p) w ok
  tabled_spells {A} row_of w ok law =
      itself (λ at next a e.
      let i = parts (known s row_of at) (λ p. p) a next e in
      let (k, reads, is) = index s row_of at i.place i.value i.first in
      (law k i.value is).spells at i.place next a (i.place, reads, refl) i.then')

-- ---- shapes of fields

module _ {s : List ℕ} (bs : AreBytes s) where
  pub optional_spells : {A : Type 0} {p : Field A} {w : A → List Piece} {ok : A → Type 0} → Spells s [] p w ok → Spells s [] (optional s p) (maybe w) (IfAny ok)
  unfolding optional IfAny
  optional_spells {A} {p} {w} {ok} h = next_spells (up_to_spells bs 1 unknown) by_mark
    where
      by_mark : (mark : ℕ) → mark ≤ 1 → Spells s ([] ++ W.number mark) (pick (eqb mark 0) (give none) (some <$> p)) (maybe w) (IfAny ok)
      by_mark zero m = last_spells refl tt
      by_mark (suc zero) m = one_spells some h (λ a i. (refl, i))
      by_mark (suc (suc k)) m = absurd (omega arith)

  pub many_spells : {A : Type 0} {p : Field A} {w : A → List Piece} {ok : A → Type 0} → Spells s [] p w ok → (n : ℕ) → Spells s [] (many n p) (each w) (λ xs. (length xs ≡ n) × Each ok xs)
  unfolding many Each
  many_spells h zero = last_spells refl (refl, tt)
  many_spells h (suc n) = next_spells h (λ x i. one_spells (λ xs. x ∷ xs) (many_spells h n) (λ xs j. (refl, (ap suc j.0, (i, j.1)))))

  pub list_spells : {A : Type 0} {p : Field A} {w : A → List Piece} {ok : A → Type 0} (most : ℕ) → Spells s [] p w ok → Spells s [] (list_of s most p) (counted w) (UpTo most ok)
  unfolding list_of
  list_spells {A} {p} {w} {ok} most h =
      next_spells (up_to_spells bs most over_limit)
      (λ count c. onto (many_spells h count) (λ xs j. (ap (λ (k : ℕ). num k ∷ each w xs) j.0, (subst (λ (k : ℕ). k ≤ most) (sym j.0) c, j.1))))

  raw_spells : (count : ℕ) → Spells s [] (Fields.raw s count) (λ xs. raw xs ∷ []) (λ xs. (length xs ≡ count) × Each IsByte xs)
  raw_spells count =
      itself (λ at next xs e.
      let (is, ends, le) = raw-took s count at e in
      let size : length xs ≡ count = ap length is ∙ length-take-le count (drop at s) (omega (arith, length-drop at s)) in
      ((next, ap (λ (k : ℕ). Fields.raw s k at) size ∙ e, refl), (size, subst (Each IsByte) (sym is) (each_take IsByte count (drop at s) (each-drop IsByte at s (each-byte s bs))))))

  pub bytes_spells : (most : ℕ) → Spells s [] (bytes s most) length_and (UpTo most IsByte)
  unfolding bytes
  bytes_spells most =
      next_spells (up_to_spells bs most over_limit)
      (λ count c. onto (raw_spells count) (λ xs j. (ap (λ (k : ℕ). num k ∷ raw xs ∷ []) j.0, (subst (λ (k : ℕ). k ≤ most) (sym j.0) c, j.1))))

  -- items with a limit over all
  pub within_spells : {A : Type 0} {p : ℕ → Field (List A)} {w : List A → List Piece} (ok : A → Type 0) → ((left : ℕ) → Spells s [] (p left) w (UpTo left ok)) → (left n : ℕ)
      → Spells s [] (within length left n p) (each w) (λ xs. (length xs ≡ n) × Each (Each ok) xs × (length (flatten xs) ≤ left))
  unfolding within Each flatten
  within_spells ok h left zero = last_spells refl (refl, tt, omega arith)
  within_spells ok h left (suc n) =
      next_spells (h left) (λ x i. one_spells (λ xs. x ∷ xs) (within_spells ok h (left - length x) n) (λ xs j. (refl, (ap suc j.0, (i.1, j.1), omega (arith, i.0, j.2, length-append x (flatten xs))))))
