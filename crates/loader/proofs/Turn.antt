-- Tables of places, one more in each turn of a loop: what is left to read gives what the whole gives.
use Rattle.std.specs.Prelude.{Result, Ok, Err}
use Prim.Native.Nat.{ℕ, zero, suc, ◌+◌, ◌-◌, ◌≤◌}
use native.Mathlib.Nat.{add-zero}
use native.Mathlib.Omega.{arith}
use native.Mathlib.Decide.{dec_le}
use mathlib.Core.Path.{◌≡◌, refl, sym, ap, ap₂, ◌∙◌}
use mathlib.Core.List.{List, [], ◌∷◌}
use lib.ListN.{length, take, drop, set, length-set, length-drop}
use lib.Seq.{sets, length-take-le}
use borrow.Author.Tests.{le-leb, lt-leb}
use Rattle.image.specs.Parse.{Got, took, refused, Field, Placed, and_then, many, within, placed}
use Rattle.image.specs.Fields.{at_most, raw, bytes}
use Rattle.image.specs.Answer.{stop, shape, walk}
use Rattle.image.specs.declared.number.Stop.{Stop}
use Rattle.image.proofs.Laws.{walk-placed}
use Rattle.image.proofs.Parts.{parts, same-value}
pub use Rattle.image.proofs.Parts.{never}
use Rattle.image.proofs.Shapes.{within_none, within_first}
use Rattle.loader.specs.Tables.{ats, Fills}

-- ---- what was taken, taken apart

-- what ends was taken, and what stops was refused
pub shape-took : {A : Type 0} {g : Got A} {n : ℕ} → shape g ≡ Ok n → (a : A) × (g ≡ took a n)
shape-took {A} {g} {n} h = by_got g h
  where
    by_got : (g : Got A) → shape g ≡ Ok n → (a : A) × (g ≡ took a n)
    by_got (took a m) e = let same : m ≡ n = cc in (a, ap (took a) same)
    by_got (refused k q) e = absurd (let z : ◌≡◌ {A = ℕ} 0 1 = cc in omega arith)

pub shape-refused : {A : Type 0} {g : Got A} {e : Stop} → shape g ≡ Err e → g ≡ refused e.why e.place
shape-refused {A} {g} {e} h = by_got g h
  where
    by_got : (g : Got A) → shape g ≡ Err e → g ≡ refused e.why e.place
    by_got (took a m) h = absurd (let z : ◌≡◌ {A = ℕ} 0 1 = cc in omega arith)
    by_got (refused k q) h = let same : stop k q ≡ e = cc in ap (λ (e : Stop). refused e.why e.place) same

-- what was taken after a field was taken from where the field ended
pub then_took : {A B : Type 0} (g : Got A) (f : A → ℕ → Got B) {b : B} {e : ℕ} → and_then g f ≡ took b e
    → (a : A) × (n : ℕ) × (g ≡ took a n) × (f a n ≡ took b e)
then_took g f {b} {e} h = let i = parts g f b e h in (i.value, i.place, i.first, i.then')

-- the first of many fields with a limit over all, and the rest of them
module _ {A : Type 0} (size : A → ℕ) (p : ℕ → Field A) where
  pub within-took : (left n at : ℕ) {xs : List A} {e : ℕ} → within size left (suc n) p at ≡ took xs e
      → (x : A) × (m : ℕ) × (ys : List A) × (p left at ≡ took x m) × (within size (left - size x) n p m ≡ took ys e) × (xs ≡ x ∷ ys)
  unfolding within
  within-took left n at {xs} {e} h =
      let (x, m, e₁, h₁) = then_took (p left at) (λ x m. and_then (within size (left - size x) n p m) (λ ys e. took (x ∷ ys) e)) h in
      let (ys, e₂, e₃, h₂) = then_took (within size (left - size x) n p m) (λ ys e. took (x ∷ ys) e) h₁ in
      let same : e₂ ≡ e = cc in
      (x, m, ys, e₁, rw same at e₃, cc)

  pub within-done : (left at : ℕ) {xs : List A} {e : ℕ} → within size left zero p at ≡ took xs e → (xs ≡ []) × (e ≡ at)
  unfolding within
  within-done left at {xs} {e} h = (cc, cc)

pub same_then : {A B : Type 0} (g : Got A) (f f' : A → ℕ → Got B) → ((a : A) (n : ℕ) → f a n ≡ f' a n) → and_then g f ≡ and_then g f'
unfolding and_then
same_then (took a n) f f' h = h a n
same_then (refused k q) f f' h = refl

-- many fields are fields with a limit that none of them uses
pub many-within : {A : Type 0} (p : Field A) (n at : ℕ) → many n p at ≡ within (λ x. 0) 0 n (λ left. p) at
unfolding many within
many-within p zero at = refl
many-within p (suc n) at = same_then (p at) _ _ (λ x m. ap (λ (g : Got (List _)). and_then g (λ xs e. took (x ∷ xs) e)) (many-within p n m))

-- an item, and its place
pub placed-took : {A : Type 0} (q : ℕ → Field A) (left at : ℕ) {x : Placed A} {m : ℕ} → placed (q left) at ≡ took x m → (q left at ≡ took x.item m) × (x.at ≡ at)
placed-took {A} q left at {x} {m} h =
    let (a, k, e, f) = then_took (q left at) (λ a m. took (record { at = at; item = a }) m) h in
    let same : m ≡ k = cc in
    let is : x ≡ record { at = at; item = a } = cc in
    (e ∙ ap₂ took (sym (ap (λ (y : Placed A). y.item) is)) (sym same), ap (λ (y : Placed A). y.at) is)

-- ---- one list of items with its table

-- `q` is the field of an item, told what is left of the limit
module _ {A : Type 0} (size : Placed A → ℕ) (q : ℕ → Field A) where
  abbrev pub items : (left count : ℕ) → Field (List (Placed A))
  items left count = within size left count (λ left. placed (q left))

  -- `left` and `m` are what is still to be read at `at`, of what was begun at `start`; `i` places are in the table from `base` on
  pub record Turn (start left₀ count base : ℕ) (t₀ : List ℕ) (at left m i : ℕ) (t : List ℕ) : Type 0 where
    pub ends : shape (items left₀ count start) ≡ shape (items left m at)
    pub places : (xs : List (Placed A)) (e : ℕ) → items left₀ count start ≡ took xs e
        → (ys : List (Placed A)) × (items left m at ≡ took ys e) × (sets t₀ base (ats xs) ≡ sets t (base + i) (ats ys))
    pub room : length t ≡ length t₀

  pub turn-first : (start left count base : ℕ) (t : List ℕ) → Turn start left count base t start left (count - 0) 0 t
  turn-first start left count base t =
      let all : count - 0 ≡ count = omega arith in
      rw all (record {
        ends = refl;
        places = λ xs e h. (xs, h, ap (λ (b : ℕ). sets t b (ats xs)) (sym (add-zero base)));
        room = refl;
      })

  module _ (start left₀ count base : ℕ) (t₀ : List ℕ) (at left m i : ℕ) (t : List ℕ) (h : Turn start left₀ count base t₀ at left (suc m) i t) where
    -- the item that stands here, of size k, ends at `at'`
    module _ (at' k : ℕ) (read : shape (q left at) ≡ Ok at') (used : (x : Placed A) (e : ℕ) → placed (q left) at ≡ took x e → size x ≡ k) where
      next-places : (xs : List (Placed A)) (e : ℕ)
          → ((ys : List (Placed A)) × (items left (suc m) at ≡ took ys e) × (sets t₀ base (ats xs) ≡ sets t (base + i) (ats ys)))
          → (ys : List (Placed A)) × (items (left - k) m at' ≡ took ys e) × (sets t₀ base (ats xs) ≡ sets (set t (base + i) at) (base + (i + 1)) (ats ys))
      next-places xs e (ys, e₁, stored) =
          let (x, n', zs, e₃, e₄, is-ys) = within-took size (λ left. placed (q left)) left m at e₁ in
          let (e₅, x-at) = placed-took q left at e₃ in
          let k_is : size x ≡ k = used x n' e₃ in
          let same : at' ≡ n' = let o : Ok at' ≡ Ok n' = sym read ∙ ap shape e₅ in cc in
          let one_more_lem : base + (i + 1) ≡ suc (base + i) = omega arith in (
            zs,
            ap (items (left - k) m) same ∙ ap (λ (j : ℕ). items (left - j) m n') (sym k_is) ∙ e₄,
            stored ∙ ap (λ (l : List (Placed A)). sets t (base + i) (ats l)) is-ys ∙ ap₂ (λ (u b : ℕ). sets (set t (base + i) u) b (ats zs)) x-at (sym one_more_lem),
          )

      -- one item more
      pub turn-next : Turn start left₀ count base t₀ at' (left - k) m (i + 1) (set t (base + i) at)
      turn-next = record {
        ends = h.ends ∙ within_first size (λ left. placed (q left)) left m k (Ok at) used ∙ ap (walk (items (left - k) m)) (walk-placed (q left) (Ok at) ∙ read);
        places = λ xs e g. next-places xs e (h.places xs e g);
        room = length-set t (base + i) at ∙ h.room;
      }

    -- the item that stands here is refused
    module _ {stopped : Stop} (read : shape (q left at) ≡ Err stopped) where
      none : (x : Placed A) (e : ℕ) → placed (q left) at ≡ took x e → size x ≡ 0
      none x e g = absurd (let is : Ok e ≡ Err stopped = sym (ap shape (placed-took q left at g).0) ∙ read in let z : ◌≡◌ {A = ℕ} 0 1 = cc in omega arith)

      stops : shape (items left₀ count start) ≡ Err stopped
      stops = h.ends ∙ within_first size (λ left. placed (q left)) left m 0 (Ok at) none ∙ ap (walk (items (left - 0) m)) (walk-placed (q left) (Ok at) ∙ read)

      pub turn_stopped : Fills (items left₀ count) start base t₀ (Err stopped) (set t (base + i) at)
      turn_stopped = record {
        ends = sym stops;
        places = λ xs e g. absurd (let is : Ok e ≡ Err stopped = sym (ap shape g) ∙ stops in let z : ◌≡◌ {A = ℕ} 0 1 = cc in omega arith);
        room = length-set t (base + i) at ∙ h.room;
      }

  module _ (start left₀ count base : ℕ) (t₀ : List ℕ) (at left i : ℕ) (t : List ℕ) (h : Turn start left₀ count base t₀ at left 0 i t) where
    all-stored : (xs : List (Placed A)) (e : ℕ)
        → ((ys : List (Placed A)) × (items left 0 at ≡ took ys e) × (sets t₀ base (ats xs) ≡ sets t (base + i) (ats ys)))
        → t ≡ sets t₀ base (ats xs)
    all-stored xs e (ys, e₁, stored) = sym (stored ∙ ap (λ (l : List (Placed A)). sets t (base + i) (ats l)) (within-done size (λ left. placed (q left)) left at e₁).0)

    -- nothing is left: the table is filled
    pub turn_last : Fills (items left₀ count) start base t₀ (Ok at) t
    turn_last = record {
      ends = sym (within_none size (λ left. placed (q left)) left (Ok at)) ∙ sym h.ends;
      places = λ xs e g. all-stored xs e (h.places xs e g);
      room = h.room;
    }

-- many fields, read with their table
pub fills_many : {A : Type 0} (p : Field A) (count : ℕ) {start base : ℕ} {t₀ : List ℕ} {end : Result ℕ Stop} {t : List ℕ}
    → Fills (within (λ x. 0) 0 count (λ left. placed p)) start base t₀ end t → Fills (many count (placed p)) start base t₀ end t
fills_many p count {start} h = record {
  ends = h.ends ∙ ap shape (sym (many-within (placed p) count start));
  places = λ xs e g. h.places xs e (sym (many-within (placed p) count start) ∙ g);
  room = h.room;
}

-- a length and as many raw bytes: what was taken is as long as the length says
raw-length : (s : List ℕ) (k m : ℕ) {bs : List ℕ} {e : ℕ} → raw s k m ≡ took bs e → length bs ≡ k
unfolding raw
raw-length s k m {bs} {e} h = by_test (dec_le (m + k) (length s))
  where
    by_test : Dec (m + k ≤ length s) → length bs ≡ k
    by_test (yes le) =
        let is : took (take k (drop m s)) (m + k) ≡ took bs e = rw (le-leb (m + k) (length s) le) at h in
        let bs_are : bs ≡ take k (drop m s) = cc in
        ap length bs_are ∙ length-take-le k (drop m s) (simp length-drop (omega arith))
    by_test (no gt) = never (rw (lt-leb (m + k) (length s) (omega arith)) at h)

pub bytes_used : (s : List ℕ) (left at : ℕ) {k m : ℕ} → at_most s left at ≡ took k m → (x : Placed (List ℕ)) (e : ℕ) → placed (bytes s left) at ≡ took x e → length x.item ≡ k
unfolding bytes
bytes_used s left at {k} {m} is x e h =
    let (e₂, x-at) = placed-took (bytes s) left at h in
    let (k', m', e₃, e₄) = then_took (at_most s left at) (λ k m. raw s k m) e₂ in
    let same : took k m ≡ took k' m' = sym is ∙ e₃ in
    raw-length s k' m' e₄ ∙ sym (same-value same)
