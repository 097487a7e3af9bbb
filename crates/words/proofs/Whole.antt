-- A text is all of its pieces: where they have room they stand one after the other, and where they have not, the answer says so.
use Prim.Native.Nat.{ℕ, ◌+◌, ◌<◌, ◌≤◌}
use native.Mathlib.Nat.{add-zero}
use native.Mathlib.Decide.{dec_le}
use native.Mathlib.Omega.{arith}
use mathlib.Core.Path.{◌≡◌, refl, sym, ap, ap₂, ◌∙◌}
use mathlib.Core.List.{List, [], ◌∷◌, ◌++◌}
use lib.ListN.{length, length-append}
use lib.Seq.{sets, length-sets}
use borrow.Author.Tests.{le-leb, lt-leb}
use Rattle.std.specs.Prelude.{Some, None}
use Rattle.words.specs.Text.{Text, text, put, puts}
use Rattle.value.proofs.Stores.{sets-append}

-- the bytes of all pieces
abbrev pub joined : List (List ℕ) → List ℕ
joined [] = []
joined (p ∷ ps) = p ++ joined ps

module _ (p : List ℕ) (at : ℕ) (before : List ℕ) where
  put-fits : at + length p ≤ length before → put p (text (Some at) before) ≡ text (Some (at + length p)) (sets before at p)
  unfolding put
  put-fits h = rw (le-leb (at + length p) (length before) h)

  put_full : length before < at + length p → put p (text (Some at) before) ≡ text None before
  unfolding put
  put_full h = rw (lt-leb (at + length p) (length before) h)

pub has_room : (ps : List (List ℕ)) (at : ℕ) (before : List ℕ) → at + length (joined ps) ≤ length before
    → puts ps (text (Some at) before) ≡ text (Some (at + length (joined ps))) (sets before at (joined ps))
has_room [] at before h = ap (λ (k : ℕ). text (Some k) before) (sym (add-zero at))
has_room (p ∷ ps) at before h =
    let l = length-append p (joined ps) in
    let e : at + length p + length (joined ps) ≡ at + length (p ++ joined ps) = omega arith in
    ap (puts ps) (put-fits p at before (omega arith))
    ∙ has_room ps (at + length p) (sets before at p) (omega (arith, length-sets before at p))
    ∙ ap₂ (λ (k : ℕ) (bs : List ℕ). text (Some k) bs) e (sym (sets-append before at p (joined ps)))

-- nothing is put once a piece had no room
pub none_stays : (p : List ℕ) (before : List ℕ) → put p (text None before) ≡ text None before
unfolding put
none_stays p before = refl

pub nones_stay : (ps : List (List ℕ)) (before : List ℕ) → puts ps (text None before) ≡ text None before
nones_stay [] before = refl
nones_stay (p ∷ ps) before = ap (puts ps) (none_stays p before) ∙ nones_stay ps before

pub no_room : (ps : List (List ℕ)) (at : ℕ) (before : List ℕ) → at ≤ length before → length before < at + length (joined ps)
    → (puts ps (text (Some at) before)).place ≡ None
no_room [] at before h g = absurd (omega arith)
no_room (p ∷ ps) at before h g =
    let l = length-append p (joined ps) in
    elim (dec_le (at + length p) (length before)) [
      | yes f ↦
          ap (λ (t : Text). (puts ps t).place) (put-fits p at before f)
          ∙ no_room ps (at + length p) (sets before at p) (omega (arith, length-sets before at p)) (omega (arith, length-sets before at p))
      | no f ↦ ap (λ (t : Text). (puts ps t).place) (put_full p at before (omega arith)) ∙ ap (λ (t : Text). t.place) (nones_stay ps before)
    ]
