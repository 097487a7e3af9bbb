-- Parts of lists by their bounds, and a line made from one.
use Rattle.std.proofs.Common.{◌≡◌, ℕ, ◌≤◌, min, List, length, take, sym, ap, ◌∙◌, arith, length-take, take_all}
use native.Mathlib.Nat.{min-eq_left, min-eq_right, min-le_right}
use native.Mathlib.Decide.{dec_le}
use Rattle.words.specs.Text.{Text}
use Rattle.answers.specs.Lines.{Pieces}
use Rattle.telling.specs.Bounds.{Counts}
use Rattle.telling.specs.Told.{line}

pub counted : (n r : ℕ) (l : List ℕ) → r ≡ min n (length l) → (r ≡ min n (length l)) × Counts r l
counted n r l e =
    let h : r ≤ length l = omega (arith, min-le_right n (length l)) in
    (e, (h, sym (simp length-take (min-eq_left h))))

-- so many as there are is all of them
pub take-least : (n r : ℕ) (l : List ℕ) → r ≡ min n (length l) → take r l ≡ take n l
take-least n r l e =
    elim (dec_le n (length l)) [
      | yes h ↦ ap (λ (k : ℕ). take k l) (e ∙ min-eq_left h)
      | no h ↦ let m = min-eq_right {n = length l} {m = n} (omega arith) in take_all r l (omega arith) ∙ sym (take_all n l (omega arith))
    ]

-- a line made from so many of a list's elements
pub part-told : (tell : List ℕ → Pieces) (n r : ℕ) (l out : List ℕ) {t : Text} → r ≡ min n (length l) → t ≡ line (tell (take r l)) out → t ≡ line (tell (take n l)) out
part-told tell n r l out e h = h ∙ ap (λ x. line (tell x) out) (take-least n r l e)
