-- A variable that was set gets its old words back, so that a refusal leaves the table as it stood.
use Rattle.std.specs.Prelude.{Result, Ok, Err, ⊤}
use Prim.Native.Nat.{ℕ, ◌+◌, ◌*◌, ◌/◌}
use native.Mathlib.Omega.{arith}
use mathlib.Core.Bool.{Bool, true, false}
use mathlib.Core.Path.{◌≡◌, refl, sym, ap, ◌∙◌}
use mathlib.Core.List.{List}
use lib.ListN.{length, get_or, set, length-set}
use lib.Seq.{set_comm, set-set, set-get_or}
use lib.Dec.{ltb}
use Rattle.value.specs.declared.refusal.Refusal.{Refusal}
use Rattle.value.specs.Answer.{Answer, ok, refused, pick}
use Rattle.memory.specs.Tables.{Both, both}
use Rattle.instruction.specs.Variables.{found, set_variable}
use Rattle.instruction.specs.declared.variables.Found.{Found}
use Rattle.calls.specs.Variables.{all_or_nothing, held_of, undone_of}

-- two words set, and set back
words_back : (l : List ℕ) (i j a b : ℕ) → (i ≡ j → ⊥) → set (set (set (set l i a) j b) i (get_or l i 0)) j (get_or l j 0) ≡ l
words_back l i j a b n =
    ap (λ w. set w j (get_or l j 0)) (set_comm (set l i a) j i b (get_or l i 0) (λ e. n (sym e)))
    ∙ set-set (set (set l i a) i (get_or l i 0)) j b (get_or l j 0)
    ∙ ap (λ w. set w j (get_or l j 0)) (set-set l i a (get_or l i 0) ∙ set-get_or l i 0)
    ∙ set-get_or l j 0

pub set_back : (vars : List ℕ) (x : ℕ) (v : Found) → set_variable (set_variable vars x v) x (held_of vars x) ≡ vars
unfolding set_variable held_of
set_back vars x v = go (ltb x (length vars / 2)) refl
  where
    words : List ℕ
    words = set (set vars (x * 2) v.tag) (x * 2 + 1) v.bits

    same : length words ≡ length vars
    same = simp length-set

    go : (b : Bool) → ltb x (length vars / 2) ≡ b
        → pick (ltb x (length (pick b words vars) / 2)) (set (set (pick b words vars) (x * 2) (pick b (found (get_or vars (x * 2) 0) (get_or vars (x * 2 + 1) 0)) (found 0 0)).tag) (x * 2 + 1) (pick b (found (get_or vars (x * 2) 0) (get_or vars (x * 2 + 1) 0)) (found 0 0)).bits) (pick b words vars) ≡ vars
    go true e = rw (ap (λ n. ltb x (n / 2)) same ∙ e) (words_back vars (x * 2) (x * 2 + 1) v.tag v.bits (λ d. omega arith))
    go false e = rw e

answer-of : {A : Type 0} {a b : A} {l k : List ℕ} → both a l ≡ both b k → a ≡ b
answer-of {A} e = ap (λ (r : Both A). r.answer) e

table_of : {A : Type 0} {a b : A} {l k : List ℕ} → both a l ≡ both b k → l ≡ k
table_of {A} e = ap (λ (r : Both A). r.table) e

-- what the rest of a Call does after a variable was set, is what the Call does with the variable
pub undone : (vars : List ℕ) (x : ℕ) (v old : Found) (a : Answer (List ℕ)) (set_first rest-left left : List ℕ) (rest r : (Result ⊤ Refusal))
    → old ≡ held_of vars x
    → set_first ≡ set_variable vars x v
    → both rest rest-left ≡ all_or_nothing set_first a
    → both r left ≡ undone_of rest-left x old rest
    → both r left ≡ all_or_nothing vars a
unfolding all_or_nothing
undone vars x v old (ok vs) set_first rest-left left rest r h f e d =
    d ∙ ap (λ o. undone_of rest-left x old o) (answer-of e) ∙ ap (λ l. both (Ok tt) l) (table_of e)
undone vars x v old (refused n) set_first rest-left left rest r h f e d =
    d ∙ ap (λ o. undone_of rest-left x old o) (answer-of e)
    ∙ ap (λ l. both (Err n) (set_variable l x old)) (table_of e ∙ f)
    ∙ ap (λ o. both (Err n) (set_variable (set_variable vars x v) x o)) h
    ∙ ap (λ l. both (Err n) l) (set_back vars x v)

-- what a part that was done, or refused, says of its definition
pub done-is : (vars : List ℕ) (a : Answer (List ℕ)) (left : List ℕ) (r : (Result ⊤ Refusal)) → both r left ≡ all_or_nothing vars a → r ≡ (Ok tt) → a ≡ ok left
unfolding all_or_nothing
done-is vars (ok vs) left r e d = ap ok (sym (table_of e))
done-is vars (refused n) left r e d = absurd (let f = answer-of e in let z : ◌≡◌ {A = ℕ} 0 1 = cc in omega arith)

pub refused-is : (vars : List ℕ) (a : Answer (List ℕ)) (left : List ℕ) (r : (Result ⊤ Refusal)) (n : Refusal) → both r left ≡ all_or_nothing vars a → r ≡ Err n → (a ≡ refused n) × (left ≡ vars)
unfolding all_or_nothing
refused-is vars (ok vs) left r n e d = absurd (let f = answer-of e in let z : ◌≡◌ {A = ℕ} 0 1 = cc in omega arith)
refused-is vars (refused k) left r n e d = (ap refused (let f = answer-of e in let z : k ≡ n = cc in z), table_of e)
