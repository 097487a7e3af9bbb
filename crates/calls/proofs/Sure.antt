-- What is handed over and has a value keeps one while variables are set: so a sure Call refuses nothing, whatever was set before.
use Rattle.std.specs.Prelude.{Option, Some, None, Result, Ok, Err, is_ok, IsOk, ◌&&◌}
use Rattle.std.specs.Result.{is_err}
use Prim.Native.Nat.{ℕ, zero, suc, ◌+◌, ◌-◌, ◌*◌, ◌/◌, ◌≤◌, ◌<◌}
use native.Mathlib.Omega.{arith}
use mathlib.Core.Bool.{Bool, true, false}
use mathlib.Core.Path.{◌≡◌, refl, sym, ap, ◌∙◌, subst}
use mathlib.Core.List.{List}
use lib.ListN.{length, get_or, set, length-set}
use lib.Seq.{get_or-set_same, get_or-set_other}
use lib.Dec.{ltb, eqb}
use borrow.Author.Tests.{lt-ltb, le-ltb, ltb-true, ne_eqb, eqb-true, eqb-false}
use Rattle.value.specs.declared.refusal.Refusal.{Refusal}
use Rattle.value.specs.Answer.{ok, pick, ◌>>=◌}
use Rattle.value.specs.Value.{tag}
use Rattle.memory.specs.Tables.{both}
use Rattle.instruction.specs.Decode.{operand_at}
use Rattle.instruction.specs.Variables.{found, set_variable, read_variable, evaluated}
use Rattle.instruction.specs.declared.variables.Found.{Found}
use Rattle.instruction.specs.declared.field.Operand.{Operand}
use Rattle.calls.specs.Fields.{slot_at}
use Rattle.calls.specs.Variables.{all_or_nothing, slots_pointed, found_set, arguments_set, context_set, pointer_set, context_on, pointer_on, slots_on, all_found, Sure}
use Rattle.calls.specs.declared.fields.CallFields.{CallFields}
use Rattle.calls.specs.declared.fields.Callee.{Callee}
use Rattle.calls.proofs.Laws.{one_fewer, none_left}

-- numbers that fit
pub all_fit : {A : Type 0} (first count : ℕ) (x y : A) → first + count < 18446744073709551616 → pick (ltb (18446744073709551615 - first) count) x y ≡ y
all_fit first count x y h = rw (le-ltb (18446744073709551615 - first) count (omega arith))

-- the numbers of pointers do
pub all_room : {A : Type 0} (first count : ℕ) (x y : A) → first + count ≤ 4096 → pick (ltb (18446744073709551615 - first) count) x y ≡ y
all_room first count x y h = all_fit first count x y (omega arith)

-- ---- a variable that has a value

-- the tag of what was found, 0 where it was refused
abbrev tag_found : Result Found Refusal → ℕ
tag_found (Ok v) = v.tag
tag_found (Err n) = 0

has_value : (vars : List ℕ) (y : ℕ) → IsOk (read_variable vars y) → (y < length vars / 2) × (get_or vars (y * 2) 0 ≡ 0 → ⊥)
unfolding read_variable
has_value vars y h = go (ltb y (length vars / 2)) refl (eqb (get_or vars (y * 2) 0) 0) refl
  where
    go : (a : Bool) → ltb y (length vars / 2) ≡ a → (b : Bool) → eqb (get_or vars (y * 2) 0) 0 ≡ b → (y < length vars / 2) × (get_or vars (y * 2) 0 ≡ 0 → ⊥)
    go false e b d = absurd (let f = rw e at h in let z : ◌≡◌ {A = ℕ} 0 1 = cc in omega arith)
    go true e true d = absurd (let f = rw (e, d) at h in let z : ◌≡◌ {A = ℕ} 0 1 = cc in omega arith)
    go true e false d = (ltb-true y (length vars / 2) e, eqb-false (get_or vars (y * 2) 0) 0 d)

value_read : (vars : List ℕ) (y : ℕ) → y < length vars / 2 → (get_or vars (y * 2) 0 ≡ 0 → ⊥) → IsOk (read_variable vars y)
unfolding read_variable
value_read vars y h n = rw (lt-ltb y (length vars / 2) h, ne_eqb (get_or vars (y * 2) 0) 0 n) refl

-- what is read has a tag
pub read-tagged : (vars : List ℕ) (y : ℕ) (v : Found) → read_variable vars y ≡ Ok v → v.tag ≡ 0 → ⊥
unfolding read_variable
read-tagged vars y v e z = go (ltb y (length vars / 2)) refl (eqb (get_or vars (y * 2) 0) 0) refl
  where
    go : (a : Bool) → ltb y (length vars / 2) ≡ a → (b : Bool) → eqb (get_or vars (y * 2) 0) 0 ≡ b → ⊥
    go false d b c = let f = rw d at e in let z : ◌≡◌ {A = ℕ} 0 1 = cc in omega arith
    go true d true c = let f = rw (d, c) at e in let z : ◌≡◌ {A = ℕ} 0 1 = cc in omega arith
    go true d false c = eqb-false (get_or vars (y * 2) 0) 0 c (ap tag_found (rw (d, c) at e) ∙ z)

pub evaluated-tagged : (vars : List ℕ) (o : Operand) (v : Found) → evaluated vars o ≡ Ok v → v.tag ≡ 0 → ⊥
unfolding evaluated
evaluated-tagged vars o v e z = go (eqb o.next 0) refl (eqb o.tag 0) refl
  where
    go : (a : Bool) → eqb o.next 0 ≡ a → (b : Bool) → eqb o.tag 0 ≡ b → ⊥
    go true d b c = let f = rw d at e in let z : ◌≡◌ {A = ℕ} 0 1 = cc in omega arith
    go false d true c = read-tagged vars o.bits v (rw (d, c) at e) z
    go false d false c = eqb-false o.tag 0 c (ap tag_found (rw (d, c) at e) ∙ z)

module _ (vars : List ℕ) (x : ℕ) (v : Found) (some : v.tag ≡ 0 → ⊥) where
  as_long : length (set_variable vars x v) ≡ length vars
  unfolding set_variable
  as_long = go (ltb x (length vars / 2))
    where
      go : (b : Bool) → length (pick b (set (set vars (x * 2) v.tag) (x * 2 + 1) v.bits) vars) ≡ length vars
      go true = simp length-set
      go false = refl

  first_word : (y : ℕ) → y < length vars / 2 → (get_or vars (y * 2) 0 ≡ 0 → ⊥) → get_or (set_variable vars x v) (y * 2) 0 ≡ 0 → ⊥
  unfolding set_variable
  first_word y h n e = go (ltb x (length vars / 2)) refl (eqb x y) refl
    where
      go : (a : Bool) → ltb x (length vars / 2) ≡ a → (b : Bool) → eqb x y ≡ b → ⊥
      go false d b c = n (rw d at e)
      go true d true c =
          let same : x ≡ y = eqb-true x y c in
          let w : get_or (set (set vars (x * 2) v.tag) (x * 2 + 1) v.bits) (y * 2) 0 ≡ v.tag =
          get_or-set_other (set vars (x * 2) v.tag) (x * 2 + 1) (y * 2) v.bits 0 (λ q. omega arith)
          ∙ ap (λ (i : ℕ). get_or (set vars (x * 2) v.tag) (i * 2) 0) (sym same) ∙ get_or-set_same vars (x * 2) v.tag 0 (omega arith)
          in some (sym w ∙ (rw d at e))
      go true d false c =
          let other : x ≡ y → ⊥ = eqb-false x y c in
          let w : get_or (set (set vars (x * 2) v.tag) (x * 2 + 1) v.bits) (y * 2) 0 ≡ get_or vars (y * 2) 0 =
          get_or-set_other (set vars (x * 2) v.tag) (x * 2 + 1) (y * 2) v.bits 0 (λ q. omega arith) ∙ get_or-set_other vars (x * 2) (y * 2) v.tag 0 (λ q. other (omega arith))
          in n (sym w ∙ (rw d at e))

  keeps-variable : (y : ℕ) → IsOk (read_variable vars y) → IsOk (read_variable (set_variable vars x v) y)
  keeps-variable y n =
      let h = has_value vars y n in
      value_read (set_variable vars x v) y (rw as_long h.0) (first_word y h.0 h.1)

  keeps-operand : (o : Operand) → IsOk (evaluated vars o) → IsOk (evaluated (set_variable vars x v) o)
  unfolding evaluated
  keeps-operand o h = go (eqb o.next 0) refl (eqb o.tag 0) refl
    where
      go : (a : Bool) → eqb o.next 0 ≡ a → (b : Bool) → eqb o.tag 0 ≡ b → IsOk (evaluated (set_variable vars x v) o)
      go true d b c = absurd (let f = rw d at h in let z : ◌≡◌ {A = ℕ} 0 1 = cc in omega arith)
      go false d true c = rw (d, c) (keeps-variable o.bits (rw (d, c) at h))
      go false d false c = rw (d, c) refl

-- ---- operands that all have values

not_err : (r : Result Found Refusal) → is_err r ≡ false → is_ok r ≡ true
not_err (Ok v) e = refl
not_err (Err n) e = sym e

an_err : (r : Result Found Refusal) → is_err r ≡ true → is_ok r ≡ false
an_err (Ok v) e = sym e
an_err (Err n) e = refl

both_true : (a b : Bool) → (a && b) ≡ true → (a ≡ true) × (b ≡ true)
both_true true b e = (refl, e)
both_true false b e = (e, absurd (let z : ◌≡◌ {A = ℕ} 0 1 = cc in omega arith))

module _ (s : List ℕ) where
  pub all_on : (n k at : ℕ) (vars : List ℕ) → k < n → is_err (evaluated vars (operand_at s at)) ≡ false → all_found s (n - (k + 1)) (operand_at s at).next vars ≡ all_found s (n - k) at vars
  unfolding all_found
  all_on n k at vars h z = rw (one_fewer n k h, not_err _ z)

  pub all_stop : (n k at : ℕ) (vars : List ℕ) → k < n → is_err (evaluated vars (operand_at s at)) ≡ true → all_found s (n - k) at vars ≡ false
  unfolding all_found
  all_stop n k at vars h z = rw (one_fewer n k h, an_err _ z)

  pub all_none : (n k at : ℕ) (vars : List ℕ) → n ≤ k → all_found s (n - k) at vars ≡ true
  unfolding all_found
  all_none n k at vars h = rw (none_left n k h)

  -- the first of them has one, and so have the others
  pub all_first : (n k at : ℕ) (vars : List ℕ) → k < n → all_found s (n - k) at vars ≡ true → IsOk (evaluated vars (operand_at s at))
  unfolding all_found
  all_first n k at vars h e = (both_true _ _ (rw (one_fewer n k h) at e)).0

  pub all_rest : (n k at : ℕ) (vars : List ℕ) → k < n → all_found s (n - k) at vars ≡ true → all_found s (n - (k + 1)) (operand_at s at).next vars ≡ true
  unfolding all_found
  all_rest n k at vars h e = (both_true _ _ (rw (one_fewer n k h) at e)).1

  pub keeps-all : (n at : ℕ) (vars : List ℕ) (x : ℕ) (v : Found) → (v.tag ≡ 0 → ⊥) → all_found s n at vars ≡ true → all_found s n at (set_variable vars x v) ≡ true
  unfolding all_found
  keeps-all zero at vars x v some h = refl
  keeps-all (suc n) at vars x v some h =
      let o = operand_at s at in
      let both = both_true (is_ok (evaluated vars o)) (all_found s n o.next vars) h in
      rw (keeps-operand vars x v some o both.0) (keeps-all n o.next vars x v some both.1)

  -- an argument was set: those after it have values still
  pub argument_put : (n k at : ℕ) (vars : List ℕ) (x : ℕ) (v : Found) → k < n → all_found s (n - k) at vars ≡ true → evaluated vars (operand_at s at) ≡ Ok v
      → all_found s (n - (k + 1)) (operand_at s at).next (set_variable vars x v) ≡ true
  argument_put n k at vars x v h e d = keeps-all _ _ vars x v (evaluated-tagged vars (operand_at s at) v d) (all_rest n k at vars h e)

-- ---- a sure Call

module _ (s : List ℕ) (call : CallFields) where
  keeps_sure : (vars : List ℕ) (x : ℕ) (v : Found) → (v.tag ≡ 0 → ⊥) → Sure s call vars → Sure s call (set_variable vars x v)
  keeps_sure vars x v some h = record {
    pointer = λ y e. keeps-variable vars x v some y (h.pointer y e);
    context = λ at e. keeps-operand vars x v some (operand_at s at) (h.context at e);
    arguments = keeps-all s call.given call.arguments vars x v some h.arguments;
  }

  keeps-slots : (n at g : ℕ) (vars : List ℕ) → Sure s call vars → Sure s call (slots_pointed s n at g vars)
  unfolding slots_pointed tag
  keeps-slots zero at g vars h = h
  keeps-slots (suc n) at g vars h =
      let x = slot_at s at in
      keeps-slots n x.next (g + 1) (set_variable vars x.variable (found 14 g)) (keeps_sure vars x.variable (found 14 g) (λ e. omega arith) h)

  pub sure_pointed : (n at g : ℕ) (vars pointed : List ℕ) → pointed ≡ slots_pointed s n at g vars → Sure s call vars → Sure s call pointed
  sure_pointed n at g vars pointed e h = rw e (keeps-slots n at g vars h)

  keeps-set : (vars : List ℕ) (x : ℕ) (r : Result Found Refusal) (vs : List ℕ) → ((v : Found) → r ≡ Ok v → v.tag ≡ 0 → ⊥) → found_set vars x r ≡ ok vs → Sure s call vars → Sure s call vs
  unfolding found_set
  keeps-set vars x (Ok v) vs some e h = let same : set_variable vars x v ≡ vs = cc in subst (Sure s call) same (keeps_sure vars x v (some v refl) h)
  keeps-set vars x (Err n) vs some e h = absurd (let z : ◌≡◌ {A = ℕ} 0 1 = cc in omega arith)

  module _ (f : Callee) (vars vs : List ℕ) (h : Sure s call vars) where
    keeps-pointer : pointer_set call f vars ≡ ok vs → Sure s call vs
    unfolding pointer_set
    keeps-pointer e = go call.pointer refl
      where
        go : (o : Option ℕ) → call.pointer ≡ o → Sure s call vs
        go None d = let g = rw d at e in let same : vars ≡ vs = cc in subst (Sure s call) same h
        go (Some x) d = keeps-set vars f.result (read_variable vars x) vs (read-tagged vars x) (rw d at e) h

    keeps-context : context_set s call f vars ≡ ok vs → Sure s call vs
    unfolding context_set
    keeps-context e = go call.context refl
      where
        go : (o : Option ℕ) → call.context ≡ o → Sure s call vs
        go None d = let g = rw d at e in let same : vars ≡ vs = cc in subst (Sure s call) same h
        go (Some at) d = keeps-set vars f.context (evaluated vars (operand_at s at)) vs (evaluated-tagged vars (operand_at s at)) (rw d at e) h

  -- each part finds what it needs
  pub sure_context : (f : Callee) (vars vs : List ℕ) → Sure s call vars → pointer_set call f vars ≡ ok vs → (at : ℕ) → call.context ≡ Some at → IsOk (evaluated vs (operand_at s at))
  sure_context f vars vs h e = (keeps-pointer f vars vs h e).context

  pub sure_arguments : (f : Callee) (vars between vs : List ℕ) → Sure s call vars → pointer_set call f vars ≡ ok between → context_set s call f between ≡ ok vs
      → all_found s call.given call.arguments vs ≡ true
  sure_arguments f vars between vs h e d = (keeps-context f between vs (keeps-pointer f vars between h e) d).arguments

  -- the parts, one after another
  pub handed : (f : Callee) (vars a b c : List ℕ) → pointer_set call f vars ≡ ok a → context_set s call f a ≡ ok b
      → arguments_set s f.wanted f.parameters call.given call.arguments b ≡ ok c → pointer_on s call f vars ≡ ok c
  unfolding pointer_on context_on ◌>>=◌
  handed f vars a b c e d h = rw (e, d) h

  -- after the slots' variables
  pub handed_all : (f : Callee) (vars pointed after : List ℕ) (n at g : ℕ) → pointed ≡ slots_pointed s n at g vars → pointer_on s call f pointed ≡ ok after
      → both (Ok tt) after ≡ all_or_nothing vars (slots_on s call f n at g vars)
  unfolding slots_on all_or_nothing
  handed_all f vars pointed after n at g e h = sym (ap (all_or_nothing vars) (ap (pointer_on s call f) (sym e) ∙ h))
