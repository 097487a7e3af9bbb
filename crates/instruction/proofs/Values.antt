-- Variables and operands of the code are the believed machine's: a stored tag and bits are a value or unset, kind by kind.
use Rattle.std.specs.Prelude.{Result, Ok, Err}
use Prim.Native.Nat.{ℕ, ◌+◌, ◌*◌, ◌/◌, ◌<◌}
use native.Mathlib.Omega.{arith}
use mathlib.Core.Bool.{true}
use mathlib.Core.Path.{◌≡◌, refl, ap, ◌∙◌, ap₂, fun_ext}
use mathlib.Core.List.{List}
use lib.ListN.{length, get_or, set, length-set}
use lib.Seq.{get_or-set_same, get_or-set_other}
use lib.Dec.{ltb, eqb}
use borrow.Author.Tests.{lt-ltb, ne_eqb, eqb-true, eqb-false}
use Rattle.value.specs.declared.refusal.Refusal.{Refusal}
use Rattle.value.specs.Refusal.{never_set}
use Rattle.value.specs.Answer.{Answer, ok, refused, need, pick}
use Rattle.value.specs.Answer as Answer
use Rattle.value.specs.Value.{Value, tag}
use Rattle.value.specs.Tags.{holds}
use Rattle.value.proofs.Tags.{kind_of_tag, tag-some}
use Rattle.value.proofs.Truth.{is_true, is_yes}
use Rattle.memory.specs.Stored.{stored_value}
use Rattle.memory.specs.Tables.{stored_ok, variable_ok}
use Rattle.memory.specs.View.{variables_in}
use Rattle.memory.proofs.Every.{by_test}
use Rattle.memory.proofs.Stored.{Stores, unset, valued, stores, stored_ok_lem, stored-value, stored-none}
use Rattle.machine.specs.Machine.{set_to}
use Rattle.machine.specs.Machine as Machine
use Rattle.machine.proofs.Values.{Keeps, kept, no_answer, Good}
use Rattle.image.specs.Program.{Operand, variable, literal}
use Rattle.instruction.specs.Variables.{found, read_variable, set_variable, evaluated}
use Rattle.instruction.specs.Compute.{answer_of, found_of}
use Rattle.instruction.specs.declared.variables.Found.{Found}
use Rattle.instruction.proofs.Decoded.{as_read}

-- ---- an answer as a tag and bits, and back

pub found-answer : (a : Answer Value) → Keeps Good a → answer_of (found_of a) ≡ a
unfolding answer_of need
found-answer (ok v) (kept g) = rw (kind_of_tag v.kind, is_true (holds v.kind v.bits) g)
found-answer (refused n) k = refl

-- ---- variables

-- a variable's tag and bits, found
abbrev word_found : (tag bits : ℕ) → Result Found Refusal
word_found t b = pick (eqb t 0) (Err never_set) (Ok (found t b))

abbrev Stored : (tag bits : ℕ) → Type 0
Stored t b = (word_found t b ≡ found_of (Answer.found never_set (stored_value t b))) × Keeps Good (Answer.found never_set (stored_value t b))

stored-found : (t b : ℕ) → stored_ok t b ≡ true → Stored t b
unfolding Answer.found
stored-found t b h = go (stores t b h)
  where
    go : Stores t b → Stored t b
    go (unset z y) = rw (z, stored-none b) (refl, no_answer)
    go (valued k z g) = rw (z, tag-some k, stored-value k b) (refl, kept (is_yes g))

-- what is asked of the variables
pub record Variables (vars : List ℕ) : Type 0 where
  pub counted : length vars ≡ 512
  pub each : (x : ℕ) → x < 256 → variable_ok vars x ≡ true

-- what an accepted operand is: a variable, or bits of their kind
abbrev pub Fits : Operand → Type 0
Fits (variable x) = x < 256
Fits (literal v) = Good v

module _ (vars : List ℕ) (good : Variables vars) where
  variable-found : (x : ℕ) → x < 256 → (read_variable vars x ≡ found_of (Answer.found never_set (variables_in vars x))) × Keeps Good (Answer.found never_set (variables_in vars x))
  unfolding read_variable variables_in
  variable-found x l =
      let there : ltb x (length vars / 2) ≡ true = ap (λ (n : ℕ). ltb x (n / 2)) good.counted ∙ lt-ltb x 256 l in
      rw there (stored-found (get_or vars (x * 2) 0) (get_or vars (x * 2 + 1) 0) (unfold variable_ok in good.each x l))

  -- an operand's value
  pub operand-found : (x : Operand) (next : ℕ) → 0 < next → Fits x → evaluated vars (as_read x next) ≡ found_of (Machine.value_of (variables_in vars) x)
  unfolding evaluated Machine.value_of
  operand-found (variable x) next l f = rw (ne_eqb next 0 (λ e. omega arith)) (variable-found x f).0
  operand-found (literal v) next l f = rw (ne_eqb next 0 (λ e. omega arith), tag-some v.kind)

  pub operand-good : (x : Operand) → Fits x → Keeps Good (Machine.value_of (variables_in vars) x)
  unfolding Machine.value_of
  operand-good (variable x) f = (variable-found x f).1
  operand-good (literal v) f = kept f

  -- ---- a variable is set

  there : (x : ℕ) → x < 256 → (r : Found) → set_variable vars x r ≡ set (set vars (x * 2) r.tag) (x * 2 + 1) r.bits
  unfolding set_variable
  there x l r = rw (ap (λ (n : ℕ). ltb x (n / 2)) good.counted ∙ lt-ltb x 256 l)

  abbrev after : ℕ → Found → List ℕ
  after x r = set (set vars (x * 2) r.tag) (x * 2 + 1) r.bits

  tag_same : (x : ℕ) → x < 256 → (r : Found) → get_or (after x r) (x * 2) 0 ≡ r.tag
  tag_same x l r =
      get_or-set_other (set vars (x * 2) r.tag) (x * 2 + 1) (x * 2) r.bits 0 (λ e. omega arith) ∙ get_or-set_same vars (x * 2) r.tag 0 (omega (arith, good.counted))

  bits-same : (x : ℕ) → x < 256 → (r : Found) → get_or (after x r) (x * 2 + 1) 0 ≡ r.bits
  bits-same x l r = get_or-set_same (set vars (x * 2) r.tag) (x * 2 + 1) r.bits 0 (omega (arith, good.counted, length-set vars (x * 2) r.tag))

  word_other : (x : ℕ) (r : Found) (k : ℕ) → (k ≡ x * 2 → ⊥) → (k ≡ x * 2 + 1 → ⊥) → get_or (after x r) k 0 ≡ get_or vars k 0
  word_other x r k n o = get_or-set_other (set vars (x * 2) r.tag) (x * 2 + 1) k r.bits 0 o ∙ get_or-set_other vars (x * 2) k r.tag 0 n

  -- what is made of a variable's two words, of the one that is set and of the others
  own-words : {A : Type 0} (f : ℕ → ℕ → A) (x : ℕ) → x < 256 → (r : Found)
      → f (get_or (set_variable vars x r) (x * 2) 0) (get_or (set_variable vars x r) (x * 2 + 1) 0) ≡ f r.tag r.bits
  own-words f x l r = rw (there x l r) (ap₂ f (tag_same x l r) (bits-same x l r))

  other_words : {A : Type 0} (f : ℕ → ℕ → A) (x : ℕ) → x < 256 → (r : Found) (y : ℕ) → (y ≡ x → ⊥)
      → f (get_or (set_variable vars x r) (y * 2) 0) (get_or (set_variable vars x r) (y * 2 + 1) 0) ≡ f (get_or vars (y * 2) 0) (get_or vars (y * 2 + 1) 0)
  other_words f x l r y n =
      rw (there x l r)
      (ap₂ f (word_other x r (y * 2) (λ e. n (omega arith)) (λ e. omega arith)) (word_other x r (y * 2 + 1) (λ e. omega arith) (λ e. n (omega arith))))

  -- the variable has the value, and the others are as they were
  pub variable-set : (x : ℕ) → x < 256 → (v : Value) → variables_in (set_variable vars x (found (tag v.kind) v.bits)) ≡ set_to (variables_in vars) x v
  unfolding variables_in
  variable-set x l v = fun_ext each-one
    where
      r : Found
      r = found (tag v.kind) v.bits

      each-one : (y : ℕ) → variables_in (set_variable vars x r) y ≡ set_to (variables_in vars) x v y
      each-one y =
          by_test (eqb y x)
          (λ t. rw t (ap (variables_in (set_variable vars x r)) (eqb-true y x t) ∙ own-words stored_value x l r ∙ stored-value v.kind v.bits))
          (λ t. rw t (other_words stored_value x l r y (eqb-false y x t)))

  pub variables-kept : (x : ℕ) → x < 256 → (v : Value) → Good v → Variables (set_variable vars x (found (tag v.kind) v.bits))
  unfolding variable_ok
  variables-kept x l v g = record {
    counted = ap length (there x l (found (tag v.kind) v.bits)) ∙ simp length-set good.counted;
    each = λ y h.
        by_test (eqb y x)
        (λ t. ap (variable_ok (set_variable vars x (found (tag v.kind) v.bits))) (eqb-true y x t) ∙ own-words stored_ok x l (found (tag v.kind) v.bits)
        ∙ stored_ok_lem v.kind v.bits ∙ is_true (holds v.kind v.bits) g)
        (λ t. other_words stored_ok x l (found (tag v.kind) v.bits) y (eqb-false y x t) ∙ good.each y h);
  }
