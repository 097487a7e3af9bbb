-- Assign, the comparisons, the operations, Not and Negate agree with the believed machine: their operands are its operands, and each ends by `finish`.
use Prim.Native.Nat.{ℕ, ◌<◌}
use mathlib.Core.Bool.{Bool}
use mathlib.Core.Path.{◌≡◌, refl, ◌∙◌}
use mathlib.Core.List.{List, ◌∷◌, ◌++◌}
use Rattle.value.specs.Answer.{Answer, ok, refused, ◌>>=◌}
use Rattle.value.specs.Value.{Value, IrType, IntCmp, Eq, Ne, ULt, ULe, UGt, UGe, SLt, SLe, SGt, SGe, FloatCmp, FEq, FNe, FLt, FLe, FGt, FGe, compare_ints, compare_floats, add, sub, mul, div, mod', arithmetic, divide_floats, notted, negated}
use Rattle.value.specs.Tags.{int_cmp_at, float_cmp_at, int_cmp_number, float_cmp_number}
use Rattle.image.specs.Program.{Program, Operand, Instruction, Assign, IntCmp', FloatCmp', Add, Sub, Mul, Div, Mod, FDiv, Not, Negate}
use Rattle.image.specs.Written.{Piece, num, flag_number, type_number}
use Rattle.image.specs.Written as W
use Rattle.memory.specs.Tables.{State}
use Rattle.memory.specs.View.{variables_in}
use Rattle.machine.specs.Machine.{value_of, sets, sets₁, sets₂, execute}
use Rattle.machine.specs.Believed.{believed}
use Rattle.machine.proofs.Values.{Keeps, Good, keeps_then, keeps-after, arithmetic-good, divided_good, compared_ints_good, compared_floats_good, notted-good, negated-good}
use Rattle.image.specs.Standing.{Stand}
use Rattle.instruction.specs.Decode.{field, field_at}
use Rattle.instruction.specs.Variables.{evaluated}
use Rattle.instruction.specs.Compute.{found_of, compared_ints, compared_floats, operated, with_second, binary_of, altered, unary_of}
use Rattle.instruction.specs.Code.{assigned_of, middle_of, combined_of, changed_of}
use Rattle.instruction.proofs.Decoded.{as_read}
use Rattle.calls.proofs.VariablesAgree.{read_next}
use Rattle.agree.specs.Seen.{seen}
use Rattle.instruction.proofs.Fields.{field-stands, operand-stands, operand-last}
use Rattle.instruction.proofs.Values.{Fits, found-answer, operand-found, operand-good}
use Rattle.agree.proofs.Steady.{Steady}
use Rattle.agree.proofs.Finish.{onward, VariablesAgree, finish_agrees}

-- ---- answers, one after another

pub then_then : {A B C : Type 0} (a : Answer A) (f : A → Answer B) (g : B → Answer C) → (a >>= f) >>= g ≡ (a >>= λ v. f v >>= g)
unfolding ◌>>=◌
then_then (ok v) f g = refl
then_then (refused n) f g = refl

both_then : {A B C D : Type 0} (a : Answer A) (b : Answer B) (f : A → B → Answer C) (g : C → Answer D) → (a >>= λ v. b >>= λ w. f v w) >>= g ≡ (a >>= λ v. b >>= λ w. f v w >>= g)
unfolding ◌>>=◌
both_then (ok v) (ok w) f g = refl
both_then (ok v) (refused n) f g = refl
both_then (refused n) b f g = refl

-- ---- what the code computes

-- a comparison, by its number
ints_are : (c : IntCmp) → operated 6 (int_cmp_number c) ≡ compare_ints c
unfolding operated int_cmp_at compared_ints
ints_are Eq = refl
ints_are Ne = refl
ints_are ULt = refl
ints_are ULe = refl
ints_are UGt = refl
ints_are UGe = refl
ints_are SLt = refl
ints_are SLe = refl
ints_are SGt = refl
ints_are SGe = refl

floats_are : (c : FloatCmp) → operated 7 (float_cmp_number c) ≡ compare_floats c
unfolding operated float_cmp_at compared_floats
floats_are FEq = refl
floats_are FNe = refl
floats_are FLt = refl
floats_are FLe = refl
floats_are FGt = refl
floats_are FGe = refl

module _ (n how : ℕ) (a b : Answer Value) where
  binary_is : Keeps Good a → Keeps Good b → binary_of n how (found_of a) (found_of b) ≡ (a >>= λ v. b >>= λ w. operated n how v w)
  unfolding binary_of with_second
  binary_is k l = rw (found-answer a k, found-answer b l)

unary_is : (n : ℕ) (a : Answer Value) → Keeps Good a → unary_of n (found_of a) ≡ (a >>= λ v. altered n v)
unfolding unary_of
unary_is n a k = rw (found-answer a k)

-- `to` and two operands, accepted
abbrev pub ThreeFit : (to : ℕ) (x y : Operand) → Type 0
ThreeFit to x y = (to < 256) × Fits x × Fits y

module _ (s : State) (st : Steady s) (room : s.memory.registers.next < 4096) (image : List ℕ) (P : Program) where
  -- an operand's value, in the believed machine's words
  abbrev worth : Operand → Answer Value
  worth x = value_of (variables_in s.variables) x

  found_there : (x : Operand) → Fits x → (next : ℕ) → 0 < next → evaluated s.variables (as_read x next) ≡ found_of (worth x)
  found_there x f next p = operand-found s.variables st.variables x next p f

  good_there : (x : Operand) → Fits x → Keeps Good (worth x)
  good_there x f = operand-good s.variables st.variables x f

  pub assign_agrees : (to : ℕ) (x : Operand) (t : IrType) → to < 256 → Fits x → (at e : ℕ) → 0 < at
      → Stand image at (num to ∷ W.operand x ++ W.number (type_number t)) e
      → VariablesAgree s (assigned_of (onward s) image s.variables at) (execute believed P (seen s) (Assign to x t))
  unfolding assigned_of execute
  assign_agrees to x t l f at e p h =
      let (k₁, e₁, p₁, h₁) = field-stands image at to (W.operand x ++ W.number (type_number t)) e p h in
      let (k₂, e₂, p₂, h₂) = operand-stands image k₁ x (W.number (type_number t)) e p₁ h₁ in
      rw (e₁, e₂, found_there x f k₂ p₂) (finish_agrees s st room to l (worth x) (good_there x f))

  -- two operands, after a place that `middle` leads to
  module _ (n how : ℕ) (f : Value → Value → Answer Value) (is : operated n how ≡ f) (good : (v w : Value) → Keeps Good (f v w)) where
    combine_agrees : (to : ℕ) (x y : Operand) → to < 256 → Fits x → Fits y → (at k₁ k₂ e : ℕ) → field_at image at ≡ field to k₁ → middle_of n image k₁ ≡ field how k₂ → 0 < k₂
        → Stand image k₂ (W.operand x ++ W.operand y) e
        → VariablesAgree s (combined_of (onward s) n image s.variables at) (sets₂ believed (seen s) to f x y)
    unfolding combined_of
    combine_agrees to x y l fx fy at k₁ k₂ e e₁ e₂ p₂ h =
        let (k₃, e₃, p₃, h₃) = operand-stands image k₂ x (W.operand y) e p₂ h in
        let (k₄, e₄, p₄) = operand-last image k₃ y e p₃ h₃ in
        let r : Answer Value = worth x >>= λ v. worth y >>= λ w. f v w in
        rw (e₁, e₂, e₃, read_next x k₃, e₄, found_there x fx k₃ p₃, found_there y fy k₄ p₄, binary_is n how (worth x) (worth y) (good_there x fx) (good_there y fy), is, ← both_then (worth x) (worth y) f (sets believed (seen s) to))
        (finish_agrees s st room to l r (keeps-after Good (worth x) (λ v. keeps-after Good (worth y) (λ w. good v w))))

    -- with a field between `to` and the operands, and without one
    between_agrees : ((k : ℕ) → middle_of n image k ≡ field_at image k) → (to : ℕ) (x y : Operand) → to < 256 → Fits x → Fits y → (at e : ℕ) → 0 < at
        → Stand image at (num to ∷ num how ∷ W.operand x ++ W.operand y) e
        → VariablesAgree s (combined_of (onward s) n image s.variables at) (sets₂ believed (seen s) to f x y)
    between_agrees m to x y l fx fy at e p h =
        let (k₁, e₁, p₁, h₁) = field-stands image at to (num how ∷ W.operand x ++ W.operand y) e p h in
        let (k₂, e₂, p₂, h₂) = field-stands image k₁ how (W.operand x ++ W.operand y) e p₁ h₁ in
        combine_agrees to x y l fx fy at k₁ k₂ e e₁ (m k₁ ∙ e₂) p₂ h₂

    beside_agrees : ((k : ℕ) → middle_of n image k ≡ field how k) → (to : ℕ) (x y : Operand) → to < 256 → Fits x → Fits y → (at e : ℕ) → 0 < at
        → Stand image at (num to ∷ W.operand x ++ W.operand y) e
        → VariablesAgree s (combined_of (onward s) n image s.variables at) (sets₂ believed (seen s) to f x y)
    beside_agrees m to x y l fx fy at e p h =
        let (k₁, e₁, p₁, h₁) = field-stands image at to (W.operand x ++ W.operand y) e p h in
        combine_agrees to x y l fx fy at k₁ k₁ e e₁ (m k₁) p₁ h₁

  -- one operand
  module _ (n : ℕ) (f : Value → Answer Value) (is : altered n ≡ f) (good : (v : Value) → Good v → Keeps Good (f v)) where
    change_agrees : (to : ℕ) (x : Operand) → to < 256 → Fits x → (at e : ℕ) → 0 < at → Stand image at (num to ∷ W.operand x) e
        → VariablesAgree s (changed_of (onward s) n image s.variables at) (sets₁ believed (seen s) to f x)
    unfolding changed_of
    change_agrees to x l fx at e p h =
        let (k₁, e₁, p₁, h₁) = field-stands image at to (W.operand x) e p h in
        let (k₂, e₂, p₂) = operand-last image k₁ x e p₁ h₁ in
        rw (e₁, e₂, found_there x fx k₂ p₂, unary_is n (worth x) (good_there x fx), is, ← then_then (worth x) f (sets believed (seen s) to))
        (finish_agrees s st room to l (worth x >>= f) (keeps_then Good Good (good_there x fx) good))

  -- ---- 6 to 13

  -- where these fields stand after this opcode, the code does what the believed machine does
  abbrev pub Combines : (opcode : ℕ) → List Piece → Instruction → Type 0
  Combines n fields i = (at e : ℕ) → 0 < at → Stand image at fields e → VariablesAgree s (combined_of (onward s) n image s.variables at) (execute believed P (seen s) i)

  pub int_compare_agrees : (to : ℕ) (c : IntCmp) (x y : Operand) → ThreeFit to x y → Combines 6 (num to ∷ num (int_cmp_number c) ∷ W.operand x ++ W.operand y) (IntCmp' to c x y)
  unfolding execute middle_of
  int_compare_agrees to c x y (l, fx, fy) = between_agrees 6 (int_cmp_number c) (compare_ints c) (ints_are c) (compared_ints_good c) (λ k. refl) to x y l fx fy

  pub float_compare_agrees : (to : ℕ) (c : FloatCmp) (x y : Operand) → ThreeFit to x y → Combines 7 (num to ∷ num (float_cmp_number c) ∷ W.operand x ++ W.operand y) (FloatCmp' to c x y)
  unfolding execute middle_of
  float_compare_agrees to c x y (l, fx, fy) = between_agrees 7 (float_cmp_number c) (compare_floats c) (floats_are c) (compared_floats_good c) (λ k. refl) to x y l fx fy

  pub add_agrees : (to : ℕ) (x y : Operand) → ThreeFit to x y → Combines 8 (num to ∷ W.operand x ++ W.operand y) (Add to x y)
  unfolding execute middle_of operated
  add_agrees to x y (l, fx, fy) = beside_agrees 8 0 (arithmetic add) refl (arithmetic-good add) (λ k. refl) to x y l fx fy

  pub sub_agrees : (to : ℕ) (x y : Operand) → ThreeFit to x y → Combines 9 (num to ∷ W.operand x ++ W.operand y) (Sub to x y)
  unfolding execute middle_of operated
  sub_agrees to x y (l, fx, fy) = beside_agrees 9 0 (arithmetic sub) refl (arithmetic-good sub) (λ k. refl) to x y l fx fy

  pub mul_agrees : (to : ℕ) (x y : Operand) → ThreeFit to x y → Combines 10 (num to ∷ W.operand x ++ W.operand y) (Mul to x y)
  unfolding execute middle_of operated
  mul_agrees to x y (l, fx, fy) = beside_agrees 10 0 (arithmetic mul) refl (arithmetic-good mul) (λ k. refl) to x y l fx fy

  pub div_agrees : (to : ℕ) (signed : Bool) (x y : Operand) → ThreeFit to x y → Combines 11 (num to ∷ num (flag_number signed) ∷ W.operand x ++ W.operand y) (Div to signed x y)
  unfolding execute middle_of operated
  div_agrees to signed x y (l, fx, fy) = between_agrees 11 (flag_number signed) (arithmetic div) refl (arithmetic-good div) (λ k. refl) to x y l fx fy

  pub mod_agrees : (to : ℕ) (signed : Bool) (x y : Operand) → ThreeFit to x y → Combines 12 (num to ∷ num (flag_number signed) ∷ W.operand x ++ W.operand y) (Mod to signed x y)
  unfolding execute middle_of operated
  mod_agrees to signed x y (l, fx, fy) = between_agrees 12 (flag_number signed) (arithmetic mod') refl (arithmetic-good mod') (λ k. refl) to x y l fx fy

  pub fdiv_agrees : (to : ℕ) (x y : Operand) → ThreeFit to x y → Combines 13 (num to ∷ W.operand x ++ W.operand y) (FDiv to x y)
  unfolding execute middle_of operated
  fdiv_agrees to x y (l, fx, fy) = beside_agrees 13 0 divide_floats refl divided_good (λ k. refl) to x y l fx fy

  -- ---- 14, 15

  abbrev pub Changes : (opcode : ℕ) → List Piece → Instruction → Type 0
  Changes n fields i = (at e : ℕ) → 0 < at → Stand image at fields e → VariablesAgree s (changed_of (onward s) n image s.variables at) (execute believed P (seen s) i)

  pub not_agrees : (to : ℕ) (x : Operand) → to < 256 → Fits x → Changes 14 (num to ∷ W.operand x) (Not to x)
  unfolding execute altered
  not_agrees = change_agrees 14 notted refl notted-good

  pub negate_agrees : (to : ℕ) (x : Operand) → to < 256 → Fits x → Changes 15 (num to ∷ W.operand x) (Negate to x)
  unfolding execute altered
  negate_agrees = change_agrees 15 negated refl (λ v g. negated-good v)
