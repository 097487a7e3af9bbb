-- A Call's variables are the believed machine's: where a part is refused, so is the believed one with the same number, and where none is, the table after shows the believed variables.
use Prim.Native.Nat.{ℕ, ◌+◌, ◌<◌, ◌≤◌}
use native.Mathlib.Omega.{arith}
use mathlib.Core.Path.{◌≡◌, refl, ap, ◌∙◌, subst}
use mathlib.Core.List.{List, [], ◌∷◌}
use mathlib.Core.Option.{Option, none, some}
use lib.ListN.{length}
use Rattle.value.specs.declared.refusal.Refusal.{Refusal}
use Rattle.value.specs.Answer.{Answer, ok, refused, ◌>>=◌}
use Rattle.value.specs.Value.{Value, value, tag, pointer}
use Rattle.image.specs.Program.{Operand, variable, literal, Slot, Function}
use Rattle.image.specs.Written.{flag_number}
use Rattle.memory.specs.View.{variables_in}
use Rattle.memory.proofs.Exists.{variable_out}
use Rattle.machine.specs.Machine.{Vars, set_to, value_of, set_from, as_variable, set_arguments}
use Rattle.machine.proofs.Values.{Keeps, kept, no_answer, Good, pointer-good}
use Rattle.instruction.specs.Decode.{field, field_at, operand_at}
use Rattle.instruction.specs.Compute.{found_of}
use Rattle.instruction.specs.Variables.{found, set_variable, read_variable, evaluated}
use Rattle.instruction.proofs.Decoded.{as_read}
use Rattle.instruction.proofs.Values.{Variables, Fits, operand-found, operand-good, variable-set, variables-kept}
use Rattle.calls.specs.Variables.{slots_pointed, found_set, arguments_set, context_set, pointer_set, context_on, pointer_on}
use Rattle.std.specs.Prelude as code
use Rattle.calls.specs.Fields.{variable_of}
use Rattle.calls.specs.declared.fields.Slot as read
use Rattle.calls.specs.declared.fields.CallFields.{CallFields}
use Rattle.calls.specs.declared.fields.Callee.{Callee}
use Rattle.calls.proofs.SlotsAgree.{SlotsRead, pointed}

-- refused with the same number, or a good table that shows the believed variables
pub data Alike : Answer (List ℕ) → Answer Vars → Type 0 where
  same-refusal : (n : Refusal) → Alike (refused n) (refused n)
  same-values : (vars : List ℕ) → Variables vars → Alike (ok vars) (ok (variables_in vars))

alike_then : {a : Answer (List ℕ)} {b : Answer Vars} (f : List ℕ → Answer (List ℕ)) (g : Vars → Answer Vars) → Alike a b
    → ((vars : List ℕ) → Variables vars → Alike (f vars) (g (variables_in vars))) → Alike (a >>= f) (b >>= g)
unfolding ◌>>=◌
alike_then f g (same-refusal n) h = same-refusal n
alike_then f g (same-values vars v) h = h vars v

-- set from a value, then the rest
then_set : (a : Answer Value) (vs : Vars) (x : ℕ) (g : Vars → Answer Vars) → (a >>= λ v. ok (set_to vs x v)) >>= g ≡ (a >>= λ v. g (set_to vs x v))
unfolding ◌>>=◌
then_set (ok v) vs x g = refl
then_set (refused n) vs x g = refl

module _ (vars : List ℕ) (good : Variables vars) where
  set_alike : (x : ℕ) → x < 256 → (a : Answer Value) → Keeps Good a → Alike (found_set vars x (found_of a)) (a >>= λ v. ok (set_to (variables_in vars) x v))
  unfolding found_set ◌>>=◌
  set_alike x l (ok v) (kept g) =
      subst (λ (vs : Vars). Alike (ok (set_variable vars x (found (tag v.kind) v.bits))) (ok vs)) (variable-set vars good x l v)
      (same-values _ (variables-kept vars good x l v g))
  set_alike x l (refused n) no_answer = same-refusal n

  operand_alike : (x : ℕ) → x < 256 → (o : Operand) (next : ℕ) → 0 < next → Fits o
      → Alike (found_set vars x (evaluated vars (as_read o next))) (value_of (variables_in vars) o >>= λ v. ok (set_to (variables_in vars) x v))
  operand_alike x l o next p f = rw (operand-found vars good o next p f) (set_alike x l (value_of (variables_in vars) o) (operand-good vars good o f))

-- ---- the callee's slots

abbrev pub SlotsFit : List Slot → Type 0
SlotsFit [] = Unit {0}
SlotsFit (x ∷ xs) = (x.var < 256) × SlotsFit xs

pub record Pointed (s : List ℕ) (xs : List Slot) (at g : ℕ) (vars : List ℕ) : Type 0 where
  pub good : Variables (slots_pointed s (length xs) at g vars)
  pub shown : variables_in (slots_pointed s (length xs) at g vars) ≡ pointed xs g (variables_in vars)

pub slots-pointed : (s : List ℕ) (xs : List Slot) (at g : ℕ) (vars : List ℕ) → Variables vars → SlotsRead s at xs → SlotsFit xs → g + length xs ≤ 4096 → Pointed s xs at g vars
unfolding slots_pointed
slots-pointed s [] at g vars good r f l = record { good = good; shown = refl }
slots-pointed s (x ∷ xs) at g vars good (next, r, rs) (f, fs) l =
    let set_first = set_variable vars x.var (found (tag pointer) g) in
    let here = variables-kept vars good x.var f (value pointer g) (pointer-good g (omega arith)) in
    let rest = slots-pointed s xs next (g + 1) set_first here rs fs (omega arith) in
    let first : slots_pointed s (length (x ∷ xs)) at g vars ≡ slots_pointed s (length xs) next (g + 1) set_first =
    ap (λ (y : read.Slot). slots_pointed s (length xs) y.next (g + 1) (set_variable vars y.variable (found (tag pointer) g))) r in
    record {
      good = rw first rest.good;
      shown = ap variables_in first ∙ rest.shown ∙ ap (pointed xs (g + 1)) (variable-set vars good x.var f (value pointer g));
    }

-- ---- the arguments

abbrev pub ParametersRead : (image : List ℕ) (at : ℕ) → List ℕ → Type 0
ParametersRead s at [] = Unit {0}
ParametersRead s at (x ∷ xs) = (next : ℕ) × (field_at s at ≡ field x next) × ParametersRead s next xs

abbrev pub ParametersFit : List ℕ → Type 0
ParametersFit [] = Unit {0}
ParametersFit (x ∷ xs) = (x < 256) × ParametersFit xs

-- an operand that is read at this place, and the place after it
abbrev pub OperandRead : (image : List ℕ) (at : ℕ) → Operand → (next : ℕ) → Type 0
OperandRead s at o next = (operand_at s at ≡ as_read o next) × (0 < next)

abbrev pub OperandsRead : (image : List ℕ) (at : ℕ) → List Operand → Type 0
OperandsRead s at [] = Unit {0}
OperandsRead s at (o ∷ os) = (next : ℕ) × OperandRead s at o next × OperandsRead s next os

abbrev pub OperandsFit : List Operand → Type 0
OperandsFit [] = Unit {0}
OperandsFit (o ∷ os) = Fits o × OperandsFit os

pub read_next : (o : Operand) (next : ℕ) → (as_read o next).next ≡ next
read_next (variable x) next = refl
read_next (literal v) next = refl

arguments_alike : (s : List ℕ) (xs : List ℕ) (os : List Operand) (p a : ℕ) (vars : List ℕ) → Variables vars → ParametersRead s p xs → ParametersFit xs → OperandsRead s a os → OperandsFit os
    → Alike (arguments_set s (length xs) p (length os) a vars) (set_arguments (variables_in vars) xs os)
unfolding arguments_set set_arguments
arguments_alike s [] os p a vars good r f q h = same-values vars good
arguments_alike s (x ∷ xs) [] p a vars good r f q h = same-values vars good
arguments_alike s (x ∷ xs) (o ∷ os) p a vars good (next, r, rs) (f, fs) (after, q, qs) (h, hs) =
    subst (λ (b : Answer Vars). Alike (arguments_set s (length (x ∷ xs)) p (length (o ∷ os)) a vars) b)
    (then_set (value_of (variables_in vars) o) (variables_in vars) x (λ vs. set_arguments vs xs os))
    (rw (r, q.0, read_next o after)
    (alike_then (λ vs. arguments_set s (length xs) next (length os) after vs) (λ vs. set_arguments vs xs os)
    (operand_alike vars good x f o after q.1 h)
    (λ vs v. arguments_alike s xs os next after vs v rs fs qs hs)))

-- ---- the return pointer and the context

abbrev pub VariableFits : Option ℕ → Type 0
VariableFits none = Unit {0}
VariableFits (some x) = x < 256

abbrev pub ContextRead : (image : List ℕ) (at : code.Option ℕ) → Option Operand → Type 0
ContextRead s at none = at ≡ code.None
ContextRead s at (some o) = (start : ℕ) × (at ≡ code.Some start) × ((next : ℕ) × OperandRead s start o next)

abbrev pub ContextFits : Option Operand → Type 0
ContextFits none = Unit {0}
ContextFits (some o) = Fits o

module _ (s : List ℕ) (call : CallFields) (f : Callee) (vars : List ℕ) (good : Variables vars) (x : ℕ) (l : x < 256) where
  context_alike : (c : Option Operand) → f.context ≡ x → ContextRead s call.context c → ContextFits c → Alike (context_set s call f vars) (set_from (variables_in vars) x c)
  unfolding context_set set_from
  context_alike none d e h = rw e (same-values vars good)
  context_alike (some o) d (start, e, (next, r)) h = rw (d, e, r.0) (operand_alike vars good x l o next r.1 h)

  variable_alike : (y : ℕ) → y < 256 → Alike (found_set vars x (read_variable vars y)) (value_of (variables_in vars) (variable y) >>= λ v. ok (set_to (variables_in vars) x v))
  unfolding evaluated
  variable_alike y h = operand_alike vars good x l (variable y) 1 (omega arith) h

  pointer_alike : (p : Option ℕ) → f.result ≡ x → call.pointer ≡ variable_of (variable_out p) → VariableFits p → Alike (pointer_set call f vars) (set_from (variables_in vars) x (as_variable p))
  unfolding pointer_set set_from as_variable
  pointer_alike none d e h = rw e (same-values vars good)
  pointer_alike (some y) d e h = rw (d, e) (variable_alike y h)

-- ---- all that follows the slots

-- a Call's fields, as the believed machine takes them
pub record Calling : Type 0 where
  pub to : Option ℕ
  pub context : Option Operand
  pub function : ℕ
  pub arguments : List Operand
  pub returns : Option ℕ

-- what the believed machine makes of the variables after the slots
abbrev pub believed_rest : Function → Calling → Vars → Answer Vars
believed_rest F c vs = do
  vs₂ ← set_from vs F.return_var (as_variable c.returns)
  vs₃ ← set_from vs₂ F.context_var c.context
  set_arguments vs₃ F.parameters c.arguments

-- a callee that is read as this function
pub record CalleeRead (s : List ℕ) (f : Callee) (F : Function) : Type 0 where
  pub entry : f.entry ≡ F.entry
  pub result : f.result ≡ F.return_var
  pub context : f.context ≡ F.context_var
  pub flag : f.flag ≡ flag_number F.return_pointer
  pub wanted : f.wanted ≡ length F.parameters
  pub parameters : ParametersRead s f.parameters F.parameters
  pub count : f.count ≡ length F.slots
  pub slots : SlotsRead s f.slots F.slots
  pub there : f.slots ≡ 0 → ⊥

-- what the loader promises of it: its variables are among the 256
pub record FunctionFits (F : Function) : Type 0 where
  pub result : F.return_var < 256
  pub context : F.context_var < 256
  pub parameters : ParametersFit F.parameters
  pub slots : SlotsFit F.slots

-- a Call that is read with these fields
pub record CallRead (s : List ℕ) (call : CallFields) (c : Calling) : Type 0 where
  pub to : call.to ≡ variable_out c.to
  pub context : ContextRead s call.context c.context
  pub callee : call.callee ≡ c.function
  pub given : call.given ≡ length c.arguments
  pub arguments : OperandsRead s call.arguments c.arguments
  pub returns : call.pointer ≡ variable_of (variable_out c.returns)
  pub there : call.next ≡ 0 → ⊥

pub record CallFits (c : Calling) : Type 0 where
  pub to : VariableFits c.to
  pub context : ContextFits c.context
  pub arguments : OperandsFit c.arguments
  pub returns : VariableFits c.returns

module _ (s : List ℕ) (call : CallFields) (f : Callee) (F : Function) (c : Calling) (callee : CalleeRead s f F) (inside : FunctionFits F) (read : CallRead s call c) (fits : CallFits c) where
  context_rest : (vars : List ℕ) → Variables vars → Alike (context_on s call f vars) (set_from (variables_in vars) F.context_var c.context >>= λ vs. set_arguments vs F.parameters c.arguments)
  unfolding context_on
  context_rest vars good =
      alike_then _ _
      (context_alike s call f vars good F.context_var inside.context c.context callee.context read.context fits.context)
      (λ vs v. rw (callee.wanted, read.given)
      (arguments_alike s F.parameters c.arguments f.parameters call.arguments vs v callee.parameters inside.parameters read.arguments fits.arguments))

  pub rest_alike : (vars : List ℕ) → Variables vars → Alike (pointer_on s call f vars) (believed_rest F c (variables_in vars))
  unfolding pointer_on
  rest_alike vars good =
      alike_then _ _
      (pointer_alike s call f vars good F.return_var inside.result c.returns callee.result read.returns fits.returns)
      (λ vs v. context_rest vs v)
