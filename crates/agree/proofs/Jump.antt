-- Jump and Switch agree with the believed machine: a label's table entry is its place, and branches are gone through one by one.
use Rattle.std.specs.Prelude.{Err}
use Prim.Native.Nat.{ℕ, ◌≤◌, ◌<◌}
use native.Mathlib.Omega.{arith}
use mathlib.Core.Bool.{not}
use mathlib.Core.Path.{◌≡◌, refl, sym, ap, ◌∙◌, subst}
use mathlib.Core.List.{List, [], ◌∷◌, ◌++◌, append_assoc}
use lib.ListN.{length, get_or}
use lib.Dec.{ltb, eqb}
use borrow.Author.Tests.{lt-ltb, eq-eqb, ne_eqb, eqb-true, eqb-false}
use Rattle.value.specs.Answer.{Answer, ok, refused, need, ◌>>=◌}
use Rattle.value.specs.Value.{Value, Kind, bool, u8, u16, u32, u64, i8, i16, i32, i64, f32, f64, char, asn, pointer, tag, switches, switch_on}
use Rattle.image.specs.Program.{Program, Operand, Branch, place_of, Jump, Switch}
use Rattle.image.specs.Written.{num, each, counted}
use Rattle.image.specs.Written as W
use Rattle.memory.specs.Tables.{State}
use Rattle.memory.specs.View.{variables_in}
use Rattle.memory.proofs.Every.{by_test}
use Rattle.machine.specs.Machine.{value_of, choose, jump, execute}
use Rattle.machine.specs.Believed.{believed}
use Rattle.image.specs.Standing.{Stand}
use Rattle.instruction.specs.Decode.{field}
use Rattle.instruction.specs.Compute.{found_of}
use Rattle.instruction.specs.Code.{either, went_of, jumped_of, key_of, branch_of, switched_of}
use Rattle.instruction.specs.declared.field.Field.{Field}
use Rattle.calls.proofs.CallAgrees.{moved-sound, moved-seen}
use Rattle.calls.proofs.VariablesAgree.{read_next}
use Rattle.agree.specs.Seen.{seen, Agrees}
use Rattle.instruction.proofs.Fields.{field-stands, operand-stands}
use Rattle.instruction.proofs.Values.{Fits, operand-found}
use Rattle.agree.proofs.Steady.{Steady, runs}
use Rattle.agree.proofs.Finish.{refusal, went-same, onward, with_variables}

-- a table of the places of a program's labels
pub record Labelled (P : Program) (labels : List ℕ) : Type 0 where
  pub room : length P.blocks ≤ length labels
  pub leads : (l : ℕ) → l < length P.blocks → get_or labels l 0 ≡ place_of P l
  pub within : (l : ℕ) → l < length P.blocks → place_of P l ≤ 4096

-- ---- branches

pub same_tests : (a b c d : ℕ) → (a ≡ b → c ≡ d) → (c ≡ d → a ≡ b) → eqb a b ≡ eqb c d
same_tests a b c d f g =
    by_test (eqb a b) (λ t. t ∙ sym (eq-eqb c d (f (eqb-true a b t)))) (λ t. t ∙ sym (ne_eqb c d (λ e. eqb-false a b t (g e))))

-- the first branch with the number is found, or the default
module _ (image : List ℕ) (bits default : ℕ) where
  chosen : (bs : List Branch) (at e : ℕ) → 0 < at → Stand image at (each W.branch bs ++ W.number default) e
      → (next : ℕ) × (branch_of image (length bs) bits at ≡ field (choose bits bs default) next) × (0 < next)
  unfolding branch_of choose
  chosen [] at e p h = let (k, e₁, p₁, h₁) = field-stands image at default [] e p h in (k, e₁, p₁)
  chosen (b ∷ bs) at e p h =
      let rest = each W.branch bs ++ W.number default in
      let (k₁, e₁, p₁, h₁) = field-stands image at b.number (num b.label ∷ rest) e p h in
      let (k₂, e₂, p₂, h₂) = field-stands image k₁ b.label rest e p₁ h₁ in
      let (k₃, e₃, p₃) = chosen bs k₂ e p₂ h₂ in
      by_test (eqb b.number bits)
      (λ t. (k₂, rw (e₁, e₂, t, same_tests bits b.number b.number bits sym sym ∙ t), p₂))
      (λ t. (k₃, rw (e₁, e₂, t, same_tests bits b.number b.number bits sym sym ∙ t) e₃, p₃))

-- every label that a Switch names is one of the program's
abbrev pub LabelsFit : Program → List Branch → Type 0
LabelsFit P [] = Unit
LabelsFit P (b ∷ bs) = (b.label < length P.blocks) × LabelsFit P bs

chosen_fits : (P : Program) (bits default : ℕ) (bs : List Branch) → LabelsFit P bs → default < length P.blocks → choose bits bs default < length P.blocks
unfolding choose
chosen_fits P bits default [] f l = l
chosen_fits P bits default (b ∷ bs) f l = by_test (eqb bits b.number) (λ t. rw t f.0) (λ t. rw t (chosen_fits P bits default bs f.1 l))

-- ---- the number that Switch looks at

key_kind : (k : Kind) → ltb (tag u32) (tag k) ≡ not (switches k)
unfolding tag
key_kind bool = refl
key_kind u8 = refl
key_kind u16 = refl
key_kind u32 = refl
key_kind u64 = refl
key_kind i8 = refl
key_kind i16 = refl
key_kind i32 = refl
key_kind i64 = refl
key_kind f32 = refl
key_kind f64 = refl
key_kind char = refl
key_kind asn = refl
key_kind pointer = refl

module _ (s : State) (st : Steady s) (image labels : List ℕ) (P : Program) (lab : Labelled P labels) where
  went_agrees : (l next : ℕ) → l < length P.blocks → 0 < next
      → Agrees s (went_of (onward s) labels (field l next)) (with_variables s s.variables) (jump believed (seen s) (place_of P l))
  unfolding went_of
  went_agrees l next f p =
      rw (ne_eqb next 0 (λ e. omega arith), lt-ltb l (length labels) (omega (arith, lab.room)))
      (record {
        same = went-same (moved-seen s.memory _ _) (eq-eqb _ 1 st.running) (lab.leads l f) refl;
        kept = runs _ _ (moved-sound s.memory _ _ st.memory) st.variables st.running (rw (lab.leads l f) (lab.within l f)) st.bytes;
      })

  pub jump_agrees : (l : ℕ) → l < length P.blocks → (at e : ℕ) → 0 < at → Stand image at (W.number l) e
      → Agrees s (jumped_of (onward s) image labels at) (with_variables s s.variables) (execute believed P (seen s) (Jump l))
  unfolding jumped_of execute
  jump_agrees l f at e p h = let (k, e₁, p₁, h₁) = field-stands image at l [] e p h in rw e₁ (went_agrees l k f p₁)

  -- what follows from the examinee
  switched : (bs : List Branch) (default : ℕ) → LabelsFit P bs → default < length P.blocks → (branch : ℕ → Field)
      → ((bits : ℕ) → (next : ℕ) × (branch bits ≡ field (choose bits bs default) next) × (0 < next)) → (a : Answer Value)
      → Agrees s (either (key_of (found_of a)) (λ n. Err n) (λ v. went_of (onward s) labels (branch v.bits)))
      (with_variables s s.variables) (a >>= λ v. switch_on v >>= λ n. jump believed (seen s) (place_of P (choose n bs default)))
  unfolding key_of switch_on need ◌>>=◌
  switched bs default f l branch reads (refused n) = refusal refl
  switched bs default f l branch reads (ok v) =
      let (next, e, p) = reads v.bits in
      by_test (switches v.kind)
      (λ t. rw (key_kind v.kind ∙ ap not t, t, e) (went_agrees (choose v.bits bs default) next (chosen_fits P v.bits default bs f l) p))
      (λ t. rw (key_kind v.kind ∙ ap not t, t) (refusal refl))

  pub switch_agrees : (x : Operand) (bs : List Branch) (default : ℕ) → Fits x → LabelsFit P bs → default < length P.blocks → (at e : ℕ) → 0 < at
      → Stand image at (W.operand x ++ counted W.branch bs ++ W.number default) e
      → Agrees s (switched_of (onward s) image labels s.variables at) (with_variables s s.variables) (execute believed P (seen s) (Switch x bs default))
  unfolding switched_of execute
  switch_agrees x bs default fx f l at e p h =
      let rest = each W.branch bs ++ W.number default in
      let h₀ = subst (λ ps. Stand image at ps e) (append_assoc (W.operand x) (counted W.branch bs) (W.number default)) h in
      let (k₁, e₁, p₁, h₁) = operand-stands image at x (num (length bs) ∷ rest) e p h₀ in
      let (k₂, e₂, p₂, h₂) = field-stands image k₁ (length bs) rest e p₁ h₁ in
      rw (e₁, read_next x k₁, e₂, operand-found s.variables st.variables x k₁ p₁ fx)
      (switched bs default f l (λ bits. branch_of image (length bs) bits k₂) (λ bits. chosen image bits default bs k₂ e p₂ h₂) (value_of (variables_in s.variables) x))
