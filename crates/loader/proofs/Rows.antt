-- Where each operand and each instruction ends: by the number that chooses its form.
use Rattle.std.specs.Prelude.{Result, Ok, Err}
use Prim.Native.Nat.{ℕ, zero, suc, ◌≤◌, ◌<◌}
use native.Mathlib.Omega.{arith}
use native.Mathlib.Decide.{ℕ_discrete}
use mathlib.Core.Bool.{true, false}
use mathlib.Core.Path.{◌≡◌, refl, sym, ap, ◌∙◌}
use mathlib.Core.List.{List, [], ◌∷◌, map}
use mathlib.Core.Option.{none, some}
use mathlib.Core.Logic.{◌⊎◌, inl, inr}
use lib.ListN.{length, get_or, get_or-eq_default}
use borrow.Author.Tests.{ne_eqb}
use Rattle.value.specs.declared.refusal.Refusal.{Refusal}
use Rattle.value.specs.Refusal.{unknown}
use Rattle.value.specs.Value.{Kind, tag, IntCmp, FloatCmp}
use Rattle.value.specs.Tags.{named, kind_at, holds, held, int_cmp_at, float_cmp_at}
use Rattle.value.proofs.Tags.{no_kind}
use Rattle.image.specs.Parse.{took, refused, Field, one, three, four}
use Rattle.image.specs.Number.{number}
use Rattle.image.specs.Fields.{such, below, listed, known, optional, list_of, bytes}
use Rattle.image.specs.Image.{Counts, literal_of, u32, size, type, var, label, constant, callee, form, operand, slot, branch, declared, table, instruction}
use Rattle.image.specs.Program.{Operand, Instruction, IntCmp', FloatCmp', Add, Sub, Mul, Div, Mod, FDiv}
use Rattle.image.specs.Answer.{stop, shape, walk, is_type}
use Rattle.image.specs.declared.number.Stop.{Stop}
use Rattle.image.proofs.Laws.{walk-map, walk-two, walk-three, walk-four, walk-five}
use Rattle.image.proofs.Shapes.{known-below, known-type, chosen, chosen_none, chosen-refused, such-same}

-- an opcode that is none of the smaller ones
pub beyond_7 : (v : ℕ) → (v ≡ 0 → ⊥) → (v ≡ 1 → ⊥) → ((v ≡ 2) ⊎ (v ≡ 19) → ⊥) → (v ≡ 3 → ⊥) → (v ≡ 4 → ⊥) → (v ≡ 5 → ⊥) → (v ≡ 6 → ⊥) → (v ≡ 7 → ⊥) → 8 ≤ v
beyond_7 zero a b c d e f g h = absurd (a refl)
beyond_7 (suc zero) a b c d e f g h = absurd (b refl)
beyond_7 (suc (suc zero)) a b c d e f g h = absurd (c (inl refl))
beyond_7 (suc (suc (suc zero))) a b c d e f g h = absurd (d refl)
beyond_7 (suc (suc (suc (suc zero)))) a b c d e f g h = absurd (e refl)
beyond_7 (suc (suc (suc (suc (suc zero))))) a b c d e f g h = absurd (f refl)
beyond_7 (suc (suc (suc (suc (suc (suc zero)))))) a b c d e f g h = absurd (g refl)
beyond_7 (suc (suc (suc (suc (suc (suc (suc zero))))))) a b c d e f g h = absurd (h refl)
beyond_7 (suc (suc (suc (suc (suc (suc (suc (suc w)))))))) a b c d e f g h = omega arith

pub beyond_21 : (v : ℕ) → 15 < v → ((v ≡ 2) ⊎ (v ≡ 19) → ⊥) → (v ≡ 16 → ⊥) → (v ≡ 17 → ⊥) → (v ≡ 18 → ⊥) → (v ≡ 20 → ⊥) → (v ≡ 21 → ⊥) → 22 ≤ v
beyond_21 v lo f a b d g h = let k : v ≡ 19 → ⊥ = λ e. f (inr e) in omega arith

-- ---- fields of two parts, and a type

pub type_walk : (s : List ℕ) (at : ℕ) → shape (type s at) ≡ shape (such s is_type unknown at)
unfolding type
type_walk s at = known-type s (Ok at)

module _ (s : List ℕ) (n : Counts) (at : ℕ) where
  pub slot_walk : shape (slot s n at) ≡ walk (size s) (shape (var s n at))
  unfolding slot
  slot_walk = walk-two _ (var s n) (size s) (Ok at)

  pub branch_walk : shape (branch s n at) ≡ walk (label s n) (shape (number s at))
  unfolding branch
  branch_walk = walk-two _ (number s) (label s n) (Ok at)

  pub declared_walk : shape (declared s n at) ≡ walk (type s) (shape (var s n at))
  unfolding declared
  declared_walk = walk-two _ (var s n) (type s) (Ok at)

-- ---- operands and instructions

literal-walk : (s : List ℕ) (k : Kind) (c : Result ℕ Stop) → walk (literal_of s k) c ≡ walk (such s (holds k) unknown) c
unfolding literal_of
literal-walk s k c = walk-map _ (such s (holds k) unknown) c

-- a tag from 1 to 14 is a kind's
kind_there : (v : ℕ) → 1 ≤ v → v ≤ 14 → (k : Kind) × (kind_at v ≡ some k)
unfolding kind_at named tag
kind_there zero lo hi = absurd (omega arith)
kind_there (suc zero) lo hi = (Kind.bool, refl)
kind_there (suc (suc zero)) lo hi = (Kind.u8, refl)
kind_there (suc (suc (suc zero))) lo hi = (Kind.u16, refl)
kind_there (suc (suc (suc (suc zero)))) lo hi = (Kind.u32, refl)
kind_there (suc (suc (suc (suc (suc zero))))) lo hi = (Kind.u64, refl)
kind_there (suc (suc (suc (suc (suc (suc zero)))))) lo hi = (Kind.i8, refl)
kind_there (suc (suc (suc (suc (suc (suc (suc zero))))))) lo hi = (Kind.i16, refl)
kind_there (suc (suc (suc (suc (suc (suc (suc (suc zero)))))))) lo hi = (Kind.i32, refl)
kind_there (suc (suc (suc (suc (suc (suc (suc (suc (suc zero))))))))) lo hi = (Kind.i64, refl)
kind_there (suc (suc (suc (suc (suc (suc (suc (suc (suc (suc zero)))))))))) lo hi = (Kind.f32, refl)
kind_there (suc (suc (suc (suc (suc (suc (suc (suc (suc (suc (suc zero))))))))))) lo hi = (Kind.f64, refl)
kind_there (suc (suc (suc (suc (suc (suc (suc (suc (suc (suc (suc (suc zero)))))))))))) lo hi = (Kind.char, refl)
kind_there (suc (suc (suc (suc (suc (suc (suc (suc (suc (suc (suc (suc (suc zero))))))))))))) lo hi = (Kind.asn, refl)
kind_there (suc (suc (suc (suc (suc (suc (suc (suc (suc (suc (suc (suc (suc (suc zero)))))))))))))) lo hi = (Kind.pointer, refl)
kind_there (suc (suc (suc (suc (suc (suc (suc (suc (suc (suc (suc (suc (suc (suc (suc w))))))))))))))) lo hi = absurd (omega arith)

-- a tag or an opcode that was refused
module _ (s : List ℕ) (n : Counts) (at : ℕ) {k : Refusal} {q : ℕ} (read : number s at ≡ refused k q) where
  pub operand_refused : shape (operand s n at) ≡ Err (stop k q)
  unfolding operand
  operand_refused = chosen-refused s (form s n) at read

  pub instruction_refused : shape (instruction s n at) ≡ Err (stop k q)
  unfolding instruction
  instruction_refused = chosen-refused s (listed (table s n)) at read

-- an operand whose tag is v
module _ (s : List ℕ) (n : Counts) (at : ℕ) {v next : ℕ} (read : number s at ≡ took v next) where
  formed : (row : Field Operand) → form s n v ≡ some row → shape (operand s n at) ≡ walk row (Ok next)
  unfolding operand
  formed row h = chosen s (form s n) at read row h

  pub variable_form : v ≡ 0 → shape (operand s n at) ≡ shape (var s n next)
  variable_form h = formed (one Operand.variable (var s n)) (ap (form s n) h) ∙ walk-map _ (var s n) (Ok next)

  pub literal_form : 1 ≤ v → v ≤ 14 → shape (operand s n at) ≡ shape (such s (held (kind_at v)) unknown next)
  unfolding held
  literal_form lo hi =
      let (k, is) = kind_there v lo hi in
      let named : form s n v ≡ some (literal_of s k) = rw (ne_eqb v 0 (λ z. omega arith), is) in
      formed (literal_of s k) named ∙ literal-walk s k (Ok next)
      ∙ such-same s (holds k) (held (kind_at v)) unknown (λ b. sym (ap (λ o. held o b) is)) (Ok next)

  pub no_form : 14 < v → shape (operand s n at) ≡ Err (stop unknown at)
  unfolding operand
  no_form h =
      let nothing : form s n v ≡ none = rw (ne_eqb v 0 (λ z. omega arith), no_kind v (λ z. omega arith) (λ z. omega arith) (λ z. omega arith) (λ z. omega arith) (λ z. omega arith) (λ z. omega arith) (λ z. omega arith) (λ z. omega arith) (λ z. omega arith) (λ z. omega arith) (λ z. omega arith) (λ z. omega arith) (λ z. omega arith) (λ z. omega arith)) in
      chosen_none s (form s n) at read nothing

-- an instruction whose opcode is v: its row's fields, one after another
module _ (s : List ℕ) (n : Counts) (at : ℕ) {v next : ℕ} (read : number s at ≡ took v next) where
  row : (k : ℕ) (r : Field Instruction) → get_or (table s n) k none ≡ some r → v ≡ k → shape (instruction s n at) ≡ walk r (Ok next)
  unfolding instruction
  row k r h is = chosen s (listed (table s n)) at read r (ap (λ (k : ℕ). get_or (table s n) k none) is ∙ h)

  pub jump-row : v ≡ 0 → shape (instruction s n at) ≡ walk (label s n) (Ok next)
  unfolding table
  jump-row h = row 0 _ refl h ∙ walk-map _ (label s n) (Ok next)

  pub switch_row : v ≡ 1 → shape (instruction s n at) ≡ walk (label s n) (walk (list_of s 64 (branch s n)) (walk (operand s n) (Ok next)))
  unfolding table
  switch_row h = row 1 _ refl h ∙ walk-three _ (operand s n) (list_of s 64 (branch s n)) (label s n) (Ok next)

  pub typed-row : (v ≡ 2) ⊎ (v ≡ 19) → shape (instruction s n at) ≡ walk (type s) (walk (operand s n) (walk (var s n) (Ok next)))
  unfolding table
  typed-row (inl h) = row 2 _ refl h ∙ walk-three _ (var s n) (operand s n) (type s) (Ok next)
  typed-row (inr h) = row 19 _ refl h ∙ walk-three _ (var s n) (operand s n) (type s) (Ok next)

  pub constant_address_row : v ≡ 3 → shape (instruction s n at) ≡ walk (constant s n) (walk (var s n) (Ok next))
  unfolding table
  constant_address_row h = row 3 _ refl h ∙ walk-two _ (var s n) (constant s n) (Ok next)

  pub call-row : v ≡ 4 → shape (instruction s n at)
      ≡ walk (optional s (var s n)) (walk (list_of s 16 (operand s n)) (walk (callee s n) (walk (optional s (operand s n)) (walk (optional s (declared s n)) (Ok next)))))
  unfolding table
  call-row h = row 4 _ refl h ∙ walk-five _ (optional s (declared s n)) (optional s (operand s n)) (callee s n) (list_of s 16 (operand s n)) (optional s (var s n)) (Ok next)

  pub return-row : v ≡ 5 → shape (instruction s n at) ≡ walk (optional s (operand s n)) (Ok next)
  unfolding table
  return-row h = row 5 _ refl h ∙ walk-map _ (optional s (operand s n)) (Ok next)

  -- to, one of a list of items, two operands
  chosen_row : {A : Type 0} (k : ℕ) (f : ℕ → A → Operand → Operand → Instruction) (items : List A)
      → get_or (table s n) k none ≡ some (four f (var s n) (known s (listed (map some items))) (operand s n) (operand s n)) → v ≡ k
      → shape (instruction s n at) ≡ walk (operand s n) (walk (operand s n) (walk (below s (length items) unknown) (walk (var s n) (Ok next))))
  chosen_row k f items h is =
      row k _ h is ∙ walk-four f (var s n) (known s (listed (map some items))) (operand s n) (operand s n) (Ok next)
      ∙ ap (λ (d : Result ℕ Stop). walk (operand s n) (walk (operand s n) d)) (known-below s items (walk (var s n) (Ok next)))

  pub int_cmp_row : v ≡ 6 → shape (instruction s n at) ≡ walk (operand s n) (walk (operand s n) (walk (below s 10 unknown) (walk (var s n) (Ok next))))
  unfolding table int_cmp_at
  int_cmp_row h =
      chosen_row 6 (λ t i a b. IntCmp' t i a b) (IntCmp.Eq ∷ IntCmp.Ne ∷ IntCmp.ULt ∷ IntCmp.ULe ∷ IntCmp.UGt ∷ IntCmp.UGe ∷ IntCmp.SLt ∷ IntCmp.SLe ∷ IntCmp.SGt ∷ IntCmp.SGe ∷ []) refl h

  pub float_cmp_row : v ≡ 7 → shape (instruction s n at) ≡ walk (operand s n) (walk (operand s n) (walk (below s 6 unknown) (walk (var s n) (Ok next))))
  unfolding table float_cmp_at
  float_cmp_row h =
      chosen_row 7 (λ t i a b. FloatCmp' t i a b) (FloatCmp.FEq ∷ FloatCmp.FNe ∷ FloatCmp.FLt ∷ FloatCmp.FLe ∷ FloatCmp.FGt ∷ FloatCmp.FGe ∷ []) refl h

  pub division_row : 11 ≤ v → v ≤ 12 → shape (instruction s n at) ≡ walk (operand s n) (walk (operand s n) (walk (below s 2 unknown) (walk (var s n) (Ok next))))
  unfolding table
  division_row lo hi =
      elim (ℕ_discrete v 11) [
        | yes h ↦ chosen_row 11 (λ t i a b. Div t i a b) (false ∷ true ∷ []) refl h
        | no h ↦ chosen_row 12 (λ t i a b. Mod t i a b) (false ∷ true ∷ []) refl (omega arith)
      ]

  three-row : (k : ℕ) (f : ℕ → Operand → Operand → Instruction) → get_or (table s n) k none ≡ some (three f (var s n) (operand s n) (operand s n)) → v ≡ k
      → shape (instruction s n at) ≡ walk (operand s n) (walk (operand s n) (walk (var s n) (Ok next)))
  three-row k f h is = row k _ h is ∙ walk-three f (var s n) (operand s n) (operand s n) (Ok next)

  pub integer-row : 8 ≤ v → v < 11 → shape (instruction s n at) ≡ walk (operand s n) (walk (operand s n) (walk (var s n) (Ok next)))
  unfolding table
  integer-row lo hi =
      elim (ℕ_discrete v 8) [
        | yes h ↦ three-row 8 (λ t a b. Add t a b) refl h
        | no g ↦ elim (ℕ_discrete v 9) [
          | yes h ↦ three-row 9 (λ t a b. Sub t a b) refl h
          | no h ↦ three-row 10 (λ t a b. Mul t a b) refl (omega arith)
        ]
      ]

  pub float_row : v ≡ 13 → shape (instruction s n at) ≡ walk (operand s n) (walk (operand s n) (walk (var s n) (Ok next)))
  unfolding table
  float_row h = three-row 13 (λ t a b. FDiv t a b) refl h

  pub two-row : 14 ≤ v → v < 16 → shape (instruction s n at) ≡ walk (operand s n) (walk (var s n) (Ok next))
  unfolding table
  two-row lo hi =
      elim (ℕ_discrete v 14) [
        | yes h ↦ row 14 _ refl h ∙ walk-two _ (var s n) (operand s n) (Ok next)
        | no h ↦ row 15 _ refl (omega arith) ∙ walk-two _ (var s n) (operand s n) (Ok next)
      ]

  pub offset-row : v ≡ 16 → shape (instruction s n at) ≡ walk (u32 s) (walk (operand s n) (walk (var s n) (Ok next)))
  unfolding table
  offset-row h = row 16 _ refl h ∙ walk-three _ (var s n) (operand s n) (u32 s) (Ok next)

  pub initialize_row : v ≡ 17 → shape (instruction s n at) ≡ walk (bytes s 256) (walk (size s) (walk (var s n) (Ok next)))
  unfolding table
  initialize_row h = row 17 _ refl h ∙ walk-three _ (var s n) (size s) (bytes s 256) (Ok next)

  pub write-row : v ≡ 18 → shape (instruction s n at) ≡ walk (operand s n) (walk (operand s n) (Ok next))
  unfolding table
  write-row h = row 18 _ refl h ∙ walk-two _ (operand s n) (operand s n) (Ok next)

  pub copy_row : v ≡ 20 → shape (instruction s n at) ≡ walk (u32 s) (walk (operand s n) (walk (operand s n) (Ok next)))
  unfolding table
  copy_row h = row 20 _ refl h ∙ walk-three _ (operand s n) (operand s n) (u32 s) (Ok next)

  pub drop-row : v ≡ 21 → shape (instruction s n at) ≡ walk (operand s n) (Ok next)
  unfolding table
  drop-row h = row 21 _ refl h ∙ walk-map _ (operand s n) (Ok next)

  pub no_row : 22 ≤ v → shape (instruction s n at) ≡ Err (stop unknown at)
  unfolding instruction table
  no_row h = chosen_none s (listed (table s n)) at read (get_or-eq_default (table s n) none {n = v} (omega arith))
