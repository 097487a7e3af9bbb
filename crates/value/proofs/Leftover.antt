-- The last arm of a match on a value: a test of kinds that fails for each kind left over fails for the value's.
use mathlib.Core.Path.{◌≡◌, refl, ap, ◌∙◌}
use mathlib.Core.Bool as B
use mathlib.Core.Bool.{true, false, not, cond, ◌&&◌}
use mathlib.Core.List.{List, [], ◌∷◌}
use mathlib.Core.Logic.{⊎_elim}
use Prim.Native.Nat.{ℕ}
use denote.Enum.Declared.{tag_of}
use lib.Dec.{T}
use lib.ListN.{get_or}
use mir.Val.{has_key}
use types.Run.{OneOf}
use Rattle.value.specs.Value.{Kind, bool}
use Rattle.value.specs.Tags.{kinds}
use Rattle.value.specs.Ir.{value_of}
use Rattle.value.specs.declared.IrValue.{IrValue}
use Rattle.value.specs.declared.IrValue.TheVariants.{Bool, U8, U16, U32, U64, I8, I16, I32, I64, F32, F64, Char, Asn, Pointer}
use Rattle.value.specs.contracts.IrValue.{the_type}

abbrev kind_at : ℕ → Kind
kind_at n = get_or kinds n bool

kind-is : (v : IrValue) → (value_of v).kind ≡ kind_at (tag_of the_type v)
unfolding value_of
kind-is (Bool x) = refl
kind-is (U8 x) = refl
kind-is (U16 x) = refl
kind-is (U32 x) = refl
kind-is (U64 x) = refl
kind-is (I8 x) = refl
kind-is (I16 x) = refl
kind-is (I32 x) = refl
kind-is (I64 x) = refl
kind-is (F32 x) = refl
kind-is (F64 x) = refl
kind-is (Char x) = refl
kind-is (Asn x) = refl
kind-is (Pointer x) = refl

-- the variants, counted from 0, that no arm names
abbrev kept : (ℕ → B.Bool) → List ℕ → List ℕ
kept f [] = []
kept f (n ∷ ns) = cond (f n) (n ∷ kept f ns) (kept f ns)

abbrev pub rest : List ℕ → List ℕ
rest named = kept (λ (n : ℕ). not (has_key named n)) (0 ∷ 1 ∷ 2 ∷ 3 ∷ 4 ∷ 5 ∷ 6 ∷ 7 ∷ 8 ∷ 9 ∷ 10 ∷ 11 ∷ 12 ∷ 13 ∷ [])

-- the test fails for each kind of the list
abbrev pub fails : (Kind → B.Bool) → List ℕ → B.Bool
fails f [] = true
fails f (n ∷ ns) = not (f (kind_at n)) && fails f ns

first : (a b : B.Bool) → T (not a && b) → a ≡ false
first true b h = absurd h
first false b h = refl

later : (a b : B.Bool) → T (not a && b) → T b
later true b h = absurd h
later false b h = h

none-at : (f : Kind → B.Bool) (ks : List ℕ) (n : ℕ) → T (fails f ks) → OneOf ks n → f (kind_at n) ≡ false
none-at f [] n h o = absurd o
none-at f (k ∷ []) n h o = ap (λ (m : ℕ). f (kind_at m)) o ∙ first (f (kind_at k)) true h
none-at f (k ∷ l ∷ ks) n h o =
    ⊎_elim (λ e. ap (λ (m : ℕ). f (kind_at m)) e ∙ first (f (kind_at k)) (fails f (l ∷ ks)) h) (λ p. none-at f (l ∷ ks) n (later (f (kind_at k)) (fails f (l ∷ ks)) h) p) o

pub left_over_lem : (f : Kind → B.Bool) (ks : List ℕ) (v : IrValue) → T (fails f ks) → OneOf ks (tag_of the_type v) → f (value_of v).kind ≡ false
left_over_lem f ks v h o = ap f (kind-is v) ∙ none-at f ks (tag_of the_type v) h o
