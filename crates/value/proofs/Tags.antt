-- Tags and kinds: each kind has its tag, and a number that is no tag names no kind.
use mathlib.Core.Path.{◌≡◌, refl, sym, ap, ◌∙◌}
use mathlib.Core.Bool.{Bool, true, false}
use mathlib.Core.Option.{Option, none, some, some-injective, none-ne-some}
use Prim.Native.Nat.{ℕ}
use native.Mathlib.Omega.{arith}
use mathlib.Core.List.{List, [], ◌∷◌}
use borrow.Author.Tests.{ne_eqb, eqb-true}
use lib.Dec.{eqb}
use Rattle.std.specs.Prelude.{Some, None}
use Rattle.value.specs.Answer.{pick}
use Rattle.value.specs.Value.{Kind, IrType, kind_of, tag, bool, u8, u16, u32, u64, i8, i16, i32, i64, f32, f64, char, asn, pointer}
use Rattle.value.specs.Tags.{named, kinds, kind_at, type_of_kind, typed, type_at, holds, held}
use Rattle.value.specs.Ir.{ir_of, made, tagged}

pub kind_of_tag : (k : Kind) → kind_at (tag k) ≡ some k
unfolding tag named kind_at
kind_of_tag bool = refl
kind_of_tag u8 = refl
kind_of_tag u16 = refl
kind_of_tag u32 = refl
kind_of_tag u64 = refl
kind_of_tag i8 = refl
kind_of_tag i16 = refl
kind_of_tag i32 = refl
kind_of_tag i64 = refl
kind_of_tag f32 = refl
kind_of_tag f64 = refl
kind_of_tag char = refl
kind_of_tag asn = refl
kind_of_tag pointer = refl

-- no kind has the tag 0
pub tag-some : (k : Kind) → eqb (tag k) 0 ≡ false
unfolding tag
tag-some bool = refl
tag-some u8 = refl
tag-some u16 = refl
tag-some u32 = refl
tag-some u64 = refl
tag-some i8 = refl
tag-some i16 = refl
tag-some i32 = refl
tag-some i64 = refl
tag-some f32 = refl
tag-some f64 = refl
tag-some char = refl
tag-some asn = refl
tag-some pointer = refl

named-tag : (ks : List Kind) (n : ℕ) (k : Kind) → named ks n ≡ some k → tag k ≡ n
unfolding named
named-tag [] n k h = let z : ◌≡◌ {A = ℕ} 0 1 = cc in absurd (omega arith)
named-tag (j ∷ ks) n k h = go (eqb n (tag j)) refl h (named-tag ks n k)
  where
    go : (t : Bool) → eqb n (tag j) ≡ t → pick t (some j) (named ks n) ≡ some k → (named ks n ≡ some k → tag k ≡ n) → tag k ≡ n
    go true e h r = let i : j ≡ k = cc in ap tag (sym i) ∙ sym (eqb-true n (tag j) e)
    go false e h r = r h

pub tag_of_kind : (n : ℕ) (k : Kind) → kind_at n ≡ some k → tag k ≡ n
unfolding kind_at
tag_of_kind n k h = named-tag kinds n k h

-- two kinds with one tag are one
pub tags-equal : {j k : Kind} → tag j ≡ tag k → j ≡ k
tags-equal {j} {k} e = same_some (sym (kind_of_tag j) ∙ ap kind_at e ∙ kind_of_tag k)
  where
    same_some : some j ≡ some k → j ≡ k
    same_some e = cc

-- each type has its kind's tag, and a tag names no other type
pub type_of_tag : (t : IrType) → type_at (tag (kind_of t)) ≡ some t
unfolding kind_of typed type_of_kind
type_of_tag IrType.Boolean = ap typed (kind_of_tag bool)
type_of_tag IrType.U8 = ap typed (kind_of_tag u8)
type_of_tag IrType.U16 = ap typed (kind_of_tag u16)
type_of_tag IrType.U32 = ap typed (kind_of_tag u32)
type_of_tag IrType.U64 = ap typed (kind_of_tag u64)
type_of_tag IrType.I8 = ap typed (kind_of_tag i8)
type_of_tag IrType.I16 = ap typed (kind_of_tag i16)
type_of_tag IrType.I32 = ap typed (kind_of_tag i32)
type_of_tag IrType.I64 = ap typed (kind_of_tag i64)
type_of_tag IrType.F32 = ap typed (kind_of_tag f32)
type_of_tag IrType.F64 = ap typed (kind_of_tag f64)
type_of_tag IrType.Pointer = ap typed (kind_of_tag pointer)

kind_of_type : (k : Kind) (t : IrType) → type_of_kind k ≡ some t → kind_of t ≡ k
unfolding kind_of type_of_kind
kind_of_type bool t e = sym (ap kind_of (some-injective _ _ e))
kind_of_type u8 t e = sym (ap kind_of (some-injective _ _ e))
kind_of_type u16 t e = sym (ap kind_of (some-injective _ _ e))
kind_of_type u32 t e = sym (ap kind_of (some-injective _ _ e))
kind_of_type u64 t e = sym (ap kind_of (some-injective _ _ e))
kind_of_type i8 t e = sym (ap kind_of (some-injective _ _ e))
kind_of_type i16 t e = sym (ap kind_of (some-injective _ _ e))
kind_of_type i32 t e = sym (ap kind_of (some-injective _ _ e))
kind_of_type i64 t e = sym (ap kind_of (some-injective _ _ e))
kind_of_type f32 t e = sym (ap kind_of (some-injective _ _ e))
kind_of_type f64 t e = sym (ap kind_of (some-injective _ _ e))
kind_of_type char t e = absurd (none-ne-some t e)
kind_of_type asn t e = absurd (none-ne-some t e)
kind_of_type pointer t e = sym (ap kind_of (some-injective _ _ e))

pub tag_of_type : (n : ℕ) (t : IrType) → type_at n ≡ some t → tag (kind_of t) ≡ n
unfolding typed
tag_of_type n t e = go (kind_at n) refl e
  where
    go : (o : Option Kind) → kind_at n ≡ o → typed o ≡ some t → tag (kind_of t) ≡ n
    go none h e = absurd (none-ne-some t e)
    go (some k) h e = ap tag (kind_of_type k t e) ∙ tag_of_kind n k h

-- of a number that is k's tag
module _ (k : Kind) (b : ℕ) {n : ℕ} (e : n ≡ tag k) where
  pub held_at : held (kind_at n) b ≡ holds k b
  unfolding held
  held_at = ap (λ (m : ℕ). held (kind_at m) b) e ∙ ap (λ o. held o b) (kind_of_tag k)

  pub made_at_lem : held (kind_at n) b ≡ true → Some (ir_of k b) ≡ made (kind_at n) b
  unfolding made
  made_at_lem h = sym (ap (λ (m : ℕ). made (kind_at m) b) e ∙ ap (λ o. made o b) (kind_of_tag k) ∙ ap (λ (t : Bool). pick t (Some (ir_of k b)) None) (sym held_at ∙ h))

-- n is not k
abbrev pub No : ℕ → ℕ → Type 0
No n k = n ≡ k → ⊥

pub no_kind : (n : ℕ) → No n 1 → No n 2 → No n 3 → No n 4 → No n 5 → No n 6 → No n 7 → No n 8 → No n 9 → No n 10 → No n 11 → No n 12 → No n 13 → No n 14 → kind_at n ≡ none
unfolding tag named kind_at
no_kind n a b c d e f g h i j k l m o =
    simp (ne_eqb n 1 a, ne_eqb n 2 b, ne_eqb n 3 c, ne_eqb n 4 d, ne_eqb n 5 e, ne_eqb n 6 f, ne_eqb n 7 g, ne_eqb n 8 h, ne_eqb n 9 i, ne_eqb n 10 j, ne_eqb n 11 k, ne_eqb n 12 l, ne_eqb n 13 m, ne_eqb n 14 o)

-- a number that is none of a type's tags names no type
pub no_type : (n : ℕ) → ((((((((((((Unit {0} × No n 1) × No n 2) × No n 3) × No n 4) × No n 5) × No n 6) × No n 7) × No n 8) × No n 9) × No n 10) × No n 11) × No n 14)
    → None ≡ tagged (type_at n)
unfolding tag named kind_at type_of_kind typed tagged
no_type n r =
    simp (ne_eqb n 1 r.0.0.0.0.0.0.0.0.0.0.0.1, ne_eqb n 2 r.0.0.0.0.0.0.0.0.0.0.1, ne_eqb n 3 r.0.0.0.0.0.0.0.0.0.1, ne_eqb n 4 r.0.0.0.0.0.0.0.0.1, ne_eqb n 5 r.0.0.0.0.0.0.0.1, ne_eqb n 6 r.0.0.0.0.0.0.1, ne_eqb n 7 r.0.0.0.0.0.1, ne_eqb n 8 r.0.0.0.0.1, ne_eqb n 9 r.0.0.0.1, ne_eqb n 10 r.0.0.1, ne_eqb n 11 r.0.1, ne_eqb n 14 r.1)
    (go (eqb n 12) (eqb n 13))
  where
    go : (a b : Bool) → None ≡ tagged (typed (pick a (some char) (pick b (some asn) none)))
    go true b = refl
    go false true = refl
    go false false = refl
