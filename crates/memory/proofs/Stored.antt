-- What may be stored in a variable: nothing, as 0 and 0, or a value, as its kind's tag and bits.
use mathlib.Core.Path.{◌≡◌, refl, sym, ap, ◌∙◌}
use mathlib.Core.Bool.{Bool, true, false, not, ◌&&◌}
use mathlib.Core.Option.{Option, none, some}
use Prim.Native.Nat.{ℕ}
use lib.Dec.{eqb}
use borrow.Author.Tests.{eqb-true}
use Rattle.value.specs.Value.{Kind, bool, u8, u16, u32, u64, i8, i16, i32, i64, f32, f64, char, asn, pointer, tag, value, is_scalar, is_bad_char}
use Rattle.value.specs.Tags.{named, kind_at, holds, held}
use Rattle.value.proofs.Truth.{no}
use Rattle.value.proofs.Tags.{kind_of_tag, tag_of_kind, tag-some}
use Rattle.memory.specs.Stored.{value_in, stored_value}
use Rattle.memory.specs.Tables.{stored_ok}
use Rattle.memory.proofs.Every.{by_test}

pub data Stores (t b : ℕ) : Type 0 where
  unset : t ≡ 0 → b ≡ 0 → Stores t b
  valued : (k : Kind) → t ≡ tag k → holds k b ≡ true → Stores t b

pub stores : (t b : ℕ) → stored_ok t b ≡ true → Stores t b
unfolding stored_ok held
stores t b e = by_test (eqb t 0) (λ z. unset (eqb-true t 0 z) (eqb-true b 0 (rw z at e))) (λ z. of-kind (kind_at t) refl (rw z at e))
  where
    of-kind : (o : Option Kind) → kind_at t ≡ o → held (kind_at t) b ≡ true → Stores t b
    of-kind none q h = absurd (no (sym (ap (λ o. held o b) q) ∙ h))
    of-kind (some k) q h = valued k (sym (tag_of_kind t k q)) (sym (ap (λ o. held o b) q) ∙ h)

-- the bits of a kind may be stored with its tag, and no other
pub stored_ok_lem : (k : Kind) (b : ℕ) → stored_ok (tag k) b ≡ holds k b
unfolding stored_ok held
stored_ok_lem k b = rw (tag-some k, kind_of_tag k) refl

pub stored-value : (k : Kind) (b : ℕ) → stored_value (tag k) b ≡ some (value k b)
unfolding stored_value
stored-value k b = ap (λ o. value_in o b) (kind_of_tag k)

pub stored-none : (b : ℕ) → stored_value 0 b ≡ none
unfolding stored_value kind_at named tag
stored-none b = refl

not-not : (b : Bool) → b ≡ true → not (true && not b) ≡ true
not-not true e = refl
not-not false e = e

-- the bits of a kind make no bad Char
pub no_bad_char : (k : Kind) (b : ℕ) → holds k b ≡ true → not (is_bad_char (value k b)) ≡ true
unfolding is_bad_char holds tag
no_bad_char bool b e = refl
no_bad_char u8 b e = refl
no_bad_char u16 b e = refl
no_bad_char u32 b e = refl
no_bad_char u64 b e = refl
no_bad_char i8 b e = refl
no_bad_char i16 b e = refl
no_bad_char i32 b e = refl
no_bad_char i64 b e = refl
no_bad_char f32 b e = refl
no_bad_char f64 b e = refl
no_bad_char char b e = not-not (is_scalar b) e
no_bad_char asn b e = refl
no_bad_char pointer b e = refl
