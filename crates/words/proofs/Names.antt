-- The table of names; that of the largest bits, by a test of each that is computed; and the names there and back.
use Prim.Native.Nat.{ℕ, suc, ◌+◌, ◌-◌, ◌<◌, ◌≤◌}
use native.Mathlib.Numerals.{add-one}
use native.Mathlib.Omega.{arith}
use mathlib.Core.Bool.{Bool, true, false, ◌||◌}
use mathlib.Core.Path.{◌≡◌, refl, sym, ap, ◌∙◌}
use mathlib.Core.List.{List, [], ◌∷◌}
use lib.ListN.{length, get_or, drop, get_or-eq_default, drop_of_length-le}
use lib.Seq.{drop-cons}
use lib.Dec.{leb, eqb, leb-suc-suc}
use borrow.Author.Tests.{eqb-true, le-ltb, ne_eqb}
use Rattle.std.specs.Prelude.{Option, Some, None}
use Rattle.value.specs.Answer.{pick}
use Rattle.value.specs.Value.{Kind, bool, u8, u16, u32, u64, i8, i16, i32, i64, f32, f64, char, asn, pointer, tag, size}
use Rattle.value.specs.Bytes.{same_bytes}
use Rattle.words.specs.Kinds.{name, names, name_of, kind_from, kind_read, limit_of, limits, fits}
use Rattle.words.proofs.Parting.{same-is}
use Rattle.words.proofs.Table.{every, entry}

pub names-count : length names ≡ 15
unfolding names
names-count = refl

pub no_name : (t : ℕ) → 14 < t → [] ≡ name_of t
unfolding name_of
no_name t h = sym (get_or-eq_default names [] {n = t} (omega (arith, names-count)))

-- ---- a search of the names

module _ (w : List ℕ) (t : ℕ) (h : t < 15) where
  here : kind_from w t (drop t names) ≡ pick (same_bytes w (name_of t)) (Some t) (kind_from w (t + 1) (drop (t + 1) names))
  unfolding kind_from name_of
  here =
      ap (kind_from w t) (drop-cons names t [] (omega (arith, names-count)))
      ∙ ap (λ (k : ℕ). pick (same_bytes w (get_or names t [])) (Some t) (kind_from w k (drop k names))) (sym (add-one t))

  pub named : {whole : Option ℕ} → same_bytes w (name_of t) ≡ true → kind_from w t (drop t names) ≡ whole → Some t ≡ whole
  named s e = sym (here ∙ rw s) ∙ e

  pub not_named : {whole : Option ℕ} → same_bytes w (name_of t) ≡ false → kind_from w t (drop t names) ≡ whole → kind_from w (t + 1) (drop (t + 1) names) ≡ whole
  not_named s e = sym (here ∙ rw s) ∙ e

pub none_named : (w : List ℕ) (t : ℕ) {whole : Option ℕ} → 15 ≤ t → kind_from w t (drop t names) ≡ whole → None ≡ whole
unfolding kind_from
none_named w t h e = ap (kind_from w t) (sym (drop_of_length-le names {i = t} (omega (arith, names-count)))) ∙ e

-- ---- the largest bits

unfoldable pub most : List ℕ
most =
    0 ∷ 1 ∷ 255 ∷ 65535 ∷ 4294967295 ∷ 18446744073709551615 ∷ 255 ∷ 65535 ∷ 4294967295 ∷ 18446744073709551615 ∷ 4294967295 ∷ 18446744073709551615 ∷ 4294967295
    ∷ 4294967295 ∷ 18446744073709551615 ∷ []

most_test : ℕ → ℕ → Bool
most_test t m = eqb t 0 || eqb (suc m) (get_or limits t 0)

most_pass : every most_test 0 most ≡ true
unfolding most_test most limits limit_of tag size
most_pass = refl

module _ (t b : ℕ) where
  pub no_kind : t ≡ 0 → false ≡ fits t b
  unfolding fits limits
  no_kind e = rw (e, le-ltb b 0 (omega arith))

  pub no_such_kind : 14 < t → false ≡ fits t b
  unfolding fits limits
  no_such_kind h = rw (get_or-eq_default limits 0 {n = t} (omega arith), le-ltb b 0 (omega arith))

  pub bits_fit : (t ≡ 0 → ⊥) → t ≤ 14 → leb b (get_or most t 0) ≡ fits t b
  unfolding fits most_test most
  bits_fit h g =
      let p : (eqb t 0 || eqb (suc (get_or most t 0)) (get_or limits t 0)) ≡ true = entry most_test 0 most most_pass t (omega arith) in
      let q : eqb (suc (get_or most t 0)) (get_or limits t 0) ≡ true = rw (ne_eqb t 0 h) at p in
      sym (leb-suc-suc b (get_or most t 0)) ∙ ap (leb (suc b)) (eqb-true (suc (get_or most t 0)) (get_or limits t 0) q)

-- ---- there and back

-- whether a word was read as this number
says : ℕ → Option ℕ → Bool
says t (Some n) = eqb n t
says t None = false

said : (t : ℕ) (r : Option ℕ) → says t r ≡ true → r ≡ Some t
unfolding says
said t (Some n) e = ap Some (eqb-true n t e)
said t None e = let z : ◌≡◌ {A = ℕ} 0 1 = cc in absurd (omega arith)

name_test : ℕ → List ℕ → Bool
name_test t n = eqb t 0 || says t (kind_read n)

names_pass : every name_test 0 names ≡ true
unfolding name_test says kind_read kind_from names name same_bytes
names_pass = refl

-- a name that was written is read as its tag
pub there : (t : ℕ) → 0 < t → t < 15 → kind_read (name_of t) ≡ Some t
unfolding name_test name_of
there t p h =
    let b : (eqb t 0 || says t (kind_read (get_or names t []))) ≡ true = entry name_test [] names names_pass t (omega (arith, names-count)) in
    said t (kind_read (get_or names t [])) (rw (ne_eqb t 0 (λ e. omega arith)) at b)

from_names : (w : List ℕ) (i : ℕ) (ns : List (List ℕ)) (t : ℕ) → kind_from w i ns ≡ Some t → (i ≤ t) × (t < i + length ns) × (get_or ns (t - i) [] ≡ w)
unfolding kind_from
from_names w i [] t e = let z : ◌≡◌ {A = ℕ} 0 1 = cc in absurd (omega arith)
from_names w i (n ∷ ns) t e = go (same_bytes w n) refl e (from_names w (suc i) ns t)
  where
    go : (b : Bool) → same_bytes w n ≡ b → pick b (Some i) (kind_from w (suc i) ns) ≡ Some t
        → (kind_from w (suc i) ns ≡ Some t → (suc i ≤ t) × (t < suc i + length ns) × (get_or ns (t - suc i) [] ≡ w))
        → (i ≤ t) × (t < i + suc (length ns)) × (get_or (n ∷ ns) (t - i) [] ≡ w)
    go true s e f =
        let q : i ≡ t = cc in
        let z : t - i ≡ 0 = omega arith in
        (omega arith, omega arith, ap (λ (k : ℕ). get_or (n ∷ ns) k []) z ∙ sym (same-is w n s))
    go false s e f =
        let r = f e in
        let z : t - i ≡ suc (t - suc i) = omega (arith, r.0) in
        (omega (arith, r.0), omega (arith, r.1), ap (λ (k : ℕ). get_or (n ∷ ns) k []) z ∙ r.2)

-- a tag that was read is written as the same name
pub back : (w : List ℕ) (t : ℕ) → kind_read w ≡ Some t → (0 < t) × (t < 15) × (name_of t ≡ w)
unfolding kind_read name_of names
back w t e =
    let r = from_names w 1 (drop 1 names) t e in
    let z : t ≡ suc (t - 1) = omega (arith, r.0) in
    (omega (arith, r.0), omega (arith, r.1, count), ap (λ (k : ℕ). get_or names k []) z ∙ r.2)
  where
    count : length (drop 1 names) ≡ 14
    count = refl

-- each kind's name and limit stand at its tag
pub at_tag : (k : Kind) → (name_of (tag k) ≡ name k) × (get_or limits (tag k) 0 ≡ limit_of k)
unfolding name_of names limits tag
at_tag bool = (refl, refl)
at_tag u8 = (refl, refl)
at_tag u16 = (refl, refl)
at_tag u32 = (refl, refl)
at_tag u64 = (refl, refl)
at_tag i8 = (refl, refl)
at_tag i16 = (refl, refl)
at_tag i32 = (refl, refl)
at_tag i64 = (refl, refl)
at_tag f32 = (refl, refl)
at_tag f64 = (refl, refl)
at_tag char = (refl, refl)
at_tag asn = (refl, refl)
at_tag pointer = (refl, refl)
