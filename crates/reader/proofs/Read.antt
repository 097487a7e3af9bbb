-- An image's header, read field after field: what each field's reader says, put into the chain that the header is.
use Rattle.std.specs.Prelude.{Ok, Err}
use Prim.Native.Nat.{ℕ, ◌≤◌}
use mathlib.Core.Bool.{Bool, true, false}
use mathlib.Core.Path.{◌≡◌, refl, sym, ◌∙◌}
use mathlib.Core.List.{List}
use lib.ListN.{length}
use lib.Dec.{eqb}
use borrow.Author.Tests.{le-leb, eqb-true}
use Rattle.value.specs.Refusal.{unknown}
use Rattle.value.specs.Answer.{pick}
use Rattle.image.specs.Parse.{Got, took, refused, and_then}
use Rattle.image.specs.Number.{number}
use Rattle.image.specs.Fields.{such, at_most}
use Rattle.image.specs.Image.{header}
use Rattle.image.specs.declared.number.Stop.{Stop}
use Rattle.image.proofs.Parts.{never}
use Rattle.loader.proofs.Whole.{header_read}
use Rattle.reader.specs.Header.{headed, answered}

-- a version that is taken is 1
one : (s : List ℕ) (at : ℕ) {v n : ℕ} → such s (λ v. eqb v 1) unknown at ≡ took v n → v ≡ 1
unfolding such and_then
one s at = by_got (number s at)
  where
    by_test : (u m : ℕ) {v n : ℕ} (b : Bool) → eqb u 1 ≡ b → pick b (took u m) (refused unknown at) ≡ took v n → v ≡ 1
    by_test u m {v} true t e = let is : u ≡ v = cc in sym is ∙ eqb-true u 1 t
    by_test u m false t e = never e

    by_got : (g : Got ℕ) {v n : ℕ} → and_then g (λ v n. pick (eqb v 1) (took v n) (refused unknown at)) ≡ took v n → v ≡ 1
    by_got (took u m) e = by_test u m (eqb u 1) refl e
    by_got (refused k q) e = never e

-- the header of an image that is not over-long: each field is told by what its reader says, and what the readers before it took
module _ (s : List ℕ) (small : length s ≤ 32768) where
  is_header : headed s ≡ header s 0
  unfolding headed
  is_header = rw (le-leb (length s) 32768 small) refl

  abbrev version : Got ℕ
  version = such s (λ v. eqb v 1) unknown 0

  pub version_stops : {e : Stop} → version ≡ refused e.why e.place → Err e ≡ answered (headed s)
  unfolding and_then
  version_stops h = rw (is_header, header_read s, h) refl

  module _ {v at : ℕ} (h : version ≡ took v at) where
    pub variables_stop : {e : Stop} → at_most s 256 at ≡ refused e.why e.place → Err e ≡ answered (headed s)
    unfolding and_then
    variables_stop h₁ = rw (is_header, header_read s, h, h₁) refl

    module _ {n₁ at₁ : ℕ} (h₁ : at_most s 256 at ≡ took n₁ at₁) where
      pub constants_stop : {e : Stop} → at_most s 64 at₁ ≡ refused e.why e.place → Err e ≡ answered (headed s)
      unfolding and_then
      constants_stop h₂ = rw (is_header, header_read s, h, h₁, h₂) refl

      module _ {n₂ at₂ : ℕ} (h₂ : at_most s 64 at₁ ≡ took n₂ at₂) where
        pub functions_stop : {e : Stop} → at_most s 64 at₂ ≡ refused e.why e.place → Err e ≡ answered (headed s)
        unfolding and_then
        functions_stop h₃ = rw (is_header, header_read s, h, h₁, h₂, h₃) refl

        module _ {n₃ at₃ : ℕ} (h₃ : at_most s 64 at₂ ≡ took n₃ at₃) where
          pub blocks_stop : {e : Stop} → at_most s 512 at₃ ≡ refused e.why e.place → Err e ≡ answered (headed s)
          unfolding and_then
          blocks_stop h₄ = rw (is_header, header_read s, h, h₁, h₂, h₃, h₄) refl

          pub counted : {n₄ at₄ : ℕ} → at_most s 512 at₃ ≡ took n₄ at₄
              → Ok (record { version = v; counts = record { variables = n₁; constants = n₂; functions = n₃; blocks = n₄ }; end = at₄ }) ≡ answered (headed s)
          unfolding and_then
          counted h₄ = rw (one s 0 h, is_header, header_read s, h, h₁, h₂, h₃, h₄) refl
