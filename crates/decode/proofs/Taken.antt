-- What an image that was taken is made of: its header, constants, functions and blocks, each taken where the one before it ended.
use Prim.Native.Nat.{ℕ, ◌≤◌}
use native.Mathlib.Omega.{arith}
use native.Mathlib.Decide.{dec_le}
use mathlib.Core.Path.{◌≡◌, sym, ap, ◌∙◌}
use mathlib.Core.List.{List}
use lib.ListN.{length}
use borrow.Author.Tests.{le-leb, lt-leb}
use Rattle.image.specs.Parse.{took, many, placed}
use Rattle.image.specs.Fields.{at_end}
use Rattle.image.specs.Image.{Counts, Image, header, constants, function, blocks, whole, image}
use Rattle.loader.proofs.Turn.{never, then_took}
use Rattle.loader.proofs.Blocks.{within-length, many-length}
use Rattle.image.proofs.Parts.{same-value, same_place}

pub record Taken (s : List ℕ) (i : Image) (n : Counts) (end : ℕ) : Type 0 where
  pub at₁ : ℕ
  pub at₂ : ℕ
  pub at₃ : ℕ
  pub heads : header s 0 ≡ took n at₁
  pub its_constants : constants s n at₁ ≡ took i.constants at₂
  pub its_functions : many n.functions (placed (function s n)) at₂ ≡ took i.functions at₃
  pub its_blocks : blocks s n at₃ ≡ took i.blocks end
  pub ended : length s ≤ end
  pub short : length s ≤ 32768
  pub variables : i.variables ≡ n.variables

end-took : (s : List ℕ) (m : ℕ) {u : Unit} {e : ℕ} → at_end s m ≡ took u e → (length s ≤ m) × (m ≡ e)
unfolding at_end
end-took s m {u} {e} h = by_test (dec_le (length s) m)
  where
    by_test : Dec (length s ≤ m) → (length s ≤ m) × (m ≡ e)
    by_test (yes le) = let is : took tt m ≡ took u e = rw (le-leb (length s) m le) at h in (le, cc)
    by_test (no gt) = never (rw (lt-leb (length s) m (omega arith)) at h)

whole-took : (s : List ℕ) (i : Image) (e : ℕ) → length s ≤ 32768 → whole s 0 ≡ took i e → (n : Counts) × Taken s i n e
unfolding whole
whole-took s i e short h =
    let (n, m₁, e₁, h₁) = then_took (header s 0) _ h in
    let (ks, m₂, e₂, h₂) = then_took (constants s n m₁) _ h₁ in
    let (fs, m₃, e₃, h₃) = then_took (many n.functions (placed (function s n)) m₂) _ h₂ in
    let (bs, m₄, e₄, h₄) = then_took (blocks s n m₃) _ h₃ in
    let (u, m₅, e₅, h₅) = then_took (at_end s m₄) _ h₄ in
    let (le, same) = end-took s m₄ e₅ in
    let is = same-value h₅ in
    let last = same_place h₅ in
    let ends : m₄ ≡ e = same ∙ last in (
      n,
      record {
        at₁ = m₁;
        at₂ = m₂;
        at₃ = m₃;
        heads = e₁;
        its_constants = e₂ ∙ ap (λ (j : Image). took j.constants m₂) is;
        its_functions = e₃ ∙ ap (λ (j : Image). took j.functions m₃) is;
        its_blocks = e₄ ∙ ap (took bs) ends ∙ ap (λ (j : Image). took j.blocks e) is;
        ended = omega arith;
        short = short;
        variables = sym (ap (λ (j : Image). j.variables) is);
      },
    )

pub image-took : (s : List ℕ) (i : Image) (e : ℕ) → image s ≡ took i e → (n : Counts) × Taken s i n e
unfolding image
image-took s i e h = by_test (dec_le (length s) 32768)
  where
    by_test : Dec (length s ≤ 32768) → (n : Counts) × Taken s i n e
    by_test (yes le) = whole-took s i e le (rw (le-leb (length s) 32768 le) at h)
    by_test (no gt) = never (rw (lt-leb (length s) 32768 (omega arith)) at h)

module _ (s : List ℕ) (i : Image) (n : Counts) (e : ℕ) (t : Taken s i n e) where
  pub constants-counted : length i.constants ≡ n.constants
  unfolding constants
  constants-counted = within-length _ _ 8192 n.constants t.at₁ t.its_constants

  pub functions-counted : length i.functions ≡ n.functions
  functions-counted = many-length (placed (function s n)) n.functions t.at₂ t.its_functions

  pub blocks-counted : length i.blocks ≡ n.blocks
  unfolding blocks
  blocks-counted = within-length length _ 4096 n.blocks t.at₃ t.its_blocks
