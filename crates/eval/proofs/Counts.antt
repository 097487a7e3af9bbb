-- How many items an image can have: the header's counts lie within their limits, and the blocks' instructions within theirs.
use Prim.Native.Nat.{ℕ, zero, suc, ◌-◌, ◌≤◌}
use native.Mathlib.Omega.{arith}
use mathlib.Core.Path.{◌≡◌, ap}
use mathlib.Core.List.{List, flatten}
use lib.ListN.{length, length-append}
use borrow.Author.Tests.{leb-true}
use Rattle.value.specs.Refusal.{over_limit}
use Rattle.image.specs.Parse.{took, Placed, many, within, placed}
use Rattle.image.specs.Fields.{at_most, listed, known, list_of}
use Rattle.image.specs.Program.{Instruction}
use Rattle.image.specs.Image.{Counts, Image, versions, header, instruction, blocks, image}
use Rattle.loader.proofs.Turn.{then_took, within-took, within-done}
use Rattle.loader.proofs.Blocks.{many-length}
use Rattle.decode.proofs.Taken.{image-took, constants-counted, functions-counted, blocks-counted}
use Rattle.image.proofs.Parts.{same-value}
use Rattle.instruction.proofs.Decoded.{such-took}

at_most_lem : (s : List ℕ) (limit at : ℕ) {k m : ℕ} → at_most s limit at ≡ took k m → k ≤ limit
at_most_lem s limit at {k} {m} h = leb-true k limit (such-took s _ over_limit at k m h).1

-- "counts of variables (0..256), constants (0..64), functions (0..64), blocks (0..512)"
pub record Few (n : Counts) : Type 0 where
  pub constants : n.constants ≤ 64
  pub functions : n.functions ≤ 64
  pub blocks : n.blocks ≤ 512

header-few : (s : List ℕ) (at : ℕ) (n : Counts) (e : ℕ) → header s at ≡ took n e → Few n
unfolding header
header-few s at n e h =
    let (v, m₁, e₁, h₁) = then_took (known s (listed versions) at) _ h in
    let (a, m₂, e₂, h₂) = then_took (at_most s 256 m₁) _ h₁ in
    let (b, m₃, e₃, h₃) = then_took (at_most s 64 m₂) _ h₂ in
    let (c, m₄, e₄, h₄) = then_took (at_most s 64 m₃) _ h₃ in
    let (d, m₅, e₅, h₅) = then_took (at_most s 512 m₄) _ h₄ in
    let is = same-value h₅ in
    record {
      constants = rw (ap (λ (m : Counts). m.constants) is) at (at_most_lem s 64 m₂ e₃);
      functions = rw (ap (λ (m : Counts). m.functions) is) at (at_most_lem s 64 m₃ e₄);
      blocks = rw (ap (λ (m : Counts). m.blocks) is) at (at_most_lem s 512 m₄ e₅);
    }

-- "instructions (4,096 over all)"
blocks-few : (s : List ℕ) (n : Counts) (left m at : ℕ) (bs : List (List (Placed Instruction))) (e : ℕ)
    → within length left m (λ left. list_of s left (placed (instruction s n))) at ≡ took bs e → length (flatten bs) ≤ left
unfolding list_of flatten
blocks-few s n left zero at bs e h =
    let is = (within-done length (λ left. list_of s left (placed (instruction s n))) left at h).0 in
    omega (arith, ap (λ (l : List (List (Placed Instruction))). length (flatten l)) is)
blocks-few s n left (suc m) at bs e h =
    let (b, at', more, e₁, e₂, is) = within-took length (λ left. list_of s left (placed (instruction s n))) left m at h in
    let (k, m', e₃, e₄) = then_took (at_most s left at) (λ k m. many k (placed (instruction s n)) m) e₁ in
    let small = blocks-few s n (left - length b) m at' more e e₂ in
    let fits = at_most_lem s left at e₃ in
    let size = many-length (placed (instruction s n)) k m' e₄ in
    omega (arith, ap (λ (l : List (List (Placed Instruction))). length (flatten l)) is, length-append b (flatten more))

pub record Limited (i : Image) : Type 0 where
  pub instructions : length (flatten i.blocks) ≤ 4096
  pub blocks : length i.blocks ≤ 512
  pub functions : length i.functions ≤ 64
  pub constants : length i.constants ≤ 64

pub limited : (s : List ℕ) (i : Image) (e : ℕ) → image s ≡ took i e → Limited i
unfolding blocks
limited s i e h =
    let (n, t) = image-took s i e h in
    let few = header-few s 0 n t.at₁ t.heads in
    record {
      instructions = blocks-few s n 4096 n.blocks t.at₃ i.blocks e t.its_blocks;
      blocks = omega (arith, blocks-counted s i n e t, few.blocks);
      functions = omega (arith, functions-counted s i n e t, few.functions);
      constants = omega (arith, constants-counted s i n e t, few.constants);
    }
