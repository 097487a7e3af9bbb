-- The header and the whole image, item after item, as `load` reads them: what its answer is is what the definition says of the bytes.
use Rattle.std.specs.Prelude.{Ok, Err}
use Prim.Native.Nat.{ℕ, zero, suc, ◌≤◌, ◌<◌}
use native.Mathlib.Omega.{arith}
use mathlib.Core.Path.{◌≡◌, refl, sym, ap, ◌∙◌}
use mathlib.Core.List.{List, flatten}
use lib.ListN.{length, replicate}
use lib.Dec.{eqb}
use borrow.Author.Tests.{le-leb, lt-leb, ne_eqb}
use Rattle.value.specs.Refusal.{unknown, over_limit}
use Rattle.value.specs.Answer.{pick}
use Rattle.image.specs.Parse.{Got, took, refused, Field, Placed, and_then, give, many, placed, ◌>>=◌}
use Rattle.image.specs.Program.{Function, Instruction}
use Rattle.image.specs.Number.{number}
use Rattle.image.specs.Fields.{such, at_most, listed, known, meant, at_end}
use Rattle.image.specs.Image.{Counts, Image, versions, header, constants, function, blocks, whole, image}
use Rattle.image.specs.Answer.{stop, shape}
use Rattle.image.specs.declared.number.Stop.{Stop}
use Rattle.image.proofs.Parts.{same-value}
use Rattle.image.proofs.Shapes.{up_to_value}
use Rattle.loader.specs.declared.load.Header.{Header}
use Rattle.loader.specs.declared.load.Blocks.{Blocks}
use Rattle.loader.specs.declared.load.Loaded.{Loaded}
use Rattle.loader.specs.Counts.{counts_of, held_counts}
use Rattle.loader.specs.Tables.{ats, starts, table, tables_of, tables_from, loaded_of, loaded_from, header_of, blocks_read, Fills, FillsBlocks}
use Rattle.loader.proofs.Turn.{shape-took, shape-refused, then_took}
use Rattle.loader.proofs.Blocks.{within-length, many-length}

-- ---- the header

abbrev pub counts_after : List ℕ → Field Counts
counts_after s =
    at_most s 256 >>= λ variables. at_most s 64 >>= λ constants. at_most s 64 >>= λ functions. at_most s 512 >>= λ blocks.
    give (record { variables = variables; constants = constants; functions = functions; blocks = blocks })

-- the version 1, and the counts
pub header_read : (s : List ℕ) → header s 0 ≡ and_then (such s (λ v. eqb v 1) unknown 0) (λ v. counts_after s)
unfolding header known such and_then
header_read s = by_got (number s 0)
  where
    by_got : (g : Got ℕ) → and_then (and_then g (λ v next. meant (listed versions v) 0 next)) (λ v. counts_after s) ≡ and_then (and_then g (λ v next. pick (eqb v 1) (took v next) (refused unknown 0))) (λ v. counts_after s)
    by_got (took zero n) = refl
    by_got (took (suc zero) n) = refl
    by_got (took (suc (suc v)) n) = rw (ne_eqb (suc (suc v)) 1 (λ e. omega arith)) refl
    by_got (refused k q) = refl

module _ (s : List ℕ) where
  -- the header that the code has was taken, and its refusal is the definition's
  header-taken : {h : Header} → Ok h ≡ header_of (header s 0) → header s 0 ≡ took (counts_of h.counts) h.end
  header-taken {h} e = by_got (header s 0) e
    where
      by_got : (g : Got Counts) → Ok h ≡ header_of g → g ≡ took (counts_of h.counts) h.end
      by_got (took n m) e = let same : h ≡ record { end = m; counts = held_counts n } = cc in rw same refl
      by_got (refused k q) e = absurd (let z : ◌≡◌ {A = ℕ} 0 1 = cc in omega arith)

  header-refused : {e : Stop} → Err e ≡ header_of (header s 0) → header s 0 ≡ refused e.why e.place
  header-refused {e} h = by_got (header s 0) h
    where
      by_got : (g : Got Counts) → Err e ≡ header_of g → g ≡ refused e.why e.place
      by_got (took n m) h = absurd (let z : ◌≡◌ {A = ℕ} 0 1 = cc in omega arith)
      by_got (refused k q) h = let same : stop k q ≡ e = cc in ap (λ (e : Stop). refused e.why e.place) same

  -- the counts of a header that was taken are within their limits
  pub header-limits : {h : Header} → Ok h ≡ header_of (header s 0) → (h.counts.constants ≤ 64) × (h.counts.functions ≤ 64) × (h.counts.blocks ≤ 512)
  unfolding and_then
  header-limits {h} e =
      let (v, m, e₀, h₀) = then_took (such s (λ v. eqb v 1) unknown 0) (λ v. counts_after s) (sym (header_read s) ∙ header-taken e) in
      let (vs, m₁, e₁, h₁) = then_took (at_most s 256 m) _ h₀ in
      let (k, m₂, e₂, h₂) = then_took (at_most s 64 m₁) _ h₁ in
      let (f, m₃, e₃, h₃) = then_took (at_most s 64 m₂) _ h₂ in
      let (b, m₄, e₄, h₄) = then_took (at_most s 512 m₃) _ h₃ in
      let same : record { variables = vs; constants = k; functions = f; blocks = b } ≡ counts_of h.counts = same-value h₄ in (
        omega (arith, up_to_value s 64 over_limit m₁ e₂, ap (λ (n : Counts). n.constants) same),
        omega (arith, up_to_value s 64 over_limit m₂ e₃, ap (λ (n : Counts). n.functions) same),
        omega (arith, up_to_value s 512 over_limit m₃ e₄, ap (λ (n : Counts). n.blocks) same),
      )

-- ---- the whole image

-- an over-long image is refused before all else
pub too_long : (s : List ℕ) → 32768 < length s → Err (stop over_limit 0) ≡ loaded_from s
unfolding image
too_long s h = rw (lt-leb (length s) 32768 h) refl

-- blocks that the code has were taken
blocks-taken : {g : Got (List (List (Placed Instruction)))} {b : Blocks} → Ok b ≡ blocks_read g → (bs : List (List (Placed Instruction))) × (g ≡ took bs b.end) × (b.total ≡ length (flatten bs))
blocks-taken {g} {b} e = by_got g e
  where
    by_got : (g : Got (List (List (Placed Instruction)))) → Ok b ≡ blocks_read g → (bs : List (List (Placed Instruction))) × (g ≡ took bs b.end) × (b.total ≡ length (flatten bs))
    by_got (took bs m) e =
        let same : b ≡ record { end = m; total = length (flatten bs) } = cc in
        (bs, ap (λ (b : Blocks). took bs b.end) (sym same), ap (λ (b : Blocks). b.total) same)
    by_got (refused k q) e = absurd (let z : ◌≡◌ {A = ℕ} 0 1 = cc in omega arith)

blocks-refused : {g : Got (List (List (Placed Instruction)))} {e : Stop} → Err e ≡ blocks_read g → g ≡ refused e.why e.place
blocks-refused {g} {e} h = by_got g h
  where
    by_got : (g : Got (List (List (Placed Instruction)))) → Err e ≡ blocks_read g → g ≡ refused e.why e.place
    by_got (took bs m) h = absurd (let z : ◌≡◌ {A = ℕ} 0 1 = cc in omega arith)
    by_got (refused k q) h = let same : stop k q ≡ e = cc in ap (λ (e : Stop). refused e.why e.place) same

same-loaded : (end v k f b total k' f' b' total' : ℕ) (P L F K P' L' F' K' : List ℕ) → k ≡ k' → f ≡ f' → b ≡ b' → total ≡ total' → P ≡ P' → L ≡ L' → F ≡ F' → K ≡ K'
    → ◌≡◌ {A = Loaded}
    (record { end = end; counts = record { variables = v; constants = k; functions = f; blocks = b }; instructions = total; places = P; labels = L; functions = F; constants = K })
    (record { end = end; counts = record { variables = v; constants = k'; functions = f'; blocks = b' }; instructions = total'; places = P'; labels = L'; functions = F'; constants = K' })
same-loaded end v k f b total k' f' b' total' P L F K P' L' F' K' h₁ h₂ h₃ h₄ h₅ h₆ h₇ h₈ = rw (h₁, h₂, h₃, h₄, h₅, h₆, h₇, h₈)

-- an image that is not over-long: each of its parts, as the code has read it
module _ (s : List ℕ) (small : length s ≤ 32768) where
  is_whole : image s ≡ whole s 0
  unfolding image
  is_whole = rw (le-leb (length s) 32768 small)

  taken : {n : Counts} {ks : List (Placed (List ℕ))} {fs : List (Placed Function)} {bs : List (List (Placed Instruction))} {u : Unit} {m₀ m₁ m₂ m₃ end : ℕ}
      → header s 0 ≡ took n m₀ → constants s n m₀ ≡ took ks m₁ → many n.functions (placed (function s n)) m₁ ≡ took fs m₂ → blocks s n m₂ ≡ took bs m₃ → at_end s m₃ ≡ took u end
      → image s ≡ took (record { variables = n.variables; constants = ks; functions = fs; blocks = bs }) end
  unfolding whole and_then
  taken e₀ e₁ e₂ e₃ e₄ = rw (is_whole, e₀, e₁, e₂, e₃, e₄) refl

  pub header-stops : {e : Stop} → Err e ≡ header_of (header s 0) → Err e ≡ loaded_from s
  unfolding whole and_then
  header-stops h = rw (is_whole, header-refused s h) refl

  module _ {h : Header} (read : Ok h ≡ header_of (header s 0)) where
    abbrev n : Counts
    n = counts_of h.counts

    pub constants-stop : {e : Stop} → Err e ≡ shape (constants s n h.end) → Err e ≡ loaded_from s
    unfolding whole and_then
    constants-stop r = rw (is_whole, header-taken s read, shape-refused (sym r)) refl

    module _ {m₁ : ℕ} {K : List ℕ} (hk : Fills (constants s n) h.end 0 (replicate 64 0) (Ok m₁) K) where
      pub functions-stop : {e : Stop} → Err e ≡ shape (many n.functions (placed (function s n)) m₁) → Err e ≡ loaded_from s
      unfolding whole and_then
      functions-stop r =
          let (ks, e₁) = shape-took (sym hk.ends) in
          rw (is_whole, header-taken s read, e₁, shape-refused (sym r)) refl

      module _ {m₂ : ℕ} {F : List ℕ} (hf : Fills (many n.functions (placed (function s n))) m₁ 0 (replicate 64 0) (Ok m₂) F) where
        pub blocks-stop : {e : Stop} → Err e ≡ blocks_read (blocks s n m₂) → Err e ≡ loaded_from s
        unfolding whole and_then
        blocks-stop r =
            let (ks, e₁) = shape-took (sym hk.ends) in
            let (fs, e₂) = shape-took (sym hf.ends) in
            rw (is_whole, header-taken s read, e₁, e₂, blocks-refused r) refl

        module _ {b : Blocks} {L P : List ℕ} (hb : FillsBlocks (blocks s n) m₂ (replicate 512 0) (replicate 4096 0) (Ok b) L P) where
          pub end-stops : {e : Stop} → Err e ≡ shape (at_end s b.end) → Err e ≡ loaded_from s
          unfolding whole and_then
          end-stops r =
              let (ks, e₁) = shape-took (sym hk.ends) in
              let (fs, e₂) = shape-took (sym hf.ends) in
              let (bs, e₃, total) = blocks-taken hb.answer in
              rw (is_whole, header-taken s read, e₁, e₂, e₃, shape-refused (sym r)) refl

          pub loads : {end : ℕ} → Ok end ≡ shape (at_end s b.end)
              → Ok (record { end = end; counts = h.counts; instructions = b.total; places = P; labels = L; functions = F; constants = K }) ≡ loaded_from s
          unfolding constants blocks tables_of
          loads {end} r =
              let (ks, e₁) = shape-took (sym hk.ends) in
              let (fs, e₂) = shape-took (sym hf.ends) in
              let (bs, e₃, total) = blocks-taken hb.answer in
              let (u, e₄) = shape-took (sym r) in
              let is : image s ≡ took (record { variables = n.variables; constants = ks; functions = fs; blocks = bs }) end = taken (header-taken s read) e₁ e₂ e₃ e₄ in
              ap Ok (same-loaded end n.variables n.constants n.functions n.blocks b.total (length ks) (length fs) (length bs) (length (flatten bs))
              P L F K (table 4096 (ats (flatten bs))) (table 512 (starts 0 bs)) (table 64 (ats fs)) (table 64 (ats ks))
              (sym (within-length _ _ 8192 n.constants h.end e₁)) (sym (many-length (placed (function s n)) n.functions m₁ e₂)) (sym (within-length length _ 4096 n.blocks m₂ e₃))
              total (hb.placing bs b.end e₃) (hb.starting bs b.end e₃) (hf.places fs m₂ e₂) (hk.places ks m₁ e₁)) ∙ ap loaded_of (sym is)

-- what loading took, and what it refused
pub loaded-took : (s : List ℕ) {l : Loaded} → loaded_from s ≡ Ok l → (i : Image) × (image s ≡ took i l.end) × (tables_from s ≡ l)
unfolding tables_of
loaded-took s {l} h = by_got (image s) h
  where
    by_got : (g : Got Image) → loaded_of g ≡ Ok l → (i : Image) × (g ≡ took i l.end) × (tables_of g ≡ l)
    by_got (took i m) e = let same : tables_of (took i m) ≡ l = cc in (i, ap (λ (l : Loaded). took i l.end) same, same)
    by_got (refused k q) e = absurd (let z : ◌≡◌ {A = ℕ} 0 1 = cc in omega arith)

pub loaded-refused : (s : List ℕ) {e : Stop} → loaded_from s ≡ Err e → image s ≡ refused e.why e.place
loaded-refused s {e} h = by_got (image s) h
  where
    by_got : (g : Got Image) → loaded_of g ≡ Err e → g ≡ refused e.why e.place
    by_got (took i m) h = absurd (let z : ◌≡◌ {A = ℕ} 0 1 = cc in omega arith)
    by_got (refused k q) h = let same : stop k q ≡ e = cc in ap (λ (e : Stop). refused e.why e.place) same
