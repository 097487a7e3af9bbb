-- The reader's header is the first part of loading: where it is refused, loading refuses with the same number and place; where loading takes the image, its counts are the reader's. By the order of the grammar.
use Rattle.std.specs.Prelude.{Ok, Err}
use Prim.Native.Nat.{ℕ}
use native.Mathlib.Omega.{arith}
use mathlib.Core.Bool.{Bool, true, false}
use mathlib.Core.List.{List}
use mathlib.Core.Path.{◌≡◌, refl, sym, ap, ◌∙◌}
use lib.ListN.{length}
use lib.Dec.{leb}
use Rattle.value.specs.declared.refusal.Refusal.{Refusal}
use Rattle.value.specs.Answer.{pick}
use Rattle.value.specs.Refusal.{over_limit}
use Rattle.image.specs.Parse.{Got, took, refused, and_then, many, placed}
use Rattle.image.specs.Fields.{at_end}
use Rattle.image.specs.Image.{Counts, Image, header, constants, function, blocks, whole, image}
use Rattle.image.specs.Answer.{stop}
use Rattle.image.specs.declared.number.Stop.{Stop}
use Rattle.image.proofs.Parts.{same-value}
use Rattle.loader.specs.declared.load.Loaded.{Loaded}
use Rattle.loader.specs.Tables.{tables_of, loaded_of, loaded_from}
use Rattle.loader.proofs.Whole.{loaded-took}
use Rattle.loader.proofs.Turn.{never, then_took}
use Rattle.loader.proofs.Blocks.{within-length, many-length}
use Rattle.reader.specs.Header.{headed, answered}

-- counts that are the lengths of the lists
same-counts : (n : Counts) {k f b : ℕ} → k ≡ n.constants → f ≡ n.functions → b ≡ n.blocks → n ≡ record { variables = n.variables; constants = k; functions = f; blocks = b }
same-counts n h₁ h₂ h₃ = rw (h₁, h₂, h₃) refl

-- an image's counts, as loading answers them
abbrev counts_in : Image → Counts
counts_in i = record { variables = i.variables; constants = length i.constants; functions = length i.functions; blocks = length i.blocks }

module _ (s : List ℕ) where
  -- an image that is taken has a header, whose counts are its own
  whole-counts : (i : Image) (e : ℕ) → whole s 0 ≡ took i e → (m : ℕ) × (header s 0 ≡ took (counts_in i) m)
  unfolding whole constants blocks
  whole-counts i e h =
      let (n, m, e₀, h₀) = then_took (header s 0) _ h in
      let (ks, m₁, e₁, h₁) = then_took (constants s n m) _ h₀ in
      let (fs, m₂, e₂, h₂) = then_took (many n.functions (placed (function s n)) m₁) _ h₁ in
      let (bs, m₃, e₃, h₃) = then_took (blocks s n m₂) _ h₂ in
      let (u, m₄, e₄, h₄) = then_took (at_end s m₃) _ h₃ in
      let counts = same-counts n (within-length _ _ 8192 n.constants m e₁) (many-length _ n.functions m₁ e₂) (within-length _ _ 4096 n.blocks m₂ e₃) in
      (m, e₀ ∙ ap (λ (k : Counts). took k m) (counts ∙ ap counts_in (same-value h₄)))

  -- a header that is refused
  whole-refused : (k : Refusal) (p : ℕ) → header s 0 ≡ refused k p → whole s 0 ≡ refused k p
  unfolding whole and_then
  whole-refused k p h = rw h refl

  pub refused_alike : (k : Refusal) (p : ℕ) → headed s ≡ refused k p → image s ≡ refused k p
  unfolding headed image
  refused_alike k p = by_test (leb (length s) 32768)
    where
      by_test : (t : Bool) → pick t (header s 0) (refused over_limit 0) ≡ refused k p → pick t (whole s 0) (refused over_limit 0) ≡ refused k p
      by_test true h = whole-refused k p h
      by_test false h = cc

  pub counted_alike : (i : Image) (e : ℕ) → image s ≡ took i e → (m : ℕ) × (headed s ≡ took (counts_in i) m)
  unfolding headed image
  counted_alike i e = by_test (leb (length s) 32768)
    where
      by_test : (t : Bool) → pick t (whole s 0) (refused over_limit 0) ≡ took i e → (m : ℕ) × (pick t (header s 0) (refused over_limit 0) ≡ took (counts_in i) m)
      by_test true h = whole-counts i e h
      by_test false h = never h

-- in the words of the two answers: what `read_header` refuses, `load` refuses with the same number and place, and of an image that `load` takes the counts are `read_header`'s
pub load_refuses_alike : (s : List ℕ) (e : Stop) → answered (headed s) ≡ Err e → loaded_from s ≡ Err e
load_refuses_alike s e = by_got (headed s) refl
  where
    by_got : (g : Got Counts) → headed s ≡ g → answered g ≡ Err e → loaded_from s ≡ Err e
    by_got (took n m) h r = absurd (let z : ◌≡◌ {A = ℕ} 0 1 = cc in omega arith)
    by_got (refused k q) h r = let same : stop k q ≡ e = cc in ap loaded_of (refused_alike s k q h) ∙ ap Err same

pub load_counts_alike : (s : List ℕ) (l : Loaded) → loaded_from s ≡ Ok l → (m : ℕ) × (answered (headed s) ≡ Ok (record { version = 1; counts = l.counts; end = m }))
unfolding tables_of
load_counts_alike s l h =
    let (i, is, tables) = loaded-took s h in
    let (m, read) = counted_alike s i l.end is in
    let same : tables_of (took i l.end) ≡ l = ap tables_of (sym is) ∙ tables in
    (m, ap answered read ∙ ap (λ (l : Loaded). Ok (record { version = 1; counts = l.counts; end = m })) same)
