-- The tables of the blocks, one block more in each turn: what is left to read gives what the whole gives.
use Rattle.std.specs.Prelude.{Result, Ok, Err}
use Prim.Native.Nat.{ℕ, zero, suc, ◌+◌, ◌-◌}
use native.Mathlib.Nat.{add-zero}
use native.Mathlib.Omega.{arith}
use mathlib.Core.Path.{◌≡◌, refl, sym, ap, ap₂, ◌∙◌}
use mathlib.Core.List.{List, map-append, flatten}
use lib.ListN.{length, set, length-set, length-append, length-map}
use lib.Seq.{sets}
use Rattle.image.specs.Parse.{took, refused, Field, Placed, many, within, placed}
use Rattle.image.specs.Fields.{at_most, list_of}
use Rattle.image.specs.Image.{Counts, instruction, blocks}
use Rattle.image.specs.Image as Image
use Rattle.image.specs.Program.{Instruction}
use Rattle.image.specs.Answer.{shape, walk}
use Rattle.image.specs.declared.number.Stop.{Stop}
use Rattle.image.proofs.Parts.{never, same-value, same_place}
use Rattle.image.proofs.Shapes.{within_none, within_first, list-taken}
use Rattle.loader.specs.Tables.{ats, starts, blocks_read, Fills, FillsBlocks}
use Rattle.loader.proofs.Turn.{shape-took, shape-refused, then_took, within-took, within-done, many-within}
use Rattle.value.proofs.Stores.{sets-append}

pub within-length : {A : Type 0} (size : A → ℕ) (p : ℕ → Field A) (left n at : ℕ) {xs : List A} {e : ℕ} → within size left n p at ≡ took xs e → length xs ≡ n
within-length size p left zero at h = ap length (within-done size p left at h).0
within-length size p left (suc n) at h =
    let (x, m, ys, e₁, e₂, is) = within-took size p left n at h in
    ap length is ∙ ap suc (within-length size p (left - size x) n m e₂)

pub many-length : {A : Type 0} (p : Field A) (n at : ℕ) {xs : List A} {e : ℕ} → many n p at ≡ took xs e → length xs ≡ n
many-length p n at h = within-length (λ x. 0) (λ left. p) 0 n at (sym (many-within p n at) ∙ h)

module _ (s : List ℕ) (n : Counts) where
  abbrev pub code : ℕ → Field (List (Placed Instruction))
  code k = many k (placed (instruction s n))

  abbrev pub block : ℕ → Field (List (Placed Instruction))
  block = Image.block s (placed (instruction s n))

  abbrev pub all : (left m : ℕ) → Field (List (List (Placed Instruction)))
  all left m = within length left m block

  -- a block's count and its instructions
  block-took : (left at : ℕ) {b : List (Placed Instruction)} {e : ℕ} → block left at ≡ took b e
      → (k : ℕ) × (m : ℕ) × (at_most s left at ≡ took k m) × (code k m ≡ took b e)
  unfolding list_of
  block-took left at h = then_took (at_most s left at) (λ k m. code k m) h

  -- `total` instructions of `i` blocks are read, `m` blocks are left to read at `at`
  pub record Blocked (start count : ℕ) (labels₀ places₀ : List ℕ) (at m total i : ℕ) (labels places : List ℕ) : Type 0 where
    pub ends : shape (all 4096 count start) ≡ shape (all (4096 - total) m at)
    pub tables : (bs : List (List (Placed Instruction))) (e : ℕ) → all 4096 count start ≡ took bs e
        → (rest : List (List (Placed Instruction))) × (all (4096 - total) m at ≡ took rest e)
        × (sets labels₀ 0 (starts 0 bs) ≡ sets labels i (starts total rest))
        × (sets places₀ 0 (ats (flatten bs)) ≡ sets places total (ats (flatten rest)))
        × (length (flatten bs) ≡ total + length (flatten rest))
    pub label-room : length labels ≡ length labels₀
    pub place-room : length places ≡ length places₀

  pub blocked_first : (start count : ℕ) (labels places : List ℕ) → Blocked start count labels places start (count - 0) 0 0 labels places
  blocked_first start count labels places =
      let every : count - 0 ≡ count = omega arith in
      rw every (record { ends = refl; tables = λ bs e h. (bs, h, refl, refl, omega arith); label-room = refl; place-room = refl })

  module _ (start count : ℕ) (labels₀ places₀ : List ℕ) (at m total i : ℕ) (labels places : List ℕ) (h : Blocked start count labels₀ places₀ at (suc m) total i labels places) where
    -- the block that stands here has k instructions, whose places are in the table
    module _ (k next at' : ℕ) (places' : List ℕ) (read : at_most s (4096 - total) at ≡ took k next) (inner : Fills (code k) next total places (Ok at') places') where
      used : (b : List (Placed Instruction)) (e : ℕ) → block (4096 - total) at ≡ took b e → length b ≡ k
      used b e g =
          let (k', m', e₁, e₂) = block-took (4096 - total) at g in
          many-length (placed (instruction s n)) k' m' e₂ ∙ same-value (sym e₁ ∙ read)

      goes_on : shape (block (4096 - total) at) ≡ Ok at'
      goes_on = list-taken s (placed (instruction s n)) at (4096 - total) read ∙ sym inner.ends

      less : 4096 - total - k ≡ 4096 - (total + k)
      less = omega arith

      next-tables : (bs : List (List (Placed Instruction))) (e : ℕ)
          → ((rest : List (List (Placed Instruction))) × (all (4096 - total) (suc m) at ≡ took rest e)
          × (sets labels₀ 0 (starts 0 bs) ≡ sets labels i (starts total rest))
          × (sets places₀ 0 (ats (flatten bs)) ≡ sets places total (ats (flatten rest)))
          × (length (flatten bs) ≡ total + length (flatten rest)))
          → (rest : List (List (Placed Instruction))) × (all (4096 - (total + k)) m at' ≡ took rest e)
          × (sets labels₀ 0 (starts 0 bs) ≡ sets (set labels i total) (i + 1) (starts (total + k) rest))
          × (sets places₀ 0 (ats (flatten bs)) ≡ sets places' (total + k) (ats (flatten rest)))
          × (length (flatten bs) ≡ total + k + length (flatten rest))
      unfolding flatten
      next-tables bs e (rest, e₁, started, stored, counted) =
          let (b, end, more, e₃, e₄, is) = within-took length block (4096 - total) m at e₁ in
          let size : length b ≡ k = used b end e₃ in
          let same : at' ≡ end = let o : Ok at' ≡ Ok end = sym goes_on ∙ ap shape e₃ in cc in
          let (k', m', e₅, e₆) = block-took (4096 - total) at e₃ in
          let k_is : k ≡ k' = same-value (sym read ∙ e₅) in
          let next_is : next ≡ m' = same_place (sym read ∙ e₅) in
          let taken : code k next ≡ took b end = ap₂ (λ (j : ℕ) (p : ℕ). code j p) k_is next_is ∙ e₆ in
          let stored_b : places' ≡ sets places total (ats b) = inner.places b end taken in
          let wide : length (ats b) ≡ k = length-map b (λ x. x.at) ∙ size in
          let one_more_lem : i + 1 ≡ suc i = omega arith in (
            more,
            ap (all (4096 - (total + k)) m) same ∙ ap (λ (j : ℕ). all j m end) (sym less ∙ ap (λ (j : ℕ). 4096 - total - j) (sym size)) ∙ e₄,
            started ∙ ap (λ (l : List (List (Placed Instruction))). sets labels i (starts total l)) is
                ∙ ap₂ (λ (j u : ℕ). sets (set labels i total) j (starts (total + u) more)) (sym one_more_lem) size,
            stored ∙ ap (λ (l : List (List (Placed Instruction))). sets places total (ats (flatten l))) is
                ∙ ap (sets places total) (map-append (λ x. x.at) b (flatten more)) ∙ sets-append places total (ats b) (ats (flatten more))
                ∙ ap₂ (λ (l : List ℕ) (u : ℕ). sets l (total + u) (ats (flatten more))) (sym stored_b) wide,
            counted ∙ ap (λ (l : List (List (Placed Instruction))). total + length (flatten l)) is
                ∙ ap (λ (u : ℕ). total + u) (length-append b (flatten more) ∙ ap (λ (u : ℕ). u + length (flatten more)) size) ∙ omega arith,
          )

      -- one block more
      pub blocked_next : Blocked start count labels₀ places₀ at' m (total + k) (i + 1) (set labels i total) places'
      blocked_next = record {
        ends = h.ends ∙ within_first length block (4096 - total) m k (Ok at) used ∙ ap₂ (λ (j : ℕ) (d : Result ℕ Stop). walk (all j m) d) less goes_on;
        tables = λ bs e g. next-tables bs e (h.tables bs e g);
        label-room = length-set labels i total ∙ h.label-room;
        place-room = inner.room ∙ h.place-room;
      }

    -- the block that stands here is refused
    pub blocked_stopped : {stopped : Stop} {labels' places' : List ℕ} → count ≡ n.blocks → shape (block (4096 - total) at) ≡ Err stopped
        → FillsBlocks (blocks s n) start labels₀ places₀ (Err stopped) labels' places'
    unfolding blocks
    blocked_stopped {stopped} all_blocks read =
        let none : (b : List (Placed Instruction)) (e : ℕ) → block (4096 - total) at ≡ took b e → length b ≡ 0 =
        λ b e g. absurd (let is : Ok e ≡ Err stopped = sym (ap shape g) ∙ read in let z : ◌≡◌ {A = ℕ} 0 1 = cc in omega arith) in
        let stops : shape (all 4096 count start) ≡ Err stopped =
        h.ends ∙ within_first length block (4096 - total) m 0 (Ok at) none ∙ ap (walk (all (4096 - total - 0) m)) read in
        let refuses : all 4096 n.blocks start ≡ refused stopped.why stopped.place = shape-refused (ap (λ (c : ℕ). shape (all 4096 c start)) (sym all_blocks) ∙ stops) in
        record {
          answer = ap blocks_read (sym refuses);
          starting = λ bs e g. never (sym refuses ∙ g);
          placing = λ bs e g. never (sym refuses ∙ g);
        }

  module _ (start : ℕ) (labels₀ places₀ : List ℕ) (at total i : ℕ) (labels places : List ℕ)
      (h : Blocked start n.blocks labels₀ places₀ at 0 total i labels places) where
    abbrev Done : List (List (Placed Instruction)) → Type 0
    Done bs = (labels ≡ sets labels₀ 0 (starts 0 bs)) × (places ≡ sets places₀ 0 (ats (flatten bs))) × (total ≡ length (flatten bs))

    all_done : (bs : List (List (Placed Instruction))) (e : ℕ)
        → ((rest : List (List (Placed Instruction))) × (all (4096 - total) 0 at ≡ took rest e)
        × (sets labels₀ 0 (starts 0 bs) ≡ sets labels i (starts total rest))
        × (sets places₀ 0 (ats (flatten bs)) ≡ sets places total (ats (flatten rest)))
        × (length (flatten bs) ≡ total + length (flatten rest)))
        → Done bs
    unfolding flatten
    all_done bs e (rest, e₁, started, stored, counted) =
        let none_left = (within-done length block (4096 - total) at e₁).0 in (
          sym (started ∙ ap (λ (l : List (List (Placed Instruction))). sets labels i (starts total l)) none_left),
          sym (stored ∙ ap (λ (l : List (List (Placed Instruction))). sets places total (ats (flatten l))) none_left),
          sym (counted ∙ ap (λ (l : List (List (Placed Instruction))). total + length (flatten l)) none_left ∙ add-zero total),
        )

    -- nothing is left: the tables are filled
    pub blocked_last : FillsBlocks (blocks s n) start labels₀ places₀ (Ok (record { end = at; total = total })) labels places
    unfolding blocks
    blocked_last =
        let (bs, taken) = shape-took (h.ends ∙ within_none length block (4096 - total) (Ok at)) in
        record {
          answer = ap (λ (u : ℕ). Ok (record { end = at; total = u })) (all_done bs at (h.tables bs at taken)).2 ∙ ap blocks_read (sym taken);
          starting = λ bs e g. (all_done bs e (h.tables bs e g)).0;
          placing = λ bs e g. (all_done bs e (h.tables bs e g)).1;
        }
