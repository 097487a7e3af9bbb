-- Each entry of the loader's tables leads to the definition's item: every item of a list was read at the place that is kept of it.
use Prim.Native.Nat.{ℕ, zero, suc, ◌+◌, ◌-◌, ◌≤◌, ◌<◌}
use native.Mathlib.Omega.{arith}
use mathlib.Core.Path.{◌≡◌, refl, sym, ap, subst, ◌∙◌}
use mathlib.Core.List.{List, [], ◌∷◌, ◌++◌, map, map-append, flatten}
use lib.ListN.{length, get_or, take, drop, replicate, length-append, length-map, length-replicate, get_or-append, get_or-map}
use lib.Seq.{sets-eq}
use Rattle.std.proofs.lemmas.List.{get_or_default}
use Rattle.value.specs.Refusal.{over_limit}
use Rattle.image.specs.Parse.{took, Field, Placed, many, within, placed}
use Rattle.image.specs.Fields.{at_most, bytes, list_of}
use Rattle.image.specs.Program.{Instruction, no_function, function_at, code, place_of}
use Rattle.image.specs.Image.{Counts, Image, constants, function, instruction, block, blocks, program_of}
use Rattle.image.specs.Written as W
use Rattle.image.specs.Limits.{Each, AreBytes}
use Rattle.image.proofs.Standing.{forward, stand_forward}
use Rattle.image.proofs.Spells.{Spells, alone, up_to_spells, bytes_spells}
use Rattle.image.proofs.Writes.{Counted, header_spells, function_spells, instruction_spells}
use Rattle.image.proofs.Takes.{each_append}
use Rattle.loader.specs.Tables.{ats, starts, table, tables_of}
use Rattle.loader.proofs.Turn.{then_took, within-took, within-done, many-within, placed-took}
use Rattle.loader.proofs.Blocks.{many-length}
use Rattle.decode.proofs.Taken.{Taken, constants-counted, functions-counted, blocks-counted}

-- ---- lists whose every item was read at its place

pub each_at : {A : Type 0} (ok : A → Type 0) (xs : List A) → Each ok xs → (d : A) (k : ℕ) → k < length xs → ok (get_or xs k d)
unfolding Each
each_at ok [] h d k lt = absurd (omega arith)
each_at ok (x ∷ xs) h d zero lt = h.0
each_at ok (x ∷ xs) h d (suc k) lt = each_at ok xs h.1 d k (omega arith)

-- an item was read at its place, which is not before `from`, by a field of p
pub record Read {A : Type 0} (p : ℕ → Field A) (from : ℕ) (x : Placed A) : Type 0 where
  pub after : from ≤ x.at
  pub left : ℕ
  pub next : ℕ
  pub reads : p left x.at ≡ took x.item next

-- a field never ends before it begins
pub record Forward {A : Type 0} (p : ℕ → Field A) : Type 0 where
  pub on : (left at : ℕ) (a : A) (next : ℕ) → p left at ≡ took a next → at ≤ next

spelt_forward : {A : Type 0} (s : List ℕ) (p : ℕ → Field A) (w : A → List W.Piece) (ok : ℕ → A → Type 0) → ((left : ℕ) → Spells s [] (p left) w (ok left)) → Forward p
spelt_forward s p w ok sp = record { on = λ left at a next h. stand_forward s at (w a) next (alone (sp left) at next a h).stands }

module _ {A : Type 0} (p : ℕ → Field A) (on : Forward p) (from : ℕ) where
  within-each : (size : Placed A → ℕ) (left n at : ℕ) (xs : List (Placed A)) (e : ℕ) → from ≤ at
      → within size left n (λ left. placed (p left)) at ≡ took xs e → Each (Read p from) xs × (from ≤ e)
  unfolding Each
  within-each size left zero at xs e le h =
      let (is, ends) = within-done size (λ left. placed (p left)) left at h in
      (subst (Each (Read p from)) (sym is) tt, omega arith)
  within-each size left (suc n) at xs e le h =
      let (x, m, ys, e₁, e₂, is) = within-took size (λ left. placed (p left)) left n at h in
      let (e₃, x-at) = placed-took p left at e₁ in
      let (more, last) = within-each size (left - size x) n m ys e (omega (arith, on.on left at x.item m e₃)) e₂ in
      let first : Read p from x = record { after = omega arith; left = left; next = m; reads = ap (p left) x-at ∙ e₃ } in
      (subst (Each (Read p from)) (sym is) (first, more), last)

many-each : {A : Type 0} (p : Field A) → Forward (λ left. p) → (from n at : ℕ) (xs : List (Placed A)) (e : ℕ) → from ≤ at → many n (placed p) at ≡ took xs e
    → Each (Read (λ left. p) from) xs × (from ≤ e)
many-each p on from n at xs e le h = within-each (λ left. p) on from (λ x. 0) 0 n at xs e le (sym (many-within (placed p) n at) ∙ h)

module _ (s : List ℕ) (ok : AreBytes s) where
  instruction_forward : (n : Counts) → Forward (λ left. instruction s n)
  instruction_forward n = spelt_forward s (λ left. instruction s n) W.instruction _ (λ left. instruction_spells ok n)

  blocks-each : (n : Counts) (from left m at : ℕ) (bs : List (List (Placed Instruction))) (e : ℕ) → from ≤ at
      → within length left m (block s (placed (instruction s n))) at ≡ took bs e → Each (Read (λ left. instruction s n) from) (flatten bs) × (length (flatten bs) ≤ left)
  unfolding list_of Each flatten
  blocks-each n from left zero at bs e le h =
      let is = (within-done length (block s (placed (instruction s n))) left at h).0 in
      (subst (λ (l : List (List (Placed Instruction))). Each (Read (λ left. instruction s n) from) (flatten l)) (sym is) tt, omega (arith, ap (λ (l : List (List (Placed Instruction))). length (flatten l)) is))
  blocks-each n from left (suc m) at bs e le h =
      let (b, at', more-bs, e₁, e₂, is) = within-took length (block s (placed (instruction s n))) left m at h in
      let (k, m', e₃, e₄) = then_took (at_most s left at) (λ k m. many k (placed (instruction s n)) m) e₁ in
      let counted = alone (up_to_spells ok left over_limit) at m' k e₃ in
      let (here, on) = many-each (instruction s n) (instruction_forward n) from k m' b at' (omega (arith, stand_forward s at (W.number k) m' counted.stands)) e₄ in
      let (g, small) = blocks-each n from (left - length b) m at' more-bs e on e₂ in
      let size = many-length (placed (instruction s n)) k m' e₄ in (
        subst (λ (l : List (List (Placed Instruction))). Each (Read (λ left. instruction s n) from) (flatten l)) (sym is) (each_append _ b (flatten more-bs) here g),
        omega (arith, counted.fits, ap (λ (l : List (List (Placed Instruction))). length (flatten l)) is, length-append b (flatten more-bs)),
      )

-- ---- the tables

-- what a table holds at k
held : (size : ℕ) (xs : List ℕ) (k : ℕ) → length xs ≤ size → k < length xs → get_or (table size xs) k 0 ≡ get_or xs k 0
held size xs k room lt =
    ap (λ (l : List ℕ). get_or l k 0) (sets-eq xs (replicate size 0) 0 (omega (arith, length-replicate {A = ℕ} size 0)))
    ∙ get_or-append xs (drop (0 + length xs) (replicate size 0)) 0 k lt

-- at the place that a table holds at k, the item k is read
module _ {A : Type 0} (p : ℕ → Field A) (from size : ℕ) (xs : List (Placed A)) (each : Each (Read p from) xs) (room : length xs ≤ size) (d : Placed A) (k : ℕ) (lt : k < length xs) where
  leads : Read p from (record { at = get_or (table size (ats xs)) k 0; item = get_or (map (λ x. x.item) xs) k d.item })
  leads =
      let r = each_at (Read p from) xs each d k lt in record {
        after = omega (arith, r.after, place_is);
        left = r.left;
        next = r.next;
        reads = ap (p r.left) place_is ∙ r.reads ∙ ap (λ (a : A). took a r.next) (sym (get_or-map (λ x. x.item) xs k d));
      }
    where
      place_is : get_or (table size (ats xs)) k 0 ≡ (get_or xs k d).at
      place_is =
          held size (ats xs) k (omega (arith, length-map xs (λ x. x.at))) (omega (arith, length-map xs (λ x. x.at)))
          ∙ get_or_default (ats xs) k 0 d.at (omega (arith, length-map xs (λ x. x.at))) ∙ get_or-map (λ x. x.at) xs k d

-- the flat list of instructions, and where a label leads in it
flat_items : (bs : List (List (Placed Instruction))) → map (λ x. x.item) (flatten bs) ≡ flatten (map (λ b. map (λ x. x.item) b) bs)
unfolding flatten
flat_items [] = refl
flat_items (b ∷ bs) = map-append (λ x. x.item) b (flatten bs) ∙ ap (λ (l : List Instruction). map (λ x. x.item) b ++ l) (flat_items bs)

start-at : (total : ℕ) (bs : List (List (Placed Instruction))) (l : ℕ) → l < length bs
    → get_or (starts total bs) l 0 ≡ total + length (flatten (take l (map (λ b. map (λ x. x.item) b) bs)))
unfolding flatten
start-at total [] l h = absurd (omega arith)
start-at total (b ∷ bs) zero h = omega arith
start-at total (b ∷ bs) (suc l) h =
    start-at (total + length b) bs l (omega arith)
    ∙ omega (arith, length-append (map (λ x. x.item) b) (flatten (take l (map (λ b. map (λ x. x.item) b) bs))), length-map b (λ x. x.item))

starts-length : (total : ℕ) (bs : List (List (Placed Instruction))) → length (starts total bs) ≡ length bs
starts-length total [] = refl
starts-length total (b ∷ bs) = ap suc (starts-length (total + length b) bs)

-- ---- of an image that was taken

module _ (s : List ℕ) (ok : AreBytes s) (i : Image) (n : Counts) (e : ℕ) (t : Taken s i n e) where
  limits : Counted n
  limits = (alone (header_spells ok) 0 t.at₁ n t.heads).fits

  header-past : 1 ≤ t.at₁
  header-past =
      let (m, first, rest) = (alone (header_spells ok) 0 t.at₁ n t.heads).stands in
      omega (arith, forward s 0 1 m first, stand_forward s m (W.num n.variables ∷ W.num n.constants ∷ W.num n.functions ∷ W.num n.blocks ∷ []) t.at₁ rest)

  constants-read : Each (Read (bytes s) 1) i.constants × (1 ≤ t.at₂)
  unfolding constants
  constants-read = within-each (bytes s) (spelt_forward s (bytes s) W.length_and _ (bytes_spells ok)) 1 _ 8192 n.constants t.at₁ i.constants t.at₂ header-past t.its_constants

  functions-read : Each (Read (λ left. function s n) 1) i.functions × (1 ≤ t.at₃)
  functions-read =
      many-each (function s n) (spelt_forward s (λ left. function s n) W.function _ (λ left. function_spells ok n)) 1 n.functions t.at₂ i.functions t.at₃ constants-read.1 t.its_functions

  blocks-read : Each (Read (λ left. instruction s n) 1) (flatten i.blocks) × (length (flatten i.blocks) ≤ 4096)
  unfolding blocks
  blocks-read = blocks-each s ok n 1 4096 n.blocks t.at₃ i.blocks e functions-read.1 t.its_blocks

  -- how many instructions there are
  pub code-length : length (flatten i.blocks) ≡ length (code (program_of i))
  unfolding program_of
  code-length = sym (length-map (flatten i.blocks) (λ x. x.item)) ∙ ap length (flat_items i.blocks)

  -- the instruction at place k
  pub instruction-at : (d : Instruction) (k : ℕ) → k < length (code (program_of i))
      → Read (λ left. instruction s n) 1 (record { at = get_or (tables_of (took i e)).places k 0; item = get_or (code (program_of i)) k d })
  unfolding tables_of program_of
  instruction-at d k lt =
      subst (λ (l : List Instruction). Read (λ left. instruction s n) 1 (record { at = get_or (table 4096 (ats (flatten i.blocks))) k 0; item = get_or l k d })) (flat_items i.blocks)
      (leads (λ left. instruction s n) 1 4096 (flatten i.blocks) blocks-read.0 blocks-read.1 (record { at = 0; item = d }) k (omega (arith, code-length)))

  -- the function k
  pub function-at : (k : ℕ) → k < length i.functions
      → Read (λ left. function s n) 1 (record { at = get_or (tables_of (took i e)).functions k 0; item = function_at (program_of i) k })
  unfolding tables_of program_of
  function-at k lt =
      leads (λ left. function s n) 1 64 i.functions functions-read.0 (omega (arith, functions-counted s i n e t, limits.functions))
      (record { at = 0; item = no_function }) k lt

  pub constants-few : length i.constants ≤ 64
  constants-few = omega (arith, constants-counted s i n e t, limits.constants)

  -- the constant k: its length and its bytes
  pub constant-at : (k : ℕ) → k < length i.constants
      → Read (bytes s) 1 (record { at = get_or (tables_of (took i e)).constants k 0; item = get_or (program_of i).constants k [] })
  unfolding tables_of program_of
  constant-at k lt =
      leads (bytes s) 1 64 i.constants constants-read.0 constants-few (record { at = 0; item = [] }) k lt

  -- the label l: the position of its first instruction
  pub label_at : (l : ℕ) → l < length i.blocks → get_or (tables_of (took i e)).labels l 0 ≡ place_of (program_of i) l
  unfolding tables_of program_of
  label_at l lt =
      held 512 (starts 0 i.blocks) l (omega (arith, starts-length 0 i.blocks, blocks-counted s i n e t, limits.blocks)) (omega (arith, starts-length 0 i.blocks))
      ∙ start-at 0 i.blocks l lt ∙ omega arith
