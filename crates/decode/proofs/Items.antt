-- Of an image that was taken, for the layers above: where the items of its program stand, and which bounds they keep.
-- Each statement is about the loader's tables `tables_from s` and the program P alone.
use Prim.Native.Nat.{ℕ, ◌≤◌, ◌<◌}
use native.Mathlib.Omega.{arith}
use mathlib.Core.Path.{◌≡◌, refl, sym, ap, subst, ◌∙◌}
use mathlib.Core.List.{List, [], ◌∷◌, map, flatten}
use lib.ListN.{length, get_or, replicate, length-map, length-replicate}
use lib.Seq.{length-sets}
use Rattle.std.specs.Prelude.{Ok}
use Rattle.image.specs.Parse.{Got, took}
use Rattle.image.specs.Program.{Program, Instruction, no_function, function_at, code, place_of}
use Rattle.image.specs.Image.{Image, image, program_of, loaded}
use Rattle.image.specs.Written.{length_and}
use Rattle.image.specs.Written as W
use Rattle.loader.specs.declared.load.Loaded.{Loaded}
use Rattle.loader.specs.Tables.{ats, tables_of, tables_from, loaded_of, loaded_from}
use Rattle.loader.proofs.Turn.{then_took}
use Rattle.image.specs.Limits.{Each, IsInstruction, IsFunctionItem, counts_of, WithinLimits, AreBytes}
use Rattle.image.proofs.Takes.{each_append}
use Rattle.image.proofs.Writes.{function_spells, instruction_spells, loaded-within}
use Rattle.image.specs.Standing.{Stands}
use Rattle.image.proofs.Parts.{same-value, same_place}
use Rattle.image.proofs.Spells.{alone, bytes_spells}
use Rattle.decode.proofs.Taken.{image-took}
use Rattle.decode.proofs.Leads.{each_at, instruction-at, function-at, constants-few, constant-at, label_at, code-length}
use Rattle.machine.proofs.Kept.{flatten_front}

-- ---- the image behind a loaded program

record Behind (s : List ℕ) (P : Program) (e : ℕ) : Type 0 where
  image' : Image
  takes : image s ≡ took image' e
  program : program_of image' ≡ P

behind : (s : List ℕ) (P : Program) (e : ℕ) → loaded s ≡ took P e → Behind s P e
unfolding loaded
behind s P e h =
    let (i, m, e₁, e₂) = then_took (image s) (λ i end. took (program_of i) end) h in
    record { image' = i; takes = e₁ ∙ ap (took i) (same_place e₂); program = same-value e₂ }

-- the loader answers its tables
pub tables-given : (s : List ℕ) (P : Program) (e : ℕ) → loaded s ≡ took P e → loaded_from s ≡ Ok (tables_from s)
tables-given s P e h = let b = behind s P e h in ap loaded_of b.takes ∙ ap (λ (g : Got Image). Ok (tables_of g)) (sym b.takes)

-- what holds of every block's instructions holds of the flat list's
pub flat_each : (ok : Instruction → Type 0) (bs : List (List Instruction)) → Each (Each ok) bs → Each ok (flatten bs)
unfolding flatten Each
flat_each ok [] h = tt
flat_each ok (b ∷ bs) h = each_append ok b (flatten bs) h.0 (flat_each ok bs h.1)

-- the loader's counts are the program's
pub record Counted (l : Loaded) (P : Program) : Type 0 where
  pub variables : l.counts.variables ≡ P.variables
  pub constants : l.counts.constants ≡ length P.constants
  pub functions : l.counts.functions ≡ length P.functions
  pub blocks : l.counts.blocks ≡ length P.blocks
  pub instructions : l.instructions ≡ length (code P)

module _ (s : List ℕ) (bytes : AreBytes s) (P : Program) (e : ℕ) (h : loaded s ≡ took P e) where
  from_image : (C : Loaded → Program → Type 0) → ((i : Image) → image s ≡ took i e → C (tables_of (took i e)) (program_of i)) → C (tables_from s) P
  from_image C f =
      let b = behind s P e h in
      subst (C (tables_from s)) b.program (subst (λ (l : Loaded). C l (program_of b.image')) (ap tables_of (sym b.takes)) (f b.image' b.takes))

  -- ---- places

  -- instruction k stands at its place
  pub instruction-stands : (d : Instruction) (k : ℕ) → k < length (code P) → Stands s (get_or (tables_from s).places k 0) (W.instruction (get_or (code P) k d))
  instruction-stands d k =
      from_image (λ l P. k < length (code P) → Stands s (get_or l.places k 0) (W.instruction (get_or (code P) k d)))
      (λ i takes lt.
      let (n, t) = image-took s i e takes in
      let r = instruction-at s bytes i n e t d k lt in
      record { past = r.after; end = r.next; stand = (alone (instruction_spells bytes n) _ r.next _ r.reads).stands })

  -- function f stands at its place
  pub function-stands : (f : ℕ) → f < length P.functions → Stands s (get_or (tables_from s).functions f 0) (W.function (function_at P f))
  unfolding program_of
  function-stands f =
      from_image (λ l P. f < length P.functions → Stands s (get_or l.functions f 0) (W.function (function_at P f)))
      (λ i takes lt.
      let (n, t) = image-took s i e takes in
      let r = function-at s bytes i n e t f (omega (arith, length-map i.functions (λ x. x.item))) in
      record { past = r.after; end = r.next; stand = (alone (function_spells bytes n) _ r.next _ r.reads).stands })

  -- constant c stands at its place: its length and its bytes
  pub constant-stands : (c : ℕ) → c < length P.constants → Stands s (get_or (tables_from s).constants c 0) (length_and (get_or P.constants c []))
  unfolding program_of
  constant-stands c =
      from_image (λ l P. c < length P.constants → Stands s (get_or l.constants c 0) (length_and (get_or P.constants c [])))
      (λ i takes lt.
      let (n, t) = image-took s i e takes in
      let r = constant-at s bytes i n e t c (omega (arith, length-map i.constants (λ x. x.item))) in
      record { past = r.after; end = r.next; stand = (alone (bytes_spells bytes r.left) _ r.next _ r.reads).stands })

  -- "A label is a block's position; an empty block's label means the next instruction in the flat list."
  pub label_leads : (l : ℕ) → l < length P.blocks → get_or (tables_from s).labels l 0 ≡ place_of P l
  unfolding program_of
  label_leads l =
      from_image (λ t P. l < length P.blocks → get_or t.labels l 0 ≡ place_of P l)
      (λ i takes lt.
      let (n, t) = image-took s i e takes in
      label_at s bytes i n e t l (omega (arith, length-map i.blocks (λ b. map (λ x. x.item) b))))

  pub counted : Counted (tables_from s) P
  unfolding tables_of program_of
  counted =
      from_image Counted
      (λ i takes.
      let (n, t) = image-took s i e takes in
      record {
        variables = refl;
        constants = sym (length-map i.constants (λ x. x.item));
        functions = sym (length-map i.functions (λ x. x.item));
        blocks = sym (length-map i.blocks (λ b. map (λ x. x.item) b));
        instructions = code-length s bytes i n e t;
      })

  -- the places of all constants are in their table
  pub constants-room : length P.constants ≤ length (tables_from s).constants
  unfolding tables_of program_of
  constants-room =
      from_image (λ l P. length P.constants ≤ length l.constants)
      (λ i takes.
      let (n, t) = image-took s i e takes in
      omega (arith, constants-few s bytes i n e t, length-map i.constants (λ x. x.item), length-sets (replicate 64 0) 0 (ats i.constants), length-replicate {A = ℕ} 64 0))

  -- ---- bounds

  -- every limit of the document
  pub within-limits : WithinLimits P
  within-limits = loaded-within s P e bytes h

  -- instruction k names variables, labels, constants and functions that there are, and its bits are its kind's
  pub instruction-within : (d : Instruction) (k : ℕ) → k < length (code P) → IsInstruction (counts_of P) (get_or (code P) k d)
  instruction-within d k = each_at (IsInstruction (counts_of P)) (code P) (flat_each (IsInstruction (counts_of P)) P.blocks within-limits.blocks) d k

  pub function-within : (f : ℕ) → f < length P.functions → IsFunctionItem (counts_of P) (function_at P f)
  function-within f = each_at (IsFunctionItem (counts_of P)) P.functions within-limits.functions no_function f

  pub code-within : length (code P) ≤ 4096
  code-within = within-limits.instruction_count

  pub place-within : (l : ℕ) → place_of P l ≤ 4096
  place-within l = omega (arith, flatten_front l P.blocks, code-within)
