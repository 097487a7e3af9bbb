-- The entry's answers: an image that is taken is walked to its end, so the buffer starts with its bytes, which are its program's.
use Rattle.std.specs.Prelude.{Result, Ok, Err}
use Prim.Native.Nat.{ℕ, ◌≤◌, ◌<◌}
use native.Mathlib.Omega.{arith}
use mathlib.Core.Path.{◌≡◌, refl, sym, ap, ap₂, ◌∙◌}
use mathlib.Core.List.{List, ◌++◌}
use lib.ListN.{length, take, drop}
use lib.Seq.{take-length}
use lib.Dec.{leb}
use borrow.Author.Tests.{le-leb, lt-leb}
use Rattle.value.specs.Refusal.{over_limit, short_buffer}
use Rattle.image.specs.Parse.{took, refused, and_then}
use Rattle.image.specs.Image.{program_of, loaded}
use Rattle.image.specs.Program.{Program}
use Rattle.image.specs.declared.number.Stop.{Stop}
use Rattle.loader.specs.declared.load.Loaded.{Loaded}
use Rattle.loader.specs.Tables.{loaded_from}
use Rattle.loader.proofs.Whole.{loaded-took, loaded-refused}
use Rattle.image.specs.Written.{written}
use Rattle.image_writer.specs.Past.{past_whole}
use Rattle.image_writer.specs.Answer.{Kept, Passed, Rewrote, outcome, buffer}
use Rattle.image_writer.specs.declared.writer.Pass.{Pass}
use Rattle.image_writer.specs.declared.writer.WriteError.{WriteError}
use Rattle.image_writer.specs.declared.writer.WriteError.TheVariants.{NotLoaded, Short}
use Rattle.image.proofs.Parts.{picked}
use Rattle.image.proofs.Plain.{plain, loaded-plain}
use Rattle.image.proofs.Writes.{loaded-writes}
use Rattle.image.proofs.Loads.{loaded-end}
use Rattle.image_writer.proofs.Reaches.{plain_reaches}
use Rattle.image.specs.Limits.{AreBytes}

-- ---- what the loader's answer says of the definition's

module _ (s : List ℕ) where
  taken : {l : Loaded} → loaded_from s ≡ Ok l → (P : Program) × (loaded s ≡ took P l.end)
  unfolding loaded and_then
  taken {l} e = let (i, is, tables) = loaded-took s e in (program_of i, rw is refl)

  refused_so : {e : Stop} → loaded_from s ≡ Err e → loaded s ≡ refused e.why e.place
  unfolding loaded and_then
  refused_so e = rw (loaded-refused s e) refl

  -- ---- the answers

  module _ (before : List ℕ) where
    pub image-refused : {e : Stop} → loaded_from s ≡ Err e → Rewrote s before (Err (NotLoaded e)) before
    unfolding outcome buffer
    image-refused e = let r = refused_so e in record { answer = rw r; bytes = rw r }

    module _ (bs : AreBytes s) {l : Loaded} (e : loaded_from s ≡ Ok l) where
      pub too_short : length before < l.end → Rewrote s before (Err (Short short_buffer)) before
      unfolding outcome buffer
      too_short over =
          let t = taken e in
          let long = loaded-end s t.0 l.end bs t.1 ∙ ap length (sym (loaded-writes s t.0 l.end bs t.1)) in
          let b = lt-leb (length (written t.0)) (length before) (omega (arith, long)) in
          record { answer = rw (t.1, b); bytes = rw (t.1, b) }

      pub rewritten : (c r : Pass) (after : List ℕ) → l.end ≤ length before → c.from ≡ 0 → c.to ≡ 0 → Passed s (past_whole s) c before r after → Rewrote s before (Ok r.to) after
      unfolding outcome buffer
      rewritten c r after enough z w h =
          let t = taken e in
          let whole = (picked (leb (length s) 32768) (plain s 0) over_limit 0 t.0 l.end (sym (loaded-plain s) ∙ t.1)).1 in
          let same = loaded-writes s t.0 l.end bs t.1 in
          let all = loaded-end s t.0 l.end bs t.1 in
          let place : r.from ≡ length s = h.place ∙ ap (past_whole s) z ∙ (plain_reaches s).ends 0 l.end t.0 whole ∙ all in
          let start : Kept s before c.from c.to before = record { even = w ∙ sym z; inside = omega arith; front = ap₂ (λ (m n : ℕ). take m s ++ drop n before) (sym z) (sym z) } in
          let k = h.keeps before (omega arith) start in
          let b = le-leb (length (written t.0)) (length before) (omega (arith, ap length same)) in
          let long : r.to ≡ length (written t.0) = k.even ∙ place ∙ ap length (sym same) in
          let bytes : after ≡ written t.0 ++ drop (length (written t.0)) before =
          k.front ∙ ap (λ (n : ℕ). take n s ++ drop n before) place ∙ ap (λ (l : List ℕ). l ++ drop (length s) before) (take-length s) ∙ ap (λ (l : List ℕ). l ++ drop (length l) before) (sym same) in
          record { answer = rw (t.1, b) (ap Ok long); bytes = rw (t.1, b) bytes }

-- ---- two answers that a contract allows are equal

pub one_rewrote : (s before : List ℕ) (r r' : Result ℕ WriteError) (after after' : List ℕ) → Rewrote s before r after → Rewrote s before r' after' → (r ≡ r') × (after ≡ after')
one_rewrote s before r r' after after' h k = (h.answer ∙ sym k.answer, h.bytes ∙ sym k.bytes)
