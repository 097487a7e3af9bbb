-- Initialize's own write is never refused: its pointer is new, its bytes fit, and offset 0 is aligned.
use Prim.Native.Nat.{ℕ, ◌+◌, ◌-◌, ◌≤◌, ◌<◌}
use native.Mathlib.Nat.{zero-add, zero-mod}
use native.Mathlib.Omega.{arith}
use mathlib.Core.Path.{◌≡◌, ap, ◌∙◌}
use mathlib.Core.List.{List, [], ◌∷◌, ◌++◌}
use lib.ListN.{length, set, replicate, length-set, length-replicate}
use lib.Seq.{get_or-set_same, get_or-append_seam}
use lib.Dec.{T, ltb, leb, eqb, eqb_refl, lt→ltb, le→leb}
use mir.Facts.{yes_and}
use Rattle.std.proofs.lemmas.List.{length_push}
use Rattle.value.specs.Refusal.{beyond_length, frame_gone, misaligned, no_allocation, not_given_out}
use Rattle.value.specs.Answer.{ok}
use Rattle.memory.specs.Memory.{Memory, Frame, Pointer, constant, local, divides, no_frame, frame_at, stands, bytes_at, access, written, with_allocations, allocated, write_at, write_bytes}
use Rattle.machine.proofs.Agree.{need_yes}

module _ (m : Memory) (n : ℕ) (bs : List ℕ) (root : 0 < length m.frames) (fit : length bs ≤ n) where
  pub granted : write_bytes (allocated m n) (length m.pointers) bs
      ≡ ok (written (allocated m n) (length m.frames - 1) (length (frame_at m.frames (length m.frames - 1)).allocations) 0 bs)
  unfolding write_bytes write_at access
  granted =
      let t : ℕ = length m.frames - 1 in
      let f : Frame = frame_at m.frames t in
      let l : t < length m.frames = omega (arith, root) in
      let new : Frame = with_allocations f (f.allocations ++ (replicate n 0 ∷ [])) in
      let there : frame_at (set m.frames t new) t ≡ new = get_or-set_same m.frames t new no_frame l in
      let q : Pointer = local t f.id (length f.allocations) 0 in
      let t25 : T (ltb (length m.pointers) (length (m.pointers ++ (q ∷ [])))) = lt→ltb (length m.pointers) (length (m.pointers ++ (q ∷ []))) (rw length_push (omega arith)) in
      let t27 : T (stands (set m.frames t new) t f.id) = yes_and (ltb t (length (set m.frames t new))) (eqb (frame_at (set m.frames t new) t).id f.id)
      (lt→ltb t (length (set m.frames t new)) (rw length-set l)) (rw there (eqb_refl f.id)) in
      let t28 : T (ltb (length f.allocations) (length (frame_at (set m.frames t new) t).allocations)) =
      lt→ltb (length f.allocations) (length (frame_at (set m.frames t new) t).allocations) (rw (there, length_push) (omega arith)) in
      let t29 : T (leb (0 + length bs) (length (bytes_at (set m.frames t new) t (length f.allocations)))) =
      le→leb (0 + length bs) (length (bytes_at (set m.frames t new) t (length f.allocations))) (rw (there, get_or-append_seam f.allocations (replicate n 0) [] [], length-replicate, zero-add) fit) in
      let t30 : T (divides (length bs) 0) = rw zero-mod tt in
      need_yes (ltb (length m.pointers) (length (m.pointers ++ (q ∷ [])))) not_given_out _ t25
      ∙ ap (λ (r : Pointer). write_at (allocated m n) r bs) (get_or-append_seam m.pointers q [] (constant 0))
      ∙ need_yes (stands (set m.frames t new) t f.id) frame_gone _ t27
      ∙ need_yes (ltb (length f.allocations) (length (frame_at (set m.frames t new) t).allocations)) no_allocation _ t28
      ∙ need_yes (leb (0 + length bs) (length (bytes_at (set m.frames t new) t (length f.allocations)))) beyond_length _ t29
      ∙ need_yes (divides (length bs) 0) misaligned _ t30
