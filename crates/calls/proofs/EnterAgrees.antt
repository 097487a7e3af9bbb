-- A Call's memory part is the believed one: the room test answers the refusal of the push and of the slots, and where there is room the tables after are the believed memory.
use Rattle.std.specs.Prelude.{Result, Ok, Err, ⊤}
use Prim.Native.Nat.{ℕ, ◌+◌, ◌*◌, ◌<◌, ◌≤◌}
use native.Mathlib.Omega.{arith}
use mathlib.Core.Path.{◌≡◌, sym, ap, ◌∙◌}
use mathlib.Core.List.{List}
use lib.ListN.{length, get_or, set, length-set}
use lib.Seq.{get_or-set_same}
use lib.Dec.{leb}
use borrow.Author.Tests.{eq-eqb, le-ltb, leb-false}
use Rattle.value.specs.declared.refusal.Refusal.{Refusal}
use Rattle.value.specs.Answer.{Answer, ok, refused, ◌>>=◌}
use Rattle.value.specs.Refusal.{frames_full}
use Rattle.image.specs.Program.{Slot}
use Rattle.memory.specs.declared.Registers.{Registers}
use Rattle.memory.specs.Memory.{Memory, push_frame}
use Rattle.memory.specs.Tables.{Both, both, Tables, live, pushed_of}
use Rattle.memory.specs.View.{view, back_in, after_push}
use Rattle.memory.proofs.Every.{by_test}
use Rattle.memory.proofs.Facts.{Sound, ready_test}
use Rattle.memory.proofs.Frames.{push_tables, push-view, push-sound}
use Rattle.machine.specs.Machine.{Vars, make_slots}
use Rattle.machine.specs.Believed.{believed}
use Rattle.calls.specs.Room.{frame_room_of, room_in_of, call_room_of, slots_room_of}
use Rattle.calls.specs.Code.{entered, slots_made_of, entered_of}
use Rattle.calls.specs.declared.fields.Callee.{Callee}
use Rattle.calls.proofs.Rooms.{by_room, not_first, both_done}
use Rattle.calls.proofs.SlotsAgree.{SlotsRead, pointed, slots_room, slots-refused, slots-made}
use Rattle.image.specs.Limits.{AreBytes}

-- ---- the frame

abbrev frame_room : Tables → Result ⊤ Refusal
frame_room t = frame_room_of t.registers.depth t.registers.counter

module _ (t : Tables) (so : Sound t) (place variable : ℕ) where
  -- where there is room for it
  abbrev pushed_where : Result ⊤ Refusal → Both (Result Registers Refusal)
  pushed_where (Ok u) = both (Ok (push_tables t place variable).registers) (push_tables t place variable).frames
  pushed_where (Err n) = both (Err n) t.frames

  where_frame : pushed_of t.registers place variable t.frames ≡ pushed_where (frame_room t)
  unfolding pushed_of frame_room_of
  where_frame =
      let l = eq-eqb _ _ so.ready.frames in
      by_test (leb 64 t.registers.depth)
      (λ w. simp (l, w))
      (λ w. by_test (leb 4294967295 t.registers.counter) (λ v. simp (l, w, v)) (λ v. simp (l, w, v)))

  frame_refused : (n : Refusal) → frame_room t ≡ Err n → push_frame (view t) (back_in place variable) ≡ refused n
  unfolding after_push
  frame_refused n e = sym (push-view t so place variable) ∙ ap (after_push t) (where_frame ∙ ap pushed_where e)

  module _ (e : frame_room t ≡ Ok tt) where
    frame-given : pushed_of t.registers place variable t.frames ≡ both (Ok (push_tables t place variable).registers) (push_tables t place variable).frames
    frame-given = where_frame ∙ ap pushed_where e

    frame-seen : push_frame (view t) (back_in place variable) ≡ ok (view (push_tables t place variable))
    unfolding after_push
    frame-seen = sym (push-view t so place variable) ∙ ap (after_push t) frame-given

    frame-sound : place ≤ 4096 → variable ≤ 256 → Sound (push_tables t place variable)
    frame-sound hp hv = rw frame-given at (push-sound t so place variable hp hv (push_tables t place variable).registers (ap (λ (b : Both (Result Registers Refusal)). b.answer) frame-given))

    not_deep : t.registers.depth < 64
    unfolding frame_room_of
    not_deep = leb-false 64 t.registers.depth (not_first (leb 64 t.registers.depth) frames_full _ e).0

    live_same : live (push_tables t place variable) ≡ live t
    live_same =
        let h = not_deep in
        let l = so.ready.frames in
        let k : (t.registers.depth + 1) * 4 + 3 ≡ t.registers.depth * 4 + 7 = omega arith in
        let words = set (set (set t.frames (t.registers.depth * 4) t.registers.counter) (t.registers.depth * 4 + 1) place) (t.registers.depth * 4 + 2) variable in
        let long : length words ≡ length t.frames = simp length-set in
        ap (λ j. get_or (push_tables t place variable).frames j 0) k ∙ get_or-set_same words (t.registers.depth * 4 + 7) (live t) 0 (omega arith)

-- ---- the frame and its slots

-- what a Call with room makes: tables that are sound again and are the believed memory
pub record EnterMade (s : List ℕ) (to : ℕ) (f : Callee) (xs : List Slot) (t : Tables) : Type 0 where
  pub after : Tables
  pub entered' : entered_of s to f t ≡ entered (Ok after.registers) after.store after.frames after.bounds after.pointers
  pub sound : Sound after
  pub seen : (vs : Vars) → (push_frame (view t) (back_in t.registers.next to) >>= λ m. make_slots believed xs m vs) ≡ ok (view after, pointed xs t.registers.pointers vs)
  pub running : after.registers.running ≡ t.registers.running
  pub bytes : AreBytes t.store → AreBytes after.store

abbrev pub room_in : (image : List ℕ) → Callee → Tables → Result ⊤ Refusal
room_in s f t = room_in_of t.registers s f (length t.store) t.frames t.bounds (length t.pointers)

abbrev pub call_room : (image : List ℕ) → Callee → Tables → Result ⊤ Refusal
call_room s f t = call_room_of t.registers s f (length t.store) t.frames t.bounds (length t.pointers)

module _ (s : List ℕ) (f : Callee) (xs : List Slot) (t : Tables) (so : Sound t) (counted : f.count ≡ length xs) where
  -- a start's slots are tested as the believed memory's are made
  pub room_in_lem : room_in s f t ≡ slots_room s f.slots xs t
  unfolding room_in_of
  room_in_lem = simp (ready_test _ _ _ _ _ _ so.ready, le-ltb 512 (live t) so.few, counted)

  module _ (read : SlotsRead s f.slots xs) (to : ℕ) where
    abbrev place : ℕ
    place = t.registers.next

    abbrev on : Vars → Memory → Answer (Memory × Vars)
    on vs m = make_slots believed xs m vs

    slots_same : (e : frame_room t ≡ Ok tt) → call_room s f t ≡ slots_room s f.slots xs (push_tables t place to)
    unfolding call_room_of
    slots_same e =
        rw e
        (room_in_lem ∙ sym (ap (λ k. slots_room_of s (length xs) f.slots k (get_or t.bounds k 0) t.registers.pointers) (live_same t so place to e)))

    frame-first : (n : Refusal) → frame_room t ≡ Err n → call_room s f t ≡ Err n
    unfolding call_room_of
    frame-first n e = rw e

    frame-room : call_room s f t ≡ Ok tt → frame_room t ≡ Ok tt
    unfolding call_room_of
    frame-room e = (both_done (frame_room t) _ e).0

    seen-frame : (vs : Vars) → frame_room t ≡ Ok tt → (push_frame (view t) (back_in place to) >>= on vs) ≡ on vs (view (push_tables t place to))
    unfolding ◌>>=◌
    seen-frame vs e = ap (λ a. a >>= on vs) (frame-seen t so place to e)

    seen_none : (vs : Vars) (n : Refusal) → frame_room t ≡ Err n → (push_frame (view t) (back_in place to) >>= on vs) ≡ refused n
    unfolding ◌>>=◌
    seen_none vs n e = ap (λ a. a >>= on vs) (frame_refused t so place to n e)

    made-frame : frame_room t ≡ Ok tt → entered_of s to f t ≡ slots_made_of s (length xs) f.slots (push_tables t place to)
    unfolding entered_of
    made-frame e = rw (frame-given t so place to e, counted)

    module _ (hp : place ≤ 4096) (hv : to ≤ 256) where
      -- the room test answers what the push and the slots are refused with
      pub enter-refused : (n : Refusal) → call_room s f t ≡ Err n → (vs : Vars) → (push_frame (view t) (back_in place to) >>= on vs) ≡ refused n
      enter-refused n e vs =
          by_room (frame_room t)
          (λ d. seen-frame vs d ∙ slots-refused s xs f.slots (push_tables t place to) (frame-sound t so place to d hp hv) read n (sym (slots_same d) ∙ e) vs)
          (λ k d. seen_none vs n (d ∙ sym (frame-first k d) ∙ e))

      pub enter-made : call_room s f t ≡ Ok tt → EnterMade s to f xs t
      enter-made e =
          let z = frame-room e in
          let slots = slots-made s xs f.slots (push_tables t place to) (frame-sound t so place to z hp hv) read (sym (slots_same z) ∙ e) in
          record {
            after = slots.after;
            entered' = made-frame z ∙ slots.made';
            sound = slots.sound;
            seen = λ vs. seen-frame vs z ∙ slots.seen vs;
            running = ap (λ m. m.running) slots.kept;
            bytes = slots.bytes;
          }
