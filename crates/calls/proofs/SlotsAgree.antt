-- Room for slots is the believed memory's: the test answers the refusal that making them would meet, and where there is room the tables after are the believed memory.
use Rattle.std.specs.Prelude.{Result, Ok, Err, ⊤}
use Rattle.std.specs.Result.{result_and}
use Prim.Native.Nat.{ℕ, zero, suc, ◌+◌, ◌-◌, ◌*◌, ◌<◌}
use native.Mathlib.Omega.{arith}
use mathlib.Core.Bool.{true, false}
use mathlib.Core.Path.{◌≡◌, refl, sym, ap, ◌∙◌}
use mathlib.Core.List.{List, [], ◌∷◌}
use lib.ListN.{length, get_or, set}
use lib.Seq.{get_or-set_same, get_or-set_other, set_out}
use lib.Dec.{ltb, leb, eqb}
use borrow.Author.Tests.{ne_eqb, le-ltb, eqb-true, eqb-false, ltb-true, ltb-false}
use Rattle.value.specs.declared.refusal.Refusal.{Refusal}
use Rattle.value.specs.Answer.{Answer, ok, refused, ◌>>=◌}
use Rattle.value.specs.Value.{value, pointer}
use Rattle.image.specs.Program.{Slot}
use Rattle.memory.specs.Memory.{Memory, allocate}
use Rattle.memory.specs.Tables.{Tables, tables, Out, ready, live, top_first, bound, more, zeroed, made, made_where, allocated_of, with_pointers}
use Rattle.memory.specs.View.{view, after_allocate}
use Rattle.memory.proofs.Every.{by_test}
use Rattle.memory.proofs.Facts.{Sound, ready_test}
use Rattle.memory.proofs.Frames.{firsts_up}
use Rattle.memory.proofs.Pointers.{count-seen}
use Rattle.memory.proofs.Allocating.{allocate-view, allocate-sound}
use Rattle.machine.specs.Machine.{Vars, set_to, make_slots}
use Rattle.machine.specs.Believed.{believed}
use Rattle.calls.specs.Fields.{slot_at}
use Rattle.calls.specs.Room.{slot_room_of, slots_room_of}
use Rattle.calls.specs.Code.{entered, slots_made_of}
use Rattle.calls.proofs.Rooms.{not_done, by_room, both_done, slot_fits}
use Rattle.calls.proofs.Enters.{made_none}
use Rattle.image.specs.Limits.{AreBytes}

-- ---- one slot

abbrev slot_room : Tables → (size : ℕ) → Result ⊤ Refusal
slot_room t size = slot_room_of (live t) (bound t (live t)) t.registers.pointers size

-- the tables with a slot more
abbrev pub slot_tables : Tables → (size : ℕ) → Tables
slot_tables t size = tables (more t.registers) (made t size).store (made t size).frames (made t size).bounds (made t size).pointers

module _ (t : Tables) (so : Sound t) (size : ℕ) where
  in_order : ltb (live t) (top_first t) ≡ false
  in_order =
      let n = t.registers.depth in
      let o = so.some in
      let f = firsts_up t so (n - 1) n (omega arith) (omega arith) in
      let e : n * 4 - 1 ≡ (n - 1) * 4 + 3 = omega arith in
      let q = ap (λ k. get_or t.frames k 0) e in
      le-ltb (live t) (top_first t) (omega arith)

  where_slot : allocated_of t size ≡ made_where t size (slot_room t size)
  unfolding allocated_of slot_room_of
  where_slot =
      let r : ready t ≡ true = ready_test _ _ _ _ _ _ so.ready in
      let d : eqb t.registers.depth 0 ≡ false = ne_eqb t.registers.depth 0 (λ e. let p = so.some in omega arith) in
      let o = in_order in
      by_test (leb 512 (live t)) (λ w. simp (r, d, o, w)) (λ w. simp (r, d, o, w))

  slot-refused : (n : Refusal) → slot_room t size ≡ Err n → allocate (view t) size ≡ refused n
  unfolding after_allocate
  slot-refused n e = sym (allocate-view t so size) ∙ ap after_allocate (where_slot ∙ ap (made_where t size) e)

  module _ (e : slot_room t size ≡ Ok tt) where
    slot-given : allocated_of t size ≡ made t size
    slot-given = where_slot ∙ ap (made_where t size) e

    slot_seen : allocate (view t) size ≡ ok (view (slot_tables t size))
    unfolding after_allocate
    slot_seen = sym (allocate-view t so size) ∙ ap after_allocate slot-given

    slot-sound : Sound (slot_tables t size)
    slot-sound = rw slot-given at (allocate-sound t so size t.registers.pointers (more t.registers) (ap (λ (o : Out). o.answer) slot-given))

    live_more : live (slot_tables t size) ≡ live t + 1
    live_more =
        let h = so.ready.deep in
        let l = so.ready.frames in
        get_or-set_same t.frames (t.registers.depth * 4 + 3) (live t + 1) 0 (omega arith)

    bound-more : bound (slot_tables t size) (live t + 1) ≡ bound t (live t) + size
    bound-more =
        let h = (slot_fits _ _ _ _ e).live in
        let l = so.ready.bounds in
        get_or-set_same t.bounds (live t + 1) (bound t (live t) + size) 0 (omega arith)

-- ---- slots, one after another

-- slots that are read from `at` on
abbrev pub SlotsRead : (image : List ℕ) (at : ℕ) → List Slot → Type 0
SlotsRead s at [] = Unit {0}
SlotsRead s at (x ∷ xs) = (next : ℕ) × (slot_at s at ≡ record { variable = x.var; size = x.size; next = next }) × SlotsRead s next xs

-- the variables of slots, set to pointers from g on
abbrev pub pointed : List Slot → (g : ℕ) → Vars → Vars
pointed [] g vs = vs
pointed (x ∷ xs) g vs = pointed xs (g + 1) (set_to vs x.var (value pointer g))

abbrev pub slots_room : (image : List ℕ) (at : ℕ) → List Slot → Tables → Result ⊤ Refusal
slots_room s at xs t = slots_room_of s (length xs) at (live t) (bound t (live t)) t.registers.pointers

-- what slots with room make: tables that are sound again and are the believed memory, and registers that differ in the number of pointers
pub record SlotsMade (s : List ℕ) (at : ℕ) (xs : List Slot) (t : Tables) : Type 0 where
  pub after : Tables
  pub made' : slots_made_of s (length xs) at t ≡ entered (Ok after.registers) after.store after.frames after.bounds after.pointers
  pub sound : Sound after
  pub seen : (vs : Vars) → make_slots believed xs (view t) vs ≡ ok (view after, pointed xs t.registers.pointers vs)
  pub kept : after.registers ≡ with_pointers t.registers (t.registers.pointers + length xs)
  pub bytes : AreBytes t.store → AreBytes after.store

zero_byte : (l : List ℕ) (i k : ℕ) → get_or l k 0 < 256 → get_or (set l i 0) k 0 < 256
zero_byte l i k h =
    by_test (eqb k i)
    (λ w. by_test (ltb i (length l))
    (λ v. let e = ap (λ j. get_or (set l i 0) j 0) (eqb-true k i w) ∙ get_or-set_same l i 0 0 (ltb-true i (length l) v) in omega arith)
    (λ v. let e = ap (λ r. get_or r k 0) (set_out l i 0 (ltb-false i (length l) v)) in omega arith))
    (λ w. let e = get_or-set_other l i k 0 0 (eqb-false k i w) in omega arith)

zeroed-bytes : (l : List ℕ) (from : ℕ) → AreBytes l → (n : ℕ) → AreBytes (zeroed l from n)
unfolding zeroed
zeroed-bytes l from b zero k = b k
zeroed-bytes l from b (suc n) k = zero_byte (zeroed l from n) (from + n) k (zeroed-bytes l from b n k)

no_slots_made : (m : Memory) (vs : Vars) → make_slots believed [] m vs ≡ ok (m, vs)
unfolding make_slots
no_slots_made m vs = refl

module _ (s : List ℕ) where
  no_slots : (at : ℕ) (t : Tables) → slots_room s at [] t ≡ Ok tt
  unfolding slots_room_of
  no_slots at t = refl

  -- the rest of the slots are tested as in the tables with this one made
  room_for_rest : (next size : ℕ) (xs : List Slot) (t : Tables) (so : Sound t) (e : slot_room t size ≡ Ok tt)
      → slots_room_of s (length xs) next (live t + 1) (bound t (live t) + size) (t.registers.pointers + 1) ≡ slots_room s next xs (slot_tables t size)
  room_for_rest next size xs t so e =
      let l = live_more t so size e in
      sym (ap (λ k. slots_room_of s (length xs) next k (bound (slot_tables t size) k) (t.registers.pointers + 1)) l
      ∙ ap (λ k. slots_room_of s (length xs) next (live t + 1) k (t.registers.pointers + 1)) (bound-more t so size e))

  one_by_one : (at : ℕ) (x : Slot) (xs : List Slot) (next : ℕ) (t : Tables) → slot_at s at ≡ record { variable = x.var; size = x.size; next = next }
      → slots_room s at (x ∷ xs) t ≡ result_and (slot_room t x.size) (slots_room_of s (length xs) next (live t + 1) (bound t (live t) + x.size) (t.registers.pointers + 1))
  unfolding slots_room_of
  one_by_one at x xs next t r = rw r

  module _ (at : ℕ) (x : Slot) (xs : List Slot) (next : ℕ) (t : Tables) (so : Sound t) (r : slot_at s at ≡ record { variable = x.var; size = x.size; next = next }) where
    after-first : slot_room t x.size ≡ Ok tt → slots_room s at (x ∷ xs) t ≡ slots_room s next xs (slot_tables t x.size)
    after-first e = one_by_one at x xs next t r ∙ rw e (room_for_rest next x.size xs t so e)

    first-refused : (n : Refusal) → slot_room t x.size ≡ Err n → slots_room s at (x ∷ xs) t ≡ Err n
    first-refused n e = one_by_one at x xs next t r ∙ rw e

    first-room : slots_room s at (x ∷ xs) t ≡ Ok tt → slot_room t x.size ≡ Ok tt
    first-room e = (both_done (slot_room t x.size) _ (sym (one_by_one at x xs next t r) ∙ e)).0

    -- the rest of the slots, after this one
    abbrev onward : Vars → Memory → Answer (Memory × Vars)
    onward vs m = make_slots believed xs m (set_to vs x.var (value pointer (length (view t).pointers)))

    made-first : slot_room t x.size ≡ Ok tt → slots_made_of s (length (x ∷ xs)) at t ≡ slots_made_of s (length xs) next (slot_tables t x.size)
    unfolding slots_made_of
    made-first e = rw (r, slot-given t so x.size e)

    believed-first : (vs : Vars) → slot_room t x.size ≡ Ok tt → make_slots believed (x ∷ xs) (view t) vs ≡ onward vs (view (slot_tables t x.size))
    unfolding make_slots ◌>>=◌
    believed-first vs e = ap (λ a. a >>= onward vs) (slot_seen t so x.size e)

    believed-none : (vs : Vars) (n : Refusal) → slot_room t x.size ≡ Err n → make_slots believed (x ∷ xs) (view t) vs ≡ refused n
    unfolding make_slots ◌>>=◌
    believed-none vs n e = ap (λ a. a >>= onward vs) (slot-refused t so x.size n e)

  -- "refused by the first slot that has none, each tested 37, 38, 39 in turn with those before it counted"
  pub slots-refused : (xs : List Slot) (at : ℕ) (t : Tables) → Sound t → SlotsRead s at xs → (n : Refusal) → slots_room s at xs t ≡ Err n
      → (vs : Vars) → make_slots believed xs (view t) vs ≡ refused n
  slots-refused [] at t so r n e vs = absurd (not_done n (sym e ∙ no_slots at t))
  slots-refused (x ∷ xs) at t so (next, r, rs) n e vs =
      by_room (slot_room t x.size)
      (λ d.
      believed-first at x xs next t so r vs d
      ∙ slots-refused xs next (slot_tables t x.size) (slot-sound t so x.size d) rs n (sym (after-first at x xs next t so r d) ∙ e) _)
      (λ k d. believed-none at x xs next t so r vs n (d ∙ sym (first-refused at x xs next t so r k d) ∙ e))

  pub slots-made : (xs : List Slot) (at : ℕ) (t : Tables) → Sound t → SlotsRead s at xs → slots_room s at xs t ≡ Ok tt → SlotsMade s at xs t
  slots-made [] at t so r e = record {
    after = t;
    made' = made_none s 0 0 at t (omega arith);
    sound = so;
    seen = λ vs. no_slots_made (view t) vs;
    kept = ap (with_pointers t.registers) (let z : t.registers.pointers ≡ t.registers.pointers + 0 = omega arith in z);
    bytes = λ b. b;
  }
  slots-made (x ∷ xs) at t so (next, r, rs) e =
      let f = first-room at x xs next t so r e in
      let d = after-first at x xs next t so r f in
      let rest = slots-made xs next (slot_tables t x.size) (slot-sound t so x.size f) rs (sym d ∙ e) in
      record {
        after = rest.after;
        made' = made-first at x xs next t so r f ∙ rest.made';
        sound = rest.sound;
        seen = λ vs.
            believed-first at x xs next t so r vs f ∙ rest.seen (set_to vs x.var (value pointer (length (view t).pointers)))
            ∙ ap (λ g. ok (view rest.after, pointed xs (t.registers.pointers + 1) (set_to vs x.var (value pointer g)))) (count-seen t so);
        kept = rest.kept ∙ ap (with_pointers t.registers) (let z : t.registers.pointers + 1 + length xs ≡ t.registers.pointers + suc (length xs) = omega arith in z);
        bytes = λ b. rest.bytes (zeroed-bytes t.store (bound t (live t)) b x.size);
      }
