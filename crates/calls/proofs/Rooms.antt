-- Room for slots: one turn of the loop, and that slots with room do not run out of pointer numbers.
use Rattle.std.specs.Prelude.{Result, Ok, Err, ⊤}
use Rattle.std.specs.Result.{result_and}
use Prim.Native.Nat.{ℕ, zero, suc, ◌+◌, ◌-◌, ◌*◌, ◌<◌, ◌≤◌}
use native.Mathlib.Omega.{arith}
use mathlib.Core.Bool.{Bool, true, false}
use mathlib.Core.Path.{◌≡◌, refl}
use mathlib.Core.List.{List}
use borrow.Author.Tests.{ltb-false, leb-false}
use lib.ListN.{length, get_or}
use lib.Dec.{ltb, leb}
use Rattle.value.specs.declared.refusal.Refusal.{Refusal}
use Rattle.value.specs.Answer.{pick}
use Rattle.value.specs.Refusal.{not_sound, allocations_full, bytes_full, pointers_full}
use Rattle.memory.specs.Tables.{ready_of, room_of}
use Rattle.memory.specs.declared.Registers.{Registers}
use Rattle.memory.proofs.Laws.{ready_of_lem}
use Rattle.calls.specs.Fields.{slot_at}
use Rattle.calls.specs.Room.{frame_room_of, slot_room_of, slots_room_of, room_in_of, call_room_of}
use Rattle.calls.specs.declared.fields.Slot.{Slot}
use Rattle.calls.specs.declared.fields.Callee.{Callee}
use Rattle.calls.proofs.Laws.{one_fewer, none_left}

-- ---- answers of tests

-- a refusal is not done
pub not_done : (n : Refusal) → ◌≡◌ {A = Result ⊤ Refusal} (Err n) (Ok tt) → ⊥
not_done n e = let z : ◌≡◌ {A = ℕ} 0 1 = cc in omega arith

-- a test is done, or refused
pub by_room : {P : Type 0} (r : Result ⊤ Refusal) → (r ≡ Ok tt → P) → ((n : Refusal) → r ≡ Err n → P) → P
by_room (Ok u) f g = f refl
by_room (Err n) f g = g n refl

-- a refusal or the rest, where all is done
pub not_first : (b : Bool) (n : Refusal) (rest : Result ⊤ Refusal) → pick b (Err n) rest ≡ Ok tt → (b ≡ false) × (rest ≡ Ok tt)
not_first true n rest e = absurd (not_done n e)
not_first false n rest e = (refl, e)

-- two tests that are done, one after the other
pub both_done : (r rest : Result ⊤ Refusal) → result_and r rest ≡ Ok tt → (r ≡ Ok tt) × (rest ≡ Ok tt)
both_done (Ok u) rest e = (refl, e)
both_done (Err n) rest e = absurd (not_done n e)

module _ (s : List ℕ) where
  -- ---- room for slots

  pub room_on : (n k at l u g : ℕ) → k < n → slot_room_of l u g (slot_at s at).size ≡ Ok tt
      → slots_room_of s (n - (k + 1)) (slot_at s at).next (l + 1) (u + (slot_at s at).size) (g + 1) ≡ slots_room_of s (n - k) at l u g
  unfolding slots_room_of
  room_on n k at l u g h r = rw (one_fewer n k h, r)

  pub room_stop : (n k at l u g : ℕ) (x : Slot) (why : Refusal) → k < n → x ≡ slot_at s at → Err why ≡ slot_room_of l u g x.size → Err why ≡ slots_room_of s (n - k) at l u g
  unfolding slots_room_of
  room_stop n k at l u g x why h e r = rw (one_fewer n k h, ← e, ← r)

  pub room_none : (n k at l u g : ℕ) → n ≤ k → slots_room_of s (n - k) at l u g ≡ Ok tt
  unfolding slots_room_of
  room_none n k at l u g h = rw (none_left n k h)

-- ---- what room for a slot says

pub record Fits (l u g size : ℕ) : Type 0 where
  pub live : l < 512
  pub used : u + size ≤ 32768
  pub given : g < 4096

pub slot_fits : (l u g size : ℕ) → slot_room_of l u g size ≡ Ok tt → Fits l u g size
unfolding slot_room_of room_of
slot_fits l u g size e =
    let a = not_first (leb 512 l) allocations_full _ e in
    let b = not_first (ltb 32768 u) bytes_full _ a.1 in
    let d = not_first (ltb (32768 - u) size) bytes_full _ b.1 in
    let f = not_first (leb 4096 g) pointers_full _ d.1 in
    record {
      live = leb-false 512 l a.0;
      used = omega (arith, ltb-false 32768 u b.0, ltb-false (32768 - u) size d.0);
      given = leb-false 4096 g f.0;
    }

-- slots that have room do not run out of pointer numbers
pub slots-given : (s : List ℕ) (n at l u g : ℕ) → slots_room_of s n at l u g ≡ Ok tt → g ≤ 4096 → g + n ≤ 4096
unfolding slots_room_of
slots-given s zero at l u g e h = omega arith
slots-given s (suc n) at l u g e h =
    let z = both_done (slot_room_of l u g (slot_at s at).size) _ e in
    let f = (slot_fits l u g _ z.0).given in
    omega (arith, slots-given s n _ _ _ (g + 1) z.1 (omega arith))

-- ---- room in the tables

module _ (m : Registers) (s : List ℕ) (f : Callee) (store : ℕ) (fr bo : List ℕ) (pointers : ℕ) where
  in_ready : (b : Bool) (rest : Result ⊤ Refusal) → pick b rest (Err not_sound) ≡ Ok tt → (b ≡ true) × (rest ≡ Ok tt)
  in_ready true rest e = (refl, e)
  in_ready false rest e = absurd (not_done not_sound e)

  -- a function whose slots have room does not run out of pointer numbers
  pub room_given : room_in_of m s f store fr bo pointers ≡ Ok tt → m.pointers + f.count ≤ 4096
  unfolding room_in_of
  room_given e =
      let a = in_ready (ready_of m.depth m.pointers store (length fr) (length bo) pointers) _ e in
      let b = not_first (ltb 512 (get_or fr (m.depth * 4 + 3) 0)) not_sound _ a.1 in
      slots-given s f.count f.slots _ _ m.pointers b.1 (ready_of_lem _ _ _ _ _ _ a.0).given

  pub call_room_given : call_room_of m s f store fr bo pointers ≡ Ok tt → m.pointers + f.count ≤ 4096
  unfolding call_room_of
  call_room_given e = room_given (both_done (frame_room_of m.depth m.counter) _ e).1
