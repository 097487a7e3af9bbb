-- The callee's frame and slots: one turn of the loop that makes them, and a Call at the tests that the code makes.
use Rattle.std.specs.Prelude.{Result, Ok, Err, ⊤}
use Prim.Native.Nat.{ℕ, ◌+◌, ◌-◌, ◌<◌, ◌≤◌}
use mathlib.Core.Path.{◌≡◌, refl, sym, ◌∙◌}
use mathlib.Core.List.{List}
use lib.ListN.{length}
use lib.Dec.{ltb}
use Rattle.value.specs.declared.refusal.Refusal.{Refusal}
use Rattle.value.specs.Refusal.{not_sound}
use Rattle.value.specs.Answer.{pick}
use Rattle.memory.specs.Tables.{both, Tables, tables, out, allocated_of}
use Rattle.memory.specs.declared.Registers.{Registers}
use Rattle.instruction.specs.Code.{stepped, with_next}
use Rattle.instruction.specs.declared.step.Progress.TheVariants as progress
use Rattle.calls.specs.Fields.{slot_at}
use Rattle.calls.specs.Room.{call_room_of}
use Rattle.calls.specs.Variables.{all_or_nothing, slots_on}
use Rattle.calls.specs.Code.{entered, slots_made_of, entered_of, arrived, called_in}
use Rattle.calls.proofs.Laws.{one_fewer, none_left}
use Rattle.calls.proofs.Rooms.{call_room_given}
use Rattle.calls.proofs.Sure.{all_room}
use Rattle.calls.proofs.Undo.{done-is, refused-is}
use Rattle.calls.specs.declared.fields.Slot.{Slot}
use Rattle.calls.specs.declared.fields.CallFields.{CallFields}
use Rattle.calls.specs.declared.fields.Callee.{Callee}

module _ (s : List ℕ) where
  -- ---- slots made

  pub made_on : (n k at : ℕ) (t : Tables) (x : Slot) (p : ℕ) (m : Registers) (st fr bo po : List ℕ) → k < n → x ≡ slot_at s at → out (Ok (p, m)) st fr bo po ≡ allocated_of t x.size
      → slots_made_of s (n - (k + 1)) x.next (tables m st fr bo po) ≡ slots_made_of s (n - k) at t
  unfolding slots_made_of
  made_on n k at t x p m st fr bo po h d e = rw (one_fewer n k h, ← d, ← e)

  pub made_stop : (n k at : ℕ) (t : Tables) (x : Slot) (why : Refusal) (st fr bo po : List ℕ) → k < n → x ≡ slot_at s at → out (Err why) st fr bo po ≡ allocated_of t x.size
      → entered (Err why) st fr bo po ≡ slots_made_of s (n - k) at t
  unfolding slots_made_of
  made_stop n k at t x why st fr bo po h d e = rw (one_fewer n k h, ← d, ← e)

  pub made_none : (n k at : ℕ) (t : Tables) → n ≤ k → slots_made_of s (n - k) at t ≡ entered (Ok t.registers) t.store t.frames t.bounds t.pointers
  unfolding slots_made_of
  made_none n k at t h = rw (none_left n k h)

-- ---- a Call, once there is room

module _ (t : Tables) (vars s : List ℕ) (k : ℕ) (call : CallFields) (f : Callee) (left : List ℕ) where
  -- what is answered for the variables
  abbrev Answered : Result ⊤ Refusal → Type 0
  Answered r =
      (Ok tt ≡ call_room_of t.registers s f (length t.store) t.frames t.bounds (length t.pointers))
      × (both r left ≡ pick (ltb (18446744073709551615 - t.registers.pointers) f.count) (both (Err not_sound) vars) (all_or_nothing vars (slots_on s call f f.count f.slots t.registers.pointers vars)))

  fits : (r : Result ⊤ Refusal) → Answered r → both r left ≡ all_or_nothing vars (slots_on s call f f.count f.slots t.registers.pointers vars)
  fits r h = h.1 ∙ all_room _ _ _ _ (call_room_given _ _ _ _ _ _ _ (sym h.0))

  pub call_made : (m : Registers) (st fr bo po : List ℕ) → Answered (Ok tt) → entered (Ok m) st fr bo po ≡ entered_of s call.to f t
      → stepped (Ok (progress.Next (with_next m k))) st fr bo po left ≡ called_in t vars s k call f
  unfolding called_in arrived
  call_made m st fr bo po h e = rw (← h.0, done-is vars _ left (Ok tt) (fits (Ok tt) h) refl, ← e)

  pub call_full : (n : Refusal) (st fr bo po : List ℕ) → Answered (Ok tt) → entered (Err n) st fr bo po ≡ entered_of s call.to f t
      → stepped (Err n) st fr bo po left ≡ called_in t vars s k call f
  unfolding called_in arrived
  call_full n st fr bo po h e = rw (← h.0, done-is vars _ left (Ok tt) (fits (Ok tt) h) refl, ← e)

  pub call_stop : (n : Refusal) → Answered (Err n) → stepped (Err n) t.store t.frames t.bounds t.pointers left ≡ called_in t vars s k call f
  unfolding called_in
  call_stop n h = let z = refused-is vars _ left (Err n) n (fits (Err n) h) refl in rw (← h.0, z.0, z.1)
