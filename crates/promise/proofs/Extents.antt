-- "Live allocations never share a byte", of the code: the bounds of an allocation that the sequence tells are where it lies end to end in the store, and those lie apart.
use Prim.Native.Nat.{ℕ, ◌+◌, ◌≤◌, ◌<◌}
use native.Mathlib.Omega.{arith}
use mathlib.Core.Logic.{inl, inr}
use mathlib.Core.Path.{◌≡◌, sym, ap, ap₂, ◌∙◌, subst}
use mathlib.Core.List.{List}
use lib.ListN.{get_or}
use lib.Dec.{eqb}
use Rattle.std.proofs.lemmas.Bool.{false≢true}
use Rattle.memory.specs.Memory.{Memory, local}
use Rattle.memory.specs.Tables.{State, frame_word, pointer_at}
use Rattle.memory.specs.View.{view}
use Rattle.memory.specs.declared.PointerRecord.{PointerRecord}
use Rattle.memory.proofs.Every.{by_test}
use Rattle.memory.proofs.Facts.{Sound}
use Rattle.memory.proofs.Laws.{Accessed, read_at_lem}
use Rattle.memory.proofs.Pointers.{count-seen, pointer-seen, seen-local, seen-constant}
use Rattle.memory.proofs.Placed.{placed}
use Rattle.machine.specs.Machine.{Machine}
use Rattle.machine.specs.Asks.{Ask}
use Rattle.machine.specs.History.{of_constant, of_place, StandsFor}
use Rattle.machine.specs.Flat.{index_of, Before}
use Rattle.machine.specs.Demand.{tells, Alive}
use Rattle.machine.proofs.Agree.{Sim, Levelled, forget, target_at}
use Rattle.machine.proofs.Demand.{agrees, lives, lives_long, lives_at, extents-apart}
use Rattle.agree.proofs.Steady.{tables-sound}
use Rattle.promise.specs.Promised.{After, begins, ends, Lies, CodeAccessesItsOwn, CodeExtentsApart, CodeExtentsLie}
use Rattle.promise.proofs.Sequence.{fresh_follows}
use Rattle.promise.proofs.Told.{accepted}

module _ (as' : List Ask) (t : State) (after : After as' t) where
  sound-tables : Sound t.memory
  sound-tables = (tables-sound t (fresh_follows as' t after).1.sound).0

  alike : Sim (view t.memory) (tells as')
  alike = subst (λ (z : Machine Memory). Sim z.memory (tells as')) (sym (fresh_follows as' t after).0) (agrees as' (accepted as' t after))

  lies : (f j : ℕ) → Alive (tells as') f j → Lies as' t f j
  lies f j a =
      let v = lives alike f j a in
      let p = placed t.memory sound-tables (index_of (tells as') f) j v.frame v.allocation in
      record {
        place = p.0 ∙ lives_at alike f j a;
        long = p.1 ∙ ap (λ (n : ℕ). begins (tells as') t f j + n) (lives_long alike f j a);
        stored = p.2;
      }

  before : (f j f' j' : ℕ) → Alive (tells as') f j → Alive (tells as') f' j' → Before (tells as') f j f' j' → ends (tells as') t f j ≤ begins (tells as') t f' j'
  before f j f' j' a a' b =
      let l = lies f j a in
      let x = l.place in
      let y = l.long in
      let z = (lies f' j' a').place in
      omega arith

pub code_extents_lie : CodeExtentsLie
code_extents_lie as' t after f j a = lies as' t after f j a

pub code_extents_apart : CodeExtentsApart
code_extents_apart as' t after f j f' j' a a' d =
    elim (extents-apart as' (accepted as' t after) f j f' j' a a' d) [ inl b ↦ inl (before as' t after f j f' j' a a' b) | inr b ↦ inr (before as' t after f' j' f j a' a b) ]

-- ---- accesses

-- the record of a pointer that stands for a place: local, at the frame's index, with this allocation and offset
record Points (q : PointerRecord) (i j o : ℕ) : Type 0 where
  index : q.index ≡ i
  allocation : q.allocation ≡ j
  offset : q.offset ≡ o

module _ (as' : List Ask) (t : State) (after : After as' t) (p f j o : ℕ) (target : StandsFor (tells as') p (of_place f j o)) (given : p < t.memory.registers.pointers) where
  abbrev q : PointerRecord
  q = pointer_at t.memory.pointers p

  points : Points q (index_of (tells as') f) j o
  points =
      let so = sound-tables as' t after in
      let s = alike as' t after in
      let at = pointer-seen t.memory so p given in
      by_test (eqb q.kind 0)
      (λ k. let is = at ∙ seen-local t.memory so q k in
      let told : of_place q.id q.allocation q.offset ≡ of_place f j o = sym (target_at s p ∙ ap forget is) ∙ target.1 in
      let level : Levelled (tells as').below (local q.index q.id q.allocation q.offset) =
      subst (Levelled (tells as').below) is (s.levels p (rw (count-seen t.memory so) given)) in
      let frame : q.id ≡ f = cc in
      record { index = sym level.1 ∙ ap (index_of (tells as')) frame; allocation = cc; offset = cc })
      (λ k. let told : of_constant q.index ≡ of_place f j o = sym (target_at s p ∙ ap forget (at ∙ seen-constant t.memory so q k)) ∙ target.1 in
      absurd (false≢true cc))

-- a granted access has its bytes from the allocation's bound and its own offset on, and below the next bound
own : (d : ℕ) (fr bo : List ℕ) (q : PointerRecord) (i j o n at : ℕ) → Points q i j o → Accessed d fr bo q n at
    → (at ≡ get_or bo (frame_word fr i 3 + j) 0 + o) × (at + n ≤ get_or bo (frame_word fr i 3 + j + 1) 0)
own d fr bo q i j o n at x a =
    let rank : a.rank ≡ frame_word fr i 3 + j = a.standing.ranked.rank ∙ ap₂ (λ (i j : ℕ). frame_word fr i 3 + j) x.index x.allocation in
    let w = a.within in
    let place : at ≡ get_or bo (frame_word fr i 3 + j) 0 + o = w.place ∙ ap₂ (λ (k o : ℕ). get_or bo k 0 + o) rank x.offset in
    let stop = ap (λ (k : ℕ). get_or bo (k + 1) 0) rank in
    let begin = w.place in
    let fits = w.fits in
    let ordered = w.ordered in
    (place, omega arith)

pub code_accesses_its_own : CodeAccessesItsOwn
code_accesses_its_own as' t after p n at f j o target e =
    let r = read_at_lem t.memory p n at e in
    own _ t.memory.frames t.memory.bounds _ (index_of (tells as') f) j o n at (points as' t after p f j o target r.given) r.accessed
