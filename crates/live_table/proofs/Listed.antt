-- The table's records are those that `host_list` tells, and what `tell` answers is what the walk needs, which makes them one at a time.
use Rattle.std.specs.Prelude.{Result, Ok, Err, ⊤}
use Prim.Native.Nat.{ℕ, ◌+◌, ◌<◌, ◌≤◌}
use native.Mathlib.Omega.{arith}
use mathlib.Core.Bool.{Bool, true, false}
use mathlib.Core.Path.{◌≡◌, refl, sym, ap, ap₂, ◌∙◌, subst}
use mathlib.Core.List.{List}
use lib.ListN.{get_or, set, length}
use lib.Dec.{leb, eqb}
use Rattle.value.specs.declared.refusal.Refusal.{Refusal}
use Rattle.value.specs.Refusal.{not_sound, short_table}
use Rattle.value.proofs.Truth.{both_true}
use Rattle.memory.specs.Tables.{State, Columns, pointer_at, record_of, memory_ok, roomy_of, sound_of}
use Rattle.memory.specs.declared.LiveRecord.{LiveRecord}
use Rattle.memory.proofs.Every.{by_test}
use Rattle.memory.proofs.Facts.{Sound, sound-of}
use Rattle.memory.proofs.Last.{roomy_of_lem}
use Rattle.memory.proofs.Listing.{filled_at, listed-is}
use Rattle.eval.specs.Host.{host_listed}
use Rattle.live_list.specs.Record.{record_in}
use Rattle.live_list.proofs.Listed.{recorded_in}
use Rattle.live_table.specs.Table.{shown, record_at, filled, Tabled, tabled, tabled_of, Told, told, told_none, told_of}
use Rattle.live_table.specs.declared.PointerRecord.{PointerRecord}
use Rattle.live_table.proofs.Filled.{filled_more}
use borrow.Author.Tests.{le-leb, leb-true}

pub sound-tables : (t : State) → sound_of t ≡ true → Sound t.memory
unfolding sound_of
sound-tables t h = sound-of t.memory (both_true (memory_ok t.memory) _ h).0

same_row : {b b' : Bool} {i i' j j' o o' : ℕ} → b ≡ b' → i ≡ i' → j ≡ j' → o ≡ o'
    → ◌≡◌ {A = PointerRecord} (record { live = b; frame = i; allocation = j; offset = o }) (record { live = b'; frame = i'; allocation = j'; offset = o' })
same_row p q r s = cc

-- record k of four slices
abbrev pub row_in : Columns → (k : ℕ) → PointerRecord
row_in c k = record { live = eqb (get_or c.live k 0) 1; frame = get_or c.frame k 0; allocation = get_or c.allocation k 0; offset = get_or c.offset k 0 }

-- the list of a sound state, in slices with room for it
module _ (t : State) (l f a o : List ℕ) (s : sound_of t ≡ true) (roomy : roomy_of t.memory.registers.pointers (length l) (length f) (length a) (length o) ≡ true) where
  pub listed-done : (host_listed t l f a o).answer ≡ Ok tt
  unfolding host_listed
  listed-done = rw s (listed-is t.memory (sound-tables t s) l f a o roomy).0

  pub listed-row : (k : ℕ) → k < t.memory.registers.pointers → row_in (host_listed t l f a o).slices k ≡ record_at t.memory k
  unfolding record_at host_listed
  listed-row k h =
      let r = roomy_of_lem _ _ _ _ _ roomy in
      let n = t.memory.registers.pointers in
      let g : ℕ → LiveRecord = λ q. record_of t.memory.registers.depth t.memory.frames (pointer_at t.memory.pointers q) in
      rw (s, (listed-is t.memory (sound-tables t s) l f a o roomy).1)
      (same_row (ap (λ x. eqb x 1) (filled_at n (λ q. (g q).live) l k h r.0)) (filled_at n (λ q. (g q).frame) f k h r.1)
      (filled_at n (λ q. (g q).allocation) a k h r.2) (filled_at n (λ q. (g q).offset) o k h r.3))

-- ---- the answer before the records

-- what a walk needs to know of what it was told before the records: the answer is the definition's, and so is each record that it writes, which has its place
pub record Tells (t : State) (room : ℕ) (r : Told) : Type 0 where
  pub answer : (l : List PointerRecord) → length l ≡ room → r.answer ≡ (tabled_of t l).answer
  pub table : (l : List PointerRecord) → length l ≡ room → filled r.count (record_at t.memory) l ≡ (tabled_of t l).table
  pub room_for : (k : ℕ) → k < r.count → k < room
  pub rows : (k : ℕ) → k < r.count → shown (record_in t.memory.registers.depth t.memory.frames t.memory.pointers k) ≡ record_at t.memory k

module _ (t : State) (room : ℕ) where
  abbrev given : ℕ
  given = t.memory.registers.pointers

  -- a refusal, with nothing to write
  none_told : (why : Refusal) → ((l : List PointerRecord) → length l ≡ room → tabled_of t l ≡ record { answer = Err why; table = l }) → Tells t room (told_none why)
  unfolding filled
  none_told why is =
      record {
        answer = λ l h. rw (is l h) refl;
        table = λ l h. rw (is l h) refl;
        room_for = λ k h. absurd (omega (arith, h));
        rows = λ k h. absurd (omega (arith, h));
      }

  all_told : sound_of t ≡ true → leb given room ≡ true → Tells t room (told (Ok tt) given)
  unfolding tabled_of record_at
  all_told s u =
      let so = (sound-tables t s).ready in
      let wide : given ≤ room = leb-true given room u in
      record {
        answer = λ l h. rw (s, h, u) refl;
        table = λ l h. rw (s, h, u) refl;
        room_for = λ k h. omega (arith, h, wide);
        rows = λ k h. ap shown (recorded_in t.memory.registers.depth t.memory.frames t.memory.pointers k so.deep (omega (arith, h, so.given)) so.frames so.pointers);
      }

  short_told : sound_of t ≡ true → leb given room ≡ false → Tells t room (told_none short_table)
  unfolding tabled_of
  short_told s u = none_told short_table (λ l h. rw (s, h, u) refl)

  unsound_told : sound_of t ≡ false → Tells t room (told_none not_sound)
  unfolding tabled_of
  unsound_told s = none_told not_sound (λ l h. rw s refl)

  pub told-tells : Tells t room (told_of t room)
  unfolding told_of
  told-tells = by_test (sound_of t) (λ s. by_test (leb given room) (λ u. rw (s, u) (all_told s u)) (λ u. rw (s, u) (short_told s u))) (λ s. rw s (unsound_told s))

-- ---- the table, a record more in each turn

module _ (t : State) (l ys : List PointerRecord) (k : ℕ) where
  abbrev n : ℕ
  n = t.memory.registers.pointers

  abbrev row : ℕ → PointerRecord
  row = record_at t.memory

  -- record k is the one that `live_list` makes
  pub one-more : (x : PointerRecord) {r : LiveRecord} → sound_of t ≡ true → k < n → ys ≡ filled k row l → x ≡ shown r
      → r ≡ record_in t.memory.registers.depth t.memory.frames t.memory.pointers k → set ys k x ≡ filled (k + 1) row l
  unfolding record_at
  one-more x s h so_far e d =
      let so = (sound-tables t s).ready in
      let is : x ≡ row k =
      e ∙ ap shown (d ∙ recorded_in t.memory.registers.depth t.memory.frames t.memory.pointers k so.deep (omega (arith, h, so.given)) so.frames so.pointers) in
      ap₂ (λ (zs : List PointerRecord) (y : PointerRecord). set zs k y) so_far is ∙ filled_more row l k

  pub all_written : sound_of t ≡ true → n ≤ length l → k ≡ n → ys ≡ filled k row l → tabled (Ok tt) ys ≡ tabled_of t l
  unfolding tabled_of
  all_written s h e so_far = rw (s, le-leb n (length l) h, so_far, e) refl

-- ---- the same by what `tell` answered

both_same : (a : Result ⊤ Refusal) (ys : List PointerRecord) (x : Tabled) → a ≡ x.answer → ys ≡ x.table → tabled a ys ≡ x
both_same a ys x e f = rw (e, f) refl

module _ (t : State) (l : List PointerRecord) where
  tells : (r : Told) → r ≡ told_of t (length l) → Tells t (length l) r
  tells r e = subst (Tells t (length l)) (sym e) (told-tells t (length l))

  -- a refusal leaves the table as it stood
  pub none_written : (why : Refusal) → told_none why ≡ told_of t (length l) → tabled (Err why) l ≡ tabled_of t l
  unfolding filled
  none_written why e = let all = tells (told_none why) e in both_same (Err why) l (tabled_of t l) (all.answer l refl) (all.table l refl)

  module _ (n : ℕ) (e : told (Ok tt) n ≡ told_of t (length l)) where
    pub has_room : (k : ℕ) → k < n → k < length l
    has_room = (tells (told (Ok tt) n) e).room_for

    pub told_more : (ys : List PointerRecord) (k : ℕ) (x : PointerRecord) {r : LiveRecord} → k < n → ys ≡ filled k (record_at t.memory) l → x ≡ shown r
        → r ≡ record_in t.memory.registers.depth t.memory.frames t.memory.pointers k → set ys k x ≡ filled (k + 1) (record_at t.memory) l
    told_more ys k x h so_far is d =
        let row : x ≡ record_at t.memory k = is ∙ ap shown d ∙ (tells (told (Ok tt) n) e).rows k h in
        ap₂ (λ (zs : List PointerRecord) (y : PointerRecord). set zs k y) so_far row ∙ filled_more (record_at t.memory) l k

    pub told_written : (ys : List PointerRecord) (k : ℕ) → k ≡ n → ys ≡ filled k (record_at t.memory) l → tabled (Ok tt) ys ≡ tabled_of t l
    told_written ys k end so_far =
        let all = tells (told (Ok tt) n) e in
        both_same (Ok tt) ys (tabled_of t l) (all.answer l refl) (so_far ∙ ap (λ (j : ℕ). filled j (record_at t.memory) l) end ∙ all.table l refl)
