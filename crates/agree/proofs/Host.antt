-- The host's allocate, write and read are the believed machine's, on a sound state, by the memory's own theorems.
use Rattle.std.specs.Prelude.{Result, Ok, Err, ⊤}
use Prim.Native.Nat.{ℕ, min}
use native.Mathlib.Omega.{arith}
use mathlib.Core.Path.{◌≡◌, refl, sym, ap, ◌∙◌}
use mathlib.Core.Bool.{Bool, true, false, ◌&&◌}
use mathlib.Core.List.{List}
use lib.ListN.{length}
use lib.Dec.{leb}
use borrow.Author.Tests.{le-leb, lt-leb, leb-true, leb-false}
use Rattle.value.specs.declared.refusal.Refusal.{Refusal}
use Rattle.value.specs.Answer.{Answer, ok, need, pick, ◌>>=◌}
use Rattle.value.specs.Refusal.{short_table}
use Rattle.image.specs.Parse.{took}
use Rattle.image.specs.Program.{Program}
use Rattle.image.specs.Image.{loaded}
use Rattle.memory.specs.Live.{Live}
use Rattle.memory.specs.Memory.{Memory, live_list, allocate, write_bytes, read_bytes}
use Rattle.memory.specs.Tables.{Tables, tables, both, out, State, state, allocated_of, written_of, read_of, listing, filled_of, roomy_of, listed_of, sound_of}
use Rattle.memory.specs.View.{view, on_given, on_outcome, after_allocate, after_write, after_read}
use Rattle.memory.specs.declared.Registers.{Registers}
use Rattle.memory.proofs.Every.{by_test}
use Rattle.memory.proofs.Facts.{Sound, ready_test}
use Rattle.memory.proofs.Pointers.{count-seen}
use Rattle.memory.proofs.Allocating.{allocate-view, allocate-sound}
use Rattle.memory.proofs.Listing.{live_view}
use Rattle.memory.proofs.Access.{write_view, write-sound, read_view}
use Rattle.machine.specs.Machine.{host_allocate, host_write, host_read, host_list, with_memory}
use Rattle.machine.specs.Asks.{to_allocate, to_write, to_read, to_list, turn, gave, done, lists, refusal, changes, shows, lays, ask}
use Rattle.machine.specs.Believed.{believed}
use Rattle.machine.specs.Entries.{enter}
use Rattle.decode.specs.Extents.{extents_of}
use Rattle.eval.specs.Host.{host_allocated, host_written, host_listed}
use Rattle.eval.specs.Entry.{reading, read_loaded, read_entered}
use Rattle.agree.specs.Seen.{seen, room}
use Rattle.agree.specs.Turns.{allocated_state, allocated_turn, written_state, written_turn, read_reply, read_turn, listed_turn}
use Rattle.agree.proofs.Steady.{tables-sound, again_sound}
use Rattle.agree.proofs.Hand.{Hands, hands, withholds}
use Rattle.agree.proofs.Initialize.{Left, allots}
use Rattle.agree.proofs.Access.{written-bytes, written-left}
use Rattle.agree.proofs.Loaded.{loaded_follows}
use Rattle.decode.proofs.Items.{tables-given}
use Rattle.agree.proofs.Entries.{asked}
use Rattle.image.specs.Limits.{AreBytes}

module _ (t : State) (st : Sound t.memory) where
  -- by what an allocation hands out
  allocated-turn : (a : Result (ℕ × Registers) Refusal) (store frames bounds pointers : List ℕ) → Hands t.memory.registers a → Left t.memory (out a store frames bounds pointers) → (x : Answer Memory)
      → on_given a (λ m. view (tables m store frames bounds pointers)) ≡ x
      → allocated_turn t (out a store frames bounds pointers) ≡ changes (seen t) (gave (length (view t.memory).pointers)) (x >>= λ m. ok (with_memory believed (seen t) m))
  unfolding changes ◌>>=◌
  allocated-turn _ store frames bounds pointers hands left x e =
      rw (sym e, count-seen t.memory st) refl
  allocated-turn _ store frames bounds pointers (withholds {n}) left x e =
      rw (sym e) (ap (λ (u : Tables). turn (refusal n) (seen (state u t.variables))) (left _ refl))

  written-turn : (a : Result ⊤ Refusal) (store : List ℕ) → ((n : Refusal) → a ≡ Err n → store ≡ t.memory.store) → (x : Answer Memory)
      → on_outcome a (view (tables t.memory.registers store t.memory.frames t.memory.bounds t.memory.pointers)) ≡ x
      → written_turn t (both a store) ≡ changes (seen t) done (x >>= λ m. ok (with_memory believed (seen t) m))
  unfolding changes ◌>>=◌
  written-turn (Ok u) store left x e = rw (sym e) refl
  written-turn (Err n) store left x e =
      rw (sym e)
      (ap (λ (l : List ℕ). turn (refusal n) (seen (state (tables t.memory.registers l t.memory.frames t.memory.bounds t.memory.pointers) t.variables))) (left n refl))

read-turn : (t : State) (a : Result ⊤ Refusal) (bs : List ℕ) (x : Answer (List ℕ)) → on_outcome a bs ≡ x → turn (read_reply (reading a) bs) (seen t) ≡ shows (seen t) x
unfolding shows
read-turn t (Ok u) bs x e = rw (sym e) refl
read-turn t (Err n) bs x e = rw (sym e) refl

-- ---- the list's room is that of its shortest slice

and_same : {a b c d : Bool} → a ≡ c → b ≡ d → (a && b) ≡ (c && d)
and_same e f = rw (e, f)

least : (n x y : ℕ) → leb n (min x y) ≡ (leb n x && leb n y)
least n x y =
    by_test (leb n x)
    (λ a. by_test (leb n y)
    (λ b. let h = leb-true n x a in let k = leb-true n y b in le-leb n (min x y) (omega arith) ∙ sym (and_same a b))
    (λ b. let k = leb-false n y b in lt-leb n (min x y) (omega arith) ∙ sym (and_same a b)))
    (λ a. let h = leb-false n x a in lt-leb n (min x y) (omega arith) ∙ sym (ap (λ c. c && leb n y) a))

rooms : (n : ℕ) (l f a o : List ℕ) → leb n (room l f a o) ≡ roomy_of n (length l) (length f) (length a) (length o)
unfolding roomy_of
rooms n l f a o =
    least n (length l) (min (length f) (min (length a) (length o)))
    ∙ ap (λ b. leb n (length l) && b) (least n (length f) (min (length a) (length o)) ∙ ap (λ b. leb n (length f) && b) (least n (length a) (length o)))

-- the tables of a sound state, whose store is made of bytes
module _ (t : State) (so : sound_of t ≡ true) (bytes : AreBytes t.memory.store) where
  st : Sound t.memory
  st = (tables-sound t so).0

  pub allocate-enters : (n : ℕ) → allocated_turn t (host_allocated t n) ≡ enter (to_allocate n) (seen t)
  unfolding host_allocated ask host_allocate after_allocate
  allocate-enters n =
      let o = allocated_of t.memory n in
      let a = allots t.memory n in
      rw (so, asked t so bytes (to_allocate n))
      (allocated-turn t st o.answer o.store o.frames o.bounds o.pointers a.hand a.left (allocate (view t.memory) n) (allocate-view t.memory st n))

  pub write-enters : (p : ℕ) (bs : List ℕ) → written_turn t (host_written t p bs) ≡ enter (to_write p bs) (seen t)
  unfolding host_written ask host_write after_write
  write-enters p bs =
      let r = written_of t.memory p bs in
      rw (so, asked t so bytes (to_write p bs))
      (written-turn t st r.answer r.table (written-left t.memory p bs) (write_bytes (view t.memory) p bs) (write_view t.memory st p bs))

  -- as many bytes as the buffer has
  pub read-enters : (s : List ℕ) → AreBytes s → (P : Program) (e : ℕ) → loaded s ≡ took P e → (p : ℕ) (buffer : List ℕ)
      → read_turn t (read_entered s p buffer t) ≡ enter (to_read P p (length buffer)) (seen t)
  unfolding read_entered read_loaded ask host_read after_read
  read-enters s whole P e h p buffer =
      let c = (loaded_follows s whole P e h).constants in
      let r = read_of t.memory p buffer s (extents_of s) in
      rw (tables-given s P e h, so, asked t so bytes (to_read P p (length buffer)))
      (read-turn t r.answer r.table (read_bytes P.constants (view t.memory) p (length buffer))
      (read_view t.memory st s (extents_of s) c.inside p buffer ∙ ap (λ cs. read_bytes cs (view t.memory) p (length buffer)) c.shown))

  -- "41 list table shorter than the pointers"
  pub list_enters : (l f a o : List ℕ) → listed_turn t (host_listed t l f a o) ≡ enter (to_list (room l f a o)) (seen t)
  unfolding host_listed listed_of ask host_list lays need
  list_enters l f a o =
      let n = t.memory.registers.pointers in
      rw (so, asked t so bytes (to_list (room l f a o)), ready_test _ _ _ _ _ _ st.ready, count-seen t.memory st, rooms n l f a o)
      (go (roomy_of n (length l) (length f) (length a) (length o)) refl)
    where
      go : (b : Bool) → roomy_of t.memory.registers.pointers (length l) (length f) (length a) (length o) ≡ b
          → listed_turn t (pick b (record { answer = (Ok tt); slices = filled_of t.memory.registers.depth t.memory.registers.pointers t.memory.frames t.memory.pointers l f a o })
          (listing (Err short_table) l f a o)) ≡ lays (seen t) (need b short_table (ok (live_list (view t.memory))))
      go true e = ap (λ (ls : List Live). turn (lists ls) (seen t)) (live_view t.memory st l f a o e)
      go false e = refl

  -- ---- the state after is sound again, and its store made of bytes

  allocated-kept : (a : Result (ℕ × Registers) Refusal) (store frames bounds pointers : List ℕ) → Hands t.memory.registers a → Left t.memory (out a store frames bounds pointers)
      → ((p : ℕ) (m : Registers) → a ≡ Ok (p, m) → Sound (tables m store frames bounds pointers)) → sound_of (allocated_state t (out a store frames bounds pointers)) ≡ true
  allocated-kept _ store frames bounds pointers hands left sound = again_sound t so _ (sound _ _ refl) refl refl refl
  allocated-kept _ store frames bounds pointers (withholds {n}) left sound = rw (left n refl) so

  written-kept : (a : Result ⊤ Refusal) (store : List ℕ) → ((n : Refusal) → a ≡ Err n → store ≡ t.memory.store)
      → (a ≡ Ok tt → Sound (tables t.memory.registers store t.memory.frames t.memory.bounds t.memory.pointers)) → sound_of (written_state t (both a store)) ≡ true
  written-kept (Ok u) store left sound = again_sound t so _ (sound refl) refl refl refl
  written-kept (Err n) store left sound = rw (left n refl) so

  pub allocate-kept : (n : ℕ) → sound_of (allocated_state t (host_allocated t n)) ≡ true
  unfolding host_allocated
  allocate-kept n =
      let o = allocated_of t.memory n in
      let a = allots t.memory n in
      rw so (allocated-kept o.answer o.store o.frames o.bounds o.pointers a.hand a.left (allocate-sound t.memory st n))

  pub write_kept : (p : ℕ) (bs : List ℕ) → sound_of (written_state t (host_written t p bs)) ≡ true
  unfolding host_written
  write_kept p bs =
      let r = written_of t.memory p bs in
      rw so (written-kept r.answer r.table (written-left t.memory p bs) (write-sound t.memory st p bs))

  pub allocate-bytes : (n : ℕ) → AreBytes (host_allocated t n).store
  unfolding host_allocated
  allocate-bytes n = rw so ((allots t.memory n).bytes bytes)

  -- where bytes are written
  pub write_bytes_lem : (p : ℕ) (bs : List ℕ) → AreBytes bs → AreBytes (host_written t p bs).table
  unfolding host_written
  write_bytes_lem p bs f = rw so (written-bytes t.memory p bs bytes f)
