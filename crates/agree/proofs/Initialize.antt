-- Initialize and Drop agree with the believed machine: Initialize allocates and then writes through the new pointer, both by the memory's own theorems.
use Rattle.std.specs.Prelude.{Result, Ok, Err, ⊤}
use Prim.Native.Nat.{ℕ, ◌+◌, ◌-◌, ◌≤◌, ◌<◌}
use native.Mathlib.Omega.{arith}
use mathlib.Core.Bool.{Bool, true, false}
use mathlib.Core.Path.{◌≡◌, refl, sym, ap, ap₂, ◌∙◌, subst}
use mathlib.Core.List.{List, [], ◌∷◌}
use lib.ListN.{length}
use lib.Dec.{ltb, leb, eqb}
use borrow.Author.Tests.{eq-eqb, le-ltb, lt-ltb, leb-true, leb-false}
use Rattle.value.specs.declared.refusal.Refusal.{Refusal}
use Rattle.value.specs.Answer.{Answer, ok, refused, need, pick, ◌>>=◌}
use Rattle.value.specs.Refusal.{bytes_exceed_size, allocations_full, bytes_full, pointers_full}
use Rattle.image.specs.Program.{Program, Operand, Initialize, Drop}
use Rattle.image.specs.Written.{num, raw, length_and}
use Rattle.memory.specs.Memory.{Memory, live_count, live_bytes, allocated, allocate, write_bytes}
use Rattle.memory.specs.Tables.{Tables, tables, Out, out, more, State, state, ready, live, top_first, bound, room_of, made_where, unmade, allocated_of, written_of}
use Rattle.memory.specs.View.{view, on_given, on_outcome, after_allocate, after_write}
use Rattle.memory.specs.declared.Registers.{Registers}
use Rattle.memory.proofs.Every.{by_test}
use Rattle.memory.proofs.Facts.{Sound}
use Rattle.memory.proofs.Laws.{ok_same}
use Rattle.memory.proofs.Pointers.{count-seen, never_given}
use Rattle.memory.proofs.Allocating.{allocate-view, allocate-sound}
use Rattle.memory.proofs.Access.{depth_is, write_view, write-sound}
use Rattle.machine.specs.Machine.{Stepped, points, execute}
use Rattle.machine.specs.Believed.{believed}
use Rattle.image.specs.Standing.{Stand}
use Rattle.image.proofs.Standing.{raw-took}
use Rattle.machine.proofs.Agree.{refused≢ok, need-ok, ok_inj}
use Rattle.machine.proofs.Initialize.{granted}
use Rattle.instruction.specs.Code as Code
use Rattle.instruction.specs.Storage.{given_by, filled_by, made_of, unstepped, initialized_by, initialized_of}
use Rattle.instruction.specs.declared.step.Progress.TheVariants.{Next}
use Rattle.calls.proofs.CallAgrees.{moved-sound, moved-seen}
use Rattle.agree.specs.Seen.{seen, Agrees}
use Rattle.instruction.proofs.Fields.{field-stands}
use Rattle.instruction.proofs.Bytes.{zeroed-bytes, part_bytes}
use Rattle.agree.proofs.Steady.{Steady, runs}
use Rattle.agree.proofs.Finish.{refusal, went-same, onward, with_variables}
use Rattle.agree.proofs.Compute.{then_then}
use Rattle.agree.proofs.Hand.{Hands, hands, withholds, never_refused, ahead, point_agrees}
use Rattle.agree.proofs.Access.{written-bytes}
use Rattle.image.specs.Limits.{AreBytes}

-- an instruction that may change every table
abbrev pub StepAgrees : State → Code.Stepped → Answer (Stepped Memory) → Type 0
StepAgrees s r x = Agrees s r.answer (λ m. state (tables m r.store r.frames r.bounds r.pointers) r.variables) x

-- ---- Drop

pub drop_agrees : (s : State) → Steady s → s.memory.registers.next < 4096 → (P : Program) (x : Operand)
    → Agrees s (Ok (Next (onward s))) (with_variables s s.variables) (execute believed P (seen s) (Drop x))
unfolding execute
drop_agrees s st room P x = record {
  same = went-same (moved-seen s.memory _ _) (eq-eqb _ 1 st.running) refl refl;
  kept = runs _ _ (moved-sound s.memory _ _ st.memory) st.variables st.running (omega arith) st.bytes;
}

-- ---- an allocation hands out the next number, its store is made of bytes, and a refusal leaves every table as it stood

abbrev pub Left : Tables → Out → Type 0
Left t o = (k : Refusal) → o.answer ≡ Err k → tables t.registers o.store o.frames o.bounds o.pointers ≡ t

pub record Allots (t : Tables) (o : Out) : Type 0 where
  pub hand : Hands t.registers o.answer
  pub bytes : AreBytes t.store → AreBytes o.store
  pub left : Left t o

either : {t : Tables} (b : Bool) {x y : Out} → Allots t x → Allots t y → Allots t (pick b x y)
either true x y = x
either false x y = y

no_room : (t : Tables) (n : Refusal) → Allots t (unmade t n)
no_room t n = record { hand = withholds; bytes = λ f. f; left = λ k e. refl }

pub allots : (t : Tables) (size : ℕ) → Allots t (allocated_of t size)
unfolding allocated_of
allots t size =
    let u = bound t (live t) in
    either (ready t)
    (either (eqb t.registers.depth 0) (no_room t _)
    (either (ltb (live t) (top_first t)) (no_room t _)
    (either (leb 512 (live t)) (no_room t _)
    (by_room (room_of u size t.registers.pointers)))))
    (no_room t _)
  where
    by_room : (r : Result ⊤ Refusal) → Allots t (made_where t size r)
    by_room (Ok u) = record { hand = hands; bytes = zeroed-bytes t.store (bound t (live t)) size; left = λ k e. absurd (never_refused e) }
    by_room (Err n) = no_room t n

-- ---- and then bytes are written through it

-- what is asked of an answer with the memory's tables, against the believed memory's
record Gives (t : Tables) (o : Out) (x : Answer Memory) : Type 0 where
  same : on_given o.answer (λ m. view (tables m o.store o.frames o.bounds o.pointers)) ≡ x
  sound : (p : ℕ) (n : Registers) → o.answer ≡ Ok (p, n) → Sound (tables n o.store o.frames o.bounds o.pointers)
  hand : Hands t.registers o.answer
  bytes : AreBytes o.store
  left : Left t o

-- the write is granted
abbrev Granted : Memory → (p : ℕ) → List ℕ → Type 0
Granted m p bs = (w : Memory) × (write_bytes m p bs ≡ ok w)

module _ (t : Tables) (frames bounds pointers : List ℕ) where
  wrote : (a : Result ⊤ Refusal) (store : List ℕ) (y : Answer Memory) → on_outcome a (view (tables (more t.registers) store frames bounds pointers)) ≡ y
      → (a ≡ Ok tt → Sound (tables (more t.registers) store frames bounds pointers)) → AreBytes store → (w : Memory) → y ≡ ok w
      → Gives t (out (given_by a t.registers.pointers (more t.registers)) store frames bounds pointers) y
  wrote (Ok u) store y e so f w g = record {
    same = e;
    sound = λ p n h. subst (λ k. Sound (tables k store frames bounds pointers)) (ap (λ (x : ℕ × Registers). x.1) (ok_same _ _ h)) (so refl);
    hand = hands;
    bytes = f;
    left = λ k h. absurd (never_refused h);
  }
  wrote (Err k) store y e so f w g = absurd (refused≢ok (e ∙ g))

  filled : (bs : List ℕ) → AreBytes bs → (a : Result (ℕ × Registers) Refusal) (store : List ℕ) → Hands t.registers a → (x : Answer Memory) → on_given a (λ n. view (tables n store frames bounds pointers)) ≡ x
      → ((p : ℕ) (n : Registers) → a ≡ Ok (p, n) → Sound (tables n store frames bounds pointers)) → AreBytes store → Left t (out a store frames bounds pointers)
      → ((m : Memory) → x ≡ ok m → Granted m t.registers.pointers bs)
      → Gives t (filled_by a store frames bounds pointers bs) (x >>= λ n. write_bytes n t.registers.pointers bs)
  unfolding ◌>>=◌ after_write
  filled bs f _ store hands x e so g left granted =
      let u = tables (more t.registers) store frames bounds pointers in
      let r = written_of u t.registers.pointers bs in
      let (w, h) = granted (view u) (sym e) in
      rw (sym e)
      (wrote r.answer r.table _ (write_view u (so _ _ refl) t.registers.pointers bs) (write-sound u (so _ _ refl) t.registers.pointers bs)
      (written-bytes u t.registers.pointers bs g f) w h)
  filled bs f _ store withholds x e so g left granted = rw (sym e) (record { same = refl; sound = λ p n h. absurd (never_given _ _ _ h); hand = withholds; bytes = g; left = left })

-- what is allocated, where it is
allocate-is : (m : Memory) (n : ℕ) (w : Memory) → allocate m n ≡ ok w → allocated m n ≡ w
unfolding allocate
allocate-is m n w e =
    let a = need-ok (ltb (live_count m.frames) 512) allocations_full _ e in
    let b = need-ok (leb (live_bytes m.frames + n) 32768) bytes_full _ a.1 in
    let c = need-ok (ltb (length m.pointers) 4096) pointers_full _ b.1 in
    ok_inj c.1

made-gives : (t : Tables) → Sound t → (n : ℕ) (bs : List ℕ) → length bs ≤ n → AreBytes t.store → AreBytes bs
    → Gives t (made_of t n bs) (allocate (view t) n >>= λ m. write_bytes m t.registers.pointers bs)
unfolding made_of after_allocate
made-gives t so n bs fit f g =
    let r = allocated_of t n in
    let a = allots t n in
    let root : 0 < length (view t).frames = omega (arith, depth_is t so, so.some) in
    filled t r.frames r.bounds r.pointers bs g r.answer r.store a.hand _ (allocate-view t so n) (allocate-sound t so n) (a.bytes f) a.left
    (λ m e. (_, ap₂ (λ (w : Memory) (k : ℕ). write_bytes w k bs) (sym (allocate-is (view t) n m e)) (sym (count-seen t so)) ∙ granted (view t) n bs root fit))

-- ---- Initialize

module _ (s : State) (st : Steady s) (room : s.memory.registers.next < 4096) (image : List ℕ) (P : Program) (bytes : AreBytes image) where
  initialized : (to : ℕ) → to < 256 → (n : ℕ) (bs : List ℕ) → length bs ≤ n → AreBytes bs
      → StepAgrees s (initialized_by (made_of (ahead s) n bs) s.variables to)
      (allocate (view s.memory) n >>= λ m. write_bytes m (length (view s.memory).pointers) bs >>= λ m'. points believed (seen s) to m')
  initialized to l n bs fit f =
      let g = made-gives (ahead s) (moved-sound s.memory _ _ st.memory) n bs fit st.bytes f in
      let o = made_of (ahead s) n bs in
      let x = allocate (view (ahead s)) n >>= λ m. write_bytes m s.memory.registers.pointers bs in
      subst (λ a. StepAgrees s (initialized_by o s.variables to) a)
      (then_then (allocate (view (ahead s)) n) (λ m. write_bytes m s.memory.registers.pointers bs) (points believed (seen s) to)
      ∙ ap₂ (λ v k. allocate v n >>= λ m. write_bytes m k bs >>= points believed (seen s) to) (moved-seen s.memory _ _) (sym (count-seen s.memory st.memory)))
      (point_agrees s st room to l o.answer o.store o.frames o.bounds o.pointers g.hand x g.same g.sound g.bytes g.left)

  exceeds : StepAgrees s (unstepped (ahead s) s.variables bytes_exceed_size) (refused bytes_exceed_size)
  exceeds = refusal refl

  pub initialize_agrees : (to n : ℕ) (bs : List ℕ) → to < 256 → (at e : ℕ) → 0 < at → Stand image at (num to ∷ num n ∷ length_and bs) e
      → StepAgrees s (initialized_of (ahead s) image s.variables at) (execute believed P (seen s) (Initialize to n bs))
  unfolding initialized_of execute need
  initialize_agrees to n bs l at e p h =
      let (k₁, e₁, p₁, h₁) = field-stands image at to (num n ∷ length_and bs) e p h in
      let (k₂, e₂, p₂, h₂) = field-stands image k₁ n (length_and bs) e p₁ h₁ in
      let (k₃, e₃, p₃, h₃) = field-stands image k₂ (length bs) (raw bs ∷ []) e p₂ h₂ in
      let (k₄, e₄, h₄) = h₃ in
      let (is, ends, inside) = raw-took image (length bs) k₃ e₄ in
      by_test (leb (length bs) n)
      (λ t. let c = leb-true (length bs) n t in
      rw (e₁, e₂, e₃, t, le-ltb n (length bs) c, le-ltb (length image) k₃ (omega arith), le-ltb (length image - k₃) (length bs) (omega arith), ← is)
      (initialized to l n bs c (subst AreBytes (sym is) (part_bytes image k₃ (length bs) bytes))))
      (λ t. let c = leb-false (length bs) n t in rw (e₁, e₂, e₃, t, lt-ltb n (length bs) c) exceeds)
