-- Write, Read and Copy agree with the believed machine, by the memory's own theorems of what it reads and writes.
use Rattle.std.specs.Prelude.{Result, Ok, Err, ⊤}
use Prim.Native.Nat.{ℕ, ◌<◌}
use native.Mathlib.Omega.{arith}
use mathlib.Core.Path.{◌≡◌, refl, sym, ap, ap₂, ◌∙◌, subst}
use mathlib.Core.List.{List, [], ◌∷◌, ◌++◌, append_assoc}
use mathlib.Core.Option.{some}
use lib.ListN.{length, replicate, length-replicate}
use lib.Dec.{T}
use borrow.Author.Tests.{eq-eqb}
use Rattle.std.proofs.lemmas.Bool.{false≢true}
use Rattle.value.specs.declared.refusal.Refusal.{Refusal}
use Rattle.value.specs.Answer.{Answer, ok, refused, ◌>>=◌}
use Rattle.value.specs.Value.{Value, IrType, Boolean, U8, U16, U32, U64, I8, I16, I32, I64, F32, F64, Pointer, kind_of, size, bytes_of, from_bytes}
use Rattle.value.specs.Tags.{type_at, type_of_kind, typed}
use Rattle.value.proofs.Tags.{kind_of_tag}
use Rattle.image.specs.Program.{Program, Operand, Write, Read, Copy}
use Rattle.image.specs.Written.{num, type_number}
use Rattle.image.specs.Written as W
use Rattle.memory.specs.Memory.{Memory, read_bytes, write_bytes}
use Rattle.memory.specs.Tables.{Tables, Both, both, tables, State, state, write_access_of, put_at, written_of, read_of, written_next, copied_of}
use Rattle.memory.specs.View.{view, variables_in, constants_in, on_outcome, after_write, after_read}
use Rattle.memory.proofs.Facts.{Sound}
use Rattle.memory.proofs.Bytes.{store_tables}
use Rattle.memory.proofs.Access.{Extents, write_view, write-sound, read_view}
use Rattle.machine.specs.Machine.{Stepped, value_of, pointer_of, sets, execute}
use Rattle.machine.specs.Machine as Machine
use Rattle.machine.specs.Sound.{all, are_bytes}
use Rattle.machine.specs.Believed.{believed}
use Rattle.machine.proofs.Values.{Keeps, kept, keeps_then, Good, Bytes, stored_bytes, read-good}
use Rattle.image.specs.Standing.{Stand}
use Rattle.instruction.specs.Compute.{found_of}
use Rattle.instruction.specs.Code.{finished_of}
use Rattle.instruction.specs.Storage.{went_on, stored_by, stored_of, write_of, value_in, read_as, read_by, reading_of, copying_of}
use Rattle.instruction.specs.declared.step.Progress.{Progress}
use Rattle.calls.proofs.CallAgrees.{moved-sound, moved-seen}
use Rattle.calls.proofs.VariablesAgree.{read_next}
use Rattle.agree.specs.Seen.{seen, Agrees}
use Rattle.instruction.proofs.Fields.{field-stands, operand-stands, operand-last}
use Rattle.instruction.proofs.Values.{Fits, found-answer, operand-found, operand-good}
use Rattle.instruction.proofs.Bytes.{paste_bytes, bytes-are}
use Rattle.agree.proofs.Steady.{Steady, runs}
use Rattle.agree.proofs.Whole.{read-bytes}
use Rattle.agree.proofs.Finish.{refusal, went-same, onward, VariablesAgree, finish_agrees}
use Rattle.agree.proofs.Compute.{then_then}
use Rattle.agree.proofs.Hand.{ahead}
use Rattle.agree.proofs.Reach.{reached}
use Rattle.image.specs.Limits.{AreBytes}

-- ---- bytes are written

abbrev with_store_lem : State → List ℕ → State
with_store_lem s store = state (tables s.memory.registers store s.memory.frames s.memory.bounds s.memory.pointers) s.variables

-- an instruction that changes nothing but the store
abbrev pub StoreAgrees : State → Both (Result Progress Refusal) → Answer (Stepped Memory) → Type 0
StoreAgrees s b x = Agrees s b.answer (λ m. state (tables m b.table s.memory.frames s.memory.bounds s.memory.pointers) s.variables) x

put-bytes : (p : Result ℕ Refusal) (store bytes : List ℕ) → AreBytes store → AreBytes bytes → AreBytes (put_at p store bytes).table
put-bytes (Ok at) store bytes f g = paste_bytes store at bytes (length bytes) f g
put-bytes (Err n) store bytes f g = f

pub written-bytes : (t : Tables) (p : ℕ) (bytes : List ℕ) → AreBytes t.store → AreBytes bytes → AreBytes (written_of t p bytes).table
unfolding written_of
written-bytes t p bytes f g = put-bytes (write_access_of t p (length bytes)) t.store bytes f g

never_refused : {n : Refusal} → ◌≡◌ {A = Result ⊤ Refusal} (Ok tt) (Err n) → ⊥
never_refused e = false≢true cc

put-left : (p : Result ℕ Refusal) (store bytes : List ℕ) (n : Refusal) → (put_at p store bytes).answer ≡ Err n → (put_at p store bytes).table ≡ store
put-left (Ok at) store bytes n e = absurd (never_refused e)
put-left (Err m) store bytes n e = refl

-- what is not written leaves the store as it stood
pub written-left : (t : Tables) (p : ℕ) (bytes : List ℕ) (n : Refusal) → (written_of t p bytes).answer ≡ Err n → (written_of t p bytes).table ≡ t.store
unfolding written_of
written-left t p bytes = put-left (write_access_of t p (length bytes)) t.store bytes

module _ (s : State) (st : Steady s) (room : s.memory.registers.next < 4096) where
  pub sound_ahead : Sound (ahead s)
  sound_ahead = moved-sound s.memory _ _ st.memory

  -- where the memory's answer is the believed one, its store is sound, and a refusal leaves it as it stood
  put_agrees : (a : Result ⊤ Refusal) (store : List ℕ) (x : Answer Memory) → on_outcome a (view (store_tables (ahead s) store)) ≡ x → (a ≡ Ok tt → Sound (store_tables (ahead s) store))
      → AreBytes store → ((n : Refusal) → a ≡ Err n → store ≡ s.memory.store) → StoreAgrees s (went_on (onward s) (both a store)) (x >>= λ m. Machine.onward believed (seen s) m (variables_in s.variables))
  unfolding ◌>>=◌
  put_agrees (Ok u) store x e so bytes left =
      rw (sym e)
      (record { same = went-same refl (eq-eqb _ 1 st.running) refl refl; kept = runs _ _ (so refl) st.variables st.running (omega arith) bytes })
  put_agrees (Err n) store x e so bytes left = rw (sym e) (refusal (ap (with_store_lem s) (left n refl)))

  -- bytes through pointer p
  written_agrees : (p : ℕ) (bytes : List ℕ) → AreBytes bytes
      → StoreAgrees s (went_on (onward s) (written_of (ahead s) p bytes)) (write_bytes (view s.memory) p bytes >>= λ m. Machine.onward believed (seen s) m (variables_in s.variables))
  unfolding after_write
  written_agrees p bytes f =
      put_agrees (written_of (ahead s) p bytes).answer (written_of (ahead s) p bytes).table _
      (write_view (ahead s) sound_ahead p bytes ∙ ap (λ m. write_bytes m p bytes) (moved-seen s.memory _ _))
      (write-sound (ahead s) sound_ahead p bytes) (written-bytes (ahead s) p bytes st.bytes f) (written-left (ahead s) p bytes)

  -- a value through pointer p
  stored_by_lem : (p : ℕ) (b : Answer Value)
      → StoreAgrees s (went_on (onward s) (stored_by (ahead s) p b)) (b >>= λ v. write_bytes (view s.memory) p (bytes_of v) >>= λ m. Machine.onward believed (seen s) m (variables_in s.variables))
  unfolding ◌>>=◌
  stored_by_lem p (ok v) = written_agrees p (bytes_of v) (bytes-are (bytes_of v) (stored_bytes v))
  stored_by_lem p (refused n) = refusal refl

  stored_agrees : (p : ℕ) (b : Answer Value) → Keeps Good b
      → StoreAgrees s (went_on (onward s) (stored_of (ahead s) p (found_of b))) (b >>= λ v. write_bytes (view s.memory) p (bytes_of v) >>= λ m. Machine.onward believed (seen s) m (variables_in s.variables))
  unfolding stored_of
  stored_agrees p b k = rw (found-answer b k) (stored_by_lem p b)

  pub write_agrees : (image : List ℕ) (P : Program) (x y : Operand) → Fits x → Fits y → (at e : ℕ) → 0 < at → Stand image at (W.operand x ++ W.operand y) e
      → StoreAgrees s (write_of (ahead s) image s.variables at) (execute believed P (seen s) (Write x y))
  unfolding write_of execute pointer_of
  write_agrees image P x y f g at e p h =
      let (k₁, e₁, p₁, h₁) = operand-stands image at x (W.operand y) e p h in
      let (k₂, e₂, p₂) = operand-last image k₁ y e p₁ h₁ in
      rw (e₁, read_next x k₁, e₂, operand-found s.variables st.variables x k₁ p₁ f, operand-found s.variables st.variables y k₂ p₂ g)
      (reached (StoreAgrees s) (λ n. both (Err n) s.memory.store) (λ q. went_on (onward s) (stored_of (ahead s) q (found_of (value_of (variables_in s.variables) y)))) _
      (λ n. refusal refl) (λ q. stored_agrees q (value_of (variables_in s.variables) y) (operand-good s.variables st.variables y g))
      (value_of (variables_in s.variables) x) (operand-good s.variables st.variables x f))

-- ---- bytes are read

type_of_kind_lem : (t : IrType) → type_of_kind (kind_of t) ≡ some t
unfolding type_of_kind kind_of
type_of_kind_lem Boolean = refl
type_of_kind_lem U8 = refl
type_of_kind_lem U16 = refl
type_of_kind_lem U32 = refl
type_of_kind_lem U64 = refl
type_of_kind_lem I8 = refl
type_of_kind_lem I16 = refl
type_of_kind_lem I32 = refl
type_of_kind_lem I64 = refl
type_of_kind_lem F32 = refl
type_of_kind_lem F64 = refl
type_of_kind_lem Pointer = refl

type_of_number : (t : IrType) → type_at (type_number t) ≡ some t
unfolding typed
type_of_number t = rw (kind_of_tag (kind_of t)) (type_of_kind_lem t)

-- the constants that a Read finds in the image are the program's, and bytes
pub record Constants (P : Program) (image extents : List ℕ) : Type 0 where
  pub inside : Extents image extents
  pub shown : constants_in image extents ≡ P.constants
  pub bytes : T (all are_bytes P.constants)

value_read : (t : IrType) (a : Result ⊤ Refusal) (bytes : List ℕ) → value_in t a bytes ≡ (on_outcome a bytes >>= from_bytes t)
unfolding ◌>>=◌
value_read t (Ok u) bytes = refl
value_read t (Err n) bytes = refl

module _ (s : State) (st : Steady s) (room : s.memory.registers.next < 4096) (image extents : List ℕ) (P : Program) (c : Constants P image extents) where
  -- n bytes through pointer p
  read_is : (p n : ℕ) → after_read (read_of (ahead s) p (replicate n 0) image extents) ≡ read_bytes P.constants (view s.memory) p n
  read_is p n =
      read_view (ahead s) (sound_ahead s st room) image extents c.inside p (replicate n 0)
      ∙ ap₂ (λ cs m. read_bytes cs m p (length (replicate {A = ℕ} n 0))) c.shown (moved-seen s.memory _ _)
      ∙ ap (λ k. read_bytes P.constants (view s.memory) p k) (length-replicate n 0)

  -- a value of type t through pointer p
  read_as_lem : (p : ℕ) (t : IrType) → read_as (ahead s) p t image extents ≡ (read_bytes P.constants (view s.memory) p (size (kind_of t)) >>= from_bytes t)
  unfolding read_as after_read
  read_as_lem p t =
      let r = read_of (ahead s) p (replicate (size (kind_of t)) 0) image extents in
      value_read t r.answer r.table ∙ ap (λ a. a >>= from_bytes t) (read_is p (size (kind_of t)))

  read_good_as : (p : ℕ) (t : IrType) → Keeps Good (read_bytes P.constants (view s.memory) p (size (kind_of t)) >>= from_bytes t)
  read_good_as p t = keeps_then (Bytes (size (kind_of t))) Good (read-bytes s st.sound st.bytes P.constants c.bytes p (size (kind_of t))) (read-good t)

  reading_agrees : (to : ℕ) → to < 256 → (t : IrType) (p : ℕ)
      → VariablesAgree s (finished_of (onward s) s.variables to (found_of (read_by (ahead s) p (some t) image extents)))
      (read_bytes P.constants (view s.memory) p (size (kind_of t)) >>= λ bytes. from_bytes t bytes >>= λ v. sets believed (seen s) to v)
  reading_agrees to l t p =
      rw (read_as_lem p t, ← then_then (read_bytes P.constants (view s.memory) p (size (kind_of t))) (from_bytes t) (sets believed (seen s) to))
      (finish_agrees s st room to l (read_bytes P.constants (view s.memory) p (size (kind_of t)) >>= from_bytes t) (read_good_as p t))

  pub read_agrees : (to : ℕ) (x : Operand) (t : IrType) → to < 256 → Fits x → (at e : ℕ) → 0 < at → Stand image at (num to ∷ W.operand x ++ W.number (type_number t)) e
      → VariablesAgree s (reading_of (ahead s) image extents s.variables at) (execute believed P (seen s) (Read to x t))
  unfolding reading_of execute pointer_of
  read_agrees to x t l f at e p h =
      let (k₁, e₁, p₁, h₁) = field-stands image at to (W.operand x ++ W.number (type_number t)) e p h in
      let (k₂, e₂, p₂, h₂) = operand-stands image k₁ x (W.number (type_number t)) e p₁ h₁ in
      let (k₃, e₃, p₃, h₃) = field-stands image k₂ (type_number t) [] e p₂ h₂ in
      rw (e₁, e₂, read_next x k₂, e₃, type_of_number t, operand-found s.variables st.variables x k₂ p₂ f)
      (reached (VariablesAgree s) (λ n. both (Err n) s.variables)
      (λ q. finished_of (onward s) s.variables to (found_of (read_by (ahead s) q (some t) image extents))) _
      (λ n. refusal refl) (reading_agrees to l t)
      (value_of (variables_in s.variables) x) (operand-good s.variables st.variables x f))

  -- ---- bytes are read and written

  next_agrees : (p n : ℕ) (a : Result ⊤ Refusal) (bytes : List ℕ) (x : Answer (List ℕ)) → on_outcome a bytes ≡ x → Keeps (Bytes n) x
      → StoreAgrees s (went_on (onward s) (written_next (ahead s) p a bytes))
      (x >>= λ bytes. write_bytes (view s.memory) p bytes >>= λ m. Machine.onward believed (seen s) m (variables_in s.variables))
  unfolding ◌>>=◌
  next_agrees p n (Ok u) bytes x e k = rw (sym e) (written_agrees s st room p bytes (bytes-are bytes (kept-bytes (rw (sym e) at k))))
    where
      kept-bytes : Keeps (Bytes n) (ok bytes) → T (are_bytes bytes)
      kept-bytes (kept b) = b.1
  next_agrees p n (Err m) bytes x e k = rw (sym e) (refusal refl)

  copied_agrees : (p q n : ℕ)
      → StoreAgrees s (went_on (onward s) (copied_of (ahead s) p q n image extents))
      (read_bytes P.constants (view s.memory) q n >>= λ bytes. write_bytes (view s.memory) p bytes >>= λ m. Machine.onward believed (seen s) m (variables_in s.variables))
  unfolding copied_of after_read
  copied_agrees p q n =
      let r = read_of (ahead s) q (replicate n 0) image extents in
      next_agrees p n r.answer r.table _ (read_is q n) (read-bytes s st.sound st.bytes P.constants c.bytes q n)

  pub copy_agrees : (x y : Operand) (n : ℕ) → Fits x → Fits y → (at e : ℕ) → 0 < at → Stand image at (W.operand x ++ W.operand y ++ W.number n) e
      → StoreAgrees s (copying_of (ahead s) image extents s.variables at) (execute believed P (seen s) (Copy x y n))
  unfolding copying_of execute pointer_of
  copy_agrees x y n f g at e p h =
      let h₀ = subst (λ ps. Stand image at ps e) (append_assoc (W.operand x) (W.operand y) (W.number n)) h in
      let (k₁, e₁, p₁, h₁) = operand-stands image at x (W.operand y ++ W.number n) e p h₀ in
      let (k₂, e₂, p₂, h₂) = operand-stands image k₁ y (W.number n) e p₁ h₁ in
      let (k₃, e₃, p₃, h₃) = field-stands image k₂ n [] e p₂ h₂ in
      rw (e₁, read_next x k₁, e₂, read_next y k₂, e₃, operand-found s.variables st.variables x k₁ p₁ f, operand-found s.variables st.variables y k₂ p₂ g)
      (reached (StoreAgrees s) (λ n. both (Err n) s.memory.store) _ _
      (λ n. refusal refl)
      (λ q. reached (StoreAgrees s) (λ n. both (Err n) s.memory.store) (λ r. went_on (onward s) (copied_of (ahead s) q r n image extents)) _
      (λ n. refusal refl) (λ r. copied_agrees q r n)
      (value_of (variables_in s.variables) y) (operand-good s.variables st.variables y g))
      (value_of (variables_in s.variables) x) (operand-good s.variables st.variables x f))
