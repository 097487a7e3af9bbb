-- A pointer that is handed out goes to a variable: ConstantAddress and Offset agree with the believed machine, by the memory's own theorems.
use Rattle.std.specs.Prelude.{Result, Ok, Err}
use Prim.Native.Nat.{ℕ, ◌+◌, ◌-◌, ◌^◌, ◌<◌}
use native.Mathlib.Omega.{arith}
use mathlib.Core.Bool.{Bool, true, false}
use mathlib.Core.Path.{◌≡◌, refl, sym, ap, ◌∙◌}
use mathlib.Core.List.{List, [], ◌∷◌, ◌++◌}
use lib.ListN.{length}
use lib.Dec.{ltb, leb, eqb}
use borrow.Author.Tests.{eq-eqb}
use Rattle.std.proofs.lemmas.Bool.{false≢true}
use Rattle.value.specs.declared.refusal.Refusal.{Refusal}
use Rattle.value.specs.Answer.{Answer, pick, ◌>>=◌}
use Rattle.value.specs.Value.{value, pointer}
use Rattle.image.specs.Program.{Program, Operand, ConstantAddress, Offset}
use Rattle.image.specs.Written.{num}
use Rattle.image.specs.Written as W
use Rattle.memory.specs.Memory.{Memory, constant_address, offset_by}
use Rattle.memory.specs.Tables.{Tables, Both, both, tables, State, state, more, pointer_at, address_of, offset_of}
use Rattle.memory.specs.View.{view, variables_in, on_given, after_pointer}
use Rattle.memory.specs.declared.Registers.{Registers}
use Rattle.memory.proofs.Facts.{Sound}
use Rattle.memory.proofs.Pointers.{count-seen, address-view, address-sound, offset-view, offset-sound}
use Rattle.machine.specs.Machine.{Stepped, set_to, value_of, pointer_of, points, execute}
use Rattle.machine.specs.Believed.{believed}
use Rattle.machine.proofs.Values.{pointer-good}
use Rattle.image.specs.Standing.{Stand}
use Rattle.instruction.specs.Storage.{Pointed, pointed, pointed_of, handed_of, addressed_of, offsetted_of}
use Rattle.calls.proofs.CallAgrees.{moved, moved-sound, moved-seen}
use Rattle.calls.proofs.VariablesAgree.{read_next}
use Rattle.agree.specs.Seen.{seen, Agrees}
use Rattle.instruction.proofs.Fields.{field-stands, operand-stands}
use Rattle.instruction.proofs.Values.{Fits, operand-found, operand-good, variable-set, variables-kept}
use Rattle.agree.proofs.Steady.{Steady, runs}
use Rattle.agree.proofs.Finish.{refusal, went-same, onward}
use Rattle.agree.proofs.Reach.{reached}
use Rattle.image.specs.Limits.{AreBytes}

-- what is handed out is the next number, and the count of pointers rises; else nothing
pub data Hands (m : Registers) : Result (ℕ × Registers) Refusal → Type 0 where
  hands : Hands m (Ok (m.pointers, more m))
  withholds : {n : Refusal} → Hands m (Err n)

-- the tables as an instruction is given them
abbrev pub ahead : State → Tables
ahead s = moved s.memory s.memory.registers.running (s.memory.registers.next + 1)

module _ (s : State) (st : Steady s) (room : s.memory.registers.next < 4096) where
  -- the tables with the state's own registers
  abbrev back_to : Tables → Tables
  back_to t = tables s.memory.registers t.store t.frames t.bounds t.pointers

  -- where a memory's answer is the believed one, its tables are sound, and a refusal leaves them as they stood
  pub point_agrees : (to : ℕ) → to < 256 → (a : Result (ℕ × Registers) Refusal) (store frames bounds pointers : List ℕ) → Hands (onward s) a → (x : Answer Memory)
      → on_given a (λ m. view (tables m store frames bounds pointers)) ≡ x → ((p : ℕ) (m : Registers) → a ≡ Ok (p, m) → Sound (tables m store frames bounds pointers))
      → AreBytes store → ((n : Refusal) → a ≡ Err n → tables (onward s) store frames bounds pointers ≡ ahead s)
      → Agrees s (pointed_of a s.variables to).answer (λ m. state (tables m store frames bounds pointers) (pointed_of a s.variables to).table) (x >>= λ m. points believed (seen s) to m)
  unfolding ◌>>=◌
  point_agrees to l _ store frames bounds pointers hands x e so bytes left =
      rw (sym e)
      (record {
        same =
            went-same refl (eq-eqb _ 1 st.running) refl
            (variable-set s.variables st.variables to l (value pointer s.memory.registers.pointers)
            ∙ ap (λ n. set_to (variables_in s.variables) to (value pointer n)) (sym (count-seen s.memory st.memory)));
        kept =
            runs _ _ (so _ _ refl) (variables-kept s.variables st.variables to l (value pointer s.memory.registers.pointers) (pointer-good _ (omega (arith, st.memory.ready.given))))
            st.running (omega arith) bytes;
      })
  point_agrees to l _ store frames bounds pointers withholds x e so bytes left = rw (sym e) (refusal (ap (λ (t : Tables). state (back_to t) s.variables) (left _ refl)))

-- ---- ConstantAddress, Offset

-- a table of pointers, where nothing is handed out, is as it was
record Handing (m : Registers) (l : List ℕ) (b : Both (Result (ℕ × Registers) Refusal)) : Type 0 where
  hand : Hands m b.answer
  left : (n : Refusal) → b.answer ≡ Err n → b.table ≡ l

either : {m : Registers} {l : List ℕ} (t : Bool) {x y : Both (Result (ℕ × Registers) Refusal)} → Handing m l x → Handing m l y → Handing m l (pick t x y)
either true x y = x
either false x y = y

no_hand : {m : Registers} {l : List ℕ} {n : Refusal} → Handing m l (both (Err n) l)
no_hand = record { hand = withholds; left = λ n e. refl }

pub never_refused : {p : ℕ} {n : Refusal} {m : Registers} → ◌≡◌ {A = Result (ℕ × Registers) Refusal} (Ok (p, m)) (Err n) → ⊥
never_refused e = false≢true cc

new_hand : {m : Registers} {l l' : List ℕ} → Handing m l (both (Ok (m.pointers, more m)) l')
new_hand = record { hand = hands; left = λ n e. absurd (never_refused e) }

address_hands : (m : Registers) (k : ℕ) (l : List ℕ) → Handing m l (address_of m k l)
unfolding address_of
address_hands m k l = either (eqb (length l) 20480) (either (leb 4096 m.pointers) no_hand new_hand) no_hand

offset_hands : (m : Registers) (p by : ℕ) (l : List ℕ) → Handing m l (offset_of m p by l)
unfolding offset_of
offset_hands m p by l =
    either (eqb (length l) 20480)
    (either (ltb 4096 m.pointers) no_hand
    (either (leb m.pointers p) no_hand
    (either (eqb (pointer_at l p).kind 0)
    (either (ltb (18446744073709551615 - by) (pointer_at l p).offset) no_hand (either (leb 4096 m.pointers) no_hand new_hand)) no_hand)))
    no_hand

abbrev with_pointers_lem : State → List ℕ → Tables
with_pointers_lem s l = tables (onward s) s.memory.store s.memory.frames s.memory.bounds l

-- an instruction that changes nothing but pointers and variables
abbrev pub PointersAgree : State → Pointed → Answer (Stepped Memory) → Type 0
PointersAgree s r x = Agrees s r.answer (λ m. state (tables m s.memory.store s.memory.frames s.memory.bounds r.pointers) r.variables) x

module _ (s : State) (st : Steady s) (room : s.memory.registers.next < 4096) (image : List ℕ) (P : Program) where
  sound_ahead : Sound (ahead s)
  sound_ahead = moved-sound s.memory _ _ st.memory

  pub address_agrees : (to k : ℕ) → to < 256 → (at e : ℕ) → 0 < at → Stand image at (num to ∷ num k ∷ []) e
      → PointersAgree s (addressed_of (onward s) image s.memory.pointers s.variables at) (execute believed P (seen s) (ConstantAddress to k))
  unfolding addressed_of after_pointer execute
  address_agrees to k l at e p h =
      let (k₁, e₁, p₁, h₁) = field-stands image at to (num k ∷ []) e p h in
      let (k₂, e₂, p₂, h₂) = field-stands image k₁ k [] e p₁ h₁ in
      rw (e₁, e₂)
      (point_agrees s st room to l (address_of (onward s) k s.memory.pointers).answer _ _ _ _ (address_hands (onward s) k s.memory.pointers).hand _
      (address-view (ahead s) sound_ahead k ∙ ap (λ m. constant_address m k) (moved-seen s.memory _ _)) (address-sound (ahead s) sound_ahead k) st.bytes
      (λ n e. ap (with_pointers_lem s) ((address_hands (onward s) k s.memory.pointers).left n e)))

  pub offset_agrees : (to : ℕ) (x : Operand) (by : ℕ) → to < 256 → Fits x → by < 2 ^ 64 → (at e : ℕ) → 0 < at → Stand image at (num to ∷ W.operand x ++ W.number by) e
      → PointersAgree s (offsetted_of (onward s) image s.memory.pointers s.variables at) (execute believed P (seen s) (Offset to x by))
  unfolding offsetted_of after_pointer execute pointer_of
  offset_agrees to x by l f small at e p h =
      let (k₁, e₁, p₁, h₁) = field-stands image at to (W.operand x ++ W.number by) e p h in
      let (k₂, e₂, p₂, h₂) = operand-stands image k₁ x (W.number by) e p₁ h₁ in
      let (k₃, e₃, p₃, h₃) = field-stands image k₂ by [] e p₂ h₂ in
      rw (e₁, e₂, read_next x k₂, e₃, operand-found s.variables st.variables x k₂ p₂ f)
      (reached (PointersAgree s) (λ n. pointed (Err n) s.memory.pointers s.variables)
      (λ q. handed_of (offset_of (onward s) q by s.memory.pointers) s.variables to) (λ q. offset_by (view s.memory) q by >>= λ m. points believed (seen s) to m)
      (λ n. refusal refl)
      (λ q.
      point_agrees s st room to l (offset_of (onward s) q by s.memory.pointers).answer _ _ _ _ (offset_hands (onward s) q by s.memory.pointers).hand _
      (offset-view (ahead s) sound_ahead q by small ∙ ap (λ m. offset_by m q by) (moved-seen s.memory _ _)) (offset-sound (ahead s) sound_ahead q by) st.bytes
      (λ n e. ap (with_pointers_lem s) ((offset_hands (onward s) q by s.memory.pointers).left n e)))
      (value_of (variables_in s.variables) x) (operand-good s.variables st.variables x f))
