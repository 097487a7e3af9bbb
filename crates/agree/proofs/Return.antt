-- Return agrees with the believed machine: at the root the run ends, else the frame below goes on at its own place, with the value where the call had a place for it.
use Rattle.std.specs.Prelude.{Ok, Err, Some, None}
use Prim.Native.Nat.{ℕ, zero, suc, ◌+◌, ◌-◌, ◌*◌, ◌≤◌, ◌<◌}
use native.Mathlib.Omega.{arith}
use mathlib.Core.Bool.{false}
use mathlib.Core.Path.{◌≡◌, refl, sym, ap, subst}
use mathlib.Core.List.{List, []}
use mathlib.Core.Option.{Option, none, some}
use lib.ListN.{get_or}
use lib.Dec.{leb}
use borrow.Author.Tests.{eq-eqb, ne_eqb, le-leb, lt-leb, le-ltb, leb-true, leb-false}
use Rattle.value.specs.Answer.{Answer, ok, refused, ◌>>=◌}
use Rattle.value.specs.Value.{Value}
use Rattle.image.specs.Program.{Program, Operand, Return}
use Rattle.image.specs.Written.{maybe}
use Rattle.image.specs.Written as W
use Rattle.memory.specs.Memory.{pop_frame}
use Rattle.memory.specs.Tables.{Tables, both, tables, State, popped, popped_of, lowered}
use Rattle.memory.specs.View.{view, variables_in, variable_in, back_in}
use Rattle.memory.specs.declared.Registers.{Registers}
use Rattle.memory.proofs.Every.{by_test}
use Rattle.memory.proofs.Facts.{Sound}
use Rattle.memory.proofs.Frames.{pop-view, pop-sound}
use Rattle.memory.proofs.Stored.{stored-value}
use Rattle.machine.specs.Machine.{value_of, value_if, set_returned, leave, ended, execute}
use Rattle.machine.specs.Believed.{believed}
use Rattle.machine.proofs.Values.{Keeps, kept, Good}
use Rattle.image.specs.Standing.{Stand}
use Rattle.instruction.specs.Compute.{found_of}
use Rattle.instruction.specs.Code.{either}
use Rattle.instruction.specs.Storage.{back_of, left_of, returned_of}
use Rattle.calls.proofs.CallAgrees.{moved-sound, moved-seen}
use Rattle.agree.specs.Seen.{seen, returned_in, found_if}
use Rattle.instruction.proofs.Fields.{field-stands, operand-last}
use Rattle.instruction.proofs.Values.{Fits, operand-found, operand-good, variable-set, variables-kept}
use Rattle.agree.proofs.Steady.{Steady, runs, rests}
use Rattle.agree.proofs.Finish.{refusal, went-same, VariablesAgree}

-- ---- what a pop finds

module _ (t : Tables) (so : Sound t) where
  pop_root : t.registers.depth ≤ 1 → popped_of t.registers t.frames ≡ Ok None
  unfolding popped_of
  pop_root h = rw (eq-eqb _ 260 so.ready.frames, le-ltb 64 t.registers.depth so.ready.deep, le-leb t.registers.depth 1 h)

  pop-frame : 1 < t.registers.depth
      → popped_of t.registers t.frames ≡ Ok (Some (popped (get_or t.frames (t.registers.depth * 4 - 3) 0) (get_or t.frames (t.registers.depth * 4 - 2) 0) (lowered t.registers)))
  unfolding popped_of
  pop-frame h = rw (eq-eqb _ 260 so.ready.frames, le-ltb 64 t.registers.depth so.ready.deep, lt-leb t.registers.depth 1 h)

  -- the frame's place and variable are sound
  top-place : get_or t.frames (t.registers.depth * 4 - 3) 0 ≤ 4096
  top-place =
      let d : 0 < t.registers.depth = so.some in
      let i : (t.registers.depth - 1) * 4 + 1 ≡ t.registers.depth * 4 - 3 = omega arith in
      subst (λ k. get_or t.frames k 0 ≤ 4096) i (so.each (t.registers.depth - 1) (omega arith)).place

  top-variable : get_or t.frames (t.registers.depth * 4 - 2) 0 ≤ 256
  top-variable =
      let d : 0 < t.registers.depth = so.some in
      let i : (t.registers.depth - 1) * 4 + 2 ≡ t.registers.depth * 4 - 2 = omega arith in
      subst (λ k. get_or t.frames k 0 ≤ 256) i (so.each (t.registers.depth - 1) (omega arith)).variable

-- ---- a value, if there is one, as its tag and bits

abbrev GoodIf : Option Value → Type 0
GoodIf none = Unit
GoodIf (some v) = Good v

returned-back : (v : Option Value) → returned_in (found_if v) ≡ v
returned-back none = refl
returned-back (some v) = stored-value v.kind v.bits

abbrev pub FitsIf : Option Operand → Type 0
FitsIf none = Unit
FitsIf (some x) = Fits x

module _ (s : State) (st : Steady s) where
  back_agrees : (m : Registers) (place var : ℕ) → m.running ≡ 1 → place ≤ 4096 → var ≤ 256
      → Sound (tables m s.memory.store s.memory.frames s.memory.bounds s.memory.pointers)
      → (v : Option Value) → GoodIf v
      → VariablesAgree s (back_of m place var s.variables (found_if v))
      (leave believed (seen s) v (some (back_in place var, view (tables m s.memory.store s.memory.frames s.memory.bounds s.memory.pointers))))
  unfolding back_of leave set_returned variable_in ◌>>=◌
  back_agrees m place var r hp hv so none g = record {
    same = went-same (moved-seen _ _ _) (eq-eqb _ 1 r) refl refl;
    kept = runs _ _ (moved-sound _ _ _ so) st.variables r hp st.bytes;
  }
  back_agrees m place zero r hp hv so (some v) g = refusal refl
  back_agrees m place (suc x) r hp hv so (some v) g =
      let i : suc x - 1 ≡ x = omega arith in
      rw (ne_eqb (suc x) 0 (λ e. omega arith), i)
      (record {
        same = went-same (moved-seen _ _ _) (eq-eqb _ 1 r) refl (variable-set s.variables st.variables x hv v);
        kept = runs _ _ (moved-sound _ _ _ so) (variables-kept s.variables st.variables x hv v g) r hp st.bytes;
      })

  left_agrees : (v : Option Value) → GoodIf v
      → VariablesAgree s (left_of s.memory.registers s.memory.frames s.variables (found_if v)) (leave believed (seen s) v (pop_frame (view s.memory)))
  unfolding left_of leave
  left_agrees v g =
      let t = s.memory in
      by_test (leb t.registers.depth 1)
      (λ b. let one = leb-true t.registers.depth 1 b in
      rw (← pop-view t st.memory, pop_root t st.memory one)
      (record {
        same = λ i. ok (ended (returned-back v i) (record { memory = moved-seen t 0 t.registers.next i; running = false; place = t.registers.next; vars = variables_in s.variables }));
        kept = (rests _ _ (moved-sound _ _ _ st.memory) st.variables refl (omega (arith, st.memory.some)) st.place, st.bytes, ap found_if (sym (returned-back v)));
      }))
      (λ b. let more = leb-false t.registers.depth 1 b in
      let e = pop-frame t st.memory more in
      rw (← pop-view t st.memory, e)
      (back_agrees (lowered t.registers) _ _ st.running (top-place t st.memory) (top-variable t st.memory) (pop-sound t st.memory _ _ _ e) v g))

  worth_agrees : (a : Answer Value) → Keeps Good a
      → VariablesAgree s (either (found_of a) (λ n. both (Err n) s.variables) (λ v. left_of s.memory.registers s.memory.frames s.variables (Some v)))
      ((a >>= λ v. ok (some v)) >>= λ v. leave believed (seen s) v (pop_frame (view s.memory)))
  unfolding ◌>>=◌
  worth_agrees (refused n) k = refusal refl
  worth_agrees (ok v) (kept g) = left_agrees (some v) g

  -- its registers have its own place, and the frame below has the next
  pub return_agrees : (image : List ℕ) (P : Program) (x : Option Operand) → FitsIf x → (at e : ℕ) → 0 < at → Stand image at (maybe W.operand x) e
      → VariablesAgree s (returned_of s.memory.registers image s.memory.frames s.variables at) (execute believed P (seen s) (Return x))
  unfolding returned_of execute value_if
  return_agrees image P none f at e p h =
      let (k₁, e₁, p₁, h₁) = field-stands image at 0 [] e p h in
      rw e₁ (unfold ◌>>=◌ in left_agrees none tt)
  return_agrees image P (some x) f at e p h =
      let (k₁, e₁, p₁, h₁) = field-stands image at 1 (W.operand x) e p h in
      let (k₂, e₂, p₂) = operand-last image k₁ x e p₁ h₁ in
      rw (e₁, e₂, operand-found s.variables st.variables x k₂ p₂ f)
      (worth_agrees (value_of (variables_in s.variables) x) (operand-good s.variables st.variables x f))
