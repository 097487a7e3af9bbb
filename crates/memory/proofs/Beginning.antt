-- Fresh tables are sound, and the view of them is the fresh memory: every word is 0.
use Rattle.std.specs.Prelude.{Ok}
use mathlib.Core.Path.{◌≡◌, refl, ap, ◌∙◌}
use mathlib.Core.List.{List, [], ◌∷◌}
use mathlib.Core.Bool.{true}
use mathlib.Core.Option.{none}
use Prim.Native.Nat.{ℕ, ◌+◌, ◌*◌, ◌<◌, zero, suc}
use native.Mathlib.Omega.{arith}
use lib.ListN.{get_or, length, replicate, length-replicate}
use borrow.Author.Tests.{eq-eqb}
use Rattle.value.proofs.Truth.{and_true}
use Rattle.memory.specs.Memory.{Frame, no_frame}
use Rattle.memory.specs.Memory as M
use Rattle.memory.specs.Stored.{stored_value}
use Rattle.memory.specs.Tables.{Tables, tables, state, registers, stored_ok, variable_ok, registers_ok, sound_of, ready, All, fresh_of}
use Rattle.memory.specs.View.{tab, variable_in, back_in, view, variables_in}
use Rattle.memory.proofs.Every.{every-all}
use Rattle.memory.proofs.Laws.{fresh-made}
use Rattle.memory.proofs.Facts.{Sound, FrameSound, sound_test, ready_test}
use Rattle.memory.proofs.Frames.{memory-same, allocations-none, above-top}
use Rattle.memory.proofs.Stored.{stored-none}

pub zeros : (n k : ℕ) → get_or {A = ℕ} (replicate n 0) k 0 ≡ 0
zeros zero k = refl
zeros (suc n) zero = refl
zeros (suc n) (suc k) = zeros n k

module _ (s f b p v : List ℕ) (ls : length s ≡ 32768) (lf : length f ≡ 260) (lb : length b ≡ 513) (lp : length p ≡ 20480) (lv : length v ≡ 512) where
  abbrev t : Tables
  t = tables (registers 0 0 1 1 0) (replicate (length s) 0) (replicate (length f) 0) (replicate (length b) 0) (replicate (length p) 0)

  abbrev vs : List ℕ
  vs = replicate (length v) 0

  zero_frame : (i : ℕ) → i < 1 → FrameSound t.frames 1 1 i
  zero_frame i h =
      let w = zeros (length f) in
      let a = above-top t.frames 1 1 i (omega arith) in
      let x0 = w (i * 4) in
      let x1 = w (i * 4 + 1) in
      let x2 = w (i * 4 + 2) in
      let x3 = w (i * 4 + 3) in
      let x7 = w (i * 4 + 7) in
      record { id = omega arith; place = omega arith; variable = omega arith; first = omega arith }

  zero_sound : Sound t
  zero_sound =
      let c = zeros (length f) 7 in
      record {
        ready = record {
          store = length-replicate (length s) 0 ∙ ls;
          frames = length-replicate (length f) 0 ∙ lf;
          bounds = length-replicate (length b) 0 ∙ lb;
          pointers = length-replicate (length p) 0 ∙ lp;
          deep = omega arith;
          given = omega arith;
        };
        some = omega arith;
        counted = omega arith;
        root = zeros (length f) 0;
        bottom = zeros (length f) 3;
        start = zeros (length b) 0;
        each = zero_frame;
        few = omega arith;
        ends = λ k h. absurd (omega arith);
        used = let x = zeros (length b) (get_or t.frames 7 0) in omega arith;
        kinds = λ q h. absurd (omega arith);
      }

  zero_variable : (x : ℕ) → variable_ok vs x ≡ true
  unfolding variable_ok stored_ok
  zero_variable x = rw (zeros (length v) (x * 2), zeros (length v) (x * 2 + 1)) refl

  idle : registers_ok 0 0 1 ≡ true
  unfolding registers_ok
  idle = refl

  all_sound : sound_of (state t vs) ≡ true
  unfolding sound_of
  all_sound =
      and_true (sound_test t zero_sound)
      (and_true (eq-eqb (length vs) 512 (length-replicate (length v) 0 ∙ lv)) (and_true idle (every-all 256 (variable_ok vs) (λ x h. zero_variable x))))

  fresh-seen : view t ≡ M.fresh
  unfolding view M.fresh tab
  fresh-seen =
      let w = zeros (length f) in
      memory-same (ap (λ (g : Frame). g ∷ []) (frame-eq (w 0) (w 1) (w 2) (allocations-none _ _ _ _ (let a = w 3 in let b = w 7 in omega arith)))) refl
    where
      frame-eq : {i q c : ℕ} {l : List (List ℕ)} → i ≡ 0 → q ≡ 0 → c ≡ 0 → l ≡ [] → ◌≡◌ {A = Frame} (record { id = i; back = back_in q c; allocations = l }) no_frame
      frame-eq a b c d = unfold variable_in in rw (a, b, c, d) refl

  none-set : (x : ℕ) → variables_in vs x ≡ none
  unfolding variables_in
  none-set x = ap (λ (n : ℕ). stored_value n (get_or vs (x * 2 + 1) 0)) (zeros (length v) (x * 2)) ∙ stored-none _

-- Fresh memory: refused only for wrong lengths; else a sound state, idle at place 0, whose view is the fresh memory with no variable set.
pub record Fresh (o : All) : Type 0 where
  pub answer : o.answer ≡ Ok (registers 0 0 1 1 0)
  pub sound : sound_of (state (tables (registers 0 0 1 1 0) o.store o.frames o.bounds o.pointers) o.variables) ≡ true
  pub memory : view (tables (registers 0 0 1 1 0) o.store o.frames o.bounds o.pointers) ≡ M.fresh
  pub unset : (x : ℕ) → variables_in o.variables x ≡ none

pub fresh-view : (s f b p v : List ℕ) → length s ≡ 32768 → length f ≡ 260 → length b ≡ 513 → length p ≡ 20480 → length v ≡ 512 → Fresh (fresh_of s f b p v)
fresh-view s f b p v ls lf lb lp lv =
    let r : ready (tables (registers 0 0 1 1 0) s f b p) ≡ true =
    ready_test _ _ _ _ _ _ (record { store = ls; frames = lf; bounds = lb; pointers = lp; deep = omega arith; given = omega arith }) in
    rw (fresh-made s f b p v r lv)
    record {
      answer = refl;
      sound = all_sound s f b p v ls lf lb lp lv;
      memory = fresh-seen s f b p v ls lf lb lp lv;
      unset = none-set s f b p v ls lf lb lp lv;
    }
