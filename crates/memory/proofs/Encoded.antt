-- Tables are sound exactly when they are well encoded and their view meets the list: each test of `sound_of` is a rule of encoding, or one of the list's read off the view.
use mathlib.Core.Path.{◌≡◌, refl, ap, ◌∙◌, sym}
use mathlib.Core.Bool.{Bool, true, false, ◌&&◌, ◌||◌}
use Prim.Native.Nat.{ℕ, ◌+◌, ◌*◌, ◌<◌, ◌≤◌, zero, suc}
use native.Mathlib.Omega.{arith}
use lib.ListN.{get_or, length}
use lib.Dec.{ltb, leb, eqb}
use borrow.Author.Tests.{ltb-true, ltb-false, leb-true, eqb-true, eqb-false, le-leb, eq-eqb}
use Rattle.value.specs.Value.{tag}
use Rattle.value.specs.Tags.{kind_at, named, held}
use Rattle.value.proofs.Truth.{both_true, and_true}
use Rattle.memory.specs.Memory.{Frame, no_frame, frame_at}
use Rattle.memory.specs.Sound.{sound_memory, good_vars, sound_machine}
use Rattle.memory.specs.Tables.{Tables, State, every, frame_word, bound, live, pointer_at, pointer_ok, pointers_ok, stored_ok, variable_ok, registers_ok, memory_ok, sound_of}
use Rattle.memory.specs.View.{variable_in, frame_in, view, running_in, variables_in}
use Rattle.memory.specs.Encoded.{exact_lengths, firsts_encoded, bounds_encoded, pointer_encoded, variable_encoded, well_encoded, SoundExactlyWhen}
use Rattle.memory.specs.declared.PointerRecord.{PointerRecord}
use Rattle.memory.proofs.Every.{by_test, same_truth, every-at, every-all}
use Rattle.memory.proofs.Tab.{length-tab, get_d_tab}
use Rattle.memory.proofs.Facts.{Sound, FrameSound, sound-of, sound_test}
use Rattle.memory.proofs.Frames.{above-next, above-top, next-first}
use Rattle.memory.proofs.Counts.{count-words}
use Rattle.memory.proofs.Exists.{Good, good_of, rising-at, rising-last, backs-at, variable_out}
use Rattle.memory.proofs.Whole.{sound-seen}

-- ---- one record

pointer_rule : (q : PointerRecord) → pointer_ok q ≡ pointer_encoded q
unfolding pointer_ok pointer_encoded
pointer_rule q =
    by_test (eqb q.kind 0)
    (λ z. let h = eqb-true q.kind 0 z in rw (z, le-leb q.kind 1 (omega arith)) refl)
    (λ z. rw (z, one q.kind (eqb-false q.kind 0 z)) refl)
  where
    one : (k : ℕ) → (k ≡ 0 → ⊥) → eqb k 1 ≡ leb k 1
    one k n =
        same_truth (eqb k 1) (leb k 1)
        (λ e. let h = eqb-true k 1 e in le-leb k 1 (omega arith))
        (λ e. let h : k ≤ 1 = leb-true k 1 e in eq-eqb k 1 (omega arith))

variable_rule : (t b : ℕ) → stored_ok t b ≡ variable_encoded t b
unfolding stored_ok variable_encoded
variable_rule t b = by_test (eqb t 0) (λ z. rw (z, eqb-true t 0 z) (unset (eqb b 0))) (λ z. rw z refl)
  where
    unset : (c : Bool) → c ≡ (c || held (kind_at 0) b)
    unset true = refl
    unset false = unfold kind_at named tag held in refl

-- ---- the rules as facts

record Encoded (s : State) : Type 0 where
  store : length s.memory.store ≡ 32768
  frames : length s.memory.frames ≡ 260
  bounds : length s.memory.bounds ≡ 513
  pointers : length s.memory.pointers ≡ 20480
  variables : length s.variables ≡ 512
  flag : s.memory.registers.running ≤ 1
  bottom : get_or s.memory.frames 3 0 ≡ 0
  firsts : (i : ℕ) → i < s.memory.registers.depth → frame_word s.memory.frames i 3 ≤ frame_word s.memory.frames i 7
  start : bound s.memory 0 ≡ 0
  ends : (k : ℕ) → k < live s.memory → bound s.memory k ≤ bound s.memory (k + 1)
  stored : bound s.memory (live s.memory) ≤ length s.memory.store
  kinds : (p : ℕ) → p < s.memory.registers.pointers → pointer_encoded (pointer_at s.memory.pointers p) ≡ true
  values : (x : ℕ) → x < 256 → variable_encoded (get_or s.variables (x * 2) 0) (get_or s.variables (x * 2 + 1) 0) ≡ true

encoded_of : (s : State) → well_encoded s ≡ true → Encoded s
unfolding well_encoded exact_lengths firsts_encoded bounds_encoded
encoded_of s e =
    let t = s.memory in
    let a = both_true (exact_lengths s) _ e in
    let a0 = both_true (eqb (length t.store) 32768) _ a.0 in
    let a1 = both_true (eqb (length t.frames) 260) _ a0.1 in
    let a2 = both_true (eqb (length t.bounds) 513) _ a1.1 in
    let a3 = both_true (eqb (length t.pointers) 20480) (eqb (length s.variables) 512) a2.1 in
    let b = both_true (leb t.registers.running 1) _ a.1 in
    let c = both_true (firsts_encoded t) _ b.1 in
    let c0 = both_true (eqb (frame_word t.frames 0 3) 0) _ c.0 in
    let d = both_true (bounds_encoded t) _ c.1 in
    let d0 = both_true (eqb (bound t 0) 0) _ d.0 in
    let d1 = both_true (every (live t) (λ k. leb (bound t k) (bound t (k + 1)))) (leb (bound t (live t)) (length t.store)) d0.1 in
    let f = both_true (every t.registers.pointers (λ p. pointer_encoded (pointer_at t.pointers p))) _ d.1 in
    record {
      store = eqb-true _ _ a0.0;
      frames = eqb-true _ _ a1.0;
      bounds = eqb-true _ _ a2.0;
      pointers = eqb-true _ _ a3.0;
      variables = eqb-true _ _ a3.1;
      flag = leb-true _ _ b.0;
      bottom = eqb-true _ _ c0.0;
      firsts = λ i k. let h : frame_word t.frames i 3 ≤ frame_word t.frames (i + 1) 3 = leb-true _ _ (every-at t.registers.depth _ c0.1 i k) in
          let q = ap (λ j. get_or t.frames j 0) (next-first i) in
          omega arith;
      start = eqb-true _ _ d0.0;
      ends = λ k l. leb-true _ _ (every-at (live t) _ d1.0 k l);
      stored = leb-true _ _ d1.1;
      kinds = every-at t.registers.pointers _ f.0;
      values = every-at 256 _ f.1;
    }

encoded_test : (s : State) → Encoded s → well_encoded s ≡ true
unfolding well_encoded exact_lengths firsts_encoded bounds_encoded
encoded_test s h =
    let t = s.memory in
    and_true
    (and_true (eq-eqb _ _ h.store) (and_true (eq-eqb _ _ h.frames) (and_true (eq-eqb _ _ h.bounds) (and_true (eq-eqb _ _ h.pointers) (eq-eqb _ _ h.variables)))))
    (and_true (le-leb _ _ h.flag)
    (and_true
    (and_true (eq-eqb _ _ h.bottom)
    (every-all t.registers.depth _
    (λ i k. let f = h.firsts i k in
    let q = ap (λ j. get_or t.frames j 0) (next-first i) in
    le-leb (frame_word t.frames i 3) (frame_word t.frames (i + 1) 3) (omega arith))))
    (and_true
    (and_true (eq-eqb _ _ h.start) (and_true (every-all (live t) _ (λ k l. le-leb _ _ (h.ends k l))) (le-leb _ _ h.stored)))
    (and_true (every-all t.registers.pointers _ h.kinds) (every-all 256 _ h.values)))))

-- ---- sound tables are well encoded

flag-of : (r next depth : ℕ) → registers_ok r next depth ≡ true → r ≤ 1
unfolding registers_ok
flag-of r next depth e =
    let a = both_true (leb next 4096) _ e in
    by_test (eqb r 1)
    (λ z. let h = eqb-true r 1 z in omega arith)
    (λ z. let b : (eqb r 0 && eqb depth 1) ≡ true = rw z at a.1 in
    let h = eqb-true r 0 (both_true (eqb r 0) (eqb depth 1) b).0 in
    omega arith)

sound_encoded : (s : State) → sound_of s ≡ true → Encoded s
unfolding sound_of pointers_ok variable_ok
sound_encoded s e =
    let t = s.memory in
    let a = both_true (memory_ok t) _ e in
    let b = both_true (eqb (length s.variables) 512) _ a.1 in
    let c = both_true (registers_ok t.registers.running t.registers.next t.registers.depth) (every 256 (variable_ok s.variables)) b.1 in
    let so = sound-of t a.0 in
    let l = so.ready in
    let u = so.used in
    let w = l.store in
    record {
      store = l.store;
      frames = l.frames;
      bounds = l.bounds;
      pointers = l.pointers;
      variables = eqb-true _ _ b.0;
      flag = flag-of _ _ _ c.0;
      bottom = so.bottom;
      firsts = λ i k. (so.each i k).first;
      start = so.start;
      ends = so.ends;
      stored = omega arith;
      kinds = λ p k. sym (pointer_rule (pointer_at t.pointers p)) ∙ so.kinds p k;
      values = λ x k. sym (variable_rule _ _) ∙ every-at 256 (variable_ok s.variables) c.1 x k;
    }

-- ---- well encoded tables whose view is on the list are sound

variable-out : (v : ℕ) → variable_out (variable_in v) ≡ v
unfolding variable_in
variable-out zero = refl
variable-out (suc x) = refl

registers-of : (r next depth : ℕ) → r ≤ 1 → leb next 4096 ≡ true → (running_in r || eqb depth 1) ≡ true → registers_ok r next depth ≡ true
unfolding registers_ok
registers-of r next depth h p e = and_true p
    (by_test (eqb r 1)
    (λ z. rw z refl)
    (λ z. let n = eqb-false r 1 z in
    let d : eqb depth 1 ≡ true = rw z at e in
    rw z (and_true (eq-eqb r 0 (omega arith)) d)))

module _ (s : State) (h : Encoded s) (g : Good (view s.memory)) where
  abbrev t : Tables
  t = s.memory

  abbrev F : ℕ → Frame
  F = frame_in t.frames t.bounds t.store

  depth_seen : length (view t).frames ≡ t.registers.depth
  unfolding view
  depth_seen = length-tab t.registers.depth F

  frame-seen : (i : ℕ) → i < t.registers.depth → frame_at (view t).frames i ≡ F i
  unfolding view
  frame-seen i k = get_d_tab t.registers.depth F i no_frame k

  id-seen : (i : ℕ) → i < t.registers.depth → (frame_at (view t).frames i).id ≡ get_or t.frames (i * 4) 0
  id-seen i k = ap (λ (f : Frame). f.id) (frame-seen i k)

  given-seen : length (view t).pointers ≡ t.registers.pointers
  unfolding view
  given-seen = length-tab t.registers.pointers _

  counter-seen : (view t).counter ≡ t.registers.counter
  unfolding view
  counter-seen = refl

  each_seen : (i : ℕ) → i < t.registers.depth → FrameSound t.frames t.registers.depth t.registers.counter i
  each_seen i k =
      let n = depth_seen in
      let c = counter-seen in
      let b = backs-at (view t).frames g.backs i (omega arith) in
      let b0 = b.0 in
      let b1 = b.1 in
      let a = id-seen i k in
      let p = ap (λ (f : Frame). f.back.place) (frame-seen i k) in
      let v = ap (λ (f : Frame). variable_out f.back.var) (frame-seen i k) ∙ variable-out (get_or t.frames (i * 4 + 2) 0) in
      record {
        id = by_test (ltb (i + 1) t.registers.depth)
            (λ w. let l : i + 1 < t.registers.depth = ltb-true _ _ w in
            let u = above-next t.frames t.registers.depth t.registers.counter i l in
            let q = id-seen (suc i) (omega arith) in
            let e : suc i * 4 ≡ i * 4 + 4 = omega arith in
            let z = ap (λ j. get_or t.frames j 0) e in
            let r = rising-at (view t).frames (view t).counter g.rises i (omega arith) in
            omega arith)
            (λ w. let l : t.registers.depth ≤ i + 1 = ltb-false _ _ w in
            let u = above-top t.frames t.registers.depth t.registers.counter i l in
            let r = rising-last (view t).frames (view t).counter g.rises i (omega arith) in
            omega arith);
        place = omega arith;
        variable = omega arith;
        first = h.firsts i k;
      }

  memory-sound : Sound t
  memory-sound =
      let n = depth_seen in
      let c = counter-seen in
      let p = given-seen in
      let l = count-words t h.bottom h.firsts in
      let o = g.some in
      let d = g.deep in
      let u = g.counted in
      let f = g.few in
      let q = g.given in
      let w = h.store in
      let b = h.stored in
      record {
        ready = record {
          store = h.store;
          frames = h.frames;
          bounds = h.bounds;
          pointers = h.pointers;
          deep = omega arith;
          given = omega arith;
        };
        some = omega arith;
        counted = omega arith;
        root = sym (id-seen 0 (omega arith)) ∙ g.root;
        bottom = h.bottom;
        start = h.start;
        each = each_seen;
        few = omega arith;
        ends = h.ends;
        used = omega arith;
        kinds = λ p k. unfold pointers_ok in (pointer_rule (pointer_at t.pointers p) ∙ h.kinds p k);
      }

encoded_sound : (s : State) → Encoded s
    → sound_machine (view s.memory) (running_in s.memory.registers.running) s.memory.registers.next (variables_in s.variables) ≡ true
    → sound_of s ≡ true
unfolding sound_machine sound_of variable_ok
encoded_sound s h e =
    let t = s.memory in
    let a = both_true (sound_memory (view t)) _ e in
    let b = both_true (leb t.registers.next 4096) _ a.1 in
    let c = both_true (good_vars (variables_in s.variables) 256) (running_in t.registers.running || eqb (length (view t).frames) 1) b.1 in
    let g = good_of (view t) a.0 in
    let d = depth_seen s h g in
    and_true (sound_test t (memory-sound s h g))
    (and_true (eq-eqb _ _ h.variables)
    (and_true (registers-of _ _ _ h.flag b.0 (sym (ap (λ k. running_in t.registers.running || eqb k 1) d) ∙ c.1))
    (every-all 256 (variable_ok s.variables) (λ x k. variable_rule _ _ ∙ h.values x k))))

-- Tables are sound exactly when they are well encoded and what they show is on the list of a sound state.
pub sound_exactly_when : SoundExactlyWhen
sound_exactly_when s =
    same_truth (sound_of s) _
    (λ e. and_true (encoded_test s (sound_encoded s e)) (sound-seen s e).0)
    (λ e. let b = both_true (well_encoded s) _ e in encoded_sound s (encoded_of s b.0) b.1)
