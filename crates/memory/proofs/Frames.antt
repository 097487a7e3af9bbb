-- Push and pop through the view: a frame's words are read one by one before and after, and the frames are tabulated again.
use Rattle.std.specs.Prelude.{Result, Ok, Err, Some, None}
use Rattle.std.specs.Prelude as Code
use mathlib.Core.Path.{◌≡◌, refl, ap, ◌∙◌, sym}
use mathlib.Core.List.{List, [], ◌∷◌, ◌++◌}
use mathlib.Core.Option.{Option, some}
use Prim.Native.Nat.{ℕ, ◌+◌, ◌*◌, ◌-◌, ◌<◌, ◌≤◌}
use native.Mathlib.Omega.{arith}
use lib.ListN.{get_or, set, length, take, length-set}
use lib.Seq.{get_or-set_same, get_or-set_other, take_at}
use lib.Dec.{ltb, leb}
use borrow.Author.Tests.{ltb-true, ltb-false, leb-true, leb-false, lt-ltb, le-ltb, eq-eqb}
use Rattle.value.specs.declared.refusal.Refusal.{Refusal}
use Rattle.value.specs.Answer.{ok, need}
use Rattle.value.specs.Refusal.{frames_full, ids_spent}
use Rattle.memory.specs.Memory.{Back, Frame, Pointer, Memory, frame_at, no_frame, top, push_frame, pop_frame, pushed, popped}
use Rattle.memory.specs.Tables.{Tables, tables, registers, frame_set, pushed_of, popped_of, lowered, id_above}
use Rattle.memory.specs.Tables as T
use Rattle.memory.specs.View.{tab, bytes_of, allocations_in, back_in, frame_in, view, after_push, after_pop}
use Rattle.memory.specs.declared.Registers.{Registers}
use Rattle.memory.specs.declared.Popped.{Popped}
use Rattle.memory.proofs.Every.{by_test}
use Rattle.memory.proofs.Laws.{never, ok_same}
use Rattle.memory.proofs.Tab.{tab-none, tab-more, length-tab, tab-same, get_d_tab, mono}
use Rattle.memory.proofs.Facts.{FrameSound, Sound}

-- ---- frames by their words

abbrev pub frame : (id place variable : ℕ) → List (List ℕ) → Frame
frame a b c l = record { id = a; back = back_in b c; allocations = l }

abbrev pub memory : ℕ → List Frame → List Pointer → Memory
memory a b c = record { counter = a; frames = b; pointers = c }

pub frame_same : {a a' b b' c c' : ℕ} {l l' : List (List ℕ)} → a ≡ a' → b ≡ b' → c ≡ c' → l ≡ l' → frame a b c l ≡ frame a' b' c' l'
frame_same p q r t = cc

pub memory-same : {a : ℕ} {b b' : List Frame} {c c' : List Pointer} → b ≡ b' → c ≡ c' → memory a b c ≡ memory a b' c'
memory-same p q = cc

pub allocations-none : (bo store : List ℕ) (lo hi : ℕ) → hi ≤ lo → allocations_in bo store lo hi ≡ []
unfolding allocations_in
allocations-none bo store lo hi h = let e : hi - lo ≡ 0 = omega arith in ap (λ n. tab n (λ j. bytes_of bo store (lo + j))) e ∙ tab-none _

pub frame-words : (fr fr' bo store : List ℕ) (i : ℕ) → get_or fr (i * 4) 0 ≡ get_or fr' (i * 4) 0 → get_or fr (i * 4 + 1) 0 ≡ get_or fr' (i * 4 + 1) 0
    → get_or fr (i * 4 + 2) 0 ≡ get_or fr' (i * 4 + 2) 0 → get_or fr (i * 4 + 3) 0 ≡ get_or fr' (i * 4 + 3) 0 → get_or fr (i * 4 + 7) 0 ≡ get_or fr' (i * 4 + 7) 0
    → frame_in fr bo store i ≡ frame_in fr' bo store i
frame-words fr fr' bo store i a b c d e =
    frame_same a b c (ap (allocations_in bo store (get_or fr (i * 4 + 3) 0)) e ∙ ap (λ x. allocations_in bo store x (get_or fr' (i * 4 + 7) 0)) d)

frame_set_other : (l : List ℕ) (d id place variable k : ℕ) → (k ≡ d * 4 → ⊥) → (k ≡ d * 4 + 1 → ⊥) → (k ≡ d * 4 + 2 → ⊥) → (k ≡ d * 4 + 7 → ⊥)
    → get_or (frame_set l d id place variable) k 0 ≡ get_or l k 0
frame_set_other l d id place variable k a b c e =
    let x = set l (d * 4) id in
    let y = set x (d * 4 + 1) place in
    let z = set y (d * 4 + 2) variable in
    get_or-set_other z (d * 4 + 7) k (get_or l (d * 4 + 3) 0) 0 e ∙ get_or-set_other y (d * 4 + 2) k variable 0 c
    ∙ get_or-set_other x (d * 4 + 1) k place 0 b ∙ get_or-set_other l (d * 4) k id 0 a

length_frame_set : (l : List ℕ) (d a b c : ℕ) → length (frame_set l d a b c) ≡ length l
length_frame_set l d a b c = simp length-set

pub above-next : (fr : List ℕ) (d counter i : ℕ) → i + 1 < d → id_above fr d counter i ≡ get_or fr (i * 4 + 4) 0
unfolding id_above
above-next fr d counter i h = simp (lt-ltb _ _ h)

pub above-top : (fr : List ℕ) (d counter i : ℕ) → d ≤ i + 1 → id_above fr d counter i ≡ counter
unfolding id_above
above-top fr d counter i h = simp (le-ltb _ _ h)

pub next-first : (i : ℕ) → (i + 1) * 4 + 3 ≡ i * 4 + 7
next-first i = omega arith

-- ---- what never falls

module _ (t : Tables) (so : Sound t) where
  pub firsts_up : (i j : ℕ) → i ≤ j → j ≤ t.registers.depth → get_or t.frames (i * 4 + 3) 0 ≤ get_or t.frames (j * 4 + 3) 0
  firsts_up =
      mono (λ i. get_or t.frames (i * 4 + 3) 0) t.registers.depth
      (λ i h. let q = ap (λ k. get_or t.frames k 0) (next-first i) in
      let r = (so.each i h).first in
      omega arith)

  pub ends_up : (i j : ℕ) → i ≤ j → j ≤ get_or t.frames (t.registers.depth * 4 + 3) 0 → get_or t.bounds i 0 ≤ get_or t.bounds j 0
  ends_up = mono (λ k. get_or t.bounds k 0) (get_or t.frames (t.registers.depth * 4 + 3) 0) so.ends

  -- the end of frame i's allocations is among the live ones
  pub end_live : (i : ℕ) → i < t.registers.depth → get_or t.frames (i * 4 + 7) 0 ≤ get_or t.frames (t.registers.depth * 4 + 3) 0
  end_live i h =
      let q = ap (λ k. get_or t.frames k 0) (next-first i) in
      let r = firsts_up (i + 1) t.registers.depth (omega arith) (omega arith) in
      omega arith

-- ---- push

abbrev pub push_tables : Tables → (place variable : ℕ) → Tables
push_tables t place variable =
    tables
    (registers t.registers.running t.registers.next (t.registers.counter + 1) (t.registers.depth + 1) t.registers.pointers)
    t.store
    (frame_set t.frames t.registers.depth t.registers.counter place variable)
    t.bounds
    t.pointers

module _ (t : Tables) (place variable : ℕ) (so : Sound t) (room : t.registers.depth < 64) where
  abbrev n : ℕ
  n = t.registers.depth

  abbrev a : List ℕ
  a = set t.frames (n * 4) t.registers.counter

  abbrev b : List ℕ
  b = set a (n * 4 + 1) place

  abbrev c : List ℕ
  c = set b (n * 4 + 2) variable

  long : length t.frames ≡ 260
  long = so.ready.frames

  push-word : (k : ℕ) → (k ≡ n * 4 → ⊥) → (k ≡ n * 4 + 1 → ⊥) → (k ≡ n * 4 + 2 → ⊥) → (k ≡ n * 4 + 7 → ⊥)
      → get_or (push_tables t place variable).frames k 0 ≡ get_or t.frames k 0
  push-word k = frame_set_other t.frames n t.registers.counter place variable k

  push-below : (i : ℕ) → i < n → frame_in (push_tables t place variable).frames t.bounds t.store i ≡ frame_in t.frames t.bounds t.store i
  push-below i h =
      frame-words (push_tables t place variable).frames t.frames t.bounds t.store i
      (push-word (i * 4) (λ e. omega arith) (λ e. omega arith) (λ e. omega arith) (λ e. omega arith))
      (push-word (i * 4 + 1) (λ e. omega arith) (λ e. omega arith) (λ e. omega arith) (λ e. omega arith))
      (push-word (i * 4 + 2) (λ e. omega arith) (λ e. omega arith) (λ e. omega arith) (λ e. omega arith))
      (push-word (i * 4 + 3) (λ e. omega arith) (λ e. omega arith) (λ e. omega arith) (λ e. omega arith))
      (push-word (i * 4 + 7) (λ e. omega arith) (λ e. omega arith) (λ e. omega arith) (λ e. omega arith))

  -- the words of the new record, and the one above it
  push_lo : get_or (push_tables t place variable).frames (n * 4 + 3) 0 ≡ get_or t.frames (n * 4 + 3) 0
  push_lo = push-word (n * 4 + 3) (λ e. omega arith) (λ e. omega arith) (λ e. omega arith) (λ e. omega arith)

  push_hi : get_or (push_tables t place variable).frames (n * 4 + 7) 0 ≡ get_or t.frames (n * 4 + 3) 0
  push_hi =
      let l = long in
      let la = length-set t.frames (n * 4) t.registers.counter in
      let lb = length-set a (n * 4 + 1) place in
      let lc = length-set b (n * 4 + 2) variable in
      get_or-set_same c (n * 4 + 7) (get_or t.frames (n * 4 + 3) 0) 0 (omega arith)

  push-id : get_or (push_tables t place variable).frames (n * 4) 0 ≡ t.registers.counter
  push-id =
      let l = long in
      get_or-set_other c (n * 4 + 7) (n * 4) (get_or t.frames (n * 4 + 3) 0) 0 (λ e. omega arith)
      ∙ get_or-set_other b (n * 4 + 2) (n * 4) variable 0 (λ e. omega arith)
      ∙ get_or-set_other a (n * 4 + 1) (n * 4) place 0 (λ e. omega arith)
      ∙ get_or-set_same t.frames (n * 4) t.registers.counter 0 (omega arith)

  push-place : get_or (push_tables t place variable).frames (n * 4 + 1) 0 ≡ place
  push-place =
      let l = long in
      let la = length-set t.frames (n * 4) t.registers.counter in
      get_or-set_other c (n * 4 + 7) (n * 4 + 1) (get_or t.frames (n * 4 + 3) 0) 0 (λ e. omega arith)
      ∙ get_or-set_other b (n * 4 + 2) (n * 4 + 1) variable 0 (λ e. omega arith)
      ∙ get_or-set_same a (n * 4 + 1) place 0 (omega arith)

  push-variable : get_or (push_tables t place variable).frames (n * 4 + 2) 0 ≡ variable
  push-variable =
      let l = long in
      let la = length-set t.frames (n * 4) t.registers.counter in
      let lb = length-set a (n * 4 + 1) place in
      get_or-set_other c (n * 4 + 7) (n * 4 + 2) (get_or t.frames (n * 4 + 3) 0) 0 (λ e. omega arith)
      ∙ get_or-set_same b (n * 4 + 2) variable 0 (omega arith)

  push-top : frame_in (push_tables t place variable).frames t.bounds t.store n ≡ frame t.registers.counter place variable []
  push-top = let lo = push_lo in let hi = push_hi in frame_same push-id push-place push-variable (allocations-none _ _ _ _ (omega arith))

  push-seen : view (push_tables t place variable) ≡ pushed (view t) (back_in place variable)
  unfolding view
  push-seen =
      let f' = frame_in (push_tables t place variable).frames t.bounds t.store in
      let f = frame_in t.frames t.bounds t.store in
      memory-same
      (tab-more n f' ∙ ap (λ l. l ++ (f' n ∷ [])) (tab-same n f' f push-below) ∙ ap (λ x. tab n f ++ (x ∷ [])) push-top)
      refl

  -- the ids still rise below the counter, which rose
  push-each : place ≤ 4096 → variable ≤ 256 → (i : ℕ) → i < n + 1
      → FrameSound (push_tables t place variable).frames (n + 1) (t.registers.counter + 1) i
  push-each hb hr i h =
      let fr = t.frames in
      let fr' = (push_tables t place variable).frames in
      let w = push-word in
      by_test (ltb i n)
      (λ u. let k : i < n = ltb-true i n u in
      let f = so.each i k in
      let x1 = w (i * 4) (λ e. omega arith) (λ e. omega arith) (λ e. omega arith) (λ e. omega arith) in
      let x2 = w (i * 4 + 1) (λ e. omega arith) (λ e. omega arith) (λ e. omega arith) (λ e. omega arith) in
      let x3 = w (i * 4 + 2) (λ e. omega arith) (λ e. omega arith) (λ e. omega arith) (λ e. omega arith) in
      let x4 = w (i * 4 + 3) (λ e. omega arith) (λ e. omega arith) (λ e. omega arith) (λ e. omega arith) in
      let x5 = w (i * 4 + 7) (λ e. omega arith) (λ e. omega arith) (λ e. omega arith) (λ e. omega arith) in
      let up : id_above fr' (n + 1) (t.registers.counter + 1) i ≡ get_or fr' (i * 4 + 4) 0 = above-next fr' (n + 1) (t.registers.counter + 1) i (omega arith) in
      let g = f.id in
      record {
        id = by_test (ltb (i + 1) n)
            (λ v. let d : i + 1 < n = ltb-true (i + 1) n v in
            let p = above-next fr n t.registers.counter i d in
            let q = w (i * 4 + 4) (λ e. omega arith) (λ e. omega arith) (λ e. omega arith) (λ e. omega arith) in
            omega arith)
            (λ v. let d : n ≤ i + 1 = ltb-false (i + 1) n v in
            let p = above-top fr n t.registers.counter i d in
            let e : i * 4 + 4 ≡ n * 4 = omega arith in
            let q = ap (λ j. get_or fr' j 0) e ∙ push-id in
            omega arith);
        place = let y = f.place in omega arith;
        variable = let y = f.variable in omega arith;
        first = let y = f.first in omega arith;
      })
      (λ u. let k : n ≤ i = ltb-false i n u in
      let q : i ≡ n = omega arith in
      let x1 = ap (λ j. get_or fr' (j * 4) 0) q ∙ push-id in
      let x2 = ap (λ j. get_or fr' (j * 4 + 1) 0) q ∙ push-place in
      let x3 = ap (λ j. get_or fr' (j * 4 + 2) 0) q ∙ push-variable in
      let x4 = ap (λ j. get_or fr' (j * 4 + 3) 0) q ∙ push_lo in
      let x5 = ap (λ j. get_or fr' (j * 4 + 7) 0) q ∙ push_hi in
      let p = above-top fr' (n + 1) (t.registers.counter + 1) i (omega arith) in
      record { id = omega arith; place = omega arith; variable = omega arith; first = omega arith })

  push_kept : place ≤ 4096 → variable ≤ 256 → t.registers.counter < 4294967295 → Sound (push_tables t place variable)
  push_kept hb hr hc =
      let h = so.ready in
      let fr' = (push_tables t place variable).frames in
      let o = so.some in
      let e : (n + 1) * 4 + 3 ≡ n * 4 + 7 = omega arith in
      let live : get_or fr' ((n + 1) * 4 + 3) 0 ≡ get_or t.frames (n * 4 + 3) 0 = ap (λ k. get_or fr' k 0) e ∙ push_hi in
      record {
        ready = record {
          store = h.store;
          frames = length_frame_set t.frames n t.registers.counter place variable ∙ h.frames;
          bounds = h.bounds;
          pointers = h.pointers;
          deep = omega arith;
          given = h.given;
        };
        some = omega arith;
        counted = omega arith;
        root = push-word 0 (λ e. omega arith) (λ e. omega arith) (λ e. omega arith) (λ e. omega arith) ∙ so.root;
        bottom = push-word 3 (λ e. omega arith) (λ e. omega arith) (λ e. omega arith) (λ e. omega arith) ∙ so.bottom;
        start = so.start;
        each = push-each hb hr;
        few = let f = so.few in omega arith;
        ends = λ k j. so.ends k (omega arith);
        used = let f = so.used in let g = ap (λ k. get_or t.bounds k 0) live in omega arith;
        kinds = so.kinds;
      }

-- Pushing is the believed push, and gives a sound state again.
module _ (t : Tables) (so : Sound t) (place variable : ℕ) where
  depth_seen : length (view t).frames ≡ t.registers.depth
  unfolding view
  depth_seen = length-tab t.registers.depth _

  counter-seen : (view t).counter ≡ t.registers.counter
  unfolding view
  counter-seen = refl

  counter_test : ltb (view t).counter 4294967295 ≡ ltb t.registers.counter 4294967295
  counter_test = ap (λ k. ltb k 4294967295) counter-seen

  pub push-view : after_push t (pushed_of t.registers place variable t.frames) ≡ push_frame (view t) (back_in place variable)
  unfolding pushed_of push_frame after_push need
  push-view =
      let l : length t.frames ≡ 260 = so.ready.frames in
      by_test (leb 64 t.registers.depth)
      (λ u. simp (eq-eqb _ _ l, u, depth_seen, le-ltb t.registers.depth 64 (leb-true _ _ u)))
      (λ u. let room : t.registers.depth < 64 = leb-false _ _ u in
      by_test (leb 4294967295 t.registers.counter)
      (λ v. simp (eq-eqb _ _ l, u, v, depth_seen, lt-ltb t.registers.depth 64 room, counter_test ∙ le-ltb t.registers.counter 4294967295 (leb-true _ _ v)))
      (λ v. simp (eq-eqb _ _ l, u, v, depth_seen, lt-ltb t.registers.depth 64 room, counter_test ∙ lt-ltb t.registers.counter 4294967295 (leb-false _ _ v))
      (ap ok (push-seen t place variable so room))))

-- the answer of a push that was granted
pub push-sound : (t : Tables) → Sound t → (place variable : ℕ) → place ≤ 4096 → variable ≤ 256 → (m : Registers)
    → (pushed_of t.registers place variable t.frames).answer ≡ Ok m
    → Sound (tables m t.store (pushed_of t.registers place variable t.frames).table t.bounds t.pointers)
unfolding pushed_of
push-sound t so place variable hp hv m e =
    let l : length t.frames ≡ 260 = so.ready.frames in
    let z = eq-eqb _ _ l in
    by_test (leb 64 t.registers.depth)
    (λ u. absurd (never frames_full m (simp (z, u) at e)))
    (λ u. by_test (leb 4294967295 t.registers.counter)
    (λ v. absurd (never ids_spent m (simp (z, u, v) at e)))
    (λ v. let g : (push_tables t place variable).registers ≡ m = ok_same (push_tables t place variable).registers m (simp (z, u, v) at e) in
    simp (z, u, v) (rw g at (push_kept t place variable so (leb-false _ _ u) hp hv (leb-false _ _ v)))))

-- ---- pop

abbrev pub pop_tables : Tables → Tables
pop_tables t = tables (lowered t.registers) t.store t.frames t.bounds t.pointers

pop-seen : (t : Tables) → 1 < t.registers.depth → view (pop_tables t) ≡ popped (view t)
unfolding view
pop-seen t h =
    let n = t.registers.depth in
    let f = frame_in t.frames t.bounds t.store in
    let e : n ≡ n - 1 + 1 = omega arith in
    let l : length (tab n f) - 1 ≡ n - 1 = ap (λ k. k - 1) (length-tab n f) in
    memory-same
    (sym (ap (λ k. take k (tab n f)) l ∙ ap (λ k. take (n - 1) (tab k f)) e ∙ ap (take (n - 1)) (tab-more (n - 1) f)
    ∙ take_at (tab (n - 1) f) (f (n - 1) ∷ []) (n - 1) (length-tab (n - 1) f)))
    refl

-- the top frame's return place and variable
top_back : (t : Tables) → Sound t → 1 < t.registers.depth
    → back_in (get_or t.frames (t.registers.depth * 4 - 3) 0) (get_or t.frames (t.registers.depth * 4 - 2) 0)
    ≡ (frame_at (view t).frames (top (view t).frames)).back
unfolding view
top_back t so h =
    let n = t.registers.depth in
    let f = frame_in t.frames t.bounds t.store in
    let l : length (tab n f) - 1 ≡ n - 1 = ap (λ k. k - 1) (length-tab n f) in
    let a : n * 4 - 3 ≡ (n - 1) * 4 + 1 = omega arith in
    let b : n * 4 - 2 ≡ (n - 1) * 4 + 2 = omega arith in
    let g : get_or (tab n f) (length (tab n f) - 1) no_frame ≡ f (n - 1) = ap (λ x. get_or (tab n f) x no_frame) l ∙ get_d_tab n f (n - 1) no_frame (omega arith) in
    ap (λ x. back_in (get_or t.frames x 0) (get_or t.frames (n * 4 - 2) 0)) a
    ∙ ap (λ x. back_in (get_or t.frames ((n - 1) * 4 + 1) 0) (get_or t.frames x 0)) b
    ∙ sym (ap (λ (x : Frame). x.back) g)

some_same : {b b' : Back} {m m' : Memory} → b ≡ b' → m ≡ m' → ◌≡◌ {A = Option (Back × Memory)} (some (b, m)) (some (b', m'))
some_same p q = cc

-- Popping is the believed pop: none at the root.
pub pop-view : (t : Tables) → Sound t → after_pop t (popped_of t.registers t.frames) ≡ pop_frame (view t)
unfolding popped_of pop_frame
pop-view t so =
    let l : length t.frames ≡ 260 = so.ready.frames in
    let d : t.registers.depth ≤ 64 = so.ready.deep in
    let z = eq-eqb _ _ l in
    let y = le-ltb _ _ d in
    let s : length (view t).frames ≡ t.registers.depth = depth_seen t so 0 0 in
    by_test (leb t.registers.depth 1)
    (λ u. simp (z, y, u, ap (λ k. ltb 1 k) s ∙ le-ltb 1 t.registers.depth (leb-true _ _ u)))
    (λ u. let h : 1 < t.registers.depth = leb-false _ _ u in
    simp (z, y, u, ap (λ k. ltb 1 k) s ∙ lt-ltb 1 t.registers.depth h) (some_same (top_back t so h) (pop-seen t h)))

pop_kept : (t : Tables) → Sound t → 1 < t.registers.depth → Sound (pop_tables t)
pop_kept t so h =
    let n = t.registers.depth - 1 in
    let l = firsts_up t so n t.registers.depth (omega arith) (omega arith) in
    let r = so.ready in
    let dp = r.deep in
    record {
      ready = record { store = r.store; frames = r.frames; bounds = r.bounds; pointers = r.pointers; deep = omega arith; given = r.given };
      some = omega arith;
      counted = so.counted;
      root = so.root;
      bottom = so.bottom;
      start = so.start;
      each = λ i k. pop-each t so h i k;
      few = let f = so.few in omega arith;
      ends = λ k j. so.ends k (omega arith);
      used = let f = so.used in let g = ends_up t so (get_or t.frames (n * 4 + 3) 0) (get_or t.frames (t.registers.depth * 4 + 3) 0) l (omega arith) in omega arith;
      kinds = so.kinds;
    }
  where
    pop-each : (t : Tables) → Sound t → 1 < t.registers.depth → (i : ℕ) → i < t.registers.depth - 1
        → FrameSound t.frames (t.registers.depth - 1) t.registers.counter i
    pop-each t so h i k =
        let n = t.registers.depth in
        let f = so.each i (omega arith) in
        let a = f.id in
        let u = above-next t.frames n t.registers.counter i (omega arith) in
        record {
          id = by_test (ltb (i + 1) (n - 1))
              (λ v. let w = above-next t.frames (n - 1) t.registers.counter i (ltb-true _ _ v) in omega arith)
              (λ v. let y : n - 1 ≤ i + 1 = ltb-false _ _ v in
              let w = above-top t.frames (n - 1) t.registers.counter i y in
              let b = (so.each (i + 1) (omega arith)).id in
              let x = above-top t.frames n t.registers.counter (i + 1) (omega arith) in
              let e : (i + 1) * 4 ≡ i * 4 + 4 = omega arith in
              let q = ap (λ j. get_or t.frames j 0) e in
              omega arith);
          place = f.place;
          variable = f.variable;
          first = f.first;
        }

never_root : (p : Popped) → ◌≡◌ {A = Result (Code.Option Popped) Refusal} (Ok None) (Ok (Some p)) → ⊥
never_root p e = let z : ◌≡◌ {A = ℕ} 0 1 = cc in omega arith

abbrev registers_in : Code.Option Popped → Registers → Registers
registers_in (Some p) d = p.registers
registers_in None d = d

lowered-same : (p v p' v' : ℕ) (m m' : Registers) → ◌≡◌ {A = Result (Code.Option Popped) Refusal} (Ok (Some (T.popped p v m))) (Ok (Some (T.popped p' v' m'))) → m ≡ m'
lowered-same p v p' v' m m' e = ap (λ o. registers_in o m) (ok_same (Some (T.popped p v m)) (Some (T.popped p' v' m')) e)

pub pop-sound : (t : Tables) → Sound t → (p v : ℕ) (m : Registers) → popped_of t.registers t.frames ≡ Ok (Some (T.popped p v m))
    → Sound (tables m t.store t.frames t.bounds t.pointers)
unfolding popped_of
pop-sound t so p v m e =
    let z = eq-eqb _ _ so.ready.frames in
    let y = le-ltb _ _ so.ready.deep in
    by_test (leb t.registers.depth 1)
    (λ u. absurd (never_root (T.popped p v m) (simp (z, y, u) at e)))
    (λ u. let g : lowered t.registers ≡ m = lowered-same _ _ p v _ m (simp (z, y, u) at e) in
    rw g at (pop_kept t so (leb-false _ _ u)))
