-- A sound state's view meets the list of "A sound state": each test of the tables is read off the view.
use mathlib.Core.Path.{◌≡◌, refl, ap, ◌∙◌}
use mathlib.Core.List.{List, [], ◌∷◌, ◌++◌}
use mathlib.Core.Bool.{true, ◌&&◌, ◌||◌}
use mathlib.Core.Option.{Option}
use Prim.Native.Nat.{ℕ, ◌+◌, ◌*◌, ◌<◌, ◌≤◌, zero, suc}
use native.Mathlib.Numerals.{add-one}
use native.Mathlib.Omega.{arith}
use lib.ListN.{get_or, length}
use lib.Dec.{ltb, leb, eqb}
use borrow.Author.Tests.{lt-ltb, le-leb, eq-eqb}
use Rattle.value.specs.Value.{Value}
use Rattle.value.proofs.Truth.{both_true, and_true}
use Rattle.memory.specs.Memory.{Frame}
use Rattle.memory.specs.Stored.{stored_value}
use Rattle.memory.specs.Sound.{rising, good_var, good_back, good_backs, sound_memory, good_value, good_vars, sound_machine, in_kind, typed}
use Rattle.memory.specs.Tables.{Tables, State, every, memory_ok, stored_ok, variable_ok, registers_ok, sound_of}
use Rattle.memory.specs.View.{tab, variable_in, back_in, frame_in, view, running_in, variables_in}
use Rattle.memory.proofs.Every.{by_test, every-at}
use Rattle.memory.proofs.Facts.{Sound, sound-of}
use Rattle.memory.proofs.Frames.{above-next, above-top}
use Rattle.memory.proofs.Pointers.{count-seen}
use Rattle.memory.proofs.Counts.{count-live, bytes-live}
use Rattle.memory.proofs.Access.{depth_is, frame_is}
use Rattle.memory.proofs.Stored.{Stores, unset, valued, stores, stored-value, stored-none, no_bad_char}

-- ---- ids that rise

rising_snoc : (fs : List Frame) (g : Frame) (c : ℕ) → rising fs g.id ≡ true → ltb g.id c ≡ true → rising (fs ++ (g ∷ [])) c ≡ true
unfolding rising
rising_snoc [] g c e h = h
rising_snoc (f ∷ []) g c e h = and_true e h
rising_snoc (f ∷ f' ∷ fs) g c e h =
    let b = both_true (ltb f.id f'.id) (rising (f' ∷ fs) g.id) e in
    and_true b.0 (rising_snoc (f' ∷ fs) g c b.1 h)

rising-tab : (n : ℕ) (F : ℕ → Frame) (c : ℕ) → ((i : ℕ) → i + 1 < n → (F i).id < (F (i + 1)).id) → ((i : ℕ) → i + 1 ≡ n → (F i).id < c)
    → rising (tab n F) c ≡ true
unfolding tab rising
rising-tab zero F c up last = refl
rising-tab (suc n) F c up last =
    rising_snoc (tab n F) (F n) c
    (rising-tab n F (F n).id (λ i h. up i (omega arith)) (λ i h. rw h at (up i (omega arith))))
    (lt-ltb _ _ (last n (add-one n)))

-- ---- return places and variables

backs-append : (fs gs : List Frame) → good_backs fs ≡ true → good_backs gs ≡ true → good_backs (fs ++ gs) ≡ true
unfolding good_backs
backs-append [] gs e h = h
backs-append (f ∷ fs) gs e h = let b = both_true (good_back f.back) (good_backs fs) e in and_true b.0 (backs-append fs gs b.1 h)

backs-tab : (n : ℕ) (F : ℕ → Frame) → ((i : ℕ) → i < n → good_back (F i).back ≡ true) → good_backs (tab n F) ≡ true
unfolding tab good_backs
backs-tab zero F h = refl
backs-tab (suc n) F h = backs-append (tab n F) (F n ∷ []) (backs-tab n F (λ i k. h i (omega arith))) (and_true (h n (omega arith)) refl)

var-good : (v : ℕ) → v ≤ 256 → good_var (variable_in v) ≡ true
unfolding variable_in good_var
var-good zero h = refl
var-good (suc x) h = lt-ltb x 256 (omega arith)

back-good : (p v : ℕ) → p ≤ 4096 → v ≤ 256 → good_back (back_in p v) ≡ true
unfolding good_back
back-good p v h k = and_true (var-good v k) (le-leb p 4096 h)

-- ---- the memory

counter : (t : Tables) → Sound t → (view t).counter ≡ t.registers.counter
unfolding view
counter t so = refl

ids : (t : Tables) → Sound t → rising (view t).frames (view t).counter ≡ true
unfolding view
ids t so =
    let n = t.registers.depth in
    rising-tab n (frame_in t.frames t.bounds t.store) t.registers.counter
    (λ i h. let f = (so.each i (omega arith)).id in
    let a = above-next t.frames n t.registers.counter i h in
    let e : (i + 1) * 4 ≡ i * 4 + 4 = omega arith in
    let q = ap (λ k. get_or t.frames k 0) e in
    omega arith)
    (λ i h. let f = (so.each i (omega arith)).id in
    let a = above-top t.frames n t.registers.counter i (omega arith) in
    omega arith)

backs : (t : Tables) → Sound t → good_backs (view t).frames ≡ true
unfolding view
backs t so =
    backs-tab t.registers.depth (frame_in t.frames t.bounds t.store)
    (λ i h. let f = so.each i h in back-good _ _ f.place f.variable)

pub memory-seen : (t : Tables) → Sound t → sound_memory (view t) ≡ true
unfolding sound_memory
memory-seen t so =
    let d = depth_is t so in
    let o = so.some in
    and_true (and_true (ap (λ k. leb 1 k) d ∙ le-leb 1 t.registers.depth o) (ap (λ k. leb k 64) d ∙ le-leb t.registers.depth 64 so.ready.deep))
    ((and_true (ap (λ (f : Frame). eqb f.id 0) (frame_is t so 0 o) ∙ eq-eqb (get_or t.frames 0 0) 0 so.root)
    (and_true (ids t so)
    (and_true (ap (λ k. leb k 4294967295) (counter t so) ∙ le-leb t.registers.counter 4294967295 so.counted)
    (and_true (ap (λ k. leb k 512) (count-live t so) ∙ le-leb _ 512 so.few)
    (and_true (ap (λ k. leb k 32768) (bytes-live t so) ∙ le-leb _ 32768 so.used)
    (and_true (ap (λ k. leb k 4096) (count-seen t so) ∙ le-leb t.registers.pointers 4096 so.ready.given) (backs t so))))))))

-- ---- variables

-- a stored value is a good one, and has the bits of its kind
stored-good : (t b : ℕ) → stored_ok t b ≡ true → (good_value (stored_value t b) ≡ true) × (in_kind (stored_value t b) ≡ true)
unfolding good_value in_kind
stored-good t b e = go (stores t b e)
  where
    go : Stores t b → (good_value (stored_value t b) ≡ true) × (in_kind (stored_value t b) ≡ true)
    go (unset z y) = rw (z, stored-none b) (refl, refl)
    go (valued k z h) = rw (z, stored-value k b) (no_bad_char k b h, h)

vars-good : (vs : ℕ → Option Value) (n : ℕ) → ((x : ℕ) → x < n → good_value (vs x) ≡ true) → good_vars vs n ≡ true
unfolding good_vars
vars-good vs zero h = refl
vars-good vs (suc n) h = and_true (h n (omega arith)) (vars-good vs n (λ x k. h x (omega arith)))

vars-typed : (vs : ℕ → Option Value) (n : ℕ) → ((x : ℕ) → x < n → in_kind (vs x) ≡ true) → typed vs n ≡ true
unfolding typed
vars-typed vs zero h = refl
vars-typed vs (suc n) h = and_true (h n (omega arith)) (vars-typed vs n (λ x k. h x (omega arith)))

variable-good : (vs : List ℕ) (x : ℕ) → variable_ok vs x ≡ true → (good_value (variables_in vs x) ≡ true) × (in_kind (variables_in vs x) ≡ true)
unfolding variable_ok variables_in
variable-good vs x e = stored-good _ _ e

idle-good : (r next depth : ℕ) → registers_ok r next depth ≡ true → (leb next 4096 ≡ true) × ((running_in r || eqb depth 1) ≡ true)
unfolding registers_ok
idle-good r next depth e =
    let a = both_true (leb next 4096) _ e in (
      a.0,
      by_test (eqb r 1)
          (λ t. rw t)
          (λ t. let b : (eqb r 0 && eqb depth 1) ≡ true = rw t at a.1 in
          let c = both_true (eqb r 0) (eqb depth 1) b in
          rw (t, c.1)),
    )

-- A sound state's view meets the list, and its values have the bits of their kinds.
pub sound-seen : (s : State) → sound_of s ≡ true
    → (sound_machine (view s.memory) (running_in s.memory.registers.running) s.memory.registers.next (variables_in s.variables) ≡ true)
    × (typed (variables_in s.variables) 256 ≡ true)
unfolding sound_of sound_machine
sound-seen s e =
    let t = s.memory in
    let a = both_true (memory_ok t) _ e in
    let b = both_true (eqb (length s.variables) 512) _ a.1 in
    let c = both_true (registers_ok t.registers.running t.registers.next t.registers.depth) (every 256 (variable_ok s.variables)) b.1 in
    let so = sound-of t a.0 in
    let i = idle-good _ _ _ c.0 in
    let v : (x : ℕ) → x < 256 → (good_value (variables_in s.variables x) ≡ true) × (in_kind (variables_in s.variables x) ≡ true) =
    λ x h. variable-good s.variables x (every-at 256 (variable_ok s.variables) c.1 x h) in (
      and_true (memory-seen t so)
          (and_true i.0
          (and_true (vars-good (variables_in s.variables) 256 (λ x h. (v x h).0))
          (ap (λ k. running_in t.registers.running || eqb k 1) (depth_is t so) ∙ i.1))),
      vars-typed (variables_in s.variables) 256 (λ x h. (v x h).1),
    )
