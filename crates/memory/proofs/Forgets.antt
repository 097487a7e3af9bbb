-- The view forgets nothing: two sound states with equal views have equal registers, and equal elements below the counts.
-- Frame by frame upward, each begins where the one below ends; so the bounds, and with them the bytes, follow one after another.
use mathlib.Core.Path.{◌≡◌, refl, ap, ◌∙◌, sym}
use mathlib.Core.List.{List, []}
use mathlib.Core.Bool.{true, false, ◌&&◌}
use mathlib.Core.Option.{Option, none, some}
use Prim.Native.Nat.{ℕ, ◌+◌, ◌*◌, ◌-◌, ◌<◌, ◌≤◌, zero, suc}
use native.Mathlib.Omega.{arith}
use lib.ListN.{get_or, length}
use lib.Dec.{ltb, leb, eqb}
use borrow.Author.Tests.{ltb-true, ltb-false, leb-true, leb-false, eqb-true}
use Rattle.value.specs.Value.{Value, value, tag}
use Rattle.value.proofs.Truth.{both_true}
use Rattle.memory.specs.Memory as M
use Rattle.memory.specs.Tables as T
use Rattle.memory.specs.Memory.{Frame, constant, local, Memory, no_frame}
use Rattle.memory.specs.Stored.{stored_value}
use Rattle.memory.specs.Tables.{Tables, State, every, live, bound, pointer_at, pointer_ok, stored_ok, variable_ok, registers_ok, memory_ok, sound_of}
use Rattle.memory.specs.View.{bytes_of, allocations_in, variable_in, frame_in, pointer_in, view, running_in, variables_in}
use Rattle.memory.specs.declared.Registers.{Registers}
use Rattle.memory.specs.declared.PointerRecord.{PointerRecord}
use Rattle.memory.proofs.Every.{by_test, every-at}
use Rattle.memory.proofs.Tab.{part_at}
use Rattle.memory.proofs.Facts.{Sound, sound-of}
use Rattle.memory.proofs.Frames.{end_live}
use Rattle.memory.proofs.Pointers.{count-seen, pointer-seen, kind_at, pointer_record}
use Rattle.memory.proofs.Counts.{length-allocations, length-bytes}
use Rattle.memory.proofs.Access.{depth_is, frame_is, bytes-are}
use Rattle.memory.proofs.Stored.{Stores, unset, valued, stores, stored-value, stored-none}

-- ---- codes

variable-same : (v w : ℕ) → variable_in v ≡ variable_in w → v ≡ w
unfolding variable_in
variable-same zero zero e = refl
variable-same zero (suc w) e = let z : ◌≡◌ {A = ℕ} 0 1 = cc in absurd (omega arith)
variable-same (suc v) zero e = let z : ◌≡◌ {A = ℕ} 0 1 = cc in absurd (omega arith)
variable-same (suc v) (suc w) e = let z : v ≡ w = cc in ap suc z

constant-fields : (q : PointerRecord) → eqb q.kind 0 ≡ false → pointer_ok q ≡ true → (q.kind ≡ 1) × (q.id ≡ 0) × (q.allocation ≡ 0) × (q.offset ≡ 0)
unfolding pointer_ok
constant-fields q k e =
    let f : (eqb q.kind 1 && (eqb q.id 0 && (eqb q.allocation 0 && eqb q.offset 0))) ≡ true = rw k at e in
    let a = both_true (eqb q.kind 1) _ f in
    let b = both_true (eqb q.id 0) _ a.1 in
    let c = both_true (eqb q.allocation 0) (eqb q.offset 0) b.1 in
    (eqb-true _ _ a.0, eqb-true _ _ b.0, eqb-true _ _ c.0, eqb-true _ _ c.1)

pub pointer-same : (q r : PointerRecord) → pointer_ok q ≡ true → pointer_ok r ≡ true → pointer_in q ≡ pointer_in r → q ≡ r
unfolding pointer_in
pointer-same q r hq hr e =
    by_test (eqb q.kind 0)
    (λ k. by_test (eqb r.kind 0)
    (λ l. let f : local q.index q.id q.allocation q.offset ≡ local r.index r.id r.allocation r.offset = simp (k, l) at e in
    let x = eqb-true q.kind 0 k in
    let y = eqb-true r.kind 0 l in
    pointer_record (x ∙ sym y) (cc) (cc) (cc) (cc))
    (λ l. let f : local q.index q.id q.allocation q.offset ≡ constant r.index = simp (k, l) at e in
    let z : ◌≡◌ {A = ℕ} 0 1 = cc in absurd (omega arith)))
    (λ k. by_test (eqb r.kind 0)
    (λ l. let f : constant q.index ≡ local r.index r.id r.allocation r.offset = simp (k, l) at e in
    let z : ◌≡◌ {A = ℕ} 0 1 = cc in absurd (omega arith))
    (λ l. let f : constant q.index ≡ constant r.index = simp (k, l) at e in
    let x = constant-fields q k hq in
    let y = constant-fields r l hr in
    pointer_record (x.0 ∙ sym y.0) (cc) (x.1 ∙ sym y.1) (x.2 ∙ sym y.2) (x.3 ∙ sym y.3)))

-- ---- bounds and bytes

module _ (t u : Tables) (so : Sound t) (so' : Sound u) (e : view t ≡ view u) where
  depth_same : t.registers.depth ≡ u.registers.depth
  depth_same = sym (depth_is t so) ∙ ap (λ (m : Memory). length m.frames) e ∙ depth_is u so'

  given-same : t.registers.pointers ≡ u.registers.pointers
  given-same = sym (count-seen t so) ∙ ap (λ (m : Memory). length m.pointers) e ∙ count-seen u so'

  counter-same : t.registers.counter ≡ u.registers.counter
  counter-same = counter t ∙ ap (λ (m : Memory). m.counter) e ∙ sym (counter u)
    where
      counter : (t : Tables) → t.registers.counter ≡ (view t).counter
      counter t = unfold view in refl

  abbrev F : ℕ → Frame
  F = frame_in t.frames t.bounds t.store

  abbrev G : ℕ → Frame
  G = frame_in u.frames u.bounds u.store

  frame_same : (i : ℕ) → i < t.registers.depth → F i ≡ G i
  frame_same i h = let d = depth_same in sym (frame_is t so i h) ∙ ap (λ (m : Memory). get_or m.frames i no_frame) e ∙ frame_is u so' i (omega arith)

  id_same : (i : ℕ) → i < t.registers.depth → get_or t.frames (i * 4) 0 ≡ get_or u.frames (i * 4) 0
  id_same i h = ap (λ (f : Frame). f.id) (frame_same i h)

  place_same : (i : ℕ) → i < t.registers.depth → get_or t.frames (i * 4 + 1) 0 ≡ get_or u.frames (i * 4 + 1) 0
  place_same i h = ap (λ (f : Frame). f.back.place) (frame_same i h)

  var-same : (i : ℕ) → i < t.registers.depth → get_or t.frames (i * 4 + 2) 0 ≡ get_or u.frames (i * 4 + 2) 0
  var-same i h = variable-same _ _ (ap (λ (f : Frame). f.back.var) (frame_same i h))

  -- the bounds up to k and the bytes below the last of them
  pub record Upto (k : ℕ) : Type 0 where
    pub bounds : (j : ℕ) → j ≤ k → get_or t.bounds j 0 ≡ get_or u.bounds j 0
    pub bytes : (x : ℕ) → x < get_or t.bounds k 0 → get_or t.store x 0 ≡ get_or u.store x 0

  upto_more : (k : ℕ) → k < live t → k < live u → bytes_of t.bounds t.store k ≡ bytes_of u.bounds u.store k → Upto k → Upto (k + 1)
  upto_more k h h' b q =
      let l = length-bytes t so k h in
      let l' = length-bytes u so' k h' in
      let r = so.ends k h in
      let r' = so'.ends k h' in
      let s = q.bounds k (omega arith) in
      let same : get_or t.bounds (k + 1) 0 ≡ get_or u.bounds (k + 1) 0 = let z = ap length b in omega arith in
      record {
        bounds = λ j hj. by_test (leb j k)
            (λ w. q.bounds j (leb-true _ _ w))
            (λ w. let c : k < j = leb-false _ _ w in
            let z : j ≡ k + 1 = omega arith in
            ap (λ i. get_or t.bounds i 0) z ∙ same ∙ sym (ap (λ i. get_or u.bounds i 0) z));
        bytes = λ x hx. by_test (ltb x (get_or t.bounds k 0))
            (λ w. q.bytes x (ltb-true _ _ w))
            (λ w. let c : get_or t.bounds k 0 ≤ x = ltb-false _ _ w in
            let y = x - get_or t.bounds k 0 in
            let z : get_or t.bounds k 0 + y ≡ x = omega arith in
            let z' : get_or u.bounds k 0 + y ≡ x = omega arith in
            sym (ap (λ i. get_or t.store i 0) z)
            ∙ sym (part_at t.store (get_or t.bounds k 0) (get_or t.bounds (k + 1) 0 - get_or t.bounds k 0) y (omega arith))
            ∙ ap (λ (bs : List ℕ). get_or bs y 0) b
            ∙ part_at u.store (get_or u.bounds k 0) (get_or u.bounds (k + 1) 0 - get_or u.bounds k 0) y (omega arith)
            ∙ ap (λ i. get_or u.store i 0) z');
      }

  upto_within : (lo n : ℕ) → lo + n ≤ live t → lo + n ≤ live u
      → ((j : ℕ) → j < n → bytes_of t.bounds t.store (lo + j) ≡ bytes_of u.bounds u.store (lo + j)) → Upto lo → Upto (lo + n)
  upto_within lo zero h h' b q = let z : lo ≡ lo + 0 = omega arith in rw z at q
  upto_within lo (suc n) h h' b q =
      let r = upto_within lo n (omega arith) (omega arith) (λ j k. b j (omega arith)) q in
      let z : lo + n + 1 ≡ lo + suc n = omega arith in
      rw z at (upto_more (lo + n) (omega arith) (omega arith) (b n (omega arith)) r)

  -- frame by frame upward
  upto_frame : (i : ℕ) → i ≤ t.registers.depth
      → (get_or t.frames (i * 4 + 3) 0 ≡ get_or u.frames (i * 4 + 3) 0) × Upto (get_or t.frames (i * 4 + 3) 0)
  upto_frame zero h =
      let a = so.bottom in
      let b = so'.bottom in (
        a ∙ sym b,
        rw a record {
          bounds = λ j k. let z : j ≡ 0 = omega arith in ap (λ i. get_or t.bounds i 0) z ∙ so.start ∙ sym (ap (λ i. get_or u.bounds i 0) z ∙ so'.start);
          bytes = λ x k. let s = so.start in absurd (omega arith);
        },
      )
  upto_frame (suc i) h =
      let d = depth_same in
      let r = upto_frame i (omega arith) in
      let lo = get_or t.frames (i * 4 + 3) 0 in
      let hi = get_or t.frames (i * 4 + 7) 0 in
      let lo' = get_or u.frames (i * 4 + 3) 0 in
      let hi' = get_or u.frames (i * 4 + 7) 0 in
      let f : F i ≡ G i = frame_same i (omega arith) in
      let a : allocations_in t.bounds t.store lo hi ≡ allocations_in u.bounds u.store lo' hi' = ap (λ (g : Frame). g.allocations) f in
      let l = length-allocations t so lo hi in
      let l' = length-allocations u so' lo' hi' in
      let s = (so.each i (omega arith)).first in
      let s' = (so'.each i (omega arith)).first in
      let z = ap length a in
      let x = end_live t so i (omega arith) in
      let x' = end_live u so' i (omega arith) in
      let y = r.0 in
      let same : hi ≡ hi' = omega arith in
      let n : suc i * 4 + 3 ≡ i * 4 + 7 = omega arith in
      let w : lo + (hi - lo) ≡ hi = omega arith in (
        ap (λ k. get_or t.frames k 0) n ∙ same ∙ sym (ap (λ k. get_or u.frames k 0) n),
        rw n (rw w at (upto_within lo (hi - lo) (omega arith) (omega arith)
            (λ j k. sym (bytes-are t so lo hi j k) ∙ ap (λ (bs : List (List ℕ)). get_or bs j []) a ∙ bytes-are u so' lo' hi' j (omega arith)
            ∙ ap (λ m. bytes_of u.bounds u.store (m + j)) (sym y))
            r.1)),
      )

-- ---- variables

pub stored_same : (t b t' b' : ℕ) → stored_ok t b ≡ true → stored_ok t' b' ≡ true → stored_value t b ≡ stored_value t' b' → (t ≡ t') × (b ≡ b')
stored_same t b t' b' h h' e = by_kinds (stores t b h) (stores t' b' h')
  where
    never : {v : Value} → ◌≡◌ {A = Option Value} none (some v) → ◌≡◌ {A = ℕ} 0 1
    never e = cc

    by_kinds : Stores t b → Stores t' b' → (t ≡ t') × (b ≡ b')
    by_kinds (unset z y) (unset z' y') = (z ∙ sym z', y ∙ sym y')
    by_kinds (unset z y) (valued k z' g) =
        let o : ◌≡◌ {A = ℕ} 0 1 = never (sym (ap (λ n. stored_value n b) z ∙ stored-none b) ∙ e ∙ ap (λ n. stored_value n b') z' ∙ stored-value k b') in absurd (omega arith)
    by_kinds (valued k z g) (unset z' y) =
        let o : ◌≡◌ {A = ℕ} 0 1 = never (sym (ap (λ n. stored_value n b') z' ∙ stored-none b') ∙ sym e ∙ ap (λ n. stored_value n b) z ∙ stored-value k b) in absurd (omega arith)
    by_kinds (valued k z g) (valued k' z' g') =
        let f : some (value k b) ≡ some (value k' b') = sym (ap (λ n. stored_value n b) z ∙ stored-value k b) ∙ e ∙ ap (λ n. stored_value n b') z' ∙ stored-value k' b' in
        let x : value k b ≡ value k' b' = cc in
        (z ∙ ap (λ (w : Value). tag w.kind) x ∙ sym z', ap (λ (w : Value). w.bits) x)

-- ---- the whole state

running-same : (r r' next next' d d' : ℕ) → registers_ok r next d ≡ true → registers_ok r' next' d' ≡ true → running_in r ≡ running_in r' → r ≡ r'
running-same r r' next next' d d' h h' e =
    let f = flag r next d h in
    let f' = flag r' next' d' h' in
    by_test (eqb r 1)
    (λ k. eqb-true r 1 k ∙ sym (eqb-true r' 1 (sym e ∙ k)))
    (λ k. f k ∙ sym (f' (sym e ∙ k)))
  where
    flag : (r next d : ℕ) → registers_ok r next d ≡ true → eqb r 1 ≡ false → r ≡ 0
    flag r next d h k = unfold registers_ok in
        let a = both_true (leb next 4096) _ h in
        let b : (eqb r 0 && eqb d 1) ≡ true = rw k at a.1 in
        eqb-true r 0 (both_true (eqb r 0) (eqb d 1) b).0

-- equal registers, and equal elements below the counts
pub record Same (s z : State) : Type 0 where
  pub registers : s.memory.registers ≡ z.memory.registers
  pub ids : (i : ℕ) → i < s.memory.registers.depth → get_or s.memory.frames (i * 4) 0 ≡ get_or z.memory.frames (i * 4) 0
  pub places : (i : ℕ) → i < s.memory.registers.depth → get_or s.memory.frames (i * 4 + 1) 0 ≡ get_or z.memory.frames (i * 4 + 1) 0
  pub returns : (i : ℕ) → i < s.memory.registers.depth → get_or s.memory.frames (i * 4 + 2) 0 ≡ get_or z.memory.frames (i * 4 + 2) 0
  pub firsts : (i : ℕ) → i ≤ s.memory.registers.depth → get_or s.memory.frames (i * 4 + 3) 0 ≡ get_or z.memory.frames (i * 4 + 3) 0
  pub bounds : (k : ℕ) → k ≤ live s.memory → get_or s.memory.bounds k 0 ≡ get_or z.memory.bounds k 0
  pub bytes : (x : ℕ) → x < bound s.memory (live s.memory) → get_or s.memory.store x 0 ≡ get_or z.memory.store x 0
  pub pointers : (p : ℕ) → p < s.memory.registers.pointers → pointer_at s.memory.pointers p ≡ pointer_at z.memory.pointers p
  pub variables : (x : ℕ) → x < 256
      → (get_or s.variables (x * 2) 0 ≡ get_or z.variables (x * 2) 0) × (get_or s.variables (x * 2 + 1) 0 ≡ get_or z.variables (x * 2 + 1) 0)

registers-same : {m n : Registers} → m.running ≡ n.running → m.next ≡ n.next → m.counter ≡ n.counter → m.depth ≡ n.depth → m.pointers ≡ n.pointers → m ≡ n
registers-same {m} {n} a b c d e = five a b c d e
  where
    five : {a a' b b' c c' d d' e e' : ℕ} → a ≡ a' → b ≡ b' → c ≡ c' → d ≡ d' → e ≡ e' → T.registers a b c d e ≡ T.registers a' b' c' d' e'
    five a b c d e = cc

-- The view forgets nothing.
pub forgets_nothing : (s z : State) → sound_of s ≡ true → sound_of z ≡ true
    → view s.memory ≡ view z.memory → running_in s.memory.registers.running ≡ running_in z.memory.registers.running
    → s.memory.registers.next ≡ z.memory.registers.next
    → ((x : ℕ) → x < 256 → variables_in s.variables x ≡ variables_in z.variables x)
    → Same s z
unfolding sound_of variable_ok variables_in
forgets_nothing s z h h' e r n v =
    let t = s.memory in
    let u = z.memory in
    let a = both_true (memory_ok t) _ h in
    let b = both_true (eqb (length s.variables) 512) _ a.1 in
    let c = both_true (registers_ok t.registers.running t.registers.next t.registers.depth) (every 256 (variable_ok s.variables)) b.1 in
    let a' = both_true (memory_ok u) _ h' in
    let b' = both_true (eqb (length z.variables) 512) _ a'.1 in
    let c' = both_true (registers_ok u.registers.running u.registers.next u.registers.depth) (every 256 (variable_ok z.variables)) b'.1 in
    let so = sound-of t a.0 in
    let so' = sound-of u a'.0 in
    let q = (upto_frame t u so so' e t.registers.depth (omega arith)).1 in
    record {
      registers = registers-same (running-same _ _ _ _ _ _ c.0 c'.0 r) n (counter-same t u so so' e) (depth_same t u so so' e) (given-same t u so so' e);
      ids = id_same t u so so' e;
      places = place_same t u so so' e;
      returns = var-same t u so so' e;
      firsts = λ i k. (upto_frame t u so so' e i k).0;
      bounds = q.bounds;
      bytes = q.bytes;
      pointers = λ p k. let g = given-same t u so so' e in
          pointer-same (pointer_at t.pointers p) (pointer_at u.pointers p) (kind_at t so p k) (kind_at u so' p (omega arith))
          (sym (pointer-seen t so p k) ∙ ap (λ (m : Memory). M.pointer_at m p) e ∙ pointer-seen u so' p (omega arith));
      variables = λ x k. stored_same _ _ _ _ (every-at 256 (variable_ok s.variables) c.1 x k) (every-at 256 (variable_ok z.variables) c'.1 x k) (v x k);
    }
