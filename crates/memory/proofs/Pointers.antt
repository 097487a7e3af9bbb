-- Pointers through the view: a record that is put is read back, and those below it stay. Offset and constant address.
use Rattle.std.specs.Prelude.{Result, Ok, Err}
use mathlib.Core.Path.{◌≡◌, refl, ap, ◌∙◌, sym}
use mathlib.Core.List.{List, [], ◌∷◌, ◌++◌}
use mathlib.Core.Bool.{true, false}
use Prim.Native.Nat.{ℕ, ◌+◌, ◌*◌, ◌-◌, ◌^◌, ◌<◌, ◌≤◌}
use native.Mathlib.Omega.{arith}
use lib.ListN.{get_or, set, length, length-set}
use lib.Seq.{get_or-set_same, get_or-set_other}
use lib.Dec.{ltb, leb, eqb}
use borrow.Author.Tests.{ltb-true, ltb-false, leb-true, leb-false, lt-ltb, le-ltb, eq-eqb}
use Rattle.value.specs.declared.refusal.Refusal.{Refusal}
use Rattle.value.specs.Answer.{ok, refused, need, pick}
use Rattle.value.specs.Refusal.{not_given_out, through_constant, offset_too_large, pointers_full}
use Rattle.memory.specs.Memory.{Pointer, constant, local, with_pointer, constant_address, offset_at, offset_by}
use Rattle.memory.specs.Memory as M
use Rattle.memory.specs.Tables.{Tables, tables, both, more, pointer, pointer_at, pointer_set, handed, offset_of, address_of, pointer_ok, pointers_ok}
use Rattle.memory.specs.View.{tab, pointer_in, view, after_pointer}
use Rattle.memory.specs.declared.Registers.{Registers}
use Rattle.memory.specs.declared.PointerRecord.{PointerRecord}
use Rattle.memory.proofs.Every.{by_test}
use Rattle.memory.proofs.Laws.{never, ok_same}
use Rattle.memory.proofs.Tab.{tab-more, length-tab, tab-same, get_d_tab}
use Rattle.memory.proofs.Facts.{Sound}
use Rattle.memory.proofs.Frames.{memory-same}

pointer_word : (l : List ℕ) (p : ℕ) (v : PointerRecord) (k : ℕ) → k < p * 5 → get_or (pointer_set l p v) k 0 ≡ get_or l k 0
pointer_word l p v k h =
    let a = set l (p * 5) v.kind in
    let b = set a (p * 5 + 1) v.index in
    let c = set b (p * 5 + 2) v.id in
    let d = set c (p * 5 + 3) v.allocation in
    get_or-set_other d (p * 5 + 4) k v.offset 0 (λ e. omega arith) ∙ get_or-set_other c (p * 5 + 3) k v.allocation 0 (λ e. omega arith)
    ∙ get_or-set_other b (p * 5 + 2) k v.id 0 (λ e. omega arith) ∙ get_or-set_other a (p * 5 + 1) k v.index 0 (λ e. omega arith)
    ∙ get_or-set_other l (p * 5) k v.kind 0 (λ e. omega arith)

pub pointer_record : {a a' b b' c c' d d' e e' : ℕ} → a ≡ a' → b ≡ b' → c ≡ c' → d ≡ d' → e ≡ e' → pointer a b c d e ≡ pointer a' b' c' d' e'
pointer_record p q r t u = cc

pub local-ok : (i f j o : ℕ) → pointer_ok (pointer 0 i f j o) ≡ true
unfolding pointer_ok
local-ok i f j o = refl

pub never_given : (n : Refusal) (p : ℕ) (m : Registers) → ◌≡◌ {A = Result (ℕ × Registers) Refusal} (Err n) (Ok (p, m)) → ⊥
never_given n p m e = never n (p, m) e

pub pointer_other : (l : List ℕ) (p : ℕ) (v : PointerRecord) (q : ℕ) → q < p → pointer_at (pointer_set l p v) q ≡ pointer_at l q
unfolding pointer_at
pointer_other l p v q h =
    pointer_record (pointer_word l p v (q * 5) (omega arith)) (pointer_word l p v (q * 5 + 1) (omega arith)) (pointer_word l p v (q * 5 + 2) (omega arith))
    (pointer_word l p v (q * 5 + 3) (omega arith)) (pointer_word l p v (q * 5 + 4) (omega arith))

pub pointer-put : (l : List ℕ) (p : ℕ) (v : PointerRecord) → p * 5 + 4 < length l → pointer_at (pointer_set l p v) p ≡ v
unfolding pointer_at
pointer-put l p v h =
    let a = set l (p * 5) v.kind in
    let b = set a (p * 5 + 1) v.index in
    let c = set b (p * 5 + 2) v.id in
    let d = set c (p * 5 + 3) v.allocation in
    let la = length-set l (p * 5) v.kind in
    let lb = length-set a (p * 5 + 1) v.index in
    let lc = length-set b (p * 5 + 2) v.id in
    let ld = length-set c (p * 5 + 3) v.allocation in
    pointer_record
    (get_or-set_other d (p * 5 + 4) (p * 5) v.offset 0 (λ e. omega arith) ∙ get_or-set_other c (p * 5 + 3) (p * 5) v.allocation 0 (λ e. omega arith)
    ∙ get_or-set_other b (p * 5 + 2) (p * 5) v.id 0 (λ e. omega arith) ∙ get_or-set_other a (p * 5 + 1) (p * 5) v.index 0 (λ e. omega arith)
    ∙ get_or-set_same l (p * 5) v.kind 0 (omega arith))
    (get_or-set_other d (p * 5 + 4) (p * 5 + 1) v.offset 0 (λ e. omega arith) ∙ get_or-set_other c (p * 5 + 3) (p * 5 + 1) v.allocation 0 (λ e. omega arith)
    ∙ get_or-set_other b (p * 5 + 2) (p * 5 + 1) v.id 0 (λ e. omega arith) ∙ get_or-set_same a (p * 5 + 1) v.index 0 (omega arith))
    (get_or-set_other d (p * 5 + 4) (p * 5 + 2) v.offset 0 (λ e. omega arith) ∙ get_or-set_other c (p * 5 + 3) (p * 5 + 2) v.allocation 0 (λ e. omega arith)
    ∙ get_or-set_same b (p * 5 + 2) v.id 0 (omega arith))
    (get_or-set_other d (p * 5 + 4) (p * 5 + 3) v.offset 0 (λ e. omega arith) ∙ get_or-set_same c (p * 5 + 3) v.allocation 0 (omega arith))
    (get_or-set_same d (p * 5 + 4) v.offset 0 (omega arith))

-- a pointer more
pub given-more : (l : List ℕ) (p : ℕ) (v : PointerRecord) → p < 4096 → length l ≡ 20480
    → tab (p + 1) (λ q. pointer_in (pointer_at (pointer_set l p v) q)) ≡ tab p (λ q. pointer_in (pointer_at l q)) ++ (pointer_in v ∷ [])
given-more l p v h e =
    let f' : ℕ → Pointer = λ q. pointer_in (pointer_at (pointer_set l p v) q) in
    let f : ℕ → Pointer = λ q. pointer_in (pointer_at l q) in
    tab-more p f'
    ∙ ap (λ x. x ++ (f' p ∷ [])) (tab-same p f' f (λ q k. ap pointer_in (pointer_other l p v q k)))
    ∙ ap (λ x. tab p f ++ (x ∷ [])) (ap pointer_in (pointer-put l p v (omega arith)))

pub length_pointer_set : (l : List ℕ) (p : ℕ) (v : PointerRecord) → length (pointer_set l p v) ≡ length l
length_pointer_set l p v = simp length-set

-- the tables with a pointer more, and what a reader sees of it
abbrev pub given_tables : Tables → PointerRecord → Tables
given_tables t v = tables (more t.registers) t.store t.frames t.bounds (pointer_set t.pointers t.registers.pointers v)

module _ (t : Tables) (so : Sound t) where
  pub given-seen : (v : PointerRecord) → t.registers.pointers < 4096 → view (given_tables t v) ≡ with_pointer (view t) (pointer_in v)
  unfolding view
  given-seen v h = memory-same refl (given-more t.pointers t.registers.pointers v h so.ready.pointers)

  pub count-seen : length (view t).pointers ≡ t.registers.pointers
  unfolding view
  count-seen = length-tab t.registers.pointers _

  pub pointer-seen : (p : ℕ) → p < t.registers.pointers → M.pointer_at (view t) p ≡ pointer_in (pointer_at t.pointers p)
  unfolding view
  pointer-seen p h = get_d_tab t.registers.pointers (λ q. pointer_in (pointer_at t.pointers q)) p (constant 0) h

  pub kind_at : (p : ℕ) → p < t.registers.pointers → pointer_ok (pointer_at t.pointers p) ≡ true
  unfolding pointers_ok
  kind_at p h = so.kinds p h

  pointers-kept : (v : PointerRecord) → t.registers.pointers < 4096 → pointer_ok v ≡ true → (p : ℕ) → p < t.registers.pointers + 1
      → pointers_ok (pointer_set t.pointers t.registers.pointers v) p ≡ true
  unfolding pointers_ok
  pointers-kept v h k p l =
      let n = t.registers.pointers in
      let len = so.ready.pointers in
      by_test (ltb p n)
      (λ u. ap pointer_ok (pointer_other t.pointers n v p (ltb-true _ _ u)) ∙ kind_at p (ltb-true _ _ u))
      (λ u. let w : n ≤ p = ltb-false _ _ u in
      let e : p ≡ n = omega arith in
      ap (λ q. pointer_ok (pointer_at (pointer_set t.pointers n v) q)) e ∙ ap pointer_ok (pointer-put t.pointers n v (omega arith)) ∙ k)

  pub given-kept : (v : PointerRecord) → t.registers.pointers < 4096 → pointer_ok v ≡ true → Sound (given_tables t v)
  given-kept v h k =
      let r = so.ready in
      record {
        ready = record {
          store = r.store;
          frames = r.frames;
          bounds = r.bounds;
          pointers = length_pointer_set t.pointers t.registers.pointers v ∙ r.pointers;
          deep = r.deep;
          given = omega arith;
        };
        some = so.some;
        counted = so.counted;
        root = so.root;
        bottom = so.bottom;
        start = so.start;
        each = so.each;
        few = so.few;
        ends = so.ends;
        used = so.used;
        kinds = pointers-kept v h k;
      }

  constant_in : (k : ℕ) → pointer_in (pointer 1 k 0 0 0) ≡ constant k
  unfolding pointer_in
  constant_in k = refl

  local_in : (i f j o : ℕ) → pointer_in (pointer 0 i f j o) ≡ local i f j o
  unfolding pointer_in
  local_in i f j o = refl

  -- a record of kind 0 is a local pointer, and any other a constant
  pub seen-local : (q : PointerRecord) → eqb q.kind 0 ≡ true → pointer_in q ≡ local q.index q.id q.allocation q.offset
  unfolding pointer_in
  seen-local q e = simp e

  pub seen-constant : (q : PointerRecord) → eqb q.kind 0 ≡ false → pointer_in q ≡ constant q.index
  unfolding pointer_in
  seen-constant q e = simp e

  constant-ok : (k : ℕ) → pointer_ok (pointer 1 k 0 0 0) ≡ true
  unfolding pointer_ok
  constant-ok k = refl

  offset-constant : (k by : ℕ) → offset_at (view t) (constant k) by ≡ refused through_constant
  unfolding offset_at
  offset-constant k by = refl

  -- the same record, so much further on
  abbrev moved_on : PointerRecord → ℕ → PointerRecord
  moved_on q by = pointer 0 q.index q.id q.allocation (q.offset + by)

  offset-local : (p by : ℕ) → by < 2 ^ 64 → p < t.registers.pointers → (q : PointerRecord) → eqb q.kind 0 ≡ true
      → after_pointer t
      (pick (ltb (18446744073709551615 - by) q.offset) (both (Err offset_too_large) t.pointers)
      (pick (leb 4096 t.registers.pointers) (both (Err pointers_full) t.pointers) (handed t.registers (moved_on q by) t.pointers)))
      ≡ offset_at (view t) (pointer_in q) by
  unfolding after_pointer offset_at need
  offset-local p by small h q k =
      let s = seen-local q k in
      by_test (ltb (18446744073709551615 - by) q.offset)
      (λ v. let c : 18446744073709551615 - by < q.offset = ltb-true _ _ v in
      simp (v, s, le-ltb (q.offset + by) (2 ^ 64) (omega arith)))
      (λ v. let c : q.offset ≤ 18446744073709551615 - by = ltb-false _ _ v in
      let l = lt-ltb (q.offset + by) (2 ^ 64) (omega arith) in
      by_test (leb 4096 t.registers.pointers)
      (λ w. simp (v, w, s, l, ap (λ n. ltb n 4096) count-seen ∙ le-ltb t.registers.pointers 4096 (leb-true _ _ w)))
      (λ w. let r : t.registers.pointers < 4096 = leb-false _ _ w in
      simp (v, w, s, l, ap (λ n. ltb n 4096) count-seen ∙ lt-ltb t.registers.pointers 4096 r)
      (ap ok (given-seen (moved_on q by) r ∙ ap (with_pointer (view t)) (local_in _ _ _ _)))))

  -- Constant address is the believed one.
  pub address-view : (k : ℕ) → after_pointer t (address_of t.registers k t.pointers) ≡ constant_address (view t) k
  unfolding address_of constant_address after_pointer need
  address-view k =
      let z = eq-eqb _ _ so.ready.pointers in
      by_test (leb 4096 t.registers.pointers)
      (λ u. simp (z, u, ap (λ n. ltb n 4096) count-seen ∙ le-ltb t.registers.pointers 4096 (leb-true _ _ u)))
      (λ u. let h : t.registers.pointers < 4096 = leb-false _ _ u in
      simp (z, u, ap (λ n. ltb n 4096) count-seen ∙ lt-ltb t.registers.pointers 4096 h)
      (ap ok (given-seen (pointer 1 k 0 0 0) h ∙ ap (with_pointer (view t)) (constant_in k))))

  -- Offset is the believed one. The distance is a number of 64 bits.
  pub offset-view : (p by : ℕ) → by < 2 ^ 64 → after_pointer t (offset_of t.registers p by t.pointers) ≡ offset_by (view t) p by
  unfolding offset_of offset_by after_pointer need
  offset-view p by small =
      let z = eq-eqb _ _ so.ready.pointers in
      let y = le-ltb _ _ so.ready.given in
      by_test (leb t.registers.pointers p)
      (λ u. simp (z, y, u, ap (λ n. ltb p n) count-seen ∙ le-ltb p t.registers.pointers (leb-true _ _ u)))
      (λ u. let h : p < t.registers.pointers = leb-false _ _ u in
      let g = ap (λ n. ltb p n) count-seen ∙ lt-ltb p t.registers.pointers h in
      by_test (eqb (pointer_at t.pointers p).kind 0)
      (λ k. simp (z, y, u, g, k) (offset-local p by small h (pointer_at t.pointers p) k ∙ sym (ap (λ q. offset_at (view t) q by) (pointer-seen p h))))
      (λ k. simp (z, y, u, g, k) (sym (ap (λ q. offset_at (view t) q by) (pointer-seen p h ∙ seen-constant (pointer_at t.pointers p) k) ∙ offset-constant _ by))))

  pub address-sound : (k p : ℕ) (m : Registers) → (address_of t.registers k t.pointers).answer ≡ Ok (p, m)
      → Sound (tables m t.store t.frames t.bounds (address_of t.registers k t.pointers).table)
  unfolding address_of
  address-sound k p m e =
      let z = eq-eqb _ _ so.ready.pointers in
      by_test (leb 4096 t.registers.pointers)
      (λ u. absurd (never_given pointers_full p m (simp (z, u) at e)))
      (λ u. let g : more t.registers ≡ m = ap (λ x. x.1) (ok_same (t.registers.pointers, more t.registers) (p, m) (simp (z, u) at e)) in
      simp (z, u) (rw g at (given-kept (pointer 1 k 0 0 0) (leb-false _ _ u) (constant-ok k))))

  pub offset-sound : (p by n : ℕ) (m : Registers) → (offset_of t.registers p by t.pointers).answer ≡ Ok (n, m)
      → Sound (tables m t.store t.frames t.bounds (offset_of t.registers p by t.pointers).table)
  unfolding offset_of
  offset-sound p by n m e =
      let z = eq-eqb _ _ so.ready.pointers in
      let y = le-ltb _ _ so.ready.given in
      let q = pointer_at t.pointers p in
      by_test (leb t.registers.pointers p)
      (λ u. absurd (never_given not_given_out n m (simp (z, y, u) at e)))
      (λ u. by_test (eqb q.kind 0)
      (λ k. by_test (ltb (18446744073709551615 - by) q.offset)
      (λ v. absurd (never_given offset_too_large n m (simp (z, y, u, k, v) at e)))
      (λ v. by_test (leb 4096 t.registers.pointers)
      (λ w. absurd (never_given pointers_full n m (simp (z, y, u, k, v, w) at e)))
      (λ w. let g : more t.registers ≡ m = ap (λ x. x.1) (ok_same (t.registers.pointers, more t.registers) (n, m) (simp (z, y, u, k, v, w) at e)) in
      simp (z, y, u, k, v, w) (rw g at (given-kept (pointer 0 q.index q.id q.allocation (q.offset + by)) (leb-false _ _ w) (local-ok _ _ _ _))))))
      (λ k. absurd (never_given through_constant n m (simp (z, y, u, k) at e))))

  -- The number given is that of pointers before.
  pub address-number : (k p : ℕ) (m : Registers) → (address_of t.registers k t.pointers).answer ≡ Ok (p, m) → p ≡ length (view t).pointers
  unfolding address_of
  address-number k p m e =
      let z = eq-eqb _ _ so.ready.pointers in
      by_test (leb 4096 t.registers.pointers)
      (λ u. absurd (never_given pointers_full p m (simp (z, u) at e)))
      (λ u. let g : t.registers.pointers ≡ p = ap (λ x. x.0) (ok_same (t.registers.pointers, more t.registers) (p, m) (simp (z, u) at e)) in
      sym g ∙ sym count-seen)

  pub offset-number : (p by n : ℕ) (m : Registers) → (offset_of t.registers p by t.pointers).answer ≡ Ok (n, m) → n ≡ length (view t).pointers
  unfolding offset_of
  offset-number p by n m e =
      let z = eq-eqb _ _ so.ready.pointers in
      let y = le-ltb _ _ so.ready.given in
      let q = pointer_at t.pointers p in
      by_test (leb t.registers.pointers p)
      (λ u. absurd (never_given not_given_out n m (simp (z, y, u) at e)))
      (λ u. by_test (eqb q.kind 0)
      (λ k. by_test (ltb (18446744073709551615 - by) q.offset)
      (λ v. absurd (never_given offset_too_large n m (simp (z, y, u, k, v) at e)))
      (λ v. by_test (leb 4096 t.registers.pointers)
      (λ w. absurd (never_given pointers_full n m (simp (z, y, u, k, v, w) at e)))
      (λ w. let g : t.registers.pointers ≡ n = ap (λ x. x.0) (ok_same (t.registers.pointers, more t.registers) (n, m) (simp (z, y, u, k, v, w) at e)) in
      sym g ∙ sym count-seen)))
      (λ k. absurd (never_given through_constant n m (simp (z, y, u, k) at e))))
