-- Every believed machine that meets the list is the view of some sound tables: the tables are written down word by word, and read back.
use mathlib.Core.Path.{◌≡◌, refl, ap, ◌∙◌, sym}
use mathlib.Core.List.{List, [], ◌∷◌, ◌++◌, flatten}
use mathlib.Core.Bool.{Bool, true, false, ◌&&◌, ◌||◌}
use mathlib.Core.Option.{Option, none, some}
use Prim.Native.Nat.{ℕ, ◌+◌, ◌*◌, ◌-◌, ◌/◌, ◌%◌, ◌<◌, ◌≤◌, zero, suc}
use native.Mathlib.Numerals.{add-one}
use native.Mathlib.Nat.{not-suc-le-zero, le_of_suc-le-suc, add-zero, mod-eq_of_lt, div-eq_of_lt, mul-add-div_right, mul-add-mod_self_right}
use native.Mathlib.Omega.{arith}
use lib.ListN.{get_or, length, replicate, length-append, length-replicate}
use lib.Seq.{ext_get_or}
use lib.Dec.{ltb, leb, eqb}
use borrow.Author.Tests.{ltb-true, ltb-false, leb-true, eqb-true, eq-eqb}
use Rattle.value.specs.Value.{Value, tag}
use Rattle.value.proofs.Truth.{both_true, and_true}
use Rattle.memory.specs.Memory.{Back, Frame, Pointer, constant, local, Memory, no_frame, frame_at, live_count, live_bytes}
use Rattle.memory.specs.Memory as M
use Rattle.memory.specs.Stored.{stored_value}
use Rattle.memory.specs.Sound.{rising, good_var, good_back, good_backs, sound_memory, good_vars, sound_machine, in_kind, typed}
use Rattle.memory.specs.Tables.{Tables, tables, State, state, registers, every, live, pointer, pointer_at, pointer_ok, pointers_ok, stored_ok, variable_ok, registers_ok, memory_ok, sound_of}
use Rattle.memory.specs.View.{tab, part, bytes_of, allocations_in, variable_in, frame_in, pointer_in, view, running_in, variables_in}
use Rattle.memory.specs.declared.PointerRecord.{PointerRecord}
use Rattle.memory.specs.Flat.{start_of, all_of, first_of}
use Rattle.memory.proofs.Every.{by_test, every-all}
use Rattle.memory.proofs.Tab.{get_d_tab, length-tab, tab-same}
use Rattle.memory.proofs.Facts.{Sound, FrameSound, sound_test}
use Rattle.memory.proofs.Frames.{memory-same, above-next, above-top}
use Rattle.memory.proofs.Flat.{start_zero, start-next, first_zero, first_next, length_flat, length-all, all-count, all-bytes, bytes_flat, all-at}
use Rattle.memory.proofs.Stored.{stored_ok_lem, stored-value, stored-none}

-- ---- tables of records

-- record i's word c, in a table of records of w words
abbrev records : (w length : ℕ) → (ℕ → ℕ → ℕ) → List ℕ
records w n f = tab n (λ k. f (k / w) (k % w))

module _ (w n : ℕ) (f : ℕ → ℕ → ℕ) (some : 0 < w) where
  word_at : (i c : ℕ) → c < w → i * w + c < n → get_or (records w n f) (i * w + c) 0 ≡ f i c
  word_at i c h k =
      let a : (i * w + c) / w ≡ i = mul-add-div_right some i c ∙ ap (λ x. i + x) (div-eq_of_lt h) ∙ add-zero i in
      let b : (i * w + c) % w ≡ c = mul-add-mod_self_right i w c ∙ mod-eq_of_lt h in
      get_d_tab n (λ j. f (j / w) (j % w)) (i * w + c) 0 k ∙ ap (λ x. f x ((i * w + c) % w)) a ∙ ap (f i) b

  word_first : (i : ℕ) → i * w < n → get_or (records w n f) (i * w) 0 ≡ f i 0
  word_first i k =
      let e : i * w ≡ i * w + 0 = omega arith in
      ap (λ j. get_or (records w n f) j 0) e ∙ word_at i 0 some (omega arith)

tab_list : {A : Type 0} (l : List A) (d : A) → tab (length l) (λ i. get_or l i d) ≡ l
tab_list l d = ext_get_or d (tab (length l) (λ i. get_or l i d)) l (length-tab (length l) _) (λ i h. get_d_tab (length l) (λ i. get_or l i d) i d (rw length-tab at h))

-- ---- codes

-- a variable + 1, or 0 for none
abbrev pub variable_out : Option ℕ → ℕ
variable_out none = 0
variable_out (some x) = suc x

pub variable-back : (v : Option ℕ) → variable_in (variable_out v) ≡ v
unfolding variable_in
variable-back none = refl
variable-back (some x) = refl

variable-small : (v : Option ℕ) → good_var v ≡ true → variable_out v ≤ 256
unfolding good_var
variable-small none e = omega arith
variable-small (some x) e = let h : x < 256 = ltb-true _ _ e in omega arith

frame_word_of : List Frame → (i c : ℕ) → ℕ
frame_word_of fs i zero = (frame_at fs i).id
frame_word_of fs i (suc zero) = (frame_at fs i).back.place
frame_word_of fs i (suc (suc zero)) = variable_out (frame_at fs i).back.var
frame_word_of fs i (suc (suc (suc c))) = first_of fs i

pointer_out : Pointer → PointerRecord
pointer_out (constant k) = pointer 1 k 0 0 0
pointer_out (local i f j o) = pointer 0 i f j o

pointer_back : (q : Pointer) → pointer_in (pointer_out q) ≡ q
unfolding pointer_out pointer_in
pointer_back (constant k) = refl
pointer_back (local i f j o) = refl

pointer_ok_lem : (q : Pointer) → pointer_ok (pointer_out q) ≡ true
unfolding pointer_out pointer_ok
pointer_ok_lem (constant k) = refl
pointer_ok_lem (local i f j o) = refl

pointer_word_of : PointerRecord → ℕ → ℕ
pointer_word_of q zero = q.kind
pointer_word_of q (suc zero) = q.index
pointer_word_of q (suc (suc zero)) = q.id
pointer_word_of q (suc (suc (suc zero))) = q.allocation
pointer_word_of q (suc (suc (suc (suc c)))) = q.offset

tag_out : Option Value → ℕ
tag_out none = 0
tag_out (some v) = tag v.kind

bits_out : Option Value → ℕ
bits_out none = 0
bits_out (some v) = v.bits

value_word_of : Option Value → ℕ → ℕ
value_word_of v zero = tag_out v
value_word_of v (suc c) = bits_out v

value-back : (v : Option Value) → stored_value (tag_out v) (bits_out v) ≡ v
unfolding tag_out bits_out
value-back none = stored-none 0
value-back (some v) = stored-value v.kind v.bits

-- ---- ids that rise, and good backs, frame by frame

pub rising-at : (fs : List Frame) (c : ℕ) → rising fs c ≡ true → (i : ℕ) → suc i < length fs → (frame_at fs i).id < (frame_at fs (suc i)).id
unfolding rising
rising-at [] c e i h = absurd (not-suc-le-zero h)
rising-at (f ∷ []) c e i h = absurd (not-suc-le-zero (le_of_suc-le-suc h))
rising-at (f ∷ g ∷ fs) c e zero h = ltb-true _ _ (both_true (ltb f.id g.id) (rising (g ∷ fs) c) e).0
rising-at (f ∷ g ∷ fs) c e (suc i) h = rising-at (g ∷ fs) c (both_true (ltb f.id g.id) (rising (g ∷ fs) c) e).1 i (le_of_suc-le-suc h)

pub rising-last : (fs : List Frame) (c : ℕ) → rising fs c ≡ true → (i : ℕ) → suc i ≡ length fs → (frame_at fs i).id < c
unfolding rising
rising-last [] c e i h = absurd (omega arith)
rising-last (f ∷ []) c e zero h = ltb-true _ _ e
rising-last (f ∷ []) c e (suc i) h = absurd (omega arith)
rising-last (f ∷ g ∷ fs) c e zero h = absurd (omega arith)
rising-last (f ∷ g ∷ fs) c e (suc i) h = rising-last (g ∷ fs) c (both_true (ltb f.id g.id) (rising (g ∷ fs) c) e).1 i (omega arith)

pub backs-at : (fs : List Frame) → good_backs fs ≡ true → (i : ℕ) → i < length fs → ((frame_at fs i).back.place ≤ 4096) × (variable_out (frame_at fs i).back.var ≤ 256)
unfolding good_backs good_back
backs-at [] e i h = absurd (not-suc-le-zero h)
backs-at (f ∷ fs) e zero h =
    let a = (both_true (good_back f.back) (good_backs fs) e).0 in
    let b = both_true (good_var f.back.var) (leb f.back.place 4096) a in
    (leb-true _ _ b.1, variable-small _ b.0)
backs-at (f ∷ fs) e (suc i) h = backs-at fs (both_true (good_back f.back) (good_backs fs) e).1 i (le_of_suc-le-suc h)

-- ---- the tables of a machine

flag_out : Bool → ℕ
flag_out true = 1
flag_out false = 0

flag-back : (b : Bool) → running_in (flag_out b) ≡ b
unfolding flag_out
flag-back true = refl
flag-back false = refl

abbrev tables_of : Memory → (running : Bool) → (place : ℕ) → Tables
tables_of m running place =
    tables (registers (flag_out running) place m.counter (length m.frames) (length m.pointers))
    (flatten (all_of m.frames) ++ replicate (32768 - length (flatten (all_of m.frames))) 0)
    (records 4 260 (frame_word_of m.frames))
    (tab 513 (start_of (all_of m.frames)))
    (records 5 20480 (λ p. pointer_word_of (pointer_out (M.pointer_at m p))))

abbrev variables_of : (ℕ → Option Value) → List ℕ
variables_of vs = records 2 512 (λ x. value_word_of (vs x))

-- the memory's part of the list, as facts
pub record Good (m : Memory) : Type 0 where
  pub some : 1 ≤ length m.frames
  pub deep : length m.frames ≤ 64
  pub root : (frame_at m.frames 0).id ≡ 0
  pub rises : rising m.frames m.counter ≡ true
  pub counted : m.counter ≤ 4294967295
  pub few : live_count m.frames ≤ 512
  pub used : live_bytes m.frames ≤ 32768
  pub given : length m.pointers ≤ 4096
  pub backs : good_backs m.frames ≡ true

pub good_of : (m : Memory) → sound_memory m ≡ true → Good m
unfolding sound_memory
good_of m e =
    let z = both_true (leb 1 (length m.frames) && leb (length m.frames) 64) _ e in
    let a = both_true (leb 1 (length m.frames)) (leb (length m.frames) 64) z.0 in
    let c = both_true (eqb (frame_at m.frames 0).id 0) _ z.1 in
    let d = both_true (rising m.frames m.counter) _ c.1 in
    let f = both_true (leb m.counter 4294967295) _ d.1 in
    let g = both_true (leb (live_count m.frames) 512) _ f.1 in
    let h = both_true (leb (live_bytes m.frames) 32768) _ g.1 in
    let i = both_true (leb (length m.pointers) 4096) (good_backs m.frames) h.1 in
    record {
      some = leb-true _ _ a.0;
      deep = leb-true _ _ a.1;
      root = eqb-true _ _ c.0;
      rises = d.0;
      counted = leb-true _ _ f.0;
      few = leb-true _ _ g.0;
      used = leb-true _ _ h.0;
      given = leb-true _ _ i.0;
      backs = i.1;
    }

frame_eta : (f : Frame) {a : ℕ} {b : Back} {l : List (List ℕ)} → a ≡ f.id → b ≡ f.back → l ≡ f.allocations → ◌≡◌ {A = Frame} (record { id = a; back = b; allocations = l }) f
frame_eta f p q r = three p q r
  where
    three : {a a' : ℕ} {b b' : Back} {l l' : List (List ℕ)} → a ≡ a' → b ≡ b' → l ≡ l'
        → ◌≡◌ {A = Frame} (record { id = a; back = b; allocations = l }) (record { id = a'; back = b'; allocations = l' })
    three p q r = cc

back_eta : (b : Back) {p : ℕ} {v : Option ℕ} → p ≡ b.place → v ≡ b.var → ◌≡◌ {A = Back} (record { place = p; var = v }) b
back_eta b p q = two p q
  where
    two : {a a' : ℕ} {v v' : Option ℕ} → a ≡ a' → v ≡ v' → ◌≡◌ {A = Back} (record { place = a; var = v }) (record { place = a'; var = v' })
    two p q = cc

module _ (m : Memory) (g : Good m) (running : Bool) (place : ℕ) where
  abbrev fs : List Frame
  fs = m.frames

  abbrev ls : List (List ℕ)
  ls = all_of fs

  abbrev t : Tables
  t = tables_of m running place

  -- the words, read back
  word0 : (i : ℕ) → i ≤ 64 → get_or t.frames (i * 4) 0 ≡ (frame_at fs i).id
  unfolding frame_word_of
  word0 i h = word_first 4 260 (frame_word_of fs) (omega arith) i (omega arith)

  word1 : (i : ℕ) → i ≤ 64 → get_or t.frames (i * 4 + 1) 0 ≡ (frame_at fs i).back.place
  unfolding frame_word_of
  word1 i h = word_at 4 260 (frame_word_of fs) (omega arith) i 1 (omega arith) (omega arith)

  word2 : (i : ℕ) → i ≤ 64 → get_or t.frames (i * 4 + 2) 0 ≡ variable_out (frame_at fs i).back.var
  unfolding frame_word_of
  word2 i h = word_at 4 260 (frame_word_of fs) (omega arith) i 2 (omega arith) (omega arith)

  word3 : (i : ℕ) → i ≤ 64 → get_or t.frames (i * 4 + 3) 0 ≡ first_of fs i
  unfolding frame_word_of
  word3 i h = word_at 4 260 (frame_word_of fs) (omega arith) i 3 (omega arith) (omega arith)

  word7 : (i : ℕ) → i < 64 → get_or t.frames (i * 4 + 7) 0 ≡ first_of fs (suc i)
  word7 i h =
      let e : i * 4 + 7 ≡ suc i * 4 + 3 = omega arith in
      ap (λ k. get_or t.frames k 0) e ∙ word3 (suc i) h

  bound-is : (k : ℕ) → k ≤ 512 → get_or t.bounds k 0 ≡ start_of ls k
  bound-is k h = get_d_tab 513 (start_of ls) k 0 (omega arith)

  pointer_is : (p : ℕ) → p < 4096 → pointer_at t.pointers p ≡ pointer_out (M.pointer_at m p)
  unfolding pointer_at pointer_word_of
  pointer_is p h =
      let f : ℕ → ℕ → ℕ = λ q. pointer_word_of (pointer_out (M.pointer_at m q)) in
      five
      (word_first 5 20480 f (omega arith) p (omega arith))
      (word_at 5 20480 f (omega arith) p 1 (omega arith) (omega arith))
      (word_at 5 20480 f (omega arith) p 2 (omega arith) (omega arith))
      (word_at 5 20480 f (omega arith) p 3 (omega arith) (omega arith))
      (word_at 5 20480 f (omega arith) p 4 (omega arith) (omega arith))
    where
      five : {q : PointerRecord} {a b c d e : ℕ} → a ≡ q.kind → b ≡ q.index → c ≡ q.id → d ≡ q.allocation → e ≡ q.offset → pointer a b c d e ≡ q
      five {q} a b c d e = rw (a, b, c, d, e) refl

  count : live t ≡ length ls
  count = let d = g.deep in word3 (length fs) d ∙ sym (length-all fs)

  few-all : length ls ≤ 512
  few-all =
      let a = length-all fs in
      let b = all-count fs in
      let c = g.few in
      omega arith

  bytes-all : start_of ls (length ls) ≤ 32768
  bytes-all =
      let a = length_flat ls in
      let b = all-bytes fs in
      let c = g.used in
      omega arith

  frame-good : (i : ℕ) → i < length fs → FrameSound t.frames (length fs) m.counter i
  frame-good i h =
      let d = g.deep in
      let a = word0 i (omega arith) in
      let a1 = word1 i (omega arith) in
      let a2 = word2 i (omega arith) in
      let a3 = word3 i (omega arith) in
      let a7 = word7 i (omega arith) in
      let n = first_next fs i in
      let b = backs-at fs g.backs i h in
      let b0 = b.0 in
      let b1 = b.1 in
      record {
        id = by_test (ltb (i + 1) (length fs))
            (λ w. let c : i + 1 < length fs = ltb-true _ _ w in
            let u = above-next t.frames (length fs) m.counter i c in
            let e : i * 4 + 4 ≡ suc i * 4 = omega arith in
            let q = ap (λ k. get_or t.frames k 0) e ∙ word0 (suc i) (omega arith) in
            let r = rising-at fs m.counter g.rises i (omega arith) in
            omega arith)
            (λ w. let c : length fs ≤ i + 1 = ltb-false _ _ w in
            let u = above-top t.frames (length fs) m.counter i c in
            let r = rising-last fs m.counter g.rises i (omega arith) in
            omega arith);
        place = omega arith;
        variable = omega arith;
        first = omega arith;
      }

  built_sound : Sound t
  built_sound =
      let d = g.deep in
      let o = g.some in
      let c = count in
      let f = few-all in
      let fl = length_flat ls in
      let ba = bytes-all in
      let r : length {A = ℕ} (replicate (32768 - length (flatten ls)) 0) ≡ 32768 - length (flatten ls) = length-replicate (32768 - length (flatten ls)) 0 in
      let la = length-append (flatten ls) (replicate (32768 - length (flatten ls)) 0) in
      record {
        ready = record {
          store = omega arith;
          frames = length-tab 260 _;
          bounds = length-tab 513 _;
          pointers = length-tab 20480 _;
          deep = d;
          given = g.given;
        };
        some = o;
        counted = g.counted;
        root = word0 0 (omega arith) ∙ g.root;
        bottom = word3 0 (omega arith) ∙ first_zero fs;
        start = bound-is 0 (omega arith) ∙ start_zero ls;
        each = frame-good;
        few = omega arith;
        ends = λ k h.
            let x = bound-is k (omega arith) in
            let y = bound-is (k + 1) (omega arith) in
            let z = start-next ls k in
            let e : k + 1 ≡ suc k = add-one k in
            let w = ap (start_of ls) e in
            omega arith;
        used = let x = ap (λ k. get_or t.bounds k 0) c in let y = bound-is (length ls) f in omega arith;
        kinds = λ p h. kind-good p h;
      }
    where
      kind-good : (p : ℕ) → p < length m.pointers → pointers_ok t.pointers p ≡ true
      kind-good p h = unfold pointers_ok in (let l = g.given in ap pointer_ok (pointer_is p (omega arith)) ∙ pointer_ok_lem (M.pointer_at m p))

  -- ---- the view of them

  bytes_back : (k : ℕ) → k < length ls → bytes_of t.bounds t.store k ≡ get_or ls k []
  bytes_back k h =
      let f = few-all in
      let x = bound-is k (omega arith) in
      let y : get_or t.bounds (k + 1) 0 ≡ start_of ls k + length (get_or ls k []) = bound-is (k + 1) (omega arith) ∙ ap (start_of ls) (add-one k) ∙ start-next ls k in
      let z : get_or t.bounds (k + 1) 0 - get_or t.bounds k 0 ≡ length (get_or ls k []) = omega arith in
      ap (λ n. part t.store (get_or t.bounds k 0) n) z ∙ ap (λ n. part t.store n (length (get_or ls k []))) x
      ∙ bytes_flat ls (replicate (32768 - length (flatten ls)) 0) k h

  allocations-back : (i : ℕ) → i < length fs → allocations_in t.bounds t.store (get_or t.frames (i * 4 + 3) 0) (get_or t.frames (i * 4 + 7) 0) ≡ (frame_at fs i).allocations
  unfolding allocations_in
  allocations-back i h =
      let d = g.deep in
      let al = (frame_at fs i).allocations in
      let lo = word3 i (omega arith) in
      let hi = word7 i (omega arith) in
      let n = first_next fs i in
      let e : get_or t.frames (i * 4 + 7) 0 - get_or t.frames (i * 4 + 3) 0 ≡ length al = omega arith in
      ap (λ k. tab k (λ j. bytes_of t.bounds t.store (get_or t.frames (i * 4 + 3) 0 + j))) e
      ∙ tab-same (length al) (λ j. bytes_of t.bounds t.store (get_or t.frames (i * 4 + 3) 0 + j)) (λ j. get_or al j [])
      (λ j k. let a = all-at fs i j h k in
      ap (λ x. bytes_of t.bounds t.store (x + j)) lo ∙ bytes_back (first_of fs i + j) a.0 ∙ a.1)
      ∙ tab_list al []

  frame_back : (i : ℕ) → i < length fs → frame_in t.frames t.bounds t.store i ≡ frame_at fs i
  frame_back i h =
      let d = g.deep in
      frame_eta (frame_at fs i) (word0 i (omega arith))
      (back_eta (frame_at fs i).back (word1 i (omega arith)) (ap variable_in (word2 i (omega arith)) ∙ variable-back (frame_at fs i).back.var))
      (allocations-back i h)

  view-back : view t ≡ m
  unfolding view
  view-back =
      let l = g.given in
      memory_eta
      (tab-same (length fs) (frame_in t.frames t.bounds t.store) (λ i. get_or fs i no_frame) frame_back ∙ tab_list fs no_frame)
      (tab-same (length m.pointers) (λ p. pointer_in (pointer_at t.pointers p)) (λ p. get_or m.pointers p (constant 0))
      (λ p h. ap pointer_in (pointer_is p (omega arith)) ∙ pointer_back (M.pointer_at m p))
      ∙ tab_list m.pointers (constant 0))
    where
      memory_eta : {b : List Frame} {c : List Pointer} → b ≡ m.frames → c ≡ m.pointers → ◌≡◌ {A = Memory} (record { counter = m.counter; frames = b; pointers = c }) m
      memory_eta p q = memory-same p q

-- ---- variables

tag_is : (vs : ℕ → Option Value) (x : ℕ) → x < 256 → get_or (variables_of vs) (x * 2) 0 ≡ tag_out (vs x)
unfolding value_word_of
tag_is vs x h = word_first 2 512 (λ y. value_word_of (vs y)) (omega arith) x (omega arith)

bits_is : (vs : ℕ → Option Value) (x : ℕ) → x < 256 → get_or (variables_of vs) (x * 2 + 1) 0 ≡ bits_out (vs x)
unfolding value_word_of
bits_is vs x h = word_at 2 512 (λ y. value_word_of (vs y)) (omega arith) x 1 (omega arith) (omega arith)

variables-back : (vs : ℕ → Option Value) (x : ℕ) → x < 256 → variables_in (variables_of vs) x ≡ vs x
unfolding variables_in
variables-back vs x h =
    ap (λ n. stored_value n (get_or (variables_of vs) (x * 2 + 1) 0)) (tag_is vs x h) ∙ ap (stored_value (tag_out (vs x))) (bits_is vs x h) ∙ value-back (vs x)

value-ok : (v : Option Value) → in_kind v ≡ true → stored_ok (tag_out v) (bits_out v) ≡ true
unfolding tag_out bits_out in_kind
value-ok none e = unfold stored_ok in refl
value-ok (some v) e = stored_ok_lem v.kind v.bits ∙ e

typed_at : (vs : ℕ → Option Value) (n : ℕ) → typed vs n ≡ true → (x : ℕ) → x < n → in_kind (vs x) ≡ true
unfolding typed
typed_at vs zero e x h = absurd (not-suc-le-zero h)
typed_at vs (suc n) e x h =
    let a = both_true (in_kind (vs n)) (typed vs n) e in
    by_test (ltb x n)
    (λ w. typed_at vs n a.1 x (ltb-true _ _ w))
    (λ w. let k : n ≤ x = ltb-false _ _ w in
    let q : x ≡ n = omega arith in
    ap (λ y. in_kind (vs y)) q ∙ a.0)

variable-ok : (vs : ℕ → Option Value) (x : ℕ) → x < 256 → in_kind (vs x) ≡ true → variable_ok (variables_of vs) x ≡ true
unfolding variable_ok
variable-ok vs x h f =
    ap (λ n. stored_ok n (get_or (variables_of vs) (x * 2 + 1) 0)) (tag_is vs x h) ∙ ap (stored_ok (tag_out (vs x))) (bits_is vs x h) ∙ value-ok (vs x) f

registers-ok : (running : Bool) (place depth : ℕ) → leb place 4096 ≡ true → (running || eqb depth 1) ≡ true → registers_ok (flag_out running) place depth ≡ true
unfolding registers_ok flag_out
registers-ok true place depth p e = and_true p refl
registers-ok false place depth p e = and_true p e

-- ---- the claim

-- tables of a machine: sound, and what a reader sees of them is the machine
pub record Tabled (m : Memory) (running : Bool) (place : ℕ) (vs : ℕ → Option Value) : Type 0 where
  pub state : State
  pub sound : sound_of state ≡ true
  pub memory : view state.memory ≡ m
  pub runs : running_in state.memory.registers.running ≡ running
  pub next : state.memory.registers.next ≡ place
  pub variables : (x : ℕ) → x < 256 → variables_in state.variables x ≡ vs x

-- Every believed machine that meets the list, with values of their kinds, is the view of some sound tables.
pub every-sound : (m : Memory) (running : Bool) (place : ℕ) (vs : ℕ → Option Value) → sound_machine m running place vs ≡ true → typed vs 256 ≡ true → Tabled m running place vs
unfolding sound_machine
every-sound m running place vs e f =
    let a = both_true (sound_memory m) _ e in
    let b = both_true (leb place 4096) _ a.1 in
    let c = both_true (good_vars vs 256) (running || eqb (length m.frames) 1) b.1 in
    let g = good_of m a.0 in
    record {
      state = state (tables_of m running place) (variables_of vs);
      sound = built (sound_test (tables_of m running place) (built_sound m g running place)) (registers-ok running place (length m.frames) b.0 c.1)
          (every-all 256 (variable_ok (variables_of vs)) (λ x h. variable-ok vs x h (typed_at vs 256 f x h)));
      memory = view-back m g running place;
      runs = flag-back running;
      next = refl;
      variables = variables-back vs;
    }
  where
    built : memory_ok (tables_of m running place) ≡ true → registers_ok (flag_out running) place (length m.frames) ≡ true
        → every 256 (variable_ok (variables_of vs)) ≡ true → sound_of (state (tables_of m running place) (variables_of vs)) ≡ true
    built p q r = unfold sound_of in and_true p (and_true (eq-eqb _ _ (length-tab 512 (λ k. value_word_of (vs (k / 2)) (k % 2)))) (and_true q r))
