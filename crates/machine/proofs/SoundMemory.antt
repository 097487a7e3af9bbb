-- Each operation of a memory keeps it sound; and what a later memory still has of an earlier one: its pointers, and no frame in an ended one's place.
use Prim.Native.Nat.{ℕ, zero, suc, ◌+◌, ◌-◌, ◌≤◌, ◌<◌}
use native.Mathlib.Nat.{le_refl, le_trans, le_of_suc-le-suc, not-suc-le-zero}
use native.Mathlib.Omega.{arith}
use native.Mathlib.Decide.{dec_lt}
use borrow.Author.Tests.{ltb-true, ltb-false}
use mathlib.Core.Bool.{Bool, true, false, ◌&&◌, ◌||◌}
use mathlib.Core.Path.{◌≡◌, refl, sym, ap, ◌∙◌, subst}
use mathlib.Core.List.{List, [], ◌∷◌, ◌++◌, map, map-append}
use mathlib.Core.Option.{none, some}
use lib.ListN.{length, get_or, take, drop, set, replicate, length-set, length-append, length-replicate, length-drop, get_or-append}
use lib.Seq.{map-set_same, get_or-append_seam, get_or-take, length-take-le, take-suc}
use lib.Dec.{T, ltb, leb, eqb, eqb→eq, ltb→lt, leb→le, lt→ltb, le→leb}
use mir.Facts.{and_yes, yes_and}
use Rattle.std.proofs.lemmas.List.{length_push, take_all}
use Rattle.value.specs.Answer.{Answer, pick}
use Rattle.memory.specs.Memory.{Memory, Back, Frame, Pointer, constant, local, no_frame, frame_at, pointer_at, top, stands, bytes_at, sum, live_count, live_bytes, with_pointer, with_frames, with_allocations, allocated, allocate, constant_address, access, overwrite, written, write_at, write_bytes, read_constant, read_at, read_bytes, offset_at, offset_by, pushed, push_frame, popped, pop_frame}
use Rattle.memory.specs.Sound.{rising, good_back, good_backs, sound_memory}
use Rattle.machine.specs.Sound.{all, are_bytes, bytes_in}
use Rattle.machine.specs.Believed.{believed}
use Rattle.machine.proofs.Agree.{ids, ids_kept, id-kept}
use Rattle.machine.proofs.Values.{Bytes, Keeps, kept, no_answer, keeps-need}
use Rattle.machine.proofs.Kept.{Kept, Popping, at_root, back_to_lem}

-- ---- sums over a list

sum-set : {A : Type 0} (g : A → ℕ) (l : List A) (i : ℕ) (x d : A) → i < length l → sum (map g (set l i x)) + g (get_or l i d) ≡ sum (map g l) + g x
unfolding sum
sum-set g [] i x d h = absurd (not-suc-le-zero h)
sum-set g (y ∷ l) zero x d h = omega arith
sum-set g (y ∷ l) (suc i) x d h = omega (arith, sum-set g l i x d (le_of_suc-le-suc h))

sum_snoc : {A : Type 0} (g : A → ℕ) (l : List A) (x : A) → sum (map g (l ++ (x ∷ []))) ≡ sum (map g l) + g x
unfolding sum
sum_snoc g [] x = omega arith
sum_snoc g (y ∷ l) x = omega (arith, sum_snoc g l x)

-- ---- ids and returns, as lists of their own

pub rising_ids : List ℕ → ℕ → Bool
rising_ids [] c = true
rising_ids (x ∷ []) c = ltb x c
rising_ids (x ∷ y ∷ l) c = ltb x y && rising_ids (y ∷ l) c

rising_ids_lem : (fs : List Frame) (c : ℕ) → rising fs c ≡ rising_ids (ids fs) c
unfolding rising rising_ids
rising_ids_lem [] c = refl
rising_ids_lem (f ∷ []) c = refl
rising_ids_lem (f ∷ g ∷ fs) c = ap (λ (b : Bool). ltb f.id g.id && b) (rising_ids_lem (g ∷ fs) c)

rising_snoc : (l : List ℕ) (x c : ℕ) → T (rising_ids l x) → x < c → T (rising_ids (l ++ (x ∷ [])) c)
unfolding rising_ids
rising_snoc [] x c t h = lt→ltb x c h
rising_snoc (y ∷ []) x c t h = yes_and (ltb y x) (ltb x c) t (lt→ltb x c h)
rising_snoc (y ∷ z ∷ l) x c t h = let u = and_yes (ltb y z) (rising_ids (z ∷ l) x) t in yes_and (ltb y z) (rising_ids (z ∷ (l ++ (x ∷ []))) c) u.0 (rising_snoc (z ∷ l) x c u.1 h)

rising-front : (l : List ℕ) (x c : ℕ) → T (rising_ids (l ++ (x ∷ [])) c) → T (rising_ids l c)
unfolding rising_ids
rising-front [] x c t = tt
rising-front (y ∷ []) x c t = let u = and_yes (ltb y x) (ltb x c) t in lt→ltb y c (le_trans (ltb→lt y x u.0) (omega (arith, ltb→lt x c u.1)))
rising-front (y ∷ z ∷ l) x c t = let u = and_yes (ltb y z) (rising_ids (z ∷ (l ++ (x ∷ []))) c) t in yes_and (ltb y z) (rising_ids (z ∷ l) c) u.0 (rising-front (z ∷ l) x c u.1)

abbrev pub backs : List Frame → List Back
backs fs = map (λ (f : Frame). f.back) fs

good-backs : (fs : List Frame) → good_backs fs ≡ all good_back (backs fs)
unfolding good_backs all
good-backs [] = refl
good-backs (f ∷ fs) = ap (λ (b : Bool). good_back f.back && b) (good-backs fs)

all_snoc : {A : Type 0} (g : A → Bool) (l : List A) (x : A) → all g (l ++ (x ∷ [])) ≡ all g l && g x
unfolding all
all_snoc g [] x = go (g x)
  where
    go : (b : Bool) → b && true ≡ true && b
    go true = refl
    go false = refl
all_snoc g (y ∷ l) x = rw (all_snoc g l x) (go (g y) (all g l) (g x))
  where
    go : (a b c : Bool) → a && (b && c) ≡ (a && b) && c
    go true b c = refl
    go false b c = refl

all_set : {A : Type 0} (g : A → Bool) (l : List A) (i : ℕ) (x : A) → T (all g l) → T (g x) → T (all g (set l i x))
unfolding all
all_set g [] i x t u = t
all_set g (y ∷ l) zero x t u = yes_and (g x) (all g l) u (and_yes (g y) (all g l) t).1
all_set g (y ∷ l) (suc i) x t u = let v = and_yes (g y) (all g l) t in yes_and (g y) (all g (set l i x)) v.0 (all_set g l i x v.1 u)

all-at : {A : Type 0} (g : A → Bool) (l : List A) (i : ℕ) (d : A) → T (all g l) → T (g d) → T (g (get_or l i d))
unfolding all
all-at g [] i d t u = u
all-at g (y ∷ l) zero d t u = (and_yes (g y) (all g l) t).0
all-at g (y ∷ l) (suc i) d t u = all-at g l i d (and_yes (g y) (all g l) t).1 u

pub all_both : {A : Type 0} (g : A → Bool) (l r : List A) → T (all g l) → T (all g r) → T (all g (l ++ r))
unfolding all
all_both g [] r t u = u
all_both g (y ∷ l) r t u = let v = and_yes (g y) (all g l) t in yes_and (g y) (all g (l ++ r)) v.0 (all_both g l r v.1 u)

all_take : {A : Type 0} (g : A → Bool) (n : ℕ) (l : List A) → T (all g l) → T (all g (take n l))
unfolding all
all_take g zero l t = tt
all_take g (suc n) [] t = t
all_take g (suc n) (y ∷ l) t = let v = and_yes (g y) (all g l) t in yes_and (g y) (all g (take n l)) v.0 (all_take g n l v.1)

all_drop : {A : Type 0} (g : A → Bool) (n : ℕ) (l : List A) → T (all g l) → T (all g (drop n l))
unfolding all
all_drop g zero l t = t
all_drop g (suc n) [] t = t
all_drop g (suc n) (y ∷ l) t = all_drop g n l (and_yes (g y) (all g l) t).1

zero_bytes : (n : ℕ) → T (are_bytes (replicate n 0))
unfolding all
zero_bytes zero = tt
zero_bytes (suc n) = yes_and (ltb 0 256) (are_bytes (replicate n 0)) tt (zero_bytes n)

overwrite-bytes : (l : List ℕ) (o : ℕ) (bs : List ℕ) → T (are_bytes l) → T (are_bytes bs) → T (are_bytes (overwrite l o bs))
overwrite-bytes l o bs t u = all_both _ (take o l) (bs ++ drop (o + length bs) l) (all_take _ o l t) (all_both _ bs (drop (o + length bs) l) u (all_drop _ (o + length bs) l t))

-- the bytes of a frame's allocations
abbrev pub frame_bytes : Frame → Bool
frame_bytes f = all are_bytes f.allocations

-- ---- a sound memory, fact by fact

pub record Solid (m : Memory) : Type 0 where
  pub root : 1 ≤ length m.frames
  pub depth : length m.frames ≤ 64
  pub root_id : (frame_at m.frames 0).id ≡ 0
  pub rises : T (rising_ids (ids m.frames) m.counter)
  pub counted : m.counter ≤ 4294967295
  pub count : live_count m.frames ≤ 512
  pub bytes : live_bytes m.frames ≤ 32768
  pub pointers : length m.pointers ≤ 4096
  pub returns : T (all good_back (backs m.frames))
  pub contents : T (all frame_bytes m.frames)

pub sound_solid : (m : Memory) → T (sound_memory m) → T (bytes_in m.frames) → Solid m
unfolding sound_memory bytes_in
sound_solid m t u =
    let a = and_yes (leb 1 (length m.frames) && leb (length m.frames) 64) _ t in
    let b = and_yes (leb 1 (length m.frames)) (leb (length m.frames) 64) a.0 in
    let c = and_yes (eqb (frame_at m.frames 0).id 0) _ a.1 in
    let d = and_yes (rising m.frames m.counter) _ c.1 in
    let e = and_yes (leb m.counter 4294967295) _ d.1 in
    let f = and_yes (leb (live_count m.frames) 512) _ e.1 in
    let g = and_yes (leb (live_bytes m.frames) 32768) _ f.1 in
    let h = and_yes (leb (length m.pointers) 4096) (good_backs m.frames) g.1 in
    record {
      root = leb→le 1 (length m.frames) b.0;
      depth = leb→le (length m.frames) 64 b.1;
      root_id = eqb→eq (frame_at m.frames 0).id 0 c.0;
      rises = subst T (rising_ids_lem m.frames m.counter) d.0;
      counted = leb→le m.counter 4294967295 e.0;
      count = leb→le (live_count m.frames) 512 f.0;
      bytes = leb→le (live_bytes m.frames) 32768 g.0;
      pointers = leb→le (length m.pointers) 4096 h.0;
      returns = subst T (good-backs m.frames) h.1;
      contents = u;
    }

pub solid_sound : (m : Memory) → Solid m → T (sound_memory m)
unfolding sound_memory
solid_sound m s =
    yes_and (leb 1 (length m.frames) && leb (length m.frames) 64) _
    (yes_and (leb 1 (length m.frames)) (leb (length m.frames) 64) (le→leb 1 (length m.frames) s.root) (le→leb (length m.frames) 64 s.depth))
    (yes_and (eqb (frame_at m.frames 0).id 0) _ (rw s.root_id tt)
    (yes_and (rising m.frames m.counter) _ (subst T (sym (rising_ids_lem m.frames m.counter)) s.rises)
    (yes_and (leb m.counter 4294967295) _ (le→leb m.counter 4294967295 s.counted)
    (yes_and (leb (live_count m.frames) 512) _ (le→leb (live_count m.frames) 512 s.count)
    (yes_and (leb (live_bytes m.frames) 32768) _ (le→leb (live_bytes m.frames) 32768 s.bytes)
    (yes_and (leb (length m.pointers) 4096) (good_backs m.frames) (le→leb (length m.pointers) 4096 s.pointers)
    (subst T (sym (good-backs m.frames)) s.returns)))))))

-- ---- an earlier memory and a later one

-- Pointers stay what they are; and a frame that began before and stands now stood then, at the same index.
pub record Later (m₀ m : Memory) : Type 0 where
  pub counter : m₀.counter ≤ m.counter
  pub given : (p : ℕ) → p < length m₀.pointers → (p < length m.pointers) × (pointer_at m p ≡ pointer_at m₀ p)
  pub stood : (i f : ℕ) → f < m₀.counter → T (stands m.frames i f) → T (stands m₀.frames i f)

pub later_same : (m : Memory) → Later m m
later_same m = record { counter = le_refl _; given = λ p l. (l, refl); stood = λ i f l t. t }

pub later_then : {a b c : Memory} → Later a b → Later b c → Later a c
later_then x y = record {
  counter = le_trans x.counter y.counter;
  given = λ p l. (let u = x.given p l in let v = y.given p u.0 in (v.0, v.1 ∙ u.1));
  stood = λ i f l t. x.stood i f l (y.stood i f (le_trans l x.counter) t);
}

-- ---- the changes

-- a change that leaves the depth as it was
pub record Grown (m m' : Memory) : Type 0 where
  pub solid : Solid m'
  pub later : Later m m'
  pub depth : length m'.frames ≡ length m.frames

one_more_lem : (m : Memory) (q : Pointer) → length m.pointers < 4096 → Solid m → Grown m (with_pointer m q)
one_more_lem m q l s = record {
  solid = record {
    root = s.root;
    depth = s.depth;
    root_id = s.root_id;
    rises = s.rises;
    counted = s.counted;
    count = s.count;
    bytes = s.bytes;
    pointers = rw length_push (omega arith);
    returns = s.returns;
    contents = s.contents;
  };
  later = record {
    counter = le_refl _;
    given = λ p h. (rw length_push (omega arith), get_or-append m.pointers (q ∷ []) (constant 0) p h);
    stood = λ i f h t. t;
  };
  depth = refl;
}

-- another frame in one's place, with the same id and return
module _ (m : Memory) (i : ℕ) (bss : List (List ℕ)) (s : Solid m) where
  abbrev changed : List Frame
  changed = set m.frames i (with_allocations (frame_at m.frames i) bss)

  same_ids : ids changed ≡ ids m.frames
  same_ids = ids_kept m.frames i bss

  same-backs : backs changed ≡ backs m.frames
  same-backs = map-set_same (λ (f : Frame). f.back) m.frames i (with_allocations (frame_at m.frames i) bss) no_frame refl

  same_id : (k : ℕ) → (frame_at changed k).id ≡ (frame_at m.frames k).id
  same_id k = id-kept m.frames i bss k

  same_depth : length changed ≡ length m.frames
  same_depth = length-set m.frames i _

  change : T (all are_bytes bss) → live_count changed ≤ 512 → live_bytes changed ≤ 32768 → Grown m (with_frames m changed)
  change t a b = record {
    solid = record {
      root = rw same_depth s.root;
      depth = rw same_depth s.depth;
      root_id = same_id 0 ∙ s.root_id;
      rises = rw same_ids s.rises;
      counted = s.counted;
      count = a;
      bytes = b;
      pointers = s.pointers;
      returns = rw same-backs s.returns;
      contents = all_set frame_bytes m.frames i (with_allocations (frame_at m.frames i) bss) s.contents t;
    };
    later = record {
      counter = le_refl _;
      given = λ p h. (h, refl);
      stood = λ k f h t. (let u = and_yes (ltb k (length changed)) (eqb (frame_at changed k).id f) t in
          yes_and (ltb k (length m.frames)) (eqb (frame_at m.frames k).id f) (rw same_depth at u.0) (rw (same_id k) at u.1));
    };
    depth = same_depth;
  }

grown_then : {a b c : Memory} → Grown a b → Grown b c → Grown a c
grown_then x y = record { solid = y.solid; later = later_then x.later y.later; depth = y.depth ∙ x.depth }

-- ---- the operations

allocated_grown : (m : Memory) (n : ℕ) → Solid m → live_count m.frames < 512 → live_bytes m.frames + n ≤ 32768 → length m.pointers < 4096 → Grown m (allocated m n)
unfolding live_count live_bytes sum all
allocated_grown m n s a b c =
    let t : ℕ = top m.frames in
    let f : Frame = frame_at m.frames t in
    let bss : List (List ℕ) = f.allocations ++ (replicate n 0 ∷ []) in
    let in_stack : t < length m.frames = omega (arith, s.root) in
    let counts = sum-set (λ (g : Frame). length g.allocations) m.frames t (with_allocations f bss) no_frame in_stack in
    let sizes = sum-set (λ (g : Frame). sum (map length g.allocations)) m.frames t (with_allocations f bss) no_frame in_stack in
    let one : length bss ≡ length f.allocations + 1 = length_push f.allocations (replicate n 0) in
    let more : sum (map length bss) ≡ sum (map length f.allocations) + n = sum_snoc length f.allocations (replicate n 0) ∙ ap (λ (k : ℕ). sum (map length f.allocations) + k) (length-replicate n 0) in
    let old : T (frame_bytes f) = all-at frame_bytes m.frames t no_frame s.contents tt in
    let g = change m t bss s (all_both are_bytes f.allocations (replicate n 0 ∷ []) old (yes_and (are_bytes (replicate n 0)) true (zero_bytes n) tt)) (omega (arith, counts, one)) (omega (arith, sizes, more)) in
    grown_then g (one_more_lem _ (local t f.id (length f.allocations) 0) c g.solid)

length-overwrite : (l : List ℕ) (o : ℕ) (bs : List ℕ) → o + length bs ≤ length l → length (overwrite l o bs) ≡ length l
length-overwrite l o bs h = simp (length-append, length-take-le o l (omega arith), length-drop) (omega arith)

written_grown : (m : Memory) (i j o : ℕ) (bs : List ℕ) → T (are_bytes bs) → Solid m → i < length m.frames → o + length bs ≤ length (bytes_at m.frames i j) → Grown m (written m i j o bs)
unfolding live_count live_bytes all
written_grown m i j o bs fine s in_stack within =
    let f : Frame = frame_at m.frames i in
    let bss : List (List ℕ) = set f.allocations j (overwrite (bytes_at m.frames i j) o bs) in
    let counts = sum-set (λ (g : Frame). length g.allocations) m.frames i (with_allocations f bss) no_frame in_stack in
    let sizes = sum-set (λ (g : Frame). sum (map length g.allocations)) m.frames i (with_allocations f bss) no_frame in_stack in
    let as_many : length bss ≡ length f.allocations = length-set f.allocations j _ in
    let as_long : sum (map length bss) ≡ sum (map length f.allocations) = ap sum (map-set_same length f.allocations j _ [] (length-overwrite _ o bs within)) in
    let old : T (frame_bytes f) = all-at frame_bytes m.frames i no_frame s.contents tt in
    let new : T (all are_bytes bss) = all_set are_bytes f.allocations j _ old (overwrite-bytes (bytes_at m.frames i j) o bs (all-at are_bytes f.allocations j [] old tt) fine) in
    change m i bss s new (omega (arith, counts, as_many, s.count)) (omega (arith, sizes, as_long, s.bytes))

module _ (m : Memory) (s : Solid m) where
  allocate_grown : (n : ℕ) → Keeps (Grown m) (allocate m n)
  unfolding allocate
  allocate_grown n =
      keeps-need (Grown m) _ _ (λ a. keeps-need (Grown m) _ _ (λ b. keeps-need (Grown m) _ _ (λ c.
      kept (allocated_grown m n s (ltb→lt (live_count m.frames) 512 a) (leb→le (live_bytes m.frames + n) 32768 b) (ltb→lt (length m.pointers) 4096 c)))))

  address_grown : (k : ℕ) → Keeps (Grown m) (constant_address m k)
  unfolding constant_address
  address_grown k = keeps-need (Grown m) _ _ (λ c. kept (one_more_lem m (constant k) (ltb→lt (length m.pointers) 4096 c) s))

  offset_at_grown : (q : Pointer) (d : ℕ) → Keeps (Grown m) (offset_at m q d)
  unfolding offset_at
  offset_at_grown (constant k) d = no_answer
  offset_at_grown (local i f j o) d =
      keeps-need (Grown m) _ _ (λ b. keeps-need (Grown m) _ _ (λ c. kept (one_more_lem m (local i f j (o + d)) (ltb→lt (length m.pointers) 4096 c) s)))

  offset_grown : (p d : ℕ) → Keeps (Grown m) (offset_by m p d)
  unfolding offset_by
  offset_grown p d = keeps-need (Grown m) _ _ (λ a. offset_at_grown (pointer_at m p) d)

  write_at_grown : (q : Pointer) (bs : List ℕ) → T (are_bytes bs) → Keeps (Grown m) (write_at m q bs)
  unfolding write_at access
  write_at_grown (constant k) bs fine = no_answer
  write_at_grown (local i f j o) bs fine =
      keeps-need (Grown m) (stands m.frames i f) _ (λ a. keeps-need (Grown m) _ _ (λ b. keeps-need (Grown m) _ _ (λ c. keeps-need (Grown m) _ _ (λ d.
      kept (written_grown m i j o bs fine s (ltb→lt i (length m.frames) (and_yes (ltb i (length m.frames)) (eqb (frame_at m.frames i).id f) a).0)
      (leb→le (o + length bs) (length (bytes_at m.frames i j)) c))))))

  write_grown : (p : ℕ) (bs : List ℕ) → T (are_bytes bs) → Keeps (Grown m) (write_bytes m p bs)
  unfolding write_bytes
  write_grown p bs fine = keeps-need (Grown m) _ _ (λ a. write_at_grown (pointer_at m p) bs fine)

  read-bytes : (constants : List (List ℕ)) → T (all are_bytes constants) → (p n : ℕ) → Keeps (Bytes n) (read_bytes constants m p n)
  unfolding read_bytes read_at read_constant access all
  read-bytes constants fine p n = keeps-need (Bytes n) _ _ (λ a. go (pointer_at m p))
    where
      go : (q : Pointer) → Keeps (Bytes n) (read_at constants m.frames q n)
      go (constant k) = keeps-need (Bytes n) _ _ (λ a. keeps-need (Bytes n) _ _ (λ b.
          kept (length-take-le n _ (leb→le n _ b), all_take _ n _ (all-at are_bytes constants k [] fine tt))))
      go (local i f j o) = keeps-need (Bytes n) (stands m.frames i f) _ (λ a. keeps-need (Bytes n) _ _ (λ b. keeps-need (Bytes n) _ _ (λ c. keeps-need (Bytes n) _ _ (λ d.
          let within : o + n ≤ length (bytes_at m.frames i j) = leb→le (o + n) _ c in
          let old : T (frame_bytes (frame_at m.frames i)) = all-at frame_bytes m.frames i no_frame s.contents tt in
          kept (length-take-le n _ (rw length-drop (omega arith)), all_take _ n _ (all_drop _ o _ (all-at are_bytes (frame_at m.frames i).allocations j [] old tt)))))))

-- ---- a frame begins, a frame ends

pub record Changed (m m' : Memory) : Type 0 where
  pub solid : Solid m'
  pub later : Later m m'

module _ (m : Memory) (s : Solid m) where
  pushed_changed : (b : Back) → T (good_back b) → length m.frames < 64 → m.counter < 4294967295 → Changed m (pushed m b)
  unfolding live_count live_bytes sum all
  pushed_changed b good deep few = record {
    solid = record {
      root = rw length_push (omega arith);
      depth = rw length_push (omega arith);
      root_id = ap (λ (f : Frame). f.id) (get_or-append m.frames (new ∷ []) no_frame 0 s.root) ∙ s.root_id;
      rises = rw (map-append (λ (f : Frame). f.id) m.frames (new ∷ [])) (rising_snoc (ids m.frames) m.counter (m.counter + 1) s.rises (omega arith));
      counted = omega arith;
      count = omega (arith, sum_snoc (λ (f : Frame). length f.allocations) m.frames new, s.count);
      bytes = omega (arith, sum_snoc (λ (f : Frame). sum (map length f.allocations)) m.frames new, s.bytes);
      pointers = s.pointers;
      returns = rw (map-append (λ (f : Frame). f.back) m.frames (new ∷ []), all_snoc good_back (backs m.frames) b) (yes_and (all good_back (backs m.frames)) (good_back b) s.returns good);
      contents = rw (all_snoc frame_bytes m.frames new) (yes_and (all frame_bytes m.frames) (frame_bytes new) s.contents tt);
    };
    later = record { counter = omega arith; given = λ p h. (h, refl); stood = stood };
  }
    where
      new : Frame
      new = record { id = m.counter; back = b; allocations = [] }

      stood : (i f : ℕ) → f < m.counter → T (stands (m.frames ++ (new ∷ [])) i f) → T (stands m.frames i f)
      stood i f l t =
          let u = and_yes (ltb i (length (m.frames ++ (new ∷ [])))) (eqb (frame_at (m.frames ++ (new ∷ [])) i).id f) t in
          let h : i < length m.frames + 1 = rw length_push at (ltb→lt i (length (m.frames ++ (new ∷ []))) u.0) in
          elim (dec_lt i (length m.frames)) [
            | yes a ↦ yes_and (ltb i (length m.frames)) (eqb (frame_at m.frames i).id f) (lt→ltb i (length m.frames) a) (rw (get_or-append m.frames (new ∷ []) no_frame i a) at u.1)
            | no n ↦ (let e : i ≡ length m.frames = omega arith in
                let id : m.counter ≡ f = rw (e, get_or-append_seam m.frames new [] no_frame) at (eqb→eq (frame_at (m.frames ++ (new ∷ [])) i).id f u.1) in
                absurd (omega arith))
          ]

  module _ (deep : 1 < length m.frames) where
    front : List Frame
    front = take (top m.frames) m.frames

    last : Frame
    last = frame_at m.frames (top m.frames)

    split : m.frames ≡ front ++ (last ∷ [])
    unfolding front last
    split = sym (take_all (suc (top m.frames)) m.frames (omega arith)) ∙ take-suc m.frames (top m.frames) no_frame (omega arith)

    front_length : length front ≡ length m.frames - 1
    unfolding front
    front_length = length-take-le (top m.frames) m.frames (omega arith)

    in_front : (i : ℕ) → i < length m.frames - 1 → frame_at front i ≡ frame_at m.frames i
    unfolding front
    in_front i l = get_or-take (top m.frames) m.frames i no_frame l

    split_returns : T (all good_back (backs front)) × T (good_back last.back)
    split_returns =
        and_yes (all good_back (backs front)) (good_back last.back)
        (subst T (ap (λ (fs : List Frame). all good_back (backs fs)) split ∙ ap (all good_back) (map-append (λ (f : Frame). f.back) front (last ∷ [])) ∙ all_snoc good_back (backs front) last.back) s.returns)

    popped_changed : Changed m (popped m)
    unfolding front live_count live_bytes
    popped_changed = record {
      solid = record {
        root = rw front_length (omega arith);
        depth = rw front_length (omega (arith, s.depth));
        root_id = ap (λ (f : Frame). f.id) (in_front 0 (omega arith)) ∙ s.root_id;
        rises = rising-front (ids front) last.id m.counter (subst (λ (l : List ℕ). T (rising_ids l m.counter)) (ap ids split ∙ map-append (λ (f : Frame). f.id) front (last ∷ [])) s.rises);
        counted = s.counted;
        count = omega (arith, ap (λ (fs : List Frame). sum (map (λ (f : Frame). length f.allocations) fs)) split, sum_snoc (λ (f : Frame). length f.allocations) front last, s.count);
        bytes = omega (arith, ap (λ (fs : List Frame). sum (map (λ (f : Frame). sum (map length f.allocations)) fs)) split, sum_snoc (λ (f : Frame). sum (map length f.allocations)) front last, s.bytes);
        pointers = s.pointers;
        returns = split_returns.0;
        contents = all_take frame_bytes (top m.frames) m.frames s.contents;
      };
      later = record { counter = le_refl _; given = λ p h. (h, refl); stood = stood };
    }
      where
        stood : (i f : ℕ) → f < m.counter → T (stands front i f) → T (stands m.frames i f)
        stood i f l t =
            let u = and_yes (ltb i (length front)) (eqb (frame_at front i).id f) t in
            let h : i < length m.frames - 1 = rw front_length at (ltb→lt i (length front) u.0) in
            yes_and (ltb i (length m.frames)) (eqb (frame_at m.frames i).id f) (lt→ltb i (length m.frames) (omega arith)) (rw (in_front i h) at u.1)

-- ---- all of it

-- a sound memory that is later than m₀, where the machine runs or is idle
pub record Sounds (m₀ : Memory) (running : Bool) (m : Memory) : Type 0 where
  pub solid : Solid m
  pub later : Later m₀ m
  pub idle : T (running || eqb (length m.frames) 1)

module _ (m₀ : Memory) where
  grown_sounds : {r : Bool} {m m' : Memory} → Sounds m₀ r m → Grown m m' → Sounds m₀ r m'
  grown_sounds {r} x g = record { solid = g.solid; later = later_then x.later g.later; idle = rw g.depth x.idle }

  all_grown : {r : Bool} {m : Memory} → Sounds m₀ r m → {a : Answer Memory} → Keeps (Grown m) a → Keeps (Sounds m₀ r) a
  all_grown x (kept g) = kept (grown_sounds x g)
  all_grown x no_answer = no_answer

  push_sounds : {m : Memory} → Sounds m₀ true m → (b : Back) → T (good_back b) → Keeps (Sounds m₀ true) (push_frame m b)
  unfolding push_frame
  push_sounds {m} x b good =
      keeps-need (Sounds m₀ true) _ _ (λ t. keeps-need (Sounds m₀ true) _ _ (λ u.
      let c = pushed_changed m x.solid b good (ltb→lt (length m.frames) 64 t) (ltb→lt m.counter 4294967295 u) in
      kept (record { solid = c.solid; later = later_then x.later c.later; idle = tt })))

  pop_sounds : {m : Memory} → Sounds m₀ true m → Popping (Sounds m₀) m (pop_frame m)
  unfolding pop_frame last
  pop_sounds {m} x = go (ltb 1 (length m.frames)) refl
    where
      go : (b : Bool) → ltb 1 (length m.frames) ≡ b → Popping (Sounds m₀) m (pick b (some ((frame_at m.frames (top m.frames)).back, popped m)) none)
      go true e =
          let deep : 1 < length m.frames = ltb-true 1 (length m.frames) e in
          let c = popped_changed m x.solid deep in
          back_to_lem (split_returns m x.solid deep).1 (record { solid = c.solid; later = later_then x.later c.later; idle = tt })
      go false e =
          let one : length m.frames ≡ 1 = omega (arith, ltb-false 1 (length m.frames) e, x.solid.root) in
          at_root (record { solid = x.solid; later = x.later; idle = rw one tt })

  pub sounds_kept : Kept believed (Sounds m₀)
  sounds_kept = record {
    started = λ x. record { solid = x.solid; later = x.later; idle = tt };
    allocate = λ x n. all_grown x (allocate_grown _ x.solid n);
    address = λ x k. all_grown x (address_grown _ x.solid k);
    offset = λ x p d. all_grown x (offset_grown _ x.solid p d);
    given = λ x. omega (arith, x.solid.pointers);
    read = λ x constants fine p n. read-bytes _ x.solid constants fine p n;
    write = λ x p bs fine. all_grown x (write_grown _ x.solid p bs fine);
    push = push_sounds;
    pop = pop_sounds;
  }
