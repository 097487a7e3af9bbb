-- The memory after any accepted events is what their history says: `Sim` holds of the two, and each event keeps it.
use Prim.Native.Nat.{ℕ, zero, suc, ◌+◌, ◌-◌, ◌≤◌, ◌<◌}
use native.Mathlib.Nat.{le_refl, le_trans, le_of_suc-le-suc, not-suc-le-zero}
use native.Mathlib.Decide.{dec_le, dec_lt, ℕ_discrete}
use native.Mathlib.Omega.{arith}
use borrow.Author.Tests.{lt-ltb, le-ltb, le-leb, lt-leb}
use mathlib.Core.Bool.{Bool, true, false, ◌||◌}
use mathlib.Core.Path.{◌≡◌, refl, sym, ap, ap₂, ◌∙◌, subst, subst₂}
use mathlib.Core.List.{List, [], ◌∷◌, ◌++◌, map, map-append}
use mathlib.Core.Logic.{◌≢◌, inl, inr}
use lib.ListN.{length, get_or, take, drop, set, replicate, length-set, length-map, length-append, length-drop, get_or-map, get_or-append}
use lib.Seq.{get_or-set_same, get_or-set_other, map-set_same, get_or-append_seam, get_or-append-add, get_or-take, get_or-drop, ext_get_or, length-take-le, map-set}
use lib.Dec.{T, ltb, leb, eqb, eqb_refl, eqb→eq, ltb→lt, leb→le, lt→ltb}
use mir.Facts.{and_yes, yes_and, or_yes}
use Rattle.std.proofs.lemmas.List.{take-map, length_push}
use Rattle.std.proofs.lemmas.Bool.{false≢true}
use Rattle.value.specs.declared.refusal.Refusal.{Refusal}
use Rattle.value.specs.Refusal.{beyond_length, frame_gone, misaligned, no_allocation, not_given_out}
use Rattle.value.specs.Answer.{Answer, ok, refused, need}
use Rattle.memory.specs.Memory.{Memory, Back, Frame, Pointer, constant, local, divides, fresh, no_frame, frame_at, pointer_at, stands, bytes_at, access, overwrite, with_frames, with_allocations, with_pointer, allocated, pushed, popped, write_at, write_bytes, read_at, read_bytes, no_back}
use Rattle.machine.specs.History.{allocation, call, Made, Target, of_constant, of_place, History, beginning, made_in, nothing, made_at, target_of, last_stored, stored_in, stored_at, among, first, bytes_from, told_at, told, with_made, with_given, less_top, next, Open}

-- ---- answers

pub refused≢ok : {A : Type 0} {n : Refusal} {x : A} → refused n ≡ ok x → ⊥
refused≢ok e = false≢true cc

pub need-ok : {A : Type 0} (b : Bool) (n : Refusal) (a : Answer A) {x : A} → need b n a ≡ ok x → T b × (a ≡ ok x)
unfolding need
need-ok true n a e = (tt, e)
need-ok false n a e = absurd (refused≢ok e)

pub need_yes : {A : Type 0} (b : Bool) (n : Refusal) (a : Answer A) → T b → need b n a ≡ a
unfolding need
need_yes true n a t = refl
need_yes false n a t = absurd t

-- two chains whose tests agree, and whose rests agree where the test holds
pub need_then : {A : Type 0} (c : Bool) (n : Refusal) (a d : Answer A) → (T c → a ≡ d) → need c n a ≡ need c n d
unfolding need
need_then true n a d f = f tt
need_then false n a d f = refl

pub need-same : {A : Type 0} (b c : Bool) (n : Refusal) (a d : Answer A) → b ≡ c → (T c → a ≡ d) → need b n a ≡ need c n d
need-same b c n a d e f = rw e (need_then c n a d f)

pub bool_iff : (a b : Bool) → (T a → T b) → (T b → T a) → a ≡ b
bool_iff true true f g = refl
bool_iff true false f g = absurd (f tt)
bool_iff false true f g = absurd (g tt)
bool_iff false false f g = refl

-- ---- lists

-- what holds of each of l and of x holds of each of `l ++ (x ∷ [])`
pub each_snoc : {A : Type 0} (P : A → Type 0) (l : List A) (x d : A) → ((i : ℕ) → i < length l → P (get_or l i d)) → P x
    → (i : ℕ) → i < length (l ++ (x ∷ [])) → P (get_or (l ++ (x ∷ [])) i d)
each_snoc P [] x d f px zero h = px
each_snoc P [] x d f px (suc i) h = absurd (not-suc-le-zero (le_of_suc-le-suc h))
each_snoc P (y ∷ l) x d f px zero h = f zero (omega arith)
each_snoc P (y ∷ l) x d f px (suc i) h = each_snoc P l x d (λ k kh. f (suc k) (omega arith)) px i (le_of_suc-le-suc h)

pub among-at : (f : ℕ) (l : List ℕ) (i : ℕ) → i < length l → get_or l i 0 ≡ f → T (among f l)
unfolding among
among-at f [] i h e = absurd (not-suc-le-zero h)
among-at f (x ∷ l) zero h e = rw e (go (eqb f f) (eqb_refl f))
  where
    go : (b : Bool) → T b → T (b || among f l)
    go true t = tt
    go false t = absurd t
among-at f (x ∷ l) (suc i) h e = go (eqb f x) (among-at f l i (le_of_suc-le-suc h) e)
  where
    go : (b : Bool) → T (among f l) → T (b || among f l)
    go true t = tt
    go false t = t

pub at-among : (f : ℕ) (l : List ℕ) → T (among f l) → (i : ℕ) × (i < length l) × (get_or l i 0 ≡ f)
unfolding among
at-among f [] t = absurd t
at-among f (x ∷ l) t = elim (or_yes (eqb f x) (among f l) t) [ inl e ↦ (zero, omega arith, sym (eqb→eq f x e)) | inr r ↦ (let k = at-among f l r in (suc k.0, omega (arith, k.1), k.2)) ]

-- ---- how a memory and a history agree

abbrev pub ids : List Frame → List ℕ
ids fs = map (λ (f : Frame). f.id) fs

abbrev pub forget : Pointer → Target
forget (constant k) = of_constant k
forget (local i f j o) = of_place f j o

-- the bytes of an allocation
unfoldable pub contents : Made → List ℕ
unfolding first
contents a = first a.size a.byte

-- A local pointer's frame was begun and its allocation made in it; and if the frame has not returned, it is where the pointer says.
pub record Home (fs : List Frame) (ms : List (List Made)) (i f j : ℕ) : Type 0 where
  pub begun : f < length ms
  pub made : j < length (made_in ms f)
  pub there : T (among f (ids fs)) → (i < length fs) × ((frame_at fs i).id ≡ f)

abbrev pub Homed : List Frame → List (List Made) → Pointer → Type 0
Homed fs ms (constant k) = Unit {0}
Homed fs ms (local i f j o) = Home fs ms i f j

-- a local pointer's frame has stood at the pointer's index
abbrev pub Levelled : List ℕ → Pointer → Type 0
Levelled bs (constant k) = Unit {0}
Levelled bs (local i f j o) = (f < length bs) × (get_or bs f 0 ≡ i)

pub record Sim (m : Memory) (h : History) : Type 0 where
  pub root : 0 < length m.frames
  pub root_id : (frame_at m.frames 0).id ≡ 0
  pub counted : m.counter ≡ length h.made
  pub stack : h.standing ≡ ids m.frames
  pub pointers : h.given ≡ map forget m.pointers
  pub begun : (i : ℕ) → i < length m.frames → (frame_at m.frames i).id < length h.made
  pub rising : (i j : ℕ) → i < j → j < length m.frames → (frame_at m.frames i).id < (frame_at m.frames j).id
  pub holds : (i : ℕ) → i < length m.frames → (frame_at m.frames i).allocations ≡ map contents (made_in h.made (frame_at m.frames i).id)
  pub homes : (p : ℕ) → p < length m.pointers → Homed m.frames h.made (pointer_at m p)
  pub each_below : length h.below ≡ length h.made
  pub level : (i : ℕ) → i < length m.frames → get_or h.below (frame_at m.frames i).id 0 ≡ i
  pub levels : (p : ℕ) → p < length m.pointers → Levelled h.below (pointer_at m p)
  pub each_back : length h.backs ≡ length h.made
  pub back : (i : ℕ) → i < length m.frames → get_or h.backs (frame_at m.frames i).id no_back ≡ (frame_at m.frames i).back

-- ---- frames

pub id-at : (fs : List Frame) (i : ℕ) → get_or (ids fs) i 0 ≡ (frame_at fs i).id
id-at fs i = get_or-map (λ (f : Frame). f.id) fs i no_frame

-- another frame in one's place, with the same id
pub ids_kept : (fs : List Frame) (i : ℕ) (bss : List (List ℕ)) → ids (set fs i (with_allocations (frame_at fs i) bss)) ≡ ids fs
ids_kept fs i bss = map-set_same (λ (f : Frame). f.id) fs i (with_allocations (frame_at fs i) bss) no_frame refl

pub id-kept : (fs : List Frame) (i : ℕ) (bss : List (List ℕ)) (k : ℕ) → (frame_at (set fs i (with_allocations (frame_at fs i) bss)) k).id ≡ (frame_at fs k).id
id-kept fs i bss k =
    let changed = set fs i (with_allocations (frame_at fs i) bss) in
    sym (id-at changed k) ∙ ap (λ (l : List ℕ). get_or l k 0) (ids_kept fs i bss) ∙ id-at fs k

pub on_stack : (fs : List Frame) (i : ℕ) {f : ℕ} → i < length fs → (frame_at fs i).id ≡ f → T (among f (ids fs))
on_stack fs i {f} h e = among-at f (ids fs) i (rw length-map h) (id-at fs i ∙ e)

pub find : (fs : List Frame) (f : ℕ) → T (among f (ids fs)) → (i : ℕ) × (i < length fs) × ((frame_at fs i).id ≡ f)
find fs f t =
    let k = at-among f (ids fs) t in
    (k.0, rw length-map at k.1, sym (id-at fs k.0) ∙ k.2)

pub fresh_agrees : Sim fresh beginning
unfolding fresh beginning
fresh_agrees = record {
  root = omega arith;
  root_id = refl;
  counted = refl;
  stack = refl;
  pointers = refl;
  begun = begun;
  rising = λ i j l h. absurd (not-suc-le-zero (le_trans l (le_of_suc-le-suc h)));
  holds = holds;
  homes = λ p h. absurd (not-suc-le-zero h);
  each_below = refl;
  level = level;
  levels = λ p h. absurd (not-suc-le-zero h);
  each_back = refl;
  back = back;
}
  where
    begun : (i : ℕ) → i < 1 → (frame_at (no_frame ∷ []) i).id < 1
    begun zero h = omega arith
    begun (suc i) h = omega arith

    holds : (i : ℕ) → i < 1 → (frame_at (no_frame ∷ []) i).allocations ≡ map contents (made_in ([] ∷ []) (frame_at (no_frame ∷ []) i).id)
    holds zero h = refl
    holds (suc i) h = absurd (not-suc-le-zero (le_of_suc-le-suc h))

    level : (i : ℕ) → i < 1 → get_or (0 ∷ []) (frame_at (no_frame ∷ []) i).id 0 ≡ i
    level zero h = refl
    level (suc i) h = absurd (not-suc-le-zero (le_of_suc-le-suc h))

    back : (i : ℕ) → i < 1 → get_or (no_back ∷ []) (frame_at (no_frame ∷ []) i).id no_back ≡ (frame_at (no_frame ∷ []) i).back
    back zero h = refl
    back (suc i) h = absurd (not-suc-le-zero (le_of_suc-le-suc h))

-- ---- one more pointer

module _ {m : Memory} {h : History} (s : Sim m h) where
  pub give : (q : Pointer) → Homed m.frames h.made q → Levelled h.below q → Sim (with_pointer m q) (with_given h (forget q))
  give q home at_level = record {
    root = s.root;
    root_id = s.root_id;
    counted = s.counted;
    stack = s.stack;
    pointers = ap (λ (l : List Target). l ++ (forget q ∷ [])) s.pointers ∙ sym (map-append forget m.pointers (q ∷ []));
    begun = s.begun;
    rising = s.rising;
    holds = s.holds;
    homes = each_snoc (Homed m.frames h.made) m.pointers q (constant 0) s.homes home;
    each_below = s.each_below;
    level = s.level;
    levels = each_snoc (Levelled h.below) m.pointers q (constant 0) s.levels at_level;
    each_back = s.each_back;
    back = s.back;
  }

-- ---- other bytes in a frame that stands

pub length_set_at : (ms : List (List Made)) (f g : ℕ) (ns : List Made) → f < length ms → length (made_in ms f) ≤ length ns
    → length (made_in ms g) ≤ length (made_in (set ms f ns) g)
length_set_at ms f g ns h l = elim (ℕ_discrete g f) [ yes e ↦ rw (e, get_or-set_same) l | no n ↦ rw get_or-set_other (le_refl _) ]

module _ {m : Memory} {h : History} (s : Sim m h) (t : ℕ) (in_stack : t < length m.frames) (ns : List Made)
    (more : length (made_in h.made (frame_at m.frames t).id) ≤ length ns) where
  abbrev pub changed : List Frame
  changed = set m.frames t (with_allocations (frame_at m.frames t) (map contents ns))

  pub same_ids : ids changed ≡ ids m.frames
  same_ids = ids_kept m.frames t (map contents ns)

  pub same_id : (i : ℕ) → (frame_at changed i).id ≡ (frame_at m.frames i).id
  same_id i = id-kept m.frames t (map contents ns) i

  same_back : (i : ℕ) → (frame_at changed i).back ≡ (frame_at m.frames i).back
  same_back i =
      sym (get_or-map (λ (f : Frame). f.back) changed i no_frame)
      ∙ ap (λ (l : List Back). get_or l i no_back) (map-set_same (λ (f : Frame). f.back) m.frames t (with_allocations (frame_at m.frames t) (map contents ns)) no_frame refl)
      ∙ get_or-map (λ (f : Frame). f.back) m.frames i no_frame

  pub same_home : (q : Pointer) → Homed m.frames h.made q → Homed changed (set h.made (frame_at m.frames t).id ns) q
  same_home (constant k) home = tt
  same_home (local i f j o) home = record {
    begun = rw length-set home.begun;
    made = le_trans home.made (length_set_at h.made _ f ns (s.begun t in_stack) more);
    there = λ a. let b = home.there (rw same_ids at a) in (rw length-set b.0, same_id i ∙ b.1);
  }

  pub change : Sim (with_frames m changed) (with_made h (set h.made (frame_at m.frames t).id ns))
  change = record {
    root = rw length-set s.root;
    root_id = same_id 0 ∙ s.root_id;
    counted = s.counted ∙ sym (length-set h.made _ ns);
    stack = s.stack ∙ sym same_ids;
    pointers = s.pointers;
    begun = λ i l. rw (same_id i, length-set) (s.begun i (rw length-set at l));
    rising = λ i j l k. rw (same_id i, same_id j) (s.rising i j l (rw length-set at k));
    holds = holds;
    homes = λ p l. same_home (pointer_at m p) (s.homes p l);
    each_below = s.each_below ∙ sym (length-set h.made _ ns);
    level = λ i l. rw (same_id i) (s.level i (rw length-set at l));
    levels = s.levels;
    each_back = s.each_back ∙ sym (length-set h.made _ ns);
    back = λ i l. rw (same_id i, same_back i) (s.back i (rw length-set at l));
  }
    where
      differ : (i : ℕ) → i < length m.frames → i ≢ t → (frame_at m.frames i).id ≢ (frame_at m.frames t).id
      differ i l n e = elim (dec_lt i t) [ yes a ↦ omega (arith, s.rising i t a in_stack) | no b ↦ omega (arith, s.rising t i (omega arith) l) ]

      holds : (i : ℕ) → i < length changed → (frame_at changed i).allocations ≡ map contents (made_in (set h.made (frame_at m.frames t).id ns) (frame_at changed i).id)
      holds i l =
          let k : i < length m.frames = rw length-set at l in
          elim (ℕ_discrete i t) [
            | yes e ↦ rw (e, get_or-set_same m.frames t _ no_frame in_stack, get_or-set_same h.made _ ns [] (s.begun t in_stack))
            | no n ↦ rw (get_or-set_other m.frames t i _ no_frame n, get_or-set_other h.made _ _ ns [] (differ i k n)) (s.holds i k)
          ]

-- ---- a frame begins, a frame ends

module _ {m : Memory} {h : History} (s : Sim m h) where
  pub push : (b : Back) → Sim (pushed m b) (next (call b) h)
  unfolding next
  push b = record {
    root = rw length_push (omega arith);
    root_id = rw (get_or-append m.frames (new ∷ []) no_frame 0 s.root) s.root_id;
    counted = ap (λ (k : ℕ). k + 1) s.counted ∙ sym (length_push h.made []);
    stack = ap₂ (λ (l : List ℕ) (k : ℕ). l ++ (k ∷ [])) s.stack (sym s.counted) ∙ sym (map-append (λ (f : Frame). f.id) m.frames (new ∷ []));
    pointers = s.pointers;
    begun = each_snoc (λ (f : Frame). f.id < length (h.made ++ ([] ∷ []))) m.frames new no_frame (λ i l. rw length_push (omega (arith, s.begun i l))) (rw length_push (omega (arith, s.counted)));
    rising = rising;
    holds = each_snoc (λ (f : Frame). f.allocations ≡ map contents (made_in (h.made ++ ([] ∷ [])) f.id)) m.frames new no_frame
        (λ i l. rw (get_or-append h.made ([] ∷ []) [] _ (s.begun i l)) (s.holds i l))
        (rw (s.counted, get_or-append_seam h.made [] [] []));
    homes = λ p l. home (pointer_at m p) (s.homes p l);
    each_below = length_push h.below (length h.standing) ∙ ap (λ (k : ℕ). k + 1) s.each_below ∙ sym (length_push h.made []);
    level = level;
    levels = λ p l. levelled (pointer_at m p) (s.levels p l);
    each_back = length_push h.backs b ∙ ap (λ (k : ℕ). k + 1) s.each_back ∙ sym (length_push h.made []);
    back = each_snoc (λ (f : Frame). get_or (h.backs ++ (b ∷ [])) f.id no_back ≡ f.back) m.frames new no_frame
        (λ i l. get_or-append h.backs (b ∷ []) no_back _ (rw s.each_back (s.begun i l)) ∙ s.back i l)
        (rw (s.counted, ← s.each_back) (get_or-append_seam h.backs b [] no_back));
  }
    where
      new : Frame
      new = record { id = m.counter; back = b; allocations = [] }

      rising : (i j : ℕ) → i < j → j < length (m.frames ++ (new ∷ [])) → (frame_at (m.frames ++ (new ∷ [])) i).id < (frame_at (m.frames ++ (new ∷ [])) j).id
      rising i j l k =
          let k' : j < length m.frames + 1 = rw length_push at k in
          let i_in : i < length m.frames = omega arith in
          elim (dec_lt j (length m.frames)) [
            | yes j-in ↦ rw (get_or-append m.frames (new ∷ []) no_frame i i_in, get_or-append m.frames (new ∷ []) no_frame j j-in) (s.rising i j l j-in)
            | no n ↦ (let e : j ≡ length m.frames = omega arith in
                rw (e, get_or-append_seam m.frames new [] no_frame, get_or-append m.frames (new ∷ []) no_frame i i_in) (omega (arith, s.begun i i_in, s.counted)))
          ]

      home : (q : Pointer) → Homed m.frames h.made q → Homed (m.frames ++ (new ∷ [])) (h.made ++ ([] ∷ [])) q
      home (constant k) a = tt
      home (local i f j o) a = record {
        begun = rw length_push (omega (arith, a.begun));
        made = rw (get_or-append h.made ([] ∷ []) [] f a.begun) a.made;
        there = λ t.
            let x = find (m.frames ++ (new ∷ [])) f t in
            let b = a.there (each_snoc (λ (fr : Frame). fr.id ≡ f → T (among f (ids m.frames))) m.frames new no_frame
            (λ k l e. on_stack m.frames k l e) (λ e. absurd (omega (arith, a.begun, s.counted))) x.0 x.1 x.2) in
            (rw length_push (omega (arith, b.0)), rw (get_or-append m.frames (new ∷ []) no_frame i b.0) b.1);
      }

      level : (i : ℕ) → i < length (m.frames ++ (new ∷ [])) → get_or (h.below ++ (length h.standing ∷ [])) (frame_at (m.frames ++ (new ∷ [])) i).id 0 ≡ i
      level i l =
          let l' : i < length m.frames + 1 = rw length_push at l in
          elim (dec_lt i (length m.frames)) [
            | yes i_in ↦ rw (get_or-append m.frames (new ∷ []) no_frame i i_in)
                (get_or-append h.below (length h.standing ∷ []) 0 _ (rw s.each_below (s.begun i i_in)) ∙ s.level i i_in)
            | no n ↦ (let e : i ≡ length m.frames = omega arith in
                rw (e, get_or-append_seam m.frames new [] no_frame, s.counted, ← s.each_below)
                (get_or-append_seam h.below (length h.standing) [] 0 ∙ ap length s.stack ∙ length-map m.frames (λ (f : Frame). f.id)))
          ]

      levelled : (q : Pointer) → Levelled h.below q → Levelled (h.below ++ (length h.standing ∷ [])) q
      levelled (constant k) a = tt
      levelled (local i f j o) a = (rw length_push (omega (arith, a.0)), get_or-append h.below (length h.standing ∷ []) 0 f a.0 ∙ a.1)

  pub pop : 1 < length m.frames → Sim (popped m) (less_top h)
  pop deep = record {
    root = rw len (omega arith);
    root_id = rw (get_or-take (length m.frames - 1) m.frames 0 no_frame (omega arith)) s.root_id;
    counted = s.counted;
    stack = ap (λ (l : List ℕ). take (length l - 1) l) s.stack ∙ rw (length-map m.frames (λ (f : Frame). f.id)) (take-map (λ (f : Frame). f.id) (length m.frames - 1) m.frames);
    pointers = s.pointers;
    begun = λ i l. rw (get_or-take _ m.frames i no_frame (below i l)) (s.begun i (inside i l));
    rising = λ i j l k. rw (get_or-take _ m.frames i no_frame (le_trans l (le_trans (omega arith) (below j k))), get_or-take _ m.frames j no_frame (below j k)) (s.rising i j l (inside j k));
    holds = λ i l. rw (get_or-take _ m.frames i no_frame (below i l)) (s.holds i (inside i l));
    homes = λ p l. home (pointer_at m p) (s.homes p l);
    each_below = s.each_below;
    level = λ i l. rw (get_or-take _ m.frames i no_frame (below i l)) (s.level i (inside i l));
    levels = s.levels;
    each_back = s.each_back;
    back = λ i l. rw (get_or-take _ m.frames i no_frame (below i l)) (s.back i (inside i l));
  }
    where
      len : length (take (length m.frames - 1) m.frames) ≡ length m.frames - 1
      len = length-take-le (length m.frames - 1) m.frames (omega arith)

      below : (i : ℕ) → i < length (take (length m.frames - 1) m.frames) → i < length m.frames - 1
      below i l = rw len at l

      inside : (i : ℕ) → i < length (take (length m.frames - 1) m.frames) → i < length m.frames
      inside i l = omega (arith, below i l)

      home : (q : Pointer) → Homed m.frames h.made q → Homed (take (length m.frames - 1) m.frames) h.made q
      home (constant k) a = tt
      home (local i f j o) a = record {
        begun = a.begun;
        made = a.made;
        there = λ t.
            let x = find (take (length m.frames - 1) m.frames) f t in
            let x_id : (frame_at m.frames x.0).id ≡ f = rw (get_or-take _ m.frames x.0 no_frame (below x.0 x.1)) at x.2 in
            let b = a.there (on_stack m.frames x.0 (inside x.0 x.1) x_id) in
            let i_below : i < length m.frames - 1 = (elim (dec_lt i (length m.frames - 1))
            [ yes y ↦ y | no n ↦ absurd (omega (arith, n, b.0, b.1, x_id, below x.0 x.1, s.rising x.0 i (omega (arith, below x.0 x.1)) b.0)) ]) in
            (rw len i_below, rw (get_or-take _ m.frames i no_frame i_below) b.1);
      }

-- ---- bytes

pub length-first : (n : ℕ) (f : ℕ → ℕ) → length (first n f) ≡ n
unfolding first
length-first zero f = refl
length-first (suc n) f = ap suc (length-first n (λ i. f (suc i)))

pub get_d_first : (n : ℕ) (f : ℕ → ℕ) (i d : ℕ) → i < n → get_or (first n f) i d ≡ f i
unfolding first
get_d_first zero f i d h = absurd (not-suc-le-zero h)
get_d_first (suc n) f zero d h = refl
get_d_first (suc n) f (suc i) d h = get_d_first n (λ k. f (suc k)) i d (le_of_suc-le-suc h)

pub length_contents : (a : Made) → length (contents a) ≡ a.size
unfolding contents
length_contents a = length-first a.size a.byte

pub get_d_contents : (a : Made) (i : ℕ) → i < a.size → get_or (contents a) i 0 ≡ a.byte i
unfolding contents
get_d_contents a i h = get_d_first a.size a.byte i 0 h

pub zeros : (n : ℕ) → replicate n 0 ≡ contents (record { size = n; byte = λ i. 0 })
unfolding contents first
zeros zero = refl
zeros (suc n) = ap {B = List ℕ} (λ r. 0 ∷ r) (zeros n)

pub read-bytes : (a : Made) (o n : ℕ) → o + n ≤ a.size → take n (drop o (contents a)) ≡ bytes_from a o n
unfolding bytes_from
read-bytes a o n h =
    let len : length (take n (drop o (contents a))) ≡ n = length-take-le n _ (rw (length-drop, length_contents) (omega arith)) in
    ext_get_or 0 _ _ (len ∙ sym (length-first n _))
    (λ i l. let k : i < n = rw len at l in
    get_or-take n _ i 0 k ∙ get_or-drop o _ i 0 ∙ get_d_contents a (o + i) (omega arith) ∙ sym (get_d_first n _ i 0 k))

-- the byte last stored: one of `bs` within them, and else the one before
pub last_in : (byte : ℕ → ℕ) (o : ℕ) (bs : List ℕ) (i : ℕ) → o ≤ i → i < o + length bs → last_stored byte o bs i ≡ get_or bs (i - o) 0
unfolding last_stored
last_in byte o bs i l r = rw (le-leb o i l, lt-ltb i (o + length bs) r)

pub last_before : (byte : ℕ → ℕ) (o : ℕ) (bs : List ℕ) (i : ℕ) → i < o → last_stored byte o bs i ≡ byte i
unfolding last_stored
last_before byte o bs i l = rw (lt-leb o i l)

pub last-after : (byte : ℕ → ℕ) (o : ℕ) (bs : List ℕ) (i : ℕ) → o + length bs ≤ i → last_stored byte o bs i ≡ byte i
unfolding last_stored
last-after byte o bs i l = rw (le-leb o i (omega arith), le-ltb i (o + length bs) l)

pub write_bytes_lem : (a : Made) (o : ℕ) (bs : List ℕ) → o + length bs ≤ a.size → overwrite (contents a) o bs ≡ contents (stored_in a o bs)
write_bytes_lem a o bs h =
    ext_get_or 0 _ _ (len ∙ sym (length_contents (stored_in a o bs)))
    (λ i l. let k : i < a.size = rw len at l in each i k ∙ sym (get_d_contents (stored_in a o bs) i k))
  where
    rest : List ℕ
    rest = bs ++ drop (o + length bs) (contents a)

    front : length (take o (contents a)) ≡ o
    front = length-take-le o (contents a) (rw length_contents (omega arith))

    len : length (overwrite (contents a) o bs) ≡ a.size
    len = simp (length-append, front, length-drop, length_contents) (omega arith)

    late : (i : ℕ) → o ≤ i → get_or (take o (contents a) ++ rest) i 0 ≡ get_or rest (i - o) 0
    late i l =
        let e : i ≡ length (take o (contents a)) + (i - o) = rw front (omega arith) in
        ap (λ (x : ℕ). get_or (take o (contents a) ++ rest) x 0) e ∙ get_or-append-add (take o (contents a)) rest (i - o) 0

    far : (i : ℕ) → o + length bs ≤ i → i < a.size → get_or rest (i - o) 0 ≡ a.byte i
    far i l k =
        let e : i - o ≡ length bs + (i - o - length bs) = omega arith in
        ap (λ (x : ℕ). get_or rest x 0) e ∙ get_or-append-add bs _ (i - o - length bs) 0 ∙ get_or-drop (o + length bs) (contents a) _ 0
        ∙ ap (λ (x : ℕ). get_or (contents a) x 0) (omega arith) ∙ get_d_contents a i k

    each : (i : ℕ) → i < a.size → get_or (overwrite (contents a) o bs) i 0 ≡ last_stored a.byte o bs i
    each i k = elim (dec_le o i) [
      | yes l ↦ elim (dec_lt i (o + length bs)) [
        | yes r ↦ late i l ∙ get_or-append bs _ 0 (i - o) (omega arith) ∙ sym (last_in a.byte o bs i l r)
        | no r ↦ late i l ∙ far i (omega arith) k ∙ sym (last-after a.byte o bs i (omega arith))
      ]
      | no l ↦ get_or-append (take o (contents a)) rest 0 i (rw front (omega arith)) ∙ get_or-take o (contents a) i 0 (omega arith) ∙ get_d_contents a i k ∙ sym (last_before a.byte o bs i (omega arith))
    ]

-- ---- reads

pub ok_inj : {A : Type 0} {x y : A} → ok x ≡ ok y → x ≡ y
ok_inj e = cc

module _ {m : Memory} {h : History} (s : Sim m h) where
  pub stands-among : (i f j : ℕ) → Home m.frames h.made i f j → stands m.frames i f ≡ among f h.standing
  stands-among i f j home = rw s.stack
      (bool_iff (stands m.frames i f) (among f (ids m.frames))
      (λ a. let b = and_yes (ltb i (length m.frames)) (eqb (frame_at m.frames i).id f) a in on_stack m.frames i (ltb→lt _ _ b.0) (eqb→eq _ _ b.1))
      (λ t. let b = home.there t in yes_and (ltb i (length m.frames)) (eqb (frame_at m.frames i).id f) (lt→ltb _ _ b.0) (rw b.1 (eqb_refl f))))

  pub allocations-at : (i f j : ℕ) → Home m.frames h.made i f j → Open h f → (frame_at m.frames i).allocations ≡ map contents (made_in h.made f)
  allocations-at i f j home t =
      let b = home.there (rw s.stack at t) in
      s.holds i b.0 ∙ ap (λ (x : ℕ). map contents (made_in h.made x)) b.1

  pub bytes-at : (i f j : ℕ) → Home m.frames h.made i f j → Open h f → bytes_at m.frames i j ≡ contents (made_at h.made f j)
  unfolding contents first
  bytes-at i f j home t = ap (λ (l : List (List ℕ)). get_or l j []) (allocations-at i f j home t) ∙ get_or-map contents (made_in h.made f) j nothing

  pub access_agrees : {A : Type 0} (i f j o n : ℕ) (a d : Answer A) → Home m.frames h.made i f j
      → (Open h f → o + n ≤ (made_at h.made f j).size → a ≡ d)
      → access m.frames i f j o n a ≡ need (among f h.standing) frame_gone (need (leb (o + n) (made_at h.made f j).size) beyond_length (need (divides n o) misaligned d))
  unfolding access
  access_agrees i f j o n a d home same =
      need-same _ _ frame_gone _ _ (stands-among i f j home) (λ t.
      need_yes (ltb j (length (frame_at m.frames i).allocations)) no_allocation _ (lt→ltb j _ (rw (allocations-at i f j home t, length-map) home.made))
      ∙ need-same _ _ beyond_length _ _ (ap (leb (o + n)) (ap length (bytes-at i f j home t) ∙ length_contents (made_at h.made f j))) (λ w.
      need_then (divides n o) misaligned _ _ (λ v. same t (leb→le (o + n) (made_at h.made f j).size w))))

  pub target_at : (p : ℕ) → target_of h p ≡ forget (pointer_at m p)
  target_at p = ap (λ (l : List Target). get_or l p (of_constant 0)) s.pointers ∙ get_or-map forget m.pointers p (constant 0)

  pub same_length : length h.given ≡ length m.pointers
  same_length = ap length s.pointers ∙ length-map m.pointers forget

  pub read_at_lem : (constants : List (List ℕ)) (q : Pointer) (n : ℕ) → Homed m.frames h.made q
      → read_at constants m.frames q n ≡ told_at constants h (forget q) n
  unfolding read_at told_at
  read_at_lem constants (constant k) n home = refl
  read_at_lem constants (local i f j o) n home =
      access_agrees i f j o n _ _ home (λ t w. ap ok (ap (λ (l : List ℕ). take n (drop o l)) (bytes-at i f j home t) ∙ read-bytes _ o n w))

  pub read_agrees : (constants : List (List ℕ)) (p n : ℕ) → read_bytes constants m p n ≡ told constants h p n
  unfolding read_bytes told
  read_agrees constants p n =
      need-same _ _ not_given_out _ _ (ap (ltb p) (sym same_length)) (λ t.
      rw target_at (read_at_lem constants (pointer_at m p) n (s.homes p (rw same_length at (ltb→lt p (length h.given) t)))))

-- ---- the events

module _ {m : Memory} {h : History} (s : Sim m h) where
  pub allocate_agrees : (n : ℕ) → Sim (allocated m n) (next (allocation n) h)
  unfolding next
  allocate_agrees n =
      let t : ℕ = length m.frames - 1 in
      let f : Frame = frame_at m.frames t in
      let new : Made = record { size = n; byte = λ i. 0 } in
      let old : List Made = made_in h.made f.id in
      let in_stack : t < length m.frames = omega (arith, s.root) in
      let more : length old ≤ length (old ++ (new ∷ [])) = rw length_push (omega arith) in
      let bytes : map contents (old ++ (new ∷ [])) ≡ f.allocations ++ (replicate n 0 ∷ []) =
      map-append contents old (new ∷ []) ∙ ap₂ (λ (l : List (List ℕ)) (c : List ℕ). l ++ (c ∷ [])) (sym (s.holds t in_stack)) (sym (zeros n)) in
      let count : length old ≡ length f.allocations = sym (ap length (s.holds t in_stack) ∙ length-map old contents) in
      let name : f.id ≡ get_or h.standing (length h.standing - 1) 0 =
      sym (ap (λ (l : List ℕ). get_or l (length l - 1) 0) s.stack ∙ ap (λ (x : ℕ). get_or (ids m.frames) (x - 1) 0) (length-map m.frames (λ (g : Frame). g.id)) ∙ id-at m.frames t) in
      let home : Home (changed s t in_stack (old ++ (new ∷ [])) more) (set h.made f.id (old ++ (new ∷ []))) t f.id (length old) = record {
        begun = rw length-set (s.begun t in_stack);
        made = rw (get_or-set_same h.made f.id (old ++ (new ∷ [])) [] (s.begun t in_stack), length_push) (omega arith);
        there = λ a. (rw length-set in_stack, same_id s t in_stack (old ++ (new ∷ [])) more t);
      } in
      subst (λ (x : ℕ). Sim (allocated m n) (with_given (with_made h (set h.made x (made_in h.made x ++ (new ∷ [])))) (of_place x (length (made_in h.made x)) 0))) name
      (subst₂ (λ (bss : List (List ℕ)) (k : ℕ). Sim (with_pointer (with_frames m (set m.frames t (with_allocations f bss))) (local t f.id k 0)) (with_given (with_made h (set h.made f.id (old ++ (new ∷ [])))) (of_place f.id (length old) 0)))
      bytes count (give (change s t in_stack (old ++ (new ∷ [])) more) (local t f.id (length old) 0) home (rw s.each_below (s.begun t in_stack), s.level t in_stack)))

module _ {m : Memory} {h : History} (s : Sim m h) {m' : Memory} where
  pub write-at : (q : Pointer) (bs : List ℕ) → Homed m.frames h.made q → write_at m q bs ≡ ok m' → Sim m' (with_made h (stored_at h.made (forget q) bs))
  unfolding write_at access stored_at
  write-at (constant k) bs home e = absurd (refused≢ok e)
  write-at (local i f j o) bs home e =
      let e₁ = need-ok (stands m.frames i f) frame_gone _ e in
      let e₂ = need-ok (ltb j (length (frame_at m.frames i).allocations)) no_allocation _ e₁.1 in
      let e₃ = need-ok (leb (o + length bs) (length (bytes_at m.frames i j))) beyond_length _ e₂.1 in
      let e₄ = need-ok (divides (length bs) o) misaligned _ e₃.1 in
      let t : Open h f = subst T (stands-among s i f j home) e₁.0 in
      let there = home.there (rw s.stack at t) in
      let a : Made = made_at h.made f j in
      let ns : List Made = set (made_in h.made f) j (stored_in a o bs) in
      let w : o + length bs ≤ a.size = rw (bytes-at s i f j home t, length_contents) at (leb→le (o + length bs) (length (bytes_at m.frames i j)) e₃.0) in
      let new : map contents ns ≡ set (frame_at m.frames i).allocations j (overwrite (bytes_at m.frames i j) o bs) =
      map-set contents (made_in h.made f) j (stored_in a o bs)
      ∙ ap₂ (λ (l : List (List ℕ)) (c : List ℕ). set l j c) (sym (allocations-at s i f j home t))
      (sym (write_bytes_lem a o bs w) ∙ ap (λ (c : List ℕ). overwrite c o bs) (sym (bytes-at s i f j home t))) in
      let more : length (made_in h.made (frame_at m.frames i).id) ≤ length ns = rw (there.1, length-set) (le_refl _) in
      subst (λ (x : Memory). Sim x (with_made h (set h.made f ns))) (ok_inj e₄.1)
      (subst₂ (λ (bss : List (List ℕ)) (x : ℕ). Sim (with_frames m (set m.frames i (with_allocations (frame_at m.frames i) bss))) (with_made h (set h.made x ns)))
      new there.1 (change s i there.0 ns more))

  pub write_agrees : (p : ℕ) (bs : List ℕ) → write_bytes m p bs ≡ ok m' → Sim m' (with_made h (stored_at h.made (target_of h p) bs))
  unfolding write_bytes
  write_agrees p bs e =
      let e₁ = need-ok (ltb p (length m.pointers)) not_given_out _ e in
      rw (target_at s) (write-at (pointer_at m p) bs (s.homes p (ltb→lt p (length m.pointers) e₁.0)) e₁.1)
