-- Demand 3. After any accepted asks the memory and the history are alike (`Sim`), so what is replied is what the history tells; each theorem then
-- reads off what `told` is, check by check.
use Prim.Native.Nat.{ℕ, zero, suc, ◌+◌, ◌%◌, ◌<◌, ◌∣◌}
use native.Mathlib.Nat.{dvd_iff_mod-eq-zero}
use native.Mathlib.Decide.{ℕ_discrete}
use native.Mathlib.Omega.{arith}
use mathlib.Core.Bool.{Bool, true, false, not, ◌&&◌}
use mathlib.Core.Logic.{◌≢◌, ◌⊎◌, inl, inr}
use mathlib.Core.Path.{◌≡◌, refl, sym, ap, ap₂, ◌∙◌, subst, subst₂}
use mathlib.Core.List.{List, [], ◌∷◌, ◌++◌, map}
use mathlib.Core.Option.{some}
use lib.ListN.{length, get_or, take, set, length-map}
use lib.Seq.{get_or-set_same, get_or-set_other}
use lib.Dec.{T, ltb, leb, eqb, eqb_refl, eqb→eq, ltb→lt, leb→le, lt→ltb, le→leb, T_not}
use mir.Facts.{not_T, ltb_no, leb_no, ltb_absurd, no_leb}
use Rattle.std.proofs.lemmas.Bool.{false≢true}
use Rattle.value.specs.declared.refusal.Refusal.{Refusal}
use Rattle.value.specs.Refusal.{not_given_out, frame_gone, beyond_length, misaligned, not_bool, no_constant, short_table, idle, number_of}
use Rattle.value.specs.Answer.{Answer, ok, refused, need, found, ◌>>=◌}
use Rattle.value.specs.Value.{Value, value, IrType, kind_of, size, same, bool, le_number, from_bytes}
use Rattle.value.proofs.Truth.{is_true}
use Rattle.image.specs.Program.{Program}
use Rattle.memory.specs.Memory.{Memory, Frame, Pointer, constant, sum, local, divides, stands, frame_at, bytes_at, pointer_at, access, read_at, read_bytes, write_at, write_bytes, read_constant}
use Rattle.memory.specs.Live.{Live}
use Rattle.machine.specs.Machine.{Machine, Stepped, fresh, host_read, host_list, onward, sets, execute, step, step_once}
use Rattle.machine.specs.Believed.{believed}
use Rattle.machine.specs.Accepted.{accepted_ask}
use Rattle.machine.specs.Asks.{Ask, to_read, to_step, to_list, Reply, done, bytes, refusal, Turn, shows, steps, lays, ask}
use Rattle.machine.specs.History.{History, Made, Target, of_constant, of_place, made_in, nothing, made_at, stored_in, stored_at, target_of, among, bytes_from, told, told_at, with_made, StandsFor, Open, Ended}
use Rattle.machine.specs.Flat.{sizes_in, index_of, place_of, Before}
use Rattle.machine.specs.Demand.{Accepted, state_after, tells, reply, RepliesAreTold, AlwaysSound, Right, of-constant, of-place, GrantedExactlyWhenRight, BytesAreLastStored, BytesOfConstants, Why, never_given, ended, too_long, uneven, not-here, past-constant, RefusedWithItsNumber, GoneExactlyWhenEnded, Alive, ExtentsApart, WritesStayApart, ListingIsTold, AtRead, AtCopy, stepped, StepsGrantedExactlyWhenRight, StepsReadLastStored, CopiesRefused, CopiesLastStored, RefusedEverAfter}
use Rattle.machine.proofs.Agree.{Sim, ids, contents, Home, Homed, forget, find, need_yes, length_contents, length-first, get_d_first, read_agrees, bytes-at, target_at, same_length, stands-among, write_agrees}
use Rattle.machine.proofs.Apart.{start_at, Lives, Ahead, apart}
use Rattle.machine.proofs.Flat.{start-at}
use Rattle.machine.proofs.Flat as Flat
use Rattle.machine.proofs.Lift.{replies_alike, fresh_alike, following_alike, memories_alike}
use Rattle.machine.proofs.Recalled.{likened, list_agrees}
use Rattle.machine.proofs.SoundMemory.{Later}
use Rattle.machine.proofs.Sound.{fresh-sound, entered, onwards-sound, onwards-following, onwards-append, answers-replies, all_append}

-- ---- after any asks

pub replies_are_told : RepliesAreTold
replies_are_told as' t = answers-replies as' (fresh believed) t fresh-sound ∙ replies_alike likened as' (fresh_alike likened)

pub always_sound : AlwaysSound
always_sound as' t = (onwards-sound as' (fresh believed) t fresh-sound).0

pub agrees : (as' : List Ask) → Accepted as' → Sim (state_after as').memory (tells as')
agrees as' t =
    rw (onwards-following as' (fresh believed) t fresh-sound)
    (memories_alike likened (following_alike likened as' (fresh_alike likened)))

as_reply : Answer (List ℕ) → Reply
as_reply (ok bs) = bytes bs
as_reply (refused n) = refusal n

shown : (s : Machine Memory) (a : Answer (List ℕ)) → (shows s a).reply ≡ as_reply a
unfolding shows as_reply
shown s (ok bs) = refl
shown s (refused n) = refl

-- a host read is answered what the history tells
reply-told : (as' : List Ask) → Accepted as' → (P : Program) (p n : ℕ) → reply as' P p n ≡ as_reply (told P.constants (tells as') p n)
unfolding ask host_read
reply-told as' t P p n =
    ap (λ (x : Turn Memory). x.reply) (entered (to_read P p n) (state_after as') (always_sound as' t))
    ∙ ap (λ (a : Answer (List ℕ)). (shows (state_after as') a).reply) (read_agrees (agrees as' t) P.constants p n)
    ∙ shown (state_after as') (told P.constants (tells as') p n)

told-ok : (a : Answer (List ℕ)) (bs : List ℕ) → as_reply a ≡ bytes bs → a ≡ ok bs
unfolding as_reply
told-ok (ok cs) bs e = cc
told-ok (refused n) bs e = absurd (false≢true cc)

told_no : (a : Answer (List ℕ)) (k : Refusal) → as_reply a ≡ refusal k → a ≡ refused k
unfolding as_reply
told_no (ok cs) k e = absurd (false≢true cc)
told_no (refused n) k e = cc

-- ---- tests that fail

need_no : {A : Type 0} (b : Bool) (n : Refusal) (a : Answer A) → (T b → ⊥) → need b n a ≡ refused n
unfolding need
need_no true n a f = absurd (f tt)
need_no false n a f = refl

need-cases : {A : Type 0} (Q : Answer A → Type 0) (b : Bool) (n : Refusal) (a : Answer A) → (T b → Q a) → ((T b → ⊥) → Q (refused n)) → Q (need b n a)
unfolding need
need-cases Q true n a f g = f tt
need-cases Q false n a f g = g (λ t. t)

divides_dvd : (n o : ℕ) → T (divides n o) → n ∣ o
divides_dvd n o t = (dvd_iff_mod-eq-zero n).1 (eqb→eq (o % n) 0 t)

dvd_divides : (n o : ℕ) → n ∣ o → T (divides n o)
dvd_divides n o d = rw ((dvd_iff_mod-eq-zero n).0 d) tt

-- ---- what the history tells, check by check

module _ (h : History) (P : Program) (p n : ℕ) where
  -- the bytes of a target
  unfoldable pub bytes_of : Target → List ℕ
  bytes_of (of_constant k) = take n (get_or P.constants k [])
  bytes_of (of_place f j o) = bytes_from (made_at h.made f j) o n

  data Tells : Answer (List ℕ) → Type 0 where
    grants : {bs : List ℕ} → Right h P p n → bs ≡ bytes_of (target_of h p) → Tells (ok bs)
    refuses : {k : Refusal} → Why h P p n k → Tells (refused k)

  tells_at : p < length h.given → (t : Target) → target_of h p ≡ t → Tells (told_at P.constants h t n)
  unfolding told_at read_constant bytes_of
  tells_at g (of_constant k) e =
      need-cases Tells (ltb k (length P.constants)) no_constant _
      (λ a. need-cases Tells (leb n (length (get_or P.constants k []))) beyond_length _
      (λ b. grants (of-constant (g, e) (ltb→lt k _ a) (leb→le n _ b)) (rw e))
      (λ b. refuses (past-constant (g, e) (ltb→lt k _ a) (leb_no (not_T _ b)))))
      (λ a. refuses (not-here (g, e) (ltb_no (not_T _ a))))
  tells_at g (of_place f j o) e =
      need-cases Tells (among f h.standing) frame_gone _
      (λ a. need-cases Tells (leb (o + n) (made_at h.made f j).size) beyond_length _
      (λ b. need-cases Tells (divides n o) misaligned _
      (λ c. grants (of-place (g, e) a (leb→le (o + n) _ b) (divides_dvd n o c)) (rw e))
      (λ c. refuses (uneven (g, e) a (leb→le (o + n) _ b) (λ d. c (dvd_divides n o d)))))
      (λ b. refuses (too_long (g, e) a (leb_no (not_T _ b)))))
      (λ a. refuses (ended (g, e) a))

  tells_what : Tells (told P.constants h p n)
  unfolding told
  tells_what =
      need-cases Tells (ltb p (length h.given)) not_given_out _ (λ g. tells_at (ltb→lt p _ g) (target_of h p) refl)
      (λ g. refuses (never_given (ltb_no (not_T _ g))))

  told-target : {t : Target} → StandsFor h p t → told P.constants h p n ≡ told_at P.constants h t n
  unfolding told
  told-target s = need_yes (ltb p (length h.given)) not_given_out _ (lt→ltb p _ s.0) ∙ ap (λ (t : Target). told_at P.constants h t n) s.1

  right_told : Right h P p n → (bs : List ℕ) × (told P.constants h p n ≡ ok bs)
  unfolding told_at read_constant
  right_told (of-constant {k} s a b) = (
    take n (get_or P.constants k []),
    told-target s ∙ need_yes (ltb k (length P.constants)) no_constant _ (lt→ltb k _ a) ∙ need_yes (leb n (length (get_or P.constants k []))) beyond_length _ (le→leb n _ b),
  )
  right_told (of-place {f} {j} {o} s a b c) = (
    bytes_from (made_at h.made f j) o n,
    told-target s ∙ need_yes (among f h.standing) frame_gone _ a ∙ need_yes (leb (o + n) (made_at h.made f j).size) beyond_length _ (le→leb (o + n) _ b)
        ∙ need_yes (divides n o) misaligned _ (dvd_divides n o c),
  )

  why_told : {k : Refusal} → Why h P p n k → told P.constants h p n ≡ refused k
  unfolding told told_at read_constant
  why_told (never_given l) = need_no (ltb p (length h.given)) not_given_out _ (ltb_absurd l)
  why_told (ended {f} s a) = told-target s ∙ need_no (among f h.standing) frame_gone _ a
  why_told (too_long {f} {j} {o} s a b) =
      told-target s ∙ need_yes (among f h.standing) frame_gone _ a ∙ need_no (leb (o + n) (made_at h.made f j).size) beyond_length _ (T_not _ (no_leb b))
  why_told (uneven {f} {j} {o} s a b c) =
      told-target s ∙ need_yes (among f h.standing) frame_gone _ a ∙ need_yes (leb (o + n) (made_at h.made f j).size) beyond_length _ (le→leb (o + n) _ b)
      ∙ need_no (divides n o) misaligned _ (λ d. c (divides_dvd n o d))
  why_told (not-here {k} s a) = told-target s ∙ need_no (ltb k (length P.constants)) no_constant _ (ltb_absurd a)
  why_told (past-constant {k} s a b) =
      told-target s ∙ need_yes (ltb k (length P.constants)) no_constant _ (lt→ltb k _ a) ∙ need_no (leb n (length (get_or P.constants k []))) beyond_length _ (T_not _ (no_leb b))

  of-ok : {bs : List ℕ} → Tells (ok bs) → Right h P p n × (bs ≡ bytes_of (target_of h p))
  of-ok (grants r e) = (r, e)

  of-refused : {k : Refusal} → Tells (refused k) → Why h P p n k
  of-refused (refuses w) = w

  -- of all reasons, only an ended frame gives 27
  gone : {k : Refusal} → Why h P p n k → k ≡ frame_gone → (f : ℕ) × (j : ℕ) × (o : ℕ) × StandsFor h p (of_place f j o) × Ended h f
  gone (never_given l) e = absurd (omega (arith, ap number_of e))
  gone (ended {f} {j} {o} s a) e = (f, j, o, s, a)
  gone (too_long s a b) e = absurd (omega (arith, ap number_of e))
  gone (uneven s a b c) e = absurd (omega (arith, ap number_of e))
  gone (not-here s a) e = absurd (omega (arith, ap number_of e))
  gone (past-constant s a b) e = absurd (omega (arith, ap number_of e))

  -- 31 is none of them
  not_31 : {k : Refusal} → Why h P p n k → k ≢ not_bool
  not_31 (never_given l) e = absurd (omega (arith, ap number_of e))
  not_31 (ended s a) e = absurd (omega (arith, ap number_of e))
  not_31 (too_long s a b) e = absurd (omega (arith, ap number_of e))
  not_31 (uneven s a b c) e = absurd (omega (arith, ap number_of e))
  not_31 (not-here s a) e = absurd (omega (arith, ap number_of e))
  not_31 (past-constant s a b) e = absurd (omega (arith, ap number_of e))

  right_or_why : Right h P p n ⊎ ((k : Refusal) × Why h P p n k)
  right_or_why = go (told P.constants h p n) tells_what
    where
      go : (a : Answer (List ℕ)) → Tells a → Right h P p n ⊎ ((k : Refusal) × Why h P p n k)
      go (ok bs) (grants r e) = inl r
      go (refused k) (refuses w) = inr (k, w)

  pub right_bytes : {t : Target} → Right h P p n → StandsFor h p t → told P.constants h p n ≡ ok (bytes_of t)
  right_bytes r s =
      let g = right_told r in
      g.1 ∙ ap ok ((of-ok (subst Tells g.1 tells_what)).1 ∙ ap bytes_of s.1)

-- ---- 1, 2 and 3

module _ (as' : List Ask) (t : Accepted as') (P : Program) (p n : ℕ) where
  granted : {bs : List ℕ} → reply as' P p n ≡ bytes bs → Right (tells as') P p n × (bs ≡ bytes_of (tells as') P p n (target_of (tells as') p))
  granted {bs} e =
      of-ok (tells as') P p n (subst (Tells (tells as') P p n) (told-ok _ bs (sym (reply-told as' t P p n) ∙ e)) (tells_what (tells as') P p n))

  refused_why : {k : Refusal} → reply as' P p n ≡ refusal k → Why (tells as') P p n k
  refused_why {k} e =
      of-refused (tells as') P p n (subst (Tells (tells as') P p n) (told_no _ k (sym (reply-told as' t P p n) ∙ e)) (tells_what (tells as') P p n))

pub granted_exactly_when_right : GrantedExactlyWhenRight
unfolding as_reply
granted_exactly_when_right as' t P p n = (
  (λ r. (granted as' t P p n r.1).0),
  (λ r. let g = right_told (tells as') P p n r in (g.0, reply-told as' t P p n ∙ ap as_reply g.1)),
)

pub bytes_are_last_stored : BytesAreLastStored
unfolding bytes_of bytes_from
bytes_are_last_stored as' t P p n f j o bs s e =
    let same = (granted as' t P p n e).1 ∙ ap (bytes_of (tells as') P p n) s.1 in
    (ap length same ∙ length-first n _, λ i l. ap (λ (l : List ℕ). get_or l i 0) same ∙ get_d_first n _ i 0 l)

pub bytes_of_constants : BytesOfConstants
unfolding bytes_of
bytes_of_constants as' t P p n k bs s e = (granted as' t P p n e).1 ∙ ap (bytes_of (tells as') P p n) s.1

pub refused_with_its_number : RefusedWithItsNumber
unfolding as_reply
refused_with_its_number as' t P p n k =
    ((λ e. refused_why as' t P p n e), (λ w. reply-told as' t P p n ∙ ap as_reply (why_told (tells as') P p n w)))

pub gone_exactly_when_ended : GoneExactlyWhenEnded
gone_exactly_when_ended as' t P p n =
    ((λ e. gone (tells as') P p n (refused_why as' t P p n e) refl), (λ w. (refused_with_its_number as' t P p n frame_gone).1 (ended w.3 w.4)))

-- ---- 4. apart

-- sums over the lowest frames of a stack, and over their names
sums_below : (F : Frame → ℕ) (G : ℕ → ℕ) (fs : List Frame) (n : ℕ) → ((i : ℕ) → i < length fs → F (frame_at fs i) ≡ G (frame_at fs i).id)
    → sum (map F (take n fs)) ≡ sum (map G (take n (ids fs)))
unfolding sum
sums_below F G fs zero e = refl
sums_below F G [] (suc n) e = refl
sums_below F G (f ∷ fs) (suc n) e = ap₂ ◌+◌ (e 0 (omega arith)) (sums_below F G fs n (λ i l. e (suc i) (omega arith)))

lengths : (as' : List Made) → map length (map contents as') ≡ map (λ (a : Made). a.size) as'
lengths [] = refl
lengths (a ∷ as') = ap₂ (λ (n : ℕ) (l : List ℕ). n ∷ l) (length_contents a) (lengths as')

module _ {m : Memory} {h : History} (s : Sim m h) where
  -- where a frame that has not ended stands
  index_of_lem : (f : ℕ) → Open h f → (index_of h f < length m.frames) × ((frame_at m.frames (index_of h f)).id ≡ f)
  index_of_lem f t =
      let k = find m.frames f (rw s.stack at t) in
      let e : get_or h.below f 0 ≡ k.0 = ap (λ (x : ℕ). get_or h.below x 0) (sym k.2) ∙ s.level k.0 k.1 in
      (rw e k.1, rw e k.2)

  pub lives : (f j : ℕ) → Alive h f j → Lives m.frames (index_of h f) j
  lives f j (t, l) =
      let k = index_of_lem f t in
      record { frame = k.0; allocation = rw (s.holds (index_of h f) k.0, length-map, k.1) l }

  allocations-of : (f : ℕ) → Open h f → map length (frame_at m.frames (index_of h f)).allocations ≡ sizes_in h f
  allocations-of f t =
      let k = index_of_lem f t in
      ap (map length) (s.holds (index_of h f) k.0 ∙ ap (λ (x : ℕ). map contents (made_in h.made x)) k.1) ∙ lengths (made_in h.made f)

  -- it lies where the sequence tells
  pub lives_at : (f j : ℕ) → Alive h f j → start_at m.frames (index_of h f) j ≡ place_of h f j
  unfolding place_of
  lives_at f j a =
      let i = index_of h f in
      let v = lives f j a in
      let here = v.allocation in
      start-at m.frames i j v.frame (omega arith)
      ∙ ap₂ ◌+◌
      (sums_below Flat.bytes_of (λ (g : ℕ). sum (sizes_in h g)) m.frames i (λ k l. ap (λ (bss : List (List ℕ)). sum (map length bss)) (s.holds k l) ∙ ap sum (lengths (made_in h.made (frame_at m.frames k).id)))
      ∙ ap (λ (l : List ℕ). sum (map (λ (g : ℕ). sum (sizes_in h g)) (take i l))) (sym s.stack))
      (ap (λ (l : List ℕ). sum (take j l)) (allocations-of f a.0))

  -- it is as long as the sequence tells
  pub lives_long : (f j : ℕ) → Alive h f j → length (bytes_at m.frames (index_of h f) j) ≡ (made_at h.made f j).size
  lives_long f j (t, l) =
      let k = index_of_lem f t in
      let home : Home m.frames h.made (index_of h f) f j = record { begun = subst (λ (x : ℕ). x < length h.made) k.1 (s.begun (index_of h f) k.0); made = l; there = λ u. k } in
      ap length (bytes-at s (index_of h f) f j home t) ∙ length_contents (made_at h.made f j)

  before : (f j f' j' : ℕ) → Alive h f j → Alive h f' j' → Ahead m.frames (index_of h f) j (index_of h f') j' → Before h f j f' j'
  before f j f' j' a a' b =
      let x = lives_at f j a in
      let y = lives_at f' j' a' in
      let z = lives_long f j a in
      omega arith

  -- a local pointer, by what it stands for
  pub home_of : {p f j o : ℕ} → StandsFor h p (of_place f j o) → (i : ℕ) × (pointer_at m p ≡ local i f j o) × Home m.frames h.made i f j
  home_of {p} {f} {j} {o} (given, target) =
      go (pointer_at m p) refl (s.homes p (rw (same_length s) at given)) (sym (target_at s p) ∙ target)
    where
      go : (q : Pointer) → pointer_at m p ≡ q → Homed m.frames h.made q → forget q ≡ of_place f j o
          → (i : ℕ) × (pointer_at m p ≡ local i f j o) × Home m.frames h.made i f j
      go (constant k) e home x = absurd (false≢true cc)
      go (local i f' j' o') e home x =
          let ef : f' ≡ f = cc in
          let ej : j' ≡ j = cc in
          let eo : o' ≡ o = cc in
          (i, e ∙ rw (ef, ej, eo), subst₂ (λ (a b : ℕ). Home m.frames h.made i a b) ef ej home)

pub extents-apart : ExtentsApart
extents-apart as' t f j f' j' a a' d =
    let s = agrees as' t in
    let k = index_of_lem s f a.0 in
    let k' = index_of_lem s f' a'.0 in
    let d' : (index_of (tells as') f ≢ index_of (tells as') f') ⊎ (j ≢ j') =
    elim d [ inl x ↦ inl (λ e. x (sym k.1 ∙ ap (λ (i : ℕ). (frame_at (state_after as').memory.frames i).id) e ∙ k'.1)) | inr y ↦ inr y ] in
    elim (apart _ _ j _ j' (lives s f j a) (lives s f' j' a') d') [ inl b ↦ inl (before s f j f' j' a a' b) | inr b ↦ inr (before s f' j' f j a' a b) ]

-- another allocation is as it was
other_made : (ms : List (List Made)) (f j f' j' : ℕ) (a : Made) → f < length ms → (f ≢ f') ⊎ (j ≢ j') → made_at (set ms f (set (made_in ms f) j a)) f' j' ≡ made_at ms f' j'
other_made ms f j f' j' a l d = elim (ℕ_discrete f' f) [
  | no n ↦ ap (λ (as' : List Made). get_or as' j' nothing) (get_or-set_other ms f f' _ [] n)
  | yes e ↦ (let n : j' ≢ j = elim d [ inl x ↦ λ z. x (sym e) | inr y ↦ λ z. y (sym z) ] in
      rw e (ap (λ (as' : List Made). get_or as' j' nothing) (get_or-set_same ms f _ [] l) ∙ get_or-set_other (made_in ms f) j j' a nothing n))
]

told_other : (constants : List (List ℕ)) (h : History) (ms : List (List Made)) (q n f j o : ℕ) → target_of h q ≡ of_place f j o → made_at ms f j ≡ made_at h.made f j
    → told constants (with_made h ms) q n ≡ told constants h q n
unfolding told told_at
told_other constants h ms q n f j o target same = rw (target, same)

pub writes_stay_apart : WritesStayApart
unfolding stored_at
writes_stay_apart as' t p q f j o f' j' o' bs m e at_p at-q d constants n =
    let h : History = tells as' in
    let s = agrees as' t in
    let after : Sim m (with_made h (stored_at h.made (target_of h p) bs)) = write_agrees s p bs e in
    let home = home_of s at_p in
    let same = other_made h.made f j f' j' (stored_in (made_at h.made f j) o bs) home.2.begun d in
    read_agrees after constants q n
    ∙ ap (λ (x : Target). told constants (with_made h (stored_at h.made x bs)) q n) at_p.1
    ∙ told_other constants h _ q n f' j' o' at-q.1 same
    ∙ sym (read_agrees s constants q n)

-- ---- 5. the live list

pub listing_is_told : ListingIsTold
unfolding ask host_list lays
listing_is_told as' t room l =
    let s = agrees as' t in
    ap (λ (x : Turn Memory). x.reply) (entered (to_list room) (state_after as') (always_sound as' t))
    ∙ ap (λ (a : Answer (List Live)). (lays (state_after as') a).reply)
    (need_yes (leb (length (state_after as').memory.pointers) room) short_table _ (le→leb _ room (rw (← same_length s) l)) ∙ ap ok (list_agrees s))

-- ---- 6. a step reads as the host does

-- what a step at a Read comes to, by the bytes that are read; and one at a Copy
step-read : (s : Machine Memory) (P : Program) (to : ℕ) (type : IrType) (p : ℕ) → AtRead s P to type p → (a : Answer (List ℕ)) → read_bytes P.constants s.memory p (size (kind_of type)) ≡ a
    → step believed P s ≡ (a >>= λ bs. from_bytes type bs >>= λ v. sets believed s to v)
unfolding step found ◌>>=◌ execute
step-read s P to type p r a e = rw (r.here, r.through, e) refl

step_copy : (s : Machine Memory) (P : Program) (q p n : ℕ) → AtCopy s P q p n → (a : Answer (List ℕ)) → read_bytes P.constants s.memory p n ≡ a
    → step believed P s ≡ (a >>= λ bs. write_bytes s.memory q bs >>= λ m. onward believed s m s.vars)
unfolding step found ◌>>=◌ execute
step_copy s P q p n c a e = rw (c.here, c.onto, c.through, e) refl

-- a step of a machine that runs is entered
step-entered : (as' : List Ask) → Accepted as' → (P : Program) → T (state_after as').running → (a : Answer (Stepped Memory)) → step believed P (state_after as') ≡ a
    → stepped as' P ≡ steps (state_after as') a
unfolding ask step_once
step-entered as' t P r a e = entered (to_step P) (state_after as') (always_sound as' t) ∙ ap (steps (state_after as')) (need_yes (state_after as').running idle _ r ∙ e)

done-not : {k : Refusal} → done ≡ refusal k → ⊥
done-not e = false≢true cc

-- once its bytes are read, a Read is refused with 31 alone
value_31 : (s : Machine Memory) (to : ℕ) (type : IrType) (bs : List ℕ) (k : Refusal) → (steps s (from_bytes type bs >>= λ v. sets believed s to v)).reply ≡ refusal k → k ≡ not_bool
unfolding from_bytes need steps ◌>>=◌
value_31 s to type bs k e = go (not (same (kind_of type) bool && ltb 1 (le_number bs))) (value (kind_of type) (le_number bs)) e
  where
    go : (b : Bool) (v : Value) → (steps s (need b not_bool (ok v) >>= λ v. sets believed s to v)).reply ≡ refusal k → k ≡ not_bool
    go true v e = absurd (false≢true cc)
    go false v e = cc

value_set : (s : Machine Memory) (to : ℕ) (type : IrType) (bs : List ℕ) → (steps s (from_bytes type bs >>= λ v. sets believed s to v)).reply ≡ done
    → (v : Value) × (from_bytes type bs ≡ ok v) × ((steps s (from_bytes type bs >>= λ v. sets believed s to v)).machine.vars to ≡ some v)
unfolding steps ◌>>=◌
value_set s to type bs d = go (from_bytes type bs) refl d
  where
    go : (a : Answer Value) → from_bytes type bs ≡ a → (steps s (a >>= λ v. sets believed s to v)).reply ≡ done
        → (v : Value) × (from_bytes type bs ≡ ok v) × ((steps s (a >>= λ v. sets believed s to v)).machine.vars to ≡ some v)
    go (ok v) e d = (v, e, rw (is_true (eqb to to) (eqb_refl to)))
    go (refused k) e d = absurd (done-not (sym d))

copy_written : (s : Machine Memory) (q : ℕ) (bs : List ℕ) → (steps s (write_bytes s.memory q bs >>= λ m. onward believed s m s.vars)).reply ≡ done
    → write_bytes s.memory q bs ≡ ok (steps s (write_bytes s.memory q bs >>= λ m. onward believed s m s.vars)).machine.memory
unfolding steps ◌>>=◌
copy_written s q bs d = go (write_bytes s.memory q bs) d
  where
    go : (a : Answer Memory) → (steps s (a >>= λ m. onward believed s m s.vars)).reply ≡ done → a ≡ ok (steps s (a >>= λ m. onward believed s m s.vars)).machine.memory
    go (ok m) d = refl
    go (refused k) d = absurd (done-not (sym d))

module _ (as' : List Ask) (t : Accepted as') (P : Program) (to : ℕ) (type : IrType) (p : ℕ) (r : AtRead (state_after as') P to type p) where
  abbrev n : ℕ
  n = size (kind_of type)

  -- by what is told
  read-turn : (a : Answer (List ℕ)) → told P.constants (tells as') p n ≡ a
      → stepped as' P ≡ steps (state_after as') (a >>= λ bs. from_bytes type bs >>= λ v. sets believed (state_after as') to v)
  read-turn a e = step-entered as' t P r.runs _ (step-read (state_after as') P to type p r a (read_agrees (agrees as' t) P.constants p n ∙ e))

  read-refused : {k : Refusal} → Why (tells as') P p n k → (stepped as' P).reply ≡ refusal k
  unfolding steps ◌>>=◌
  read-refused {k} w = ap (λ (x : Turn Memory). x.reply) (read-turn (refused k) (why_told (tells as') P p n w))

  read_granted : Right (tells as') P p n → (k : Refusal) → (stepped as' P).reply ≡ refusal k → k ≡ not_bool
  unfolding ◌>>=◌
  read_granted g k e =
      let x = right_told (tells as') P p n g in
      value_31 (state_after as') to type x.0 k (sym (ap (λ (x : Turn Memory). x.reply) (read-turn (ok x.0) x.1)) ∙ e)

  granted_right : ((k : Refusal) → (stepped as' P).reply ≡ refusal k → k ≡ not_bool) → Right (tells as') P p n
  granted_right f = elim (right_or_why (tells as') P p n) [ inl g ↦ g | inr w ↦ absurd (not_31 (tells as') P p n w.1 (f w.0 (read-refused w.1))) ]

  number_why : (k : Refusal) → k ≢ not_bool → (stepped as' P).reply ≡ refusal k → Why (tells as') P p n k
  number_why k d e = elim (right_or_why (tells as') P p n) [
    | inl g ↦ absurd (d (read_granted g k e))
    | inr w ↦ subst (Why (tells as') P p n) (same_number w.0 k (sym (read-refused w.1) ∙ e)) w.1
  ]
    where
      same_number : (i k : Refusal) → refusal i ≡ refusal k → i ≡ k
      same_number i k e = cc

  read-value : {f j o : ℕ} → StandsFor (tells as') p (of_place f j o) → (stepped as' P).reply ≡ done
      → (v : Value) × (from_bytes type (bytes_from (made_at (tells as').made f j) o n) ≡ ok v) × ((stepped as' P).machine.vars to ≡ some v)
  unfolding bytes_of ◌>>=◌
  read-value at d =
      let g = granted_right (λ k e. absurd (done-not (sym d ∙ e))) in
      let turn = read-turn (ok _) (right_bytes (tells as') P p n g at) in
      let x = value_set (state_after as') to type _ (sym (ap (λ (x : Turn Memory). x.reply) turn) ∙ d) in
      (x.0, x.1, ap (λ (x : Turn Memory). x.machine.vars to) turn ∙ x.2)

pub steps_granted_exactly_when_right : StepsGrantedExactlyWhenRight
steps_granted_exactly_when_right as' t P to type p r =
    ((granted_right as' t P to type p r, read_granted as' t P to type p r), (λ k d. (number_why as' t P to type p r k d, λ w. read-refused as' t P to type p r w)))

pub steps_read_last_stored : StepsReadLastStored
steps_read_last_stored as' t P to type p f j o r at d = read-value as' t P to type p r at d

module _ (as' : List Ask) (t : Accepted as') (P : Program) (q p n : ℕ) (c : AtCopy (state_after as') P q p n) where
  copy_turn : (a : Answer (List ℕ)) → told P.constants (tells as') p n ≡ a
      → stepped as' P ≡ steps (state_after as') (a >>= λ bs. write_bytes (state_after as').memory q bs >>= λ m. onward believed (state_after as') m (state_after as').vars)
  copy_turn a e = step-entered as' t P c.runs _ (step_copy (state_after as') P q p n c a (read_agrees (agrees as' t) P.constants p n ∙ e))

  copy_refused : {k : Refusal} → Why (tells as') P p n k → (stepped as' P).reply ≡ refusal k
  unfolding steps ◌>>=◌
  copy_refused {k} w = ap (λ (x : Turn Memory). x.reply) (copy_turn (refused k) (why_told (tells as') P p n w))

  pub copy_right : (stepped as' P).reply ≡ done → Right (tells as') P p n
  copy_right d = elim (right_or_why (tells as') P p n) [ inl g ↦ g | inr w ↦ absurd (done-not (sym d ∙ copy_refused w.1)) ]

  copy_bytes : {f j o : ℕ} → StandsFor (tells as') p (of_place f j o) → (stepped as' P).reply ≡ done
      → write_bytes (state_after as').memory q (bytes_from (made_at (tells as').made f j) o n) ≡ ok (stepped as' P).machine.memory
  unfolding bytes_of ◌>>=◌
  copy_bytes at d =
      let turn = copy_turn (ok _) (right_bytes (tells as') P p n (copy_right d) at) in
      copy_written (state_after as') q _ (sym (ap (λ (x : Turn Memory). x.reply) turn) ∙ d) ∙ ap (λ (x : Turn Memory). ok x.machine.memory) (sym turn)

pub copies-refused : CopiesRefused
copies-refused as' t P q p n k c w = copy_refused as' t P q p n c w

pub copies_last_stored : CopiesLastStored
copies_last_stored as' t P q p n f j o c at d = copy_bytes as' t P q p n c at d

-- ---- in plain words

-- a local pointer whose frame does not stand
pub record Gone (m : Memory) (p : ℕ) : Type 0 where
  pub index : ℕ
  pub frame : ℕ
  pub allocation : ℕ
  pub offset : ℕ
  pub given : p < length m.pointers
  pub points : pointer_at m p ≡ local index frame allocation offset
  pub fallen : T (stands m.frames index frame) → ⊥

read_gone : (m : Memory) (p : ℕ) → Gone m p → (constants : List (List ℕ)) (n : ℕ) → read_bytes constants m p n ≡ refused frame_gone
unfolding read_bytes read_at access
read_gone m p g constants n =
    need_yes (ltb p (length m.pointers)) not_given_out _ (lt→ltb p _ g.given)
    ∙ ap (λ (q : Pointer). read_at constants m.frames q n) g.points ∙ need_no (stands m.frames g.index g.frame) frame_gone _ g.fallen

write_gone : (m : Memory) (p : ℕ) → Gone m p → (bs : List ℕ) → write_bytes m p bs ≡ refused frame_gone
unfolding write_bytes write_at access
write_gone m p g bs =
    need_yes (ltb p (length m.pointers)) not_given_out _ (lt→ltb p _ g.given)
    ∙ ap (λ (q : Pointer). write_at m q bs) g.points ∙ need_no (stands m.frames g.index g.frame) frame_gone _ g.fallen

-- the frame has ended on the way, so none like it stands later
gone_later : {m₁ m₂ m₃ : Memory} {h₁ h₂ : History} {p f j o : ℕ} → Sim m₁ h₁ → Sim m₂ h₂ → Later m₁ m₂ → Later m₂ m₃ → StandsFor h₁ p (of_place f j o) → Ended h₂ f → Gone m₃ p
gone_later {m₂ = m₂} {h₂ = h₂} {p} {f} {j} {o} s₁ s₂ l₂ l₃ at_p end =
    let home = home_of s₁ at_p in
    let i : ℕ = home.0 in
    let given₂ = l₂.given p (rw (same_length s₁) at at_p.0) in
    let given₃ = l₃.given p given₂.0 in
    let points₂ = given₂.1 ∙ home.1 in
    let home₂ : Home m₂.frames h₂.made i f j = subst (Homed m₂.frames h₂.made) points₂ (s₂.homes p given₂.0) in
    let begun : f < m₂.counter = rw s₂.counted home₂.begun in
    record {
      index = i;
      frame = f;
      allocation = j;
      offset = o;
      given = given₃.0;
      points = given₃.1 ∙ points₂;
      fallen = λ t. end (subst T (stands-among s₂ i f j home₂) (l₃.stood i f begun t));
    }

pub refused_ever_after : RefusedEverAfter
unfolding ask host_read shows
refused_ever_after as' bs' cs' t p f j o at_p end =
    let t₂ = all_append accepted_ask (as' ++ bs') cs' t in
    let t₁ = all_append accepted_ask as' bs' t₂.0 in
    let m : Memory = (state_after ((as' ++ bs') ++ cs')).memory in
    let g : Gone m p = gone_later (agrees as' t₁.0) (agrees (as' ++ bs') t₂.0)
    (rw (onwards-append as' bs' (fresh believed)) (onwards-sound bs' (state_after as') t₁.1 (always_sound as' t₁.0)).1)
    (rw (onwards-append (as' ++ bs') cs' (fresh believed)) (onwards-sound cs' (state_after (as' ++ bs')) t₂.1 (always_sound (as' ++ bs') t₂.0)).1)
    at_p end in (
      (λ P n. ap (λ (x : Turn Memory). x.reply) (entered (to_read P p n) (state_after ((as' ++ bs') ++ cs')) (always_sound ((as' ++ bs') ++ cs') t))
          ∙ ap (λ (a : Answer (List ℕ)). (shows (state_after ((as' ++ bs') ++ cs')) a).reply) (read_gone m p g P.constants n)),
      read_gone m p g,
      write_gone m p g,
    )
