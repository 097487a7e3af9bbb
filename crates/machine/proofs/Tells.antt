-- What is done tells: a Call begins a frame, a Return ends one, a Write, a Copy and an Initialize store. The step over the history is the believed machine's
-- (`Twin`), and each instruction's clause says which event was accepted.
use Prim.Native.Nat.{ℕ, zero, suc, ◌+◌, ◌-◌, ◌<◌}
use native.Mathlib.Nat.{zero-add}
use native.Mathlib.Decide.{dec_lt}
use native.Mathlib.Omega.{arith}
use mathlib.Core.Bool.{Bool, true, false, not, ◌||◌}
use mathlib.Core.Logic.{◌⊎◌, inl, inr}
use mathlib.Core.Path.{◌≡◌, refl, sym, ap, ◌∙◌, subst}
use mathlib.Core.List.{List, [], ◌∷◌, ◌++◌, map, append-nil}
use mathlib.Core.Option.{Option, none, some}
use lib.ListN.{length, get_or, take, drop, set, get_elem?, length-set, get_or-append}
use lib.Seq.{drop-cons, get_or-set_same, get_or-set_other, get_or-append_seam, set-append_seam, append_snoc, split_at, drop-length, length-take-le, get_or-take}
use lib.Dec.{T, ltb, leb, eqb, eqb_refl, eqb→eq}
use Rattle.std.proofs.lemmas.List.{length_push, get_or_past}
use Rattle.std.proofs.lemmas.Bool.{false≢true}
use Rattle.value.specs.Refusal.{idle, no_instruction, bytes_exceed_size}
use Rattle.value.specs.Answer.{Answer, ok, refused, need, found, pick, ◌>>=◌}
use Rattle.value.specs.Value.{Value, value, pointer, bytes_of}
use Rattle.value.proofs.Truth.{is_true}
use Rattle.image.specs.Program.{Program, Operand, Slot, Declared, function_at, code, place_of, Instruction, Jump, Switch, Assign, ConstantAddress, Call, Return, IntCmp', FloatCmp', Add, Sub, Mul, Div, Mod, FDiv, Not, Negate, Offset, Initialize, Write, Read, Copy, Drop}
use Rattle.memory.specs.Memory.{Memory, Back, frame_at, top, no_back}
use Rattle.machine.specs.Machine.{Memories, Machine, Vars, set_to, Stepped, went, ended, fresh, value_if, make_slots, set_from, set_arguments, as_variable, to_of, set_returned, onward, with_memory, points, sets₁, sets₂, leave, execute, step, step_once, host_allocate, host_write, start}
use Rattle.machine.specs.Believed.{believed}
use Rattle.machine.specs.Recalled.{recalled}
use Rattle.machine.specs.Asks.{Ask, to_allocate, to_write, to_start, to_step, done, gave, returned, Turn, changes, steps, ask, following}
use Rattle.machine.specs.Entries.{enter}
use Rattle.machine.specs.History.{History, Made, zeros, Target, of_constant, of_place, target_of, allocation, call, made_in, nothing, made_at, stored_in, stored_at, starts, bytes_from, with_made, top_frame, less_top, next, tell_allocation, tell_address, tell_offset, tell_offset_at, tell_store, tell_store_at, tell_call, tell_return, StandsFor, Ended}
use Rattle.machine.specs.Demand.{MovesFrames, of-call, of-return, OthersMoveNone, Accepted, state_after, tells, stepped, At, tells_with, Begins, CallsBegin, StartsIn, StartsMakeSlots, Ends, ReturnsEnd, RootNeverEnds, LastReturnEndsNone, Stores, WritesStore, CopiesStore, HostWritesStore, next_in, Makes, InitializesMake, HostAllocationsMake}
use Rattle.machine.proofs.Agree.{Sim, need-ok, need_yes, refused≢ok, ok_inj, last_in, last_before, last-after, among-at, at-among, id-at}
use Rattle.machine.proofs.Values.{Keeps, kept, no_answer, keeps-need, keeps_then, keeps-after}
use Rattle.machine.proofs.Lift.{Twin, twin, Replied, replied, ask_alike, fresh_alike, following_alike}
use Rattle.machine.proofs.Recalled.{likened, same_depth, same-top}
use Rattle.machine.proofs.Sound.{fresh-sound, entered, onwards-following, sound-held}
use Rattle.machine.proofs.SoundMemory.{later_same}
use Rattle.machine.proofs.Demand.{agrees, always_sound, home_of, copy_right, right_bytes, bytes_of as bytes_of_target}

-- ---- answers

after-ok : {A B : Type 0} (a : Answer A) {f : A → Answer B} {y : B} → (a >>= f) ≡ ok y → (x : A) × (a ≡ ok x) × (f x ≡ ok y)
unfolding ◌>>=◌
after-ok (ok x) e = (x, refl, e)
after-ok (refused n) e = absurd (refused≢ok e)

-- where the machine goes on with what a memory answered
onward-memory : (s s' : Machine History) (a : Answer History) (vs : History → Vars) → (a >>= λ m. onward recalled s m (vs m)) ≡ ok (went s') → a ≡ ok s'.memory
unfolding ◌>>=◌
onward-memory s s' (ok m) vs e = cc
onward-memory s s' (refused n) vs e = absurd (refused≢ok e)

-- ---- the step over the history

following-append : {M : Type 0} (mem : Memories M) (as' bs' : List Ask) (s : Machine M) → following mem (as' ++ bs') s ≡ following mem bs' (following mem as' s)
unfolding following
following-append mem [] bs' s = refl
following-append mem (a ∷ as') bs' s = following-append mem as' bs' (ask mem a s).machine

-- a step that is done went on
step_went : {M : Type 0} (s : Machine M) (a : Answer (Stepped M)) → (steps s a).reply ≡ done → (s' : Machine M) × (a ≡ ok (went s')) × ((steps s a).machine ≡ s')
unfolding steps
step_went s (ok (went s')) e = (s', refl, refl)
step_went s (ok (ended v s')) e = absurd (false≢true cc)
step_went s (refused n) e = absurd (false≢true cc)

step-ended : {M : Type 0} (s : Machine M) (a : Answer (Stepped M)) (v : Option Value) → (steps s a).reply ≡ returned v → (s' : Machine M) × (a ≡ ok (ended v s')) × ((steps s a).machine ≡ s')
unfolding steps
step-ended s (ok (went s')) v e = absurd (false≢true cc)
step-ended s (ok (ended w s')) v e = (s', cc, refl)
step-ended s (refused n) v e = absurd (false≢true cc)

same-vars : {s : Machine Memory} {h : Machine History} → Twin likened s h → s.vars ≡ h.vars
same-vars (twin r) = refl

module _ (as' : List Ask) (t : Accepted as') where
  -- the machine over the history, after the asks
  abbrev recalling : Machine History
  recalling = following recalled as' (fresh recalled)

  twins : Twin likened (state_after as') recalling
  twins = rw (onwards-following as' (fresh believed) t fresh-sound) (following_alike likened as' (fresh_alike likened))

  tells_with_lem : (a : Ask) → tells_with as' a ≡ (ask recalled a recalling).machine.memory
  unfolding following
  tells_with_lem a = ap (λ (s : Machine History). s.memory) (following-append recalled as' (a ∷ []) (fresh recalled))

  -- what is asked is answered alike, and leaves machines alike
  asked_alike : (a : Ask) → ((enter a (state_after as')).reply ≡ (ask recalled a recalling).reply) × ((enter a (state_after as')).machine.vars ≡ (ask recalled a recalling).machine.vars)
  asked_alike a = rw (entered a (state_after as') (always_sound as' t)) (go (ask_alike likened a twins))
    where
      go : {x : Turn Memory} {y : Turn History} → Replied likened x y → (x.reply ≡ y.reply) × (x.machine.vars ≡ y.machine.vars)
      go (replied w) = (refl, same-vars w)

  -- at an instruction, its clause
  step_clause : (P : Program) (i : Instruction) → At (state_after as') P i → ask recalled (to_step P) recalling ≡ steps recalling (execute recalled P recalling i)
  unfolding ask step_once step found ◌>>=◌
  step_clause P i (runs, here) = go twins runs here
    where
      go : {s : Machine Memory} {h : Machine History} → Twin likened s h → T s.running → get_elem? (code P) s.place ≡ some i
          → steps h (need h.running idle (found no_instruction (get_elem? (code P) h.place) >>= λ j. execute recalled P h j)) ≡ steps h (execute recalled P h i)
      go (twin {running = r} w) runs here = rw here (ap (steps _) (need_yes r idle _ runs))

  -- once it is done, where it went, what is told and what the variables are
  done-went : (P : Program) (i : Instruction) → At (state_after as') P i → (stepped as' P).reply ≡ done
      → (s' : Machine History) × (execute recalled P recalling i ≡ ok (went s')) × (tells_with as' (to_step P) ≡ s'.memory) × ((stepped as' P).machine.vars ≡ s'.vars)
  done-went P i at d =
      let clause = step_clause P i at in
      let alike = asked_alike (to_step P) in
      let w = step_went recalling (execute recalled P recalling i) (ap (λ (x : Turn History). x.reply) (sym clause) ∙ sym alike.0 ∙ d) in
      let left : (ask recalled (to_step P) recalling).machine ≡ w.0 = ap (λ (x : Turn History). x.machine) clause ∙ w.2 in
      (w.0, w.1, tells_with_lem (to_step P) ∙ ap (λ (s : Machine History). s.memory) left, alike.1 ∙ ap (λ (s : Machine History). s.vars) left)

-- ---- 8. what is stored

store_told : (h m : History) (p f j o : ℕ) (bs : List ℕ) → StandsFor h p (of_place f j o) → tell_store h p bs ≡ ok m → m ≡ with_made h (stored_at h.made (of_place f j o) bs)
unfolding tell_store tell_store_at next
store_told h m p f j o bs (given, target) e =
    let a = (need-ok (ltb p (length h.given)) _ _ e).1 in
    let b : tell_store_at h (of_place f j o) p bs ≡ ok m = subst (λ (x : Target). tell_store_at h x p bs ≡ ok m) target a in
    let c = (need-ok _ _ _ (need-ok _ _ _ (need-ok _ _ _ b).1).1).1 in
    sym (ok_inj (rw target at c))

module _ (h : History) (f j o : ℕ) (bs : List ℕ) (begun : f < length h.made) (there : j < length (made_in h.made f)) where
  -- the frame's allocations afterwards, and the one that was stored to
  stored_in_lem : made_in (stored_at h.made (of_place f j o) bs) f ≡ set (made_in h.made f) j (stored_in (made_at h.made f j) o bs)
  unfolding stored_at
  stored_in_lem = get_or-set_same h.made f _ [] begun

  stored-made : made_at (stored_at h.made (of_place f j o) bs) f j ≡ stored_in (made_at h.made f j) o bs
  stored-made = ap (λ (l : List Made). get_or l j nothing) stored_in_lem ∙ get_or-set_same (made_in h.made f) j _ nothing there

  stores : Stores h (with_made h (stored_at h.made (of_place f j o) bs)) f j o bs
  unfolding stored_at
  stores = record {
    stored = λ i l. ap (λ (a : Made). a.byte (o + i)) stored-made ∙ last_in (made_at h.made f j).byte o bs (o + i) (omega arith) (omega arith)
        ∙ ap (λ (k : ℕ). get_or bs k 0) (omega arith);
    beside = λ i l. ap (λ (a : Made). a.byte i) stored-made
        ∙ elim l [ inl x ↦ last_before (made_at h.made f j).byte o bs i x | inr x ↦ last-after (made_at h.made f j).byte o bs i x ];
    size = ap (λ (a : Made). a.size) stored-made;
    others = λ j' d. ap (λ (l : List Made). get_or l j' nothing) stored_in_lem ∙ get_or-set_other (made_in h.made f) j j' _ nothing (λ e. d (sym e));
    count = ap length stored_in_lem ∙ length-set (made_in h.made f) j _;
    elsewhere = λ f' d. get_or-set_other h.made f f' _ [] (λ e. d (sym e));
    standing = refl;
    given = refl;
  }

-- an accepted store is told so
stores-told : {m : Memory} {h : History} → Sim m h → (p f j o : ℕ) (bs : List ℕ) (h' : History) → StandsFor h p (of_place f j o) → tell_store h p bs ≡ ok h' → Stores h h' f j o bs
stores-told {h = h} s p f j o bs h' at e =
    let home = (home_of s at).2 in
    subst (λ (x : History). Stores h x f j o bs) (sym (store_told h h' p f j o bs at e)) (stores h f j o bs home.begun home.made)

-- a step that comes to a store
step-stores : (as' : List Ask) (t : Accepted as') (P : Program) (i : Instruction) (p f j o : ℕ) (bs : List ℕ) → At (state_after as') P i
    → execute recalled P (recalling as' t) i ≡ (tell_store (tells as') p bs >>= λ m. onward recalled (recalling as' t) m (recalling as' t).vars)
    → StandsFor (tells as') p (of_place f j o) → (stepped as' P).reply ≡ done → Stores (tells as') (tells_with as' (to_step P)) f j o bs
step-stores as' t P i p f j o bs at clause place d =
    let w = done-went as' t P i at d in
    let wrote = onward-memory (recalling as' t) w.0 (tell_store (tells as') p bs) (λ m. (recalling as' t).vars) (sym clause ∙ w.1) in
    subst (λ (z : History). Stores (tells as') z f j o bs) (sym w.2) (stores-told (agrees as' t) p f j o bs w.0.memory place wrote)

pub writes-store : WritesStore
unfolding execute ◌>>=◌
writes-store as' t P x y p f j o v at through what place d =
    step-stores as' t P (Write x y) p f j o (bytes_of v) at (rw (← same-vars (twins as' t), through, what) refl) place d

pub copies-store : CopiesStore
unfolding execute ◌>>=◌ bytes_of_target
copies-store as' t P q p n f j o f' j' o' c from onto d =
    let bytes = right_bytes (tells as') P p n (copy_right as' t P q p n c d) from in
    step-stores as' t P (Copy c.target c.source n) q f' j' o' (bytes_from (made_at (tells as').made f j) o n) (c.runs, c.here)
    (rw (← same-vars (twins as' t), c.onto, c.through, bytes) refl) onto d

-- a write of the host's that is done
write-went : (s : Machine History) (a : Answer History) → (changes s done (a >>= λ m. ok (with_memory recalled s m))).reply ≡ done
    → a ≡ ok (changes s done (a >>= λ m. ok (with_memory recalled s m))).machine.memory
unfolding changes ◌>>=◌
write-went s (ok m) e = refl
write-went s (refused n) e = absurd (false≢true cc)

pub host_writes_store : HostWritesStore
unfolding ask host_write
host_writes_store as' t p f j o bs place d =
    let s = recalling as' t in
    let wrote = write-went s (tell_store (tells as') p bs) (sym (asked_alike as' t (to_write p bs)).0 ∙ d) in
    subst (λ (z : History). Stores (tells as') z f j o bs) (sym (tells_with_lem as' t (to_write p bs))) (stores-told (agrees as' t) p f j o bs _ place wrote)

-- ---- what is made

top-begun : {m : Memory} {h : History} → Sim m h → top_frame h < length h.made
top-begun {m} {h} s = subst (λ (x : ℕ). x < length h.made) (same-top s) (s.begun (top m.frames) (omega (arith, s.root)))

module _ (h : History) (n : ℕ) (begun : top_frame h < length h.made) where
  made_in_lem : made_in (next (allocation n) h).made (top_frame h) ≡ made_in h.made (top_frame h) ++ (zeros n ∷ [])
  unfolding next
  made_in_lem = get_or-set_same h.made (top_frame h) _ [] begun

  made_at_lem : made_at (next (allocation n) h).made (top_frame h) (next_in h) ≡ zeros n
  made_at_lem = ap (λ (l : List Made). get_or l (next_in h) nothing) made_in_lem ∙ get_or-append_seam (made_in h.made (top_frame h)) (zeros n) [] nothing

  makes : Makes h (next (allocation n) h) n []
  unfolding next
  makes = record {
    size = ap (λ (a : Made). a.size) made_at_lem;
    bytes = λ i. ap (λ (a : Made). a.byte i) made_at_lem;
    given = refl;
    others = λ j l. ap (λ (x : List Made). get_or x j nothing) made_in_lem ∙ get_or-append (made_in h.made (top_frame h)) _ nothing j l;
    count = ap length made_in_lem ∙ length_push (made_in h.made (top_frame h)) (zeros n);
    elsewhere = λ f d. get_or-set_other h.made (top_frame h) f _ [] (λ e. d (sym e));
    standing = refl;
  }

-- then bytes are stored from its start on
makes_stored : (h h₁ h₂ : History) (n : ℕ) (bs : List ℕ) → Makes h h₁ n [] → Stores h₁ h₂ (top_frame h) (next_in h) 0 bs → Makes h h₂ n bs
makes_stored h h₁ h₂ n bs m s = record {
  size = s.size ∙ m.size;
  bytes = λ i. elim (dec_lt i (length bs)) [
    | yes l ↦ ap (λ (k : ℕ). (made_at h₂.made (top_frame h) (next_in h)).byte k) (sym (zero-add i)) ∙ s.stored i l
    | no l ↦ s.beside i (inr (omega arith)) ∙ m.bytes i ∙ sym (get_or_past bs i 0 (omega arith))
  ];
  given = s.given ∙ m.given;
  others = λ j l. s.others j (λ e. omega arith) ∙ m.others j l;
  count = s.count ∙ m.count;
  elsewhere = λ f d. s.elsewhere f d ∙ m.elsewhere f d;
  standing = s.standing ∙ m.standing;
}

allocation-told : (h m : History) (n : ℕ) → tell_allocation h n ≡ ok m → m ≡ next (allocation n) h
unfolding tell_allocation
allocation-told h m n e = sym (ok_inj (need-ok _ _ _ (need-ok _ _ _ (need-ok _ _ _ e).1).1).1)

-- the pointer that was given is the new allocation's
given-new : (h : History) (n : ℕ) → StandsFor (next (allocation n) h) (length h.given) (of_place (top_frame h) (next_in h) 0)
unfolding next
given-new h n = (rw length_push (omega arith), get_or-append_seam h.given _ [] _)

begun-still : (h : History) (n : ℕ) → top_frame h < length h.made → top_frame h < length (next (allocation n) h).made
unfolding next
begun-still h n b = rw length-set b

makes_told : (h h₂ : History) (n : ℕ) (bs : List ℕ) → top_frame h < length h.made → (tell_allocation h n >>= λ m. tell_store m (length h.given) bs) ≡ ok h₂ → Makes h h₂ n bs
makes_told h h₂ n bs begun e =
    let (m, made, stored) = after-ok (tell_allocation h n) e in
    let h₁ : History = next (allocation n) h in
    let wrote : tell_store h₁ (length h.given) bs ≡ ok h₂ = subst (λ (x : History). tell_store x (length h.given) bs ≡ ok h₂) (allocation-told h m n made) stored in
    let is = store_told h₁ h₂ (length h.given) (top_frame h) (next_in h) 0 bs (given-new h n) wrote in
    let one = makes h n begun in
    let inside : next_in h < length (made_in h₁.made (top_frame h)) = rw one.count (omega arith) in
    makes_stored h h₁ h₂ n bs one
    (subst (λ (x : History). Stores h₁ x (top_frame h) (next_in h) 0 bs) (sym is) (stores h₁ (top_frame h) (next_in h) 0 bs (begun-still h n begun) inside))

-- Initialize's clause comes to the allocation with its store
module _ (s s' : Machine History) (to : ℕ) where
  then_points : (b : Answer History) → (b >>= λ m. points recalled s to m) ≡ ok (went s') → (b ≡ ok s'.memory) × (s'.vars to ≡ some (value pointer (length s.memory.given)))
  unfolding ◌>>=◌
  then_points (ok m) e =
      let same : s'.vars ≡ set_to s.vars to (value pointer (length s.memory.given)) = cc in
      (cc, ap (λ (f : Vars). f to) same ∙ rw (is_true (eqb to to) (eqb_refl to)))
  then_points (refused n) e = absurd (refused≢ok e)

  pointed : (a : Answer History) (f : History → Answer History) → (a >>= λ m. f m >>= λ m'. points recalled s to m') ≡ ok (went s')
      → ((a >>= f) ≡ ok s'.memory) × (s'.vars to ≡ some (value pointer (length s.memory.given)))
  unfolding ◌>>=◌
  pointed (ok m) f e = then_points (f m) e
  pointed (refused n) f e = absurd (refused≢ok e)

pub initializes_make : InitializesMake
unfolding execute
initializes_make as' t P to n bs at d =
    let w = done-went as' t P (Initialize to n bs) at d in
    let e = (need-ok (leb (length bs) n) bytes_exceed_size _ w.1).1 in
    let x = pointed (recalling as' t) w.0 to (tell_allocation (tells as') n) (λ m. tell_store m (length (tells as').given) bs) e in
    (subst (λ (z : History). Makes (tells as') z n bs) (sym w.2) (makes_told (tells as') w.0.memory n bs (top-begun (agrees as' t)) x.0), ap (λ (vs : Vars). vs to) w.3 ∙ x.1)

-- an allocation of the host's that is granted
allocation-went : (s : Machine History) (a : Answer History) (k p : ℕ) → (changes s (gave k) (a >>= λ m. ok (with_memory recalled s m))).reply ≡ gave p
    → (a ≡ ok (changes s (gave k) (a >>= λ m. ok (with_memory recalled s m))).machine.memory) × (p ≡ k)
unfolding changes ◌>>=◌
allocation-went s (ok m) k p e = (refl, cc)
allocation-went s (refused n) k p e = absurd (false≢true cc)

pub host_allocations_make : HostAllocationsMake
unfolding ask host_allocate
host_allocations_make as' t n p d =
    let h = tells as' in
    let w = allocation-went (recalling as' t) (tell_allocation h n) (length h.given) p (sym (asked_alike as' t (to_allocate n)).0 ∙ d) in
    (subst (λ (z : History). Makes h z n []) (sym (tells_with_lem as' t (to_allocate n) ∙ allocation-told h _ n w.0)) (makes h n (top-begun (agrees as' t))), w.1)

-- ---- 7. frames

top-is : (h : History) (st : List ℕ) (k : ℕ) → h.standing ≡ st ++ (k ∷ []) → top_frame h ≡ k
top-is h st k s = rw s (ap (λ (i : ℕ). get_or (st ++ (k ∷ [])) i 0) (ap (λ (i : ℕ). i - 1) (length_push st k) ∙ omega arith) ∙ get_or-append_seam st k [] 0)

-- an allocation in the frame that stands on top: `ms` were made in those before it, `made` in it, and `rest` in those after it
made_on_top : (h : History) (n : ℕ) (ms : List (List Made)) (made : List Made) (rest : List (List Made)) → h.made ≡ ms ++ (made ∷ rest) → top_frame h ≡ length ms
    → ((next (allocation n) h).made ≡ ms ++ ((made ++ (zeros n ∷ [])) ∷ rest)) × ((next (allocation n) h).given ≡ h.given ++ (of_place (length ms) (length made) 0 ∷ []))
unfolding next
made_on_top h n ms made rest e on-top =
    let last : made_in h.made (top_frame h) ≡ made = rw (on-top, e) (get_or-append_seam ms made rest []) in
    (rw last (rw (on-top, e) (set-append_seam ms made rest (made ++ (zeros n ∷ [])))), rw (last, on-top) refl)

next-standing : (h : History) (n : ℕ) → (next (allocation n) h).standing ≡ h.standing
unfolding next
next-standing h n = refl

-- its slots, one after the other
slots-told : (xs : List Slot) (h h' : History) (vs vs' : Vars) (ms : List (List Made)) (made : List Made) (rest : List (List Made)) (st : List ℕ)
    → h.made ≡ ms ++ (made ∷ rest) → h.standing ≡ st ++ (length ms ∷ []) → make_slots recalled xs h vs ≡ ok (h', vs')
    → (h'.standing ≡ h.standing) × (h'.made ≡ ms ++ ((made ++ map (λ (x : Slot). zeros x.size) xs) ∷ rest)) × (h'.given ≡ h.given ++ starts (length ms) (length made) (length xs))
unfolding make_slots starts
slots-told [] h h' vs vs' ms made rest st e s r =
    let same : h' ≡ h = sym (ap (λ (x : History × Vars). x.0) (ok_inj r)) in
    (ap (λ (x : History). x.standing) same, ap (λ (x : History). x.made) same ∙ e ∙ ap (λ (l : List Made). ms ++ (l ∷ rest)) (sym (append-nil made)), ap (λ (x : History). x.given) same ∙ sym (append-nil h.given))
slots-told (x ∷ xs) h h' vs vs' ms made rest st e s r =
    let (m, one, more) = after-ok (tell_allocation h x.size) r in
    let is = allocation-told h m x.size one in
    let (made₁, given₁) = made_on_top h x.size ms made rest e (top-is h st (length ms) s) in
    let stood : m.standing ≡ h.standing = ap (λ (y : History). y.standing) is ∙ next-standing h x.size in
    let (standing, made₂, given₂) = slots-told xs m h' _ vs' ms (made ++ (zeros x.size ∷ [])) rest st (ap (λ (y : History). y.made) is ∙ made₁) (stood ∙ s) more in (
      standing ∙ stood,
      made₂ ∙ ap (λ (l : List Made). ms ++ (l ∷ rest)) (append_snoc made (zeros x.size) _),
      given₂ ∙ ap (λ (y : History). y.given ++ starts (length ms) (length (made ++ (zeros x.size ∷ []))) (length xs)) is
          ∙ ap (λ (l : List Target). l ++ starts (length ms) (length (made ++ (zeros x.size ∷ []))) (length xs)) given₁ ∙ append_snoc h.given (of_place (length ms) (length made) 0) _
          ∙ ap (λ (k : ℕ). h.given ++ (of_place (length ms) (length made) 0 ∷ starts (length ms) k (length xs))) (length_push made (zeros x.size) ∙ omega arith),
    )

-- a name that no frame that stands has
never_stood : {m : Memory} {h : History} → Sim m h → Ended h (length h.made)
never_stood {m} {h} s t =
    let (i, l, e) = at-among (length h.made) h.standing t in
    let inside : i < length m.frames = omega (arith, l, same_depth s) in
    let name : (frame_at m.frames i).id ≡ length h.made = sym (id-at m.frames i) ∙ ap (λ (x : List ℕ). get_or x i 0) (sym s.stack) ∙ e in
    omega (arith, s.begun i inside)

call-told : (h m : History) (b : Back) → tell_call h b ≡ ok m → m ≡ next (call b) h
unfolding tell_call
call-told h m b e = sym (ok_inj (need-ok _ _ _ (need-ok _ _ _ e).1).1)

-- where a step leaves this memory
data Leaves (m : History) : Stepped History → Type 0 where
  leaves : {place : ℕ} {vs : Vars} → Leaves m (went (record { memory = m; running = true; place = place; vars = vs }))

left-memory : {m : History} {s' : Machine History} → Keeps (Leaves m) (ok (went s')) → s'.memory ≡ m
left-memory (kept leaves) = refl

-- a Call's clause comes to its frame, its slots, and then variables alone
call_clause : (P : Program) (s s' : Machine History) (to : Option Declared) (context : Option Operand) (f : ℕ) (arguments : List Operand) (return_pointer : Option ℕ)
    → execute recalled P s (Call to context f arguments return_pointer) ≡ ok (went s')
    → (m : History) × (vs : Vars) × (tell_call s.memory (record { place = s.place + 1; var = to_of to }) ≡ ok m) × (make_slots recalled (function_at P f).slots m s.vars ≡ ok (s'.memory, vs))
unfolding execute
call_clause P s s' to context f arguments return_pointer e =
    let a = after-ok (tell_call s.memory (record { place = s.place + 1; var = to_of to })) e in
    let b = after-ok (make_slots recalled (function_at P f).slots a.0 s.vars) a.2 in
    (a.0, b.0.1, a.1, b.1 ∙ ap (λ (m : History). ok (m, b.0.1)) (sym (left b.0 b.2)))
  where
    left : (x : History × Vars) → (set_from x.1 (function_at P f).return_var (as_variable return_pointer) >>= λ vs₂. set_from vs₂ (function_at P f).context_var context >>= λ vs₃.
        set_arguments vs₃ (function_at P f).parameters arguments >>= λ vs₄. ok (went (record { memory = x.0; running = true; place = place_of P (function_at P f).entry; vars = vs₄ }))) ≡ ok (went s')
        → s'.memory ≡ x.0
    left x r = left-memory (subst (Keeps (Leaves x.0)) r (keeps-after (Leaves x.0) _ (λ vs₂. keeps-after (Leaves x.0) _ (λ vs₃. keeps-after (Leaves x.0) _ (λ vs₄. kept leaves)))))

-- the frame with its slots
begins : {m : Memory} {h h₂ : History} → Sim m h → (b : Back) (slots : List Slot) (vs vs' : Vars) → make_slots recalled slots (next (call b) h) vs ≡ ok (h₂, vs') → Begins h h₂ slots
unfolding next
begins {h = h} {h₂} s b slots vs vs' e =
    let x = slots-told slots (next (call b) h) h₂ vs vs' h.made [] [] h.standing refl refl e in
    record { new = never_stood s; above = x.0; made = x.1; given = x.2 }

pub calls_begin : CallsBegin
calls_begin as' t P to context f arguments return_pointer at d =
    let w = done-went as' t P (Call to context f arguments return_pointer) at d in
    let (m, vs, called, slots) = call_clause P (recalling as' t) w.0 to context f arguments return_pointer w.1 in
    let b : Back = record { place = (recalling as' t).place + 1; var = to_of to } in
    let made = subst (λ (x : History). make_slots recalled (function_at P f).slots x (recalling as' t).vars ≡ ok (w.0.memory, vs)) (call-told (tells as') m b called) slots in
    subst (λ (x : History). Begins (tells as') x (function_at P f).slots) (sym w.2) (begins (agrees as' t) b (function_at P f).slots (recalling as' t).vars vs made)

-- a start that is done
start-went : (s : Machine History) (a : Answer (Machine History)) → (changes s done a).reply ≡ done → a ≡ ok (changes s done a).machine
unfolding changes
start-went s (ok s') e = refl
start-went s (refused n) e = absurd (false≢true cc)

-- comes to its slots, on a machine that is idle
start_clause : (P : Program) (s s' : Machine History) (f : ℕ) (context : Value) (gs : List Value) → start recalled P f context gs s ≡ ok s'
    → T (not s.running) × (vs : Vars) × (vs' : Vars) × (make_slots recalled (function_at P f).slots s.memory vs ≡ ok (s'.memory, vs'))
unfolding start
start_clause P s s' f context gs e =
    let a = need-ok (not s.running) _ _ e in
    let slots = (need-ok _ _ _ (need-ok _ _ _ (need-ok _ _ _ a.1).1).1).1 in
    let b = after-ok (make_slots recalled (function_at P f).slots s.memory _) slots in
    let left : b.0.0 ≡ s'.memory = ap (λ (x : Machine History). x.memory) (ok_inj b.2) in
    (a.0, _, b.0.1, b.1 ∙ ap (λ (m : History). ok (m, b.0.1)) left)

-- an idle machine stands in the root alone
root_alone : (as' : List Ask) (t : Accepted as') → T (not (recalling as' t).running) → (tells as').standing ≡ 0 ∷ []
root_alone as' t idle =
    let s = agrees as' t in
    let state = state_after as' in
    let test = (sound-held {m₀ = state.memory} {s = state} (always_sound as' t) (later_same state.memory)).memory.idle in
    let one = eqb→eq _ 1 (rests state.running _ (same-running (twins as' t)) idle test) in
    single (tells as').standing (sym (same_depth s) ∙ one)
    ∙ ap (λ (f : ℕ). f ∷ []) (ap (λ (l : List ℕ). get_or l 0 0) s.stack ∙ id-at state.memory.frames 0 ∙ s.root_id)
  where
    same-running : {s : Machine Memory} {h : Machine History} → Twin likened s h → s.running ≡ h.running
    same-running (twin r) = refl

    rests : (a : Bool) {b : Bool} (c : Bool) → a ≡ b → T (not b) → T (a || c) → T c
    rests true c e n t = absurd (rw (← e) at n)
    rests false c e n t = t

    single : (l : List ℕ) → length l ≡ 1 → l ≡ get_or l 0 0 ∷ []
    single [] e = absurd (omega arith)
    single (x ∷ []) e = refl
    single (x ∷ y ∷ l) e = absurd (omega arith)

-- the frames after the first are the same
same_rest : (x y : List Made) (rest : List (List Made)) (f : ℕ) → 0 < f → made_in (x ∷ rest) f ≡ made_in (y ∷ rest) f
same_rest x y rest zero l = absurd (omega arith)
same_rest x y rest (suc f) l = refl

starts_in : (h h' : History) (slots : List Slot) (vs vs' : Vars) → 0 < length h.made → h.standing ≡ 0 ∷ [] → make_slots recalled slots h vs ≡ ok (h', vs') → StartsIn h h' slots
starts_in h h' slots vs vs' root alone e =
    let rest : List (List Made) = drop 1 h.made in
    let whole : h.made ≡ made_in h.made 0 ∷ rest = drop-cons h.made 0 [] root in
    let x = slots-told slots h h' vs vs' [] (made_in h.made 0) rest [] whole alone e in
    record {
      standing = x.0;
      made = ap (λ (l : List (List Made)). made_in l 0) x.1;
      elsewhere = λ f l. ap (λ (y : List (List Made)). made_in y f) x.1 ∙ same_rest _ (made_in h.made 0) rest f l ∙ ap (λ (y : List (List Made)). made_in y f) (sym whole);
      given = x.2;
    }

pub starts_make_slots : StartsMakeSlots
unfolding ask
starts_make_slots as' t P f context gs d =
    let s = recalling as' t in
    let went = start-went s (start recalled P f context gs s) (sym (asked_alike as' t (to_start P f context gs)).0 ∙ d) in
    let (idle, vs, vs', slots) = start_clause P s _ f context gs went in
    subst (λ (z : History). StartsIn (tells as') z (function_at P f).slots) (sym (tells_with_lem as' t (to_start P f context gs)))
    (starts_in (tells as') _ (function_at P f).slots vs vs' (omega (arith, top-begun (agrees as' t))) (root_alone as' t idle) slots)

-- the frame on top ends
ends : {m : Memory} {h : History} → Sim m h → Ends h (less_top h)
ends {m} {h} s = record { last = whole; ended = gone; made = refl; given = refl }
  where
    depth : length h.standing ≡ length m.frames
    depth = sym (same_depth s)

    rest : drop (suc (top h.standing)) h.standing ≡ []
    rest =
        let all : suc (top h.standing) ≡ length h.standing = omega (arith, depth, s.root) in
        ap (λ (n : ℕ). drop n h.standing) all ∙ drop-length h.standing

    whole : h.standing ≡ take (top h.standing) h.standing ++ (top_frame h ∷ [])
    whole = split_at h.standing (top h.standing) 0 (omega (arith, depth, s.root)) ∙ ap (λ (l : List ℕ). take (top h.standing) h.standing ++ (top_frame h ∷ l)) rest

    name : (i : ℕ) → (frame_at m.frames i).id ≡ get_or h.standing i 0
    name i = sym (id-at m.frames i) ∙ ap (λ (x : List ℕ). get_or x i 0) (sym s.stack)

    gone : Ended (less_top h) (top_frame h)
    gone t =
        let (i, l, e) = at-among (top_frame h) (take (top h.standing) h.standing) t in
        let below : i < top h.standing = rw (length-take-le (top h.standing) h.standing (omega arith)) at l in
        let same : get_or h.standing i 0 ≡ top_frame h = sym (get_or-take (top h.standing) h.standing i 0 below) ∙ e in
        let up = s.rising i (top h.standing) below (omega (arith, depth, s.root)) in
        let x = name i in
        let y = name (top h.standing) in
        omega arith

-- a Return's clause comes to the frame below, or to the end of the run
module _ (s s' : Machine History) (v : Option Value) where
  goes_back : (b : Bool) (back : Back) (m : History) → leave recalled s v (pick b (some (back, m)) none) ≡ ok (went s') → s'.memory ≡ m
  unfolding leave
  goes_back true back m e = left-memory (subst (Keeps (Leaves m)) e (keeps-after (Leaves m) (set_returned s.vars back.var v) (λ vs. kept leaves)))
  goes_back false back m e = absurd (false≢true cc)

  run_ends : (w : Option Value) (b : Bool) (back : Back) (m : History) → leave recalled s v (pick b (some (back, m)) none) ≡ ok (ended w s') → s'.memory ≡ s.memory
  unfolding leave
  run_ends w true back m e = absurd (never (set_returned s.vars back.var v) e)
    where
      never : (a : Answer Vars) → (a >>= λ vs. ok (went (record { memory = m; running = true; place = back.place; vars = vs }))) ≡ ok (ended w s') → ⊥
      never a e = let x = after-ok a e in let y = x.2 in false≢true cc
  run_ends w false back m e = cc

pub returns-end : ReturnsEnd
unfolding execute tell_return next
returns-end as' t P x at d =
    let w = done-went as' t P (Return x) at d in
    let a = after-ok (value_if (recalling as' t).vars x) w.1 in
    let left = goes_back (recalling as' t) w.0 a.0 (ltb 1 (length (tells as').standing)) (get_or (tells as').backs (top_frame (tells as')) no_back) (less_top (tells as')) a.2 in
    subst (Ends (tells as')) (sym (w.2 ∙ left)) (ends (agrees as' t))

pub root_never_ends : RootNeverEnds
root_never_ends as' t =
    let s = agrees as' t in
    among-at 0 (tells as').standing 0 (omega (arith, s.root, same_depth s)) (ap (λ (l : List ℕ). get_or l 0 0) s.stack ∙ id-at (state_after as').memory.frames 0 ∙ s.root_id)

pub last_return_ends_none : LastReturnEndsNone
unfolding execute tell_return next
last_return_ends_none as' t P x v at d =
    let clause = step_clause as' t P (Return x) at in
    let s = recalling as' t in
    let w = step-ended s (execute recalled P s (Return x)) v (ap (λ (y : Turn History). y.reply) (sym clause) ∙ sym (asked_alike as' t (to_step P)).0 ∙ d) in
    let a = after-ok (value_if s.vars x) w.1 in
    tells_with_lem as' t (to_step P) ∙ ap (λ (y : Turn History). y.machine.memory) clause ∙ ap (λ (z : Machine History). z.memory) w.2
    ∙ run_ends s w.0 a.0 v (ltb 1 (length (tells as').standing)) (get_or (tells as').backs (top_frame (tells as')) no_back) (less_top (tells as')) a.2

-- ---- no other step

-- where a step leaves these frames standing
data Stays (st : List ℕ) : Stepped History → Type 0 where
  stays : {m : History} {place : ℕ} {vs : Vars} → m.standing ≡ st → Stays st (went (record { memory = m; running = true; place = place; vars = vs }))

stays-told : {st : List ℕ} {s' : Machine History} → Keeps (Stays st) (ok (went s')) → s'.memory.standing ≡ st
stays-told (kept (stays e)) = e

module _ (P : Program) (s : Machine History) where
  abbrev st : List ℕ
  st = s.memory.standing

  abbrev Stood : History → Type 0
  Stood m = m.standing ≡ st

  allocation-stays : (n : ℕ) → Keeps Stood (tell_allocation s.memory n)
  unfolding tell_allocation next
  allocation-stays n = keeps-need Stood _ _ (λ a. keeps-need Stood _ _ (λ b. keeps-need Stood _ _ (λ c. kept refl)))

  address_stays : (k : ℕ) → Keeps Stood (tell_address s.memory k)
  unfolding tell_address next
  address_stays k = keeps-need Stood _ _ (λ a. kept refl)

  offset-stays : (p d : ℕ) → Keeps Stood (tell_offset s.memory p d)
  unfolding tell_offset tell_offset_at next
  offset-stays p d = keeps-need Stood _ _ (λ a. go (target_of s.memory p))
    where
      go : (t : Target) → Keeps Stood (tell_offset_at s.memory t p d)
      go (of_constant k) = no_answer
      go (of_place f j o) = keeps-need Stood _ _ (λ a. keeps-need Stood _ _ (λ b. kept refl))

  store-stays : (m : History) → Stood m → (p : ℕ) (bs : List ℕ) → Keeps Stood (tell_store m p bs)
  unfolding tell_store tell_store_at next
  store-stays m e p bs = keeps-need Stood _ _ (λ a. go (target_of m p))
    where
      go : (t : Target) → Keeps Stood (tell_store_at m t p bs)
      go (of_constant k) = no_answer
      go (of_place f j o) = keeps-need Stood _ _ (λ a. keeps-need Stood _ _ (λ b. keeps-need Stood _ _ (λ c. kept e)))

  sets₁-stays : (to : ℕ) (f : Value → Answer Value) (x : Operand) → Keeps (Stays st) (sets₁ recalled s to f x)
  sets₁-stays to f x = keeps-after (Stays st) _ (λ a. keeps-after (Stays st) _ (λ v. kept (stays refl)))

  sets₂-stays : (to : ℕ) (f : Value → Value → Answer Value) (x y : Operand) → Keeps (Stays st) (sets₂ recalled s to f x y)
  sets₂-stays to f x y = keeps-after (Stays st) _ (λ a. keeps-after (Stays st) _ (λ b. keeps-after (Stays st) _ (λ v. kept (stays refl))))

  -- where a memory's answer is all that a step goes on with
  goes-stays : (a : Answer History) (vs : Vars) → Keeps Stood a → Keeps (Stays st) (a >>= λ m. onward recalled s m vs)
  goes-stays a vs k = keeps_then Stood (Stays st) k (λ m e. kept (stays e))

  execute-stays : (i : Instruction) → MovesFrames i ⊎ Keeps (Stays st) (execute recalled P s i)
  unfolding execute
  execute-stays (Jump label) = inr (kept (stays refl))
  execute-stays (Switch x branches default) = inr (keeps-after (Stays st) _ (λ v. keeps-after (Stays st) _ (λ n. kept (stays refl))))
  execute-stays (Assign to x type) = inr (keeps-after (Stays st) _ (λ v. kept (stays refl)))
  execute-stays (ConstantAddress to k) = inr (goes-stays _ _ (address_stays k))
  execute-stays (Call to context f arguments return_pointer) = inl of-call
  execute-stays (Return x) = inl of-return
  execute-stays (IntCmp' to cmp x y) = inr (sets₂-stays to _ x y)
  execute-stays (FloatCmp' to cmp x y) = inr (sets₂-stays to _ x y)
  execute-stays (Add to x y) = inr (sets₂-stays to _ x y)
  execute-stays (Sub to x y) = inr (sets₂-stays to _ x y)
  execute-stays (Mul to x y) = inr (sets₂-stays to _ x y)
  execute-stays (Div to signed x y) = inr (sets₂-stays to _ x y)
  execute-stays (Mod to signed x y) = inr (sets₂-stays to _ x y)
  execute-stays (FDiv to x y) = inr (sets₂-stays to _ x y)
  execute-stays (Not to x) = inr (sets₁-stays to _ x)
  execute-stays (Negate to x) = inr (sets₁-stays to _ x)
  execute-stays (Offset to x d) = inr (keeps-after (Stays st) _ (λ p. goes-stays _ _ (offset-stays p d)))
  execute-stays (Initialize to n bytes) = inr (keeps-need (Stays st) _ _ (λ t. keeps_then Stood (Stays st) (allocation-stays n) (λ m e. goes-stays _ _ (store-stays m e _ bytes))))
  execute-stays (Write x y) = inr (keeps-after (Stays st) _ (λ p. keeps-after (Stays st) _ (λ v. goes-stays _ _ (store-stays _ refl p (bytes_of v)))))
  execute-stays (Read to x type) = inr (keeps-after (Stays st) _ (λ p. keeps-after (Stays st) _ (λ bytes. keeps-after (Stays st) _ (λ v. kept (stays refl)))))
  execute-stays (Copy x y n) = inr (keeps-after (Stays st) _ (λ to. keeps-after (Stays st) _ (λ from. keeps-after (Stays st) _ (λ bytes. goes-stays _ _ (store-stays _ refl to bytes)))))
  execute-stays (Drop x) = inr (kept (stays refl))

pub others_move_none : OthersMoveNone
others_move_none as' t P i at d =
    let w = done-went as' t P i at d in
    elim (execute-stays P (recalling as' t) i) [
      | inl m ↦ inl m
      | inr k ↦ inr (ap (λ (h : History). h.standing) w.2 ∙ stays-told (subst (Keeps (Stays (tells as').standing)) w.1 k))
    ]
