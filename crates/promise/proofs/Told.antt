-- Demand 3 of the code: what a host holds after any calls on fresh tables is seen as the believed machine after the asks, so each of its theorems is one of the code.
use Prim.Native.Nat.{ℕ}
use native.Mathlib.Omega.{arith}
use mathlib.Core.Path.{◌≡◌, refl, sym, ap, ◌∙◌, subst}
use mathlib.Core.List.{List, [], ◌∷◌, ◌++◌}
use lib.ListN.{length}
use Rattle.std.proofs.lemmas.Bool.{false≢true}
use Rattle.value.specs.declared.refusal.Refusal.{Refusal}
use Rattle.value.specs.Answer.{Answer, ok, refused, ◌>>=◌}
use Rattle.value.specs.Refusal.{frame_gone, number_of}
use Rattle.value.specs.Value.{IrType, kind_of, size}
use Rattle.value.proofs.Truth.{is_true}
use Rattle.image.specs.Program.{Program, Instruction}
use Rattle.memory.specs.Memory.{Memory, read_bytes, write_bytes}
use Rattle.memory.specs.Tables.{State}
use Rattle.machine.specs.Machine.{Machine, pointer_of, value_of, with_memory, host_read, host_write}
use Rattle.machine.specs.Believed.{believed}
use Rattle.machine.specs.Sound.{sound}
use Rattle.machine.specs.Asks.{Ask, to_read, to_write, to_start, to_step, to_list, done, refusal, changes, shows, ask, Turn}
use Rattle.machine.specs.Entries.{enter}
use Rattle.machine.specs.Demand.{Accepted, state_after, tells, reply, Why, AtRead, AtCopy, At, stepped}
use Rattle.machine.specs.History.{made_at, bytes_from}
use Rattle.machine.proofs.Demand.{always_sound, granted_exactly_when_right, bytes_are_last_stored, bytes_of_constants, refused_with_its_number, gone_exactly_when_ended, writes_stay_apart, listing_is_told, steps_granted_exactly_when_right, steps_read_last_stored, copies-refused, copies_last_stored, refused_ever_after}
use Rattle.machine.proofs.Tells.{calls_begin, starts_make_slots, returns-end, writes-store, initializes_make}
use Rattle.agree.specs.Seen.{seen, room}
use Rattle.agree.proofs.Entries as Entries
use Rattle.promise.specs.Calls.{Call, call_read, call_write, call_step, call_list, call, shown, Good, Asks, reading, writing, stepping, listing, Tells, asked, passed, left_by}
use Rattle.promise.specs.Promised.{After, Image, read_of, CodeGrantsExactlyWhenRight, CodeReadsLastStored, CodeReadsConstants, CodeRefusesWithItsNumber, CodeGoneExactlyWhenEnded, CodeWritesStayApart, CodeListsAsTold, step_of, CodeStepsGrantExactlyWhenRight, CodeStepsReadLastStored, CodeCopiesRefused, CodeCopiesLastStored, CodeGoesOn, CodeCallsBegin, CodeStartsMakeSlots, CodeReturnsEnd, CodeWritesStore, CodeInitializesMake, CodeRefusesEverAfter}
use Rattle.promise.proofs.Answers.{entries_answer}
use Rattle.promise.proofs.Sequence.{fresh_follows, tells-accepted}

module _ (as' : List Ask) (t : State) (after : After as' t) where
  -- a call's reply is that of the believed machine after the asks
  reply-same : (c : Call) (a : Ask) → Asks c a → (call c t).reply ≡ (enter a (state_after as')).reply
  reply-same c a q =
      let f = fresh_follows as' t after in
      ap (λ (x : Turn Memory). x.reply) (entries_answer c a q t f.1).same ∙ ap (λ s. (enter a s).reply) f.0

  read_same : (s : List ℕ) (P : Program) → Image s P → (p : ℕ) (buffer : List ℕ) → read_of t s p buffer ≡ reply as' P p (length buffer)
  read_same s P i p buffer = reply-same (call_read s p buffer) (to_read P p (length buffer)) (reading i.bytes i.taken)

  pub accepted : Accepted as'
  accepted = tells-accepted after.calls as' after.tell

pub code_grants_exactly_when_right : CodeGrantsExactlyWhenRight
code_grants_exactly_when_right as' t after s P i p buffer =
    rw (read_same as' t after s P i p buffer) (granted_exactly_when_right as' (accepted as' t after) P p (length buffer))

pub code_reads_last_stored : CodeReadsLastStored
code_reads_last_stored as' t after s P i p buffer f j o bs at e =
    bytes_are_last_stored as' (accepted as' t after) P p (length buffer) f j o bs at (sym (read_same as' t after s P i p buffer) ∙ e)

pub code_reads_constants : CodeReadsConstants
code_reads_constants as' t after s P i p buffer k bs at e =
    bytes_of_constants as' (accepted as' t after) P p (length buffer) k bs at (sym (read_same as' t after s P i p buffer) ∙ e)

pub code_refuses_with_its_number : CodeRefusesWithItsNumber
code_refuses_with_its_number as' t after s P i p buffer k =
    rw (read_same as' t after s P i p buffer) (refused_with_its_number as' (accepted as' t after) P p (length buffer) k)

pub code_gone_exactly_when_ended : CodeGoneExactlyWhenEnded
code_gone_exactly_when_ended as' t after s P i p buffer =
    rw (read_same as' t after s P i p buffer) (gone_exactly_when_ended as' (accepted as' t after) P p (length buffer))

-- a write that is done is the memory's own
write_done_lem : (S : Machine Memory) (p : ℕ) (bs : List ℕ) → (ask believed (to_write p bs) S).reply ≡ done
    → (m : Memory) × (write_bytes S.memory p bs ≡ ok m) × ((ask believed (to_write p bs) S).machine.memory ≡ m)
unfolding ask host_write changes ◌>>=◌
write_done_lem S p bs e = go (write_bytes S.memory p bs) refl e
  where
    go : (x : Answer Memory) → write_bytes S.memory p bs ≡ x → (changes S done (x >>= λ m. ok (with_memory believed S m))).reply ≡ done
        → (m : Memory) × (write_bytes S.memory p bs ≡ ok m) × ((changes S done (x >>= λ m. ok (with_memory believed S m))).machine.memory ≡ m)
    go (ok m) h e = (m, h, refl)
    go (refused k) h e = absurd (false≢true cc)

-- a read's reply is by the bytes that the memory reads
read_by : (S S' : Machine Memory) (P : Program) (q n : ℕ) → read_bytes P.constants S.memory q n ≡ read_bytes P.constants S'.memory q n
    → (ask believed (to_read P q n) S).reply ≡ (ask believed (to_read P q n) S').reply
unfolding ask host_read shows
read_by S S' P q n e = ap (λ (x : Answer (List ℕ)). (shows S x).reply) e ∙ alike (read_bytes P.constants S'.memory q n)
  where
    alike : (x : Answer (List ℕ)) → (shows S x).reply ≡ (shows S' x).reply
    alike (ok bs) = refl
    alike (refused k) = refl

-- on a good state 10 is not given
ask-same : (c : Call) (a : Ask) → Asks c a → (u : State) → Good u → shown (call c u) ≡ ask believed a (seen u)
ask-same c a x u g = (entries_answer c a x u g).same ∙ Entries.asked u g.sound g.bytes a

pub code_writes_stay_apart : CodeWritesStayApart
code_writes_stay_apart as' t after p q f j o f' j' o' bs b e at_p at-q apart s P i buffer =
    let n = length buffer in
    let constants = P.constants in
    let (same, good) = fresh_follows as' t after in
    let left : State = (call (call_write p bs) t).left in
    let w : shown (call (call_write p bs) t) ≡ ask believed (to_write p bs) (seen t) = ask-same (call_write p bs) (to_write p bs) (writing b) t good in
    let (m, wrote, is) = write_done_lem (seen t) p bs (sym (ap (λ (x : Turn Memory). x.reply) w) ∙ e) in
    let stays = writes_stay_apart as' (accepted as' t after) p q f j o f' j' o' bs m (subst (λ (z : Machine Memory). write_bytes z.memory p bs ≡ ok m) same wrote) at_p at-q apart constants n in
    let reads : read_bytes constants (seen left).memory q n ≡ read_bytes constants (seen t).memory q n =
    ap (λ (z : Memory). read_bytes constants z q n) (ap (λ (x : Turn Memory). x.machine.memory) w ∙ is) ∙ stays ∙ ap (λ (z : Machine Memory). read_bytes constants z.memory q n) (sym same) in
    let reads_as : (u : State) → Good u → read_of u s q buffer ≡ (ask believed (to_read P q n) (seen u)).reply =
    λ u g. ap (λ (x : Turn Memory). x.reply) (ask-same (call_read s q buffer) (to_read P q n) (reading i.bytes i.taken) u g) in
    reads_as left (entries_answer (call_write p bs) (to_write p bs) (writing b) t good).good ∙ read_by (seen left) (seen t) P q n reads ∙ sym (reads_as t good)

pub code_lists_as_told : CodeListsAsTold
code_lists_as_told as' t after l f a o fits =
    reply-same as' t after (call_list l f a o) (to_list (room l f a o)) listing ∙ listing_is_told as' (accepted as' t after) (room l f a o) fits

-- ---- a step's reads

module _ (as' : List Ask) (t : State) (after : After as' t) (s : List ℕ) (P : Program) (i : Image s P) where
  step_same : shown (step_of t s) ≡ stepped as' P
  step_same =
      let f = fresh_follows as' t after in
      (entries_answer (call_step s) (to_step P) (stepping i.bytes i.taken) t f.1).same ∙ ap (enter (to_step P)) f.0

  step-reply : (step_of t s).reply ≡ (stepped as' P).reply
  step-reply = ap (λ (x : Turn Memory). x.reply) step_same

  at_read : {to : ℕ} {type : IrType} {p : ℕ} → AtRead (seen t) P to type p → AtRead (state_after as') P to type p
  at_read {to} {type} {p} r = subst (λ (z : Machine Memory). AtRead z P to type p) (fresh_follows as' t after).0 r

  at_copy : {q p n : ℕ} → AtCopy (seen t) P q p n → AtCopy (state_after as') P q p n
  at_copy {q} {p} {n} c = subst (λ (z : Machine Memory). AtCopy z P q p n) (fresh_follows as' t after).0 c

pub code_steps_grant_exactly_when_right : CodeStepsGrantExactlyWhenRight
code_steps_grant_exactly_when_right as' t after s P i to type p r =
    rw (step-reply as' t after s P i) (steps_granted_exactly_when_right as' (accepted as' t after) P to type p (at_read as' t after s P i r))

pub code_steps_read_last_stored : CodeStepsReadLastStored
code_steps_read_last_stored as' t after s P i to type p f j o r at d =
    let x = steps_read_last_stored as' (accepted as' t after) P to type p f j o (at_read as' t after s P i r) at (sym (step-reply as' t after s P i) ∙ d) in
    (x.0, x.1, ap (λ (z : Turn Memory). z.machine.vars to) (step_same as' t after s P i) ∙ x.2)

pub code_copies_refused : CodeCopiesRefused
code_copies_refused as' t after s P i q p n k c w = step-reply as' t after s P i ∙ copies-refused as' (accepted as' t after) P q p n k (at_copy as' t after s P i c) w

pub code_copies_last_stored : CodeCopiesLastStored
code_copies_last_stored as' t after s P i q p n f j o c at d =
    let bs = bytes_from (made_at (tells as').made f j) o n in
    ap (λ (z : Machine Memory). write_bytes z.memory q bs) (fresh_follows as' t after).0
    ∙ copies_last_stored as' (accepted as' t after) P q p n f j o (at_copy as' t after s P i c) at (sym (step-reply as' t after s P i) ∙ d)
    ∙ ap (λ (z : Turn Memory). ok z.machine.memory) (sym (step_same as' t after s P i))

-- ---- what is done tells

one_more_lem : (cs : List Call) (as' : List Ask) → Tells cs as' → (c : Call) (a : Ask) → Asks c a → Tells (cs ++ (c ∷ [])) (as' ++ (a ∷ []))
one_more_lem cs as' Tells.no_more c a q = asked q Tells.no_more
one_more_lem cs as' (asked {cs = rest} {as' = more} x w) c a q = asked x (one_more_lem rest more w c a q)
one_more_lem cs as' (passed {cs = rest} x w) c a q = passed x (one_more_lem rest as' w c a q)

left_one_more : (cs : List Call) (c : Call) (t : State) → left_by (cs ++ (c ∷ [])) t ≡ (call c (left_by cs t)).left
unfolding left_by
left_one_more [] c t = refl
left_one_more (x ∷ cs) c t = left_one_more cs c (call x t).left

pub code_goes_on : CodeGoesOn
code_goes_on as' t after c a q = record {
  first = after.first;
  fresh = after.fresh;
  calls = after.calls ++ (c ∷ []);
  tell = one_more_lem after.calls as' after.tell c a q;
  left = left_one_more after.calls c after.first ∙ ap (λ (u : State). (call c u).left) after.left;
}

module _ (as' : List Ask) (t : State) (after : After as' t) (s : List ℕ) (P : Program) (i : Image s P) where
  at-instruction : (x : Instruction) → At (seen t) P x → At (state_after as') P x
  at-instruction x at = subst (λ (z : Machine Memory). At z P x) (fresh_follows as' t after).0 at

  step-done : (step_of t s).reply ≡ done → (stepped as' P).reply ≡ done
  step-done d = sym (step-reply as' t after s P i) ∙ d

pub code_calls_begin : CodeCallsBegin
code_calls_begin as' t after s P i to context f arguments return_pointer at d =
    calls_begin as' (accepted as' t after) P to context f arguments return_pointer (at-instruction as' t after s P i _ at) (step-done as' t after s P i d)

pub code_starts_make_slots : CodeStartsMakeSlots
code_starts_make_slots as' t after c P f context gs q d = starts_make_slots as' (accepted as' t after) P f context gs (sym (reply-same as' t after c (to_start P f context gs) q) ∙ d)

pub code_returns_end : CodeReturnsEnd
code_returns_end as' t after s P i x at d = returns-end as' (accepted as' t after) P x (at-instruction as' t after s P i _ at) (step-done as' t after s P i d)

pub code_writes_store : CodeWritesStore
code_writes_store as' t after s P i x y p f j o v at through what place d =
    let same = (fresh_follows as' t after).0 in
    writes-store as' (accepted as' t after) P x y p f j o v (at-instruction as' t after s P i _ at)
    (ap (λ (z : Machine Memory). pointer_of z.vars x) (sym same) ∙ through) (ap (λ (z : Machine Memory). value_of z.vars y) (sym same) ∙ what) place (step-done as' t after s P i d)

pub code_initializes_make : CodeInitializesMake
code_initializes_make as' t after s P i to n bs at d =
    let x = initializes_make as' (accepted as' t after) P to n bs (at-instruction as' t after s P i _ at) (step-done as' t after s P i d) in
    (x.0, ap (λ (z : Turn Memory). z.machine.vars to) (step_same as' t after s P i) ∙ x.1)

-- a write that the memory refuses is refused by the entry
write-refused : (as' : List Ask) → Accepted as' → (p : ℕ) (k : Refusal) (bs : List ℕ) → write_bytes (state_after as').memory p bs ≡ refused k → (enter (to_write p bs) (state_after as')).reply ≡ refusal k
unfolding enter ask host_write changes ◌>>=◌
write-refused as' h p k bs e = rw (is_true (sound (state_after as')) (always_sound as' h), e) refl

pub code_refuses_ever_after : CodeRefusesEverAfter
code_refuses_ever_after as' bs' cs' t after p f j o at end =
    let asks = (as' ++ bs') ++ cs' in
    let fine = accepted asks t after in
    let gone = refused_ever_after as' bs' cs' fine p f j o at end in
    let why : (P : Program) (n : ℕ) → Why (tells asks) P p n frame_gone = λ P n. (refused_with_its_number asks fine P p n frame_gone).0 (gone.0 P n) in (
      (λ s P i buffer. read_same asks t after s P i p buffer ∙ gone.0 P (length buffer)),
      (λ bs b. reply-same asks t after (call_write p bs) (to_write p bs) (writing b) ∙ write-refused asks fine p frame_gone bs (gone.2 bs)),
      (λ s P i to type r. ((code_steps_grant_exactly_when_right asks t after s P i to type p r).1 frame_gone (λ e. absurd (omega (arith, ap number_of e)))).1 (why P (size (kind_of type)))),
      (λ s P i q n c. code_copies_refused asks t after s P i q p n frame_gone c (why P n)),
    )
