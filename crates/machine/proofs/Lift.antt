-- A machine over one memory and a machine over another that is alike: whatever is asked, the replies are the same. By cases of the ask and of
-- the instruction, each a chain of answers that are alike.
use Prim.Native.Nat.{ℕ, zero, suc, ◌+◌}
use mathlib.Core.Bool.{Bool, true, false}
use mathlib.Core.Path.{◌≡◌, refl, ap₂, subst}
use mathlib.Core.List.{List, [], ◌∷◌}
use mathlib.Core.Option.{Option}
use lib.ListN.{length}
use lib.Dec.{leb}
use Rattle.value.specs.declared.refusal.Refusal.{Refusal}
use Rattle.value.specs.Refusal.{bytes_exceed_size}
use Rattle.value.specs.Answer.{Answer, ok, refused, need, ◌>>=◌}
use Rattle.value.specs.Value.{Value, value, pointer, kind_of, size, bytes_of}
use Rattle.image.specs.Program.{Program, Operand, Slot, function_at, Instruction, Jump, Switch, Assign, ConstantAddress, Call, Return, IntCmp', FloatCmp', Add, Sub, Mul, Div, Mod, FDiv, Not, Negate, Offset, Initialize, Write, Read, Copy, Drop}
use Rattle.memory.specs.Memory.{Back}
use Rattle.machine.specs.Machine.{Memories, Vars, set_to, Machine, Stepped, went, ended, Outcome, Ran, set_returned, make_slots, sets₁, sets₂, leave, execute, step, after, run_from, run, step_once, fresh, host_allocate, host_write, host_read, start, host_list}
use Rattle.memory.specs.Live.{Live}
use Rattle.machine.specs.Alike.{Alike, both_ok, both-refused, BackAlike, both_root, both-back, Likened}
use Rattle.machine.specs.Asks.{Ask, to_allocate, to_write, to_read, to_start, to_step, to_run, to_list, Reply, Turn, changes, shows, steps, goes, lays, ask, replies, following}

-- ---- answers that are alike

pub alike_need : {A B : Type 0} (R : A → B → Type 0) (b : Bool) (n : Refusal) {x : Answer A} {y : Answer B} → Alike R x y → Alike R (need b n x) (need b n y)
unfolding need
alike_need R true n a = a
alike_need R false n a = both-refused

-- the same answer, and then what is alike whatever it is
pub alike_after : {A B C : Type 0} (R : A → B → Type 0) (c : Answer C) {f : C → Answer A} {g : C → Answer B} → ((x : C) → Alike R (f x) (g x)) → Alike R (c >>= f) (c >>= g)
unfolding ◌>>=◌
alike_after R (ok x) k = k x
alike_after R (refused n) k = both-refused

pub alike_then : {A B C D : Type 0} (Q : C → D → Type 0) (R : A → B → Type 0) {c : Answer C} {d : Answer D} {f : C → Answer A} {g : D → Answer B}
    → Alike Q c d → ((x : C) (y : D) → Q x y → Alike R (f x) (g y)) → Alike R (c >>= f) (d >>= g)
unfolding ◌>>=◌
alike_then Q R (both_ok {a} {b} q) k = k a b q
alike_then Q R both-refused k = both-refused

module _ {M H : Type 0} {A : Memories M} {B : Memories H} {R : M → H → Type 0} (L : Likened A B R) where
  -- all but the memory is the same
  pub data Twin : Machine M → Machine H → Type 0 where
    twin : {m : M} {h : H} {running : Bool} {place : ℕ} {vars : Vars} → R m h
        → Twin (record { memory = m; running = running; place = place; vars = vars }) (record { memory = h; running = running; place = place; vars = vars })

  pub data Twins : Stepped M → Stepped H → Type 0 where
    both-went : {s : Machine M} {t : Machine H} → Twin s t → Twins (went s) (went t)
    both-ended : {v : Option Value} {s : Machine M} {t : Machine H} → Twin s t → Twins (ended v s) (ended v t)

  pub data Held : M × Vars → H × Vars → Type 0 where
    held : {m : M} {h : H} {vs : Vars} → R m h → Held (m, vs) (h, vs)

  slots_alike : (xs : List Slot) {m : M} {h : H} (vs : Vars) → R m h → Alike Held (make_slots A xs m vs) (make_slots B xs h vs)
  unfolding make_slots
  slots_alike [] vs r = both_ok (held r)
  slots_alike (x ∷ xs) {m} {h} vs r =
      alike_then R Held (L.allocate r x.size)
      (λ m' h' r'. subst (λ (k : ℕ). Alike Held (make_slots A xs m' (set_to vs x.var (value pointer (A.given m)))) (make_slots B xs h' (set_to vs x.var (value pointer k)))) (L.given r)
      (slots_alike xs (set_to vs x.var (value pointer (A.given m))) r'))

  held_then : {C D : Type 0} (Q : C → D → Type 0) {c : Answer (M × Vars)} {d : Answer (H × Vars)} (f : M × Vars → Answer C) (g : H × Vars → Answer D)
      → Alike Held c d → ((m : M) (h : H) (vs : Vars) → R m h → Alike Q (f (m, vs)) (g (h, vs))) → Alike Q (c >>= f) (d >>= g)
  unfolding ◌>>=◌
  held_then Q f g (both_ok (held {m} {h} {vs} r)) k = k m h vs r
  held_then Q f g both-refused k = both-refused

  leave_alike : {s : Machine M} {t : Machine H} → Twin s t → (v : Option Value) {a : Option (Back × M)} {b : Option (Back × H)} → BackAlike R a b → Alike Twins (leave A s v a) (leave B t v b)
  unfolding leave
  leave_alike (twin r) v both_root = both_ok (both-ended (twin r))
  leave_alike (twin {vars = vars} r) v (both-back {back} r') = alike_after Twins (set_returned vars back.var v) (λ vs. both_ok (both-went (twin r')))

  sets₁_alike : {s : Machine M} {t : Machine H} → Twin s t → (to : ℕ) (f : Value → Answer Value) (x : Operand) → Alike Twins (sets₁ A s to f x) (sets₁ B t to f x)
  sets₁_alike (twin r) to f x = alike_after Twins _ (λ a. alike_after Twins _ (λ v. both_ok (both-went (twin r))))

  sets₂_alike : {s : Machine M} {t : Machine H} → Twin s t → (to : ℕ) (f : Value → Value → Answer Value) (x y : Operand) → Alike Twins (sets₂ A s to f x y) (sets₂ B t to f x y)
  sets₂_alike (twin r) to f x y = alike_after Twins _ (λ a. alike_after Twins _ (λ b. alike_after Twins _ (λ v. both_ok (both-went (twin r)))))

  execute_alike : (P : Program) {s : Machine M} {t : Machine H} → Twin s t → (i : Instruction) → Alike Twins (execute A P s i) (execute B P t i)
  unfolding execute
  execute_alike P (twin r) (Jump label) = both_ok (both-went (twin r))
  execute_alike P (twin r) (Switch x branches default) = alike_after Twins _ (λ v. alike_after Twins _ (λ n. both_ok (both-went (twin r))))
  execute_alike P (twin r) (Assign to x type) = alike_after Twins _ (λ v. both_ok (both-went (twin r)))
  execute_alike P (twin r) (ConstantAddress to k) = alike_then R Twins (L.address r k) (λ m h r'. rw (L.given r) (both_ok (both-went (twin r'))))
  execute_alike P (twin r) (Call to context f arguments return_pointer) =
      alike_then R Twins (L.push r _) (λ m h r₁.
      held_then Twins _ _ (slots_alike (function_at P f).slots _ r₁) (λ m₁ h₁ vs₁ r₂.
      alike_after Twins _ (λ vs₂. alike_after Twins _ (λ vs₃. alike_after Twins _ (λ vs₄. both_ok (both-went (twin r₂)))))))
  execute_alike P (twin r) (Return x) = alike_after Twins _ (λ v. leave_alike (twin r) v (L.pop r))
  execute_alike P w (IntCmp' to cmp x y) = sets₂_alike w to _ x y
  execute_alike P w (FloatCmp' to cmp x y) = sets₂_alike w to _ x y
  execute_alike P w (Add to x y) = sets₂_alike w to _ x y
  execute_alike P w (Sub to x y) = sets₂_alike w to _ x y
  execute_alike P w (Mul to x y) = sets₂_alike w to _ x y
  execute_alike P w (Div to signed x y) = sets₂_alike w to _ x y
  execute_alike P w (Mod to signed x y) = sets₂_alike w to _ x y
  execute_alike P w (FDiv to x y) = sets₂_alike w to _ x y
  execute_alike P w (Not to x) = sets₁_alike w to _ x
  execute_alike P w (Negate to x) = sets₁_alike w to _ x
  execute_alike P (twin r) (Offset to x d) = alike_after Twins _ (λ p. alike_then R Twins (L.offset r p d) (λ m h r'. rw (L.given r) (both_ok (both-went (twin r')))))
  execute_alike P (twin r) (Initialize to n bytes) = alike_need Twins (leb (length bytes) n) bytes_exceed_size
      (alike_then R Twins (L.allocate r n) (λ m h r₁. rw (L.given r)
      (alike_then R Twins (L.write r₁ _ bytes) (λ m' h' r₂. both_ok (both-went (twin r₂))))))
  execute_alike P (twin r) (Write x y) = alike_after Twins _ (λ p. alike_after Twins _ (λ v. alike_then R Twins (L.write r p (bytes_of v)) (λ m h r'. both_ok (both-went (twin r')))))
  execute_alike P (twin r) (Read to x type) = alike_after Twins _ (λ p. rw (L.read r P.constants p (size (kind_of type)))
      (alike_after Twins _ (λ bytes. alike_after Twins _ (λ v. both_ok (both-went (twin r))))))
  execute_alike P (twin r) (Copy x y n) = alike_after Twins _ (λ to. alike_after Twins _ (λ from. rw (L.read r P.constants from n)
      (alike_after Twins _ (λ bytes. alike_then R Twins (L.write r to bytes) (λ m h r'. both_ok (both-went (twin r')))))))
  execute_alike P (twin r) (Drop x) = both_ok (both-went (twin r))

  pub step_alike : (P : Program) {s : Machine M} {t : Machine H} → Twin s t → Alike Twins (step A P s) (step B P t)
  unfolding step
  step_alike P (twin r) = alike_after Twins _ (λ i. execute_alike P (twin r) i)

  -- ---- runs

  pub data BothRan : Ran M → Ran H → Type 0 where
    both-ran : {o : Outcome} {n : ℕ} {s : Machine M} {t : Machine H} → Twin s t → BothRan (record { outcome = o; count = n; machine = s }) (record { outcome = o; count = n; machine = t })

  after_alike : {s : Machine M} {t : Machine H} → Twin s t → (done : ℕ) {a : Answer (Stepped M)} {b : Answer (Stepped H)} → Alike Twins a b
      → (f : Machine M → Ran M) (g : Machine H → Ran H) → ((s' : Machine M) (t' : Machine H) → Twin s' t' → BothRan (f s') (g t')) → BothRan (after A s done a f) (after B t done b g)
  unfolding after
  after_alike w done (both_ok (both-went w')) f g k = k _ _ w'
  after_alike w done (both_ok (both-ended w')) f g k = both-ran w'
  after_alike w done both-refused f g k = both-ran w

  run_from_alike : (P : Program) (left done : ℕ) {s : Machine M} {t : Machine H} → Twin s t → BothRan (run_from A P left done s) (run_from B P left done t)
  unfolding run_from
  run_from_alike P zero done w = both-ran w
  run_from_alike P (suc left) done w = after_alike w done (step_alike P w) _ _ (λ s' t' w'. run_from_alike P left (done + 1) w')

  -- ---- asks

  pub data Replied : Turn M → Turn H → Type 0 where
    replied : {r : Reply} {s : Machine M} {t : Machine H} → Twin s t → Replied (record { reply = r; machine = s }) (record { reply = r; machine = t })

  changes_alike : {s : Machine M} {t : Machine H} → Twin s t → (r : Reply) {a : Answer (Machine M)} {b : Answer (Machine H)} → Alike Twin a b → Replied (changes s r a) (changes t r b)
  unfolding changes
  changes_alike w r (both_ok w') = replied w'
  changes_alike w r both-refused = replied w

  shows_alike : {s : Machine M} {t : Machine H} → Twin s t → (a : Answer (List ℕ)) → Replied (shows s a) (shows t a)
  unfolding shows
  shows_alike w (ok bs) = replied w
  shows_alike w (refused n) = replied w

  steps_alike : {s : Machine M} {t : Machine H} → Twin s t → {a : Answer (Stepped M)} {b : Answer (Stepped H)} → Alike Twins a b → Replied (steps s a) (steps t b)
  unfolding steps
  steps_alike w (both_ok (both-went w')) = replied w'
  steps_alike w (both_ok (both-ended w')) = replied w'
  steps_alike w both-refused = replied w

  goes_alike : {s : Machine M} {t : Machine H} → Twin s t → {a : Answer (Ran M)} {b : Answer (Ran H)} → Alike BothRan a b → Replied (goes s a) (goes t b)
  unfolding goes
  goes_alike w (both_ok (both-ran w')) = replied w'
  goes_alike w both-refused = replied w

  lays_alike : {s : Machine M} {t : Machine H} → Twin s t → (a : Answer (List Live)) → Replied (lays s a) (lays t a)
  unfolding lays
  lays_alike w (ok ls) = replied w
  lays_alike w (refused n) = replied w

  pub ask_alike : (a : Ask) {s : Machine M} {t : Machine H} → Twin s t → Replied (ask A a s) (ask B a t)
  unfolding ask host_allocate host_write host_read start step_once run host_list
  ask_alike (to_allocate n) (twin r) = rw (L.given r) (changes_alike (twin r) _ (alike_then R Twin (L.allocate r n) (λ m h r'. both_ok (twin r'))))
  ask_alike (to_write p bs) (twin r) = changes_alike (twin r) _ (alike_then R Twin (L.write r p bs) (λ m h r'. both_ok (twin r')))
  ask_alike (to_read P p n) (twin r) = rw (L.read r P.constants p n) (shows_alike (twin r) _)
  ask_alike (to_start P f context gs) (twin r) = changes_alike (twin r) _
      (alike_need Twin _ _ (alike_need Twin _ _ (alike_need Twin _ _ (alike_need Twin _ _
      (held_then Twin _ _ (slots_alike (function_at P f).slots _ r) (λ m h vs r'. both_ok (twin r')))))))
  ask_alike (to_step P) (twin r) = steps_alike (twin r) (alike_need Twins _ _ (step_alike P (twin r)))
  ask_alike (to_run P budget) (twin r) = goes_alike (twin r) (alike_need BothRan _ _ (both_ok (run_from_alike P budget 0 (twin r))))
  ask_alike (to_list room) (twin r) = rw (L.given r, L.listing r) (lays_alike (twin r) _)

  pub fresh_alike : Twin (fresh A) (fresh B)
  unfolding fresh
  fresh_alike = twin L.none_yet

  next-reply : {x : Turn M} {y : Turn H} → Replied x y → x.reply ≡ y.reply
  next-reply (replied w) = refl

  next_twin : {x : Turn M} {y : Turn H} → Replied x y → Twin x.machine y.machine
  next_twin (replied w) = w

  -- Any asks, each with any program, have the same replies.
  pub replies_alike : (as' : List Ask) {s : Machine M} {t : Machine H} → Twin s t → replies A as' s ≡ replies B as' t
  unfolding replies
  replies_alike [] w = refl
  replies_alike (a ∷ as') w = ap₂ (λ (r : Reply) (rs : List Reply). r ∷ rs) (next-reply (ask_alike a w)) (replies_alike as' (next_twin (ask_alike a w)))

  pub following_alike : (as' : List Ask) {s : Machine M} {t : Machine H} → Twin s t → Twin (following A as' s) (following B as' t)
  unfolding following
  following_alike [] w = w
  following_alike (a ∷ as') w = following_alike as' (next_twin (ask_alike a w))

  pub memories_alike : {s : Machine M} {t : Machine H} → Twin s t → R s.memory t.memory
  memories_alike (twin r) = r
