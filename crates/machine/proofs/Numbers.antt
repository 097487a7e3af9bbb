-- The refusal numbers that each instruction and each entry can give: a walk over the chains of checks, where each number is found in its list.
use Prim.Native.Nat.{ℕ, zero, suc, ◌+◌, ◌<◌, ◌≤◌}
use mathlib.Core.Bool.{Bool, true, false}
use mathlib.Core.Path.{◌≡◌, refl, sym, subst}
use mathlib.Core.List.{List, [], ◌∷◌, ◌++◌}
use mathlib.Core.Option.{Option, none, some}
use lib.ListN.{length, get_elem?}
use lib.Dec.{T, ltb, leb, eqb, leb→le, eqb→eq}
use mir.Facts.{and_yes, or_yes}
use mathlib.Core.Logic.{inl, inr}
use Rattle.value.specs.declared.refusal.Refusal.{Refusal}
use Rattle.value.specs.Refusal as Refusal
use Rattle.value.specs.Refusal.{not_sound, no_instruction, never_set, wrong_kinds, outside_width, zero_divisor, not_given_out, through_constant, frame_gone, no_allocation, beyond_length, misaligned, not_bool, no_return_place, offset_too_large, frames_full, ids_spent, allocations_full, bytes_full, pointers_full, no_constant, number_of}
use Rattle.value.specs.Answer.{Answer, ok, refused, need, found, pick, ◌>>=◌}
use Rattle.value.specs.Value.{Value, Kind, kind_of, size, Operation, add, sub, mul, div, mod', Family, unsigned, signed, floating, neither, family, negate_as, checked, operate, arithmetic, divide_floats, negated, notted, equality, unsigned_order, signed_order, float_order, IntCmp, Eq, Ne, ULt, ULe, UGt, UGe, SLt, SLe, SGt, SGe, FloatCmp, FEq, FNe, FLt, FLe, FGt, FGe, compare_ints, compare_floats, switch_on, bytes_of, from_bytes}
use lib.IntN.{ℤ}
use Rattle.std.proofs.lemmas.Bool.{false≢true}
use Rattle.image.specs.Program.{Program, Operand, variable, literal, Slot, function_at, code, Instruction, Jump, Switch, Assign, ConstantAddress, Call, Return, IntCmp', FloatCmp', Add, Sub, Mul, Div, Mod, FDiv, Not, Negate, Offset, Initialize, Write, Read, Copy, Drop}
use Rattle.memory.specs.Memory as Memory
use Rattle.memory.specs.Live.{Live}
use Rattle.memory.specs.Memory.{Memory, Back, Frame, Pointer, constant, local, pointer_at, live_count, live_bytes, allocate, constant_address, offset_at, offset_by, read_constant, read_at, read_bytes, write_at, write_bytes, push_frame}
use Rattle.machine.specs.Machine.{Machine, Vars, Stepped, went, ended, set_to, value_of, as_pointer, pointer_of, set_from, set_arguments, as_variable, value_if, set_returned, make_slots, sets₁, sets₂, leave, execute, step, Ran, stopped, after, run_from, run, step_once, host_allocate, host_write, host_read, start, host_list}
use Rattle.machine.specs.Believed.{believed}
use Rattle.machine.specs.Entries.{enter}
use Rattle.machine.specs.Asks.{Ask, to_allocate, to_write, to_read, to_start, to_step, to_run, to_list, Reply, ran, refusal, turn, changes, shows, steps, goes, lays, ask}
use Rattle.machine.specs.Accepted.{accepted}
use Rattle.machine.specs.Sound.{all, sound}
use Rattle.machine.specs.Promises.{is_among, room_refusals, access_refusals, instruction_refusals, step_refusals, run_refusals, entry_refusals, InstructionsGive, EntriesGive, RunsStopWith}
use Rattle.machine.proofs.Agree.{need-ok, ok_inj}
use Rattle.machine.proofs.Initialize.{granted}
use Rattle.machine.proofs.Values.{Keeps, kept}
use Rattle.machine.proofs.Kept.{Held, HeldStep, held-went, held-ended, step-held}
use Rattle.machine.proofs.SoundMemory.{later_same, sounds_kept}
use Rattle.machine.proofs.Sound.{sound-held, sound_root}

-- an answer, or a refusal with one of these numbers
pub data Only {A : Type 0} (ns : List Refusal) : Answer A → Type 0 where
  answered : {a : A} → Only ns (ok a)
  one_of : {k : Refusal} → T (is_among k ns) → Only ns (refused k)

only_need : {A : Type 0} (ns : List Refusal) (b : Bool) (n : Refusal) {a : Answer A} → T (is_among n ns) → (T b → Only ns a) → Only ns (need b n a)
unfolding need
only_need ns true n t k = k tt
only_need ns false n t k = one_of t

only_then : {A B : Type 0} (ns : List Refusal) {a : Answer A} {f : A → Answer B} → Only ns a → ((x : A) → a ≡ ok x → Only ns (f x)) → Only ns (a >>= f)
unfolding ◌>>=◌
only_then ns (answered {a}) k = k a refl
only_then ns (one_of t) k = one_of t

only_after : {A B : Type 0} (ns : List Refusal) {a : Answer A} {f : A → Answer B} → Only ns a → ((x : A) → Only ns (f x)) → Only ns (a >>= f)
only_after ns o k = only_then ns o (λ x e. k x)

-- a longer list
subset : List Refusal → List Refusal → Bool
subset ns ms = all (λ k. is_among k ms) ns

-- a list has refusals by their numbers
same_among : (k n : Refusal) (ms : List Refusal) → number_of k ≡ number_of n → is_among k ms ≡ is_among n ms
unfolding is_among
same_among k n [] e = refl
same_among k n (m ∷ ms) e = rw (e, same_among k n ms e) refl

among_subset : (ns ms : List Refusal) (k : Refusal) → T (subset ns ms) → T (is_among k ns) → T (is_among k ms)
unfolding is_among subset all
among_subset [] ms k t u = absurd u
among_subset (n ∷ ns) ms k t u =
    let v = and_yes (is_among n ms) (all (λ k. is_among k ms) ns) t in
    elim (or_yes (eqb (number_of k) (number_of n)) (is_among k ns) u) [ inl e ↦ subst T (sym (same_among k n ms (eqb→eq (number_of k) (number_of n) e))) v.0 | inr r ↦ among_subset ns ms k v.1 r ]

only_more : {A : Type 0} {ns ms : List Refusal} {a : Answer A} → T (subset ns ms) → Only ns a → Only ms a
only_more t answered = answered
only_more {ns = ns} {ms} t (one_of {k} u) = one_of (among_subset ns ms k t u)

-- ---- operands and values

module _ (ns : List Refusal) where
  value_only : T (is_among never_set ns) → (vs : Vars) (o : Operand) → Only ns (value_of vs o)
  unfolding value_of
  value_only t vs (variable x) = go (vs x)
    where
      go : (o : Option Value) → Only ns (found never_set o)
      go none = unfold found in one_of t
      go (some v) = unfold found in answered
  value_only t vs (literal v) = answered

  pointer_only : T (is_among never_set ns) → T (is_among wrong_kinds ns) → (vs : Vars) (o : Operand) → Only ns (pointer_of vs o)
  unfolding pointer_of as_pointer
  pointer_only t u vs o = only_after ns (value_only t vs o) (λ v. only_need ns _ _ u (λ w. answered))

  checked_only : T (is_among outside_width ns) → (k : Kind) (z : ℤ) → Only ns (checked k z)
  unfolding checked
  checked_only t k z = only_need ns _ _ t (λ w. answered)

  operate_only : T (is_among outside_width ns) → T (is_among zero_divisor ns) → (op : Operation) (k : Kind) (a b : ℤ) → Only ns (operate op k a b)
  unfolding operate
  operate_only t u add k a b = checked_only t k _
  operate_only t u sub k a b = checked_only t k _
  operate_only t u mul k a b = checked_only t k _
  operate_only t u div k a b = only_need ns _ _ u (λ w. checked_only t k _)
  operate_only t u mod' k a b = only_need ns _ _ u (λ w. only_after ns (checked_only t k _) (λ q. checked_only t k _))

  divides_only : T (is_among wrong_kinds ns) → T (is_among outside_width ns) → T (is_among zero_divisor ns) → (op : Operation) (x y : Value) → Only ns (arithmetic op x y)
  unfolding arithmetic
  divides_only s t u op x y = only_need ns _ _ s (λ w. operate_only t u op x.kind _ _)

  -- and without 24
  add_only : T (is_among wrong_kinds ns) → T (is_among outside_width ns) → (x y : Value) → Only ns (arithmetic add x y)
  unfolding arithmetic operate
  add_only s t x y = only_need ns _ _ s (λ w. checked_only t x.kind _)

  sub_only : T (is_among wrong_kinds ns) → T (is_among outside_width ns) → (x y : Value) → Only ns (arithmetic sub x y)
  unfolding arithmetic operate
  sub_only s t x y = only_need ns _ _ s (λ w. checked_only t x.kind _)

  mul_only : T (is_among wrong_kinds ns) → T (is_among outside_width ns) → (x y : Value) → Only ns (arithmetic mul x y)
  unfolding arithmetic operate
  mul_only s t x y = only_need ns _ _ s (λ w. checked_only t x.kind _)

  negated_only : T (is_among wrong_kinds ns) → T (is_among outside_width ns) → (v : Value) → Only ns (negated v)
  unfolding negated
  negated_only s t v = go (family v.kind)
    where
      go : (F : Family) → Only ns (negate_as F v)
      go unsigned = one_of s
      go signed = checked_only t v.kind _
      go floating = answered
      go neither = one_of s

  -- the rest of the pure operations refuse with 22 alone
  module _ (t : T (is_among wrong_kinds ns)) where
    divided_only : (x y : Value) → Only ns (divide_floats x y)
    unfolding divide_floats
    divided_only x y = only_need ns _ _ t (λ w. answered)

    notted_only : (v : Value) → Only ns (notted v)
    unfolding notted
    notted_only v = only_need ns _ _ t (λ w. answered)

    switch_only : (v : Value) → Only ns (switch_on v)
    unfolding switch_on
    switch_only v = only_need ns _ _ t (λ w. answered)

    compared_ints_only : (cmp : IntCmp) (x y : Value) → Only ns (compare_ints cmp x y)
    unfolding compare_ints equality unsigned_order signed_order
    compared_ints_only Eq x y = only_need ns _ _ t (λ w. answered)
    compared_ints_only Ne x y = only_need ns _ _ t (λ w. answered)
    compared_ints_only ULt x y = only_need ns _ _ t (λ w. answered)
    compared_ints_only ULe x y = only_need ns _ _ t (λ w. answered)
    compared_ints_only UGt x y = only_need ns _ _ t (λ w. answered)
    compared_ints_only UGe x y = only_need ns _ _ t (λ w. answered)
    compared_ints_only SLt x y = only_need ns _ _ t (λ w. answered)
    compared_ints_only SLe x y = only_need ns _ _ t (λ w. answered)
    compared_ints_only SGt x y = only_need ns _ _ t (λ w. answered)
    compared_ints_only SGe x y = only_need ns _ _ t (λ w. answered)

    compared_floats_only : (cmp : FloatCmp) (x y : Value) → Only ns (compare_floats cmp x y)
    unfolding compare_floats equality float_order
    compared_floats_only FEq x y = only_need ns _ _ t (λ w. answered)
    compared_floats_only FNe x y = only_need ns _ _ t (λ w. answered)
    compared_floats_only FLt x y = only_need ns _ _ t (λ w. answered)
    compared_floats_only FLe x y = only_need ns _ _ t (λ w. answered)
    compared_floats_only FGt x y = only_need ns _ _ t (λ w. answered)
    compared_floats_only FGe x y = only_need ns _ _ t (λ w. answered)

  -- ---- variables

  module _ (t : T (is_among never_set ns)) where
    set_from_only : (vs : Vars) (x : ℕ) (o : Option Operand) → Only ns (set_from vs x o)
    unfolding set_from
    set_from_only vs x none = answered
    set_from_only vs x (some o) = only_after ns (value_only t vs o) (λ v. answered)

    arguments_only : (vs : Vars) (xs : List ℕ) (os : List Operand) → Only ns (set_arguments vs xs os)
    unfolding set_arguments
    arguments_only vs [] os = answered
    arguments_only vs (x ∷ xs) [] = answered
    arguments_only vs (x ∷ xs) (o ∷ os) = only_after ns (value_only t vs o) (λ v. arguments_only (set_to vs x v) xs os)

    value_if_only : (vs : Vars) (o : Option Operand) → Only ns (value_if vs o)
    unfolding value_if
    value_if_only vs none = answered
    value_if_only vs (some o) = only_after ns (value_only t vs o) (λ v. answered)

  -- ---- memory

  allocate_only : T (is_among allocations_full ns) → T (is_among bytes_full ns) → T (is_among pointers_full ns) → (m : Memory) (n : ℕ) → Only ns (allocate m n)
  unfolding allocate
  allocate_only t u v m n = only_need ns _ _ t (λ a. only_need ns _ _ u (λ b. only_need ns _ _ v (λ c. answered)))

  slots_only : T (is_among allocations_full ns) → T (is_among bytes_full ns) → T (is_among pointers_full ns) → (xs : List Slot) (m : Memory) (vs : Vars) → Only ns (make_slots believed xs m vs)
  unfolding make_slots
  slots_only t u v [] m vs = answered
  slots_only t u v (x ∷ xs) m vs = only_after ns (allocate_only t u v m x.size) (λ m'. slots_only t u v xs m' _)

  offset_only : T (is_among not_given_out ns) → T (is_among through_constant ns) → T (is_among offset_too_large ns) → T (is_among pointers_full ns) → (m : Memory) (p d : ℕ) → Only ns (offset_by m p d)
  unfolding offset_by offset_at
  offset_only t u v w m p d = only_need ns _ _ t (λ a. go (pointer_at m p))
    where
      go : (q : Pointer) → Only ns (offset_at m q d)
      go (constant k) = one_of u
      go (local i f j o) = only_need ns _ _ v (λ b. only_need ns _ _ w (λ c. answered))

  access_only : {A : Type 0} → T (is_among frame_gone ns) → T (is_among no_allocation ns) → T (is_among beyond_length ns) → T (is_among misaligned ns)
      → (fs : List Frame) (i f j o n : ℕ) (a : A) → Only ns (Memory.access fs i f j o n (ok a))
  unfolding Memory.access
  access_only t u v w fs i f j o n a = only_need ns _ _ t (λ a. only_need ns _ _ u (λ b. only_need ns _ _ v (λ c. only_need ns _ _ w (λ d. answered))))

  read_only : T (is_among not_given_out ns) → T (is_among no_constant ns) → T (is_among frame_gone ns) → T (is_among no_allocation ns) → T (is_among beyond_length ns) → T (is_among misaligned ns)
      → (constants : List (List ℕ)) (m : Memory) (p n : ℕ) → Only ns (read_bytes constants m p n)
  unfolding read_bytes read_at read_constant
  read_only s c t u v w constants m p n = only_need ns _ _ s (λ a. go (pointer_at m p))
    where
      go : (q : Pointer) → Only ns (read_at constants m.frames q n)
      go (constant k) = only_need ns _ _ c (λ a. only_need ns _ _ v (λ b. answered))
      go (local i f j o) = access_only t u v w m.frames i f j o n _

  write_only : T (is_among not_given_out ns) → T (is_among through_constant ns) → T (is_among frame_gone ns) → T (is_among no_allocation ns) → T (is_among beyond_length ns) → T (is_among misaligned ns)
      → (m : Memory) (p : ℕ) (bs : List ℕ) → Only ns (write_bytes m p bs)
  unfolding write_bytes write_at
  write_only s c t u v w m p bs = only_need ns _ _ s (λ a. go (pointer_at m p))
    where
      go : (q : Pointer) → Only ns (write_at m q bs)
      go (constant k) = one_of c
      go (local i f j o) = access_only t u v w m.frames i f j o (length bs) _

-- ---- instructions

module _ (P : Program) (s : Machine Memory) where
  sets₁_only : (ns : List Refusal) → T (is_among never_set ns) → (to : ℕ) (f : Value → Answer Value) (x : Operand) → ((v : Value) → Only ns (f v)) → Only ns (sets₁ believed s to f x)
  sets₁_only ns t to f x k = only_after ns (value_only ns t s.vars x) (λ a. only_after ns (k a) (λ v. answered))

  sets₂_only : (ns : List Refusal) → T (is_among never_set ns) → (to : ℕ) (f : Value → Value → Answer Value) (x y : Operand) → ((v w : Value) → Only ns (f v w)) → Only ns (sets₂ believed s to f x y)
  sets₂_only ns t to f x y k = only_after ns (value_only ns t s.vars x) (λ a. only_after ns (value_only ns t s.vars y) (λ b. only_after ns (k a b) (λ v. answered)))

  leave_only : (ns : List Refusal) → T (is_among no_return_place ns) → (v : Option Value) (a : Option (Back × Memory)) → Only ns (leave believed s v a)
  unfolding leave
  leave_only ns t v none = answered
  leave_only ns t v (some r) = only_after ns (go r.0.var v) (λ vs. answered)
    where
      go : (to : Option ℕ) (v : Option Value) → Only ns (set_returned s.vars to v)
      go to none = unfold set_returned in answered
      go none (some v) = unfold set_returned in one_of t
      go (some x) (some v) = unfold set_returned in answered

  -- Initialize's own write is granted
  initialized : (ns : List Refusal) → 0 < length s.memory.frames → (n : ℕ) (bytes : List ℕ) → length bytes ≤ n → (m : Memory) → allocate s.memory n ≡ ok m
      → (f : Memory → Answer (Stepped Memory)) → ((m' : Memory) → Only ns (f m')) → Only ns (write_bytes m (length s.memory.pointers) bytes >>= f)
  unfolding allocate ◌>>=◌
  initialized ns root n bytes fits m e f k =
      let e₁ = need-ok (ltb (live_count s.memory.frames) 512) allocations_full _ e in
      let e₂ = need-ok (leb (live_bytes s.memory.frames + n) 32768) bytes_full _ e₁.1 in
      let e₃ = need-ok (ltb (length s.memory.pointers) 4096) pointers_full _ e₂.1 in
      subst (λ (x : Memory). Only ns (write_bytes x (length s.memory.pointers) bytes >>= f)) (ok_inj e₃.1)
      (subst (λ (a : Answer Memory). Only ns (a >>= f)) (sym (granted s.memory n bytes root fits)) (k _))

  execute_only : 0 < length s.memory.frames → (x : Instruction) → Only (instruction_refusals x) (execute believed P s x)
  unfolding execute instruction_refusals is_among
  execute_only root (Jump label) = answered
  execute_only root (Switch x branches default) = only_after _ (value_only _ tt s.vars x) (λ v. only_after _ (switch_only _ tt v) (λ n. answered))
  execute_only root (Assign to x type) = only_after _ (value_only _ tt s.vars x) (λ v. answered)
  execute_only root (ConstantAddress to k) = only_after _ (go k) (λ m. answered)
    where
      go : (k : ℕ) → Only (pointers_full ∷ []) (constant_address s.memory k)
      go k = unfold constant_address in only_need _ _ _ tt (λ t. answered)
  execute_only root (Call to context f arguments return_pointer) =
      only_after _ (pushed _)
      (λ m. only_after _ (slots_only _ tt tt tt (function_at P f).slots m s.vars)
      (λ x. only_after _ (set_from_only _ tt x.1 (function_at P f).return_var (as_variable return_pointer))
      (λ vs₂. only_after _ (set_from_only _ tt vs₂ (function_at P f).context_var context)
      (λ vs₃. only_after _ (arguments_only _ tt vs₃ (function_at P f).parameters arguments) (λ vs₄. answered)))))
    where
      pushed : (b : Back) → Only (frames_full ∷ ids_spent ∷ never_set ∷ room_refusals) (push_frame s.memory b)
      pushed b = unfold push_frame in only_need _ _ _ tt (λ t. only_need _ _ _ tt (λ u. answered))
  execute_only root (Return x) = only_after _ (value_if_only _ tt s.vars x) (λ v. leave_only _ tt v _)
  execute_only root (IntCmp' to cmp x y) = sets₂_only _ tt to _ x y (compared_ints_only _ tt cmp)
  execute_only root (FloatCmp' to cmp x y) = sets₂_only _ tt to _ x y (compared_floats_only _ tt cmp)
  execute_only root (Add to x y) = sets₂_only _ tt to _ x y (add_only _ tt tt)
  execute_only root (Sub to x y) = sets₂_only _ tt to _ x y (sub_only _ tt tt)
  execute_only root (Mul to x y) = sets₂_only _ tt to _ x y (mul_only _ tt tt)
  execute_only root (Div to flag x y) = sets₂_only _ tt to _ x y (divides_only _ tt tt tt div)
  execute_only root (Mod to flag x y) = sets₂_only _ tt to _ x y (divides_only _ tt tt tt mod')
  execute_only root (FDiv to x y) = sets₂_only _ tt to _ x y (divided_only _ tt)
  execute_only root (Not to x) = sets₁_only _ tt to _ x (notted_only _ tt)
  execute_only root (Negate to x) = sets₁_only _ tt to _ x (negated_only _ tt tt)
  execute_only root (Offset to x d) = only_after _ (pointer_only _ tt tt s.vars x) (λ p. only_after _ (offset_only _ tt tt tt tt s.memory p d) (λ m. answered))
  execute_only root (Initialize to n bytes) =
      only_need _ _ _ tt (λ t. only_then _ (allocate_only _ tt tt tt s.memory n)
      (λ m e. initialized _ root n bytes (leb→le (length bytes) n t) m e _ (λ m'. answered)))
  execute_only root (Write x y) =
      only_after _ (pointer_only _ tt tt s.vars x)
      (λ p. only_after _ (value_only _ tt s.vars y) (λ v. only_after _ (write_only _ tt tt tt tt tt tt s.memory p (bytes_of v)) (λ m. answered)))
  execute_only root (Read to x type) =
      only_after _ (pointer_only _ tt tt s.vars x)
      (λ p. only_after _ (read_only _ tt tt tt tt tt tt P.constants s.memory p (size (kind_of type))) (λ bytes. only_after _ (bool_only bytes) (λ v. answered)))
    where
      bool_only : (bytes : List ℕ) → Only (never_set ∷ wrong_kinds ∷ not_given_out ∷ no_constant ∷ not_bool ∷ access_refusals) (from_bytes type bytes)
      bool_only bytes = unfold from_bytes in only_need _ _ _ tt (λ t. answered)
  execute_only root (Copy x y n) =
      only_after _ (pointer_only _ tt tt s.vars x)
      (λ to. only_after _ (pointer_only _ tt tt s.vars y)
      (λ from. only_after _ (read_only _ tt tt tt tt tt tt P.constants s.memory from n) (λ bytes. only_after _ (write_only _ tt tt tt tt tt tt s.memory to bytes) (λ m. answered))))
  execute_only root (Drop x) = answered

  each-known : (x : Instruction) → T (subset (instruction_refusals x) step_refusals)
  unfolding subset all is_among instruction_refusals
  each-known (Jump label) = tt
  each-known (Switch x branches default) = tt
  each-known (Assign to x type) = tt
  each-known (ConstantAddress to k) = tt
  each-known (Call to context f arguments return_pointer) = tt
  each-known (Return x) = tt
  each-known (IntCmp' to cmp x y) = tt
  each-known (FloatCmp' to cmp x y) = tt
  each-known (Add to x y) = tt
  each-known (Sub to x y) = tt
  each-known (Mul to x y) = tt
  each-known (Div to flag x y) = tt
  each-known (Mod to flag x y) = tt
  each-known (FDiv to x y) = tt
  each-known (Not to x) = tt
  each-known (Negate to x) = tt
  each-known (Offset to x d) = tt
  each-known (Initialize to n bytes) = tt
  each-known (Write x y) = tt
  each-known (Read to x type) = tt
  each-known (Copy x y n) = tt
  each-known (Drop x) = tt

  pub step_only : 0 < length s.memory.frames → Only step_refusals (step believed P s)
  unfolding step found ◌>>=◌ is_among
  step_only root = go (get_elem? (code P) s.place)
    where
      go : (x : Option Instruction) → Only step_refusals (found no_instruction x >>= λ y. execute believed P s y)
      go none = one_of tt
      go (some x) = only_more (each-known x) (execute_only root x)

pub instructions-give : InstructionsGive
instructions-give P s so x k e = go (execute believed P s x) (execute_only P s (sound_root s so) x) e
  where
    go : (a : Answer (Stepped Memory)) → Only (instruction_refusals x) a → a ≡ refused k → T (is_among k (instruction_refusals x))
    go a answered d = absurd (false≢true cc)
    go a (one_of {k = j} t) d = let same : j ≡ k = cc in subst (λ (n : Refusal). T (is_among n (instruction_refusals x))) same t

-- ---- entries

-- a reply's number is its answer's
module _ (ns : List Refusal) where
  pub same_number : {j k : Refusal} → T (is_among j ns) → refusal j ≡ refusal k → T (is_among k ns)
  same_number {j} {k} t e = let same : j ≡ k = cc in subst (λ (x : Refusal). T (is_among x ns)) same t

  changes_only : (s : Machine Memory) (r : Reply) → ((k : Refusal) → r ≡ refusal k → ⊥) → {a : Answer (Machine Memory)} → Only ns a → (k : Refusal) → (changes s r a).reply ≡ refusal k → T (is_among k ns)
  unfolding changes
  changes_only s r f answered k e = absurd (f k e)
  changes_only s r f (one_of t) k e = same_number t e

  shows_only : (s : Machine Memory) {a : Answer (List ℕ)} → Only ns a → (k : Refusal) → (shows s a).reply ≡ refusal k → T (is_among k ns)
  unfolding shows
  shows_only s answered k e = absurd (false≢true cc)
  shows_only s (one_of t) k e = same_number t e

  steps_only : (s : Machine Memory) {a : Answer (Stepped Memory)} → Only ns a → (k : Refusal) → (steps s a).reply ≡ refusal k → T (is_among k ns)
  unfolding steps
  steps_only s (answered {a = went s'}) k e = absurd (false≢true cc)
  steps_only s (answered {a = ended v s'}) k e = absurd (false≢true cc)
  steps_only s (one_of t) k e = same_number t e

  goes_only : (s : Machine Memory) {a : Answer (Ran Memory)} → Only ns a → (k : Refusal) → (goes s a).reply ≡ refusal k → T (is_among k ns)
  unfolding goes
  goes_only s answered k e = absurd (false≢true cc)
  goes_only s (one_of t) k e = same_number t e

  lays_only : (s : Machine Memory) {a : Answer (List Live)} → Only ns a → (k : Refusal) → (lays s a).reply ≡ refusal k → T (is_among k ns)
  unfolding lays
  lays_only s answered k e = absurd (false≢true cc)
  lays_only s (one_of t) k e = same_number t e

ask_only : (a : Ask) (s : Machine Memory) → 0 < length s.memory.frames → (k : Refusal) → (ask believed a s).reply ≡ refusal k → T (is_among k (entry_refusals a))
unfolding ask entry_refusals is_among host_allocate host_write host_read start step_once run host_list
ask_only (to_allocate n) s root k e = changes_only (entry_refusals (to_allocate n)) s _ (λ j d. absurd (false≢true cc)) (only_after _ (allocate_only _ tt tt tt s.memory n) (λ m. answered)) k e
ask_only (to_write p bs) s root k e = changes_only (entry_refusals (to_write p bs)) s _ (λ j d. absurd (false≢true cc)) (only_after _ (write_only _ tt tt tt tt tt tt s.memory p bs) (λ m. answered)) k e
ask_only (to_read P p n) s root k e = shows_only (entry_refusals (to_read P p n)) s (read_only _ tt tt tt tt tt tt P.constants s.memory p n) k e
ask_only (to_start P f context gs) s root k e =
    changes_only (entry_refusals (to_start P f context gs)) s _ (λ j d. absurd (false≢true cc))
    (only_need _ _ _ tt (λ a. only_need _ _ _ tt (λ b. only_need _ _ _ tt (λ c. only_need _ _ _ tt (λ d.
    only_after _ (slots_only _ tt tt tt (function_at P f).slots s.memory _) (λ x. answered)))))) k e
ask_only (to_step P) s root k e = steps_only (entry_refusals (to_step P)) s (only_need _ _ _ tt (λ r. only_more known (step_only P s root))) k e
  where
    known : T (subset step_refusals (run_refusals ++ step_refusals))
    known = unfold subset all is_among in tt
ask_only (to_run P budget) s root k e = goes_only (entry_refusals (to_run P budget)) s (only_need _ _ _ tt (λ r. answered)) k e
ask_only (to_list space) s root k e = lays_only (entry_refusals (to_list space)) s (only_need _ _ _ tt (λ r. answered)) k e

-- each can give 10
pub unsound_known : (a : Ask) → T (is_among not_sound (entry_refusals a))
unfolding is_among entry_refusals
unsound_known (to_allocate n) = tt
unsound_known (to_write p bs) = tt
unsound_known (to_read P p n) = tt
unsound_known (to_start P f context gs) = tt
unsound_known (to_step P) = tt
unsound_known (to_run P budget) = tt
unsound_known (to_list space) = tt

pub entries_give : EntriesGive
unfolding enter
entries_give a s k e = go (sound s) refl e
  where
    go : (b : Bool) → sound s ≡ b → (pick b (ask believed a s) (turn (refusal not_sound) s)).reply ≡ refusal k → T (is_among k (entry_refusals a))
    go true u d = ask_only a s (sound_root s (subst T (sym u) tt)) k d
    go false u d = same_number (entry_refusals a) (unsound_known a) d

-- ---- runs

module _ (P : Program) (good : T (accepted P)) (m₀ : Memory) (k : Refusal) where
  stops : (left done : ℕ) (s : Machine Memory) → T s.running → Held (sounds_kept m₀) s → (run_from believed P left done s).outcome ≡ stopped k → T (is_among k step_refusals)
  unfolding run_from after
  stops zero done s r h e = absurd (false≢true cc)
  stops (suc left) done s r h e = go (step believed P s) (step-held (sounds_kept m₀) P good r h) (step_only P s h.memory.solid.root) (λ s' r' h' d. stops left (done + 1) s' r' h' d) e
    where
      go : (a : Answer (Stepped Memory)) → Keeps (HeldStep (sounds_kept m₀)) a → Only step_refusals a
          → ((s' : Machine Memory) → T s'.running → Held (sounds_kept m₀) s' → (run_from believed P left (done + 1) s').outcome ≡ stopped k → T (is_among k step_refusals))
          → (after believed s done a (λ s'. run_from believed P left (done + 1) s')).outcome ≡ stopped k → T (is_among k step_refusals)
      go (ok (went s')) (kept (held-went r' h')) o f d = f s' r' h' d
      go (ok (ended v s')) (kept (held-ended h')) o f d = absurd (false≢true cc)
      go (refused j) w (one_of t) f d = let same : j ≡ k = cc in subst (λ (x : Refusal). T (is_among x step_refusals)) same t

ran-stopped : (s : Machine Memory) (r : Bool) (x : Ran Memory) (k : Refusal) (n : ℕ) → (goes s (need r Refusal.idle (ok x))).reply ≡ ran (stopped k) n → T r × (x.outcome ≡ stopped k)
unfolding goes need
ran-stopped s true x k n e = (tt, cc)
ran-stopped s false x k n e = absurd (false≢true cc)

pub runs_stop_with : RunsStopWith
unfolding enter ask run
runs_stop_with P good budget s k n e = go (sound s) refl e
  where
    go : (b : Bool) → sound s ≡ b → (pick b (ask believed (to_run P budget) s) (turn (refusal not_sound) s)).reply ≡ ran (stopped k) n → T (is_among k step_refusals)
    go true u d =
        let r = ran-stopped s s.running (run_from believed P budget 0 s) k n d in
        stops P good s.memory k budget 0 s r.0 (sound-held (subst T (sym u) tt) (later_same s.memory)) r.1
    go false u d = absurd (false≢true cc)
