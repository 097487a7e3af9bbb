-- The entries over the loader's tables: the counts lie within the tables, and a run of one step is a step.
use Rattle.std.specs.Prelude.{Result, Ok, Err}
use Prim.Native.Nat.{ℕ, ◌+◌, ◌*◌, ◌≤◌}
use native.Mathlib.Omega.{arith}
use mathlib.Core.Bool.{Bool, true, false}
use mathlib.Core.Path.{◌≡◌, refl, sym, ap, subst, ◌∙◌}
use mathlib.Core.List.{List, flatten}
use lib.ListN.{length, take, replicate, length-replicate}
use lib.Dec.{eqb}
use lib.Seq.{length-take-le, length-sets}
use Rattle.value.specs.declared.refusal.Refusal.{Refusal}
use Rattle.value.specs.Answer.{pick}
use Rattle.value.specs.Refusal.{not_sound, idle}
use Rattle.image.specs.declared.number.Stop.{Stop}
use Rattle.loader.specs.Tables.{ats, starts, table, tables_of, loaded_from}
use Rattle.loader.specs.declared.load.Loaded.{Loaded}
use Rattle.loader.proofs.Whole.{loaded-took}
use Rattle.decode.specs.Extents.{extents_at}
use Rattle.memory.specs.declared.Registers.{Registers}
use Rattle.memory.specs.Tables.{State, sound_of}
use Rattle.instruction.specs.Code.{Stepped}
use Rattle.instruction.specs.declared.step.Progress.{Progress}
use Rattle.instruction.specs.declared.step.Progress.TheVariants as progress
use Rattle.step.specs.Items.{Items}
use Rattle.step.specs.Step.{stepped_of}
use Rattle.run.specs.Run.{Running, running, resting, after, ran_of}
use Rattle.run.specs.declared.Ran.{Ran}
use Rattle.eval.specs.Loaded.{items_of}
use Rattle.eval.specs.Entry.{Entering, entering, staying, ended, stepped_as, stepped_from, as_entered, Bounded, run_after, run_entered, run_loaded, step_loaded, step_after, step_entered}
use Rattle.eval.specs.declared.entry.EntryError.{EntryError}
use Rattle.eval.specs.declared.entry.EntryError.TheVariants as entry
use Rattle.eval.proofs.Counts.{limited}

-- ---- the counts

table-length : (size : ℕ) (xs : List ℕ) → length (table size xs) ≡ size
table-length size xs = length-sets (replicate size 0) 0 xs ∙ length-replicate {A = ℕ} size 0

pub bounded : (s : List ℕ) (l : Loaded) → loaded_from s ≡ Ok l → Bounded l
unfolding tables_of
bounded s l h =
    let (i, read, is) = loaded-took s h in
    let few = limited s i l.end read in
    subst Bounded (ap tables_of (sym read) ∙ is) (record {
      instructions = omega (arith, few.instructions, table-length 4096 (ats (flatten i.blocks)));
      blocks = omega (arith, few.blocks, table-length 512 (starts 0 i.blocks));
      functions = omega (arith, few.functions, table-length 64 (ats i.functions));
      constants = omega (arith, few.constants, table-length 64 (ats i.constants));
      few = few.constants;
    })

-- the constants' words, from the array that holds them
pub words : (s cs r : List ℕ) (n : ℕ) → n ≤ length cs → take (length (take n cs) * 2) r ≡ extents_at s (take n cs) → take (n * 2) r ≡ extents_at s (take n cs)
words s cs r n h e = ap (λ (k : ℕ). take (k * 2) r) (sym (length-take-le n cs h)) ∙ e

-- ---- a run of one step

abbrev as_step : Running (Result Ran EntryError) → Entering
as_step r = entering (as_entered r.answer) r.store r.frames r.bounds r.pointers r.variables

after_one : (i : Items) (m : Registers) (r : Result Progress Refusal) (a : Stepped)
    → as_step (ended (after m 0 r a (λ t. ran_of i 0 (0 + 1) t))) ≡ entering (stepped_as r) a.store a.frames a.bounds a.pointers a.variables
unfolding ran_of
after_one i m (Ok (progress.Next n)) a = refl
after_one i m (Ok (progress.Ended n v)) a = refl
after_one i m (Err why) a = refl

one-ran : (i : Items) (t : State) → as_step (ended (ran_of i 1 0 t)) ≡ stepped_from (stepped_of i t)
unfolding ran_of
one-ran i t = after_one i t.memory.registers (stepped_of i t).answer (stepped_of i t)

one-loaded : (i : Items) (t : State) (sound runs : Bool)
    → as_step (pick sound (pick runs (ended (ran_of i 1 0 t)) (resting (Err (entry.Refused idle)) t)) (resting (Err (entry.Refused not_sound)) t))
    ≡ pick sound (pick runs (stepped_from (stepped_of i t)) (staying (Err (entry.Refused idle)) t)) (staying (Err (entry.Refused not_sound)) t)
one-loaded i t false runs = refl
one-loaded i t true false = refl
one-loaded i t true true = one-ran i t

one-after : (l : Result Loaded Stop) (i : Items) (t : State) → as_step (run_after l i 1 t) ≡ step_after l i t
unfolding run_loaded step_loaded
one-after (Ok l) i t = one-loaded i t (sound_of t) (eqb t.memory.registers.running 1)
one-after (Err e) i t = refl

pub one_step_is : (s : List ℕ) (t : State) (answer : Result Progress EntryError) (r : Result Ran EntryError) (store frames bounds pointers vars : List ℕ)
    → answer ≡ as_entered r → running r store frames bounds pointers vars ≡ run_entered s 1 t → entering answer store frames bounds pointers vars ≡ step_entered s t
unfolding run_entered step_entered
one_step_is s t answer r store frames bounds pointers vars a h =
    ap (λ (x : Result Progress EntryError). entering x store frames bounds pointers vars) a ∙ ap as_step h ∙ one-after (loaded_from s) (items_of s) t
