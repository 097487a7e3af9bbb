-- A refused call has one of its numbers: its image's, 10 on a state that is not sound, and else those of the machine's entry.
use Prim.Native.Nat.{ℕ, zero, suc, ◌≤◌}
use native.Mathlib.Omega.{arith}
use mathlib.Core.Bool.{Bool, true, false, ◌||◌}
use mathlib.Core.Path.{◌≡◌, refl, sym, ap, ◌∙◌}
use mathlib.Core.List.{List, [], ◌∷◌, ◌++◌}
use mathlib.Core.Logic.{◌⊎◌, inl, inr}
use lib.Dec.{T, eqb}
use mir.Facts.{or_yes}
use Rattle.std.proofs.lemmas.Bool.{false≢true}
use Rattle.value.specs.declared.refusal.Refusal.{Refusal}
use Rattle.value.specs.Refusal.{number_of}
use Rattle.value.proofs.Truth.{is_yes}
use Rattle.image.specs.Limits.{AreBytes}
use Rattle.image.specs.Image.{loaded}
use Rattle.image.specs.Parse.{Got, took, refused}
use Rattle.image.specs.Program.{Program}
use Rattle.image.proofs.Numbers.{loading_refuses}
use Rattle.memory.specs.Memory.{Memory}
use Rattle.memory.specs.Tables.{State, sound_of}
use Rattle.memory.proofs.Every.{by_test}
use Rattle.machine.specs.Machine.{stopped}
use Rattle.machine.specs.Asks.{Ask, to_run, Turn, refusal, ran}
use Rattle.machine.specs.Promises.{is_among, step_refusals, entry_refusals}
use Rattle.machine.specs.Entries.{enter}
use Rattle.machine.proofs.Numbers.{same_number, unsound_known, entries_give, runs_stop_with}
use Rattle.decode.proofs.Accepted.{loaded-accepted}
use Rattle.agree.specs.Seen.{seen}
use Rattle.promise.specs.Calls.{Call, call_run, call, Heard, Asks, allocating, writing, reading, starting, misgiven, stepping, running, listing, Refuses, refuses-read, refuses-start, refuses-step, refuses-run}
use Rattle.promise.specs.Numbers.{load_refusals, call_refusals, LoadingGives, CodeGives, CodeStopsWith}
use Rattle.promise.proofs.Refused.{images_refused, unsound_refused}
use Rattle.promise.proofs.Answers.{entries_answer}
use Rattle.promise.proofs.Tells.{Told, asks, refuses, told}

-- ---- numbers in two lists

either : (a b : Bool) → T a ⊎ T b → T (a || b)
either true b t = tt
either false b (inl t) = absurd t
either false b (inr t) = t

is_among_left : (ns ms : List Refusal) (k : Refusal) → T (is_among k ns) → T (is_among k (ns ++ ms))
unfolding is_among
is_among_left [] ms k t = absurd t
is_among_left (n ∷ ns) ms k t = either (eqb (number_of k) (number_of n)) (is_among k (ns ++ ms)) (elim (or_yes (eqb (number_of k) (number_of n)) (is_among k ns) t) [ inl e ↦ inl e | inr r ↦ inr (is_among_left ns ms k r) ])

among_right : (ns ms : List Refusal) (k : Refusal) → T (is_among k ms) → T (is_among k (ns ++ ms))
unfolding is_among
among_right [] ms k t = t
among_right (n ∷ ns) ms k t = either (eqb (number_of k) (number_of n)) (is_among k (ns ++ ms)) (inr (among_right ns ms k t))

-- ---- loading

one_to_six : (k : Refusal) (n : ℕ) → number_of k ≡ n → 1 ≤ n → n ≤ 6 → T (is_among k load_refusals)
unfolding is_among
one_to_six k zero e l h = absurd (omega arith)
one_to_six k (suc zero) e l h = rw e tt
one_to_six k (suc (suc zero)) e l h = rw e tt
one_to_six k (suc (suc (suc zero))) e l h = rw e tt
one_to_six k (suc (suc (suc (suc zero)))) e l h = rw e tt
one_to_six k (suc (suc (suc (suc (suc zero))))) e l h = rw e tt
one_to_six k (suc (suc (suc (suc (suc (suc zero)))))) e l h = rw e tt
one_to_six k (suc (suc (suc (suc (suc (suc (suc n))))))) e l h = absurd (omega arith)

pub loading_gives : LoadingGives
loading_gives s k place e = let h = loading_refuses s k place e in one_to_six k (number_of k) refl h.0 h.1

loads_known : (c : Call) (k : Refusal) → Refuses c k → T (is_among k (call_refusals c))
loads_known c k (refuses-read {s} {q} h) = is_among_left load_refusals _ k (loading_gives s k q h)
loads_known c k (refuses-start {s} {q} h) = is_among_left load_refusals _ k (loading_gives s k q h)
loads_known c k (refuses-step {s} {q} h) = is_among_left load_refusals _ k (loading_gives s k q h)
loads_known c k (refuses-run {s} {q} h) = is_among_left load_refusals _ k (loading_gives s k q h)

-- ---- entries

-- an ask's numbers are its call's
ask-known : (c : Call) (a : Ask) → Asks c a → (k : Refusal) → T (is_among k (entry_refusals a)) → T (is_among k (call_refusals c))
unfolding entry_refusals
ask-known c a allocating k t = t
ask-known c a (writing b) k t = t
ask-known c a (reading b h) k t = among_right load_refusals _ k t
ask-known c a (starting spare b h v) k t = among_right load_refusals _ k t
ask-known c a (misgiven b h v) k t = among_right load_refusals _ k t
ask-known c a (stepping b h) k t = among_right load_refusals _ k t
ask-known c a (running b h) k t = among_right load_refusals _ k t
ask-known c a listing k t = t

module _ (t : State) (bytes : AreBytes t.memory.store) where
  -- what is heard on a sound state is the machine's reply
  machines : (c : Call) (a : Ask) → Asks c a → sound_of t ≡ true → (call c t).reply ≡ (enter a (seen t)).reply
  machines c a q so = ap (λ (x : Turn Memory). x.reply) (entries_answer c a q t (record { sound = so; bytes = bytes })).same

  asked-known : (c : Call) (a : Ask) → Asks c a → (k : Refusal) → (call c t).reply ≡ refusal k → T (is_among k (entry_refusals a))
  asked-known c a q k e =
      by_test (sound_of t)
      (λ so. entries_give a (seen t) k (sym (machines c a q so) ∙ e))
      (λ un. same_number (entry_refusals a) (unsound_known a) (sym (ap (λ (x : Heard). x.reply) (unsound_refused c a q t un)) ∙ e))

pub code_gives : CodeGives
code_gives c lent t bytes k e = go (told c lent)
  where
    go : Told c → T (is_among k (call_refusals c))
    go (asks a q) = ask-known c a q k (asked-known t bytes c a q k e)
    go (refuses n q) = same_number (call_refusals c) (loads_known c n q) (sym (ap (λ (x : Heard). x.reply) (images_refused c n q t)) ∙ e)

-- a refusal is no run
not-run : {A : Type 0} {j k : Refusal} {n : ℕ} → refusal j ≡ ran (stopped k) n → A
not-run {A} {j} {k} {n} e = absurd (false≢true cc)

pub code_stops_with : CodeStopsWith
code_stops_with s lent budget t bytes k n e = go (loaded s) refl
  where
    go : (g : Got Program) → loaded s ≡ g → T (is_among k step_refusals)
    go (took P end) h =
        by_test (sound_of t)
        (λ so. runs_stop_with P (is_yes (loaded-accepted s lent P end h)) budget (seen t) k n (sym (machines t bytes (call_run s budget) (to_run P budget) (running lent h) so) ∙ e))
        (λ un. not-run (sym (ap (λ (x : Heard). x.reply) (unsound_refused (call_run s budget) (to_run P budget) (running lent h) t un)) ∙ e))
    go (refused j q) h = not-run (sym (ap (λ (x : Heard). x.reply) (images_refused (call_run s budget) j (refuses-run h) t)) ∙ e)
