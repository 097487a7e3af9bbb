-- Demand 3 of lir_read: its number is that of promise's reply, which is 0 exactly where bytes are granted, and then these are in the buffer.
use Rattle.std.specs.Prelude.{Result, Ok, Err, ⊤}
use Prim.Native.Nat.{ℕ}
use native.Mathlib.Omega.{arith}
use mathlib.Core.Path.{◌≡◌, refl, sym, ap, ◌∙◌}
use mathlib.Core.Logic.{◌≢◌}
use mathlib.Core.List.{List}
use lib.ListN.{get_or}
use Rattle.value.specs.declared.refusal.Refusal.{Refusal}
use Rattle.value.specs.Answer.{pick}
use Rattle.value.specs.Refusal.{number_of}
use Rattle.image.specs.Program.{Program}
use Rattle.machine.specs.Asks.{Ask, Reply, bytes, refusal}
use Rattle.machine.specs.History.{History}
use Rattle.machine.specs.Demand.{Why, never_given, ended, too_long, uneven, not-here, past-constant}
use Rattle.eval.specs.Entry.{read_entered}
use Rattle.eval.specs.declared.entry.EntryError.{EntryError}
use Rattle.agree.specs.Turns.{refusal_of, read_reply}
use Rattle.promise.specs.Calls.{Call, call_read, AllLent, Tells}
use Rattle.promise.specs.Promised.{After, Image, read_of}
use Rattle.promise.proofs.Told.{code_grants_exactly_when_right, code_reads_last_stored, code_refuses_with_its_number}
use Rattle.embed.specs.Called.{Lent, Gave, state_of, fresh_called, read_called}
use Rattle.linked.specs.Functions.{lent_by, told, bytes_in}
use Rattle.linked.specs.Linked.{Sized, ReadGrantsExactlyWhenRight, ReadFillsLastStored}
use Rattle.linked.proofs.Functions.{reads_fill}
use Rattle.linked.proofs.Sequence.{Held, function-is, number_same, words-shaped, held_by, fresh-begins, fresh-held, functions_follow}

-- no refusal of a read has the number 0
why_some : {h : History} {P : Program} {p n : ℕ} {k : Refusal} → Why h P p n k → number_of k ≢ 0
why_some (never_given x) e = omega arith
why_some (ended x y) e = omega arith
why_some (too_long x y z) e = omega arith
why_some (uneven x y z w) e = omega arith
why_some (not-here x y) e = omega arith
why_some (past-constant x y z) e = omega arith

by_number : (a : Result ⊤ EntryError) (bs : List ℕ) → ((k : Refusal) → read_reply a bs ≡ refusal k → number_of k ≢ 0) → (told (read_reply a bs)).number ≡ 0 → (cs : List ℕ) × (read_reply a bs ≡ bytes cs)
by_number (Ok u) bs f e = (bs, refl)
by_number (Err d) bs f e = absurd (f (refusal_of d) refl e)

module _ (l : Lent) (z : Sized l) (cs : List Call) (w : AllLent cs) (as' : List Ask) (tell : Tells cs as') where
  abbrev now : Lent
  now = lent_by cs (fresh_called l).lent

  held : Held now
  held = held_by cs w (fresh_called l).lent (fresh-held l z)

  after : After as' (state_of now)
  after = record { first = state_of (fresh_called l).lent; fresh = (fresh-begins l z).begun; calls = cs; tell = tell; left = sym (functions_follow l z cs w).left }

  module _ (s : List ℕ) (P : Program) (i : Image s P) (p : ℕ) (buffer : List ℕ) where
    number : (read_called s p buffer now).number ≡ (told (read_of (state_of now) s p buffer)).number
    number = ap (λ (g : Gave). g.number) (function-is (call_read s p buffer) i.bytes now held) ∙ number_same (call_read s p buffer) (state_of now)

    granted : (read_called s p buffer now).number ≡ 0 → (bs : List ℕ) × (read_of (state_of now) s p buffer ≡ bytes bs)
    granted e =
        let r = read_entered s p buffer (state_of now) in
        by_number r.answer r.bytes (λ k d. why_some ((code_refuses_with_its_number as' (state_of now) after s P i p buffer k).0 d)) (sym number ∙ e)

    filled : (bs : List ℕ) → read_of (state_of now) s p buffer ≡ bytes bs → (read_called s p buffer now).bytes ≡ bs
    filled bs e =
        reads_fill s p buffer now
        ∙ ap (λ x. pick x (bytes_in (read_of (state_of now) s p buffer) buffer) buffer) (words-shaped now held.registers held.answer)
        ∙ ap (λ (r : Reply). bytes_in r buffer) e

pub read_grants_exactly_when_right : ReadGrantsExactlyWhenRight
read_grants_exactly_when_right l z cs w as' tell s P i p buffer =
    let right = code_grants_exactly_when_right as' (state_of (lent_by cs (fresh_called l).lent)) (after l z cs w as' tell) s P i p buffer in (
      (λ e. right.0 (granted l z cs w as' tell s P i p buffer e)),
      (λ x. number l z cs w as' tell s P i p buffer ∙ ap (λ (y : Reply). (told y).number) (right.1 x).1),
    )

pub read_fills_last_stored : ReadFillsLastStored
read_fills_last_stored l z cs w as' tell s P i p buffer f j o at e k h =
    let (bs, d) = granted l z cs w as' tell s P i p buffer e in
    let t = state_of (lent_by cs (fresh_called l).lent) in
    ap (λ (x : List ℕ). get_or x k 0) (filled l z cs w as' tell s P i p buffer bs d) ∙ (code_reads_last_stored as' t (after l z cs w as' tell) s P i p buffer f j o bs at d).1 k h
