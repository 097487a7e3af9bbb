-- Each C function is promise's call: its definition gives the call's answer in words, and the registers that stay are the words that were lent.
use Rattle.std.specs.Prelude.{Result, Ok, Err, ⊤}
use Prim.Native.Nat.{ℕ}
use mathlib.Core.Bool.{true}
use mathlib.Core.Path.{◌≡◌, refl, sym, ap, ap₂}
use mathlib.Core.List.{List}
use lib.ListN.{length}
use lib.Dec.{eqb}
use borrow.Author.Tests.{eqb-true}
use Rattle.value.specs.declared.refusal.Refusal.{Refusal}
use Rattle.value.proofs.Truth.{both_true}
use Rattle.memory.specs.Live.{Live}
use Rattle.memory.specs.Tables.{State, Columns}
use Rattle.memory.specs.View.{tab, live_in}
use Rattle.memory.proofs.Every.{by_test}
use Rattle.machine.specs.Asks.{lists, refusal}
use Rattle.eval.specs.Entry.{Reading, read_entered}
use Rattle.eval.specs.Host.{host_allocated, host_written, host_listed}
use Rattle.eval.specs.declared.entry.EntryError.{EntryError}
use Rattle.agree.specs.Turns.{refusal_of, written_reply, read_reply, listed_reply}
use Rattle.promise.specs.Calls.{call_allocate, call_write, call_read, call_start, call_step, call_run, call_list, call}
use Rattle.promise.proofs.Untouched.{buffers_stay, slices_stay}
use Rattle.replies.specs.Words.{reply_words, shaped_of, number_of}
use Rattle.replies.specs.declared.words.Reply.{Reply}
use Rattle.replies.proofs.Laws.{words_back}
use Rattle.embed.specs.Called.{Lent, lent, Gave, gave, state_of, if_shaped, start_called, step_called, run_called, allocate_called, write_called, read_called, list_called}
use Rattle.linked.specs.Functions.{told, holding, bytes_in}
use Rattle.linked.specs.Linked.{FunctionsAreCalls, ReadsFill, ListsShow}
use Rattle.linked.proofs.Words.{given-words, start-words, step_words, run-words, read-words}

-- ---- registers that stay

five : (l : Lent) → shaped_of (length l.registers) (length l.answer) ≡ true → length l.registers ≡ 5
unfolding shaped_of
five l h = eqb-true _ 5 (both_true (eqb (length l.registers) 5) (eqb (length l.answer) 4) h).0

-- the words that tell a reply, beside a state
abbrev saying : State → Reply → Gave
saying t w = gave w.number (holding t (reply_words w))

write-number : (a : Result ⊤ Refusal) → number_of a ≡ (told (written_reply a)).number
write-number (Ok u) = refl
write-number (Err k) = refl

list_number : (n : ℕ) (a : Result ⊤ Refusal) (c : Columns) → number_of a ≡ (told (listed_reply n a c)).number
list_number n (Ok u) c = refl
list_number n (Err k) c = refl

pub functions_are_calls : FunctionsAreCalls
unfolding allocate_called write_called read_called start_called step_called run_called list_called
functions_are_calls (call_allocate n) w l b = ap (λ (r : Reply). if_shaped l (saying (call (call_allocate n) (state_of l)).left r)) (given-words (host_allocated (state_of l) n).answer)
functions_are_calls (call_start s n context ts bs) w l b =
    ap (λ (r : Reply). if_shaped l (saying (call (call_start s n context ts bs) (state_of l)).left r)) (start-words s n context ts bs (state_of l))
functions_are_calls (call_step s) w l b = ap (λ (r : Reply). if_shaped l (saying (call (call_step s) (state_of l)).left r)) (step_words s w (state_of l) b)
functions_are_calls (call_run s budget) w l b = ap (λ (r : Reply). if_shaped l (saying (call (call_run s budget) (state_of l)).left r)) (run-words s w (state_of l) b budget)
functions_are_calls (call_write p bs) w l b =
    let r = host_written (state_of l) p bs in
    by_test (eqb (length l.registers) 5)
    (λ h. rw h (ap₂ (λ (k : ℕ) (m : List ℕ). gave k (lent m l.answer r.table l.frames l.bounds l.pointers l.variables))
    (write-number r.answer) (sym (words_back l.registers (eqb-true _ 5 h)))))
    (λ h. rw h refl)
functions_are_calls (call_read s p buffer) w l b =
    by_test (shaped_of (length l.registers) (length l.answer))
    (λ h. rw h (ap₂ (λ (r : Reply) (m : List ℕ). gave r.number (lent m (reply_words r) l.store l.frames l.bounds l.pointers l.variables))
    (read-words s p buffer (state_of l)) (sym (words_back l.registers (five l h)))))
    (λ h. rw h refl)
functions_are_calls (call_list live frame allocation offset) w l b =
    let r = host_listed (state_of l) live frame allocation offset in
    by_test (eqb (length l.registers) 5)
    (λ h. rw h (ap₂ (λ (k : ℕ) (m : List ℕ). gave k (lent m l.answer l.store l.frames l.bounds l.pointers l.variables))
    (list_number _ r.answer r.slices) (sym (words_back l.registers (eqb-true _ 5 h)))))
    (λ h. rw h refl)

pub reads_fill : ReadsFill
unfolding read_called
reads_fill s p buffer l =
    by_test (shaped_of (length l.registers) (length l.answer))
    (λ h. rw h (go (read_entered s p buffer (state_of l)) (buffers_stay s p buffer (state_of l))))
    (λ h. rw h refl)
  where
    go : (r : Reading) → ((n : Refusal) → read_reply r.answer r.bytes ≡ refusal n → r.bytes ≡ buffer) → r.bytes ≡ bytes_in (read_reply r.answer r.bytes) buffer
    go r f = by r.answer f
      where
        by : (a : Result ⊤ EntryError) → ((n : Refusal) → read_reply a r.bytes ≡ refusal n → r.bytes ≡ buffer) → r.bytes ≡ bytes_in (read_reply a r.bytes) buffer
        by (Ok u) f = refl
        by (Err e) f = f (refusal_of e) refl

pub lists_show : ListsShow
unfolding list_called
lists_show l h live frame allocation offset =
    let r = host_listed (state_of l) live frame allocation offset in
    record { listed = rw h (by (state_of l).memory.registers.pointers r.answer r.slices); stays = rw h (slices_stay live frame allocation offset (state_of l)) }
  where
    by : (n : ℕ) (a : Result ⊤ Refusal) (c : Columns) (ls : List Live) → listed_reply n a c ≡ lists ls → tab n (live_in c) ≡ ls
    by n (Ok u) c ls e = cc
    by n (Err k) c ls e = cc
