-- Each entry answers as the believed machine does and leaves a good state: the same turn, sound tables, and a store made of bytes.
use Prim.Native.Nat.{ℕ}
use mathlib.Core.Path.{◌≡◌, sym, ap, ◌∙◌, subst}
use mathlib.Core.List.{List, ◌∷◌}
use lib.ListN.{length, replicate}
use lib.Dec.{T}
use mir.Facts.{and_yes}
use Rattle.value.specs.Value.{Value, char, tag}
use Rattle.image.specs.Parse.{took}
use Rattle.image.specs.Program.{Program}
use Rattle.image.specs.Image.{loaded}
use Rattle.memory.specs.Tables.{State}
use Rattle.machine.specs.Sound.{all}
use Rattle.machine.specs.Accepted.{given}
use Rattle.instruction.specs.Variables.{found}
use Rattle.machine.specs.Asks.{Ask, turn, to_allocate, to_write, to_read, to_start, to_step, to_run, to_list}
use Rattle.machine.specs.Accepted.{bad_char}
use Rattle.instruction.specs.declared.variables.Found.{Found}
use Rattle.eval.specs.Entry.{Entering}
use Rattle.eval.specs.Start.{start_entered}
use Rattle.agree.specs.Seen.{seen, room}
use Rattle.agree.specs.Turns.{entered_reply, entered_state}
use Rattle.agree.proofs.Entries.{step-enters, step_kept, step-bytes, run_enters, run-kept, run-bytes}
use Rattle.agree.proofs.Host.{allocate-enters, allocate-kept, allocate-bytes, write-enters, write_kept, write_bytes_lem, read-enters, list_enters}
use Rattle.agree.proofs.Start.{start-enters, start-kept, start-bytes}
use Rattle.promise.specs.Calls.{call_allocate, call_write, call_read, call_start, call_step, call_run, call_list, Good, allocating, writing, reading, starting, misgiven, stepping, running, listing}
use Rattle.promise.specs.Promised.{Answers, EntriesAnswer}
use Rattle.promise.proofs.Lent.{spare_unused, no_values, equal_lengths, bad-length, bad-values, bad-given}
use Rattle.image.specs.Limits.{AreBytes}
use Rattle.calls.specs.Begin.{tags_of, bits_of}

module _ (t : State) (good : Good t) where
  pub allocate-answers : (n : ℕ) → Answers (call_allocate n) (to_allocate n) t
  allocate-answers n = record {
    same = allocate-enters t good.sound good.bytes n;
    good = record { sound = allocate-kept t good.sound good.bytes n; bytes = allocate-bytes t good.sound good.bytes n };
  }

  pub write-answers : (p : ℕ) (bs : List ℕ) → AreBytes bs → Answers (call_write p bs) (to_write p bs) t
  write-answers p bs f = record {
    same = write-enters t good.sound good.bytes p bs;
    good = record { sound = write_kept t good.sound good.bytes p bs; bytes = write_bytes_lem t good.sound good.bytes p bs f };
  }

  pub list_answers : (l f a o : List ℕ) → Answers (call_list l f a o) (to_list (room l f a o)) t
  list_answers l f a o = record { same = list_enters t good.sound good.bytes l f a o; good = good }

  -- with an image that was loaded
  module _ (s : List ℕ) (whole : AreBytes s) (P : Program) (e : ℕ) (h : loaded s ≡ took P e) where
    pub read-answers : (p : ℕ) (buffer : List ℕ) → Answers (call_read s p buffer) (to_read P p (length buffer)) t
    read-answers p buffer = record { same = read-enters t good.sound good.bytes s whole P e h p buffer; good = good }

    pub step-answers : Answers (call_step s) (to_step P) t
    step-answers = record {
      same = step-enters t good.sound good.bytes s whole P e h;
      good = record { sound = step_kept t good.sound good.bytes s whole P e h; bytes = step-bytes t good.sound good.bytes s whole P e h };
    }

    pub run-answers : (budget : ℕ) → Answers (call_run s budget) (to_run P budget) t
    run-answers budget = record {
      same = run_enters t good.sound good.bytes s whole P e h budget;
      good = record { sound = run-kept t good.sound good.bytes s whole P e h budget; bytes = run-bytes t good.sound good.bytes s whole P e h budget };
    }

    pub start-answers : (f : ℕ) (context : Value) (gs : List Value) → T (all given (context ∷ gs))
        → Answers (call_start s f (found (tag context.kind) context.bits) (tags_of gs) (bits_of gs)) (to_start P f context gs) t
    unfolding all
    start-answers f context gs v =
        let (a, b) = and_yes (given context) (all given gs) v in
        record {
          same = start-enters t good.sound good.bytes s whole P e h f context gs a b;
          good = record { sound = start-kept t good.sound good.bytes s whole P e h f context gs a b; bytes = start-bytes t good.sound good.bytes s whole P e h f context gs a b };
        }

-- a start that the tables cannot tell from another answers the same
same-answers : {s : List ℕ} {f : ℕ} {context context' : Found} {ts ts' bs bs' : List ℕ} {a : Ask} {t : State} → start_entered s f context ts bs t ≡ start_entered s f context' ts' bs' t
    → Answers (call_start s f context' ts' bs') a t → Answers (call_start s f context ts bs) a t
same-answers {s} {f} {context} {context'} {ts} {ts'} {bs} {bs'} {a} {t} e g =
    let m = t.memory.registers in
    record {
      same = ap (λ (x : Entering). turn (entered_reply x.answer) (seen (entered_state m x))) e ∙ g.same;
      good = subst (λ (x : Entering). Good (entered_state m x)) (sym e) g.good;
    }

pub entries_answer : EntriesAnswer
entries_answer c a (allocating {n}) t g = allocate-answers t g n
entries_answer c a (writing {p} {bs} b) t g = write-answers t g p bs b
entries_answer c a (reading {s} {P} {e} {p} {buffer} b h) t g = read-answers t g s b P e h p buffer
entries_answer c a (starting {s} {P} {e} {f} {context} {gs} spare b h v) t g =
    let same = spare_unused s f (found (tag context.kind) context.bits) (tags_of gs) (bits_of gs) spare t (equal_lengths gs) in
    same-answers same (start-answers t g s b P e h f context gs v)
entries_answer c a (misgiven {s} {P} {e} {f} {context} {ts} {bs} b h v) t g =
    let bad = replicate (length ts) bad_char in
    same-answers (no_values s f context (found (tag char) 0xd800) ts bs (tags_of bad) (bits_of bad) t (bad-length (length ts)) v (bad-values (tags_of bad) (bits_of bad)))
    (start-answers t g s b P e h f bad_char bad (bad-given (length ts)))
entries_answer c a (stepping {s} {P} {e} b h) t g = step-answers t g s b P e h
entries_answer c a (running {s} {P} {e} {budget} b h) t g = run-answers t g s b P e h budget
entries_answer c r (listing {l} {f} {a} {o}) t g = list_answers t g l f a o
