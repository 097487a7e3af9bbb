-- What the host may ask of a machine, in any order, each time with any program, and what it is answered.
use Rattle.std.specs.Prelude.{ℕ, List, [], ◌∷◌}
use Rattle.std.proofs.Math.Option.{Option}
use Rattle.value.specs.declared.refusal.Refusal.{Refusal}
use Rattle.value.specs.Answer.{Answer, ok, refused}
use Rattle.value.specs.Value.{Value}
use Rattle.image.specs.Program.{Program}
use Rattle.machine.specs.Machine.{Memories, Machine, Stepped, went, ended, Outcome, Ran, host_allocate, host_write, host_read, start, step_once, run, host_list}
use Rattle.memory.specs.Live.{Live}

pub data Ask : Type 0 where
  to_allocate : (size : ℕ) → Ask
  to_write : (pointer : ℕ) → List ℕ → Ask
  to_read : Program → (pointer size : ℕ) → Ask
  to_start : Program → (function : ℕ) → (context : Value) → List Value → Ask
  to_step : Program → Ask
  to_run : Program → (budget : ℕ) → Ask
  to_list : (room : ℕ) → Ask

pub data Reply : Type 0 where
  done : Reply
  gave : (pointer : ℕ) → Reply
  bytes : List ℕ → Reply
  returned : Option Value → Reply
  ran : Outcome → (count : ℕ) → Reply
  lists : List Live → Reply
  refusal : Refusal → Reply

-- a reply, and the machine afterwards
pub record Turn (M : Type 0) : Type 0 where
  pub reply : Reply
  pub machine : Machine M

abbrev pub turn : {M : Type 0} → Reply → Machine M → Turn M
turn r s = record { reply = r; machine = s }

-- an accepted ask, or a refused one: then the machine is as it was
unfoldable pub changes : {M : Type 0} → Machine M → Reply → Answer (Machine M) → Turn M
changes s r (ok s') = turn r s'
changes s r (refused n) = turn (refusal n) s

unfoldable pub shows : {M : Type 0} → Machine M → Answer (List ℕ) → Turn M
shows s (ok bs) = turn (bytes bs) s
shows s (refused n) = turn (refusal n) s

unfoldable pub steps : {M : Type 0} → Machine M → Answer (Stepped M) → Turn M
steps s (ok (went s')) = turn done s'
steps s (ok (ended v s')) = turn (returned v) s'
steps s (refused n) = turn (refusal n) s

unfoldable pub goes : {M : Type 0} → Machine M → Answer (Ran M) → Turn M
goes s (ok r) = turn (ran r.outcome r.count) r.machine
goes s (refused n) = turn (refusal n) s

unfoldable pub lays : {M : Type 0} → Machine M → Answer (List Live) → Turn M
lays s (ok ls) = turn (lists ls) s
lays s (refused n) = turn (refusal n) s

module _ {M : Type 0} (mem : Memories M) where
  unfoldable pub ask : Ask → Machine M → Turn M
  ask (to_allocate n) s = changes s (gave (mem.given s.memory)) (host_allocate mem n s)
  ask (to_write p bs) s = changes s done (host_write mem p bs s)
  ask (to_read P p n) s = shows s (host_read mem P p n s)
  ask (to_start P f context gs) s = changes s done (start mem P f context gs s)
  ask (to_step P) s = steps s (step_once mem P s)
  ask (to_run P budget) s = goes s (run mem P budget s)
  ask (to_list room) s = lays s (host_list mem room s)

  -- the replies to any asks, one after the other
  unfoldable pub replies : List Ask → Machine M → List Reply
  replies [] s = []
  replies (a ∷ as') s = (ask a s).reply ∷ replies as' (ask a s).machine

  -- the machine after them
  unfoldable pub following : List Ask → Machine M → Machine M
  following [] s = s
  following (a ∷ as') s = following as' (ask a s).machine
