-- A state's tables as the machine a reader believes, and what an instruction's answer says of it, with the tables after it.
use Rattle.std.specs.Prelude.{ℕ, min, length, true, ◌&&◌, ◌≡◌, List, Result, Ok, Err, Some, None}
use Rattle.std.specs.Prelude as Code
use Rattle.std.proofs.Math.Option.{Option, none, some}
use Rattle.value.specs.declared.refusal.Refusal.{Refusal}
use Rattle.value.specs.Answer.{Answer, ok, refused}
use Rattle.value.specs.Value.{Value, tag}
use Rattle.memory.specs.Memory.{Memory}
use Rattle.memory.specs.Tables.{State, sound_of}
use Rattle.memory.specs.Encoded.{well_encoded}
use Rattle.memory.specs.Stored.{stored_value}
use Rattle.memory.specs.View.{view, running_in, variables_in}
use Rattle.memory.specs.declared.Registers.{Registers}
use Rattle.machine.specs.Machine.{Machine, Stepped, went, ended}
use Rattle.machine.specs.Sound as Sound
use Rattle.instruction.specs.Variables.{found}
use Rattle.instruction.specs.declared.variables.Found.{Found}
use Rattle.instruction.specs.declared.step.Progress.{Progress}
use Rattle.instruction.specs.declared.step.Progress.TheVariants.{Next, Ended}
use Rattle.image.specs.Limits.{AreBytes}

-- the memory by its view, and the rest of the machine beside it
abbrev pub seen : State → Machine Memory
seen s = record {
  memory = view s.memory;
  running = running_in s.memory.registers.running;
  place = s.memory.registers.next;
  vars = variables_in s.variables;
}

-- tables whose store is made of bytes are sound exactly when they are well encoded and the machine that they show is sound
abbrev pub SoundAsSeen : Type 0
SoundAsSeen = (s : State) → AreBytes s.memory.store → sound_of s ≡ (well_encoded s && Sound.sound (seen s))

-- the last Return's value, if it had one
abbrev pub returned_in : Code.Option Found → Option Value
returned_in None = none
returned_in (Some v) = stored_value v.tag v.bits

-- and the tag and bits that tell it
abbrev pub found_if : Option Value → Code.Option Found
found_if none = None
found_if (some v) = Some (found (tag v.kind) v.bits)

-- `after` is the state with the tables as they are left and these registers
abbrev pub outcome : Result Progress Refusal → (after : Registers → State) → Answer (Stepped Memory)
outcome (Ok (Next m)) after = ok (went (seen (after m)))
outcome (Ok (Ended m v)) after = ok (ended (returned_in v) (seen (after m)))
outcome (Err n) after = refused n

-- a state in which a step is defined: sound, running, and its store made of bytes
pub record Runs (s : State) : Type 0 where
  pub sound : sound_of s ≡ true
  pub running : s.memory.registers.running ≡ 1
  pub bytes : AreBytes s.memory.store

-- the state after is sound again and its store made of bytes, and it runs unless it has ended: then its value has the tag and bits that tell it;
-- "A refusal leaves state and lent buffers untouched"
abbrev pub Kept : (before : State) → Result Progress Refusal → (after : Registers → State) → Type 0
Kept s (Ok (Next m)) after = Runs (after m)
Kept s (Ok (Ended m v)) after = (sound_of (after m) ≡ true) × AreBytes (after m).memory.store × (v ≡ found_if (returned_in v))
Kept s (Err n) after = after s.memory.registers ≡ s

-- the answer and the tables after it are the believed machine's answer, and sound
pub record Agrees (before : State) (answer : Result Progress Refusal) (after : Registers → State) (believed : Answer (Stepped Memory)) : Type 0 where
  pub same : outcome answer after ≡ believed
  pub kept : Kept before answer after

-- the room of the list is that of its shortest slice
abbrev pub room : (live frame allocation offset : List ℕ) → ℕ
room l f a o = min (length l) (min (length f) (min (length a) (length o)))
