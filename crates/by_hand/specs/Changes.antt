-- "`poke WHAT ..` changes the state with no check at all". "A frame or pointer past the end of its table changes the count alone".
use Rattle.std.specs.Prelude.{ℕ, zero, suc, ◌+◌, ◌-◌, ◌*◌, ◌^◌, min, List, set, ltb}
use Rattle.value.specs.Answer.{pick}
use Rattle.memory.specs.declared.Registers.{Registers}
use Rattle.memory.specs.declared.PointerRecord.{PointerRecord}
use Rattle.memory.specs.Tables.{registers, pointer, pointer_set, frame_set, with_pointers}
use Rattle.commands.specs.declared.command.Poke.{Poke}
use Rattle.commands.specs.declared.command.Poke.TheVariants as poke
use Rattle.commands.specs.declared.Parts.{Parts}

-- ---- the tables

-- "I below 256"
abbrev pub variable_put : List ℕ → (place tag bits : ℕ) → List ℕ
variable_put vs i tag bits = pick (ltb i 256) (set (set vs (i * 2) tag) (i * 2 + 1) bits) vs

-- "pushes a frame with no allocation": the record above it has the number of live allocations, as before
abbrev pub frame_put : List ℕ → (depth id place variable : ℕ) → List ℕ
frame_put fr d id place v = pick (ltb d 64) (frame_set fr d id place v) fr

-- word 0 is a frame's id, 1 its return place, 2 its return variable
abbrev pub word_put : List ℕ → (frame word value : ℕ) → List ℕ
word_put fr f w v = pick (ltb f 64) (set fr (f * 4 + w) v) fr

abbrev pub pointer_put : List ℕ → ℕ → PointerRecord → List ℕ
pointer_put ps p v = pick (ltb p 4096) (pointer_set ps p v) ps

-- so many pointers to a constant, from a number on
unfoldable pub constants_put : (count : ℕ) → List ℕ → (p constant : ℕ) → List ℕ
constants_put zero ps p k = ps
constants_put (suc n) ps p k = constants_put n (pointer_put ps p (pointer 1 k 0 0 0)) (p + 1) k

-- ---- the registers

-- a count as 64 bits hold it
abbrev pub more : ℕ → ℕ → ℕ
more n by = min (n + by) (2 ^ 64 - 1)

abbrev pub with_depth : Registers → ℕ → Registers
with_depth m d = registers m.running m.next m.counter d m.pointers

-- ---- a change

pub record Poked : Type 0 where
  pub registers : Registers
  pub frames : List ℕ
  pub pointers : List ℕ
  pub variables : List ℕ

abbrev pub poked : Registers → (frames pointers variables : List ℕ) → Poked
poked m fr ps vs = record { registers = m; frames = fr; pointers = ps; variables = vs }

-- the change of each command, by the numbers of its parts
abbrev pub poked_of : Registers → Poke → Parts → (frames pointers variables : List ℕ) → Poked
poked_of m poke.Counter a fr ps vs = poked (registers m.running m.next a.first m.depth m.pointers) fr ps vs
poked_of m poke.Next a fr ps vs = poked (registers m.running a.first m.counter m.depth m.pointers) fr ps vs
poked_of m poke.Running a fr ps vs = poked (registers a.first m.next m.counter m.depth m.pointers) fr ps vs
poked_of m poke.Var a fr ps vs = poked m fr ps (variable_put vs a.first a.second a.third)
poked_of m poke.Unset a fr ps vs = poked m fr ps (variable_put vs a.first 0 0)
poked_of m poke.Frame a fr ps vs = poked (with_depth m (more m.depth 1)) (frame_put fr m.depth a.first a.second a.third) ps vs
poked_of m poke.Id a fr ps vs = poked m (word_put fr a.first 0 a.second) ps vs
poked_of m poke.Place a fr ps vs = poked m (word_put fr a.first 1 a.second) ps vs
poked_of m poke.Rvar a fr ps vs = poked m (word_put fr a.first 2 a.second) ps vs
poked_of m poke.Local a fr ps vs = poked (with_pointers m (more m.pointers 1)) fr (pointer_put ps m.pointers (pointer 0 a.first a.second a.third a.fourth)) vs
poked_of m poke.Const a fr ps vs =
    poked (with_pointers m (more m.pointers a.second)) fr (constants_put (min (more m.pointers a.second) 4096 - m.pointers) ps m.pointers a.first) vs
