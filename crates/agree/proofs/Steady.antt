-- A sound state, fact by fact, and back: what every instruction may take for granted of its tables, and what it has to leave.
use Prim.Native.Nat.{ℕ, ◌≤◌}
use mathlib.Core.Bool.{true}
use mathlib.Core.Path.{◌≡◌}
use mathlib.Core.List.{List}
use lib.ListN.{length}
use lib.Dec.{leb, eqb}
use borrow.Author.Tests.{le-leb, leb-true, eq-eqb, eqb-true}
use Rattle.memory.specs.Tables.{Tables, State, state, memory_ok, registers_ok, variable_ok, every, sound_of}
use Rattle.memory.proofs.Every.{every-at, every-all}
use Rattle.memory.proofs.Facts.{Sound, sound-of, sound_test}
use Rattle.agree.specs.Seen.{Runs}
use Rattle.instruction.proofs.Values.{Variables}
use Rattle.image.specs.Limits.{AreBytes}
use Rattle.value.proofs.Truth.{both_true, and_true}

-- the facts of a state that runs
pub record Steady (s : State) : Type 0 where
  pub sound : sound_of s ≡ true
  pub memory : Sound s.memory
  pub variables : Variables s.variables
  pub running : s.memory.registers.running ≡ 1
  pub place : s.memory.registers.next ≤ 4096
  pub bytes : AreBytes s.memory.store

-- the facts of any sound state
pub tables-sound : (s : State) → sound_of s ≡ true → Sound s.memory × Variables s.variables × (s.memory.registers.next ≤ 4096)
unfolding sound_of registers_ok
tables-sound s so =
    let t = s.memory in
    let a = both_true (memory_ok t) _ so in
    let b = both_true (eqb (length s.variables) 512) _ a.1 in
    let c = both_true (registers_ok t.registers.running t.registers.next t.registers.depth) (every 256 (variable_ok s.variables)) b.1 in (
      sound-of t a.0,
      record { counted = eqb-true _ 512 b.0; each = every-at 256 (variable_ok s.variables) c.1 },
      leb-true _ 4096 (both_true (leb t.registers.next 4096) _ c.0).0,
    )

pub steady : (s : State) → Runs s → Steady s
steady s r =
    let z = tables-sound s r.sound in
    record { sound = r.sound; memory = z.0; variables = z.1; running = r.running; place = z.2; bytes = r.bytes }

running-ok : (running next depth : ℕ) → running ≡ 1 → next ≤ 4096 → registers_ok running next depth ≡ true
unfolding registers_ok
running-ok running next depth r l = rw (r, le-leb next 4096 l)

idle-ok : (running next depth : ℕ) → running ≡ 0 → depth ≡ 1 → next ≤ 4096 → registers_ok running next depth ≡ true
unfolding registers_ok
idle-ok running next depth r d l = rw (r, d, le-leb next 4096 l)

state-sound : (t : Tables) (vars : List ℕ) → Sound t → Variables vars → registers_ok t.registers.running t.registers.next t.registers.depth ≡ true
    → sound_of (state t vars) ≡ true
unfolding sound_of
state-sound t vars so v r = and_true (sound_test t so) (and_true (eq-eqb _ 512 v.counted) (and_true r (every-all 256 (variable_ok vars) v.each)))

pub runs : (t : Tables) (vars : List ℕ) → Sound t → Variables vars → t.registers.running ≡ 1 → t.registers.next ≤ 4096
    → AreBytes t.store → Runs (state t vars)
runs t vars so v r l b = record { sound = state-sound t vars so v (running-ok _ _ _ r l); running = r; bytes = b }

pub rests : (t : Tables) (vars : List ℕ) → Sound t → Variables vars → t.registers.running ≡ 0 → t.registers.depth ≡ 1 → t.registers.next ≤ 4096 → sound_of (state t vars) ≡ true
rests t vars so v r d l = state-sound t vars so v (idle-ok _ _ _ r d l)

-- with other tables, and the registers' own facts as before
pub again_sound : (s : State) → sound_of s ≡ true → (t : Tables) → Sound t → t.registers.running ≡ s.memory.registers.running → t.registers.next ≡ s.memory.registers.next
    → t.registers.depth ≡ s.memory.registers.depth → sound_of (state t s.variables) ≡ true
unfolding sound_of
again_sound s so t st r n d =
    let a = both_true (memory_ok s.memory) _ so in
    let b = both_true (eqb (length s.variables) 512) _ a.1 in
    rw (sound_test t st, r, n, d) a.1
