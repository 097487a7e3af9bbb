-- What the host's calls on the memory make of registers and tables: "10 state not sound", and else what the memory does.
use Rattle.std.specs.Prelude.{ℕ, List, Result, Err, ⊤}
use Rattle.value.specs.declared.refusal.Refusal.{Refusal}
use Rattle.value.specs.Answer.{pick}
use Rattle.value.specs.Refusal.{not_sound}
use Rattle.memory.specs.Tables.{State, Both, both, Out, Listing, listing, unmade, sound_of, allocated_of, written_of, listed_of}

unfoldable pub host_allocated : State → (size : ℕ) → Out
host_allocated t size = pick (sound_of t) (allocated_of t.memory size) (unmade t.memory not_sound)

unfoldable pub host_written : State → (p : ℕ) → (bytes : List ℕ) → Both (Result ⊤ Refusal)
host_written t p bytes = pick (sound_of t) (written_of t.memory p bytes) (both (Err not_sound) t.memory.store)

unfoldable pub host_listed : State → (live frame allocation offset : List ℕ) → Listing
host_listed t l f a o = pick (sound_of t) (listed_of t.memory l f a o) (listing (Err not_sound) l f a o)
