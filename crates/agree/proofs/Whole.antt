-- A sound state is seen as a sound machine, and well encoded tables that are seen so are sound: the memory's tests are its own theorem, and bytes of the store are bytes of the allocations.
use Prim.Native.Nat.{ℕ, zero, suc, ◌+◌, ◌-◌, ◌*◌}
use mathlib.Core.Bool.{Bool, true, ◌&&◌}
use mathlib.Core.Path.{◌≡◌, ◌∙◌, sym}
use mathlib.Core.List.{List, [], ◌∷◌}
use lib.ListN.{get_or}
use lib.Dec.{T}
use mir.Facts.{yes_and}
use Rattle.memory.specs.Memory.{Frame, read_bytes}
use Rattle.memory.specs.Sound.{sound_machine, typed}
use Rattle.memory.specs.Tables.{State, sound_of}
use Rattle.memory.specs.Encoded.{well_encoded}
use Rattle.memory.specs.View.{tab, bytes_of, allocations_in, frame_in, view}
use Rattle.memory.proofs.Every.{same_truth}
use Rattle.memory.proofs.Encoded.{sound_exactly_when}
use Rattle.memory.proofs.Whole.{sound-seen}
use Rattle.machine.specs.Sound.{all, are_bytes, bytes_in, sound}
use Rattle.machine.proofs.Sound.{sound-held}
use Rattle.machine.proofs.SoundMemory.{later_same, sounds_kept, all_both}
use Rattle.machine.proofs.Values.{Keeps, Bytes}
use Rattle.agree.specs.Seen.{seen, SoundAsSeen}
use Rattle.instruction.proofs.Bytes.{part_bytes, are-bytes}
use Rattle.image.specs.Limits.{AreBytes}
use Rattle.value.proofs.Truth.{is_true, is_yes, both_true, and_true}

all-tab : {A : Type 0} (f : A → Bool) (n : ℕ) (g : ℕ → A) → ((i : ℕ) → T (f (g i))) → T (all f (tab n g))
unfolding tab all
all-tab f zero g h = tt
all-tab f (suc n) g h = all_both f (tab n g) (g n ∷ []) (all-tab f n g h) (yes_and (f (g n)) true (h n) tt)

module _ (s : State) (h : sound_of s ≡ true) (bytes : AreBytes s.memory.store) where
  allocation-bytes : (k : ℕ) → T (are_bytes (bytes_of s.memory.bounds s.memory.store k))
  allocation-bytes k =
      let b = s.memory.bounds in
      are-bytes (bytes_of b s.memory.store k) (part_bytes s.memory.store (get_or b k 0) (get_or b (k + 1) 0 - get_or b k 0) bytes)

  frames-bytes : T (bytes_in (view s.memory).frames)
  unfolding view bytes_in allocations_in
  frames-bytes =
      let t = s.memory in
      all-tab (λ (f : Frame). all are_bytes f.allocations) t.registers.depth (frame_in t.frames t.bounds t.store)
      (λ i. all-tab are_bytes _ (λ j. bytes_of t.bounds t.store (get_or t.frames (i * 4 + 3) 0 + j)) (λ j. allocation-bytes (get_or t.frames (i * 4 + 3) 0 + j)))

  pub seen-sound : T (sound (seen s))
  unfolding sound
  seen-sound =
      let e = sound-seen s h in
      yes_and (sound_machine (seen s).memory (seen s).running (seen s).place (seen s).vars) _ (is_yes e.0) (yes_and (typed (seen s).vars 256) _ (is_yes e.1) frames-bytes)

  -- what is read are so many bytes
  pub read-bytes : (constants : List (List ℕ)) → T (all are_bytes constants) → (p n : ℕ) → Keeps (Bytes n) (read_bytes constants (view s.memory) p n)
  read-bytes constants fine p n = (sounds_kept (view s.memory)).read (sound-held {m₀ = view s.memory} {s = seen s} seen-sound (later_same (view s.memory))).memory constants fine p n

-- Tables whose store is made of bytes are sound exactly when they are well encoded and the machine that they show is sound.
pub sound_as_seen : SoundAsSeen
unfolding sound
sound_as_seen s bytes =
    same_truth (sound_of s) (well_encoded s && sound (seen s))
    (λ e. and_true (both_true (well_encoded s) _ (sym (sound_exactly_when s) ∙ e)).0 (is_true (sound (seen s)) (seen-sound s e bytes)))
    (λ e. let b = both_true (well_encoded s) (sound (seen s)) e in
    let c = both_true (sound_machine (seen s).memory (seen s).running (seen s).place (seen s).vars) _ b.1 in
    sound_exactly_when s ∙ and_true b.0 c.0)
