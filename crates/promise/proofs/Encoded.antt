-- A call on any well encoded state is what the machine makes of the ask: a sound one by the entries' theorem, any other is 10 on both sides.
use mathlib.Core.Bool.{Bool, true, false, ◌&&◌}
use mathlib.Core.Path.{◌≡◌, refl, sym, ap, ◌∙◌}
use Rattle.memory.specs.Tables.{State, sound_of}
use Rattle.memory.specs.Encoded.{well_encoded}
use Rattle.image.specs.Limits.{AreBytes}
use Rattle.machine.specs.Sound.{sound}
use Rattle.machine.specs.Entries.{enter}
use Rattle.machine.proofs.Promises as Machine
use Rattle.agree.specs.Seen.{seen}
use Rattle.agree.proofs.Whole.{sound_as_seen}
use Rattle.promise.specs.Calls.{call, shown}
use Rattle.promise.specs.Promised.{EncodedAnswer}
use Rattle.promise.proofs.Answers.{entries_answer}
use Rattle.promise.proofs.Refused.{unsound_refused}

-- what is shown by well encoded tables that are not sound is not sound
unseen : (t : State) → well_encoded t ≡ true → AreBytes t.memory.store → sound_of t ≡ false → sound (seen t) ≡ false
unseen t w b e = ap (λ (x : Bool). x && sound (seen t)) (sym w) ∙ sym (sound_as_seen t b) ∙ e

pub encoded_answer : EncodedAnswer
encoded_answer c a q t w b = go (sound_of t) refl
  where
    go : (x : Bool) → sound_of t ≡ x → shown (call c t) ≡ enter a (seen t)
    go true e = (entries_answer c a q t (record { sound = e; bytes = b })).same
    go false e = ap shown (unsound_refused c a q t e) ∙ sym (Machine.unsound_refused a (seen t) (unseen t w b e))
