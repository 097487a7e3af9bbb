-- The lines of `lir run` and `lir check` have room in 128 bytes: a run's line is short, and an image that was taken has few items of each sort.
use Prim.Native.Nat.{ℕ, ◌≤◌}
use native.Mathlib.Omega.{arith}
use mathlib.Core.Path.{◌≡◌, refl}
use mathlib.Core.List.{List, flatten}
use lib.ListN.{length}
use lib.Dec.{ltb}
use Rattle.value.specs.Refusal.{number_of}
use Rattle.words.specs.Room.{size}
use Rattle.words.proofs.Room.{roomy}
use Rattle.answers.proofs.Room as Answers
use Rattle.by_hand.proofs.Room.{either}
use Rattle.image.specs.Parse.{Got, took, refused}
use Rattle.image.specs.Image.{Image, image}
use Rattle.eval.proofs.Counts.{limited}
use Rattle.telling.specs.Starts.{longest}
use Rattle.telling.proofs.Room.{ran-size, unread_size}
use Rattle.std.specs.Prelude.{Result, Ok, Err}
use Rattle.words.specs.declared.BadWord.{BadWord}
use Rattle.commands.specs.declared.Parts.{Parts}
use Rattle.once.specs.Runs.{Answer, asked_answered, start_asked, start_tags, start_bits, fresh_run, start_answered}
use Rattle.once.specs.Checked.{checked_line}
use Rattle.once.specs.Room.{StartHasRoom, CheckHasRoom}

start_line_size : (l s st f b p v : List ℕ) → size (start_answered l s st f b p v).line ≤ 128
unfolding start_answered
start_line_size l s st f b p v =
    either (λ (x : Answer). size x.line ≤ 128) (ltb longest (length l)) (λ e. unread_size 0) (λ e. go (start_asked l))
  where
    go : (r : Result Parts BadWord) → size (asked_answered s r (start_tags l) (start_bits l) st f b p v).line ≤ 128
    go (Ok a) = ran-size (fresh_run s a (start_tags l) (start_bits l) st f b p v).answer
    go (Err k) = unread_size k.0

pub start_has_room : StartHasRoom
start_has_room l s st f b p v out h = roomy (start_answered l s st f b p v).line out 128 (start_line_size l s st f b p v) h

checked-size : (s : List ℕ) → size (checked_line (image s)) ≤ 128
checked-size s = go (image s) refl
  where
    go : (g : Got Image) → image s ≡ g → size (checked_line g) ≤ 128
    go (refused why place) h = Answers.image_refused_size (number_of why) place
    go (took i e) h =
        let few = limited s i e h in
        Answers.taken-size i.variables (length i.constants) (length i.functions) (length i.blocks) (length (flatten i.blocks))
        (omega (arith, few.constants)) (omega (arith, few.functions)) (omega (arith, few.blocks)) (omega (arith, few.instructions))

pub check_has_room : CheckHasRoom
check_has_room s out h = roomy (checked_line (image s)) out 128 (checked-size s) h
