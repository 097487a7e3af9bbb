-- A start line's answer: the line is too long, cannot be read, or is told by the run on fresh memory.
use Prim.Native.Nat.{ℕ, ◌<◌, ◌≤◌}
use mathlib.Core.Path.{◌≡◌, sym, ap, ap₂, ◌∙◌}
use mathlib.Core.List.{List}
use lib.ListN.{length}
use borrow.Author.Tests.{lt-ltb, le-ltb}
use Rattle.words.specs.Text.{Text, text}
use Rattle.words.specs.Words.{words}
use Rattle.std.specs.Prelude.{Option, Result, Ok, Err}
use Rattle.words.specs.declared.BadWord.{BadWord}
use Rattle.answers.specs.Lines.{Pieces}
use Rattle.commands.specs.Commands.{StartReads}
use Rattle.commands.specs.declared.Parts.{Parts}
use Rattle.run.specs.Run.{Running, running}
use Rattle.run.specs.declared.Ran.{Ran}
use Rattle.eval.specs.declared.entry.EntryError.{EntryError}
use Rattle.telling.specs.Told.{line, ran_line}
use Rattle.telling.specs.Starts.{unread_line, zeros, longest}
use Rattle.once.specs.Runs.{fresh_run, answer, from_run, start_asked, start_answered, answered, answering}

-- ---- the line

tells : {w : Option ℕ} (before : List ℕ) {after : List ℕ} (ps : Pieces) {s f b p v : List ℕ} → text w after ≡ line ps before
    → answered w after s f b p v ≡ answering before (answer ps s f b p v)
tells before ps {s} {f} {b} {p} {v} h = ap (λ (x : Text). answered x.place x.bytes s f b p v) h

asks : (l : List ℕ) {r : Result Parts BadWord} {hex hex' ts bs : List ℕ} → length hex ≡ 1 → StartReads (words l) r hex hex' zeros ts zeros bs → r ≡ start_asked l
asks l one q = rw one at q.answer

module _ (l s st f b p v before : List ℕ) {w : Option ℕ} {after : List ℕ} where
  pub start-long : longest < length l → text w after ≡ line (unread_line 0) before → answered w after st f b p v ≡ answering before (start_answered l s st f b p v)
  unfolding start_answered
  start-long z h = rw (lt-ltb longest (length l) z) (tells before (unread_line 0) h)

  module _ (z : length l ≤ longest) {r : Result Parts BadWord} {hex hex' ts bs : List ℕ} (one : length hex ≡ 1) (q : StartReads (words l) r hex hex' zeros ts zeros bs) where
    pub start_unread : (k : BadWord) → r ≡ Err k → text w after ≡ line (unread_line k.0) before → answered w after st f b p v ≡ answering before (start_answered l s st f b p v)
    unfolding start_answered
    start_unread k y h = rw (le-ltb longest (length l) z, sym (asks l one q) ∙ y) (tells before (unread_line k.0) h)

    pub start-runs : {x : Result Ran EntryError} {st' f' b' p' v' : List ℕ} (a : Parts) → r ≡ Ok a → running x st' f' b' p' v' ≡ fresh_run s a ts bs st f b p v → text w after ≡ line (ran_line x) before
        → answered w after st' f' b' p' v' ≡ answering before (start_answered l s st f b p v)
    unfolding start_answered
    start-runs {x = x} a y e h =
        rw (le-ltb longest (length l) z, sym (asks l one q) ∙ y)
        (tells before (ran_line x) h ∙ ap (λ (k : Running (Result Ran EntryError)). answering before (from_run k)) (e ∙ ap₂ (λ (i j : List ℕ). fresh_run s a i j st f b p v) q.kinds q.said))
