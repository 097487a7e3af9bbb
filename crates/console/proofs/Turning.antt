-- A command's parts together are what it leaves: what the entry gave, the registers after it, and the line that was written.
use Prim.Native.Nat.{ℕ, ◌+◌, ◌<◌, ◌≤◌, min}
use native.Mathlib.Nat.{min-le_right}
use native.Mathlib.Omega.{arith}
use mathlib.Core.Path.{◌≡◌, refl, ap, ap₂, ◌∙◌}
use mathlib.Core.List.{List}
use lib.ListN.{length, take, replicate, length-take}
use lib.Seq.{sets}
use borrow.Author.Tests.{lt-ltb, le-ltb, le-leb}
use Rattle.words.specs.Text.{Text, text, put}
use Rattle.words.specs.Words.{words}
use Rattle.std.specs.Prelude.{Option, Some, Result, Err, ⊤}
use Rattle.words.specs.declared.BadWord.{BadWord}
use Rattle.answers.specs.Lines.{Pieces, image_line}
use Rattle.commands.specs.Commands.{LineReads}
use Rattle.commands.specs.declared.Asked.{Asked}
use Rattle.commands.specs.declared.Parts.{Parts}
use Rattle.commands.specs.declared.command.Command.{Command}
use Rattle.commands.specs.declared.command.Command.TheVariants as command
use Rattle.value.specs.declared.refusal.Refusal.{Refusal}
use Rattle.memory.specs.declared.Registers.{Registers}
use Rattle.memory.specs.Tables.{State, Both, both}
use Rattle.eval.specs.Entry.{read_entered}
use Rattle.eval.specs.Host.{host_written}
use Rattle.console.specs.declared.Told.{Told}
use Rattle.console.specs.declared.Turn.{Turn}
use Rattle.telling.specs.Told.{line, outcome_line}
use Rattle.telling.specs.Starts.{unread_line, zeros}
use Rattle.console.specs.Turns as T
use Rattle.console.specs.Turns.{done, still, registers_of, from_entering, from_running, from_all, from_out, from_both, from_poked, Left, left, told, leaving, turn, Kept, kept, kept_from, keeping}
use Rattle.telling.proofs.Telling.{take-least, part-told}

-- ---- what is told

module _ (before : List ℕ) {r : Told} {m : Registers} {w : Option ℕ} {after s f b p v : List ℕ} (d : r ≡ told m w) where
  pub tells : (ps : Pieces) → text w after ≡ line ps before → left r after s f b p v ≡ leaving before (done m s f b p v ps)
  tells ps h = ap (λ (x : Told). left x after s f b p v) d ∙ ap (λ (x : Text). left (told m x.place) x.bytes s f b p v) h

-- so many of the bytes that were read are written
module _ (before : List ℕ) (t : State) {r : Told} {w : Option ℕ} {after : List ℕ} where
  pub write-tells : (a : Parts) (bytes : List ℕ) {s : List ℕ} {count : ℕ} {e : Result ⊤ Refusal} → r ≡ told (registers_of t) w → count ≡ min a.count (length bytes)
      → both e s ≡ host_written t a.first (take count bytes) → text w after ≡ line (outcome_line e) before
      → left r after s t.memory.frames t.memory.bounds t.memory.pointers t.variables ≡ leaving before (T.write_done a bytes t)
  unfolding T.write_done
  write-tells a bytes {e = e} d k x h =
      tells before d (outcome_line e) h ∙ ap (λ (y : Both (Result ⊤ Refusal)). leaving before (from_both t y)) (x ∙ ap (host_written t a.first) (take-least a.count _ bytes k))

-- a buffer with as much room as was asked
module _ (a : Parts) (image before : List ℕ) (n : ℕ) {r : Text} where
  pub read-shown : (t : State) → n ≡ min a.second (length {A = ℕ} (replicate 32768 0)) → r ≡ line (T.reading_line (read_entered image a.first (take n (replicate 32768 0)) t)) before
      → r ≡ line (T.read_line_of a image t) before
  unfolding T.read_line_of
  read-shown t = part-told (λ l. T.reading_line (read_entered image a.first l t)) a.second n (replicate 32768 0) before

  pub rewrite-shown : n ≡ min a.first (length {A = ℕ} (replicate 32768 0)) → r ≡ line (T.rewritten_in image (take n (replicate 32768 0))) before → r ≡ line (T.rewrite_line_of a image) before
  unfolding T.rewrite_line_of
  rewrite-shown = part-told (T.rewritten_in image) a.first n (replicate 32768 0) before

-- ---- the image

pub image-put : (count : ℕ) (image bytes : List ℕ) {room n : ℕ} {w : Option ℕ} {after : List ℕ} → room ≡ min count (length image) → n ≡ min room (length bytes)
    → text w after ≡ put (take n bytes) (text (Some 0) image) → (n ≡ T.image_count count image bytes) × (after ≡ sets image 0 (take n bytes))
unfolding put
image-put count image bytes {room} {n} e f h =
    let l : length (take n bytes) ≤ length image = omega (arith, length-take n bytes, min-le_right count (length image)) in
    (f ∙ ap (λ (k : ℕ). min k (length bytes)) e, ap (λ (x : Text). x.bytes) h ∙ rw (le-leb (0 + length (take n bytes)) (length image) (omega arith)))

-- ---- beside the image and the bytes

module _ {r : Turn} {u : Told} {n : ℕ} (d : r ≡ turn u n) {after s f b p v : List ℕ} (image bytes : List ℕ) where
  keeps : {x : Left} → left u after s f b p v ≡ x → kept r after s f b p v image bytes ≡ kept_from x n image bytes
  keeps h = ap (λ (y : Turn). kept y after s f b p v image bytes) d ∙ ap (λ (y : Left). kept_from y n image bytes) h

module _ (n : ℕ) (a : Asked) (ts bs image bytes : List ℕ) (t : State) (before : List ℕ) where
  pub is-image : {r : Turn} {u : Told} {w : Option ℕ} {after stored : List ℕ} {k : ℕ} → a.command ≡ command.Image
      → (k ≡ T.image_count a.parts.count image bytes) × (stored ≡ sets image 0 (take k bytes)) → text w after ≡ line (image_line k) before → u ≡ told (registers_of t) w → r ≡ turn u k
      → kept r after t.memory.store t.memory.frames t.memory.bounds t.memory.pointers t.variables stored bytes
      ≡ keeping before (T.performed_of n a ts bs image bytes t)
  is-image {stored = stored} {k} e i h d q =
      rw e
      (keeps q stored bytes (tells before d (image_line k) h) ∙ ap (λ (y : List ℕ). kept_from (leaving before (still t (image_line k))) k y bytes) i.1
      ∙ ap (λ (j : ℕ). keeping before (T.image_taken j image bytes t)) i.0)

  pub is-machine : {r : Turn} {u : Told} {after s f b p v : List ℕ} {k : ℕ} → (a.command ≡ command.Image → ⊥) → k ≡ min n (length image)
      → left u after s f b p v ≡ leaving before (T.machine_of a ts bs (take k image) bytes t) → r ≡ turn u n
      → kept r after s f b p v image bytes ≡ keeping before (T.performed_of n a ts bs image bytes t)
  is-machine {k = k} z e h q =
      keeps q image bytes (h ∙ ap (λ (i : List ℕ). leaving before (T.machine_of a ts bs i bytes t)) (take-least n k image e)) ∙ by a.command z
    where
      by : (c : Command) → (c ≡ command.Image → ⊥)
          → kept_from (leaving before (T.machine_by c a.parts ts bs (take n image) bytes t)) n image bytes ≡ keeping before (T.performed_by n c a.parts ts bs image bytes t)
      by command.Image z = absurd (z refl)
      by _ z = refl

-- ---- a line that was not read

module _ (n : ℕ) (ts bs image bytes : List ℕ) (t : State) (before : List ℕ) where
  pub is_unread : {r : Turn} {u : Told} {w : Option ℕ} {after : List ℕ} {x : Result Asked BadWord} (k : BadWord) → x ≡ Err k → text w after ≡ line (unread_line k.0) before
      → u ≡ told (registers_of t) w → r ≡ turn u n
      → kept r after t.memory.store t.memory.frames t.memory.bounds t.memory.pointers t.variables image bytes
      ≡ keeping before (T.read_of n x ts bs image bytes t)
  is_unread k e h d q = rw e (keeps q image bytes (tells before d (unread_line k.0) h))

-- ---- a whole line

module _ (n : ℕ) (l image bytes : List ℕ) (t : State) (before : List ℕ) where
  pub is-long : {r : Turn} {u : Told} {w : Option ℕ} {after : List ℕ} → 262144 < length l → text w after ≡ line (unread_line 0) before → u ≡ told (registers_of t) w → r ≡ turn u n
      → kept r after t.memory.store t.memory.frames t.memory.bounds t.memory.pointers t.variables image bytes
      ≡ keeping before (T.answered_of n l image bytes t)
  unfolding T.answered_of
  is-long z h d q = rw (lt-ltb 262144 (length l) z) (keeps q image bytes (tells before d (unread_line 0) h))

  pub is-line : {x : Kept} {a : Result Asked BadWord} {bytes' ts bs : List ℕ} → length l ≤ 262144
      → LineReads (registers_of t).depth (words l) a bytes bytes' zeros ts zeros bs
      → x ≡ keeping before (T.read_of n a ts bs image bytes' t) → x ≡ keeping before (T.answered_of n l image bytes t)
  unfolding T.answered_of
  is-line {a = a} {bytes'} {ts} {bs} z q h =
      rw (le-ltb 262144 (length l) z)
      (h ∙ ap₂ (λ (y : Result Asked BadWord) (b : List ℕ). keeping before (T.read_of n y ts bs image b t)) q.answer q.hexed
      ∙ ap₂ (λ (x y : List ℕ). keeping before (T.read_of n (T.line_asked (registers_of t).depth (length bytes) l) x y image (T.line_bytes (registers_of t).depth l bytes) t)) q.kinds q.said)
