-- Every ask of an accepted program keeps the state sound, so that from fresh memory on 10 is never given: each entry is what is asked.
use Prim.Native.Nat.{ℕ, zero, suc, ◌<◌}
use native.Mathlib.Nat.{le_refl, not-suc-le-zero}
use native.Mathlib.Omega.{arith}
use native.Mathlib.Decide.{ℕ_discrete}
use mathlib.Core.Bool.{Bool, true, false, ◌||◌}
use mathlib.Core.Path.{◌≡◌, refl, sym, ap, subst}
use mathlib.Core.Option.{Option, none, some}
use mathlib.Core.List.{List, [], ◌∷◌, ◌++◌}
use lib.ListN.{length}
use lib.Dec.{T, leb, eqb, leb→le, le→leb}
use mir.Facts.{and_yes, yes_and}
use Rattle.value.specs.Refusal.{not_sound}
use Rattle.value.specs.Answer.{pick}
use Rattle.memory.specs.Memory as Memory
use Rattle.memory.specs.Memory.{Memory, live_count, live_bytes, sum}
use Rattle.machine.specs.Machine.{Machine, Vars, fresh}
use Rattle.machine.specs.Believed.{believed}
use Rattle.value.specs.Value.{Value}
use Rattle.value.specs.Tags.{holds}
use Rattle.value.proofs.Truth.{is_true, is_yes}
use Rattle.memory.specs.Sound.{rising, good_var, good_back, good_backs, good_value, good_vars, sound_memory, sound_machine, in_kind, typed}
use Rattle.memory.proofs.Stored.{no_bad_char}
use Rattle.machine.specs.Sound.{all, bytes_in, sound}
use Rattle.machine.specs.Accepted.{accepted_ask}
use Rattle.machine.specs.Asks.{Ask, Reply, refusal, turn, ask, replies, following}
use Rattle.machine.specs.Entries.{enter, answers, onwards}
use Rattle.machine.proofs.Kept.{GoodIf, Held, ask-held}
use Rattle.machine.proofs.SoundMemory.{sound_solid, solid_sound, Later, later_same, later_then, sounds_kept}

pub fresh-sound : T (sound (fresh believed))
unfolding sound sound_machine sound_memory bytes_in all rising good_backs good_back good_var good_vars good_value typed in_kind Memory.fresh sum live_count live_bytes fresh
fresh-sound = tt

-- ---- the test, and the facts

value-good : (o : Option Value) → T (in_kind o) → GoodIf o
unfolding in_kind
value-good none u = tt
value-good (some v) u = u

typed-value : (o : Option Value) → GoodIf o → T (in_kind o)
unfolding in_kind
typed-value none t = tt
typed-value (some v) t = t

good-value : (o : Option Value) → GoodIf o → T (good_value o)
unfolding good_value
good-value none t = tt
good-value (some v) t = is_yes (no_bad_char v.kind v.bits (is_true (holds v.kind v.bits) t))

-- a value's bits are its kind's: `GoodIf`, as a test
values-good : (vs : Vars) (n : ℕ) → T (typed vs n) → (x : ℕ) → x < n → GoodIf (vs x)
unfolding typed
values-good vs zero u x l = absurd (not-suc-le-zero l)
values-good vs (suc n) u x l =
    let b = and_yes (in_kind (vs n)) (typed vs n) u in
    elim (ℕ_discrete x n) [ yes e ↦ subst (λ (k : ℕ). GoodIf (vs k)) (sym e) (value-good (vs n) b.0) | no d ↦ values-good vs n b.1 x (omega arith) ]

good-values : (vs : Vars) (n : ℕ) → ((x : ℕ) → x < n → GoodIf (vs x)) → T (good_vars vs n) × T (typed vs n)
unfolding good_vars typed
good-values vs zero f = (tt, tt)
good-values vs (suc n) f =
    let r = good-values vs n (λ x l. f x (omega arith)) in
    (yes_and (good_value (vs n)) (good_vars vs n) (good-value (vs n) (f n (le_refl _))) r.0, yes_and (in_kind (vs n)) (typed vs n) (typed-value (vs n) (f n (le_refl _))) r.1)

module _ {m₀ : Memory} {s : Machine Memory} where
  pub sound-held : T (sound s) → Later m₀ s.memory → Held (sounds_kept m₀) s
  unfolding sound sound_machine
  sound-held t l =
      let z = and_yes (sound_machine s.memory s.running s.place s.vars) _ t in
      let y = and_yes (typed s.vars 256) (bytes_in s.memory.frames) z.1 in
      let a = and_yes (sound_memory s.memory) _ z.0 in
      let b = and_yes (leb s.place 4096) _ a.1 in
      let c = and_yes (good_vars s.vars 256) (s.running || eqb (length s.memory.frames) 1) b.1 in
      record {
        memory = record { solid = sound_solid s.memory a.0 y.1; later = l; idle = c.1 };
        place = leb→le s.place 4096 b.0;
        vars = values-good s.vars 256 y.0;
      }

  held-sound : Held (sounds_kept m₀) s → T (sound s)
  unfolding sound sound_machine bytes_in
  held-sound h =
      let g = good-values s.vars 256 h.vars in
      yes_and (sound_machine s.memory s.running s.place s.vars) _
      (yes_and (sound_memory s.memory) _ (solid_sound s.memory h.memory.solid)
      (yes_and (leb s.place 4096) _ (le→leb s.place 4096 h.place)
      (yes_and (good_vars s.vars 256) (s.running || eqb (length s.memory.frames) 1) g.0 h.memory.idle)))
      (yes_and (typed s.vars 256) (bytes_in s.memory.frames) g.1 h.memory.solid.contents)

pub sound_root : (s : Machine Memory) → T (sound s) → 0 < length s.memory.frames
sound_root s t = (sound-held {m₀ = s.memory} t (later_same s.memory)).memory.solid.root

-- Every accepted ask of a sound state leaves a sound state, later than the one before.
pub ask-sound : (a : Ask) (s : Machine Memory) → T (accepted_ask a) → T (sound s) → T (sound (ask believed a s).machine) × Later s.memory (ask believed a s).machine.memory
ask-sound a s t u =
    let h = ask-held (sounds_kept s.memory) (sound-held u (later_same s.memory)) a t in
    (held-sound h, h.memory.later)

-- ---- entries

pub entered : (a : Ask) (s : Machine Memory) → T (sound s) → enter a s ≡ ask believed a s
unfolding enter
entered a s t = go (sound s) t
  where
    go : (b : Bool) → T b → pick b (ask believed a s) (turn (refusal not_sound) s) ≡ ask believed a s
    go true t = refl
    go false t = absurd t

pub enter-sound : (a : Ask) (s : Machine Memory) → T (accepted_ask a) → T (sound s) → T (sound (enter a s).machine) × Later s.memory (enter a s).machine.memory
enter-sound a s t u = rw (entered a s u) (ask-sound a s t u)

pub onwards-sound : (as' : List Ask) (s : Machine Memory) → T (all accepted_ask as') → T (sound s) → T (sound (onwards as' s)) × Later s.memory (onwards as' s).memory
unfolding all onwards
onwards-sound [] s t u = (u, later_same s.memory)
onwards-sound (a ∷ as') s t u =
    let v = and_yes (accepted_ask a) (all accepted_ask as') t in
    let one = enter-sound a s v.0 u in
    let rest = onwards-sound as' (enter a s).machine v.1 one.0 in
    (rest.0, later_then one.1 rest.1)

pub onwards-following : (as' : List Ask) (s : Machine Memory) → T (all accepted_ask as') → T (sound s) → onwards as' s ≡ following believed as' s
unfolding all onwards following
onwards-following [] s t u = refl
onwards-following (a ∷ as') s t u =
    let v = and_yes (accepted_ask a) (all accepted_ask as') t in
    rw (entered a s u) (onwards-following as' (ask believed a s).machine v.1 (ask-sound a s v.0 u).0)

pub answers-replies : (as' : List Ask) (s : Machine Memory) → T (all accepted_ask as') → T (sound s) → answers as' s ≡ replies believed as' s
unfolding all answers replies
answers-replies [] s t u = refl
answers-replies (a ∷ as') s t u =
    let v = and_yes (accepted_ask a) (all accepted_ask as') t in
    rw (entered a s u) (ap {B = List Reply} (λ r. (ask believed a s).reply ∷ r) (answers-replies as' (ask believed a s).machine v.1 (ask-sound a s v.0 u).0))

-- ---- one sequence after another

pub onwards-append : (as' bs' : List Ask) (s : Machine Memory) → onwards (as' ++ bs') s ≡ onwards bs' (onwards as' s)
unfolding onwards
onwards-append [] bs' s = refl
onwards-append (a ∷ as') bs' s = onwards-append as' bs' (enter a s).machine

pub all_append : {A : Type 0} (f : A → Bool) (l r : List A) → T (all f (l ++ r)) → T (all f l) × T (all f r)
unfolding all
all_append f [] r t = (tt, t)
all_append f (x ∷ l) r t =
    let u = and_yes (f x) (all f (l ++ r)) t in
    let v = all_append f l r u.1 in
    (yes_and (f x) (all f l) u.0 v.0, v.1)
