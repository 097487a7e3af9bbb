-- Any C functions in any order are promise's calls: each leaves words of the right lengths and a store of bytes, so the next is a call too.
use Rattle.std.specs.Prelude.{Result, Ok}
use Prim.Native.Nat.{ℕ}
use native.Mathlib.Omega.{arith}
use mathlib.Core.Bool.{Bool, true, false}
use mathlib.Core.Path.{◌≡◌, refl, sym, ap, ap₂, ◌∙◌, subst}
use mathlib.Core.List.{List, [], ◌∷◌, map}
use lib.ListN.{length}
use lib.Dec.{eqb}
use borrow.Author.Tests.{eq-eqb}
use Rattle.value.specs.declared.refusal.Refusal.{Refusal}
use Rattle.value.specs.Answer.{pick}
use Rattle.value.specs.Refusal.{not_sound, number_of}
use Rattle.image.specs.Parse.{Got, took, refused}
use Rattle.image.specs.Program.{Program}
use Rattle.image.specs.Image.{loaded}
use Rattle.image.specs.Limits.{AreBytes}
use Rattle.memory.specs.declared.Registers.{Registers}
use Rattle.memory.specs.Tables.{State, state, tables, All, registers, fresh_of, sound_of}
use Rattle.memory.proofs.Every.{by_test}
use Rattle.memory.proofs.Laws.{fresh-made}
use Rattle.memory.proofs.Facts.{ready_test}
use Rattle.machine.specs.Asks.{Reply, refusal}
use Rattle.eval.specs.After.{after_moved}
use Rattle.promise.specs.Calls.{Call, call_allocate, call_write, call_read, call_start, call_step, call_run, call_list, call, Heard, heard, AllLent, refuses-read, refuses-start, refuses-step, refuses-run, heard_by, left_by}
use Rattle.promise.specs.Calls as Calls
use Rattle.promise.specs.Promised.{Begun, begun}
use Rattle.promise.proofs.Refused.{images_refused, unsound_refused}
use Rattle.promise.proofs.Answers.{entries_answer}
use Rattle.promise.proofs.Tells.{Told, asks, refuses}
use Rattle.promise.proofs.Tells as Tells
use Rattle.promise.proofs.Sequence.{fresh-begun}
use Rattle.replies.specs.Words.{reply_words, shaped_of, reply_moved}
use Rattle.replies.specs.declared.words.Reply as Words
use Rattle.embed.specs.Called.{Lent, Gave, gave, registers_of, state_of, fresh_gave, fresh_called}
use Rattle.linked.specs.Functions.{function, numbers_by, lent_by, told, placed, in_words, takes_answer, shaped, answering}
use Rattle.linked.specs.Linked.{Sized, FreshBegins, Follows, FunctionsFollow}
use Rattle.linked.proofs.Functions.{functions_are_calls}

-- ---- one call

-- what a host goes on with: five registers, four words of answer, and a store made of bytes
pub record Held (l : Lent) : Type 0 where
  pub registers : length l.registers ≡ 5
  pub answer : length l.answer ≡ 4
  pub bytes : AreBytes l.store

pub words-shaped : (l : Lent) → length l.registers ≡ 5 → length l.answer ≡ 4 → shaped_of (length l.registers) (length l.answer) ≡ true
unfolding shaped_of
words-shaped l r a = rw (r, a) refl

call-shaped : (c : Call) (l : Lent) → Held l → shaped c l ≡ true
call-shaped c l h = go (takes_answer c)
  where
    go : (b : Bool) → pick b (shaped_of (length l.registers) (length l.answer)) (eqb (length l.registers) 5) ≡ true
    go true = words-shaped l h.registers h.answer
    go false = eq-eqb _ 5 h.registers

pub function-is : (c : Call) → Calls.Lent c → (l : Lent) → Held l → function c l ≡ answering c l
function-is c w l h = functions_are_calls c w l h.bytes ∙ ap (λ x. pick x (answering c l) (gave (number_of not_sound) l)) (call-shaped c l h)

-- a refused image has the number that loading gives
loading_number : (s : List ℕ) (r : Reply) → ((n : Refusal) (q : ℕ) → loaded s ≡ refused n q → r ≡ refusal n) → (placed (loaded s) (told r)).number ≡ (told r).number
loading_number s r f = go (loaded s) refl
  where
    go : (x : Got Program) → loaded s ≡ x → (placed x (told r)).number ≡ (told r).number
    go (took P e) h = refl
    go (refused n q) h = ap (λ (y : Reply). (told y).number) (sym (f n q h))

pub number_same : (c : Call) (t : State) → (in_words c (call c t).reply).number ≡ (told (call c t).reply).number
number_same (call_allocate n) t = refl
number_same (call_write p bs) t = refl
number_same (call_read s p buffer) t = loading_number s _ (λ n q h. ap (λ (x : Heard). x.reply) (images_refused (call_read s p buffer) n (refuses-read h) t))
number_same (call_start s f context ts bs) t = loading_number s _ (λ n q h. ap (λ (x : Heard). x.reply) (images_refused (call_start s f context ts bs) n (refuses-start h) t))
number_same (call_step s) t = loading_number s _ (λ n q h. ap (λ (x : Heard). x.reply) (images_refused (call_step s) n (refuses-step h) t))
number_same (call_run s budget) t = loading_number s _ (λ n q h. ap (λ (x : Heard). x.reply) (images_refused (call_run s budget) n (refuses-run h) t))
number_same (call_list live frame allocation offset) t = refl

-- the store that is left is made of bytes, on any state
bytes_left : (c : Call) → Calls.Lent c → (t : State) → AreBytes t.memory.store → AreBytes (call c t).left.memory.store
bytes_left c w t b = go (Tells.told c w)
  where
    unmoved : {r : Reply} → call c t ≡ heard r t → AreBytes (call c t).left.memory.store
    unmoved e = subst (λ (x : Heard). AreBytes x.left.memory.store) (sym e) b

    go : Told c → AreBytes (call c t).left.memory.store
    go (asks a q) = by_test (sound_of t) (λ so. (entries_answer c a q t (record { sound = so; bytes = b })).good.bytes) (λ so. unmoved (unsound_refused c a q t so))
    go (refuses n q) = unmoved (images_refused c n q t)

answer-long : (b : Bool) (w : Words.Reply) (a : List ℕ) → length a ≡ 4 → length (pick b (reply_words w) a) ≡ 4
answer-long true w a h = refl
answer-long false w a h = h

pub held_on : (c : Call) → Calls.Lent c → (l : Lent) → Held l → Held (function c l).lent
held_on c w l h =
    subst (λ (g : Gave). Held g.lent) (sym (function-is c w l h))
    (record { registers = refl; answer = answer-long (takes_answer c) (in_words c (call c (state_of l)).reply) l.answer h.answer; bytes = bytes_left c w (state_of l) h.bytes })

pub state_on : (c : Call) → Calls.Lent c → (l : Lent) → Held l → state_of (function c l).lent ≡ (call c (state_of l)).left
state_on c w l h = ap (λ (g : Gave). state_of g.lent) (function-is c w l h)

-- ---- any calls

pub held_by : (cs : List Call) → AllLent cs → (l : Lent) → Held l → Held (lent_by cs l)
unfolding lent_by
held_by [] w l h = h
held_by (c ∷ cs) (w, ws) l h = held_by cs ws (function c l).lent (held_on c w l h)

pub follows : (cs : List Call) → AllLent cs → (l : Lent) → Held l → Follows cs l
unfolding lent_by numbers_by left_by heard_by
follows [] w l h = record { left = refl; numbers = refl }
follows (c ∷ cs) (w, ws) l h =
    let t = state_of l in
    let same = state_on c w l h in
    let on = follows cs ws (function c l).lent (held_on c w l h) in
    record {
      left = on.left ∙ ap (left_by cs) same;
      numbers =
          ap₂ (λ (n : ℕ) (ns : List ℕ). n ∷ ns)
          (ap (λ (g : Gave). g.number) (function-is c w l h) ∙ number_same c t)
          (on.numbers ∙ ap (λ (u : State). map (λ r. (told r).number) (heard_by cs u)) same);
    }

-- ---- from lir_fresh on

fresh-is : (l : Lent) → Sized l → fresh_called l ≡ fresh_gave (registers_of l) (fresh_of l.store l.frames l.bounds l.pointers l.variables)
unfolding fresh_called
fresh-is l z = rw (words-shaped l z.registers z.answer) refl

fresh-done : (l : Lent) → Sized l → (fresh_of l.store l.frames l.bounds l.pointers l.variables).answer ≡ Ok (registers 0 0 1 1 0)
fresh-done l z =
    ap (λ (o : All). o.answer)
    (fresh-made l.store l.frames l.bounds l.pointers l.variables
    (ready_test 1 0 _ _ _ _ (record { store = z.store; frames = z.frames; bounds = z.bounds; pointers = z.pointers; deep = omega arith; given = omega arith })) z.variables)

pub fresh-begins : FreshBegins
fresh-begins l z =
    let f = fresh_of l.store l.frames l.bounds l.pointers l.variables in
    record {
      number = ap (λ (g : Gave). g.number) (fresh-is l z) ∙ ap (λ (a : Result Registers Refusal). (reply_moved a).number) (fresh-done l z);
      begun =
          subst (λ (g : Gave). Begun (state_of g.lent)) (sym (fresh-is l z))
          (subst (λ (a : Result Registers Refusal). Begun (state (tables (after_moved a (registers_of l)) f.store f.frames f.bounds f.pointers) f.variables)) (sym (fresh-done l z))
          (begun l.store l.frames l.bounds l.pointers l.variables z.store z.frames z.bounds z.pointers z.variables));
    }

pub fresh-held : (l : Lent) → Sized l → Held (fresh_called l).lent
fresh-held l z =
    let b : AreBytes (fresh_called l).lent.store = (fresh-begun _ (fresh-begins l z).begun).1.bytes in
    record { registers = ap (λ (g : Gave). length g.lent.registers) (fresh-is l z); answer = ap (λ (g : Gave). length g.lent.answer) (fresh-is l z); bytes = b }

pub functions_follow : FunctionsFollow
functions_follow l z cs w = follows cs w (fresh_called l).lent (fresh-held l z)
