-- Any calls in any order: each answers as the machine does and leaves a good state, so the next does too.
use Prim.Native.Nat.{ℕ, zero, suc, ◌<◌}
use native.Mathlib.Omega.{arith}
use mathlib.Core.Bool.{false}
use mathlib.Core.Path.{◌≡◌, refl, sym, ap, ap₂, ◌∙◌, subst, fun_ext}
use mathlib.Core.Option.{Option}
use mathlib.Core.List.{List, ◌∷◌}
use lib.ListN.{length, get_or, replicate}
use lib.Dec.{T}
use mir.Facts.{yes_and}
use Rattle.value.specs.Value.{Value}
use Rattle.value.proofs.Truth.{is_yes}
use Rattle.memory.specs.Memory.{Memory}
use Rattle.memory.specs.Tables.{All, State, fresh_of}
use Rattle.memory.proofs.Laws.{fresh-made}
use Rattle.memory.proofs.Facts.{ready_test}
use Rattle.memory.proofs.Beginning.{fresh-view}
use Rattle.machine.specs.Machine.{Machine}
use Rattle.machine.specs.Machine as M
use Rattle.machine.specs.Believed.{believed}
use Rattle.machine.specs.Sound.{all}
use Rattle.machine.specs.Accepted.{accepted, accepted_ask}
use Rattle.machine.specs.Demand.{Accepted}
use Rattle.machine.specs.Asks.{Ask, Reply, Turn}
use Rattle.machine.specs.Entries.{answers, onwards}
use Rattle.machine.proofs.Demand.{replies_are_told}
use Rattle.decode.proofs.Accepted.{loaded-accepted}
use Rattle.agree.specs.Seen.{seen}
use Rattle.instruction.proofs.Bytes.{are-bytes}
use Rattle.promise.specs.Calls.{Call, call, Heard, Good, Asks, allocating, writing, reading, starting, misgiven, stepping, running, listing, Tells, asked, passed, with_refusals, heard_by, left_by}
use Rattle.promise.specs.Promised.{RepliesAreAnswers, StatesFollow, Begun, begun, FreshFollows, CodeRepliesAreTold}
use Rattle.promise.proofs.Refused.{images_refused}
use Rattle.promise.proofs.Lent.{bad-given}
use Rattle.promise.proofs.Answers.{entries_answer}
use Rattle.image.specs.Limits.{AreBytes}

pub replies_are_answers : RepliesAreAnswers
unfolding heard_by answers with_refusals
replies_are_answers cs as' Tells.no_more t g = refl
replies_are_answers cs as' (asked {c} {a} {cs = rest} {as' = more} q w) t g =
    let first = entries_answer c a q t g in
    ap₂ (λ (r : Reply) (l : List Reply). r ∷ l) (ap (λ (x : Turn Memory). x.reply) first.same)
    (replies_are_answers rest more w (call c t).left first.good ∙ ap (λ (x : Turn Memory). with_refusals w (answers more x.machine)) first.same)
replies_are_answers cs as' (passed {c} {n} {cs = rest} q w) t g =
    let same = images_refused c n q t in
    ap₂ (λ (r : Reply) (l : List Reply). r ∷ l) (ap (λ (x : Heard). x.reply) same)
    (ap (λ (x : Heard). heard_by rest x.left) same ∙ replies_are_answers rest as' w t g)

pub states_follow : StatesFollow
unfolding left_by onwards
states_follow cs as' Tells.no_more t g = record { same = refl; good = g }
states_follow cs as' (asked {c} {a} {cs = rest} {as' = more} q w) t g =
    let first = entries_answer c a q t g in
    let on = states_follow rest more w (call c t).left first.good in
    record { same = on.same ∙ ap (λ (x : Turn Memory). onwards more x.machine) first.same; good = on.good }
states_follow cs as' (passed {c} {n} {cs = rest} q w) t g =
    let same : (call c t).left ≡ t = ap (λ (x : Heard). x.left) (images_refused c n q t) in
    let on = states_follow rest as' w t g in
    record { same = ap (λ (u : State). seen (left_by rest u)) same ∙ on.same; good = subst (λ (u : State). Good (left_by rest u)) (sym same) on.good }

-- ---- from fresh tables on

zeros : (n k : ℕ) → get_or {A = ℕ} (replicate n 0) k 0 < 256
zeros zero k = omega arith
zeros (suc n) zero = omega arith
zeros (suc n) (suc k) = zeros n k

machine-same : {m : Memory} {vs : ℕ → Option Value} → m ≡ (M.fresh believed).memory → vs ≡ M.unset
    → ◌≡◌ {A = Machine Memory} (record { memory = m; running = false; place = 0; vars = vs }) (M.fresh believed)
unfolding M.fresh
machine-same e d = ap₂ (λ (m : Memory) (vs : ℕ → Option Value). record { memory = m; running = false; place = 0; vars = vs }) e d

pub fresh-begun : (u : State) → Begun u → (seen u ≡ M.fresh believed) × Good u
unfolding M.fresh
fresh-begun u (begun s f b p v ls lf lb lp lv) =
    let w = fresh-view s f b p v ls lf lb lp lv in
    let r = ready_test 1 0 _ _ _ _ (record { store = ls; frames = lf; bounds = lb; pointers = lp; deep = omega arith; given = omega arith }) in
    let clear : (fresh_of s f b p v).store ≡ replicate (length s) 0 = ap (λ (o : All). o.store) (fresh-made s f b p v r lv) in
    (machine-same w.memory (fun_ext w.unset), record { sound = w.sound; bytes = subst AreBytes (sym clear) (zeros (length s)) })

pub fresh_follows : FreshFollows
fresh_follows as' t after =
    let g = fresh-begun after.first after.fresh in
    let all_of = states_follow after.calls as' after.tell after.first g.1 in
    (ap seen (sym after.left) ∙ all_of.same ∙ ap (onwards as') g.0, subst Good after.left all_of.good)

-- ---- what is asked is accepted: its program was loaded, its bytes are bytes

pub asks-accepted : (c : Call) (a : Ask) → Asks c a → T (accepted_ask a)
unfolding accepted_ask
asks-accepted c a allocating = tt
asks-accepted c a (writing {bs} b) = are-bytes bs b
asks-accepted c a (reading b h) = tt
asks-accepted c a (starting {s} {P} {e} spare b h v) = yes_and (accepted P) _ (is_yes (loaded-accepted s b P e h)) v
asks-accepted c a (misgiven {s} {P} {e} {ts} b h v) = yes_and (accepted P) _ (is_yes (loaded-accepted s b P e h)) (bad-given (length ts))
asks-accepted c a (stepping {s} {P} {e} b h) = is_yes (loaded-accepted s b P e h)
asks-accepted c a (running {s} {P} {e} b h) = is_yes (loaded-accepted s b P e h)
asks-accepted c a listing = tt

pub tells-accepted : (cs : List Call) (as' : List Ask) → Tells cs as' → Accepted as'
unfolding all
tells-accepted cs as' Tells.no_more = tt
tells-accepted cs as' (asked {c} {a} {cs = rest} {as' = more} q w) = yes_and (accepted_ask a) (all accepted_ask more) (asks-accepted c a q) (tells-accepted rest more w)
tells-accepted cs as' (passed {cs = rest} q w) = tells-accepted rest as' w

pub code_replies_are_told : CodeRepliesAreTold
code_replies_are_told t fresh cs as' w =
    let g = fresh-begun t fresh in
    replies_are_answers cs as' w t g.1 ∙ ap (λ (s : Machine Memory). with_refusals w (answers as' s)) g.0 ∙ ap (with_refusals w) (replies_are_told as' (tells-accepted cs as' w))
