-- The compiled entries answer P1 so: their replies are those that the sequence tells, and these are computed over the history.
use mathlib.Core.Path.{◌≡◌, refl, ap₂, ◌∙◌}
use mathlib.Core.List.{List, [], ◌∷◌, map, flatten}
use lib.Dec.{T}
use mir.Facts.{and_yes}
use Rattle.value.specs.Answer.{need, found, ◌>>=◌}
use Rattle.value.specs.Value.{Value, value, bool, u8, tag, size, family, is_scalar, is_bad_char, integer, bits_of, checked, operate, arithmetic}
use Rattle.value.specs.Tags.{holds}
use Rattle.image.specs.Cases.{p1_image, p1, p1_loads}
use Rattle.image.specs.Limits.{AreBytes}
use Rattle.memory.specs.Memory.{sum}
use Rattle.memory.specs.Tables.{State}
use Rattle.machine.specs.Machine as M
use Rattle.machine.specs.Sound.{all}
use Rattle.machine.specs.Accepted.{given}
use Rattle.machine.specs.Recalled.{recalled}
use Rattle.machine.specs.History.{beginning, told_count, told_bytes, tell_return}
use Rattle.machine.specs.Asks.{Ask, Reply, to_start, to_run, replies, ask, changes, goes}
use Rattle.instruction.proofs.Bytes.{bytes-are}
use Rattle.promise.specs.Calls.{Tells, asked, starting, running, with_refusals, heard_by}
use Rattle.promise.specs.Promised.{Begun}
use Rattle.promise.specs.First.{First, p1_cases, p1_calls, p1_replies, CodeAnswersFirst}
use Rattle.promise.proofs.Sequence.{code_replies_are_told}

abbrev asks_of : First → List Ask
asks_of c = to_start p1 0 (value bool 0) (value u8 c.argument ∷ []) ∷ to_run p1 c.budget ∷ []

pub p1-bytes : AreBytes p1_image
unfolding all
p1-bytes = bytes-are p1_image tt

abbrev lent_of : First → List Value
lent_of c = value bool 0 ∷ value u8 c.argument ∷ []

-- both calls ask, with the program that the image is
p1-tells : (c : First) → T (all given (lent_of c)) → Tells (p1_calls c) (asks_of c)
p1-tells c g = asked (starting [] p1-bytes p1_loads g) (asked (running p1-bytes p1_loads) Tells.no_more)

told_so : (t : State) → Begun t → (c : First) → T (all given (lent_of c)) → heard_by (p1_calls c) t ≡ replies recalled (asks_of c) (M.fresh recalled)
unfolding with_refusals replies p1-tells
told_so t b c g = code_replies_are_told t b (p1_calls c) (asks_of c) (p1-tells c g)

all_so : (t : State) → Begun t → (cs : List First) → T (all (λ c. all given (lent_of c)) cs) → map (λ c. heard_by (p1_calls c) t) cs ≡ map (λ c. replies recalled (asks_of c) (M.fresh recalled)) cs
unfolding all
all_so t b [] g = refl
all_so t b (c ∷ cs) g =
    let (one, more) = and_yes (all given (lent_of c)) (all (λ c. all given (lent_of c)) cs) g in
    ap₂ (λ (r : List Reply) (rs : List (List Reply)). r ∷ rs) (told_so t b c one) (all_so t b cs more)

-- computed over the history
computed : map (λ c. replies recalled (asks_of c) (M.fresh recalled)) p1_cases ≡ map p1_replies p1_cases
unfolding replies ask changes goes need found ◌>>=◌ tag size family is_scalar is_bad_char integer bits_of checked operate arithmetic flatten sum beginning told_count told_bytes tell_return M.start M.run M.run_from M.after M.step M.execute M.leave M.make_slots M.fresh M.set_started M.set_values M.all_good M.set_returned M.value_if M.to_of M.value_of
computed = refl

pub code_answers_first : CodeAnswersFirst
unfolding all given holds
code_answers_first t b = all_so t b p1_cases tt ∙ computed
