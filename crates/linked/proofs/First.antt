-- The C functions answer P1 so: their numbers and words are those of promise's replies.
use Prim.Native.Nat.{ℕ}
use mathlib.Core.Path.{◌≡◌, ap, ◌∙◌, fun_ext}
use mathlib.Core.List.{List, [], ◌∷◌, map}
use Rattle.value.specs.Value.{tag}
use Rattle.image.specs.Cases.{p1_loads}
use Rattle.memory.specs.Tables.{State}
use Rattle.machine.specs.Asks.{Reply}
use Rattle.promise.specs.Calls.{call, AllLent, heard_by}
use Rattle.promise.specs.First.{First, p1_cases, p1_start, p1_run, p1_calls}
use Rattle.promise.proofs.First.{p1-bytes, code_answers_first}
use Rattle.replies.specs.Words.{reply_words}
use Rattle.embed.specs.Called.{Lent, Gave, state_of, fresh_called}
use Rattle.linked.specs.Functions.{function, numbers_by, lent_by, told, placed}
use Rattle.linked.specs.Linked.{FunctionsAnswerFirst}
use Rattle.linked.proofs.Sequence.{Held, function-is, held_on, state_on, follows, fresh-begins, fresh-held}

p1-lent : (c : First) → AllLent (p1_calls c)
p1-lent c = (p1-bytes, (p1-bytes, tt))

-- the words that tell the last reply
abbrev last_words : List Reply → List ℕ
last_words [] = []
last_words (r ∷ []) = reply_words (told r)
last_words (r ∷ q ∷ rs) = last_words (q ∷ rs)

module _ (l : Lent) (h : Held l) where
  first-words : (c : First) → (lent_by (p1_calls c) l).answer ≡ last_words (heard_by (p1_calls c) (state_of l))
  unfolding lent_by heard_by
  first-words c =
      let start = p1_start c.argument in
      let run = p1_run c.budget in
      let l₁ = (function start l).lent in
      ap (λ (g : Gave). g.lent.answer) (function-is run p1-bytes l₁ (held_on start p1-bytes l h))
      ∙ ap (λ x. reply_words (placed x (told (call run (state_of l₁)).reply))) p1_loads
      ∙ ap (λ (t : State). reply_words (told (call run t).reply)) (state_on start p1-bytes l h)

  first-numbers : (c : First) → numbers_by (p1_calls c) l ≡ map (λ r. (told r).number) (heard_by (p1_calls c) (state_of l))
  first-numbers c = (follows (p1_calls c) (p1-lent c) l h).numbers

pub functions_answer_first : FunctionsAnswerFirst
unfolding tag
functions_answer_first l z =
    let l₀ = (fresh_called l).lent in
    let answers = code_answers_first (state_of l₀) (fresh-begins l z).begun in
    let h = fresh-held l z in
    record {
      numbers = ap (λ (f : First → List ℕ). map f p1_cases) (fun_ext (first-numbers l₀ h)) ∙ ap (map (map (λ r. (told r).number))) answers;
      words = ap (λ (f : First → List ℕ). map f p1_cases) (fun_ext (first-words l₀ h)) ∙ ap (map last_words) answers;
    }
