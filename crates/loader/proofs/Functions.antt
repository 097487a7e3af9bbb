-- Where a function ends, field by field, and the item and the flag that its kind stands for.
use Rattle.std.specs.Prelude.{Result, Ok, Err}
use Prim.Native.Nat.{ℕ, zero, suc}
use mathlib.Core.Bool.{true, false}
use mathlib.Core.Path.{◌≡◌, refl, ap, ◌∙◌}
use mathlib.Core.List.{List, [], ◌∷◌}
use lib.Dec.{eqb}
use Rattle.value.specs.Refusal.{unknown}
use Rattle.value.specs.declared.refusal.Refusal.{Refusal}
use Rattle.image.specs.Parse.{took, refused}
use Rattle.image.specs.Fields.{such, below, listed, known, list_of}
use Rattle.image.specs.Image.{Counts, items, flags_of, most_parameters, var, label, slot, function}
use Rattle.image.specs.Program.{Item}
use Rattle.image.specs.Answer.{stop, shape, walk}
use Rattle.image.specs.declared.number.Stop.{Stop}
use Rattle.image.proofs.Laws.{then-taken, then-refused, walk-then, walk-map}
use Rattle.image.proofs.Shapes.{known-below, known-item, known_only}
use Rattle.loader.specs.Counts.{item_of}
use Rattle.loader.proofs.Turn.{shape-refused}

-- a kind that is not 1 is a function's
pub item_function : (kind : ℕ) → (kind ≡ 1 → ⊥) → item_of kind ≡ Item.function
unfolding item_of
item_function zero h = refl
item_function (suc zero) h = absurd (h refl)
item_function (suc (suc k)) h = refl

pub item_constant : (kind : ℕ) → kind ≡ 1 → item_of kind ≡ Item.constant_item
unfolding item_of
item_constant kind e = rw e

module _ (s : List ℕ) (at kind : ℕ) where
  pub flag_function : (kind ≡ 1 → ⊥) → shape (known s (listed (flags_of (item_of kind))) at) ≡ shape (below s 2 unknown at)
  flag_function h = ap (λ (i : Item). shape (known s (listed (flags_of i)) at)) (item_function kind h) ∙ known-below s (false ∷ true ∷ []) (Ok at)

  pub flag_constant : kind ≡ 1 → shape (known s (listed (flags_of (item_of kind))) at) ≡ shape (such s (λ v. eqb v 1) unknown at)
  flag_constant e = ap (λ (i : Item). shape (known s (listed (flags_of i)) at)) (item_constant kind e) ∙ known_only s true (Ok at)

module _ (s : List ℕ) (n : Counts) (at : ℕ) where
  -- a function's fields, where its kind was read as `kind`
  pub function_walk : {kind m : ℕ} → below s 2 unknown at ≡ took kind m
      → shape (function s n at)
      ≡ walk (list_of s 16 (slot s n)) (walk (list_of s (most_parameters (item_of kind)) (var s n)) (walk (known s (listed (flags_of (item_of kind))))
      (walk (var s n) (walk (var s n) (shape (label s n m))))))
  unfolding function item_of
  function_walk {kind} {m} read =
      let slots : Result ℕ Stop → Result ℕ Stop = walk (list_of s 16 (slot s n)) in
      let parameters : Result ℕ Stop → Result ℕ Stop = λ c. slots (walk (list_of s (most_parameters (item_of kind)) (var s n)) c) in
      let flag : Result ℕ Stop → Result ℕ Stop = λ c. parameters (walk (known s (listed (flags_of (item_of kind)))) c) in
      let context : Result ℕ Stop → Result ℕ Stop = λ c. flag (walk (var s n) c) in
      let returned : Result ℕ Stop → Result ℕ Stop = λ c. context (walk (var s n) c) in
      ap shape (then-taken (known s (listed items)) _ at (known-item s Item.function (Item.function ∷ Item.constant_item ∷ []) at read))
      ∙ walk-then (label s n) _ returned (λ e. refl) (λ entry m₁. walk-then (var s n) _ context (λ e. refl) (λ r m₂. walk-then (var s n) _ flag (λ e. refl)
      (λ c m₃. walk-then (known s (listed (flags_of (item_of kind)))) _ parameters (λ e. refl) (λ f m₄. walk-then (list_of s (most_parameters (item_of kind)) (var s n)) _ slots (λ e. refl)
      (λ ps m₅. walk-map _ (list_of s 16 (slot s n)) (Ok m₅)) (Ok m₄)) (Ok m₃)) (Ok m₂)) (Ok m₁)) (Ok m)

  -- a kind that was refused
  pub function_refused : {k : Refusal} {q : ℕ} → below s 2 unknown at ≡ refused k q → shape (function s n at) ≡ Err (stop k q)
  unfolding function
  function_refused read =
      ap shape (then-refused (known s (listed items)) _ at (shape-refused (known-below s (Item.function ∷ Item.constant_item ∷ []) (Ok at) ∙ ap shape read)))
