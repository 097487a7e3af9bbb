-- What a variable's tag and bits stand for: a value, or unset.
use Rattle.std.specs.Prelude.{ℕ}
use Rattle.std.proofs.Math.Option.{Option, none, some}
use Rattle.value.specs.Value.{Kind, Value, value}
use Rattle.value.specs.Tags.{kind_at}

abbrev pub value_in : Option Kind → ℕ → Option Value
value_in none b = none
value_in (some k) b = some (value k b)

unfoldable pub stored_value : (tag bits : ℕ) → Option Value
stored_value t b = value_in (kind_at t) b
