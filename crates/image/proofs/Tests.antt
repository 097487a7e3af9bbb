-- A tag names a type where the code finds one.
use Rattle.std.specs.Prelude as Rust
use Rattle.std.specs.Prelude.{Result, Ok, Err}
use Prim.Native.Nat.{ℕ, ◌+◌, ◌<◌}
use mathlib.Core.Path.{◌≡◌, refl}
use mathlib.Core.Option.{Option, none, some}
use mathlib.Core.List.{List}
use lib.ListN.{length}
use borrow.Author.Tests.{lt-leb}
use Rattle.value.specs.Refusal.{bytes_run_out}
use Rattle.value.specs.Value.{IrType}
use Rattle.value.specs.Tags.{type_at}
use Rattle.value.specs.Ir.{tagged}
use Rattle.image.specs.Fields.{raw}
use Rattle.image.specs.Answer.{is_some, is_type, walk, stop}
use Rattle.image.specs.declared.number.Stop.{Stop}

found_alike : (o : Option IrType) → Rust.is_some (tagged o) ≡ is_some o
unfolding tagged
found_alike none = refl
found_alike (some t) = refl

pub type_found : (v : ℕ) → Rust.is_some (tagged (type_at v)) ≡ is_type v
unfolding is_type
type_found v = found_alike (type_at v)

-- raw bytes that run out are refused where they begin
pub raw_short : (s : List ℕ) {c : Result ℕ Stop} (at : ℕ) → c ≡ Ok at → (count : ℕ) → length s < at + count → Err (stop bytes_run_out at) ≡ walk (raw s count) c
unfolding raw
raw_short s at e count h = rw (e, lt-leb (at + count) (length s) h) refl
