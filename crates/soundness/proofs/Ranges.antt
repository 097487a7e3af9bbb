-- What `all` over the numbers below n answers is `every`, by what the answer says of each number.
use mathlib.Core.Path.{◌≡◌, ap, ◌∙◌, sym}
use mathlib.Core.Bool.{Bool, true, false}
use mathlib.Core.List.{List}
use Prim.Native.Nat.{ℕ, ◌<◌}
use native.Mathlib.Omega.{arith}
use native.Mathlib.Nat.{zero-add}
use lib.ListN.{get_or, length}
use denote.Param.Members.{Mut}
use Rattle.std.specs.declared.ops.Range.{Range}
use Rattle.std.specs.Bool.{MatchBool}
use Rattle.std.specs.Fn.{Called}
use Rattle.std.specs.Iterator.{YieldsThen}
use Rattle.std.specs.List.{AllWithin, FoldsTo, HoldsAt, range_with_len}
use Rattle.std.specs.Option.{MatchOption}
use Rattle.std.specs.Prelude.{Option}
use Rattle.std.proofs.iter.Yields.{nat_range_steps}
use Rattle.std.proofs.lemmas.Iterator.{cases_from_all, YieldsList-from_range}
use Rattle.std.proofs.lemmas.List.FromFn.{length-range_with_len, get_or-range_with_len}
use Rattle.memory.specs.Tables.{every}
use Rattle.memory.proofs.Every.{every-all, every-not}

numbers : (n i : ℕ) → i < n → get_or (range_with_len 0 n) i 0 ≡ i
numbers n i h = get_or-range_with_len 0 n i 0 h ∙ zero-add i

every_over : (n : ℕ) (f : ℕ → Bool) (r : Bool)
    → MatchBool r (AllWithin (λ i. f i ≡ true) (range_with_len 0 n) 0 (length (range_with_len 0 n)))
    ((k : ℕ) × (k < length (range_with_len 0 n)) × HoldsAt (λ i. f i ≡ false) (range_with_len 0 n) k)
    → r ≡ every n f
every_over n f true m =
    let l = length-range_with_len 0 n in
    sym (every-all n f (λ i h. ap f (sym (numbers n i h)) ∙ m i 0 (omega arith) (omega arith)))
every_over n f false (k, h, z) =
    let l = length-range_with_len 0 n in
    let b : k < n = omega arith in
    sym (every-not n f k b (ap f (sym (numbers n k b)) ∙ z 0))

-- of a closure p that stays as it is, and says of each number what f does
pub all_over : {F : Type 0} {g : Mut F (ℕ × Unit {0}) Bool} (n : ℕ) (f : ℕ → Bool) {s u : Range ℕ} {p : F} (r : Bool) → s ≡ record { start = 0; end = n }
    → (xs : List ℕ) × (o : Option ℕ) × (j : F) × YieldsThen nat_range_steps s xs o u × FoldsTo (λ p x q. Called g p (x, tt) true q) p xs j
    × MatchOption o (r ≡ true) (λ x. (r ≡ false) × ((h : F) × Called g j (x, tt) false h))
    → ((x : ℕ) (q : F) → Called g p (x, tt) true q → (q ≡ p) × (f x ≡ true)) → ((x : ℕ) (q : F) → Called g p (x, tt) false q → f x ≡ false)
    → r ≡ every n f
all_over n f {s} {u} {p} r e ran a b =
    every_over n f r (cases_from_all u p r (λ i. f i ≡ true) (λ i. f i ≡ false) ran (YieldsList-from_range 0 n n e (omega arith)) a b)
