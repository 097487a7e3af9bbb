-- Whatever is called asks something, or its image is refused: an image is taken or refused, and the tags and bits of a start are values or not.
use Prim.Native.Nat.{ℕ, suc, ◌<◌}
use native.Mathlib.Omega.{arith}
use mathlib.Core.Bool.{Bool, true, false, ◌&&◌, ◌||◌}
use mathlib.Core.Path.{◌≡◌, refl, sym, ap, ap₂, ◌∙◌, subst, subst₂}
use mathlib.Core.Option.{Option, none, some}
use mathlib.Core.List.{List, [], ◌∷◌, ◌++◌}
use lib.ListN.{length, get_or}
use lib.Dec.{T, ltb, leb-suc-suc}
use mir.Facts.{yes_and}
use Rattle.value.specs.declared.refusal.Refusal.{Refusal}
use Rattle.value.specs.Value.{Value, value, Kind, char, tag, same}
use Rattle.value.specs.Tags.{kind_at, holds, held}
use Rattle.value.proofs.Tags.{tag_of_kind}
use Rattle.value.proofs.Truth.{no, both_true}
use Rattle.image.specs.Parse.{Got, took}
use Rattle.image.specs.Parse as Parse
use Rattle.image.specs.Program.{Program}
use Rattle.image.specs.Image.{loaded}
use Rattle.memory.proofs.Every.{by_test, every-at}
use Rattle.machine.specs.Sound.{all}
use Rattle.machine.specs.Accepted.{given}
use Rattle.machine.specs.Asks.{Ask, to_start}
use Rattle.instruction.specs.Variables.{found}
use Rattle.instruction.specs.declared.variables.Found.{Found}
use Rattle.eval.specs.Start.{is_value, value_at}
use Rattle.promise.specs.Calls.{Call, call_allocate, call_write, call_read, call_start, call_step, call_run, call_list, Lent, are_values, Asks, allocating, writing, reading, starting, misgiven, stepping, running, listing, Refuses, refuses-read, refuses-start, refuses-step, refuses-run, Tells, asked, passed}
use Rattle.promise.specs.Promised.{CallsTell, AnyCalls}
use Rattle.image.specs.Limits.{AreBytes}
use Rattle.calls.specs.Begin.{tags_of, bits_of}

-- ---- values from tags and bits

-- the value that a tag and bits are
record Made (t b : ℕ) : Type 0 where
  made : Value
  tagged : t ≡ tag made.kind
  bits : b ≡ made.bits
  fine : T (given made)

made_of : (t b : ℕ) → is_value t b ≡ true → Made t b
unfolding held given
made_of t b e = go (kind_at t) refl e
  where
    or_yes : (x y : Bool) → y ≡ true → T (x || y)
    or_yes true y e = tt
    or_yes false y e = rw e tt

    go : (o : Option Kind) → kind_at t ≡ o → held o b ≡ true → Made t b
    go none k h = absurd (no h)
    go (some kind) k h = record { made = value kind b; tagged = sym (tag_of_kind t kind k); bits = refl; fine = or_yes (same kind char) (holds kind b) h }

-- the values of a start's lists, and the bits that are left over
record AllMade (ts bs : List ℕ) : Type 0 where
  values : List Value
  spare : List ℕ
  tags : ts ≡ tags_of values
  bits : bs ≡ bits_of values ++ spare
  fine : T (all given values)

value-next : (t b : ℕ) (ts bs : List ℕ) (k : ℕ) → value_at (t ∷ ts) (b ∷ bs) (suc k) ≡ value_at ts bs k
unfolding value_at
value-next t b ts bs k = ap (λ x. x && is_value (get_or ts k 0) (get_or bs k 0)) (leb-suc-suc (suc k) (length bs))

first-value : (t b : ℕ) (ts bs : List ℕ) → value_at (t ∷ ts) (b ∷ bs) 0 ≡ true → is_value t b ≡ true
unfolding value_at
first-value t b ts bs e = (both_true (ltb 0 (length (b ∷ bs))) _ e).1

no_bits : (t : ℕ) (ts : List ℕ) → value_at (t ∷ ts) [] 0 ≡ true → ⊥
unfolding value_at
no_bits t ts e = no e

all_made : (ts bs : List ℕ) → ((k : ℕ) → k < length ts → value_at ts bs k ≡ true) → AllMade ts bs
unfolding all
all_made [] bs h = record { values = []; spare = bs; tags = refl; bits = refl; fine = tt }
all_made (t ∷ ts) [] h = absurd (no_bits t ts (h 0 (omega arith)))
all_made (t ∷ ts) (b ∷ bs) h =
    let v = made_of t b (first-value t b ts bs (h 0 (omega arith))) in
    let rest = all_made ts bs (λ k l. sym (value-next t b ts bs k) ∙ h (suc k) (omega arith)) in
    record {
      values = v.made ∷ rest.values;
      spare = rest.spare;
      tags = ap₂ (λ (x : ℕ) (l : List ℕ). x ∷ l) v.tagged rest.tags;
      bits = ap₂ (λ (x : ℕ) (l : List ℕ). x ∷ l) v.bits rest.bits;
      fine = yes_and (given v.made) (all given rest.values) v.fine rest.fine;
    }

-- ---- one call

pub data Told (c : Call) : Type 0 where
  asks : (a : Ask) → Asks c a → Told c
  refuses : (n : Refusal) → Refuses c n → Told c

module _ (s : List ℕ) (f : ℕ) (context : Found) (ts bs : List ℕ) (b : AreBytes s) (P : Program) (e : ℕ) (h : loaded s ≡ took P e) where
  started : Told (call_start s f context ts bs)
  unfolding all
  started =
      by_test (are_values context ts bs)
      (λ y. let z = both_true (is_value context.tag context.bits) _ y in
      let c = made_of context.tag context.bits z.0 in
      let l = all_made ts bs (every-at (length ts) (value_at ts bs) z.1) in
      let fine = yes_and (given c.made) (all given l.values) c.fine l.fine in
      let lent : found (tag c.made.kind) c.made.bits ≡ context = ap₂ (λ (x y : ℕ). found x y) (sym c.tagged) (sym c.bits) in
      let here : Told (call_start s f (found (tag c.made.kind) c.made.bits) (tags_of l.values) (bits_of l.values ++ l.spare)) =
      asks (to_start P f c.made l.values) (starting l.spare b h fine) in
      subst (λ (w : List ℕ). Told (call_start s f context ts w)) (sym l.bits)
      (subst₂ (λ (w : Found) (u : List ℕ). Told (call_start s f w u (bits_of l.values ++ l.spare))) lent (sym l.tags) here))
      (λ n. asks _ (misgiven b h n))

-- by what the image comes to
pub told : (c : Call) → Lent c → Told c
told (call_allocate n) l = asks _ allocating
told (call_write p bs) l = asks _ (writing l)
told (call_list a b c d) l = asks _ listing
told (call_read s p buffer) l = go (loaded s) refl
  where
    go : (g : Got Program) → loaded s ≡ g → Told (call_read s p buffer)
    go (took P e) h = asks _ (reading l h)
    go (Parse.refused n q) h = refuses n (refuses-read h)
told (call_start s f context ts bs) l = go (loaded s) refl
  where
    go : (g : Got Program) → loaded s ≡ g → Told (call_start s f context ts bs)
    go (took P e) h = started s f context ts bs l P e h
    go (Parse.refused n q) h = refuses n (refuses-start h)
told (call_step s) l = go (loaded s) refl
  where
    go : (g : Got Program) → loaded s ≡ g → Told (call_step s)
    go (took P e) h = asks _ (stepping l h)
    go (Parse.refused n q) h = refuses n (refuses-step h)
told (call_run s budget) l = go (loaded s) refl
  where
    go : (g : Got Program) → loaded s ≡ g → Told (call_run s budget)
    go (took P e) h = asks _ (running l h)
    go (Parse.refused n q) h = refuses n (refuses-run h)

-- ---- any calls

pub calls-tell : CallsTell
calls-tell [] l = ([], Tells.no_more)
calls-tell (c ∷ cs) (l, ls) = go (told c l) (calls-tell cs ls)
  where
    go : Told c → ((as' : List Ask) × Tells cs as') → (as' : List Ask) × Tells (c ∷ cs) as'
    go (asks a q) (as', w) = (a ∷ as', asked q w)
    go (refuses n q) (as', w) = (as', passed q w)

pub any-calls : AnyCalls
any-calls t fresh cs l = let (as', w) = calls-tell cs l in (as', w, record { first = t; fresh = fresh; calls = cs; tell = w; left = refl })
