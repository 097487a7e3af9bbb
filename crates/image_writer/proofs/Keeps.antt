-- A part of the walk writes what it reads: by the bytes of what was read, and one part after another.
use Rattle.std.specs.Prelude.{Option, unwrap_or, Ok, Err}
use Prim.Native.Nat.{ℕ, zero, suc, ◌+◌, ◌-◌, ◌≤◌}
use native.Mathlib.Numerals.{add-one}
use native.Mathlib.Decide.{dec_le}
use native.Mathlib.Omega.{arith}
use mathlib.Core.Bool.{false}
use mathlib.Core.Path.{◌≡◌, refl, sym, ap, ap₂, subst, ◌∙◌}
use mathlib.Core.Logic.{inl, inr}
use types.Run.{OneOf}
use mathlib.Core.List.{List, [], ◌∷◌, ◌++◌, append_assoc}
use lib.ListN.{length, take, drop, length-append, length-drop, take-append-drop}
use borrow.Author.Tests.{le-leb, lt-leb, eq-eqb, ne_eqb}
use lib.Seq.{sets-eq, length-take-le, take_at, drop-drop, take-add, take-append_seam, drop-append-add}
use Rattle.value.specs.declared.refusal.Refusal.{Refusal}
use Rattle.image.specs.Parse.{Got, took, refused}
use Rattle.image.specs.Number.{number, bytes_of}
use Rattle.image.specs.Answer.{stop, shape, Stored}
use Rattle.image.specs.declared.number.Stop.{Stop}
use Rattle.value.specs.Refusal.{bytes_run_out}
use Rattle.loader.proofs.Turn.{shape-refused}
use Rattle.image.specs.Fields.{raw}
use Rattle.image.proofs.Round.{written_reads, read_spells}
use Rattle.image_writer.specs.Answer.{Kept, Passed}
use Rattle.image.specs.Limits.{Each, AreBytes}
use Rattle.image_writer.specs.Past.{end_of, or_else, among, number_at, pair, past_number, past_pair, past_raw, times, past_optional, past_list, past_bytes, past_fields, past_instruction, past_parts, past_whole}
use Rattle.image_writer.specs.declared.writer.Pass.{Pass}
use Rattle.image.proofs.Parts.{parts, same-value, same_place}
use Rattle.image.proofs.Spells.{alone, number_spells}
use Rattle.image_writer.proofs.Stores.{has_room, number-length}

-- ---- the bytes of what was read, stored

-- the bytes x lie in s from one place to the next
pub record Lies (s x : List ℕ) (from next : ℕ) : Type 0 where
  pub bytes : drop from s ≡ x ++ drop next s
  pub ends : next ≡ from + length x
  pub inside : next ≤ length s

module _ (s b x : List ℕ) (from next : ℕ) (h : Lies s x from next) (enough : length s ≤ length b) where
  pub stored-kept : (to to' : ℕ) (out after : List ℕ) (w : Option ℕ) → Stored x to out w after → to' ≡ unwrap_or w to → Kept s b from to out → Kept s b next to' after
  stored-kept to to' out after w st p k =
      let front : length (take from s) ≡ from = length-take-le from s k.inside in
      let long : length out ≡ length b = ap length k.front ∙ length-append (take from s) (drop from b) ∙ omega (arith, length-drop from b, h.ends, h.inside) in
      let room = has_room x to out (omega (arith, h.ends, h.inside, k.even)) st in
      let head : take to out ≡ take from s = ap₂ take k.even k.front ∙ take_at (take from s) (drop from b) from front in
      let place : to + length x ≡ length (take from s) + length x = omega (arith, k.even) in
      let tail : drop (to + length x) out ≡ drop next b =
      ap₂ drop place k.front ∙ drop-append-add (take from s) (drop from b) (length x) ∙ drop-drop (length x) from b ∙ ap (λ (n : ℕ). drop n b) (sym h.ends) in
      let more : take next s ≡ take from s ++ x =
      ap (λ (n : ℕ). take n s) h.ends ∙ take-add from (length x) s ∙ ap (λ (l : List ℕ). take from s ++ take (length x) l) h.bytes ∙ ap (λ (l : List ℕ). take from s ++ l) (take-append_seam x (drop next s)) in
      record {
        even = p ∙ ap (λ (w : Option ℕ). unwrap_or w to) room.0 ∙ omega (arith, h.ends, k.even);
        inside = h.inside;
        front =
            room.1 ∙ sets-eq x out to (omega (arith, h.ends, h.inside, k.even))
            ∙ ap₂ (λ (l m : List ℕ). l ++ x ++ m) head tail ∙ ap (λ (l : List ℕ). l ++ drop next b) (sym more);
      }

-- a number that was read lies there
pub number_lies : (s : List ℕ) → AreBytes s → (at v next : ℕ) → number s at ≡ took v next → Lies s (bytes_of v) at next
number_lies s bs at v next e =
    let there = read_spells s at v next bs e in
    let ends : next ≡ at + length (bytes_of v) = same_place (sym e ∙ written_reads v s at (drop next s) (alone (number_spells bs) at next v e).fits there) in
    record {
      bytes = there;
      ends = ends;
      inside = omega (arith, number-length v, ap length there, length-append (bytes_of v) (drop next s), length-drop at s);
    }

-- ---- numbers, read and written

module _ (s : List ℕ) (bs : AreBytes s) (c : Pass) (before : List ℕ) where
  pub number_passed : {v next to : ℕ} {w : Option ℕ} {after : List ℕ} → number s c.from ≡ took v next → Stored (bytes_of v) c.to before w after → to ≡ unwrap_or w c.to
      → Passed s (past_number s) c before (record { value = v; from = next; to = to }) after × (v ≡ number_at s c.from)
  unfolding past_number number_at
  number_passed {v} {next} {to} {w} {after} read h p = (
    record {
      place = ap (λ (g : Got ℕ). end_of g c.from) (sym read);
      keeps = λ b enough k. stored-kept s b (bytes_of v) c.from next (number_lies s bs c.from v next read) enough c.to to before after w h p k;
    },
    ap (or_else 0) (sym read),
  )

  pub number-stays : {n : Refusal} {q : ℕ} → number s c.from ≡ refused n q → Passed s (past_number s) c before (record { value = 0; from = c.from; to = c.to }) before × (0 ≡ number_at s c.from)
  unfolding past_number number_at
  number-stays read = (record { place = ap (λ (g : Got ℕ). end_of g c.from) (sym read); keeps = λ b enough k. k }, ap (or_else 0) (sym read))

-- ---- pairs

two_lie : (s x y : List ℕ) (at mid next : ℕ) → Lies s x at mid → Lies s y mid next → Lies s (x ++ y) at next
two_lie s x y at mid next h k = record {
  bytes = h.bytes ∙ ap (λ (l : List ℕ). x ++ l) k.bytes ∙ sym (append_assoc x y (drop next s));
  ends = omega (arith, h.ends, k.ends, length-append x y);
  inside = k.inside;
}

module _ (s : List ℕ) (bs : AreBytes s) (c : Pass) (before : List ℕ) where
  pub pair_passed : {u v next to : ℕ} {w : Option ℕ} {after : List ℕ} → pair s c.from ≡ took (u, v) next → Stored (bytes_of u ++ bytes_of v) c.to before w after → to ≡ unwrap_or w c.to
      → Passed s (past_pair s) c before (record { value = v; from = next; to = to }) after
  unfolding past_pair pair
  pair_passed {u} {v} {next} {to} {w} {after} read h q =
      let i = parts (number s c.from) _ (u, v) next read in
      let j = parts (number s i.place) _ (u, v) next i.then' in
      let same : took (i.value, j.value) j.place ≡ took (u, v) next = j.then' in
      let is : (i.value, j.value) ≡ (u, v) = same-value same in
      let first = number_lies s bs c.from i.value i.place i.first in
      let second = number_lies s bs i.place j.value next (j.first ∙ ap (took j.value) (same_place same)) in
      let lies : Lies s (bytes_of u ++ bytes_of v) c.from next =
      subst (λ (k : ℕ × ℕ). Lies s (bytes_of k.0 ++ bytes_of k.1) c.from next) is (two_lie s (bytes_of i.value) (bytes_of j.value) c.from i.place next first second) in
      record {
        place = ap (λ (g : Got (ℕ × ℕ)). end_of g c.from) (sym read);
        keeps = λ b enough k. stored-kept s b (bytes_of u ++ bytes_of v) c.from next lies enough c.to to before after w h q k;
      }

  pub pair_stays : {n : Refusal} {q : ℕ} → pair s c.from ≡ refused n q → Passed s (past_pair s) c before (record { value = 0; from = c.from; to = c.to }) before
  unfolding past_pair
  pair_stays read = record { place = ap (λ (g : Got (ℕ × ℕ)). end_of g c.from) (sym read); keeps = λ b enough k. k }

-- ---- raw bytes

-- raw bytes that are there
pub raw-there : (s : List ℕ) (at count : ℕ) {end : ℕ} → Ok end ≡ shape (raw s count at) → (end ≡ at + count) × (at + count ≤ length s)
unfolding raw
raw-there s at count {end} h = by_test (dec_le (at + count) (length s))
  where
    by_test : Dec (at + count ≤ length s) → (end ≡ at + count) × (at + count ≤ length s)
    by_test (yes le) = let is : Ok end ≡ Ok (at + count) = rw (le-leb (at + count) (length s) le) at h in (cc, le)
    by_test (no gt) = absurd (let is : Ok end ≡ Err (stop bytes_run_out at) = rw (lt-leb (at + count) (length s) (omega arith)) at h in let z : ◌≡◌ {A = ℕ} 0 1 = cc in omega arith)

module _ (s : List ℕ) (c : Pass) (before : List ℕ) (count : ℕ) where
  pub raw-passed : {end to : ℕ} {w : Option ℕ} {after : List ℕ} → Ok end ≡ shape (raw s count c.from) → Stored (take (end - c.from) (drop c.from s)) c.to before w after → to ≡ unwrap_or w c.to
      → Passed s (past_raw s count) c before (record { value = 0; from = end; to = to }) after
  unfolding past_raw raw
  raw-passed {end} {to} {w} {after} read h q =
      let there = raw-there s c.from count read in
      let m = end - c.from in
      let long : length (take (end - c.from) (drop c.from s)) ≡ count = length-take-le (end - c.from) (drop c.from s) (omega (arith, there.0, there.1, length-drop c.from s)) ∙ omega (arith, there.0) in
      let lies : Lies s (take (end - c.from) (drop c.from s)) c.from end = record {
        bytes = sym (take-append-drop (end - c.from) (drop c.from s)) ∙ ap (λ (l : List ℕ). take (end - c.from) (drop c.from s) ++ l) (drop-drop (end - c.from) c.from s ∙ ap (λ (k : ℕ). drop k s) (omega (arith, there.0)));
        ends = omega (arith, there.0, long);
        inside = omega (arith, there.0, there.1);
      } in
      record {
        place = rw (le-leb (c.from + count) (length s) there.1) there.0;
        keeps = λ b enough k. stored-kept s b (take (end - c.from) (drop c.from s)) c.from end lies enough c.to to before after w h q k;
      }

  pub raw-stays : {e : Stop} → Err e ≡ shape (raw s count c.from) → Passed s (past_raw s count) c before (record { value = 0; from = c.from; to = c.to }) before
  unfolding past_raw
  raw-stays read = record { place = rw (shape-refused (sym read)) refl; keeps = λ b enough k. k }

-- ---- one part after another

pub then_passed : {s : List ℕ} {past past' : ℕ → ℕ} {c d r : Pass} {before mid after : List ℕ} → Passed s past c before d mid → Passed s past' d mid r after
    → Passed s (λ at. past' (past at)) c before r after
then_passed {past' = past'} h k = record { place = k.place ∙ ap past' h.place; keeps = λ b enough i. k.keeps b enough (h.keeps b enough i) }

times-last : (n : ℕ) (past : ℕ → ℕ) (at : ℕ) → times (suc n) past at ≡ past (times n past at)
unfolding times
times-last zero past at = refl
times-last (suc n) past at = times-last n past (past at)

module _ {s : List ℕ} (past : ℕ → ℕ) {c : Pass} {before : List ℕ} where
  -- no turn of a loop yet, and one more
  pub none_passed : Passed s (times 0 past) c before c before
  unfolding times
  none_passed = record { place = refl; keeps = λ b enough k. k }

  pub more-passed : (i : ℕ) {d r : Pass} {mid after : List ℕ} → Passed s (times i past) c before d mid → Passed s past d mid r after → Passed s (times (i + 1) past) c before r after
  more-passed i h k = record {
    place = (then_passed h k).place ∙ sym (times-last i past c.from) ∙ ap (λ (n : ℕ). times n past c.from) (sym (add-one i));
    keeps = (then_passed h k).keeps;
  }

  pub all-passed : (i n : ℕ) {r : Pass} {after : List ℕ} → i ≡ n → Passed s (times i past) c before r after → Passed s (times n past) c before r after
  all-passed i n {r} {after} e h = subst (λ (k : ℕ). Passed s (times k past) c before r after) e h

  -- after a mark, and after a count
  module _ {d : Pass} {mid : List ℕ} (h : Passed s (past_number s) c before d mid) (v : d.value ≡ number_at s c.from) where
    pub absent_passed : d.value ≡ 0 → Passed s (past_optional s past) c before d mid
    unfolding past_optional
    absent_passed z = record { place = rw (eq-eqb (number_at s c.from) 0 (sym v ∙ z)) h.place; keeps = h.keeps }

    pub present_passed : {r : Pass} {after : List ℕ} → (d.value ≡ 0 → ⊥) → Passed s past d mid r after → Passed s (past_optional s past) c before r after
    unfolding past_optional
    present_passed z k = record { place = rw (ne_eqb (number_at s c.from) 0 (λ e. z (v ∙ e))) (then_passed h k).place; keeps = (then_passed h k).keeps }

    pub list_passed : {r : Pass} {after : List ℕ} → Passed s (times d.value past) d mid r after → Passed s (past_list s past) c before r after
    unfolding past_list
    list_passed k = record { place = (then_passed h k).place ∙ ap (λ (n : ℕ). times n past (past_number s c.from)) v; keeps = (then_passed h k).keeps }

module _ {s : List ℕ} {c d : Pass} {before mid : List ℕ} (h : Passed s (past_number s) c before d mid) (v : d.value ≡ number_at s c.from) where
  pub bytes-passed : {r : Pass} {after : List ℕ} → Passed s (past_raw s d.value) d mid r after → Passed s (past_bytes s) c before r after
  unfolding past_bytes
  bytes-passed k = record { place = (then_passed h k).place ∙ ap (λ (n : ℕ). past_raw s n (past_number s c.from)) v; keeps = (then_passed h k).keeps }

  pub fields-passed : {r : Pass} {after : List ℕ} → Passed s (past_fields s d.value) d mid r after → Passed s (past_instruction s) c before r after
  unfolding past_instruction
  fields-passed k = record { place = (then_passed h k).place ∙ ap (λ (n : ℕ). past_fields s n (past_number s c.from)) v; keeps = (then_passed h k).keeps }

-- ---- the opcodes

pub none-among : (ks : List ℕ) (x : ℕ) → (OneOf ks x → ⊥) → among ks x ≡ false
unfolding among
none-among [] x h = refl
none-among (k ∷ []) x h = rw (ne_eqb x k h)
none-among (k ∷ k' ∷ ks) x h = rw (ne_eqb x k (λ e. h (inl e))) (none-among (k' ∷ ks) x (λ r. h (inr r)))

-- an opcode that is one of several, which have the same fields
pub keyed : (s : List ℕ) (past : ℕ → ℕ) (ks : List ℕ) (opcode : ℕ) → Each (λ k. past_fields s k ≡ past) ks → OneOf ks opcode → past_fields s opcode ≡ past
unfolding Each
keyed s past [] opcode h e = elim e [ ]
keyed s past (k ∷ []) opcode h e = ap (past_fields s) e ∙ h.0
keyed s past (k ∷ k' ∷ ks) opcode h (inl e) = ap (past_fields s) e ∙ h.0
keyed s past (k ∷ k' ∷ ks) opcode h (inr r) = keyed s past (k' ∷ ks) opcode h.1 r

pub row-passed : {s : List ℕ} {past : ℕ → ℕ} {c r : Pass} {before after : List ℕ} (past' : ℕ → ℕ) → past' ≡ past → Passed s past c before r after → Passed s past' c before r after
row-passed {s} {past} {c} {r} {before} {after} past' e h = subst (λ (f : ℕ → ℕ). Passed s f c before r after) (sym e) h

-- ---- the whole

pub same_parts : (s : List ℕ) {p p' q q' r r' at at' : ℕ} → p ≡ p' → q ≡ q' → r ≡ r' → at ≡ at' → past_parts s p q r at ≡ past_parts s p' q' r' at'
same_parts s {p} {p'} {q} {q'} {r} {r'} {at} {at'} e f g h = cc

pub whole-passed : {s : List ℕ} {c c₁ c₂ c₃ c₄ r : Pass} {before o₁ o₂ o₃ o₄ after : List ℕ} → Passed s (times 2 (past_number s)) c before c₁ o₁ → Passed s (past_number s) c₁ o₁ c₂ o₂
    → Passed s (past_number s) c₂ o₂ c₃ o₃ → Passed s (past_number s) c₃ o₃ c₄ o₄ → c₂.value ≡ number_at s c₁.from → c₃.value ≡ number_at s c₂.from → c₄.value ≡ number_at s c₃.from
    → Passed s (past_parts s c₂.value c₃.value c₄.value) c₄ o₄ r after → Passed s (past_whole s) c before r after
unfolding past_whole
whole-passed {s} h i j k u v w l =
    let a = h.place in
    let b = i.place ∙ ap (past_number s) a in
    let d = j.place ∙ ap (past_number s) b in
    let parts = l.place ∙ same_parts s (u ∙ ap (number_at s) a) (v ∙ ap (number_at s) b) (w ∙ ap (number_at s) d) (k.place ∙ ap (past_number s) d) in
    record { place = parts; keeps = (then_passed (then_passed (then_passed (then_passed h i) j) k) l).keeps }
