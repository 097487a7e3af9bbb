-- Pieces that stand, one after another: they end no earlier than they begin, and they stand exactly where their bytes are.
use Prim.Native.Nat.{ℕ, zero, suc, ◌+◌, ◌*◌, ◌-◌, ◌^◌, ◌≤◌, ◌<◌}
use native.Mathlib.Omega.{arith}
use mathlib.Core.Bool.{Bool, true, false}
use mathlib.Core.Path.{◌≡◌, refl, sym, ap, ap₂, subst, ◌∙◌}
use mathlib.Core.List.{List, [], ◌∷◌, ◌++◌, append_assoc}
use lib.ListN.{length, get_or, take, drop, length-append, length-drop, take-append-drop}
use lib.Seq.{drop-drop, drop-append_seam, take-append_seam}
use lib.Dec.{ltb, leb, eqb}
use borrow.Author.Tests.{le-leb, leb-true}
use Rattle.value.specs.Answer.{pick}
use Rattle.value.specs.Refusal.{bytes_run_out}
use Rattle.image.specs.Parse.{Got, took, refused}
use Rattle.image.specs.Number.{groups, number, bytes_of}
use Rattle.image.specs.Fields as Fields
use Rattle.image.specs.Written.{Piece, num, raw, spelt}
use Rattle.image.specs.Limits.{Each, IsByte, AreBytes}
use Rattle.image.specs.Standing.{Stand}
use Rattle.image.proofs.Parts.{never, picked, same-value, same_place}
use Rattle.image.proofs.Round.{written_reads, read_spells}

-- ---- a number ends after it begins

-- where a choice took something, one of its branches did
either : {A : Type 0} (P : ℕ → Type 0) {a : A} {n : ℕ} (b : Bool) (x y : Got A) → (x ≡ took a n → P n) → (y ≡ took a n → P n) → pick b x y ≡ took a n → P n
either P true x y f g e = f e
either P false x y f g e = g e

groups_forward : (left start w sum : ℕ) (s : List ℕ) (at v next : ℕ) → groups left start w sum s at ≡ took v next → at < next
unfolding groups
groups_forward zero start w sum s at v next e =
    either (λ n. at < n) (leb (length s) at) _ _ (λ d. never d)
    (λ d. either (λ n. at < n) (eqb (get_or s at 0) 1) _ _ (λ c. subst (λ (n : ℕ). at < n) (same_place c) (omega arith)) (λ c. never c) d) e
groups_forward (suc left) start w sum s at v next e =
    either (λ n. at < n) (leb (length s) at) _ _ (λ d. never d)
    (λ d. either (λ n. at < n) (ltb (get_or s at 0) 128) _ _
    (λ c. either (λ n. at < n) (eqb (get_or s at 0) 0) _ _
    (λ b. either (λ n. at < n) (ltb left 8) _ _ (λ a. never a) (λ a. subst (λ (n : ℕ). at < n) (same_place a) (omega arith)) b)
    (λ b. subst (λ (n : ℕ). at < n) (same_place b) (omega arith)) c)
    (λ c. omega (arith, groups_forward left start (w * 128) (sum + (get_or s at 0 - 128) * w) s (at + 1) v next c)) d) e

pub forward : (s : List ℕ) (at v next : ℕ) → number s at ≡ took v next → at < next
unfolding number
forward s at v next e = groups_forward 9 at 1 0 s at v next e

-- raw bytes are the image's own, as many as were asked for
pub raw-took : (s : List ℕ) (k at : ℕ) {bs : List ℕ} {e : ℕ} → Fields.raw s k at ≡ took bs e → (bs ≡ take k (drop at s)) × (at + k ≡ e) × (at + k ≤ length s)
unfolding Fields.raw
raw-took s k at {bs} {e} h =
    let t = picked (leb (at + k) (length s)) (took (take k (drop at s)) (at + k)) bytes_run_out at bs e h in
    (sym (same-value t.1), same_place t.1, leb-true (at + k) (length s) t.0)

-- ---- one piece after another

module _ (s : List ℕ) where
  pub stand-append : (at m e : ℕ) (ps qs : List Piece) → Stand s at ps m → Stand s m qs e → Stand s at (ps ++ qs) e
  stand-append at m e [] qs h g = rw h g
  stand-append at m e (num v ∷ ps) qs (k, e₁, h) g = (k, e₁, stand-append k m e ps qs h g)
  stand-append at m e (raw bs ∷ ps) qs (k, e₁, h) g = (k, e₁, stand-append k m e ps qs h g)

  pub stand_split : (at e : ℕ) (ps qs : List Piece) → Stand s at (ps ++ qs) e → (m : ℕ) × Stand s at ps m × Stand s m qs e
  stand_split at e [] qs h = (at, refl, h)
  stand_split at e (num v ∷ ps) qs (k, e₁, h) = let (m, g, r) = stand_split k e ps qs h in (m, (k, e₁, g), r)
  stand_split at e (raw bs ∷ ps) qs (k, e₁, h) = let (m, g, r) = stand_split k e ps qs h in (m, (k, e₁, g), r)

  pub stand_forward : (at : ℕ) (ps : List Piece) (end : ℕ) → Stand s at ps end → at ≤ end
  stand_forward at [] end h = omega arith
  stand_forward at (num v ∷ ps) end (m, e, h) = omega (arith, forward s at v m e, stand_forward m ps end h)
  stand_forward at (raw bs ∷ ps) end (m, e, h) = omega (arith, (raw-took s (length bs) at e).1, stand_forward m ps end h)

-- ---- pieces and their bytes

-- pieces that stand in the image are its bytes there
pub stand-bytes : (s : List ℕ) → AreBytes s → (at e : ℕ) (ps : List Piece) → Stand s at ps e → drop at s ≡ spelt ps ++ drop e s
stand-bytes s small at e [] h = ap (λ (k : ℕ). drop k s) h
stand-bytes s small at e (num v ∷ ps) (m, e₁, h) =
    read_spells s at v m small e₁ ∙ ap (λ (l : List ℕ). bytes_of v ++ l) (stand-bytes s small m e ps h) ∙ sym (append_assoc (bytes_of v) (spelt ps) (drop e s))
stand-bytes s small at e (raw bs ∷ ps) (m, e₁, h) =
    let (is, ends, le) = raw-took s (length bs) at e₁ in
    sym (take-append-drop (length bs) (drop at s))
    ∙ ap₂ (λ (k l : List ℕ). k ++ l) (sym is) (drop-drop (length bs) at s ∙ ap (λ (k : ℕ). drop k s) ends)
    ∙ ap (λ (l : List ℕ). bs ++ l) (stand-bytes s small m e ps h) ∙ sym (append_assoc bs (spelt ps) (drop e s))

-- a number that groups can hold, and raw bytes that are bytes
abbrev pub Writable : Piece → Type 0
Writable (num v) = v < 2 ^ 64
Writable (raw bs) = Each IsByte bs

-- the place after the bytes x, and what is there
seam : (s x rest : List ℕ) (at : ℕ) → drop at s ≡ x ++ rest → drop (at + length x) s ≡ rest
seam s x rest at e = sym (drop-drop (length x) at s) ∙ ap (drop (length x)) e ∙ drop-append_seam x rest

inside : (s x rest : List ℕ) (at : ℕ) → at ≤ length s → drop at s ≡ x ++ rest → at + length x ≤ length s
inside s x rest at i e = omega (arith, ap length e, length-drop at s, length-append x rest)

raw_there : (s bs rest : List ℕ) (at : ℕ) → at ≤ length s → drop at s ≡ bs ++ rest → Fields.raw s (length bs) at ≡ took bs (at + length bs)
unfolding Fields.raw
raw_there s bs rest at i e =
    let b = le-leb (at + length bs) (length s) (inside s bs rest at i e) in
    let same : take (length bs) (drop at s) ≡ bs = ap (take (length bs)) e ∙ take-append_seam bs rest in
    ap (λ (t : Bool). pick t (took (take (length bs) (drop at s)) (at + length bs)) (refused bytes_run_out at)) b ∙ ap (λ (l : List ℕ). took l (at + length bs)) same

-- pieces whose bytes are in the image stand there
module _ (s : List ℕ) where
  joined : (x : List ℕ) (ps : List Piece) (at : ℕ) → Stand s (at + length x) ps (at + length x + length (spelt ps)) → Stand s (at + length x) ps (at + length (x ++ spelt ps))
  joined x ps at h = subst (λ (n : ℕ). Stand s (at + length x) ps n) (omega (arith, length-append x (spelt ps))) h

  pub spelt-stands : (ps : List Piece) → Each Writable ps → (at : ℕ) (rest : List ℕ) → at ≤ length s → drop at s ≡ spelt ps ++ rest → Stand s at ps (at + length (spelt ps))
  unfolding Each
  spelt-stands [] h at rest i e = omega arith
  spelt-stands (num v ∷ ps) h at rest i e =
      let more = spelt ps ++ rest in
      let there : drop at s ≡ bytes_of v ++ more = e ∙ append_assoc (bytes_of v) (spelt ps) rest in (
        at + length (bytes_of v),
        written_reads v s at more h.0 there,
        joined (bytes_of v) ps at (spelt-stands ps h.1 (at + length (bytes_of v)) rest (inside s (bytes_of v) more at i there) (seam s (bytes_of v) more at there)),
      )
  spelt-stands (raw bs ∷ ps) h at rest i e =
      let more = spelt ps ++ rest in
      let there : drop at s ≡ bs ++ more = e ∙ append_assoc bs (spelt ps) rest in (
        at + length bs,
        raw_there s bs more at i there,
        joined bs ps at (spelt-stands ps h.1 (at + length bs) rest (inside s bs more at i there) (seam s bs more at there)),
      )
