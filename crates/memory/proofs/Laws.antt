-- What the tests of the tables' definitions show, read off a chosen answer one test after another.
use Rattle.std.specs.Prelude.{Result, Ok, Err}
use mathlib.Core.Path.{◌≡◌, refl, sym, ap}
use mathlib.Core.List.{List}
use mathlib.Core.Bool.{Bool, true, false}
use Prim.Native.Nat.{ℕ, ◌+◌, ◌-◌, ◌*◌, ◌/◌, ◌<◌, ◌≤◌}
use native.Mathlib.Omega.{arith}
use lib.ListN.{get_or, length}
use lib.Dec.{ltb, leb, eqb}
use borrow.Author.Tests.{eqb-true, ltb-false, leb-true, leb-false, eq-eqb}
use Rattle.value.specs.declared.refusal.Refusal.{Refusal}
use Rattle.value.specs.Answer.{pick}
use Rattle.value.specs.Refusal.{not_sound, not_given_out, through_constant, frame_gone, no_allocation, beyond_length, misaligned, bytes_full, pointers_full, no_constant}
use Rattle.value.proofs.Truth.{both_true}
use Rattle.memory.specs.declared.Registers.{Registers}
use Rattle.memory.specs.Tables.{Tables, ready, ready_of, room_of, fresh_of, cleared, tables, registers, out, within_of, aligned_of, ranked_of, standing_of, local_of, accessed_at, from_store, read_access_of, write_access_of, for_write, constant_access_of, pointer_at, frame_word}
use Rattle.memory.specs.declared.PointerRecord.{PointerRecord}
use Rattle.memory.specs.declared.Source.{Source}
use Rattle.memory.specs.declared.Source.TheVariants as source

-- a test that does not lead to z was left, and the rest is z; or was taken
pub skip : {A : Type 0} (b : Bool) (x y z : A) → pick b x y ≡ z → (x ≡ z → ⊥) → (b ≡ false) × (y ≡ z)
skip true x y z e n = absurd (n e)
skip false x y z e n = (refl, e)

pub keep : {A : Type 0} (b : Bool) (x y z : A) → pick b x y ≡ z → (y ≡ z → ⊥) → (b ≡ true) × (x ≡ z)
keep true x y z e n = (refl, e)
keep false x y z e n = absurd (n e)

-- a refusal is no answer
pub never : {A : Type 0} (n : Refusal) (a : A) → ◌≡◌ {A = Result A Refusal} (Err n) (Ok a) → ⊥
never n a e = let z : ◌≡◌ {A = ℕ} 0 1 = cc in omega arith

-- and two answers that are the same have the same value
abbrev ok_in : {A : Type 0} → Result A Refusal → A → A
ok_in (Ok a) d = a
ok_in (Err n) d = d

pub ok_same : {A : Type 0} (a b : A) → ◌≡◌ {A = Result A Refusal} (Ok a) (Ok b) → a ≡ b
ok_same a b e = ap (λ r. ok_in r a) e

-- ---- ready

pub record Ready (d n s f b p : ℕ) : Type 0 where
  pub store : s ≡ 32768
  pub frames : f ≡ 260
  pub bounds : b ≡ 513
  pub pointers : p ≡ 20480
  pub deep : d ≤ 64
  pub given : n ≤ 4096

pub ready_of_lem : (d n s f b p : ℕ) → ready_of d n s f b p ≡ true → Ready d n s f b p
unfolding ready_of
ready_of_lem d n s f b p e =
    let v = both_true (eqb s 32768) _ e in
    let w = both_true (eqb f 260) _ v.1 in
    let x = both_true (eqb b 513) _ w.1 in
    let y = both_true (eqb p 20480) _ x.1 in
    let z = both_true (leb d 64) (leb n 4096) y.1 in
    record {
      store = eqb-true _ _ v.0;
      frames = eqb-true _ _ w.0;
      bounds = eqb-true _ _ x.0;
      pointers = eqb-true _ _ y.0;
      deep = leb-true _ _ z.0;
      given = leb-true _ _ z.1;
    }

-- ---- fresh

pub fresh-made : (s f b p v : List ℕ) → ready (tables (registers 0 0 1 1 0) s f b p) ≡ true → length v ≡ 512
    → fresh_of s f b p v ≡ cleared s f b p v
unfolding fresh_of
fresh-made s f b p v h k = simp (h, eq-eqb _ _ k)

-- ---- allocate

pub room-none : (u size p : ℕ) → room_of u size p ≡ Ok tt → (u + size ≤ 32768) × (p < 4096)
unfolding room_of
room-none u size p e =
    let x = skip (ltb 32768 u) (Err bytes_full) _ (Ok tt) e (never bytes_full tt) in
    let y = skip (ltb (32768 - u) size) (Err bytes_full) _ (Ok tt) x.1 (never bytes_full tt) in
    let z = skip (leb 4096 p) (Err pointers_full) (Ok tt) (Ok tt) y.1 (never pointers_full tt) in
    let a : u ≤ 32768 = ltb-false _ _ x.0 in
    let b : size ≤ 32768 - u = ltb-false _ _ y.0 in
    let d : p < 4096 = leb-false _ _ z.0 in
    (omega arith, d)

pub ruleset room_made = (ready_of_lem, room-none)

pub out-same : {a : Result (ℕ × Registers) Refusal} {b b' c d e e' : List ℕ} → b ≡ b' → e ≡ e' → out a b c d e ≡ out a b' c d e'
out-same p q = cc

-- ---- accesses

-- what a place within an allocation shows
pub record Within (start stop offset n x : ℕ) : Type 0 where
  pub stored : stop ≤ 32768
  pub ordered : start ≤ stop
  pub fits : offset + n ≤ stop - start
  pub divides : aligned_of offset n ≡ true
  pub place : x ≡ start + offset

pub within-at : (start stop offset n x : ℕ) → within_of start stop offset n ≡ Ok x → Within start stop offset n x
unfolding within_of
within-at start stop offset n x e =
    let a = skip (ltb 32768 stop) (Err beyond_length) _ _ e (never beyond_length x) in
    let b = skip (ltb stop start) (Err beyond_length) _ _ a.1 (never beyond_length x) in
    let c = skip (ltb (stop - start) n) (Err beyond_length) _ _ b.1 (never beyond_length x) in
    let d = skip (ltb (stop - start - n) offset) (Err beyond_length) _ _ c.1 (never beyond_length x) in
    let f = keep (aligned_of offset n) (Ok (start + offset)) (Err misaligned) _ d.1 (never misaligned x) in
    let i : start ≤ stop = ltb-false _ _ b.0 in
    let j : n ≤ stop - start = ltb-false _ _ c.0 in
    let k : offset ≤ stop - start - n = ltb-false _ _ d.0 in
    record { stored = ltb-false _ _ a.0; ordered = i; fits = omega arith; divides = f.0; place = sym (ok_same (start + offset) x f.1) }

-- what an allocation's rank shows
pub record Ranked (fr : List ℕ) (f a k : ℕ) : Type 0 where
  pub few : frame_word fr f 7 ≤ 512
  pub has : frame_word fr f 3 + a < frame_word fr f 7
  pub rank : k ≡ frame_word fr f 3 + a

pub ranked_at : (fr : List ℕ) (f a k : ℕ) → ranked_of fr f a ≡ Ok k → Ranked fr f a k
unfolding ranked_of
ranked_at fr f a k e =
    let x = skip (ltb 512 (frame_word fr f 7)) (Err no_allocation) _ _ e (never no_allocation k) in
    let y = skip (ltb (frame_word fr f 7) (frame_word fr f 3)) (Err no_allocation) _ _ x.1 (never no_allocation k) in
    let z = skip (leb (frame_word fr f 7 - frame_word fr f 3) a) (Err no_allocation) _ _ y.1 (never no_allocation k) in
    let h : a < frame_word fr f 7 - frame_word fr f 3 = leb-false _ _ z.0 in
    record { few = ltb-false _ _ x.0; has = omega arith; rank = sym (ok_same _ k z.1) }

-- what a standing allocation shows
pub record Standing (d : ℕ) (fr : List ℕ) (q : PointerRecord) (k : ℕ) : Type 0 where
  pub stands : q.index < d
  pub same_id : get_or fr (q.index * 4) 0 ≡ q.id
  pub ranked : Ranked fr q.index q.allocation k

pub standing-at : (d : ℕ) (fr : List ℕ) (q : PointerRecord) (k : ℕ) → standing_of d fr q ≡ Ok k → Standing d fr q k
unfolding standing_of
standing-at d fr q k e =
    let x = skip (leb d q.index) (Err frame_gone) _ _ e (never frame_gone k) in
    let y = keep (eqb (get_or fr (q.index * 4) 0) q.id) _ (Err frame_gone) _ x.1 (never frame_gone k) in
    record { stands = leb-false _ _ x.0; same_id = eqb-true _ _ y.0; ranked = ranked_at fr q.index q.allocation k y.1 }

-- a rank is below 512, so that the word after it is in the bounds
pub standing_few : (d : ℕ) (fr : List ℕ) (q : PointerRecord) (k : ℕ) → standing_of d fr q ≡ Ok k → k < 512
standing_few d fr q k e =
    let r = (standing-at d fr q k e).ranked in
    let a = r.few in
    let b = r.has in
    let c = r.rank in
    omega arith

elsewhere : (n a : ℕ) → ◌≡◌ {A = Result Source Refusal} (Ok (source.Constant n)) (Ok (source.Local a)) → ⊥
elsewhere n a e = let z : ◌≡◌ {A = ℕ} 0 1 = cc in omega arith

-- the granted local access: its rank, and its place within
pub record Accessed (d : ℕ) (fr bo : List ℕ) (q : PointerRecord) (n x : ℕ) : Type 0 where
  pub rank : ℕ
  pub standing : Standing d fr q rank
  pub within : Within (get_or bo rank 0) (get_or bo (rank + 1) 0) q.offset n x

from_store_lem : (p : (Result ℕ Refusal)) (x : ℕ) → from_store p ≡ Ok (source.Local x) → p ≡ Ok x
from_store_lem (Ok a) x e = cc
from_store_lem (Err n) x e = absurd (never n (source.Local x) e)

accessed_at_lem : (d : ℕ) (fr bo : List ℕ) (q : PointerRecord) (n x : ℕ) (p : (Result ℕ Refusal)) → standing_of d fr q ≡ p
    → accessed_at p bo q.offset n ≡ Ok (source.Local x) → Accessed d fr bo q n x
accessed_at_lem d fr bo q n x (Ok k) s e =
    record { rank = k; standing = standing-at d fr q k s; within = within-at _ _ _ _ x (from_store_lem _ x e) }
accessed_at_lem d fr bo q n x (Err m) s e = absurd (never m (source.Local x) e)

pub local_at : (d : ℕ) (fr bo : List ℕ) (q : PointerRecord) (n x : ℕ) → local_of d fr bo q n ≡ Ok (source.Local x) → Accessed d fr bo q n x
unfolding local_of
local_at d fr bo q n x e = accessed_at_lem d fr bo q n x (standing_of d fr q) refl e

pub record Read (t : Tables) (p n x : ℕ) : Type 0 where
  pub ready : Ready t.registers.depth t.registers.pointers (length t.store) (length t.frames) (length t.bounds) (length t.pointers)
  pub given : p < t.registers.pointers
  pub accessed : Accessed t.registers.depth t.frames t.bounds (pointer_at t.pointers p) n x

pub read_at_lem : (t : Tables) (p n x : ℕ) → read_access_of t p n ≡ Ok (source.Local x) → Read t p n x
unfolding read_access_of
read_at_lem t p n x e =
    let a = keep (ready t) _ (Err not_sound) _ e (never not_sound (source.Local x)) in
    let b = skip (leb t.registers.pointers p) (Err not_given_out) _ _ a.1 (never not_given_out (source.Local x)) in
    let c = keep (eqb (pointer_at t.pointers p).kind 0) _ (Ok (source.Constant (pointer_at t.pointers p).index)) _ b.1 (elsewhere _ x) in
    record { ready = ready_of_lem _ _ _ _ _ _ a.0; given = leb-false _ _ b.0; accessed = local_at _ _ _ _ n x c.1 }

-- a place that is granted has its bytes in the store
pub read_fits : (t : Tables) (p n x : ℕ) → read_access_of t p n ≡ Ok (source.Local x) → x + n ≤ length t.store
read_fits t p n x e =
    let r = read_at_lem t p n x e in
    let w = r.accessed.within in
    let l = r.ready.store in
    let a = w.stored in
    let b = w.fits in
    let c = w.place in
    let d = w.ordered in
    omega arith

for_write_lem : (s : (Result Source Refusal)) (x : ℕ) → for_write s ≡ Ok x → s ≡ Ok (source.Local x)
for_write_lem (Ok (source.Local a)) x e = cc
for_write_lem (Ok (source.Constant k)) x e = absurd (never through_constant x e)
for_write_lem (Err n) x e = absurd (never n x e)

pub write_read : (t : Tables) (p n x : ℕ) → write_access_of t p n ≡ Ok x → read_access_of t p n ≡ Ok (source.Local x)
unfolding write_access_of
write_read t p n x e = for_write_lem _ x e

pub write-fits : (t : Tables) (p n x : ℕ) → write_access_of t p n ≡ Ok x → x + n ≤ length t.store
write-fits t p n x e = read_fits t p n x (write_read t p n x e)

-- a constant's first bytes stand in the image
pub constant-fits : (k n : ℕ) (raw extents : List ℕ) (x : ℕ) → constant_access_of k n raw extents ≡ Ok x → x + n ≤ length raw
unfolding constant_access_of
constant-fits k n raw extents x e =
    let a = skip (leb (length extents / 2) k) (Err no_constant) _ _ e (never no_constant x) in
    let b = skip (ltb (length raw) (get_or extents (k * 2) 0)) (Err no_constant) _ _ a.1 (never no_constant x) in
    let c = skip (ltb (length raw - get_or extents (k * 2) 0) (get_or extents (k * 2 + 1) 0)) (Err no_constant) _ _ b.1 (never no_constant x) in
    let d = skip (ltb (get_or extents (k * 2 + 1) 0) n) (Err beyond_length) _ _ c.1 (never beyond_length x) in
    let i : get_or extents (k * 2) 0 ≤ length raw = ltb-false _ _ b.0 in
    let j : get_or extents (k * 2 + 1) 0 ≤ length raw - get_or extents (k * 2) 0 = ltb-false _ _ c.0 in
    let l : n ≤ get_or extents (k * 2 + 1) 0 = ltb-false _ _ d.0 in
    let m = ok_same (get_or extents (k * 2) 0) x d.1 in
    omega arith

-- what is granted has its bytes there
pub ruleset fits = (read_fits, write-fits, constant-fits)
