-- When two memories are alike under a relation: whatever the machine asks of both, they refuse alike, or answer alike.
use Rattle.std.specs.Prelude.{ℕ, ◌≡◌, List}
use Rattle.std.proofs.Math.Option.{Option, none, some}
use Rattle.value.specs.declared.refusal.Refusal.{Refusal}
use Rattle.value.specs.Answer.{Answer, ok, refused}
use Rattle.memory.specs.Memory.{Back}
use Rattle.machine.specs.Machine.{Memories}

pub data Alike {A B : Type 0} (R : A → B → Type 0) : Answer A → Answer B → Type 0 where
  both_ok : {a : A} {b : B} → R a b → Alike R (ok a) (ok b)
  both-refused : {n : Refusal} → Alike R (refused n) (refused n)

-- both are at the root, or both went back alike
pub data BackAlike {A B : Type 0} (R : A → B → Type 0) : Option (Back × A) → Option (Back × B) → Type 0 where
  both_root : BackAlike R none none
  both-back : {back : Back} {a : A} {b : B} → R a b → BackAlike R (some (back, a)) (some (back, b))

pub record Likened {M H : Type 0} (A : Memories M) (B : Memories H) (R : M → H → Type 0) : Type 0 where
  pub none_yet : R A.none_yet B.none_yet
  pub given : {m : M} {h : H} → R m h → A.given m ≡ B.given h
  pub allocate : {m : M} {h : H} → R m h → (n : ℕ) → Alike R (A.allocate m n) (B.allocate h n)
  pub address : {m : M} {h : H} → R m h → (k : ℕ) → Alike R (A.address m k) (B.address h k)
  pub offset : {m : M} {h : H} → R m h → (p d : ℕ) → Alike R (A.offset m p d) (B.offset h p d)
  pub read : {m : M} {h : H} → R m h → (constants : List (List ℕ)) (p n : ℕ) → A.read constants m p n ≡ B.read constants h p n
  pub write : {m : M} {h : H} → R m h → (p : ℕ) (bs : List ℕ) → Alike R (A.write m p bs) (B.write h p bs)
  pub push : {m : M} {h : H} → R m h → (back : Back) → Alike R (A.push m back) (B.push h back)
  pub pop : {m : M} {h : H} → R m h → BackAlike R (A.pop m) (B.pop h)
  pub listing : {m : M} {h : H} → R m h → A.listing m ≡ B.listing h
