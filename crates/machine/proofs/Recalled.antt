-- The believed memory and the history are alike: each operation refuses alike, or both go on and `Sim` holds again.
use Prim.Native.Nat.{ℕ, zero, suc, ◌+◌, ◌-◌, ◌<◌}
use native.Mathlib.Omega.{arith}
use mathlib.Core.Bool.{Bool, true, false, ◌&&◌}
use mathlib.Core.Path.{◌≡◌, refl, sym, ap, ap₂, ◌∙◌, subst}
use mathlib.Core.List.{List, [], ◌∷◌, map}
use mathlib.Core.Option.{none, some}
use lib.ListN.{length, get_or, length-map}
use lib.Dec.{T, ltb, leb, ltb→lt, lt→ltb}
use Rattle.value.specs.declared.refusal.Refusal.{Refusal}
use Rattle.value.specs.Refusal.{allocations_full, beyond_length, bytes_full, frame_gone, frames_full, ids_spent, misaligned, not_given_out, offset_too_large, pointers_full}
use Rattle.value.specs.Answer.{Answer, ok, need, pick}
use Rattle.memory.specs.Memory.{Memory, Back, Frame, Pointer, constant, local, top, sum, frame_at, pointer_at, stands, written, popped, allocate, live_count, live_bytes, write_at, write_bytes, offset_at, offset_by, constant_address, push_frame, pop_frame, live_pointer, live_list, no_back}
use Rattle.memory.specs.Live.{listed}
use mir.Facts.{and_yes, yes_and}
use Rattle.machine.specs.History.{History, Made, made_in, target_of, top_frame, among, next, less_top, moved, told_count, told_bytes, tell_allocation, tell_address, tell_store_at, tell_store, tell_offset_at, tell_offset, tell_call, tell_return, told_pointer, told_list}
use Rattle.machine.specs.Alike.{Alike, both_ok, both-refused, BackAlike, both_root, both-back, Likened}
use Rattle.machine.specs.Believed.{believed}
use Rattle.machine.specs.Recalled.{recalled}
use Rattle.machine.proofs.Agree.{Sim, Homed, forget, contents, ids, id-at, need_yes, fresh_agrees, give, push, pop, access_agrees, target_at, same_length, read_agrees, allocate_agrees, write-at, length_contents, Levelled, stands-among, allocations-at, bool_iff}

alike_same : {A B : Type 0} (R : A → B → Type 0) (b c : Bool) (n : Refusal) (x : Answer A) (y : Answer B) → b ≡ c → (T c → Alike R x y) → Alike R (need b n x) (need c n y)
unfolding need
alike_same R b true n x y e f = rw e (f tt)
alike_same R b false n x y e f = rw e both-refused

-- a sum over the frames of the stack, and over the frames that stand
sums : (f : Frame → ℕ) (g : ℕ → ℕ) (fs : List Frame) → ((i : ℕ) → i < length fs → f (frame_at fs i) ≡ g (frame_at fs i).id) → sum (map f fs) ≡ sum (map g (ids fs))
unfolding sum
sums f g [] e = refl
sums f g (x ∷ fs) e = ap₂ ◌+◌ (e zero (omega arith)) (sums f g fs (λ i l. e (suc i) (omega arith)))

lengths : (as' : List Made) → sum (map length (map contents as')) ≡ sum (map (λ (a : Made). a.size) as')
unfolding sum
lengths [] = refl
lengths (a ∷ as') = ap₂ ◌+◌ (length_contents a) (lengths as')

module _ {m : Memory} {h : History} (s : Sim m h) where
  same_count : live_count m.frames ≡ told_count h
  unfolding live_count told_count
  same_count = rw s.stack (sums _ _ m.frames (λ i l. ap length (s.holds i l) ∙ length-map (made_in h.made (frame_at m.frames i).id) contents))

  same_bytes_lem : live_bytes m.frames ≡ told_bytes h
  unfolding live_bytes told_bytes
  same_bytes_lem = rw s.stack (sums _ _ m.frames (λ i l. ap (λ (bss : List (List ℕ)). sum (map length bss)) (s.holds i l) ∙ lengths (made_in h.made (frame_at m.frames i).id)))

  pub same_depth : length m.frames ≡ length h.standing
  same_depth = sym (ap length s.stack ∙ length-map m.frames (λ (f : Frame). f.id))

  allocates : (n : ℕ) → Alike Sim (allocate m n) (tell_allocation h n)
  unfolding allocate tell_allocation
  allocates n =
      alike_same Sim _ _ allocations_full _ _ (ap (λ (x : ℕ). ltb x 512) same_count) (λ a.
      alike_same Sim _ _ bytes_full _ _ (ap (λ (x : ℕ). leb (x + n) 32768) same_bytes_lem) (λ b.
      alike_same Sim _ _ pointers_full _ _ (ap (λ (x : ℕ). ltb x 4096) (sym (same_length s))) (λ c. both_ok (allocate_agrees s n))))

  addresses : (k : ℕ) → Alike Sim (constant_address m k) (tell_address h k)
  unfolding constant_address tell_address next
  addresses k = alike_same Sim _ _ pointers_full _ _ (ap (λ (x : ℕ). ltb x 4096) (sym (same_length s))) (λ c. both_ok (give s (constant k) tt tt))

  offsets_at : (p d : ℕ) (q : Pointer) → target_of h p ≡ forget q → Homed m.frames h.made q → Levelled h.below q → Alike Sim (offset_at m q d) (tell_offset_at h (forget q) p d)
  unfolding offset_at tell_offset_at next moved
  offsets_at p d (constant k) e home at_level = both-refused
  offsets_at p d (local i f j o) e home at_level =
      alike_same Sim _ _ offset_too_large _ _ refl (λ a.
      alike_same Sim _ _ pointers_full _ _ (ap (λ (x : ℕ). ltb x 4096) (sym (same_length s))) (λ b. both_ok (rw e (give s (local i f j (o + d)) home at_level))))

  offsets : (p d : ℕ) → Alike Sim (offset_by m p d) (tell_offset h p d)
  unfolding offset_by tell_offset
  offsets p d =
      alike_same Sim _ _ not_given_out _ _ (ap (ltb p) (sym (same_length s))) (λ t.
      let l : p < length m.pointers = rw (same_length s) at (ltb→lt p (length h.given) t) in
      rw (target_at s p) (offsets_at p d (pointer_at m p) (target_at s p) (s.homes p l) (s.levels p l)))

  writes_at : (p : ℕ) (bs : List ℕ) (q : Pointer) → target_of h p ≡ forget q → Homed m.frames h.made q → Alike Sim (write_at m q bs) (tell_store_at h (forget q) p bs)
  unfolding write_at tell_store_at next
  writes_at p bs (constant k) e home = both-refused
  writes_at p bs (local i f j o) e home =
      let as-told = access_agrees s i f j o (length bs) (ok (written m i j o bs)) (ok (written m i j o bs)) home (λ t w. refl) in
      rw as-told
      (alike_same Sim _ _ frame_gone _ _ refl (λ a.
      alike_same Sim _ _ beyond_length _ _ refl (λ b.
      alike_same Sim _ _ misaligned _ _ refl (λ c. both_ok (rw e
      (write-at s (local i f j o) bs home (as-told ∙ need_yes (among f h.standing) frame_gone _ a ∙ need_yes _ beyond_length _ b ∙ need_yes _ misaligned _ c)))))))

  writes : (p : ℕ) (bs : List ℕ) → Alike Sim (write_bytes m p bs) (tell_store h p bs)
  unfolding write_bytes tell_store
  writes p bs =
      alike_same Sim _ _ not_given_out _ _ (ap (ltb p) (sym (same_length s))) (λ t.
      rw (target_at s p) (writes_at p bs (pointer_at m p) (target_at s p) (s.homes p (rw (same_length s) at (ltb→lt p (length h.given) t)))))

  pushes : (b : Back) → Alike Sim (push_frame m b) (tell_call h b)
  unfolding push_frame tell_call
  pushes b =
      alike_same Sim _ _ frames_full _ _ (ap (λ (x : ℕ). ltb x 64) same_depth) (λ a.
      alike_same Sim _ _ ids_spent _ _ (ap (λ (x : ℕ). ltb x 4294967295) s.counted) (λ c. both_ok (push s b)))

  -- the frame that stands on top, by its name
  pub same-top : (frame_at m.frames (top m.frames)).id ≡ top_frame h
  same-top =
      sym (ap (λ (l : List ℕ). get_or l (length l - 1) 0) s.stack ∙ ap (λ (x : ℕ). get_or (ids m.frames) (x - 1) 0) (length-map m.frames (λ (g : Frame). g.id))
      ∙ id-at m.frames (top m.frames))

  pops : BackAlike Sim (pop_frame m) (tell_return h)
  unfolding pop_frame tell_return next
  pops = go (ltb 1 (length m.frames)) (ltb 1 (length h.standing)) (ap (ltb 1) same_depth) (λ t. pop s (ltb→lt 1 _ t))
    where
      same_back : (frame_at m.frames (top m.frames)).back ≡ get_or h.backs (top_frame h) no_back
      same_back = sym (s.back (top m.frames) (omega (arith, s.root))) ∙ ap (λ (f : ℕ). get_or h.backs f no_back) same-top

      go : (b c : Bool) → b ≡ c → (T b → Sim (popped m) (less_top h))
          → BackAlike Sim (pick b (some ((frame_at m.frames (top m.frames)).back, popped m)) none) (pick c (some (get_or h.backs (top_frame h) no_back, less_top h)) none)
      go true c e f = rw (← e, same_back) (both-back (f tt))
      go false c e f = rw (← e) both_root

map_each : {A B C : Type 0} (f : A → C) (g : B → C) (k : A → B) (d : A) (l : List A) → ((i : ℕ) → i < length l → f (get_or l i d) ≡ g (k (get_or l i d))) → map f l ≡ map g (map k l)
map_each f g k d [] e = refl
map_each f g k d (x ∷ l) e = ap₂ (λ (y : _) (r : List _). y ∷ r) (e zero (omega arith)) (map_each f g k d l (λ i h. e (suc i) (omega arith)))

module _ {m : Memory} {h : History} (s : Sim m h) where
  lists_at : (q : Pointer) → Homed m.frames h.made q → Levelled h.below q → live_pointer m.frames q ≡ told_pointer h (forget q)
  unfolding live_pointer told_pointer
  lists_at (constant k) home at_level = refl
  lists_at (local i f j o) home at_level = ap₂ (λ (b : Bool) (x : ℕ). listed b x j o)
      (bool_iff (stands m.frames i f && ltb j (length (frame_at m.frames i).allocations)) (among f h.standing)
      (λ a. subst T (stands-among s i f j home) (and_yes (stands m.frames i f) (ltb j (length (frame_at m.frames i).allocations)) a).0)
      (λ t. yes_and (stands m.frames i f) (ltb j (length (frame_at m.frames i).allocations)) (subst T (sym (stands-among s i f j home)) t)
      (lt→ltb j (length (frame_at m.frames i).allocations) (rw (allocations-at s i f j home t, length-map) home.made))))
      (sym at_level.1)

  pub list_agrees : live_list m ≡ told_list h
  unfolding live_list told_list
  list_agrees =
      map_each (live_pointer m.frames) (told_pointer h) forget (constant 0) m.pointers (λ p l. lists_at (pointer_at m p) (s.homes p l) (s.levels p l))
      ∙ ap (map (told_pointer h)) (sym s.pointers)

pub likened : Likened believed recalled Sim
likened = record {
  none_yet = fresh_agrees;
  given = λ s. sym (same_length s);
  allocate = allocates;
  address = addresses;
  offset = offsets;
  read = read_agrees;
  write = writes;
  push = pushes;
  pop = pops;
  listing = list_agrees;
}
