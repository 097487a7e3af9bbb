-- What the accepted events tell, with no id and no store. Nothing is ever dropped: a frame's name is its ordinal (the root is 0), and an
-- allocation's is its frame's name and its ordinal in that frame.
use Rattle.std.specs.Prelude.{ℕ, zero, suc, ◌+◌, ◌-◌, ◌^◌, ◌<◌, Bool, false, ◌&&◌, ◌||◌, ◌≡◌, List, [], ◌∷◌, ◌++◌, map, length, get_or, take, set, T, ltb, leb, eqb}
use Rattle.std.proofs.Math.Option.{Option, none, some}
use Rattle.value.specs.Refusal.{allocations_full, beyond_length, bytes_full, frame_gone, frames_full, ids_spent, misaligned, not_given_out, offset_too_large, pointers_full, through_constant}
use Rattle.value.specs.Answer.{Answer, ok, refused, need, pick}
use Rattle.memory.specs.Memory.{Back, top, sum, divides, read_constant, no_back}
use Rattle.memory.specs.Live.{Live, listed}

pub data Event : Type 0 where
  allocation : (size : ℕ) → Event
  store : (pointer : ℕ) → List ℕ → Event
  offset : (pointer by : ℕ) → Event
  address : (constant : ℕ) → Event
  call : Back → Event
  return : Event

-- an allocation: its size, and the byte last stored at each place, or zero
pub record Made : Type 0 where
  pub size : ℕ
  pub byte : ℕ → ℕ

-- one in which nothing was stored
abbrev pub zeros : (size : ℕ) → Made
zeros n = record { size = n; byte = λ i. 0 }

-- what a pointer was given out for
pub data Target : Type 0 where
  of_constant : ℕ → Target
  of_place : (frame allocation offset : ℕ) → Target

pub record History : Type 0 where
  pub made : List (List Made)  -- for each frame ever begun, the allocations made in it
  pub below : List ℕ  -- for each frame ever begun, how many stood when it began
  pub backs : List Back  -- for each frame ever begun, where its Return goes on, and the variable that takes its value
  pub standing : List ℕ  -- the frames that have not ended, the root first
  pub given : List Target  -- for each pointer number ever given, what it stands for

unfoldable pub beginning : History
beginning = record { made = [] ∷ []; below = 0 ∷ []; backs = no_back ∷ []; standing = 0 ∷ []; given = [] }

abbrev pub made_in : List (List Made) → ℕ → List Made
made_in ms f = get_or ms f []

abbrev pub nothing : Made
nothing = zeros 0

abbrev pub made_at : List (List Made) → (frame allocation : ℕ) → Made
made_at ms f j = get_or (made_in ms f) j nothing

abbrev pub target_of : History → ℕ → Target
target_of h p = get_or h.given p (of_constant 0)

-- the byte at a place after `bs` were stored from `o` on
unfoldable pub last_stored : (ℕ → ℕ) → ℕ → List ℕ → ℕ → ℕ
last_stored byte o bs i = pick (leb o i && ltb i (o + length bs)) (get_or bs (i - o) 0) (byte i)

abbrev pub stored_in : Made → ℕ → List ℕ → Made
stored_in a o bs = record { size = a.size; byte = last_stored a.byte o bs }

unfoldable pub stored_at : List (List Made) → Target → List ℕ → List (List Made)
stored_at ms (of_constant k) bs = ms
stored_at ms (of_place f j o) bs = set ms f (set (made_in ms f) j (stored_in (made_at ms f j) o bs))

unfoldable pub moved : Target → ℕ → Target
moved (of_constant k) d = of_constant k
moved (of_place f j o) d = of_place f j (o + d)

-- the starts of so many allocations of a frame, the first of them the j-th
unfoldable pub starts : (frame j count : ℕ) → List Target
starts f j zero = []
starts f j (suc n) = of_place f j 0 ∷ starts f (suc j) n

-- f is one of these
unfoldable pub among : ℕ → List ℕ → Bool
among f [] = false
among f (x ∷ xs) = eqb f x || among f xs

-- the first n values of a function
unfoldable pub first : ℕ → (ℕ → ℕ) → List ℕ
first zero f = []
first (suc n) f = f 0 ∷ first n (λ i. f (suc i))

unfoldable pub bytes_from : Made → ℕ → ℕ → List ℕ
bytes_from a o n = first n (λ i. a.byte (o + i))

-- What a read answers, by the history: 27 where the frame has ended, and never 28.
unfoldable pub told_at : List (List ℕ) → History → Target → ℕ → Answer (List ℕ)
told_at constants h (of_constant k) n = read_constant constants k n
told_at constants h (of_place f j o) n =
    need (among f h.standing) frame_gone
    (need (leb (o + n) (made_at h.made f j).size) beyond_length
    (need (divides n o) misaligned
    (ok (bytes_from (made_at h.made f j) o n))))

unfoldable pub told : List (List ℕ) → History → ℕ → ℕ → Answer (List ℕ)
told constants h p n = need (ltb p (length h.given)) not_given_out (told_at constants h (target_of h p) n)

abbrev pub with_made : History → List (List Made) → History
with_made h ms = record { made = ms; below = h.below; backs = h.backs; standing = h.standing; given = h.given }

abbrev pub with_given : History → Target → History
with_given h t = record { made = h.made; below = h.below; backs = h.backs; standing = h.standing; given = h.given ++ (t ∷ []) }

-- of the frames that stand, the one that began last
abbrev pub top_frame : History → ℕ
top_frame h = get_or h.standing (top h.standing) 0

-- that frame ends
abbrev pub less_top : History → History
less_top h = record { made = h.made; below = h.below; backs = h.backs; standing = take (top h.standing) h.standing; given = h.given }

-- the history after one more event, which was accepted
unfoldable pub next : Event → History → History
next (allocation n) h =
    let f = top_frame h in
    with_given (with_made h (set h.made f (made_in h.made f ++ (zeros n ∷ []))))
    (of_place f (length (made_in h.made f)) 0)
next (store p bs) h = with_made h (stored_at h.made (target_of h p) bs)
next (offset p d) h = with_given h (moved (target_of h p) d)
next (address k) h = with_given h (of_constant k)
next (call back) h = record {
  made = h.made ++ ([] ∷ []);
  below = h.below ++ (length h.standing ∷ []);
  backs = h.backs ++ (back ∷ []);
  standing = h.standing ++ (length h.made ∷ []);
  given = h.given;
}
next return h = less_top h

-- ---- what is refused, by the history

-- how many allocations, and how many bytes, the frames have that have not ended
unfoldable pub told_count : History → ℕ
told_count h = sum (map (λ (f : ℕ). length (made_in h.made f)) h.standing)

unfoldable pub told_bytes : History → ℕ
told_bytes h = sum (map (λ (f : ℕ). sum (map (λ (a : Made). a.size) (made_in h.made f))) h.standing)

unfoldable pub tell_allocation : History → ℕ → Answer History
tell_allocation h n =
    need (ltb (told_count h) 512) allocations_full
    (need (leb (told_bytes h + n) 32768) bytes_full
    (need (ltb (length h.given) 4096) pointers_full
    (ok (next (allocation n) h))))

unfoldable pub tell_address : History → ℕ → Answer History
tell_address h k = need (ltb (length h.given) 4096) pointers_full (ok (next (address k) h))

unfoldable pub tell_store_at : History → Target → ℕ → List ℕ → Answer History
tell_store_at h (of_constant k) p bs = refused through_constant
tell_store_at h (of_place f j o) p bs =
    need (among f h.standing) frame_gone
    (need (leb (o + length bs) (made_at h.made f j).size) beyond_length
    (need (divides (length bs) o) misaligned
    (ok (next (store p bs) h))))

unfoldable pub tell_store : History → ℕ → List ℕ → Answer History
tell_store h p bs = need (ltb p (length h.given)) not_given_out (tell_store_at h (target_of h p) p bs)

unfoldable pub tell_offset_at : History → Target → (pointer by : ℕ) → Answer History
tell_offset_at h (of_constant k) p d = refused through_constant
tell_offset_at h (of_place f j o) p d =
    need (ltb (o + d) (2 ^ 64)) offset_too_large
    (need (ltb (length h.given) 4096) pointers_full
    (ok (next (offset p d) h)))

unfoldable pub tell_offset : History → (pointer by : ℕ) → Answer History
tell_offset h p d = need (ltb p (length h.given)) not_given_out (tell_offset_at h (target_of h p) p d)

-- 64 frames stand; 4,294,967,295 were ever begun
unfoldable pub tell_call : History → Back → Answer History
tell_call h back =
    need (ltb (length h.standing) 64) frames_full
    (need (ltb (length h.made) 4294967295) ids_spent
    (ok (next (call back) h)))

-- the root never ends
unfoldable pub tell_return : History → Option (Back × History)
tell_return h = pick (ltb 1 (length h.standing)) (some (get_or h.backs (top_frame h) no_back, next return h)) none

-- ---- the live list

-- live is a pointer into a frame that has not ended; its frame's index is how many stood when the frame began
unfoldable pub told_pointer : History → Target → Live
told_pointer h (of_constant k) = listed false 0 0 0
told_pointer h (of_place f j o) = listed (among f h.standing) (get_or h.below f 0) j o

unfoldable pub told_list : History → List Live
told_list h = map (told_pointer h) h.given

-- ---- words for what is claimed

-- the pointer number was given out for this
abbrev pub StandsFor : History → (pointer : ℕ) → Target → Type 0
StandsFor h p t = (p < length h.given) × (target_of h p ≡ t)

-- the frame has not ended
abbrev pub Open : History → (frame : ℕ) → Type 0
Open h f = T (among f h.standing)

abbrev pub Ended : History → (frame : ℕ) → Type 0
Ended h f = Open h f → ⊥
