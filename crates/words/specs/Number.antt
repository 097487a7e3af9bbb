-- "Numbers are decimal digits, no sign, no leading zero, at most 2^64 - 1."
use Rattle.std.specs.Prelude.{ℕ, zero, suc, ◌+◌, ◌-◌, ◌*◌, ◌/◌, ◌%◌, ◌^◌, Bool, true, Option, Some, None, not, ◌&&◌, ◌||◌, List, [], ◌∷◌, ◌++◌, length, get_or, ltb, leb, eqb}
use Rattle.value.specs.Answer.{pick}

-- ---- reading

-- '0' to '9'
abbrev pub is_digit : ℕ → Bool
is_digit b = leb 48 b && leb b 57

unfoldable pub all_digits : List ℕ → Bool
all_digits [] = true
all_digits (b ∷ bs) = is_digit b && all_digits bs

-- what the digits say, after digits that say n
unfoldable pub value_after : ℕ → List ℕ → ℕ
value_after n [] = n
value_after n (b ∷ bs) = value_after (n * 10 + (b - 48)) bs

-- the number that digits say, after digits that say n; at most 2^64 - 1
unfoldable pub digits_say : ℕ → List ℕ → Option ℕ
digits_say n w = pick (all_digits w && ltb (value_after n w) (2 ^ 64)) (Some (value_after n w)) None

-- a first digit, which is '0' only where it is the last too
abbrev pub is_led : List ℕ → Bool
is_led w = ltb 0 (length w) && (eqb (length w) 1 || not (eqb (get_or w 0 0) 48))

-- the number that a word says
unfoldable pub number : List ℕ → Option ℕ
number w = pick (is_led w) (digits_say 0 w) None

-- the same, where it is at most `most`
abbrev pub bounded : ℕ → Option ℕ → Option ℕ
bounded most (Some n) = pick (leb n most) (Some n) None
bounded most None = None

abbrev pub up_to : ℕ → List ℕ → Option ℕ
up_to most w = bounded most (number w)

-- ---- writing

-- the last k digits of n, the first of them first
unfoldable pub digits : ℕ → ℕ → List ℕ
digits zero n = []
digits (suc k) n = digits k (n / 10) ++ ((48 + n % 10) ∷ [])

-- how many digits n takes, where it takes at most `spare` after the first
unfoldable pub places_within : (spare n : ℕ) → ℕ
places_within zero n = 1
places_within (suc spare) n =
    let more = places_within spare (n / 10) in
    pick (ltb n 10) 1 (suc more)

-- a number below 2^64 takes at most twenty
unfoldable pub places : ℕ → ℕ
places n = places_within 19 n

unfoldable pub decimal : ℕ → List ℕ
decimal n = digits (places n) n
