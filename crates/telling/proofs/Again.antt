-- The live list is read again: its words are `live`, the count and four numbers a pointer, by the law of answer lines over the shape of its records.
use Rattle.std.proofs.Common.{◌≡◌, ℕ, zero, suc, ◌+◌, ◌^◌, ◌<◌, List, [], ◌∷◌, ◌++◌, get_or, sym, refl, ap, subst}
use Rattle.words.specs.Ascii.{ascii}
use Rattle.words.specs.Number.{decimal}
use Rattle.words.specs.Words.{until}
use Rattle.words.proofs.Whole.{joined}
use Rattle.answers.specs.Lines.{ending}
use Rattle.answers.proofs.Again.{Item, fixed, num, shown, Held, All, ended, Again, again}
use Rattle.by_hand.specs.State.{each}
use Rattle.memory.specs.Tables.{Columns}
use Rattle.telling.specs.Listed.{record_at, columns_line}

-- a column of what a program can hold
abbrev pub Words : List ℕ → Type 0
Words l = (k : ℕ) → get_or l k 0 < 2 ^ 64

module _ (l f a o : List ℕ) where
  -- L FRAME ALLOCATION OFFSET, of so many pointers from one on
  abbrev pub records : (count from : ℕ) → List Item
  records zero p = []
  records (suc n) p = num (get_or l p 0) ∷ num (get_or f p 0) ∷ num (get_or a p 0) ∷ num (get_or o p 0) ∷ records n (p + 1)

  follow : (i : Item) (n p : ℕ) → shown i ++ joined (each n p (record_at l f a o) ++ ending) ≡ ended i (records n p)
  unfolding each record_at
  follow i zero p = refl
  follow i (suc n) p =
      ap (λ (x : List ℕ). shown i ++ (32 ∷ (decimal (get_or l p 0) ++ (32 ∷ (decimal (get_or f p 0) ++ (32 ∷ (decimal (get_or a p 0) ++ (32 ∷ x)))))))) (follow (num (get_or o p 0)) n (p + 1))

  module _ (hl : Words l) (hf : Words f) (ha : Words a) (ho : Words o) where
    held : (i : Item) (n p : ℕ) → Held i → All Held i (records n p)
    held i zero p h = h
    held i (suc n) p h = (h, (hl p, (hf p, (ha p, held (num (get_or o p 0)) n (p + 1) (ho p)))))

module _ (n : ℕ) (c : Columns) (count : n < 2 ^ 64) (hl : Words c.live) (hf : Words c.frame) (ha : Words c.allocation) (ho : Words c.offset) where
  abbrev pub items : List Item
  items = records c.live c.frame c.allocation c.offset n 0

  live-shape : joined (columns_line n c) ≡ ended (fixed (ascii "live")) (num n ∷ items)
  live-shape = ap (λ (x : List ℕ). ascii "live " ++ x) (follow c.live c.frame c.allocation c.offset (num n) n 0)

  pub live_again : Again (joined (columns_line n c)) (fixed (ascii "live")) (num n ∷ items)
  unfolding until
  live_again =
      subst (λ (t : List ℕ). Again t (fixed (ascii "live")) (num n ∷ items)) (sym live-shape)
      (again (fixed (ascii "live")) (num n ∷ items) ((refl, refl), held c.live c.frame c.allocation c.offset hl hf ha ho (num n) n 0 count))
