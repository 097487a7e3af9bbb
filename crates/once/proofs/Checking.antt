-- The line of `lir check` from loading's answer, and from the header's refusal, which is loading's.
use Rattle.std.specs.Prelude.{Result, Ok, Err}
use Rattle.std.proofs.Common.{◌≡◌, ℕ, List, sym, ap, ◌∙◌, arith}
use Rattle.words.specs.Text.{Text}
use Rattle.answers.specs.Lines.{taken_line}
use Rattle.image.specs.Parse.{Got, took, refused}
use Rattle.image.specs.Image.{Image, image}
use Rattle.image.specs.Answer.{stop}
use Rattle.image.specs.declared.number.Stop.{Stop}
use Rattle.loader.specs.Tables.{tables_of, loaded_of, loaded_from}
use Rattle.loader.specs.declared.load.Loaded.{Loaded}
use Rattle.reader.specs.Header.{headed, answered}
use Rattle.reader.specs.declared.Headed.{Headed}
use Rattle.reader.proofs.Loaded.{load_refuses_alike}
use Rattle.telling.specs.Told.{line, stop_line}
use Rattle.once.specs.Checked.{checked_line}

-- the line of an image that was taken
abbrev pub taken : List ℕ → Loaded → Text
taken out l = line (taken_line l.counts.variables l.counts.constants l.counts.functions l.counts.blocks l.instructions) out

module _ (out : List ℕ) {t : Text} where
  -- an image that loading refuses
  stop_told : (g : Got Image) (e : Stop) → loaded_of g ≡ Err e → t ≡ line (stop_line e) out → t ≡ line (checked_line g) out
  stop_told (took i end) e q h = let z : ◌≡◌ {A = ℕ} 0 1 = cc in absurd (omega arith)
  stop_told (refused why place) e q h =
      let a : e ≡ stop why place = cc in
      h ∙ ap (λ (x : Stop). line (stop_line x) out) a

  -- and one that it takes
  taken_told : (g : Got Image) (l : Loaded) → loaded_of g ≡ Ok l → t ≡ taken out l → t ≡ line (checked_line g) out
  unfolding tables_of
  taken_told (took i end) l q h =
      let a : l ≡ tables_of (took i end) = cc in
      h ∙ ap (taken out) a
  taken_told (refused why place) l q h = let z : ◌≡◌ {A = ℕ} 0 1 = cc in absurd (omega arith)

  module _ (s : List ℕ) where
    pub loaded_refused : {r : Result Loaded Stop} (e : Stop) → r ≡ loaded_from s → r ≡ Err e → t ≡ line (stop_line e) out → t ≡ line (checked_line (image s)) out
    loaded_refused e is q = stop_told (image s) e (sym is ∙ q)

    pub loaded_taken : {r : Result Loaded Stop} (l : Loaded) → r ≡ loaded_from s → r ≡ Ok l → t ≡ taken out l → t ≡ line (checked_line (image s)) out
    loaded_taken l is q = taken_told (image s) l (sym is ∙ q)

    pub header_refused : {r : Result Headed Stop} (e : Stop) → r ≡ answered (headed s) → r ≡ Err e → t ≡ line (stop_line e) out → t ≡ line (checked_line (image s)) out
    header_refused e is q = stop_told (image s) e (load_refuses_alike s e (sym is ∙ q))
