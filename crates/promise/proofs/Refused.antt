-- An image that is refused is answered before all else, and then a state that is not sound: both leave every table as it stood.
use Rattle.std.specs.Prelude.{Err}
use Prim.Native.Nat.{ℕ}
use mathlib.Core.Path.{◌≡◌, refl, ap₂}
use mathlib.Core.List.{List}
use Rattle.std.proofs.lemmas.Bool.{false≢true}
use Rattle.value.specs.declared.refusal.Refusal.{Refusal}
use Rattle.image.specs.Parse.{Got, took, refused, and_then}
use Rattle.image.specs.Image.{Image, image, program_of, loaded}
use Rattle.image.specs.Answer.{stop}
use Rattle.loader.specs.Tables.{loaded_of, loaded_from}
use Rattle.eval.specs.Host.{host_allocated, host_written, host_listed}
use Rattle.eval.specs.Entry.{read_loaded, read_entered, step_loaded, step_entered, run_loaded, run_entered}
use Rattle.eval.specs.Start.{start_loaded, start_entered}
use Rattle.decode.proofs.Items.{tables-given}
use Rattle.promise.specs.Calls.{allocating, writing, reading, starting, misgiven, stepping, running, listing, refuses-read, refuses-start, refuses-step, refuses-run}
use Rattle.promise.specs.Promised.{ImagesRefused, UnsoundRefused}

-- the loader answers that an image is refused
pub refused_end : (s : List ℕ) (n : Refusal) (q : ℕ) → loaded s ≡ refused n q → loaded_from s ≡ Err (stop n q)
unfolding loaded and_then
refused_end s n q h = go (image s) h
  where
    go : (g : Got Image) → and_then g (λ i end. took (program_of i) end) ≡ refused n q → loaded_of g ≡ Err (stop n q)
    go (took i end) d = absurd (false≢true cc)
    go (refused k p) d = let a : k ≡ n = cc in let b : p ≡ q = cc in ap₂ (λ (why : Refusal) (place : ℕ). Err (stop why place)) a b

pub images_refused : ImagesRefused
unfolding read_entered start_entered step_entered run_entered
images_refused c n (refuses-read {s} {q} h) t = rw (refused_end s n q h) refl
images_refused c n (refuses-start {s} {q} h) t = rw (refused_end s n q h) refl
images_refused c n (refuses-step {s} {q} h) t = rw (refused_end s n q h) refl
images_refused c n (refuses-run {s} {q} h) t = rw (refused_end s n q h) refl

pub unsound_refused : UnsoundRefused
unfolding host_allocated host_written host_listed read_loaded read_entered step_loaded step_entered run_loaded run_entered start_loaded start_entered
unsound_refused c a allocating t so = rw so refl
unsound_refused c a (writing b) t so = rw so refl
unsound_refused c a (reading {s} {P} {e} b h) t so = rw (tables-given s P e h, so) refl
unsound_refused c a (starting {s} {P} {e} spare b h v) t so = rw (tables-given s P e h, so) refl
unsound_refused c a (misgiven {s} {P} {e} b h v) t so = rw (tables-given s P e h, so) refl
unsound_refused c a (stepping {s} {P} {e} b h) t so = rw (tables-given s P e h, so) refl
unsound_refused c a (running {s} {P} {e} b h) t so = rw (tables-given s P e h, so) refl
unsound_refused c a listing t so = rw so refl
