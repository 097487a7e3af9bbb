-- `write_image` meets its contract: by the loader's answer, the buffer's length, and the walk.
use Rattle.std.proofs.Common.{rules, refl, sym, ◌≡◌, Err}
use Rattle.image_writer.specs.declared.writer.WriteError.TheVariants.{NotLoaded}
use Rattle.image_writer.proofs.Rewrites.{image-refused, too_short, rewritten}
use Rattle.image_writer.proofs.writer.write_image.Goals as goal

pub returns-in_err-loaded : goal.returns-in_err-loaded
returns-in_err-loaded c =
    let is : c.from_residual.result ≡ Err (NotLoaded c.in_err-loaded.field-0.0) = search rules in
    rw is (image-refused c.args.image.now c.args.out.now (sym c.in_err-loaded.ensures))

pub returns-then-out-loaded : goal.returns-then-out-loaded
returns-then-out-loaded c =
    let a = c.args in
    too_short a.image.now a.out.now (λ k. (c.type_inv.image k).fits) (sym c.in_ok-loaded.ensures) c.if-out-loaded.true

pub returns : goal.returns
returns c =
    let a = c.args in
    rewritten a.image.now a.out.now (λ k. (c.type_inv.image k).fits) (sym c.in_ok-loaded.ensures) _ _ _ c.if-out-loaded.false refl refl c.pass_whole.ensures
