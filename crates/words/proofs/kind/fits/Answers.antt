-- `kind::fits` meets its contract: the largest bits of each kind are one below its limit.
use Rattle.words.proofs.Names.{most, bits_fit}
use Rattle.words.proofs.kind.fits.Goals as goal

pub returns : goal.returns
unfolding most
returns c = bits_fit c.args.tag c.args.bits c.if-tag-eq0.false c.if-tag-gt-POINTER_TAG.false
