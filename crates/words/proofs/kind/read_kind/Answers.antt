-- `kind::read_kind` meets its contract: the names that are left answer for all.
use Rattle.std.proofs.Common.{refl, sym, ap, ◌∙◌, arith}
use Rattle.value.specs.Bytes.{same_bytes}
use Rattle.words.specs.Kinds.{kind_read}
use Rattle.words.proofs.Names.{named, not_named, none_named}
use Rattle.words.proofs.kind.read_kind.Goals as goal

pub loop-tag-init : goal.loop-tag-init
unfolding kind_read
loop-tag-init c = refl

pub returns-then-same : goal.returns-then-same
returns-then-same c =
    let w = c.args.word.now in
    named w c.loop-tag.tag (omega arith) (ap (same_bytes w) (sym c.name.ensures) ∙ sym c.same.ensures ∙ c.if-same.true) c.loop-tag.invariant

pub loop-tag-preserved : goal.loop-tag-preserved
loop-tag-preserved c =
    let w = c.args.word.now in
    not_named w c.loop-tag.tag (omega arith) (ap (same_bytes w) (sym c.name.ensures) ∙ sym c.same.ensures ∙ c.if-same.false) c.loop-tag.invariant

pub returns : goal.returns
returns c = none_named c.args.word.now c.loop-tag.tag (omega arith) c.loop-tag.invariant
