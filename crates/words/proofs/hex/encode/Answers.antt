-- `hex::encode` meets its contract: the digits of the bytes that are left, stored after those that are, are all of them.
use Rattle.std.proofs.Common.{length-set, arith}
use Rattle.words.specs.Hex.{pairs_of}
use Rattle.words.proofs.Pieces.{sets-all}
use Rattle.words.proofs.HexDigits.{length_pairs, encode_more, encode_done}
use Rattle.words.proofs.hex.encode.Goals as goal

pub loop-i-init : goal.loop-i-init
loop-i-init c =
    let bs = c.args.bytes.now in
    (sets-all c.args.out.now (pairs_of bs) (omega (arith, length_pairs bs)), c.requires)

pub loop-i-preserved : goal.loop-i-preserved
loop-i-preserved c =
    let l = c.loop-i in
    (encode_more c.args.bytes.now l.out l.i c.glyph.result c.glyph-in-loop-i.result c.loop-i-test.true c.glyph.ensures c.glyph-in-loop-i.ensures l.invariant.0, simp length-set l.invariant.1)

pub returns : goal.returns
returns c = encode_done c.args.bytes.now c.loop-i.out c.loop-i.i c.loop-i-test.false c.loop-i.invariant.0
