-- `hex::decode` meets its contract: the pairs that are left, stored after those that are, are all of them.
use Rattle.std.proofs.Common.{length-set, arith}
use Rattle.words.specs.Hex.{bytes_said}
use Rattle.words.proofs.Pieces.{sets-all}
use Rattle.words.proofs.HexDigits.{length-said, decode_more, decode_done}
use Rattle.words.proofs.hex.decode.Goals as goal

pub loop-i-init : goal.loop-i-init
loop-i-init c =
    let w = c.args.word.now in
    (sets-all c.args.out.now (bytes_said w) (omega (arith, length-said w)), c.requires)

pub loop-i-preserved : goal.loop-i-preserved
loop-i-preserved c =
    let l = c.loop-i in
    (decode_more c.args.word.now l.out l.i c.nibble.result c.nibble-in-loop-i.result (omega arith) c.nibble.ensures.value c.nibble-in-loop-i.ensures.value l.invariant.0, simp length-set l.invariant.1)

pub returns : goal.returns
returns c = decode_done c.args.word.now c.loop-i.out c.loop-i.i (omega arith) c.loop-i.invariant.0
