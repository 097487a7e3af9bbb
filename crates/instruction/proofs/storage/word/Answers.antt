-- `storage::word` meets its contract: at each tag the law of its kind, and of another tag nothing is said.
use native.Mathlib.Omega.{arith}
use Rattle.value.specs.Value.{tag}
use Rattle.instruction.proofs.Through.{unsigned-word, signed_word, float_word, pointer_word}
use Rattle.instruction.proofs.storage.word.Goals as goal

pub returns-in-5 : goal.returns-in-5
unfolding tag
returns-in-5 c = unsigned-word _ c.args.bits (omega arith) c.in-5.is

pub returns-in-9 : goal.returns-in-9
unfolding tag
returns-in-9 c = signed_word _ c.args.bits (omega arith) c.in-9.is _ c.from_bits.ensures

pub returns-in-11 : goal.returns-in-11
unfolding tag
returns-in-11 c = float_word _ c.args.bits (omega arith) c.in-11.is _ c.from_bits-in-11.ensures

pub returns-in-14 : goal.returns-in-14
unfolding tag
returns-in-14 c = pointer_word _ c.args.bits (omega arith) c.in-14.is
