-- `function` meets its contract: its fields one after another, by the kind that was read.
use Rattle.std.proofs.Common.{arith, sym}
use Rattle.loader.specs.Counts.{counts_of}
use Rattle.loader.proofs.Functions.{function_walk}
use Rattle.loader.proofs.fields.Fields.function.Goals as goal

pub returns-in_err-returned : goal.returns-in_err-returned
returns-in_err-returned c = grind (arith, function_walk c.args.self.image.now (counts_of c.args.self.counts) c.args.at (sym c.in_ok-kind.ensures))

pub returns-in_err-context : goal.returns-in_err-context
returns-in_err-context c = grind (arith, function_walk c.args.self.image.now (counts_of c.args.self.counts) c.args.at (sym c.in_ok-kind.ensures))

pub returns-in_err-flag : goal.returns-in_err-flag
returns-in_err-flag c = grind (arith, function_walk c.args.self.image.now (counts_of c.args.self.counts) c.args.at (sym c.in_ok-kind.ensures))

pub returns-in_err-parameters : goal.returns-in_err-parameters
returns-in_err-parameters c = grind (arith, function_walk c.args.self.image.now (counts_of c.args.self.counts) c.args.at (sym c.in_ok-kind.ensures))

pub returns-in_err-slots : goal.returns-in_err-slots
returns-in_err-slots c = grind (arith, function_walk c.args.self.image.now (counts_of c.args.self.counts) c.args.at (sym c.in_ok-kind.ensures))

pub returns : goal.returns
returns c = grind (arith, function_walk c.args.self.image.now (counts_of c.args.self.counts) c.args.at (sym c.in_ok-kind.ensures))
