-- The measure of `set_arguments` is how many arguments are left.
use Rattle.calls.proofs.variables.+set_arguments.Given as goal

abbrev pub decreases-set_arguments : goal.decreases-set_arguments
decreases-set_arguments l = l.wanted
