use Rattle.std.proofs.Common.{◌+◌, ◌*◌}
use Rattle.affc_ast.specs.Values.{value_of}
use Rattle.affc_cprint.proofs.value.+value.Given as goal

abbrev pub decreases-value : goal.decreases-value
decreases-value l = 2 * (value_of l.v.now).nodes

abbrev pub decreases-complement : goal.decreases-complement
decreases-complement l = 2 * (value_of l.a.now).nodes + 1

abbrev pub decreases-binary : goal.decreases-binary
decreases-binary l = 2 * ((value_of l.left.now).nodes + (value_of l.right.now).nodes) + 1

abbrev pub decreases-shifted : goal.decreases-shifted
decreases-shifted l = 2 * (value_of l.a.now).nodes + 1
