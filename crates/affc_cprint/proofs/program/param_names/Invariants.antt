use Rattle.std.proofs.Common.{◌≡◌, drop}
use Rattle.affc_grammar.specs.Printed.{no_names}
use Rattle.affc_cprint.specs.Seen.{seen}
use Rattle.affc_cprint.specs.Programs.{with_param_names}
use Rattle.affc_cprint.proofs.program.param_names.Given as goal

-- what is left adds the rest
abbrev pub invariant-loop-p : goal.invariant-loop-p
invariant-loop-p l = with_param_names (seen l.names) (drop l.p-index l.params) ≡ with_param_names no_names l.params
