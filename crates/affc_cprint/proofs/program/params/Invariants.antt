use Rattle.std.proofs.Common.{◌≡◌, ◌++◌, string_bytes, drop}
use Rattle.affc_grammar.specs.Printed.{no_names}
use Rattle.affc_cprint.specs.Seen.{seen}
use Rattle.affc_cprint.specs.Programs.{params_added, with_param_names}
use Rattle.affc_cprint.proofs.program.params.Given as goal

-- what is left adds the rest
abbrev pub invariant-loop-p : goal.invariant-loop-p
invariant-loop-p l =
    (string_bytes l.out ++ params_added l.prelude (seen l.names) (drop l.p-index l.rest) ≡ string_bytes l.initial.out ++ params_added l.prelude (seen l.initial.names) l.rest)
    × (with_param_names (seen l.names) (drop l.p-index l.rest) ≡ with_param_names no_names l.params)
