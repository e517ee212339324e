use Rattle.std.proofs.Common.{◌≡◌, ◌++◌, string_bytes, drop}
use Rattle.affc_cprint.specs.Seen.{seen}
use Rattle.affc_cprint.specs.Programs.{decls_added, with_array_names}
use Rattle.affc_cprint.proofs.program.decls.Given as goal

-- what is left adds the rest
abbrev pub invariant-loop-d : goal.invariant-loop-d
invariant-loop-d l =
    (string_bytes l.out ++ decls_added l.prelude (seen l.names) (drop l.d-index l.temps) ≡ string_bytes l.initial.out ++ decls_added l.prelude (seen l.initial.names) l.temps)
    × (with_array_names (seen l.names) (drop l.d-index l.temps) ≡ with_array_names (seen l.initial.names) l.temps)
