use Rattle.std.proofs.Common.{◌≡◌, ◌++◌, string_bytes, drop}
use Rattle.affc_cprint.specs.Seen.{seen}
use Rattle.affc_cprint.specs.Statements.{locals_added, with_locals}
use Rattle.affc_cprint.proofs.stmt.locals.Given as goal

-- what is left adds the rest
abbrev pub invariant-loop-one : goal.invariant-loop-one
invariant-loop-one l =
    (string_bytes l.out ++ locals_added l.prelude l.level (seen l.names) (drop l.one-index l.list) ≡ string_bytes l.initial.out ++ locals_added l.prelude l.level (seen l.initial.names) l.list)
    × (with_locals (seen l.names) (drop l.one-index l.list) ≡ with_locals (seen l.initial.names) l.list)
