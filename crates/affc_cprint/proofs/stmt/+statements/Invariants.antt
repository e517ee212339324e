use Rattle.std.proofs.Common.{◌≡◌, string_bytes, take}
use Rattle.std.specs.List.{flat_map}
use Rattle.affc_cprint.specs.Adds.{Adds}
use Rattle.affc_cprint.specs.Seen.{seen}
use Rattle.affc_cprint.specs.Statements.{line_added}
use Rattle.affc_cprint.proofs.stmt.+statements.Given as goal

abbrev pub invariant-stmts-loop-line : goal.invariant-stmts-loop-line
invariant-stmts-loop-line l = Adds (string_bytes l.initial.out) (string_bytes l.out) (flat_map (line_added l.prelude l.level (seen l.initial.names)) (take l.line-index l.body)) × (seen l.names ≡ seen l.initial.names)
