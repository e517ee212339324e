use Rattle.std.proofs.Common.{◌≡◌, map, drop}
use Rattle.affc_ast.specs.Fits.{all_true}
use Rattle.affc_ast.specs.Joined.{is_joined}
use Rattle.affc_plain.proofs.joined.+conditions.Given as goal

abbrev pub invariant-are_joined-loop-entry : goal.invariant-are_joined-loop-entry
invariant-are_joined-loop-entry l = all_true (map is_joined (drop l.entry-index l.entries)) ≡ all_true (map is_joined l.entries)
