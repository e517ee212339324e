use Rattle.std.proofs.Common.{◌≡◌, drop}
use Rattle.affc_grammar.specs.Names as names
use Rattle.affc_names.proofs.Statements.{behind, seen_locals}
use Rattle.affc_names.proofs.statement.add_locals.Given as goal

abbrev pub invariant-loop-draft : goal.invariant-loop-draft
invariant-loop-draft l = names.locals_tree l.fn.scope (seen_locals l.drafts) ≡ behind l.locals (names.locals_tree l.scope (seen_locals (drop l.draft-index l.drafts)))
