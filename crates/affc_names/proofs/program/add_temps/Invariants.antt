use Rattle.std.proofs.Common.{◌≡◌, drop}
use Rattle.affc_grammar.specs.Names.{temps_tree}
use Rattle.affc_names.proofs.Params.{behind_temps, seen_decls}
use Rattle.affc_names.proofs.program.add_temps.Given as goal

abbrev pub invariant-loop-draft : goal.invariant-loop-draft
invariant-loop-draft l = temps_tree l.fn.scope (seen_decls l.drafts) ≡ behind_temps l.temps (temps_tree l.scope (seen_decls (drop l.draft-index l.drafts)))
