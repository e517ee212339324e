use Rattle.std.proofs.Common.{◌≡◌, drop}
use Rattle.affc_grammar.specs.Names.{params_tree, with_params}
use Rattle.affc_names.specs.Ranges.{lines_of}
use Rattle.affc_names.proofs.Params.{behind, seen_params}
use Rattle.affc_names.proofs.program.add_params.Given as goal

abbrev pub invariant-loop-draft : goal.invariant-loop-draft
invariant-loop-draft l = record {
  tree : params_tree l.fn.scope (lines_of l.ranges.entries) (seen_params l.drafts) ≡ behind l.params (params_tree l.scope (lines_of l.ranges.entries) (seen_params (drop l.draft-index l.drafts)));
  visible : with_params l.fn.scope (seen_params l.drafts) ≡ with_params l.scope (seen_params (drop l.draft-index l.drafts));
}
