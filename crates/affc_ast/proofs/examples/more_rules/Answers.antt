use Rattle.affc_ast.proofs.RuleProofs as x
use Rattle.affc_ast.proofs.examples.more_rules.Goals as goal

pub returns : goal.returns
returns c = record { nodes_are_counted = x.nodes_are_counted; locals_are_no_iterators = x.locals_are_no_iterators; conditions_are_looked_into = x.conditions_are_looked_into; false_contexts_are_unmet = x.false_contexts_are_unmet; keywords_are_reserved = x.keywords_are_reserved; assignments_are_to_arrays = x.assignments_are_to_arrays; subscripts_are_as_dimensions = x.subscripts_are_as_dimensions }
