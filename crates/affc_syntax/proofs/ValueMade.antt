-- What the grammar sees of a value as code makes it.
use Rattle.std.proofs.Common.{◌≡◌, ℕ, Bool, ap, ◌∙◌}
use Rattle.affc_ast.specs.declared.tree.Op.{Op}
use Rattle.affc_grammar.specs.Draft as d
use Rattle.affc_syntax.specs.declared.draft.draft.ValueDraft.{ValueDraft, map-ValueDraft}
use Rattle.affc_syntax.specs.declared.draft.draft.ValueDraft.TheVariants as v
use Rattle.affc_syntax.specs.declared.draft.draft.ValueDraft.TheOpen.{ValueDraft-F}
use Rattle.affc_syntax.specs.draft.Drafts.{value, value_node}
use Rattle.affc_syntax.proofs.draft.Outs.{value_out}

abbrev node_of : ValueDraft-F ValueDraft → d.ValueDraft
node_of l = value_node (map-ValueDraft ValueDraft d.ValueDraft value l)

pub value-Complement : (a : ValueDraft) → value (v.Complement a) ≡ d.complement (value a)
value-Complement a = value_out (v.Complement a) ∙ ap node_of (v.outs-Complement a)

pub value-Binary : (op : Op) (a b : ValueDraft) → value (v.Binary op a b) ≡ d.binary op (value a) (value b)
value-Binary op a b = value_out (v.Binary op a b) ∙ ap node_of (v.outs-Binary op a b)

pub value-Shift : (left : Bool) (a : ValueDraft) (by : ℕ) → value (v.Shift left a by) ≡ d.shift left (value a) by
value-Shift left a by = value_out (v.Shift left a by) ∙ ap node_of (v.outs-Shift left a by)

pub ruleset value_made = (value-Complement, value-Binary, value-Shift)
