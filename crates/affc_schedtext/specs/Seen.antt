-- What the definitions see of the code's types.
use Rattle.std.specs.Prelude.{map}
use Rattle.affc_syntax.specs.draft.Drafts.{word}
use Rattle.affc_grammar.specs.Reader.{Turn, going, done}
use Rattle.affc_schedtext.specs.Outline.{Scope, any_scope, names_scope, components_scope, row_scope, back_scope, Words, these, any, Lists}
use Rattle.affc_schedtext.specs.Draft.{LineDraft, OrderDraft, source, time, Draft}
use Rattle.affc_schedtext.specs.Terms.{term}
use Rattle.affc_schedtext.specs.Drafting.{Stage, folds, stmts, stmt_forms, fold_forms}
use Rattle.affc_schedtext.specs.declared.scope.Scope as code
use Rattle.affc_schedtext.specs.declared.scope.Scope.TheVariants as s
use Rattle.affc_schedtext.specs.declared.scope.Words as code_words
use Rattle.affc_schedtext.specs.declared.scope.Words.TheVariants as w
use Rattle.affc_schedtext.specs.declared.scope.Lists as code_lists
use Rattle.affc_schedtext.specs.declared.draft.LineDraft as code_line
use Rattle.affc_schedtext.specs.declared.draft.OrderDraft as code_order
use Rattle.affc_schedtext.specs.declared.draft.OrderDraft.TheVariants as o
use Rattle.affc_schedtext.specs.declared.draft.Draft as code_draft
use Rattle.affc_schedtext.specs.declared.lines.Stage as code_stage
use Rattle.affc_schedtext.specs.declared.lines.Stage.TheVariants as st
use Rattle.affc_schedtext.specs.declared.lines.Turn as code_turn
use Rattle.affc_schedtext.specs.declared.lines.Turn.TheVariants as t

abbrev pub scope_seen : code.Scope → Scope
scope_seen s.Any = any_scope
scope_seen (s.Time ps is) = names_scope ps.now is.now
scope_seen (s.Inverse ps n) = components_scope ps.now n
scope_seen (s.Row n) = row_scope n
scope_seen (s.Back n) = back_scope n

abbrev pub words_seen : code_words.Words → Words
words_seen (w.These i is) = these i.now is.now
words_seen w.Any = any

abbrev pub lists_seen : code_lists.Lists → Lists
lists_seen l = record { there = scope_seen l.there; back = scope_seen l.back; words = words_seen l.words }

-- ---- Drafts

abbrev pub line_seen : code_line.LineDraft → LineDraft
line_seen l = record { at = l.word.at; name = l.word.name; forms = map term l.forms; inverse = map term l.inverse }

abbrev pub order_seen : code_order.OrderDraft → OrderDraft
order_seen o.Source = source
order_seen (o.Time at n lines) = time at n (map line_seen lines)

abbrev pub draft_seen : code_draft.Draft → Draft
draft_seen d = record { order = order_seen d.order; folds = map line_seen d.folds }

abbrev pub stage_seen : code_stage.Stage → Stage
stage_seen (st.Folds d) = folds (draft_seen d)
stage_seen (st.Stmts l) = stmts l.components (map line_seen l.lines)
stage_seen (st.StmtForms l w es) = stmt_forms l.components (map line_seen l.lines) (word w) (map term es)
stage_seen (st.FoldForms d w es) = fold_forms (draft_seen d) (word w) (map term es)

abbrev pub turn_seen : code_turn.Turn → Turn Stage Draft
turn_seen (t.Going s) = going (stage_seen s)
turn_seen (t.Done d) = done (draft_seen d)
