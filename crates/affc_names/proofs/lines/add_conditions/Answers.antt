use Rattle.std.proofs.Common.{List, subst, sym, ap, ◌∙◌}
use Rattle.std.proofs.lemmas.Result.{err_from_is_err_and}
use Rattle.affc_ast.specs.declared.tree.Compare.{Compare}
use Rattle.affc_grammar.specs.Names.{why_ranged, thing_of}
use Rattle.affc_syntax.specs.draft.Drafts as seen
use Rattle.affc_names.specs.Gives.{Fails}
use Rattle.affc_names.specs.Ranges.{texts, line_tree}
use Rattle.affc_names.specs.Stored as stored
use Rattle.affc_names.proofs.LineLaws.{range_fails, range_allowed, all_conditions}
use Rattle.affc_names.proofs.lines.add_conditions.Goals as goal

pub returns-in_err-note_range-in-Range-clause-conditions : goal.returns-in_err-note_range-in-Range-clause-conditions
returns-in_err-note_range-in-Range-clause-conditions c =
    let p = err_from_is_err_and c.from_residual.result c.from_residual.ensures.1 in
    let w = c.in-Range.word in
    let e = texts c.args.earlier.now.keys in
    rw (p.1, p.2) (subst (Fails {A = List Compare} c.in_err-note_range-in-Range.field-0.0) (sym (ap (λ l. line_tree c.args.scope.now (texts c.args.earlier.now.keys) (stored.pragma (seen.pragma l))) c.in-Range.is))
    (range_fails c.in_err-note_range-in-Range.field-0.0 (why_ranged c.args.scope.now e w.name (thing_of c.args.scope.now w.name)) w.at c.in_err-note_range-in-Range.ensures.allowed))

pub returns-in_ok-note_range-in-Range-clause-conditions : goal.returns-in_ok-note_range-in-Range-clause-conditions
returns-in_ok-note_range-in-Range-clause-conditions c =
    let w = c.in-Range.word in
    let e = texts c.args.earlier.now.keys in
    ap (λ l. line_tree c.args.scope.now (texts c.args.earlier.now.keys) (stored.pragma (seen.pragma l))) c.in-Range.is
    ∙ range_allowed (why_ranged c.args.scope.now e w.name (thing_of c.args.scope.now w.name)) w.at c.in_ok-note_range-in-Range.ensures.allowed
    ∙ ap all_conditions (sym c.new.ensures)
