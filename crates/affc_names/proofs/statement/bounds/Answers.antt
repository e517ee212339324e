use Rattle.std.proofs.lemmas.Result.{err_from_is_err_and}
use Rattle.affc_syntax.specs.draft.Drafts as seen
use Rattle.affc_names.specs.Stored as stored
use Rattle.affc_names.proofs.Statements.{tested_refused, high_refused, stepped_refused}
use Rattle.affc_names.proofs.statement.bounds.Goals as goal

pub returns-in_err-repeated-clause-tree : goal.returns-in_err-repeated-clause-tree
returns-in_err-repeated-clause-tree c =
    let p = err_from_is_err_and c.from_residual-in_err-repeated.result c.from_residual-in_err-repeated.ensures.1 in
    rw (p.1, p.2) (tested_refused c.args.scope.now (stored.head (seen.head c.args.head.now)) c.in_ok-low.low c.in_ok-declared.ensures.allows c.in_ok-low.ensures c.in_err-repeated.field-0.0 c.in_err-repeated.ensures)

pub returns-in_err-high-clause-tree : goal.returns-in_err-high-clause-tree
returns-in_err-high-clause-tree c =
    let p = err_from_is_err_and c.from_residual-in_err-high.result c.from_residual-in_err-high.ensures.1 in
    rw (p.1, p.2) (high_refused c.args.scope.now (stored.head (seen.head c.args.head.now)) c.in_ok-low.low c.in_ok-declared.ensures.allows c.in_ok-low.ensures c.in_ok-repeated.ensures c.in_err-high.field-0.0 c.in_err-high.ensures)

pub returns-in_err-repeated-2-clause-tree : goal.returns-in_err-repeated-2-clause-tree
returns-in_err-repeated-2-clause-tree c =
    let p = err_from_is_err_and c.from_residual-in_err-repeated-2.result c.from_residual-in_err-repeated-2.ensures.1 in
    rw (p.1, p.2) (stepped_refused c.args.scope.now (stored.head (seen.head c.args.head.now)) c.in_ok-low.low c.in_ok-declared.ensures.allows c.in_ok-low.ensures c.in_ok-repeated.ensures c.in_ok-high.high c.in_ok-high.ensures c.in_err-repeated-2.field-0.0 c.in_err-repeated-2.ensures)
