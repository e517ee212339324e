use Rattle.std.proofs.lemmas.Result.{err_from_is_err_and}
use Rattle.affc_names.proofs.Programs.{first_line, first_function, first_param}
use Rattle.affc_names.proofs.program.first_refused.Goals as goal

pub returns-in_err-conditions : goal.returns-in_err-conditions
returns-in_err-conditions c =
    let p = err_from_is_err_and c.from_residual-in_err-conditions.result c.from_residual-in_err-conditions.ensures.1 in
    rw (p.1, p.2) (first_line c.args.draft.now c.as_slice.result.now c.in_ok-scope.scope c.in_err-conditions.field-0.0 c.as_slice.ensures c.in_ok-scope.ensures c.in_err-conditions.ensures)

pub returns-in_err-allowed : goal.returns-in_err-allowed
returns-in_err-allowed c =
    let p = err_from_is_err_and c.from_residual-in_err-allowed.result c.from_residual-in_err-allowed.ensures.1 in
    rw (p.1, p.2) (first_function c.args.draft.now c.as_slice.result.now c.in_ok-scope.scope c.in_err-allowed.field-0.0 c.in_ok-conditions.field-0 c.as_str.result.now c.why_function.result
    c.as_slice.ensures c.in_ok-scope.ensures c.in_ok-conditions.ensures c.as_str.ensures c.why_function.ensures c.in_err-allowed.ensures)

pub returns : goal.returns
returns c =
    first_param c.args.draft.now c.as_slice.result.now c.in_ok-scope.scope c.args.fault c.in_ok-conditions.field-0 c.as_str.result.now c.why_function.result
    c.as_slice.ensures c.in_ok-scope.ensures c.in_ok-conditions.ensures c.as_str.ensures c.why_function.ensures c.in_ok-allowed.ensures c.requires
