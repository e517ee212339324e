use Rattle.std.proofs.Common.{◌≡◌, refl}
use Rattle.std.proofs.lemmas.Result.{IfOk-weaker}
use Rattle.affc_rewrite.specs.declared.subscripts.Folding.{Folding}
use Rattle.affc_rewrite.proofs.Whole.{walk_there, body_is}
use Rattle.affc_rewrite.proofs.rewriting.body.Goals as goal

pub statements-requires-clause-walk : goal.statements-requires-clause-walk
statements-requires-clause-walk c =
    let f : Folding = record { parameters = c.count-parameters.result; arrays = c.as_slice.result; folds = c.args.folds } in
    walk_there c.args.program.now c.args.nest.now c.args.folds.now c.requires.nest c.requires.plain f c.count-parameters.ensures refl c.requires.limits

pub returns : goal.returns
returns c =
    let f : Folding = record { parameters = c.count-parameters.result; arrays = c.as_slice.result; folds = c.args.folds } in
    let arrays : c.as_slice.result.now ≡ c.args.nest.now.arrays = c.as_slice.ensures in
    let statements : c.as_slice-2.result.now ≡ c.args.program.now.body = c.as_slice-2.ensures in
    IfOk-weaker c.statements.result _ _
    (λ made e. body_is c.args.program.now c.args.nest.now c.args.folds.now c.requires.nest c.requires.plain f c.as_slice-2.result.now made c.count-parameters.ensures refl arrays statements e) c.statements.ensures
