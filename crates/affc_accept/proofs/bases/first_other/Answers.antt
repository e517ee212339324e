use Rattle.std.proofs.Common.{length, refl, sym, ◌∙◌}
use Rattle.std.proofs.lemmas.Option.{slice_get_read}
use Rattle.affc_accept.proofs.Same.{first_is, next_keeps}
use Rattle.affc_accept.proofs.bases.first_other.Goals as goal

pub returns-then-not-branch-clause-first : goal.returns-then-not-branch-clause-first
returns-then-not-branch-clause-first c =
    let cs = c.args.folds.now in
    let x = c.index-folds-number.result in
    let there = slice_get_read cs (length cs) c.loop-number.number x refl c.loop-number-test.true c.index-folds-number.is in
    first_is c.args.nest.now c.args.bases.now cs c.loop-number.number x there (sym c.in_ok-keeps_basis.ensures ∙ c.if-not-branch.true) c.loop-number.invariant

pub loop-number-preserved : goal.loop-number-preserved
loop-number-preserved c =
    let cs = c.args.folds.now in
    let x = c.index-folds-number.result in
    let there = slice_get_read cs (length cs) c.loop-number.number x refl c.loop-number-test.true c.index-folds-number.is in
    next_keeps c.args.nest.now c.args.bases.now cs c.loop-number.number x there (sym c.in_ok-keeps_basis.ensures ∙ c.if-not-branch.false) c.loop-number.invariant
