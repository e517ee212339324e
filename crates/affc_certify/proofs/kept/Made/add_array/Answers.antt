use Rattle.std.proofs.Common.{sym, subst}
use Rattle.std.proofs.lemmas.Result.{on_ok_weaker}
use Rattle.affc_certify.specs.Making.{AreTaken}
use Rattle.affc_certify.proofs.LeftLemmas.{one_more_kept, one_put}
use Rattle.affc_certify.proofs.kept.Made.add_array.Goals as goal

-- src/kept.rt:102:5
pub returns-then-is_empty-clause-taken : goal.returns-then-is_empty-clause-taken
returns-then-is_empty-clause-taken c =
    on_ok_weaker c.push.result
    (λ e folds h. subst (AreTaken folds c.args.budget.now c.next_fold.new.left) (sym e)
    (one_more_kept folds c.args.budget.now c.args.left.now c.next_fold.new.left c.args.self.now.kept c.in-Some.fold c.in-Some.ensures h))
    c.push.ensures.ok

-- src/kept.rt:102:5
pub returns-else-is_empty-clause-taken : goal.returns-else-is_empty-clause-taken
returns-else-is_empty-clause-taken c =
    on_ok_weaker c.add_fold.result
    (λ put folds h. one_put folds c.args.budget.now c.add_fold.new.budget c.args.left.now c.next_fold.new.left c.args.self.now.kept c.add_fold.new.self.kept c.in-Some.fold c.in-Some.ensures
    c.add_fold.ensures.later put h)
    c.add_fold.ensures.put
