use Rattle.std.proofs.Common.{◌≡◌, ◌+◌, subst, arith}
use Rattle.std.specs.Prelude.{OnOk}
use Rattle.affc_trace.specs.Dataflow.{LivePair}
use Rattle.affc_folds.specs.Folding.{AreFoldsBelow}
use Rattle.affc_folds.proofs.ListLemmas.{one_counted}
use Rattle.affc_folds.proofs.folding.+add_folds.Goals as goal

pub returns-in-Some-clause-all : goal.returns-in-Some-clause-all
returns-in-Some-clause-all g t c =
    let next : c.in-Some.next ≡ c.args.first + 1 = omega (arith, c.in-Some.ensures) in
    subst (λ n. OnOk c.add_folds.result (AreFoldsBelow (g.F.Cost.answers c.args.cost.now.cost) c.args.asked.now.program.now (LivePair c.args.asked.now.program.now c.args.asked.now.schedule.now) c.args.asked.now.bases.now c.add_folds.new.budget n c.add_folds.new.folded.folds c.add_folds.new.folded.choices))
    (one_counted c.args.first c.in-Some.next c.args.arrays.now c.in-len1-up.len_at_least next) c.add_folds.ensures.all
