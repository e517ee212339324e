use Rattle.std.proofs.Common.{subst, sym}
use Rattle.affc_nest.specs.Asked.{IsExtent}
use Rattle.affc_nest.specs.Questions.{extents_or_none}
use Rattle.affc_sched.specs.Touched.{Each}
use Rattle.affc_check.proofs.list.ListLemmas.{extents_there}
use Rattle.affc_check.proofs.list.bounds.extents_of.Goals as goal

pub returns-in-Some-clause-extents : goal.returns-in-Some-clause-extents
returns-in-Some-clause-extents c =
    subst (Each (IsExtent c.args.nest.now)) (sym c.as_slice.ensures)
    (subst (λ o. Each (IsExtent c.args.nest.now) (extents_or_none o)) (sym c.in-Some.ensures.value) (extents_there c.args.nest.now c.args.array.0))
