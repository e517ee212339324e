use Rattle.std.proofs.Common.{sym, subst}
use Rattle.std.proofs.lemmas.Result.{IfOk-weaker, IfErr-weaker}
use Rattle.affc_certvalue.specs.fold.Limits.{IsMarkWithin}
use Rattle.affc_check.specs.Looked.{AreLooked}
use Rattle.affc_check.specs.Walked.{StandsFor, clashes_in}
use Rattle.affc_check.specs.list.Certs.{least_said}
use Rattle.affc_check.specs.list.Items.{mark_items}
use Rattle.affc_check.specs.list.Limits.{AnyPasses}
use Rattle.affc_check.proofs.LookLemmas.{none_looked}
use Rattle.affc_check.proofs.fold_looks.look_mark.Goals as goal

pub returns-in-None-clause-ok : goal.returns-in-None-clause-ok
returns-in-None-clause-ok c = λ ss e.
    let a = c.args.along.now in
    subst (λ o. AreLooked c.args.looked c.args.looked (mark_items c.args.of.now.nest.now a.rows.now a.k a.row.now a.modulus.now ss (least_said o))) (sym c.in-None.is) (none_looked c.args.looked)

pub look_least-requires-clause-mark : goal.look_least-requires-clause-mark
look_least-requires-clause-mark c = subst (IsMarkWithin c.args.of.now.nest.now.context.columns) c.in-Some.is c.requires.mark

pub look_least-requires-clause-sought : goal.look_least-requires-clause-sought
look_least-requires-clause-sought c = subst (λ o. StandsFor o c.args.sought (clashes_in c.args.of.now c.args.array)) c.in-Some.is c.requires.sought

pub returns-in-Some-clause-ok : goal.returns-in-Some-clause-ok
returns-in-Some-clause-ok c =
    let a = c.args.along.now in
    IfOk-weaker c.look_least.result _ _
    (λ new h ss e. subst (λ o. AreLooked c.args.looked new (mark_items c.args.of.now.nest.now a.rows.now a.k a.row.now a.modulus.now ss (least_said o))) (sym c.in-Some.is) (h ss e)) c.look_least.ensures.ok

pub returns-in-Some-clause-past : goal.returns-in-Some-clause-past
returns-in-Some-clause-past c =
    let a = c.args.along.now in
    IfErr-weaker c.look_least.result _ _
    (λ x h l ss e. subst (λ o. AnyPasses (mark_items c.args.of.now.nest.now a.rows.now a.k a.row.now a.modulus.now ss (least_said o))) (sym c.in-Some.is) (h l ss e)) c.look_least.ensures.past
