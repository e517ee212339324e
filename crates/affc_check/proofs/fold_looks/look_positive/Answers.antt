use Rattle.std.proofs.Common.{flat_map, ◌++◌, ◌∷◌, [], ap, ◌∙◌, subst}
use Rattle.std.proofs.lemmas.Result.{err_from_is_err_and}
use Rattle.affc_conflicts.specs.Questions.{positive_question}
use Rattle.affc_check.specs.list.Held.{listed_said}
use Rattle.affc_check.specs.list.Items.{Question}
use Rattle.affc_check.specs.list.Limits.{AnyPasses}
use Rattle.affc_check.specs.list.Listed.{AreListed}
use Rattle.affc_check.proofs.LookLemmas.{looks_same}
use Rattle.affc_check.proofs.fold_looks.look_positive.Goals as goal

pub returns-in_err-add_long-clause-past : goal.returns-in_err-add_long-clause-past
returns-in_err-add_long-clause-past c =
    let p = err_from_is_err_and c.from_residual-in_err-add_long.result c.from_residual-in_err-add_long.ensures.1 in
    rw (p.1, p.2) (λ l. subst (λ q. AnyPasses (Question q ∷ [])) c.in_ok-positive.ensures (c.in_err-add_long.ensures.past l))

pub returns-clause-ok : goal.returns-clause-ok
returns-clause-ok c =
    let nest = c.args.nest.now in
    let items = Question (positive_question nest.context nest.params c.args.modulus.now) ∷ [] in
    let listed = subst (λ q. AreListed (flat_map listed_said c.new-listed.result.items) (flat_map listed_said c.add_long.new.out.items) (Question q ∷ [])) c.in_ok-positive.ensures c.in_ok-add_long.ensures.ok in
    record {
      looks = looks_same c.args.looked c.in_ok-after.after (flat_map listed_said c.as_slice.result.now) items
          (ap (flat_map listed_said) c.as_slice.ensures.value ∙ listed.put ∙ ap (λ xs. flat_map listed_said xs ++ items) c.new-listed.ensures.items) c.in_ok-after.ensures;
      within = listed.within;
    }
