use Rattle.std.proofs.Common.{◌∙◌, sym, subst}
use Rattle.std.specs.Prelude.{IfSome}
use Rattle.affc_farkas.specs.Proofs.{ValidProof}
use Rattle.affc_leaf.specs.Boxed.{with_box}
use Rattle.affc_leaf.specs.Flat.{IsMet}
use Rattle.affc_leaf.proofs.Whole.{whole_valid}
use Rattle.affc_leaf.proofs.Boxes.{none_in_box}
use Rattle.affc_split.proofs.points.flat_answer.Goals as goal

pub returns-in-Some-Empty-clause-empty : goal.returns-in-Some-Empty-clause-empty
returns-in-Some-Empty-clause-empty c =
    let system = c.args.system.now in
    let ranges = c.args.ranges.now in
    let a = subst (IsMet system c.as_slice.result.now c.next_row-next.result) c.in-Some-Empty.field-0-is (subst (λ o. IfSome o (IsMet system c.as_slice.result.now c.next_row-next.result)) c.in-Some-Empty.is c.in_ok-proof.ensures.answer) in
    subst (λ p. ValidProof (with_box system ranges) p) (sym c.into_inner.ensures)
    (whole_valid system ranges c.as_slice.result.now c.next_row-next.result c.in-Some-Empty.proof.value c.requires.columns c.requires.reach c.next_row-next.ensures.fit (c.as_slice.ensures.value ∙ c.in_ok-bounds.ensures.value) c.next_row-next.ensures.value a)

pub returns-in-Some-Empty-clause-none : goal.returns-in-Some-Empty-clause-none
returns-in-Some-Empty-clause-none c =
    none_in_box c.args.system.now c.args.ranges.now c.into_inner.result c.requires.columns c.requires.reach c.next_row-next.ensures.fit (returns-in-Some-Empty-clause-empty c)
