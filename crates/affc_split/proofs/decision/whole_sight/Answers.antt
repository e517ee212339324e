use Rattle.std.proofs.Common.{sym, subst, IfSome}
use Rattle.std.specs.List.{All}
use Rattle.affc_system.specs.Systems.{IsRow}
use Rattle.affc_farkas.specs.Proofs.{ValidProof}
use Rattle.affc_leaf.specs.Boxed.{with_box}
use Rattle.affc_leaf.specs.Parts.{IsEmpty}
use Rattle.affc_leaf.proofs.Whole.{whole_valid}
use Rattle.affc_split.proofs.decision.whole_sight.Goals as goal

pub returns-in-Some-clause-valid : goal.returns-in-Some-clause-valid
returns-in-Some-clause-valid c =
    let fit = subst (λ rs. All (IsRow c.args.system.now.columns) rs) c.rows-rows.ensures.rows c.rows-rows.ensures.fit in
    let a = subst (λ o. IfSome o (λ p. IsEmpty c.args.system.now c.args.bounds.now c.args.next p.value)) c.in-Some.is c.in_ok-leaf.ensures.answer in
    subst (λ p. ValidProof (with_box c.args.system.now c.args.ranges.now) p) (sym c.into_inner.ensures)
    (whole_valid c.args.system.now c.args.ranges.now c.args.bounds.now c.args.next c.in-Some.leaf.value c.requires.columns c.requires.reach fit c.requires.bounds c.requires.next a)
