use Rattle.std.proofs.Common.{◌∷◌, [], sym, subst}
use Rattle.affc_system.specs.Boxes.{InBox}
use Rattle.affc_system.specs.Systems.{Rows, IsPoint}
use Rattle.affc_folds.specs.Systems.{Adds, chosen_system}
use Rattle.affc_folds.proofs.KeptLemmas.{one_passed, one_kept}
use Rattle.affc_folds.proofs.ChoiceLemmas.{the_system}
use Rattle.affc_folds.proofs.systems.add_chosen.Goals as goal

pub returns-then-branch-clause-kept : goal.returns-then-branch-clause-kept
returns-then-branch-clause-kept c =
    one_passed (chosen_system c.args.wanted.now.base.now c.args.region.now) c.args.out.now.items (λ z inside point.
    c.in_ok-is_unwanted.ensures.none c.if-branch.true z (record {
      meets = subst (λ (s : Rows). IsPoint s z) (sym (the_system c.args.wanted.now.base.now c.args.region.now c.requires.over)) point;
      inside = subst (λ b. InBox b z) (sym c.requires.over.ranges) inside;
    }))

pub returns-clause-kept : goal.returns-clause-kept
returns-clause-kept c =
    let new = chosen_system c.args.wanted.now.base.now c.args.region.now in
    subst (Adds (new ∷ []) c.args.out.now.items) (sym c.in-Ok.ensures.items) (one_kept new c.in_ok-copy.copy c.args.out.now.items c.in_ok-copy.ensures)
