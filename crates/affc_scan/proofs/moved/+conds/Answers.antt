use Rattle.std.proofs.Common.{◌≡◌, ℕ, List, [], ◌∷◌, ◌++◌, map, rules, arith, ap, ◌∙◌}
use Rattle.affc_ast.specs.declared.tree.Cond.{the_lemmas as cond_lemmas}
use Rattle.affc_ast.specs.declared.tree.Cond.{Cond}
use Rattle.affc_ast.specs.Fits.{all_true}
use Rattle.affc_scan.specs.Conditions.{moved_each}
use Rattle.affc_scan.specs.InSight.{cond_in_sight}
use Rattle.affc_scan.proofs.MovedSteps.{all_seen, any_seen, rest_seen, one_more_cond}
use Rattle.affc_scan.proofs.moved.+conds.Goals as goal

pub moved_cond-moved_conds-requires : goal.moved_cond-moved_conds-requires
moved_cond-moved_conds-requires t c = (
  first_of (grind (arith, cond_lemmas), search (rules, cond_lemmas)),
  (c.requires.few, ap (λ cs. all_true (map cond_in_sight cs)) c.as_slice.ensures ∙ all_seen c.args.cond.now c.in-All.entries c.in-All.is c.requires.seen),
)

pub moved_cond-moved_conds-requires-in-Any : goal.moved_cond-moved_conds-requires-in-Any
moved_cond-moved_conds-requires-in-Any t c = (
  first_of (grind (arith, cond_lemmas), search (rules, cond_lemmas)),
  (c.requires.few, ap (λ cs. all_true (map cond_in_sight cs)) c.as_slice-in-Any.ensures ∙ any_seen c.args.cond.now c.in-Any.entries c.in-Any.is c.requires.seen),
)

pub moved_conds-loop-cond-preserved : goal.moved_conds-loop-cond-preserved
moved_conds-loop-cond-preserved t c =
    let cs : List Cond = c.args.conds.now in
    let i : ℕ = c.loop-cond.cond-index in
    let x : Cond = c.cond-item.result in
    let pushed : c.push.new.self ≡ c.loop-cond.made ++ c.in_ok-moved_cond.field-0 ∷ [] = c.in_ok-push.ensures.ok in
    record {
      seen = rest_seen i cs x c.loop-cond-test.true c.cond-item.is c.loop-cond.invariant.seen;
      made =
          one_more_cond c.args.first c.args.more c.args.is_denied i cs x c.in_ok-moved_cond.field-0 c.loop-cond.made c.push.new.self (moved_each c.args.first c.args.more c.args.is_denied cs)
          c.loop-cond-test.true c.cond-item.is c.in_ok-moved_cond.ensures pushed c.loop-cond.invariant.made;
    }
