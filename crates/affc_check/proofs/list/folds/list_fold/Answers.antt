use Rattle.std.proofs.Common.{flat_map, ◌++◌, ap, ◌∙◌}
use Rattle.std.proofs.lemmas.Result.{err_from_is_err_and}
use Rattle.affc_check.specs.list.Held.{listed_said}
use Rattle.affc_check.specs.list.Items.{fold_items}
use Rattle.affc_check.specs.list.Walks.{clash_systems, fold_shown}
use Rattle.affc_check.proofs.list.FoldLemmas.{rows_asked, fold_within, fold_past, fold_is_said}
use Rattle.affc_check.proofs.list.folds.list_fold.Goals as goal

pub add_fold-requires-clause-asked : goal.add_fold-requires-clause-asked
add_fold-requires-clause-asked g c =
    rows_asked c.args.nest.now g.under.schedule g.under.trees c.args.fold.now (clash_systems c.args.systems.now) c.requires.0 c.requires.1.0 c.requires.1.1.0

pub returns-in_err-add_fold-clause-past : goal.returns-in_err-add_fold-clause-past
returns-in_err-add_fold-clause-past g c =
    let nest = c.args.nest.now in
    let schedule = g.under.schedule in
    let trees = g.under.trees in
    let fold = c.args.fold.now in
    let systems = clash_systems c.args.systems.now in
    let p = err_from_is_err_and c.from_residual.result c.from_residual.ensures.1 in
    rw (p.1, p.2)
    (λ l. fold_past nest schedule trees fold (fold_shown fold systems) (fold_is_said nest schedule trees fold systems c.requires.1.1.0) (c.in_err-add_fold.ensures.past l))

pub returns-clause-ok : goal.returns-clause-ok
returns-clause-ok g c =
    let nest = c.args.nest.now in
    let fold = c.args.fold.now in
    let systems = clash_systems c.args.systems.now in
    record {
      fold = fold_shown fold systems;
      said = fold_is_said nest g.under.schedule g.under.trees fold systems c.requires.1.1.0;
      are = c.in_ok-add_fold.ensures.ok.put ∙ ap (λ z. flat_map listed_said z ++ fold_items nest (fold_shown fold systems)) c.new-listed.ensures.items;
    }

pub returns-clause-within : goal.returns-clause-within
returns-clause-within g c =
    let nest = c.args.nest.now in
    let schedule = g.under.schedule in
    let trees = g.under.trees in
    let fold = c.args.fold.now in
    let systems = clash_systems c.args.systems.now in
    fold_within nest schedule trees fold (fold_shown fold systems) (fold_is_said nest schedule trees fold systems c.requires.1.1.0) c.requires.1.1.1 c.in_ok-add_fold.ensures.ok.within
