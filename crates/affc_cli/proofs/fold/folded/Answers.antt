use Rattle.std.proofs.Common.{◌∙◌, ap, subst}
use Rattle.std.specs.Prelude.{option_map}
use Rattle.affc_split.specs.Budgets.{Account}
use Rattle.affc_driver.specs.Accounts.{IsShort}
use Rattle.affc_cli.proofs.fold.folded.Goals as goal

pub returns-in-Ok-clause-ok : goal.returns-in-Ok-clause-ok
returns-in-Ok-clause-ok c = record {
  left = c.fold_named.new.units;
  limit = c.fold_named.ensures.limit ∙ ap (λ (b : Account). b.limit) c.new-units.ensures;
  folds = c.in-Ok.ensures.ok c.args.source.now c.in_ok-program.ensures.ok.reads c.in_ok-program.ensures.ok.bare;
}

pub returns-in-Ok-clause-within : goal.returns-in-Ok-clause-within
returns-in-Ok-clause-within c = record {
  left = c.fold_named.new.units;
  limit = c.fold_named.ensures.limit ∙ ap (λ (b : Account). b.limit) c.new-units.ensures;
  folds_to = (c.in-Ok.ensures.ok c.args.source.now c.in_ok-program.ensures.ok.reads c.in_ok-program.ensures.ok.bare).at_cost;
}

pub returns-clause-err : goal.returns-clause-err
returns-clause-err c =
    let schedule = option_map (λ s. s.now) c.args.schedule in
    let read = c.in_ok-program.ensures.ok in
    c.told.ensures c.args.source.now schedule read.reads (c.in-Err.ensures.err c.args.source.now read.reads read.bare)
    (λ spent. subst (IsShort c.args.source.now schedule) (c.fold_named.ensures.limit ∙ ap (λ (b : Account). b.limit) c.new-units.ensures) (c.in-Err.ensures.short spent c.args.source.now read.reads read.bare))
