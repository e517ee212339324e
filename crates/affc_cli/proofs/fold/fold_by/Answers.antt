use Rattle.std.proofs.Common.{IfOk, subst}
use Rattle.std.specs.Prelude.{option_map}
use Rattle.affc_driver.specs.Accounts.{FoldsMade}
use Rattle.affc_driver.specs.Programs.{OfEachText}
use Rattle.affc_cli.proofs.fold.fold_by.Goals as goal

pub returns-clause-ok : goal.returns-clause-ok
returns-clause-ok g c =
    subst (λ k. IfOk c.fold_program.result (λ made. OfEachText c.args.program.now (λ text. FoldsMade (g.F.Cost.answers k) text (option_map (λ s. s.now) c.args.schedule) c.fold_program.new.budget c.args.wanted made))) c.new-weigher.ensures
    c.fold_program.ensures.ok

pub returns-clause-limit : goal.returns-clause-limit
returns-clause-limit g c = c.fold_program.ensures.later.limit
