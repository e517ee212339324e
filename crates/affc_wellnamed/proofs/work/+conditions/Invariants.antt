use Rattle.std.proofs.Common.{◌≡◌, map, drop}
use Rattle.affc_ast.specs.Fits.{all_true}
use Rattle.affc_wellnamed.specs.Work.{cond_fits}
use Rattle.affc_wellnamed.proofs.work.+conditions.Given as goal

abbrev pub invariant-conds_fit-loop-c : goal.invariant-conds_fit-loop-c
invariant-conds_fit-loop-c l = all_true (map cond_fits (drop l.c-index l.cs)) ≡ all_true (map cond_fits l.cs)
