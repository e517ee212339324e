use Rattle.affc_split.specs.maximum.Regions.{IsBounded}
use Rattle.affc_moduli.proofs.bounds.by_rows.Given as goal

abbrev pub invariant-loop-row : goal.invariant-loop-row
invariant-loop-row l = IsBounded l.region l.form l.bound.most
