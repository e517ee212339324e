use Rattle.std.proofs.Common.{◌≡◌, ◌++◌, true, map, drop}
use Rattle.affc_schedtext.specs.Outline.{array_outline}
use Rattle.affc_schedtext.proofs.program.add_temporaries.Given as goal

abbrev pub invariant-loop-temp : goal.invariant-loop-temp
invariant-loop-temp l = l.arrays ++ map (array_outline true) (drop l.temp-index l.temps) ≡ l.fn.arrays ++ map (array_outline true) l.temps
