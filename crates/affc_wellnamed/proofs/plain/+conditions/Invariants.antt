use Rattle.std.proofs.Common.{◌≡◌, map, drop}
use Rattle.std.specs.List.{list_all}
use Rattle.affc_cprint.specs.Forms as spec
use Rattle.affc_wellnamed.specs.Plain.{is_plain}
use Rattle.affc_wellnamed.proofs.plain.+conditions.Given as goal

abbrev pub invariant-conds_plain-loop-c : goal.invariant-conds_plain-loop-c
invariant-conds_plain-loop-c l = list_all (λ b. b) (map (spec.cond_passes is_plain) (drop l.c-index l.cs)) ≡ list_all (λ b. b) (map (spec.cond_passes is_plain) l.cs)
