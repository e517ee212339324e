use Rattle.std.proofs.Common.{flat_map, take}
use Rattle.affc_split.specs.Budgets.{IsLater}
use Rattle.affc_sched.specs.Pairs.{asked_of}
use Rattle.affc_legal.specs.Answered.{AreAnswered}
use Rattle.affc_legal.proofs.settling.settle.Given as goal

abbrev pub invariant-loop-pair : goal.invariant-loop-pair
invariant-loop-pair l = record {
  answered : AreAnswered l.nest (flat_map (asked_of l.nest l.schedule) (take l.pair-index l.pair-items)) l.initial.out.items l.out.items l.found;
  later : IsLater l.initial.budget l.budget;
}
