use Rattle.std.proofs.Common.{◌≡◌, flat_map, sym, subst}
use Rattle.std.proofs.lemmas.Result.{IfOk-weaker}
use Rattle.affc_trace.specs.declared.schedule.Schedule.TheVariants.{Time}
use Rattle.affc_sched.specs.Pairs.{asked_of}
use Rattle.affc_sched.specs.Questions.{legality_questions}
use Rattle.affc_sched.proofs.AskedLemmas.{each_pair, all_asked}
use Rattle.affc_sched.proofs.pairs.asked_pairs.Goals as goal

pub returns-in-Time-clause-questions : goal.returns-in-Time-clause-questions
returns-in-Time-clause-questions c =
    let nest = c.args.nest.now in
    IfOk-weaker c.all_pairs.result _ _
    (λ v e. subst (λ s. flat_map (asked_of nest s) v.items ≡ legality_questions nest s) (sym c.in-Time.is) (all_asked nest (Time c.in-Time.length c.in-Time.maps) v.items e)) c.all_pairs.ensures

pub returns-in-Time-clause-pairs : goal.returns-in-Time-clause-pairs
returns-in-Time-clause-pairs c = IfOk-weaker c.all_pairs.result _ _ (λ v e. each_pair c.args.nest.now v.items e) c.all_pairs.ensures
