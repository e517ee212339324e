use Rattle.std.proofs.Common.{length, map, sym, subst}
use Rattle.std.specs.Prelude.{IfOk, Err}
use Rattle.std.proofs.lemmas.List.{length-map}
use Rattle.affc_syntax.specs.draft.Symbols.{seen}
use Rattle.affc_schedtext.specs.ReadAnswers.{IsRead}
use Rattle.affc_plan.specs.Stages.{IsReach}
use Rattle.affc_plan.proofs.StopLaws.{read_ok, read_at, reach_of, reach_whole}
use Rattle.affc_plan.proofs.stops.reach.Goals as goal
use Rattle.affc_plan.proofs.stops.reach.Goals.{in-Ok, in-Err-At, in-Err-Deep, in-Err-Memory}

pub returns-clause-reach : goal.returns-clause-reach
returns-clause-reach c =
    let o = c.args.outline.now in
    let ss = map seen c.args.symbols.now in
    elim c.match-read_draft.branch [
      | in-Ok w ↦
          let r = read_ok o 4294967295 ss w.in-Ok.field-0 w.in-Ok.ensures in
          subst (λ x. IfOk x (IsReach o ss)) (sym w.result-is) (reach_whole o ss r.0 (length c.args.symbols.now) (sym (length-map c.args.symbols.now seen)) r.1)
      | in-Err-At w ↦
          subst (λ x. IfOk x (IsReach o ss)) (sym w.result-is)
          (reach_of o ss w.in-Err-At.to (read_at o 4294967295 ss w.in-Err-At.to (subst (λ f. IsRead o 4294967295 ss (Err f)) w.in-Err-At.field-0-is w.in-Err-At.ensures)))
      | in-Err-Deep w ↦ subst (λ x. IfOk x (IsReach o ss)) (sym w.result-is) tt
      | in-Err-Memory w ↦ subst (λ x. IfOk x (IsReach o ss)) (sym w.result-is) tt
    ]
