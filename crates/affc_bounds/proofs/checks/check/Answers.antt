use Rattle.std.proofs.Common.{subst}
use Rattle.std.specs.Prelude.{MatchOption}
use Rattle.affc_nest.specs.Laws.{HasNest}
use Rattle.affc_bounds.specs.Looks.{IsClean, IsFaultOf}
use Rattle.affc_bounds.proofs.CheckLemmas.{clean_stays, fault_says}
use Rattle.affc_bounds.proofs.checks.check.Goals as goal

pub returns-in-None-clause-within : goal.returns-in-None-clause-within
returns-in-None-clause-within c =
    let has : HasNest c.args.program.now = record { plain = c.requires.plain; near = c.requires.near } in
    clean_stays c.args.program.now has c.requires.arrays
    (subst IsClean c.requires.nest
    (subst (λ o. MatchOption o (IsClean c.args.nest.now) (IsFaultOf c.args.nest.now)) c.in-None.is c.in_ok-first_fault.ensures.answer))

pub returns-in-Some-clause-fault : goal.returns-in-Some-clause-fault
returns-in-Some-clause-fault c =
    let has : HasNest c.args.program.now = record { plain = c.requires.plain; near = c.requires.near } in
    fault_says c.args.program.now has c.requires.arrays c.in-Some.fault
    (subst (λ n. IsFaultOf n c.in-Some.fault) c.requires.nest
    (subst (λ o. MatchOption o (IsClean c.args.nest.now) (IsFaultOf c.args.nest.now)) c.in-Some.is c.in_ok-first_fault.ensures.answer))
