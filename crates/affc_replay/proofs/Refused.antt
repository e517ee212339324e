-- What each refusal says of all texts of a program.
use Rattle.std.proofs.Common.{◌≡◌, ℕ, List, Option, Some, None, sym, subst}
use Rattle.affc_ast.specs.declared.tree.Program.{Program}
use Rattle.affc_domain.specs.Ranges.{first_wide}
use Rattle.affc_nest.specs.declared.nest.Nest.{Nest}
use Rattle.affc_nest.specs.Nests.{nest_of}
use Rattle.affc_schedtext.specs.declared.plan.Plan.{Plan}
use Rattle.affc_cert.specs.declared.cert.Cert.{Cert}
use Rattle.affc_accept.specs.Accepted.{IsRead}
use Rattle.affc_accept.specs.Bases.{KeepBases}
use Rattle.affc_accept.specs.Causes.{IsOfText}
use Rattle.affc_accept.specs.Refusals.{AcceptRefuses}
use Rattle.affc_accept.specs.declared.fault.AcceptFault.{AcceptFault}
use Rattle.affc_accept.specs.declared.fault.AcceptFault.TheVariants as accept
use Rattle.affc_driver.specs.Plans.{HasPlan}
use Rattle.affc_driver.specs.Programs.{OfEachText}
use Rattle.affc_driver.specs.Refusals.{UnreadSays}
use Rattle.affc_driver.specs.declared.unread.Unread.{Unread}
use Rattle.affc_driver.specs.declared.unread.Unread.TheVariants as unread
use Rattle.affc_driver.proofs.Refused.{planned}
use Rattle.affc_replay.specs.Refusals.{refusal_of, accept_refusal, IsNearFor, HasAcceptFault, ReplayRefuses}
use Rattle.affc_replay.specs.declared.refusal.Refusal.{Refusal}
use Rattle.affc_replay.specs.declared.refusal.Refusal.TheVariants.{IteratorRange, Memory}

pub memory_refuses : (source schedule certificate : List ℕ) (refusal : Refusal) → refusal ≡ Memory → ReplayRefuses source schedule certificate refusal
memory_refuses source schedule certificate refusal is = subst (ReplayRefuses source schedule certificate) (sym is) tt

pub too_wide : (program : Program) (nest : Nest) (plan : Plan) (schedule certificate : List ℕ) (cert : Cert) (statement loop : ℕ) → first_wide program ≡ Some (statement, loop) → nest ≡ nest_of program
    → IsRead nest certificate cert → KeepBases nest plan.folds cert.folds → HasPlan program (Some schedule) plan
    → OfEachText program (λ source. ReplayRefuses source schedule certificate (IteratorRange statement loop))
too_wide program nest plan schedule certificate cert statement loop wide is read bases has source reads bare =
    let of = planned program plan (Some schedule) has source reads bare in (
      record { of = of; is_fault = wide },
      record { of = of; cert = cert; read = subst (λ n. IsRead n certificate cert) is read; bases = subst (λ n. KeepBases n plan.folds cert.folds) is bases },
    )

not_accepted : (program : Program) (nest : Nest) (plan : Plan) (schedule certificate : List ℕ) (fault : AcceptFault) → IsNearFor fault program → nest ≡ nest_of program → AcceptRefuses nest plan certificate fault
    → HasPlan program (Some schedule) plan → OfEachText program (λ source. HasAcceptFault source schedule certificate fault)
not_accepted program nest plan schedule certificate fault near is refuses has source reads bare = record {
  of = planned program plan (Some schedule) has source reads bare;
  near = near;
  refuses = subst (λ n. AcceptRefuses n plan certificate fault) is refuses;
}

-- a certificate that isn't accepted is refused for it
accept_refuses : (program : Program) (nest : Nest) (plan : Plan) (schedule certificate : List ℕ) (fault : AcceptFault) → IsNearFor fault program → nest ≡ nest_of program → AcceptRefuses nest plan certificate fault
    → HasPlan program (Some schedule) plan → OfEachText program (λ source. ReplayRefuses source schedule certificate (accept_refusal fault))
accept_refuses program nest plan schedule certificate (accept.Certificate fault) near is refuses has source reads bare = not_accepted program nest plan schedule certificate (accept.Certificate fault) near is refuses has source reads bare
accept_refuses program nest plan schedule certificate (accept.Check fault) near is refuses has source reads bare = not_accepted program nest plan schedule certificate (accept.Check fault) near is refuses has source reads bare
accept_refuses program nest plan schedule certificate accept.Memory near is refuses has source reads bare = tt

-- by its text, whatever the ranges of the loops
pub text_refuses : (program : Program) (nest : Nest) (plan : Plan) (schedule certificate : List ℕ) (fault : AcceptFault) → IsOfText fault → nest ≡ nest_of program → AcceptRefuses nest plan certificate fault
    → HasPlan program (Some schedule) plan → OfEachText program (λ source. ReplayRefuses source schedule certificate (accept_refusal fault))
text_refuses program nest plan schedule certificate fault of_text = accept_refuses program nest plan schedule certificate fault (for_text fault of_text)
  where
    for_text : (fault : AcceptFault) → IsOfText fault → IsNearFor fault program
    for_text (accept.Certificate fault) h = tt
    for_text (accept.Check fault) h = absurd h
    for_text accept.Memory h = tt

-- by its items, where the program is within the interval rule
pub items_refuse : (program : Program) (nest : Nest) (plan : Plan) (schedule certificate : List ℕ) (fault : AcceptFault) → first_wide program ≡ None → nest ≡ nest_of program → AcceptRefuses nest plan certificate fault
    → HasPlan program (Some schedule) plan → OfEachText program (λ source. ReplayRefuses source schedule certificate (accept_refusal fault))
items_refuse program nest plan schedule certificate fault near = accept_refuses program nest plan schedule certificate fault (for_items fault)
  where
    for_items : (fault : AcceptFault) → IsNearFor fault program
    for_items (accept.Certificate fault) = tt
    for_items (accept.Check fault) = near
    for_items accept.Memory = tt

-- a source that isn't read is refused for it
pub unread_refuses : (source schedule certificate : List ℕ) (fault : Unread) → UnreadSays source fault → ReplayRefuses source schedule certificate (refusal_of fault)
unread_refuses source schedule certificate (unread.Source fault) says = says
unread_refuses source schedule certificate (unread.Printed place) says = says
unread_refuses source schedule certificate unread.Memory says = tt
