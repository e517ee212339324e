use Rattle.std.proofs.Common.{None, Some, refl, subst, sym}
use Rattle.affc_bounds.specs.Found.{IsFirst}
use Rattle.affc_bounds.specs.Looks.{HaveExtents, AreAlive, InArrays, InEntries, narrow, outside}
use Rattle.affc_bounds.proofs.AliveLemmas.{all_alive}
use Rattle.affc_bounds.proofs.ExtentLemmas.{all_extents}
use Rattle.affc_bounds.proofs.checks.first_fault.Goals as goal

pub in_arrays-requires-clause-arrays : goal.in_arrays-requires-clause-arrays
in_arrays-requires-clause-arrays c = subst (HaveExtents c.args.nest.now) (sym c.as_slice.ensures) (all_extents c.args.nest.now)

pub returns-in-Some-clause-answer : goal.returns-in-Some-clause-answer
returns-in-Some-clause-answer c =
    narrow c.in-Some.field-0 refl
    (subst (λ xs. IsFirst (InArrays c.args.nest.now 0 xs) (Some c.in-Some.field-0)) c.as_slice.ensures
    (subst (IsFirst (InArrays c.args.nest.now 0 c.as_slice.result.now)) c.in-Some.is c.in_ok-narrow.ensures.first))

pub in_entries-requires : goal.in_entries-requires
in_entries-requires c = record { alive = subst (AreAlive c.args.nest.now) (sym c.as_slice-2.ensures) (all_alive c.args.nest.now c.requires.nest) }

pub returns-clause-answer : goal.returns-clause-answer
returns-clause-answer c =
    outside c.in-Some-2.field-0 refl
    (subst (λ xs. IsFirst (InArrays c.args.nest.now 0 xs) None) c.as_slice.ensures
    (subst (IsFirst (InArrays c.args.nest.now 0 c.as_slice.result.now)) c.in_default.is c.in_ok-narrow.ensures.first))
    (subst (λ xs. IsFirst (InEntries c.args.nest.now xs) (Some c.in-Some-2.field-0)) c.as_slice-2.ensures
    (subst (IsFirst (InEntries c.args.nest.now c.as_slice-2.result.now)) c.in-Some-2.is c.in_ok-in_entries.ensures.first))
