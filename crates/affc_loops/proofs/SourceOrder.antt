-- The laws of the source's own order.
use Rattle.std.proofs.Common.{ℤ, T, IsTrue, List, map, refl, sym, ap, subst, ◌∙◌}
use Rattle.affc_ast.specs.declared.tree.Program.{Program}
use Rattle.affc_ast.specs.Fits.{within_ranges}
use Rattle.affc_ast.specs.Store.{Store}
use Rattle.affc_ast.specs.Trace.{trace}
use Rattle.affc_trace.specs.declared.schedule.Schedule.TheVariants.{Source}
use Rattle.affc_trace.specs.Effects.{has_no_locals}
use Rattle.affc_trace.specs.Laws.{RunsTarget}
use Rattle.affc_trace.specs.Dataflow.{unshared}
use Rattle.affc_trace.proofs.Composed.{compiles_source}
use Rattle.affc_trace.proofs.TraceEffects.{trace_effects}
use Rattle.affc_safe.specs.Overflow.{NeverOverflows}
use Rattle.affc_safe.specs.Safe.{HasExtents, KeepsWithin}
use Rattle.affc_safe.proofs.EndedSafe.{ended_is_safe}
use Rattle.affc_safe.proofs.PlainNear.{plain_has_no_locals, plain_never_overflows}
use Rattle.affc_safe.proofs.SafeLaws.{stuck_for_a_value}
use Rattle.affc_loops.specs.Laws.{SourceRunsTarget, SourceCompiles}
use Rattle.affc_loops.proofs.Does.{own_places}

pub runs_itself : (program : Program) (p : List ℤ) (store : Store) → IsTrue (has_no_locals program)
    → IsTrue (within_ranges program.params p) → NeverOverflows program p → HasExtents program p → KeepsWithin program p
    → RunsTarget program program Source (λ x. x) p store
runs_itself program p store bare within safe extents keeps = record {
  does = trace_effects program p (subst T (sym bare) tt) ∙ ap (λ f. map f (trace program p)) (own_places program p);
  only_unwritten = λ cause steps e. stuck_for_a_value program p store cause steps bare within safe extents keeps e;
}

pub source_runs_target : SourceRunsTarget
source_runs_target source p store h within extents keeps =
    runs_itself source p store (plain_has_no_locals source h.plain) within (plain_never_overflows source p h.plain h.near within) extents keeps

pub source_compiles : SourceCompiles
source_compiles source h ends legal =
    let plain = plain_has_no_locals source h.plain in
    compiles_source unshared source source Source (λ p x. x) plain refl refl refl ends legal
    (λ p here x y live. live.distinct)
    (λ p here. record { in_buffer = λ x. refl; own = λ x l. refl; no_other = λ array h. h })
    (λ p store fits.
    let e = ends p store fits in
    let safe = ended_is_safe source p store e.0 plain fits e.1 in
    source_runs_target source p store h fits.ranges safe.extents safe.within)
