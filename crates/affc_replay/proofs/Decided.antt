-- What is made of a program with a certificate compiles the text that the program was read from.
use Rattle.std.proofs.Common.{◌≡◌, ℕ, false, IsTrue, List, Some, None, refl, subst}
use Rattle.affc_ast.specs.declared.tree.ArrayId.{ArrayId}
use Rattle.affc_ast.specs.declared.tree.Program.{Program}
use Rattle.affc_grammar.specs.Reads.{Reads}
use Rattle.affc_cprint.proofs.Converse.{reads_back}
use Rattle.affc_trace.specs.Dataflow.{LivePair}
use Rattle.affc_trace.specs.Target.{IsScheduleOf, within_limits}
use Rattle.affc_trace.specs.declared.schedule.Schedule.{Schedule}
use Rattle.affc_domain.specs.Plain.{IsPlain}
use Rattle.affc_domain.specs.Ranges.{first_wide}
use Rattle.affc_basis.specs.declared.fold.Fold.{Fold}
use Rattle.affc_plain.specs.Laws.{IsBare}
use Rattle.affc_nest.specs.declared.nest.Nest.{Nest}
use Rattle.affc_nest.specs.Laws.{HasNest, NamesArrays}
use Rattle.affc_nest.specs.Nests.{nest_of}
use Rattle.affc_sched.specs.Legality.{IsAsked}
use Rattle.affc_quast.specs.Seen.{trees_of}
use Rattle.affc_foldloops.specs.Placed.{HasFoldedLoops}
use Rattle.affc_foldprint.specs.Laws.{FoldsWellNamed, FoldsCompile}
use Rattle.affc_schedtext.specs.declared.plan.Plan.{Plan}
use Rattle.affc_accept.specs.Accepted.{IsAccepted}
use Rattle.affc_accept.proofs.Shows.{accepted_shows}
use Rattle.affc_driver.specs.Plans.{HasPlan}
use Rattle.affc_driver.specs.Programs.{OfEachText}
use Rattle.affc_driver.proofs.Compiled.{within_never_stuck, has_loops}
use Rattle.affc_driver.proofs.Roles.{reads_roles, temporary_far, far_temporary}
use Rattle.affc_replay.specs.Folds.{AreAll}
use Rattle.affc_replay.specs.Made.{HasOwnTemporaries, IsDecided, IsReplayed}
use Rattle.affc_replay.specs.Replays.{ReplaysTo}
use Rattle.affc_replay.specs.Scalars.{HasScalars}
use Rattle.affc_replay.proofs.Folded.{fold_all}
use Rattle.affc_replay.proofs.Written.{stays_within, written_throughout}

-- ---- What a text gives

pub reads_temporaries : (text : List ℕ) (program : Program) → Reads text program → IsBare program → HasOwnTemporaries program
reads_temporaries text program reads bare =
    let roles = reads_roles text program reads bare in
    record { last = temporary_far program roles; own = far_temporary program roles }

-- what the schedule of a program is asked of
pub asked : (program : Program) (nest : Nest) (schedule : Schedule) → IsPlain program → NamesArrays program → first_wide program ≡ None → nest ≡ nest_of program → IsScheduleOf program schedule
    → IsTrue (within_limits schedule) → IsAsked nest schedule
asked program nest schedule plain names near is fits slight = record {
  scheduled = record {
    program = program;
    has = record { plain = plain; near = near };
    is = is;
    fits = fits;
    slight = slight;
  };
  named = names;
}

-- ---- What a certificate decides

pub decided : (program : Program) (plan : Plan) (certificate : List ℕ) (shown folds : List (ArrayId × Fold)) → HasNest program → NamesArrays program → HasOwnTemporaries program → IsScheduleOf program plan.schedule
    → IsAccepted (nest_of program) plan certificate shown → AreAll (nest_of program) shown folds → IsDecided program plan certificate folds
decided program plan certificate shown folds has names own fits accepted all =
    let s = accepted_shows program plan certificate shown has names own.last fits accepted in
    let trees = trees_of accepted.cert.flow in
    let said = accepted.is_checked.are.folds in
    record {
      shown = shown;
      accepted = accepted;
      are_all = all;
      within = stays_within program plan.schedule trees said s.0 has.near;
      written = written_throughout program plan.schedule trees said s.0 has names own;
      legal = s.0.legal;
      fold_all = fold_all program (LivePair program plan.schedule) own shown folds s.1 all;
    }

-- the same of a nest as the code holds it
pub decided_by : (program : Program) (nest : Nest) (plan : Plan) (certificate : List ℕ) (shown folds : List (ArrayId × Fold)) → IsPlain program → first_wide program ≡ None → NamesArrays program → HasOwnTemporaries program
    → nest ≡ nest_of program → IsScheduleOf program plan.schedule → IsAccepted nest plan certificate shown → HasScalars 0 nest.arrays shown folds → IsDecided program plan certificate folds
decided_by program nest plan certificate shown folds plain near names own is fits accepted more =
    let all : AreAll nest shown folds = record { scalars = more.scalars; are_scalars = more.are_empty; both = more.put } in
    decided program plan certificate shown folds (record { plain = plain; near = near }) names own fits (subst (λ n. IsAccepted n plan certificate shown) is accepted) (subst (λ n. AreAll n shown folds) is all)

module _ (named : FoldsWellNamed) (compiled : FoldsCompile) where
  pub replays_to : (program : Program) (plan : Plan) (schedule certificate text report : List ℕ) → HasPlan program (Some schedule) plan → IsReplayed program plan certificate text report
      → OfEachText program (λ source. ReplaysTo source schedule certificate text report)
  replays_to program plan schedule certificate text report planned r source reads bare =
      let d = r.decided in
      let all = d.fold_all in
      let loops = has_loops source (Some schedule) program plan reads bare d.within planned in
      let target : Program = r.made.scanned.program in
      let folded : HasFoldedLoops program plan.schedule r.folds = record {
        loops = loops;
        ends = within_never_stuck source program reads bare d.within d.written;
        legal = d.legal;
        folds_in = all.in_program;
        obeys = all.obeys;
      } in
      record {
        plan = plan;
        shown = d.shown;
        folds = r.folds;
        compiles = record {
          source = program;
          source_reads = reads;
          target = target;
          target_reads = (reads_back target text r.made.printed).0 (named source program plan.schedule r.folds r.made.scanned reads bare loops all.in_program all.limits r.made.scans);
          compiles = compiled program plan.schedule r.folds r.made.scanned folded all.limits r.made.scans;
        };
        scanned = r.made.scanned;
        scans = r.made.scans;
        loops = refl;
        printed = r.made.printed;
        plain = bare;
        within = d.within;
        written = d.written;
        planned = planned;
        legal = d.legal;
        accepted = d.accepted;
        are_all = d.are_all;
        fold_all = all;
        told = r.made.told;
      }
