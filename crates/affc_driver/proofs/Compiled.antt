-- What is printed of the loops of a legal schedule compiles the text that its program was read from.
use Rattle.std.proofs.Common.{◌≡◌, ◌<◌, ℕ, ℤ, false, IsTrue, List, [], length, map, Option, Some, None, refl, sym, subst, ap, ◌∙◌, arith}
use Rattle.std.proofs.lemmas.List.Elements.{All-nil}
use Rattle.std.proofs.lemmas.Option.{slice_get_within, none-some}
use Rattle.affc_ast.specs.declared.tree.ArrayId.{ArrayId}
use Rattle.affc_ast.specs.declared.tree.Program.{Program}
use Rattle.affc_ast.proofs.OwnRuns.{follows_itself}
use Rattle.affc_ast.specs.Trace.{trace}
use Rattle.affc_grammar.specs.Reads.{Reads}
use Rattle.affc_cprint.specs.Layout.{printed_text}
use Rattle.affc_cprint.proofs.Converse.{reads_back}
use Rattle.affc_trace.specs.Effects.{effect}
use Rattle.affc_trace.specs.Dataflow.{LivePair}
use Rattle.affc_trace.specs.Laws.{IsInContext}
use Rattle.affc_trace.specs.Target.{IsScheduleOf, within_limits, numbers_in}
use Rattle.affc_trace.proofs.Contents.{values_by_instance}
use Rattle.affc_trace.proofs.Targets.{map_map}
use Rattle.affc_plain.proofs.Programs.{reads_plain}
use Rattle.affc_safe.proofs.SafeLaws.{safe_runs}
use Rattle.affc_loops.specs.Laws.{HasLoops}
use Rattle.affc_loops.specs.Loops.{Scheduled}
use Rattle.affc_loopends.specs.declared.scanned.scanned.Scanned.{Scanned}
use Rattle.affc_loopends.specs.scanned.Laws.{RunsTightly}
use Rattle.affc_loopends.specs.scanned.Scanned.{Scans}
use Rattle.affc_split.specs.Budgets.{Account}
use Rattle.affc_basis.specs.declared.basis.Basis.{Basis}
use Rattle.affc_basis.specs.declared.fold.Fold.{Fold}
use Rattle.affc_basis.specs.Folds.{KeepsLimits}
use Rattle.affc_plain.specs.Laws.{IsBare}
use Rattle.affc_foldloops.specs.Placed.{HasFoldedLoops}
use Rattle.affc_rewrite.specs.Rewrite.{folded_program}
use Rattle.affc_foldprint.specs.Laws.{FoldsWellNamed, FoldsCompile, FoldsRunTightly}
use Rattle.affc_weigh.specs.declared.choice.Choice.{Choice}
use Rattle.affc_folds.specs.Folding.{AreFoldsUnder, IsLeftWhole, IsSpent}
use Rattle.affc_schedtext.specs.declared.plan.Plan.{Plan}
use Rattle.affc_schedtext.proofs.Scheduled.{is_scheduled, is_limited}
use Rattle.affc_nest.specs.Laws.{NamesArrays}
use Rattle.affc_bounds.specs.Faults.{StaysWithin}
use Rattle.affc_bounds.proofs.LawProofs.{staying_is_safe}
use Rattle.affc_driver.specs.Folds.{FoldsTo}
use Rattle.affc_driver.specs.Made.{AreDecided, IsMadeOf}
use Rattle.affc_driver.specs.Plans.{HasPlan, LegalThroughout, WrittenThroughout}
use Rattle.affc_driver.specs.Reports.{report_text}
use Rattle.affc_driver.specs.Laws.{CompilesItself, WithinNeverStuck, NamedIsWritten, PrintedCompiles, TextsRunTightly}
use Rattle.affc_driver.proofs.Ranked.{reads_naming_arrays}
use Rattle.affc_driver.proofs.Roles.{reads_roles}
use Rattle.affc_driver.proofs.Written.{loads_written}

pub compiles_itself : CompilesItself
compiles_itself program plain never = record {
  name = refl;
  parameters = refl;
  context = refl;
  runs = λ p store fits.
      let end = never p store fits in
      let values = values_by_instance program p store end.0 plain end.1 in
      follows_itself program p store end.0 end.1
      (ap (map (λ w. w.0)) values.1 ∙ map_map (λ b. ((effect program p b).stores, values.0 b)) (λ w. w.0) (trace program p));
}

pub within_never_stuck : WithinNeverStuck
within_never_stuck text program reads bare within written p store fits =
    let here : IsInContext program p = record { ranges = fits.ranges; context = fits.context } in
    safe_runs program p store (reads_plain text program reads bare) within.near fits
    (record { extents = within.extents p here; within = within.accesses p here; written = written p here })

pub named_is_written : NamedIsWritten
named_is_written text program trees reads bare within named p inside =
    loads_written program p trees (record { plain = reads_plain text program reads bare; near = within.near }) (reads_naming_arrays text program reads) (reads_roles text program reads bare) inside (named p inside)

-- each load of a temporary is, where there are no temporaries
pub none_is_written : (program : Program) → NamesArrays program → StaysWithin program → program.temps ≡ [] → WrittenThroughout program
none_is_written program names within none p inside = (staying_is_safe program p within names none inside).written

-- ---- The schedule of a plan

pub plan_scheduled : (program : Program) (schedule : Option (List ℕ)) (plan : Plan) → HasPlan program schedule plan → IsScheduleOf program plan.schedule
plan_scheduled program None plan h = subst (λ (x : Plan). IsScheduleOf program x.schedule) (sym h) tt
plan_scheduled program (Some text) plan h = is_scheduled text program plan h

pub plan_limited : (program : Program) (schedule : Option (List ℕ)) (plan : Plan) → HasPlan program schedule plan → IsTrue (within_limits plan.schedule)
plan_limited program None plan h = ap (λ (x : Plan). within_limits x.schedule) h
plan_limited program (Some text) plan h = is_limited text program plan h

pub has_loops : (text : List ℕ) (schedule : Option (List ℕ)) (program : Program) (plan : Plan) → Reads text program → IsBare program → StaysWithin program → HasPlan program schedule plan → HasLoops program plan.schedule
has_loops text schedule program plan reads bare within planned = record {
  plain = reads_plain text program reads bare;
  near = within.near;
  scheduled = plan_scheduled program schedule plan planned;
  limits = plan_limited program schedule plan planned;
}

-- ---- No folds

pub nothing_folded : (Answers : List ℕ → ℕ → Type 0) (program : Program) (pairs : ℕ → List ℤ → List ℤ → List ℤ → Type 0) (bases : List (ArrayId × Basis)) (budget : Account) → (IsLeftWhole program [] → IsSpent budget) → AreFoldsUnder Answers program pairs bases budget [] []
nothing_folded Answers program pairs bases budget whole = record {
  in_program = record { different = tt; each = λ array fold is. absurd is };
  limits = All-nil (λ (f : ArrayId × Fold). KeepsLimits (numbers_in program.params) f.1);
  obeys = λ p inside array fold e. absurd (none-some fold e);
  marks = λ array fold e. absurd (none-some fold e);
  chosen = λ array fold e. absurd (none-some fold e);
  bound = λ array fold e has. absurd (none-some fold e);
  whole = whole;
}

-- ---- Its loops with folds, which are well named

pub has_folded : (Answers : List ℕ → ℕ → Type 0) (text : List ℕ) (schedule : Option (List ℕ)) (program : Program) (plan : Plan) (budget : Account) (folds : List (ArrayId × Fold)) (choices : List (ArrayId × Choice))
    → Reads text program → IsBare program → StaysWithin program → WrittenThroughout program → HasPlan program schedule plan
    → LegalThroughout program plan.schedule → AreFoldsUnder Answers program (LivePair program plan.schedule) plan.folds budget folds choices → HasFoldedLoops program plan.schedule folds
has_folded Answers text schedule program plan budget folds choices reads bare within written planned legal are = record {
  loops = has_loops text schedule program plan reads bare within planned;
  ends = within_never_stuck text program reads bare within written;
  legal = legal;
  folds_in = are.in_program;
  obeys = are.obeys;
}

module _ (named : FoldsWellNamed) (compiled : FoldsCompile) (Answers : List ℕ → ℕ → Type 0) where
  unfoldable pub folds_to : (text : List ℕ) (schedule : Option (List ℕ)) (program : Program) (plan : Plan) (budget : Account) (folds : List (ArrayId × Fold)) (choices : List (ArrayId × Choice)) (folded report : List ℕ)
      → Reads text program → IsBare program → StaysWithin program → AreDecided Answers program plan budget folds choices
      → HasPlan program schedule plan → IsMadeOf program plan folds choices folded report → FoldsTo Answers text schedule budget folded report
  folds_to text schedule program plan budget folds choices folded report reads bare within decided planned made =
      let written : WrittenThroughout program = decided.written text reads bare in
      let are = decided.are_folds in
      let target : Program = made.scanned.program in
      record {
        plan = plan;
        folds = folds;
        choices = choices;
        compiles = record {
          source = program;
          source_reads = reads;
          target = target;
          target_reads = (reads_back target folded made.printed).0 (named text program plan.schedule folds made.scanned reads bare (has_loops text schedule program plan reads bare within planned) are.in_program are.limits made.scans);
          compiles = compiled program plan.schedule folds made.scanned (has_folded Answers text schedule program plan budget folds choices reads bare within written planned decided.legal are) are.limits made.scans;
        };
        scanned = made.scanned;
        scans = made.scans;
        loops = refl;
        printed = made.printed;
        plain = bare;
        within = within;
        written = written;
        planned = planned;
        legal = decided.legal;
        are_folds = are;
        told = made.told;
      }

  pub printed_compiles : PrintedCompiles Answers
  printed_compiles text schedule program plan budget folds choices s reads bare within written planned legal are scans =
      folds_to text schedule program plan budget folds choices (printed_text s.program) (report_text program folds choices s.loose.items) reads bare within
      (record { written = λ text reads bare. written; legal = legal; are_folds = are })
      planned (record { scanned = s; scans = scans; printed = refl; told = refl })

-- ---- Its turns

pub texts_run_tightly : FoldsRunTightly → (Answers : List ℕ → ℕ → Type 0) → TextsRunTightly Answers
texts_run_tightly tightly Answers text schedule budget folded report r n maps e by_times one none =
    let source : Program = r.compiles.source in
    let other = folded_program source r.folds in
    let has = has_loops text schedule source r.plan r.compiles.source_reads r.plain r.within r.planned in
    subst (RunsTightly source other maps e) (sym r.loops)
    (tightly source n maps r.folds e r.scanned (subst (HasLoops source) by_times has) one (subst (λ order. Scans other order r.scanned) by_times r.scans) none)

-- ---- Programs without temporaries

-- no temporary is left whole
none_whole : (program : Program) → program.temps ≡ [] → ¬ (IsLeftWhole program [])
none_whole program none whole =
    let within : whole.number < length program.temps = slice_get_within program.temps whole.number whole.decl whole.stands in
    let empty : length program.temps ≡ 0 = ap length none in
    absurd (omega arith)

pub no_folds : (Answers : List ℕ → ℕ → Type 0) (program : Program) (pairs : ℕ → List ℤ → List ℤ → List ℤ → Type 0) (bases : List (ArrayId × Basis)) (budget : Account) → program.temps ≡ [] → AreFoldsUnder Answers program pairs bases budget [] []
no_folds Answers program pairs bases budget none = nothing_folded Answers program pairs bases budget (λ whole. absurd (none_whole program none whole))
