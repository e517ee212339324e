-- What is valid is replayed, and nothing else.
use Rattle.std.proofs.Common.{◌≡◌, ℕ, true, false, true≢false, inl, inr, List, [], ◌∷◌, ◌++◌, length, map, Some, refl, sym, ap, subst, ◌∙◌, arith}
use Rattle.std.specs.List.{All}
use Rattle.std.proofs.lemmas.List.Elements.{All-nil, All-cons}
use Rattle.std.proofs.lemmas.Option.{none-some, same_Some}
use Rattle.affc_rows.specs.Forms.{Affine}
use Rattle.affc_ast.specs.declared.tree.ArrayId.{ArrayId}
use Rattle.affc_ast.specs.declared.tree.Program.{Program}
use Rattle.affc_ast.specs.Joined.{has_joined_tests}
use Rattle.affc_grammar.specs.Limits.{limits_of}
use Rattle.affc_grammar.specs.Reads.{Reads}
use Rattle.affc_grammar.proofs.Texts.{one_tree}
use Rattle.affc_parse.proofs.Refusals.{fault_is_memory}
use Rattle.affc_cprint.specs.Layout.{printed_text}
use Rattle.affc_plain.proofs.Programs.{reads_plain}
use Rattle.affc_domain.specs.Ranges.{first_wide}
use Rattle.affc_loopends.specs.scanned.Laws.{SameLoopsScan}
use Rattle.affc_loopends.specs.bounding.Laws.{ProgramsScan}
use Rattle.affc_basis.specs.declared.basis.Basis.{Basis}
use Rattle.affc_basis.specs.declared.fold.Fold.{Fold}
use Rattle.affc_nest.specs.Laws.{HasNest}
use Rattle.affc_nest.specs.Nests.{nest_of}
use Rattle.affc_rewrite.specs.Rewrite.{folded_program}
use Rattle.affc_foldprint.specs.Laws.{FoldsWellNamed, FoldsKeepTimes, FoldsCompile}
use Rattle.affc_schedtext.specs.declared.plan.SchedFault.{SchedFault}
use Rattle.affc_schedtext.specs.Answers.{PlanReads, IsFault}
use Rattle.affc_schedtext.proofs.Excludes.{excludes}
use Rattle.affc_accept.specs.Refusals.{AcceptRefuses}
use Rattle.affc_accept.specs.declared.fault.AcceptFault.{AcceptFault}
use Rattle.affc_accept.specs.declared.fault.AcceptFault.TheVariants as accept
use Rattle.affc_accept.proofs.Unique.{accepted_is_not_refused}
use Rattle.affc_driver.specs.Made.{IsMadeOf}
use Rattle.affc_driver.specs.Reports.{report_text}
use Rattle.affc_driver.proofs.Compiled.{plan_scheduled, has_loops}
use Rattle.affc_driver.proofs.Ranked.{reads_naming_arrays}
use Rattle.affc_replay.specs.Folds.{scalars_from, AreEmptyFolds, AreAll}
use Rattle.affc_replay.specs.Laws.{IsValid, ValidIsReplayed, ValidIsNotRefused}
use Rattle.affc_replay.specs.Refusals.{HasAcceptFault}
use Rattle.affc_replay.specs.Replays.{ReplaysTo}
use Rattle.affc_replay.specs.declared.refusal.Refusal.TheVariants.{Source, Printed, Schedule, IteratorRange, Certificate, Check, Memory}
use Rattle.affc_replay.proofs.Decided.{reads_temporaries, decided, replays_to}
use Rattle.affc_replay.proofs.Plans.{accepted_too}

-- ---- Empty folds

abbrev empty_basis : Basis
empty_basis = record {
  rows = [];
  inverse = [];
  square = record { columns = All-nil (λ (f : Affine). length f.coefs ≡ 0); inverse_columns = All-nil (λ (f : Affine). length f.coefs ≡ 0); one_each = refl; few = omega arith };
  row_bounds = All-nil _;
  inverse_bounds = All-nil _;
  identity = λ k l. absurd (omega (arith, l));
}

abbrev empty_fold : Fold
empty_fold = record { basis = empty_basis; moduli = []; one_each = refl }

abbrev pub scalar_fold : ℕ → ArrayId × Fold
scalar_fold n = (record { 0 = n }, empty_fold)

pub are_empty : (ns : List ℕ) → AreEmptyFolds ns (map scalar_fold ns)
are_empty ns = record { of_arrays = same ns; empty = none ns }
  where
    same : (ns : List ℕ) → map (λ (f : ArrayId × Fold). f.0.0) (map scalar_fold ns) ≡ ns
    same [] = refl
    same (n ∷ ns) = ap (λ ms. n ∷ ms) (same ns)

    none : (ns : List ℕ) → All (λ (f : ArrayId × Fold). f.1.basis.rows ≡ []) (map scalar_fold ns)
    none [] = All-nil (λ (f : ArrayId × Fold). f.1.basis.rows ≡ [])
    none (n ∷ ns) = All-cons (λ (f : ArrayId × Fold). f.1.basis.rows ≡ []) (scalar_fold n) (map scalar_fold ns) refl (none ns)

-- ---- Such have a text

replayed_is_valid : (source schedule certificate text report : List ℕ) → ReplaysTo source schedule certificate text report → IsValid source schedule certificate
replayed_is_valid source schedule certificate text report replayed = record {
  program = replayed.compiles.source;
  reads = replayed.compiles.source_reads;
  plain = replayed.plain;
  near = replayed.within.near;
  plan = replayed.plan;
  planned = replayed.planned;
  folds = replayed.shown;
  accepted = replayed.accepted;
}

module _ (times : FoldsKeepTimes) (scan : ProgramsScan) (same : SameLoopsScan) (named : FoldsWellNamed) (compiled : FoldsCompile) where
  is_replayed : (source schedule certificate : List ℕ) → IsValid source schedule certificate → (text : List ℕ) × ((report : List ℕ) × ReplaysTo source schedule certificate text report)
  is_replayed source schedule certificate v =
      let program : Program = v.program in
      let scalars = map scalar_fold (scalars_from 0 (nest_of program).arrays) in
      let folds = v.folds ++ scalars in
      let all : AreAll (nest_of program) v.folds folds = record { scalars = scalars; are_scalars = are_empty (scalars_from 0 (nest_of program).arrays); both = refl } in
      let has : HasNest program = record { plain = reads_plain source program v.reads v.plain; near = v.near } in
      let d = decided program v.plan certificate v.folds folds has (reads_naming_arrays source program v.reads) (reads_temporaries source program v.reads v.plain) (plan_scheduled program (Some schedule) v.plan v.planned) v.accepted all in
      let loops = has_loops source (Some schedule) program v.plan v.reads v.plain d.within v.planned in
      let own = scan program v.plan.schedule loops in
      let other = same program (folded_program program folds) v.plan.schedule own.0 loops (times program folds) own.1 in
      let text = printed_text other.0.program in
      let report = report_text program folds [] other.0.loose.items in
      let made : IsMadeOf program v.plan folds [] text report = record { scanned = other.0; scans = other.1; printed = refl; told = refl } in
      (text, (report, replays_to named compiled program v.plan schedule certificate text report v.planned (record { folds = folds; decided = d; made = made }) source v.reads v.plain))

  pub valid_is_replayed : ValidIsReplayed
  valid_is_replayed source schedule certificate = (is_replayed source schedule certificate, (λ h. replayed_is_valid source schedule certificate h.0 h.1.0 h.1.1))

-- ---- Nothing else is answered

module _ (source schedule certificate : List ℕ) (v : IsValid source schedule certificate) where
  same_tree : (tree : Program) → Reads source tree → tree ≡ v.program
  same_tree tree reads = one_tree limits_of source tree v.program reads v.reads

  accepts : (fault : AcceptFault) → HasAcceptFault source schedule certificate fault → fault ≡ accept.Memory
  accepts fault h =
      let same = same_tree h.of.tree h.of.reads in
      let planned : PlanReads schedule v.program h.of.plan = subst (λ t. PlanReads schedule t h.of.plan) same h.of.planned in
      accepted_is_not_refused (nest_of v.program) h.of.plan certificate v.folds fault (accepted_too schedule v.program (nest_of v.program) v.plan h.of.plan certificate v.folds v.planned planned v.accepted)
      (subst (λ t. AcceptRefuses (nest_of t) h.of.plan certificate fault) same h.refuses)

  no_fault : (fault : SchedFault) (text : List ℕ) (tree : Program) → Some schedule ≡ Some text → Reads source tree → IsFault text tree fault → PlanReads text v.program v.plan
  no_fault fault text tree given reads f = subst (λ t. PlanReads t v.program v.plan) (same_Some schedule text given) v.planned

pub valid_is_not_refused : ValidIsNotRefused
valid_is_not_refused source schedule certificate (Source fault) v (inl says) = absurd (says.is_fault (fault_is_memory source fault v.program says.answers v.reads))
valid_is_not_refused source schedule certificate (Source fault) v (inr says) =
    absurd (true≢false (sym v.plain.tests ∙ sym (ap has_joined_tests (same_tree source schedule certificate v says.is.tree says.is.reads)) ∙ says.is.tests))
valid_is_not_refused source schedule certificate (Printed place) v says =
    absurd (true≢false (sym says.with_prelude ∙ ap (λ (t : Program). t.prelude) (same_tree source schedule certificate v says.tree says.reads) ∙ v.plain.prelude))
valid_is_not_refused source schedule certificate (Schedule fault) v says =
    absurd
    (says.is_fault
    (excludes says.text v.program v.plan fault (no_fault source schedule certificate v fault says.text says.tree says.given says.reads says.answers)
    (subst (λ t. IsFault says.text t fault) (same_tree source schedule certificate v says.tree says.reads) says.answers)))
valid_is_not_refused source schedule certificate (IteratorRange statement loop) v says =
    absurd (none-some (statement, loop) (sym v.near ∙ ap first_wide (sym (same_tree source schedule certificate v says.0.of.tree says.0.of.reads)) ∙ says.0.is_fault))
valid_is_not_refused source schedule certificate (Certificate fault) v says = let e = accepts source schedule certificate v (accept.Certificate fault) says in absurd (cc)
valid_is_not_refused source schedule certificate (Check fault) v says = let e = accepts source schedule certificate v (accept.Check fault) says in absurd (cc)
valid_is_not_refused source schedule certificate Memory v says = refl
