-- A text is folded exactly where its program is never stuck, and its schedule is legal; then nothing but want
-- of budget or of memory is in the way. So it is of its trees, without a schedule.
use Rattle.std.proofs.Common.{◌≡◌, ℕ, ◌<◌, ◌≤◌, ℤ, true≢false, List, length, Option, Some, None, refl, sym, ap, subst, ◌∙◌, inl, inr, arith}
use Rattle.std.specs.Prelude.{slice_get}
use Rattle.std.proofs.lemmas.Bool.{leb-true}
use Rattle.std.proofs.lemmas.Option.{none-some, same_Some}
use Rattle.affc_ast.specs.declared.tree.ArrayId.{ArrayId}
use Rattle.affc_ast.specs.declared.tree.Instance.{Instance}
use Rattle.affc_ast.specs.declared.tree.Program.{Program}
use Rattle.affc_grammar.specs.Limits.{limits_of}
use Rattle.affc_grammar.specs.Reads.{Reads}
use Rattle.affc_grammar.proofs.Texts.{one_tree}
use Rattle.affc_parse.specs.declared.fault.ParseFault.{ParseFault}
use Rattle.affc_parse.proofs.Refusals.{fault_is_memory}
use Rattle.affc_cprint.specs.Layout.{printed_text}
use Rattle.affc_ast.specs.Trace.{loads_of}
use Rattle.affc_trace.specs.Dataflow.{LivePair}
use Rattle.affc_trace.specs.Laws.{IsInContext}
use Rattle.affc_trace.specs.Orders.{Earlier}
use Rattle.affc_domain.proofs.Lists.{stands_in}
use Rattle.affc_plain.proofs.NoLocals.{plain_has_no_locals}
use Rattle.affc_plain.proofs.Programs.{reads_plain}
use Rattle.affc_safe.specs.Safe.{IsSafe}
use Rattle.affc_safe.proofs.EndedSafe.{unwritten_instance}
use Rattle.affc_safe.proofs.FitsThere.{never_stuck_is_safe}
use Rattle.affc_nest.specs.Nests.{nest_of}
use Rattle.affc_loopends.specs.scanned.Laws.{SameLoopsScan}
use Rattle.affc_loopends.specs.bounding.Laws.{ProgramsScan}
use Rattle.affc_split.specs.Budgets.{Account}
use Rattle.affc_basis.specs.declared.fold.Fold.{Fold}
use Rattle.affc_rewrite.specs.Rewrite.{folded_program}
use Rattle.affc_foldprint.specs.Laws.{FoldsWellNamed, FoldsKeepTimes, FoldsCompile}
use Rattle.affc_basis.specs.declared.basis.Basis.{Basis}
use Rattle.affc_basis.specs.Listed.{Shape, listing}
use Rattle.affc_weigh.specs.declared.choice.Choice.{Choice}
use Rattle.affc_weigh.specs.declared.choice.Price.{Price}
use Rattle.affc_weigh.proofs.Tops.{beside}
use Rattle.affc_life.specs.Folding.{given_for}
use Rattle.affc_folds.specs.Folding.{IsSpent, IsTaken, IsChoice}
use Rattle.affc_folds.specs.Laws.{AnswersModuli}
use Rattle.affc_folds.proofs.AllFolds.{folds_exist}
use Rattle.affc_folds.proofs.CheapestLemmas.{none_costs_less}
use Rattle.affc_bounds.specs.Faults.{StaysWithin, IsMeaningFault}
use Rattle.affc_bounds.proofs.LawProofs.{faults_do_not_stay}
use Rattle.affc_bounds.specs.declared.fault.MeaningFault.{MeaningFault}
use Rattle.affc_schedtext.specs.declared.plan.Plan.{Plan}
use Rattle.affc_schedtext.specs.declared.plan.SchedFault.{SchedFault}
use Rattle.affc_schedtext.specs.Answers.{IsFault}
use Rattle.affc_schedtext.proofs.Excludes.{excludes}
use Rattle.affc_legal.specs.Violations.{IsViolation}
use Rattle.affc_dataflow.specs.Unwritten.{LoadsUnwritten}
use Rattle.affc_bounds.specs.threshold.Thresholds.{threshold}
use Rattle.affc_driver.specs.Accounts.{free, reaches, IsUnlimited, IsShort}
use Rattle.affc_driver.specs.Folds.{FoldsTo}
use Rattle.affc_driver.specs.Laws.{IllegalShows, UnlimitedFoldsAll, NoneIsCheaper, AreFull, IsFoldable, FoldableIsFolded, FoldedIsFoldable, FoldableIsNotRefused, UnlimitedIsNotRefused, IsSound, FlowsAreSound, SoundIsNotRefused}
use Rattle.affc_driver.specs.Plans.{HasPlan, WrittenThroughout}
use Rattle.affc_ast.specs.Joined.{has_joined_tests}
use Rattle.affc_driver.specs.Refusals.{IsSourceRefused, IsPrinted, HasSchedFault, HasMeaningFault, HasUnwritten, IsIllegal}
use Rattle.affc_driver.specs.Reports.{report_text}
use Rattle.affc_driver.specs.declared.refusal.Refusal.TheVariants.{Source, Printed, Schedule, Meaning, Unwritten, Illegal, Budget, Memory}
use Rattle.affc_driver.proofs.Compiled.{within_never_stuck, named_is_written, printed_compiles, has_loops}
use Rattle.affc_driver.proofs.Counted.{nothing_counted}
use Rattle.affc_driver.proofs.Folded.{stays_at}
use Rattle.affc_driver.proofs.OnePlan.{one_target, one_threshold}
use Rattle.affc_driver.proofs.Roles.{reads_roles, temporary_far}

-- ---- A program that is never stuck

abbrev sound_of : (text : List ℕ) (schedule : Option (List ℕ)) → IsFoldable text schedule → IsSound text
sound_of text schedule f = record { program = f.program; reads = f.reads; plain = f.plain; near = f.near; some = f.some; never_stuck = f.never_stuck }

safe_at : (text : List ℕ) (s : IsSound text) (p : List ℤ) → IsInContext s.program p → IsSafe s.program p
safe_at text s p here = never_stuck_is_safe s.program p (plain_has_no_locals s.program (reads_plain text s.program s.reads s.plain)) here (s.never_stuck p)

stays_within : (text : List ℕ) (s : IsSound text) → StaysWithin s.program
stays_within text s = record {
  near = s.near;
  some = s.some;
  extents = λ p here. (safe_at text s p here).extents;
  accesses = λ p here. (safe_at text s p here).within;
}

is_written : (text : List ℕ) (s : IsSound text) → WrittenThroughout s.program
is_written text s p here = (safe_at text s p here).written

-- ---- Such texts are folded

pub folded_is_foldable : (Answers : List ℕ → ℕ → Type 0) → FoldedIsFoldable Answers
folded_is_foldable Answers text schedule budget folded report folds =
    let program : Program = folds.compiles.source in
    let reads : Reads text program = folds.compiles.source_reads in
    record {
      program = program;
      reads = reads;
      plain = folds.plain;
      near = folds.within.near;
      some = folds.within.some;
      never_stuck = within_never_stuck text program reads folds.plain folds.within folds.written;
      plan = folds.plan;
      planned = folds.planned;
      legal = folds.legal;
    }

unlimited : (budget : Account) → budget.limit ≡ None → ¬ (IsSpent budget)
unlimited budget none spent = absurd (none-some spent.most (sym none ∙ spent.limit))

-- a price is missing only where no unit is left
module _ (Answers : List ℕ → ℕ → Type 0) where
  no_price : (program : Program) (pairs : ℕ → List ℤ → List ℤ → List ℤ → Type 0) (bases : List (ArrayId × Basis)) (budget : Account) (array : ℕ) (fold : Fold) (choice : Choice) (given : Option Shape) (j : ℕ)
      → IsTaken given Answers program pairs budget array fold choice → slice_get choice.prices j ≡ Some None → IsSpent budget
  no_price program pairs bases budget array fold choice (Some shape) j taken at = absurd (none-some {A = Option Price} None (ap (λ ps. slice_get ps j) (sym taken.1) ∙ at))
  no_price program pairs bases budget array fold choice None j taken at =
      let s = beside choice.prices (listing (length fold.basis.rows)) j None (sym taken.prices.one_each) at in
      taken.prices.each j s.0 None s.1 at

  full : (text : List ℕ) (schedule : Option (List ℕ)) (budget : Account) (folded report : List ℕ) (r : FoldsTo Answers text schedule budget folded report) → budget.limit ≡ None → AreFull r.compiles.source r.folds r.choices
  full text schedule budget folded report r none = (
    λ whole. unlimited budget none (r.are_folds.whole whole),
    λ array fold is has. unlimited budget none (r.are_folds.bound array fold is has),
    λ array fold choice j is at missing.
        let c = r.are_folds.chosen array fold is in
        let same : c.choice ≡ choice = same_Some c.choice choice (sym c.found ∙ at) in
        unlimited budget none
        (no_price r.compiles.source (LivePair r.compiles.source r.plan.schedule) r.plan.folds budget array fold choice (given_for r.plan.folds array (length fold.basis.rows)) j
        (subst (λ (d : Choice). IsTaken (given_for r.plan.folds array (length fold.basis.rows)) Answers r.compiles.source (LivePair r.compiles.source r.plan.schedule) budget array fold d) same c.is.taken) missing),
  )

  pub unlimited_folds_all : UnlimitedFoldsAll Answers
  unlimited_folds_all text schedule left folded report h plenty =
      let r = h.folds_to in
      full text schedule h.account folded report r (nothing_counted h.account left (threshold (nest_of r.compiles.source) r.plan.schedule) h.counted plenty)

  pub none_is_cheaper : NoneIsCheaper Answers
  none_is_cheaper text schedule budget folded report never r array fold choice is at given settled other cost like costs =
      let c = r.are_folds.chosen array fold is in
      let same : c.choice ≡ choice = same_Some c.choice choice (sym c.found ∙ at) in
      none_costs_less Answers (LivePair r.compiles.source r.plan.schedule) r.compiles.source r.plan.folds budget array fold choice (reads_plain text r.compiles.source r.compiles.source_reads r.plain) never
      (subst (IsChoice Answers r.compiles.source (LivePair r.compiles.source r.plan.schedule) r.plan.folds budget array fold) same c.is) given settled other cost like costs

module _ (times : FoldsKeepTimes) (scan : ProgramsScan) (same : SameLoopsScan) (named : FoldsWellNamed) (compiled : FoldsCompile) (Answers : List ℕ → ℕ → Type 0) where
  is_folded : AnswersModuli Answers → (text : List ℕ) (schedule : Option (List ℕ)) → IsFoldable text schedule → (folded : List ℕ) × ((report : List ℕ) × FoldsTo Answers text schedule free folded report)
  is_folded answers text schedule f =
      let stays = stays_within text (sound_of text schedule f) in
      let plain = reads_plain text f.program f.reads f.plain in
      let all = folds_exist Answers f.program f.plan.schedule f.plan.folds (record { plain = plain; near = f.near }) f.some (stays_at f.program stays) answers in
      let has = has_loops text schedule f.program f.plan f.reads f.plain stays f.planned in
      let own = scan f.program f.plan.schedule has in
      let other = same f.program (folded_program f.program all.0) f.plan.schedule own.0 has (times f.program all.0) own.1 in (
        printed_text other.0.program,
        (
          report_text f.program all.0 all.1.0 other.0.loose.items,
          printed_compiles named compiled Answers text schedule f.program f.plan free all.0 all.1.0 other.0 f.reads f.plain stays (is_written text (sound_of text schedule f)) f.planned f.legal (all.1.1 free) other.1,
        ),
      )

  pub foldable_is_folded : FoldableIsFolded Answers
  foldable_is_folded answers text schedule = (
    λ f. (let r = is_folded answers text schedule f in (r.0, (r.1.0, record { folds_to = r.1.1; full = full Answers text schedule free r.0 r.1.0 r.1.1 refl }))),
    λ h. folded_is_foldable Answers text schedule free h.0 h.1.0 h.1.1.folds_to,
  )

pub flows_are_sound : FlowsAreSound
flows_are_sound text told f = record {
  program = f.program;
  reads = f.reads;
  plain = f.plain;
  near = f.within.near;
  some = f.within.some;
  never_stuck = within_never_stuck text f.program f.reads f.plain f.within (named_is_written text f.program f.trees f.reads f.plain f.within f.named);
}

-- ---- What is shown of a schedule that isn't legal

same_violation : (schedule : Option (List ℕ)) (program tree : Program) (plan its_plan : Plan) (p : List ℤ) (a b : Instance) → tree ≡ program
    → HasPlan program schedule plan → HasPlan tree schedule its_plan → IsViolation tree its_plan.schedule p a b → IsViolation program plan.schedule p a b
same_violation schedule program tree plan its_plan p a b same planned its_planned v =
    let here : HasPlan program schedule its_plan = subst (λ t. HasPlan t schedule its_plan) same its_planned in
    let found : IsViolation program its_plan.schedule p a b = subst (λ t. IsViolation t its_plan.schedule p a b) same v in
    record {
      context = found.context;
      violates = record {
        different = found.violates.different;
        dependent = found.violates.dependent;
        earlier = found.violates.earlier;
        not_earlier = λ e. found.violates.not_earlier (subst (λ is. Earlier is a b) (one_target program schedule plan its_plan planned here p) e);
      };
    }

pub illegal_shows : IllegalShows
illegal_shows text schedule program plan p a b reads planned says =
    same_violation schedule program says.of.tree plan says.of.plan p a b (one_tree limits_of text says.of.tree program says.of.reads reads) planned says.of.planned says.first.violation

-- ---- They aren't refused

-- the text reads as no other program
same_tree : (text : List ℕ) (s : IsSound text) (tree : Program) → Reads text tree → tree ≡ s.program
same_tree text s tree reads = one_tree limits_of text tree s.program reads s.reads

no_source_fault : (text : List ℕ) (fault : ParseFault) → IsSound text → IsSourceRefused text fault → ⊥
no_source_fault text fault s (inl says) = says.is_fault (fault_is_memory text fault s.program says.answers s.reads)
no_source_fault text fault s (inr says) = true≢false (sym s.plain.tests ∙ sym (ap has_joined_tests (same_tree text s says.is.tree says.is.reads)) ∙ says.is.tests)

not_printed : (text : List ℕ) (place : ℕ) → IsSound text → IsPrinted text place → ⊥
not_printed text place s says = true≢false (sym says.with_prelude ∙ ap (λ (t : Program). t.prelude) (same_tree text s says.tree says.reads) ∙ s.plain.prelude)

no_meaning_fault : (text : List ℕ) (schedule : Option (List ℕ)) (fault : MeaningFault) → IsSound text → HasMeaningFault text schedule fault → ⊥
no_meaning_fault text schedule fault s says =
    faults_do_not_stay s.program fault (subst (λ t. IsMeaningFault t fault) (same_tree text s says.of.tree says.of.reads) says.is_fault) (stays_within text s)

not_unwritten : (text : List ℕ) (schedule : Option (List ℕ)) (array access : ℕ) (p : List ℤ) (b : Instance) → IsSound text → HasUnwritten text schedule array access p b → ⊥
not_unwritten text schedule array access p b s says =
    let program = s.program in
    let u : LoadsUnwritten program array access p b = subst (λ t. LoadsUnwritten t array access p b) (same_tree text s says.of.tree says.of.reads) says.loads in
    unwritten_instance program p b u.element u.runs (stands_in (loads_of program p b) access u.element u.loaded) (temporary_far program (reads_roles text program s.reads s.plain) u.element.0 u.temporary) u.none
    (safe_at text s p u.context)

no_sched_fault : (text : List ℕ) (schedule : Option (List ℕ)) (fault : SchedFault) → IsFoldable text schedule → HasSchedFault text schedule fault → ⊥
no_sched_fault text schedule fault f says =
    let reads = subst (λ s. HasPlan f.program s f.plan) says.given f.planned in
    says.is_fault (excludes says.text f.program f.plan fault reads (subst (λ t. IsFault says.text t fault) (same_tree text (sound_of text schedule f) says.tree says.reads) says.answers))

not_illegal : (text : List ℕ) (schedule : Option (List ℕ)) (p : List ℤ) (a b : Instance) → IsFoldable text schedule → IsIllegal text schedule p a b → ⊥
not_illegal text schedule p a b f says =
    let v = illegal_shows text schedule f.program f.plan p a b f.reads f.planned says in
    v.violates.not_earlier (f.legal p v.context a b v.violates.different v.violates.dependent v.violates.earlier)

pub foldable_is_not_refused : FoldableIsNotRefused
foldable_is_not_refused text schedule (Source fault) f says = absurd (no_source_fault text fault (sound_of text schedule f) says)
foldable_is_not_refused text schedule (Printed place) f says = absurd (not_printed text place (sound_of text schedule f) says)
foldable_is_not_refused text schedule (Schedule fault) f says = absurd (no_sched_fault text schedule fault f says)
foldable_is_not_refused text schedule (Meaning fault) f says = absurd (no_meaning_fault text schedule fault (sound_of text schedule f) says)
foldable_is_not_refused text schedule (Unwritten array access p b) f says = absurd (not_unwritten text schedule array.0 access p b (sound_of text schedule f) says)
foldable_is_not_refused text schedule (Illegal p a b) f says = absurd (not_illegal text schedule p a b f says)
foldable_is_not_refused text schedule Budget f says = inl refl
foldable_is_not_refused text schedule Memory f says = inr refl

not_short : (text : List ℕ) (schedule : Option (List ℕ)) (limit : Option ℕ) (f : IsFoldable text schedule) → IsUnlimited f.program f.plan.schedule limit → IsShort text schedule limit → ⊥
not_short text schedule limit f (inl none) short = absurd (none-some short.most (sym none ∙ short.limited))
not_short text schedule limit f (inr plenty) short =
    let tree = one_tree limits_of text short.of.tree f.program short.of.reads f.reads in
    let here : HasPlan f.program schedule short.of.plan = subst (λ t. HasPlan t schedule short.of.plan) tree short.of.planned in
    let same = one_threshold (nest_of f.program) f.program schedule f.plan short.of.plan f.planned here ∙ ap (λ t. threshold (nest_of t) short.of.plan.schedule) (sym tree) in
    let reached = leb-true (threshold (nest_of f.program) f.plan.schedule) short.most (sym (ap (λ l. reaches l (threshold (nest_of f.program) f.plan.schedule)) short.limited) ∙ plenty) in
    no_less (threshold (nest_of f.program) f.plan.schedule) (threshold (nest_of short.of.tree) short.of.plan.schedule) short.most same reached short.below
  where
    no_less : (n m most : ℕ) → n ≡ m → n ≤ most → most < m → ⊥
    no_less n m most e f g = omega arith

pub unlimited_is_not_refused : UnlimitedIsNotRefused
unlimited_is_not_refused text schedule limit refusal f plenty says short = elim (foldable_is_not_refused text schedule refusal f says) [
  | inl budget ↦ absurd (not_short text schedule limit f plenty (short budget))
  | inr memory ↦ memory
]

pub sound_is_not_refused : SoundIsNotRefused
sound_is_not_refused text (Source fault) s says = absurd (no_source_fault text fault s says)
sound_is_not_refused text (Printed place) s says = absurd (not_printed text place s says)
sound_is_not_refused text (Schedule fault) s says = absurd says
sound_is_not_refused text (Meaning fault) s says = absurd (no_meaning_fault text None fault s says)
sound_is_not_refused text (Unwritten array access p b) s says = absurd (not_unwritten text None array.0 access p b s says)
sound_is_not_refused text (Illegal p a b) s says = absurd says
sound_is_not_refused text Budget s says = inl refl
sound_is_not_refused text Memory s says = inr refl
