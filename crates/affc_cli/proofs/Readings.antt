-- What a source, a schedule and a certificate read as.
use Rattle.std.proofs.Common.{◌≡◌, ℕ, List, Option, Some, ap, subst, ◌∙◌, inl, inr}
use Rattle.affc_ast.specs.declared.tree.Program.{Program}
use Rattle.affc_grammar.specs.Limits.{limits_of}
use Rattle.affc_grammar.specs.Reads.{Reads}
use Rattle.affc_grammar.proofs.Texts.{one_tree}
use Rattle.affc_parse.specs.declared.fault.ParseFault.{ParseFault}
use Rattle.affc_parse.proofs.Refusals.{fault_is_memory}
use Rattle.affc_nest.specs.Nests.{nest_of}
use Rattle.affc_schedtext.specs.declared.plan.Plan.{Plan}
use Rattle.affc_bounds.specs.threshold.Thresholds.{threshold}
use Rattle.affc_split.specs.Budgets.{Account}
use Rattle.affc_driver.specs.Accounts.{reaches, IsUnlimited, FoldsCertified}
use Rattle.affc_driver.specs.Plans.{HasPlan}
use Rattle.affc_driver.specs.Refusals.{IsSourceFault}
use Rattle.affc_driver.proofs.OnePlan.{one_threshold}
use Rattle.affc_replay.specs.Laws.{IsValid}

-- a text that reads has no fault
pub no_fault : (text : List ℕ) (fault : ParseFault) (program : Program) → Reads text program → IsSourceFault text fault → ⊥
no_fault text fault program reads says = says.is_fault (fault_is_memory text fault program says.answers reads)

-- whichever program and plan are read, the same budgets are plenty
pub same_plenty : (text : List ℕ) (order : Option (List ℕ)) (limit : Option ℕ) (program other : Program) (plan its_plan : Plan) → Reads text program → Reads text other
    → HasPlan program order plan → HasPlan other order its_plan → IsUnlimited program plan.schedule limit → IsUnlimited other its_plan.schedule limit
same_plenty text order limit program other plan its_plan reads its_reads planned its_planned (inl none) = inl none
same_plenty text order limit program other plan its_plan reads its_reads planned its_planned (inr plenty) =
    let tree : other ≡ program = one_tree limits_of text other program its_reads reads in
    let here : HasPlan program order its_plan = subst (λ t. HasPlan t order its_plan) tree its_planned in
    let same : threshold (nest_of other) its_plan.schedule ≡ threshold (nest_of program) plan.schedule =
    ap (λ t. threshold (nest_of t) its_plan.schedule) tree ∙ one_threshold (nest_of program) program order its_plan plan here planned in
    inr (ap (reaches limit) same ∙ plenty)

-- a certificate of folds that are made of a source and a schedule is a valid one of them
pub certified_is_valid : (Answers : List ℕ → ℕ → Type 0) (source schedule : List ℕ) (left : Account) (text report certificate : List ℕ)
    → FoldsCertified Answers source (Some schedule) left text report certificate → IsValid source schedule certificate
certified_is_valid Answers source schedule left text report certificate c =
    let r = c.folds_with.folds_to in
    record {
      program = r.compiles.source;
      reads = r.compiles.source_reads;
      plain = r.plain;
      near = r.within.near;
      plan = r.plan;
      planned = r.planned;
      folds = c.certified.shown;
      accepted = c.certified.accepted;
    }
