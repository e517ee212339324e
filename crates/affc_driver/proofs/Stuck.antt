-- A program that leaves its arrays, or loads what nothing stores, is stuck, and no data fit an empty context.
use Rattle.std.proofs.Common.{◌≡◌, subst}
use Rattle.affc_ast.specs.declared.tree.Program.{Program}
use Rattle.affc_grammar.specs.Limits.{limits_of}
use Rattle.affc_grammar.proofs.Texts.{one_tree}
use Rattle.affc_domain.specs.Plain.{IsPlain}
use Rattle.affc_plain.proofs.Programs.{reads_plain}
use Rattle.affc_bounds.specs.Faults.{IsMeaningFault}
use Rattle.affc_bounds.specs.Laws.{IsStuckAt}
use Rattle.affc_bounds.specs.declared.fault.MeaningFault.{MeaningFault}
use Rattle.affc_bounds.specs.declared.fault.MeaningFault.TheVariants.{IteratorRange, Context, Extent, Bounds}
use Rattle.affc_bounds.proofs.LawProofs.{narrow_is_stuck, outside_is_stuck}
use Rattle.affc_driver.specs.Laws.{ShowsInRuns, FaultsShow, UnwrittenShows}
use Rattle.affc_driver.proofs.Roles.{reads_roles}
use Rattle.affc_driver.proofs.Written.{unwritten_is_stuck}

shows : (program : Program) (fault : MeaningFault) → IsPlain program → IsMeaningFault program fault → ShowsInRuns program fault
shows program (IteratorRange statement loop) plain h = tt
shows program Context plain h = λ p store fits. h.1 p (record { ranges = fits.ranges; context = fits.context })
shows program (Extent array p) plain h = narrow_is_stuck program p array.0 plain h.1.narrow
shows program (Bounds array access p here) plain h = outside_is_stuck program p here access plain h.first.outside

pub faults_show : FaultsShow
faults_show text schedule program fault reads has =
    let same : has.of.tree ≡ program = one_tree limits_of text has.of.tree program has.of.reads reads in
    subst (λ t. ShowsInRuns t fault) same (shows has.of.tree fault (reads_plain text has.of.tree has.of.reads has.of.plain) has.is_fault)

pub unwritten_shows : UnwrittenShows
unwritten_shows text schedule program array access p instance reads has =
    let tree = has.of.tree in
    let same : tree ≡ program = one_tree limits_of text tree program has.of.reads reads in
    subst (λ t. IsStuckAt t p) same
    (unwritten_is_stuck tree array access p instance (reads_plain text tree has.of.reads has.of.plain) (reads_roles text tree has.of.reads has.of.plain) has.loads)
