-- What a certificate shows of a program's runs.
use Rattle.std.proofs.Common.{◌≡◌, ℤ, ◌∷◌, [], IsTrue, List, Some, None, refl, sym, ap, subst, inl, inr}
use Rattle.std.specs.Prelude.{slice_get}
use Rattle.affc_ast.specs.declared.tree.Instance.{Instance}
use Rattle.affc_ast.specs.declared.tree.Program.{Program}
use Rattle.affc_ast.specs.Store.{Element}
use Rattle.affc_ast.specs.Trace.{assignments, loads_of, store_of, events}
use Rattle.affc_trace.specs.Dataflow.{IsSource}
use Rattle.affc_trace.specs.Effects.{effect}
use Rattle.affc_trace.specs.Law.{IsIn}
use Rattle.affc_trace.specs.Laws.{IsInContext}
use Rattle.affc_trace.specs.Orders.{Touches}
use Rattle.affc_trace.specs.declared.schedule.Schedule.{Schedule}
use Rattle.affc_trace.proofs.Members.{to_first, to_second}
use Rattle.affc_domain.specs.Arrays.{declared_arrays}
use Rattle.affc_domain.specs.Ranges.{first_wide}
use Rattle.affc_domain.proofs.Lists.{place_of, stands_in}
use Rattle.affc_safe.specs.Safe.{LoadsWritten}
use Rattle.affc_safe.proofs.Accesses.{touches_are_accesses}
use Rattle.affc_nest.specs.Laws.{HasNest, NamesArrays}
use Rattle.affc_nest.specs.Nests.{nest_of}
use Rattle.affc_bounds.specs.Faults.{StaysWithin}
use Rattle.affc_quast.specs.Sources.{NameSources}
use Rattle.affc_quast.specs.Trees.{Tree}
use Rattle.affc_flow.specs.Laws.{AreWritten}
use Rattle.affc_flow.specs.Questions.{is_temporary}
use Rattle.affc_check.specs.list.Items.{FoldShown}
use Rattle.affc_check.specs.Laws.{IsShown}
use Rattle.affc_driver.specs.Plans.{WrittenThroughout}
use Rattle.affc_driver.proofs.Written.{load_at}
use Rattle.affc_replay.specs.Made.{HasOwnTemporaries}

-- what an instance touches is an event of it
touched : (program : Program) (p : List ℤ) (b : Instance) (x : Element) → Touches (effect program p) b x → IsIn x (events program p b)
touched program p b x (inl i) = to_first (loads_of program p b) (store_of program p b ∷ []) x i
touched program p b x (inr e) = to_second (loads_of program p b) (store_of program p b ∷ []) x (inl e)

-- each load of a temporary is written before, where the trees name its source
loads_written : (program : Program) (p : List ℤ) (trees : List Tree) → HasNest program → NamesArrays program → HasOwnTemporaries program → IsInContext program p → NameSources program p (nest_of program) trees
    → AreWritten program p (nest_of program) trees → LoadsWritten program p
loads_written program p trees has names own inside sources written b x runs loads far =
    let k = place_of (loads_of program p b) x loads in
    let load = load_at program p b k.0 x has inside runs k.1 in
    let r = touches_are_accesses program p b x runs (inl loads) in
    let d = names r.assignment r.access (stands_in (assignments program) b.statement r.assignment r.its_assignment) r.is_access in
    let number : x.0 ≡ r.access.0.0 = ap (λ (y : Element). y.0) r.is_element in
    let mine : IsTrue (is_temporary (nest_of program) x.0) = own.own x.0 d.0 (subst (λ n. slice_get (declared_arrays program) n ≡ Some d.0) (sym number) d.1) far in
    let temp : IsTrue (is_temporary (nest_of program) load.access.array.0) = subst (λ n. IsTrue (is_temporary (nest_of program) n)) (sym load.of_array) mine in
    let tree = sources b.statement k.0 load.entry load.there load.below in
    let w = written b.statement k.0 load.entry load.access tree.0 b load.there load.below load.at temp tree.1 refl runs in
    (w.0, subst (λ s. IsSource program p b x s) w.1 (tree.2 b x refl runs k.1))

module _ (program : Program) (schedule : Schedule) (trees : List Tree) (folds : List FoldShown) (shown : IsShown program schedule trees folds) where
  pub stays_within : first_wide program ≡ None → StaysWithin program
  stays_within near = record {
    near = near;
    some = shown.some;
    extents = λ p here. (shown.stays p here).extents;
    accesses = λ p here b x runs t. (shown.stays p here).accesses b x runs (touched program p b x t);
  }

  pub written_throughout : HasNest program → NamesArrays program → HasOwnTemporaries program → WrittenThroughout program
  written_throughout has names own p here = loads_written program p trees has names own here (shown.sources p here) (shown.written p here)
