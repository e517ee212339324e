-- Each example computes.
use Rattle.std.proofs.Common.{◌≡◌, ◌∙◌, ap, ◌++◌, Some, refl, sym, subst, ℤ, List, [], ◌∷◌, Result, Ok, Err, inl, inr, lit≤}
use denote.Hole.Carrier.{hidden}
use Rattle.affc_ast.specs.declared.tree.Ix.TheBlock.{shape-the_row-Ix-0, hidden-the_row-Ix-0}
use Rattle.affc_ast.specs.declared.tree.Val.TheBlock.{shape-the_row-Val-0, hidden-the_row-Val-0}
use Rattle.affc_ast.specs.declared.tree.Cond.TheBlock.{shape-the_row-Cond-0, hidden-the_row-Cond-0}
use Rattle.affc_ast.specs.declared.tree.Stmt.TheBlock.{shape-the_row-Stmt-0, hidden-the_row-Stmt-0}
use Rattle.std.specs.Prelude.{slice_get}
use Rattle.std.proofs.lemmas.Option.{same_Some}
use Rattle.affc_ast.specs.declared.tree.Decl.{Decl}
use Rattle.affc_ast.specs.declared.tree.Instance.{Instance}
use Rattle.affc_ast.specs.declared.tree.Program.{Program}
use Rattle.affc_ast.specs.Cause.{Cause}
use Rattle.affc_ast.specs.Trace.{Assignment, assignments, trace}
use Rattle.affc_trace.specs.Law.{IsIn}
use Rattle.affc_domain.specs.Arrays.{declared_arrays}
use Rattle.affc_safe.specs.Overflow.{AreReadable, ReadsAssignment}
use Rattle.affc_trace.specs.Examples.{blur, S0}
use Rattle.affc_trace.specs.Laws.{IsInContext}
use Rattle.affc_safe.specs.Examples.{at}
use Rattle.affc_safe.specs.OverflowExamples.{BlurIsPlain, BlurEnds, IteratorsKeepNear, NeverEntered, BoundsArePlain, ConditionsArePlain, SixteenNames, ParametersKeepNear, WideAssignments, WideExtents, everywhere, NothingOverflows}
use Rattle.affc_safe.proofs.ExampleProofs.{blur_is_safe}
use Rattle.affc_safe.proofs.FitsThere.{some_store_fits}
use Rattle.affc_safe.proofs.SafeLaws.{safe_runs}

abbrev IsOk : {A : Type 0} → Result A Cause → Type 0
IsOk (Ok x) = Unit {0}
IsOk (Err cause) = ⊥

-- what is stuck has no value
no_value : {A : Type 0} (cause : Cause) (x : A) → ◌≡◌ {A = Result A Cause} (Err cause) (Ok x) → ⊥
no_value cause x e = subst IsOk (sym e) tt

pub blur_is_plain : BlurIsPlain
unfolding shape-the_row-Ix-0 hidden-the_row-Ix-0 shape-the_row-Val-0 hidden-the_row-Val-0 shape-the_row-Stmt-0 hidden-the_row-Stmt-0 shape-the_row-Cond-0 hidden-the_row-Cond-0 hidden
blur_is_plain = (
  record {
    few_numbers = lit≤ tt;
    ranges = refl;
    few_conditions = lit≤ tt;
    context = refl;
    arrays = refl;
    temps = refl;
    body = refl;
    full = refl;
    tests = refl;
    few_assignments = lit≤ tt;
  },
  refl,
  refl,
)

inside : IsInContext blur (at 2)
unfolding shape-the_row-Ix-0 hidden-the_row-Ix-0 shape-the_row-Val-0 hidden-the_row-Val-0 shape-the_row-Stmt-0 hidden-the_row-Stmt-0 shape-the_row-Cond-0 hidden-the_row-Cond-0 hidden
inside = record { ranges = refl; context = refl }

pub blur_ends : BlurEnds
blur_ends = (some_store_fits blur (at 2) inside, λ store fits. safe_runs blur (at 2) store blur_is_plain.0 blur_is_plain.1 fits blur_is_safe.0)

pub iterators_keep_near : IteratorsKeepNear
unfolding shape-the_row-Ix-0 hidden-the_row-Ix-0 shape-the_row-Val-0 hidden-the_row-Val-0 shape-the_row-Stmt-0 hidden-the_row-Stmt-0 shape-the_row-Cond-0 hidden-the_row-Cond-0 hidden
iterators_keep_near = (refl, refl, refl, refl, refl, refl, refl, refl, refl, refl)

pub never_entered : NeverEntered
unfolding shape-the_row-Ix-0 hidden-the_row-Ix-0 shape-the_row-Val-0 hidden-the_row-Val-0 shape-the_row-Stmt-0 hidden-the_row-Stmt-0 shape-the_row-Cond-0 hidden-the_row-Cond-0 hidden
never_entered = (refl, refl)

pub bounds_are_plain : BoundsArePlain
unfolding shape-the_row-Ix-0 hidden-the_row-Ix-0 shape-the_row-Val-0 hidden-the_row-Val-0 shape-the_row-Stmt-0 hidden-the_row-Stmt-0 shape-the_row-Cond-0 hidden-the_row-Cond-0 hidden
bounds_are_plain = (refl, refl, refl, refl)

pub conditions_are_plain : ConditionsArePlain
unfolding shape-the_row-Ix-0 hidden-the_row-Ix-0 shape-the_row-Val-0 hidden-the_row-Val-0 shape-the_row-Stmt-0 hidden-the_row-Stmt-0 shape-the_row-Cond-0 hidden-the_row-Cond-0 hidden
conditions_are_plain = (refl, refl, refl, refl)

pub sixteen_names : SixteenNames
unfolding shape-the_row-Ix-0 hidden-the_row-Ix-0 shape-the_row-Val-0 hidden-the_row-Val-0 shape-the_row-Stmt-0 hidden-the_row-Stmt-0 shape-the_row-Cond-0 hidden-the_row-Cond-0 hidden
sixteen_names = (refl, refl, refl, refl)

pub parameters_keep_near : ParametersKeepNear
unfolding shape-the_row-Ix-0 hidden-the_row-Ix-0 shape-the_row-Val-0 hidden-the_row-Val-0 shape-the_row-Stmt-0 hidden-the_row-Stmt-0 shape-the_row-Cond-0 hidden-the_row-Cond-0 hidden
parameters_keep_near = (refl, refl, refl)

pub wide_assignments : WideAssignments
unfolding shape-the_row-Ix-0 hidden-the_row-Ix-0 shape-the_row-Val-0 hidden-the_row-Val-0 shape-the_row-Stmt-0 hidden-the_row-Stmt-0 shape-the_row-Cond-0 hidden-the_row-Cond-0 hidden
wide_assignments = (
  λ h. no_value _ _ ((h.assignments (S0 0) _ (inl refl) refl).subs.0 0),
  λ h. no_value _ _ ((h.assignments (S0 0) _ (inl refl) refl).value.1.0 0),
  λ h. no_value _ _ ((h.assignments (S0 0) _ (inl refl) refl).value 0),
  λ h. no_value _ _ ((h.assignments (S0 0) _ (inl refl) refl).value.1 0),
  λ h. no_value _ _ ((h.assignments (S0 0) _ (inl refl) refl).value.0 0),
)

pub wide_extents : WideExtents
unfolding shape-the_row-Ix-0 hidden-the_row-Ix-0 shape-the_row-Val-0 hidden-the_row-Val-0 shape-the_row-Stmt-0 hidden-the_row-Stmt-0 shape-the_row-Cond-0 hidden-the_row-Cond-0 hidden
wide_extents = λ h. no_value _ _ ((h.extents _ (inr (inr (inl refl)))).1.0 0)

-- one after the other
abbrev EachReadable : List Decl → List ℤ → Type 0
EachReadable [] p = Unit {0}
EachReadable (d ∷ ds) p = AreReadable d.extents p × EachReadable ds p

each_readable : (ds : List Decl) (p : List ℤ) → EachReadable ds p → (d : Decl) → IsIn d ds → AreReadable d.extents p
each_readable [] p h d i = absurd i
each_readable (c ∷ ds) p h d (inl e) = subst (λ d. AreReadable d.extents p) (sym e) h.0
each_readable (c ∷ ds) p h d (inr i) = each_readable ds p h.1 d i

one_instance : (program : Program) (p : List ℤ) (c : Instance) (d : Assignment) → trace program p ≡ c ∷ [] → slice_get (assignments program) c.statement ≡ Some d → ReadsAssignment d (p ++ c.iterators)
    → (b : Instance) (a : Assignment) → IsIn b (trace program p) → slice_get (assignments program) b.statement ≡ Some a → ReadsAssignment a (p ++ b.iterators)
one_instance program p c d whole here reads b a i e = by (subst (IsIn b) whole i)
  where
    by : IsIn b (c ∷ []) → ReadsAssignment a (p ++ b.iterators)
    by (inl q) =
        let same : d ≡ a = same_Some d a (sym here ∙ ap (λ (c : Instance). slice_get (assignments program) c.statement) (sym q) ∙ e) in
        subst (λ (c : Instance). ReadsAssignment a (p ++ c.iterators)) (sym q) (subst (λ a. ReadsAssignment a (p ++ c.iterators)) same reads)
    by (inr none) = absurd none

pub nothing_overflows : NothingOverflows
unfolding shape-the_row-Ix-0 hidden-the_row-Ix-0 shape-the_row-Val-0 hidden-the_row-Val-0 shape-the_row-Stmt-0 hidden-the_row-Stmt-0 shape-the_row-Cond-0 hidden-the_row-Cond-0 hidden
nothing_overflows = record {
  near = refl;
  extents = each_readable (declared_arrays everywhere) (at 1) (((λ node. refl), tt), (((λ node. refl), tt), (((λ node. refl), ((λ node. refl), tt)), tt)));
  assignments = one_instance everywhere (at 1) (S0 0) _ refl refl (record { subs = ((λ node. refl), tt); value = (((λ node. refl), ((λ node. refl), tt)), (λ node. refl)) });
}
