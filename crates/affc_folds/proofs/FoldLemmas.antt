-- The fold of an array, from what its moduli are.
use Rattle.std.proofs.Common.{◌≡◌, ℕ, ◌+◌, ◌-◌, ◌≤◌, ℤ, List, length, map, Some, refl, sym, ap, subst, ◌∙◌, arith}
use Rattle.std.specs.Prelude.{◌↔◌, slice_get}
use Rattle.std.specs.List.{All}
use Rattle.std.proofs.lemmas.List.Elements.{All-weaker}
use Rattle.affc_rows.specs.Forms.{Affine, HaveColumns}
use Rattle.affc_system.specs.ElementPairs.{IsPairOf}
use Rattle.affc_system.specs.Pairs.{IsSubscript}
use Rattle.affc_system.specs.declared.pairs.PairSystem.{PairSystem}
use Rattle.affc_ast.specs.declared.tree.Program.{Program}
use Rattle.affc_ast.specs.Meaning.{arrays_of}
use Rattle.affc_trace.specs.declared.schedule.Schedule.{Schedule}
use Rattle.affc_trace.specs.Dataflow.{LivePair}
use Rattle.affc_trace.specs.Laws.{IsInContext}
use Rattle.affc_trace.specs.Target.{numbers_in}
use Rattle.affc_domain.specs.Ranges.{number_ranges}
use Rattle.affc_basis.specs.declared.fold.Fold.{Fold}
use Rattle.affc_basis.specs.Folds.{forms_of, KeepsLimits, Obeys}
use Rattle.affc_basis.specs.Moduli.{Exceeds, IsModulus}
use Rattle.affc_domain.proofs.RangeLemmas.{numbers_are}
use Rattle.affc_nest.specs.declared.nest.ArrayInfo.{ArrayInfo}
use Rattle.affc_nest.specs.declared.nest.Nest.{Nest}
use Rattle.affc_nest.specs.Nests.{nest_of}
use Rattle.affc_order.specs.Asked.{IsScheduled}
use Rattle.affc_quast.specs.Trees.{Tree}
use Rattle.affc_conflicts.specs.Conditions.{InContext, IsNear, IsConflict}
use Rattle.affc_life.specs.Asked.{KeepLimits}
use Rattle.affc_life.specs.Clashes.{clash_of, clashes}
use Rattle.affc_life.specs.Laws.{AreShaped}
use Rattle.affc_life.specs.Sizes.{AnyLarge}
use Rattle.affc_life.proofs.ConflictLemmas.{clashes_are_conflicts}
use Rattle.affc_life.proofs.FoundLemmas.{found_trees_keep_limits}
use Rattle.affc_life.proofs.LiveLemmas.{clashes_are_live_pairs}
use Rattle.affc_life.proofs.SizeLemmas.{found_trees_are_never_large}
use Rattle.affc_folds.specs.Folding.{IsAnalysed, HasTrueMarks, IsFoldFor}
use Rattle.affc_folds.specs.Systems.{HavePairs}
use Rattle.affc_life.proofs.MarkLemmas.{exceeds_others, mark_of_others}
use Rattle.affc_life.proofs.NestLemmas.{near_ranges, to_context, from_context, HasForms, has_forms, is_temporary, arrays_in}

module _ (program : Program) (nest : Nest) (trees : List Tree) (schedule : Schedule) (a : IsAnalysed program nest trees schedule) where
  -- ---- What clash systems are asked of

  pub scheduled : IsScheduled nest schedule
  scheduled = record { program = program; has = a.has; is = a.is; fits = a.fits; slight = a.slight }

  pub trees_keep_limits : KeepLimits nest trees
  trees_keep_limits = found_trees_keep_limits nest trees a.found

  -- at the nest of the program
  at_program : IsAnalysed program (nest_of program) trees schedule
  at_program = subst (λ (n : Nest). IsAnalysed program n trees schedule) a.is a

  pub never_large : (array : ℕ) → AnyLarge (clashes nest trees schedule array) → ⊥
  never_large array h =
      found_trees_are_never_large program trees schedule array a.has a.named a.fits a.slight at_program.found (subst (λ (n : Nest). AnyLarge (clashes n trees schedule array)) a.is h)

  -- ---- What moduli are asked of

  pub as_many_ranges : length nest.params ≡ nest.context.columns
  as_many_ranges = subst (λ (n : Nest). length n.params ≡ n.context.columns) (sym a.is) refl

  pub near_parameters : All IsNear nest.params
  near_parameters = subst (λ (n : Nest). All IsNear n.params) (sym a.is) (near_ranges (number_ranges program.params) a.has.plain.ranges)

  pub some_in_context : (p : List ℤ) × InContext nest.context nest.params p
  some_in_context = (a.some.0, subst (λ (n : Nest). InContext n.context n.params a.some.0) (sym a.is) (to_context program a.has.plain a.some.0 a.some.1))

  -- ---- How many arrays there are

  pub arrays_are : length nest.arrays ≡ length (arrays_of program.params) + length program.temps
  arrays_are = subst (λ (n : Nest). length n.arrays ≡ length (arrays_of program.params) + length program.temps) (sym a.is) (arrays_in program)

  pub enough_arrays : length program.temps ≤ length nest.arrays
  enough_arrays = at_most (length nest.arrays) (length (arrays_of program.params)) (length program.temps) arrays_are
    where
      at_most : (n m t : ℕ) → n ≡ m + t → t ≤ n
      at_most n m t e = omega (arith, e)

  pub first_is : (first : ℕ) → first ≡ length nest.arrays - length program.temps → first ≡ length (arrays_of program.params)
  first_is first e = behind first (length nest.arrays) (length (arrays_of program.params)) (length program.temps) e arrays_are
    where
      behind : (k n m t : ℕ) → k ≡ n - t → n ≡ m + t → k ≡ m
      behind k n m t e f = omega (arith, e, f)

  module _ (array : ℕ) (info : ArrayInfo) (there : slice_get nest.arrays array ≡ Some info) where
    at_nest : slice_get (nest_of program).arrays array ≡ Some info
    at_nest = subst (λ (n : Nest). slice_get n.arrays array ≡ Some info) a.is there

    its_forms : HasForms (length (number_ranges program.params)) info
    its_forms = has_forms program a.has.plain array info at_nest

    pub few_dimensions : length info.extents ≤ 4
    few_dimensions = its_forms.few

    pub extents_are_forms : All (IsSubscript nest.context.columns) info.extents
    extents_are_forms = subst (λ (n : Nest). All (IsSubscript n.context.columns) info.extents) (sym a.is) its_forms.forms

    pub extent_widths : All (λ (e : Affine). length nest.params ≡ length e.coefs) info.extents
    extent_widths = All-weaker (IsSubscript nest.context.columns) (λ (e : Affine). length nest.params ≡ length e.coefs) (λ e s. as_many_ranges ∙ sym s.width) info.extents extents_are_forms

    module _ (systems : List PairSystem) (are : map clash_of systems ≡ clashes nest trees schedule array) where
      are_clashes : map clash_of systems ≡ clashes (nest_of program) trees schedule array
      are_clashes = are ∙ ap (λ (n : Nest). clashes n trees schedule array) a.is

      pub conflicts : All (IsConflict nest.context nest.params info.extents) systems
      conflicts =
          subst (λ (n : Nest). All (IsConflict n.context n.params info.extents) systems) (sym a.is)
          (clashes_are_conflicts program trees schedule array info systems a.has a.named a.fits a.slight at_program.found (λ p inside. (a.stays p inside, at_program.near p inside)) at_nest are_clashes)

      shaped : AreShaped (nest_of program) trees
      shaped statement load e tree at counts of_load = (found_trees_keep_limits (nest_of program) trees at_program.found statement load e tree at counts of_load).shaped

      live : (p : List ℤ) → IsInContext program p → (x y : List ℤ) → IsPairOf systems p x y ↔ LivePair program schedule array p x y
      live p inside x y = clashes_are_live_pairs program trees schedule array systems p x y a.has a.named a.fits shaped are_clashes inside (at_program.sources p inside)

      pub live_systems : HavePairs program (LivePair program schedule) nest array info.extents systems
      live_systems = record { conflicts = conflicts; same = live }

    -- ---- The fold

    module _ (pairs : ℕ → List ℤ → List ℤ → List ℤ → Type 0) (systems : List PairSystem) (l : HavePairs program pairs nest array info.extents systems) (fold : Fold) (rows : length fold.basis.rows ≡ length info.extents) (limits : All (IsModulus nest.context.columns) (forms_of fold.moduli)) where
      to_obey : ((p : List ℤ) → InContext nest.context nest.params p → Exceeds (IsPairOf systems p) p fold.basis.rows (forms_of fold.moduli)) → (p : List ℤ) → IsInContext program p
          → Obeys (pairs array p) fold p
      to_obey h p inside =
          exceeds_others (IsPairOf systems p) (pairs array p) (l.same p inside) p fold.basis.rows (forms_of fold.moduli)
          (h p (subst (λ (n : Nest). InContext n.context n.params p) (sym a.is) (to_context program a.has.plain p inside)))

      true_marks : HasTrueMarks (InContext nest.context nest.params) (IsPairOf systems) fold → HasTrueMarks (IsInContext program) (pairs array) fold
      true_marks h k row m at at_m =
          mark_of_others (InContext nest.context nest.params) (IsInContext program) (IsPairOf systems) (pairs array)
          (λ p i. from_context program a.has.plain p (subst (λ (n : Nest). InContext n.context n.params p) a.is i))
          (λ p i. subst (λ (n : Nest). InContext n.context n.params p) (sym a.is) (to_context program a.has.plain p i)) l.same fold.basis.rows k row m.form m.mark (h k row m at at_m)

      limited : KeepsLimits (numbers_in program.params) fold
      limited = subst (λ n. All (IsModulus n) (forms_of fold.moduli)) (ap (λ (n : Nest). n.context.columns) a.is ∙ sym (numbers_are program.params)) limits

      pub fold_made : length (arrays_of program.params) ≤ array
          → ((p : List ℤ) → InContext nest.context nest.params p → Exceeds (IsPairOf systems p) p fold.basis.rows (forms_of fold.moduli))
          → HasTrueMarks (InContext nest.context nest.params) (IsPairOf systems) fold → IsFoldFor program pairs array fold
      fold_made temporary obeys marks =
          let t = is_temporary program array info at_nest temporary in
          record {
            in_program = record { number = t.number; decl = t.decl; stands = t.stands; behind = t.behind; rows = rows ∙ t.dimensions; moduli = widths (forms_of fold.moduli) limited };
            limits = limited;
            obeys = to_obey obeys;
            marks = true_marks marks;
          }
        where
          widths : (bs : List Affine) → All (IsModulus (numbers_in program.params)) bs → HaveColumns (numbers_in program.params) bs
          widths bs h = All-weaker (IsModulus (numbers_in program.params)) (λ b. length b.coefs ≡ numbers_in program.params) (λ b i. i.width) bs h
