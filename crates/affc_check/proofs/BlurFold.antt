-- A fold of the blur's temporary.
use Rattle.std.proofs.Common.{◌≡◌, ℕ, suc, ◌+◌, ◌*◌, pos, ◌<ℤ◌, List, [], ◌∷◌, ◌++◌, length, map, Some, None, refl, sym, ap, ◌∙◌, inl, arith}
use Rattle.std.proofs.lemmas.Int.{ints}
use denote.Hole.Carrier.{hidden}
use Rattle.affc_ast.specs.declared.tree.Ix.TheBlock.{shape-the_row-Ix-0, hidden-the_row-Ix-0}
use Rattle.affc_ast.specs.declared.tree.Val.TheBlock.{shape-the_row-Val-0, hidden-the_row-Val-0}
use Rattle.affc_ast.specs.declared.tree.Stmt.TheBlock.{shape-the_row-Stmt-0, hidden-the_row-Stmt-0}
use Rattle.affc_rows.specs.Forms.{Affine}
use Rattle.affc_system.specs.Systems.{Rows}
use Rattle.affc_system.specs.declared.pairs.PairSystem.{PairSystem}
use Rattle.affc_trace.specs.Examples.{blur, together, two}
use Rattle.affc_trace.proofs.Runs.{length_append}
use Rattle.affc_domain.proofs.Lists.{length_map}
use Rattle.affc_basis.specs.Examples.{x0, number, onto}
use Rattle.affc_basis.proofs.BlurContext.{in_context}
use Rattle.affc_basis.proofs.ExampleProofs.{ends_are_live}
use Rattle.affc_nest.specs.Nests.{nest_of}
use Rattle.affc_conflicts.specs.Questions.{distance_questions}
use Rattle.affc_life.specs.Clashes.{clash_of}
use Rattle.affc_life.specs.Laws.{AreClashes}
use Rattle.affc_life.proofs.ExampleProofs.{blur_has_twelve}
use Rattle.affc_check.specs.Examples.{blur_trees, t_onto, FoldsAreLast, CountOfTheFold, TwoAreTooFew}
use Rattle.affc_check.specs.list.Items.{Item, Question, mark_items, row_items}
use Rattle.affc_check.proofs.Gives.{valid_gives}

pub folds_are_last : FoldsAreLast
unfolding shape-the_row-Ix-0 hidden-the_row-Ix-0 shape-the_row-Val-0 hidden-the_row-Val-0 shape-the_row-Stmt-0 hidden-the_row-Stmt-0 hidden
folds_are_last least systems = refl

two_each : (rows : List Affine) (k : ℕ) (row b : Affine) (systems : List PairSystem) → length (distance_questions rows k row b systems) ≡ 2 * length systems
two_each rows k row b [] = refl
two_each rows k row b (s ∷ systems) = let e = two_each rows k row b systems in omega (arith, e)

twelve : (systems : List PairSystem) → AreClashes blur blur_trees together 2 systems → length systems ≡ 12
twelve systems are = sym (length_map clash_of systems) ∙ ap length are ∙ blur_has_twelve

pub count_of_the_fold : CountOfTheFold
count_of_the_fold least systems are =
    let rows : List Affine = x0 ∷ [] in
    let distances : List Rows = distance_questions rows 0 x0 (number 3) systems in
    let asked : List Item = map Question distances in
    let marks : List Item = mark_items (nest_of blur) rows 0 x0 (number 3) systems (Some least) in
    length_append (row_items (nest_of blur) systems rows 0 x0 (record { form = number 3; least = Some least })) []
    ∙ all (length (asked ++ marks)) (length asked) (length distances) (length systems) (length_append asked marks) (length_map Question distances) (two_each rows 0 x0 (number 3) systems) (twelve systems are)
  where
    all : (n a d s : ℕ) → n ≡ a + 3 → a ≡ d → d ≡ 2 * s → s ≡ 12 → suc n + 0 ≡ 28
    all n a d s e f g h = omega (arith, e, f, g, h)

-- t[0] and t[2] lie two apart, and are live together at N = 2
pub two_are_too_few : TwoAreTooFew
two_are_too_few systems proofs read valid =
    let shown = valid_gives blur together (pos 1 ∷ []) blur_trees (t_onto 2 None systems ∷ []) proofs read valid in
    let right = shown.folds_right (t_onto 2 None systems) (inl refl) in
    let far = right.obeys (onto 2) (record { rows = refl; moduli = refl }) two (in_context 2 refl) 0 x0 (number 2) refl refl in
    not_less (far.1 (pos 0 ∷ []) (pos 2 ∷ []) (record { pair = ends_are_live; agrees = λ j row h at. absurd (omega (arith, h)) }))
  where
    not_less : pos 2 <ℤ pos 2 → ⊥
    not_less h = omega (arith, ints, h)
