-- Loops between ends by rows, at small programs. Each was found by hand from the rules.
use Rattle.std.specs.Prelude.{◌≡◌, ℕ, zero, suc, ℤ, pos, negsuc, length, List, [], ◌∷◌, ◌++◌, map, flat_map, Option, Some, None, refl}
use Rattle.std.proofs.Common.{false, subst, lit≤}
use Rattle.std.proofs.lemmas.List.Elements.{All-nil, All-cons}
use Rattle.std.proofs.lemmas.Option.{none-some, same_Some}
use Rattle.affc_rows.specs.Forms.{Affine, HaveColumns, columns_of, composed_form}
use Rattle.affc_ast.specs.declared.tree.Ix.TheVariants.{Neg, Add, Sub, Mul, Min, Max, Floord, Ceild}
use Rattle.affc_ast.specs.declared.tree.Param.TheVariants.{Number, Array}
use Rattle.affc_ast.specs.declared.tree.Program.{Program}
use Rattle.affc_ast.specs.declared.tree.Rel.TheVariants.{Less, LessEqual}
use Rattle.affc_ast.specs.declared.tree.Role.TheVariants.{Input, Output}
use Rattle.affc_ast.specs.declared.tree.Stmt.TheVariants.{For}
use Rattle.affc_ast.specs.declared.tree.Val.TheVariants.{Load}
use Rattle.affc_ast.specs.Meaning.{Outcome, Ended, Stuck, meaning}
use Rattle.affc_ast.specs.Store.{Element}
use Rattle.affc_trace.specs.declared.schedule.TimeMap.{TimeMap}
use Rattle.affc_trace.specs.Examples.{cell}
use Rattle.affc_trace.specs.Inverses.{column, GivesColumn}
use Rattle.affc_loops.specs.Between.{program_between}
use Rattle.affc_loops.specs.Ends.{Sides, least_by, greatest_by, all_ends, ends_of}
use Rattle.affc_loops.specs.Examples.{lit, name, assign, n, form, backwards, copy, holding}

-- ---- Quotients, over N and t0, for t1

abbrev over_two : (n t u c : ℤ) → Affine
over_two n t u c = record { coefs = n ∷ t ∷ u ∷ []; constant = c }

-- 2 t1 - t0 + N - 1 >= 0; t1 - t0 >= 0; N - 3 t1 + 4 >= 0; N - t1 - 1 >= 0
abbrev pub QuotientsOfRows : Type 0
QuotientsOfRows =
    (least_by 1 2 (over_two (pos 1) (negsuc 0) (pos 2) (negsuc 0)) ≡ Ceild (Add (Sub (name 1) n) (lit 1)) (pos 2))
    × (least_by 1 2 (over_two (pos 0) (negsuc 0) (pos 1) (pos 0)) ≡ name 1)
    × (greatest_by 1 2 (over_two (pos 1) (pos 0) (negsuc 2) (pos 4)) ≡ Floord (Add n (lit 4)) (pos 3))
    × (greatest_by 1 2 (over_two (pos 1) (pos 0) (negsuc 0) (negsuc 0)) ≡ Sub n (lit 1))

-- ---- A loop that is run backwards

-- i = -t0: t0 + N - 1 >= 0 and -t0 >= 0
abbrev rows_of_copy : List (List Sides)
rows_of_copy = ((form (pos 1) (pos 1) (negsuc 0) ∷ [], form (pos 0) (negsuc 0) (pos 0) ∷ []) ∷ []) ∷ []

-- for (affc_t0 = affc_max(-N + 1, -3); affc_t0 <= affc_min(0, 0); affc_t0++)
abbrev pub EndsOfCopy : Type 0
EndsOfCopy = ends_of copy (backwards ∷ []) rows_of_copy ≡ (Max (Add (Neg n) (lit 1)) (Neg (lit 3)), Min (lit 0) (lit 0)) ∷ []

-- Where N is 3, three turns begin, and three assignments run.
abbrev pub CopiesBetweenEnds : Type 0
CopiesBetweenEnds = meaning (program_between copy (backwards ∷ []) (ends_of copy (backwards ∷ []) rows_of_copy)) (pos 3 ∷ []) (holding 0 0 0)
    ≡ Ended (record { store = holding 7 8 9; written = (cell 1 2, 9) ∷ (cell 1 1, 8) ∷ (cell 1 0, 7) ∷ []; steps = 6 })

-- ---- Two loops

-- for N from 1 to 9: for (i = 0; i < N; i++) for (j = 0; j <= i; j++) out[i][j] = in[i][j];
abbrev triangle : Program
triangle = record {
  name = [];
  params = Number [] (pos 1) (pos 9)
      ∷ Array (record { name = []; role = Input; extents = n ∷ n ∷ [] })
      ∷ Array (record { name = []; role = Output; extents = n ∷ n ∷ [] })
      ∷ [];
  context = [];
  temps = [];
  body = For [] (lit 0) Less n (For [] (lit 0) LessEqual (name 1) (assign 1 (name 1 ∷ name 2 ∷ []) (Load (record { 0 = 0 }) (name 1 ∷ name 2 ∷ [])) ∷ []) ∷ []) ∷ [];
  prelude = false;
}

pub three_columns : (f g : Affine) → length f.coefs ≡ 3 → length g.coefs ≡ 3 → HaveColumns 3 (f ∷ g ∷ [])
three_columns f g e h = All-cons (λ a. length a.coefs ≡ 3) f (g ∷ []) e (All-cons (λ a. length a.coefs ≡ 3) g [] h (All-nil (λ a. length a.coefs ≡ 3)))

pub both_undone : (images : List Affine) (g h : Affine) → composed_form g images ≡ column (columns_of images) 1 → composed_form h images ≡ column (columns_of images) 2 → (k : ℕ) → GivesColumn (g ∷ h ∷ []) images 1 k
both_undone images g h e d zero f same = subst (λ f. composed_form f images ≡ column (columns_of images) 1) (same_Some g f same) e
both_undone images g h e d (suc zero) f same = subst (λ f. composed_form f images ≡ column (columns_of images) 2) (same_Some h f same) d
both_undone images g h e d (suc (suc k)) f same = absurd (none-some f same)

-- (i + j, i); i = t1, j = t0 - t1
abbrev diagonals : TimeMap
diagonals =
    let sum = over_two (pos 0) (pos 1) (pos 1) (pos 0) in
    let i = over_two (pos 0) (pos 1) (pos 0) (pos 0) in
    let second = over_two (pos 0) (pos 0) (pos 1) (pos 0) in
    let difference = over_two (pos 0) (pos 1) (negsuc 0) (pos 0) in
    record {
      forms = sum ∷ i ∷ [];
      inverse = second ∷ difference ∷ [];
      shaped = three_columns sum i refl refl;
      inverse_shaped = three_columns second difference refl refl;
      at_least_iterators = lit≤ tt;
      inverts = both_undone (column 3 0 ∷ sum ∷ i ∷ []) second difference refl refl;
    }

-- t0 >= 0 and 2 N - t0 - 2 >= 0; 2 t1 - t0 >= 0, t1 >= 0, t0 - t1 >= 0 and N - t1 - 1 >= 0
abbrev rows_of_triangle : List (List Sides)
rows_of_triangle =
    (
    (form (pos 0) (pos 1) (pos 0) ∷ [], form (pos 2) (negsuc 0) (negsuc 1) ∷ [])
    ∷ (
      over_two (pos 0) (negsuc 0) (pos 2) (pos 0) ∷ over_two (pos 0) (pos 0) (pos 1) (pos 0) ∷ [],
      over_two (pos 0) (pos 1) (negsuc 0) (pos 0) ∷ over_two (pos 1) (pos 0) (negsuc 0) (negsuc 0) ∷ [],
    )
    ∷ []
    )
    ∷ []

-- from affc_max(0, 0) to affc_min(2 * N - 2, 16); from affc_max(affc_max(affc_ceild(affc_t0, 2), 0), 0) to affc_min(affc_min(affc_t0, N - 1), 8)
abbrev pub EndsOfTriangle : Type 0
EndsOfTriangle = ends_of triangle (diagonals ∷ []) rows_of_triangle
    ≡ (Max (lit 0) (lit 0), Min (Sub (Mul (lit 2) n) (lit 2)) (lit 16))
    ∷ (Max (Max (Ceild (name 1) (pos 2)) (lit 0)) (lit 0), Min (Min (name 1) (Sub n (lit 1))) (lit 8))
    ∷ []

-- of a run that ends
abbrev steps_of : Outcome → Option ℕ
steps_of (Ended state) = Some state.steps
steps_of (Stuck cause steps) = None

abbrev elements : (array : ℕ) → List (Element × ℕ)
elements array = flat_map (λ x. map (λ y. ((array, x ∷ y ∷ []), 5)) (pos 0 ∷ pos 1 ∷ pos 2 ∷ [])) (pos 0 ∷ pos 1 ∷ pos 2 ∷ [])

-- Where N is 3, t0 takes 5 turns, t1 takes 6, and six assignments run.
abbrev pub StepsOfTriangle : Type 0
StepsOfTriangle = steps_of (meaning (program_between triangle (diagonals ∷ []) (ends_of triangle (diagonals ∷ []) rows_of_triangle)) (pos 3 ∷ []) (elements 0 ++ elements 1)) ≡ Some 17

-- ---- Several statements

-- the least of the lower ends and the greatest of the upper ones; without statements there are no ends
abbrev pub EndsOfMore : Type 0
EndsOfMore =
    (all_ends (((name 0, lit 1) ∷ (lit 2, lit 3) ∷ []) ∷ ((lit 4, name 1) ∷ (lit 5, lit 6) ∷ []) ∷ ((lit 7, lit 8) ∷ (lit 9, lit 10) ∷ []) ∷ [])
    ≡ (Min (Min (name 0) (lit 4)) (lit 7), Max (Max (lit 1) (name 1)) (lit 8)) ∷ (Min (Min (lit 2) (lit 5)) (lit 9), Max (Max (lit 3) (lit 6)) (lit 10)) ∷ [])
    × (all_ends [] ≡ [])
