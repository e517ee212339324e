-- What is made of a program is the folded one.
use Rattle.std.proofs.Common.{◌≡◌, ℕ, ◌+◌, ◌-◌, ◌≤◌, true, List, [], ◌∷◌, length, map, refl, sym, ap, subst, ◌∙◌, arith}
use Rattle.std.specs.List.{All}
use Rattle.affc_ast.specs.declared.tree.ArrayId.{ArrayId}
use Rattle.affc_ast.specs.declared.tree.Decl.{Decl}
use Rattle.affc_ast.specs.declared.tree.Program.{Program}
use Rattle.affc_ast.specs.declared.tree.Stmt.{Stmt}
use Rattle.affc_ast.specs.Meaning.{arrays_of}
use Rattle.affc_ast.specs.Recursion.{by_stmt}
use Rattle.affc_trace.specs.Target.{numbers_in}
use Rattle.affc_trace.proofs.Runs.{length_append}
use Rattle.affc_domain.specs.Affine.{form_of}
use Rattle.affc_domain.specs.Arrays.{declared_arrays}
use Rattle.affc_domain.specs.Plain.{IsPlain}
use Rattle.affc_domain.specs.Ranges.{number_ranges}
use Rattle.affc_domain.proofs.Lists.{length_map}
use Rattle.affc_domain.proofs.RangeLemmas.{numbers_are}
use Rattle.affc_nest.specs.declared.nest.ArrayInfo.{ArrayInfo}
use Rattle.affc_nest.specs.declared.nest.Nest.{Nest}
use Rattle.affc_nest.specs.Nests.{array_of, nest_of}
use Rattle.affc_basis.specs.declared.fold.Fold.{Fold}
use Rattle.affc_basis.specs.Folds.{KeepsLimits}
use Rattle.affc_foldloops.specs.Refolds.{Subscripts, refold_step, each_under}
use Rattle.affc_rewrite.specs.declared.subscripts.Folding.{Folding}
use Rattle.affc_rewrite.specs.Rewrite.{subscripts_at, extent_forms, folded_subscripts, decls_from, folded_temps, KeepLimits}
use Rattle.affc_rewrite.specs.Sizes.{IsWalk, at, all_under, accesses_step}
use Rattle.affc_rewrite.proofs.PlainBodies.{body_plain}

-- the extents of a nest's arrays
pub forms_known : (n m : ℕ) (ds : List Decl) → n ≡ m → map (λ (a : ArrayInfo). a.extents) (map (array_of n) ds) ≡ map (λ (d : Decl). map (form_of m 0) d.extents) ds
forms_known n m [] e = refl
forms_known n m (d ∷ ds) e =
    ap (λ k. map (form_of k 0) d.extents ∷ map (λ (a : ArrayInfo). a.extents) (map (array_of n) ds)) e ∙ ap (λ fs. map (form_of m 0) d.extents ∷ fs) (forms_known n m ds e)

module _ (program : Program) (nest : Nest) (folds : List (ArrayId × Fold)) (is : nest ≡ nest_of program) (plain : IsPlain program) where
  ranges_are : length nest.params ≡ length (number_ranges program.params)
  ranges_are = ap (λ (n : Nest). length n.params) is

  pub few_numbers : length nest.params ≤ 4
  few_numbers = subst (λ n. n ≤ 4) (sym ranges_are) plain.few_numbers

  pub count_is : (parameters : ℕ) → parameters ≡ length nest.params → parameters ≡ numbers_in program.params
  count_is parameters e = e ∙ ranges_are ∙ sym (numbers_are program.params)

  pub plain_there : (parameters : ℕ) → parameters ≡ length nest.params → all_under (map (by_stmt accesses_step) program.body) parameters ≡ true
  plain_there parameters e = body_plain program parameters plain (e ∙ ranges_are)

  pub limits_there : (parameters : ℕ) → parameters ≡ length nest.params → KeepLimits program folds → All (λ (g : ArrayId × Fold). KeepsLimits parameters g.1) folds
  limits_there parameters e h = subst (λ n. All (λ (g : ArrayId × Fold). KeepsLimits n g.1) folds) (sym (count_is parameters e)) h

  pub walk_there : (f : Folding) → f.parameters ≡ length nest.params → f.folds.now ≡ folds → KeepLimits program folds → IsWalk f f.parameters
  walk_there f e g h =
      let few = few_numbers in
      record {
        folding = record { limits = subst (All (λ (g : ArrayId × Fold). KeepsLimits f.parameters g.1)) (sym g) (limits_there f.parameters e h); few = omega (arith, few, e) };
        behind = omega arith;
        short = omega (arith, few, e);
      }

  extents_are : (f : Folding) → f.arrays.now ≡ nest.arrays → map (λ (a : ArrayInfo). a.extents) f.arrays.now ≡ extent_forms program
  extents_are f h =
      ap (map (λ (a : ArrayInfo). a.extents)) (h ∙ ap (λ (n : Nest). n.arrays) is)
      ∙ forms_known (length (number_ranges program.params)) (numbers_in program.params) (declared_arrays program) (sym (numbers_are program.params))

  at_is : (f : Folding) → f.parameters ≡ length nest.params → f.folds.now ≡ folds → f.arrays.now ≡ nest.arrays → at f ≡ folded_subscripts program folds
  at_is f e g h =
      ap (λ p. subscripts_at p (map (λ (a : ArrayInfo). a.extents) f.arrays.now) f.folds.now) (count_is f.parameters e)
      ∙ ap (λ es. subscripts_at (numbers_in program.params) es f.folds.now) (extents_are f h)
      ∙ ap (subscripts_at (numbers_in program.params) (extent_forms program)) g

  pub body_is : (f : Folding) (body made : List Stmt) → f.parameters ≡ length nest.params → f.folds.now ≡ folds → f.arrays.now ≡ nest.arrays → body ≡ program.body
      → made ≡ each_under (map (by_stmt (refold_step (at f))) body) f.parameters
      → made ≡ each_under (map (by_stmt (refold_step (folded_subscripts program folds))) program.body) (numbers_in program.params)
  body_is f body made e g h b m =
      m
      ∙ ap (λ ss. each_under (map (by_stmt (refold_step (at f))) ss) f.parameters) b
      ∙ ap (λ (s : Subscripts). each_under (map (by_stmt (refold_step s)) program.body) f.parameters) (at_is f e g h)
      ∙ ap (each_under (map (by_stmt (refold_step (folded_subscripts program folds))) program.body)) (count_is f.parameters e)

  -- the array parameters stand before the temporaries
  pub first_temp : length nest.arrays ≡ length (arrays_of program.params) + length program.temps
  first_temp =
      ap (λ (n : Nest). length n.arrays) is ∙ length_map (array_of (length (number_ranges program.params))) (declared_arrays program) ∙ length_append (arrays_of program.params) program.temps

  pub enough_arrays : length program.temps ≤ length nest.arrays
  enough_arrays = let all : length nest.arrays ≡ length (arrays_of program.params) + length program.temps = first_temp in omega arith

  pub temps_are : (f : Folding) (first : ℕ) → f.parameters ≡ length nest.params → f.folds.now ≡ folds → f.arrays.now ≡ nest.arrays → first ≡ length nest.arrays - length program.temps
      → decls_from f.parameters (map (λ (a : ArrayInfo). a.extents) f.arrays.now) f.folds.now first program.temps ≡ folded_temps program folds
  temps_are f first e g h d =
      let all : length nest.arrays ≡ length (arrays_of program.params) + length program.temps = first_temp in
      let n : first ≡ length (arrays_of program.params) = omega arith in
      ap (λ p. decls_from p (map (λ (a : ArrayInfo). a.extents) f.arrays.now) f.folds.now first program.temps) (count_is f.parameters e)
      ∙ ap (λ es. decls_from (numbers_in program.params) es f.folds.now first program.temps) (extents_are f h)
      ∙ ap (λ fs. decls_from (numbers_in program.params) (extent_forms program) fs first program.temps) g
      ∙ ap (λ a. decls_from (numbers_in program.params) (extent_forms program) folds a program.temps) n
