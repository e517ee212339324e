-- The source's nest is one for the folded program.
use Rattle.std.proofs.Common.{◌≡◌, ℕ, ◌≤◌, true, IsTrue, List, [], ◌∷◌, refl, arith}
use Rattle.affc_ast.specs.declared.tree.ArrayId.{ArrayId}
use Rattle.affc_ast.specs.declared.tree.Ix.{Ix}
use Rattle.affc_ast.specs.declared.tree.Program.{Program}
use Rattle.affc_ast.specs.declared.tree.Val.{Val}
use Rattle.affc_ast.specs.declared.tree.Val.TheVariants as v
use Rattle.affc_ast.specs.declared.tree.Val.TheBlock.{more_of-Val, end_of-Val}
use Rattle.affc_ast.specs.Trace.{Assignment}
use Rattle.affc_domain.specs.Affine.{sees}
use Rattle.affc_domain.proofs.Lists.{both_true, true_both}
use Rattle.affc_scan.specs.InSight as scan
use Rattle.affc_scan.specs.InSight.{in_sight, all_in_sight, value_in_sight}
use Rattle.affc_scan.proofs.SightProofs.{sees_more}
use Rattle.affc_loops.specs.Laws.{HaveSameLoops}
use Rattle.affc_basis.specs.declared.fold.Fold.{Fold}
use Rattle.affc_foldloops.proofs.RefoldLemmas.{refolded_keeps_shape}
use Rattle.affc_rewrite.specs.Rewrite.{folded_subscripts, folded_temps, folded_program}
use Rattle.affc_rewrite.specs.Sight.{all_see, value_sees, IsInSight}
use Rattle.affc_rewrite.proofs.SightLemmas.{folded_in_sight}
use Rattle.affc_foldprint.specs.Laws.{FoldsAreScanned, FoldsKeepTimes}

module _ (names : ℕ) (few : names ≤ 1024) where
  all_more : (es : List Ix) → IsTrue (all_see names es) → all_in_sight es ≡ true
  all_more [] h = refl
  all_more (e ∷ es) h = let q = both_true (sees names e) (all_see names es) h in true_both (in_sight e) (all_in_sight es) (sees_more names 1024 few e q.0) (all_more es q.1)

  value_more : (e : Val) → IsTrue (value_sees names e) → value_in_sight e ≡ true
  value_more (v.Load array subs) h = all_more subs h
  value_more (v.Const k) h = refl
  value_more (v.Cast e) h = sees_more names 1024 few e h
  value_more (v.Not' s (more_of-Val a end_of-Val)) h = value_more a h
  value_more (v.Shift' left s (more_of-Val a end_of-Val) by) h = value_more a h
  value_more (v.Bin' op s (more_of-Val a end_of-Val) t (more_of-Val b end_of-Val)) h =
      let q = both_true (value_sees names a) (value_sees names b) h in true_both (value_in_sight a) (value_in_sight b) (value_more a q.0) (value_more b q.1)

sight_more : (a : Assignment) → IsInSight a → scan.IsInSight a
sight_more a h = let few = h.few in record { subs = all_more h.names (omega (arith, few)) a.subs h.subs; value = value_more h.names (omega (arith, few)) a.value h.value }

-- it has the source's loops
pub folded_loops : (source : Program) (folds : List (ArrayId × Fold)) → HaveSameLoops source (folded_program source folds)
folded_loops source folds =
    let same = (refolded_keeps_shape (folded_subscripts source folds) (folded_temps source folds) source).same_loops in
    record { same_rounds = same.same_rounds; same_ranges = same.same_ranges }

pub folds_keep_times : FoldsKeepTimes
folds_keep_times source folds = record { same_loops = folded_loops source folds; same_context = refl }

pub folds_are_scanned : FoldsAreScanned
folds_are_scanned source nest schedule folds has are e = record {
  source = source;
  has_loops = has;
  same_times = folds_keep_times source folds;
  its_nest = e;
  in_sight = λ a i. sight_more a (folded_in_sight source folds a has.plain are i);
}
