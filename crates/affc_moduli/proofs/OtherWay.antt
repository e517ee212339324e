-- A mark with its elements in the other order is as true.
use Rattle.std.proofs.Common.{◌≡◌, ℕ, List, ℤ, refl, sym, subst, ◌∙◌}
use Rattle.std.specs.Prelude.{Some, None}
use Rattle.affc_rows.specs.Forms.{Affine}
use Rattle.affc_system.specs.Systems.{Rows}
use Rattle.affc_system.specs.declared.pairs.PairSystem.{PairSystem}
use Rattle.affc_system.specs.ElementPairs.{IsPairOf}
use Rattle.affc_basis.specs.declared.fold.Mark.{Mark}
use Rattle.affc_basis.specs.declared.fold.Mark.TheVariants.{Least, Bound}
use Rattle.affc_basis.specs.declared.fold.Modulus.{Modulus}
use Rattle.affc_basis.specs.Moduli.{IsModulus}
use Rattle.affc_basis.specs.Folds.{IsEnough, IsTrueOf}
use Rattle.affc_conflicts.specs.Conditions.{InContext}
use Rattle.affc_conflicts.proofs.Turned.{mark_turned}
use Rattle.affc_moduli.specs.Rows.{IsDone}
use Rattle.affc_moduli.specs.Shown.{other_way}

bound_stays : (m : Mark) → other_way m ≡ Bound → m ≡ Bound
bound_stays (Least p pair) e = cc
bound_stays Bound e = refl

module _ (context : Rows) (ranges : List (ℤ × ℤ)) (systems : List PairSystem) (rows : List Affine) (k : ℕ) (row : Affine) where
  true_other_way : (b : Affine) (m : Mark) → IsTrueOf (InContext context ranges) (IsPairOf systems) rows k row b m → IsTrueOf (InContext context ranges) (IsPairOf systems) rows k row b (other_way m)
  true_other_way b (Least p (Some pair)) h = mark_turned context ranges systems rows k row b p pair h
  true_other_way b (Least p None) h = h
  true_other_way b Bound h = tt

  pub done_other_way : (old new : Modulus) → IsDone context ranges systems rows k row old → new.form ≡ old.form → new.mark ≡ other_way old.mark → IsDone context ranges systems rows k row new
  done_other_way old new done form mark = record {
    limits = subst (IsModulus context.columns) (sym form) done.limits;
    enough = subst (λ (f : Affine). IsEnough (InContext context ranges) (IsPairOf systems) rows k row f) (sym form) done.enough;
    mark = subst (λ (f : Affine). IsTrueOf (InContext context ranges) (IsPairOf systems) rows k row f new.mark) (sym form)
        (subst (λ (m : Mark). IsTrueOf (InContext context ranges) (IsPairOf systems) rows k row old.form m) (sym mark) (true_other_way old.form old.mark done.mark));
    marked = λ e. done.marked (bound_stays old.mark (sym mark ∙ e));
  }
