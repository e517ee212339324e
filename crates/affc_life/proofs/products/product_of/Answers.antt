use Rattle.std.proofs.Common.{◌≡◌, List, refl, sym, ap, subst, ◌∙◌}
use Rattle.std.specs.List.{All}
use Rattle.std.proofs.lemmas.Result.{err_from_is_err_and}
use Rattle.affc_rows.specs.Forms.{Affine, HaveColumns}
use Rattle.affc_system.specs.Pairs.{IsSubscript}
use Rattle.affc_system.specs.Systems.{Rows, IsRow}
use Rattle.affc_life.specs.Sizes.{IsLarge}
use Rattle.affc_life.proofs.KeptLemmas.{front_wide, large_front_of, x_fits, y_fits, factors_fit, product_made}
use Rattle.affc_life.proofs.products.product_of.Goals as goal

pub system_of-requires : goal.system_of-requires
system_of-requires c = subst (HaveColumns c.args.draft.columns) (sym c.as_slice.ensures.value) (front_wide c.args.draft c.requires.some c.requires.paired)

pub returns-in_err-system-clause-large : goal.returns-in_err-system-clause-large
returns-in_err-system-clause-large c =
    let p = err_from_is_err_and c.from_residual-in_err-system.result c.from_residual-in_err-system.ensures.1 in
    rw (p.1, p.2)
    (λ l. large_front_of c.args.draft c.requires.some (subst (λ (rows : List Affine). IsLarge (record { columns = c.args.draft.columns; rows = rows })) c.as_slice.ensures.value (c.in_err-system.ensures.large l)))

pub invariant_of-base : goal.invariant_of-base
invariant_of-base c =
    let columns : c.in_ok-system.system.columns ≡ c.args.draft.columns = ap (λ (s : Rows). s.columns) c.in_ok-system.ensures.ok in
    record {
      x_fits = subst (λ n. All (IsSubscript n) c.args.draft.x.items) (sym columns) (x_fits c.args.draft c.requires.some c.requires.paired);
      y_fits = subst (λ n. All (IsSubscript n) c.args.draft.y.items) (sym columns) (y_fits c.args.draft c.requires.some c.requires.paired);
    }

pub invariant_of-result : goal.invariant_of-result
invariant_of-result c =
    let d = c.args.draft in
    let columns : c.in_ok-system.system.columns ≡ d.columns = ap (λ (s : Rows). s.columns) c.in_ok-system.ensures.ok in
    record {
      some = c.requires.some;
      fit = subst (λ n. All (All (All (IsRow n))) d.factors) (sym columns) (factors_fit d.columns d.front.items d.factors c.requires.some (c.in_ok-keeps_limits.ensures.within c.if-not-branch.false));
    }

pub returns-clause-ok : goal.returns-clause-ok
returns-clause-ok c =
    product_made _ _ c.args.draft (c.in_ok-system.ensures.ok ∙ ap (λ (rows : List Affine). record { columns = c.args.draft.columns; rows = rows }) c.as_slice.ensures.value) refl refl refl refl
