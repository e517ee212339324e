use Rattle.std.proofs.Common.{◌≡◌, ◌+◌, ◌-◌, ◌<◌, ◌⊎◌, ◌∷◌, [], rules, length, take, drop, ap, subst, ◌∙◌}
use Rattle.std.proofs.lemmas.Result.{err_from_is_err_and, IfErr-weaker}
use Rattle.affc_rows.specs.Forms.{Affine}
use Rattle.affc_system.specs.Systems.{FitsRow}
use Rattle.affc_domain.proofs.Lists.{first_and_rest}
use Rattle.affc_nest.specs.Domains.{with_rows}
use Rattle.affc_life.proofs.LimitLemmas.{large_first, large_rest}
use Rattle.affc_life.proofs.systems.+add_limited.Goals as goal

pub returns-in_err-add_row-in-len1-up-clause-large : goal.returns-in_err-add_row-in-len1-up-clause-large
returns-in_err-add_row-in-len1-up-clause-large t c =
    let rows = c.args.rows.now in
    let same : c.in_ok-copy-in-len1-up.copy ≡ c.row-item.result = search rules in
    let p = err_from_is_err_and c.from_residual-in_err-add_row-in-len1-up.result c.from_residual-in_err-add_row-in-len1-up.ensures.1 in
    rw (p.1, p.2)
    (λ l. large_first c.args.system.now rows c.row-item.result (take (length rows - 1) (drop 1 rows)) (first_and_rest rows c.row-item.result c.in-len1-up.len_at_least c.row-item.is)
    (subst (λ (r : Affine). (1024 < length c.args.system.now.rows + 1) ⊎ (¬ (FitsRow r))) same (c.in_err-add_row-in-len1-up.ensures.large l)))

pub returns-in_ok-add_row-in-len1-up-clause-large : goal.returns-in_ok-add_row-in-len1-up-clause-large
returns-in_ok-add_row-in-len1-up-clause-large t c =
    let rows = c.args.rows.now in
    let same : c.in_ok-copy-in-len1-up.copy ≡ c.row-item.result = search rules in
    IfErr-weaker c.add_limited.result _ _
    (λ e h l. large_rest c.args.system.now rows c.row-item.result (take (length rows - 1) (drop 1 rows)) (first_and_rest rows c.row-item.result c.in-len1-up.len_at_least c.row-item.is) c.add_row.new.system
    (c.in_ok-add_row-in-len1-up.ensures.ok ∙ ap (λ (r : Affine). with_rows c.args.system.now (r ∷ [])) same) (h l))
    c.add_limited.ensures.large
