use Rattle.std.proofs.Common.{◌∙◌, ◌≤◌, ℤ, List, length, sym, ap, subst}
use Rattle.std.specs.Prelude.{unsigned_abs}
use Rattle.std.specs.List.{All}
use Rattle.affc_rows.specs.Forms.{Affine, HaveColumns}
use Rattle.affc_moduli.proofs.AskedLemmas.{dimensions, small, wide_extents}
use Rattle.affc_moduli.proofs.forms.proposed.Goals as goal

pub sum_of-requires-clause-one_each : goal.sum_of-requires-clause-one_each
sum_of-requires-clause-one_each c = ap length (c.as_slice-coefs.ensures ∙ ap (λ (f : Affine). f.coefs) c.row.view_is) ∙ dimensions c.args.asked.now c.requires.asked

pub sum_of-requires-clause-small : goal.sum_of-requires-clause-small
sum_of-requires-clause-small c = subst (λ (cs : List ℤ). All (λ v. unsigned_abs v ≤ 256) cs) (sym (c.as_slice-coefs.ensures ∙ ap (λ (f : Affine). f.coefs) c.row.view_is)) (small c.args.asked.now c.requires.asked)

pub sum_of-requires-clause-wide : goal.sum_of-requires-clause-wide
sum_of-requires-clause-wide c =
    subst (λ n. HaveColumns n c.args.asked.now.given.extents.now) (sym c.columns-parameters.ensures.value) (wide_extents c.args.asked.now c.requires.asked c.args.context.now.system c.requires.context)
