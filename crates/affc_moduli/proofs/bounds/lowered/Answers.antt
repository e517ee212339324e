use Rattle.std.proofs.Common.{refl, sym, subst, ◌≤ℤ◌}
use Rattle.affc_rows.specs.Forms.{value}
use Rattle.affc_moduli.proofs.Opposite.{by_opposite}
use Rattle.affc_moduli.proofs.bounds.lowered.Goals as goal

pub returns-then-opposes : goal.returns-then-opposes
returns-then-opposes c = record {
  bounded = λ z inside. subst (λ v. value c.args.form.now z ≤ℤ v) (sym c.sum_of_constants-sum.ensures) (by_opposite c.args.row.now c.args.form.now z (c.if-opposes.ensures refl) (c.requires.meets z inside));
}
