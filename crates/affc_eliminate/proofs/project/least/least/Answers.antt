use Rattle.std.proofs.Common.{◌≡◌, ◌≤◌, take, pos, ◌*ℤ◌, sym, ap, subst, ◌∙◌, arith, rules}
use Rattle.std.specs.Prelude.{FitsSigned}
use Rattle.std.specs.Int.{w128}
use Rattle.std.proofs.lemmas.Int.{to_z-of_z}
use Rattle.affc_rows.specs.Forms.{Affine}
use Rattle.affc_eliminate.specs.project.States.{IsDivisor}
use Rattle.affc_eliminate.proofs.project.Leasts.{least_of, blank_of}
use Rattle.affc_eliminate.proofs.project.least.least.Goals as goal

pub returns-then-divisor-eq0-clause-none : goal.returns-then-divisor-eq0-clause-none
returns-then-divisor-eq0-clause-none c =
    let d = c.common_divisor-divisor.result in
    let k = c.row.inside.constant in
    let fits : FitsSigned w128 k = search rules in
    let coefs = c.as_slice.ensures ∙ ap (λ (f : Affine). f.coefs) c.row.view_is in
    let constant = ap (λ (f : Affine). f.constant) c.row.view_is in
    let zero : d ≡ 0 = omega arith in
    blank_of c.args.keep c.args.row.now d c.requires zero
    (subst (λ ys. IsDivisor d (take c.args.keep ys) c.args.row.now.constant) coefs
    (subst (λ z. IsDivisor d (take c.args.keep c.as_slice.result.now) z) (to_z-of_z w128 k fits ∙ constant) c.common_divisor-divisor.ensures))

pub returns-clause-some : goal.returns-clause-some
returns-clause-some c =
    let d = c.common_divisor-divisor.result in
    let k = c.row.inside.constant in
    let q = c.quotient-constant.result in
    let fits : FitsSigned w128 k = search rules in
    let fits_q : FitsSigned w128 q = search rules in
    let coefs = c.as_slice.ensures ∙ ap (λ (f : Affine). f.coefs) c.row.view_is in
    let constant = ap (λ (f : Affine). f.constant) c.row.view_is in
    let one : 1 ≤ d = omega arith in
    least_of c.args.keep c.args.row.now _ d c.requires (ap (take c.args.keep) (sym coefs) ∙ c.in_ok-coefs.ensures)
    (sym constant ∙ sym (to_z-of_z w128 k fits) ∙ c.quotient-constant.ensures ∙ ap (λ z. pos d *ℤ z) (sym (to_z-of_z w128 q fits_q))) one
    (subst (λ ys. IsDivisor d (take c.args.keep ys) c.args.row.now.constant) coefs
    (subst (λ z. IsDivisor d (take c.args.keep c.as_slice.result.now) z) (to_z-of_z w128 k fits ∙ constant) c.common_divisor-divisor.ensures))
