-- Certificates that have no proof behind the last question's.
use Rattle.std.proofs.Common.{◌≡◌, ℕ, List, arith}
use Rattle.affc_ast.specs.declared.tree.ArrayId.{ArrayId}
use Rattle.affc_basis.specs.declared.fold.Fold.{Fold}
use Rattle.affc_nest.specs.declared.nest.Nest.{Nest}
use Rattle.affc_schedtext.specs.declared.plan.Plan.{Plan}
use Rattle.affc_accept.specs.Accepted.{AcceptsSparing}
use Rattle.affc_certify.specs.Certified.{Shows, IsCertified}

pub is_certified : (nest : Nest) (plan : Plan) (text : List ℕ) (folds shown : List (ArrayId × Fold)) (spare : ℕ) → AcceptsSparing nest plan text shown spare → spare ≡ 0 → Shows nest folds shown
    → IsCertified nest plan text folds
is_certified nest plan text folds shown spare a none h =
    let e = a.accepted.is_checked.proofs in
    let f = a.proofs in
    record { shown = shown; accepted = a.accepted; shows = h; each = omega (arith, e, f, none) }
