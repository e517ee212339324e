-- Two certificates with one JSON value are one.
use Rattle.affc_cert.specs.Certificates.{Certificate}
use Rattle.affc_cert.specs.Values.{cert_value}
use Rattle.affc_certvalue.proofs.fold.Unique.{folds_same}
use Rattle.affc_certvalue.specs.fold.Entries.{FoldEntry}
use Rattle.affc_certvalue.proofs.proof.Unique.{proof_same}
use Rattle.affc_certvalue.specs.proof.Proofs.{Steps}
use Rattle.affc_certvalue.specs.proof.Values.{proof_value}
use Rattle.affc_cert.proofs.tree.Unique.{tree_same}
use Rattle.affc_cert.specs.tree.Values.{tree_value}
use Rattle.affc_certvalue.proofs.Unique.{list_of_same, numbers_same, member_same, members_same, object_same}
use Rattle.affc_quast.specs.Trees.{Tree}
use Rattle.std.proofs.Common.{◌≡◌, ℤ, List, ap₂}

-- ---- The whole

pub one_certificate : (a b : Certificate) → cert_value a ≡ cert_value b → a ≡ b
one_certificate a b e =
    let first = object_same _ _ e in
    let second = members_same _ _ _ _ _ _ first in
    let third = members_same _ _ _ _ _ _ second in
    let fourth = members_same _ _ _ _ _ _ third in
    let fifth = members_same _ _ _ _ _ _ fourth in
    let context : a.context ≡ b.context = numbers_same a.context b.context (member_same _ _ _ _ _ _ second) in
    let trees : a.trees ≡ b.trees = list_of_same tree_value tree_same a.trees b.trees (member_same _ _ _ _ _ _ third) in
    let folds : a.folds ≡ b.folds = folds_same a.folds b.folds (member_same _ _ _ _ _ _ fourth) in
    let proofs : a.proofs ≡ b.proofs = list_of_same proof_value proof_same a.proofs b.proofs (member_same _ _ _ _ _ _ fifth) in
    ap₂ {A = List ℤ × List Tree} {B = List FoldEntry × List Steps} (λ x y. record { context = x.0; trees = x.1; folds = y.0; proofs = y.1 }) (ap₂ (λ c t. (c, t)) context trees) (ap₂ (λ f p. (f, p)) folds proofs)
