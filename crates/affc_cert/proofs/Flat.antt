-- The value of a certificate has no float, and nests only a few levels.
use Rattle.affc_cert.specs.Certificates.{Certificate}
use Rattle.affc_cert.specs.Values.{cert_value}
use Rattle.affc_certvalue.proofs.fold.Flat.{fold_flat}
use Rattle.affc_certvalue.specs.fold.Values.{fold_value, folds_value}
use Rattle.affc_certvalue.proofs.proof.Flat.{proof_flat}
use Rattle.affc_certvalue.specs.proof.Values.{proof_value}
use Rattle.affc_cert.proofs.tree.Flat.{tree_flat}
use Rattle.affc_cert.specs.tree.Values.{tree_value}
use Rattle.affc_certvalue.proofs.Flat.{IsFlat, weaker, list_of_flat, numbers_flat, number_flat, none_flat, member_flat, object_flat}
use Rattle.affc_certvalue.specs.Values.{list_of, whole_value, numbers_value}
use Rattle.serde_json.specs.Data.{member, no_members, depth}
use Rattle.serde_json.specs.Written.{has_float}
use Rattle.std.proofs.Common.{◌≡◌, ◌≤◌, pos, false, codes, arith}

-- ---- The whole

cert_flat : (c : Certificate) → IsFlat 7 (cert_value c)
cert_flat c =
    let fifth = member (codes "proofs") (list_of proof_value c.proofs) no_members in
    let fourth = member (codes "folds") (folds_value c.folds) fifth in
    let third = member (codes "flow") (list_of tree_value c.trees) fourth in
    let second = member (codes "context") (numbers_value c.context) third in
    object_flat 6 (member (codes "affc") (whole_value (pos 1)) second)
    (member_flat 6 (codes "affc") (whole_value (pos 1)) second (number_flat 6 (pos 1))
    (member_flat 6 (codes "context") (numbers_value c.context) third (weaker 1 6 (numbers_value c.context) (omega arith) (numbers_flat c.context))
    (member_flat 6 (codes "flow") (list_of tree_value c.trees) fourth (weaker 5 6 (list_of tree_value c.trees) (omega arith) (list_of_flat 4 tree_value c.trees tree_flat))
    (member_flat 6 (codes "folds") (folds_value c.folds) fifth (list_of_flat 5 fold_value c.folds fold_flat)
    (member_flat 6 (codes "proofs") (list_of proof_value c.proofs) no_members (weaker 5 6 (list_of proof_value c.proofs) (omega arith) (list_of_flat 4 proof_value c.proofs proof_flat)) (none_flat 6))))))

pub cert_has_no_float : (c : Certificate) → has_float (cert_value c) ≡ false
cert_has_no_float c = (cert_flat c).0

pub cert_is_shallow : (c : Certificate) → depth (cert_value c) ≤ 127
cert_is_shallow c = omega (arith, (cert_flat c).1)

pub ruleset flat_steps = (cert_has_no_float, cert_is_shallow)
