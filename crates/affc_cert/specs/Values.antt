-- The JSON value of a certificate.
use Rattle.affc_cert.specs.Certificates.{Certificate}
use Rattle.affc_certvalue.specs.fold.Values.{folds_value}
use Rattle.affc_certvalue.specs.proof.Values.{proof_value}
use Rattle.affc_cert.specs.tree.Values.{tree_value}
use Rattle.affc_certvalue.specs.Values.{list_of, numbers_value}
use Rattle.serde_json.specs.Data.{Data, number, unsigned, object, no_members, member}
use Rattle.std.specs.Prelude.{codes}

-- ---- The whole

abbrev pub cert_value : Certificate → Data
cert_value c =
    object
    (member (codes "affc") (number (unsigned 1))
    (member (codes "context") (numbers_value c.context)
    (member (codes "flow") (list_of tree_value c.trees)
    (member (codes "folds") (folds_value c.folds) (member (codes "proofs") (list_of proof_value c.proofs) no_members)))))
