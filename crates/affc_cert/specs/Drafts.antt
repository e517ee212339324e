-- The parts that a certificate is read in.
use Rattle.affc_cert.specs.Refusals.{IsFirstBroken}
use Rattle.affc_cert.specs.declared.cert.CertFault.{CertFault}
use Rattle.affc_cert.specs.declared.cert.CertFault.TheVariants as fault
use Rattle.affc_certvalue.specs.fold.Entries.{FoldEntry}
use Rattle.affc_certvalue.specs.fold.Values.{folds_value}
use Rattle.serde_json.specs.Data.{Data, number, unsigned, object, no_members, member}
use Rattle.serde_json.specs.Find.{get}
use Rattle.std.specs.Prelude.{◌≡◌, ℕ, ◌+◌, List, Some, codes}

-- the object of these parts
abbrev pub whole_object : (context flow folds proofs : Data) → Data
whole_object context flow folds proofs =
    object
    (member (codes "affc") (number (unsigned 1))
    (member (codes "context") context (member (codes "flow") flow (member (codes "folds") folds (member (codes "proofs") proofs no_members)))))

-- the value of folds of which one is broken, behind so many trees
pub record IsBrokenIn (loads : ℕ) (d : Data) (e : CertFault) : Type 0 where
  pub folds : List FoldEntry
  pub is_value : folds_value folds ≡ d
  pub number : ℕ
  pub first_broken : IsFirstBroken folds number
  pub fault : e ≡ fault.Shape (1 + loads + number)

-- a value in which such folds stand
pub record IsBrokenAt (loads : ℕ) (d : Data) (e : CertFault) : Type 0 where
  pub value : Data
  pub there : get (codes "folds") d ≡ Some value
  pub broken : IsBrokenIn loads value e
