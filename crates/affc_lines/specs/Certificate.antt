-- The line that says why a certificate isn't one.
use Rattle.std.specs.Prelude.{ℕ, List, ◌++◌, codes, decimal}
use Rattle.affc_cert.specs.declared.cert.CertFault.{CertFault}
use Rattle.affc_cert.specs.declared.cert.CertFault.TheVariants as text
use Rattle.affc_check.specs.declared.fault.CheckFault.{CheckFault}
use Rattle.affc_check.specs.declared.fault.CheckFault.TheVariants as items

-- what is said of a part or an item
abbrev pub numbered_line : (words : List ℕ) → (number : ℕ) → List ℕ
numbered_line words number = codes "affc: certificate: " ++ words ++ codes " " ++ decimal number

-- what is said of a text that is no certificate
abbrev pub certificate_line : CertFault → List ℕ
certificate_line text.Json = codes "affc: certificate: json"
certificate_line text.Version = codes "affc: certificate: version"
certificate_line (text.Shape part) = numbered_line (codes "shape") part
certificate_line (text.Number part) = numbered_line (codes "number") part
certificate_line text.Memory = codes "affc: memory"

-- what is said of a certificate that isn't valid
abbrev pub check_line : CheckFault → List ℕ
check_line (items.Number part) = numbered_line (codes "number") part
check_line (items.Proof item) = numbered_line (codes "proof") item
check_line (items.Shown item) = numbered_line (codes "shown") item
check_line items.Memory = codes "affc: memory"
