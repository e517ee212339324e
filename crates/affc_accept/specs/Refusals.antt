-- Why a text is no certificate of a nest and a plan.
use Rattle.std.specs.Prelude.{◌≡◌, ◌⊎◌, ℕ, ◌+◌, List, length}
use Rattle.affc_ast.specs.declared.tree.ArrayId.{ArrayId}
use Rattle.affc_basis.specs.declared.basis.Basis.{Basis}
use Rattle.affc_nest.specs.declared.nest.Nest.{Nest}
use Rattle.affc_schedtext.specs.declared.plan.Plan.{Plan}
use Rattle.affc_cert.specs.Refusals.{ReadsJson, Refuses}
use Rattle.affc_cert.specs.declared.cert.Cert.{Cert}
use Rattle.affc_cert.specs.declared.cert.CertFault.{CertFault}
use Rattle.affc_cert.specs.declared.cert.CertFault.TheVariants as text
use Rattle.affc_cert.specs.declared.layout.Layout.{Layout}
use Rattle.affc_check.specs.Answers.{ProofFails, ShownFails}
use Rattle.affc_check.specs.list.Limits.{IsFirst}
use Rattle.affc_check.specs.list.Passes.{PassesFirst}
use Rattle.affc_check.specs.declared.fault.CheckFault.{CheckFault}
use Rattle.affc_check.specs.declared.fault.CheckFault.TheVariants as items
use Rattle.affc_accept.specs.declared.fault.AcceptFault.{AcceptFault}
use Rattle.affc_accept.specs.declared.fault.AcceptFault.TheVariants.{Certificate, Check, Memory}
use Rattle.affc_accept.specs.Accepted.{IsRead}
use Rattle.affc_accept.specs.Bases.{KeepBases, HasOther}
use Rattle.affc_accept.specs.Layouts.{IsLayout}
use Rattle.serde_json.specs.Data.{Data}

-- ---- By its text

-- the text reads as no JSON value
abbrev pub IsNoJson : (bytes : List ℕ) → Type 0
IsNoJson bytes = (d : Data) → ¬ (ReadsJson bytes d)

-- it reads as a value with this wrong with it for the nest's layout
pub record IsRefused (nest : Nest) (bytes : List ℕ) (fault : CertFault) : Type 0 where
  pub layout : Layout
  pub is_layout : IsLayout nest layout
  pub value : Data
  pub reads : ReadsJson bytes value
  pub refuses : Refuses layout value fault

-- it reads as a certificate, and the first of its folds that has neither the basis that is given for its array nor leaves the
-- array whole is this part
pub record HasOtherBasis (nest : Nest) (bases : List (ArrayId × Basis)) (bytes : List ℕ) (part : ℕ) : Type 0 where
  pub cert : Cert
  pub read : IsRead nest bytes cert
  pub fold : ℕ
  pub number : part ≡ (1 + length cert.flow.trees) + fold
  pub first : IsFirst (HasOther nest bases) cert.folds fold

abbrev pub TextRefuses : Nest → (bases : List (ArrayId × Basis)) → (bytes : List ℕ) → CertFault → Type 0
TextRefuses nest bases bytes text.Json = IsNoJson bytes
TextRefuses nest bases bytes text.Version = IsRefused nest bytes text.Version
TextRefuses nest bases bytes (text.Shape part) = IsRefused nest bytes (text.Shape part) ⊎ HasOtherBasis nest bases bytes part
TextRefuses nest bases bytes (text.Number part) = IsRefused nest bytes (text.Number part)
TextRefuses nest bases bytes text.Memory = ⊥

-- ---- By its items

-- it reads as a certificate with the given bases, of which this holds
pub record IsOfRead (nest : Nest) (bases : List (ArrayId × Basis)) (bytes : List ℕ) (Says : Cert → Type 0) : Type 0 where
  pub cert : Cert
  pub read : IsRead nest bytes cert
  pub bases_kept : KeepBases nest bases cert.folds
  pub says : Says cert

abbrev pub ItemsRefuse : Nest → Plan → (bytes : List ℕ) → CheckFault → Type 0
ItemsRefuse nest plan bytes (items.Number part) = IsOfRead nest plan.folds bytes (λ c. PassesFirst nest plan.schedule c part)
ItemsRefuse nest plan bytes (items.Proof item) = IsOfRead nest plan.folds bytes (λ c. ProofFails nest plan.schedule c item)
ItemsRefuse nest plan bytes (items.Shown item) = IsOfRead nest plan.folds bytes (λ c. ShownFails nest plan.schedule c item)
ItemsRefuse nest plan bytes items.Memory = ⊥

-- ---- When it is refused so. Want of memory may come at any time.

abbrev pub AcceptRefuses : Nest → Plan → (bytes : List ℕ) → AcceptFault → Type 0
AcceptRefuses nest plan bytes (Certificate fault) = TextRefuses nest plan.folds bytes fault
AcceptRefuses nest plan bytes (Check fault) = ItemsRefuse nest plan bytes fault
AcceptRefuses nest plan bytes Memory = Unit {0}
