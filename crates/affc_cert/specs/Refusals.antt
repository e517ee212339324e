-- Which texts are certificates, and why others are refused.
use Rattle.affc_cert.specs.declared.cert.CertFault.{CertFault}
use Rattle.affc_cert.specs.declared.cert.CertFault.TheVariants as fault
use Rattle.affc_cert.specs.declared.layout.Layout.{Layout}
use Rattle.affc_certvalue.specs.fold.Bases.{IsBasis}
use Rattle.affc_certvalue.specs.fold.Entries.{FoldEntry}
use Rattle.affc_certvalue.specs.fold.Folds.{fold}
use Rattle.affc_certvalue.specs.fold.Values.{folds_value}
use Rattle.affc_certvalue.specs.proof.Verdicts.{proof}
use Rattle.affc_cert.specs.tree.Trees.{tree}
use Rattle.affc_certvalue.specs.Verdicts.{any_number, list, many, members}
use Rattle.affc_certvalue.specs.declared.verdict.Verdict.{Verdict}
use Rattle.affc_certvalue.specs.declared.verdict.Verdict.TheVariants.{Shape, Number, Fine}
use Rattle.serde_json.specs.Data.{Data, Items, no_items, item}
use Rattle.serde_json.specs.Events.{items_len}
use Rattle.serde_json.specs.Find.{get, as_array, as_number, as_u64}
use Rattle.serde_json.specs.Read.{read}
use Rattle.std.specs.Prelude.{◌≡◌, ◌⊎◌, ℕ, ◌+◌, ◌<◌, ◌==◌, List, [], ◌∷◌, ◌++◌, length, slice_get, Bool, true, false, if◌then◌else◌, Option, Some, None, option_map, option_and_then, codes, IsUtf8}

-- the text is UTF-8, and the value that it reads as
abbrev pub ReadsJson : List ℕ → Data → Type 0
ReadsJson text d = IsUtf8 text × (read text ≡ Some d)

-- ---- Parts

abbrev pub fine : {A : Type 0} → A → Verdict
fine a = Fine

-- a list of so many values, whatever they are
abbrev pub counted : ℕ → Items → Verdict
counted n ds = if items_len ds == n then Fine else Shape

-- the object, its keys, and what stands under them outside the other parts
abbrev pub top : Layout → Data → Verdict
top layout =
    members
    ((codes "affc", fine)
    ∷ (codes "context", list (many layout.parameters any_number))
    ∷ (codes "flow", list (counted (length layout.loads)))
    ∷ (codes "folds", list (counted (length layout.temporaries)))
    ∷ (codes "proofs", list fine)
    ∷ [])

abbrev pub items_or : Option Items → Items
items_or None = no_items
items_or (Some ds) = ds

-- the values of a list that stands there
abbrev pub items_in : Option Data → Items
items_in None = no_items
items_in (Some d) = items_or (as_array d)

-- each value is judged by what has its place in the list
abbrev pub each_by : {A : Type 0} → (A → Data → Verdict) → List A → Items → List Verdict
each_by judge [] ds = []
each_by judge (x ∷ xs) no_items = []
each_by judge (x ∷ xs) (item d ds) = judge x d ∷ each_by judge xs ds

abbrev pub each : (Data → Verdict) → Items → List Verdict
each judge no_items = []
each judge (item d ds) = judge d ∷ each judge ds

-- the verdicts on the parts, in order of their numbers
abbrev pub verdicts : Layout → Data → List Verdict
verdicts layout d =
    top layout d
    ∷ (each_by tree layout.loads (items_in (get (codes "flow") d))
    ++ (each_by (fold layout.parameters) layout.temporaries (items_in (get (codes "folds") d)) ++ each proof (items_in (get (codes "proofs") d))))

-- ---- The first refusal

-- the first part from this number on of which this is true
abbrev pub first : (Verdict → Bool) → ℕ → List Verdict → Option ℕ
first test part [] = None
first test part (v ∷ vs) = if test v then Some part else first test (part + 1) vs

abbrev pub is_shape : Verdict → Bool
is_shape Shape = true
is_shape Number = false
is_shape Fine = false

abbrev pub is_number : Verdict → Bool
is_number Shape = false
is_number Number = true
is_number Fine = false

abbrev pub either : Option CertFault → Option CertFault → Option CertFault
either None other = other
either (Some e) other = Some e

-- the first part of a wrong shape, and where there is none the first with a wrong number
abbrev pub part_fault : List Verdict → Option CertFault
part_fault vs = either (option_map fault.Shape (first is_shape 0 vs)) (option_map fault.Number (first is_number 0 vs))

abbrev pub is_one : Option ℕ → Bool
is_one None = false
is_one (Some n) = n == 1

-- a version is there that isn't the whole number 1
abbrev pub is_other_version : Option Data → Bool
is_other_version None = false
is_other_version (Some d) = if is_one (option_and_then as_u64 (as_number d)) then false else true

-- what is wrong with a value, but for products of rows and inverse forms
abbrev pub refusal : Layout → Data → Option CertFault
refusal layout d = if is_other_version (get (codes "affc") d) then Some fault.Version else part_fault (verdicts layout d)

-- the first fold whose rows and inverse forms have another product than the identity
pub record IsFirstBroken (folds : List FoldEntry) (k : ℕ) : Type 0 where
  pub entry : FoldEntry
  pub there : slice_get folds k ≡ Some entry
  pub broken : ¬ (IsBasis entry)
  pub before : (j : ℕ) (f : FoldEntry) → j < k → slice_get folds j ≡ Some f → IsBasis f

-- where nothing else is wrong, such a fold has a wrong shape
pub record IsBroken (layout : Layout) (d : Data) (e : CertFault) : Type 0 where
  pub folds : List FoldEntry
  pub there : get (codes "folds") d ≡ Some (folds_value folds)
  pub number : ℕ
  pub first_broken : IsFirstBroken folds number
  pub else_right : refusal layout d ≡ None
  pub fault : e ≡ fault.Shape (1 + length layout.loads + number)

-- why a value is refused
abbrev pub Refuses : Layout → Data → CertFault → Type 0
Refuses layout d e = (refusal layout d ≡ Some e) ⊎ IsBroken layout d e
