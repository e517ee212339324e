-- What a certificate in code says, and when it is one for a nest.
use Rattle.std.specs.Prelude.{◌≡◌, List, [], ◌∷◌, length, map, Option, Some, None, slice_get}
use Rattle.std.specs.List.{All}
use Rattle.affc_trace.specs.declared.schedule.Schedule.{Schedule}
use Rattle.affc_trace.specs.Law.{IsIn}
use Rattle.affc_basis.specs.Moduli.{IsModulus}
use Rattle.affc_nest.specs.declared.nest.ArrayInfo.{ArrayInfo}
use Rattle.affc_nest.specs.declared.nest.Nest.{Nest}
use Rattle.affc_quast.specs.Limits.{HaveShapes}
use Rattle.affc_quast.specs.Seen.{trees_of}
use Rattle.affc_quast.specs.Sources.{loads_before}
use Rattle.affc_quast.specs.Trees.{Tree}
use Rattle.affc_life.specs.Asked.{KeepLimits}
use Rattle.affc_life.specs.Clashes.{clash_of, clashes}
use Rattle.affc_cert.specs.declared.cert.Cert.{Cert}
use Rattle.affc_certvalue.specs.fold.Limits.{IsMarkWithin}
use Rattle.affc_certvalue.specs.declared.fold.fold.CertFold.{CertFold}
use Rattle.affc_certvalue.specs.declared.fold.fold.CertLeast.{CertLeast}
use Rattle.affc_certvalue.specs.declared.fold.fold.CertModulus.{CertModulus}
use Rattle.affc_check.specs.list.Items.{Item, LeastShown, ModulusShown, FoldShown, fold_items, items}

-- ---- What it says

abbrev pub least_said : Option CertLeast → Option LeastShown
least_said None = None
least_said (Some l) = Some (record { p = l.p; pair = l.pair })

abbrev pub modulus_said : CertModulus → ModulusShown
modulus_said m = record { form = m.form; least = least_said m.least }

-- a fold, beside its array's clash systems as the code holds them
pub record IsFoldSaid (nest : Nest) (schedule : Schedule) (trees : List Tree) (c : CertFold) (f : FoldShown) : Type 0 where
  pub array : f.array ≡ c.array.0
  pub rows : f.rows ≡ c.basis.rows
  pub moduli : f.moduli ≡ map modulus_said c.moduli
  pub systems : map clash_of f.systems ≡ clashes nest trees schedule c.array.0

abbrev pub AreFoldsSaid : Nest → Schedule → List Tree → List CertFold → List FoldShown → Type 0
AreFoldsSaid nest schedule trees [] [] = Unit {0}
AreFoldsSaid nest schedule trees [] (f ∷ fs) = ⊥
AreFoldsSaid nest schedule trees (c ∷ cs) [] = ⊥
AreFoldsSaid nest schedule trees (c ∷ cs) (f ∷ fs) = IsFoldSaid nest schedule trees c f × AreFoldsSaid nest schedule trees cs fs

-- what one fold of a certificate is looked at under
pub record Under : Type 0 where
  pub schedule : Schedule
  pub trees : List Tree

-- the items of one fold
pub record AreFoldItems (nest : Nest) (schedule : Schedule) (trees : List Tree) (c : CertFold) (is : List Item) : Type 0 where
  pub fold : FoldShown
  pub said : IsFoldSaid nest schedule trees c fold
  pub are : is ≡ fold_items nest fold

-- the items of a certificate
pub record AreItems (nest : Nest) (schedule : Schedule) (c : Cert) (is : List Item) : Type 0 where
  pub folds : List FoldShown
  pub said : AreFoldsSaid nest schedule (trees_of c.flow) c.folds folds
  pub are : is ≡ items nest schedule c.context (trees_of c.flow) folds

-- ---- For a nest

-- a row for each dimension of its array, and moduli over the parameters within their limits
pub record IsFoldFor (nest : Nest) (c : CertFold) : Type 0 where
  pub info : ArrayInfo
  pub declared : slice_get nest.arrays c.array.0 ≡ Some info
  pub dimensions : length c.basis.rows ≡ length info.extents
  pub moduli : All (λ m. IsModulus nest.context.columns m.form) c.moduli

-- a tree for each load, and folds of arrays
pub record IsCertFor (nest : Nest) (c : Cert) : Type 0 where
  pub shapes : HaveShapes nest (trees_of c.flow)
  pub folds : (f : CertFold) → IsIn f c.folds → IsFoldFor nest f

-- ---- Within the limits of a certificate's text

-- a modulus for each row, each mark with a value for each parameter
pub record IsFoldWithin (nest : Nest) (c : CertFold) : Type 0 where
  pub each : length c.moduli ≡ length c.basis.rows
  pub marks : All (λ m. IsMarkWithin nest.context.columns m.least) c.moduli

-- a certificate for the nest that keeps the limits of one that is read: trees within the widest limits, and no more of them than loads
pub record IsCertWithin (nest : Nest) (c : Cert) : Type 0 where
  pub certificate : IsCertFor nest c
  pub trees : KeepLimits nest (trees_of c.flow)
  pub no_more : length (trees_of c.flow) ≡ loads_before nest.entries (length nest.entries)
  pub folds : (f : CertFold) → IsIn f c.folds → IsFoldWithin nest f
