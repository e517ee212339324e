-- What a fold says: its numbers, without a basis.
use Rattle.affc_certvalue.specs.declared.fold.fold.CertFold.{CertFold}
use Rattle.affc_certvalue.specs.declared.fold.fold.CertModulus.{CertModulus}
use Rattle.affc_rows.specs.Forms.{Affine}
use Rattle.std.specs.Prelude.{ℕ, ℤ, List, map}

-- the rows of a basis and its inverse forms, without constants, and its moduli
pub record FoldEntry : Type 0 where
  pub array : ℕ
  pub rows : List (List ℤ)
  pub inverse : List (List ℤ)
  pub moduli : List CertModulus

abbrev pub coefs_of : List Affine → List (List ℤ)
coefs_of forms = map (λ f. f.coefs) forms

abbrev pub entry_of : CertFold → FoldEntry
entry_of f = record { array = f.array.0; rows = coefs_of f.basis.rows; inverse = coefs_of f.basis.inverse; moduli = f.moduli }
