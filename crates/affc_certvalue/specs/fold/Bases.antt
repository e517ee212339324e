-- Rows and inverse forms that multiply to the identity.
use Rattle.affc_basis.specs.Bases.{AreComponents}
use Rattle.affc_certvalue.specs.fold.Entries.{FoldEntry}
use Rattle.affc_rows.specs.Forms.{Affine}
use Rattle.std.specs.Prelude.{ℤ, pos, List, map}

-- ---- The first refusal

abbrev pub plain : List (List ℤ) → List Affine
plain rows = map (λ cs. record { coefs = cs; constant = pos 0 }) rows

-- the inverse forms, with the rows put in, are the columns
abbrev pub IsBasis : FoldEntry → Type 0
IsBasis f = AreComponents (plain f.rows) (plain f.inverse)
