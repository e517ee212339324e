-- What a fold says whose rows and inverse forms are not yet multiplied.
use Rattle.affc_certvalue.specs.fold.Entries.{FoldEntry, coefs_of}
use Rattle.affc_certvalue.specs.declared.fold.draft.Draft.{Draft}

abbrev pub draft_entry : Draft → FoldEntry
draft_entry d = record { array = d.array.0; rows = coefs_of d.rows; inverse = coefs_of d.inverse; moduli = d.moduli }
