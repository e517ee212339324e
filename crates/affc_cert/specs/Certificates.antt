-- What a certificate says: its numbers, trees, folds and proofs, without where boxes lie.
use Rattle.affc_cert.specs.declared.cert.Cert.{Cert}
use Rattle.affc_certvalue.specs.fold.Entries.{FoldEntry, entry_of}
use Rattle.affc_certvalue.specs.proof.Proofs.{Steps, steps_of}
use Rattle.affc_quast.specs.Seen.{trees_of}
use Rattle.affc_quast.specs.Trees.{Tree}
use Rattle.std.specs.Prelude.{ℤ, List, map}

pub record Certificate : Type 0 where
  pub context : List ℤ
  pub trees : List Tree
  pub folds : List FoldEntry
  pub proofs : List Steps

-- what a certificate in code says
abbrev pub seen : Cert → Certificate
seen c = record { context = c.context; trees = trees_of c.flow; folds = map entry_of c.folds; proofs = map steps_of c.proofs }
