-- Questions within the limits of a system, and proofs within the limit of rows.
use Rattle.std.specs.Prelude.{◌≤◌, List, length}
use Rattle.std.specs.List.{All}
use Rattle.affc_rows.specs.Forms.{Affine}
use Rattle.affc_system.specs.Systems.{Rows, IsRow}
use Rattle.affc_farkas.specs.Depths.{StandAtNode}
use Rattle.affc_farkas.specs.Proofs.{ValidProof}
use Rattle.affc_farkas.specs.declared.proof.Proof.{Proof}

-- at most 128 columns and 1,024 rows, each row over these columns and within the limits of a row
pub record IsWithin (s : Rows) : Type 0 where
  pub columns : s.columns ≤ 128
  pub few : length s.rows ≤ 1024
  pub rows : All (IsRow s.columns) s.rows

-- a valid proof that the rows have no integer point, at none of whose nodes more than 1,024 rows stand
pub record IsProof (question : Rows) (proof : Proof) : Type 0 where
  pub valid : ValidProof question proof
  pub few : (rows : List Affine) → StandAtNode question.rows proof rows → length rows ≤ 1024
