-- A proof that isn't deep has no node with too many rows.
use Rattle.std.proofs.Common.{◌≡◌, ℕ, ◌+◌, ◌-◌, ◌≤◌, List, length, ap, arith}
use Rattle.affc_rows.specs.Forms.{Affine}
use Rattle.affc_system.specs.Systems.{Rows}
use Rattle.affc_farkas.specs.Depths.{depth}
use Rattle.affc_farkas.specs.Proofs.{ValidProof}
use Rattle.affc_farkas.specs.declared.proof.Proof.{Proof}
use Rattle.affc_farkas.proofs.DepthLemmas.{few_at_nodes, fullest}
use Rattle.affc_products.specs.Parts.{IsProof}

-- no node of a proof that isn't deep has too many rows
pub shallow : (q : Rows) (p : Proof) (rows : List Affine) (limit : ℕ) → rows ≡ q.rows → limit ≡ 1024 - length rows → length rows ≤ 1024 → depth p ≤ limit → ValidProof q p → IsProof q p
shallow q p rows limit e l few deep valid = record {
  valid = valid;
  few = λ above s. omega (arith, ap length e, l, few, deep, few_at_nodes q.rows p above s);
}

-- and a deep one has such a node
pub not_deep : (q : Rows) (p : Proof) (rows : List Affine) (limit : ℕ) → rows ≡ q.rows → limit ≡ 1024 - length rows → length rows ≤ 1024 → IsProof q p → depth p ≤ limit
not_deep q p rows limit e l few h =
    let f = fullest q.rows p in
    let many : length f.rows ≡ length q.rows + depth p = f.many in
    let room : length f.rows ≤ 1024 = h.few f.rows f.stand in
    omega (arith, ap length e, l, few, many, room)
