-- The value of a proof has no float, and nests only a few levels.
use Rattle.affc_certvalue.specs.proof.Proofs.{Steps, Refuted, Cut, Split}
use Rattle.affc_certvalue.specs.proof.Values.{pair_value, multipliers_value, leaf_node, cut_node, split_node, nodes_of, proof_value}
use Rattle.affc_certvalue.proofs.Flat.{IsFlat, AllFlat, list_flat, weaker, list_of_flat, both_flat, whole_flat, string_flat, numbers_flat, form_flat, number_flat}
use Rattle.affc_certvalue.specs.Values.{whole_value, numbers_value, form_value}
use Rattle.affc_rows.specs.Forms.{Affine}
use Rattle.serde_json.specs.Data.{string}
use Rattle.std.proofs.Common.{ℕ, ℤ, pos, List, [], ◌∷◌, codes, arith}

pair_flat : (p : ℕ × ℕ) → IsFlat 1 (pair_value p)
pair_flat p = list_flat 0 (whole_value (pos p.0) ∷ whole_value (pos p.1) ∷ []) (whole_flat (pos p.0), (whole_flat (pos p.1), tt))

multipliers_flat : (by : List (ℕ × ℕ)) → IsFlat 2 (multipliers_value by)
multipliers_flat by = list_of_flat 1 pair_value by pair_flat

-- ---- Proofs

leaf_flat : (by : List (ℕ × ℕ)) → IsFlat 3 (leaf_node by)
leaf_flat by =
    let all : AllFlat 2 (string (codes "f") ∷ multipliers_value by ∷ []) = (string_flat 2 (codes "f"), (multipliers_flat by, tt)) in
    list_flat 2 (string (codes "f") ∷ multipliers_value by ∷ []) all

cut_flat : (by : List (ℕ × ℕ)) (g : ℤ) (row : Affine) → IsFlat 3 (cut_node by g row)
cut_flat by g row =
    let all : AllFlat 2 (string (codes "c") ∷ multipliers_value by ∷ whole_value g ∷ form_value row ∷ []) =
    (string_flat 2 (codes "c"), (multipliers_flat by, (number_flat 2 g, (form_flat 2 row (omega arith), tt)))) in
    list_flat 2 (string (codes "c") ∷ multipliers_value by ∷ whole_value g ∷ form_value row ∷ []) all

split_flat : (cs : List ℤ) (at : ℤ) → IsFlat 3 (split_node cs at)
split_flat cs at =
    let all : AllFlat 2 (string (codes "s") ∷ numbers_value cs ∷ whole_value at ∷ []) = (string_flat 2 (codes "s"), (weaker 1 2 (numbers_value cs) (omega arith) (numbers_flat cs), (number_flat 2 at, tt))) in
    list_flat 2 (string (codes "s") ∷ numbers_value cs ∷ whole_value at ∷ []) all

nodes_flat : (p : Steps) → AllFlat 3 (nodes_of p)
nodes_flat (Refuted by) = (leaf_flat by, tt)
nodes_flat (Cut by g row rest) = (cut_flat by g row, nodes_flat rest)
nodes_flat (Split coefs at low high) = (split_flat coefs at, both_flat 3 (nodes_of low) (nodes_of high) (nodes_flat low) (nodes_flat high))

pub proof_flat : (p : Steps) → IsFlat 4 (proof_value p)
proof_flat p = list_flat 3 (nodes_of p) (nodes_flat p)
