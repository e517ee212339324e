-- The JSON value of a proof.
use Rattle.affc_certvalue.specs.proof.Proofs.{Steps, Refuted, Cut, Split}
use Rattle.affc_certvalue.specs.Values.{list_value, list_of, whole_value, numbers_value, form_value}
use Rattle.affc_rows.specs.Forms.{Affine}
use Rattle.serde_json.specs.Data.{Data, string}
use Rattle.std.specs.Prelude.{ℕ, ℤ, pos, List, [], ◌∷◌, ◌++◌, codes}

-- ---- Proofs

-- a row number and its multiplier
abbrev pub pair_value : ℕ × ℕ → Data
pair_value p = list_value (whole_value (pos p.0) ∷ whole_value (pos p.1) ∷ [])

abbrev pub multipliers_value : List (ℕ × ℕ) → Data
multipliers_value by = list_of pair_value by

abbrev pub leaf_node : List (ℕ × ℕ) → Data
leaf_node by = list_value (string (codes "f") ∷ multipliers_value by ∷ [])

abbrev pub cut_node : List (ℕ × ℕ) → ℤ → Affine → Data
cut_node by g row = list_value (string (codes "c") ∷ multipliers_value by ∷ whole_value g ∷ form_value row ∷ [])

abbrev pub split_node : List ℤ → ℤ → Data
split_node coefs at = list_value (string (codes "s") ∷ numbers_value coefs ∷ whole_value at ∷ [])

-- the nodes of a proof in preorder
abbrev pub nodes_of : Steps → List Data
nodes_of (Refuted by) = leaf_node by ∷ []
nodes_of (Cut by g row rest) = cut_node by g row ∷ nodes_of rest
nodes_of (Split coefs at low high) = split_node coefs at ∷ (nodes_of low ++ nodes_of high)

abbrev pub proof_value : Steps → Data
proof_value p = list_value (nodes_of p)
