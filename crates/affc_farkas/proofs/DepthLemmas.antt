-- How many rows stand at a proof's nodes.
use Rattle.std.proofs.Common.{◌≡◌, ℕ, ◌+◌, ◌≤◌, max, List, [], ◌∷◌, ◌++◌, length, refl, ap, inl, inr, length-append, arith}
use Rattle.std.proofs.lemmas.Bool.{cases_lt}
use Rattle.affc_rows.specs.Forms.{Affine}
use Rattle.affc_farkas.specs.Proofs.{low_row, high_row}
use Rattle.affc_farkas.specs.Depths.{depth, StandAtNode}
use Rattle.affc_farkas.specs.declared.proof.Proof.{Proof, Leaf, Cut', Split'}

here : (rows above : List Affine) (d : ℕ) → rows ≡ above → length rows ≤ length above + d
here rows above d e = omega (arith, ap length e)

pushed : (above : List Affine) (row : Affine) → length (above ++ row ∷ []) ≡ length above + 1
pushed above row = length-append above (row ∷ [])

-- no node has more rows than those above the proof and one for each level
pub few_at_nodes : (above : List Affine) (t : Proof) (rows : List Affine) → StandAtNode above t rows → length rows ≤ length above + depth t
few_at_nodes above (Leaf by) rows s = here rows above 0 s
few_at_nodes above (Cut' by g row p rest) rows s =
    elim s [ inl e ↦ here rows above (depth rest + 1) e | inr below ↦ omega (arith, pushed above row, few_at_nodes (above ++ row ∷ []) rest rows below) ]
few_at_nodes above (Split' form at p low q high) rows s =
    elim s [
      | inl e ↦ here rows above (max (depth low) (depth high) + 1) e
      | inr below ↦ elim below [
        | inl under ↦ omega (arith, pushed above (low_row form at), few_at_nodes (above ++ low_row form at ∷ []) low rows under)
        | inr over ↦ omega (arith, pushed above (high_row form at), few_at_nodes (above ++ high_row form at ∷ []) high rows over)
      ]
    ]

-- some node has that many
pub record Fullest (above : List Affine) (t : Proof) : Type 0 where
  pub rows : List Affine
  pub stand : StandAtNode above t rows
  pub many : length rows ≡ length above + depth t

pub fullest : (above : List Affine) (t : Proof) → Fullest above t
fullest above (Leaf by) = record { rows = above; stand = refl; many = omega arith }
fullest above (Cut' by g row p rest) =
    let r = fullest (above ++ row ∷ []) rest in
    record { rows = r.rows; stand = inr r.stand; many = omega (arith, pushed above row, r.many) }
fullest above (Split' form at p low q high) =
    let l = fullest (above ++ low_row form at ∷ []) low in
    let h = fullest (above ++ high_row form at ∷ []) high in
    elim (cases_lt (depth low) (depth high)) [
      | inl less ↦ record { rows = h.rows; stand = inr (inr h.stand); many = omega (arith, pushed above (high_row form at), h.many) }
      | inr more ↦ record { rows = l.rows; stand = inr (inl l.stand); many = omega (arith, pushed above (low_row form at), l.many) }
    ]

-- the rows above the proof stand at the proof itself
pub own_rows : (above : List Affine) (t : Proof) → StandAtNode above t above
own_rows above (Leaf by) = refl
own_rows above (Cut' by g row p rest) = inl refl
own_rows above (Split' form at p low q high) = inl refl
