-- What the words of forms give at small forms. Each value was found by hand.
use Rattle.std.specs.Prelude.{◌≡◌, ◌-◌, ◌^◌, [], ◌∷◌, pos, negsuc}
use Rattle.affc_rows.specs.Forms.{Affine}
use Rattle.affc_rows.specs.Vocabulary.{column_form, number_form, opposite, HasOpposite, AreOpposite, spread, widened, padded, gap_row, form_at}

-- 3 n + 5 i - 7, of a parameter and an iterator
abbrev pub line : Affine
line = record { coefs = pos 3 ∷ pos 5 ∷ []; constant = negsuc 6 }

abbrev pub Columns : Type 0
Columns =
    (column_form 3 1 ≡ record { coefs = pos 0 ∷ pos 1 ∷ pos 0 ∷ []; constant = pos 0 })
    × (column_form 3 0 ≡ record { coefs = pos 1 ∷ pos 0 ∷ pos 0 ∷ []; constant = pos 0 })
    × (column_form 2 2 ≡ record { coefs = pos 0 ∷ pos 0 ∷ []; constant = pos 0 })
    × (number_form 2 (negsuc 3) ≡ record { coefs = pos 0 ∷ pos 0 ∷ []; constant = negsuc 3 })

abbrev pub Opposites : Type 0
Opposites =
    (opposite line ≡ record { coefs = negsuc 2 ∷ negsuc 4 ∷ []; constant = pos 7 })
    × AreOpposite (pos 3 ∷ negsuc 4 ∷ pos 0 ∷ []) (negsuc 2 ∷ pos 5 ∷ pos 0 ∷ [])
    × (AreOpposite (pos 3 ∷ negsuc 4 ∷ []) (negsuc 2 ∷ pos 4 ∷ []) → ⊥)
    × (AreOpposite (pos 3 ∷ []) (negsuc 2 ∷ pos 0 ∷ []) → ⊥)
    × (AreOpposite (pos 3 ∷ pos 0 ∷ []) (negsuc 2 ∷ []) → ⊥)

-- all numbers of 128 bits but the least have an opposite
abbrev pub LeastHasNone : Type 0
LeastHasNone =
    (HasOpposite (number_form 1 (negsuc (2 ^ 127 - 1))) → ⊥)
    × (HasOpposite (record { coefs = negsuc (2 ^ 127 - 1) ∷ []; constant = pos 0 }) → ⊥)
    × HasOpposite (record { coefs = negsuc (2 ^ 127 - 2) ∷ []; constant = pos (2 ^ 127 - 1) })

abbrev pub MoreColumns : Type 0
MoreColumns =
    (spread 1 2 1 line ≡ record { coefs = pos 3 ∷ pos 0 ∷ pos 0 ∷ pos 5 ∷ pos 0 ∷ []; constant = negsuc 6 })
    × (widened 1 line ≡ record { coefs = pos 3 ∷ pos 5 ∷ pos 0 ∷ []; constant = negsuc 6 })
    × (padded 3 line ≡ record { coefs = pos 3 ∷ pos 5 ∷ pos 0 ∷ []; constant = negsuc 6 })
    × (padded 2 line ≡ line)

-- 3 n + 5 i - 7 is at most 4 n - 2 where n - 5 i + 5 is at least 0, and less where n - 5 i + 4 is
abbrev pub Gaps : Type 0
Gaps =
    (gap_row line (record { coefs = pos 4 ∷ pos 0 ∷ []; constant = negsuc 1 }) 0 ≡ record { coefs = pos 1 ∷ negsuc 4 ∷ []; constant = pos 5 })
    × (gap_row line (record { coefs = pos 4 ∷ pos 0 ∷ []; constant = negsuc 1 }) 1 ≡ record { coefs = pos 1 ∷ negsuc 4 ∷ []; constant = pos 4 })

-- n by n, and i by n - 2 j + 1: 8 n - 10 j - 2
abbrev pub Images : Type 0
Images =
    (form_at 2 (column_form 2 0 ∷ record { coefs = pos 1 ∷ negsuc 1 ∷ []; constant = pos 1 } ∷ []) line ≡ record { coefs = pos 8 ∷ negsuc 9 ∷ []; constant = negsuc 1 })
    × (form_at 2 [] (number_form 0 (pos 4)) ≡ number_form 2 (pos 4))
