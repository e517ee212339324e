-- The tables of eliminations: their lengths.
use Rattle.std.proofs.Common.{◌≡◌, ℕ, zero, suc, ◌+◌, List, length, refl, ◌∙◌, arith}
use Rattle.std.proofs.lemmas.List.{length_push}
use Rattle.affc_rows.specs.Forms.{Affine}
use Rattle.affc_farkas.specs.Eliminations.{owns, own, IsTable, none, more}
use Rattle.affc_farkas.specs.declared.pair.Pair.{Pair}

pub length-owns : (count i : ℕ) → length (owns count i) ≡ i
length-owns count zero = refl
length-owns count (suc i) = length_push (owns count i) (own count i) ∙ omega (arith, length-owns count i)

pub table_length : (columns : ℕ) (rows : List Affine) {made : List Pair} {table : List (List ℕ)} → IsTable columns rows made table → length table ≡ length rows + length made
table_length columns rows none = omega (arith, length-owns (length rows) (length rows))
table_length columns rows (more made table p weights t n a) = omega (arith, length_push table weights, length_push made p, table_length columns rows t)
