-- Rows that references point to.
use Rattle.std.proofs.Common.{◌≡◌, ℕ, ◌+◌, ◌<◌, List, [], ◌∷◌, ◌++◌, ◌∙◌, sym, ap, subst, arith, length, get_or, take, Bor}
use Rattle.std.proofs.lemmas.List.{get_or-map, length-map, take_more, take-map}
use Rattle.std.specs.List.{All}
use Rattle.affc_rows.specs.Forms.{Affine}
use Rattle.affc_system.specs.Systems.{IsRow}
use Rattle.affc_products.specs.Chosen.{rows_of}

pub rows_length : (rows : List (Bor Affine)) → length (rows_of rows) ≡ length rows
rows_length rows = length-map rows (λ (b : Bor Affine). b.now)

pub item_is : (rows : List (Bor Affine)) (i : ℕ) (r : Bor Affine) → i < length rows → r ≡ get_or rows i r → r.now ≡ get_or (rows_of rows) i r.now
item_is rows i r l e = ap (λ (b : Bor Affine). b.now) e ∙ sym (get_or-map (λ (b : Bor Affine). b.now) rows i r r.now l)

pub item_fits : (columns : ℕ) (rows : List (Bor Affine)) (i : ℕ) (r : Bor Affine) → All (IsRow columns) (rows_of rows) → i < length rows → r ≡ get_or rows i r → IsRow columns r.now
item_fits columns rows i r fit l e = subst (IsRow columns) (sym (item_is rows i r l e)) (fit i r.now (omega (arith, rows_length rows, l)))

pub rows_more : (rows : List (Bor Affine)) (i : ℕ) (r : Bor Affine) → i < length rows → r ≡ get_or rows i r → take (i + 1) (rows_of rows) ≡ take i (rows_of rows) ++ r.now ∷ []
rows_more rows i r l e =
    take_more (rows_of rows) i r.now (omega (arith, rows_length rows, l)) ∙ ap (λ (a : Affine). take i (rows_of rows) ++ a ∷ []) (sym (item_is rows i r l e))

pub rows_take : (n : ℕ) (rows : List (Bor Affine)) → rows_of (take n rows) ≡ take n (rows_of rows)
rows_take n rows = sym (take-map (λ (b : Bor Affine). b.now) n rows)
