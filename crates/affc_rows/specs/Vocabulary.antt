-- The words of forms: what the crates above make of them again and again.
use Rattle.std.specs.Prelude.{◌≡◌, ℕ, zero, suc, ◌-◌, ◌^◌, ◌<◌, ℤ, pos, negsuc, neg_ℤ, ◌+ℤ◌, ◌-ℤ◌, unsigned_abs, List, [], ◌∷◌, ◌++◌, length, map, replicate, take, drop}
use Rattle.std.specs.List.{All}
use Rattle.affc_rows.specs.Forms.{Affine, mixed_form, dot, composed, constants_of}

-- the coefficients of column x alone, of so many; all 0 where there is no such column
abbrev pub unit_of : (columns x : ℕ) → List ℤ
unit_of zero x = []
unit_of (suc n) zero = pos 1 ∷ replicate n (pos 0)
unit_of (suc n) (suc x) = pos 0 ∷ unit_of n x

-- the form of one column, and that of a number
abbrev pub column_form : (columns j : ℕ) → Affine
column_form columns j = record { coefs = unit_of columns j; constant = pos 0 }

abbrev pub number_form : (columns : ℕ) → ℤ → Affine
number_form columns z = record { coefs = replicate columns (pos 0); constant = z }

-- the form with its signs turned
abbrev pub opposite : Affine → Affine
opposite f = record { coefs = map neg_ℤ f.coefs; constant = neg_ℤ f.constant }

-- each entry has its opposite within i128
abbrev pub HasOpposite : Affine → Type 0
HasOpposite f = All (λ c. unsigned_abs c < 2 ^ 127) f.coefs × (unsigned_abs f.constant < 2 ^ 127)

-- the numbers of one list are those of the other with the other sign
abbrev pub AreOpposite : List ℤ → List ℤ → Type 0
AreOpposite [] [] = Unit {0}
AreOpposite [] (y ∷ ys) = ⊥
AreOpposite (x ∷ xs) [] = ⊥
AreOpposite (x ∷ xs) (y ∷ ys) = (x +ℤ y ≡ pos 0) × AreOpposite xs ys

-- the form with so many columns more between its parameters and its iterators, and so many behind, on which it doesn't rest
abbrev pub spread : (params between behind : ℕ) → Affine → Affine
spread params between behind f = record f { coefs = take params f.coefs ++ (replicate between (pos 0) ++ (drop params f.coefs ++ replicate behind (pos 0))) }

-- the form with so many columns more behind, on which it doesn't rest
abbrev pub widened : (more : ℕ) → Affine → Affine
widened more f = record f { coefs = f.coefs ++ replicate more (pos 0) }

-- the form over so many columns, of which it sees the first
abbrev pub padded : (columns : ℕ) → Affine → Affine
padded columns f = widened (columns - length f.coefs) f

-- b - a - k: the row of a + k <= b
abbrev pub gap_row : (a b : Affine) → (k : ℕ) → Affine
gap_row a b k = let d = mixed_form (pos 1) b (negsuc 0) a in record d { constant = d.constant -ℤ pos k }

-- a form with each of its columns replaced by its image, over so many columns; there may be no image
abbrev pub form_at : (columns : ℕ) → List Affine → Affine → Affine
form_at columns images f = record { coefs = composed f.coefs images 0 columns; constant = dot f.coefs (constants_of images) +ℤ f.constant }
