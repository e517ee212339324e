-- Extents that hold no other names than those of parameters before them.
use Rattle.std.specs.Prelude.{ℕ, suc, Bool, true, ◌&&◌, nat_lt, List, [], ◌∷◌}
use Rattle.affc_ast.specs.declared.tree.Ix.{Ix}
use Rattle.affc_ast.specs.declared.tree.Ix.TheOpen.{Ix-F, Lit, Name, Neg, Add, Sub, Mul, Min, Max, Floord, Ceild, Mod}
use Rattle.affc_ast.specs.declared.tree.Param.{Param}
use Rattle.affc_ast.specs.declared.tree.Param.TheVariants.{Number, Array}
use Rattle.affc_ast.specs.Recursion.{by_ix}

abbrev pub earlier_step : Ix-F (ℕ → Bool) → ℕ → Bool
earlier_step (Lit n) count = true
earlier_step (Name x) count = nat_lt x.0 count
earlier_step (Neg a) count = a count
earlier_step (Add a b) count = a count && b count
earlier_step (Sub a b) count = a count && b count
earlier_step (Mul a b) count = a count && b count
earlier_step (Min a b) count = a count && b count
earlier_step (Max a b) count = a count && b count
earlier_step (Floord a n) count = a count
earlier_step (Ceild a n) count = a count
earlier_step (Mod a b) count = a count && b count

-- whether the expression holds the first so many names alone
abbrev pub holds_earlier : Ix → (count : ℕ) → Bool
holds_earlier = by_ix earlier_step

abbrev pub all_earlier : List Ix → (count : ℕ) → Bool
all_earlier [] count = true
all_earlier (e ∷ es) count = holds_earlier e count && all_earlier es count

-- whether each extent holds the names of number parameters before it alone, of which there are so many before these
abbrev pub extents_earlier : (count : ℕ) → List Param → Bool
extents_earlier count [] = true
extents_earlier count (Number name low high ∷ ps) = extents_earlier (suc count) ps
extents_earlier count (Array d ∷ ps) = all_earlier d.extents count && extents_earlier count ps
