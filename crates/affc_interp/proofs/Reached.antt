-- Where subscripts lead that are read one after another.
use Rattle.std.proofs.Common.{◌≡◌, ℕ, ◌+◌, ◌<◌, ℤ, List, [], ◌∷◌, length, Option, None, Result, Ok, Err, refl, sym, ap, ◌∙◌, arith}
use Rattle.affc_ast.specs.declared.tree.Ix.{Ix}
use Rattle.affc_ast.specs.Cause.{Cause}
use Rattle.affc_ast.specs.Index.{index_value, index_values, nodes_of_ix}
use Rattle.affc_interp.specs.Layout.{place_from}
use Rattle.affc_interp.specs.Seen.{read_then}

nowhere : (size : ℕ) (xs : List ℤ) → place_from size None xs [] ≡ None
nowhere size [] = refl
nowhere size (x ∷ xs) = refl

-- where no extents are left
pub too_many : (size : ℕ) (place : Option ℕ) (x : ℤ) (xs extents : List ℤ) → length extents < 1 → place_from size None xs extents ≡ place_from size place (x ∷ xs) extents
too_many size place x xs [] h = nowhere size xs
too_many size place x xs (n ∷ ns) h = absurd (omega arith)

with_first : (r : Result (List ℤ) Cause) (x : ℤ) (f g : List ℤ → Option ℕ) → ((xs : List ℤ) → f xs ≡ g (x ∷ xs))
    → ◌≡◌ {A = Result (Option ℕ) Cause} (read_then r (λ xs. Ok (f xs))) (read_then (read_then r (λ xs. Ok (x ∷ xs))) (λ xs. Ok (g xs)))
with_first (Ok xs) x f g h = ap Ok (h xs)
with_first (Err c) x f g h = refl

-- one subscript more
pub on_place : (e : Ix) (rest : List Ix) (node : ℕ) (names : List ℤ) (x : ℤ) (f g : List ℤ → Option ℕ) → index_value e node names ≡ Ok x → ((xs : List ℤ) → f xs ≡ g (x ∷ xs))
    → ◌≡◌ {A = Result (Option ℕ) Cause} (read_then (index_values rest (node + nodes_of_ix e) names) (λ xs. Ok (f xs))) (read_then (index_values (e ∷ rest) node names) (λ xs. Ok (g xs)))
on_place e rest node names x f g is h =
    with_first (index_values rest (node + nodes_of_ix e) names) x f g h
    ∙ ap (λ r. read_then (read_then r (λ y. read_then (index_values rest (node + nodes_of_ix e) names) (λ xs. Ok (y ∷ xs)))) (λ xs. Ok (g xs))) (sym is)
