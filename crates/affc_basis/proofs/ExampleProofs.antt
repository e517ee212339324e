-- Each example computes.
use Rattle.std.proofs.Common.{◌≡◌, ℕ, zero, suc, ◌+◌, ◌≤◌, ℤ, pos, negsuc, ◌+ℤ◌, ◌*ℤ◌, ◌≤ℤ◌, ◌<ℤ◌, List, [], ◌∷◌, refl, sym, ap, subst, inl, inr, arith, lit≤, Some}
use Rattle.std.specs.Prelude.{slice_get}
use Rattle.std.proofs.lemmas.Int.{ints}
use Rattle.std.proofs.lemmas.Option.{same_Some, none-some}
use denote.Hole.Carrier.{hidden}
use Rattle.affc_ast.specs.declared.tree.Ix.TheBlock.{shape-the_row-Ix-0, hidden-the_row-Ix-0}
use Rattle.affc_ast.specs.declared.tree.Val.TheBlock.{shape-the_row-Val-0, hidden-the_row-Val-0}
use Rattle.affc_ast.specs.declared.tree.Stmt.TheBlock.{shape-the_row-Stmt-0, hidden-the_row-Stmt-0}
use Rattle.affc_rows.specs.Forms.{Affine, dot, value}
use Rattle.affc_trace.specs.Examples.{blur, together, two, cell}
use Rattle.affc_trace.specs.Dataflow.{LivePair}
use Rattle.affc_trace.proofs.Found.{live_pairs_are_found}
use Rattle.affc_basis.specs.Slices.{along, minus}
use Rattle.affc_basis.specs.Moduli.{IsMultiple}
use Rattle.affc_basis.specs.Folds.{forms_of}
use Rattle.affc_basis.specs.Examples.{x0, onto, PlaceOfFour, PlacesOfTheBlur, PlaceBySecondFold, RowsHaveTheirModuli, SlicesAreSuccessive, BlurNeedsTwo, ThreeObeys, TwoIsTooFew, ThreeIsLeast}
use Rattle.affc_basis.proofs.Greatest.{greatest_is_found}

pub place_of_four : PlaceOfFour
place_of_four = (refl, refl)

pub places_of_the_blur : PlacesOfTheBlur
places_of_the_blur = (refl, refl)

pub place_by_second_fold : PlaceBySecondFold
place_by_second_fold = refl

pub rows_have_their_moduli : RowsHaveTheirModuli
rows_have_their_moduli = refl

pub slices_are_successive : SlicesAreSuccessive
slices_are_successive = (refl, refl, refl, refl, refl)

pub blur_needs_two : BlurNeedsTwo
unfolding shape-the_row-Ix-0 hidden-the_row-Ix-0 shape-the_row-Val-0 hidden-the_row-Val-0 shape-the_row-Stmt-0 hidden-the_row-Stmt-0 hidden
blur_needs_two = greatest_is_found blur together 2 two (x0 ∷ []) 0 x0

first_modulus : (b : Affine) (n : ℕ) → Some (record { coefs = pos 0 ∷ []; constant = pos n }) ≡ Some b → value b two ≡ pos n
first_modulus b n e = let z : 0 + n ≡ n = omega arith in subst (λ f. value f two ≡ pos n) (same_Some _ b e) (ap pos z)

three_more : (d : ℕ) (v : ℤ) → v ≡ pos 3 → d ≤ 2 → (pos 1 ≤ℤ v) × (pos d <ℤ v)
three_more d v e h = (omega (arith, ints), omega (arith, ints))

pub three_obeys : ThreeObeys
three_obeys zero row b at at_b =
    let v = first_modulus b 3 at_b in
    let same : x0 ≡ row = same_Some x0 row at in (
      (three_more 0 (value b two) v (lit≤ tt)).0,
      λ x y s.
          (three_more (along row x y) (value b two) v (subst (λ r. along r x y ≤ 2) same (blur_needs_two.most x y s))).1,
    )
three_obeys (suc k) row b at at_b = absurd (none-some row at)

-- t[0] and t[2] are live together
pub ends_are_live : LivePair blur together 2 two (pos 0 ∷ []) (pos 2 ∷ [])
unfolding shape-the_row-Ix-0 hidden-the_row-Ix-0 shape-the_row-Val-0 hidden-the_row-Val-0 shape-the_row-Stmt-0 hidden-the_row-Stmt-0 hidden
ends_are_live = (live_pairs_are_found blur together two (cell 2 0) (cell 2 2)).0 (inr (inl refl))

in_lattice : (k : ℕ) (row b : Affine) → slice_get (x0 ∷ []) k ≡ Some row → slice_get (forms_of (onto 2).moduli) k ≡ Some b
    → IsMultiple (value b two) (dot row.coefs (minus (pos 0 ∷ []) (pos 2 ∷ [])))
in_lattice zero row b at at_b =
    subst (λ r. IsMultiple (value b two) (dot r.coefs (minus (pos 0 ∷ []) (pos 2 ∷ [])))) (same_Some x0 row at)
    (subst (λ v. IsMultiple v (dot x0.coefs (minus (pos 0 ∷ []) (pos 2 ∷ [])))) (sym (first_modulus b 2 at_b)) (negsuc 0, refl))
in_lattice (suc k) row b at at_b = absurd (none-some row at)

pub two_is_too_few : TwoIsTooFew
two_is_too_few admissible = admissible.apart (pos 0 ∷ []) (pos 2 ∷ []) ends_are_live in_lattice

pub nothing_along : (q : List ℤ) → dot (pos 0 ∷ []) q ≡ pos 0
nothing_along [] = refl
nothing_along (x ∷ xs) = zero_times x
  where
    zero_times : (x : ℤ) → (pos 0 *ℤ x) +ℤ pos 0 ≡ pos 0
    zero_times x = omega (arith, ints)

pub constant_stays : (d v : ℤ) → d ≡ pos 0 → v ≡ pos 3 → (d +ℤ pos 3) ≤ℤ v
constant_stays d v e f = omega (arith, ints)

pub three_is_least : ThreeIsLeast
three_is_least = record {
  in_context = record { ranges = refl; context = refl };
  highest = λ q here. constant_stays (dot (pos 0 ∷ []) q) (pos 3) (nothing_along q) refl;
  greatest = 2;
  is_greatest = blur_needs_two;
  value_there = refl;
  attains = (record { pair = ends_are_live; agrees = λ j row h at. absurd (omega arith) }, refl, lit≤ tt);
}
