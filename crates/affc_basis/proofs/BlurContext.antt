-- The context of the blur, where N is from 1 to 4.
use Rattle.std.proofs.Common.{◌≡◌, ℕ, zero, suc, ◌≤◌, ℤ, pos, negsuc, ◌≤ℤ◌, true, false, true≢false, List, [], ◌∷◌, refl, sym, arith}
use Rattle.std.proofs.lemmas.Int.{ints}
use Rattle.std.specs.Prelude.{int_le, ◌&&◌}
use denote.Hole.Carrier.{hidden}
use Rattle.affc_ast.specs.declared.tree.Ix.TheBlock.{shape-the_row-Ix-0, hidden-the_row-Ix-0}
use Rattle.affc_ast.specs.declared.tree.Val.TheBlock.{shape-the_row-Val-0, hidden-the_row-Val-0}
use Rattle.affc_ast.specs.declared.tree.Stmt.TheBlock.{shape-the_row-Stmt-0, hidden-the_row-Stmt-0}
use Rattle.affc_ast.specs.Fits.{within_ranges}
use Rattle.affc_trace.specs.Examples.{blur}
use Rattle.affc_trace.specs.Laws.{IsInContext}
use Rattle.affc_trace.proofs.Members.{both_hold}

pub in_context : (n : ℕ) → within_ranges blur.params (pos n ∷ []) ≡ true → IsInContext blur (pos n ∷ [])
unfolding shape-the_row-Ix-0 hidden-the_row-Ix-0 shape-the_row-Val-0 hidden-the_row-Val-0 shape-the_row-Stmt-0 hidden-the_row-Stmt-0 hidden
in_context n h = record { ranges = h; context = refl }

at_most_four : (n : ℕ) → int_le (pos n) (pos 4) ≡ true → n ≤ 4
at_most_four n h = let q : pos n ≤ℤ pos 4 = grind (arith, ints, h) in omega (arith, ints)

too_large : (n : ℕ) → suc (suc (suc (suc (suc n)))) ≤ 4 → ⊥
too_large n h = omega arith

-- what holds at each N from 1 to 4 holds throughout the context
by_ranges : (P : List ℤ → Type 0) → P (pos 1 ∷ []) → P (pos 2 ∷ []) → P (pos 3 ∷ []) → P (pos 4 ∷ []) → (p : List ℤ) → within_ranges blur.params p ≡ true → P p
unfolding shape-the_row-Ix-0 hidden-the_row-Ix-0 shape-the_row-Val-0 hidden-the_row-Val-0 shape-the_row-Stmt-0 hidden-the_row-Stmt-0 hidden
by_ranges P a b c d [] h = absurd (true≢false (sym h))
by_ranges P a b c d (negsuc n ∷ []) h = absurd (true≢false (sym h))
by_ranges P a b c d (pos zero ∷ []) h = absurd (true≢false (sym h))
by_ranges P a b c d (pos (suc zero) ∷ []) h = a
by_ranges P a b c d (pos (suc (suc zero)) ∷ []) h = b
by_ranges P a b c d (pos (suc (suc (suc zero))) ∷ []) h = c
by_ranges P a b c d (pos (suc (suc (suc (suc zero)))) ∷ []) h = d
by_ranges P a b c d (pos (suc (suc (suc (suc (suc n))))) ∷ []) h =
    let m : ℕ = suc (suc (suc (suc (suc n)))) in
    absurd (too_large n (at_most_four m (both_hold (int_le (pos 1) (pos m)) (int_le (pos m) (pos 4)) (both_hold (int_le (pos 1) (pos m) && int_le (pos m) (pos 4)) true h).0).1))
by_ranges P a b c d (x ∷ y ∷ zs) h =
    absurd (true≢false (sym (both_hold (int_le (pos 1) x && int_le x (pos 4)) false h).1))

pub by_context : (P : List ℤ → Type 0) → P (pos 1 ∷ []) → P (pos 2 ∷ []) → P (pos 3 ∷ []) → P (pos 4 ∷ []) → (p : List ℤ) → IsInContext blur p → P p
by_context P a b c d p here = by_ranges P a b c d p here.ranges
