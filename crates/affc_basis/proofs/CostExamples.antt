-- Greatest values where N is from 1 to 4.
use Rattle.std.proofs.Common.{◌≡◌, ℕ, ◌*◌, ◌≤◌, ℤ, pos, ◌≤ℤ◌, List, [], ◌∷◌, refl, arith, lit≤}
use Rattle.std.proofs.lemmas.Int.{ints}
use denote.Hole.Carrier.{hidden}
use Rattle.affc_ast.specs.declared.tree.Ix.TheBlock.{shape-the_row-Ix-0, hidden-the_row-Ix-0}
use Rattle.affc_ast.specs.declared.tree.Val.TheBlock.{shape-the_row-Val-0, hidden-the_row-Val-0}
use Rattle.affc_ast.specs.declared.tree.Stmt.TheBlock.{shape-the_row-Stmt-0, hidden-the_row-Stmt-0}
use Rattle.affc_rows.specs.Forms.{dot, value}
use Rattle.affc_trace.specs.Examples.{blur}
use Rattle.affc_trace.specs.Laws.{IsInContext}
use Rattle.affc_basis.specs.Folds.{IsGreatestValue, AreGreatestValues}
use Rattle.affc_basis.specs.Examples.{number, one_more, elements, FiveAndThreeAreGreatest, CostOfOneMore}
use Rattle.affc_basis.proofs.BlurContext.{in_context, by_context}
use Rattle.affc_basis.proofs.ExampleProofs.{constant_stays, nothing_along}

four_is_in_context : IsInContext blur (pos 4 ∷ [])
unfolding shape-the_row-Ix-0 hidden-the_row-Ix-0 shape-the_row-Val-0 hidden-the_row-Val-0 shape-the_row-Stmt-0 hidden-the_row-Stmt-0 hidden
four_is_in_context = in_context 4 refl

at_most_five : (d : ℕ) (v : ℤ) → v ≡ pos d → d ≤ 5 → v ≤ℤ pos 5
at_most_five d v e h = omega (arith, ints)

five_is_greatest : IsGreatestValue (IsInContext blur) one_more 5
five_is_greatest = record {
  most = by_context (λ p. value one_more p ≤ℤ pos 5) (at_most_five 2 _ refl (lit≤ tt)) (at_most_five 3 _ refl (lit≤ tt)) (at_most_five 4 _ refl (lit≤ tt)) (at_most_five 5 _ refl (lit≤ tt));
  attained = (pos 4 ∷ [], four_is_in_context, refl);
}

between : (n : ℕ) (u : ℤ) → pos 5 ≤ℤ pos n → u ≤ℤ pos 5 → u ≡ pos n → n ≡ 5
between n u h k e = omega (arith, ints)

only_five : (n : ℕ) → IsGreatestValue (IsInContext blur) one_more n → n ≡ 5
only_five n g =
    let at = g.attained in
    between n (value one_more at.0) (g.most (pos 4 ∷ []) four_is_in_context) (five_is_greatest.most at.0 at.1) at.2

three_is_greatest : IsGreatestValue (IsInContext blur) (number 3) 3
three_is_greatest = record { most = λ p here. constant_stays (dot (pos 0 ∷ []) p) (pos 3) (nothing_along p) refl; attained = (pos 4 ∷ [], four_is_in_context, refl) }

four_not_five : ◌≡◌ {A = ℕ} 4 5 → ⊥
four_not_five e = omega arith

six_not_five : ◌≡◌ {A = ℕ} 6 5 → ⊥
six_not_five e = omega arith

pub five_and_three_are_greatest : FiveAndThreeAreGreatest
five_and_three_are_greatest = (
  (five_is_greatest, (three_is_greatest, tt)),
  λ g. four_not_five (only_five 4 g.0),
  λ g. six_not_five (only_five 6 g.0),
  λ g. g.1,
)

not_four : (n : ℕ) → n ≡ 5 → 4 ≡ n * 1 → ⊥
not_four n e f = omega arith

no_less : (values : List ℕ) → AreGreatestValues (IsInContext blur) (one_more ∷ []) values → 4 ≡ elements values → ⊥
no_less [] g e = g
no_less (n ∷ []) g e = not_four n (only_five n g.0) e
no_less (n ∷ m ∷ ns) g e = g.1

pub cost_of_one_more : CostOfOneMore
cost_of_one_more = (
  record { values = 5 ∷ []; are_greatest = (five_is_greatest, tt); is_stored = refl },
  λ c. no_less c.values c.are_greatest c.is_stored,
)
