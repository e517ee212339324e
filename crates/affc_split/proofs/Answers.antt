-- What an answer says of the box.
use Rattle.std.proofs.Common.{◌≡◌, ◌∙◌, ap, subst, Result, Ok, Err, ℕ, List, ℤ, length}
use Rattle.std.specs.Prelude.{IfOk}
use Rattle.std.specs.List.{All}
use Rattle.affc_system.specs.Systems.{Rows, IsRow, IsPoint}
use Rattle.affc_system.specs.Boxes.{InBox}
use Rattle.affc_system.specs.Pairs.{WithinReach}
use Rattle.affc_farkas.specs.Proofs.{ValidProof}
use Rattle.affc_simplex.specs.declared.bounds.Bound.{Bound}
use Rattle.affc_leaf.specs.Boxed.{with_box}
use Rattle.affc_leaf.specs.Bounds.{ranges_of}
use Rattle.affc_leaf.specs.Points.{IsLeastPoint}
use Rattle.affc_leaf.specs.Parts.{IsLeast, box_bounds}
use Rattle.affc_leaf.proofs.Boxes.{none_in_box}
use Rattle.affc_leaf.proofs.Whole.{ranges_back}
use Rattle.affc_split.specs.declared.budget.Stop.{Stop}
use Rattle.affc_split.specs.declared.search.Answer.{Answer}
use Rattle.affc_split.specs.declared.search.Answer.TheVariants as answer
use Rattle.affc_split.specs.Answers.{IfEmpty}

pub none_answer : (system : Rows) (rs : List (ℤ × ℤ)) (r : Result Answer Stop) → length rs ≡ system.columns → All WithinReach rs → All (IsRow system.columns) system.rows
    → IfOk r (λ a. IfEmpty a (λ p. ValidProof (with_box system rs) p)) → IfOk r (λ a. IfEmpty a (λ _. (x : List ℤ) → InBox rs x → IsPoint system x → ⊥))
none_answer system rs (Err e) w h fit v = tt
none_answer system rs (Ok (answer.Empty p)) w h fit v = none_in_box system rs p w h fit v
none_answer system rs (Ok (answer.Point x)) w h fit v = tt

-- the least one in the bounds of a box is that of the box
pub least_of_box : (system : Rows) (n : ℕ) (ranges : List (ℤ × ℤ)) (bs : List Bound) (x : List ℤ) → bs ≡ box_bounds n ranges → IsLeast system bs x → IsLeastPoint system ranges x
least_of_box system n ranges bs x e least = subst (λ rs. IsLeastPoint system rs x) (ap ranges_of e ∙ ranges_back n ranges) least
