use Rattle.std.proofs.Common.{ℕ, ◌<◌, ◌≤◌, List, take}
use Rattle.affc_lex.specs.Lexes.{Lexeme, Lexes}
use Rattle.affc_plan.proofs.front.longest.Given as goal

abbrev pub invariant-loop-to : goal.invariant-loop-to
invariant-loop-to l = record {
  within : l.to ≤ l.place;
  none : (n : ℕ) (others : List Lexeme) → l.to < n → n ≤ l.place → Lexes (take n l.text) others → ⊥;
}

abbrev pub decreases-loop-to : goal.decreases-loop-to
decreases-loop-to l = l.to
