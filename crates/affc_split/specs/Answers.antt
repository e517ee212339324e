-- What a decision says: a proof for the system with the rows of its box, or a point.
use Rattle.std.specs.Prelude.{List, ℤ}
use Rattle.affc_farkas.specs.declared.proof.Proof.{Proof}
use Rattle.affc_split.specs.declared.search.Answer.{Answer}
use Rattle.affc_split.specs.declared.search.Answer.TheVariants.{Empty, Point}

-- P holds of the proof, where the answer is one
abbrev pub IfEmpty : Answer → (Proof → Type 0) → Type 0
IfEmpty (Empty p) P = P p
IfEmpty (Point x) P = Unit {0}

-- P holds of the point, where the answer is one
abbrev pub IfPoint : Answer → (List ℤ → Type 0) → Type 0
IfPoint (Empty p) P = Unit {0}
IfPoint (Point x) P = P x.items
