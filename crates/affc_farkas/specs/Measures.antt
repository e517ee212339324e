-- A measure of a proof that falls each time that a node of it is let go or turned to the right.
use Rattle.std.specs.Prelude.{ℕ, ◌+◌}
use Rattle.affc_farkas.specs.declared.proof.Proof.{Proof, Leaf, Cut', Split'}

abbrev pub drop_measure : Proof → ℕ
drop_measure (Leaf by) = 1
drop_measure (Cut' by g row p rest) = drop_measure rest + 1
drop_measure (Split' form at p low q high) = (drop_measure low + drop_measure low) + drop_measure high + 1
