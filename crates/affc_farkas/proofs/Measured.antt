-- The measure of a proof isn't 0.
use Rattle.std.proofs.Common.{◌≤◌, arith}
use Rattle.affc_farkas.specs.declared.proof.Proof.{Proof, Leaf, Cut', Split'}
use Rattle.affc_farkas.specs.Measures.{drop_measure}

pub some_measure : (t : Proof) → 1 ≤ drop_measure t
some_measure (Leaf by) = omega arith
some_measure (Cut' by g row p rest) = omega arith
some_measure (Split' form at p low q high) = omega arith
