-- The dependences that a schedule turns round, and the first of them.
use Rattle.std.specs.Prelude.{ℤ, pos, List, ◌∷◌, ◌++◌}
use Rattle.affc_system.specs.Order.{LexLe}
use Rattle.affc_ast.specs.declared.tree.Instance.{Instance}
use Rattle.affc_ast.specs.declared.tree.Program.{Program}
use Rattle.affc_trace.specs.declared.schedule.Schedule.{Schedule}
use Rattle.affc_trace.specs.Dataflow.{Violates}
use Rattle.affc_trace.specs.Laws.{IsInContext}

-- at p of the context b depends on a, and the schedule doesn't run a before b
pub record IsViolation (program : Program) (schedule : Schedule) (p : List ℤ) (a b : Instance) : Type 0 where
  pub context : IsInContext program p
  pub violates : Violates program schedule p a b

-- where two instances stand: p, the statement and the iterators of the first, those of the second
abbrev pub spot_of : (p : List ℤ) → (a b : Instance) → List ℤ
spot_of p a b = p ++ (pos a.statement ∷ (a.iterators ++ (pos b.statement ∷ b.iterators)))

-- and no dependence is turned round at an earlier spot, in lexicographic order
pub record IsFirstViolation (program : Program) (schedule : Schedule) (p : List ℤ) (a b : Instance) : Type 0 where
  pub violation : IsViolation program schedule p a b
  pub first : (q : List ℤ) (c d : Instance) → IsViolation program schedule q c d → LexLe (spot_of p a b) (spot_of q c d)
