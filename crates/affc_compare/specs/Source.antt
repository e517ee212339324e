-- The comparison of instances in the order of the text.
use Rattle.std.specs.Prelude.{◌≤◌, ◌<◌, ◌^◌, ℕ, length, map, take}
use Rattle.std.specs.declared.cmp.Ordering.{Ordering}
use Rattle.std.specs.Ordering.{ordering_then, nat_cmp, int_cmp}
use Rattle.std.specs.Cmp.Lexicographic.{slice_cmp}
use Rattle.affc_ast.specs.declared.tree.Instance.{Instance}
use Rattle.affc_ast.specs.declared.tree.Program.{Program}
use Rattle.affc_compare.specs.Sharing.{sharing, assigns_among, common_loops}

-- by the first so many iterators, and then by the statement's number
abbrev pub loops_cmp : (loops : ℕ) → Instance → Instance → Ordering
loops_cmp n a b = ordering_then (slice_cmp int_cmp (take n a.iterators) (take n b.iterators)) (nat_cmp a.statement b.statement)

-- by the loops that both share
abbrev pub source_cmp : Program → Instance → Instance → Ordering
source_cmp program a b = loops_cmp (common_loops program a.statement b.statement) a b

-- the loops that both share are among those of each, and no count passes 32 bits
pub record HaveLoops (program : Program) (a b : Instance) : Type 0 where
  pub few : assigns_among (map sharing program.body) < 2 ^ 32
  pub first : common_loops program a.statement b.statement ≤ length a.iterators
  pub second : common_loops program a.statement b.statement ≤ length b.iterators
  pub shallow : common_loops program a.statement b.statement < 2 ^ 32
