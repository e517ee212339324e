-- The program that runs a source's instances in the order of times: loops between ends and, inside, the block of each statement that
-- can have instances. For each component of the time there is a low and a high end, as expressions over the parameters and the
-- components before. Loops that scan the points of a polyhedron are those of Ancourt and Irigoin (1991); these may go through more,
-- and the blocks test for the rest.
use Rattle.std.specs.Prelude.{◌≡◌, ℕ, suc, ℤ, ◌≤ℤ◌, true, List, [], ◌∷◌, ◌++◌, length, map}
use Rattle.affc_ast.specs.declared.tree.Instance.{Instance}
use Rattle.affc_ast.specs.declared.tree.Ix.{Ix}
use Rattle.affc_ast.specs.declared.tree.Program.{Program}
use Rattle.affc_ast.specs.declared.tree.Rel.TheVariants.{LessEqual}
use Rattle.affc_ast.specs.declared.tree.Stmt.{Stmt}
use Rattle.affc_ast.specs.declared.tree.Stmt.TheVariants.{For}
use Rattle.affc_ast.specs.Fits.{whole}
use Rattle.affc_ast.specs.Trace.{trace}
use Rattle.affc_trace.specs.declared.schedule.TimeMap.{TimeMap}
use Rattle.affc_trace.specs.Law.{IsIn}
use Rattle.affc_trace.specs.Target.{numbers_in, time_of}
use Rattle.affc_domain.specs.Ranges.{number_ranges}
use Rattle.affc_safe.specs.Overflow.{IsReadable}
use Rattle.affc_loops.specs.Loops.{Scheduled, scheduled, time_ranges, block_of, time_name}

-- ---- The program

-- one loop within the other
abbrev pub loops_between : (ends : List (Ix × Ix)) → (component : ℕ) → List Stmt → List Stmt
loops_between [] component body = body
loops_between (e ∷ es) component body = For (time_name component) e.0 LessEqual e.1 (loops_between es (suc component) body) ∷ []

-- without statements there are no loops
abbrev pub body_between : (first : ℕ) → (ends : List (Ix × Ix)) → List Scheduled → List Stmt
body_between first ends [] = []
body_between first ends (e ∷ es) = loops_between ends 0 (map (block_of first (length ends)) (e ∷ es))

abbrev pub program_between : Program → List TimeMap → (ends : List (Ix × Ix)) → Program
program_between program maps ends = record {
  name = program.name;
  params = program.params;
  context = program.context;
  temps = program.temps;
  body = body_between (numbers_in program.params) ends (scheduled program maps);
  prelude = true;
}

-- ---- What is asked of ends

-- each component lies between its ends, where the names in sight before them have these values
abbrev pub LiesBetween : (ends : List (Ix × Ix)) → (names : List ℤ) → (time : List ℤ) → Type 0
LiesBetween [] names [] = Unit {0}
LiesBetween [] names (x ∷ xs) = ⊥
LiesBetween (e ∷ es) names [] = ⊥
LiesBetween (e ∷ es) names (x ∷ xs) = (whole e.0 names ≤ℤ x) × (x ≤ℤ whole e.1 names) × LiesBetween es (names ++ x ∷ []) xs

-- a turn of the loops: values of the first components, each between its ends
abbrev pub IsTurn : (ends : List (Ix × Ix)) → (names : List ℤ) → (components : List ℤ) → Type 0
IsTurn es names [] = Unit {0}
IsTurn [] names (x ∷ xs) = ⊥
IsTurn (e ∷ es) names (x ∷ xs) = (whole e.0 names ≤ℤ x) × (x ≤ℤ whole e.1 names) × IsTurn es (names ++ x ∷ []) xs

-- Wherever the loops come, both ends are read within `int64_t`, and each turn lies in the component's range.
abbrev pub RunWithin : (ranges : List (ℤ × ℤ)) → (ends : List (Ix × Ix)) → (names : List ℤ) → Type 0
RunWithin [] [] names = Unit {0}
RunWithin [] (e ∷ es) names = ⊥
RunWithin (r ∷ rs) [] names = ⊥
RunWithin (r ∷ rs) (e ∷ es) names =
    IsReadable e.0 names
    × IsReadable e.1 names
    × ((x : ℤ) → whole e.0 names ≤ℤ x → x ≤ℤ whole e.1 names → (r.0 ≤ℤ x) × (x ≤ℤ r.1) × RunWithin rs es (names ++ x ∷ []))

-- At p the loops run through the time of each instance, and through nothing outside the ranges of all times.
pub record HoldTimes (program : Program) (maps : List TimeMap) (ends : List (Ix × Ix)) (p : List ℤ) : Type 0 where
  pub one_each : length ends ≡ length (time_ranges (number_ranges program.params) (scheduled program maps))
  pub run : RunWithin (time_ranges (number_ranges program.params) (scheduled program maps)) ends p
  pub hold : (a : Instance) → IsIn a (trace program p) → LiesBetween ends p (time_of maps p a)
