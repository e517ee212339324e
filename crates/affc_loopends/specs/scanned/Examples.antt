-- What may be scanned of a small program, and what not. Each was found by hand from the rules.
use Rattle.std.specs.Prelude.{◌≡◌, pos, [], ◌∷◌}
use Rattle.std.specs.Global.{Vec}
use Rattle.affc_rows.specs.Forms.{Affine}
use Rattle.affc_ast.specs.declared.tree.Ix.{Ix}
use Rattle.affc_ast.specs.declared.tree.Ix.TheVariants.{Neg, Add, Min, Max}
use Rattle.affc_ast.specs.declared.tree.Param.TheVariants.{Number, Array}
use Rattle.affc_ast.specs.declared.tree.Program.{Program}
use Rattle.affc_ast.specs.declared.tree.Role.TheVariants.{Input, Output}
use Rattle.affc_trace.specs.declared.schedule.Schedule.{Schedule}
use Rattle.affc_trace.specs.declared.schedule.Schedule.TheVariants.{Source, Time}
use Rattle.affc_loops.specs.Between.{program_between}
use Rattle.affc_loops.specs.Examples.{lit, n, backwards, copy}
use Rattle.affc_loops.specs.Laws.{HasLoops}
use Rattle.affc_loops.specs.Loops.{Scheduled}
use Rattle.affc_loopends.specs.declared.bounds.Bounds.TheVariants.{Between, Loose as Without}
use Rattle.affc_loopends.specs.declared.bounds.Why.{Why}
use Rattle.affc_loopends.specs.Examples.{from, up_to}
use Rattle.affc_loopends.specs.declared.scanned.scanned.Loose.{Loose}
use Rattle.affc_loopends.specs.scanned.Scanned.{sides_of, all_loose, Scans}

-- for N from 1 to 9: for (i = 0; i < N; i++) out[i] = in[i];
abbrev pub nine : Program
nine = record copy {
  params = Number [] (pos 1) (pos 9)
      ∷ Array (record { name = []; role = Input; extents = n ∷ [] })
      ∷ Array (record { name = []; role = Output; extents = n ∷ [] })
      ∷ [];
}

-- (-i), from -8 to 0
abbrev pub reversed : Schedule
reversed = Time 1 (backwards ∷ [])

-- the schedule is one of the program
abbrev pub NineHasLoops : Type 0
NineHasLoops = HasLoops nine reversed

-- for (affc_t0 = low; affc_t0 <= high; affc_t0++), and what stands in it
abbrev pub loop_between : (low high : Ix) → Program
loop_between low high = program_between nine (backwards ∷ []) ((low, high) ∷ [])

-- By t0 + N - 1 >= 0 and -t0 >= 0, and nothing is loose: affc_t0 from affc_max(-N + 1, -8) to affc_min(0, 0).
abbrev pub ScansBetweenRows : Type 0
ScansBetweenRows = (lower upper : Vec Affine) (none : Vec Loose) → lower.items ≡ from ∷ [] → upper.items ≡ up_to ∷ [] → none.items ≡ []
    → Scans nine reversed (record { program = loop_between (Max (Add (Neg n) (lit 1)) (Neg (lit 8))) (Min (lit 0) (lit 0)); loose = none })

-- With no row from below affc_t0 would start at -8, to whatever end: the component would have to be loose.
abbrev pub NoRowIsLeftOut : Type 0
NoRowIsLeftOut = (high : Ix) (none : Vec Loose) → none.items ≡ [] → Scans nine reversed (record { program = loop_between (Neg (lit 8)) high; loose = none }) → ⊥

-- A loose component has its range alone.
abbrev pub NoRowsWhereLoose : Type 0
NoRowsWhereLoose = (a b high : Ix) (one : Loose) (named : Vec Loose) → named.items ≡ one ∷ [] → Scans nine reversed (record { program = loop_between (Max a b) high; loose = named }) → ⊥

-- In the source's order it is the source, and nothing is loose.
abbrev pub ItsOwnOrder : Type 0
ItsOwnOrder = ((none : Vec Loose) → none.items ≡ [] → Scans nine Source (record { program = nine; loose = none }))
    × ((one : Loose) (named : Vec Loose) → named.items ≡ one ∷ [] → Scans nine Source (record { program = nine; loose = named }) → ⊥)

-- ---- Bounds

-- rows from both sides, and none where the component is loose
abbrev pub RowsOfBounds : Type 0
RowsOfBounds = (lower upper : Vec Affine) (why : Why) → (sides_of (Between lower upper) ≡ (lower.items, upper.items)) × (sides_of (Without why) ≡ ([], []))

-- the loose ones by the numbers of their statements, of which some may have no instances, and of their components
abbrev pub LooseAreNumbered : Type 0
LooseAreNumbered = (lower upper : Vec Affine) (why other : Why) (e f : Scheduled) → e.statement ≡ 1 → f.statement ≡ 4
    → all_loose (e ∷ f ∷ []) ((Without why ∷ Between lower upper ∷ Without other ∷ []) ∷ (Between lower upper ∷ Without why ∷ []) ∷ [])
    ≡ record { statement = 1; component = 0; why = why } ∷ record { statement = 1; component = 2; why = other } ∷ record { statement = 4; component = 1; why = why } ∷ []
