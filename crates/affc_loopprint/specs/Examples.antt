-- Small programs and their loops: which of them are well named was found by hand from the rules.
use Rattle.std.specs.Prelude.{◌≡◌, ℕ, Bool, true, false, pos, negsuc, codes, List, [], ◌∷◌, None, refl}
use Rattle.std.proofs.Common.{lit≤}
use Rattle.affc_rows.specs.Forms.{Affine}
use Rattle.affc_ast.specs.declared.tree.Ix.{Ix}
use Rattle.affc_ast.specs.declared.tree.Ix.TheVariants.{Lit, Name}
use Rattle.affc_ast.specs.declared.tree.Param.TheVariants.{Number, Array}
use Rattle.affc_ast.specs.declared.tree.Program.{Program}
use Rattle.affc_ast.specs.declared.tree.Rel.TheVariants.{Less}
use Rattle.affc_ast.specs.declared.tree.Role.TheVariants.{Output}
use Rattle.affc_ast.specs.declared.tree.Stmt.{Stmt}
use Rattle.affc_ast.specs.declared.tree.Stmt.TheVariants.{For, Assign, Block}
use Rattle.affc_ast.specs.declared.tree.Val.TheVariants.{Const}
use Rattle.affc_trace.specs.declared.schedule.TimeMap.{TimeMap}
use Rattle.affc_trace.specs.Examples.{two_columns, undone}
use Rattle.affc_trace.specs.Inverses.{column}
use Rattle.affc_loops.specs.Between.{program_between}
use Rattle.affc_loops.specs.Ends.{Sides, ends_of}
use Rattle.affc_loops.specs.Loops.{time_name}
use Rattle.affc_wellnamed.specs.Kept.{is_kept}

abbrev lit : ℕ → Ix
lit k = Lit (pos k)

abbrev name : ℕ → Ix
name k = Name (record { 0 = k })

-- A[x] = 7;
abbrev sevens : Ix → List Stmt
sevens x = Assign None (record { 0 = 0 }) (x ∷ []) (Const 7) ∷ []

-- over N and i, or over N and t0: -i; i = -t0
abbrev minus : Affine
minus = record { coefs = pos 0 ∷ negsuc 0 ∷ []; constant = pos 0 }

abbrev backwards : TimeMap
backwards = record {
  forms = minus ∷ [];
  inverse = minus ∷ [];
  shaped = two_columns minus refl;
  inverse_shaped = two_columns minus refl;
  at_least_iterators = lit≤ tt;
  inverts = undone (column 2 0 ∷ minus ∷ []) minus refl;
}

-- where i is from 0 to N - 1: t0 + N - 1 >= 0 and -t0 >= 0
abbrev rows : List (List Sides)
rows = ((record { coefs = pos 1 ∷ pos 1 ∷ []; constant = negsuc 0 } ∷ [], minus ∷ []) ∷ []) ∷ []

-- for (affc_t0 = affc_max(-N + 1, -3); affc_t0 <= affc_min(0, 0); affc_t0++)
abbrev loops_of : Program → Program
loops_of program = program_between program (backwards ∷ []) (ends_of program (backwards ∷ []) rows)

-- for N from 1 to 4
abbrev filling : (prelude : Bool) → List Stmt → Program
filling prelude body = record {
  name = codes "f";
  params = Number (codes "N") (pos 1) (pos 4) ∷ Array (record { name = codes "A"; role = Output; extents = name 0 ∷ [] }) ∷ [];
  context = [];
  temps = [];
  body = body;
  prelude = prelude;
}

-- for (i = 0; i < N; i++) A[i] = 7;
abbrev pub LoopsAreKept : Type 0
LoopsAreKept = is_kept (loops_of (filling false (For (codes "i") (lit 0) Less (name 0) (sevens (name 1)) ∷ []))) ≡ true

-- with the prelude, for (affc_t0 = 0; affc_t0 < N; affc_t0++) A[affc_t0] = 7;
abbrev clash : Program
clash = filling true (For (time_name 0) (lit 0) Less (name 0) (sevens (name 1)) ∷ [])

-- where an iterator has a name that is kept, it can't be a local
abbrev pub KeptNamesClash : Type 0
KeptNamesClash = (is_kept clash ≡ true) × (is_kept (loops_of clash) ≡ false)

-- with the prelude, { k = 0; for (i = 0; i < N; i++) A[i] = 7; }
abbrev shadowed : Program
shadowed = filling true (Block (record { name = codes "k"; value = lit 0 } ∷ []) (For (codes "i") (lit 0) Less (name 0) (sevens (name 2)) ∷ []) ∷ [])

-- the locals of a program aren't in its loops, so that what stands under them has lost its names
abbrev pub LocalsAreLost : Type 0
LocalsAreLost = (is_kept shadowed ≡ true) × (is_kept (loops_of shadowed) ≡ false)
