-- Small programs, of which the examples' texts are.
use Rattle.std.specs.Prelude.{ℕ, ℤ, pos, false, List, [], ◌∷◌, codes, None}
use Rattle.affc_rows.specs.Forms.{Affine}
use Rattle.affc_ast.specs.declared.tree.Decl.{Decl}
use Rattle.affc_ast.specs.declared.tree.Ix.{Ix}
use Rattle.affc_ast.specs.declared.tree.Ix.TheVariants.{Lit, Name}
use Rattle.affc_ast.specs.declared.tree.Param.{Param}
use Rattle.affc_ast.specs.declared.tree.Param.TheVariants.{Number, Array}
use Rattle.affc_ast.specs.declared.tree.Program.{Program}
use Rattle.affc_ast.specs.declared.tree.Rel.TheVariants.{Less}
use Rattle.affc_ast.specs.declared.tree.Role.{Role}
use Rattle.affc_ast.specs.declared.tree.Role.TheVariants.{Input, Output, Temp}
use Rattle.affc_ast.specs.declared.tree.Stmt.{Stmt}
use Rattle.affc_ast.specs.declared.tree.Stmt.TheVariants.{For, Assign}
use Rattle.affc_ast.specs.declared.tree.Val.TheVariants.{Const}
use Rattle.affc_schedtext.specs.Verdict.{Pair}

abbrev n : Ix
n = Name (record { 0 = 0 })

abbrev decl : List ℕ → Role → List Ix → Decl
decl name role extents = record { name = name; role = role; extents = extents }

abbrev number : List ℕ → Param
number name = Number name (pos 1) (pos 9)

-- for (int64_t w = 0; w < N; w++) body
abbrev each : List ℕ → Stmt → Stmt
each w body = For w (Lit (pos 0)) Less n (body ∷ [])

abbrev store : (array : ℕ) → List Ix → Stmt
store a subs = Assign None (record { 0 = a }) subs (Const 1)

-- what a schedule sees of the blur: over N, with in, out and the temporary t, two statements, each in a loop i
abbrev pub blur : Program
blur = record {
  name = codes "blur";
  params = number (codes "N") ∷ Array (decl (codes "in") Input (n ∷ [])) ∷ Array (decl (codes "out") Output (n ∷ [])) ∷ [];
  context = [];
  temps = decl (codes "t") Temp (n ∷ []) ∷ [];
  body = each (codes "i") (store 2 (Name (record { 0 = 1 }) ∷ [])) ∷ each (codes "i") (store 1 (Name (record { 0 = 1 }) ∷ [])) ∷ [];
  prelude = false;
}

-- over N, with a scalar s and the temporary g of two dimensions: S0 stands in no loop, S1 in the loops i and j
abbrev pub square : Program
square = record {
  name = codes "square";
  params = number (codes "N") ∷ [];
  context = [];
  temps = decl (codes "s") Temp [] ∷ decl (codes "g") Temp (n ∷ n ∷ []) ∷ [];
  body = store 0 [] ∷ each (codes "i") (each (codes "j") (store 1 (Name (record { 0 = 1 }) ∷ Name (record { 0 = 2 }) ∷ []))) ∷ [];
  prelude = false;
}

-- with the parameters t0 and t1, and one statement in a loop i
abbrev pub odd : Program
odd = record {
  name = codes "odd";
  params = number (codes "t0") ∷ number (codes "t1") ∷ [];
  context = [];
  temps = decl (codes "t") Temp [] ∷ [];
  body = each (codes "i") (store 0 []) ∷ [];
  prelude = false;
}

-- no statement
abbrev pub idle : Program
idle = record { name = codes "idle"; params = []; context = []; temps = []; body = []; prelude = false }

abbrev pub form : List ℤ → ℤ → Affine
form coefs constant = record { coefs = coefs; constant = constant }

abbrev pub pair : List Affine → List Affine → Pair
pair there back = record { there = there; back = back }
