-- What the validity of a certificate gives.
use Rattle.std.specs.Prelude.{◌≡◌, ℕ, ℤ, List, length, Some, slice_get}
use Rattle.std.specs.List.{All}
use Rattle.affc_ast.specs.declared.tree.Program.{Program}
use Rattle.affc_farkas.specs.declared.proof.Proof.{Proof}
use Rattle.affc_trace.specs.declared.schedule.Schedule.{Schedule}
use Rattle.affc_trace.specs.Dataflow.{Legal, LivePair}
use Rattle.affc_trace.specs.Law.{IsIn}
use Rattle.affc_trace.specs.Laws.{IsInContext}
use Rattle.affc_trace.specs.Target.{IsScheduleOf}
use Rattle.affc_basis.specs.declared.fold.Fold.{Fold}
use Rattle.affc_basis.specs.Folds.{IsAdmissible, Obeys}
use Rattle.affc_basis.specs.Moduli.{IsModulus}
use Rattle.affc_nest.specs.declared.nest.ArrayInfo.{ArrayInfo}
use Rattle.affc_nest.specs.Laws.{HasNest, NamesArrays, StaysWithin}
use Rattle.affc_nest.specs.Nests.{nest_of}
use Rattle.affc_quast.specs.Limits.{HaveShapes}
use Rattle.affc_quast.specs.Seen.{trees_of}
use Rattle.affc_quast.specs.Sources.{NameSources}
use Rattle.affc_quast.specs.Trees.{Tree}
use Rattle.affc_flow.specs.Laws.{AreWritten}
use Rattle.affc_life.specs.Laws.{AreClashes}
use Rattle.affc_life.specs.Folding.{HasTrueMarks}
use Rattle.affc_cert.specs.declared.cert.Cert.{Cert}
use Rattle.affc_check.specs.list.Certs.{AreFoldsSaid, AreItems, IsCertFor}
use Rattle.affc_check.specs.list.Items.{Item, FoldShown, moduli_of, items}
use Rattle.affc_check.specs.Valid.{AreValid, FailsFirst}

-- ---- What is known of a certificate whose text was read

-- an array with a row for each of its dimensions, moduli over the parameters within their limits, and the array's clash systems
pub record IsFoldOfArray (program : Program) (schedule : Schedule) (trees : List Tree) (f : FoldShown) : Type 0 where
  pub info : ArrayInfo
  pub declared : slice_get (nest_of program).arrays f.array ≡ Some info
  pub dimensions : length f.rows ≡ length info.extents
  pub moduli : All (λ m. IsModulus (nest_of program).context.columns m.form) f.moduli
  pub systems : AreClashes program trees schedule f.array f.systems

-- The program has a nest, the schedule is one of it, and the certificate has its shape: a tree for each load, and folds of its
-- arrays.
pub record IsReadFor (program : Program) (schedule : Schedule) (trees : List Tree) (folds : List FoldShown) : Type 0 where
  pub has : HasNest program
  pub named : NamesArrays program
  pub fits : IsScheduleOf program schedule
  pub shapes : HaveShapes (nest_of program) trees
  pub arrays : (f : FoldShown) → IsIn f folds → IsFoldOfArray program schedule trees f

-- ---- What is shown

-- the fold that a certificate says
pub record IsFoldShown (f : FoldShown) (fold : Fold) : Type 0 where
  pub rows : fold.basis.rows ≡ f.rows
  pub moduli : fold.moduli ≡ moduli_of f.systems f.rows f.moduli

-- throughout the context its moduli exceed what their rows need, no two elements of a pair of its array have one place, and its
-- marks are true
pub record IsRightFold (program : Program) (pairs : ℕ → List ℤ → List ℤ → List ℤ → Type 0) (f : FoldShown) : Type 0 where
  pub obeys : (fold : Fold) → IsFoldShown f fold → (p : List ℤ) → IsInContext program p → Obeys (pairs f.array p) fold p
  pub admissible : (fold : Fold) → IsFoldShown f fold → (p : List ℤ) → IsInContext program p → IsAdmissible (pairs f.array p) fold p
  pub marks : (fold : Fold) → IsFoldShown f fold → HasTrueMarks (IsInContext program) (pairs f.array) fold

-- Some p is in the context. Throughout it each access lies within its array, the trees name the sources of all loads, one for
-- each load of a temporary, and the schedule is legal; and all folds are right for what is live together.
pub record IsShown (program : Program) (schedule : Schedule) (trees : List Tree) (folds : List FoldShown) : Type 0 where
  pub some : (p : List ℤ) × IsInContext program p
  pub stays : (p : List ℤ) → IsInContext program p → StaysWithin program p
  pub sources : (p : List ℤ) → IsInContext program p → NameSources program p (nest_of program) trees
  pub written : (p : List ℤ) → IsInContext program p → AreWritten program p (nest_of program) trees
  pub legal : (p : List ℤ) → IsInContext program p → Legal program schedule p
  pub folds_right : (f : FoldShown) → IsIn f folds → IsRightFold program (LivePair program schedule) f

-- ---- The law

-- A valid certificate of a program shows all this of it.
abbrev pub ValidGives : Type 0
ValidGives = (program : Program) (schedule : Schedule) (context : List ℤ) (trees : List Tree) (folds : List FoldShown) (proofs : List Proof)
    → IsReadFor program schedule trees folds
    → AreValid (items (nest_of program) schedule context trees folds) proofs
    → IsShown program schedule trees folds

-- What is known of a certificate for a program's nest: the folds that it says, beside their clash systems, are folds of its arrays.
abbrev pub CertsAreRead : Type 0
CertsAreRead = (program : Program) (schedule : Schedule) (c : Cert) (folds : List FoldShown)
    → HasNest program → NamesArrays program → IsScheduleOf program schedule
    → IsCertFor (nest_of program) c
    → AreFoldsSaid (nest_of program) schedule (trees_of c.flow) c.folds folds
    → IsReadFor program schedule (trees_of c.flow) folds

-- So a valid certificate shows this of the program.
abbrev pub ValidCertsGive : Type 0
ValidCertsGive = (program : Program) (schedule : Schedule) (c : Cert) (is : List Item)
    → HasNest program → NamesArrays program → IsScheduleOf program schedule
    → IsCertFor (nest_of program) c
    → (items : AreItems (nest_of program) schedule c is) → AreValid is c.proofs
    → IsShown program schedule (trees_of c.flow) items.folds

-- The item that fails first is one, and then the certificate isn't valid.
abbrev pub FailingIsNotValid : Type 0
FailingIsNotValid = (is : List Item) (proofs : List Proof) (n : ℕ) → FailsFirst is proofs n → ¬ (AreValid is proofs)
