-- The line that says what is wrong with a program, whatever its data.
use Rattle.std.specs.Prelude.{◌≡◌, ◌⊎◌, ℕ, ℤ, List, [], ◌∷◌, ◌++◌, Option, get_or, codes, decimal}
use Rattle.affc_ast.specs.declared.tree.Instance.{Instance}
use Rattle.affc_ast.specs.declared.tree.Program.{Program}
use Rattle.affc_ast.specs.Cause.{OutOfBounds, Unwritten, Extent as NoExtent}
use Rattle.affc_domain.specs.Rounds.{Round, Loop, Test, rounds}
use Rattle.affc_bounds.specs.declared.fault.MeaningFault.{MeaningFault}
use Rattle.affc_bounds.specs.declared.fault.MeaningFault.TheVariants.{IteratorRange, Context, Extent, Bounds}
use Rattle.affc_driver.specs.Refusals.{HasMeaningFault, HasUnwritten}
use Rattle.affc_lines.specs.Stuck.{stuck_line}

-- ---- The iterator that is meant

-- the iterators of the loops among these, from the outermost on
abbrev pub iterators_of : List Round → List (List ℕ)
iterators_of [] = []
iterators_of (Loop iter low rel high ∷ rs) = iter ∷ iterators_of rs
iterators_of (Test cond ∷ rs) = iterators_of rs

-- that of the loop of this number
abbrev pub iterator_of : List Round → (loop : ℕ) → List ℕ
iterator_of rs loop = get_or (iterators_of rs) loop []

-- that of the loop of this number round the statement of this number
abbrev pub iterator_name : Program → (statement loop : ℕ) → List ℕ
iterator_name program statement loop = iterator_of (get_or (rounds program) statement []) loop

-- ---- Its words

-- What is said of a program that has this wrong with it. A run is stuck for an extent or an access with the same line.
abbrev pub meaning_line : Program → MeaningFault → List ℕ
meaning_line program (IteratorRange statement loop) =
    codes "affc: iterator range of " ++ iterator_name program statement loop ++ codes " in S" ++ decimal statement
meaning_line program Context = codes "affc: context is empty"
meaning_line program (Extent array p) = stuck_line program p (NoExtent array.0)
meaning_line program (Bounds array access p instance) = stuck_line program p (OutOfBounds instance access)

-- the source reads as a program without the prelude that has something wrong with it, as the line says
pub record IsMeaningLine (source : List ℕ) (schedule : Option (List ℕ)) (line : List ℕ) : Type 0 where
  pub fault : MeaningFault
  pub says : HasMeaningFault source schedule fault
  pub its_line : line ≡ meaning_line says.of.tree fault

-- the source reads as such a program in which the range of this iterator is too wide, as the line says
pub record IsRangeLine (source : List ℕ) (schedule : Option (List ℕ)) (line : List ℕ) : Type 0 where
  pub statement : ℕ
  pub loop : ℕ
  pub says : HasMeaningFault source schedule (IteratorRange statement loop)
  pub its_line : line ≡ meaning_line says.of.tree (IteratorRange statement loop)

-- What is said of a program a load of which reads what nothing stores. A run is stuck there with the same line.
abbrev pub unwritten_line : Program → (p : List ℤ) → Instance → (access : ℕ) → List ℕ
unwritten_line program p instance access = stuck_line program p (Unwritten instance access)

-- the source reads as a program without the prelude that has such a load, as the line says
pub record IsUnwrittenLine (source : List ℕ) (schedule : Option (List ℕ)) (line : List ℕ) : Type 0 where
  pub array : ℕ
  pub access : ℕ
  pub p : List ℤ
  pub instance : Instance
  pub says : HasUnwritten source schedule array access p instance
  pub its_line : line ≡ unwritten_line says.of.tree p instance access

-- either is so
abbrev pub IsMeantLine : (source : List ℕ) (schedule : Option (List ℕ)) (line : List ℕ) → Type 0
IsMeantLine source schedule line = IsMeaningLine source schedule line ⊎ IsUnwrittenLine source schedule line
