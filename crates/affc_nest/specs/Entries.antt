-- Assignments as a walk comes to them, and their entries.
use Rattle.std.specs.Prelude.{◌≡◌, ℕ, ◌+◌, ◌≤◌, ℤ, IsTrue, List, [], ◌∷◌, Option, Some, None}
use Rattle.affc_ast.specs.declared.tree.Compare.{Compare}
use Rattle.affc_domain.specs.Accesses.{accesses_of}
use Rattle.affc_domain.specs.Ranges.{first_wide_of}
use Rattle.affc_domain.specs.Rounds.{loops_in, comparisons_in}
use Rattle.affc_nest.specs.declared.nest.Entry.{Entry}
use Rattle.affc_nest.specs.declared.nest.NestFault.{NestFault}
use Rattle.affc_nest.specs.declared.nest.NestFault.TheVariants.{IteratorRange, Memory}
use Rattle.affc_nest.specs.Frames.{plain_at}
use Rattle.affc_nest.specs.Nests.{entry_of, entries_of}
use Rattle.affc_nest.specs.Sites.{Place, all_around, all_numbers, all_assigned}
use Rattle.affc_nest.specs.Touches.{AllPlain}

-- what stands round an assignment is plain, and so are its accesses, over so many number parameters
pub record IsPlainPlace (params : ℕ) (p : Place) : Type 0 where
  pub rounds : IsTrue (plain_at params p.around)
  pub few_loops : loops_in p.around ≤ 6
  pub few_comparisons : comparisons_in p.around ≤ 32
  pub accesses : AllPlain (params + loops_in p.around) (accesses_of p.assignment)

abbrev pub ArePlainPlaces : (params : ℕ) → List Place → Type 0
ArePlainPlaces params [] = Unit {0}
ArePlainPlaces params (p ∷ ps) = IsPlainPlace params p × ArePlainPlaces params ps

abbrev pub entry_at : (params : List (ℤ × ℤ)) → List Compare → (statement : ℕ) → Place → Entry
entry_at params context statement p = entry_of params context statement p.around p.loops p.assignment

abbrev pub entries_at : (params : List (ℤ × ℤ)) → List Compare → (statement : ℕ) → List Place → List Entry
entries_at params context statement ps = entries_of params context statement (all_around ps) (all_numbers ps) (all_assigned ps)

abbrev pub first_wide_at : (params : List (ℤ × ℤ)) → (statement : ℕ) → List Place → Option (ℕ × ℕ)
first_wide_at params statement ps = first_wide_of params statement (all_around ps)

-- the loop of this number round the statement of this number, if there is one
abbrev pub wide_loop : (statement : ℕ) → (loop : Option ℕ) → Option (ℕ × ℕ)
wide_loop statement None = None
wide_loop statement (Some loop) = Some (statement, loop)

-- the first of both that is there
abbrev pub first_there : Option (ℕ × ℕ) → Option (ℕ × ℕ) → Option (ℕ × ℕ)
first_there None other = other
first_there (Some first) other = Some first

-- what a fault says, where this is the first loop whose range passes; want of memory says nothing
abbrev pub FaultSays : Option (ℕ × ℕ) → NestFault → Type 0
FaultSays wide (IteratorRange statement loop) = wide ≡ Some (statement, loop)
FaultSays wide Memory = Unit {0}
