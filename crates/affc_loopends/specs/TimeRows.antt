-- The time set of a statement as a system over the parameters and then the components: the rows of the statement's domain with the
-- iterators by the inverse, and then, for each component, that it equals the form of its time.
use Rattle.std.specs.Prelude.{ℕ, suc, ◌+◌, List, [], ◌∷◌, ◌++◌, length, map}
use Rattle.affc_rows.specs.Forms.{Affine}
use Rattle.affc_rows.specs.Vocabulary.{column_form, form_at}
use Rattle.affc_system.specs.Systems.{Rows}
use Rattle.affc_ast.specs.declared.tree.Rel.TheVariants.{Equal}
use Rattle.affc_trace.specs.Inverses.{columns_from}
use Rattle.affc_nest.specs.Domains.{compare_rows, domain_rows}
use Rattle.affc_loopends.specs.TimeSets.{Timed}

-- what stands for the parameters and the iterators: the parameters themselves, and the inverse
abbrev pub images : (params components : ℕ) → (inverse : List Affine) → List Affine
images params components inverse = columns_from (params + components) 0 params ++ inverse

-- for each component, of which the first has column j: it is at least its form, and at most
abbrev pub component_rows : (columns j : ℕ) → List Affine → (times : List Affine) → List Affine
component_rows columns j gs [] = []
component_rows columns j gs (f ∷ fs) = compare_rows Equal (column_form columns j) (form_at columns gs f) ++ component_rows columns (suc j) gs fs

-- by the rows of the domain, where so many parameters are its first columns
abbrev pub time_rows : (params : ℕ) → (domain times inverse : List Affine) → List Affine
time_rows params domain times inverse =
    let columns = params + length times in
    let gs = images params (length times) inverse in
    map (form_at columns gs) domain ++ component_rows columns params gs times

abbrev pub time_system : (params : ℕ) → (domain times inverse : List Affine) → Rows
time_system params domain times inverse = record { columns = params + length times; rows = time_rows params domain times inverse }

-- that of a statement with its times
abbrev pub system_of : Timed → Rows
system_of s = time_system (length s.params) (domain_rows s.params s.context s.ranges s.around) s.times s.inverse
