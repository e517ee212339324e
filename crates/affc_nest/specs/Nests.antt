-- The nest of a program: its domains, accesses, extents and context, as systems and forms.
use Rattle.std.specs.Prelude.{ℕ, suc, ◌+◌, ℤ, negsuc, Bool, true, false, if◌then◌else◌, List, [], ◌∷◌, length, map}
use Rattle.affc_system.specs.Systems.{Rows}
use Rattle.affc_ast.specs.declared.tree.Compare.{Compare}
use Rattle.affc_ast.specs.declared.tree.Decl.{Decl}
use Rattle.affc_ast.specs.declared.tree.Program.{Program}
use Rattle.affc_ast.specs.Trace.{Assignment, assignments}
use Rattle.affc_domain.specs.Accesses as said
use Rattle.affc_domain.specs.Accesses.{accesses_of}
use Rattle.affc_domain.specs.Affine.{form_of}
use Rattle.affc_domain.specs.Arrays.{declared_arrays}
use Rattle.affc_domain.specs.Loops.{loop_numbers}
use Rattle.affc_domain.specs.Ranges.{Ranges, Within, Never, Wide, number_ranges, ranges_of}
use Rattle.affc_domain.specs.Rounds.{Round, rounds, loops_in}
use Rattle.affc_nest.specs.Domains.{number_form, test_rows, domain_rows}
use Rattle.affc_nest.specs.declared.nest.Access.{Access}
use Rattle.affc_nest.specs.declared.nest.ArrayInfo.{ArrayInfo}
use Rattle.affc_nest.specs.declared.nest.Entry.{Entry}
use Rattle.affc_nest.specs.declared.nest.Nest.{Nest}

-- ---- Arrays

abbrev pub array_of : (params : ℕ) → Decl → ArrayInfo
array_of params d = record { role = d.role; extents = map (form_of params 0) d.extents }

-- ---- Entries

abbrev pub is_alive : Ranges → Bool
is_alive (Within ranges) = true
is_alive Never = false
is_alive (Wide loop) = true

abbrev pub ranges_in : Ranges → List (ℤ × ℤ)
ranges_in (Within ranges) = ranges
ranges_in Never = []
ranges_in (Wide loop) = []

-- no point at all
abbrev pub nowhere : (columns : ℕ) → Rows
nowhere columns = record { columns = columns; rows = number_form columns (negsuc 0) ∷ [] }

-- the domain under what stands round an assignment, where the interval rule says this
abbrev pub domain_by : (params : List (ℤ × ℤ)) → List Compare → Ranges → List Round → Rows
domain_by params context inside rs =
    let columns = length params + loops_in rs in
    if is_alive inside then record { columns = columns; rows = domain_rows params context (ranges_in inside) rs } else nowhere columns

abbrev pub access_form : (columns : ℕ) → said.Access → Access
access_form columns x = record { array = x.0; subs = map (form_of columns 0) x.1 }

-- assignment number `statement`, which is one part, with what stands round it and the numbers of the loops among that
abbrev pub entry_of : (params : List (ℤ × ℤ)) → List Compare → (statement : ℕ) → List Round → (loops : List ℕ) → Assignment → Entry
entry_of params context statement rs loops a =
    let inside = ranges_of params rs in
    record {
      part = statement;
      statement = statement;
      alive = is_alive inside;
      loops = loops;
      domain = domain_by params context inside rs;
      ranges = ranges_in inside;
      accesses = map (access_form (length params + loops_in rs)) (accesses_of a);
    }

abbrev pub entries_of : (params : List (ℤ × ℤ)) → List Compare → (statement : ℕ) → List (List Round) → List (List ℕ) → List Assignment → List Entry
entries_of params context statement (rs ∷ rss) (ls ∷ lss) (a ∷ as') = entry_of params context statement rs ls a ∷ entries_of params context (suc statement) rss lss as'
entries_of params context statement _ _ _ = []

-- ---- Nests

abbrev pub nest_of : Program → Nest
nest_of program =
    let params = number_ranges program.params in
    record {
      params = params;
      context = record { columns = length params; rows = test_rows (length params) 0 program.context };
      arrays = map (array_of (length params)) (declared_arrays program);
      entries = entries_of params program.context 0 (rounds program) (loop_numbers program) (assignments program);
    }
