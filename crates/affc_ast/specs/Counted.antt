-- How many arrays and nodes a program has, and which programs keep these numbers below 2^32.
use Rattle.std.specs.Prelude.{ℕ, ◌+◌, ◌^◌, ◌<◌, nat_lt, length, map, sum_by, IsTrue}
use Rattle.std.specs.List.{list_all}
use Rattle.affc_ast.specs.declared.tree.Program.{Program}
use Rattle.affc_ast.specs.Index.{nodes_of_compare}
use Rattle.affc_ast.specs.Meaning.{arrays_of, nodes_of_decls, nodes_in, assigns_in, denotation_of}
use Rattle.affc_ast.specs.Trace.{assignments}

-- how many arrays the program has
abbrev pub array_count : Program → ℕ
array_count program = length (arrays_of program.params) + length program.temps

-- the numbers of the temporaries' first node and of the body's
abbrev pub temps_node : Program → ℕ
temps_node program = nodes_of_decls (arrays_of program.params) + sum_by nodes_of_compare program.context

abbrev pub body_node : Program → ℕ
body_node program = temps_node program + nodes_of_decls program.temps

abbrev pub node_total : Program → ℕ
node_total program = body_node program + nodes_in (map denotation_of program.body)

-- The numbers of arrays, nodes and assignments are below 2^32, and each assignment is to one of the program's arrays.
pub record IsCounted (program : Program) : Type 0 where
  pub arrays : array_count program < 2 ^ 32
  pub nodes : node_total program < 2 ^ 32
  pub assigns : assigns_in (map denotation_of program.body) < 2 ^ 32
  pub own_arrays : IsTrue (list_all (λ a. nat_lt a.array.0 (array_count program)) (assignments program))
