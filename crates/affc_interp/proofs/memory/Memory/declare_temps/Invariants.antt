use Rattle.std.proofs.Common.{◌≡◌, ◌+◌, length, drop, [], Result}
use Rattle.affc_ast.specs.Meaning.{nodes_of_decls, all_extents}
use Rattle.affc_interp.specs.declared.fault.Halt.{Halt}
use Rattle.affc_interp.specs.Layout.{Held}
use Rattle.affc_interp.specs.Arrays.{AllDeclared}
use Rattle.affc_interp.proofs.memory.Memory.declare_temps.Given as goal

abbrev pub invariant-loop-d : goal.invariant-loop-d
invariant-loop-d l = record {
  goes_on : (h : Result (Unit {0}) Halt) (new : Held) → AllDeclared h l.self new [] (all_extents l.number (drop l.d-index l.temps) l.first l.names)
      → AllDeclared h l.fn.self new [] (all_extents l.fn.array l.temps l.fn.node l.names);
  nodes : l.first + nodes_of_decls (drop l.d-index l.temps) ≡ l.fn.node + nodes_of_decls l.temps;
  arrays : l.number + length (drop l.d-index l.temps) ≡ l.fn.array + length l.temps;
}
