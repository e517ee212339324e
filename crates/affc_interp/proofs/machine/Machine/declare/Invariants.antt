use Rattle.std.proofs.Common.{◌≡◌, ◌+◌, ◌≤◌, length, take, drop}
use Rattle.affc_ast.specs.Meaning.{nodes_of_locals, with_locals}
use Rattle.affc_interp.specs.Machines.{scope_of}
use Rattle.affc_interp.proofs.machine.Machine.declare.Given as goal

abbrev pub invariant-loop-l : goal.invariant-loop-l
invariant-loop-l l = record {
  goes_on : with_locals l.locals l.fn.node (scope_of l.fn.self) ≡ with_locals (drop l.l-index l.locals) l.here (scope_of l.self);
  nodes : l.here + nodes_of_locals (drop l.l-index l.locals) ≡ l.fn.node + nodes_of_locals l.locals;
  long : length l.fn.self.names.items ≤ length l.self.names.items;
  names : take (length l.fn.self.names.items) l.self.names.items ≡ l.fn.self.names.items;
  at : l.self.here ≡ l.fn.self.here;
  memory : l.self.memory ≡ l.fn.self.memory;
  steps : l.self.steps ≡ l.fn.self.steps;
  limit : l.self.limit ≡ l.fn.self.limit;
}
