use Rattle.std.proofs.Common.{◌≡◌, drop, ◌++◌, slice_get}
use Rattle.affc_wellnamed.specs.Known.{param_arrays, takes}
use Rattle.affc_wellnamed.proofs.sight.array_takes.Given as goal

abbrev pub invariant-loop-param : goal.invariant-loop-param
invariant-loop-param l = takes l.is_store l.count (slice_get (param_arrays (drop l.param-index l.params) ++ l.temps) l.left) ≡ takes l.is_store l.count (slice_get (param_arrays l.params ++ l.temps) l.id)
