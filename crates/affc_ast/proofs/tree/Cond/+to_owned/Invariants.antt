use Rattle.std.proofs.Common.{◌≡◌, take}
use Rattle.affc_ast.specs.declared.tree.Cond.TheVariants.{All, Any}
use Rattle.affc_ast.proofs.tree.Cond.+to_owned.Given as goal

abbrev pub invariant-loop-entry : goal.invariant-loop-entry
invariant-loop-entry l = (l.made ≡ take l.entry-index l.entry-items) × (l.self ≡ All l.entry-items)

abbrev pub invariant-loop-entry-2 : goal.invariant-loop-entry-2
invariant-loop-entry-2 l = (l.made ≡ take l.entry-index l.entry-items) × (l.self ≡ Any l.entry-items)
