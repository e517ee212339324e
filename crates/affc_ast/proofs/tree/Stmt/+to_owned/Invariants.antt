use Rattle.std.proofs.Common.{◌≡◌, take}
use Rattle.affc_ast.specs.declared.tree.Stmt.TheVariants.{For, If, Block}
use Rattle.affc_ast.proofs.tree.Stmt.+to_owned.Given as goal

abbrev pub invariant-loop-inner : goal.invariant-loop-inner
invariant-loop-inner l = (l.made ≡ take l.inner-index l.inner-items) × (l.self ≡ For l.iter l.low l.rel l.high l.inner-items)

abbrev pub invariant-loop-inner-2 : goal.invariant-loop-inner-2
invariant-loop-inner-2 l = (l.made ≡ take l.inner-index l.inner-items) × (l.self ≡ If l.cond l.inner-items l.other)

abbrev pub invariant-loop-inner-3 : goal.invariant-loop-inner-3
invariant-loop-inner-3 l = (l.others ≡ take l.inner-index l.inner-items) × (l.self ≡ If l.cond l.made l.inner-items)

abbrev pub invariant-loop-inner-4 : goal.invariant-loop-inner-4
invariant-loop-inner-4 l = (l.made ≡ take l.inner-index l.inner-items) × (l.self ≡ Block l.locals l.inner-items)
