-- A value has no more loads than nodes, and a statement has nodes.
use Rattle.std.proofs.Common.{◌≤◌, arith}
use Rattle.affc_ast.specs.declared.tree.Val.{Val}
use Rattle.affc_ast.specs.declared.tree.Val.TheVariants as v
use Rattle.affc_ast.specs.declared.tree.Val.TheBlock.{more_of-Val, end_of-Val}
use Rattle.affc_ast.specs.declared.tree.Stmt.{Stmt}
use Rattle.affc_ast.specs.declared.tree.Stmt.TheVariants as s
use Rattle.affc_ast.specs.Values.{value_of}
use Rattle.affc_interp.specs.Budget.{exec_of}

pub loads_fit : (e : Val) → (value_of e).loads ≤ (value_of e).nodes
loads_fit (v.Load array subs) = omega arith
loads_fit (v.Const n) = omega arith
loads_fit (v.Cast e) = omega arith
loads_fit (v.Not' s (more_of-Val a end_of-Val)) = let h = loads_fit a in omega arith
loads_fit (v.Bin' op s (more_of-Val a end_of-Val) t (more_of-Val b end_of-Val)) = let h = loads_fit a in let k = loads_fit b in omega arith
loads_fit (v.Shift' left s (more_of-Val a end_of-Val) by) = let h = loads_fit a in omega arith

pub some_nodes : (x : Stmt) → 1 ≤ (exec_of x).nodes
some_nodes (s.For' iter low rel high shape body) = omega arith
some_nodes (s.If' cond shape body shape' other) = omega arith
some_nodes (s.Assign op array subs value) = omega arith
some_nodes (s.Block' locals shape body) = omega arith
