-- A sum that is made term by term, as the code makes it.
use Rattle.std.specs.Prelude.{zero, suc, ℤ, pos, negsuc, List, [], ◌∷◌, Option, Some, None}
use Rattle.affc_ast.specs.declared.tree.Ix.{Ix}
use Rattle.affc_ast.specs.declared.tree.Ix.TheVariants.{Neg, Add, Sub}
use Rattle.affc_loops.specs.Trees.{number, times, Term, and_more}

-- with one more term behind it
abbrev pub with_term : Ix → Term → Ix
with_term e (pos zero, x) = e
with_term e (pos (suc m), x) = Add e (times m x)
with_term e (negsuc m, x) = Sub e (times m x)

-- what stands so far, nothing before the first term that isn't 0, and one more term
abbrev pub and_one : Option Ix → Term → Option Ix
and_one None (pos zero, x) = None
and_one None (pos (suc m), x) = Some (times m x)
and_one None (negsuc m, x) = Some (Neg (times m x))
and_one (Some e) t = Some (with_term e t)

abbrev pub and_all : Option Ix → List Term → Option Ix
and_all sum [] = sum
and_all sum (t ∷ ts) = and_all (and_one sum t) ts

-- the constant comes last
abbrev pub finished : Option Ix → ℤ → Ix
finished None c = number c
finished (Some e) c = and_more e [] c
