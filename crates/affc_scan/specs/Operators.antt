-- Expressions by their operators.
use Rattle.affc_ast.specs.declared.tree.Ix.{Ix}
use Rattle.affc_ast.specs.declared.tree.Ix.TheVariants as ix
use Rattle.affc_scan.specs.declared.operators.Binary.{Binary}
use Rattle.affc_scan.specs.declared.operators.Binary.TheVariants.{Sum, Difference, Product, Least, Greatest, Remainder}
use Rattle.affc_scan.specs.declared.operators.Shape.{Shape}
use Rattle.affc_scan.specs.declared.operators.Shape.TheVariants.{Number, Name, One, Two}
use Rattle.affc_scan.specs.declared.operators.Unary.{Unary}
use Rattle.affc_scan.specs.declared.operators.Unary.TheVariants.{Opposite, Floor, Ceiling}

-- the expression with an operator before one expression
abbrev pub with_one : Unary → Ix → Ix
with_one Opposite a = ix.Neg a
with_one (Floor n) a = ix.Floord a n
with_one (Ceiling n) a = ix.Ceild a n

-- the expression with an operator between two expressions
abbrev pub with_two : Binary → Ix → Ix → Ix
with_two Sum a b = ix.Add a b
with_two Difference a b = ix.Sub a b
with_two Product a b = ix.Mul a b
with_two Least a b = ix.Min a b
with_two Greatest a b = ix.Max a b
with_two Remainder a b = ix.Mod a b

-- the expression that is made of this
abbrev pub shown : Shape → Ix
shown (Number n) = ix.Lit n
shown (Name x) = ix.Name x
shown (One operator a) = with_one operator a.now
shown (Two operator a b) = with_two operator a.now b.now
