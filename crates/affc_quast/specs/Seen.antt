-- What a tree in code is seen as.
use Rattle.std.specs.Prelude.{List, map}
use Rattle.affc_quast.specs.declared.quast.Flow.{Flow}
use Rattle.affc_quast.specs.declared.quast.Quast.{Quast, Test', Div', Source, Input}
use Rattle.affc_quast.specs.Trees as t
use Rattle.affc_quast.specs.Trees.{Tree}

abbrev pub seen : Quast → Tree
seen (Test' f p a q b) = t.Test f (seen a) (seen b)
seen (Div' f by p a) = t.Div f by (seen a)
seen (Source s fs) = t.Source s fs
seen Input = t.Input

-- the trees of all loads, statements and loads in order
abbrev pub trees_of : Flow → List Tree
trees_of flow = map seen flow.trees
