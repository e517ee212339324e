-- What a data text stands for.
use Rattle.std.specs.Prelude.{◌≡◌, ℕ, ℤ, Bool, true, ◌&&◌, List, [], ◌∷◌}
use Rattle.affc_ast.specs.declared.tree.Param.{Param}
use Rattle.affc_ast.specs.declared.tree.Param.TheVariants.{Number, Array}
use Rattle.affc_ast.specs.declared.tree.Program.{Program}
use Rattle.affc_ast.specs.Index.{is_int64}
use Rattle.affc_interp.specs.DataText.{FeedReads}

-- whether the range of each number parameter lies in `int64_t`
abbrev pub ranges_fit : List Param → Bool
ranges_fit [] = true
ranges_fit (Number name low high ∷ ps) = is_int64 low && is_int64 high && ranges_fit ps
ranges_fit (Array d ∷ ps) = ranges_fit ps

-- A data text stands for one data set of a program at most.
abbrev pub DataAreOne : Type 0
DataAreOne = (text : List ℕ) (program : Program) (p q : List ℤ) (values others : List (List ℕ)) → ranges_fit program.params ≡ true
    → FeedReads text program p values → FeedReads text program q others → (p ≡ q) × (values ≡ others)
