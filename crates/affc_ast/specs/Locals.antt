-- Programs without locals, as each without the prelude.
use Rattle.std.specs.Prelude.{Bool, true, false, ◌&&◌, [], ◌∷◌, map}
use Rattle.affc_ast.specs.declared.tree.Program.{Program}
use Rattle.affc_ast.specs.declared.tree.Stmt.TheOpen.{Stmt-F, For, If, Assign, Block}
pub use Rattle.affc_ast.specs.Fits.{all_true}
use Rattle.affc_ast.specs.Recursion.{by_stmt}

abbrev pub plain_step : Stmt-F Bool → Bool
plain_step (For iter low rel high body) = all_true body
plain_step (If cond body other) = all_true body && all_true other
plain_step (Assign op array subs value) = true
plain_step (Block [] body) = all_true body
plain_step (Block (l ∷ ls) body) = false

abbrev pub has_no_locals : Program → Bool
has_no_locals program = all_true (map (by_stmt plain_step) program.body)
