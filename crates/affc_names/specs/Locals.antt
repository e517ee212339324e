-- One local of a block.
use Rattle.std.specs.Prelude.{false, Ok}
use Rattle.affc_ast.specs.declared.tree.Local.{Local}
use Rattle.affc_grammar.specs.Draft.{LocalDraft}
use Rattle.affc_grammar.specs.Names.{Checked, Scope, ◌>>=◌, allowed, why_declared, ix_tree, with_number}

-- with what is visible behind it
abbrev pub local_tree : Scope → LocalDraft → Checked (Local × Scope)
local_tree scope l = allowed (why_declared scope false l.name) l.at (ix_tree scope l.value >>= (λ x. Ok (record { name = l.name; value = x }, with_number false scope l.name)))
