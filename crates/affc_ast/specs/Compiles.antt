-- When one program, or one text, compiles another.
use Rattle.std.specs.Prelude.{◌≡◌, ℕ, ℤ, List}
use Rattle.affc_ast.specs.declared.tree.Program.{Program}
use Rattle.affc_ast.specs.Fits.{Fits, outputs}
use Rattle.affc_ast.specs.Follows.{Order, Places, Follows}
use Rattle.affc_ast.specs.Store.{Store}

-- The run of `target` follows that of `source`, and the output arrays hold the same at both ends.
pub record RunsAs (target source : Program) (ordered : Order) (place : Places) (p : List ℤ) (store : Store) : Type 0 where
  pub follows : Follows target source ordered place p store
  pub same_outputs : outputs target follows.target_end.store ≡ outputs source follows.source_end.store

-- `target` has the name, the parameters with their ranges and the context of `source`, and it runs as `source` for
-- all data that fit. The order and the places are chosen by the values of the parameters alone; an `Order` may look at
-- the stores, and need not keep them all.
pub record Compiles (target source : Program) (ordered : List ℤ → Order) (place : List ℤ → Places) : Type 0 where
  pub name : target.name ≡ source.name
  pub parameters : target.params ≡ source.params
  pub context : target.context ≡ source.context
  pub runs : (p : List ℤ) (store : Store) → Fits source p store → RunsAs target source (ordered p) (place p) p store

-- The one text reads as a program that compiles a program as which the other text reads.
pub record CompilesText (Reads ReadsWide : List ℕ → Program → Type 0) (text source_text : List ℕ) (ordered : List ℤ → Order) (place : List ℤ → Places) : Type 0 where
  pub source : Program
  pub source_reads : Reads source_text source
  pub target : Program
  pub target_reads : ReadsWide text target
  pub compiles : Compiles target source ordered place
