-- Programs that don't follow another, don't run as it, or don't compile it, each for one reason.
use Rattle.std.specs.Prelude.{pos, ◌-ℤ◌, [], ◌∷◌, map, ◌==◌, if◌then◌else◌}
use Rattle.affc_ast.specs.declared.tree.Ix.TheVariants.{Name, Sub}
use Rattle.affc_ast.specs.declared.tree.Program.{Program}
use Rattle.affc_ast.specs.declared.tree.Rel.TheVariants.{Less}
use Rattle.affc_ast.specs.declared.tree.Stmt.TheVariants.{For, Block}
use Rattle.affc_ast.specs.Compiles.{RunsAs, Compiles}
use Rattle.affc_ast.specs.Examples.{lit, always, n, i, input, output, program, assign, copying_up_to, copying, backwards, two, through}
use Rattle.affc_ast.specs.Follows.{Follows, in_source_order, own_place}
use Rattle.affc_ast.specs.Store.{Element}

-- ---- Following

-- out[1] is stored before out[0]
abbrev pub OrdersDiffer : Type 0
OrdersDiffer = Follows backwards copying in_source_order own_place (pos 2 ∷ []) (two 0 0) → ⊥

-- for (i = 0; i < 2; i++) out[i] = in[1 - i];
abbrev exchanged : Program
exchanged = program [] [] (For [] (lit 0) Less (lit 2) (assign output i input (Sub (lit 1) i) ∷ []) ∷ [])

-- out[0] gets in[1], and out[1] gets in[0]
abbrev pub ValuesDiffer : Type 0
ValuesDiffer = Follows exchanged copying in_source_order own_place (pos 2 ∷ []) (two 0 0) → ⊥

-- the stores of t are all in t[0], and have to be in t[0] and t[1]
abbrev pub PlacesDiffer : Type 0
PlacesDiffer = Follows (through (lit 1) (lit 0)) (through n i) in_source_order own_place (pos 2 ∷ []) (two 0 0) → ⊥

-- { const int64_t a = 1; out[a] = in[0]; }
abbrev with_local : Program
with_local = program [] [] (Block (record { name = []; value = lit 1 } ∷ []) (assign output (Name (record { 0 = 1 })) input (lit 0) ∷ []) ∷ [])

-- The run stores out[1]. The trace knows no locals, and out[0] is the instance's own element.
abbrev pub OwnElementsDiffer : Type 0
OwnElementsDiffer = Follows with_local with_local in_source_order own_place (pos 2 ∷ []) (two 0 0) → ⊥

-- ---- Outputs

-- for (i = 0; i < 2; i++) out[1 - i] = in[i];
abbrev crossed : Program
crossed = program [] [] (For [] (lit 0) Less (lit 2) (assign output (Sub (lit 1) i) input i ∷ []) ∷ [])

-- out[0] at out[1], and out[1] at out[0]
abbrev cross : Element → Element
cross x = if x.0 == 1 then (1, map (λ y. pos 1 -ℤ y) x.1) else x

-- it follows the copy loop at these places, and its outputs are others
abbrev pub OutputsDiffer : Type 0
OutputsDiffer =
    Follows crossed copying in_source_order cross (pos 2 ∷ []) (two 0 0) ×
    (RunsAs crossed copying in_source_order cross (pos 2 ∷ []) (two 0 0) → ⊥)

-- ---- Compiling

abbrev CompilesCopying : Program → Type 0
CompilesCopying target = Compiles target copying (λ p. in_source_order) (λ p. own_place)

-- the copy loop without its name
abbrev pub NamesDiffer : Type 0
NamesDiffer = CompilesCopying (record copying { name = [] }) → ⊥

-- the copy loop for N from 1 to 3
abbrev pub RangesDiffer : Type 0
RangesDiffer = CompilesCopying (copying_up_to 3) → ⊥

-- the copy loop under the context 0 <= 0
abbrev pub ContextsDiffer : Type 0
ContextsDiffer = CompilesCopying (record copying { context = always ∷ [] }) → ⊥

-- the copy loop without its loop
abbrev pub RunsDiffer : Type 0
RunsDiffer = CompilesCopying (record copying { body = [] }) → ⊥
