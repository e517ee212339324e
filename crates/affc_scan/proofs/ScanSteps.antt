-- The steps by which ranges and blocks of all statements are made.
use Rattle.std.proofs.Common.{◌≡◌, ℕ, ◌≤◌, ℤ, List, [], ◌∷◌, ◌++◌, map, length, refl, sym, ap, ◌∙◌, arith}
use Rattle.affc_ast.specs.declared.tree.Ix.{Ix}
use Rattle.affc_ast.specs.declared.tree.Stmt.{Stmt}
use Rattle.affc_loops.specs.Between.{loops_between, body_between}
use Rattle.affc_loops.specs.Loops.{block_of, times_of, time_ranges}
use Rattle.affc_loops.specs.Spans.{hulls}
use Rattle.affc_scan.specs.declared.alive.Alive.{Alive}
use Rattle.affc_scan.specs.Alive.{as_scheduled}

hulls_then : (params : List (ℤ × ℤ)) (e : Alive) (rest : List Alive) → 1 ≤ length rest → hulls (times_of params (as_scheduled e)) (time_ranges params (map as_scheduled rest)) ≡ time_ranges params (map as_scheduled (e ∷ rest))
hulls_then params e [] l = absurd (omega arith)
hulls_then params e (f ∷ rest) l = refl

pub ranges_last : (params : List (ℤ × ℤ)) (ps rest : List Alive) (e : Alive) (own others a b made all : List (ℤ × ℤ)) → ps ≡ e ∷ rest → 1 ≤ length rest → own ≡ times_of params (as_scheduled e)
    → others ≡ time_ranges params (map as_scheduled rest) → a ≡ own → b ≡ others → made ≡ [] → all ≡ made ++ hulls a b → all ≡ time_ranges params (map as_scheduled ps)
ranges_last params ps rest e own others a b made all p l o q f g m h =
    h ∙ ap (λ z. z ++ hulls a b) m ∙ ap (λ z. hulls z b) (f ∙ o) ∙ ap (hulls (times_of params (as_scheduled e))) (g ∙ q) ∙ hulls_then params e rest l ∙ ap (λ z. time_ranges params (map as_scheduled z)) (sym p)

pub body_last : (first more : ℕ) (ends : List (Ix × Ix)) (ps : List Alive) (none blocks made : List Stmt) → 1 ≤ length ps → more ≡ length ends → none ≡ []
    → blocks ≡ none ++ map (block_of first more) (map as_scheduled ps) → made ≡ loops_between ends 0 blocks → made ≡ body_between first ends (map as_scheduled ps)
body_last first more ends [] none blocks made l m n k h = absurd (omega arith)
body_last first more ends (e ∷ ps) none blocks made l m n k h =
    h
    ∙ ap (loops_between ends 0) (k ∙ ap (λ z. z ++ map (block_of first more) (map as_scheduled (e ∷ ps))) n)
    ∙ ap (λ j. loops_between ends 0 (map (block_of first j) (map as_scheduled (e ∷ ps)))) m
