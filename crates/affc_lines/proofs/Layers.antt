-- Lists of statements, one statement at a time.
use Rattle.std.proofs.Common.{◌≡◌, ℕ, ◌+◌, ◌<◌, ◌≤◌, List, [], ◌∷◌, ◌++◌, length, map, get_or, take, unwrap_or, sym, ap, ◌∙◌, add-one}
use Rattle.std.specs.List.{flat_map}
use Rattle.std.proofs.Math.Seq.{take-suc}
use Rattle.std.proofs.lemmas.List.{append-nil}
use Rattle.std.proofs.lemmas.List.Concat.{flat_map-cons}
use Rattle.std.proofs.lemmas.List.Folds.{flat_map-map}
use Rattle.std.proofs.lemmas.Grind.{flat_map-append}
use Rattle.std.proofs.lemmas.Option.{slice_get_past, unwrap_or-slice_get}
use Rattle.affc_ast.specs.declared.tree.Stmt.{Stmt}
use Rattle.affc_ast.specs.declared.tree.Stmt.TheOpen.{Stmt-F}
use Rattle.affc_ast.specs.Recursion.{by_stmt}
use Rattle.affc_ast.specs.Trace.{joined}

-- what the statements of a body give
pub of_body : {A : Type 0} (f : Stmt-F (List A) → List A) (body slice : List Stmt) → slice ≡ body → joined (map (by_stmt f) body) ≡ flat_map (by_stmt f) slice
of_body f body slice same = flat_map-map (λ (x : List _). x) (by_stmt f) body ∙ ap (flat_map (by_stmt f)) (sym same)

-- what the items up to one more give
pub flat_map-further : {X A : Type 0} (f : X → List A) (items : List X) (i : ℕ) (x : X) → i < length items → x ≡ get_or items i x
    → flat_map f (take (i + 1) items) ≡ flat_map f (take i items) ++ f x
flat_map-further f items i x below item =
    ap (flat_map f) front ∙ flat_map-append f (take i items) (x ∷ [])
    ∙ ap (λ l. flat_map f (take i items) ++ l) (flat_map-cons f x [] ∙ append-nil (f x))
  where
    front : take (i + 1) items ≡ take i items ++ x ∷ []
    front = rw add-one (take-suc items i x below ∙ ap (λ y. take i items ++ y ∷ []) (sym item))

pub get_past : {X : Type 0} (xs : List X) (i : ℕ) (d : X) → length xs ≤ i → get_or xs i d ≡ d
get_past xs i d past = sym (unwrap_or-slice_get xs i d) ∙ ap (λ o. unwrap_or o d) (slice_get_past xs i past)
