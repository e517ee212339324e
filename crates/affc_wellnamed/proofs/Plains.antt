-- What each expression of a statement passes, by its parts.
use Rattle.std.proofs.Common.{◌≡◌, ◌&&◌, ℕ, Bool, true, false, List, [], ◌∷◌, map, refl, sym, ap, ◌∙◌}
use Rattle.std.specs.List.{list_all}
use Rattle.affc_ast.specs.declared.tree.Cond.{Cond}
use Rattle.affc_ast.specs.declared.tree.Ix.{Ix}
use Rattle.affc_ast.specs.declared.tree.Local.{Local}
use Rattle.affc_ast.specs.declared.tree.Rel.{Rel}
use Rattle.affc_ast.specs.declared.tree.Stmt.{Stmt}
use Rattle.affc_ast.specs.declared.tree.Stmt.TheVariants.{For, If, Block}
use Rattle.affc_cprint.specs.Forms.{cond_passes, local_passes, stmt_step, stmt_passes}
use Rattle.affc_wellnamed.specs.Plain.{is_plain}
use Rattle.affc_ast.proofs.Steps.{for_here, if_here, block_here}
use Rattle.affc_wellnamed.proofs.Sighted.{with_head, head_off}

ids : (body : List Stmt) → list_all (stmt_passes is_plain) body ≡ list_all (λ b. b) (map (stmt_passes is_plain) body)
ids [] = refl
ids (s ∷ body) = ap (λ b. stmt_passes is_plain s && b) (ids body)

pub for_arm : (x : Stmt) (iter : List ℕ) (low : Ix) (rel : Rel) (high : Ix) (body slice : List Stmt) (a b t : Bool) → x ≡ For iter low rel high body → slice ≡ body
    → a ≡ true → a ≡ is_plain low → b ≡ true → b ≡ is_plain high → t ≡ list_all (stmt_passes is_plain) slice → t ≡ stmt_passes is_plain x
for_arm x iter low rel high body slice a b t is same p q r s inside =
    let whole : stmt_passes is_plain x ≡ (is_plain low && (is_plain high && list_all (λ z. z) (map (stmt_passes is_plain) body))) = ap (stmt_passes is_plain) is ∙ for_here (stmt_step is_plain) iter low rel high body in
    with_head (is_plain low) (is_plain high && list_all (λ z. z) (map (stmt_passes is_plain) body)) a t p (sym q)
    (with_head (is_plain high) (list_all (λ z. z) (map (stmt_passes is_plain) body)) b t r (sym s) (inside ∙ ap (list_all (stmt_passes is_plain)) same ∙ ids body)) ∙ sym whole

pub if_arm : (x : Stmt) (c : Cond) (body slice other these : List Stmt) (a b t : Bool) → x ≡ If c body other → slice ≡ body → these ≡ other
    → a ≡ true → a ≡ cond_passes is_plain c → b ≡ true → b ≡ list_all (stmt_passes is_plain) slice → t ≡ list_all (stmt_passes is_plain) these → t ≡ stmt_passes is_plain x
if_arm x c body slice other these a b t is same those p q r s inside =
    let whole : stmt_passes is_plain x ≡ (cond_passes is_plain c && (list_all (λ z. z) (map (stmt_passes is_plain) body) && list_all (λ z. z) (map (stmt_passes is_plain) other))) = ap (stmt_passes is_plain) is ∙ if_here (stmt_step is_plain) c body other in
    with_head (cond_passes is_plain c) (list_all (λ z. z) (map (stmt_passes is_plain) body) && list_all (λ z. z) (map (stmt_passes is_plain) other)) a t p (sym q)
    (with_head (list_all (λ z. z) (map (stmt_passes is_plain) body)) (list_all (λ z. z) (map (stmt_passes is_plain) other)) b t r (sym (s ∙ ap (list_all (stmt_passes is_plain)) same ∙ ids body))
    (inside ∙ ap (list_all (stmt_passes is_plain)) those ∙ ids other)) ∙ sym whole

pub if_off : (x : Stmt) (c : Cond) (body slice other : List Stmt) (a b : Bool) → x ≡ If c body other → slice ≡ body
    → a ≡ true → a ≡ cond_passes is_plain c → b ≡ false → b ≡ list_all (stmt_passes is_plain) slice → b ≡ stmt_passes is_plain x
if_off x c body slice other a b is same p q off s =
    let whole : stmt_passes is_plain x ≡ (cond_passes is_plain c && (list_all (λ z. z) (map (stmt_passes is_plain) body) && list_all (λ z. z) (map (stmt_passes is_plain) other))) = ap (stmt_passes is_plain) is ∙ if_here (stmt_step is_plain) c body other in
    with_head (cond_passes is_plain c) (list_all (λ z. z) (map (stmt_passes is_plain) body) && list_all (λ z. z) (map (stmt_passes is_plain) other)) a b p (sym q)
    (head_off (list_all (λ z. z) (map (stmt_passes is_plain) body)) (list_all (λ z. z) (map (stmt_passes is_plain) other)) b off (s ∙ ap (list_all (stmt_passes is_plain)) same ∙ ids body)) ∙ sym whole

pub block_arm : (x : Stmt) (ls these : List Local) (body slice : List Stmt) (a t : Bool) → x ≡ Block ls body → these ≡ ls → slice ≡ body
    → a ≡ true → a ≡ list_all (local_passes is_plain) these → t ≡ list_all (stmt_passes is_plain) slice → t ≡ stmt_passes is_plain x
block_arm x ls these body slice a t is those same p q inside =
    let whole : stmt_passes is_plain x ≡ (list_all (local_passes is_plain) ls && list_all (λ z. z) (map (stmt_passes is_plain) body)) = ap (stmt_passes is_plain) is ∙ block_here (stmt_step is_plain) ls body in
    with_head (list_all (local_passes is_plain) ls) (list_all (λ z. z) (map (stmt_passes is_plain) body)) a t p (ap (list_all (local_passes is_plain)) (sym those) ∙ sym q) (inside ∙ ap (list_all (stmt_passes is_plain)) same ∙ ids body) ∙ sym whole
