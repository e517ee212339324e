-- What is known of a statement, by the code's chain of names.
use Rattle.std.proofs.Common.{◌≡◌, ◌&&◌, ◌+◌, ◌<◌, ℕ, Bool, true, false, not, List, ◌∷◌, map, drop, length, get_or, refl, sym, ap, ◌∙◌, Bor, drop-cons, add-one, suc, true≢false}
use Rattle.affc_ast.specs.declared.tree.Cond.{Cond}
use Rattle.affc_ast.specs.declared.tree.Ix.{Ix}
use Rattle.affc_ast.specs.declared.tree.Local.{Local}
use Rattle.affc_ast.specs.declared.tree.Rel.{Rel}
use Rattle.affc_ast.specs.declared.tree.Stmt.{Stmt}
use Rattle.affc_ast.specs.declared.tree.Stmt.TheVariants.{For, If, Block}
use Rattle.affc_grammar.specs.Grammar.{Name}
use Rattle.affc_wellnamed.specs.declared.sight.Sight.{Sight}
use Rattle.affc_wellnamed.specs.declared.sight.Sight.TheViews as view
use Rattle.affc_wellnamed.specs.Known.{Known, and_iterator, and_locals, entry_known, each_known, cond_seen, cond_known, for_known, block_known, stmt_step, stmt_known, stmts_known}
use Rattle.affc_wellnamed.specs.Sights.{known_in}
use Rattle.affc_ast.proofs.Steps.{for_here, if_here, block_here}

known_iterator : (prelude : Bool) (w : Bor Name) (s : Bor Sight) → known_in prelude (view.Iterator w s) ≡ and_iterator (known_in prelude s.now) w.now
known_iterator prelude w s = refl

known_locals : (prelude : Bool) (ls : Bor (List Local)) (s : Bor Sight) → known_in prelude (view.Locals ls s) ≡ and_locals (known_in prelude s.now) ls.now
known_locals prelude ls s = refl

-- where a head is known, what is known of the body decides
pub with_head : (head body : Bool) (r t : Bool) → r ≡ true → head ≡ r → t ≡ body → t ≡ (head && body)
with_head true body r t on e f = f
with_head false body true t on e f = absurd (cc)
with_head false body false t on e f = absurd (cc)

-- where a head is known and what stands first in it isn't, the head isn't
pub head_off : (head body t : Bool) → t ≡ false → t ≡ head → t ≡ (head && body)
head_off true body t off e = absurd (true≢false (sym e ∙ off))
head_off false body t off e = e

-- ---- Conditions

pub entry_on : (same known j t : Bool) → j ≡ false → j ≡ same → t ≡ known → t ≡ (not same && known)
entry_on true known j t off e f = absurd (true≢false (sym e ∙ off))
entry_on false known j t off e f = f

pub entry_off : (same known j : Bool) → j ≡ true → j ≡ same → not j ≡ (not same && known)
entry_off true known j on e = ap not on
entry_off false known j on e = absurd (true≢false (sym on ∙ e))

module _ (known : Known) (all : Bool) where
  abbrev seen_all : List Cond → Bool
  seen_all xs = each_known all (map (cond_seen known) xs)

  here : (xs : List Cond) (i : ℕ) (x : Cond) → i < length xs → x ≡ get_or xs i x → seen_all (drop i xs) ≡ (entry_known all (cond_seen known x) && seen_all (drop (suc i) xs))
  here xs i x lt is = ap seen_all (drop-cons xs i x lt) ∙ ap (λ z. seen_all (z ∷ drop (suc i) xs)) (sym is)

  pub each_stops : (xs : List Cond) (i : ℕ) (x : Cond) (e : Bool) → i < length xs → x ≡ get_or xs i x → e ≡ entry_known all (cond_seen known x) → e ≡ false → seen_all (drop i xs) ≡ seen_all xs → false ≡ seen_all xs
  each_stops xs i x e lt is f off kept = sym (here xs i x lt is ∙ ap (λ b. b && seen_all (drop (suc i) xs)) (sym f ∙ off)) ∙ kept

  pub each_goes : (xs : List Cond) (i : ℕ) (x : Cond) (e : Bool) → i < length xs → x ≡ get_or xs i x → e ≡ entry_known all (cond_seen known x) → e ≡ true → seen_all (drop i xs) ≡ seen_all xs → seen_all (drop (i + 1) xs) ≡ seen_all xs
  each_goes xs i x e lt is f on kept = ap (λ n. seen_all (drop n xs)) (add-one i) ∙ sym (here xs i x lt is ∙ ap (λ b. b && seen_all (drop (suc i) xs)) (sym f ∙ on)) ∙ kept

-- ---- Statements

pub for_arm : (prelude : Bool) (x : Stmt) (iter : Name) (low : Ix) (rel : Rel) (high : Ix) (body slice : List Stmt) (w v : Bor Name) (s : Bor Sight) (r t : Bool) → x ≡ For iter low rel high body → w.now ≡ iter → v.now ≡ iter → slice ≡ body
    → r ≡ true → r ≡ for_known (known_in prelude s.now) v.now low rel high → t ≡ stmts_known (known_in prelude (view.Iterator w s)) slice → t ≡ stmt_known x (known_in prelude s.now)
for_arm prelude x iter low rel high body slice w v s r t is ws vs same on head inside =
    let known = known_in prelude s.now in
    let whole : stmt_known x known ≡ (for_known known iter low rel high && stmts_known (and_iterator known iter) body) = ap (λ y. stmt_known y known) is ∙ ap (λ (f : Known → Bool). f known) (for_here stmt_step iter low rel high body) in
    with_head (for_known known iter low rel high) (stmts_known (and_iterator known iter) body) r t on (ap (λ n. for_known known n low rel high) (sym vs) ∙ sym head)
    (inside ∙ ap (λ k. stmts_known k slice) (known_iterator prelude w s ∙ ap (and_iterator known) ws) ∙ ap (stmts_known (and_iterator known iter)) same) ∙ sym whole

pub if_arm : (known : Known) (x : Stmt) (c : Cond) (body slice other these : List Stmt) (a b t : Bool) → x ≡ If c body other → slice ≡ body → these ≡ other
    → a ≡ true → a ≡ cond_known known c → b ≡ true → b ≡ stmts_known known slice → t ≡ stmts_known known these → t ≡ stmt_known x known
if_arm known x c body slice other these a b t is same those p q r s inside =
    let whole : stmt_known x known ≡ (cond_known known c && (stmts_known known body && stmts_known known other)) = ap (λ y. stmt_known y known) is ∙ ap (λ (f : Known → Bool). f known) (if_here stmt_step c body other) in
    with_head (cond_known known c) (stmts_known known body && stmts_known known other) a t p (sym q)
    (with_head (stmts_known known body) (stmts_known known other) b t r (ap (stmts_known known) (sym same) ∙ sym s) (inside ∙ ap (stmts_known known) those)) ∙ sym whole

pub if_off : (known : Known) (x : Stmt) (c : Cond) (body slice other : List Stmt) (a b : Bool) → x ≡ If c body other → slice ≡ body
    → a ≡ true → a ≡ cond_known known c → b ≡ false → b ≡ stmts_known known slice → b ≡ stmt_known x known
if_off known x c body slice other a b is same p q off s =
    let whole : stmt_known x known ≡ (cond_known known c && (stmts_known known body && stmts_known known other)) = ap (λ y. stmt_known y known) is ∙ ap (λ (f : Known → Bool). f known) (if_here stmt_step c body other) in
    with_head (cond_known known c) (stmts_known known body && stmts_known known other) a b p (sym q)
    (head_off (stmts_known known body) (stmts_known known other) b off (s ∙ ap (stmts_known known) same)) ∙ sym whole

pub block_arm : (prelude : Bool) (x : Stmt) (ls these : List Local) (body slice : List Stmt) (l : Bor (List Local)) (s : Bor Sight) (r t : Bool) → x ≡ Block ls body → these ≡ ls → l.now ≡ ls → slice ≡ body
    → r ≡ true → r ≡ block_known (known_in prelude s.now) these → t ≡ stmts_known (known_in prelude (view.Locals l s)) slice → t ≡ stmt_known x (known_in prelude s.now)
block_arm prelude x ls these body slice l s r t is those held same on head inside =
    let known = known_in prelude s.now in
    let whole : stmt_known x known ≡ (block_known known ls && stmts_known (and_locals known ls) body) = ap (λ y. stmt_known y known) is ∙ ap (λ (f : Known → Bool). f known) (block_here stmt_step ls body) in
    with_head (block_known known ls) (stmts_known (and_locals known ls) body) r t on (ap (block_known known) (sym those) ∙ sym head)
    (inside ∙ ap (λ k. stmts_known k slice) (known_locals prelude l s ∙ ap (and_locals known) held) ∙ ap (stmts_known (and_locals known ls)) same) ∙ sym whole
