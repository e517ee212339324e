-- What is found in several expressions, one after another.
use Rattle.std.proofs.Common.{◌≡◌, ℕ, ◌≤◌, List, [], ◌∷◌, ◌++◌, length, map, drop, fold, flat_map, Option, Some, None, refl, sym, ap, ◌∙◌, append_assoc}
use Rattle.std.proofs.lemmas.List.{drop_all, append-nil}
use Rattle.affc_ast.specs.declared.tree.Op.{Op}
use Rattle.affc_grammar.specs.Draft as d
use Rattle.affc_grammar.specs.Limits.{cond_texts, conds_texts, stmt_texts, stmts_texts, value_texts}
use Rattle.affc_syntax.specs.declared.draft.draft.StmtDraft as code
use Rattle.affc_syntax.specs.declared.draft.draft.StmtDraft.TheVariants as s
use Rattle.affc_syntax.specs.declared.draft.draft.HeadDraft.{HeadDraft}
use Rattle.affc_syntax.specs.declared.draft.draft.CondDraft.{CondDraft}
use Rattle.affc_syntax.specs.declared.draft.draft.CondDraft.TheVariants as k
use Rattle.affc_syntax.specs.declared.draft.draft.LocalDraft.{LocalDraft}
use Rattle.affc_syntax.specs.declared.draft.draft.WordDraft.{WordDraft}
use Rattle.affc_syntax.specs.declared.draft.draft.IxDraft.{IxDraft}
use Rattle.affc_syntax.specs.declared.draft.draft.ValueDraft.{ValueDraft}
use Rattle.affc_syntax.proofs.draft.Outs.{cond-All, cond-Any, stmt-For, stmt-If, stmt-Block}
use Rattle.affc_syntax.specs.draft.Drafts.{conds_of, conds_after, cond, stmts_of, stmts_after, stmt, ix, local, value}
use Rattle.affc_limits.specs.declared.texts.Rule.{Rule}
use Rattle.affc_limits.specs.declared.texts.Rule.TheVariants.{Products, Literals, Coefficients}
use Rattle.affc_limits.specs.Texts.{places_in, place_by, pick, found, with_found, step}
use Rattle.affc_limits.proofs.PlaceLaws.{first-both, least-both, first_assoc, lesser_assoc, lesser-again}

pub found-append : (rule : Rule) (xs ys : List d.IxDraft) → found rule (xs ++ ys) ≡ pick rule (found rule xs) (found rule ys)
found-append Products xs ys = first-both _ xs ys
found-append (Literals limit) xs ys = least-both _ xs ys
found-append (Coefficients alloc) xs ys = least-both _ xs ys

pub found-nil : (rule : Rule) → found rule [] ≡ None
found-nil Products = refl
found-nil (Literals limit) = refl
found-nil (Coefficients alloc) = refl

pub found-one : (rule : Rule) (x : d.IxDraft) → found rule (x ∷ []) ≡ place_by rule (places_in rule x)
found-one rule x = ap (place_by rule) (append-nil (places_in rule x))

pick_assoc : (rule : Rule) (a b c : Option ℕ) → pick rule a (pick rule b c) ≡ pick rule (pick rule a b) c
pick_assoc Products a b c = first_assoc a b c
pick_assoc (Literals limit) a b c = lesser_assoc a b c
pick_assoc (Coefficients alloc) a b c = lesser_assoc a b c

pub pick-none : (rule : Rule) (a : Option ℕ) → pick rule a None ≡ a
pick-none Products None = refl
pick-none Products (Some n) = refl
pick-none (Literals limit) None = refl
pick-none (Literals limit) (Some n) = refl
pick-none (Coefficients alloc) None = refl
pick-none (Coefficients alloc) (Some n) = refl

-- what was found before the first part was found before the second too
pick-again : (rule : Rule) (a b c : Option ℕ) → pick rule (pick rule a b) (pick rule a c) ≡ pick rule (pick rule a b) c
pick-again Products None b c = refl
pick-again Products (Some n) b c = refl
pick-again (Literals limit) a b c = lesser-again a b c
pick-again (Coefficients alloc) a b c = lesser-again a b c

pub with-nil : (rule : Rule) (a : Option ℕ) → with_found rule a [] ≡ a
with-nil rule a = ap (pick rule a) (found-nil rule) ∙ pick-none rule a

pub with-append : (rule : Rule) (a : Option ℕ) (xs ys : List d.IxDraft) → with_found rule a (xs ++ ys) ≡ with_found rule (with_found rule a xs) ys
with-append rule a xs ys = ap (pick rule a) (found-append rule xs ys) ∙ pick_assoc rule a (found rule xs) (found rule ys)

-- the two parts, and what was found behind them
pub with-behind : (rule : Rule) (a k : Option ℕ) (xs ys : List d.IxDraft)
    → pick rule (with_found rule a xs) (pick rule (with_found rule a ys) k) ≡ pick rule (with_found rule a (xs ++ ys)) k
with-behind rule a k xs ys =
    pick_assoc rule (with_found rule a xs) (with_found rule a ys) k
    ∙ ap (λ o. pick rule o k) (pick-again rule a (found rule xs) (found rule ys) ∙ sym (with-append rule a xs ys))

pub with-none : (rule : Rule) (xs : List d.IxDraft) → with_found rule None xs ≡ found rule xs
with-none Products xs = refl
with-none (Literals limit) xs = refl
with-none (Coefficients alloc) xs = refl

pub with-one : (rule : Rule) (a : Option ℕ) (x : d.IxDraft) → with_found rule a (x ∷ []) ≡ pick rule a (place_by rule (places_in rule x))
with-one rule a x = ap (pick rule a) (found-one rule x)

pub with-pair : (rule : Rule) (a : Option ℕ) (x y : d.IxDraft) → with_found rule a (x ∷ y ∷ []) ≡ with_found rule (with_found rule a (x ∷ [])) (y ∷ [])
with-pair rule a x y = with-append rule a (x ∷ []) (y ∷ [])

-- the expressions of things, one after another
pub with-all : {B : Type 0} (rule : Rule) (texts : B → List d.IxDraft) (a : Option ℕ) (bs : List B) → fold (step rule texts) a bs ≡ with_found rule a (flat_map texts bs)
with-all rule texts a [] = sym (with-nil rule a)
with-all rule texts a (b ∷ bs) = with-all rule texts (with_found rule a (texts b)) bs ∙ sym (with-append rule a (texts b) (flat_map texts bs))

-- behind the code's loop
pub gathered : {B C : Type 0} (rule : Rule) (texts : B → List d.IxDraft) (seen : C → B) (xs : List C) (i : ℕ) (start at : Option ℕ) → length xs ≤ i
    → fold (step rule texts) at (map seen (drop i xs)) ≡ fold (step rule texts) start (map seen xs) → at ≡ with_found rule start (flat_map texts (map seen xs))
gathered rule texts seen xs i start at le kept =
    ap (λ l. fold (step rule texts) at (map seen l)) (sym (drop_all i xs le))
    ∙ kept
    ∙ with-all rule texts start (map seen xs)

-- each thing holds one expression
pub singles : {B : Type 0} (text : B → d.IxDraft) (bs : List B) → flat_map (λ b. text b ∷ []) bs ≡ map text bs
singles text [] = refl
singles text (b ∷ bs) = ap (λ l. text b ∷ l) (singles text bs)

pub whole_list : (es : List d.IxDraft) → flat_map (λ e. e ∷ []) es ≡ es
whole_list [] = refl
whole_list (e ∷ es) = ap (λ l. e ∷ l) (whole_list es)

texts_after : (ss : d.StmtsDraft) (xs : List d.StmtDraft) → stmts_texts (stmts_after ss xs) ≡ stmts_texts ss ++ flat_map stmt_texts xs
texts_after ss [] = sym (append-nil (stmts_texts ss))
texts_after ss (x ∷ xs) = texts_after (d.and_stmt ss x) xs ∙ append_assoc (stmts_texts ss) (stmt_texts x) (flat_map stmt_texts xs)

pub texts_of : (xs : List d.StmtDraft) → stmts_texts (stmts_of xs) ≡ flat_map stmt_texts xs
texts_of xs = texts_after d.no_stmts xs

-- ---- Conditions

conds_texts_after : (cs : d.CondsDraft) (xs : List d.CondDraft) → conds_texts (conds_after cs xs) ≡ conds_texts cs ++ flat_map cond_texts xs
conds_texts_after cs [] = sym (append-nil (conds_texts cs))
conds_texts_after cs (x ∷ xs) = conds_texts_after (d.and_cond cs x) xs ∙ append_assoc (conds_texts cs) (cond_texts x) (flat_map cond_texts xs)

pub conds_texts_of : (xs : List d.CondDraft) → conds_texts (conds_of xs) ≡ flat_map cond_texts xs
conds_texts_of xs = conds_texts_after d.no_conds xs

pub of_all : (rule : Rule) (a : Option ℕ) (x : CondDraft) (cs : List CondDraft) → x ≡ k.All cs → with_found rule a (conds_texts (conds_of (map cond cs))) ≡ with_found rule a (cond_texts (cond x))
of_all rule a x cs is = ap (λ y. with_found rule a (cond_texts y)) (sym (cond-All cs)) ∙ ap (λ y. with_found rule a (cond_texts (cond y))) (sym is)

pub of_any : (rule : Rule) (a : Option ℕ) (x : CondDraft) (cs : List CondDraft) → x ≡ k.Any cs → with_found rule a (conds_texts (conds_of (map cond cs))) ≡ with_found rule a (cond_texts (cond x))
of_any rule a x cs is = ap (λ y. with_found rule a (cond_texts y)) (sym (cond-Any cs)) ∙ ap (λ y. with_found rule a (cond_texts (cond y))) (sym is)

-- ---- Statements

pub of_for : (rule : Rule) (a : Option ℕ) (x : code.StmtDraft) (h : HeadDraft) (body : List code.StmtDraft) → x ≡ s.For h body
    → with_found rule (with_found rule a (ix h.low ∷ ix h.high ∷ [])) (stmts_texts (stmts_of (map stmt body))) ≡ with_found rule a (stmt_texts (stmt x))
of_for rule a x h body is =
    sym (with-append rule a (ix h.low ∷ ix h.high ∷ []) (stmts_texts (stmts_of (map stmt body))))
    ∙ ap (λ y. with_found rule a (stmt_texts y)) (sym (stmt-For h body))
    ∙ ap (λ y. with_found rule a (stmt_texts (stmt y))) (sym is)

pub of_if : (rule : Rule) (a : Option ℕ) (x : code.StmtDraft) (at : ℕ) (c : CondDraft) (body other : List code.StmtDraft) → x ≡ s.If at c body other
    → with_found rule (with_found rule (with_found rule a (cond_texts (cond c))) (stmts_texts (stmts_of (map stmt body)))) (stmts_texts (stmts_of (map stmt other))) ≡ with_found rule a (stmt_texts (stmt x))
of_if rule a x at c body other is =
    let tests = cond_texts (cond c) in
    let inside = stmts_texts (stmts_of (map stmt body)) in
    let behind = stmts_texts (stmts_of (map stmt other)) in
    ap (λ o. with_found rule o behind) (sym (with-append rule a tests inside))
    ∙ sym (with-append rule a (tests ++ inside) behind)
    ∙ ap (λ y. with_found rule a (stmt_texts y)) (sym (stmt-If at c body other))
    ∙ ap (λ y. with_found rule a (stmt_texts (stmt y))) (sym is)

pub of_block : (rule : Rule) (a : Option ℕ) (x : code.StmtDraft) (locals : List LocalDraft) (body : List code.StmtDraft) → x ≡ s.Block locals body
    → with_found rule (with_found rule a (map (λ l. l.value) (map local locals))) (stmts_texts (stmts_of (map stmt body))) ≡ with_found rule a (stmt_texts (stmt x))
of_block rule a x locals body is =
    sym (with-append rule a (map (λ l. l.value) (map local locals)) (stmts_texts (stmts_of (map stmt body))))
    ∙ ap (λ y. with_found rule a (stmt_texts y)) (sym (stmt-Block locals body))
    ∙ ap (λ y. with_found rule a (stmt_texts (stmt y))) (sym is)

pub of_assign : (rule : Rule) (a : Option ℕ) (x : code.StmtDraft) (w : WordDraft) (subs : List IxDraft) (op : Option Op) (v : ValueDraft) → x ≡ s.Assign w subs op v
    → with_found rule (with_found rule a (map ix subs)) (value_texts (value v)) ≡ with_found rule a (stmt_texts (stmt x))
of_assign rule a x w subs op v is =
    sym (with-append rule a (map ix subs) (value_texts (value v)))
    ∙ ap (λ y. with_found rule a (stmt_texts (stmt y))) (sym is)

-- the four parts of a text
pub whole_text : (rule : Rule) (lines params temps body : List d.IxDraft) → with_found rule (with_found rule (with_found rule (with_found rule None lines) params) temps) body ≡ found rule (lines ++ params ++ temps ++ body)
whole_text rule lines params temps body =
    sym (
    sym (with-none rule (lines ++ params ++ temps ++ body))
    ∙ with-append rule None (lines ++ params ++ temps) body
    ∙ ap (λ o. with_found rule o body) (with-append rule None (lines ++ params) temps ∙ ap (λ o. with_found rule o temps) (with-append rule None lines params))
    )

pub ruleset one_laws = (with-one)

pub ruleset pair_laws = (with-pair)

pub ruleset value_laws = (with-nil, with-behind, pick-none)
