-- Numbers of remainders past their limit, one after another.
use Rattle.std.proofs.Common.{◌≡◌, ℕ, List, [], ◌∷◌, ◌++◌, map, fold, flat_map, None, sym, ap, ◌∙◌, append_assoc}
use Rattle.std.proofs.lemmas.List.{append-nil}
use Rattle.affc_grammar.specs.Draft as d
use Rattle.affc_grammar.specs.Limits.{cond_past, conds_past, divisors_past, divisors_past_in}
use Rattle.affc_syntax.specs.declared.draft.draft.CondDraft as code_c
use Rattle.affc_syntax.specs.declared.draft.draft.CondDraft.TheVariants as k
use Rattle.affc_syntax.specs.declared.draft.draft.StmtDraft as code
use Rattle.affc_syntax.specs.declared.draft.draft.StmtDraft.TheVariants as s
use Rattle.affc_syntax.specs.declared.draft.draft.HeadDraft.{HeadDraft}
use Rattle.affc_syntax.specs.declared.draft.draft.LocalDraft.{LocalDraft}
use Rattle.affc_syntax.proofs.draft.Outs.{cond-All, cond-Any, stmt-For, stmt-If, stmt-Block}
use Rattle.affc_syntax.specs.draft.Drafts.{cond, conds_of, conds_after, stmt, stmts_of, stmts_after}
use Rattle.affc_limits.specs.Places.{least, lesser, with_places}
use Rattle.affc_limits.proofs.PlaceLaws.{least-append, places_all}

conds_past_after : (limit : ℕ) (cs : d.CondsDraft) (xs : List d.CondDraft) → conds_past limit (conds_after cs xs) ≡ conds_past limit cs ++ flat_map (cond_past limit) xs
conds_past_after limit cs [] = sym (append-nil (conds_past limit cs))
conds_past_after limit cs (x ∷ xs) = conds_past_after limit (d.and_cond cs x) xs ∙ append_assoc (conds_past limit cs) (cond_past limit x) (flat_map (cond_past limit) xs)

pub all_conds : (limit : ℕ) (xs : List d.CondDraft) → fold (with_places (cond_past limit)) None xs ≡ least (conds_past limit (conds_of xs))
all_conds limit xs = places_all (cond_past limit) None xs ∙ ap least (sym (conds_past_after limit d.no_conds xs))

stmts_past_after : (limit : ℕ) (ss : d.StmtsDraft) (xs : List d.StmtDraft) → divisors_past limit (stmts_after ss xs) ≡ divisors_past limit ss ++ flat_map (divisors_past_in limit) xs
stmts_past_after limit ss [] = sym (append-nil (divisors_past limit ss))
stmts_past_after limit ss (x ∷ xs) = stmts_past_after limit (d.and_stmt ss x) xs ∙ append_assoc (divisors_past limit ss) (divisors_past_in limit x) (flat_map (divisors_past_in limit) xs)

pub all_stmts : (limit : ℕ) (xs : List d.StmtDraft) → fold (with_places (divisors_past_in limit)) None xs ≡ least (divisors_past limit (stmts_of xs))
all_stmts limit xs = places_all (divisors_past_in limit) None xs ∙ ap least (sym (stmts_past_after limit d.no_stmts xs))

-- ---- In the code

pub of_all : (limit : ℕ) (x : code_c.CondDraft) (cs : List code_c.CondDraft) → x ≡ k.All cs → least (conds_past limit (conds_of (map cond cs))) ≡ least (cond_past limit (cond x))
of_all limit x cs is = ap (λ y. least (cond_past limit y)) (sym (cond-All cs)) ∙ ap (λ y. least (cond_past limit (cond y))) (sym is)

pub of_any : (limit : ℕ) (x : code_c.CondDraft) (cs : List code_c.CondDraft) → x ≡ k.Any cs → least (conds_past limit (conds_of (map cond cs))) ≡ least (cond_past limit (cond x))
of_any limit x cs is = ap (λ y. least (cond_past limit y)) (sym (cond-Any cs)) ∙ ap (λ y. least (cond_past limit (cond y))) (sym is)

pub of_for : (limit : ℕ) (x : code.StmtDraft) (h : HeadDraft) (body : List code.StmtDraft) → x ≡ s.For h body → least (divisors_past limit (stmts_of (map stmt body))) ≡ least (divisors_past_in limit (stmt x))
of_for limit x h body is = ap (λ y. least (divisors_past_in limit y)) (sym (stmt-For h body)) ∙ ap (λ y. least (divisors_past_in limit (stmt y))) (sym is)

pub of_block : (limit : ℕ) (x : code.StmtDraft) (locals : List LocalDraft) (body : List code.StmtDraft) → x ≡ s.Block locals body → least (divisors_past limit (stmts_of (map stmt body))) ≡ least (divisors_past_in limit (stmt x))
of_block limit x locals body is = ap (λ y. least (divisors_past_in limit y)) (sym (stmt-Block locals body)) ∙ ap (λ y. least (divisors_past_in limit (stmt y))) (sym is)

pub of_if : (limit : ℕ) (x : code.StmtDraft) (at : ℕ) (c : code_c.CondDraft) (body other : List code.StmtDraft) → x ≡ s.If at c body other
    → lesser (lesser (least (cond_past limit (cond c))) (least (divisors_past limit (stmts_of (map stmt body))))) (least (divisors_past limit (stmts_of (map stmt other)))) ≡ least (divisors_past_in limit (stmt x))
of_if limit x at c body other is =
    let first = cond_past limit (cond c) in
    let inside = divisors_past limit (stmts_of (map stmt body)) in
    let behind = divisors_past limit (stmts_of (map stmt other)) in
    ap (λ o. lesser o (least behind)) (sym (least-append first inside))
    ∙ sym (least-append (first ++ inside) behind)
    ∙ ap (λ y. least (divisors_past_in limit y)) (sym (stmt-If at c body other))
    ∙ ap (λ y. least (divisors_past_in limit (stmt y))) (sym is)
