-- Locals and statements that are read are printed as ones that are read so, and whose tokens a text can have.
use Rattle.std.proofs.Common.{◌≡◌, ◌⊎◌, inl, inr, ℕ, ◌+◌, Bool, true, false, List, [], ◌∷◌, ◌++◌, map, length, codes, Option, None, Ok, refl, sym, ap, subst, ◌∙◌, append_assoc}
use Rattle.std.proofs.lemmas.List.{append-nil}
use Rattle.affc_lex.specs.Pieces.{is_word}
use Rattle.affc_ast.specs.declared.tree.ArrayId.{ArrayId}
use Rattle.affc_ast.specs.declared.tree.Ix.{Ix}
use Rattle.affc_ast.specs.declared.tree.Cond.{Cond}
use Rattle.affc_ast.specs.declared.tree.Local.{Local}
use Rattle.affc_ast.specs.declared.tree.Op.{Op}
use Rattle.affc_ast.specs.declared.tree.Rel.{Rel}
use Rattle.affc_ast.specs.declared.tree.Stmt.{Stmt}
use Rattle.affc_ast.specs.declared.tree.Stmt.TheVariants.{For, If, Assign, Block}
use Rattle.affc_ast.specs.declared.tree.Val.{Val}
use Rattle.affc_ast.specs.Recursion.{by_ix}
use Rattle.affc_grammar.specs.Grammar.{Name, word, mark, bound_mark, assign_mark, then_up, LocalsText, no_locals, and_local, StmtsText, no_stmts, and_stmt, StmtText, simple, block, SimpleText, for_loop, if_then, if_else, assign, BodyText, braces, bare, ix_symbols, dims_symbols, cond_symbols, value_symbols, step_symbols, locals_symbols, stmts_symbols, stmt_symbols, simple_symbols, body_symbols}
use Rattle.affc_grammar.specs.Draft.{LocalDraft, ix_draft, dims_draft, cond_draft, value_draft, locals_draft, head_draft, head_length, bound_rel, stmts_draft, stmt_draft, simple_draft, body_draft}
use Rattle.affc_grammar.specs.Names.{Scope, each, why_declared, why_repeated, with_number, array_named, ix_tree, cond_tree, value_tree, locals_tree, head_tree, stmts_tree, stmt_tree}
use Rattle.affc_grammar.specs.Printed.{Names, array_name, and_number, ix_step, ix_text, dims_text, cond_text, value_text, is_less, locals_text, stmts_text, stmt_step, stmt_text}
use Rattle.affc_cprint.specs.Statements.{with_locals}
use Rattle.affc_cprint.proofs.Spelled.{AllHave, AllStand, have_parts, stand_both, IsName, symbol_of_name}
use Rattle.affc_cprint.proofs.Sees.{ok_of, both_ok, then_is, allowed_ok, allowed_is, same_self, declared_none, not_static, Sees, sees_number, array_back}
use Rattle.affc_cprint.proofs.Arms.{for_here, if_here, block_here}
use Rattle.affc_cprint.proofs.ReadBack.{Back, word_of_symbol, ix_back}
use Rattle.affc_cprint.proofs.ReadBackValues.{Each, each_append, each_length, ReadsValue, dims_back, dims_again, DimsBack, value_back}
use Rattle.affc_cprint.proofs.ReadBackConditions.{IsCondBack, cond_back}

-- what is printed for the expression reads as it
abbrev pub IxBack : (prelude : Bool) → Scope → Names → Ix → Type 0
IxBack prelude scope names e = Back {prelude = prelude} scope (by_ix (ix_step prelude names) e) e

-- a name that is declared can be printed
pub declared_name : (scope : Scope) (it : Bool) (w : Name) → why_declared scope it w ≡ None → is_word w ≡ true → IsName w
declared_name scope it w e is = record { is = is; other = not_static scope it w (declared_none scope it w e).1 }

-- ---- Locals

abbrev pub scope_after : Scope → List Local → Scope
scope_after scope [] = scope
scope_after scope (l ∷ ls) = scope_after (with_number false scope l.name) ls

pub sees_after : (scope : Scope) (names : Names) (xs : List Local) → Sees scope names → Sees (scope_after scope xs) (with_locals names xs)
sees_after scope names [] sees = sees
sees_after scope names (l ∷ ls) sees = sees_after (with_number false scope l.name) (and_number names l.name) ls (sees_number false scope names l.name sees)

abbrev pub LocalsBack : (prelude : Bool) → Scope → Names → List Local → Type 0
LocalsBack prelude scope names [] = Unit {0}
LocalsBack prelude scope names (l ∷ ls) = (why_declared scope false l.name ≡ None) × IsName l.name × IxBack prelude scope names l.value × LocalsBack prelude (with_number false scope l.name) (and_number names l.name) ls

pub record SplitLocals (scope : Scope) (ls : List LocalDraft) (l : LocalDraft) (r : List Local × Scope) : Type 0 where
  pub front : List Local
  pub mid : Scope
  pub front_ok : locals_tree scope ls ≡ Ok (front, mid)
  pub value : Ix
  pub declared : why_declared mid false l.name ≡ None
  pub value_ok : ix_tree mid l.value ≡ Ok value
  pub all : r ≡ (front ++ record { name = l.name; value = value } ∷ [], with_number false mid l.name)

pub locals_split : (scope : Scope) (ls : List LocalDraft) (l : LocalDraft) (r : List Local × Scope) → locals_tree scope (ls ++ l ∷ []) ≡ Ok r → SplitLocals scope ls l r
locals_split scope [] l r e =
    let a = allowed_ok (why_declared scope false l.name) l.at _ r e in
    let p = both_ok (ix_tree scope l.value) _ r a.1 in
    record { front = []; mid = scope; front_ok = refl; value = p.0; declared = a.0; value_ok = p.1; all = sym (ok_of p.2) }
locals_split scope (k ∷ ls) l r e =
    let a = allowed_ok (why_declared scope false k.name) k.at _ r e in
    let p = both_ok (ix_tree scope k.value) _ r a.1 in
    let q = both_ok (locals_tree (with_number false scope k.name) (ls ++ l ∷ [])) _ r p.2 in
    let s = locals_split (with_number false scope k.name) ls l q.0 q.1 in
    record {
      front = record { name = k.name; value = p.0 } ∷ s.front;
      mid = s.mid;
      front_ok = allowed_is (why_declared scope false k.name) k.at _ _ a.0 (then_is (ix_tree scope k.value) _ p.0 _ p.1 (then_is (locals_tree (with_number false scope k.name) ls) _ (s.front, s.mid) _ s.front_ok refl));
      value = s.value;
      declared = s.declared;
      value_ok = s.value_ok;
      all = sym (ok_of q.2) ∙ ap (λ t. (record { name = k.name; value = p.0 } ∷ t.0, t.1)) s.all;
    }

locals_join : (scope : Scope) (ls : List LocalDraft) (l : LocalDraft) (front : List Local) (mid : Scope) (value : Ix) → locals_tree scope ls ≡ Ok (front, mid) → why_declared mid false l.name ≡ None → ix_tree mid l.value ≡ Ok value
    → locals_tree scope (ls ++ l ∷ []) ≡ Ok (front ++ record { name = l.name; value = value } ∷ [], with_number false mid l.name)
locals_join scope [] l front mid value e declared value_ok =
    let same : ◌≡◌ {A = List Local × Scope} ([], scope) (front, mid) = ok_of e in
    let at : scope ≡ mid = ap (λ t. t.1) same in
    let none : [] ≡ front = ap (λ t. t.0) same in
    allowed_is (why_declared scope false l.name) l.at _ _ (ap (λ s. why_declared s false l.name) at ∙ declared)
    (then_is (ix_tree scope l.value) _ value _ (ap (λ s. ix_tree s l.value) at ∙ value_ok)
    (ap (λ s. Ok (record { name = l.name; value = value } ∷ [], with_number false s l.name)) at ∙ ap (λ f. Ok (f ++ record { name = l.name; value = value } ∷ [], with_number false mid l.name)) none))
locals_join scope (k ∷ ls) l front mid value e declared value_ok =
    let a = allowed_ok (why_declared scope false k.name) k.at _ (front, mid) e in
    let p = both_ok (ix_tree scope k.value) _ (front, mid) a.1 in
    let q = both_ok (locals_tree (with_number false scope k.name) ls) _ (front, mid) p.2 in
    let same : ◌≡◌ {A = List Local × Scope} (record { name = k.name; value = p.0 } ∷ q.0.0, q.0.1) (front, mid) = ok_of q.2 in
    let at : q.0.1 ≡ mid = ap (λ t. t.1) same in
    let rest = locals_join (with_number false scope k.name) ls l q.0.0 q.0.1 value q.1 (ap (λ s. why_declared s false l.name) at ∙ declared) (ap (λ s. ix_tree s l.value) at ∙ value_ok) in
    allowed_is (why_declared scope false k.name) k.at _ _ a.0
    (then_is (ix_tree scope k.value) _ p.0 _ p.1
    (then_is (locals_tree (with_number false scope k.name) (ls ++ l ∷ [])) _ (q.0.0 ++ record { name = l.name; value = value } ∷ [], with_number false q.0.1 l.name) _ rest
    (ap (λ t. Ok (t.0 ++ record { name = l.name; value = value } ∷ [], with_number false t.1 l.name)) same)))

pub after_snoc : (scope : Scope) (xs : List Local) (x : Local) → scope_after scope (xs ++ x ∷ []) ≡ with_number false (scope_after scope xs) x.name
after_snoc scope [] x = refl
after_snoc scope (l ∷ ls) x = after_snoc (with_number false scope l.name) ls x

back_snoc : (prelude : Bool) (scope : Scope) (names : Names) (xs : List Local) (x : Local) → LocalsBack prelude scope names xs → why_declared (scope_after scope xs) false x.name ≡ None → IsName x.name
    → IxBack prelude (scope_after scope xs) (with_locals names xs) x.value → LocalsBack prelude scope names (xs ++ x ∷ [])
back_snoc prelude scope names [] x b declared name value = (declared, name, value, tt)
back_snoc prelude scope names (l ∷ ls) x b declared name value =
    (b.0, b.1, b.2, back_snoc prelude (with_number false scope l.name) (and_number names l.name) ls x b.3 declared name value)

record LocalsRead (prelude : Bool) (scope : Scope) (names : Names) (r : List Local × Scope) : Type 0 where
  back : LocalsBack prelude scope names r.0
  after : r.1 ≡ scope_after scope r.0
  allowed_here : (r.0 ≡ []) ⊎ (prelude ≡ true)

locals_back : {prelude : Bool} (c : LocalsText prelude) → AllHave (locals_symbols c) → (scope : Scope) (names : Names) → Sees scope names → (at : ℕ) (r : List Local × Scope) → locals_tree scope (locals_draft at c) ≡ Ok r → LocalsRead prelude scope names r
locals_back no_locals have scope names sees at r e = subst (LocalsRead _ scope names) (ok_of e) (record { back = tt; after = refl; allowed_here = inl refl })
locals_back {prelude = prelude} (and_local on ls w a) have scope names sees at r e =
    let h = have_parts (locals_symbols ls) (word (codes "const") ∷ word (codes "int64_t") ∷ word w ∷ mark (codes "=") ∷ (ix_symbols a ++ mark (codes ";") ∷ [])) have in
    let n = word_of_symbol w (mark (codes "=") ∷ (ix_symbols a ++ mark (codes ";") ∷ [])) h.1 in
    let g = have_parts (ix_symbols a) (mark (codes ";") ∷ []) n.1 in
    let next = at + length (locals_symbols ls) in
    let l : LocalDraft = record { at = next + 2; name = w; value = ix_draft (next + 4) a } in
    let s = locals_split scope (locals_draft at ls) l r e in
    let before = locals_back ls h.0 scope names sees at (s.front, s.mid) s.front_ok in
    let declared : why_declared (scope_after scope s.front) false w ≡ None = ap (λ x. why_declared x false w) (sym before.after) ∙ s.declared in
    let value : ix_tree (scope_after scope s.front) (ix_draft (next + 4) a) ≡ Ok s.value = ap (λ x. ix_tree x (ix_draft (next + 4) a)) (sym before.after) ∙ s.value_ok in
    subst (LocalsRead prelude scope names) (sym s.all) (record {
      back = back_snoc prelude scope names s.front (record { name = w; value = s.value }) before.back declared (declared_name (scope_after scope s.front) false w declared n.0)
          (ix_back prelude (scope_after scope s.front) (with_locals names s.front) (sees_after scope names s.front sees) a g.0 (next + 4) s.value value);
      after = ap (λ x. with_number false x w) before.after ∙ sym (after_snoc scope s.front (record { name = w; value = s.value }));
      allowed_here = inr on;
    })

-- what is printed for locals
record LocalsPrinted {prelude : Bool} (c : LocalsText prelude) (scope : Scope) (ys : List Local) (after : Scope) : Type 0 where
  reads : (at : ℕ) → locals_tree scope (locals_draft at c) ≡ Ok (ys, after)
  stands : AllStand (locals_symbols c)

locals_from : (first scope : Scope) (names : Names) (c : LocalsText true) (ys xs : List Local) → LocalsPrinted c first ys scope → LocalsBack true scope names xs
    → LocalsPrinted (locals_text true names c xs).0 first (ys ++ xs) (scope_after scope xs)
locals_from first scope names c ys [] p b = record { reads = λ at. p.reads at ∙ ap (λ l. Ok (l, scope)) (sym (append-nil ys)); stands = p.stands }
locals_from first scope names c ys (l ∷ xs) p b =
    let text = ix_text true names l.value in
    let more : LocalsPrinted (and_local refl c l.name text) first (ys ++ l ∷ []) (with_number false scope l.name) = record {
      reads = λ at.
          let next = at + length (locals_symbols c) in
          locals_join first (locals_draft at c) (record { at = next + 2; name = l.name; value = ix_draft (next + 4) text }) ys scope l.value (p.reads at) b.0 (b.2.whole (next + 4));
      stands = stand_both (locals_symbols c) (word (codes "const") ∷ word (codes "int64_t") ∷ word l.name ∷ mark (codes "=") ∷ (ix_symbols text ++ mark (codes ";") ∷ [])) p.stands
          (symbol_of_name l.name (mark (codes "=") ∷ (ix_symbols text ++ mark (codes ";") ∷ [])) b.1 (stand_both (ix_symbols text) (mark (codes ";") ∷ []) b.2.whole_stands refl));
    } in
    subst (λ zs. LocalsPrinted (locals_text true (and_number names l.name) (and_local refl c l.name text) xs).0 first zs (scope_after (with_number false scope l.name) xs)) (append_assoc ys (l ∷ []) xs)
    (locals_from first (with_number false scope l.name) (and_number names l.name) (and_local refl c l.name text) (ys ++ l ∷ []) xs more b.3)

locals_again : (prelude : Bool) (scope : Scope) (names : Names) (xs : List Local) → LocalsBack prelude scope names xs → (xs ≡ []) ⊎ (prelude ≡ true) → LocalsPrinted {prelude = prelude} (locals_text prelude names no_locals xs).0 scope xs (scope_after scope xs)
locals_again true scope names xs b on = locals_from scope scope names no_locals [] xs (record { reads = λ at. refl; stands = refl }) b
locals_again false scope names [] b on = record { reads = λ at. refl; stands = refl }
locals_again false scope names (x ∷ xs) b (inl e) = absurd (cc)
locals_again false scope names (x ∷ xs) b (inr e) = absurd (cc)

names_after : (prelude : Bool) (names : Names) (c : LocalsText prelude) (xs : List Local) → (locals_text prelude names c xs).1 ≡ with_locals names xs
names_after prelude names c [] = refl
names_after true names c (l ∷ xs) = names_after true (and_number names l.name) _ xs
names_after false names c (l ∷ xs) = names_after false (and_number names l.name) _ xs

-- ---- Statements

-- what is printed for a statement, and for several
pub record StmtPrinted {prelude : Bool} (t : StmtText prelude) (scope : Scope) (s : Stmt) : Type 0 where
  pub reads : (at : ℕ) → stmt_tree scope (stmt_draft at t) ≡ Ok s
  pub stands : AllStand (stmt_symbols t)

pub record StmtsPrinted {prelude : Bool} (t : StmtsText prelude) (scope : Scope) (xs : List Stmt) : Type 0 where
  pub reads : (at : ℕ) → stmts_tree scope (stmts_draft at t) ≡ Ok xs
  pub stands : AllStand (stmts_symbols t)

abbrev pub StmtBack : (prelude : Bool) → Scope → Names → Stmt → Type 0
StmtBack prelude scope names s = StmtPrinted (stmt_text prelude s names) scope s

stmts_from : {prelude : Bool} (scope : Scope) (names : Names) (t : StmtsText prelude) (ys xs : List Stmt) → StmtsPrinted t scope ys → Each (StmtBack prelude scope names) xs
    → StmtsPrinted (stmts_text names t (map (stmt_text prelude) xs)) scope (ys ++ xs)
stmts_from scope names t ys [] p b = record { reads = λ at. p.reads at ∙ ap (λ l. Ok l) (sym (append-nil ys)); stands = p.stands }
stmts_from {prelude = prelude} scope names t ys (x ∷ xs) p b =
    let text = stmt_text prelude x names in
    let more : StmtsPrinted (and_stmt t text) scope (ys ++ x ∷ []) = record {
      reads = λ at. then_is (stmts_tree scope (stmts_draft at t)) _ ys _ (p.reads at) (then_is (stmt_tree scope (stmt_draft (at + length (stmts_symbols t)) text)) _ x _ (b.0.reads _) refl);
      stands = stand_both (stmts_symbols t) (stmt_symbols text) p.stands b.0.stands;
    } in
    subst (StmtsPrinted (stmts_text names (and_stmt t text) (map (stmt_text prelude) xs)) scope) (append_assoc ys (x ∷ []) xs) (stmts_from scope names (and_stmt t text) (ys ++ x ∷ []) xs more b.1)

pub stmts_again : {prelude : Bool} (scope : Scope) (names : Names) (xs : List Stmt) → Each (StmtBack prelude scope names) xs → StmtsPrinted (stmts_text names no_stmts (map (stmt_text prelude) xs)) scope xs
stmts_again scope names xs b = stmts_from scope names no_stmts [] xs (record { reads = λ at. refl; stands = refl }) b

rel_again : (rel : Rel) (strict : Bool) → rel ≡ bound_rel strict → bound_rel (is_less rel) ≡ rel
rel_again rel true e = ap (λ r. bound_rel (is_less r)) e ∙ sym e
rel_again rel false e = ap (λ r. bound_rel (is_less r)) e ∙ sym e

pub for_again : (prelude : Bool) (scope : Scope) (names : Names) (iter : Name) (low : Ix) (rel : Rel) (high : Ix) (body : List Stmt) (strict : Bool) → why_declared scope true iter ≡ None → IsName iter
    → IxBack prelude scope names low → IxBack prelude scope names high → rel ≡ bound_rel strict → Each (StmtBack prelude (with_number true scope iter) (and_number names iter)) body
    → StmtBack prelude scope names (For iter low rel high body)
for_again prelude scope names iter low rel high body strict declared name bl bh is_rel bs =
    let lt = ix_text prelude names low in
    let ht = ix_text prelude names high in
    let bt = stmts_text (and_number names iter) no_stmts (map (stmt_text prelude) body) in
    let b = stmts_again (with_number true scope iter) (and_number names iter) body bs in
    let repeated : why_repeated scope iter iter ≡ None = rw (same_self iter) refl in
    subst (λ (g : Names → StmtText prelude). StmtPrinted (g names) scope (For iter low rel high body)) (sym (for_here (stmt_step prelude) iter low rel high body)) (record {
      reads = λ at.
          let h = head_draft at iter lt iter (is_less rel) ht (then_up iter) in
          then_is (head_tree scope h) _ (low, high) _
          (allowed_is (why_declared scope true iter) h.iterator.at _ _ declared (then_is (ix_tree scope h.low) _ low _ (bl.whole _)
          (allowed_is (why_repeated scope iter iter) h.tested.at _ _ repeated (then_is (ix_tree scope h.high) _ high _ (bh.whole _) (allowed_is (why_repeated scope iter iter) h.stepped.at _ _ repeated refl)))))
          (then_is (stmts_tree (with_number true scope iter) (stmts_draft (at + head_length lt ht (then_up iter) + 1) bt)) _ body _ (b.reads _) (ap (λ r. Ok (For iter low r high body)) (rel_again rel strict is_rel)));
      stands = symbol_of_name iter (mark (codes "=") ∷ (ix_symbols lt ++ mark (codes ";") ∷ word iter ∷ mark (bound_mark (is_less rel)) ∷ (ix_symbols ht ++ mark (codes ";") ∷ (step_symbols (then_up iter) ++ mark (codes ")") ∷ body_symbols (braces bt))))) name
          (stand_both (ix_symbols lt) (mark (codes ";") ∷ word iter ∷ mark (bound_mark (is_less rel)) ∷ (ix_symbols ht ++ mark (codes ";") ∷ (step_symbols (then_up iter) ++ mark (codes ")") ∷ body_symbols (braces bt)))) bl.whole_stands
          (symbol_of_name iter (mark (bound_mark (is_less rel)) ∷ (ix_symbols ht ++ mark (codes ";") ∷ (step_symbols (then_up iter) ++ mark (codes ")") ∷ body_symbols (braces bt)))) name
          (stand_both (ix_symbols ht) (mark (codes ";") ∷ (step_symbols (then_up iter) ++ mark (codes ")") ∷ body_symbols (braces bt))) bh.whole_stands
          (symbol_of_name iter (mark (codes "++") ∷ mark (codes ")") ∷ body_symbols (braces bt)) name (stand_both (stmts_symbols bt) (mark (codes "}") ∷ []) b.stands refl)))));
    })

pub if_again : (prelude : Bool) (scope : Scope) (names : Names) (x : Cond) (body other : List Stmt) → IsCondBack prelude scope names x → Each (StmtBack prelude scope names) body → Each (StmtBack prelude scope names) other
    → StmtBack prelude scope names (If x body other)
if_again prelude scope names x body [] c bs os =
    let ct = cond_text prelude names x in
    let bt = stmts_text names no_stmts (map (stmt_text prelude) body) in
    let b = stmts_again scope names body bs in
    subst (λ (g : Names → StmtText prelude). StmtPrinted (g names) scope (If x body [])) (sym (if_here (stmt_step prelude) x body [])) (record {
      reads = λ at. then_is (cond_tree scope (cond_draft (at + 2) ct)) _ x _ (c.whole _) (then_is (stmts_tree scope (stmts_draft (at + 2 + length (cond_symbols ct) + 1 + 1) bt)) _ body _ (b.reads _) refl);
      stands = stand_both (cond_symbols ct) (mark (codes ")") ∷ body_symbols (braces bt)) c.whole_stands (stand_both (stmts_symbols bt) (mark (codes "}") ∷ []) b.stands refl);
    })
if_again prelude scope names x body (y ∷ ys) c bs os =
    let ct = cond_text prelude names x in
    let bt = stmts_text names no_stmts (map (stmt_text prelude) body) in
    let ot = stmts_text names no_stmts (map (stmt_text prelude) (y ∷ ys)) in
    let b = stmts_again scope names body bs in
    let o = stmts_again scope names (y ∷ ys) os in
    subst (λ (g : Names → StmtText prelude). StmtPrinted (g names) scope (If x body (y ∷ ys))) (sym (if_here (stmt_step prelude) x body (y ∷ ys))) (record {
      reads = λ at.
          let body_at = at + 2 + length (cond_symbols ct) + 1 in
          then_is (cond_tree scope (cond_draft (at + 2) ct)) _ x _ (c.whole _) (then_is (stmts_tree scope (stmts_draft (body_at + 1) bt)) _ body _ (b.reads _)
          (then_is (stmts_tree scope (stmts_draft (body_at + length (body_symbols (braces bt)) + 1 + 1) ot)) _ (y ∷ ys) _ (o.reads _) refl));
      stands = stand_both (cond_symbols ct) (mark (codes ")") ∷ (body_symbols (braces bt) ++ word (codes "else") ∷ body_symbols (braces ot))) c.whole_stands
          (stand_both (stmts_symbols bt ++ mark (codes "}") ∷ []) (word (codes "else") ∷ body_symbols (braces ot)) (stand_both (stmts_symbols bt) (mark (codes "}") ∷ []) b.stands refl)
          (stand_both (stmts_symbols ot) (mark (codes "}") ∷ []) o.stands refl));
    })

pub block_again : (prelude : Bool) (scope : Scope) (names : Names) (ls : List Local) (body : List Stmt) → LocalsBack prelude scope names ls → (ls ≡ []) ⊎ (prelude ≡ true)
    → Each (StmtBack prelude (scope_after scope ls) (with_locals names ls)) body → StmtBack prelude scope names (Block ls body)
block_again prelude scope names ls body lb on bs =
    let r = locals_text prelude names no_locals ls in
    let l = locals_again prelude scope names ls lb on in
    let bt = stmts_text r.1 no_stmts (map (stmt_text prelude) body) in
    let same : r.1 ≡ with_locals names ls = names_after prelude names no_locals ls in
    let b : StmtsPrinted bt (scope_after scope ls) body = subst (λ n. StmtsPrinted (stmts_text n no_stmts (map (stmt_text prelude) body)) (scope_after scope ls) body) (sym same) (stmts_again (scope_after scope ls) (with_locals names ls) body bs) in
    subst (λ (g : Names → StmtText prelude). StmtPrinted (g names) scope (Block ls body)) (sym (block_here (stmt_step prelude) ls body)) (record {
      reads = λ at. then_is (locals_tree scope (locals_draft (at + 1) r.0)) _ (ls, scope_after scope ls) _ (l.reads _) (then_is (stmts_tree (scope_after scope ls) (stmts_draft (at + 1 + length (locals_symbols r.0)) bt)) _ body _ (b.reads _) refl);
      stands = stand_both (locals_symbols r.0) (stmts_symbols bt ++ mark (codes "}") ∷ []) l.stands (stand_both (stmts_symbols bt) (mark (codes "}") ∷ []) b.stands refl);
    })

pub assign_again : (prelude : Bool) (scope : Scope) (names : Names) (sees : Sees scope names) (op : Option Op) (id : ArrayId) (subs : List Ix) (v : Val) (w : Name) (count : ℕ) → array_name names id ≡ w → IsName w → ((at : ℕ) → array_named scope at w true count ≡ Ok id) → count ≡ length subs
    → DimsBack prelude scope names sees (dims_text prelude names subs) subs → ReadsValue scope (value_text prelude names v) v → StmtBack prelude scope names (Assign op id subs v)
assign_again prelude scope names sees op id subs v w count is name found counted d r =
    let dt = dims_text prelude names subs in
    let vt = value_text prelude names v in
    record {
      reads = λ at.
          let n : length (dims_draft (at + 1) dt) ≡ count = each_length (ix_tree scope) (dims_draft (at + 1) dt) subs (d.reads (at + 1)) ∙ sym counted in
          then_is (array_named scope at (array_name names id) true (length (dims_draft (at + 1) dt))) _ id _ (ap (λ x. array_named scope at x true (length (dims_draft (at + 1) dt))) is ∙ ap (array_named scope at w true) n ∙ found at)
          (then_is (each (ix_tree scope) (dims_draft (at + 1) dt)) _ subs _ (d.reads (at + 1)) (then_is (value_tree scope (value_draft (at + 1 + length (dims_symbols dt) + 1) vt)) _ v _ (r.reads _) refl));
      stands = symbol_of_name (array_name names id) (dims_symbols dt ++ mark (assign_mark op) ∷ (value_symbols vt ++ mark (codes ";") ∷ [])) (subst IsName (sym is) name)
          (stand_both (dims_symbols dt) (mark (assign_mark op) ∷ (value_symbols vt ++ mark (codes ";") ∷ [])) d.stands (stand_both (value_symbols vt) (mark (codes ";") ∷ []) r.stands refl));
    }

mutual
  pub stmts_back : {prelude : Bool} (c : StmtsText prelude) → AllHave (stmts_symbols c) → (scope : Scope) (names : Names) → Sees scope names → (at : ℕ) (xs : List Stmt) → stmts_tree scope (stmts_draft at c) ≡ Ok xs → Each (StmtBack prelude scope names) xs
  stmts_back {prelude = prelude} no_stmts have scope names sees at xs e = subst (Each (StmtBack prelude scope names)) (ok_of e) tt
  stmts_back {prelude = prelude} (and_stmt ss s) have scope names sees at xs e =
      let h = have_parts (stmts_symbols ss) (stmt_symbols s) have in
      let p = both_ok (stmts_tree scope (stmts_draft at ss)) _ xs e in
      let q = both_ok (stmt_tree scope (stmt_draft (at + length (stmts_symbols ss)) s)) _ xs p.2 in
      subst (Each (StmtBack prelude scope names)) (ok_of q.2)
      (each_append (StmtBack prelude scope names) p.0 (q.0 ∷ []) (stmts_back ss h.0 scope names sees at p.0 p.1) (stmt_back s h.1 scope names sees (at + length (stmts_symbols ss)) q.0 q.1, tt))

  stmt_back : {prelude : Bool} (c : StmtText prelude) → AllHave (stmt_symbols c) → (scope : Scope) (names : Names) → Sees scope names → (at : ℕ) (x : Stmt) → stmt_tree scope (stmt_draft at c) ≡ Ok x → StmtBack prelude scope names x
  stmt_back (simple s) have scope names sees at x e = simple_back s have scope names sees at x e
  stmt_back {prelude = prelude} (block ls ss) have scope names sees at x e =
      let h = have_parts (locals_symbols ls) (stmts_symbols ss ++ mark (codes "}") ∷ []) have in
      let g = have_parts (stmts_symbols ss) (mark (codes "}") ∷ []) h.1 in
      let p = both_ok (locals_tree scope (locals_draft (at + 1) ls)) _ x e in
      let q = both_ok (stmts_tree p.0.1 (stmts_draft (at + 1 + length (locals_symbols ls)) ss)) _ x p.2 in
      let l = locals_back ls h.0 scope names sees (at + 1) p.0 p.1 in
      let body : stmts_tree (scope_after scope p.0.0) (stmts_draft (at + 1 + length (locals_symbols ls)) ss) ≡ Ok q.0 = ap (λ s. stmts_tree s (stmts_draft (at + 1 + length (locals_symbols ls)) ss)) (sym l.after) ∙ q.1 in
      subst (StmtBack prelude scope names) (ok_of q.2) (block_again prelude scope names p.0.0 q.0 l.back l.allowed_here
      (stmts_back ss g.0 (scope_after scope p.0.0) (with_locals names p.0.0) (sees_after scope names p.0.0 sees) (at + 1 + length (locals_symbols ls)) q.0 body))

  simple_back : {prelude dangles : Bool} (c : SimpleText prelude dangles) → AllHave (simple_symbols c) → (scope : Scope) (names : Names) → Sees scope names → (at : ℕ) (x : Stmt) → stmt_tree scope (simple_draft at c) ≡ Ok x → StmtBack prelude scope names x
  simple_back {prelude = prelude} (for_loop iterator low tested strict high step body) have scope names sees at x e =
      let n = word_of_symbol iterator (mark (codes "=") ∷ (ix_symbols low ++ mark (codes ";") ∷ word tested ∷ mark (bound_mark strict) ∷ (ix_symbols high ++ mark (codes ";") ∷ (step_symbols step ++ mark (codes ")") ∷ body_symbols body)))) have in
      let hl = have_parts (ix_symbols low) (mark (codes ";") ∷ word tested ∷ mark (bound_mark strict) ∷ (ix_symbols high ++ mark (codes ";") ∷ (step_symbols step ++ mark (codes ")") ∷ body_symbols body))) n.1 in
      let m = word_of_symbol tested (mark (bound_mark strict) ∷ (ix_symbols high ++ mark (codes ";") ∷ (step_symbols step ++ mark (codes ")") ∷ body_symbols body))) hl.1 in
      let hh = have_parts (ix_symbols high) (mark (codes ";") ∷ (step_symbols step ++ mark (codes ")") ∷ body_symbols body)) m.1 in
      let hs = have_parts (step_symbols step) (mark (codes ")") ∷ body_symbols body) hh.1 in
      let h = head_draft at iterator low tested strict high step in
      let p = both_ok (head_tree scope h) _ x e in
      let q = both_ok (stmts_tree (with_number true scope iterator) (body_draft (at + head_length low high step) body)) _ x p.2 in
      let a = allowed_ok (why_declared scope true iterator) h.iterator.at _ p.0 p.1 in
      let l = both_ok (ix_tree scope h.low) _ p.0 a.1 in
      let b = allowed_ok (why_repeated scope iterator h.tested.name) h.tested.at _ p.0 l.2 in
      let u = both_ok (ix_tree scope h.high) _ p.0 b.1 in
      let c = allowed_ok (why_repeated scope iterator h.stepped.name) h.stepped.at _ p.0 u.2 in
      let bounds : ◌≡◌ {A = Ix × Ix} (l.0, u.0) p.0 = ok_of c.1 in
      subst (StmtBack prelude scope names) (ap (λ t. For iterator t.0 (bound_rel strict) t.1 q.0) bounds ∙ ok_of q.2)
      (for_again prelude scope names iterator l.0 (bound_rel strict) u.0 q.0 strict a.0 (declared_name scope true iterator a.0 n.0)
      (ix_back prelude scope names sees low hl.0 _ l.0 l.1) (ix_back prelude scope names sees high hh.0 _ u.0 u.1) refl
      (body_back body hs.1 (with_number true scope iterator) (and_number names iterator) (sees_number true scope names iterator sees) (at + head_length low high step) q.0 q.1))
  simple_back {prelude = prelude} (if_then c body) have scope names sees at x e =
      let h = have_parts (cond_symbols c) (mark (codes ")") ∷ body_symbols body) have in
      let body_at = at + 2 + length (cond_symbols c) + 1 in
      let p = both_ok (cond_tree scope (cond_draft (at + 2) c)) _ x e in
      let q = both_ok (stmts_tree scope (body_draft body_at body)) _ x p.2 in
      subst (StmtBack prelude scope names) (ok_of q.2) (if_again prelude scope names p.0 q.0 [] (cond_back prelude scope names sees c h.0 (at + 2) p.0 p.1) (body_back body h.1 scope names sees body_at q.0 q.1) tt)
  simple_back {prelude = prelude} (if_else c body other) have scope names sees at x e =
      let h = have_parts (cond_symbols c) (mark (codes ")") ∷ (body_symbols body ++ word (codes "else") ∷ body_symbols other)) have in
      let g = have_parts (body_symbols body) (word (codes "else") ∷ body_symbols other) h.1 in
      let body_at = at + 2 + length (cond_symbols c) + 1 in
      let other_at = body_at + length (body_symbols body) + 1 in
      let p = both_ok (cond_tree scope (cond_draft (at + 2) c)) _ x e in
      let q = both_ok (stmts_tree scope (body_draft body_at body)) _ x p.2 in
      let r = both_ok (stmts_tree scope (body_draft other_at other)) _ x q.2 in
      subst (StmtBack prelude scope names) (ok_of r.2)
      (if_again prelude scope names p.0 q.0 r.0 (cond_back prelude scope names sees c h.0 (at + 2) p.0 p.1) (body_back body g.0 scope names sees body_at q.0 q.1) (body_back other g.1 scope names sees other_at r.0 r.1))
  simple_back {prelude = prelude} (assign w subs op v) have scope names sees at x e =
      let n = word_of_symbol w (dims_symbols subs ++ mark (assign_mark op) ∷ (value_symbols v ++ mark (codes ";") ∷ [])) have in
      let h = have_parts (dims_symbols subs) (mark (assign_mark op) ∷ (value_symbols v ++ mark (codes ";") ∷ [])) n.1 in
      let g = have_parts (value_symbols v) (mark (codes ";") ∷ []) h.1 in
      let p = both_ok (array_named scope at w true (length (dims_draft (at + 1) subs))) _ x e in
      let q = both_ok (each (ix_tree scope) (dims_draft (at + 1) subs)) _ x p.2 in
      let r = both_ok (value_tree scope (value_draft (at + 1 + length (dims_symbols subs) + 1) v)) _ x q.2 in
      let b = array_back scope names sees at w true (length (dims_draft (at + 1) subs)) p.0 p.1 in
      subst (StmtBack prelude scope names) (ok_of r.2) (assign_again prelude scope names sees op p.0 q.0 r.0 w (length (dims_draft (at + 1) subs)) b.same_name (record { is = n.0; other = b.other }) b.again (each_length (ix_tree scope) (dims_draft (at + 1) subs) q.0 q.1)
      (dims_again prelude scope names sees q.0 (dims_back prelude scope names sees subs h.0 (at + 1) q.0 q.1))
      (value_back prelude scope names sees v g.0 (at + 1 + length (dims_symbols subs) + 1) r.0 r.1).level_6)

  body_back : {prelude dangles : Bool} (c : BodyText prelude dangles) → AllHave (body_symbols c) → (scope : Scope) (names : Names) → Sees scope names → (at : ℕ) (xs : List Stmt) → stmts_tree scope (body_draft at c) ≡ Ok xs → Each (StmtBack prelude scope names) xs
  body_back (braces ss) have scope names sees at xs e = stmts_back ss (have_parts (stmts_symbols ss) (mark (codes "}") ∷ []) have).0 scope names sees (at + 1) xs e
  body_back {prelude = prelude} (bare s) have scope names sees at xs e =
      let q = both_ok (stmt_tree scope (simple_draft at s)) _ xs e in
      subst (Each (StmtBack prelude scope names)) (ok_of q.2) (simple_back s have scope names sees at q.0 q.1, tt)
