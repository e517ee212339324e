-- What a text of the grammar reads as is known: locals, statements and programs.
use Rattle.std.proofs.Common.{◌≡◌, ℕ, suc, ◌+◌, ◌^◌, ◌&&◌, ◌||◌, Bool, true, false, not, List, [], ◌∷◌, ◌++◌, length, codes, None, Ok, ℤ, pos, negsuc, IsTrue, refl, sym, ap, subst, ◌∙◌, arith, append_assoc, length-append, slice_get}
use Rattle.std.proofs.lemmas.Bool.{and_parts, and_from, false≢true, lt-ltb}
use Rattle.std.proofs.lemmas.List.{append-nil}
use Rattle.affc_lex.specs.Pieces.{is_word}
use Rattle.affc_ast.specs.Names.{is_reserved}
use Rattle.affc_ast.specs.declared.tree.Role.TheVariants.{Temp}
use Rattle.affc_ast.specs.declared.tree.Compare.{Compare}
use Rattle.affc_ast.specs.Joined.{is_ordered}
use Rattle.affc_ast.specs.declared.tree.Decl.{Decl}
use Rattle.affc_ast.specs.declared.tree.Ix.{Ix}
use Rattle.affc_ast.specs.declared.tree.Local.{Local}
use Rattle.affc_ast.specs.declared.tree.Param.{Param}
use Rattle.affc_ast.specs.declared.tree.Param.TheVariants.{Number, Array}
use Rattle.affc_ast.specs.declared.tree.Program.{Program}
use Rattle.affc_ast.specs.declared.tree.Stmt.{Stmt}
use Rattle.affc_ast.specs.declared.tree.Stmt.TheVariants as stmt
use Rattle.affc_grammar.specs.declared.fault.NameWhy.TheVariants.{Reserved}
use Rattle.affc_grammar.specs.Grammar.{Name, word, mark, bound_mark, assign_mark, IxText, DimsText, LocalsText, no_locals, and_local, StmtsText, no_stmts, and_stmt, StmtText, simple, block, SimpleText, for_loop, if_then, if_else, assign, BodyText, braces, bare, ParamText, number_param, array_param, Text, ix_symbols, dims_symbols, dim_symbols, cond_symbols, value_symbols, step_symbols, locals_symbols, stmts_symbols, stmt_symbols, simple_symbols, body_symbols, const_symbols, param_symbols, params_symbols, decls_symbols, include_symbols, pragmas_symbols, prelude_symbols, function_symbols, text_symbols, context_calls}
use Rattle.affc_grammar.specs.Draft as draft
use Rattle.affc_grammar.specs.Draft.{LocalDraft, DeclDraft, ParamDraft, PragmaDraft, word_draft, ix_draft, dims_draft, cond_draft, value_draft, locals_draft, head_draft, head_length, bound_rel, stmts_draft, stmt_draft, simple_draft, body_draft, param_draft, temp_draft, array_role, pragmas_draft, text_draft}
use Rattle.affc_grammar.specs.Names.{Scope, each, thing_of, first_reason, why_declared, why_repeated, why_ranged, with_number, with_array, array_named, ix_tree, compare_tree, cond_tree, value_tree, locals_tree, head_tree, stmts_tree, stmt_tree, decl_tree, range_of, param_tree, params_tree, temps_tree, with_param, with_params, outermost, pragmas_tree, function_why, program_tree}
use Rattle.affc_grammar.specs.Printed.{Names, no_names, and_number, and_array_name}
use Rattle.affc_cprint.specs.Programs.{with_param_names, with_array_names}
use Rattle.affc_cprint.specs.Statements.{with_locals}
use Rattle.affc_cprint.specs.Forms.{is_none}
use Rattle.affc_wellnamed.specs.Known as spec
use Rattle.affc_wellnamed.specs.Known.{Known, and_iterator, and_locals, is_new, is_divisor, ix_known, ixs_known, compare_known, compares_known, cond_known, takes, value_known, is_bound, local_known, locals_known, for_known, assign_known, block_known, stmt_known, stmts_known, known_behind, is_temp, extents_known, array_param_known, is_int, param_known, params_known, temp_known, temps_known, is_function, context_known, body_known, program_known}
use Rattle.affc_ast.proofs.Steps.{neg_here, add_here, sub_here, mul_here, min_here, max_here, mod_here, floord_here, ceild_here, for_here, if_here, block_here}
use Rattle.affc_cprint.proofs.Spelled.{AllHave, have_parts}
use Rattle.affc_cprint.proofs.Sees.{ok_of, both_ok, allowed_ok}
use Rattle.affc_cprint.proofs.ReadBack.{word_of_symbol}
use Rattle.affc_cprint.proofs.ReadBackValues.{Each, each_length}
use Rattle.affc_cprint.proofs.ReadBackStatements.{scope_after, locals_split, after_snoc}
use Rattle.affc_cprint.proofs.ReadBackParams.{FitsInt, RangesFit, scope_params, FromParam, params_from_text, some_range, params_nonempty}
use Rattle.affc_cprint.proofs.ReadBackTexts.{FromLine, FromTemp, decls_from_text, lines_from_text, ranges_fit, scope_temps, outside_of, inside_of, names_of}
use Rattle.affc_cprint.proofs.Calls.{calls_step, calls_in, calls_beside, any_calls, quiet_lines, quiet_context}
use Rattle.affc_wellnamed.proofs.Knows.{Knows, new_from, knows_number}
use Rattle.affc_wellnamed.proofs.Induction.{IxCases, every_ix}
use Rattle.affc_wellnamed.proofs.KnownBack.{any_end, knows_none}
use Rattle.affc_wellnamed.proofs.KnownPrograms.{knows_outside, knows_param_number, knows_param_array, knows_temp}
use Rattle.affc_wellnamed.proofs.KnownFrom.{ix_from, dims_from, compares_both, tests_from, cond_from, value_from, array_seen}

-- ---- Locals

known_end : (known : Known) (before xs : List Local) (l : Local) → locals_known known before xs ≡ true → local_known (and_locals known (before ++ xs)) l ≡ true → locals_known known before (xs ++ l ∷ []) ≡ true
known_end known before [] l p q = and_from (local_known (and_locals known before) l) true (ap (λ b. local_known (and_locals known b) l) (sym (append-nil before)) ∙ q) refl
known_end known before (x ∷ xs) l p q =
    let r = and_parts (local_known (and_locals known before) x) (locals_known known (before ++ x ∷ []) xs) p in
    and_from (local_known (and_locals known before) x) (locals_known known (before ++ x ∷ []) (xs ++ l ∷ [])) r.0
    (known_end known (before ++ x ∷ []) xs l r.1 (ap (λ b. local_known (and_locals known b) l) (append_assoc before (x ∷ []) xs) ∙ q))

names_end : (names : Names) (xs : List Local) (l : Local) → with_locals names (xs ++ l ∷ []) ≡ and_number (with_locals names xs) l.name
names_end names [] l = refl
names_end names (x ∷ xs) l = names_end (and_number names x.name) xs l

record LocalsFrom (known : Known) (scope : Scope) (names : Names) (r : List Local × Scope) : Type 0 where
  are_known : locals_known known [] r.0 ≡ true
  after : r.1 ≡ scope_after scope r.0
  behind : Knows (and_locals known r.0) (scope_after scope r.0) (with_locals names r.0)
  same_prelude : (scope_after scope r.0).has_prelude ≡ known.prelude
  allowed_here : (known.prelude || is_none r.0) ≡ true

or_true : (b : Bool) → (b || true) ≡ true
or_true true = refl
or_true false = refl

locals_from : {prelude : Bool} (c : LocalsText prelude) → AllHave (locals_symbols c) → (known : Known) (scope : Scope) (names : Names) → Knows known scope names → known.prelude ≡ prelude → scope.has_prelude ≡ prelude → (at : ℕ) (r : List Local × Scope)
    → locals_tree scope (locals_draft at c) ≡ Ok r → LocalsFrom known scope names r
locals_from no_locals have known scope names k p q at r e =
    subst (LocalsFrom known scope names) (ok_of e) (record { are_known = refl; after = refl; behind = knows_none known scope names k; same_prelude = q ∙ sym p; allowed_here = or_true known.prelude })
locals_from {prelude = prelude} (and_local on ls w a) have known scope names k p q at r e =
    let h = have_parts (locals_symbols ls) (word (codes "const") ∷ word (codes "int64_t") ∷ word w ∷ mark (codes "=") ∷ (ix_symbols a ++ mark (codes ";") ∷ [])) have in
    let n = word_of_symbol w (mark (codes "=") ∷ (ix_symbols a ++ mark (codes ";") ∷ [])) h.1 in
    let g = have_parts (ix_symbols a) (mark (codes ";") ∷ []) n.1 in
    let next = at + length (locals_symbols ls) in
    let l : LocalDraft = record { at = next + 2; name = w; value = ix_draft (next + 4) a } in
    let s = locals_split scope (locals_draft at ls) l r e in
    let before = locals_from ls h.0 known scope names k p q at (s.front, s.mid) s.front_ok in
    let inner = and_locals known s.front in
    let there = scope_after scope s.front in
    let seen = with_locals names s.front in
    let declared : why_declared there false w ≡ None = ap (λ x. why_declared x false w) (sym before.after) ∙ s.declared in
    let value : ix_tree there (ix_draft (next + 4) a) ≡ Ok s.value = ap (λ x. ix_tree x (ix_draft (next + 4) a)) (sym before.after) ∙ s.value_ok in
    let x : Local = record { name = w; value = s.value } in
    let long = length-append s.front (x ∷ []) in
    let after : s.mid ≡ there = before.after in
    let new : is_new inner false w ≡ true = new_from inner there seen before.behind before.same_prelude false w n.0 declared in
    let one : local_known inner x ≡ true = and_from (is_new inner false w) (ix_known inner s.value) new (ix_from prelude inner there seen before.behind (λ z. p ∙ z) a g.0 (next + 4) s.value value) in
    let more : Knows (and_locals known (s.front ++ x ∷ [])) (with_number false there w) (and_number seen w) = knows_number inner (and_locals known (s.front ++ x ∷ [])) there seen before.behind w false n.0 declared (λ v. any_end s.front x v (known.is_taken v)) (omega (arith, long)) refl in
    subst (LocalsFrom known scope names) (sym s.all) (record {
      are_known = known_end known [] s.front x before.are_known one;
      after = ap (λ z. with_number false z w) after ∙ sym (after_snoc scope s.front x);
      behind = subst (λ z. Knows (and_locals known (s.front ++ x ∷ [])) z (with_locals names (s.front ++ x ∷ []))) (sym (after_snoc scope s.front x)) (subst (λ z. Knows (and_locals known (s.front ++ x ∷ [])) (with_number false there w) z) (sym (names_end names s.front x)) more);
      same_prelude = ap (λ (z : Scope). z.has_prelude) (after_snoc scope s.front x) ∙ before.same_prelude;
      allowed_here = ap (λ b. b || is_none (s.front ++ x ∷ [])) (p ∙ on);
    })

-- ---- Statements

stmts_both : (known : Known) (xs ys : List Stmt) → stmts_known known xs ≡ true → stmts_known known ys ≡ true → stmts_known known (xs ++ ys) ≡ true
stmts_both known [] ys p q = q
stmts_both known (x ∷ xs) ys p q = let r = and_parts (stmt_known x known) (stmts_known known xs) p in and_from (stmt_known x known) (stmts_known known (xs ++ ys)) r.0 (stmts_both known xs ys r.1 q)

bound_known : (strict : Bool) → is_bound (bound_rel strict) ≡ true
bound_known true = refl
bound_known false = refl

mutual
  pub stmts_from : {prelude : Bool} (c : StmtsText prelude) → AllHave (stmts_symbols c) → (known : Known) (scope : Scope) (names : Names) → Knows known scope names → known.prelude ≡ prelude → scope.has_prelude ≡ prelude → (at : ℕ) (xs : List Stmt)
      → stmts_tree scope (stmts_draft at c) ≡ Ok xs → stmts_known known xs ≡ true
  stmts_from no_stmts have known scope names k p q at xs e = subst (λ l. stmts_known known l ≡ true) (ok_of e) refl
  stmts_from (and_stmt ss s) have known scope names k p q at xs e =
      let h = have_parts (stmts_symbols ss) (stmt_symbols s) have in
      let a = both_ok (stmts_tree scope (stmts_draft at ss)) _ xs e in
      let b = both_ok (stmt_tree scope (stmt_draft (at + length (stmts_symbols ss)) s)) _ xs a.2 in
      subst (λ l. stmts_known known l ≡ true) (ok_of b.2)
      (stmts_both known a.0 (b.0 ∷ []) (stmts_from ss h.0 known scope names k p q at a.0 a.1) (and_from (stmt_known b.0 known) true (stmt_from s h.1 known scope names k p q (at + length (stmts_symbols ss)) b.0 b.1) refl))

  stmt_from : {prelude : Bool} (c : StmtText prelude) → AllHave (stmt_symbols c) → (known : Known) (scope : Scope) (names : Names) → Knows known scope names → known.prelude ≡ prelude → scope.has_prelude ≡ prelude → (at : ℕ) (x : Stmt)
      → stmt_tree scope (stmt_draft at c) ≡ Ok x → stmt_known x known ≡ true
  stmt_from (simple s) have known scope names k p q at x e = simple_from s have known scope names k p q at x e
  stmt_from (block ls ss) have known scope names k p q at x e =
      let h = have_parts (locals_symbols ls) (stmts_symbols ss ++ mark (codes "}") ∷ []) have in
      let g = have_parts (stmts_symbols ss) (mark (codes "}") ∷ []) h.1 in
      let a = both_ok (locals_tree scope (locals_draft (at + 1) ls)) _ x e in
      let b = both_ok (stmts_tree a.0.1 (stmts_draft (at + 1 + length (locals_symbols ls)) ss)) _ x a.2 in
      let l = locals_from ls h.0 known scope names k p q (at + 1) a.0 a.1 in
      let body : stmts_tree (scope_after scope a.0.0) (stmts_draft (at + 1 + length (locals_symbols ls)) ss) ≡ Ok b.0 = ap (λ s. stmts_tree s (stmts_draft (at + 1 + length (locals_symbols ls)) ss)) (sym l.after) ∙ b.1 in
      subst (λ s. stmt_known s known ≡ true) (ok_of b.2)
      (ap (λ (f : Known → Bool). f known) (block_here spec.stmt_step a.0.0 b.0)
      ∙ and_from (block_known known a.0.0) (stmts_known (and_locals known a.0.0) b.0) (and_from (known.prelude || is_none a.0.0) (locals_known known [] a.0.0) l.allowed_here l.are_known)
      (stmts_from ss g.0 (and_locals known a.0.0) (scope_after scope a.0.0) (with_locals names a.0.0) l.behind p (l.same_prelude ∙ p) (at + 1 + length (locals_symbols ls)) b.0 body))

  simple_from : {prelude dangles : Bool} (c : SimpleText prelude dangles) → AllHave (simple_symbols c) → (known : Known) (scope : Scope) (names : Names) → Knows known scope names → known.prelude ≡ prelude → scope.has_prelude ≡ prelude → (at : ℕ) (x : Stmt)
      → stmt_tree scope (simple_draft at c) ≡ Ok x → stmt_known x known ≡ true
  simple_from {prelude = prelude} (for_loop iterator low tested strict high step body) have known scope names k p q at x e =
      let n = word_of_symbol iterator (mark (codes "=") ∷ (ix_symbols low ++ mark (codes ";") ∷ word tested ∷ mark (bound_mark strict) ∷ (ix_symbols high ++ mark (codes ";") ∷ (step_symbols step ++ mark (codes ")") ∷ body_symbols body)))) have in
      let hl = have_parts (ix_symbols low) (mark (codes ";") ∷ word tested ∷ mark (bound_mark strict) ∷ (ix_symbols high ++ mark (codes ";") ∷ (step_symbols step ++ mark (codes ")") ∷ body_symbols body))) n.1 in
      let m = word_of_symbol tested (mark (bound_mark strict) ∷ (ix_symbols high ++ mark (codes ";") ∷ (step_symbols step ++ mark (codes ")") ∷ body_symbols body))) hl.1 in
      let hh = have_parts (ix_symbols high) (mark (codes ";") ∷ (step_symbols step ++ mark (codes ")") ∷ body_symbols body)) m.1 in
      let hs = have_parts (step_symbols step) (mark (codes ")") ∷ body_symbols body) hh.1 in
      let h = head_draft at iterator low tested strict high step in
      let a = both_ok (head_tree scope h) _ x e in
      let b = both_ok (stmts_tree (with_number true scope iterator) (body_draft (at + head_length low high step) body)) _ x a.2 in
      let c = allowed_ok (why_declared scope true iterator) h.iterator.at _ a.0 a.1 in
      let l = both_ok (ix_tree scope h.low) _ a.0 c.1 in
      let d = allowed_ok (why_repeated scope iterator h.tested.name) h.tested.at _ a.0 l.2 in
      let u = both_ok (ix_tree scope h.high) _ a.0 d.1 in
      let f = allowed_ok (why_repeated scope iterator h.stepped.name) h.stepped.at _ a.0 u.2 in
      let bounds : ◌≡◌ {A = Ix × Ix} (l.0, u.0) a.0 = ok_of f.1 in
      let on : IsTrue prelude → known.prelude ≡ true = λ z. p ∙ z in
      let next = knows_number known (and_iterator known iterator) scope names k iterator true n.0 c.0 (λ v. refl) refl refl in
      subst (λ s. stmt_known s known ≡ true) (ap (λ t. stmt.For iterator t.0 (bound_rel strict) t.1 b.0) bounds ∙ ok_of b.2)
      (ap (λ (f : Known → Bool). f known) (for_here spec.stmt_step iterator l.0 (bound_rel strict) u.0 b.0)
      ∙ and_from (for_known known iterator l.0 (bound_rel strict) u.0) (stmts_known (and_iterator known iterator) b.0)
      (and_from (is_new known true iterator) (is_bound (bound_rel strict) && (ix_known known l.0 && ix_known known u.0)) (new_from known scope names k (q ∙ sym p) true iterator n.0 c.0)
      (and_from (is_bound (bound_rel strict)) (ix_known known l.0 && ix_known known u.0) (bound_known strict)
      (and_from (ix_known known l.0) (ix_known known u.0) (ix_from prelude known scope names k on low hl.0 _ l.0 l.1) (ix_from prelude known scope names k on high hh.0 _ u.0 u.1))))
      (body_from body hs.1 (and_iterator known iterator) (with_number true scope iterator) (and_number names iterator) next p q (at + head_length low high step) b.0 b.1))
  simple_from {prelude = prelude} (if_then c body) have known scope names k p q at x e =
      let h = have_parts (cond_symbols c) (mark (codes ")") ∷ body_symbols body) have in
      let body_at = at + 2 + length (cond_symbols c) + 1 in
      let a = both_ok (cond_tree scope (cond_draft (at + 2) c)) _ x e in
      let b = both_ok (stmts_tree scope (body_draft body_at body)) _ x a.2 in
      let d = cond_from prelude known scope names k (λ z. p ∙ z) c h.0 (at + 2) a.0 a.1 in
      subst (λ s. stmt_known s known ≡ true) (ok_of b.2)
      (ap (λ (f : Known → Bool). f known) (if_here spec.stmt_step a.0 b.0 [])
      ∙ and_from (cond_known known a.0) (stmts_known known b.0 && true) d (and_from (stmts_known known b.0) true (body_from body h.1 known scope names k p q body_at b.0 b.1) refl))
  simple_from {prelude = prelude} (if_else c body other) have known scope names k p q at x e =
      let h = have_parts (cond_symbols c) (mark (codes ")") ∷ (body_symbols body ++ word (codes "else") ∷ body_symbols other)) have in
      let g = have_parts (body_symbols body) (word (codes "else") ∷ body_symbols other) h.1 in
      let body_at = at + 2 + length (cond_symbols c) + 1 in
      let other_at = body_at + length (body_symbols body) + 1 in
      let a = both_ok (cond_tree scope (cond_draft (at + 2) c)) _ x e in
      let b = both_ok (stmts_tree scope (body_draft body_at body)) _ x a.2 in
      let r = both_ok (stmts_tree scope (body_draft other_at other)) _ x b.2 in
      let d = cond_from prelude known scope names k (λ z. p ∙ z) c h.0 (at + 2) a.0 a.1 in
      subst (λ s. stmt_known s known ≡ true) (ok_of r.2)
      (ap (λ (f : Known → Bool). f known) (if_here spec.stmt_step a.0 b.0 r.0)
      ∙ and_from (cond_known known a.0) (stmts_known known b.0 && stmts_known known r.0) d
      (and_from (stmts_known known b.0) (stmts_known known r.0) (body_from body g.0 known scope names k p q body_at b.0 b.1) (body_from other g.1 known scope names k p q other_at r.0 r.1)))
  simple_from {prelude = prelude} (assign w subs op v) have known scope names k p q at x e =
      let n = word_of_symbol w (dims_symbols subs ++ mark (assign_mark op) ∷ (value_symbols v ++ mark (codes ";") ∷ [])) have in
      let h = have_parts (dims_symbols subs) (mark (assign_mark op) ∷ (value_symbols v ++ mark (codes ";") ∷ [])) n.1 in
      let g = have_parts (value_symbols v) (mark (codes ";") ∷ []) h.1 in
      let a = both_ok (array_named scope at w true (length (dims_draft (at + 1) subs))) _ x e in
      let b = both_ok (each (ix_tree scope) (dims_draft (at + 1) subs)) _ x a.2 in
      let c = both_ok (value_tree scope (value_draft (at + 1 + length (dims_symbols subs) + 1) v)) _ x b.2 in
      let on : IsTrue prelude → known.prelude ≡ true = λ z. p ∙ z in
      let count : length (dims_draft (at + 1) subs) ≡ length b.0 = each_length (ix_tree scope) (dims_draft (at + 1) subs) b.0 b.1 in
      subst (λ s. stmt_known s known ≡ true) (ok_of c.2)
      (and_from (takes true (length b.0) (slice_get known.arrays a.0.0)) (ixs_known known b.0 && value_known known c.0)
      (ap (λ m. takes true m (slice_get known.arrays a.0.0)) (sym count) ∙ array_seen known scope names k at w true (length (dims_draft (at + 1) subs)) a.0 a.1)
      (and_from (ixs_known known b.0) (value_known known c.0) (dims_from prelude known scope names k on subs h.0 (at + 1) b.0 b.1) (value_from prelude known scope names k on v g.0 (at + 1 + length (dims_symbols subs) + 1) c.0 c.1)))

  body_from : {prelude dangles : Bool} (c : BodyText prelude dangles) → AllHave (body_symbols c) → (known : Known) (scope : Scope) (names : Names) → Knows known scope names → known.prelude ≡ prelude → scope.has_prelude ≡ prelude → (at : ℕ) (xs : List Stmt)
      → stmts_tree scope (body_draft at c) ≡ Ok xs → stmts_known known xs ≡ true
  body_from (braces ss) have known scope names k p q at xs e = stmts_from ss (have_parts (stmts_symbols ss) (mark (codes "}") ∷ []) have).0 known scope names k p q (at + 1) xs e
  body_from (bare s) have known scope names k p q at xs e =
      let b = both_ok (stmt_tree scope (simple_draft at s)) _ xs e in
      subst (λ l. stmts_known known l ≡ true) (ok_of b.2) (and_from (stmt_known b.0 known) true (simple_from s have known scope names k p q at b.0 b.1) refl)

-- ---- Parameters and temporaries

int_known : (z : ℤ) → FitsInt z → is_int z ≡ true
int_known (pos n) h = lt-ltb n (2 ^ 64) h
int_known (negsuc n) h = lt-ltb (suc n) (2 ^ 64) h

param_role : (is_const : Bool) → not (is_temp (array_role is_const)) ≡ true
param_role true = refl
param_role false = refl

record ParamsFrom (prelude : Bool) (f : Name) (before : List Param) (scope : Scope) (names : Names) (ds : List ParamDraft) (qs : List Param) : Type 0 where
  are_known : params_known prelude f before qs ≡ true
  after : with_params scope ds ≡ scope_params scope qs
  behind : Knows (known_behind prelude f (before ++ qs) []) (scope_params scope qs) (with_param_names names qs)
  same_prelude : (scope_params scope qs).has_prelude ≡ prelude

-- with one parameter more in front
number_more : (prelude : Bool) (f : Name) (before : List Param) (scope : Scope) (names : Names) (w : Name) (low high : ℤ) (at : ℕ) (ds : List ParamDraft) (qs : List Param) → param_known (known_behind prelude f before []) (Number w low high) ≡ true
    → ParamsFrom prelude f (before ++ Number w low high ∷ []) (with_number false scope w) (and_number names w) ds qs → ParamsFrom prelude f before scope names (draft.number_param (word_draft at w) ∷ ds) (Number w low high ∷ qs)
number_more prelude f before scope names w low high at ds qs h m = record {
  are_known = and_from (param_known (known_behind prelude f before []) (Number w low high)) (params_known prelude f (before ++ Number w low high ∷ []) qs) h m.are_known;
  after = m.after;
  behind = subst (λ l. Knows (known_behind prelude f l []) (scope_params scope (Number w low high ∷ qs)) (with_param_names names (Number w low high ∷ qs))) (append_assoc before (Number w low high ∷ []) qs) m.behind;
  same_prelude = m.same_prelude;
}

array_more : (prelude : Bool) (f : Name) (before : List Param) (scope : Scope) (names : Names) (q : DeclDraft) (d : Decl) (ds : List ParamDraft) (qs : List Param) → array_param_known (known_behind prelude f before []) d ≡ true
    → with_param scope (draft.array_param q) ≡ with_array scope d.name d.role (length d.extents)
    → ParamsFrom prelude f (before ++ Array d ∷ []) (with_array scope d.name d.role (length d.extents)) (and_array_name names d.name) ds qs → ParamsFrom prelude f before scope names (draft.array_param q ∷ ds) (Array d ∷ qs)
array_more prelude f before scope names q d ds qs h same m = record {
  are_known = and_from (array_param_known (known_behind prelude f before []) d) (params_known prelude f (before ++ Array d ∷ []) qs) h m.are_known;
  after = ap (λ s. with_params s ds) same ∙ m.after;
  behind = subst (λ l. Knows (known_behind prelude f l []) (scope_params scope (Array d ∷ qs)) (with_param_names names (Array d ∷ qs))) (append_assoc before (Array d ∷ []) qs) m.behind;
  same_prelude = m.same_prelude;
}

record ArrayFrom (known : Known) (scope : Scope) (d : Decl) (q : DeclDraft) : Type 0 where
  is_known : array_param_known known d ≡ true
  word : is_word d.name ≡ true
  declared : why_declared scope false d.name ≡ None
  same : with_param scope (draft.array_param q) ≡ with_array scope d.name d.role (length d.extents)

array_from : (prelude : Bool) (known : Known) (scope : Scope) (names : Names) → Knows known scope names → known.prelude ≡ prelude → scope.has_prelude ≡ prelude → (is_const : Bool) (w : Name) (first : IxText prelude) (others : DimsText prelude)
    → AllHave (word w ∷ (dim_symbols first ++ dims_symbols others)) → (name_at : ℕ) (d : Decl)
    → let q : DeclDraft = record { word = word_draft name_at w; role = array_role is_const; extents = ix_draft (name_at + 2) first ∷ dims_draft (name_at + 1 + length (dim_symbols first)) others } in
    decl_tree scope q ≡ Ok d → ArrayFrom known scope d q
array_from prelude known scope names k p on is_const w first others have name_at d e =
    let q : DeclDraft = record { word = word_draft name_at w; role = array_role is_const; extents = ix_draft (name_at + 2) first ∷ dims_draft (name_at + 1 + length (dim_symbols first)) others } in
    let n = word_of_symbol w (dim_symbols first ++ dims_symbols others) have in
    let h = have_parts (dim_symbols first) (dims_symbols others) n.1 in
    let g = have_parts (ix_symbols first) (mark (codes "]") ∷ []) h.0 in
    let a = allowed_ok (why_declared scope false w) name_at _ d e in
    let b = both_ok (each (ix_tree scope) q.extents) _ d a.1 in
    let x = both_ok (ix_tree scope (ix_draft (name_at + 2) first)) _ b.0 b.1 in
    let y = both_ok (each (ix_tree scope) (dims_draft (name_at + 1 + length (dim_symbols first)) others)) _ b.0 x.2 in
    let all : x.0 ∷ y.0 ≡ b.0 = ok_of y.2 in
    let calls : IsTrue prelude → known.prelude ≡ true = λ z. p ∙ z in
    let extents : ixs_known known (x.0 ∷ y.0) ≡ true = and_from (ix_known known x.0) (ixs_known known y.0) (ix_from prelude known scope names k calls first g.0 (name_at + 2) x.0 x.1) (dims_from prelude known scope names k calls others h.1 (name_at + 1 + length (dim_symbols first)) y.0 y.1) in
    let these : extents_known known b.0 ≡ true = subst (λ l. extents_known known l ≡ true) all (and_from true (ixs_known known (x.0 ∷ y.0)) refl extents) in
    subst (λ z. ArrayFrom known scope z q) (ok_of b.2) (record {
      is_known = and_from (is_new known false w) (not (is_temp (array_role is_const)) && extents_known known b.0) (new_from known scope names k (on ∙ sym p) false w n.0 a.0) (and_from (not (is_temp (array_role is_const))) (extents_known known b.0) (param_role is_const) these);
      word = n.0;
      declared = a.0;
      same = ap (with_array scope w (array_role is_const)) (each_length (ix_tree scope) q.extents b.0 b.1);
    })

params_from : {prelude : Bool} (f : Name) (before : List Param) (scope : Scope) (names : Names) → Knows (known_behind prelude f before []) scope names → scope.has_prelude ≡ prelude → (ps : List PragmaDraft) → RangesFit ps → (ds : List ParamDraft) (qs : List Param)
    → Each (FromParam prelude) ds → params_tree scope ps ds ≡ Ok qs → ParamsFrom prelude f before scope names ds qs
params_from {prelude = prelude} f before scope names k on ps fit [] qs from e =
    subst (ParamsFrom prelude f before scope names []) (ok_of e) (record { are_known = refl; after = refl; behind = subst (λ l. Knows (known_behind prelude f l []) scope names) (sym (append-nil before)) k; same_prelude = on })
params_from {prelude = prelude} f before scope names k on ps fit (d ∷ ds) qs from e =
    let p = both_ok (param_tree scope ps d) _ qs e in
    let q = both_ok (params_tree (with_param scope d) ps ds) _ qs p.2 in
    subst (ParamsFrom prelude f before scope names (d ∷ ds)) (ok_of q.2)
    (of from.0.text from.0.at from.0.have from.0.is p.1 (λ before' names' k' on'. params_from f before' (with_param scope d) names' k' on' ps fit ds q.0 from.1 q.1))
  where
    of : {x : Param} {xs : List Param} (text : ParamText prelude) (at : ℕ) → AllHave (param_symbols text) → param_draft at text ≡ d → param_tree scope ps d ≡ Ok x
        → ((before' : List Param) (names' : Names) → Knows (known_behind prelude f before' []) (with_param scope d) names' → (with_param scope d).has_prelude ≡ prelude → ParamsFrom prelude f before' (with_param scope d) names' ds xs) → ParamsFrom prelude f before scope names (d ∷ ds) (x ∷ xs)
    of {x = x} {xs = xs} (number_param w) at have is e more =
        let known = known_behind prelude f before [] in
        let n = word_of_symbol w [] have in
        let e' : param_tree scope ps (draft.number_param (word_draft (at + 1) w)) ≡ Ok x = ap (param_tree scope ps) is ∙ e in
        let a = allowed_ok (why_declared scope false w) (at + 1) _ x e' in
        let r = some_range (at + 1) w (range_of w ps) x a.1 in
        let g = fit w r.0 r.1 r.2 in
        let one : param_known known (Number w r.0 r.1) ≡ true = and_from (is_new known false w) (is_int r.0 && is_int r.1) (new_from known scope names k on false w n.0 a.0) (and_from (is_int r.0) (is_int r.1) (int_known r.0 g.0) (int_known r.1 g.1)) in
        let m = subst (λ z. (before' : List Param) (names' : Names) → Knows (known_behind prelude f before' []) (with_param scope z) names' → (with_param scope z).has_prelude ≡ prelude → ParamsFrom prelude f before' (with_param scope z) names' ds xs) (sym is) more
        (before ++ Number w r.0 r.1 ∷ []) (and_number names w) (knows_param_number prelude f before scope names k w r.0 r.1 (n.0, a.0)) on in
        subst (λ z. ParamsFrom prelude f before scope names (d ∷ ds) (z ∷ xs)) (sym r.3) (subst (λ z. ParamsFrom prelude f before scope names (z ∷ ds) (Number w r.0 r.1 ∷ xs)) is (number_more prelude f before scope names w r.0 r.1 (at + 1) ds xs one m))
    of {x = x} {xs = xs} (array_param is_const w first others) at have is e more =
        let known = known_behind prelude f before [] in
        let h = have_parts (const_symbols is_const) (word (codes "uint64_t") ∷ word w ∷ (dim_symbols first ++ dims_symbols others)) have in
        let name_at = at + length (const_symbols is_const) + 1 in
        let q : DeclDraft = record { word = word_draft name_at w; role = array_role is_const; extents = ix_draft (name_at + 2) first ∷ dims_draft (name_at + 1 + length (dim_symbols first)) others } in
        let e' : param_tree scope ps (draft.array_param q) ≡ Ok x = ap (param_tree scope ps) is ∙ e in
        let p = both_ok (decl_tree scope q) _ x e' in
        let r = array_from prelude known scope names k refl on is_const w first others h.1 name_at p.0 p.1 in
        let same : with_param scope d ≡ with_array scope p.0.name p.0.role (length p.0.extents) = ap (with_param scope) (sym is) ∙ r.same in
        let m = subst (λ z. (before' : List Param) (names' : Names) → Knows (known_behind prelude f before' []) z names' → z.has_prelude ≡ prelude → ParamsFrom prelude f before' z names' ds xs) same (more_at more)
        (before ++ Array p.0 ∷ []) (and_array_name names p.0.name) (knows_param_array prelude f before scope names k p.0 (r.word, r.declared)) on in
        subst (λ z. ParamsFrom prelude f before scope names (d ∷ ds) (z ∷ xs)) (ok_of p.2) (subst (λ z. ParamsFrom prelude f before scope names (z ∷ ds) (Array p.0 ∷ xs)) is (array_more prelude f before scope names q p.0 ds xs r.is_known r.same m))
      where
        more_at : ((before' : List Param) (names' : Names) → Knows (known_behind prelude f before' []) (with_param scope d) names' → (with_param scope d).has_prelude ≡ prelude → ParamsFrom prelude f before' (with_param scope d) names' ds xs)
            → (before' : List Param) (names' : Names) → Knows (known_behind prelude f before' []) (with_param scope d) names' → (with_param scope d).has_prelude ≡ prelude → ParamsFrom prelude f before' (with_param scope d) names' ds xs
        more_at more = more

record TempsFrom (prelude : Bool) (f : Name) (qs : List Param) (before : List Decl) (scope : Scope) (names : Names) (r : List Decl × Scope) : Type 0 where
  are_known : temps_known prelude f qs before r.0 ≡ true
  after : r.1 ≡ scope_temps scope r.0
  behind : Knows (known_behind prelude f qs (before ++ r.0)) (scope_temps scope r.0) (with_array_names names r.0)
  same_prelude : (scope_temps scope r.0).has_prelude ≡ prelude

temps_from : {prelude : Bool} (f : Name) (qs : List Param) (before : List Decl) (scope : Scope) (names : Names) → Knows (known_behind prelude f qs before) scope names → scope.has_prelude ≡ prelude → (ds : List DeclDraft) (r : List Decl × Scope)
    → Each (FromTemp prelude) ds → temps_tree scope ds ≡ Ok r → TempsFrom prelude f qs before scope names r
temps_from {prelude = prelude} f qs before scope names k on [] r from e =
    subst (TempsFrom prelude f qs before scope names) (ok_of e) (record { are_known = refl; after = refl; behind = subst (λ l. Knows (known_behind prelude f qs l) scope names) (sym (append-nil before)) k; same_prelude = on })
temps_from {prelude = prelude} f qs before scope names k on (d ∷ ds) r from e =
    let known = known_behind prelude f qs before in
    let g = from.0 in
    let q = temp_draft g.at g.name g.dims in
    let n = word_of_symbol g.name (dims_symbols g.dims) g.have in
    let e' : temps_tree scope (q ∷ ds) ≡ Ok r = ap (λ z. temps_tree scope (z ∷ ds)) g.is ∙ e in
    let p = both_ok (decl_tree scope q) _ r e' in
    let t = both_ok (temps_tree (with_array scope g.name Temp (length q.extents)) ds) _ r p.2 in
    let a = allowed_ok (why_declared scope false g.name) g.at _ p.0 p.1 in
    let x = both_ok (each (ix_tree scope) q.extents) _ p.0 a.1 in
    let y : Decl = record { name = g.name; role = Temp; extents = x.0 } in
    let is : ◌≡◌ {A = Decl} y p.0 = ok_of x.2 in
    let long : length q.extents ≡ length x.0 = each_length (ix_tree scope) q.extents x.0 x.1 in
    let one : temp_known known y ≡ true = and_from (is_new known false g.name) (true && ixs_known known x.0) (new_from known scope names k on false g.name n.0 a.0) (and_from true (ixs_known known x.0) refl (dims_from prelude known scope names k (λ z. z) g.dims n.1 (g.at + 1) x.0 x.1)) in
    let m = temps_from f qs (before ++ y ∷ []) (with_array scope g.name Temp (length x.0)) (and_array_name names g.name) (knows_temp prelude f qs before scope names k y (n.0, a.0)) on ds t.0 from.1
    (ap (λ n. temps_tree (with_array scope g.name Temp n) ds) (sym long) ∙ t.1) in
    subst (TempsFrom prelude f qs before scope names) (ap (λ z. (z ∷ t.0.0, t.0.1)) is ∙ ok_of t.2) (record {
      are_known = and_from (temp_known known y) (temps_known prelude f qs (before ++ y ∷ []) t.0.0) one m.are_known;
      after = m.after;
      behind = subst (λ l. Knows (known_behind prelude f qs l) (scope_temps scope (y ∷ t.0.0)) (with_array_names names (y ∷ t.0.0))) (append_assoc before (y ∷ []) t.0.0) m.behind;
      same_prelude = m.same_prelude;
    })

-- ---- Conditions before the function

module _ (known : Known) where
  abbrev with_calls : Known
  with_calls = record known { prelude = true }

  abbrev Free : Ix → Type 0
  Free e = calls_in e ≡ false → ix_known with_calls e ≡ true → ix_known known e ≡ true

  neither : (a b : Bool) → (a || b) ≡ false → (a ≡ false) × (b ≡ false)
  neither true b e = absurd (false≢true (sym e))
  neither false b e = (refl, e)

  both_free : (a b : Ix) → Free a → Free b → (calls_in a || calls_in b) ≡ false → (ix_known with_calls a && ix_known with_calls b) ≡ true → (ix_known known a && ix_known known b) ≡ true
  both_free a b f g n h =
      let p = neither (calls_in a) (calls_in b) n in
      let q = and_parts (ix_known with_calls a) (ix_known with_calls b) h in
      and_from (ix_known known a) (ix_known known b) (f p.0 q.0) (g p.1 q.1)

  free_cases : IxCases Free
  free_cases = record {
    lit = λ n c h. h;
    name = λ id c h. h;
    neg = λ a f c h. neg_here (spec.ix_step known) a ∙ f (sym (neg_here calls_step a) ∙ c) (sym (neg_here (spec.ix_step with_calls) a) ∙ h);
    add = λ a b f g c h. add_here (spec.ix_step known) a b ∙ both_free a b f g (sym (add_here calls_step a b) ∙ c) (sym (add_here (spec.ix_step with_calls) a b) ∙ h);
    sub = λ a b f g c h. sub_here (spec.ix_step known) a b ∙ both_free a b f g (sym (sub_here calls_step a b) ∙ c) (sym (sub_here (spec.ix_step with_calls) a b) ∙ h);
    mul = λ a b f g c h. mul_here (spec.ix_step known) a b ∙ both_free a b f g (sym (mul_here calls_step a b) ∙ c) (sym (mul_here (spec.ix_step with_calls) a b) ∙ h);
    min = λ a b f g c h. absurd (false≢true (sym c ∙ min_here calls_step a b));
    max = λ a b f g c h. absurd (false≢true (sym c ∙ max_here calls_step a b));
    remainder = λ a b f g c h. absurd (false≢true (sym c ∙ mod_here calls_step a b));
    floord = λ a by f c h. absurd (false≢true (sym c ∙ floord_here calls_step a by));
    ceild = λ a by f c h. absurd (false≢true (sym c ∙ ceild_here calls_step a by));
  }

  compares_free : (cs : List Compare) → any_calls cs ≡ false → compares_known with_calls cs ≡ true → compares_known known cs ≡ true
  compares_free [] c h = refl
  compares_free (x ∷ cs) c h =
      let p = neither (calls_beside x) (any_calls cs) c in
      let q = and_parts (compare_known with_calls x) (compares_known with_calls cs) h in
      let r = and_parts (is_ordered x.rel) (ix_known with_calls x.left && ix_known with_calls x.right) q.0 in
      and_from (compare_known known x) (compares_known known cs)
      (and_from (is_ordered x.rel) (ix_known known x.left && ix_known known x.right) r.0 (both_free x.left x.right (every_ix Free free_cases x.left) (every_ix Free free_cases x.right) p.0 r.1)) (compares_free cs p.1 q.1)

contexts_from : (known : Known) (inside : Scope) (names : Names) → Knows known inside names → (ps : List PragmaDraft) (earlier : List Name) (xs : List Compare) → Each FromLine ps → pragmas_tree inside earlier ps ≡ Ok xs → compares_known (record known { prelude = true }) xs ≡ true
contexts_from known inside names k [] earlier xs f e = subst (λ l. compares_known (record known { prelude = true }) l ≡ true) (ok_of e) refl
contexts_from known inside names k (draft.range w low_at low high ∷ ps) earlier xs f e =
    contexts_from known inside names k ps (w.name ∷ earlier) xs f.1 (allowed_ok (why_ranged inside earlier w.name (thing_of inside w.name)) w.at _ xs e).1
contexts_from known inside names k (draft.context at cs ∷ ps) earlier xs f e =
    let p = both_ok (each (compare_tree inside) cs) _ xs e in
    let q = both_ok (pragmas_tree inside earlier ps) _ xs p.2 in
    let loud : Known = record known { prelude = true } in
    let k' : Knows loud inside names = record { sees = k.sees; taken = k.taken; numbers = k.numbers; arrays = k.arrays; number_at = k.number_at; array_at = k.array_at; array_of = k.array_of } in
    subst (λ l. compares_known loud l ≡ true) (ok_of q.2)
    (compares_both true loud inside names k' (λ z. refl) p.0 q.0 (tests_from true loud inside names k' (λ z. refl) f.0.0 f.0.3 f.0.1 p.0 (ap (each (compare_tree inside)) f.0.2 ∙ p.1)) (contexts_from known inside names k ps earlier q.0 f.1 q.1))

-- ---- The program

reserved_off : (b : Bool) → first_reason ((b && true, Reserved) ∷ []) ≡ None → not b ≡ true
reserved_off true h = absurd (cc)
reserved_off false h = refl

params_some : (qs : List Param) → (qs ≡ [] → ⊥) → not (is_none qs) ≡ true
params_some [] h = absurd (h refl)
params_some (q ∷ qs) h = refl

pub program_from : (c : Text) (p : Program) → AllHave (text_symbols c) → program_tree (text_draft c) ≡ Ok p → program_known p ≡ true
program_from c p have e =
    let d = text_draft c in
    let f = c.function in
    let h1 = have_parts (include_symbols c.line) (pragmas_symbols c.pragmas ++ (prelude_symbols c.has_prelude ++ function_symbols c.function)) have in
    let h2 = have_parts (pragmas_symbols c.pragmas) (prelude_symbols c.has_prelude ++ function_symbols c.function) h1.1 in
    let h3 = have_parts (prelude_symbols c.has_prelude) (function_symbols c.function) h2.1 in
    let n = word_of_symbol f.name (mark (codes "(") ∷ (params_symbols f.params ++ mark (codes ")") ∷ mark (codes "{") ∷ (decls_symbols f.decls ++ (stmts_symbols f.stmts ++ mark (codes "}") ∷ [])))) h3.1 in
    let hp = have_parts (params_symbols f.params) (mark (codes ")") ∷ mark (codes "{") ∷ (decls_symbols f.decls ++ (stmts_symbols f.stmts ++ mark (codes "}") ∷ []))) n.1 in
    let hd = have_parts (decls_symbols f.decls) (stmts_symbols f.stmts ++ mark (codes "}") ∷ []) hp.1 in
    let hs = have_parts (stmts_symbols f.stmts) (mark (codes "}") ∷ []) hd.1 in
    let outer = outermost d in
    let inner = with_params outer d.params in
    let conditions = both_ok (pragmas_tree inner [] d.pragmas) _ p e in
    let named = allowed_ok (function_why inner f.name) d.function.at _ p conditions.2 in
    let params = both_ok (params_tree outer d.pragmas d.params) _ p named.1 in
    let temps = both_ok (temps_tree inner d.temps) _ p params.2 in
    let body = both_ok (stmts_tree temps.0.1 d.body) _ p temps.2 in
    let q : Program = record { name = f.name; params = params.0; context = conditions.0; temps = temps.0.0; body = body.0; prelude = c.has_prelude } in
    let lines = lines_from_text c.pragmas (length (include_symbols c.line)) h2.0 in
    let pf = params_from {prelude = c.has_prelude} f.name [] (outside_of q) no_names (knows_outside q) refl d.pragmas (ranges_fit d.pragmas lines) d.params params.0 (params_from_text f.params _ hp.0) params.1 in
    let inside : inner ≡ inside_of q = pf.after in
    let tf = temps_from {prelude = c.has_prelude} f.name params.0 [] (inside_of q) (names_of q) pf.behind pf.same_prelude d.temps temps.0 (decls_from_text f.decls _ hd.0) (ap (λ s. temps_tree s d.temps) (sym inside) ∙ temps.1) in
    let known = known_behind c.has_prelude f.name params.0 [] in
    let context : compares_known known conditions.0 ≡ true = context_from c.has_prelude refl (context_calls c.pragmas) refl c.calls_allowed known refl conditions.0
    (contexts_from known (inside_of q) (names_of q) pf.behind d.pragmas [] conditions.0 lines (ap (λ s. pragmas_tree s [] d.pragmas) (sym inside) ∙ conditions.1)) inner conditions.1 in
    let statements : body_known q ≡ true = stmts_from f.stmts hs.0 (known_behind c.has_prelude f.name params.0 temps.0.0) (scope_temps (inside_of q) temps.0.0) (with_array_names (names_of q) temps.0.0) tf.behind refl tf.same_prelude _ body.0
    (ap (λ s. stmts_tree s d.body) (sym tf.after) ∙ body.1) in
    subst (λ z. program_known z ≡ true) (ok_of body.2)
    (and_from (is_function f.name) (not (is_none params.0) && (params_known c.has_prelude f.name [] params.0 && (context_known q && (temps_known c.has_prelude f.name params.0 [] temps.0.0 && body_known q))))
    (and_from (is_word f.name) (not (is_reserved f.name)) n.0 (reserved_off (is_reserved f.name) named.0))
    (and_from (not (is_none params.0)) (params_known c.has_prelude f.name [] params.0 && (context_known q && (temps_known c.has_prelude f.name params.0 [] temps.0.0 && body_known q)))
    (params_some params.0 (params_nonempty f.params outer d.pragmas _ params.0 params.1))
    (and_from (params_known c.has_prelude f.name [] params.0) (context_known q && (temps_known c.has_prelude f.name params.0 [] temps.0.0 && body_known q)) pf.are_known
    (and_from (context_known q) (temps_known c.has_prelude f.name params.0 [] temps.0.0 && body_known q) context
    (and_from (temps_known c.has_prelude f.name params.0 [] temps.0.0) (body_known q) tf.are_known statements)))))
  where
    context_from : (has_prelude : Bool) → c.has_prelude ≡ has_prelude → (calls : Bool) → context_calls c.pragmas ≡ calls → IsTrue (has_prelude || not calls) → (known : Known) → known.prelude ≡ has_prelude → (xs : List Compare)
        → compares_known (record known { prelude = true }) xs ≡ true → (scope : Scope) → pragmas_tree scope [] (text_draft c).pragmas ≡ Ok xs → compares_known known xs ≡ true
    context_from true q calls r t known on xs h scope e = subst (λ b. compares_known (record known { prelude = b }) xs ≡ true) (sym on) h
    context_from false q true r t known on xs h scope e = absurd (false≢true t)
    context_from false q false r t known on xs h scope e = compares_free known xs (quiet_context scope (text_draft c).pragmas [] xs (quiet_lines c.pragmas (length (include_symbols c.line)) r) e) h
