-- Products of names: a text has one where the tree that it is read as has one.
use Rattle.std.proofs.Common.{◌≡◌, ℕ, ◌<◌, ◌&&◌, ◌||◌, Bool, true, false, not, nat_lt, List, [], ◌∷◌, ◌++◌, map, length, Option, Some, None, Ok, pos, ℤ, refl, sym, ap, subst, ◌∙◌, arith, append_assoc}
use Rattle.std.proofs.lemmas.Bool.{false≢true, lt-ltb}
use Rattle.std.proofs.lemmas.List.Folds.{list_all-append}
use Rattle.std.specs.List.{list_all, flat_map}
use Rattle.affc_ast.specs.declared.tree.Ix.{Ix}
use Rattle.affc_ast.specs.declared.tree.Compare.{Compare}
use Rattle.affc_ast.specs.declared.tree.Cond.{Cond}
use Rattle.affc_ast.specs.declared.tree.Local.{Local}
use Rattle.affc_ast.specs.declared.tree.Val.{Val}
use Rattle.affc_ast.specs.declared.tree.Stmt.{Stmt}
use Rattle.affc_ast.specs.declared.tree.Stmt.TheVariants.{For}
use Rattle.affc_ast.specs.declared.tree.Decl.{Decl}
use Rattle.affc_ast.specs.declared.tree.Param.{Param}
use Rattle.affc_ast.specs.declared.tree.Program.{Program}
use Rattle.affc_ast.specs.Recursion.{by_cond, by_stmt}
use Rattle.affc_ast.proofs.Steps.{all_here, any_here}
use Rattle.affc_grammar.specs.Grammar.{Name, Choice, minimum, maximum, remainder, Rounding, down, up}
use Rattle.affc_grammar.specs.Draft.{IxDraft, literal, name, negated, sum, difference, product, grouped, chosen, divided, CompareDraft, CondsDraft, no_conds, and_cond, CondDraft, comparison, divisible, all_of, any_of, ValueDraft, load, constant, cast, complement, binary, shift, LocalDraft, StmtsDraft, no_stmts, and_stmt, StmtDraft, for_loop, if_cond, assign, block, DeclDraft, ParamDraft, number_param, array_param, PragmaDraft, range, context, TextDraft}
use Rattle.affc_grammar.specs.Names.{Scope, each, number_named, array_named, why_declared, why_repeated, with_number, ix_tree, compare_tree, conds_tree, cond_tree, value_tree, locals_tree, head_tree, stmts_tree, stmt_tree, choice_tree, rounding_tree, thing_of, why_ranged, decl_tree, number_tree, range_of, param_tree, params_tree, temps_tree, with_param, with_array, pragmas_tree, program_tree}
use Rattle.affc_grammar.specs.Limits.{at_if, sides, conds_texts, cond_texts, value_texts, stmts_texts, stmt_texts, pragma_texts, param_texts, affine_texts, names_in, holds_names, products_in, products_of_names, literals_past, wide_limits}
use Rattle.affc_cprint.specs.Forms.{is_none, Form, is_within, both, product as product_form, quotient, form_step, form, compare_passes, cond_step, cond_passes, value_step, value_passes, local_passes, stmt_step, stmt_passes, decl_passes, param_passes, program_passes}
use Rattle.affc_cprint.proofs.Nodes.{neg_here, add_here, sub_here, mul_here, min_here, max_here, mod_here, floord_here, ceild_here}
use Rattle.affc_cprint.proofs.Arms.{for_here, if_here, block_here}
use Rattle.affc_cprint.proofs.Sees.{ok_of, both_ok, allowed_ok}
use Rattle.affc_cprint.proofs.ReadBackValues.{not_here, bin_here, shift_here}
use Rattle.affc_cprint.proofs.Parts.{program_parts}

-- ---- Lists of places

pub none_append : {A : Type 0} (xs ys : List A) → is_none (xs ++ ys) ≡ (is_none xs && is_none ys)
none_append [] ys = refl
none_append (x ∷ xs) ys = refl

pub none_is : {A : Type 0} (xs : List A) → is_none xs ≡ true → xs ≡ []
none_is [] h = refl
none_is (x ∷ xs) h = absurd (false≢true h)

some_places : {A : Type 0} (x : A) (xs : List A) → nat_lt 0 (length (x ∷ xs)) ≡ true
some_places x xs = let some : 0 < length (x ∷ xs) = omega arith in lt-ltb 0 (length (x ∷ xs)) some

some_append : {A : Type 0} (xs ys : List A) → nat_lt 0 (length (xs ++ ys)) ≡ (nat_lt 0 (length xs) || nat_lt 0 (length ys))
some_append [] ys = refl
some_append (x ∷ xs) ys = some_places x (xs ++ ys) ∙ ap (λ b. b || nat_lt 0 (length ys)) (sym (some_places x xs))

pub none_if : (b : Bool) (at : ℕ) → is_none (at_if b at) ≡ not b
none_if true at = refl
none_if false at = refl

-- ---- Expressions: whether a name stands in one, and whether no product has names on both sides

-- the literals of an expression that pass the limit
abbrev pub large : IxDraft → List ℕ
large d = literals_past wide_limits.literal d

pub record Same (d : IxDraft) (f : Form) : Type 0 where
  pub named : holds_names d ≡ f.named
  pub affine : is_none (products_in d) ≡ f.affine
  pub small : is_none (large d) ≡ f.small

same_both : (a b d : IxDraft) (f g : Form) → names_in d ≡ names_in a ++ names_in b → products_in d ≡ products_in a ++ products_in b → large d ≡ large a ++ large b → Same a f → Same b g → Same d (both f g)
same_both a b d f g ns ps ls p q = record {
  named = ap (λ l. nat_lt 0 (length l)) ns ∙ some_append (names_in a) (names_in b) ∙ ap (λ x. x || holds_names b) p.named ∙ ap (λ x. f.named || x) q.named;
  affine = ap is_none ps ∙ none_append (products_in a) (products_in b) ∙ ap (λ x. x && is_none (products_in b)) p.affine ∙ ap (λ x. f.affine && x) q.affine;
  small = ap is_none ls ∙ none_append (large a) (large b) ∙ ap (λ x. x && is_none (large b)) p.small ∙ ap (λ x. f.small && x) q.small;
}

same_product : (at : ℕ) (a b : IxDraft) (f g : Form) → Same a f → Same b g → Same (product at a b) (product_form f g)
same_product at a b f g p q = record {
  named = some_append (names_in a) (names_in b) ∙ ap (λ x. x || holds_names b) p.named ∙ ap (λ x. f.named || x) q.named;
  affine = none_append (products_in a ++ at_if (holds_names a && holds_names b) at) (products_in b)
      ∙ ap (λ x. x && is_none (products_in b)) (none_append (products_in a) (at_if (holds_names a && holds_names b) at) ∙ ap (λ x. is_none (products_in a) && x) (none_if (holds_names a && holds_names b) at))
      ∙ ap (λ x. (x && not (holds_names a && holds_names b)) && is_none (products_in b)) p.affine
      ∙ ap (λ x. (f.affine && not (x && holds_names b)) && is_none (products_in b)) p.named
      ∙ ap (λ x. (f.affine && not (f.named && x)) && is_none (products_in b)) q.named
      ∙ ap (λ x. (f.affine && not (f.named && g.named)) && x) q.affine;
  small = none_append (large a) (large b) ∙ ap (λ x. x && is_none (large b)) p.small ∙ ap (λ x. f.small && x) q.small;
}

same_quotient : (at by_at by : ℕ) (f : Rounding) (a : IxDraft) (g : Form) → Same a g → Same (divided at f a by_at by) (quotient g (is_within (pos by)))
same_quotient at by_at by f a g p = record {
  named = p.named;
  affine = p.affine;
  small = none_append (large a) (at_if (nat_lt wide_limits.literal by) by_at) ∙ ap (λ x. x && is_none (at_if (nat_lt wide_limits.literal by) by_at)) p.small ∙ ap (λ x. g.small && x) (none_if (nat_lt wide_limits.literal by) by_at);
}

choice_form : (f : Choice) (x y : Ix) → both (form x) (form y) ≡ form (choice_tree f x y)
choice_form minimum x y = sym (min_here form_step x y)
choice_form maximum x y = sym (max_here form_step x y)
choice_form remainder x y = sym (mod_here form_step x y)

rounding_form : (f : Rounding) (x : Ix) (n : ℤ) → quotient (form x) (is_within n) ≡ form (rounding_tree f x n)
rounding_form down x n = sym (floord_here form_step x n)
rounding_form up x n = sym (ceild_here form_step x n)

pub ix_same : (scope : Scope) (d : IxDraft) (e : Ix) → ix_tree scope d ≡ Ok e → Same d (form e)
ix_same scope (literal at n) e h = subst (λ z. Same (literal at n) (form z)) (ok_of h) (record { named = refl; affine = refl; small = none_if (nat_lt wide_limits.literal n) at })
ix_same scope (name at w) e h =
    let p = both_ok (number_named scope at w) _ e h in
    subst (λ z. Same (name at w) (form z)) (ok_of p.2) (record { named = refl; affine = refl; small = refl })
ix_same scope (negated at a) e h =
    let p = both_ok (ix_tree scope a) _ e h in
    let s = ix_same scope a p.0 p.1 in
    subst (Same (negated at a)) (sym (neg_here form_step p.0) ∙ ap form (ok_of p.2)) (record { named = s.named; affine = s.affine; small = s.small })
ix_same scope (sum a b) e h =
    let p = both_ok (ix_tree scope a) _ e h in
    let q = both_ok (ix_tree scope b) _ e p.2 in
    subst (Same (sum a b)) (sym (add_here form_step p.0 q.0) ∙ ap form (ok_of q.2)) (same_both a b (sum a b) (form p.0) (form q.0) refl refl refl (ix_same scope a p.0 p.1) (ix_same scope b q.0 q.1))
ix_same scope (difference a b) e h =
    let p = both_ok (ix_tree scope a) _ e h in
    let q = both_ok (ix_tree scope b) _ e p.2 in
    subst (Same (difference a b)) (sym (sub_here form_step p.0 q.0) ∙ ap form (ok_of q.2)) (same_both a b (difference a b) (form p.0) (form q.0) refl refl refl (ix_same scope a p.0 p.1) (ix_same scope b q.0 q.1))
ix_same scope (product at a b) e h =
    let p = both_ok (ix_tree scope a) _ e h in
    let q = both_ok (ix_tree scope b) _ e p.2 in
    subst (Same (product at a b)) (sym (mul_here form_step p.0 q.0) ∙ ap form (ok_of q.2)) (same_product at a b (form p.0) (form q.0) (ix_same scope a p.0 p.1) (ix_same scope b q.0 q.1))
ix_same scope (grouped at a) e h = let s = ix_same scope a e h in record { named = s.named; affine = s.affine; small = s.small }
ix_same scope (chosen at f a b) e h =
    let p = both_ok (ix_tree scope a) _ e h in
    let q = both_ok (ix_tree scope b) _ e p.2 in
    subst (Same (chosen at f a b)) (choice_form f p.0 q.0 ∙ ap form (ok_of q.2)) (same_both a b (chosen at f a b) (form p.0) (form q.0) refl refl refl (ix_same scope a p.0 p.1) (ix_same scope b q.0 q.1))
ix_same scope (divided at f a by_at by) e h =
    let p = both_ok (ix_tree scope a) _ e h in
    subst (Same (divided at f a by_at by)) (rounding_form f p.0 (pos by) ∙ ap form (ok_of p.2)) (same_quotient at by_at by f a (form p.0) (ix_same scope a p.0 p.1))

-- ---- Lists of expressions

module _ (places : IxDraft → List ℕ) (test : Ix → Bool) (same : (scope : Scope) (d : IxDraft) (e : Ix) → ix_tree scope d ≡ Ok e → is_none (places d) ≡ test e) where
  abbrev clear : IxDraft → Bool
  clear d = is_none (places d)

  abbrev all_clear : List IxDraft → Bool
  all_clear ds = list_all clear ds

  none_clear : (ds : List IxDraft) → is_none (flat_map places ds) ≡ all_clear ds
  none_clear [] = refl
  none_clear (d ∷ ds) = none_append (places d) (flat_map places ds) ∙ ap (λ b. clear d && b) (none_clear ds)

  clear_append : (xs ys : List IxDraft) → all_clear (xs ++ ys) ≡ (all_clear xs && all_clear ys)
  clear_append xs ys = list_all-append clear xs ys

  ixs_same : (scope : Scope) (ds : List IxDraft) (xs : List Ix) → each (ix_tree scope) ds ≡ Ok xs → all_clear ds ≡ list_all test xs
  ixs_same scope [] xs e = ap (list_all test) (ok_of e)
  ixs_same scope (d ∷ ds) xs e =
      let p = both_ok (ix_tree scope d) _ xs e in
      let q = both_ok (each (ix_tree scope) ds) _ xs p.2 in
      ap (λ b. b && all_clear ds) (same scope d p.0 p.1) ∙ ap (λ b. test p.0 && b) (ixs_same scope ds q.0 q.1) ∙ ap (list_all test) (ok_of q.2)

  and_true : (b : Bool) → (b && true) ≡ b
  and_true true = refl
  and_true false = refl

  sides_clear : (c : CompareDraft) → all_clear (sides c) ≡ (clear c.left && clear c.right)
  sides_clear c = ap (λ b. clear c.left && b) (and_true (clear c.right))

  compares_same : (scope : Scope) (ds : List CompareDraft) (xs : List Compare) → each (compare_tree scope) ds ≡ Ok xs → all_clear (flat_map sides ds) ≡ list_all (compare_passes test) xs
  compares_same scope [] xs e = ap (list_all (compare_passes test)) (ok_of e)
  compares_same scope (d ∷ ds) xs e =
      let p = both_ok (compare_tree scope d) _ xs e in
      let q = both_ok (each (compare_tree scope) ds) _ xs p.2 in
      let l = both_ok (ix_tree scope d.left) _ p.0 p.1 in
      let r = both_ok (ix_tree scope d.right) _ p.0 l.2 in
      clear_append (sides d) (flat_map sides ds)
      ∙ ap (λ b. b && all_clear (flat_map sides ds)) (sides_clear d ∙ ap (λ b. b && clear d.right) (same scope d.left l.0 l.1) ∙ ap (λ b. test l.0 && b) (same scope d.right r.0 r.1) ∙ ap (compare_passes test) (ok_of r.2))
      ∙ ap (λ b. compare_passes test p.0 && b) (compares_same scope ds q.0 q.1) ∙ ap (list_all (compare_passes test)) (ok_of q.2)

  -- ---- Values

  value_same : (scope : Scope) (d : ValueDraft) (v : Val) → value_tree scope d ≡ Ok v → all_clear (value_texts d) ≡ value_passes test v
  value_same scope (load at w subs) v e =
      let p = both_ok (array_named scope at w false (length subs)) _ v e in
      let q = both_ok (each (ix_tree scope) subs) _ v p.2 in
      ixs_same scope subs q.0 q.1 ∙ ap (value_passes test) (ok_of q.2)
  value_same scope (constant n) v e = ap (value_passes test) (ok_of e)
  value_same scope (cast a) v e =
      let p = both_ok (ix_tree scope a) _ v e in
      and_true (clear a) ∙ (same scope a p.0 p.1) ∙ ap (value_passes test) (ok_of p.2)
  value_same scope (complement a) v e =
      let p = both_ok (value_tree scope a) _ v e in
      value_same scope a p.0 p.1 ∙ sym (not_here (value_step test) p.0) ∙ ap (value_passes test) (ok_of p.2)
  value_same scope (binary op a b) v e =
      let p = both_ok (value_tree scope a) _ v e in
      let q = both_ok (value_tree scope b) _ v p.2 in
      clear_append (value_texts a) (value_texts b) ∙ ap (λ x. x && all_clear (value_texts b)) (value_same scope a p.0 p.1) ∙ ap (λ x. value_passes test p.0 && x) (value_same scope b q.0 q.1)
      ∙ sym (bin_here (value_step test) op p.0 q.0) ∙ ap (value_passes test) (ok_of q.2)
  value_same scope (shift left a by) v e =
      let p = both_ok (value_tree scope a) _ v e in
      value_same scope a p.0 p.1 ∙ sym (shift_here (value_step test) left p.0 by) ∙ ap (value_passes test) (ok_of p.2)

  -- ---- Conditions

  entries_same : (xs : List Cond) → list_all (cond_passes test) xs ≡ list_all (λ b. b) (map (by_cond (cond_step test)) xs)
  entries_same [] = refl
  entries_same (x ∷ xs) = ap (λ b. cond_passes test x && b) (entries_same xs)

  mutual
    conds_same : (scope : Scope) (d : CondsDraft) (xs : List Cond) → conds_tree scope d ≡ Ok xs → all_clear (conds_texts d) ≡ list_all (cond_passes test) xs
    conds_same scope no_conds xs e = ap (list_all (cond_passes test)) (ok_of e)
    conds_same scope (and_cond cs c) xs e =
        let p = both_ok (conds_tree scope cs) _ xs e in
        let q = both_ok (cond_tree scope c) _ xs p.2 in
        clear_append (conds_texts cs) (cond_texts c) ∙ ap (λ b. b && all_clear (cond_texts c)) (conds_same scope cs p.0 p.1) ∙ ap (λ b. list_all (cond_passes test) p.0 && b) (cond_same scope c q.0 q.1 ∙ sym (and_true (cond_passes test q.0)))
        ∙ sym (list_all-append (cond_passes test) p.0 (q.0 ∷ [])) ∙ ap (list_all (cond_passes test)) (ok_of q.2)

    cond_same : (scope : Scope) (d : CondDraft) (x : Cond) → cond_tree scope d ≡ Ok x → all_clear (cond_texts d) ≡ cond_passes test x
    cond_same scope (comparison c) x e =
        let l = both_ok (ix_tree scope c.left) _ x e in
        let r = both_ok (ix_tree scope c.right) _ x l.2 in
        sides_clear c ∙ ap (λ b. b && clear c.right) (same scope c.left l.0 l.1) ∙ ap (λ b. test l.0 && b) (same scope c.right r.0 r.1) ∙ ap (cond_passes test) (ok_of r.2)
    cond_same scope (divisible a by_at by so) x e =
        let p = both_ok (ix_tree scope a) _ x e in
        and_true (clear a) ∙ same scope a p.0 p.1 ∙ ap (cond_passes test) (ok_of p.2)
    cond_same scope (all_of cs) x e =
        let p = both_ok (conds_tree scope cs) _ x e in
        conds_same scope cs p.0 p.1 ∙ entries_same p.0 ∙ sym (all_here (cond_step test) p.0) ∙ ap (cond_passes test) (ok_of p.2)
    cond_same scope (any_of cs) x e =
        let p = both_ok (conds_tree scope cs) _ x e in
        conds_same scope cs p.0 p.1 ∙ entries_same p.0 ∙ sym (any_here (cond_step test) p.0) ∙ ap (cond_passes test) (ok_of p.2)

  branches_clear : (a b c : List IxDraft) → all_clear (a ++ b ++ c) ≡ (all_clear a && (all_clear b && all_clear c))
  branches_clear a b c = ap all_clear (append_assoc a b c) ∙ clear_append a (b ++ c) ∙ ap (λ x. all_clear a && x) (clear_append b c)

  -- ---- Statements

  body_same : (body : List Stmt) → list_all (stmt_passes test) body ≡ list_all (λ b. b) (map (by_stmt (stmt_step test)) body)
  body_same [] = refl
  body_same (s ∷ body) = ap (λ b. stmt_passes test s && b) (body_same body)

  locals_same : (scope : Scope) (ds : List LocalDraft) (r : List Local × Scope) → locals_tree scope ds ≡ Ok r → all_clear (map (λ l. l.value) ds) ≡ list_all (local_passes test) r.0
  locals_same scope [] r e = ap (λ t. list_all (local_passes test) t.0) (ok_of e)
  locals_same scope (d ∷ ds) r e =
      let a = allowed_ok (why_declared scope false d.name) d.at _ r e in
      let p = both_ok (ix_tree scope d.value) _ r a.1 in
      let q = both_ok (locals_tree (with_number false scope d.name) ds) _ r p.2 in
      ap (λ b. b && all_clear (map (λ l. l.value) ds)) (same scope d.value p.0 p.1) ∙ ap (λ b. test p.0 && b) (locals_same (with_number false scope d.name) ds q.0 q.1)
      ∙ ap (λ t. list_all (local_passes test) t.0) (ok_of q.2)

  mutual
    stmts_same : (scope : Scope) (d : StmtsDraft) (xs : List Stmt) → stmts_tree scope d ≡ Ok xs → all_clear (stmts_texts d) ≡ list_all (stmt_passes test) xs
    stmts_same scope no_stmts xs e = ap (list_all (stmt_passes test)) (ok_of e)
    stmts_same scope (and_stmt ss s) xs e =
        let p = both_ok (stmts_tree scope ss) _ xs e in
        let q = both_ok (stmt_tree scope s) _ xs p.2 in
        clear_append (stmts_texts ss) (stmt_texts s) ∙ ap (λ b. b && all_clear (stmt_texts s)) (stmts_same scope ss p.0 p.1) ∙ ap (λ b. list_all (stmt_passes test) p.0 && b) (stmt_same scope s q.0 q.1 ∙ sym (and_true (stmt_passes test q.0)))
        ∙ sym (list_all-append (stmt_passes test) p.0 (q.0 ∷ [])) ∙ ap (list_all (stmt_passes test)) (ok_of q.2)

    stmt_same : (scope : Scope) (d : StmtDraft) (x : Stmt) → stmt_tree scope d ≡ Ok x → all_clear (stmt_texts d) ≡ stmt_passes test x
    stmt_same scope (for_loop h body) x e =
        let p = both_ok (head_tree scope h) _ x e in
        let q = both_ok (stmts_tree (with_number true scope h.iterator.name) body) _ x p.2 in
        let a = allowed_ok (why_declared scope true h.iterator.name) h.iterator.at _ p.0 p.1 in
        let l = both_ok (ix_tree scope h.low) _ p.0 a.1 in
        let b = allowed_ok (why_repeated scope h.iterator.name h.tested.name) h.tested.at _ p.0 l.2 in
        let u = both_ok (ix_tree scope h.high) _ p.0 b.1 in
        let c = allowed_ok (why_repeated scope h.iterator.name h.stepped.name) h.stepped.at _ p.0 u.2 in
        let bounds : ◌≡◌ {A = Ix × Ix} (l.0, u.0) p.0 = ok_of c.1 in
        ap (λ z. z && (clear h.high && all_clear (stmts_texts body))) (same scope h.low l.0 l.1)
        ∙ ap (λ z. test l.0 && (z && all_clear (stmts_texts body))) (same scope h.high u.0 u.1)
        ∙ ap (λ z. test l.0 && (test u.0 && z)) (stmts_same (with_number true scope h.iterator.name) body q.0 q.1 ∙ body_same q.0)
        ∙ sym (for_here (stmt_step test) h.iterator.name l.0 h.rel u.0 q.0) ∙ ap (λ t. stmt_passes test (For h.iterator.name t.0 h.rel t.1 q.0)) bounds ∙ ap (stmt_passes test) (ok_of q.2)
    stmt_same scope (if_cond at c body other) x e =
        let p = both_ok (cond_tree scope c) _ x e in
        let q = both_ok (stmts_tree scope body) _ x p.2 in
        let r = both_ok (stmts_tree scope other) _ x q.2 in
        branches_clear (cond_texts c) (stmts_texts body) (stmts_texts other) ∙ ap (λ b. b && (all_clear (stmts_texts body) && all_clear (stmts_texts other))) (cond_same scope c p.0 p.1)
        ∙ ap (λ b. cond_passes test p.0 && (b && all_clear (stmts_texts other))) (stmts_same scope body q.0 q.1 ∙ body_same q.0) ∙ ap (λ b. cond_passes test p.0 && (list_all (λ b. b) (map (by_stmt (stmt_step test)) q.0) && b)) (stmts_same scope other r.0 r.1 ∙ body_same r.0)
        ∙ sym (if_here (stmt_step test) p.0 q.0 r.0) ∙ ap (stmt_passes test) (ok_of r.2)
    stmt_same scope (assign w subs op v) x e =
        let p = both_ok (array_named scope w.at w.name true (length subs)) _ x e in
        let q = both_ok (each (ix_tree scope) subs) _ x p.2 in
        let r = both_ok (value_tree scope v) _ x q.2 in
        clear_append subs (value_texts v) ∙ ap (λ b. b && all_clear (value_texts v)) (ixs_same scope subs q.0 q.1) ∙ ap (λ b. list_all test q.0 && b) (value_same scope v r.0 r.1) ∙ ap (stmt_passes test) (ok_of r.2)
    stmt_same scope (block ls body) x e =
        let p = both_ok (locals_tree scope ls) _ x e in
        let q = both_ok (stmts_tree p.0.1 body) _ x p.2 in
        clear_append (map (λ l. l.value) ls) (stmts_texts body) ∙ ap (λ b. b && all_clear (stmts_texts body)) (locals_same scope ls p.0 p.1) ∙ ap (λ b. list_all (local_passes test) p.0.0 && b) (stmts_same p.0.1 body q.0 q.1 ∙ body_same q.0)
        ∙ sym (block_here (stmt_step test) p.0.0 q.0) ∙ ap (stmt_passes test) (ok_of q.2)

  -- ---- The whole text

  pragmas_same : (scope : Scope) (earlier : List Name) (ds : List PragmaDraft) (xs : List Compare) → pragmas_tree scope earlier ds ≡ Ok xs → all_clear (flat_map pragma_texts ds) ≡ list_all (compare_passes test) xs
  pragmas_same scope earlier [] xs e = ap (list_all (compare_passes test)) (ok_of e)
  pragmas_same scope earlier (range w low_at low high ∷ ds) xs e =
      pragmas_same scope (w.name ∷ earlier) ds xs (allowed_ok (why_ranged scope earlier w.name (thing_of scope w.name)) w.at _ xs e).1
  pragmas_same scope earlier (context at cs ∷ ds) xs e =
      let p = both_ok (each (compare_tree scope) cs) _ xs e in
      let q = both_ok (pragmas_tree scope earlier ds) _ xs p.2 in
      clear_append (flat_map sides cs) (flat_map pragma_texts ds) ∙ ap (λ b. b && all_clear (flat_map pragma_texts ds)) (compares_same scope cs p.0 p.1) ∙ ap (λ b. list_all (compare_passes test) p.0 && b) (pragmas_same scope earlier ds q.0 q.1)
      ∙ sym (list_all-append (compare_passes test) p.0 q.0) ∙ ap (list_all (compare_passes test)) (ok_of q.2)

  decl_same : (scope : Scope) (q : DeclDraft) (d : Decl) → decl_tree scope q ≡ Ok d → all_clear q.extents ≡ decl_passes test d
  decl_same scope q d e =
      let a = allowed_ok (why_declared scope false q.word.name) q.word.at _ d e in
      let p = both_ok (each (ix_tree scope) q.extents) _ d a.1 in
      ixs_same scope q.extents p.0 p.1 ∙ ap (decl_passes test) (ok_of p.2)

  number_same : (at : ℕ) (w : Name) (r : Option (ℤ × ℤ)) (q : Param) → number_tree at w r ≡ Ok q → true ≡ param_passes test q
  number_same at w None q e = absurd (cc)
  number_same at w (Some r) q e = ap (param_passes test) (ok_of e)

  param_same : (scope : Scope) (ps : List PragmaDraft) (d : ParamDraft) (q : Param) → param_tree scope ps d ≡ Ok q → all_clear (param_texts d) ≡ param_passes test q
  param_same scope ps (number_param w) q e =
      let a = allowed_ok (why_declared scope false w.name) w.at _ q e in
      number_same w.at w.name (range_of w.name ps) q a.1
  param_same scope ps (array_param d) q e =
      let p = both_ok (decl_tree scope d) _ q e in
      decl_same scope d p.0 p.1 ∙ ap (param_passes test) (ok_of p.2)

  params_same : (scope : Scope) (ps : List PragmaDraft) (ds : List ParamDraft) (qs : List Param) → params_tree scope ps ds ≡ Ok qs → all_clear (flat_map param_texts ds) ≡ list_all (param_passes test) qs
  params_same scope ps [] qs e = ap (list_all (param_passes test)) (ok_of e)
  params_same scope ps (d ∷ ds) qs e =
      let p = both_ok (param_tree scope ps d) _ qs e in
      let q = both_ok (params_tree (with_param scope d) ps ds) _ qs p.2 in
      clear_append (param_texts d) (flat_map param_texts ds) ∙ ap (λ b. b && all_clear (flat_map param_texts ds)) (param_same scope ps d p.0 p.1) ∙ ap (λ b. param_passes test p.0 && b) (params_same (with_param scope d) ps ds q.0 q.1)
      ∙ ap (list_all (param_passes test)) (ok_of q.2)

  temps_same : (scope : Scope) (ds : List DeclDraft) (r : List Decl × Scope) → temps_tree scope ds ≡ Ok r → all_clear (flat_map (λ d. d.extents) ds) ≡ list_all (decl_passes test) r.0
  temps_same scope [] r e = ap (λ t. list_all (decl_passes test) t.0) (ok_of e)
  temps_same scope (d ∷ ds) r e =
      let p = both_ok (decl_tree scope d) _ r e in
      let q = both_ok (temps_tree (with_array scope d.word.name d.role (length d.extents)) ds) _ r p.2 in
      clear_append d.extents (flat_map (λ d. d.extents) ds) ∙ ap (λ b. b && all_clear (flat_map (λ d. d.extents) ds)) (decl_same scope d p.0 p.1)
      ∙ ap (λ b. decl_passes test p.0 && b) (temps_same (with_array scope d.word.name d.role (length d.extents)) ds q.0 q.1) ∙ ap (λ t. list_all (decl_passes test) t.0) (ok_of q.2)

  pub program_same : (d : TextDraft) (p : Program) → program_tree d ≡ Ok p → is_none (flat_map places (affine_texts d)) ≡ program_passes test p
  program_same d p e =
      let parts = program_parts d p e in
      let a = flat_map pragma_texts d.pragmas in
      let b = flat_map param_texts d.params in
      let c = flat_map (λ x. x.extents) d.temps in
      let s = stmts_texts d.body in
      none_clear (affine_texts d) ∙ clear_append (a ++ b ++ c) s ∙ ap (λ x. x && all_clear s) (clear_append (a ++ b) c ∙ ap (λ x. x && all_clear c) (clear_append a b))
      ∙ ap (λ x. ((x && all_clear b) && all_clear c) && all_clear s) (pragmas_same _ [] d.pragmas p.context parts.context)
      ∙ ap (λ x. ((list_all (compare_passes test) p.context && x) && all_clear c) && all_clear s) (params_same _ d.pragmas d.params p.params parts.params)
      ∙ ap (λ x. ((list_all (compare_passes test) p.context && list_all (param_passes test) p.params) && x) && all_clear s) (temps_same _ d.temps (p.temps, parts.inner) parts.temps)
      ∙ ap (λ x. ((list_all (compare_passes test) p.context && list_all (param_passes test) p.params) && list_all (decl_passes test) p.temps) && x) (stmts_same parts.inner d.body p.body parts.body)

none_of : {A : Type 0} (xs : List A) → xs ≡ [] → is_none xs ≡ true
none_of xs e = ap is_none e

-- ---- Products

abbrev is_affine : Ix → Bool
is_affine e = (form e).affine

affine_same : (scope : Scope) (d : IxDraft) (e : Ix) → ix_tree scope d ≡ Ok e → is_none (products_in d) ≡ is_affine e
affine_same scope d e h = (ix_same scope d e h).affine

-- Where one text has no product of names, another one that is read as the same program has none.
pub products_again : (c d : TextDraft) (p : Program) → program_tree c ≡ Ok p → program_tree d ≡ Ok p → products_of_names c ≡ [] → products_of_names d ≡ []
products_again c d p e f none = none_is (products_of_names d) (program_same products_in is_affine affine_same d p f ∙ sym (program_same products_in is_affine affine_same c p e) ∙ none_of (products_of_names c) none)
