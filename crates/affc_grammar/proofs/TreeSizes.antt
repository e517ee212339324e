-- A tree has no more nodes, arrays and assignments than its draft's size says.
use Rattle.std.proofs.Common.{◌≡◌, ℕ, ◌+◌, ◌≤◌, ℤ, pos, true, false, List, [], ◌∷◌, ◌++◌, length, map, Ok, sym, ap, ◌∙◌, subst, arith}
use Rattle.std.specs.Prelude.{sum_by}
use Rattle.std.proofs.lemmas.List.{map-append}
use Rattle.std.proofs.lemmas.List.Sums.{sum_by-cons, sum_by-append}
use Rattle.affc_ast.specs.declared.tree.Compare.{Compare}
use Rattle.affc_ast.specs.declared.tree.Cond.{Cond}
use Rattle.affc_ast.specs.declared.tree.Ix.{Ix}
use Rattle.affc_ast.specs.declared.tree.Ix.TheVariants as ix
use Rattle.affc_ast.specs.declared.tree.Local.{Local}
use Rattle.affc_ast.specs.declared.tree.Val.{Val}
use Rattle.affc_ast.specs.declared.tree.Stmt.{Stmt}
use Rattle.affc_ast.specs.Conditions.{Reading, nodes_of_entries, reading_step, reading_of, nodes_of_cond}
use Rattle.affc_ast.specs.Index.{Index, index_step, nodes_of_ix, nodes_of_compare}
use Rattle.affc_ast.specs.Values.{Value, value_step, value_of}
use Rattle.affc_ast.specs.Meaning.{Denotation, stmt_step, denotation_of, nodes_in, assigns_in, nodes_of_locals}
use Rattle.affc_grammar.specs.Grammar.{Choice, minimum, maximum, remainder, Rounding, down, up}
use Rattle.affc_grammar.specs.Draft.{IxDraft, literal, name, negated, sum, difference, product, grouped, chosen, divided, CompareDraft, CondsDraft, no_conds, and_cond, CondDraft, comparison, divisible, all_of, any_of, ValueDraft, load, constant, cast, complement, binary, shift, LocalDraft, StmtsDraft, no_stmts, and_stmt, StmtDraft, for_loop, if_cond, assign, block}
use Rattle.affc_grammar.specs.Names.{Scope, Checked, each, choice_tree, rounding_tree, number_named, array_named, ix_tree, compare_tree, conds_tree, cond_tree, value_tree, locals_tree, head_tree, stmts_tree, stmt_tree, why_declared, why_repeated, with_number}
use Rattle.affc_ast.proofs.Steps.{all_here, any_here}
use Rattle.affc_grammar.proofs.DraftSizes.{ix_size, compare_size, conds_size, cond_size, value_size, local_size, stmts_size, stmt_size}
use Rattle.affc_grammar.proofs.Steps.{ok_of, then_is, allowed_is, neg_here, add_here, sub_here, mul_here, min_here, max_here, mod_here, floord_here, ceild_here, not_here, bin_here, shift_here, for_here, if_here, block_here}

-- ---- Index expressions

neg_nodes : (a : Ix) → nodes_of_ix (ix.Neg a) ≡ 1 + nodes_of_ix a
neg_nodes a = ap (λ (x : Index). x.nodes) (neg_here index_step a)

add_nodes : (a b : Ix) → nodes_of_ix (ix.Add a b) ≡ 1 + nodes_of_ix a + nodes_of_ix b
add_nodes a b = ap (λ (x : Index). x.nodes) (add_here index_step a b)

sub_nodes : (a b : Ix) → nodes_of_ix (ix.Sub a b) ≡ 1 + nodes_of_ix a + nodes_of_ix b
sub_nodes a b = ap (λ (x : Index). x.nodes) (sub_here index_step a b)

mul_nodes : (a b : Ix) → nodes_of_ix (ix.Mul a b) ≡ 1 + nodes_of_ix a + nodes_of_ix b
mul_nodes a b = ap (λ (x : Index). x.nodes) (mul_here index_step a b)

choice_nodes : (f : Choice) (a b : Ix) → nodes_of_ix (choice_tree f a b) ≡ 1 + nodes_of_ix a + nodes_of_ix b
choice_nodes minimum a b = ap (λ (x : Index). x.nodes) (min_here index_step a b)
choice_nodes maximum a b = ap (λ (x : Index). x.nodes) (max_here index_step a b)
choice_nodes remainder a b = ap (λ (x : Index). x.nodes) (mod_here index_step a b)

rounding_nodes : (f : Rounding) (a : Ix) (n : ℤ) → nodes_of_ix (rounding_tree f a n) ≡ 1 + nodes_of_ix a
rounding_nodes down a n = ap (λ (x : Index). x.nodes) (floord_here index_step a n)
rounding_nodes up a n = ap (λ (x : Index). x.nodes) (ceild_here index_step a n)

pub ix_nodes : (scope : Scope) (c : IxDraft) (x : Ix) → ix_tree scope c ≡ Ok x → nodes_of_ix x ≤ ix_size c
ix_nodes scope (literal at n) x e = subst (λ (y : Ix). nodes_of_ix y ≤ 1) (ok_of e) (omega arith)
ix_nodes scope (name at w) x e = let p = then_is (number_named scope at w) _ x e in subst (λ (y : Ix). nodes_of_ix y ≤ 1) (ok_of p.2) (omega arith)
ix_nodes scope (negated at a) x e =
    let p = then_is (ix_tree scope a) _ x e in
    let h = ix_nodes scope a p.0 p.1 in
    subst (λ (y : Ix). nodes_of_ix y ≤ 1 + ix_size a) (ok_of p.2) (omega (arith, neg_nodes p.0))
ix_nodes scope (sum a b) x e =
    let p = then_is (ix_tree scope a) _ x e in
    let q = then_is (ix_tree scope b) _ x p.2 in
    let h = ix_nodes scope a p.0 p.1 in
    let k = ix_nodes scope b q.0 q.1 in
    subst (λ (y : Ix). nodes_of_ix y ≤ 1 + ix_size a + ix_size b) (ok_of q.2) (omega (arith, add_nodes p.0 q.0))
ix_nodes scope (difference a b) x e =
    let p = then_is (ix_tree scope a) _ x e in
    let q = then_is (ix_tree scope b) _ x p.2 in
    let h = ix_nodes scope a p.0 p.1 in
    let k = ix_nodes scope b q.0 q.1 in
    subst (λ (y : Ix). nodes_of_ix y ≤ 1 + ix_size a + ix_size b) (ok_of q.2) (omega (arith, sub_nodes p.0 q.0))
ix_nodes scope (product at a b) x e =
    let p = then_is (ix_tree scope a) _ x e in
    let q = then_is (ix_tree scope b) _ x p.2 in
    let h = ix_nodes scope a p.0 p.1 in
    let k = ix_nodes scope b q.0 q.1 in
    subst (λ (y : Ix). nodes_of_ix y ≤ 1 + ix_size a + ix_size b) (ok_of q.2) (omega (arith, mul_nodes p.0 q.0))
ix_nodes scope (grouped at a) x e = ix_nodes scope a x e
ix_nodes scope (chosen at f a b) x e =
    let p = then_is (ix_tree scope a) _ x e in
    let q = then_is (ix_tree scope b) _ x p.2 in
    let h = ix_nodes scope a p.0 p.1 in
    let k = ix_nodes scope b q.0 q.1 in
    subst (λ (y : Ix). nodes_of_ix y ≤ 1 + ix_size a + ix_size b) (ok_of q.2) (omega (arith, choice_nodes f p.0 q.0))
ix_nodes scope (divided at f a by_at by) x e =
    let p = then_is (ix_tree scope a) _ x e in
    let h = ix_nodes scope a p.0 p.1 in
    subst (λ (y : Ix). nodes_of_ix y ≤ 1 + ix_size a) (ok_of p.2) (omega (arith, rounding_nodes f p.0 (pos by)))

-- sums over a list
pub each_sum : {A B : Type 0} (f : A → Checked B) (m : A → ℕ) (n : B → ℕ) → ((a : A) (b : B) → f a ≡ Ok b → n b ≤ m a) → (as' : List A) (bs : List B) → each f as' ≡ Ok bs → sum_by n bs ≤ sum_by m as'
each_sum f m n h [] bs e = subst (λ l. sum_by n l ≤ 0) (ok_of e) (omega arith)
each_sum f m n h (a ∷ as') bs e =
    let p = then_is (f a) _ bs e in
    let q = then_is (each f as') _ bs p.2 in
    let k = h a p.0 p.1 in
    let l = each_sum f m n h as' q.0 q.1 in
    subst (λ l. sum_by n l ≤ sum_by m (a ∷ as')) (ok_of q.2) (omega (arith, sum_by-cons n p.0 q.0, sum_by-cons m a as'))

pub all_nodes : (scope : Scope) (cs : List IxDraft) (xs : List Ix) → each (ix_tree scope) cs ≡ Ok xs → sum_by nodes_of_ix xs ≤ sum_by ix_size cs
all_nodes scope = each_sum (ix_tree scope) ix_size nodes_of_ix (ix_nodes scope)

compare_nodes : (scope : Scope) (c : CompareDraft) (x : Compare) → compare_tree scope c ≡ Ok x → nodes_of_compare x ≤ compare_size c
compare_nodes scope c x e =
    let p = then_is (ix_tree scope c.left) _ x e in
    let q = then_is (ix_tree scope c.right) _ x p.2 in
    let h = ix_nodes scope c.left p.0 p.1 in
    let k = ix_nodes scope c.right q.0 q.1 in
    subst (λ (y : Compare). nodes_of_compare y ≤ compare_size c) (ok_of q.2) (omega arith)

pub compares_nodes : (scope : Scope) (cs : List CompareDraft) (xs : List Compare) → each (compare_tree scope) cs ≡ Ok xs → sum_by nodes_of_compare xs ≤ sum_by compare_size cs
compares_nodes scope = each_sum (compare_tree scope) compare_size nodes_of_compare (compare_nodes scope)

-- ---- Conditions

entries_more : (xs : List Cond) (x : Cond) → nodes_of_entries (map reading_of (xs ++ x ∷ [])) ≡ nodes_of_entries (map reading_of xs) + nodes_of_cond x
entries_more xs x =
    ap nodes_of_entries (map-append reading_of xs (x ∷ []))
    ∙ sum_by-append (λ (r : Reading). r.nodes) (map reading_of xs) (reading_of x ∷ [])
    ∙ ap (λ n. nodes_of_entries (map reading_of xs) + n) (alone_nodes (reading_of x))
  where
    alone_nodes : (r : Reading) → nodes_of_entries (r ∷ []) ≡ r.nodes
    alone_nodes r = omega (arith, sum_by-cons (λ (r : Reading). r.nodes) r [])

mutual
  conds_nodes : (scope : Scope) (cs : CondsDraft) (xs : List Cond) → conds_tree scope cs ≡ Ok xs → nodes_of_entries (map reading_of xs) ≤ conds_size cs
  conds_nodes scope no_conds xs e = subst (λ (l : List Cond). nodes_of_entries (map reading_of l) ≤ 0) (ok_of e) (omega arith)
  conds_nodes scope (and_cond cs c) xs e =
      let p = then_is (conds_tree scope cs) _ xs e in
      let q = then_is (cond_tree scope c) _ xs p.2 in
      let h = conds_nodes scope cs p.0 p.1 in
      let k = cond_nodes scope c q.0 q.1 in
      subst (λ (l : List Cond). nodes_of_entries (map reading_of l) ≤ conds_size cs + cond_size c) (ok_of q.2) (omega (arith, h, k, entries_more p.0 q.0))

  cond_nodes : (scope : Scope) (c : CondDraft) (x : Cond) → cond_tree scope c ≡ Ok x → nodes_of_cond x ≤ cond_size c
  cond_nodes scope (comparison c) x e =
      let p = then_is (ix_tree scope c.left) _ x e in
      let q = then_is (ix_tree scope c.right) _ x p.2 in
      let h = ix_nodes scope c.left p.0 p.1 in
      let k = ix_nodes scope c.right q.0 q.1 in
      subst (λ (y : Cond). nodes_of_cond y ≤ compare_size c) (ok_of q.2) (omega arith)
  cond_nodes scope (divisible a by_at by so) x e =
      let p = then_is (ix_tree scope a) _ x e in
      let h = ix_nodes scope a p.0 p.1 in
      subst (λ (y : Cond). nodes_of_cond y ≤ 1 + ix_size a) (ok_of p.2) (omega arith)
  cond_nodes scope (all_of cs) x e =
      let p = then_is (conds_tree scope cs) _ x e in
      let h = conds_nodes scope cs p.0 p.1 in
      subst (λ (y : Cond). nodes_of_cond y ≤ 1 + conds_size cs) (ok_of p.2) (omega (arith, h, ap (λ (r : Reading). r.nodes) (all_here reading_step p.0)))
  cond_nodes scope (any_of cs) x e =
      let p = then_is (conds_tree scope cs) _ x e in
      let h = conds_nodes scope cs p.0 p.1 in
      subst (λ (y : Cond). nodes_of_cond y ≤ 1 + conds_size cs) (ok_of p.2) (omega (arith, h, ap (λ (r : Reading). r.nodes) (any_here reading_step p.0)))

-- ---- Values

value_nodes : (scope : Scope) (c : ValueDraft) (x : Val) → value_tree scope c ≡ Ok x → (value_of x).nodes ≤ value_size c
value_nodes scope (load at w subs) x e =
    let p = then_is (array_named scope at w false (length subs)) _ x e in
    let q = then_is (each (ix_tree scope) subs) _ x p.2 in
    let h = all_nodes scope subs q.0 q.1 in
    subst (λ (y : Val). (value_of y).nodes ≤ 1 + sum_by ix_size subs) (ok_of q.2) (omega arith)
value_nodes scope (constant n) x e = subst (λ (y : Val). (value_of y).nodes ≤ 1) (ok_of e) (omega arith)
value_nodes scope (cast a) x e =
    let p = then_is (ix_tree scope a) _ x e in
    let h = ix_nodes scope a p.0 p.1 in
    subst (λ (y : Val). (value_of y).nodes ≤ 1 + ix_size a) (ok_of p.2) (omega arith)
value_nodes scope (complement v) x e =
    let p = then_is (value_tree scope v) _ x e in
    let h = value_nodes scope v p.0 p.1 in
    subst (λ (y : Val). (value_of y).nodes ≤ 1 + value_size v) (ok_of p.2) (omega (arith, ap (λ (a : Value). a.nodes) (not_here value_step p.0)))
value_nodes scope (binary op v w) x e =
    let p = then_is (value_tree scope v) _ x e in
    let q = then_is (value_tree scope w) _ x p.2 in
    let h = value_nodes scope v p.0 p.1 in
    let k = value_nodes scope w q.0 q.1 in
    subst (λ (y : Val). (value_of y).nodes ≤ 1 + value_size v + value_size w) (ok_of q.2) (omega (arith, ap (λ (a : Value). a.nodes) (bin_here value_step op p.0 q.0)))
value_nodes scope (shift left v by) x e =
    let p = then_is (value_tree scope v) _ x e in
    let h = value_nodes scope v p.0 p.1 in
    subst (λ (y : Val). (value_of y).nodes ≤ 1 + value_size v) (ok_of p.2) (omega (arith, ap (λ (a : Value). a.nodes) (shift_here value_step left p.0 by)))

-- ---- Statements

locals_nodes : (scope : Scope) (cs : List LocalDraft) (r : List Local × Scope) → locals_tree scope cs ≡ Ok r → nodes_of_locals r.0 ≤ sum_by local_size cs
locals_nodes scope [] r e = subst (λ (z : List Local × Scope). nodes_of_locals z.0 ≤ 0) (ok_of e) (omega arith)
locals_nodes scope (c ∷ cs) r e =
    let a = allowed_is (why_declared scope false c.name) c.at _ r e in
    let p = then_is (ix_tree scope c.value) _ r a.1 in
    let q = then_is (locals_tree (with_number false scope c.name) cs) _ r p.2 in
    let h = ix_nodes scope c.value p.0 p.1 in
    let k = locals_nodes (with_number false scope c.name) cs q.0 q.1 in
    let one : Local = record { name = c.name; value = p.0 } in
    subst (λ (z : List Local × Scope). nodes_of_locals z.0 ≤ sum_by local_size (c ∷ cs)) (ok_of q.2)
    (omega (arith, sum_by-cons (λ (l : Local). nodes_of_ix l.value) one q.0.0, sum_by-cons local_size c cs))

-- so many nodes at most, and so many assignments
abbrev Has : ℕ → List Denotation → Type 0
Has n ps = (nodes_in ps ≤ n) × (assigns_in ps ≤ n)

abbrev HasOne : ℕ → Denotation → Type 0
HasOne n p = (p.nodes ≤ n) × (p.assigns ≤ n)

has_more : (m n : ℕ) (xs : List Stmt) (x : Stmt) → Has m (map denotation_of xs) → HasOne n (denotation_of x) → Has (m + n) (map denotation_of (xs ++ x ∷ []))
has_more m n xs x h k =
    subst (Has (m + n)) (sym (map-append denotation_of xs (x ∷ []))) (
      omega (arith, h.0, k.0, sum_by-append (λ (p : Denotation). p.nodes) (map denotation_of xs) (denotation_of x ∷ []), sum_by-cons (λ (p : Denotation). p.nodes) (denotation_of x) []),
      omega (arith, h.1, k.1, sum_by-append (λ (p : Denotation). p.assigns) (map denotation_of xs) (denotation_of x ∷ []), sum_by-cons (λ (p : Denotation). p.assigns) (denotation_of x) []),
    )

mutual
  pub stmts_has : (scope : Scope) (cs : StmtsDraft) (xs : List Stmt) → stmts_tree scope cs ≡ Ok xs → Has (stmts_size cs) (map denotation_of xs)
  stmts_has scope no_stmts xs e = subst (λ (l : List Stmt). Has 0 (map denotation_of l)) (ok_of e) (omega arith, omega arith)
  stmts_has scope (and_stmt cs c) xs e =
      let p = then_is (stmts_tree scope cs) _ xs e in
      let q = then_is (stmt_tree scope c) _ xs p.2 in
      subst (λ (l : List Stmt). Has (stmts_size cs + stmt_size c) (map denotation_of l)) (ok_of q.2) (has_more (stmts_size cs) (stmt_size c) p.0 q.0 (stmts_has scope cs p.0 p.1) (stmt_has scope c q.0 q.1))

  stmt_has : (scope : Scope) (c : StmtDraft) (x : Stmt) → stmt_tree scope c ≡ Ok x → HasOne (stmt_size c) (denotation_of x)
  stmt_has scope (for_loop h body) x e =
      let p = then_is (head_tree scope h) _ x e in
      let q = then_is (stmts_tree (with_number true scope h.iterator.name) body) _ x p.2 in
      let a = allowed_is (why_declared scope true h.iterator.name) h.iterator.at _ p.0 p.1 in
      let low = then_is (ix_tree scope h.low) _ p.0 a.1 in
      let b = allowed_is (why_repeated scope h.iterator.name h.tested.name) h.tested.at _ p.0 low.2 in
      let high = then_is (ix_tree scope h.high) _ p.0 b.1 in
      let c = allowed_is (why_repeated scope h.iterator.name h.stepped.name) h.stepped.at _ p.0 high.2 in
      let bounds : (low.0, high.0) ≡ p.0 = ok_of c.1 in
      let m = ix_nodes scope h.low low.0 low.1 in
      let n = ix_nodes scope h.high high.0 high.1 in
      let first : nodes_of_ix low.0 ≡ nodes_of_ix p.0.0 = ap (λ (z : Ix × Ix). nodes_of_ix z.0) bounds in
      let last : nodes_of_ix high.0 ≡ nodes_of_ix p.0.1 = ap (λ (z : Ix × Ix). nodes_of_ix z.1) bounds in
      let k = stmts_has (with_number true scope h.iterator.name) body q.0 q.1 in
      let here = for_here stmt_step h.iterator.name p.0.0 h.rel p.0.1 q.0 in
      subst (λ (y : Stmt). HasOne (stmt_size (for_loop h body)) (denotation_of y)) (ok_of q.2)
      (omega (arith, m, n, first, last, k.0, ap (λ (a : Denotation). a.nodes) here), omega (arith, k.1, ap (λ (a : Denotation). a.assigns) here))
  stmt_has scope (if_cond at c body other) x e =
      let p = then_is (cond_tree scope c) _ x e in
      let q = then_is (stmts_tree scope body) _ x p.2 in
      let r = then_is (stmts_tree scope other) _ x q.2 in
      let m = cond_nodes scope c p.0 p.1 in
      let k = stmts_has scope body q.0 q.1 in
      let l = stmts_has scope other r.0 r.1 in
      let here = if_here stmt_step p.0 q.0 r.0 in
      subst (λ (y : Stmt). HasOne (stmt_size (if_cond at c body other)) (denotation_of y)) (ok_of r.2)
      (omega (arith, m, k.0, l.0, ap (λ (a : Denotation). a.nodes) here), omega (arith, k.1, l.1, ap (λ (a : Denotation). a.assigns) here))
  stmt_has scope (assign w subs op v) x e =
      let p = then_is (array_named scope w.at w.name true (length subs)) _ x e in
      let q = then_is (each (ix_tree scope) subs) _ x p.2 in
      let r = then_is (value_tree scope v) _ x q.2 in
      let m = all_nodes scope subs q.0 q.1 in
      let n = value_nodes scope v r.0 r.1 in
      subst (λ (y : Stmt). HasOne (stmt_size (assign w subs op v)) (denotation_of y)) (ok_of r.2) (omega arith, omega arith)
  stmt_has scope (block cs body) x e =
      let p = then_is (locals_tree scope cs) _ x e in
      let q = then_is (stmts_tree p.0.1 body) _ x p.2 in
      let m = locals_nodes scope cs p.0 p.1 in
      let k = stmts_has p.0.1 body q.0 q.1 in
      let here = block_here stmt_step p.0.0 q.0 in
      subst (λ (y : Stmt). HasOne (stmt_size (block cs body)) (denotation_of y)) (ok_of q.2)
      (omega (arith, m, k.0, ap (λ (a : Denotation). a.nodes) here), omega (arith, k.1, ap (λ (a : Denotation). a.assigns) here))
