-- What the tree of a text that reads has: few nodes, arrays and assignments, and accesses of its own arrays with their numbers of subscripts.
use Rattle.std.proofs.Common.{◌≡◌, ℕ, suc, ◌+◌, ◌≤◌, ◌<◌, ◌^◌, Bool, true, false, nat_lt, List, [], ◌∷◌, ◌++◌, length, map, Option, Some, None, Result, Ok, Err, refl, sym, ap, subst, ◌∙◌, arith, lit<, lit≤, length-append}
use Rattle.std.specs.Prelude.{IsTrue, sum_by, slice_get}
use Rattle.std.specs.List.{list_all}
use Rattle.std.proofs.lemmas.Bool.{and_parts, and_from}
use Rattle.std.proofs.lemmas.Bool.Decides.{nat_tests}
use borrow.Author.Tests.{lt-ltb}
use Rattle.std.proofs.lemmas.List.{map-append, length-map}
use Rattle.std.proofs.lemmas.Option.{slice_get_within}
use Rattle.std.proofs.lemmas.List.Sums.{sum_by-cons, sum_by-append}
use Rattle.affc_lex.specs.Bytes.{same}
use Rattle.affc_ast.specs.declared.tree.Compare.{Compare}
use Rattle.affc_ast.specs.declared.tree.Decl.{Decl}
use Rattle.affc_ast.specs.declared.tree.Param.{Param}
use Rattle.affc_ast.specs.declared.tree.Program.{Program}
use Rattle.affc_ast.specs.declared.tree.Role.{Role}
use Rattle.affc_ast.specs.Counted.{IsCounted, array_count}
use Rattle.affc_ast.specs.Index.{nodes_of_ix, nodes_of_compare}
use Rattle.affc_ast.specs.Meaning.{arrays_of, nodes_of_decls}
use Rattle.affc_ast.specs.Ranks.{rank_of, ranks, is_rank, has_rank, ranks_step, is_ranked, has_right_ranks}
use Rattle.affc_ast.specs.Recursion.{by_val}
use Rattle.affc_ast.specs.Trace.{Assignment, assignments}
use Rattle.affc_grammar.specs.declared.fault.LimitName.{LimitName}
use Rattle.affc_grammar.specs.declared.fault.LimitName.TheVariants.{Tokens, Run, Depth, Items}
use Rattle.affc_grammar.specs.Grammar.{Symbol, Name, text_symbols}
use Rattle.affc_grammar.specs.Draft.{DeclDraft, ParamDraft, number_param, array_param, PragmaDraft, range, context, TextDraft, text_draft}
use Rattle.affc_grammar.specs.Limits.{Limits, limits_of, wide_limits, Passed, passed_at, least, at_if, shape_passed, tokens_past, count_token, count_run, count_open, count_item, products_of_names, passed}
use Rattle.affc_grammar.specs.Names.{Thing, function, array, Scope, thing_of, why_declared, why_ranged, Checked, each, range_of, number_tree, ix_tree, compare_tree, stmts_tree, outermost, with_params, with_number, with_array, pragmas_tree, decl_tree, param_tree, params_tree, temps_tree, function_why, program_tree}
use Rattle.affc_grammar.specs.Reads.{symbols, has_prelude, Derives, ReadsBy, Reads, ReadsWide, TextFault, within_limits, affine, named, tree_of}
use Rattle.affc_grammar.proofs.DraftSizes.{decl_size, param_size, pragma_size, text_size, text_fits}
use Rattle.affc_grammar.proofs.Ranked.{Knows, thing_with, function_is_array, params_known, temps_known, stmts_ranked}
use Rattle.affc_grammar.proofs.Steps.{ok_of, then_is, allowed_is}
use Rattle.affc_grammar.proofs.TreeSizes.{all_nodes, compares_nodes, stmts_has}

-- ---- Declarations and lines

decl_nodes : (scope : Scope) (c : DeclDraft) (x : Decl) → decl_tree scope c ≡ Ok x → 1 + sum_by nodes_of_ix x.extents ≤ decl_size c
decl_nodes scope c x e =
    let a = allowed_is (why_declared scope false c.word.name) c.word.at _ x e in
    let p = then_is (each (ix_tree scope) c.extents) _ x a.1 in
    let h = all_nodes scope c.extents p.0 p.1 in
    subst (λ (y : Decl). 1 + sum_by nodes_of_ix y.extents ≤ decl_size c) (ok_of p.2) (omega arith)

-- so many arrays and nodes together
abbrev FitDecls : ℕ → List Decl → Type 0
FitDecls n ds = length ds + nodes_of_decls ds ≤ n

more_decls : (x : Decl) (xs : List Decl) (m n : ℕ) → 1 + sum_by nodes_of_ix x.extents ≤ m → FitDecls n xs → FitDecls (m + n) (x ∷ xs)
more_decls x xs m n h k = omega (arith, h, k, sum_by-cons (λ (d : Decl). sum_by nodes_of_ix d.extents) x xs)

more_by : (m n : ℕ) (ds : List Decl) → m ≡ 0 + n → FitDecls n ds → FitDecls m ds
more_by m n ds e h = omega arith

params_fit : (scope : Scope) (ps : List PragmaDraft) (cs : List ParamDraft) (xs : List Param) → params_tree scope ps cs ≡ Ok xs → FitDecls (sum_by param_size cs) (arrays_of xs)
params_fit scope ps [] xs e = subst (λ (l : List Param). FitDecls 0 (arrays_of l)) (ok_of e) (omega arith)
params_fit scope ps (number_param w ∷ cs) xs e =
    let p = then_is (param_tree scope ps (number_param w)) _ xs e in
    let q = then_is (params_tree (with_number false scope w.name) ps cs) _ xs p.2 in
    let a = allowed_is (why_declared scope false w.name) w.at _ p.0 p.1 in
    let k = params_fit (with_number false scope w.name) ps cs q.0 q.1 in
    let sum = sum_by-cons param_size (number_param w) cs in
    subst (λ (l : List Param). FitDecls (sum_by param_size (number_param w ∷ cs)) (arrays_of l)) (ok_of q.2)
    (by (range_of w.name ps) p.0 a.1 q.0 (more_by (sum_by param_size (number_param w ∷ cs)) (sum_by param_size cs) (arrays_of q.0) sum k))
  where
    by : (o : _) (x : Param) → number_tree w.at w.name o ≡ Ok x → (others : List Param) → FitDecls (sum_by param_size (number_param w ∷ cs)) (arrays_of others) → FitDecls (sum_by param_size (number_param w ∷ cs)) (arrays_of (x ∷ others))
    by None x e others k = absurd (cc)
    by (Some r) x e others k = subst (λ (y : Param). FitDecls (sum_by param_size (number_param w ∷ cs)) (arrays_of (y ∷ others))) (ok_of e) k
params_fit scope ps (array_param d ∷ cs) xs e =
    let p = then_is (param_tree scope ps (array_param d)) _ xs e in
    let inner = with_array scope d.word.name d.role (length d.extents) in
    let q = then_is (params_tree inner ps cs) _ xs p.2 in
    let a = then_is (decl_tree scope d) _ p.0 p.1 in
    let k = params_fit inner ps cs q.0 q.1 in
    let sum = sum_by-cons param_size (array_param d) cs in
    subst (λ (l : List Param). FitDecls (sum_by param_size (array_param d ∷ cs)) (arrays_of l)) (ok_of q.2)
    (subst (λ (x : Param). FitDecls (sum_by param_size (array_param d ∷ cs)) (arrays_of (x ∷ q.0))) (ok_of a.2)
    (subst (λ n. FitDecls n (a.0 ∷ arrays_of q.0)) (sym sum) (more_decls a.0 (arrays_of q.0) (decl_size d) (sum_by param_size cs) (decl_nodes scope d a.0 a.1) k)))

temps_fit : (scope : Scope) (cs : List DeclDraft) (r : List Decl × Scope) → temps_tree scope cs ≡ Ok r → FitDecls (sum_by decl_size cs) r.0
temps_fit scope [] r e = subst (λ (z : List Decl × Scope). FitDecls 0 z.0) (ok_of e) (omega arith)
temps_fit scope (d ∷ cs) r e =
    let p = then_is (decl_tree scope d) _ r e in
    let inner = with_array scope d.word.name d.role (length d.extents) in
    let q = then_is (temps_tree inner cs) _ r p.2 in
    subst (λ (z : List Decl × Scope). FitDecls (sum_by decl_size (d ∷ cs)) z.0) (ok_of q.2)
    (subst (λ n. FitDecls n (p.0 ∷ q.0.0)) (sym (sum_by-cons decl_size d cs)) (more_decls p.0 q.0.0 (decl_size d) (sum_by decl_size cs) (decl_nodes scope d p.0 p.1) (temps_fit inner cs q.0 q.1)))

pragmas_fit : (scope : Scope) (earlier : List Name) (ps : List PragmaDraft) (xs : List Compare) → pragmas_tree scope earlier ps ≡ Ok xs → sum_by nodes_of_compare xs ≤ sum_by pragma_size ps
pragmas_fit scope earlier [] xs e = subst (λ (l : List Compare). sum_by nodes_of_compare l ≤ 0) (ok_of e) (omega arith)
pragmas_fit scope earlier (range w low_at low high ∷ ps) xs e =
    let a = allowed_is (why_ranged scope earlier w.name (thing_of scope w.name)) w.at _ xs e in
    let k = pragmas_fit scope (w.name ∷ earlier) ps xs a.1 in
    omega (arith, sum_by-cons pragma_size (range w low_at low high) ps)
pragmas_fit scope earlier (context at cs ∷ ps) xs e =
    let p = then_is (each (compare_tree scope) cs) _ xs e in
    let q = then_is (pragmas_tree scope earlier ps) _ xs p.2 in
    let h = compares_nodes scope cs p.0 p.1 in
    let k = pragmas_fit scope earlier ps q.0 q.1 in
    subst (λ (l : List Compare). sum_by nodes_of_compare l ≤ sum_by pragma_size (context at cs ∷ ps)) (ok_of q.2)
    (omega (arith, sum_by-append nodes_of_compare p.0 q.0, sum_by-cons pragma_size (context at cs) ps))

-- ---- The tree of a draft

pub record IsTree (c : TextDraft) (p : Program) : Type 0 where
  pub prelude : p.prelude ≡ c.has_prelude
  pub temps_are : List Decl × Scope
  pub context : pragmas_tree (with_params (outermost c) c.params) [] c.pragmas ≡ Ok p.context
  pub params : params_tree (outermost c) c.pragmas c.params ≡ Ok p.params
  pub temps : temps_tree (with_params (outermost c) c.params) c.temps ≡ Ok temps_are
  pub same_temps : temps_are.0 ≡ p.temps
  pub body : stmts_tree temps_are.1 c.body ≡ Ok p.body

pub tree_parts : (c : TextDraft) (p : Program) → program_tree c ≡ Ok p → IsTree c p
tree_parts c p e =
    let inside = with_params (outermost c) c.params in
    let conditions = then_is (pragmas_tree inside [] c.pragmas) _ p e in
    let named = allowed_is (function_why inside c.function.name) c.function.at _ p conditions.2 in
    let params = then_is (params_tree (outermost c) c.pragmas c.params) _ p named.1 in
    let temps = then_is (temps_tree inside c.temps) _ p params.2 in
    let body = then_is (stmts_tree temps.0.1 c.body) _ p temps.2 in
    let whole : record { name = c.function.name; params = params.0; context = conditions.0; temps = temps.0.0; body = body.0; prelude = c.has_prelude } ≡ p = ok_of body.2 in
    record {
      prelude = ap (λ (q : Program). q.prelude) (sym whole);
      temps_are = temps.0;
      context = conditions.1 ∙ ap (λ (q : Program). Ok q.context) whole;
      params = params.1 ∙ ap (λ (q : Program). Ok q.params) whole;
      temps = temps.1;
      same_temps = ap (λ (q : Program). q.temps) whole;
      body = body.1 ∙ ap (λ (q : Program). Ok q.body) whole;
    }

none_is_array : (id : ℕ) (role : Role) (n : ℕ) → ◌≡◌ {A = Option Thing} None (Some (array id role n)) → ⊥
none_is_array id role n e = cc

outside_knows : (c : TextDraft) → Knows (outermost c) []
outside_knows c = record { count = refl; found = λ w id role n e. absurd (none w id role n e) }
  where
    nothing : Scope
    nothing = record { has_prelude = c.has_prelude; visible = [] }

    none : (w : Name) (id : ℕ) (role : Role) (n : ℕ) → thing_of (outermost c) w ≡ Some (array id role n) → ⊥
    none w id role n e = by (same c.function.name w) refl
      where
        by : (t : Bool) → same c.function.name w ≡ t → ⊥
        by true q = function_is_array id role n (sym (thing_with nothing c.function.name w function true q) ∙ e)
        by false q = absurd (none_is_array id role n (sym (thing_with nothing c.function.name w function false q) ∙ e))

pub tree_ranked : (c : TextDraft) (p : Program) → program_tree c ≡ Ok p → has_right_ranks p ≡ true
tree_ranked c p e =
    let t = tree_parts c p e in
    let inside = with_params (outermost c) c.params in
    let given = params_known (outermost c) [] (outside_knows c) c.pragmas c.params p.params t.params in
    let all = temps_known inside (map rank_of (arrays_of p.params)) given c.temps t.temps_are t.temps in
    let same : map rank_of (arrays_of p.params) ++ map rank_of t.temps_are.0 ≡ ranks p = ap (λ (l : List Decl). map rank_of (arrays_of p.params) ++ map rank_of l) t.same_temps ∙ sym (map-append rank_of (arrays_of p.params) p.temps) in
    stmts_ranked (ranks p) t.temps_are.1 (subst (Knows t.temps_are.1) same all) c.body p.body t.body

-- ---- What is within the arrays

within_ranks : (ns : List ℕ) (i n : ℕ) → is_rank (slice_get ns i) n ≡ true → i < length ns
within_ranks ns i n e = by (slice_get ns i) refl e
  where
    by : (o : Option ℕ) → slice_get ns i ≡ o → is_rank o n ≡ true → i < length ns
    by None q e = absurd (cc)
    by (Some r) q e = slice_get_within ns i r q

all_kept : {A : Type 0} (p q : A → Bool) → ((a : A) → p a ≡ true → q a ≡ true) → (as' : List A) → list_all p as' ≡ true → list_all q as' ≡ true
all_kept p q h [] e = refl
all_kept p q h (a ∷ as') e = let k = and_parts (p a) (list_all p as') e in and_from (q a) (list_all q as') (h a k.0) (all_kept p q h as' k.1)

own_arrays : (p : Program) → has_right_ranks p ≡ true → list_all (λ a. nat_lt a.array.0 (array_count p)) (assignments p) ≡ true
own_arrays p = all_kept (is_ranked (ranks p)) (λ (a : Assignment). nat_lt a.array.0 (array_count p)) own (assignments p)
  where
    many : length (ranks p) ≡ array_count p
    many = length-map (arrays_of p.params ++ p.temps) rank_of ∙ length-append (arrays_of p.params) p.temps

    own : (a : Assignment) → is_ranked (ranks p) a ≡ true → nat_lt a.array.0 (array_count p) ≡ true
    own a e =
        let k = and_parts (has_rank (ranks p) a.array (length a.subs)) (by_val (ranks_step (ranks p)) a.value) e in
        let h : a.array.0 < length (ranks p) = within_ranks (ranks p) a.array.0 (length a.subs) k.0 in
        lt-ltb a.array.0 (array_count p) (omega (arith, h, many))

-- a draft that is small has a small tree
tree_counted : (c : TextDraft) (p : Program) → program_tree c ≡ Ok p → text_size c < 2 ^ 32 → IsCounted p
tree_counted c p e few =
    let t = tree_parts c p e in
    let inside = with_params (outermost c) c.params in
    let a = pragmas_fit inside [] c.pragmas p.context t.context in
    let b = params_fit (outermost c) c.pragmas c.params p.params t.params in
    let d : FitDecls (sum_by decl_size c.temps) p.temps = subst (FitDecls (sum_by decl_size c.temps)) t.same_temps (temps_fit inside c.temps t.temps_are t.temps) in
    let s = stmts_has t.temps_are.1 c.body p.body t.body in
    record {
      arrays = omega (arith, b, d, few);
      nodes = omega (arith, a, b, d, s.0, few);
      assigns = omega (arith, s.1, few);
      own_arrays = own_arrays p (tree_ranked c p e);
    }

-- ---- The number of tokens

none_at : (b : Bool) (at : ℕ) (others : List ℕ) → at_if b at ++ others ≡ [] → (b ≡ false) × (others ≡ [])
none_at true at others e = absurd (cc)
none_at false at others e = (refl, e)

few_tokens : (limit at count : ℕ) (ss : List Symbol) → count ≤ limit → tokens_past count_token limit at count ss ≡ [] → count + length ss ≤ limit
few_tokens limit at count [] h e = omega arith
few_tokens limit at count (s ∷ ss) h e =
    let k = none_at (nat_lt limit (count + 1)) at (tokens_past count_token limit (at + 1) (count + 1) ss) e in
    let low : count + 1 ≤ limit = not_below limit (count + 1) k.0 in
    let rest = few_tokens limit (at + 1) (count + 1) ss low k.1 in
    omega (arith, rest)
  where
    not_below : (m n : ℕ) → nat_lt m n ≡ false → n ≤ m
    not_below m n e = grind (arith, nat_tests)

-- with one token more than the limit, the last one passes it
pub past_tokens : (limit n : ℕ) (ss : List Symbol) → n + length ss ≡ limit + 1 → n ≤ limit → tokens_past count_token limit n n ss ≡ limit ∷ []
past_tokens limit n [] e h = absurd (omega arith)
past_tokens limit n (s ∷ ss) e h = by (nat_lt limit (n + 1)) refl ss (omega arith) (λ low. past_tokens limit (n + 1) ss (omega arith) low)
  where
    past : (m n : ℕ) → nat_lt m n ≡ true → m < n
    past m n e = grind (arith, nat_tests)

    not_past : (m n : ℕ) → nat_lt m n ≡ false → n ≤ m
    not_past m n e = grind (arith, nat_tests)

    last : (us : List Symbol) → length us ≡ 0 → tokens_past count_token limit (n + 1) (n + 1) us ≡ []
    last [] e = refl
    last (u ∷ us) e = absurd (omega arith)

    by : (t : Bool) → nat_lt limit (n + 1) ≡ t → (us : List Symbol) → n + suc (length us) ≡ limit + 1 → (n + 1 ≤ limit → tokens_past count_token limit (n + 1) (n + 1) us ≡ limit ∷ [])
        → at_if (nat_lt limit (n + 1)) n ++ tokens_past count_token limit (n + 1) (n + 1) us ≡ limit ∷ []
    by true q us f next =
        let above = past limit (n + 1) q in
        let same : n ≡ limit = omega arith in
        let none : length us ≡ 0 = omega arith in
        (λ i. at_if (q i) n ++ last us none i) ∙ ap (λ k. k ∷ []) same
    by false q us f next = ap (λ b. at_if b n ++ tokens_past count_token limit (n + 1) (n + 1) us) q ∙ next (not_past limit (n + 1) q)

none_left : (xs ys : List Passed) → xs ++ ys ≡ [] → xs ≡ []
none_left [] ys e = refl
none_left (x ∷ xs) ys e = absurd (cc)

no_place : (which : LimitName) (places : List ℕ) → passed_at which places ≡ [] → places ≡ []
no_place which [] e = refl
no_place which (p ∷ ps) e = absurd (cc)

within_tokens : (limits : Limits) (ss : List Symbol) → shape_passed limits ss ≡ [] → length ss ≤ limits.tokens
within_tokens limits ss e =
    let tokens = tokens_past count_token limits.tokens 0 0 ss in
    let run = passed_at Run (tokens_past count_run limits.run 0 0 ss) in
    let depth = passed_at Depth (tokens_past count_open limits.depth 0 0 ss) in
    let items = passed_at Items (tokens_past count_item limits.items 0 0 ss) in
    let h = few_tokens limits.tokens 0 0 ss (omega arith) (no_place Tokens tokens (none_left (passed_at Tokens tokens) run (none_left (passed_at Tokens tokens ++ run) depth (none_left ((passed_at Tokens tokens ++ run) ++ depth) items e)))) in
    omega (arith, h)

-- ---- The text

-- what a text of the grammar whose tree is this has kept
pub tree_kept : (limits : Limits) (c : TextDraft) (p : Program) → tree_of limits c ≡ Ok p → (program_tree c ≡ Ok p) × (products_of_names c ≡ []) × (least (passed limits c) ≡ None)
tree_kept limits c p e = by (program_tree c) refl (products_of_names c) refl (least (passed limits c)) refl e
  where
    same_program : (t : Program) → ◌≡◌ {A = Result Program TextFault} (Ok t) (Ok p) → ◌≡◌ {A = Checked Program} (Ok t) (Ok p)
    same_program t e = ap (λ (r : Result Program TextFault). elim r [ Ok x ↦ Ok x | Err y ↦ Ok t ]) e

    by : (r : Checked Program) → program_tree c ≡ r → (ps : List ℕ) → products_of_names c ≡ ps → (o : Option Passed) → least (passed limits c) ≡ o → named r (λ tree. affine ps (within_limits o tree)) ≡ Ok p
        → (program_tree c ≡ Ok p) × (products_of_names c ≡ []) × (least (passed limits c) ≡ None)
    by (Ok t) f [] g None h e = (f ∙ same_program t e, g, h)
    by (Ok t) f [] g (Some q) h e = absurd (cc)
    by (Ok t) f (n ∷ ps) g o h e = absurd (cc)
    by (Err r) f ps g o h e = absurd (cc)

derives_counted : (limits : Limits) (ss : List Symbol) (p : Program) → limits.tokens ≤ 16777216 → Derives limits ss p → IsCounted p
derives_counted limits ss p most d =
    let c = text_draft d.written in
    let k = within_tokens limits ss d.shape in
    let same : length ss ≡ length (text_symbols d.written) = ap length d.spelled in
    let fits = text_fits d.written in
    let top : 16777216 < 2 ^ 32 = lit< tt in
    tree_counted c p (tree_kept limits c p d.its_tree).0 (omega (arith, k, same, fits, most, top))

derives_ranked : (limits : Limits) (ss : List Symbol) (p : Program) → Derives limits ss p → IsTrue (has_right_ranks p)
derives_ranked limits ss p d = tree_ranked (text_draft d.written) p (tree_kept limits (text_draft d.written) p d.its_tree).0

few_for : (b : Bool) → (limits_of b).tokens ≤ 16777216
few_for true = lit≤ tt
few_for false = lit≤ tt

pub reads_counted : (text : List ℕ) (p : Program) → Reads text p → IsCounted p
reads_counted text p r = derives_counted (limits_of (has_prelude (symbols r.tokens))) (symbols r.tokens) p (few_for (has_prelude (symbols r.tokens))) r.derives

pub reads_wide_counted : (text : List ℕ) (p : Program) → ReadsWide text p → IsCounted p
reads_wide_counted text p r = derives_counted wide_limits (symbols r.tokens) p (few_for true) r.derives

pub reads_ranked : (limits_for : Bool → Limits) (text : List ℕ) (p : Program) → ReadsBy limits_for text p → IsTrue (has_right_ranks p)
reads_ranked limits_for text p r = derives_ranked (limits_for (has_prelude (symbols r.tokens))) (symbols r.tokens) p r.derives
