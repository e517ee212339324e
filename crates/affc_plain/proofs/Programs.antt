-- A program that a text without the prelude reads as is plain.
use Rattle.std.proofs.Common.{◌≡◌, ℕ, ◌+◌, ◌≤◌, Bool, true, false, IsTrue, List, [], ◌∷◌, ◌++◌, length, drop, map, flat_map, Option, Some, None, Ok, Err, refl, sym, ap, subst, ◌∙◌, arith, cond}
use Rattle.std.specs.Prelude.{filter, not, ◌||◌, nat_lt, nat_le, Result, if◌then◌else◌}
use Rattle.std.proofs.lemmas.Bool.{false≢true}
use Rattle.std.proofs.lemmas.Grind.{flat_map-append}
use Rattle.std.proofs.lemmas.List.{length-map}
use Rattle.affc_lex.specs.Bytes.{same}
use Rattle.affc_ast.specs.declared.tree.Decl.{Decl}
use Rattle.affc_ast.specs.declared.tree.Program.{Program}
use Rattle.affc_ast.specs.Joined.{has_joined_tests}
use Rattle.affc_grammar.specs.declared.fault.LimitName.{LimitName}
use Rattle.affc_grammar.specs.Grammar.{Name, LineText, PragmasText, FunctionText, context_calls, Text}
use Rattle.affc_grammar.specs.Draft.{IxDraft, TextDraft, text_draft}
use Rattle.affc_grammar.specs.Names.{Thing, function, number, Scope, Checked, function_why, thing_of, with_params, outermost, pragmas_tree, params_tree, temps_tree, stmts_tree, program_tree}
use Rattle.affc_grammar.specs.Limits.{Limits, limits_of, plain_limits, passes, Passed, passed_at, least, nearer, passed, products_in, large_parts, products_of_names, affine_texts, pragma_texts, param_texts, stmts_texts, divisors_past, no_round, Assigned, assigned, number_words, param_decls, ranges_past, contexts_past, loops_past, empty_bodies}
use Rattle.affc_grammar.specs.Reads.{TextFault, within_limits, affine, named, tree_of, symbols, has_prelude}
use Rattle.affc_domain.specs.Plain.{plain_decls, IsPlain}
use Rattle.affc_domain.specs.Ranges.{number_ranges}
use Rattle.affc_plain.specs.Laws.{ReadsPlain}
use Rattle.affc_plain.proofs.Lists.{few_left, none_mapped, filter_none, filter_parts, no_append}
use Rattle.affc_plain.proofs.Forms.{then_ok}
use Rattle.affc_plain.proofs.Small.{at_most}
use Rattle.affc_plain.proofs.Scopes.{Counts, thing_with}
use Rattle.affc_plain.proofs.Expressions.{AllFine, ok_of, allowed_ok}
use Rattle.affc_plain.proofs.Statements.{AreBare, AllWithin, stmts_plain}
use Rattle.affc_plain.proofs.FromGrammar.{NoCalls, fine_all, stmts_calls, stmts_bare, params_calls, decls_calls, extents_of}
use Rattle.affc_plain.proofs.Declared.{is_deep, temps_plain, params_behind, params_plain, ranges_plain}
use Rattle.affc_plain.proofs.NoPrelude.{no_prelude}
use Rattle.affc_plain.proofs.Context.{AreBareLines, lines_bare, lines_calls, lines_plain, lines_few}
use Rattle.affc_plain.proofs.Full.{stmts_full}
use Rattle.affc_plain.proofs.Assignments.{stmts_counted}

-- ---- Outside the function no number is visible

outside_counts : (c : TextDraft) → Counts (outermost c) 0
outside_counts c = record {
  count = refl;
  numbers = record { below = λ w id it e. absurd (none w id it (same c.function.name w) refl e); found = λ id h. absurd (omega (arith, h)); one = λ v w id it is e f. absurd (none v id it (same c.function.name v) refl e) };
}
  where
    none : (w : Name) (id : ℕ) (it : Bool) (t : Bool) → same c.function.name w ≡ t → thing_of (outermost c) w ≡ Some (number id it) → ⊥
    none w id it t k e = by t (sym (thing_with (record { has_prelude = c.has_prelude; visible = [] }) c.function.name w function t k) ∙ e)
      where
        by : (t : Bool) → ◌≡◌ {A = Option Thing} (if t then Some function else None) (Some (number id it)) → ⊥
        by true e = cc
        by false e = cc

-- ---- Limits that aren't passed

none_passed : (ps : List Passed) → least ps ≡ None → ps ≡ []
none_passed [] e = refl
none_passed (p ∷ ps) e = absurd (some (least ps) e)
  where
    one : (b : Bool) (q : Passed) → cond b (Some p) (Some q) ≡ None → ⊥
    one true q h = cc
    one false q h = cc

    some : (o : Option Passed) → nearer p o ≡ None → ⊥
    some None h = cc
    some (Some q) h = one (nat_le p.at q.at) q h

no_place : (which : LimitName) (places : List ℕ) → passed_at which places ≡ [] → places ≡ []
no_place which [] e = refl
no_place which (p ∷ ps) e = absurd (cc)

-- what the limits of a text without the prelude say
record Kept (c : TextDraft) : Type 0 where
  words : drop 4 (number_words c.params) ≡ []
  ranges : ranges_past c.pragmas ≡ []
  loops : loops_past 6 0 c.body ≡ []
  statements : drop 64 (map (λ a. a.at) (assigned no_round c.body)) ≡ []
  bodies : empty_bodies c.body ≡ []
  accesses : filter (λ (a : Assigned). nat_lt 16 a.accesses) (assigned no_round c.body) ≡ []
  dimensions : filter is_deep (param_decls c.params ++ c.temps) ≡ []
  contexts : contexts_past 0 c.pragmas ≡ []
  comparisons : filter (λ (a : Assigned). passes (Some 32) a.round.comparisons) (assigned no_round c.body) ≡ []
  parts : flat_map large_parts (affine_texts c) ≡ []
  divisors : divisors_past 65536 c.body ≡ []

kept : (c : TextDraft) → least (passed plain_limits c) ≡ None → Kept c
kept c e =
    let pieces = no_append _ _ (none_passed (passed plain_limits c) e) in
    let divisors = no_append _ _ pieces.0 in
    let coefficients = no_append _ _ divisors.0 in
    let literals = no_append _ _ coefficients.0 in
    let compared = no_append _ _ literals.0 in
    let contexts = no_append _ _ compared.0 in
    let dimensions = no_append _ _ contexts.0 in
    let accesses = no_append _ _ dimensions.0 in
    let empty = no_append _ _ accesses.0 in
    let statements = no_append _ _ empty.0 in
    let loops = no_append _ _ statements.0 in
    let ranges = no_append _ _ loops.0 in
    record {
      words = no_place _ _ ranges.0;
      ranges = no_place _ _ ranges.1;
      loops = no_place _ _ loops.1;
      statements = no_place _ _ statements.1;
      bodies = no_place _ _ empty.1;
      accesses = none_mapped _ _ (no_place _ _ accesses.1);
      dimensions = none_mapped _ _ (no_place _ _ dimensions.1);
      contexts = no_place _ _ contexts.1;
      comparisons = none_mapped _ _ (no_place _ _ compared.1);
      parts = no_place _ _ coefficients.1;
      divisors = no_place _ _ divisors.1;
    }

within : (as' : List Assigned) → filter (λ (a : Assigned). nat_lt 16 a.accesses) as' ≡ [] → filter (λ (a : Assigned). passes (Some 32) a.round.comparisons) as' ≡ [] → AllWithin as'
within [] e f = tt
within (a ∷ as') e f =
    let x = filter_none (λ (a : Assigned). nat_lt 16 a.accesses) a as' e in
    let y = filter_none (λ (a : Assigned). passes (Some 32) a.round.comparisons) a as' f in
    (record { accesses = at_most 16 a.accesses x.0; comparisons = at_most 32 a.round.comparisons y.0 }, within as' x.1 y.1)

-- ---- The tree's parts

record IsTree (c : TextDraft) (p : Program) : Type 0 where
  prelude : p.prelude ≡ c.has_prelude
  context : pragmas_tree (with_params (outermost c) c.params) [] c.pragmas ≡ Ok p.context
  temps_are : List Decl × Scope
  params : params_tree (outermost c) c.pragmas c.params ≡ Ok p.params
  temps : temps_tree (with_params (outermost c) c.params) c.temps ≡ Ok temps_are
  same_temps : temps_are.0 ≡ p.temps
  body : stmts_tree temps_are.1 c.body ≡ Ok p.body

tree_parts : (c : TextDraft) (p : Program) → program_tree c ≡ Ok p → IsTree c p
tree_parts c p e =
    let inside = with_params (outermost c) c.params in
    let conditions = then_ok (pragmas_tree inside [] c.pragmas) _ p e in
    let named = allowed_ok (function_why inside c.function.name) c.function.at _ p conditions.2 in
    let params = then_ok (params_tree (outermost c) c.pragmas c.params) _ p named.1 in
    let temps = then_ok (temps_tree inside c.temps) _ p params.2 in
    let body = then_ok (stmts_tree temps.0.1 c.body) _ p temps.2 in
    let whole : record { name = c.function.name; params = params.0; context = conditions.0; temps = temps.0.0; body = body.0; prelude = c.has_prelude } ≡ p = ok_of body.2 in
    record {
      prelude = ap (λ (q : Program). q.prelude) (sym whole);
      context = conditions.1 ∙ ap (λ (q : Program). Ok q.context) whole;
      temps_are = temps.0;
      params = params.1 ∙ ap (λ (q : Program). Ok q.params) whole;
      temps = temps.1;
      same_temps = ap (λ (q : Program). q.temps) whole;
      body = body.1 ∙ ap (λ (q : Program). Ok q.body) whole;
    }

-- no index expression of a draft has calls, and its statements are bare
record DraftIsBare (c : TextDraft) : Type 0 where
  lines : AreBareLines c.pragmas
  params : NoCalls (flat_map param_texts c.params)
  temps : NoCalls (flat_map extents_of c.temps)
  body : NoCalls (stmts_texts c.body)
  statements : AreBare c.body

-- all its affine texts are fine
record DraftIsFine (c : TextDraft) : Type 0 where
  lines : AllFine (flat_map pragma_texts c.pragmas)
  params : AllFine (flat_map param_texts c.params)
  temps : AllFine (flat_map extents_of c.temps)
  body : AllFine (stmts_texts c.body)

all_fine : (c : TextDraft) → products_of_names c ≡ [] → flat_map large_parts (affine_texts c) ≡ [] → DraftIsBare c → DraftIsFine c
all_fine c products large b =
    let lines = flat_map pragma_texts c.pragmas in
    let params = flat_map param_texts c.params in
    let temps = flat_map extents_of c.temps in
    let body = stmts_texts c.body in
    let p3 = split products_in ((lines ++ params) ++ temps) body products in
    let p2 = split products_in (lines ++ params) temps p3.0 in
    let p1 = split products_in lines params p2.0 in
    let l3 = split large_parts ((lines ++ params) ++ temps) body large in
    let l2 = split large_parts (lines ++ params) temps l3.0 in
    let l1 = split large_parts lines params l2.0 in
    record { lines = fine_all lines (lines_calls c.pragmas b.lines) p1.0 l1.0; params = fine_all params b.params p1.1 l1.1; temps = fine_all temps b.temps p2.1 l2.1; body = fine_all body b.body p3.1 l3.1 }
  where
    split : (f : IxDraft → List ℕ) (xs ys : List IxDraft) → flat_map f (xs ++ ys) ≡ [] → (flat_map f xs ≡ []) × (flat_map f ys ≡ [])
    split f xs ys e = no_append (flat_map f xs) (flat_map f ys) (sym (flat_map-append f xs ys) ∙ e)

-- of a draft without calls and without locals that keeps the limits
draft_plain : (c : TextDraft) (p : Program) → program_tree c ≡ Ok p → products_of_names c ≡ [] → least (passed plain_limits c) ≡ None → DraftIsBare c → IsTrue (has_joined_tests p) → IsPlain p
draft_plain c p e products limits bare joined =
    let t = tree_parts c p e in
    let k = kept c limits in
    let f = all_fine c products k.parts bare in
    let inside : Scope = with_params (outermost c) c.params in
    let behind = params_behind c.pragmas (outermost c) 0 (outside_counts c) c.params p.params t.params in
    let m = length (number_ranges p.params) in
    let counts : Counts inside m = subst (Counts inside) (start m) behind.counts in
    let deep = filter_parts is_deep (param_decls c.params) c.temps k.dimensions in
    let own = temps_plain m inside counts c.temps t.temps_are t.temps f.temps deep.1 in
    let inner : Counts t.temps_are.1 (m + 0) = subst (Counts t.temps_are.1) (rest m) own.0 in
    record {
      few_numbers = few (length (number_words c.params)) m 4 behind.words (few_left 4 (number_words c.params) k.words);
      ranges = ranges_plain c.pragmas k.ranges (outermost c) c.params p.params t.params;
      few_conditions = few (0 + length p.context) (length p.context) 16 (start (length p.context)) (lines_few inside 0 (omega arith) [] c.pragmas p.context t.context k.contexts);
      context = lines_plain inside m counts.numbers [] c.pragmas p.context t.context f.lines bare.lines;
      arrays = params_plain c.pragmas m (outermost c) 0 (outside_counts c) c.params p.params t.params counts.numbers f.params deep.0;
      temps = ap (plain_decls m) (sym t.same_temps) ∙ own.1;
      body = stmts_plain m 0 no_round t.temps_are.1 inner c.body p.body t.body f.body bare.statements k.divisors k.loops k.bodies (within (assigned no_round c.body) k.accesses k.comparisons);
      full = (stmts_full t.temps_are.1 c.body p.body t.body bare.statements k.bodies).1;
      tests = joined;
      few_assignments = few (length (map (λ a. a.at) (assigned no_round c.body))) _ 64 (length-map (assigned no_round c.body) (λ a. a.at) ∙ sym (stmts_counted no_round t.temps_are.1 c.body p.body t.body))
          (few_left 64 (map (λ a. a.at) (assigned no_round c.body)) k.statements);
    }
  where
    few : (w m most : ℕ) → w ≡ m → w ≤ most → m ≤ most
    few w m most e h = omega (arith, e, h)

    start : (m : ℕ) → 0 + m ≡ m
    start m = omega arith

    rest : (m : ℕ) → m ≡ m + 0
    rest m = omega arith

-- ---- The text

-- what a text of the grammar that reads has kept
tree_kept : (limits : Limits) (c : TextDraft) (p : Program) → tree_of limits c ≡ Ok p → (program_tree c ≡ Ok p) × (products_of_names c ≡ []) × (least (passed limits c) ≡ None)
tree_kept limits c p e = by (program_tree c) refl (products_of_names c) refl (least (passed limits c)) refl e
  where
    by : (r : Checked Program) → program_tree c ≡ r → (ps : List ℕ) → products_of_names c ≡ ps → (o : Option Passed) → least (passed limits c) ≡ o → named r (λ tree. affine ps (within_limits o tree)) ≡ Ok p
        → (program_tree c ≡ Ok p) × (products_of_names c ≡ []) × (least (passed limits c) ≡ None)
    by (Ok t) f [] g None h e = (f ∙ same_program t e, g, h)
      where
        same_program : (t : Program) → ◌≡◌ {A = Result Program TextFault} (Ok t) (Ok p) → ◌≡◌ {A = Checked Program} (Ok t) (Ok p)
        same_program t e = ap (λ (r : Result Program TextFault). elim r [ Ok x ↦ Ok x | Err y ↦ Ok t ]) e
    by (Ok t) f [] g (Some q) h e = absurd (cc)
    by (Ok t) f (n ∷ ps) g o h e = absurd (cc)
    by (Err r) f ps g o h e = absurd (cc)

written_plain : (limits : Limits) (c : Text) (p : Program) → tree_of limits (text_draft c) ≡ Ok p → limits ≡ plain_limits → c.has_prelude ≡ false → IsTrue (has_joined_tests p) → IsPlain p
written_plain limits c p e l h joined = by c.line c.pragmas c.has_prelude c.calls_allowed c.function e h
  where
    by : (line : LineText) (ps : PragmasText) (b : Bool) (k : IsTrue (b || not (context_calls ps))) (f : FunctionText b)
        → tree_of limits (text_draft (record { line = line; pragmas = ps; has_prelude = b; calls_allowed = k; function = f })) ≡ Ok p → b ≡ false → IsPlain p
    by line ps true k f e h = absurd (false≢true (sym h))
    by line ps false k f e h =
        let d : TextDraft = text_draft (record { line = line; pragmas = ps; has_prelude = false; calls_allowed = k; function = f }) in
        let r = tree_kept limits d p e in
        draft_plain d p r.0 r.1 (subst (λ l. least (passed l d) ≡ None) l r.2)
        (record { lines = lines_bare _ ps (none (context_calls ps) k); params = params_calls _ f.params; temps = decls_calls _ f.decls; body = stmts_calls _ f.stmts; statements = stmts_bare _ f.stmts }) joined
      where
        none : (calls : Bool) → not calls ≡ true → calls ≡ false
        none true e = absurd (false≢true e)
        none false e = refl

pub reads_plain : ReadsPlain
reads_plain text p r bare =
    let c = r.derives.written in
    let limits = limits_of (has_prelude (symbols r.tokens)) in
    let t = tree_kept limits (text_draft c) p r.derives.its_tree in
    let h : c.has_prelude ≡ false = sym (tree_parts (text_draft c) p t.0).prelude ∙ bare.prelude in
    let l : limits ≡ plain_limits = ap limits_of (ap has_prelude r.derives.spelled ∙ no_prelude c h) in
    written_plain limits c p r.derives.its_tree l h bare.tests
