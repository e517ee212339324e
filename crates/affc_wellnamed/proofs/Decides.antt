-- The rules by the tree decide whether a program is well named.
use Rattle.std.proofs.Common.{◌≡◌, ℕ, ◌+◌, ◌^◌, ◌≤◌, ◌&&◌, ◌||◌, Bool, true, false, not, nat_le, List, [], ◌∷◌, ◌++◌, length, map, drop, filter, flat_map, Option, None, Some, is_some, Ok, ℤ, pos, negsuc, nat_abs, int_le, IsTrue, refl, sym, ap, ◌∙◌, arith, length-drop, if◌then◌else◌}
use Rattle.std.specs.List.{list_any, list_all}
use Rattle.std.proofs.lemmas.Bool.{and_parts, and_from, false≢true, leb-true, le-leb}
use Rattle.std.proofs.lemmas.List.{drop_all, length-map}
use Rattle.affc_ast.specs.declared.tree.Compare.{Compare}
use Rattle.affc_ast.specs.declared.tree.Param.{Param}
use Rattle.affc_ast.specs.declared.tree.Param.TheVariants.{Number, Array}
use Rattle.affc_ast.specs.declared.tree.Program.{Program}
use Rattle.affc_ast.specs.Fits.{all_true}
use Rattle.affc_grammar.specs.declared.fault.LimitName.{LimitName}
use Rattle.affc_grammar.specs.Grammar.{PragmasText, no_pragmas, and_range, line_feed, include_symbols, pragmas_symbols, context_calls}
use Rattle.affc_grammar.specs.Draft.{PragmaDraft, range, context, TextDraft, int_value, pragmas_draft, text_draft}
use Rattle.affc_grammar.specs.Names.{program_tree}
use Rattle.affc_grammar.specs.Limits.{no_round, Assigned, passed_at, at_if, wide_limits, passed, assigned, affine_texts, number_words, param_decls, is_range, ranges_past, loops_past, divisors_past, literals_past, products_of_names}
use Rattle.affc_grammar.specs.Printed.{Names, printed, int_text, ranges_text, context_text, params_text, with_pragmas, holding}
use Rattle.affc_grammar.specs.Reads.{WellNamed}
use Rattle.affc_cprint.specs.Layout.{pragmas_of}
use Rattle.affc_cprint.specs.Forms.{is_none, program_passes}
use Rattle.affc_wellnamed.specs.Known.{number_count, program_known}
use Rattle.affc_wellnamed.specs.Plain.{is_plain}
use Rattle.affc_wellnamed.specs.Shape.{program_shape, is_bounded as shape_bounded}
use Rattle.affc_wellnamed.specs.Work.{no_work, stmts_behind, stmt_fits, has_few, param_fits, program_fits, is_bounded}
use Rattle.affc_wellnamed.specs.Kept.{is_kept}
use Rattle.affc_cprint.proofs.Places.{some_held}
use Rattle.affc_cprint.proofs.Parts.{ProgramParts, program_parts}
use Rattle.affc_cprint.proofs.ReadBackParams.{FitsInt, int_again}
use Rattle.affc_cprint.proofs.ReadBackTexts.{printed_again}
use Rattle.affc_cprint.proofs.Whole.{text_has, keeps_rules, well_named}
use Rattle.affc_cprint.proofs.Products.{none_is}
use Rattle.affc_wellnamed.proofs.Literals.{plain_is}
use Rattle.affc_wellnamed.proofs.KnownPrograms.{Spoken, program_speaks}
use Rattle.affc_wellnamed.proofs.KnownFromTexts.{program_from}
use Rattle.affc_wellnamed.proofs.ShapePrograms.{shape_kept, shape_so, kept_below, below_kept, no_faults, none_of_both}
use Rattle.affc_wellnamed.proofs.Remainders.{stmts_small}
use Rattle.affc_wellnamed.proofs.Works.{Busy, many, stmts_busy, contexts_within, contexts_few, wide, temps_few, few_temps, params_few, few_params, numbers_are}

-- ---- Lists of places

at_none : (which : LimitName) (places : List ℕ) → places ≡ [] → passed_at which places ≡ []
at_none which places e = ap (passed_at which) e

both_none : {A : Type 0} {xs ys : List A} → xs ≡ [] → ys ≡ [] → xs ++ ys ≡ []
both_none {xs = xs} {ys = ys} p q = ap (λ l. l ++ ys) p ∙ q

few_dropped : {A : Type 0} (n : ℕ) (xs : List A) → drop n xs ≡ [] → length xs ≤ n
few_dropped n xs e = let l = length-drop n xs in let z = ap length e in omega (arith, l, z)

never_kept : {A : Type 0} (xs : List A) → filter (λ x. false) xs ≡ []
never_kept [] = refl
never_kept (x ∷ xs) = never_kept xs

none_many : (xs : List Assigned) → list_any many xs ≡ false → filter many xs ≡ []
none_many [] h = refl
none_many (x ∷ xs) h = of (many x) refl (none_many xs) h
  where
    of : (b : Bool) → many x ≡ b → (list_any many xs ≡ false → filter many xs ≡ []) → (b || list_any many xs) ≡ false → (if many x then x ∷ filter many xs else filter many xs) ≡ []
    of true q more h = absurd (false≢true (sym h))
    of false q more h = ap (λ b. if b then x ∷ filter many xs else filter many xs) q ∙ more h

many_none : (xs : List Assigned) → filter many xs ≡ [] → list_any many xs ≡ false
many_none [] e = refl
many_none (x ∷ xs) e = of (many x) refl (many_none xs) e
  where
    of : (b : Bool) → many x ≡ b → (filter many xs ≡ [] → list_any many xs ≡ false) → (if b then x ∷ filter many xs else filter many xs) ≡ [] → (many x || list_any many xs) ≡ false
    of true q more h = absurd (cc)
    of false q more h = ap (λ b. b || list_any many xs) q ∙ more h

filter_both : {A : Type 0} (f : A → Bool) (xs ys : List A) → filter f (xs ++ ys) ≡ filter f xs ++ filter f ys
filter_both f [] ys = refl
filter_both f (x ∷ xs) ys = of (filter_both f xs ys) (f x)
  where
    of : filter f (xs ++ ys) ≡ filter f xs ++ filter f ys → (b : Bool) → (if b then x ∷ filter f (xs ++ ys) else filter f (xs ++ ys)) ≡ (if b then x ∷ filter f xs else filter f xs) ++ filter f ys
    of more true = ap (λ l. x ∷ l) more
    of more false = more

-- ---- Ranges

range_fits : (z : ℤ) → nat_le (nat_abs z) (2 ^ 24) ≡ true → FitsInt z
range_fits (pos n) h = let le = leb-true n (2 ^ 24) h in omega (arith, le)
range_fits (negsuc n) h = let le = leb-true _ (2 ^ 24) h in omega (arith, le)

ranges_both : (xs ys : List PragmaDraft) → ranges_past (xs ++ ys) ≡ ranges_past xs ++ ranges_past ys
ranges_both [] ys = refl
ranges_both (range w low_at low high ∷ xs) ys = ap (λ l. at_if (not (is_range low high)) low_at ++ l) (ranges_both xs ys) ∙ sym (assoc (at_if (not (is_range low high)) low_at) (ranges_past xs) (ranges_past ys))
  where
    assoc : (a b c : List ℕ) → (a ++ b) ++ c ≡ a ++ (b ++ c)
    assoc [] b c = refl
    assoc (x ∷ a) b c = ap (λ l. x ∷ l) (assoc a b c)
ranges_both (context at cs ∷ xs) ys = ranges_both xs ys

ranges_within : (c : PragmasText) (at : ℕ) → ranges_past (pragmas_draft at c) ≡ [] → (qs : List Param) → list_all param_fits qs ≡ true → ranges_past (pragmas_draft at (ranges_text c qs)) ≡ []
ranges_within c at none [] h = none
ranges_within c at none (Number w low high ∷ qs) h =
    let p = and_parts (is_range low high) (list_all param_fits qs) h in
    let r = and_parts (int_le low high && nat_le (nat_abs low) (2 ^ 24)) (nat_le (nat_abs high) (2 ^ 24)) p.0 in
    let s = and_parts (int_le low high) (nat_le (nat_abs low) (2 ^ 24)) r.0 in
    let here : is_range (int_value (int_text low)) (int_value (int_text high)) ≡ true =
    ap (λ x. is_range x (int_value (int_text high))) (int_again low (range_fits low s.1)).0 ∙ ap (is_range low) (int_again high (range_fits high r.1)).0 ∙ p.0 in
    ranges_within (and_range c w (int_text low) (int_text high) line_feed) at
    (ranges_both (pragmas_draft at c) _ ∙ both_none none (ap (λ b. at_if (not b) (at + length (pragmas_symbols c) + 5) ++ []) here)) qs p.1
ranges_within c at none (Array d ∷ qs) h = ranges_within c at none qs (and_parts (has_few d) (list_all param_fits qs) h).1

context_none : (names : Names) (c : PragmasText) (at : ℕ) (cs : List Compare) → ranges_past (pragmas_draft at c) ≡ [] → ranges_past (pragmas_draft at (context_text names c cs)) ≡ []
context_none names c at [] none = none
context_none names c at (x ∷ cs) none = ranges_both (pragmas_draft at c) _ ∙ both_none none refl

draft_lines : (p : Program) → Spoken p → (text_draft (printed p)).pragmas ≡ pragmas_draft (length (include_symbols line_feed)) (pragmas_of p)
draft_lines p s = of (holding (p.prelude || not (context_calls (pragmas_of p)))) (some_held (p.prelude || not (context_calls (pragmas_of p))) s.calls)
  where
    of : (o : Option (IsTrue (p.prelude || not (context_calls (pragmas_of p))))) → is_some o ≡ true → (text_draft (with_pragmas p (pragmas_of p) o)).pragmas ≡ pragmas_draft (length (include_symbols line_feed)) (pragmas_of p)
    of (Some h) e = refl
    of None e = absurd (cc)

-- ---- The limits

not_crowded : (b : Bool) → (if b then false else true) ≡ true → b ≡ false
not_crowded true e = absurd (false≢true e)
not_crowded false e = refl

module _ (d : TextDraft) (p : Program) (reads : program_tree d ≡ Ok p) where
  abbrev parts : ProgramParts d p
  parts = program_parts d p reads

  abbrev busy : Busy (λ r. assigned r d.body) (λ limit n. loops_past limit n d.body) (stmts_behind no_work p.body)
  busy = stmts_busy parts.inner d.body p.body parts.body

  abbrev literals : List ℕ
  literals = flat_map (literals_past wide_limits.literal) (affine_texts d)

  limits_kept : ranges_past d.pragmas ≡ [] → literals ≡ [] → program_fits p ≡ true → passed wide_limits d ≡ []
  limits_kept ranges none h =
      let w = stmts_behind no_work p.body in
      let a = and_parts (nat_le (number_count p.params) 4 && nat_le (length p.context) 16) ((list_all param_fits p.params && list_all has_few p.temps) && (is_bounded w && all_true (map stmt_fits p.body))) h in
      let b = and_parts (nat_le (number_count p.params) 4) (nat_le (length p.context) 16) a.0 in
      let c = and_parts (list_all param_fits p.params && list_all has_few p.temps) (is_bounded w && all_true (map stmt_fits p.body)) a.1 in
      let n = and_parts (is_bounded w) (all_true (map stmt_fits p.body)) c.1 in
      let e = and_parts (list_all param_fits p.params) (list_all has_few p.temps) c.0 in
      let f = and_parts (nat_le w.statements 64 && nat_le w.loops wide_limits.loops) (if w.crowded then false else true) n.0 in
      let g = and_parts (nat_le w.statements 64) (nat_le w.loops wide_limits.loops) f.0 in
      let count = numbers_are _ d.pragmas d.params p.params parts.params in
      let four = leb-true (number_count p.params) 4 b.0 in
      let sixteen = leb-true (length p.context) 16 b.1 in
      let statements = kept_below (length (assigned no_round d.body)) w.statements 64 (busy.statements no_round) (omega arith) g.0 in
      let loops = kept_below busy.nest w.loops wide_limits.loops busy.loops (omega arith) g.1 in
      let mapped = length-map (assigned no_round d.body) (λ (x : Assigned). x.at) in
      both_none (both_none (both_none (both_none (both_none (both_none (both_none (both_none (both_none (both_none (both_none (both_none
      (at_none _ _ (drop_all 4 (number_words d.params) (omega (arith, count, four))))
      (at_none _ _ ranges))
      (at_none _ _ (busy.beyond wide_limits.loops 0 (omega (arith, loops)))))
      (at_none _ _ (drop_all 64 (map (λ x. x.at) (assigned no_round d.body)) (omega (arith, mapped, statements)))))
      refl)
      (at_none _ _ (ap (map (λ x. x.at)) (none_many (assigned no_round d.body) (sym (busy.crowded no_round) ∙ not_crowded w.crowded f.1)))))
      (at_none _ _ (ap (map (λ x. x.word.at)) (filter_both wide (param_decls d.params) d.temps ∙ both_none (params_few _ d.pragmas d.params p.params parts.params e.0) (temps_few _ d.temps (p.temps, parts.inner) parts.temps e.1)))))
      (at_none _ _ (contexts_within _ [] d.pragmas p.context 0 parts.context (omega (arith, sixteen)))))
      (at_none _ _ (ap (map (λ x. x.at)) (never_kept (assigned no_round d.body)))))
      (at_none _ _ none))
      refl)
      (at_none _ _ (none_is (divisors_past wide_limits.divisor d.body) (stmts_small parts.inner d.body p.body parts.body ∙ n.1))))
      (at_none _ _ (ap (map (λ x. x.at)) (never_kept (assigned no_round d.body))))

  limits_so : passed wide_limits d ≡ [] → (program_fits p ≡ true) × (literals ≡ [])
  limits_so e =
      let w = stmts_behind no_work p.body in
      let d1 = none_of_both _ _ e in
      let d2 = none_of_both _ _ d1.0 in
      let e1 = none_of_both _ _ d2.0 in
      let e2 = none_of_both _ _ e1.0 in
      let e3 = none_of_both _ _ e2.0 in
      let e4 = none_of_both _ _ e3.0 in
      let e5 = none_of_both _ _ e4.0 in
      let e6 = none_of_both _ _ e5.0 in
      let e7 = none_of_both _ _ e6.0 in
      let e8 = none_of_both _ _ e7.0 in
      let e9 = none_of_both _ _ e8.0 in
      let e10 = none_of_both _ _ e9.0 in
      let ranges : ranges_past d.pragmas ≡ [] = no_faults _ _ e10.1 in
      let wides = none_of_both (filter wide (param_decls d.params)) (filter wide d.temps) (sym (filter_both wide (param_decls d.params) d.temps) ∙ no_faults _ _ (no_faults _ _ e5.1)) in
      let count = numbers_are _ d.pragmas d.params p.params parts.params in
      let four = few_dropped 4 (number_words d.params) (no_faults _ _ e10.0) in
      let sixteen = contexts_few _ [] d.pragmas p.context 0 (omega arith) parts.context (no_faults _ _ e4.1) in
      let mapped = length-map (assigned no_round d.body) (λ (x : Assigned). x.at) in
      let statements = few_dropped 64 (map (λ x. x.at) (assigned no_round d.body)) (no_faults _ _ e8.1) in
      let loops = busy.within wide_limits.loops 0 (omega arith) (no_faults _ _ e9.1) in
      let small : all_true (map stmt_fits p.body) ≡ true = sym (stmts_small parts.inner d.body p.body parts.body) ∙ ap is_none (no_faults _ _ d2.1) in
      let free : w.crowded ≡ false = busy.crowded no_round ∙ many_none (assigned no_round d.body) (no_faults _ _ (no_faults _ _ e6.1)) in (
        and_from _ _ (and_from _ _ (le-leb (number_count p.params) 4 (omega (arith, count, four))) (le-leb (length p.context) 16 (omega (arith, sixteen))))
            (and_from _ _ (and_from _ _ (few_params _ d.pragmas d.params p.params ranges parts.params wides.0) (few_temps _ d.temps (p.temps, parts.inner) parts.temps wides.1))
            (and_from _ _ (and_from _ _ (and_from _ _ (below_kept (length (assigned no_round d.body)) w.statements 64 (busy.statements no_round) (omega (arith, mapped, statements))) (below_kept busy.nest w.loops wide_limits.loops busy.loops (omega (arith, loops))))
            (ap (λ b. if b then false else true) free)) small)),
        no_faults _ _ e2.1,
      )

-- ---- The program

pub kept_is_well_named : (p : Program) → is_kept p ≡ true → WellNamed p
kept_is_well_named p h =
    let a = and_parts (program_known p) (program_passes is_plain p && (program_fits p && shape_bounded (program_shape p))) h in
    let b = and_parts (program_passes is_plain p) (program_fits p && shape_bounded (program_shape p)) a.1 in
    let c = and_parts (program_fits p) (shape_bounded (program_shape p)) b.1 in
    let s = program_speaks p a.0 in
    let text = printed_again p s.calls s.back in
    let d = text_draft (printed p) in
    let plain = and_parts (is_none (products_of_names d)) (is_none (flat_map (literals_past wide_limits.literal) (affine_texts d))) (sym (plain_is d p text.reads) ∙ b.0) in
    let e = and_parts (nat_le (number_count p.params) 4 && nat_le (length p.context) 16) ((list_all param_fits p.params && list_all has_few p.temps) && (is_bounded (stmts_behind no_work p.body) && all_true (map stmt_fits p.body))) c.0 in
    let f = and_parts (list_all param_fits p.params && list_all has_few p.temps) (is_bounded (stmts_behind no_work p.body) && all_true (map stmt_fits p.body)) e.1 in
    let g = and_parts (list_all param_fits p.params) (list_all has_few p.temps) f.0 in
    let at = length (include_symbols line_feed) in
    let ranges : ranges_past d.pragmas ≡ [] = ap ranges_past (draft_lines p s) ∙ context_none (params_text true p.params).1 (ranges_text no_pragmas p.params) at p.context (ranges_within no_pragmas at refl p.params g.0) in
    well_named p (record {
      tokens = text_has (printed p) text.lines text.function;
      its_tree = text.reads;
      its_products = none_is (products_of_names d) plain.0;
      shape = shape_kept p a.0 c.1;
      limits = limits_kept d p text.reads ranges (none_is (flat_map (literals_past wide_limits.literal) (affine_texts d)) plain.1) c.0;
    })

pub well_named_is_kept : (p : Program) → WellNamed p → is_kept p ≡ true
well_named_is_kept p w =
    let k = keeps_rules p w in
    let d = text_draft (printed p) in
    let known = program_from (printed p) p k.tokens k.its_tree in
    let l = limits_so d p k.its_tree k.limits in
    let plain : program_passes is_plain p ≡ true = plain_is d p k.its_tree ∙ and_from _ _ (ap is_none k.its_products) (ap is_none l.1) in
    and_from (program_known p) _ known (and_from (program_passes is_plain p) _ plain (and_from (program_fits p) _ l.0 (shape_so p known k.shape)))
