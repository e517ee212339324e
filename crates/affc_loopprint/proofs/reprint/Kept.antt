-- What the limits of a text without the prelude say of its draft and of its tree.
use Rattle.std.proofs.Common.{◌≡◌, ℕ, ◌≤◌, ◌||◌, Bool, true, false, nat_lt, List, [], ◌∷◌, ◌++◌, length, map, drop, flat_map, Ok, refl, sym, ap, ◌∙◌, arith, if◌then◌else◌}
use Rattle.std.specs.Prelude.{filter, Some}
use Rattle.std.specs.List.{list_any}
use Rattle.std.proofs.lemmas.Bool.{and_from, le-ltb, le-leb}
use Rattle.std.proofs.lemmas.List.{length-map}
use Rattle.affc_ast.specs.declared.tree.Program.{Program}
use Rattle.affc_grammar.specs.Draft.{IxDraft, literal, name, negated, sum, difference, product, grouped, chosen, divided, CondsDraft, no_conds, and_cond, CondDraft, comparison, divisible, all_of, any_of, StmtsDraft, no_stmts, and_stmt, StmtDraft, for_loop, if_cond, assign, block, TextDraft}
use Rattle.affc_grammar.specs.Names.{program_tree}
use Rattle.affc_grammar.specs.Limits.{Assigned, no_round, conds_past, cond_past, divisors_past, divisors_past_in, at_if, plain_limits, wide_limits, passes, passed, assigned, affine_texts, number_words, param_decls, ranges_past, contexts_past, loops_past, empty_bodies, literals_past}
use Rattle.affc_wellnamed.specs.Known.{number_count}
use Rattle.affc_wellnamed.specs.Work.{no_work, stmts_behind, is_bounded, program_fits}
use Rattle.affc_cprint.proofs.Parts.{ProgramParts, program_parts}
use Rattle.affc_wellnamed.proofs.Counts.{not_below}
use Rattle.affc_wellnamed.proofs.ShapePrograms.{below_kept, no_faults, none_of_both}
use Rattle.affc_cprint.specs.Forms.{is_none}
use Rattle.affc_wellnamed.proofs.Remainders.{stmts_small}
use Rattle.affc_wellnamed.proofs.Works.{many, stmts_busy, contexts_few, wide, few_temps, few_params, numbers_are}
use Rattle.affc_plain.proofs.Lists.{few_left, filter_none, filter_parts}
use Rattle.affc_plain.proofs.Forms.{not_placed}

pub record Keeps (d : TextDraft) : Type 0 where
  pub words : drop 4 (number_words d.params) ≡ []
  pub ranges : ranges_past d.pragmas ≡ []
  pub loops : loops_past 6 0 d.body ≡ []
  pub statements : drop 64 (map (λ a. a.at) (assigned no_round d.body)) ≡ []
  pub bodies : empty_bodies d.body ≡ []
  pub accesses : filter many (assigned no_round d.body) ≡ []
  pub dimensions : filter wide (param_decls d.params ++ d.temps) ≡ []
  pub contexts : contexts_past 0 d.pragmas ≡ []
  pub comparisons : filter (λ (a : Assigned). passes (Some 32) a.round.comparisons) (assigned no_round d.body) ≡ []
  pub literals : flat_map (literals_past 16777216) (affine_texts d) ≡ []
  pub divisors : divisors_past 65536 d.body ≡ []

pub keeps : (d : TextDraft) → passed plain_limits d ≡ [] → Keeps d
keeps d e =
    let e1 = none_of_both _ _ e in
    let e2 = none_of_both _ _ e1.0 in
    let e3 = none_of_both _ _ e2.0 in
    let e4 = none_of_both _ _ e3.0 in
    let e5 = none_of_both _ _ e4.0 in
    let e6 = none_of_both _ _ e5.0 in
    let e7 = none_of_both _ _ e6.0 in
    let e8 = none_of_both _ _ e7.0 in
    let e9 = none_of_both _ _ e8.0 in
    let e10 = none_of_both _ _ e9.0 in
    let e11 = none_of_both _ _ e10.0 in
    let e12 = none_of_both _ _ e11.0 in
    record {
      words = no_faults _ _ e12.0;
      ranges = no_faults _ _ e12.1;
      loops = no_faults _ _ e11.1;
      statements = no_faults _ _ e10.1;
      bodies = no_faults _ _ e9.1;
      accesses = no_faults _ _ (no_faults _ _ e8.1);
      dimensions = no_faults _ _ (no_faults _ _ e7.1);
      contexts = no_faults _ _ e6.1;
      comparisons = no_faults _ _ (no_faults _ _ e5.1);
      literals = no_faults _ _ e4.1;
      divisors = no_faults _ _ e2.1;
    }

-- ---- Literals

at_wide : (n at : ℕ) → at_if (nat_lt 16777216 n) at ≡ [] → at_if (nat_lt wide_limits.literal n) at ≡ []
at_wide n at e = let l = not_below 16777216 n (not_placed (nat_lt 16777216 n) at e) in ap (λ b. at_if b at) (le-ltb wide_limits.literal n (omega (arith, l)))

both_wide : (xs ys us vs : List ℕ) → (xs ≡ [] → us ≡ []) → (ys ≡ [] → vs ≡ []) → xs ++ ys ≡ [] → us ++ vs ≡ []
both_wide xs ys us vs f h e = let p = none_of_both xs ys e in ap (λ l. l ++ vs) (f p.0) ∙ h p.1

literal_wide : (a : IxDraft) → literals_past 16777216 a ≡ [] → literals_past wide_limits.literal a ≡ []
literal_wide (literal at n) e = at_wide n at e
literal_wide (name at w) e = refl
literal_wide (negated at a) e = literal_wide a e
literal_wide (sum a b) e = both_wide (literals_past 16777216 a) (literals_past 16777216 b) _ _ (literal_wide a) (literal_wide b) e
literal_wide (difference a b) e = both_wide (literals_past 16777216 a) (literals_past 16777216 b) _ _ (literal_wide a) (literal_wide b) e
literal_wide (product at a b) e = both_wide (literals_past 16777216 a) (literals_past 16777216 b) _ _ (literal_wide a) (literal_wide b) e
literal_wide (grouped at a) e = literal_wide a e
literal_wide (chosen at f a b) e = both_wide (literals_past 16777216 a) (literals_past 16777216 b) _ _ (literal_wide a) (literal_wide b) e
literal_wide (divided at f a by_at by) e = both_wide (literals_past 16777216 a) (at_if (nat_lt 16777216 by) by_at) _ _ (literal_wide a) (at_wide by by_at) e

pub literals_wide : (ds : List IxDraft) → flat_map (literals_past 16777216) ds ≡ [] → flat_map (literals_past wide_limits.literal) ds ≡ []
literals_wide [] e = refl
literals_wide (a ∷ ds) e = both_wide (literals_past 16777216 a) (flat_map (literals_past 16777216) ds) _ _ (literal_wide a) (literals_wide ds) e

-- ---- Numbers of remainders

divisor_wide : (n at : ℕ) → at_if (nat_lt 65536 n) at ≡ [] → at_if (nat_lt wide_limits.divisor n) at ≡ []
divisor_wide n at e = let l = not_below 65536 n (not_placed (nat_lt 65536 n) at e) in ap (λ b. at_if b at) (le-ltb wide_limits.divisor n (omega (arith, l)))

mutual
  conds_wide : (cs : CondsDraft) → conds_past 65536 cs ≡ [] → conds_past wide_limits.divisor cs ≡ []
  conds_wide no_conds e = refl
  conds_wide (and_cond cs c) e = both_wide (conds_past 65536 cs) (cond_past 65536 c) _ _ (conds_wide cs) (cond_wide c) e

  cond_wide : (c : CondDraft) → cond_past 65536 c ≡ [] → cond_past wide_limits.divisor c ≡ []
  cond_wide (comparison c) e = refl
  cond_wide (divisible a by_at by so) e = divisor_wide by by_at e
  cond_wide (all_of cs) e = conds_wide cs e
  cond_wide (any_of cs) e = conds_wide cs e

mutual
  divisors_wide : (ss : StmtsDraft) → divisors_past 65536 ss ≡ [] → divisors_past wide_limits.divisor ss ≡ []
  divisors_wide no_stmts e = refl
  divisors_wide (and_stmt ss s) e = both_wide (divisors_past 65536 ss) (divisors_past_in 65536 s) _ _ (divisors_wide ss) (divisors_wide_in s) e

  divisors_wide_in : (s : StmtDraft) → divisors_past_in 65536 s ≡ [] → divisors_past_in wide_limits.divisor s ≡ []
  divisors_wide_in (for_loop h body) e = divisors_wide body e
  divisors_wide_in (if_cond at c body other) e =
      both_wide (cond_past 65536 c ++ divisors_past 65536 body) (divisors_past 65536 other) _ _ (both_wide (cond_past 65536 c) (divisors_past 65536 body) _ _ (cond_wide c) (divisors_wide body)) (divisors_wide other) e
  divisors_wide_in (assign w subs op v) e = refl
  divisors_wide_in (block ls body) e = divisors_wide body e

-- ---- What the tree keeps

any_none : {A : Type 0} (f : A → Bool) (xs : List A) → filter f xs ≡ [] → list_any f xs ≡ false
any_none f [] e = refl
any_none f (x ∷ xs) e = let p = filter_none f x xs e in ap (λ b. b || list_any f xs) p.0 ∙ any_none f xs p.1

module _ (d : TextDraft) (p : Program) (reads : program_tree d ≡ Ok p) (k : Keeps d) where
  abbrev parts : ProgramParts d p
  parts = program_parts d p reads

  pub few_numbers : number_count p.params ≤ 4
  few_numbers = let count = numbers_are _ d.pragmas d.params p.params parts.params in let few = few_left 4 (number_words d.params) k.words in omega (arith, count, few)

  pub few_conditions : length p.context ≤ 16
  few_conditions = let few = contexts_few _ [] d.pragmas p.context 0 (omega arith) parts.context k.contexts in omega (arith, few)

  pub fits : program_fits p ≡ true
  fits =
      let w = stmts_behind no_work p.body in
      let busy = stmts_busy parts.inner d.body p.body parts.body in
      let wides = filter_parts wide (param_decls d.params) d.temps k.dimensions in
      let mapped = length-map (assigned no_round d.body) (λ (x : Assigned). x.at) in
      let statements = few_left 64 (map (λ (x : Assigned). x.at) (assigned no_round d.body)) k.statements in
      let loops = busy.within 6 0 (omega arith) k.loops in
      let free : w.crowded ≡ false = busy.crowded no_round ∙ any_none many (assigned no_round d.body) k.accesses in
      and_from _ _ (and_from _ _ (le-leb (number_count p.params) 4 few_numbers) (le-leb (length p.context) 16 few_conditions))
      (and_from _ _ (and_from _ _ (few_params _ d.pragmas d.params p.params k.ranges parts.params wides.0) (few_temps _ d.temps (p.temps, parts.inner) parts.temps wides.1))
      (and_from (is_bounded w) _ (and_from _ _ (and_from _ _ (below_kept (length (assigned no_round d.body)) w.statements 64 (busy.statements no_round) (omega (arith, mapped, statements))) (below_kept busy.nest w.loops wide_limits.loops busy.loops (omega (arith, loops))))
      (ap (λ b. if b then false else true) free))
      (sym (stmts_small parts.inner d.body p.body parts.body) ∙ ap is_none (divisors_wide d.body k.divisors))))
