use Rattle.std.proofs.Common.{◌≡◌, ℕ, nat_lt, List, [], ◌++◌, length, map, drop, filter, fold, flat_map, if◌then◌else◌, ap, ◌∙◌}
use Rattle.std.specs.Option.{option_map}
use Rattle.affc_grammar.specs.declared.fault.LimitName.TheVariants.{Parameters, Range, Loops, Statements, Empty, Accesses, Dimensions, Comparisons, Literal, Coefficient, Pieces}
use Rattle.affc_grammar.specs.Limits as l
use Rattle.affc_grammar.specs.Limits.{passed_at, limits_of}
use Rattle.affc_syntax.specs.draft.Symbols.{passed_seen}
use Rattle.affc_syntax.specs.draft.Drafts.{text, decl, param, pragma, stmt, stmts_of}
use Rattle.affc_limits.specs.Places.{least}
use Rattle.affc_limits.specs.Assignments.{count_one, no_tally}
use Rattle.affc_limits.specs.Bodies.{all_bodies}
use Rattle.affc_limits.proofs.AssignmentLaws.{statements_are, accesses_are, comparisons_are, pieces_are}
use Rattle.affc_limits.proofs.NearestLaws.{one_limit, more, empty_is, compared_is, pieces_is}
use Rattle.affc_limits.proofs.limits.limit_fault.Goals as goal

pub returns : goal.returns
returns c =
    let t = text c.args.draft.now in
    let limits = limits_of c.args.has_prelude in
    let assignments = l.assigned l.no_round t.body in
    let texts = l.affine_texts t in
    let body : c.as_slice-body.result.now ≡ c.args.draft.now.body = c.as_slice-body.ensures in
    let tally : c.tally_of-tally.result ≡ fold count_one no_tally assignments = c.tally_of-tally.ensures ∙ ap (λ b. fold count_one no_tally (l.assigned l.no_round (stmts_of (map stmt b)))) body in
    let bodies : c.bodies_of_all-bodies.result ≡ all_bodies limits.loops (map stmt c.args.draft.now.body) =
    c.bodies_of_all-bodies.ensures ∙ (λ i. all_bodies (c.loops_limit.ensures i) (map stmt (body i))) in
    let p0 : c.parameters_past.result ≡ least (drop 4 (l.number_words t.params)) = c.parameters_past.ensures ∙ ap (λ b. least (drop 4 (l.number_words (map param b)))) c.as_slice-params.ensures in
    let p1 : c.ranges_past.result ≡ least (l.ranges_past t.pragmas) = c.ranges_past.ensures ∙ ap (λ b. least (l.ranges_past (map pragma b))) c.as_slice-lines.ensures in
    let p2 : c.bodies_of_all-bodies.result.loops ≡ least (l.loops_past limits.loops 0 t.body) = ap (λ b. b.loops) bodies in
    let p3 : c.tally_of-tally.result.statements.found ≡ least (drop 64 (map (λ a. a.at) assignments)) = ap (λ b. b.statements.found) tally ∙ statements_are no_tally assignments in
    let p4 : c.unless-empty.result ≡ least (if limits.empty then l.empty_bodies t.body else []) = c.unless-empty.ensures ∙ empty_is c.args.has_prelude c.bodies_of_all-bodies.result.empty (l.empty_bodies t.body) (ap (λ b. b.empty) bodies) in
    let p5 : c.tally_of-tally.result.accesses ≡ least (map (λ a. a.at) (filter (λ a. nat_lt 16 a.accesses) assignments)) = ap (λ b. b.accesses) tally ∙ accesses_are no_tally assignments in
    let p6 : c.dimensions_past.result ≡ least (map (λ d. d.word.at) (filter (λ d. nat_lt 4 (length d.extents)) (l.param_decls t.params ++ t.temps))) =
    c.dimensions_past.ensures ∙ (λ i. least (map (λ d. d.word.at) (filter (λ d. nat_lt 4 (length d.extents)) (l.param_decls (map param (c.as_slice-params.ensures i)) ++ map decl (c.as_slice-temps.ensures i))))) in
    let p7 : c.contexts_past.result ≡ least (l.contexts_past 0 t.pragmas) = c.contexts_past.ensures ∙ ap (λ b. least (l.contexts_past 0 (map pragma b))) c.as_slice-lines.ensures in
    let p8 : c.unless-compared.result ≡ least (map (λ a. a.at) (filter (λ a. l.passes limits.comparisons a.round.comparisons) assignments)) =
    c.unless-compared.ensures ∙ compared_is c.args.has_prelude c.tally_of-tally.result.comparisons assignments (ap (λ b. b.comparisons) tally ∙ comparisons_are no_tally assignments) in
    let p11 : c.divisors_past-divisors.result ≡ least (l.divisors_past limits.divisor t.body) =
    c.divisors_past-divisors.ensures ∙ (λ i. least (l.divisors_past (c.divisor_limit.ensures i) (stmts_of (map stmt (body i))))) in
    let p12 : c.unless-pieces.result ≡ least (map (λ a. a.at) (filter (λ a. l.passes limits.pieces a.round.pieces) assignments)) =
    c.unless-pieces.ensures ∙ pieces_is c.args.has_prelude c.tally_of-tally.result.pieces assignments (ap (λ b. b.pieces) tally ∙ pieces_are no_tally assignments) in
    let n0 : List ℕ = drop 4 (l.number_words t.params) in
    let n1 : List ℕ = l.ranges_past t.pragmas in
    let n2 : List ℕ = l.loops_past limits.loops 0 t.body in
    let n3 : List ℕ = drop 64 (map (λ a. a.at) assignments) in
    let n4 : List ℕ = (if limits.empty then l.empty_bodies t.body else []) in
    let n5 : List ℕ = map (λ a. a.at) (filter (λ a. nat_lt 16 a.accesses) assignments) in
    let n6 : List ℕ = map (λ d. d.word.at) (filter (λ d. nat_lt 4 (length d.extents)) (l.param_decls t.params ++ t.temps)) in
    let n7 : List ℕ = l.contexts_past 0 t.pragmas in
    let n8 : List ℕ = map (λ a. a.at) (filter (λ a. l.passes limits.comparisons a.round.comparisons) assignments) in
    let n9 : List ℕ = flat_map (l.literals_past limits.literal) texts in
    let n10 : List ℕ = (if limits.forms then flat_map l.large_parts texts else []) in
    let n11 : List ℕ = l.divisors_past limits.divisor t.body in
    let n12 : List ℕ = map (λ a. a.at) (filter (λ a. l.passes limits.pieces a.round.pieces) assignments) in
    let x0 : List l.Passed = passed_at Parameters n0 in
    let x1 : List l.Passed = x0 ++ passed_at Range n1 in
    let x2 : List l.Passed = x1 ++ passed_at Loops n2 in
    let x3 : List l.Passed = x2 ++ passed_at Statements n3 in
    let x4 : List l.Passed = x3 ++ passed_at Empty n4 in
    let x5 : List l.Passed = x4 ++ passed_at Accesses n5 in
    let x6 : List l.Passed = x5 ++ passed_at Dimensions n6 in
    let x7 : List l.Passed = x6 ++ passed_at Comparisons n7 in
    let x8 : List l.Passed = x7 ++ passed_at Comparisons n8 in
    let x9 : List l.Passed = x8 ++ passed_at Literal n9 in
    let x10 : List l.Passed = x9 ++ passed_at Coefficient n10 in
    let x11 : List l.Passed = x10 ++ passed_at Coefficient n11 in
    let h0 : option_map passed_seen c.with_limit-a.result ≡ l.least x0 = c.with_limit-a.ensures ∙ one_limit Parameters c.parameters_past.result n0 p0 in
    let h1 : option_map passed_seen c.with_limit-b.result ≡ l.least x1 = c.with_limit-b.ensures ∙ more (option_map passed_seen c.with_limit-a.result) x0 Range c.ranges_past.result n1 h0 p1 in
    let h2 : option_map passed_seen c.with_limit-c.result ≡ l.least x2 = c.with_limit-c.ensures ∙ more (option_map passed_seen c.with_limit-b.result) x1 Loops c.bodies_of_all-bodies.result.loops n2 h1 p2 in
    let h3 : option_map passed_seen c.with_limit-d.result ≡ l.least x3 = c.with_limit-d.ensures ∙ more (option_map passed_seen c.with_limit-c.result) x2 Statements c.tally_of-tally.result.statements.found n3 h2 p3 in
    let h4 : option_map passed_seen c.with_limit-e.result ≡ l.least x4 = c.with_limit-e.ensures ∙ more (option_map passed_seen c.with_limit-d.result) x3 Empty c.unless-empty.result n4 h3 p4 in
    let h5 : option_map passed_seen c.with_limit-f.result ≡ l.least x5 = c.with_limit-f.ensures ∙ more (option_map passed_seen c.with_limit-e.result) x4 Accesses c.tally_of-tally.result.accesses n5 h4 p5 in
    let h6 : option_map passed_seen c.with_limit-g.result ≡ l.least x6 = c.with_limit-g.ensures ∙ more (option_map passed_seen c.with_limit-f.result) x5 Dimensions c.dimensions_past.result n6 h5 p6 in
    let h7 : option_map passed_seen c.with_limit-h.result ≡ l.least x7 = c.with_limit-h.ensures ∙ more (option_map passed_seen c.with_limit-g.result) x6 Comparisons c.contexts_past.result n7 h6 p7 in
    let h8 : option_map passed_seen c.with_limit-i.result ≡ l.least x8 = c.with_limit-i.ensures ∙ more (option_map passed_seen c.with_limit-h.result) x7 Comparisons c.unless-compared.result n8 h7 p8 in
    let h9 : option_map passed_seen c.with_limit-j.result ≡ l.least x9 = c.with_limit-j.ensures ∙ more (option_map passed_seen c.with_limit-i.result) x8 Literal c.in_ok-literals.literals n9 h8 c.in_ok-literals.ensures in
    let h10 : option_map passed_seen c.with_limit-k.result ≡ l.least x10 = c.with_limit-k.ensures ∙ more (option_map passed_seen c.with_limit-j.result) x9 Coefficient c.in_ok-coefficients.coefficients n10 h9 c.in_ok-coefficients.ensures in
    let h11 : option_map passed_seen c.with_limit-l.result ≡ l.least x11 = c.with_limit-l.ensures ∙ more (option_map passed_seen c.with_limit-k.result) x10 Coefficient c.divisors_past-divisors.result n11 h10 p11 in
    c.with_limit.ensures ∙ more (option_map passed_seen c.with_limit-l.result) x11 Pieces c.unless-pieces.result n12 h11 p12
