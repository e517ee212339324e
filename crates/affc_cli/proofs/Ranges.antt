-- The ranges of the parameters of what a text reads as lie in `int64_t`.
use Rattle.std.proofs.Common.{◌≡◌, ℕ, true, ◌&&◌, ℤ, pos, negsuc, List, [], ◌∷◌, refl, arith}
use Rattle.std.specs.Prelude.{◌^◌, int_le, nat_le, nat_abs, None}
use Rattle.std.proofs.lemmas.Bool.{and_parts, and_from}
use Rattle.std.proofs.lemmas.Bool.Decides.{nat_tests}
use Rattle.affc_ast.specs.declared.tree.Param.{Param}
use Rattle.affc_ast.specs.declared.tree.Param.TheVariants.{Number, Array}
use Rattle.affc_ast.specs.declared.tree.Program.{Program}
use Rattle.affc_ast.specs.Index.{is_int64}
use Rattle.affc_grammar.specs.declared.fault.LimitName.{LimitName}
use Rattle.affc_grammar.specs.Draft.{TextDraft, text_draft}
use Rattle.affc_grammar.specs.Limits.{Limits, limits_of, least, passed, passed_at, ranges_past}
use Rattle.affc_grammar.specs.Names.{outermost}
use Rattle.affc_grammar.specs.Reads.{Reads, symbols, has_prelude}
use Rattle.affc_grammar.proofs.Counts.{tree_kept, tree_parts}
use Rattle.affc_parse.proofs.Answered.{none_passed, no_append}
use Rattle.affc_domain.specs.Plain.{plain_range, plain_ranges}
use Rattle.affc_domain.specs.Ranges.{number_ranges}
use Rattle.affc_plain.proofs.Declared.{ranges_plain}
use Rattle.affc_interp.specs.Laws.{ranges_fit}

small : (z : ℤ) → nat_le (nat_abs z) (2 ^ 24) ≡ true → is_int64 z ≡ true
small (pos n) e = grind (arith, nat_tests, e)
small (negsuc n) e = grind (arith, nat_tests, e)

both_small : (low high : ℤ) → plain_range (low, high) ≡ true → (is_int64 low && is_int64 high) ≡ true
both_small low high e =
    let ordered = and_parts (int_le low high) _ e in
    let near = and_parts (nat_le (nat_abs low) (2 ^ 24)) (nat_le (nat_abs high) (2 ^ 24)) ordered.1 in
    and_from (is_int64 low) (is_int64 high) (small low near.0) (small high near.1)

all_small : (ps : List Param) → plain_ranges (number_ranges ps) ≡ true → ranges_fit ps ≡ true
all_small [] e = refl
all_small (Number name low high ∷ ps) e =
    let both = and_parts (plain_range (low, high)) (plain_ranges (number_ranges ps)) e in
    and_from (is_int64 low && is_int64 high) (ranges_fit ps) (both_small low high both.0) (all_small ps both.1)
all_small (Array d ∷ ps) e = all_small ps e

no_place : (which : LimitName) (places : List ℕ) → passed_at which places ≡ [] → places ≡ []
no_place which [] e = refl
no_place which (p ∷ ps) e = absurd (cc)

none_past : (limits : Limits) (c : TextDraft) → least (passed limits c) ≡ None → ranges_past c.pragmas ≡ []
none_past limits c e =
    let pieces = no_append _ _ (none_passed (passed limits c) e) in
    let divisors = no_append _ _ pieces.0 in
    let coefficients = no_append _ _ divisors.0 in
    let literals = no_append _ _ coefficients.0 in
    let compared = no_append _ _ literals.0 in
    let contexts = no_append _ _ compared.0 in
    let dimensions = no_append _ _ contexts.0 in
    let accesses = no_append _ _ dimensions.0 in
    let empty = no_append _ _ accesses.0 in
    let statements = no_append _ _ empty.0 in
    let loops = no_append _ _ statements.0 in
    let ranges = no_append _ _ loops.0 in
    no_place _ _ ranges.1

pub ranges_read : (text : List ℕ) (program : Program) → Reads text program → ranges_fit program.params ≡ true
ranges_read text program r =
    let limits = limits_of (has_prelude (symbols r.tokens)) in
    let c = text_draft r.derives.written in
    let kept = tree_kept limits c program r.derives.its_tree in
    all_small program.params (ranges_plain c.pragmas (none_past limits c kept.2) (outermost c) c.params program.params (tree_parts c program kept.0).params)
