-- The printed text of a well named program reads as the program.
use Rattle.std.proofs.Common.{◌≡◌, Bool, true, false, List, [], ◌∷◌, ◌++◌, codes, refl, sym, ap, subst, ◌∙◌, append_assoc}
use Rattle.std.proofs.lemmas.Bool.{and_parts, and_from}
use Rattle.std.proofs.lemmas.List.Folds.{list_all-append}
use Rattle.std.specs.List.{list_all}
use Rattle.affc_grammar.specs.Reads.{can_have}
use Rattle.affc_grammar.specs.Grammar.{Symbol, Text, text_symbols, word, LineText, line_feed, text_end, PragmasText, no_pragmas, and_range, and_context, line_symbols, pragma_symbols, pragmas_symbols, int_symbols, cond_symbols, prelude_symbols, include_symbols, function_symbols}
use Rattle.affc_cprint.specs.KeepsRules.{KeepsRules}
use Rattle.affc_cprint.proofs.Spelled.{AllHave, AllStand, can_stand, is_other}
use Rattle.affc_cprint.proofs.LexedPrograms.{LinesStand}
use Rattle.affc_lex.specs.Lexes.{Lexes}
use Rattle.affc_ast.specs.declared.tree.Program.{Program}
use Rattle.affc_grammar.specs.Draft.{text_draft}
use Rattle.affc_grammar.specs.Limits.{wide_limits, least, shape_passed, products_of_names, passed}
use Rattle.affc_grammar.specs.Printed.{printed}
use Rattle.affc_grammar.specs.Reads.{within_limits, affine, named, WellNamed, ReadsWide}
use Rattle.affc_cprint.specs.Layout.{printed_text}
use Rattle.affc_cprint.proofs.Lexed.{laid_out}
use Rattle.affc_cprint.proofs.ReadBackTexts.{program_back, printed_again}
use Rattle.affc_cprint.proofs.Calls.{calls_again}
use Rattle.affc_cprint.proofs.Products.{products_again}

pub printed_reads : (p : Program) → WellNamed p → ReadsWide (printed_text p) p
printed_reads p w =
    let back = program_back w.written p w.tokens w.its_tree in
    let text = printed_again p (calls_again w.written p back w.its_tree) back in
    let t = printed p in
    let has = laid_out t text.line text.lines text.function in
    let products : products_of_names (text_draft t) ≡ [] = products_again (text_draft w.written) (text_draft t) p w.its_tree text.reads w.its_products in
    record {
      size = refl;
      tokens = has.tokens;
      lexes = subst (λ x. Lexes x has.tokens) (sym text.laid_out) has.lexes;
      derives = record {
        shape = ap (shape_passed wide_limits) has.are ∙ w.printed_shape;
        written = t;
        spelled = has.are;
        its_tree = ap (λ r. named r (λ tree. affine (products_of_names (text_draft t)) (within_limits (least (passed wide_limits (text_draft t))) tree))) text.reads
            ∙ ap (λ places. affine places (within_limits (least (passed wide_limits (text_draft t))) p)) products
            ∙ ap (λ faults. within_limits (least faults) p) w.printed_limits;
      };
    }

-- ---- The printed text decides

stand_have : (ss : List Symbol) → AllStand ss → AllHave ss
stand_have [] h = refl
stand_have (s ∷ ss) h =
    let p = and_parts (can_stand s) (list_all can_stand ss) h in
    and_from _ _ (and_parts (can_have s.kind s.bytes) (is_other s.kind s.bytes) p.0).0 (stand_have ss p.1)

have_both : (xs ys : List Symbol) → AllHave xs → AllHave ys → AllHave (xs ++ ys)
have_both xs ys p q = list_all-append (λ s. can_have s.kind s.bytes) xs ys ∙ and_from _ _ p q

line_has : (line : LineText) → AllHave (line_symbols line)
line_has line_feed = refl
line_has text_end = refl

lines_have : (c : PragmasText) → LinesStand c → AllHave (pragmas_symbols c)
lines_have no_pragmas s = refl
lines_have (and_range ps w low high line) s =
    have_both (pragmas_symbols ps) (pragma_symbols (codes "param") ++ word w ∷ (int_symbols low ++ (int_symbols high ++ line_symbols line))) (lines_have ps s.0)
    (ap (λ l. list_all (λ x. can_have x.kind x.bytes) (word w ∷ l)) (sym (append_assoc (int_symbols low) (int_symbols high) (line_symbols line)))
    ∙ have_both (word w ∷ (int_symbols low ++ int_symbols high)) (line_symbols line) (stand_have (word w ∷ (int_symbols low ++ int_symbols high)) s.2) (line_has line))
lines_have (and_context ps cs line) s =
    have_both (pragmas_symbols ps) (pragma_symbols (codes "context") ++ (cond_symbols cs ++ line_symbols line)) (lines_have ps s.0)
    (have_both (cond_symbols cs) (line_symbols line) (stand_have (cond_symbols cs) s.2) (line_has line))

prelude_has : (b : Bool) → AllHave (prelude_symbols b)
prelude_has true = refl
prelude_has false = refl

pub text_has : (t : Text) → LinesStand t.pragmas → AllStand (function_symbols t.function) → AllHave (text_symbols t)
text_has t lines function =
    have_both (include_symbols t.line) (pragmas_symbols t.pragmas ++ (prelude_symbols t.has_prelude ++ function_symbols t.function)) (line_has t.line)
    (have_both (pragmas_symbols t.pragmas) (prelude_symbols t.has_prelude ++ function_symbols t.function) (lines_have t.pragmas lines)
    (have_both (prelude_symbols t.has_prelude) (function_symbols t.function) (prelude_has t.has_prelude) (stand_have (function_symbols t.function) function)))

pub keeps_rules : (p : Program) → WellNamed p → KeepsRules p
keeps_rules p w =
    let back = program_back w.written p w.tokens w.its_tree in
    let text = printed_again p (calls_again w.written p back w.its_tree) back in
    record {
      tokens = text_has (printed p) text.lines text.function;
      its_tree = text.reads;
      its_products = products_again (text_draft w.written) (text_draft (printed p)) p w.its_tree text.reads w.its_products;
      shape = w.printed_shape;
      limits = w.printed_limits;
    }

pub well_named : (p : Program) → KeepsRules p → WellNamed p
well_named p k = record { written = printed p; tokens = k.tokens; its_tree = k.its_tree; its_products = k.its_products; printed_shape = k.shape; printed_limits = k.limits }
