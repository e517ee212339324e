-- The program that a text without the prelude reads as is well named.
use Rattle.std.proofs.Common.{◌≡◌, ℕ, ◌||◌, Bool, true, false, not, List, [], Ok, IsTrue, sym, ap, subst, ◌∙◌}
use Rattle.std.specs.List.{list_all}
use Rattle.std.proofs.lemmas.Bool.{and_from, false≢true}
use Rattle.affc_ast.specs.declared.tree.Program.{Program}
use Rattle.affc_grammar.specs.Grammar.{LineText, PragmasText, FunctionText, Text, text_symbols, context_calls}
use Rattle.affc_grammar.specs.Draft.{text_draft}
use Rattle.affc_grammar.specs.Names.{program_tree}
use Rattle.affc_grammar.specs.Limits.{limits_of, plain_limits, shape_passed, passed, affine_texts, products_of_names}
use Rattle.affc_grammar.specs.Reads.{Reads, symbols, has_prelude, can_have}
use Rattle.affc_cprint.specs.Forms.{is_none, program_passes}
use Rattle.affc_wellnamed.specs.Known.{program_known}
use Rattle.affc_wellnamed.specs.Plain.{is_plain}
use Rattle.affc_wellnamed.specs.Work.{program_fits}
use Rattle.affc_cprint.proofs.Spelled.{AllHave}
use Rattle.affc_cprint.proofs.Parts.{program_parts}
use Rattle.affc_cprint.proofs.Converse.{tokens_have, keeps_all}
use Rattle.affc_wellnamed.proofs.Literals.{plain_is}
use Rattle.affc_wellnamed.proofs.KnownFromTexts.{program_from}
use Rattle.affc_wellnamed.proofs.Decides.{kept_is_well_named}
use Rattle.affc_plain.proofs.NoPrelude.{no_prelude}
use Rattle.affc_loopprint.specs.reprint.Laws.{ReadsWellNamed}
use Rattle.affc_loopprint.proofs.reprint.Kept.{Keeps, keeps, literals_wide, fits}
use Rattle.affc_loopprint.proofs.reprint.Whole.{Printed, printed_bounded, is_printed}

-- what is printed is short, whatever the text's parts
text_printed : (c : Text) (p : Program) → c.has_prelude ≡ false → program_tree (text_draft c) ≡ Ok p → shape_passed plain_limits (text_symbols c) ≡ [] → Keeps (text_draft c) → Printed p
text_printed c p e reads shape keep = by c.line c.pragmas c.has_prelude c.calls_allowed c.function e reads shape keep
  where
    by : (line : LineText) (ps : PragmasText) (b : Bool) (k : IsTrue (b || not (context_calls ps))) (f : FunctionText b) → b ≡ false
        → program_tree (text_draft (record { line = line; pragmas = ps; has_prelude = b; calls_allowed = k; function = f })) ≡ Ok p
        → shape_passed plain_limits (text_symbols (record { line = line; pragmas = ps; has_prelude = b; calls_allowed = k; function = f })) ≡ []
        → Keeps (text_draft (record { line = line; pragmas = ps; has_prelude = b; calls_allowed = k; function = f })) → Printed p
    by line ps true k f e reads shape keep = absurd (false≢true (sym e))
    by line ps false k f e reads shape keep = is_printed line ps k f p reads shape keep

-- what a text without the prelude keeps
record ReadPlainly (c : Text) (p : Program) : Type 0 where
  none : c.has_prelude ≡ false
  reads : program_tree (text_draft c) ≡ Ok p
  products : products_of_names (text_draft c) ≡ []
  keep : Keeps (text_draft c)
  shape : shape_passed plain_limits (text_symbols c) ≡ []

read_plainly : (text : List ℕ) (p : Program) (r : Reads text p) → p.prelude ≡ false → ReadPlainly r.derives.written p
read_plainly text p r off =
    let c = r.derives.written in
    let d = text_draft c in
    let limits = limits_of (has_prelude (symbols r.tokens)) in
    let all = keeps_all (program_tree d) (products_of_names d) (passed limits d) p r.derives.its_tree in
    let none : c.has_prelude ≡ false = sym (program_parts d p all.its_tree).prelude ∙ off in
    let plain : limits ≡ plain_limits = ap limits_of (ap has_prelude r.derives.spelled ∙ no_prelude c none) in
    record {
      none = none;
      reads = all.its_tree;
      products = all.its_products;
      keep = keeps d (subst (λ l. passed l d ≡ []) plain all.limits);
      shape = subst (λ l. shape_passed l (text_symbols c) ≡ []) plain (ap (shape_passed limits) (sym r.derives.spelled) ∙ r.derives.shape);
    }

pub reads_printed : (text : List ℕ) (p : Program) → Reads text p → p.prelude ≡ false → Printed p
reads_printed text p r off = let h = read_plainly text p r off in text_printed r.derives.written p h.none h.reads h.shape h.keep

pub reads_well_named : ReadsWellNamed
reads_well_named text p r off =
    let c = r.derives.written in
    let d = text_draft c in
    let h = read_plainly text p r off in
    let have : AllHave (text_symbols c) = ap (list_all (λ s. can_have s.kind s.bytes)) (sym r.derives.spelled) ∙ tokens_have text r.tokens r.lexes in
    let keep = h.keep in
    let passes : program_passes is_plain p ≡ true = plain_is d p h.reads ∙ and_from _ _ (ap is_none h.products) (ap is_none (literals_wide (affine_texts d) keep.literals)) in
    kept_is_well_named p (and_from (program_known p) _ (program_from c p have h.reads) (and_from (program_passes is_plain p) _ passes (and_from (program_fits p) _ (fits d p h.reads keep) (printed_bounded p (reads_printed text p r off)))))
