-- What the parts of the parser find is what is answered of the text.
use Rattle.std.proofs.Common.{◌≡◌, ℕ, ◌+◌, ◌-◌, ◌≤◌, Bool, List, [], ◌∷◌, ◌++◌, map, length, drop, length-append, length-drop, Option, Some, None, Result, Ok, Err, refl, sym, ap, ◌∙◌, subst, arith, inl, inr}
use Rattle.std.specs.Prelude.{IsOk}
use Rattle.affc_lex.specs.Lexes.{Lexeme}
use Rattle.affc_ast.specs.declared.tree.Program.{Program}
use Rattle.affc_grammar.specs.declared.fault.NameWhy.{NameWhy}
use Rattle.affc_grammar.specs.Grammar.{Symbol, Text, text_symbols, StopsAt}
use Rattle.affc_grammar.specs.Draft.{TextDraft, text_draft}
use Rattle.affc_grammar.specs.Limits.{Limits, Passed, limits_of, least, shape_passed, passed, products_of_names, tokens_past, count_open}
use Rattle.affc_grammar.specs.Names.{Checked, program_tree}
use Rattle.affc_grammar.specs.Reader.{At, Deep, Within}
use Rattle.affc_grammar.specs.Reading.{read_text}
use Rattle.affc_grammar.specs.Reads.{Reads, symbols, has_prelude, place_of, tree_of, name_refused, not_affine, limit_passed}
use Rattle.affc_grammar.proofs.Texts.{text_spelled, stops_at, enough_room, within_limit}
use Rattle.affc_syntax.specs.draft.Drafts as drafts
use Rattle.affc_syntax.specs.draft.Symbols.{passed_seen}
use Rattle.affc_syntax.specs.declared.draft.draft.TextDraft.{TextDraft as CodeDraft}
use Rattle.affc_syntax.specs.declared.draft.passed.Passed.{Passed as CodePassed}
use Rattle.affc_limits.specs.Places.{first}
use Rattle.affc_names.specs.Answers.{IsNamed}
use Rattle.affc_names.specs.Stored as stored
use Rattle.affc_text.specs.Answers.{IsRead}
use Rattle.affc_syntax.specs.declared.ahead.Stop.TheVariants as stop
use Rattle.affc_parse.specs.declared.fault.ParseFault.TheVariants as fault
use Rattle.affc_parse.specs.Answers.{Answers, HasTokens, HasShape, limits_with}
use Rattle.affc_parse.specs.Shown.{shown}
use Rattle.affc_parse.specs.Written.{IsWritten}
use Rattle.affc_parse.proofs.Answered.{none_passed, no_append, no_place, tree_read, name_wrong, product_wrong, limit_wrong, written_kept, is_read}
use Rattle.affc_parse.proofs.ShownBack.{spelled_back, stops_back}
use Rattle.affc_parse.proofs.ShownShape.{shape_same, prelude_same}

-- ---- Shape

pub limits_same : (ls : List Lexeme) (ss : List Symbol) (b : Bool) → ss ≡ map shown ls → b ≡ has_prelude ss → limits_of b ≡ limits_with ls
limits_same ls ss b e h = ap limits_of (h ∙ ap has_prelude e ∙ prelude_same ls)

shape_is : (ls : List Lexeme) (ss : List Symbol) (b : Bool) → ss ≡ map shown ls → b ≡ has_prelude ss → shape_passed (limits_of b) ss ≡ shape_passed (limits_with ls) (symbols ls)
shape_is ls ss b e h = ap (λ l. shape_passed l ss) (limits_same ls ss b e h) ∙ ap (shape_passed (limits_with ls)) e ∙ shape_same (limits_with ls) ls

pub shape_wrong : (text : List ℕ) (ls : List Lexeme) (ss : List Symbol) (b : Bool) (p : CodePassed) (place : ℕ) → HasTokens text ls → ss ≡ map shown ls → b ≡ has_prelude ss
    → Some (passed_seen p) ≡ least (shape_passed (limits_of b) ss) → place ≡ place_of text ls p.at → Answers text (Err (fault.Limit place p.which))
shape_wrong text ls ss b p place t e h l q = inr (inl (record { tokens = ls; has_tokens = t; at = p.at; passed = ap least (sym (shape_is ls ss b e h)) ∙ sym l; its_place = q }))

pub shape_right : (text : List ℕ) (ls : List Lexeme) (ss : List Symbol) (b : Bool) → HasTokens text ls → ss ≡ map shown ls → b ≡ has_prelude ss
    → None ≡ least (shape_passed (limits_of b) ss) → HasShape text ls
shape_right text ls ss b t e h l = record { has_tokens = t; shape = sym (shape_is ls ss b e h) ∙ none_passed (shape_passed (limits_of b) ss) (sym l) }

pub room_is_enough : (ss : List Symbol) (limits : Limits) (room : ℕ) → None ≡ least (shape_passed limits ss) → room ≡ limits.depth → Within count_open room 0 ss
room_is_enough ss limits room l r =
    let all = none_passed (shape_passed limits ss) (sym l) in
    let deep = no_append _ _ (no_append _ _ all).0 in
    subst (λ n. Within count_open n 0 ss) (sym r) (within_limit limits.depth ss (no_place _ _ deep.1))

-- ---- The grammar

pub text_written : (ls : List Lexeme) (ss : List Symbol) (room : ℕ) (d : CodeDraft) → ss ≡ map shown ls → IsRead room ss (Ok d) → IsWritten ls (drafts.text d)
text_written ls ss room d e h = record { written = h.0; spelled = sym e ∙ text_spelled room ss h.0 [] h.1; its_draft = h.2 }

pub text_stops : (text : List ℕ) (ls : List Lexeme) (ss : List Symbol) (room at place : ℕ) → HasShape text ls → ss ≡ map shown ls → IsRead room ss (Err (stop.At at)) → place ≡ place_of text ls at
    → Answers text (Err (fault.Syntax place))
text_stops text ls ss room at place shape e h q =
    let here = subst (λ x. StopsAt x (drop at ss)) e (stops_at room ss (drop at ss) h.0) in
    let back = stops_back ls (drop at ss) here in
    let all : length (map shown ls) ≡ length here.before + length (drop at ss) = ap length here.split ∙ length-append here.before (drop at ss) in
    let same : length (map shown ls) ≡ length ss = ap length (sym e) in
    let rest : length (drop at ss) ≡ length ss - at = length-drop at ss in
    let within = h.1 in
    let number : at ≡ length here.before = omega (arith, all, same, rest, within) in
    record { tokens = ls; has_shape = shape; rest = back.rest; stops = back.stops; its_place = q ∙ ap (place_of text ls) (number ∙ back.at_is) }

pub not_deep : (text : List ℕ) (ss : List Symbol) (room place : ℕ) → Within count_open room 0 ss → IsRead room ss (Err stop.Deep) → Answers text (Err (fault.Syntax place))
not_deep text ss room place w h = absurd (enough_room room ss w h)

-- ---- Names, products, limits

the_tree : (m : Checked Program) → IsOk m → (tree : Program) × (m ≡ Ok tree)
the_tree (Ok tree) h = (tree, refl)
the_tree (Err r) h = absurd (cc)

pub name_answer : (text : List ℕ) (ls : List Lexeme) (d : TextDraft) (at place : ℕ) (why : NameWhy) → HasShape text ls → IsWritten ls d → program_tree d ≡ Err (record { at = at; why = why })
    → place ≡ place_of text ls at → Answers text (Err (fault.Name place why))
name_answer text ls d at place why shape w e q = (
  at,
  record {
    tokens = ls;
    has_shape = shape;
    written = w.written;
    spelled = spelled_back ls w.written w.spelled;
    fault_is = name_wrong (limits_with ls) (text_draft w.written) (record { at = at; why = why }) (ap program_tree (sym w.its_draft) ∙ e);
    its_place = q;
  },
)

first_at : (ns : List ℕ) (at : ℕ) → Some at ≡ first ns → (others : List ℕ) × (ns ≡ at ∷ others)
first_at [] at e = absurd (cc)
first_at (n ∷ ns) at e = let same : n ≡ at = cc in (ns, ap (λ m. m ∷ ns) same)

none_first : (ns : List ℕ) → None ≡ first ns → ns ≡ []
none_first [] e = refl
none_first (n ∷ ns) e = absurd (cc)

pub product_answer : (text : List ℕ) (ls : List Lexeme) (d : TextDraft) (tree : Program) (at place : ℕ) → HasShape text ls → IsWritten ls d → IsNamed d tree → Some at ≡ first (products_of_names d)
    → place ≡ place_of text ls at → Answers text (Err (fault.NotAffine place))
product_answer text ls d tree at place shape w n p q =
    let made = the_tree (program_tree d) n.named in
    let found = first_at (products_of_names d) at p in (
      at,
      record {
        tokens = ls;
        has_shape = shape;
        written = w.written;
        spelled = spelled_back ls w.written w.spelled;
        fault_is = product_wrong (limits_with ls) (text_draft w.written) made.0 at found.0 (ap program_tree (sym w.its_draft) ∙ made.1) (ap products_of_names (sym w.its_draft) ∙ found.1);
        its_place = q;
      },
    )

pub limit_answer : (text : List ℕ) (ls : List Lexeme) (d : TextDraft) (tree : Program) (b : Bool) (p : CodePassed) (place : ℕ) → HasShape text ls → limits_of b ≡ limits_with ls → IsWritten ls d → IsNamed d tree
    → None ≡ first (products_of_names d) → Some (passed_seen p) ≡ least (passed (limits_of b) d) → place ≡ place_of text ls p.at → Answers text (Err (fault.Limit place p.which))
limit_answer text ls d tree b p place shape same w n f l q =
    let made = the_tree (program_tree d) n.named in
    inr (inr (
      p.at,
      record {
        tokens = ls;
        has_shape = shape;
        written = w.written;
        spelled = spelled_back ls w.written w.spelled;
        fault_is = limit_wrong (limits_with ls) (text_draft w.written) made.0 (passed_seen p) (ap program_tree (sym w.its_draft) ∙ made.1) (ap products_of_names (sym w.its_draft) ∙ none_first (products_of_names d) f)
            (ap (λ x. least (passed x (text_draft w.written))) (sym same) ∙ ap (λ x. least (passed (limits_of b) x)) (sym w.its_draft) ∙ sym l);
        its_place = q;
      },
    ))

pub tree_answer : (text : List ℕ) (ls : List Lexeme) (d : TextDraft) (tree : Program) (b : Bool) → HasShape text ls → limits_of b ≡ limits_with ls → IsWritten ls d → IsNamed d tree
    → None ≡ first (products_of_names d) → None ≡ least (passed (limits_of b) d) → Answers text (Ok tree)
tree_answer text ls d tree b shape same w n f l =
    let least_none : least (passed (limits_of b) (text_draft w.written)) ≡ None = ap (λ x. least (passed (limits_of b) x)) (sym w.its_draft) ∙ sym l in
    let its_tree : program_tree d ≡ Ok tree = ap program_tree (sym (subst (λ x. stored.text x ≡ x) (sym w.its_draft) (written_kept b w.written least_none))) ∙ n.its_tree in
    is_read text ls w.written tree shape w.spelled
    (tree_read (limits_with ls) (text_draft w.written) tree (ap program_tree (sym w.its_draft) ∙ its_tree) (ap products_of_names (sym w.its_draft) ∙ none_first (products_of_names d) f)
    (ap (λ x. least (passed x (text_draft w.written))) (sym same) ∙ least_none))
