-- A fault is answered only for a text that reads as no program.
use Rattle.std.proofs.Common.{◌≡◌, ℕ, Bool, true, false, List, [], ◌∷◌, ◌++◌, Some, None, Result, Ok, Err, refl, sym, ap, subst, ◌∙◌, ◌⊎◌, inl, inr}
use Rattle.std.proofs.lemmas.Bool.{true≢false}
use Rattle.std.proofs.lemmas.List.{append-nil}
use Rattle.affc_lex.proofs.Exact.{one_list, no_fault}
use Rattle.affc_lex.specs.declared.token.LexFault.TheVariants as lex
use Rattle.affc_lex.specs.Lexes.{Lexeme, Lexes}
use Rattle.affc_ast.specs.declared.tree.Program.{Program}
use Rattle.affc_grammar.specs.declared.fault.LimitName.{LimitName}
use Rattle.affc_grammar.specs.Grammar.{Symbol, Text, text_symbols, Refuses, StopsAt}
use Rattle.affc_grammar.specs.Draft.{text_draft}
use Rattle.affc_grammar.specs.Limits.{limits_of, Passed, least, shape_passed}
use Rattle.affc_grammar.specs.Reads.{Reads, Derives, symbols, TextFault, tree_of}
use Rattle.affc_grammar.proofs.Texts.{one_text, one_tree}
use Rattle.affc_parse.specs.declared.fault.ParseFault.{ParseFault}
use Rattle.affc_parse.specs.declared.fault.ParseFault.TheVariants.{Memory, BadByte, OpenComment, LongNumber, Syntax, Name, NotAffine, Limit}
use Rattle.affc_parse.specs.Answers.{limits_with, PassesShape, Stops, IsWrong, Answers}

-- what a text that reads as a program derives with its tokens, whichever list of them is given
derived : (text : List ℕ) (program : Program) (tokens : List Lexeme) → Reads text program → Lexes text tokens → Derives (limits_with tokens) (symbols tokens) program
derived text program tokens r lexes = subst (λ ts. Derives (limits_with ts) (symbols ts) program) (one_list text r.tokens tokens r.lexes lexes) r.derives

refuses_none : (before rest : List Symbol) → Refuses before rest → (c : Text) → text_symbols c ≡ before ++ rest → ⊥
refuses_none before [] h c e = h c (e ∙ append-nil before)
refuses_none before (x ∷ others) h c e = h c others e

not_stopped : (text : List ℕ) (program : Program) (place : ℕ) → Reads text program → Stops text place → ⊥
not_stopped text program place r s =
    let d = derived text program s.tokens r s.has_shape.has_tokens.lexes in
    refuses_none s.stops.before s.rest s.stops.refuses d.written (sym d.spelled ∙ s.stops.split)

no_tree : (a : Program) (f : TextFault) → ◌≡◌ {A = Result Program TextFault} (Ok a) (Err f) → ⊥
no_tree a f e = cc

not_wrong : (text : List ℕ) (program : Program) (place at : ℕ) (fault : TextFault) → Reads text program → IsWrong text place at fault → ⊥
not_wrong text program place at fault r w =
    let d = derived text program w.tokens r w.has_shape.has_tokens.lexes in
    let same : d.written ≡ w.written = one_text d.written w.written (sym d.spelled ∙ w.spelled) in
    no_tree program fault (sym d.its_tree ∙ ap (λ c. tree_of (limits_with w.tokens) (text_draft c)) same ∙ w.fault_is)

none_passed : (ps : List Passed) (p : Passed) → ps ≡ [] → least ps ≡ Some p → ⊥
none_passed [] p e h = cc
none_passed (q ∷ ps) p e h = absurd (cc)

not_passed : (text : List ℕ) (program : Program) (place : ℕ) (which : LimitName) → Reads text program → PassesShape text place which → ⊥
not_passed text program place which r s =
    let d = derived text program s.tokens r s.has_tokens.lexes in
    none_passed (shape_passed (limits_with s.tokens) (symbols s.tokens)) _ d.shape s.passed

pub fault_is_memory : (text : List ℕ) (fault : ParseFault) (program : Program) → Answers text (Err fault) → Reads text program → fault ≡ Memory
fault_is_memory text Memory program h r = refl
fault_is_memory text (BadByte at) program h r = absurd (no_fault text r.tokens (lex.BadByte at) r.lexes h.first.0)
fault_is_memory text (OpenComment at) program h r = absurd (no_fault text r.tokens (lex.OpenComment at) r.lexes h.first.0)
fault_is_memory text (LongNumber at) program h r = absurd (no_fault text r.tokens (lex.LongNumber at) r.lexes h.first.0)
fault_is_memory text (Syntax place) program h r = absurd (not_stopped text program place r h)
fault_is_memory text (Name place why) program h r = absurd (not_wrong text program place h.0 _ r h.1)
fault_is_memory text (NotAffine place) program h r = absurd (not_wrong text program place h.0 _ r h.1)
fault_is_memory text (Limit place which) program (inl long) r = absurd (true≢false (sym long.0 ∙ r.size))
fault_is_memory text (Limit place which) program (inr (inl shape)) r = absurd (not_passed text program place which r shape)
fault_is_memory text (Limit place which) program (inr (inr wrong)) r = absurd (not_wrong text program place wrong.0 _ r wrong.1)

pub answered : (text : List ℕ) (program : Program) (answer : Result Program ParseFault) → Reads text program → Answers text answer → (answer ≡ Ok program) ⊎ (answer ≡ Err Memory)
answered text program (Ok tree) r h = inl (ap (λ t. Ok t) (one_tree limits_of text tree program h r))
answered text program (Err fault) r h = inr (ap (λ f. Err f) (fault_is_memory text fault program h r))
