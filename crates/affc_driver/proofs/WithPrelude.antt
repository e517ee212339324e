-- The tokens of a text with the prelude hold it.
use Rattle.std.proofs.Common.{◌≡◌, ◌||◌, ℕ, Bool, true, List, [], ◌∷◌, ◌++◌, refl, sym, ap, ◌∙◌}
use Rattle.std.specs.Prelude.{option_map}
use Rattle.std.specs.List.{list_any}
use Rattle.std.proofs.lemmas.Bool.{or_left, or_right}
use Rattle.std.proofs.lemmas.List.Folds.{list_any-append}
use Rattle.std.proofs.lemmas.Option.{slice_get-map}
use Rattle.affc_lex.specs.declared.token.Token.{Token}
use Rattle.affc_lex.specs.Lexes.{Lexes, lexeme, lexemes}
use Rattle.affc_lex.proofs.Exact.{one_list}
use Rattle.affc_grammar.specs.Grammar.{Symbol, Text, include_symbols, pragmas_symbols, prelude_symbols, function_symbols, text_symbols}
use Rattle.affc_grammar.specs.Draft.{text_draft}
use Rattle.affc_grammar.specs.Names.{program_tree}
use Rattle.affc_grammar.specs.Limits.{limits_of, passed, products_of_names}
use Rattle.affc_grammar.specs.Reads.{symbols, is_prelude, has_prelude}
use Rattle.affc_cprint.proofs.Parts.{program_parts}
use Rattle.affc_cprint.proofs.Converse.{keeps_all}
use Rattle.affc_driver.specs.Printed.{ReadsPrinted, HasPrelude, holds_prelude}
use Rattle.affc_driver.specs.Refusals.{IsPrinted}

any_left : {X : Type 0} (p : X → Bool) (xs ys : List X) → list_any p xs ≡ true → list_any p (xs ++ ys) ≡ true
any_left p xs ys h = list_any-append p xs ys ∙ or_left (list_any p xs) (list_any p ys) h

any_right : {X : Type 0} (p : X → Bool) (xs ys : List X) → list_any p ys ≡ true → list_any p (xs ++ ys) ≡ true
any_right p xs ys h = list_any-append p xs ys ∙ or_right (list_any p xs) (list_any p ys) h

-- a text of the grammar with the prelude has the prelude's token
text_has : (t : Text) → t.has_prelude ≡ true → has_prelude (text_symbols t) ≡ true
text_has t on =
    let p : Symbol → Bool = λ s. is_prelude s.kind in
    let here : list_any p (prelude_symbols t.has_prelude) ≡ true = ap (λ b. list_any p (prelude_symbols b)) on in
    any_right p (include_symbols t.line) _
    (any_right p (pragmas_symbols t.pragmas) _ (any_left p (prelude_symbols t.has_prelude) (function_symbols t.function) here))

same_kinds : (source : List ℕ) (tokens : List Token) → holds_prelude tokens ≡ has_prelude (symbols (lexemes source tokens))
same_kinds source [] = refl
same_kinds source (t ∷ ts) = ap (λ b. is_prelude t.kind || b) (same_kinds source ts)

-- so the tokens of a text that reads as a program with the prelude hold it
pub tokens_hold : (source : List ℕ) (tokens : List Token) → Lexes source (lexemes source tokens) → ReadsPrinted source → holds_prelude tokens ≡ true
tokens_hold source tokens lexes printed =
    let r = printed.reads in
    let t = r.derives.written in
    let d = text_draft t in
    let limits = limits_of (has_prelude (symbols r.tokens)) in
    let k = keeps_all (program_tree d) (products_of_names d) (passed limits d) printed.tree r.derives.its_tree in
    let parts = program_parts d printed.tree k.its_tree in
    let on : t.has_prelude ≡ true = sym parts.prelude ∙ printed.with_prelude in
    let same : symbols (lexemes source tokens) ≡ text_symbols t = ap symbols (one_list source (lexemes source tokens) r.tokens lexes r.lexes) ∙ r.derives.spelled in
    same_kinds source tokens ∙ ap has_prelude same ∙ text_has t on

pub printed_at : (source : List ℕ) (tokens : List Token) (place : ℕ) → Lexes source (lexemes source tokens) → HasPrelude tokens place → ReadsPrinted source → IsPrinted source place
printed_at source tokens place lexes has printed = record {
  tree = printed.tree;
  reads = printed.reads;
  with_prelude = printed.with_prelude;
  tokens = lexemes source tokens;
  lexes = lexes;
  number = has.number;
  token = lexeme source has.token;
  is_in = slice_get-map (lexeme source) tokens has.number ∙ ap (option_map (lexeme source)) has.is_in;
  kind = has.kind;
  its_place = has.its_place;
}
