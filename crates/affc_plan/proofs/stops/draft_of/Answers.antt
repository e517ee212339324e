use Rattle.std.proofs.Common.{map, take, inl, subst}
use Rattle.std.specs.Prelude.{Ok, Err, MatchOption}
use Rattle.affc_lex.specs.Lexes.{lexemes}
use Rattle.affc_syntax.specs.draft.Symbols.{seen}
use Rattle.affc_parse.proofs.TokenBytes.{tokens_fit}
use Rattle.affc_schedtext.specs.Answers.{IsFirstProduct, HasNoProduct}
use Rattle.affc_schedtext.specs.ReadAnswers.{IsRead}
use Rattle.affc_syntax.specs.declared.ahead.Stop.TheVariants as stop
use Rattle.affc_plan.specs.Stages.{IsStopBehind}
use Rattle.affc_plan.proofs.FrontLaws.{none_of}
use Rattle.affc_plan.proofs.StopLaws.{some_of, draft_is, product_stops, symbol_stops}
use Rattle.affc_plan.proofs.stops.draft_of.Goals as goal

pub symbols_of-requires-clause-fits : goal.symbols_of-requires-clause-fits
symbols_of-requires-clause-fits c = tokens_fit c.args.text.now (lexemes c.args.text.now c.args.tokens.now) c.requires.lexes

pub returns-in-None-clause-draft : goal.returns-in-None-clause-draft
returns-in-None-clause-draft c =
    let text = c.args.text.now in
    let ss = c.in_ok-symbols.symbols.items in
    draft_is text c.args.outline.now (lexemes text c.args.tokens.now) 4294967295 (map seen ss) c.requires.lexes c.in_ok-symbols.ensures c.in-Ok.draft
    (subst (λ xs. IsRead c.args.outline.now 4294967295 (map seen xs) (Ok c.in-Ok.draft)) c.deref.ensures.value c.in-Ok.ensures)
    (none_of (HasNoProduct (map seen ss)) (IsFirstProduct (map seen ss)) c.in_ok-first_product-in-Ok.field-0 c.in-None.is (subst (λ xs. MatchOption c.in_ok-first_product-in-Ok.field-0 (HasNoProduct (map seen xs)) (IsFirstProduct (map seen xs))) c.deref-in-Ok.ensures.value c.in_ok-first_product-in-Ok.ensures))

pub returns-in-Ok-clause-fault : goal.returns-in-Ok-clause-fault
returns-in-Ok-clause-fault c =
    let text = c.args.text.now in
    let ss = c.in_ok-symbols.symbols.items in
    inl (product_stops text c.args.outline.now (lexemes text c.args.tokens.now) 4294967295 (map seen ss) c.requires.lexes c.in_ok-symbols.ensures c.in-Ok.draft c.in-Some.at c.place_of.result
    (subst (λ xs. IsRead c.args.outline.now 4294967295 (map seen xs) (Ok c.in-Ok.draft)) c.deref.ensures.value c.in-Ok.ensures)
    (some_of (HasNoProduct (map seen ss)) (IsFirstProduct (map seen ss)) c.in_ok-first_product-in-Ok.field-0 c.in-Some.at c.in-Some.is (subst (λ xs. MatchOption c.in_ok-first_product-in-Ok.field-0 (HasNoProduct (map seen xs)) (IsFirstProduct (map seen xs))) c.deref-in-Ok.ensures.value c.in_ok-first_product-in-Ok.ensures))
    c.place_of.ensures)

pub returns-in-Err-At-clause-fault : goal.returns-in-Err-At-clause-fault
returns-in-Err-At-clause-fault c =
    let text = c.args.text.now in
    let o = c.args.outline.now in
    let ss = c.in_ok-symbols.symbols.items in
    inl (symbol_stops text o (lexemes text c.args.tokens.now) 4294967295 (map seen ss) c.requires.lexes c.in_ok-symbols.ensures c.in-Err-At.to c.in_ok-at-in-Err-At.at c.place_of-in-Err-At.result
    (subst (λ xs. IsRead o 4294967295 (map seen xs) (Err (stop.At c.in-Err-At.to))) c.deref.ensures.value (subst (λ f. IsRead o 4294967295 (map seen c.deref.result.now) (Err f)) c.in-Err-At.field-0-is c.in-Err-At.ensures))
    (subst (λ xs. IsStopBehind (take c.in-Err-At.to (map seen xs)) c.in_ok-at-in-Err-At.at) c.deref-in-Err-At.ensures.value c.in_ok-at-in-Err-At.ensures)
    c.place_of-in-Err-At.ensures)
