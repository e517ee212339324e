use Rattle.std.proofs.Common.{◌≡◌, true, map, take, ap, ◌∙◌, subst}
use Rattle.affc_lex.specs.Lexes.{lexemes}
use Rattle.affc_grammar.specs.Reads.{place_of}
use Rattle.affc_syntax.specs.draft.Symbols.{seen}
use Rattle.affc_parse.specs.Shown.{shown}
use Rattle.affc_parse.proofs.TokenBytes.{tokens_fit}
use Rattle.affc_schedtext.specs.Answers.{IsStop}
use Rattle.affc_plan.specs.Stages.{IsStopBehind, IsReach}
use Rattle.affc_plan.proofs.SchedHeaders.{stop_back}
use Rattle.affc_plan.proofs.StopLaws.{same_place, stop_cut}
use Rattle.affc_plan.proofs.stops.front_place.Goals as goal

pub symbols_of-requires-clause-fits : goal.symbols_of-requires-clause-fits
symbols_of-requires-clause-fits c =
    let h = c.in_ok-front.ensures.before in
    rw (c.deref.ensures.value) (tokens_fit (take h.to c.args.text.now) (lexemes (take c.in_ok-front.front.to c.args.text.now) c.in_ok-front.front.tokens.items) h.lexes)

pub returns : goal.returns
returns c =
    let text = c.args.text.now in
    let o = c.args.outline.now in
    let front = take c.in_ok-front.front.to text in
    let of_fault = take c.args.of_fault text in
    let tokens = c.in_ok-front.front.tokens.items in
    let at = c.in_ok-at.at in
    let ss = map seen c.in_ok-symbols.symbols.items in
    let are : ss ≡ map shown (lexemes front tokens) = subst (λ ts. ss ≡ map shown (lexemes front ts)) c.deref.ensures.value c.in_ok-symbols.ensures in
    record {
      tokens = lexemes front tokens;
      before = c.in_ok-front.ensures.before;
      at = at;
      stop = stop_back o true (lexemes front tokens) at (subst (λ xs. IsStop o true xs at) are (stop_cut o ss c.in_ok-to.to at (subst (λ xs. IsReach o (map seen xs) c.in_ok-to.to) c.deref-2.ensures.value c.in_ok-to.ensures.reach) (subst (λ xs. IsStopBehind (take c.in_ok-to.to (map seen xs)) at) c.deref-3.ensures.value c.in_ok-at.ensures)));
      its_place = c.place_of.ensures ∙ ap (λ ts. place_of of_fault (lexemes of_fault ts) at) (c.deref-4.ensures.value) ∙ same_place of_fault of_fault front tokens at;
    }
