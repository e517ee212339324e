use Rattle.std.proofs.Common.{length, sym}
use Rattle.std.proofs.lemmas.List.{length-map}
use Rattle.affc_lex.specs.Lexes.{lexeme, lexemes}
use Rattle.affc_plan.specs.declared.breach.Breach.TheVariants as b
use Rattle.affc_plan.proofs.StageLaws.{no_breach, breaks}
use Rattle.affc_plan.proofs.reading.ruled.Goals as goal

pub returns-in-None-clause-keeps : goal.returns-in-None-clause-keeps
returns-in-None-clause-keeps c =
    let text = c.args.text.now in
    let ts = c.args.tokens.now in
    no_breach text c.args.outline.now (lexemes text ts) c.args.draft.now c.requires.draft (length ts) (sym (length-map ts (lexeme text))) c.in_ok-first_breach.field-0 c.in-None.is c.in_ok-first_breach.ensures

pub returns-in-Some-Statement-clause-fault : goal.returns-in-Some-Statement-clause-fault
returns-in-Some-Statement-clause-fault c =
    let text = c.args.text.now in
    let ts = c.args.tokens.now in
    let at = c.in-Some-Statement.at in (
      at,
      breaks text c.args.outline.now (lexemes text ts) c.args.draft.now c.requires.draft (length ts) (sym (length-map ts (lexeme text))) c.in_ok-first_breach.field-0 c.in-Some-Statement.field-0 (b.Statement at)
          c.in-Some-Statement.is c.in-Some-Statement.field-0-is c.in_ok-first_breach.ensures c.place_of.result c.place_of.ensures,
    )

pub returns-in-Some-Length-clause-fault : goal.returns-in-Some-Length-clause-fault
returns-in-Some-Length-clause-fault c =
    let text = c.args.text.now in
    let ts = c.args.tokens.now in
    let at = c.in-Some-Length.at in (
      at,
      breaks text c.args.outline.now (lexemes text ts) c.args.draft.now c.requires.draft (length ts) (sym (length-map ts (lexeme text))) c.in_ok-first_breach.field-0 c.in-Some-Length.field-0 (b.Length at)
          c.in-Some-Length.is c.in-Some-Length.field-0-is c.in_ok-first_breach.ensures c.place_of-in-Some-Length.result c.place_of-in-Some-Length.ensures,
    )

pub returns-in-Some-Fold-clause-fault : goal.returns-in-Some-Fold-clause-fault
returns-in-Some-Fold-clause-fault c =
    let text = c.args.text.now in
    let ts = c.args.tokens.now in
    let at = c.in-Some-Fold.at in (
      at,
      breaks text c.args.outline.now (lexemes text ts) c.args.draft.now c.requires.draft (length ts) (sym (length-map ts (lexeme text))) c.in_ok-first_breach.field-0 c.in-Some-Fold.field-0 (b.Fold at)
          c.in-Some-Fold.is c.in-Some-Fold.field-0-is c.in_ok-first_breach.ensures c.place_of-in-Some-Fold.result c.place_of-in-Some-Fold.ensures,
    )

pub returns-in-Some-Limit-clause-fault : goal.returns-in-Some-Limit-clause-fault
returns-in-Some-Limit-clause-fault c =
    let text = c.args.text.now in
    let ts = c.args.tokens.now in
    let at = c.in-Some-Limit.at in (
      at,
      breaks text c.args.outline.now (lexemes text ts) c.args.draft.now c.requires.draft (length ts) (sym (length-map ts (lexeme text))) c.in_ok-first_breach.field-0 c.in-Some-Limit.field-0 (b.Limit at)
          c.in-Some-Limit.is c.in-Some-Limit.field-0-is c.in_ok-first_breach.ensures c.place_of-in-Some-Limit.result c.place_of-in-Some-Limit.ensures,
    )
