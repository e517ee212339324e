use Rattle.std.proofs.Common.{None, map, flat_map, ap, ◌∙◌}
use Rattle.std.proofs.lemmas.Result.{IfOk-weaker}
use Rattle.affc_grammar.specs.Draft as d
use Rattle.affc_grammar.specs.Limits.{param_texts, pragma_texts, stmts_texts}
use Rattle.affc_syntax.specs.draft.Drafts.{decl, param, pragma, stmt, stmts_of}
use Rattle.affc_limits.specs.Texts.{with_found}
use Rattle.affc_limits.proofs.TextLaws.{whole_text}
use Rattle.affc_limits.proofs.texts.in_text.Goals as goal

pub returns-clause-found : goal.returns-clause-found
returns-clause-found c =
    let rule = c.args.rule in
    let k = c.args.draft.now in
    let lines = flat_map pragma_texts (map pragma k.pragmas) in
    let params = flat_map param_texts (map param k.params) in
    let temps = flat_map (λ (d : d.DeclDraft). d.extents) (map decl k.temps) in
    let body = stmts_texts (stmts_of (map stmt k.body)) in
    IfOk-weaker c.in_stmts.result _ _ (λ found is. is
    ∙ ap (λ l. with_found rule c.in_ok-temps.temps (stmts_texts (stmts_of (map stmt l)))) c.as_slice-4.ensures
    ∙ ap (λ o. with_found rule o body) (
    c.in_ok-temps.ensures.found
    ∙ ap (λ l. with_found rule c.in_ok-params.params (flat_map (λ (d : d.DeclDraft). d.extents) (map decl l))) c.as_slice-3.ensures
    ∙ ap (λ o. with_found rule o temps) (
    c.in_ok-params.ensures.found
    ∙ ap (λ l. with_found rule c.in_ok-lines.lines (flat_map param_texts (map param l))) c.as_slice-2.ensures
    ∙ ap (λ o. with_found rule o params) (c.in_ok-lines.ensures.found ∙ ap (λ l. with_found rule None (flat_map pragma_texts (map pragma l))) c.as_slice.ensures)
    )
    )
    ∙ whole_text rule lines params temps body) c.in_stmts.ensures.found
