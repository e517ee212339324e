use Rattle.std.proofs.Common.{◌≡◌, map, drop, fold}
use Rattle.affc_grammar.specs.Limits.{stmt_texts}
use Rattle.affc_syntax.specs.draft.Drafts.{stmt}
use Rattle.affc_limits.specs.Texts.{step}
use Rattle.affc_limits.proofs.texts.+statements.Given as goal

abbrev pub invariant-in_stmts-loop-item : goal.invariant-in_stmts-loop-item
invariant-in_stmts-loop-item l = fold (step l.rule stmt_texts) l.found (map stmt (drop l.item-index l.items)) ≡ fold (step l.rule stmt_texts) l.fn.before (map stmt l.items)
