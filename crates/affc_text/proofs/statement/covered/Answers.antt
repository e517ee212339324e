use Rattle.std.proofs.Common.{◌∷◌, [], ap, sym, map, ◌∙◌}
use Rattle.std.proofs.lemmas.List.{map-append}
use Rattle.affc_syntax.specs.draft.Drafts.{stmt}
use Rattle.affc_text.specs.Parts.{head_seen, covered, with_head}
use Rattle.affc_text.proofs.StmtReads.{covered_last}
use Rattle.affc_text.proofs.statement.covered.Goals as goal

pub loop-h-preserved : goal.loop-h-preserved
loop-h-preserved c =
    ap (covered (map head_seen c.pop.new.self)) (c.with_head-s.ensures ∙ ap (with_head (head_seen c.in-Some.h)) c.in_ok-body.ensures.stmts)
    ∙ sym (covered_last (map head_seen c.pop.new.self) (head_seen c.in-Some.h) (stmt c.loop-h.s))
    ∙ ap (λ l. covered l (stmt c.loop-h.s)) (sym (map-append head_seen c.pop.new.self (c.in-Some.h ∷ [])) ∙ ap (map head_seen) (sym c.in-Some.ensures))
    ∙ c.loop-h.invariant
