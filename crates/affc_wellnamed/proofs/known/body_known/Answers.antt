use Rattle.std.proofs.Common.{ap, ◌∙◌}
use Rattle.affc_wellnamed.specs.Known.{known_behind, stmts_known}
use Rattle.affc_wellnamed.proofs.known.body_known.Goals as goal

pub returns : goal.returns
returns c =
    let p = c.args.program.now in
    c.stmts_known.ensures ∙ ap (λ k. stmts_known k c.as_slice-2.result.now) (c.behind-sight.ensures p.prelude) ∙ ap (stmts_known (known_behind p.prelude c.as_str.result.now c.as_slice-params.result.now c.as_slice.result.now)) c.as_slice-2.ensures
    ∙ ap (λ n. stmts_known (known_behind p.prelude n c.as_slice-params.result.now c.as_slice.result.now) p.body) c.as_str.ensures ∙ ap (λ qs. stmts_known (known_behind p.prelude p.name qs c.as_slice.result.now) p.body) c.as_slice-params.ensures
    ∙ ap (λ ds. stmts_known (known_behind p.prelude p.name p.params ds) p.body) c.as_slice.ensures
