use Rattle.std.proofs.Common.{[], ap, ◌∙◌}
use Rattle.affc_wellnamed.specs.Known.{known_behind, compares_known}
use Rattle.affc_wellnamed.proofs.known.context_known.Goals as goal

pub returns : goal.returns
returns c =
    let p = c.args.program.now in
    c.compares_known.ensures ∙ ap (λ k. compares_known k c.as_slice.result.now) (c.behind-sight.ensures p.prelude) ∙ ap (compares_known (known_behind p.prelude c.as_str.result.now c.as_slice-params.result.now [])) c.as_slice.ensures
    ∙ ap (λ n. compares_known (known_behind p.prelude n c.as_slice-params.result.now []) p.context) c.as_str.ensures ∙ ap (λ qs. compares_known (known_behind p.prelude p.name qs []) p.context) c.as_slice-params.ensures
