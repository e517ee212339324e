use Rattle.std.proofs.Common.{◌≤◌, length, sym, subst}
use Rattle.std.specs.List.{All}
use Rattle.affc_eliminate.specs.declared.kept.Kept.{Kept}
use Rattle.affc_eliminate.specs.project.States.{AreReduced}
use Rattle.affc_eliminate.proofs.project.Ends.{done_widths, projected}
use Rattle.affc_eliminate.proofs.project.projection.projected_by.Goals as goal

pub reduced-requires : goal.reduced-requires
reduced-requires g c =
    subst (All (λ (k : Kept). c.args.keep ≤ length k.row.coefs)) (sym c.as_slice.ensures.value)
    (done_widths c.args.system.now.columns c.args.system.now.rows c.args.keep c.in-Ok.work.made.items c.in-Ok.work.live.items c.requires.keep_in c.in-Ok.ensures.ok)

pub returns-in-Ok-reduced : goal.returns-in-Ok-reduced
returns-in-Ok-reduced g c =
    let rows = c.in-Ok-reduced.rows.items in (
      projected c.args.system.now.columns c.args.system.now.rows c.args.keep c.in-Ok.work.made.items c.in-Ok.work.live.items rows c.requires.keep_in c.in-Ok.ensures.ok
          (subst (λ ks. AreReduced c.args.keep ks rows) c.as_slice.ensures.value c.in-Ok-reduced.ensures),
      c.in-Ok.ensures.ok.beyond,
    )
