use Rattle.std.proofs.Common.{sym, ap, subst, ◌∙◌}
use Rattle.affc_trace.specs.declared.schedule.Schedule.TheVariants.{Source, Time}
use Rattle.affc_trace.specs.Target.{target}
use Rattle.affc_compare.specs.Asked.{AreAsked}
use Rattle.affc_compare.specs.Compared.{IsOrderIn}
use Rattle.affc_compare.proofs.SourceLemmas.{have_loops}
use Rattle.affc_compare.proofs.TargetLemmas.{in_source, both_timed, in_time}
use Rattle.affc_compare.proofs.target.target_cmp.Goals as goal

pub by_loops-requires : goal.by_loops-requires
by_loops-requires c = have_loops c.args.program.now c.args.p.now c.args.a.now c.args.b.now c.requires.first c.requires.second c.requires.plain

pub by_time-requires : goal.by_time-requires
by_time-requires c =
    let is = c.in-Time.is ∙ ap (Time c.in-Time.length) (sym c.as_slice.ensures) in
    both_timed c.args.program.now c.in-Time.length c.as_slice.result.now c.args.p.now c.args.a.now c.args.b.now
    (subst (λ s. AreAsked c.args.program.now s c.args.p.now c.args.a.now c.args.b.now) is c.requires)

pub returns-in-Source : goal.returns-in-Source
returns-in-Source c =
    let asked = subst (λ s. AreAsked c.args.program.now s c.args.p.now c.args.a.now c.args.b.now) c.in-Source.is c.requires in
    subst (λ s. IsOrderIn (target c.args.program.now s c.args.p.now) c.args.a.now c.args.b.now c.by_loops.result) (sym c.in-Source.is)
    (subst (IsOrderIn (target c.args.program.now Source c.args.p.now) c.args.a.now c.args.b.now) (sym c.by_loops.ensures)
    (in_source c.args.program.now c.args.p.now c.args.a.now c.args.b.now asked))

pub returns-in-Time : goal.returns-in-Time
returns-in-Time c =
    let maps = c.as_slice.result.now in
    let is = c.in-Time.is ∙ ap (Time c.in-Time.length) (sym c.as_slice.ensures) in
    let asked = subst (λ s. AreAsked c.args.program.now s c.args.p.now c.args.a.now c.args.b.now) is c.requires in
    subst (λ s. IsOrderIn (target c.args.program.now s c.args.p.now) c.args.a.now c.args.b.now c.by_time.result) (sym is)
    (subst (IsOrderIn (target c.args.program.now (Time c.in-Time.length maps) c.args.p.now) c.args.a.now c.args.b.now) (sym c.by_time.ensures)
    (in_time c.args.program.now c.in-Time.length maps c.args.p.now c.args.a.now c.args.b.now asked))
