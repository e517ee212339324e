use Rattle.std.proofs.Common.{true≢false, refl, sym, ◌∙◌}
use Rattle.affc_sched.proofs.PairLemmas.{stands_in}
use Rattle.affc_quast.specs.Trees.{Input}
use Rattle.affc_latest.proofs.BesideLemmas.{is_nest}
use Rattle.affc_dataflow.proofs.TreeLemmas.{nothing_covers}
use Rattle.affc_dataflow.proofs.search.leaf.Goals as goal

pub holds_at-requires : goal.holds_at-requires
holds_at-requires c =
    let l = c.args.load.now in
    c.requires.width ∙ sym (stands_in l.nest.now (is_nest l.nest.now c.requires.load.nested) l.reader.now c.requires.load.touched.there).columns

pub returns-then-not-holds_at-clause-right : goal.returns-then-not-holds_at-clause-right
returns-then-not-holds_at-clause-right c =
    let l = c.args.load.now in
    nothing_covers l.nest.now l.reader.now l.access.now l.number c.requires.load c.args.point.now Input refl (λ m. true≢false (sym (c.holds_at.ensures.1 m) ∙ c.if-not-holds_at.true))
