use Rattle.std.proofs.Common.{◌+◌, ◌≤◌, ◌++◌, length, sym, ap, subst, ◌∙◌, arith}
use Rattle.affc_quast.proofs.NearLemmas.{leads_near}
use Rattle.affc_quast.specs.Paths.{LeadsNear}
use Rattle.affc_quast.specs.Seen.{seen}
use Rattle.affc_quast.specs.Trees.{depth_of}
use Rattle.affc_quast.proofs.quast.Quast.source_at.Goals as goal

pub leaf_at-requires : goal.leaf_at-requires
leaf_at-requires c =
    let few : length c.args.point.now + depth_of (seen c.args.self.now) ≤ 528 = omega (arith, c.requires.short, c.requires.few) in
    subst (LeadsNear (seen c.args.self.now)) (sym (c.in_ok-add_wide.ensures ∙ ap (λ xs. xs ++ c.args.point.now) c.new-wide.ensures.items))
    (leads_near (seen c.args.self.now) c.args.point.now c.requires.shaped c.requires.limits few c.requires.near c.requires.quotients c.requires.iterators)
