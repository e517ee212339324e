use Rattle.std.proofs.Common.{◌∙◌, ℕ, pos, replicate, ap, sym, subst}
use Rattle.std.specs.Prelude.{Option}
use Rattle.affc_rows.specs.Forms.{Affine}
use Rattle.affc_split.specs.declared.maximum.several.Found.{Found}
use Rattle.affc_moduli.specs.Asked.{IsFarthestOf}
use Rattle.affc_moduli.proofs.AskedLemmas.{wide}
use Rattle.affc_moduli.proofs.Done.{done_none}
use Rattle.affc_moduli.proofs.Results.{both}
use Rattle.affc_moduli.proofs.row.modulus_of.Goals as goal

pub returns-in-None-clause-done : goal.returns-in-None-clause-done
returns-in-None-clause-done c =
    let asked = c.args.asked.now in
    let given = asked.given in
    let none = subst (λ (o : Option Found). IsFarthestOf asked o) c.in-None.is c.requires.farthest in
    both _ _ _ c.without_pair.result
    (λ m e f. done_none given.context.now given.ranges.now given.rows.now asked.line.k asked.line.row.now given.pairs.now asked.regions.now c.requires.asked.slices (wide asked c.requires.asked) c.args.some.now c.requires.some none m e f)
    c.without_pair.ensures.form c.without_pair.ensures.mark

pub returns-in-None-clause-flat : goal.returns-in-None-clause-flat
returns-in-None-clause-flat c =
    both _ _ _ c.without_pair.result (λ m e f. ap (λ (g : Affine). g.coefs) e ∙ ap (λ (q : ℕ). replicate q (pos 0)) c.requires.some.meets.width) c.without_pair.ensures.form c.without_pair.ensures.form
