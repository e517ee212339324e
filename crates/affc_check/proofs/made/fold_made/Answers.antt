use Rattle.std.proofs.Common.{◌++◌, List, length, map, sym, ap, subst, ◌∙◌}
use Rattle.affc_rows.specs.Forms.{Affine}
use Rattle.affc_domain.proofs.Lists.{length_map}
use Rattle.affc_quast.specs.Seen.{trees_of}
use Rattle.affc_certvalue.specs.declared.fold.fold.CertModulus.{CertModulus}
use Rattle.affc_check.specs.Made.{AreRowsFit}
use Rattle.affc_check.specs.Walked.{AreRowsAlong, clashes_in}
use Rattle.affc_check.specs.list.Certs.{modulus_said}
use Rattle.affc_check.specs.list.Items.{ModulusShown, moduli_of}
use Rattle.affc_check.proofs.MadeLemmas.{as_many}
use Rattle.affc_check.proofs.list.FoldLemmas.{clashes_asked}
use Rattle.affc_check.proofs.made.fold_made.Goals as goal

pub add_moduli-requires-clause-asked : goal.add_moduli-requires-clause-asked
add_moduli-requires-clause-asked c =
    let of = c.args.of.now in
    let fold = c.args.fold.now in
    let cs = clashes_in of fold.array in
    subst (λ (r : List Affine). AreRowsAlong of.nest.now cs r r c.as_slice.result.now) (sym c.as_slice-rows.ensures)
    (subst (λ (ms : List CertModulus). AreRowsAlong of.nest.now cs fold.basis.rows fold.basis.rows ms) (sym c.as_slice.ensures)
    (clashes_asked of.nest.now of.schedule.now (trees_of of.flow.now) fold c.requires.setting.asked c.requires.asked))

pub add_moduli-requires-clause-fit : goal.add_moduli-requires-clause-fit
add_moduli-requires-clause-fit c =
    let fit = c.requires.fit in
    let f = fit.fold in
    record {
      systems = f.systems;
      are = fit.said.systems;
      fit = subst (λ (r : List Affine). AreRowsFit f.systems r (map modulus_said c.as_slice.result.now)) (fit.said.rows ∙ sym c.as_slice-rows.ensures)
          (subst (λ (ms : List ModulusShown). AreRowsFit f.systems f.rows ms) (fit.said.moduli ∙ ap (map modulus_said) (sym c.as_slice.ensures)) fit.fit);
    }

pub invariant_of-result : goal.invariant_of-result
invariant_of-result c =
    let rows = c.as_slice-rows.result.now in
    let ms = c.as_slice.result.now in
    let fit = c.requires.fit in
    let systems = fit.fold.systems in
    record {
      one_each = ap length (c.in_ok-add_moduli.ensures systems fit.said.systems ∙ ap (λ z. z ++ moduli_of systems rows (map modulus_said ms)) c.new-moduli.ensures)
          ∙ as_many systems rows (map modulus_said ms) (length_map modulus_said ms ∙ ap length c.as_slice.ensures ∙ c.requires.asked.within.each ∙ sym (ap length c.as_slice-rows.ensures))
          ∙ ap length c.as_slice-rows.ensures ∙ sym (ap length c.in_ok-basis.ensures.rows);
    }

pub returns : goal.returns
returns c = λ f said.
    let rows = c.as_slice-rows.result.now in
    let ms = c.as_slice.result.now in
    record {
      rows = c.in_ok-basis.ensures.rows ∙ sym said.rows;
      moduli = c.in_ok-add_moduli.ensures f.systems said.systems ∙ ap (λ z. z ++ moduli_of f.systems rows (map modulus_said ms)) c.new-moduli.ensures
          ∙ ap (λ r. moduli_of f.systems r (map modulus_said ms)) (c.as_slice-rows.ensures ∙ sym said.rows) ∙ ap (moduli_of f.systems f.rows) (ap (map modulus_said) c.as_slice.ensures ∙ sym said.moduli);
    }
