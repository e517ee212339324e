use Rattle.std.proofs.Common.{◌<◌, length, sym, subst}
use Rattle.std.proofs.lemmas.Option.{slice_get-get_or}
use Rattle.affc_moduli.proofs.AskedLemmas.{gs_each, way_backward}
use Rattle.affc_moduli.proofs.extremes.backward_at.Goals as goal

pub returns-clause-way : goal.returns-clause-way
returns-clause-way c =
    let asked = c.args.asked.now in
    let i = c.args.i in
    let here = slice_get-get_or asked.given.pairs.now i c.index-asked-i.result (subst (λ n. i < n) c.requires.asked.slices.one_each c.requires.within) in
    let there = slice_get-get_or asked.regions.now i c.index-asked-i-2.result c.requires.within in
    let at = slice_get-get_or asked.line.gs.now i c.index-asked-i-3.result (subst (λ n. i < n) (sym (gs_each asked c.requires.asked)) c.requires.within) in
    way_backward asked c.requires.asked _ here there at

pub returns-clause-form : goal.returns-clause-form
returns-clause-form c =
    let asked = c.args.asked.now in
    slice_get-get_or asked.line.gs.now c.args.i c.index-asked-i-3.result (subst (λ n. c.args.i < n) (sym (gs_each asked c.requires.asked)) c.requires.within)
