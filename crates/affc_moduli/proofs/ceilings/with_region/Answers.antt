use Rattle.std.proofs.Common.{◌<◌, get_or, length, sym, subst}
use Rattle.std.proofs.lemmas.Option.{slice_get-get_or}
use Rattle.affc_moduli.proofs.AskedLemmas.{fs_ready, gs_ready, fs_each, gs_each}
use Rattle.affc_moduli.proofs.Free.{one_more}
use Rattle.affc_moduli.proofs.ceilings.with_region.Goals as goal

pub ceiling_of-requires : goal.ceiling_of-requires
ceiling_of-requires c =
    let asked = c.args.asked.now in
    let i = c.args.i in
    let there = slice_get-get_or asked.regions.now i c.index-asked-i.result c.requires.within in
    let at = slice_get-get_or asked.line.fs.now i c.index-asked-i-2.result (subst (λ n. i < n) (sym (fs_each asked c.requires.asked)) c.requires.within) in
    record { askable = fs_ready asked c.requires.asked i _ _ there at }

pub ceiling_of-requires-2 : goal.ceiling_of-requires-2
ceiling_of-requires-2 c =
    let asked = c.args.asked.now in
    let i = c.args.i in
    let there = slice_get-get_or asked.regions.now i c.index-asked-i.result c.requires.within in
    let at = slice_get-get_or asked.line.gs.now i c.index-asked-i-3.result (subst (λ n. i < n) (sym (gs_each asked c.requires.asked)) c.requires.within) in
    record { askable = gs_ready asked c.requires.asked i _ _ there at }

pub returns : goal.returns
returns c =
    let asked = c.args.asked.now in
    let i = c.args.i in
    let region = get_or asked.regions.now i c.index-asked-i.result in
    let f = get_or asked.line.fs.now i c.index-asked-i-2.result in
    let g = get_or asked.line.gs.now i c.index-asked-i-3.result in
    let there = slice_get-get_or asked.regions.now i c.index-asked-i.result c.requires.within in
    let at = slice_get-get_or asked.line.fs.now i c.index-asked-i-2.result (subst (λ n. i < n) (sym (fs_each asked c.requires.asked)) c.requires.within) in
    let here = slice_get-get_or asked.line.gs.now i c.index-asked-i-3.result (subst (λ n. i < n) (sym (gs_each asked c.requires.asked)) c.requires.within) in
    one_more i asked.regions.now asked.line.fs.now asked.line.gs.now region f g there at here
    c.args.bound.most c.ceiling_of.result.most c.greater-once.result.most c.ceiling_of-2.result.most c.greater.result.most
    c.requires.ceiling c.ceiling_of.ensures.bounded c.ceiling_of.ensures.within c.ceiling_of-2.ensures.bounded c.ceiling_of-2.ensures.within
    c.greater-once.ensures.first c.greater-once.ensures.second c.greater-once.ensures.either c.greater.ensures.first c.greater.ensures.second c.greater.ensures.either
