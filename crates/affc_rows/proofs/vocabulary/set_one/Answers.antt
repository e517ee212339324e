use Rattle.std.proofs.Common.{◌≡◌, length, pos, ap, ◌∙◌}
use Rattle.std.proofs.Math.ListN.{set, length-set}
use Rattle.affc_rows.specs.Vocabulary.{unit_of}
use Rattle.affc_rows.proofs.VocabularyLemmas.{one_set, refill_full}
use Rattle.affc_rows.proofs.vocabulary.set_one.Goals as goal

pub returns-then-x-columns : goal.returns-then-x-columns
returns-then-x-columns c =
    let e : c.as_mut_slice.result.now ≡ c.args.coefs.now.items = c.as_mut_slice.ensures.value in
    let s : set c.as_mut_slice.result.now c.args.x (pos 1) ≡ unit_of c.args.columns c.args.x =
    ap (λ z. set z c.args.x (pos 1)) (e ∙ c.requires) ∙ one_set c.args.columns c.args.x c.if-x-columns.true in
    refill_full c.args.coefs.now.items (set c.as_mut_slice.result.now c.args.x (pos 1)) (length-set c.as_mut_slice.result.now c.args.x (pos 1) ∙ ap length e) ∙ s
