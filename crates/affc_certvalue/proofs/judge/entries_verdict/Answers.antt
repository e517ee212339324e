use Rattle.std.proofs.Common.{sym, ap, ap₂, ◌∙◌, ◌-◌, length, take, arith, w64}
use Rattle.std.proofs.lemmas.Int.{to_z-of_z}
use Rattle.serde_json.specs.View.{view, items_view}
use Rattle.affc_certvalue.specs.Verdicts.{worse, within, all_of}
use Rattle.affc_certvalue.proofs.Parts.{form_split}
use Rattle.affc_certvalue.proofs.judge.entries_verdict.Goals as goal

pub returns : goal.returns
returns c =
    let vs = c.args.items.now in
    let front = take (length vs - 1) vs in
    let coefs = c.coefs_verdict-coefs.ensures ∙ ap (λ m. all_of (within m) (items_view front)) (to_z-of_z w64 c.args.most c.ranges.most) in
    let constant = c.size_verdict.ensures ∙ ap₂ (λ m v. within m (view v)) (to_z-of_z w64 c.args.most_constant c.ranges.most_constant) c.index-items-count.is in
    c.and.ensures ∙ ap₂ worse coefs constant ∙ sym (form_split c.args.most c.args.most_constant vs c.index-items-count.result (omega (arith, c.if-count-eq0.false)))
