use Rattle.std.proofs.Common.{rules, ◌≡◌, ◌<◌, ◌∙◌, ap, sym, subst, arith}
use Rattle.std.specs.Prelude.{FitsSigned}
use Rattle.std.specs.Int.{w64}
use Rattle.std.proofs.lemmas.Int.{to_z-of_z}
use Rattle.affc_rows.specs.Forms.{Affine}
use Rattle.affc_rows.specs.Vocabulary.{column_form}
use Rattle.affc_leaf.proofs.BoxRows.{unit_is}
use Rattle.affc_leaf.specs.Parts.{IsEmpty}
use Rattle.affc_leaf.proofs.Steps.{none_both}
use Rattle.affc_leaf.proofs.Splits.{split_valid}
use Rattle.affc_split.proofs.parts.joined.Goals as goal

pub returns-clause-answer : goal.returns-clause-answer
returns-clause-answer c =
    let here = c.args.here.now in
    let s = c.args.split in
    let f : FitsSigned w64 c.args.split.at = search rules in
    let n = here.system.now.columns in
    let there : s.column < n = omega (arith, c.requires.split.there, c.requires.ready.box.width) in
    let whole = subst (λ n. c.in_ok-form.form ≡ column_form n s.column) c.columns.ensures.value c.in_ok-form.ensures.value in
    let e = ap (λ (f : Affine). f.coefs) whole ∙ unit_is n s.column there in
    let k = ap (λ (f : Affine). f.constant) whole in
    subst (λ q. IsEmpty here.system.now here.bounds.now here.next q) (sym c.in-Ok.ensures.ok) (record {
      none = none_both here.system.now here.bounds.now s.column s.at here.next c.requires.split.there c.requires.low.none c.requires.high.none;
      valid = λ rows p. simp to_z-of_z (split_valid here.system.now here.bounds.now here.next s.column s.at c.in_ok-form.form c.args.low.value c.args.high.value
          c.requires.ready.box.width c.requires.ready.box.ranges c.requires.split.there c.requires.split.low_in c.requires.split.high_in e k c.requires.low c.requires.high rows p);
      plain = (k, c.requires.low.plain, c.requires.high.plain);
    })
