-- The forms of a right line are a pair of lists.
use Rattle.std.proofs.Common.{◌≡◌, ℕ, zero, suc, ◌+◌, ◌-◌, ◌≤◌, List, [], ◌∷◌, length, map, Some, None, sym, ap, ◌∙◌, subst, arith}
use Rattle.std.proofs.lemmas.List.{length-map}
use Rattle.affc_rows.specs.Forms.{HaveColumns, columns_of}
use Rattle.affc_domain.proofs.FormLemmas.{form_width}
use Rattle.affc_grammar.specs.Grammar.{Name}
use Rattle.affc_grammar.specs.Draft.{IxDraft}
use Rattle.affc_schedtext.specs.declared.outline.Outline.{Outline}
use Rattle.affc_schedtext.specs.Outline.{statement_of, iterators_of}
use Rattle.affc_schedtext.specs.Draft.{LineDraft}
use Rattle.affc_schedtext.specs.Rules.{Columns, form_over, over_columns, iterators_or_none, large_forms, statement_sides, there_forms, back_forms}
use Rattle.affc_schedtext.proofs.Empty.{none_left, none_right}
use Rattle.affc_schedtext.proofs.Scheduled.{columns_over}
use Rattle.affc_schedtext.proofs.Slight.{all_are_slight}
use Rattle.affc_plan.specs.Lines.{IsFew}
use Rattle.affc_plan.specs.Maps.{IsRightLine, ArePair}

pub widths : (c : Columns) (es : List IxDraft) → HaveColumns c.count (map (form_over c) es)
widths c [] k d h = absurd (omega (arith, h))
widths c (e ∷ es) zero d h = form_width c.count 0 (over_columns c.scope e) ∙ omega arith
widths c (e ∷ es) (suc k) d h = widths c es k d (omega (arith, h))

few_iterators : (o : Outline) (few : IsFew o) (l : LineDraft) (is : List Name) → iterators_of o (statement_of o l.name) ≡ Some is → length is ≤ 6
few_iterators o few l is e = by (statement_of o l.name) e
  where
    by : (x : _) → iterators_of o x ≡ Some is → length is ≤ 6
    by (Some s) h = few.iterators s is h
    by None h = absurd (cc)

pub pair_of_line : (o : Outline) (n : ℕ) (l : LineDraft) → IsFew o → 1 ≤ n → n ≤ 12 → IsRightLine o n l → ArePair (there_forms (statement_sides o n l)) (back_forms (statement_sides o n l))
pair_of_line o n l few some small r =
    let sides = statement_sides o n l in
    let long : length (there_forms sides) ≡ n = length-map l.forms (form_over sides.there_over) ∙ r.forms in
    let back : length (back_forms sides) ≡ length r.iterators = length-map l.inverse (form_over sides.back_over) ∙ r.inverse in
    let count : sides.there_over.count ≡ length o.parameters + length r.iterators = ap (λ x. length o.parameters + length (iterators_or_none x)) r.stands in
    let columns : columns_of (there_forms sides) ≡ sides.there_over.count = columns_over sides.there_over l.forms (let e = r.forms in omega arith) in
    let names : length r.iterators ≤ 6 = few_iterators o few l r.iterators r.stands in
    let parameters : length o.parameters ≤ 4 = few.parameters in
    let behind : sides.back_over.count ≡ columns_of (there_forms sides) - length (back_forms sides) + length (there_forms sides) = omega (arith, long, back, count, columns) in
    record {
      shaped = subst (λ m. HaveColumns m (there_forms sides)) (sym columns) (widths sides.there_over l.forms);
      inverse_shaped = subst (λ m. HaveColumns m (back_forms sides)) behind (widths sides.back_over l.inverse);
      at_least_iterators = omega (arith, back, count, columns);
      few_columns = omega (arith, count, columns, names, parameters);
      few_forms = omega (arith, long, small);
      slight = all_are_slight sides.there_over l.forms (none_left (large_forms sides.there_over l.forms) (large_forms sides.back_over l.inverse) r.slight);
      inverse_slight = all_are_slight sides.back_over l.inverse (none_right (large_forms sides.there_over l.forms) (large_forms sides.back_over l.inverse) r.slight);
    }
