-- What the forms of right lines are.
use Rattle.std.proofs.Common.{◌≡◌, ◌≤◌, true, not, ◌&&◌, List, [], ◌∷◌, length, map, ℤ, ◌^◌, refl, sym, ap, ◌∙◌, subst, arith}
use Rattle.std.specs.Prelude.{unsigned_abs, nat_le, nat_abs}
use Rattle.std.proofs.lemmas.Bool.{and_parts, and_from}
use Rattle.std.proofs.lemmas.List.{length-map}
use Rattle.std.proofs.lemmas.List.Elements.{All-cons}
use Rattle.affc_rows.specs.Forms.{Affine, HaveColumns}
use Rattle.affc_trace.specs.Target.{are_slight, all_slight}
use Rattle.affc_basis.specs.Bases.{IsSquare, AreWithin, HaveCoefsWithin}
use Rattle.affc_schedtext.specs.declared.terms.Term as code
use Rattle.affc_schedtext.specs.Terms.{term}
use Rattle.affc_grammar.specs.Limits.{at_if, first_token}
use Rattle.affc_schedtext.specs.declared.outline.Outline.{Outline}
use Rattle.affc_schedtext.specs.Outline.{dimensions_of, array_at}
use Rattle.affc_schedtext.specs.Draft.{LineDraft}
use Rattle.affc_schedtext.specs.Rules.{Columns, Sides, form_over, slight_parts, large_forms, large_sides, fold_sides, there_forms, back_forms}
use Rattle.affc_schedtext.proofs.Empty.{none_left, none_right, kept_if}
use Rattle.affc_schedtext.proofs.Slight.{all_are_slight}
use Rattle.affc_plan.specs.Lines.{IsFew}
use Rattle.affc_plan.specs.Lists.{are_slight_parts}
use Rattle.affc_schedtext.specs.declared.draft.LineDraft as line
use Rattle.affc_plan.specs.declared.columns.Sides as own
use Rattle.affc_plan.specs.Maps.{IsRightFold, ArePair}
use Rattle.affc_plan.specs.Seen.{columns_seen, sides_seen}
use Rattle.affc_plan.proofs.OperandLaws.{slight_entry}
use Rattle.affc_plan.proofs.Pairs.{widths}

-- no expression is large where each is slight
pub slight_all : (c : Columns) (es : List code.Term) → large_forms c (map term es) ≡ [] → are_slight_parts c es ≡ true
slight_all c [] h = refl
slight_all c (e ∷ es) h =
    let first = kept_if (slight_parts c (term e)) (first_token (term e)) (none_left (at_if (not (slight_parts c (term e))) (first_token (term e))) (large_forms c (map term es)) h) in
    and_from (slight_parts c (term e)) (are_slight_parts c es) first (slight_all c es (none_right (at_if (not (slight_parts c (term e))) (first_token (term e))) (large_forms c (map term es)) h))

-- ---- Bases

within : (cs : List ℤ) → are_slight cs ≡ true → AreWithin 256 cs
within [] h = λ k d lt. absurd (omega (arith, lt))
within (c ∷ cs) h =
    let a = and_parts (nat_le (nat_abs c) 256) (are_slight cs) h in
    All-cons (λ x. unsigned_abs x ≤ 256) c cs (slight_entry c 256 a.0) (within cs a.1)

coefs_within : (fs : List Affine) → all_slight fs ≡ true → HaveCoefsWithin 256 fs
coefs_within [] h = λ k d lt. absurd (omega (arith, lt))
coefs_within (f ∷ fs) h =
    let a = and_parts (nat_le (nat_abs f.constant) (2 ^ 30) && are_slight f.coefs) (all_slight fs) h in
    All-cons (λ (g : Affine). AreWithin 256 g.coefs) f fs (within f.coefs (and_parts (nat_le (nat_abs f.constant) (2 ^ 30)) (are_slight f.coefs) a.0).1) (coefs_within fs a.1)

pub record IsGiven (rows inverse : List Affine) : Type 0 where
  pub square : IsSquare rows inverse
  pub row_bounds : HaveCoefsWithin 256 rows
  pub inverse_bounds : HaveCoefsWithin 256 inverse

pub given_of_fold : (o : Outline) (l : LineDraft) → IsFew o → IsRightFold o l → IsGiven (there_forms (fold_sides o l)) (back_forms (fold_sides o l))
given_of_fold o l few r =
    let sides = fold_sides o l in
    let rows : length (there_forms sides) ≡ r.array.dimensions = length-map l.forms (form_over sides.there_over) ∙ r.forms in
    let back : length (back_forms sides) ≡ r.array.dimensions = length-map l.inverse (form_over sides.back_over) ∙ r.inverse in
    let count : sides.there_over.count ≡ r.array.dimensions = ap (λ x. dimensions_of (array_at o x)) r.named ∙ ap dimensions_of r.stands in
    record {
      square = record {
        columns = subst (λ n. HaveColumns n (there_forms sides)) (count ∙ sym rows) (widths sides.there_over l.forms);
        inverse_columns = subst (λ n. HaveColumns n (back_forms sides)) (count ∙ sym rows) (widths sides.back_over l.inverse);
        one_each = back ∙ sym rows;
        few = let f = few.dimensions r.number r.array r.stands in omega (arith, rows);
      };
      row_bounds = coefs_within (there_forms sides) (all_are_slight sides.there_over l.forms (none_left (large_forms sides.there_over l.forms) (large_forms sides.back_over l.inverse) r.slight));
      inverse_bounds = coefs_within (back_forms sides) (all_are_slight sides.back_over l.inverse (none_right (large_forms sides.there_over l.forms) (large_forms sides.back_over l.inverse) r.slight));
    }

-- ---- The lists of a line, as code has them

pub slight_lists : (s : own.Sides) (l : line.LineDraft) (t : Sides) → sides_seen s l ≡ t → large_sides t ≡ [] → (are_slight_parts (columns_seen s.there) l.forms ≡ true) × (are_slight_parts (columns_seen s.back) l.inverse ≡ true)
slight_lists s l t e h =
    let none : large_sides (sides_seen s l) ≡ [] = ap large_sides e ∙ h in
    let there = large_forms (columns_seen s.there) (map term l.forms) in
    let back = large_forms (columns_seen s.back) (map term l.inverse) in
    (slight_all (columns_seen s.there) l.forms (none_left there back none), slight_all (columns_seen s.back) l.inverse (none_right there back none))

pub lists_are : (s : own.Sides) (l : line.LineDraft) (t : Sides) (fs gs : List Affine) → sides_seen s l ≡ t → fs ≡ map (form_over (columns_seen s.there)) (map term l.forms) → gs ≡ map (form_over (columns_seen s.back)) (map term l.inverse)
    → (fs ≡ there_forms t) × (gs ≡ back_forms t)
lists_are s l t fs gs e f g = (f ∙ ap there_forms e, g ∙ ap back_forms e)

pub same_pair : (t : Sides) (fs gs : List Affine) → fs ≡ there_forms t → gs ≡ back_forms t → ArePair (there_forms t) (back_forms t) → ArePair fs gs
same_pair t fs gs f g p = subst (λ xs. ArePair xs gs) (sym f) (subst (λ ys. ArePair (there_forms t) ys) (sym g) p)

pub same_given : (t : Sides) (fs gs : List Affine) → fs ≡ there_forms t → gs ≡ back_forms t → IsGiven (there_forms t) (back_forms t) → IsGiven fs gs
same_given t fs gs f g p = subst (λ xs. IsGiven xs gs) (sym f) (subst (λ ys. IsGiven (there_forms t) ys) (sym g) p)
