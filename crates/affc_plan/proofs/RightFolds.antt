-- Folds that break no rule are right.
use Rattle.std.proofs.Common.{◌≡◌, ℕ, zero, suc, ◌+◌, ◌≤◌, Bool, true, false, not, ◌||◌, ◌==◌, List, [], ◌∷◌, ◌++◌, length, flat_map, codes, slice_get, Option, Some, None, refl, sym, ap, ◌∙◌, arith, length-append}
use Rattle.std.proofs.lemmas.Bool.{eqb-true, and_parts, or_parts}
use Rattle.affc_grammar.specs.Grammar.{Name}
use Rattle.affc_grammar.specs.Draft.{ix_draft}
use Rattle.affc_grammar.specs.Limits.{at_if}
use Rattle.affc_schedtext.specs.declared.outline.ArrayOutline.{ArrayOutline}
use Rattle.affc_schedtext.specs.declared.outline.Outline.{Outline}
use Rattle.affc_schedtext.specs.Outline.{Scope, array_of, array_at, dimensions_of, numbered_names, lists_by, always, fold_lists, fold_presence}
use Rattle.affc_schedtext.specs.Grammar as g
use Rattle.affc_schedtext.specs.Grammar.{FormsText, GivenText, InverseText, written, LineText, Text, order, and_fold, entry_symbols, forms_symbols, text_symbols}
use Rattle.affc_schedtext.specs.Draft.{LineDraft, forms_draft, given_draft, inverse_draft, line_draft, text_draft}
use Rattle.affc_schedtext.specs.Rules.{is_in, wrong_folds, is_temporary_of, large_sides, fold_sides}
use Rattle.affc_schedtext.proofs.Counted.{Each}
use Rattle.affc_schedtext.proofs.Empty.{none_left, none_right}
use Rattle.affc_plan.specs.Maps.{IsRightFold}

-- ---- How many forms a fold has

abbrev dimensions_at : Outline → Name → ℕ
dimensions_at o w = dimensions_of (array_at o (array_of o w))

-- it has a form, and where its array has dimensions, as many inverse forms
pub record HasLists (o : Outline) (l : LineDraft) : Type 0 where
  pub some : 1 ≤ length l.forms
  pub inverse : 1 ≤ dimensions_at o l.name → length l.inverse ≡ dimensions_at o l.name

forms_some : {scope : Scope} (t : FormsText scope) (at : ℕ) → 1 ≤ length (forms_draft at t)
forms_some (g.one_form a) at = omega arith
forms_some (g.and_form fs a) at =
    let h = forms_some fs at in
    let e = length-append (forms_draft at fs) (ix_draft (at + length (forms_symbols fs) + 1) a.written ∷ []) in
    omega arith

given_long : {scope : Scope} {ws : List Name} (t : GivenText scope ws) (at : ℕ) → length (given_draft at t) ≡ length ws
given_long (g.last_entry w a) at = refl
given_long (g.entry_then w a others) at = ap suc (given_long others (at + length (entry_symbols w a) + 1))

names_long : (letter : List ℕ) (from n : ℕ) → length (numbered_names letter from n) ≡ n
names_long letter from zero = refl
names_long letter from (suc n) = ap suc (names_long letter (suc from) n)

inverse_long : (m : ℕ) (scope : Scope) (at : ℕ) (t : InverseText scope (lists_by m).words always) → 1 ≤ m → length (inverse_draft at t) ≡ m
inverse_long zero scope at t h = absurd (omega (arith, h))
inverse_long (suc m) scope at (written (g.given t)) h = given_long t (at + 1) ∙ ap suc (names_long (codes "x") 1 m)

each_more : {A : Type 0} (P : A → Type 0) (xs : List A) (x : A) → Each P xs → P x → Each P (xs ++ x ∷ [])
each_more P [] x h p = (p, tt)
each_more P (y ∷ xs) x h p = (h.0, each_more P xs x h.1 p)

module _ (o : Outline) where
  line_lists : (l : LineText (fold_lists o) fold_presence) (at : ℕ) → HasLists o (line_draft at l)
  line_lists l at = record { some = forms_some l.forms (at + 3); inverse = λ h. inverse_long (dimensions_at o l.name) (fold_lists o l.name).back _ l.inverse h }

  pub folds_have_lists : (c : Text o) → Each (HasLists o) (text_draft c).folds
  folds_have_lists (order s) = tt
  folds_have_lists (and_fold c l) = each_more (HasLists o) (text_draft c).folds (line_draft (length (text_symbols c) + 1) l) (folds_have_lists c) (line_lists l (length (text_symbols c) + 1))

  -- ---- Folds that are right

  not_if : (b : Bool) (at : ℕ) → at_if b at ≡ [] → b ≡ false
  not_if true at e = absurd (cc)
  not_if false at e = refl

  not_not : (b : Bool) → not b ≡ false → b ≡ true
  not_not true e = refl
  not_not false e = absurd (cc)

  record IsNew (earlier : List ℕ) (l : LineDraft) (ls : List LineDraft) : Type 0 where
    number : ℕ
    named : array_of o l.name ≡ Some number
    temporary : is_temporary_of (length l.forms) (array_at o (Some number)) ≡ true
    others : wrong_folds o (number ∷ earlier) ls ≡ []

  first_new : (earlier : List ℕ) (l : LineDraft) (ls : List LineDraft) → wrong_folds o earlier (l ∷ ls) ≡ [] → IsNew earlier l ls
  first_new earlier l ls e = by (array_of o l.name) refl e
    where
      by : (x : Option ℕ) → array_of o l.name ≡ x → ◌≡◌ {A = List ℕ} (elim x [
        | None ↦ l.at ∷ wrong_folds o earlier ls
        | Some y ↦ at_if (is_in y earlier || not (is_temporary_of (length l.forms) (array_at o (Some y)))) l.at ++ wrong_folds o (y ∷ earlier) ls
      ]) [] → IsNew earlier l ls
      by None q h = absurd (cc)
      by (Some y) q h =
          let wrong = is_in y earlier || not (is_temporary_of (length l.forms) (array_at o (Some y))) in
          let parts = or_parts (is_in y earlier) (not (is_temporary_of (length l.forms) (array_at o (Some y)))) (not_if wrong l.at (none_left (at_if wrong l.at) (wrong_folds o (y ∷ earlier) ls) h)) in
          record { number = y; named = q; temporary = not_not (is_temporary_of (length l.forms) (array_at o (Some y))) parts.1; others = none_right (at_if wrong l.at) (wrong_folds o (y ∷ earlier) ls) h }

  right_at : (l : LineDraft) (number : ℕ) (x : Option ArrayOutline) → slice_get o.arrays number ≡ x → array_of o l.name ≡ Some number → is_temporary_of (length l.forms) x ≡ true → HasLists o l → large_sides (fold_sides o l) ≡ [] → IsRightFold o l
  right_at l number None q e t h s = absurd (cc)
  right_at l number (Some a) q e t h s =
      let forms : a.dimensions ≡ length l.forms = eqb-true a.dimensions (length l.forms) (and_parts a.is_temporary (a.dimensions == length l.forms) t).1 in
      let all : dimensions_at o l.name ≡ a.dimensions = ap (λ x. dimensions_of (array_at o x)) e ∙ ap dimensions_of q in
      let some : 1 ≤ length l.forms = h.some in
      record {
        number = number;
        array = a;
        named = e;
        stands = q;
        forms = sym forms;
        inverse = h.inverse (omega (arith, some, forms, all)) ∙ all;
        slight = s;
      }

  pub right_folds : (earlier : List ℕ) (folds : List LineDraft) → wrong_folds o earlier folds ≡ [] → flat_map (λ l. large_sides (fold_sides o l)) folds ≡ [] → Each (HasLists o) folds → Each (IsRightFold o) folds
  right_folds earlier [] w s c = tt
  right_folds earlier (l ∷ ls) w s c =
      let k = first_new earlier l ls w in
      (right_at l k.number (slice_get o.arrays k.number) refl k.named k.temporary c.0 (none_left (large_sides (fold_sides o l)) _ s), right_folds (k.number ∷ earlier) ls k.others (none_right (large_sides (fold_sides o l)) _ s) c.1)
