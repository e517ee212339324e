use Rattle.std.proofs.Common.{◌≡◌, ℕ, ◌<◌, refl, pos, List, [], ◌∷◌, codes, lit≤, zero, suc, arith, subst}
use Rattle.affc_rows.specs.Forms.{Affine}
use Rattle.affc_grammar.specs.Grammar as g
use Rattle.affc_grammar.specs.Grammar.{mark}
use Rattle.affc_grammar.specs.Verdict.{line}
use Rattle.affc_trace.specs.Inverses.{GivesColumn}
use Rattle.std.proofs.lemmas.Option.{same_Some}
use Rattle.affc_trace.specs.Inverses.{column}
use Rattle.affc_rows.specs.Forms.{columns_of, composed_form}
use Rattle.affc_schedtext.specs.Examples.{form}
use Rattle.affc_schedtext.proofs.examples.refusals.Goals as goal

-- before the first there is none
none_before : (A : ℕ → Type 0) (j : ℕ) → j < 0 → A j
none_before A j lt = absurd (omega (arith, lt))

pub returns-clause-an_iterator_is_lost : goal.returns-clause-an_iterator_is_lost
returns-clause-an_iterator_is_lost c = record {
  within = lit≤ tt;
  lost = λ h. let e = h (form (pos 0 ∷ pos 1 ∷ []) (pos 1)) refl in absurd (cc);
  before = none_before _;
}

first_given : (images : List Affine) (g h : Affine) → composed_form g images ≡ column (columns_of images) 0 → (j : ℕ) → j < 1 → GivesColumn (g ∷ h ∷ []) images 0 j
first_given images g h e zero lt = λ f same. subst (λ f. composed_form f images ≡ column (columns_of images) 0) (same_Some g f same) e
first_given images g h e (suc j) lt = absurd (omega (arith, lt))

pub returns-clause-the_second_is_lost : goal.returns-clause-the_second_is_lost
returns-clause-the_second_is_lost c = record {
  within = lit≤ tt;
  lost = λ h. let e = h (form (pos 1 ∷ pos 0 ∷ []) (pos 0)) refl in absurd (cc);
  before = first_given (form (pos 1 ∷ pos 0 ∷ []) (pos 0) ∷ form (pos 0 ∷ pos 1 ∷ []) (pos 0) ∷ []) (form (pos 1 ∷ pos 0 ∷ []) (pos 0)) (form (pos 1 ∷ pos 0 ∷ []) (pos 0)) refl;
}

pub returns-clause-a_subscript_is_lost : goal.returns-clause-a_subscript_is_lost
returns-clause-a_subscript_is_lost c = record {
  within = lit≤ tt;
  broken = λ h. let e = h.product (form (pos 1 ∷ pos 0 ∷ []) (pos 0)) refl in absurd (cc);
  before = none_before _;
}

pub returns-clause-a_product_stands_at_its_sign : goal.returns-clause-a_product_stands_at_its_sign
returns-clause-a_product_stands_at_its_sign c = record {
  front = mark (codes "(") ∷ [];
  left = g.times (g.factor (g.atom (g.literal (codes "2")))) (g.atom (g.name (codes "i")));
  right = g.atom (g.name (codes "N"));
  others = line (codes "+ 1");
  stands = refl;
  left_names = refl;
  right_names = refl;
  its_place = refl;
}
