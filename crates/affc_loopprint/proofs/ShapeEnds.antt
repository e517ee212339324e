-- How many tokens and brackets the ends of loops are printed with.
use Rattle.std.proofs.Common.{ℕ, suc, ◌+◌, ◌*◌, ◌≤◌, Bool, true, false, pos, max, length, sym, subst, arith}
use Rattle.affc_ast.specs.declared.tree.Ix.{Ix}
use Rattle.affc_ast.proofs.Steps.{min_here, max_here, floord_here, ceild_here}
use Rattle.affc_cprint.specs.Places.{divides}
use Rattle.affc_cprint.specs.declared.brackets.Place.TheVariants.{Whole}
use Rattle.affc_wellnamed.specs.declared.shape.IxExtent.{IxExtent}
use Rattle.affc_wellnamed.specs.Shape.{placed, quotient, choice, ix_step, ix_extent, whole}
use Rattle.affc_loopprint.proofs.reprint.Rows.{Under, under_more, under_both, under_tokens, under_brackets}
use Rattle.affc_loopprint.proofs.EndCases.{EndCases}
use Rattle.affc_loopprint.proofs.ShapeForms.{Few, number_few, form_fewer}

-- a form of at most 15 columns
abbrev pub FormFew : (column : ℕ) → Ix → Type 0
FormFew column e = column ≤ 15 → Few 64 1 (whole true e)

-- with four tokens to spare, by which it is joined to others
abbrev pub EndFew : (operands deep column : ℕ) → Ix → Type 0
EndFew operands deep column e = column ≤ 15 → Under 4 (73 * operands) (deep + 2) (whole true e)

quotient_few : (may_stand : Bool) (a : IxExtent) → Few 64 1 (placed Whole a) → Under 4 73 2 (placed Whole (quotient may_stand a))
quotient_few true a f = under_more 0 69 2 4 73 2 _ (omega arith) (omega arith) (under_tokens 1 0 68 2 _ (under_brackets 0 66 1 _ (under_tokens 2 0 64 1 (placed Whole a) f)))
quotient_few false a f = record { few = omega arith; shallow = omega arith }

choice_few : (m n d : ℕ) (a b : IxExtent) → Under 4 (73 * m) (d + 2) (placed Whole a) → Under 4 (73 * n) (d + 2) (placed Whole b) → Under 4 (73 * (m + n)) (suc d + 2) (placed Whole (choice true a b))
choice_few m n d a b f g =
    under_more 8 (73 * m + 73 * n + 1 + 2 + 1) (max (d + 2) (d + 2) + 1) 4 (73 * (m + n)) (suc d + 2) _ (omega arith) (omega arith)
    (under_tokens 1 8 _ _ _ (under_brackets 8 _ _ _ (under_tokens 1 8 _ _ _ (under_both 4 (73 * m) (d + 2) 4 (73 * n) (d + 2) (placed Whole a) (placed Whole b) f g))))

pub few_cases : (first : ℕ) → EndCases first FormFew EndFew
few_cases first = record {
  range_end = λ column z h l. under_more 0 2 0 4 73 2 _ (omega arith) (omega arith) (number_few z);
  form = λ column f l wide s k m. under_more 0 (4 * length f.coefs + 4) 1 0 64 1 _ (omega (arith, wide, m)) (omega arith) (form_fewer first first f);
  form_alone = λ column e h l. under_more 0 64 1 4 73 2 (whole true e) (omega arith) (omega arith) (h l);
  up = λ column by e s h l. subst (λ z. Under 4 73 2 (placed Whole z)) (sym (ceild_here (ix_step true) e (pos (suc by)))) (quotient_few (divides true (pos (suc by))) (ix_extent true e) (h l));
  down = λ column by e s h l. subst (λ z. Under 4 73 2 (placed Whole z)) (sym (floord_here (ix_step true) e (pos (suc by)))) (quotient_few (divides true (pos (suc by))) (ix_extent true e) (h l));
  least = λ m n d column a b h k l. subst (λ z. Under 4 (73 * (m + n)) (suc d + 2) (placed Whole z)) (sym (min_here (ix_step true) a b)) (choice_few m n d (ix_extent true a) (ix_extent true b) (h l) (k l));
  greatest = λ m n d column a b h k l. subst (λ z. Under 4 (73 * (m + n)) (suc d + 2) (placed Whole z)) (sym (max_here (ix_step true) a b)) (choice_few m n d (ix_extent true a) (ix_extent true b) (h l) (k l));
  more = λ m n d k column e a b h l. under_more 4 (73 * m) (d + 2) 4 (73 * n) (k + 2) (whole true e) (omega (arith, a)) (omega (arith, b)) (h l);
}
