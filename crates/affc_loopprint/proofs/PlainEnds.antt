-- The numbers and products of ends are plain.
use Rattle.std.proofs.Common.{◌≡◌, ℕ, suc, ◌^◌, ◌≤◌, pos, Bool, true, not, ◌&&◌, ap, ◌∙◌, arith}
use Rattle.std.proofs.lemmas.Bool.{and_parts, and_from, le-ltb}
use Rattle.affc_ast.specs.declared.tree.Ix.{Ix}
use Rattle.affc_ast.proofs.Steps.{min_here, max_here, floord_here, ceild_here}
use Rattle.affc_cprint.specs.Forms.{form, form_step, is_within}
use Rattle.affc_wellnamed.specs.Plain.{is_plain}
use Rattle.affc_loopprint.proofs.EndCases.{EndCases}
use Rattle.affc_loopprint.proofs.Sums.{sums_plain, number_has, narrow_has}

abbrev pub PlainAt : (column : ℕ) → Ix → Type 0
PlainAt column e = is_plain e ≡ true

divisor_plain : (n : ℕ) → suc n ≤ 2 ^ 62 → is_within (pos (suc n)) ≡ true
divisor_plain n h = ap not (le-ltb (2 ^ 62) (suc n) h)

divided : (a b c : Bool) → a && b ≡ true → c ≡ true → a && (b && c) ≡ true
divided a b c h k = let p = and_parts a b h in and_from a (b && c) p.0 (and_from b c p.1 k)

chosen : (a b c d : Bool) → a && b ≡ true → c && d ≡ true → (a && c) && (b && d) ≡ true
chosen a b c d h k =
    let p = and_parts a b h in
    let q = and_parts c d k in
    and_from (a && c) (b && d) (and_from a c p.0 q.0) (and_from b d p.1 q.1)

pub plain_cases : (first : ℕ) → EndCases first PlainAt (λ operands deep. PlainAt)
plain_cases first = record {
  range_end = λ column z h. number_has (λ e. is_plain e ≡ true) 0 (sums_plain 0) z h;
  form = λ column f l wide s k. narrow_has (λ e. is_plain e ≡ true) column (sums_plain column) first first f s k l (omega (arith, l, wide));
  form_alone = λ column e h. h;
  up = λ column by e s h. ap (λ f. f.affine && f.small) (ceild_here form_step e (pos (suc by))) ∙ divided (form e).affine (form e).small (is_within (pos (suc by))) h (divisor_plain by s);
  down = λ column by e s h. ap (λ f. f.affine && f.small) (floord_here form_step e (pos (suc by))) ∙ divided (form e).affine (form e).small (is_within (pos (suc by))) h (divisor_plain by s);
  least = λ m n d column a b h k. ap (λ f. f.affine && f.small) (min_here form_step a b) ∙ chosen (form a).affine (form a).small (form b).affine (form b).small h k;
  greatest = λ m n d column a b h k. ap (λ f. f.affine && f.small) (max_here form_step a b) ∙ chosen (form a).affine (form a).small (form b).affine (form b).small h k;
  more = λ m n d k column e a b h. h;
}
