-- Forms whose parts are within the limits are so themselves.
use Rattle.std.proofs.Common.{◌≡◌, ℕ, zero, suc, ◌^◌, ℤ, pos, negsuc, ◌+ℤ◌, ◌*ℤ◌, neg_ℤ, nat_abs, nat_le, Bool, true, not, ◌&&◌, List, [], ◌∷◌, ◌++◌, map, replicate, refl, ap, ◌∙◌, arith}
use Rattle.std.proofs.lemmas.Bool.{and_parts, and_from, false≢true}
use Rattle.std.proofs.lemmas.Int.{ints}
use Rattle.affc_rows.specs.Forms.{Affine, mixed, mixed_form}
use Rattle.affc_ast.specs.declared.tree.Ix.{Ix}
use Rattle.affc_ast.specs.declared.tree.Ix.TheVariants as c
use Rattle.affc_ast.proofs.Steps.{neg_here}
use Rattle.affc_trace.specs.Target.{are_slight, all_slight}
use Rattle.affc_domain.specs.Affine.{unit_of, Linear, linear_step, form_of}
use Rattle.affc_grammar.specs.Draft.{IxDraft, literal, name, negated, sum, difference, product, grouped, chosen, divided}
use Rattle.affc_grammar.specs.Limits.{at_if, first_token}
use Rattle.affc_schedtext.specs.Rules.{Columns, form_over, over_columns, slight_here, slight_parts, large_forms}
use Rattle.affc_schedtext.proofs.Empty.{none_left, none_right, kept_if}

abbrev is_slight : Affine → Bool
is_slight f = nat_le (nat_abs f.constant) (2 ^ 30) && are_slight f.coefs

-- ---- The form of a column, and opposites

zeros_slight : (n : ℕ) → are_slight (replicate n (pos 0) ++ []) ≡ true
zeros_slight zero = refl
zeros_slight (suc n) = zeros_slight n

unit_slight : (n x : ℕ) → are_slight (unit_of n x ++ []) ≡ true
unit_slight zero x = refl
unit_slight (suc n) zero = zeros_slight n
unit_slight (suc n) (suc x) = unit_slight n x

opposite_abs : (x : ℤ) → nat_abs ((negsuc 0 *ℤ x) +ℤ (pos 0 *ℤ x)) ≡ nat_abs x
opposite_abs x = ap nat_abs (opposite x) ∙ abs_neg x
  where
    opposite : (x : ℤ) → (negsuc 0 *ℤ x) +ℤ (pos 0 *ℤ x) ≡ neg_ℤ x
    opposite x = omega (arith, ints)

    abs_neg : (x : ℤ) → nat_abs (neg_ℤ x) ≡ nat_abs x
    abs_neg (pos zero) = refl
    abs_neg (pos (suc n)) = refl
    abs_neg (negsuc n) = refl

opposites_slight : (cs : List ℤ) → are_slight cs ≡ true → are_slight (mixed (negsuc 0) cs (pos 0) cs) ≡ true
opposites_slight [] h = refl
opposites_slight (x ∷ cs) h =
    let a = and_parts (nat_le (nat_abs x) 256) (are_slight cs) h in
    and_from (nat_le (nat_abs ((negsuc 0 *ℤ x) +ℤ (pos 0 *ℤ x))) 256) (are_slight (mixed (negsuc 0) cs (pos 0) cs)) (ap (λ n. nat_le n 256) (opposite_abs x) ∙ a.0) (opposites_slight cs a.1)

opposite_slight : (f : Affine) → is_slight f ≡ true → is_slight (mixed_form (negsuc 0) f (pos 0) f) ≡ true
opposite_slight f h =
    let a = and_parts (nat_le (nat_abs f.constant) (2 ^ 30)) (are_slight f.coefs) h in
    and_from (nat_le (nat_abs ((negsuc 0 *ℤ f.constant) +ℤ (pos 0 *ℤ f.constant))) (2 ^ 30)) (are_slight (mixed (negsuc 0) f.coefs (pos 0) f.coefs))
    (ap (λ n. nat_le n (2 ^ 30)) (opposite_abs f.constant) ∙ a.0) (opposites_slight f.coefs a.1)

neg_form : (n : ℕ) (a : Ix) → form_of n 0 (c.Neg a) ≡ mixed_form (negsuc 0) (form_of n 0 a) (pos 0) (form_of n 0 a)
neg_form n a = ap (λ (l : Linear). l.form) (neg_here (linear_step n 0) a)

-- ---- Expressions

here_is : (k : Columns) (e : IxDraft) → slight_here k e ≡ true → is_slight (form_over k e) ≡ true
here_is k e h = (and_parts (is_slight (form_over k e)) true h).0

pub slight_of : (k : Columns) (e : IxDraft) → slight_parts k e ≡ true → is_slight (form_over k e) ≡ true
slight_of k (literal at n) h = here_is k (literal at n) h
slight_of k (name at w) h = unit_slight k.count _
slight_of k (negated at a) h = ap is_slight (neg_form k.count (over_columns k.scope a)) ∙ opposite_slight (form_over k a) (slight_of k a h)
slight_of k (sum a b) h = here_is k (sum a b) (and_parts (slight_here k (sum a b)) (slight_parts k a) (and_parts (slight_here k (sum a b) && slight_parts k a) (slight_parts k b) h).0).0
slight_of k (difference a b) h = here_is k (difference a b) (and_parts (slight_here k (difference a b)) (slight_parts k a) (and_parts (slight_here k (difference a b) && slight_parts k a) (slight_parts k b) h).0).0
slight_of k (product at a b) h = here_is k (product at a b) (and_parts (slight_here k (product at a b)) (slight_parts k a) (and_parts (slight_here k (product at a b) && slight_parts k a) (slight_parts k b) h).0).0
slight_of k (grouped at a) h = slight_of k a h
slight_of k (chosen at f a b) h = absurd (false≢true h)
slight_of k (divided at f a by_at by) h = absurd (false≢true h)

pub all_are_slight : (k : Columns) (es : List IxDraft) → large_forms k es ≡ [] → all_slight (map (form_over k) es) ≡ true
all_are_slight k [] e = refl
all_are_slight k (x ∷ es) e =
    let here = kept_if (slight_parts k x) (first_token x) (none_left (at_if (not (slight_parts k x)) (first_token x)) (large_forms k es) e) in
    and_from (is_slight (form_over k x)) (all_slight (map (form_over k) es)) (slight_of k x here) (all_are_slight k es (none_right (at_if (not (slight_parts k x)) (first_token x)) (large_forms k es) e))
