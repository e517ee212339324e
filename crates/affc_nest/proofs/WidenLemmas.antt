-- Further columns of a form are 0, and plain expressions have small parts.
use Rattle.std.proofs.Common.{◌≡◌, ℕ, zero, suc, ◌+◌, ℤ, pos, negsuc, ◌+ℤ◌, ◌*ℤ◌, neg_ℤ, Bool, true, false, true≢false, IsTrue, List, [], ◌∷◌, ◌++◌, length, replicate, Some, None, refl, sym, ap, subst, ◌∙◌, arith, if◌then◌else◌}
use Rattle.std.specs.Prelude.{not, ◌&&◌, ◌||◌, nat_le, nat_abs}
use Rattle.std.proofs.lemmas.Int.{ints}
use Rattle.std.proofs.lemmas.List.{replicate-append-replicate}
use Rattle.std.proofs.lemmas.Option.{none-some, same_Some}
use Rattle.affc_rows.specs.Forms.{Affine, mixed, mixed_form}
use Rattle.affc_ast.specs.declared.tree.Ix.{Ix}
use Rattle.affc_ast.specs.declared.tree.Ix.TheVariants as c
use Rattle.affc_ast.specs.declared.tree.Ix.TheBlock.{more_of-Ix, end_of-Ix}
use Rattle.affc_trace.proofs.LastStores.{append_nil}
use Rattle.affc_domain.specs.Affine.{sees, unit_of, are_small, is_small, linear, product_form, form_of}
use Rattle.affc_domain.specs.Plain.{is_plain}
use Rattle.affc_domain.proofs.FormLemmas.{form_width, same_named}
use Rattle.affc_domain.proofs.Lists.{both_true, true_both}
use Rattle.affc_nest.specs.declared.forms.Operand.{Operand}
use Rattle.affc_nest.specs.Operands.{kept, mixture, multiple, operand_of}
use Rattle.affc_nest.specs.Questions.{widened}

-- ---- Columns more

none_mixed : (s t : ℤ) (k : ℕ) → mixed s (replicate k (pos 0)) t (replicate k (pos 0)) ≡ replicate k (pos 0)
none_mixed s t zero = refl
none_mixed s t (suc k) = ap (λ z. z ∷ mixed s (replicate k (pos 0)) t (replicate k (pos 0))) (nothing s t) ∙ ap (λ zs. pos 0 ∷ zs) (none_mixed s t k)
  where
    nothing : (s t : ℤ) → (s *ℤ pos 0) +ℤ (t *ℤ pos 0) ≡ pos 0
    nothing s t = omega (arith, ints)

mixed_wide : (s t : ℤ) (cs ds : List ℤ) (k : ℕ) → length cs ≡ length ds → mixed s (cs ++ replicate k (pos 0)) t (ds ++ replicate k (pos 0)) ≡ mixed s cs t ds ++ replicate k (pos 0)
mixed_wide s t [] [] k l = none_mixed s t k
mixed_wide s t [] (d ∷ ds) k l = absurd (omega arith)
mixed_wide s t (c ∷ cs) [] k l = absurd (omega arith)
mixed_wide s t (c ∷ cs) (d ∷ ds) k l = ap (λ zs. ((s *ℤ c) +ℤ (t *ℤ d)) ∷ zs) (mixed_wide s t cs ds k (omega arith))

form_wide : (s t : ℤ) (f g : Affine) (k : ℕ) → length f.coefs ≡ length g.coefs → mixed_form s (widened k f) t (widened k g) ≡ widened k (mixed_form s f t g)
form_wide s t f g k l =
    let n : ℤ = (s *ℤ f.constant) +ℤ (t *ℤ g.constant) in
    ap (λ (cs : List ℤ). let r : Affine = record { coefs = cs; constant = n } in r) (mixed_wide s t f.coefs g.coefs k l)

product_wide : (named : Bool) (f g : Affine) (k : ℕ) → length f.coefs ≡ length g.coefs → product_form named (widened k f) (widened k g) ≡ widened k (product_form named f g)
product_wide true f g k l = form_wide g.constant (pos 0) f g k l
product_wide false f g k l = form_wide (pos 0) f.constant f g k l

more_zeros : (n k : ℕ) → replicate (n + k) (pos 0) ≡ replicate (n + 0) (pos 0) ++ replicate k (pos 0)
more_zeros n k = sym (replicate-append-replicate n k (pos 0)) ∙ ap (λ m. replicate m (pos 0) ++ replicate k (pos 0)) (no_more n)
  where
    no_more : (n : ℕ) → n ≡ n + 0
    no_more n = omega arith

both_widths : (n : ℕ) (a b : Ix) → length (form_of n 0 a).coefs ≡ length (form_of n 0 b).coefs
both_widths n a b = form_width n 0 a ∙ sym (form_width n 0 b)

pub widen_form : (n k : ℕ) (e : Ix) → form_of n k e ≡ widened k (form_of n 0 e)
widen_form n k (c.Lit z) = ap (λ (cs : List ℤ). let r : Affine = record { coefs = cs; constant = z } in r) (more_zeros n k)
widen_form n k (c.Name x) = ap (λ (cs : List ℤ). let r : Affine = record { coefs = cs ++ replicate k (pos 0); constant = pos 0 } in r) (sym (append_nil (unit_of n x.0)))
widen_form n k (c.Neg' s (more_of-Ix a end_of-Ix)) = ap (λ f. mixed_form (negsuc 0) f (pos 0) f) (widen_form n k a) ∙ form_wide (negsuc 0) (pos 0) (form_of n 0 a) (form_of n 0 a) k refl
widen_form n k (c.Add' s (more_of-Ix a end_of-Ix) t (more_of-Ix b end_of-Ix)) =
    ap (λ f. mixed_form (pos 1) f (pos 1) (form_of n k b)) (widen_form n k a) ∙ ap (λ f. mixed_form (pos 1) (widened k (form_of n 0 a)) (pos 1) f) (widen_form n k b)
    ∙ form_wide (pos 1) (pos 1) (form_of n 0 a) (form_of n 0 b) k (both_widths n a b)
widen_form n k (c.Sub' s (more_of-Ix a end_of-Ix) t (more_of-Ix b end_of-Ix)) =
    ap (λ f. mixed_form (pos 1) f (negsuc 0) (form_of n k b)) (widen_form n k a) ∙ ap (λ f. mixed_form (pos 1) (widened k (form_of n 0 a)) (negsuc 0) f) (widen_form n k b)
    ∙ form_wide (pos 1) (negsuc 0) (form_of n 0 a) (form_of n 0 b) k (both_widths n a b)
widen_form n k (c.Mul' s (more_of-Ix a end_of-Ix) t (more_of-Ix b end_of-Ix)) =
    ap (λ t. product_form t (form_of n k a) (form_of n k b)) (same_named n k n 0 a)
    ∙ ap (λ f. product_form (linear n 0 a).named f (form_of n k b)) (widen_form n k a) ∙ ap (λ f. product_form (linear n 0 a).named (widened k (form_of n 0 a)) f) (widen_form n k b)
    ∙ product_wide (linear n 0 a).named (form_of n 0 a) (form_of n 0 b) k (both_widths n a b)
widen_form n k (c.Min' s (more_of-Ix a end_of-Ix) t (more_of-Ix b end_of-Ix)) = widen_form n k a
widen_form n k (c.Max' s (more_of-Ix a end_of-Ix) t (more_of-Ix b end_of-Ix)) = widen_form n k a
widen_form n k (c.Floord' s (more_of-Ix a end_of-Ix) z) = widen_form n k a
widen_form n k (c.Ceild' s (more_of-Ix a end_of-Ix) z) = widen_form n k a
widen_form n k (c.Mod' s (more_of-Ix a end_of-Ix) t (more_of-Ix b end_of-Ix)) = widen_form n k a

-- ---- Small forms

zeros_small : (n : ℕ) → are_small (replicate n (pos 0)) ≡ true
zeros_small zero = refl
zeros_small (suc n) = zeros_small n

unit_small : (n x : ℕ) → are_small (unit_of n x) ≡ true
unit_small zero x = refl
unit_small (suc n) zero = zeros_small n
unit_small (suc n) (suc x) = unit_small n x

append_small : (cs ds : List ℤ) → are_small cs ≡ true → are_small ds ≡ true → are_small (cs ++ ds) ≡ true
append_small [] ds h g = g
append_small (x ∷ cs) ds h g = let a = both_true (nat_le (nat_abs x) 65536) (are_small cs) h in true_both (nat_le (nat_abs x) 65536) (are_small (cs ++ ds)) a.0 (append_small cs ds a.1 g)

pub widened_small : (k : ℕ) (f : Affine) → IsTrue (is_small f) → IsTrue (is_small (widened k f))
widened_small k f h = let a = both_true (nat_le (nat_abs f.constant) 16777216) (are_small f.coefs) h in
    true_both (nat_le (nat_abs f.constant) 16777216) (are_small (f.coefs ++ replicate k (pos 0))) a.0 (append_small f.coefs (replicate k (pos 0)) a.1 (zeros_small k))

-- an opposite is as small
opposite_abs : (x : ℤ) → nat_abs ((negsuc 0 *ℤ x) +ℤ (pos 0 *ℤ x)) ≡ nat_abs x
opposite_abs x = ap nat_abs (negated x) ∙ abs_neg x
  where
    negated : (x : ℤ) → (negsuc 0 *ℤ x) +ℤ (pos 0 *ℤ x) ≡ neg_ℤ x
    negated x = omega (arith, ints)

    abs_neg : (x : ℤ) → nat_abs (neg_ℤ x) ≡ nat_abs x
    abs_neg (pos zero) = refl
    abs_neg (pos (suc n)) = refl
    abs_neg (negsuc n) = refl

opposites_small : (cs : List ℤ) → are_small cs ≡ true → are_small (mixed (negsuc 0) cs (pos 0) cs) ≡ true
opposites_small [] h = refl
opposites_small (x ∷ cs) h =
    let a = both_true (nat_le (nat_abs x) 65536) (are_small cs) h in
    true_both (nat_le (nat_abs ((negsuc 0 *ℤ x) +ℤ (pos 0 *ℤ x))) 65536) (are_small (mixed (negsuc 0) cs (pos 0) cs)) (ap (λ n. nat_le n 65536) (opposite_abs x) ∙ a.0) (opposites_small cs a.1)

opposite_small : (f : Affine) → is_small f ≡ true → is_small (mixed_form (negsuc 0) f (pos 0) f) ≡ true
opposite_small f h =
    let a = both_true (nat_le (nat_abs f.constant) 16777216) (are_small f.coefs) h in
    true_both (nat_le (nat_abs ((negsuc 0 *ℤ f.constant) +ℤ (pos 0 *ℤ f.constant))) 16777216) (are_small (mixed (negsuc 0) f.coefs (pos 0) f.coefs))
    (ap (λ n. nat_le n 16777216) (opposite_abs f.constant) ∙ a.0) (opposites_small f.coefs a.1)

-- ---- Operands

is_kept : (named : Bool) (f : Affine) → is_small f ≡ true → kept named f ≡ Some (record { named = named; form = f })
is_kept named f h = ap (λ t. if t then Some (let r : Operand = record { named = named; form = f } in r) else None) h

-- small where its parts are
pub small_form : (n : ℕ) (e : Ix) → (linear n 0 e).small ≡ true → is_small (form_of n 0 e) ≡ true
small_form n (c.Lit z) h = true_both (nat_le (nat_abs z) 16777216) (are_small (replicate (n + 0) (pos 0))) h (zeros_small (n + 0))
small_form n (c.Name x) h = append_small (unit_of n x.0) [] (unit_small n x.0) refl
small_form n (c.Neg' s (more_of-Ix a end_of-Ix)) h = opposite_small (form_of n 0 a) (small_form n a h)
small_form n (c.Add' s (more_of-Ix a end_of-Ix) t (more_of-Ix b end_of-Ix)) h = (both_true ((linear n 0 a).small && (linear n 0 b).small) _ h).1
small_form n (c.Sub' s (more_of-Ix a end_of-Ix) t (more_of-Ix b end_of-Ix)) h = (both_true ((linear n 0 a).small && (linear n 0 b).small) _ h).1
small_form n (c.Mul' s (more_of-Ix a end_of-Ix) t (more_of-Ix b end_of-Ix)) h = (both_true ((linear n 0 a).small && (linear n 0 b).small) _ h).1
small_form n (c.Min' s (more_of-Ix a end_of-Ix) t (more_of-Ix b end_of-Ix)) h = small_form n a h
small_form n (c.Max' s (more_of-Ix a end_of-Ix) t (more_of-Ix b end_of-Ix)) h = small_form n a h
small_form n (c.Floord' s (more_of-Ix a end_of-Ix) z) h = small_form n a h
small_form n (c.Ceild' s (more_of-Ix a end_of-Ix) z) h = small_form n a h
small_form n (c.Mod' s (more_of-Ix a end_of-Ix) t (more_of-Ix b end_of-Ix)) h = small_form n a h

not_both : (t : Bool) → not t ≡ true → t ≡ false
not_both true h = absurd (true≢false (sym h))
not_both false h = refl

pub operand_is : (n : ℕ) (e : Ix) → (linear n 0 e).affine ≡ true → (linear n 0 e).small ≡ true → operand_of n e ≡ Some (record { named = (linear n 0 e).named; form = (linear n 0 e).form })
operand_is n (c.Lit z) a h =
    is_kept false (record { coefs = replicate n (pos 0); constant = z }) (true_both (nat_le (nat_abs z) 16777216) (are_small (replicate n (pos 0))) h (zeros_small n))
    ∙ ap (λ k. Some (let r : Operand = record { named = false; form = record { coefs = replicate k (pos 0); constant = z } } in r)) (no_more n)
  where
    no_more : (n : ℕ) → n ≡ n + 0
    no_more n = omega arith
operand_is n (c.Name x) a h =
    is_kept true (record { coefs = unit_of n x.0; constant = pos 0 }) (unit_small n x.0)
    ∙ ap (λ cs. Some (let r : Operand = record { named = true; form = record { coefs = cs; constant = pos 0 } } in r)) (sym (append_nil (unit_of n x.0)))
operand_is n (c.Neg' s (more_of-Ix e end_of-Ix)) a h =
    let p = operand_is n e a h in
    let l = linear n 0 e in
    ap (λ o. mixture (negsuc 0) o (pos 0) o) p ∙ is_kept (l.named || l.named) (mixed_form (negsuc 0) l.form (pos 0) l.form) (opposite_small l.form (small_form n e h))
    ∙ ap (λ t. Some (let r : Operand = record { named = t; form = mixed_form (negsuc 0) l.form (pos 0) l.form } in r)) (twice l.named)
  where
    twice : (t : Bool) → t || t ≡ t
    twice true = refl
    twice false = refl
operand_is n (c.Add' s (more_of-Ix d end_of-Ix) t (more_of-Ix e end_of-Ix)) a h =
    let x = linear n 0 d in
    let y = linear n 0 e in
    let f = both_true x.affine y.affine a in
    let g = both_true (x.small && y.small) (is_small (mixed_form (pos 1) x.form (pos 1) y.form)) h in
    let k = both_true x.small y.small g.0 in
    ap (λ o. mixture (pos 1) o (pos 1) (operand_of n e)) (operand_is n d f.0 k.0) ∙ ap (λ o. mixture (pos 1) (Some (record { named = x.named; form = x.form })) (pos 1) o) (operand_is n e f.1 k.1)
    ∙ is_kept (x.named || y.named) (mixed_form (pos 1) x.form (pos 1) y.form) g.1
operand_is n (c.Sub' s (more_of-Ix d end_of-Ix) t (more_of-Ix e end_of-Ix)) a h =
    let x = linear n 0 d in
    let y = linear n 0 e in
    let f = both_true x.affine y.affine a in
    let g = both_true (x.small && y.small) (is_small (mixed_form (pos 1) x.form (negsuc 0) y.form)) h in
    let k = both_true x.small y.small g.0 in
    ap (λ o. mixture (pos 1) o (negsuc 0) (operand_of n e)) (operand_is n d f.0 k.0) ∙ ap (λ o. mixture (pos 1) (Some (record { named = x.named; form = x.form })) (negsuc 0) o) (operand_is n e f.1 k.1)
    ∙ is_kept (x.named || y.named) (mixed_form (pos 1) x.form (negsuc 0) y.form) g.1
operand_is n (c.Mul' s (more_of-Ix d end_of-Ix) t (more_of-Ix e end_of-Ix)) a h =
    let x = linear n 0 d in
    let y = linear n 0 e in
    let b = both_true (x.affine && y.affine) (not (x.named && y.named)) a in
    let f = both_true x.affine y.affine b.0 in
    let g = both_true (x.small && y.small) (is_small (product_form x.named x.form y.form)) h in
    let k = both_true x.small y.small g.0 in
    ap (λ o. multiple o (operand_of n e)) (operand_is n d f.0 k.0) ∙ ap (λ o. multiple (Some (record { named = x.named; form = x.form })) o) (operand_is n e f.1 k.1)
    ∙ ap (λ t. if t then None else kept (x.named || y.named) (product_form x.named x.form y.form)) (not_both (x.named && y.named) b.1)
    ∙ is_kept (x.named || y.named) (product_form x.named x.form y.form) g.1
operand_is n (c.Min' s (more_of-Ix d end_of-Ix) t (more_of-Ix e end_of-Ix)) a h = absurd (true≢false (sym a))
operand_is n (c.Max' s (more_of-Ix d end_of-Ix) t (more_of-Ix e end_of-Ix)) a h = absurd (true≢false (sym a))
operand_is n (c.Floord' s (more_of-Ix d end_of-Ix) z) a h = absurd (true≢false (sym a))
operand_is n (c.Ceild' s (more_of-Ix d end_of-Ix) z) a h = absurd (true≢false (sym a))
operand_is n (c.Mod' s (more_of-Ix d end_of-Ix) t (more_of-Ix e end_of-Ix)) a h = absurd (true≢false (sym a))

-- ---- Plain expressions

plain_parts : (n : ℕ) (e : Ix) → IsTrue (is_plain n e) → ((linear n 0 e).affine ≡ true) × ((linear n 0 e).small ≡ true)
plain_parts n e h = both_true (linear n 0 e).affine (linear n 0 e).small (both_true (sees n e) ((linear n 0 e).affine && (linear n 0 e).small) h).1

pub no_operand : (n : ℕ) (e : Ix) → IsTrue (is_plain n e) → None ≡ operand_of n e → ⊥
no_operand n e h g = let p = plain_parts n e h in none-some (record { named = (linear n 0 e).named; form = (linear n 0 e).form }) (g ∙ operand_is n e p.0 p.1)

pub operand_form : (n k : ℕ) (e : Ix) (a : Operand) → IsTrue (is_plain n e) → Some a ≡ operand_of n e → widened k a.form ≡ form_of n k e
operand_form n k e a h g =
    let p = plain_parts n e h in
    let same : a ≡ record { named = (linear n 0 e).named; form = (linear n 0 e).form } = same_Some a _ (g ∙ operand_is n e p.0 p.1) in
    ap (λ (x : Operand). widened k x.form) same ∙ sym (widen_form n k e)

pub plain_small : (n k : ℕ) (e : Ix) → IsTrue (is_plain n e) → IsTrue (is_small (form_of n k e))
plain_small n k e h = subst (λ f. IsTrue (is_small f)) (sym (widen_form n k e)) (widened_small k (form_of n 0 e) (small_form n e (plain_parts n e h).1))
