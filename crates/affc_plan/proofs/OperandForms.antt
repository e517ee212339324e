-- What is found of an expression is its form, where each part is slight.
use Rattle.std.proofs.Common.{◌≡◌, ℕ, ◌+◌, ℤ, pos, negsuc, Bool, true, false, ◌&&◌, ◌||◌, if◌then◌else◌, nat_le, nat_abs, ◌^◌, List, replicate, Option, Some, None, refl, sym, ap, ◌∙◌, arith, append-nil}
use Rattle.std.proofs.lemmas.Bool.{and_from}
use Rattle.affc_rows.specs.Forms.{Affine, mixed_form}
use Rattle.affc_ast.proofs.Steps.{neg_here, add_here, sub_here, mul_here}
use Rattle.affc_trace.specs.Target.{are_slight}
use Rattle.affc_domain.specs.Affine.{unit_of, Linear, linear, linear_step, product_form}
use Rattle.affc_grammar.specs.Draft.{IxDraft, literal, name, negated, sum, difference, product, grouped, chosen, divided}
use Rattle.affc_schedtext.specs.Rules.{Columns, column_named, over_columns, form_over, slight_parts}
use Rattle.affc_schedtext.proofs.Slight.{slight_of}
use Rattle.affc_plan.specs.declared.operands.Operand.{Operand}
use Rattle.affc_plan.specs.Operands.{is_slight, kept, mixture, multiple, operand_of}

abbrev linear_over : Columns → IxDraft → Linear
linear_over k e = linear k.count 0 (over_columns k.scope e)

-- a part, where the test holds
abbrev slot : Bool → Bool → Affine → Option Operand
slot b named f = if b then Some (record { named = named; form = f }) else None

abbrev found : Bool → Linear → Option Operand
found b l = slot b l.named l.form

-- ---- Tests of two and of the whole

or_same : (b : Bool) → (b || b) ≡ b
or_same true = refl
or_same false = refl

and_both : (x : Bool) → x ≡ x && true && true
and_both true = refl
and_both false = refl

and_first : (x : Bool) → false ≡ x && true && false
and_first true = refl
and_first false = refl

and_second : (x y : Bool) → false ≡ x && false && y
and_second true y = refl
and_second false y = refl

two_found : (a b : Bool) (l m : Linear) (s t : ℤ) → mixture s (found a l) t (found b m) ≡ slot (is_slight (mixed_form s l.form t m.form) && a && b) (l.named || m.named) (mixed_form s l.form t m.form)
two_found true true l m s t = ap (λ x. slot x (l.named || m.named) (mixed_form s l.form t m.form)) (and_both (is_slight (mixed_form s l.form t m.form)))
two_found true false l m s t = ap (λ x. slot x (l.named || m.named) (mixed_form s l.form t m.form)) (and_first (is_slight (mixed_form s l.form t m.form)))
two_found false b l m s t = ap (λ x. slot x (l.named || m.named) (mixed_form s l.form t m.form)) (and_second (is_slight (mixed_form s l.form t m.form)) b)

product_found : (a b : Bool) (l m : Linear) → multiple (found a l) (found b m) ≡ slot (is_slight (product_form l.named l.form m.form) && a && b) (l.named || m.named) (product_form l.named l.form m.form)
product_found true true l m = ap (λ x. slot x (l.named || m.named) (product_form l.named l.form m.form)) (and_both (is_slight (product_form l.named l.form m.form)))
product_found true false l m = ap (λ x. slot x (l.named || m.named) (product_form l.named l.form m.form)) (and_first (is_slight (product_form l.named l.form m.form)))
product_found false b l m = ap (λ x. slot x (l.named || m.named) (product_form l.named l.form m.form)) (and_second (is_slight (product_form l.named l.form m.form)) b)

-- ---- Expressions

more_none : (n : ℕ) → replicate n (pos 0) ≡ replicate (n + 0) (pos 0)
more_none n = ap (λ m. replicate m (pos 0)) (let e : n ≡ n + 0 = omega arith in e)

literal_form : (k : Columns) (n : ℕ) → (let f : Affine = record { coefs = replicate k.count (pos 0); constant = pos n } in f) ≡ form_over k (literal 0 n)
literal_form k n = ap (λ (cs : List ℤ). let f : Affine = record { coefs = cs; constant = pos n } in f) (more_none k.count)

name_form : (k : Columns) (w : List ℕ) → (let f : Affine = record { coefs = unit_of k.count (column_named (k.scope w)); constant = pos 0 } in f) ≡ form_over k (name 0 w)
name_form k w = ap (λ (cs : List ℤ). let f : Affine = record { coefs = cs; constant = pos 0 } in f) (sym (append-nil (unit_of k.count (column_named (k.scope w)))))

slight_form : (k : Columns) (e : IxDraft) → slight_parts k e ≡ true → is_slight (form_over k e) ≡ true
slight_form k e h = and_from (nat_le (nat_abs (form_over k e).constant) (2 ^ 30) && are_slight (form_over k e).coefs) true (slight_of k e h) refl

-- with a negation each part is slight as before
opposite_found : (k : Columns) (a : IxDraft) (b : Bool) → slight_parts k a ≡ b → mixture (negsuc 0) (found b (linear_over k a)) (pos 0) (found b (linear_over k a)) ≡ found b (linear_over k (negated 0 a))
opposite_found k a false e = refl
opposite_found k a true e =
    let l = linear_over k a in
    let it : linear_over k (negated 0 a) ≡ record { affine = l.affine; named = l.named; small = l.small; form = mixed_form (negsuc 0) l.form (pos 0) l.form } = neg_here (linear_step k.count 0) (over_columns k.scope a) in
    let slight : is_slight (mixed_form (negsuc 0) l.form (pos 0) l.form) ≡ true = ap (λ (m : Linear). is_slight m.form) (sym it) ∙ slight_form k (negated 0 a) e in
    ap (λ b. slot b (l.named || l.named) (mixed_form (negsuc 0) l.form (pos 0) l.form)) slight
    ∙ ap (λ n. slot true n (mixed_form (negsuc 0) l.form (pos 0) l.form)) (or_same l.named)
    ∙ ap (λ (m : Linear). slot true m.named m.form) (sym it)

pub operand_is : (k : Columns) (e : IxDraft) → operand_of k e ≡ found (slight_parts k e) (linear_over k e)
operand_is k (literal at n) = ap (kept false) (literal_form k n)
operand_is k (name at w) =
    ap (kept true) (name_form k w) ∙ ap (λ b. slot b true (form_over k (name 0 w))) (slight_form k (name 0 w) refl)
operand_is k (negated at a) = (λ i. mixture (negsuc 0) (operand_is k a i) (pos 0) (operand_is k a i)) ∙ opposite_found k a (slight_parts k a) refl
operand_is k (sum a b) =
    (λ i. mixture (pos 1) (operand_is k a i) (pos 1) (operand_is k b i))
    ∙ two_found (slight_parts k a) (slight_parts k b) (linear_over k a) (linear_over k b) (pos 1) (pos 1)
    ∙ ap (λ (r : Linear). slot (is_slight r.form && slight_parts k a && slight_parts k b) r.named r.form) (sym (add_here (linear_step k.count 0) (over_columns k.scope a) (over_columns k.scope b)))
operand_is k (difference a b) =
    (λ i. mixture (pos 1) (operand_is k a i) (negsuc 0) (operand_is k b i))
    ∙ two_found (slight_parts k a) (slight_parts k b) (linear_over k a) (linear_over k b) (pos 1) (negsuc 0)
    ∙ ap (λ (r : Linear). slot (is_slight r.form && slight_parts k a && slight_parts k b) r.named r.form) (sym (sub_here (linear_step k.count 0) (over_columns k.scope a) (over_columns k.scope b)))
operand_is k (product at a b) =
    (λ i. multiple (operand_is k a i) (operand_is k b i))
    ∙ product_found (slight_parts k a) (slight_parts k b) (linear_over k a) (linear_over k b)
    ∙ ap (λ (r : Linear). slot (is_slight r.form && slight_parts k a && slight_parts k b) r.named r.form) (sym (mul_here (linear_step k.count 0) (over_columns k.scope a) (over_columns k.scope b)))
operand_is k (grouped at a) = operand_is k a
operand_is k (chosen at f a b) = refl
operand_is k (divided at f a by_at by) = refl

some_found : (b : Bool) (l : Linear) (p : Operand) → found b l ≡ Some p → (true ≡ b) × (p.form ≡ l.form)
some_found true l p h = (refl, let same : ◌≡◌ {A = Operand} (record { named = l.named; form = l.form }) p = cc in ap (λ (q : Operand). q.form) (sym same))
some_found false l p h = absurd (cc)

none_found : (b : Bool) (l : Linear) → found b l ≡ None → false ≡ b
none_found true l h = absurd (cc)
none_found false l h = refl

pub found_slight : (k : Columns) (e : IxDraft) (p : Operand) → operand_of k e ≡ Some p → true ≡ slight_parts k e
found_slight k e p h = (some_found (slight_parts k e) (linear_over k e) p (sym (operand_is k e) ∙ h)).0

pub found_none : (k : Columns) (e : IxDraft) → operand_of k e ≡ None → false ≡ slight_parts k e
found_none k e h = none_found (slight_parts k e) (linear_over k e) (sym (operand_is k e) ∙ h)

pub found_form : (k : Columns) (e : IxDraft) (p : Operand) → operand_of k e ≡ Some p → p.form ≡ form_over k e
found_form k e p h = (some_found (slight_parts k e) (linear_over k e) p (sym (operand_is k e) ∙ h)).1

pub ruleset parts = (found_slight, found_none, found_form)
