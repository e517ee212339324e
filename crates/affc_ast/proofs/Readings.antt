-- What is read in `int64_t` is the whole number of the expression.
use Rattle.std.proofs.Common.{◌≡◌, ℕ, ◌+◌, ℤ, pos, negsuc, ◌+ℤ◌, ◌-ℤ◌, ◌*ℤ◌, neg_ℤ, Bool, true, false, if◌then◌else◌, ◌&&◌, int_lt, List, Result, Ok, Err, refl, sym, ap, subst, ◌∙◌, arith}
use Rattle.std.proofs.lemmas.Bool.Decides.{nat_tests}
use Rattle.std.specs.Int.{int_max, int_min}
use Rattle.affc_ast.specs.declared.tree.Ix.{Ix}
use Rattle.affc_ast.specs.declared.tree.Ix.TheBlock.{more_of-Ix, end_of-Ix}
use Rattle.affc_ast.specs.declared.tree.Ix.TheVariants as c
use Rattle.affc_ast.specs.Cause.{Cause, Overflow, ◌>>=◌}
use Rattle.affc_ast.specs.Fits.{Whole, whole_on_one, whole_on_both, is_divisor, whole_of}
use Rattle.affc_ast.specs.Index.{is_int64, in_int64, floor_of, ceiling_of, remainder_of, divided, on_one, on_both, index_of, nodes_of_ix, index_value}

abbrev IsOk : {A : Type 0} → Result A Cause → Type 0
IsOk (Ok x) = Unit {0}
IsOk (Err cause) = ⊥

abbrev ok_or : {A : Type 0} → A → Result A Cause → A
ok_or d (Ok x) = x
ok_or d (Err cause) = d

pub same_ok : {A : Type 0} (x y : A) → ◌≡◌ {A = Result A Cause} (Ok x) (Ok y) → x ≡ y
same_ok x y e = ap (ok_or x) e

-- where both are read, the first was
pub bind_ok : {A B : Type 0} (r : Result A Cause) (f : A → Result B Cause) (y : B) → r >>= f ≡ Ok y → (x : A) × (r ≡ Ok x) × (f x ≡ Ok y)
bind_ok (Ok x) f y e = (x, refl, e)
bind_ok (Err cause) f y e = absurd (subst IsOk (sym e) tt)

-- a whole number that has a value
abbrev pub is_number : ℤ → Whole
is_number x = record { value = x; defined = true }

fits_so : (node : ℕ) (x y : ℤ) → in_int64 node x ≡ Ok y → is_number x ≡ is_number y
fits_so node x y e = ap is_number (elim (is_int64 x) as (λ (b : Bool). (if b then Ok x else Err (Overflow node)) ≡ Ok y → x ≡ y) [ true ↦ λ h. same_ok x y h | false ↦ λ h. absurd (subst IsOk (sym h) tt) ] e)

at_least_one : (n : ℤ) → int_lt n (pos 1) ≡ false → is_divisor n ≡ true
at_least_one (pos n) e = grind (arith, nat_tests)
at_least_one (negsuc n) e = grind (arith, nat_tests)

divides_so : (node : ℕ) (f : ℤ → ℤ → ℤ) (x n y : ℤ) → divided node f x n ≡ Ok y → (f x n ≡ y) × (is_divisor n ≡ true)
divides_so node f x n y e =
    elim (int_lt n (pos 1)) as (λ (b : Bool). int_lt n (pos 1) ≡ b → (if b then Err (Overflow node) else Ok (f x n)) ≡ Ok y → (f x n ≡ y) × (is_divisor n ≡ true)) [
      | true ↦ λ is h. absurd (subst IsOk (sym h) tt)
      | false ↦ λ is h. (same_ok (f x n) y h, at_least_one n is)
    ] refl e

quotient_so : (node : ℕ) (f : ℤ → ℤ → ℤ) (x n y : ℤ) → divided node f x n ≡ Ok y → record { value = f x n; defined = is_divisor n } ≡ is_number y
quotient_so node f x n y e = let q = divides_so node f x n y e in λ i. record { value = q.0 i; defined = q.1 i }

one_whole : (a : Ix) (node : ℕ) (names : List ℤ) (f : ℕ → ℤ → Result ℤ Cause) (g : Whole → Whole) (x : ℤ) → ((y z : ℤ) → f node y ≡ Ok z → g (is_number y) ≡ is_number z)
    → ((y : ℤ) → index_value a (node + 1) names ≡ Ok y → whole_of a names ≡ is_number y) → (on_one f (index_of a)).value node names ≡ Ok x → g (whole_of a names) ≡ is_number x
one_whole a node names f g x is h e =
    let p = bind_ok (index_value a (node + 1) names) _ _ e in
    ap g (h p.0 p.1) ∙ is p.0 x p.2

both_whole : (a b : Ix) (node : ℕ) (names : List ℤ) (f : ℕ → ℤ → ℤ → Result ℤ Cause) (g : Whole → Whole → Whole) (x : ℤ)
    → ((y z w : ℤ) → f node y z ≡ Ok w → g (is_number y) (is_number z) ≡ is_number w)
    → ((m : ℕ) (y : ℤ) → index_value a m names ≡ Ok y → whole_of a names ≡ is_number y) → ((m : ℕ) (y : ℤ) → index_value b m names ≡ Ok y → whole_of b names ≡ is_number y)
    → (on_both f (index_of a) (index_of b)).value node names ≡ Ok x → g (whole_of a names) (whole_of b names) ≡ is_number x
both_whole a b node names f g x is h k e =
    let p = bind_ok (index_value a (node + 1) names) _ _ e in
    let q = bind_ok (index_value b (node + 1 + nodes_of_ix a) names) _ _ p.2 in
    ap (λ u. g u (whole_of b names)) (h (node + 1) p.0 p.1) ∙ ap (g (is_number p.0)) (k _ q.0 q.1) ∙ is p.0 q.0 x q.2

pub is_whole : (e : Ix) (names : List ℤ) (node : ℕ) (x : ℤ) → index_value e node names ≡ Ok x → whole_of e names ≡ is_number x
is_whole (c.Lit n) names node x e = ap is_number (same_ok _ _ e)
is_whole (c.Name n) names node x e = ap is_number (same_ok _ _ e)
is_whole (c.Neg' s (more_of-Ix a end_of-Ix)) names node x e =
    one_whole a node names (λ m y. in_int64 m (neg_ℤ y)) (whole_on_one neg_ℤ) x (λ y z. fits_so node (neg_ℤ y) z) (is_whole a names (node + 1)) e
is_whole (c.Floord' s (more_of-Ix a end_of-Ix) n) names node x e =
    one_whole a node names (λ m y. divided m floor_of y n) (λ w. record { value = floor_of w.value n; defined = w.defined && is_divisor n }) x
    (λ y z. quotient_so node floor_of y n z) (is_whole a names (node + 1)) e
is_whole (c.Ceild' s (more_of-Ix a end_of-Ix) n) names node x e =
    one_whole a node names (λ m y. divided m ceiling_of y n) (λ w. record { value = ceiling_of w.value n; defined = w.defined && is_divisor n }) x
    (λ y z. quotient_so node ceiling_of y n z) (is_whole a names (node + 1)) e
is_whole (c.Add' s (more_of-Ix a end_of-Ix) t (more_of-Ix b end_of-Ix)) names node x e =
    both_whole a b node names (λ m y z. in_int64 m (y +ℤ z)) (whole_on_both ◌+ℤ◌) x (λ y z. fits_so node (y +ℤ z)) (is_whole a names) (is_whole b names) e
is_whole (c.Sub' s (more_of-Ix a end_of-Ix) t (more_of-Ix b end_of-Ix)) names node x e =
    both_whole a b node names (λ m y z. in_int64 m (y -ℤ z)) (whole_on_both ◌-ℤ◌) x (λ y z. fits_so node (y -ℤ z)) (is_whole a names) (is_whole b names) e
is_whole (c.Mul' s (more_of-Ix a end_of-Ix) t (more_of-Ix b end_of-Ix)) names node x e =
    both_whole a b node names (λ m y z. in_int64 m (y *ℤ z)) (whole_on_both ◌*ℤ◌) x (λ y z. fits_so node (y *ℤ z)) (is_whole a names) (is_whole b names) e
is_whole (c.Min' s (more_of-Ix a end_of-Ix) t (more_of-Ix b end_of-Ix)) names node x e =
    both_whole a b node names (λ m y z. Ok (int_min y z)) (whole_on_both int_min) x (λ y z w h. ap is_number (same_ok _ _ h)) (is_whole a names) (is_whole b names) e
is_whole (c.Max' s (more_of-Ix a end_of-Ix) t (more_of-Ix b end_of-Ix)) names node x e =
    both_whole a b node names (λ m y z. Ok (int_max y z)) (whole_on_both int_max) x (λ y z w h. ap is_number (same_ok _ _ h)) (is_whole a names) (is_whole b names) e
is_whole (c.Mod' s (more_of-Ix a end_of-Ix) t (more_of-Ix b end_of-Ix)) names node x e =
    both_whole a b node names (λ m y z. divided m remainder_of y z)
    (λ u w. record { value = remainder_of u.value w.value; defined = u.defined && w.defined && is_divisor w.value }) x
    (λ y z w. quotient_so node remainder_of y z w) (is_whole a names) (is_whole b names) e
