-- The tree of an affine text without calls none of whose parts is large is plain.
use Rattle.std.proofs.Common.{◌≡◌, ℕ, suc, ◌+◌, ◌<◌, ℤ, pos, negsuc, ◌+ℤ◌, ◌-ℤ◌, ◌*ℤ◌, neg_ℤ, Bool, true, false, List, [], ◌∷◌, ◌++◌, length, get_or, Option, Some, None, Ok, Err, refl, sym, ap, subst, ◌∙◌, ◌⊎◌, inl, inr, arith}
use Rattle.std.specs.Prelude.{◌&&◌, ◌||◌, nat_lt, nat_le, nat_eq, nat_abs, if◌then◌else◌}
use Rattle.std.specs.List.{list_any}
use Rattle.std.proofs.lemmas.Int.{ints}
use Rattle.std.proofs.lemmas.Bool.{false≢true}
use Rattle.std.proofs.lemmas.Bool.Decides.{nat_tests}
use lib.IntN.{*ℤ_comm}
use Rattle.affc_rows.specs.Forms.{Affine}
use Rattle.affc_lex.specs.Bytes.{same}
use Rattle.affc_lex.proofs.Lists.{same_is, same_refl}
use Rattle.affc_ast.specs.declared.tree.Ix.{Ix}
use Rattle.affc_ast.specs.declared.tree.Ix.TheVariants as ix
use Rattle.affc_ast.specs.declared.tree.NameId.{NameId}
use Rattle.affc_ast.proofs.Steps.{neg_here, floord_here, ceild_here, add_here, sub_here, mul_here, min_here, max_here, mod_here}
use Rattle.affc_grammar.specs.declared.fault.NameWhy.TheVariants.{Reserved, Kind}
use Rattle.affc_grammar.specs.Grammar.{Name, Choice, minimum, maximum, remainder, Rounding, down, up}
use Rattle.affc_grammar.specs.Draft.{IxDraft, literal, name, negated, sum, difference, product, grouped, chosen, divided}
use Rattle.affc_grammar.specs.Names.{Thing, function, number, array, Scope, Checked, ◌>>=◌, allowed, first_reason, is_refused_word, why_number, number_id, number_named, thing_of, choice_tree, rounding_tree, ix_tree}
use Rattle.affc_grammar.specs.Limits.{products_in, names_in, holds_names, at_if, constant_of, coefficient_of, is_large, large_here, large_parts}
use Rattle.affc_trace.proofs.Members.{hold_both}
use Rattle.affc_domain.specs.Affine.{Linear, linear, mixture, multiple, product_form, form_of, is_small, are_small, sees_step, sees}
use Rattle.affc_domain.specs.Plain.{is_plain}
use Rattle.affc_domain.proofs.FormLemmas.{form_width}
use Rattle.affc_plain.proofs.Lists.{no_append}
use Rattle.affc_plain.proofs.Forms.{HasNoCalls, ix_affine, linear_neg, linear_add, linear_sub, linear_mul, then_ok, same_tree, not_placed}
use Rattle.affc_plain.proofs.Coefficients.{Finds, agrees, opposite_is, sum_is, difference_is}

-- ---- Booleans

pub neither : (a b : Bool) → a || b ≡ false → (a ≡ false) × (b ≡ false)
neither true b e = absurd (false≢true (sym e))
neither false b e = (refl, e)

pub at_most : (m n : ℕ) → nat_lt m n ≡ false → nat_le n m ≡ true
at_most m n e = grind (arith, nat_tests)

-- ---- Names that a text doesn't hold

any_parts : (f : Name → Bool) (xs ys : List Name) → list_any f (xs ++ ys) ≡ false → (list_any f xs ≡ false) × (list_any f ys ≡ false)
any_parts f [] ys e = (refl, e)
any_parts f (x ∷ xs) ys e =
    let p = neither (f x) (list_any f (xs ++ ys)) e in
    let q = any_parts f xs ys p.1 in
    (ap (λ t. t || list_any f xs) p.0 ∙ q.0, q.1)

two_sides : (w : Name) (a b : IxDraft) (z : ℤ) → (coefficient_of w a ≡ pos 0 → coefficient_of w b ≡ pos 0 → z ≡ pos 0)
    → (coefficient_of w a ≡ pos 0) ⊎ ((f : Name → Bool) → list_any f (names_in a) ≡ false → f w ≡ false)
    → (coefficient_of w b ≡ pos 0) ⊎ ((f : Name → Bool) → list_any f (names_in b) ≡ false → f w ≡ false)
    → (z ≡ pos 0) ⊎ ((f : Name → Bool) → list_any f (names_in a ++ names_in b) ≡ false → f w ≡ false)
two_sides w a b z h (inl e) (inl f) = inl (h e f)
two_sides w a b z h (inl e) (inr g) = inr (λ f k. g f (any_parts f (names_in a) (names_in b) k).1)
two_sides w a b z h (inr g) o = inr (λ f k. g f (any_parts f (names_in a) (names_in b) k).0)

-- w's coefficient is 0, or is w one of the names
pub zero_or_named : (w : Name) (d : IxDraft) → (coefficient_of w d ≡ pos 0) ⊎ ((f : Name → Bool) → list_any f (names_in d) ≡ false → f w ≡ false)
zero_or_named w (literal at n) = inl refl
zero_or_named w (name at v) = which (same v w) refl
  where
    which : (t : Bool) → same v w ≡ t → (coefficient_of w (name at v) ≡ pos 0) ⊎ ((f : Name → Bool) → list_any f (v ∷ []) ≡ false → f w ≡ false)
    which true e = inr (λ f h. ap f (sym (same_is v w e)) ∙ (neither (f v) false h).0)
    which false e = inl (ap (λ t. if t then pos 1 else pos 0) e)
zero_or_named w (negated at a) = by (zero_or_named w a)
  where
    by : (coefficient_of w a ≡ pos 0) ⊎ ((f : Name → Bool) → list_any f (names_in a) ≡ false → f w ≡ false) → (neg_ℤ (coefficient_of w a) ≡ pos 0) ⊎ ((f : Name → Bool) → list_any f (names_in a) ≡ false → f w ≡ false)
    by (inl e) = inl (ap neg_ℤ e)
    by (inr g) = inr g
zero_or_named w (sum a b) = two_sides w a b (coefficient_of w a +ℤ coefficient_of w b) (λ e f. ap (λ z. z +ℤ coefficient_of w b) e ∙ ap (λ z. pos 0 +ℤ z) f) (zero_or_named w a) (zero_or_named w b)
zero_or_named w (difference a b) = two_sides w a b (coefficient_of w a -ℤ coefficient_of w b) (λ e f. ap (λ z. z -ℤ coefficient_of w b) e ∙ ap (λ z. pos 0 -ℤ z) f) (zero_or_named w a) (zero_or_named w b)
zero_or_named w (product at a b) =
    two_sides w a b ((coefficient_of w a *ℤ constant_of b) +ℤ (constant_of a *ℤ coefficient_of w b))
    (λ e f. ap (λ z. (z *ℤ constant_of b) +ℤ (constant_of a *ℤ coefficient_of w b)) e ∙ ap (λ z. (pos 0 *ℤ constant_of b) +ℤ (constant_of a *ℤ z)) f ∙ nothing (constant_of a) (constant_of b))
    (zero_or_named w a) (zero_or_named w b)
  where
    nothing : (u v : ℤ) → (pos 0 *ℤ v) +ℤ (u *ℤ pos 0) ≡ pos 0
    nothing u v = omega (arith, ints)
zero_or_named w (grouped at a) = zero_or_named w a
zero_or_named w (chosen at f a b) = inl refl
zero_or_named w (divided at f a by_at by) = inl refl

-- no coefficient of a text that isn't large is large
small_coefficient : (w : Name) (d : IxDraft) → is_large d ≡ false → nat_le (nat_abs (coefficient_of w d)) 65536 ≡ true
small_coefficient w d e = by (zero_or_named w d)
  where
    by : (coefficient_of w d ≡ pos 0) ⊎ ((f : Name → Bool) → list_any f (names_in d) ≡ false → f w ≡ false) → nat_le (nat_abs (coefficient_of w d)) 65536 ≡ true
    by (inl z) = ap (λ z. nat_le (nat_abs z) 65536) z
    by (inr g) = at_most 65536 (nat_abs (coefficient_of w d)) (g (λ v. nat_lt 65536 (nat_abs (coefficient_of v d))) (neither _ (list_any (λ v. nat_lt 65536 (nat_abs (coefficient_of v d))) (names_in d)) e).1)

small_constant : (d : IxDraft) → is_large d ≡ false → nat_le (nat_abs (constant_of d)) 16777216 ≡ true
small_constant d e = at_most 16777216 (nat_abs (constant_of d)) (neither (nat_lt 16777216 (nat_abs (constant_of d))) _ e).0

small_list : (cs : List ℤ) → ((j : ℕ) → j < length cs → nat_le (nat_abs (get_or cs j (pos 0))) 65536 ≡ true) → are_small cs ≡ true
small_list [] h = refl
small_list (c ∷ cs) h = hold_both (nat_le (nat_abs c) 65536) (are_small cs) (h 0 (omega arith)) (small_list cs (λ j k. h (suc j) (omega arith)))

-- ---- Names in a scope

-- a scope in which so many numbers are visible: each by one name, and each name that stands for a number for one of them
pub record HasNumbers (scope : Scope) (n : ℕ) : Type 0 where
  pub below : (w : Name) (id : ℕ) (it : Bool) → thing_of scope w ≡ Some (number id it) → id < n
  pub found : (id : ℕ) → id < n → (w : Name) × (it : Bool) × (thing_of scope w ≡ Some (number id it))
  pub one : (v w : Name) (id : ℕ) (it is : Bool) → thing_of scope v ≡ Some (number id it) → thing_of scope w ≡ Some (number id is) → v ≡ w

some_same : (a b : Thing) → ◌≡◌ {A = Option Thing} (Some a) (Some b) → a ≡ b
some_same a b e = cc

-- a name that is read as a number stands for it
pub number_is : (scope : Scope) (at : ℕ) (v : Name) (id : NameId) → number_named scope at v ≡ Ok id → (it : Bool) × (thing_of scope v ≡ Some (number id.0 it))
number_is scope at v id e = of (thing_of scope v) refl
  where
    of : (t : Option Thing) → thing_of scope v ≡ t → (it : Bool) × (thing_of scope v ≡ Some (number id.0 it))
    of None f = absurd (let g = sym (ap (λ t. allowed (why_number scope v t) at (Ok (number_id t))) f) ∙ e in cc)
    of (Some function) f = absurd (refused (is_refused_word scope false v) (sym (ap (λ t. allowed (why_number scope v t) at (Ok (number_id t))) f) ∙ e))
      where
        refused : (b : Bool) → allowed (first_reason ((b, Reserved) ∷ (true, Kind) ∷ [])) at (Ok (number_id (Some function))) ≡ Ok id → ⊥
        refused true e = absurd (cc)
        refused false e = absurd (cc)
    of (Some (number k it)) f = (it, f ∙ ap (λ i. Some (number i it)) (taken (is_refused_word scope it v) (sym (ap (λ t. allowed (why_number scope v t) at (Ok (number_id t))) f) ∙ e)))
      where
        taken : (b : Bool) → allowed (first_reason ((b, Reserved) ∷ [])) at (Ok (number_id (Some (number k it)))) ≡ Ok id → k ≡ id.0
        taken true e = absurd (cc)
        taken false e = ap (λ (r : Checked NameId). elim r [ Ok i ↦ i.0 | Err x ↦ 0 ]) e
    of (Some (array k role m)) f = absurd (refused (is_refused_word scope false v) (sym (ap (λ t. allowed (why_number scope v t) at (Ok (number_id t))) f) ∙ e))
      where
        refused : (b : Bool) → allowed (first_reason ((b, Reserved) ∷ (true, Kind) ∷ [])) at (Ok (number_id (Some (array k role m)))) ≡ Ok id → ⊥
        refused true e = absurd (cc)
        refused false e = absurd (cc)

pub number_of : (a b : ℕ) (it is : Bool) → ◌≡◌ {A = Option Thing} (Some (number a it)) (Some (number b is)) → a ≡ b
number_of a b it is e = cc

-- the name that stands for a column, in a scope that keeps the rules
pub finds : (scope : Scope) (n j : ℕ) → HasNumbers scope n → j < n → (w : Name) × Finds scope w j
finds scope n j h there =
    let f = h.found j there in
    (f.0, λ v at id e. let r = number_is scope at v id e in by f.0 f.1 f.2 v id r.0 r.1 (same v f.0) refl)
  where
    by : (w : Name) (is : Bool) → thing_of scope w ≡ Some (number j is) → (v : Name) (id : NameId) (it : Bool) → thing_of scope v ≡ Some (number id.0 it) → (t : Bool) → same v w ≡ t → nat_eq id.0 j ≡ same v w
    by w is f v id it g true e =
        let k : id.0 ≡ j = number_of id.0 j it is (sym g ∙ ap (thing_of scope) (same_is v w e) ∙ f) in
        let i : nat_eq id.0 j ≡ true = grind (arith, nat_tests) in
        i ∙ sym e
    by w is f v id it g false e = other (nat_eq id.0 j) refl ∙ sym e
      where
        other : (t : Bool) → nat_eq id.0 j ≡ t → nat_eq id.0 j ≡ false
        other true k =
            let i : id.0 ≡ j = grind (arith, nat_tests) in
            let u : v ≡ w = h.one v w j it is (subst (λ i. thing_of scope v ≡ Some (number i it)) i g) f in
            absurd (false≢true (sym e ∙ ap (λ x. same x w) u ∙ same_refl w))
        other false k = k

-- ---- The tree

two_parts : (xs ys zs : List ℕ) → (xs ++ ys) ++ zs ≡ [] → (xs ≡ []) × (ys ≡ []) × (zs ≡ [])
two_parts xs ys zs e = let a = no_append (xs ++ ys) zs e in let b = no_append xs ys a.0 in (b.0, b.1, a.1)

-- ---- Constants

product_constant : (named : Bool) (f g : Affine) → (product_form named f g).constant ≡ f.constant *ℤ g.constant
product_constant true f g = ap (λ z. z +ℤ (pos 0 *ℤ g.constant)) (*ℤ_comm g.constant f.constant) ∙ plain (f.constant *ℤ g.constant) g.constant
  where
    plain : (u k : ℤ) → u +ℤ (pos 0 *ℤ k) ≡ u
    plain u k = omega (arith, ints)
product_constant false f g = plain (f.constant *ℤ g.constant) f.constant
  where
    plain : (u k : ℤ) → (pos 0 *ℤ k) +ℤ u ≡ u
    plain u k = omega (arith, ints)

module _ (n : ℕ) (scope : Scope) where
  -- the constant of a tree's form is its text's
  pub constants : (d : IxDraft) (e : Ix) → ix_tree scope d ≡ Ok e → HasNoCalls d → (form_of n 0 e).constant ≡ constant_of d
  constants (literal at k) e t h = ap (λ z. (form_of n 0 z).constant) (sym (same_tree (ix.Lit (pos k)) e t))
  constants (name at v) e t h =
      let r = then_ok (number_named scope at v) (λ id. Ok (ix.Name id)) e t in
      ap (λ z. (form_of n 0 z).constant) (sym (same_tree (ix.Name r.0) e r.2))
  constants (negated at a) e t h =
      let r = then_ok (ix_tree scope a) (λ x. Ok (ix.Neg x)) e t in
      ap (λ z. (form_of n 0 z).constant) (sym (same_tree (ix.Neg r.0) e r.2)) ∙ ap (λ (l : Linear). l.form.constant) (linear_neg n 0 r.0)
      ∙ ap (λ z. (negsuc 0 *ℤ z) +ℤ (pos 0 *ℤ z)) (constants a r.0 r.1 h) ∙ opposite_is (constant_of a)
  constants (sum a b) e t h =
      let r = then_ok (ix_tree scope a) (λ x. ix_tree scope b >>= (λ y. Ok (ix.Add x y))) e t in
      let q = then_ok (ix_tree scope b) (λ y. Ok (ix.Add r.0 y)) e r.2 in
      ap (λ z. (form_of n 0 z).constant) (sym (same_tree (ix.Add r.0 q.0) e q.2)) ∙ ap (λ (l : Linear). l.form.constant) (linear_add n 0 r.0 q.0)
      ∙ ap (λ z. (pos 1 *ℤ z) +ℤ (pos 1 *ℤ (form_of n 0 q.0).constant)) (constants a r.0 r.1 h.0) ∙ ap (λ z. (pos 1 *ℤ constant_of a) +ℤ (pos 1 *ℤ z)) (constants b q.0 q.1 h.1) ∙ sum_is (constant_of a) (constant_of b)
  constants (difference a b) e t h =
      let r = then_ok (ix_tree scope a) (λ x. ix_tree scope b >>= (λ y. Ok (ix.Sub x y))) e t in
      let q = then_ok (ix_tree scope b) (λ y. Ok (ix.Sub r.0 y)) e r.2 in
      ap (λ z. (form_of n 0 z).constant) (sym (same_tree (ix.Sub r.0 q.0) e q.2)) ∙ ap (λ (l : Linear). l.form.constant) (linear_sub n 0 r.0 q.0)
      ∙ ap (λ z. (pos 1 *ℤ z) +ℤ (negsuc 0 *ℤ (form_of n 0 q.0).constant)) (constants a r.0 r.1 h.0) ∙ ap (λ z. (pos 1 *ℤ constant_of a) +ℤ (negsuc 0 *ℤ z)) (constants b q.0 q.1 h.1) ∙ difference_is (constant_of a) (constant_of b)
  constants (product at a b) e t h =
      let r = then_ok (ix_tree scope a) (λ x. ix_tree scope b >>= (λ y. Ok (ix.Mul x y))) e t in
      let q = then_ok (ix_tree scope b) (λ y. Ok (ix.Mul r.0 y)) e r.2 in
      ap (λ z. (form_of n 0 z).constant) (sym (same_tree (ix.Mul r.0 q.0) e q.2)) ∙ ap (λ (l : Linear). l.form.constant) (linear_mul n 0 r.0 q.0)
      ∙ product_constant (linear n 0 r.0).named (form_of n 0 r.0) (form_of n 0 q.0)
      ∙ ap (λ z. z *ℤ (form_of n 0 q.0).constant) (constants a r.0 r.1 h.0) ∙ ap (λ z. constant_of a *ℤ z) (constants b q.0 q.1 h.1)
  constants (grouped at a) e t h = constants a e t h
  constants (chosen at f a b) e t h = absurd h
  constants (divided at f a by_at by) e t h = absurd h

-- ---- Names in sight

sees_neg : (n : ℕ) (a : Ix) → sees n (ix.Neg a) ≡ sees n a
sees_neg n a = neg_here (sees_step n) a

sees_add : (n : ℕ) (a b : Ix) → sees n (ix.Add a b) ≡ (sees n a && sees n b)
sees_add n a b = add_here (sees_step n) a b

sees_sub : (n : ℕ) (a b : Ix) → sees n (ix.Sub a b) ≡ (sees n a && sees n b)
sees_sub n a b = sub_here (sees_step n) a b

sees_mul : (n : ℕ) (a b : Ix) → sees n (ix.Mul a b) ≡ (sees n a && sees n b)
sees_mul n a b = mul_here (sees_step n) a b

sees_choice : (n : ℕ) (f : Choice) (a b : Ix) → sees n (choice_tree f a b) ≡ (sees n a && sees n b)
sees_choice n minimum a b = min_here (sees_step n) a b
sees_choice n maximum a b = max_here (sees_step n) a b
sees_choice n remainder a b = mod_here (sees_step n) a b

sees_rounding : (n : ℕ) (f : Rounding) (a : Ix) (by : ℤ) → sees n (rounding_tree f a by) ≡ sees n a
sees_rounding n down a by = floord_here (sees_step n) a by
sees_rounding n up a by = ceild_here (sees_step n) a by

-- ---- Sizes

module _ (n : ℕ) (scope : Scope) (numbers : HasNumbers scope n) where
  form_small : (d : IxDraft) (e : Ix) → ix_tree scope d ≡ Ok e → HasNoCalls d → products_in d ≡ [] → large_here d ≡ [] → is_small (form_of n 0 e) ≡ true
  form_small d e t h p here =
      hold_both (nat_le (nat_abs (form_of n 0 e).constant) 16777216) (are_small (form_of n 0 e).coefs)
      (ap (λ z. nat_le (nat_abs z) 16777216) (constants n scope d e t h) ∙ small_constant d l) (small_list (form_of n 0 e).coefs entries)
    where
      l : is_large d ≡ false
      l = not_placed (is_large d) _ here

      wide : length (form_of n 0 e).coefs ≡ n + 0
      wide = form_width n 0 e

      entries : (j : ℕ) → j < length (form_of n 0 e).coefs → nat_le (nat_abs (get_or (form_of n 0 e).coefs j (pos 0))) 65536 ≡ true
      entries j k =
          let there : j < n = omega (arith, k, wide) in
          let f = finds scope n j numbers there in
          ap (λ z. nat_le (nat_abs z) 65536) (agrees n scope f.0 j there f.1 d e t h p).entry ∙ small_coefficient f.0 d l

  ix_small : (d : IxDraft) (e : Ix) → ix_tree scope d ≡ Ok e → HasNoCalls d → products_in d ≡ [] → large_parts d ≡ [] → (linear n 0 e).small ≡ true
  ix_small (literal at k) e t h p g =
      subst (λ z. (linear n 0 z).small ≡ true) (same_tree (ix.Lit (pos k)) e t) (small_constant (literal at k) (not_placed (is_large (literal at k)) _ g))
  ix_small (name at v) e t h p g =
      let r = then_ok (number_named scope at v) (λ id. Ok (ix.Name id)) e t in
      subst (λ z. (linear n 0 z).small ≡ true) (same_tree (ix.Name r.0) e r.2) refl
  ix_small (negated at a) e t h p g =
      let r = then_ok (ix_tree scope a) (λ x. Ok (ix.Neg x)) e t in
      let o = no_append (large_here (negated at a)) (large_parts a) g in
      subst (λ z. (linear n 0 z).small ≡ true) (same_tree (ix.Neg r.0) e r.2) (ap (λ (l : Linear). l.small) (linear_neg n 0 r.0) ∙ ix_small a r.0 r.1 h p o.1)
  ix_small (sum a b) e t h p g =
      let r = then_ok (ix_tree scope a) (λ x. ix_tree scope b >>= (λ y. Ok (ix.Add x y))) e t in
      let q = then_ok (ix_tree scope b) (λ y. Ok (ix.Add r.0 y)) e r.2 in
      let o = no_append (products_in a) (products_in b) p in
      let u = two_parts (large_here (sum a b)) (large_parts a) (large_parts b) g in
      let x : (linear n 0 (ix.Add r.0 q.0)).form ≡ (mixture (pos 1) (linear n 0 r.0) (pos 1) (linear n 0 q.0)).form = ap (λ (l : Linear). l.form) (linear_add n 0 r.0 q.0) in
      let k : is_small (form_of n 0 (ix.Add r.0 q.0)) ≡ true = ap (λ z. is_small (form_of n 0 z)) (same_tree (ix.Add r.0 q.0) e q.2) ∙ form_small (sum a b) e t h p u.0 in
      subst (λ z. (linear n 0 z).small ≡ true) (same_tree (ix.Add r.0 q.0) e q.2)
      (ap (λ (l : Linear). l.small) (linear_add n 0 r.0 q.0)
      ∙ hold_both ((linear n 0 r.0).small && (linear n 0 q.0).small) _ (hold_both (linear n 0 r.0).small (linear n 0 q.0).small (ix_small a r.0 r.1 h.0 o.0 u.1) (ix_small b q.0 q.1 h.1 o.1 u.2)) (ap is_small (sym x) ∙ k))
  ix_small (difference a b) e t h p g =
      let r = then_ok (ix_tree scope a) (λ x. ix_tree scope b >>= (λ y. Ok (ix.Sub x y))) e t in
      let q = then_ok (ix_tree scope b) (λ y. Ok (ix.Sub r.0 y)) e r.2 in
      let o = no_append (products_in a) (products_in b) p in
      let u = two_parts (large_here (difference a b)) (large_parts a) (large_parts b) g in
      let x : (linear n 0 (ix.Sub r.0 q.0)).form ≡ (mixture (pos 1) (linear n 0 r.0) (negsuc 0) (linear n 0 q.0)).form = ap (λ (l : Linear). l.form) (linear_sub n 0 r.0 q.0) in
      let k : is_small (form_of n 0 (ix.Sub r.0 q.0)) ≡ true = ap (λ z. is_small (form_of n 0 z)) (same_tree (ix.Sub r.0 q.0) e q.2) ∙ form_small (difference a b) e t h p u.0 in
      subst (λ z. (linear n 0 z).small ≡ true) (same_tree (ix.Sub r.0 q.0) e q.2)
      (ap (λ (l : Linear). l.small) (linear_sub n 0 r.0 q.0)
      ∙ hold_both ((linear n 0 r.0).small && (linear n 0 q.0).small) _ (hold_both (linear n 0 r.0).small (linear n 0 q.0).small (ix_small a r.0 r.1 h.0 o.0 u.1) (ix_small b q.0 q.1 h.1 o.1 u.2)) (ap is_small (sym x) ∙ k))
  ix_small (product at a b) e t h p g =
      let r = then_ok (ix_tree scope a) (λ x. ix_tree scope b >>= (λ y. Ok (ix.Mul x y))) e t in
      let q = then_ok (ix_tree scope b) (λ y. Ok (ix.Mul r.0 y)) e r.2 in
      let o = no_append (products_in a ++ at_if (holds_names a && holds_names b) at) (products_in b) p in
      let v = no_append (products_in a) (at_if (holds_names a && holds_names b) at) o.0 in
      let u = two_parts (large_here (product at a b)) (large_parts a) (large_parts b) g in
      let x : (linear n 0 (ix.Mul r.0 q.0)).form ≡ (multiple (linear n 0 r.0) (linear n 0 q.0)).form = ap (λ (l : Linear). l.form) (linear_mul n 0 r.0 q.0) in
      let k : is_small (form_of n 0 (ix.Mul r.0 q.0)) ≡ true = ap (λ z. is_small (form_of n 0 z)) (same_tree (ix.Mul r.0 q.0) e q.2) ∙ form_small (product at a b) e t h p u.0 in
      subst (λ z. (linear n 0 z).small ≡ true) (same_tree (ix.Mul r.0 q.0) e q.2)
      (ap (λ (l : Linear). l.small) (linear_mul n 0 r.0 q.0)
      ∙ hold_both ((linear n 0 r.0).small && (linear n 0 q.0).small) _ (hold_both (linear n 0 r.0).small (linear n 0 q.0).small (ix_small a r.0 r.1 h.0 v.0 u.1) (ix_small b q.0 q.1 h.1 o.1 u.2)) (ap is_small (sym x) ∙ k))
  ix_small (grouped at a) e t h p g = ix_small a e t h p (no_append (large_here (grouped at a)) (large_parts a) g).1
  ix_small (chosen at f a b) e t h p g = absurd h
  ix_small (divided at f a by_at by) e t h p g = absurd h

  -- all names of the tree are in sight
  ix_sees : (d : IxDraft) (e : Ix) → ix_tree scope d ≡ Ok e → sees n e ≡ true
  ix_sees (literal at k) e t = ap (sees n) (sym (same_tree (ix.Lit (pos k)) e t))
  ix_sees (name at v) e t =
      let r = then_ok (number_named scope at v) (λ id. Ok (ix.Name id)) e t in
      let i = number_is scope at v r.0 r.1 in
      ap (sees n) (sym (same_tree (ix.Name r.0) e r.2)) ∙ below r.0.0 (numbers.below v r.0.0 i.0 i.1)
    where
      below : (k : ℕ) → k < n → nat_lt k n ≡ true
      below k h = grind (arith, nat_tests)
  ix_sees (negated at a) e t =
      let r = then_ok (ix_tree scope a) (λ x. Ok (ix.Neg x)) e t in
      ap (sees n) (sym (same_tree (ix.Neg r.0) e r.2)) ∙ sees_neg n r.0 ∙ ix_sees a r.0 r.1
  ix_sees (sum a b) e t =
      let r = then_ok (ix_tree scope a) (λ x. ix_tree scope b >>= (λ y. Ok (ix.Add x y))) e t in
      let q = then_ok (ix_tree scope b) (λ y. Ok (ix.Add r.0 y)) e r.2 in
      ap (sees n) (sym (same_tree (ix.Add r.0 q.0) e q.2)) ∙ sees_add n r.0 q.0 ∙ hold_both (sees n r.0) (sees n q.0) (ix_sees a r.0 r.1) (ix_sees b q.0 q.1)
  ix_sees (difference a b) e t =
      let r = then_ok (ix_tree scope a) (λ x. ix_tree scope b >>= (λ y. Ok (ix.Sub x y))) e t in
      let q = then_ok (ix_tree scope b) (λ y. Ok (ix.Sub r.0 y)) e r.2 in
      ap (sees n) (sym (same_tree (ix.Sub r.0 q.0) e q.2)) ∙ sees_sub n r.0 q.0 ∙ hold_both (sees n r.0) (sees n q.0) (ix_sees a r.0 r.1) (ix_sees b q.0 q.1)
  ix_sees (product at a b) e t =
      let r = then_ok (ix_tree scope a) (λ x. ix_tree scope b >>= (λ y. Ok (ix.Mul x y))) e t in
      let q = then_ok (ix_tree scope b) (λ y. Ok (ix.Mul r.0 y)) e r.2 in
      ap (sees n) (sym (same_tree (ix.Mul r.0 q.0) e q.2)) ∙ sees_mul n r.0 q.0 ∙ hold_both (sees n r.0) (sees n q.0) (ix_sees a r.0 r.1) (ix_sees b q.0 q.1)
  ix_sees (grouped at a) e t = ix_sees a e t
  ix_sees (chosen at f a b) e t =
      let r = then_ok (ix_tree scope a) (λ x. ix_tree scope b >>= (λ y. Ok (choice_tree f x y))) e t in
      let q = then_ok (ix_tree scope b) (λ y. Ok (choice_tree f r.0 y)) e r.2 in
      ap (sees n) (sym (same_tree (choice_tree f r.0 q.0) e q.2)) ∙ sees_choice n f r.0 q.0 ∙ hold_both (sees n r.0) (sees n q.0) (ix_sees a r.0 r.1) (ix_sees b q.0 q.1)
  ix_sees (divided at f a by_at by) e t =
      let r = then_ok (ix_tree scope a) (λ x. Ok (rounding_tree f x (pos by))) e t in
      ap (sees n) (sym (same_tree (rounding_tree f r.0 (pos by)) e r.2)) ∙ sees_rounding n f r.0 (pos by) ∙ ix_sees a r.0 r.1

  pub tree_is_plain : (d : IxDraft) (e : Ix) → ix_tree scope d ≡ Ok e → HasNoCalls d → products_in d ≡ [] → large_parts d ≡ [] → is_plain n e ≡ true
  tree_is_plain d e t h p g =
      hold_both (sees n e) ((linear n 0 e).affine && (linear n 0 e).small) (ix_sees d e t)
      (hold_both (linear n 0 e).affine (linear n 0 e).small (ix_affine n 0 scope d e t h p).affine (ix_small d e t h p g))
