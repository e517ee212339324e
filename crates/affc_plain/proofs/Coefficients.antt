-- The form of an expression's tree has the coefficients and the constant of its text.
use Rattle.std.proofs.Common.{◌≡◌, ℕ, zero, suc, ◌+◌, ◌<◌, ℤ, pos, negsuc, neg_ℤ, ◌+ℤ◌, ◌-ℤ◌, ◌*ℤ◌, Bool, true, false, List, [], ◌∷◌, ◌++◌, length, replicate, get_or, Ok, refl, sym, ap, subst, ◌∙◌, arith}
use Rattle.std.specs.Prelude.{◌&&◌, nat_lt, nat_eq, if◌then◌else◌}
use Rattle.std.proofs.lemmas.Int.{ints}
use Rattle.std.proofs.lemmas.Bool.Decides.{nat_tests}
use lib.IntN.{*ℤ_comm}
use Rattle.affc_rows.specs.Forms.{Affine, mixed, mixed_form}
use Rattle.affc_lex.specs.Bytes.{same}
use Rattle.affc_ast.specs.declared.tree.Ix.{Ix}
use Rattle.affc_ast.specs.declared.tree.Ix.TheVariants as ix
use Rattle.affc_ast.specs.declared.tree.NameId.{NameId}
use Rattle.affc_grammar.specs.Grammar.{Name}
use Rattle.affc_grammar.specs.Draft.{IxDraft, literal, name, negated, sum, difference, product, grouped, chosen, divided}
use Rattle.affc_grammar.specs.Names.{Scope, ◌>>=◌, number_named, ix_tree}
use Rattle.affc_grammar.specs.Limits.{products_in, names_in, holds_names, at_if, constant_of, coefficient_of}
use Rattle.affc_domain.specs.Affine.{Linear, linear, negative, mixture, multiple, product_form, form_of, unit_of}
use Rattle.affc_domain.proofs.FormLemmas.{form_width}
use Rattle.affc_plain.proofs.Lists.{no_append}
use Rattle.affc_plain.proofs.Forms.{HasNoCalls, IsAffineAs, ix_affine, linear_neg, linear_add, linear_sub, linear_mul, then_ok, same_tree, not_placed}

get_mixed : (s : ℤ) (cs : List ℤ) (t : ℤ) (ds : List ℤ) (j : ℕ) → length cs ≡ length ds → get_or (mixed s cs t ds) j (pos 0) ≡ (s *ℤ get_or cs j (pos 0)) +ℤ (t *ℤ get_or ds j (pos 0))
get_mixed s [] t [] j e = omega (arith, ints)
get_mixed s [] t (d ∷ ds) j e = absurd (omega arith)
get_mixed s (c ∷ cs) t [] j e = absurd (omega arith)
get_mixed s (c ∷ cs) t (d ∷ ds) zero e = refl
get_mixed s (c ∷ cs) t (d ∷ ds) (suc j) e = get_mixed s cs t ds j (omega arith)

get_zeros : (n j : ℕ) → get_or (replicate n (pos 0)) j (pos 0) ≡ pos 0
get_zeros zero j = refl
get_zeros (suc n) zero = refl
get_zeros (suc n) (suc j) = get_zeros n j

get_unit : (n x j : ℕ) (more : List ℤ) → j < n → get_or (unit_of n x ++ more) j (pos 0) ≡ (if nat_eq x j then pos 1 else pos 0)
get_unit zero x j more h = absurd (omega arith)
get_unit (suc n) zero zero more h = refl
get_unit (suc n) zero (suc j) more h = zeros n j more (omega arith) ∙ ap (λ t. if t then pos 1 else pos 0) (sym (apart j))
  where
    zeros : (n j : ℕ) (more : List ℤ) → j < n → get_or (replicate n (pos 0) ++ more) j (pos 0) ≡ pos 0
    zeros zero j more h = absurd (omega arith)
    zeros (suc n) zero more h = refl
    zeros (suc n) (suc j) more h = zeros n j more (omega arith)

    apart : (j : ℕ) → nat_eq 0 (suc j) ≡ false
    apart j = grind (arith, nat_tests)
get_unit (suc n) (suc x) zero more h = ap (λ t. if t then pos 1 else pos 0) (sym (apart x))
  where
    apart : (x : ℕ) → nat_eq (suc x) 0 ≡ false
    apart x = grind (arith, nat_tests)
get_unit (suc n) (suc x) (suc j) more h = get_unit n x j more (omega arith) ∙ ap (λ t. if t then pos 1 else pos 0) (sym (down x j))
  where
    down : (x j : ℕ) → nat_eq (suc x) (suc j) ≡ nat_eq x j
    down x j = grind (arith, nat_tests)

-- an expression without names has no coefficients
no_names : (w : Name) (d : IxDraft) → HasNoCalls d → names_in d ≡ [] → coefficient_of w d ≡ pos 0
no_names w (literal at k) h e = refl
no_names w (name at v) h e = absurd (cc)
no_names w (negated at a) h e = ap neg_ℤ (no_names w a h e)
no_names w (sum a b) h e = let o = no_append (names_in a) (names_in b) e in omega (arith, ints, no_names w a h.0 o.0, no_names w b h.1 o.1)
no_names w (difference a b) h e = let o = no_append (names_in a) (names_in b) e in omega (arith, ints, no_names w a h.0 o.0, no_names w b h.1 o.1)
no_names w (product at a b) h e =
    let o = no_append (names_in a) (names_in b) e in
    ap (λ z. (z *ℤ constant_of b) +ℤ (constant_of a *ℤ coefficient_of w b)) (no_names w a h.0 o.0) ∙ ap (λ z. (pos 0 *ℤ constant_of b) +ℤ (constant_of a *ℤ z)) (no_names w b h.1 o.1) ∙ zero_sum (constant_of a) (constant_of b)
  where
    zero_sum : (u v : ℤ) → (pos 0 *ℤ v) +ℤ (u *ℤ pos 0) ≡ pos 0
    zero_sum u v = omega (arith, ints)
no_names w (grouped at a) h e = no_names w a h e
no_names w (chosen at f a b) h e = absurd h
no_names w (divided at f a by_at by) h e = absurd h

-- a form and a draft agree in column j, which is the name w's, and in the constant
pub record Agrees (w : Name) (j : ℕ) (d : IxDraft) (f : Affine) : Type 0 where
  pub entry : get_or f.coefs j (pos 0) ≡ coefficient_of w d
  pub constant : f.constant ≡ constant_of d

agrees_by : (w : Name) (j : ℕ) (d : IxDraft) (f g : Affine) → f ≡ g → Agrees w j d g → Agrees w j d f
agrees_by w j d f g e a = subst (Agrees w j d) (sym e) a

-- w is the one name that stands for column j
abbrev pub Finds : Scope → Name → ℕ → Type 0
Finds scope w j = (v : Name) (at : ℕ) (id : NameId) → number_named scope at v ≡ Ok id → nat_eq id.0 j ≡ same v w

mixed_entry : (s : ℤ) (f : Affine) (t : ℤ) (g : Affine) (j : ℕ) (u v : ℤ) → length f.coefs ≡ length g.coefs → get_or f.coefs j (pos 0) ≡ u → get_or g.coefs j (pos 0) ≡ v
    → get_or (mixed_form s f t g).coefs j (pos 0) ≡ (s *ℤ u) +ℤ (t *ℤ v)
mixed_entry s f t g j u v w e h = get_mixed s f.coefs t g.coefs j w ∙ ap (λ z. (s *ℤ z) +ℤ (t *ℤ get_or g.coefs j (pos 0))) e ∙ ap (λ z. (s *ℤ u) +ℤ (t *ℤ z)) h

pub opposite_is : (u : ℤ) → (negsuc 0 *ℤ u) +ℤ (pos 0 *ℤ u) ≡ neg_ℤ u
opposite_is u = omega (arith, ints)

pub sum_is : (u v : ℤ) → (pos 1 *ℤ u) +ℤ (pos 1 *ℤ v) ≡ u +ℤ v
sum_is u v = omega (arith, ints)

pub difference_is : (u v : ℤ) → (pos 1 *ℤ u) +ℤ (negsuc 0 *ℤ v) ≡ u -ℤ v
difference_is u v = omega (arith, ints)

-- ka, kb the constants, ca, cb the coefficients, where one side has none
by_right : (ka kb ca cb : ℤ) → cb ≡ pos 0 → (kb *ℤ ca) +ℤ (pos 0 *ℤ cb) ≡ (ca *ℤ kb) +ℤ (ka *ℤ cb)
by_right ka kb ca cb e = ap (λ z. z +ℤ (pos 0 *ℤ cb)) (*ℤ_comm kb ca) ∙ ap (λ z. (ca *ℤ kb) +ℤ (pos 0 *ℤ z)) e ∙ nothing (ca *ℤ kb) ka ∙ ap (λ z. (ca *ℤ kb) +ℤ (ka *ℤ z)) (sym e)
  where
    nothing : (u k : ℤ) → u +ℤ (pos 0 *ℤ pos 0) ≡ u +ℤ (k *ℤ pos 0)
    nothing u k = omega (arith, ints)

by_left : (ka kb ca cb : ℤ) → ca ≡ pos 0 → (pos 0 *ℤ ca) +ℤ (ka *ℤ cb) ≡ (ca *ℤ kb) +ℤ (ka *ℤ cb)
by_left ka kb ca cb e = ap (λ z. (pos 0 *ℤ z) +ℤ (ka *ℤ cb)) e ∙ nothing kb (ka *ℤ cb) ∙ ap (λ z. (z *ℤ kb) +ℤ (ka *ℤ cb)) (sym e)
  where
    nothing : (k u : ℤ) → (pos 0 *ℤ pos 0) +ℤ u ≡ (pos 0 *ℤ k) +ℤ u
    nothing k u = omega (arith, ints)

constant_right : (ka kb : ℤ) → (kb *ℤ ka) +ℤ (pos 0 *ℤ kb) ≡ ka *ℤ kb
constant_right ka kb = ap (λ z. z +ℤ (pos 0 *ℤ kb)) (*ℤ_comm kb ka) ∙ plain (ka *ℤ kb) kb
  where
    plain : (u k : ℤ) → u +ℤ (pos 0 *ℤ k) ≡ u
    plain u k = omega (arith, ints)

constant_left : (ka kb : ℤ) → (pos 0 *ℤ ka) +ℤ (ka *ℤ kb) ≡ ka *ℤ kb
constant_left ka kb = plain (ka *ℤ kb) ka
  where
    plain : (u k : ℤ) → (pos 0 *ℤ k) +ℤ u ≡ u
    plain u k = omega (arith, ints)

none_held : (d : IxDraft) → holds_names d ≡ false → names_in d ≡ []
none_held d e = empty (names_in d) e
  where
    empty : (ns : List (List ℕ)) → nat_lt 0 (length ns) ≡ false → ns ≡ []
    empty [] e = refl
    empty (n ∷ ns) e = absurd (some (length ns) e)
      where
        some : (k : ℕ) → nat_lt 0 (suc k) ≡ false → ⊥
        some k e = grind (arith, nat_tests)

module _ (n : ℕ) (scope : Scope) (w : Name) (j : ℕ) (there : j < n) (finds : Finds scope w j) where
  widths : (a b : Ix) → length (form_of n 0 a).coefs ≡ length (form_of n 0 b).coefs
  widths a b = form_width n 0 a ∙ sym (form_width n 0 b)

  product_agrees : (at : ℕ) (a b : IxDraft) (x y : Ix) (named : Bool) → (linear n 0 x).named ≡ named → IsAffineAs a (linear n 0 x) → IsAffineAs b (linear n 0 y) → HasNoCalls a → HasNoCalls b
      → (holds_names a && holds_names b) ≡ false → Agrees w j a (form_of n 0 x) → Agrees w j b (form_of n 0 y) → Agrees w j (product at a b) (product_form named (form_of n 0 x) (form_of n 0 y))
  product_agrees at a b x y true e p q h g one f k =
      let none : names_in b ≡ [] = none_held b (second (holds_names a) (holds_names b) (sym p.named ∙ e) one) in
      record {
        entry = mixed_entry (form_of n 0 y).constant (form_of n 0 x) (pos 0) (form_of n 0 y) j (coefficient_of w a) (coefficient_of w b) (widths x y) f.entry k.entry
            ∙ ap (λ z. (z *ℤ coefficient_of w a) +ℤ (pos 0 *ℤ coefficient_of w b)) k.constant ∙ by_right (constant_of a) (constant_of b) (coefficient_of w a) (coefficient_of w b) (no_names w b g none);
        constant = ap (λ z. (z *ℤ (form_of n 0 x).constant) +ℤ (pos 0 *ℤ z)) k.constant ∙ ap (λ z. (constant_of b *ℤ z) +ℤ (pos 0 *ℤ constant_of b)) f.constant ∙ constant_right (constant_of a) (constant_of b);
      }
    where
      second : (u v : Bool) → u ≡ true → (u && v) ≡ false → v ≡ false
      second true v e o = o
      second false v e o = absurd (cc)
  product_agrees at a b x y false e p q h g one f k =
      let none : names_in a ≡ [] = none_held a (sym p.named ∙ e) in
      record {
        entry = mixed_entry (pos 0) (form_of n 0 x) (form_of n 0 x).constant (form_of n 0 y) j (coefficient_of w a) (coefficient_of w b) (widths x y) f.entry k.entry
            ∙ ap (λ z. (pos 0 *ℤ coefficient_of w a) +ℤ (z *ℤ coefficient_of w b)) f.constant ∙ by_left (constant_of a) (constant_of b) (coefficient_of w a) (coefficient_of w b) (no_names w a h none);
        constant = ap (λ z. (pos 0 *ℤ z) +ℤ (z *ℤ (form_of n 0 y).constant)) f.constant ∙ ap (λ z. (pos 0 *ℤ constant_of a) +ℤ (constant_of a *ℤ z)) k.constant ∙ constant_left (constant_of a) (constant_of b);
      }

  -- the tree of a draft has its coefficients and its constant
  pub agrees : (d : IxDraft) (e : Ix) → ix_tree scope d ≡ Ok e → HasNoCalls d → products_in d ≡ [] → Agrees w j d (form_of n 0 e)
  agrees (literal at k) e t h p = subst (λ z. Agrees w j (literal at k) (form_of n 0 z)) (same_tree (ix.Lit (pos k)) e t) (record { entry = get_zeros (n + 0) j; constant = refl })
  agrees (name at v) e t h p =
      let r = then_ok (number_named scope at v) (λ id. Ok (ix.Name id)) e t in
      subst (λ z. Agrees w j (name at v) (form_of n 0 z)) (same_tree (ix.Name r.0) e r.2)
      (record { entry = get_unit n r.0.0 j [] there ∙ ap (λ t. if t then pos 1 else pos 0) (finds v at r.0 r.1); constant = refl })
  agrees (negated at a) e t h p =
      let r = then_ok (ix_tree scope a) (λ x. Ok (ix.Neg x)) e t in
      let i = agrees a r.0 r.1 h p in
      subst (λ z. Agrees w j (negated at a) (form_of n 0 z)) (same_tree (ix.Neg r.0) e r.2)
      (agrees_by w j (negated at a) _ (negative (linear n 0 r.0)).form (ap (λ (l : Linear). l.form) (linear_neg n 0 r.0)) (record {
        entry = mixed_entry (negsuc 0) (form_of n 0 r.0) (pos 0) (form_of n 0 r.0) j (coefficient_of w a) (coefficient_of w a) refl i.entry i.entry ∙ opposite_is (coefficient_of w a);
        constant = ap (λ z. (negsuc 0 *ℤ z) +ℤ (pos 0 *ℤ z)) i.constant ∙ opposite_is (constant_of a);
      }))
  agrees (sum a b) e t h p =
      let r = then_ok (ix_tree scope a) (λ x. ix_tree scope b >>= (λ y. Ok (ix.Add x y))) e t in
      let q = then_ok (ix_tree scope b) (λ y. Ok (ix.Add r.0 y)) e r.2 in
      let o = no_append (products_in a) (products_in b) p in
      let f = agrees a r.0 r.1 h.0 o.0 in
      let g = agrees b q.0 q.1 h.1 o.1 in
      subst (λ z. Agrees w j (sum a b) (form_of n 0 z)) (same_tree (ix.Add r.0 q.0) e q.2)
      (agrees_by w j (sum a b) _ (mixture (pos 1) (linear n 0 r.0) (pos 1) (linear n 0 q.0)).form (ap (λ (l : Linear). l.form) (linear_add n 0 r.0 q.0)) (record {
        entry = mixed_entry (pos 1) (form_of n 0 r.0) (pos 1) (form_of n 0 q.0) j (coefficient_of w a) (coefficient_of w b) (widths r.0 q.0) f.entry g.entry ∙ sum_is (coefficient_of w a) (coefficient_of w b);
        constant = ap (λ z. (pos 1 *ℤ z) +ℤ (pos 1 *ℤ (form_of n 0 q.0).constant)) f.constant ∙ ap (λ z. (pos 1 *ℤ constant_of a) +ℤ (pos 1 *ℤ z)) g.constant ∙ sum_is (constant_of a) (constant_of b);
      }))
  agrees (difference a b) e t h p =
      let r = then_ok (ix_tree scope a) (λ x. ix_tree scope b >>= (λ y. Ok (ix.Sub x y))) e t in
      let q = then_ok (ix_tree scope b) (λ y. Ok (ix.Sub r.0 y)) e r.2 in
      let o = no_append (products_in a) (products_in b) p in
      let f = agrees a r.0 r.1 h.0 o.0 in
      let g = agrees b q.0 q.1 h.1 o.1 in
      subst (λ z. Agrees w j (difference a b) (form_of n 0 z)) (same_tree (ix.Sub r.0 q.0) e q.2)
      (agrees_by w j (difference a b) _ (mixture (pos 1) (linear n 0 r.0) (negsuc 0) (linear n 0 q.0)).form (ap (λ (l : Linear). l.form) (linear_sub n 0 r.0 q.0)) (record {
        entry = mixed_entry (pos 1) (form_of n 0 r.0) (negsuc 0) (form_of n 0 q.0) j (coefficient_of w a) (coefficient_of w b) (widths r.0 q.0) f.entry g.entry ∙ difference_is (coefficient_of w a) (coefficient_of w b);
        constant = ap (λ z. (pos 1 *ℤ z) +ℤ (negsuc 0 *ℤ (form_of n 0 q.0).constant)) f.constant ∙ ap (λ z. (pos 1 *ℤ constant_of a) +ℤ (negsuc 0 *ℤ z)) g.constant ∙ difference_is (constant_of a) (constant_of b);
      }))
  agrees (product at a b) e t h p =
      let r = then_ok (ix_tree scope a) (λ x. ix_tree scope b >>= (λ y. Ok (ix.Mul x y))) e t in
      let q = then_ok (ix_tree scope b) (λ y. Ok (ix.Mul r.0 y)) e r.2 in
      let o = no_append (products_in a ++ at_if (holds_names a && holds_names b) at) (products_in b) p in
      let u = no_append (products_in a) (at_if (holds_names a && holds_names b) at) o.0 in
      subst (λ z. Agrees w j (product at a b) (form_of n 0 z)) (same_tree (ix.Mul r.0 q.0) e q.2)
      (agrees_by w j (product at a b) _ (multiple (linear n 0 r.0) (linear n 0 q.0)).form (ap (λ (l : Linear). l.form) (linear_mul n 0 r.0 q.0))
      (product_agrees at a b r.0 q.0 (linear n 0 r.0).named refl (ix_affine n 0 scope a r.0 r.1 h.0 u.0) (ix_affine n 0 scope b q.0 q.1 h.1 o.1) h.0 h.1 (not_placed (holds_names a && holds_names b) at u.1)
      (agrees a r.0 r.1 h.0 u.0) (agrees b q.0 q.1 h.1 o.1)))
  agrees (grouped at a) e t h p = let i = agrees a e t h p in record { entry = i.entry; constant = i.constant }
  agrees (chosen at f a b) e t h p = absurd h
  agrees (divided at f a by_at by) e t h p = absurd h
