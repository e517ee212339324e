-- An expression of a text without calls, in which no product has names on both sides, is affine.
use Rattle.std.proofs.Common.{◌≡◌, ℕ, suc, ℤ, pos, negsuc, Bool, true, false, IsTrue, List, [], ◌∷◌, ◌++◌, length, Ok, Err, refl, sym, ap, subst, ◌∙◌, arith}
use Rattle.std.specs.Prelude.{not, ◌&&◌, ◌||◌, nat_lt}
use Rattle.std.proofs.lemmas.Bool.Decides.{nat_tests}
use Rattle.affc_ast.specs.declared.tree.Ix.{Ix}
use Rattle.affc_ast.specs.declared.tree.Ix.TheVariants as ix
use Rattle.affc_ast.proofs.Steps.{neg_here, add_here, sub_here, mul_here}
use Rattle.affc_grammar.specs.Draft.{IxDraft, literal, name, negated, sum, difference, product, grouped, chosen, divided}
use Rattle.affc_grammar.specs.Names.{Scope, Checked, ◌>>=◌, ix_tree}
use Rattle.affc_grammar.specs.Limits.{products_in, names_in, holds_names, at_if}
use Rattle.affc_trace.proofs.Members.{hold_both}
use Rattle.affc_domain.specs.Affine.{Linear, linear_step, linear, negative, mixture, multiple}
use Rattle.affc_plain.proofs.Lists.{no_append}

pub linear_neg : (n m : ℕ) (a : Ix) → linear n m (ix.Neg a) ≡ negative (linear n m a)
linear_neg n m a = neg_here (linear_step n m) a

pub linear_add : (n m : ℕ) (a b : Ix) → linear n m (ix.Add a b) ≡ mixture (pos 1) (linear n m a) (pos 1) (linear n m b)
linear_add n m a b = add_here (linear_step n m) a b

pub linear_sub : (n m : ℕ) (a b : Ix) → linear n m (ix.Sub a b) ≡ mixture (pos 1) (linear n m a) (negsuc 0) (linear n m b)
linear_sub n m a b = sub_here (linear_step n m) a b

pub linear_mul : (n m : ℕ) (a b : Ix) → linear n m (ix.Mul a b) ≡ multiple (linear n m a) (linear n m b)
linear_mul n m a b = mul_here (linear_step n m) a b

-- a draft without calls
abbrev pub HasNoCalls : IxDraft → Type 0
HasNoCalls (literal at n) = Unit {0}
HasNoCalls (name at w) = Unit {0}
HasNoCalls (negated at a) = HasNoCalls a
HasNoCalls (sum a b) = HasNoCalls a × HasNoCalls b
HasNoCalls (difference a b) = HasNoCalls a × HasNoCalls b
HasNoCalls (product at a b) = HasNoCalls a × HasNoCalls b
HasNoCalls (grouped at a) = HasNoCalls a
HasNoCalls (chosen at f a b) = ⊥
HasNoCalls (divided at f a by_at by) = ⊥

pub then_ok : {A B : Type 0} (r : Checked A) (f : A → Checked B) (y : B) → r >>= f ≡ Ok y → (x : A) × (r ≡ Ok x) × (f x ≡ Ok y)
then_ok (Ok x) f y e = (x, refl, e)
then_ok (Err q) f y e = absurd (cc)

pub same_tree : (a b : Ix) → ◌≡◌ {A = Checked Ix} (Ok a) (Ok b) → a ≡ b
same_tree a b e = cc

pub not_placed : (t : Bool) (at : ℕ) → at_if t at ≡ [] → t ≡ false
not_placed true at e = absurd (cc)
not_placed false at e = refl

-- what is known of the tree
pub record IsAffineAs (d : IxDraft) (l : Linear) : Type 0 where
  pub affine : IsTrue l.affine
  pub named : l.named ≡ holds_names d

some_append : (xs ys : List (List ℕ)) → nat_lt 0 (length (xs ++ ys)) ≡ (nat_lt 0 (length xs) || nat_lt 0 (length ys))
some_append [] ys = refl
some_append (x ∷ xs) ys = more (length (xs ++ ys)) ∙ ap (λ t. t || nat_lt 0 (length ys)) (sym (more (length xs)))
  where
    more : (n : ℕ) → nat_lt 0 (suc n) ≡ true
    more n = grind (arith, nat_tests)

not_of : (a : Bool) → a ≡ false → not a ≡ true
not_of true e = absurd (cc)
not_of false e = refl

affine_by : (d : IxDraft) (l k : Linear) → l ≡ k → IsAffineAs d k → IsAffineAs d l
affine_by d l k e p = subst (IsAffineAs d) (sym e) p

mixed_affine : (s t : ℤ) (d a b : IxDraft) (x y : Linear) → names_in d ≡ names_in a ++ names_in b → IsAffineAs a x → IsAffineAs b y → IsAffineAs d (mixture s x t y)
mixed_affine s t d a b x y e p q = record {
  affine = hold_both x.affine y.affine p.affine q.affine;
  named = ap (λ u. u || y.named) p.named ∙ ap (λ u. holds_names a || u) q.named ∙ sym (some_append (names_in a) (names_in b)) ∙ ap (λ ns. nat_lt 0 (length ns)) (sym e);
}

-- an expression of a text without calls, in which no product has names on both sides, is affine
pub ix_affine : (n m : ℕ) (scope : Scope) (d : IxDraft) (e : Ix) → ix_tree scope d ≡ Ok e → HasNoCalls d → products_in d ≡ [] → IsAffineAs d (linear n m e)
ix_affine n m scope (literal at k) e t h p = subst (λ z. IsAffineAs (literal at k) (linear n m z)) (same_tree (ix.Lit (pos k)) e t) (record { affine = refl; named = refl })
ix_affine n m scope (name at w) e t h p =
    let r = then_ok _ (λ id. Ok (ix.Name id)) e t in
    subst (λ z. IsAffineAs (name at w) (linear n m z)) (same_tree (ix.Name r.0) e r.2) (record { affine = refl; named = refl })
ix_affine n m scope (negated at a) e t h p =
    let r = then_ok (ix_tree scope a) (λ x. Ok (ix.Neg x)) e t in
    let i = ix_affine n m scope a r.0 r.1 h p in
    subst (λ z. IsAffineAs (negated at a) (linear n m z)) (same_tree (ix.Neg r.0) e r.2) (affine_by (negated at a) _ _ (linear_neg n m r.0) (record { affine = i.affine; named = i.named }))
ix_affine n m scope (sum a b) e t h p =
    let r = then_ok (ix_tree scope a) (λ x. ix_tree scope b >>= (λ y. Ok (ix.Add x y))) e t in
    let q = then_ok (ix_tree scope b) (λ y. Ok (ix.Add r.0 y)) e r.2 in
    let o = no_append (products_in a) (products_in b) p in
    subst (λ z. IsAffineAs (sum a b) (linear n m z)) (same_tree (ix.Add r.0 q.0) e q.2)
    (affine_by (sum a b) _ _ (linear_add n m r.0 q.0) (mixed_affine (pos 1) (pos 1) (sum a b) a b _ _ refl (ix_affine n m scope a r.0 r.1 h.0 o.0) (ix_affine n m scope b q.0 q.1 h.1 o.1)))
ix_affine n m scope (difference a b) e t h p =
    let r = then_ok (ix_tree scope a) (λ x. ix_tree scope b >>= (λ y. Ok (ix.Sub x y))) e t in
    let q = then_ok (ix_tree scope b) (λ y. Ok (ix.Sub r.0 y)) e r.2 in
    let o = no_append (products_in a) (products_in b) p in
    subst (λ z. IsAffineAs (difference a b) (linear n m z)) (same_tree (ix.Sub r.0 q.0) e q.2)
    (affine_by (difference a b) _ _ (linear_sub n m r.0 q.0) (mixed_affine (pos 1) (negsuc 0) (difference a b) a b _ _ refl (ix_affine n m scope a r.0 r.1 h.0 o.0) (ix_affine n m scope b q.0 q.1 h.1 o.1)))
ix_affine n m scope (product at a b) e t h p =
    let r = then_ok (ix_tree scope a) (λ x. ix_tree scope b >>= (λ y. Ok (ix.Mul x y))) e t in
    let q = then_ok (ix_tree scope b) (λ y. Ok (ix.Mul r.0 y)) e r.2 in
    let o = no_append (products_in a ++ at_if (holds_names a && holds_names b) at) (products_in b) p in
    let u = no_append (products_in a) (at_if (holds_names a && holds_names b) at) o.0 in
    let f = ix_affine n m scope a r.0 r.1 h.0 u.0 in
    let g = ix_affine n m scope b q.0 q.1 h.1 o.1 in
    let one : (holds_names a && holds_names b) ≡ false = not_placed (holds_names a && holds_names b) at u.1 in
    subst (λ z. IsAffineAs (product at a b) (linear n m z)) (same_tree (ix.Mul r.0 q.0) e q.2)
    (affine_by (product at a b) _ _ (linear_mul n m r.0 q.0) (multiplied (linear n m r.0) (linear n m q.0) a b at f g one))
  where
    multiplied : (x y : Linear) (a b : IxDraft) (at : ℕ) → IsAffineAs a x → IsAffineAs b y → (holds_names a && holds_names b) ≡ false → IsAffineAs (product at a b) (multiple x y)
    multiplied x y a b at f g one = record {
      affine = hold_both (x.affine && y.affine) (not (x.named && y.named)) (hold_both x.affine y.affine f.affine g.affine)
          (not_of (x.named && y.named) (ap (λ u. u && y.named) f.named ∙ ap (λ u. holds_names a && u) g.named ∙ one));
      named = ap (λ u. u || y.named) f.named ∙ ap (λ u. holds_names a || u) g.named ∙ sym (some_append (names_in a) (names_in b));
    }
ix_affine n m scope (grouped at a) e t h p = let i = ix_affine n m scope a e t h p in record { affine = i.affine; named = i.named }
ix_affine n m scope (chosen at f a b) e t h p = absurd h
ix_affine n m scope (divided at f a by_at by) e t h p = absurd h
