-- What begins an expression can be completed without a further name.
use Rattle.std.proofs.Common.{◌≡◌, Bool, true, false, not, List, [], ◌∷◌, ◌++◌, refl, sym, ap, ◌∙◌, codes, ◌⊎◌, inl, inr, append_assoc, append-nil}
use Rattle.std.specs.List.{list_all}
use Rattle.std.proofs.lemmas.Bool.{and_parts, and_from, false≢true}
use Rattle.affc_grammar.specs.Grammar as g
use Rattle.affc_grammar.specs.Grammar.{Symbol, word, number, mark, IxText, TermText, FactorText, AtomText, ix_symbols, term_symbols, factor_symbols, atom_symbols}
use Rattle.affc_schedtext.specs.Grammar.{is_name}

-- one of two beginnings of a list goes on to the other
pub split : {A : Type 0} (xs ys us vs : List A) → xs ++ ys ≡ us ++ vs → ((m : List A) × (xs ≡ us ++ m) × (vs ≡ m ++ ys)) ⊎ ((m : List A) × (us ≡ xs ++ m) × (ys ≡ m ++ vs))
split [] ys us vs e = inr (us, refl, e)
split (x ∷ xs) ys [] vs e = inl (x ∷ xs, refl, sym e)
split {A} (x ∷ xs) ys (u ∷ us) vs e =
    let tails : xs ++ ys ≡ us ++ vs = cc in
    let head : x ≡ u = cc in
    at head (split xs ys us vs tails)
  where
    at : x ≡ u → ((m : List A) × (xs ≡ us ++ m) × (vs ≡ m ++ ys)) ⊎ ((m : List A) × (us ≡ xs ++ m) × (ys ≡ m ++ vs)) → ((m : List A) × (x ∷ xs ≡ u ∷ (us ++ m)) × (vs ≡ m ++ ys)) ⊎ ((m : List A) × (u ∷ us ≡ x ∷ (xs ++ m)) × (ys ≡ m ++ vs))
    at h (inl k) = inl (k.0, (λ i. h i ∷ k.1 i), k.2)
    at h (inr k) = inr (k.0, (λ i. sym h i ∷ k.1 i), k.2)

abbrev pub nameless : List Symbol → Bool
nameless ss = list_all (λ s. not (is_name s)) ss

pub nameless_append : (xs ys : List Symbol) → nameless xs ≡ true → nameless ys ≡ true → nameless (xs ++ ys) ≡ true
nameless_append [] ys p q = q
nameless_append (x ∷ xs) ys p q =
    let h = and_parts (not (is_name x)) (nameless xs) p in
    and_from (not (is_name x)) (nameless (xs ++ ys)) h.0 (nameless_append xs ys h.1 q)

-- something of the rule begins so, and goes on without a name
pub record Completes {C : Type 0} (spelled : C → List Symbol) (used : List Symbol) : Type 0 where
  pub whole : C
  pub more : List Symbol
  pub is : spelled whole ≡ used ++ more
  pub without : nameless more ≡ true

abbrev zero_atom : AtomText false
zero_atom = g.literal (codes "0")

zero_completes : {C : Type 0} (spelled : C → List Symbol) (c : C) → spelled c ≡ number (codes "0") ∷ [] → Completes spelled []
zero_completes spelled c e = record { whole = c; more = number (codes "0") ∷ []; is = e; without = refl }

-- behind a first token
head_of : {A : Type 0} (x y : A) (xs ys : List A) → x ∷ xs ≡ y ∷ ys → (x ≡ y) × (xs ≡ ys)
head_of x y xs ys e = (cc, cc)

-- two parts with a token between
two_parts : {A B C : Type 0} (left : A → List Symbol) (right : B → List Symbol) (spelled : C → List Symbol) (a : A) (sign : Symbol) (b : B) (lift : A → C) (join : B → C) → ((x : A) → spelled (lift x) ≡ left x) → ((y : B) → spelled (join y) ≡ left a ++ sign ∷ right y)
    → ((used tail : List Symbol) → left a ≡ used ++ tail → Completes left used) → ((used tail : List Symbol) → right b ≡ used ++ tail → Completes right used) → (used tail : List Symbol) → left a ++ sign ∷ right b ≡ used ++ tail → Completes spelled used
two_parts {A} {B} {C} left right spelled a sign b lift join lifted joined first second used tail e = at (split (left a) (sign ∷ right b) used tail e)
  where
    behind : (m : List Symbol) → used ≡ left a ++ m → sign ∷ right b ≡ m ++ tail → Completes spelled used
    behind [] p q =
        let c = first (left a) [] (sym (append-nil (left a))) in
        record { whole = lift c.whole; more = c.more; is = lifted c.whole ∙ c.is ∙ ap (λ l. l ++ c.more) (sym (append-nil (left a)) ∙ sym p); without = c.without }
    behind (x ∷ m) p q =
        let h = head_of sign x (right b) (m ++ tail) q in
        let c = second m tail h.1 in
        record {
          whole = join c.whole;
          more = c.more;
          is = joined c.whole ∙ ap (λ l. left a ++ sign ∷ l) c.is ∙ (λ i. left a ++ h.0 i ∷ (m ++ c.more)) ∙ sym (append_assoc (left a) (x ∷ m) c.more) ∙ ap (λ l. l ++ c.more) (sym p);
          without = c.without;
        }

    at : ((m : List Symbol) × (left a ≡ used ++ m) × (tail ≡ m ++ sign ∷ right b)) ⊎ ((m : List Symbol) × (used ≡ left a ++ m) × (sign ∷ right b ≡ m ++ tail)) → Completes spelled used
    at (inl k) = let c = first used k.0 k.1 in record { whole = lift c.whole; more = c.more; is = lifted c.whole ∙ c.is; without = c.without }
    at (inr k) = behind k.0 k.1 k.2

single : (c : AtomText false) (x : Symbol) → atom_symbols c ≡ x ∷ [] → (u : Symbol) (used tail : List Symbol) → x ∷ [] ≡ u ∷ (used ++ tail) → Completes (atom_symbols {prelude = false}) (u ∷ used)
single c x s u [] tail e = record { whole = c; more = []; is = s ∙ (λ i. (head_of x u [] tail e).0 i ∷ []); without = refl }
single c x s u (v ∷ used) tail e = absurd (let h = (head_of x u [] (v ∷ (used ++ tail)) e).1 in cc)

closed : (a : IxText false) (u : Symbol) (used tail : List Symbol) → mark (codes "(") ≡ u → (m : List Symbol) → used ≡ ix_symbols a ++ m → mark (codes ")") ∷ [] ≡ m ++ tail → Completes (atom_symbols {prelude = false}) (u ∷ used)
closed a u used tail h [] p q =
    record {
      whole = g.grouped a;
      more = mark (codes ")") ∷ [];
      is = (λ i. h i ∷ (ix_symbols a ++ mark (codes ")") ∷ [])) ∙ ap (λ l. u ∷ (l ++ mark (codes ")") ∷ [])) (sym (append-nil (ix_symbols a)) ∙ sym p);
      without = refl;
    }
closed a u used tail h (x ∷ []) p q =
    record {
      whole = g.grouped a;
      more = [];
      is = (λ i. h i ∷ (ix_symbols a ++ (head_of (mark (codes ")")) x [] tail q).0 i ∷ [])) ∙ ap (λ l. u ∷ l) (sym p ∙ sym (append-nil used));
      without = refl;
    }
closed a u used tail h (x ∷ (y ∷ m)) p q = absurd (let k = (head_of (mark (codes ")")) x [] (y ∷ (m ++ tail)) q).1 in cc)

group : (a : IxText false) → ((used tail : List Symbol) → ix_symbols a ≡ used ++ tail → Completes (ix_symbols {prelude = false}) used) → (u : Symbol) (used tail : List Symbol) → mark (codes "(") ≡ u → ((m : List Symbol) × (ix_symbols a ≡ used ++ m) × (tail ≡ m ++ mark (codes ")") ∷ [])) ⊎ ((m : List Symbol) × (used ≡ ix_symbols a ++ m) × (mark (codes ")") ∷ [] ≡ m ++ tail)) → Completes (atom_symbols {prelude = false}) (u ∷ used)
group a completes u used tail h (inl k) =
    let c = completes used k.0 k.1 in
    record {
      whole = g.grouped c.whole;
      more = c.more ++ mark (codes ")") ∷ [];
      is = ap (λ l. mark (codes "(") ∷ (l ++ mark (codes ")") ∷ [])) c.is ∙ (λ i. h i ∷ append_assoc used c.more (mark (codes ")") ∷ []) i);
      without = nameless_append c.more (mark (codes ")") ∷ []) c.without refl;
    }
group a completes u used tail h (inr k) = closed a u used tail h k.0 k.1 k.2

mutual
  pub ix_completes : (c : IxText false) (used tail : List Symbol) → ix_symbols c ≡ used ++ tail → Completes (ix_symbols {prelude = false}) used
  ix_completes (g.term a) used tail e = let c = term_completes a used tail e in record { whole = g.term c.whole; more = c.more; is = c.is; without = c.without }
  ix_completes (g.plus a b) used tail e =
      two_parts (ix_symbols {prelude = false}) (term_symbols {prelude = false}) (ix_symbols {prelude = false}) a (mark (codes "+")) b (λ x. x) (λ y. g.plus a y) (λ x. refl) (λ y. refl) (λ u t h. ix_completes a u t h) (λ u t h. term_completes b u t h) used tail e
  ix_completes (g.minus a b) used tail e =
      two_parts (ix_symbols {prelude = false}) (term_symbols {prelude = false}) (ix_symbols {prelude = false}) a (mark (codes "-")) b (λ x. x) (λ y. g.minus a y) (λ x. refl) (λ y. refl) (λ u t h. ix_completes a u t h) (λ u t h. term_completes b u t h) used tail e

  pub term_completes : (c : TermText false) (used tail : List Symbol) → term_symbols c ≡ used ++ tail → Completes (term_symbols {prelude = false}) used
  term_completes (g.factor a) used tail e = let c = factor_completes a used tail e in record { whole = g.factor c.whole; more = c.more; is = c.is; without = c.without }
  term_completes (g.times a b) used tail e =
      two_parts (term_symbols {prelude = false}) (factor_symbols {prelude = false}) (term_symbols {prelude = false}) a (mark (codes "*")) b (λ x. x) (λ y. g.times a y) (λ x. refl) (λ y. refl) (λ u t h. term_completes a u t h) (λ u t h. factor_completes b u t h) used tail e

  pub factor_completes : (c : FactorText false) (used tail : List Symbol) → factor_symbols c ≡ used ++ tail → Completes (factor_symbols {prelude = false}) used
  factor_completes (g.atom a) used tail e = let c = atom_completes a used tail e in record { whole = g.atom c.whole; more = c.more; is = c.is; without = c.without }
  factor_completes (g.negated a) [] tail e = zero_completes (factor_symbols {prelude = false}) (g.atom zero_atom) refl
  factor_completes (g.negated a) (u ∷ used) tail e =
      let h = head_of (mark (codes "-")) u (atom_symbols a) (used ++ tail) e in
      let c = atom_completes a used tail h.1 in
      record { whole = g.negated c.whole; more = c.more; is = ap (λ l. mark (codes "-") ∷ l) c.is ∙ (λ i. h.0 i ∷ (used ++ c.more)); without = c.without }

  pub atom_completes : (c : AtomText false) (used tail : List Symbol) → atom_symbols c ≡ used ++ tail → Completes (atom_symbols {prelude = false}) used
  atom_completes c [] tail e = zero_completes (atom_symbols {prelude = false}) zero_atom refl
  atom_completes (g.literal digits) (u ∷ used) tail e = single (g.literal digits) (number digits) refl u used tail e
  atom_completes (g.name w) (u ∷ used) tail e = single (g.name w) (word w) refl u used tail e
  atom_completes (g.grouped a) (u ∷ used) tail e =
      let h = head_of (mark (codes "(")) u (ix_symbols a ++ mark (codes ")") ∷ []) (used ++ tail) e in
      group a (λ x t k. ix_completes a x t k) u used tail h.0 (split (ix_symbols a) (mark (codes ")") ∷ []) used tail h.1)
  atom_completes (g.chosen h f a b) (u ∷ used) tail e = absurd (false≢true h)
  atom_completes (g.divided h f a by k) (u ∷ used) tail e = absurd (false≢true h)
