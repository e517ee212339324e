-- A printed expression has at most twice the tokens of a text that reads as it, and at most three times its brackets.
use Rattle.std.proofs.Common.{◌≡◌, ℕ, ◌+◌, ◌*◌, Bool, true, false, max, List, [], ◌∷◌, ◌++◌, length, codes, ℤ, pos, Ok, refl, sym, subst, arith, append_assoc, length-append}
use Rattle.affc_ast.specs.declared.tree.Ix.{Ix}
use Rattle.affc_ast.specs.declared.tree.Ix.TheVariants as ix
use Rattle.affc_lex.specs.Bytes.{decimal}
use Rattle.affc_grammar.specs.Grammar as g
use Rattle.affc_grammar.specs.Grammar.{Choice, Rounding, Symbol, word, number, mark, choice_name, rounding_name, IxText, TermText, FactorText, AtomText, ix_symbols, term_symbols, factor_symbols, atom_symbols}
use Rattle.affc_grammar.specs.Draft.{ix_draft, term_draft, factor_draft, atom_draft}
use Rattle.affc_grammar.specs.Names.{Scope, ix_tree, number_named, choice_tree, rounding_tree}
use Rattle.affc_cprint.specs.Places.{divides}
use Rattle.affc_cprint.specs.declared.brackets.Place.{Place}
use Rattle.affc_cprint.specs.declared.brackets.Place.TheVariants.{Whole, RightOfSum, LeftOfProduct, RightOfProduct, UnderMinus}
use Rattle.affc_wellnamed.specs.declared.shape.Extent.{Extent}
use Rattle.affc_wellnamed.specs.declared.shape.Binding.{Binding}
use Rattle.affc_wellnamed.specs.declared.shape.Binding.TheVariants.{Sum, Product, Atom, Call}
use Rattle.affc_wellnamed.specs.declared.shape.IxExtent.{IxExtent}
use Rattle.affc_wellnamed.specs.Shape.{beside, and_tokens, bracketed, bracketed_if, is_looser, placed, one_token, negated, sum, product, called, choice, quotient, ix_step, ix_extent, whole}
use Rattle.affc_cprint.proofs.Nodes.{neg_here, add_here, sub_here, mul_here, min_here, max_here, mod_here, floord_here, ceild_here}
use Rattle.affc_cprint.proofs.Sees.{ok_of, both_ok}
use Rattle.affc_wellnamed.proofs.ShapeParts.{round}
use Rattle.affc_loopprint.proofs.reprint.Rows.{Lies, IsInRow, lies_none, lies_more, lies_joined, lies_within, word_lies, number_lies, mark_lies, Under, under_more, under_both, under_tokens, under_brackets, under_brackets_if}

-- ---- An expression at its places, against the tokens of a text

pub record IxFits (ss : List Symbol) (e : IxExtent) : Type 0 where
  pub deep : ℕ
  pub lies : Lies deep ss
  pub within : Under 1 (2 * length ss) (3 * deep + 1) e.extent

pub record TermFits (ss : List Symbol) (e : IxExtent) : Type 0 where
  pub deep : ℕ
  pub lies : Lies deep ss
  within : Under 1 (2 * length ss) (3 * deep + 1) e.extent
  pub summand : Under 0 (2 * length ss) (3 * deep + 1) (placed RightOfSum e)
  left : Under 0 (2 * length ss) (3 * deep + 1) (placed LeftOfProduct e)

record FactorFits (ss : List Symbol) (e : IxExtent) : Type 0 where
  deep : ℕ
  lies : Lies deep ss
  within : Under 1 (2 * length ss) (3 * deep + 1) e.extent
  at_place : (p : Place) → Under 0 (2 * length ss) (3 * deep + 1) (placed p e)

record AtomFits (ss : List Symbol) (e : IxExtent) : Type 0 where
  deep : ℕ
  lies : Lies deep ss
  at_place : (p : Place) → Under 1 (2 * length ss) (3 * deep) (placed p e)

pub placed_whole : (e : IxExtent) → placed Whole e ≡ e.extent
placed_whole e = of e.binding
  where
    of : (b : Binding) → bracketed_if (is_looser b Whole) e.extent ≡ e.extent
    of Sum = refl
    of Product = refl
    of Atom = refl
    of Call = refl

-- ---- Each way to write one

one_fits : (s : Symbol) → IsInRow s → AtomFits (s ∷ []) one_token
one_fits s h = record { deep = 0; lies = lies_more 0 s [] h lies_none; at_place = λ p. record { few = omega arith; shallow = omega arith } }

grouped_fits : (ss : List Symbol) (e : IxExtent) → IxFits ss e → AtomFits (mark (codes "(") ∷ (ss ++ mark (codes ")") ∷ [])) e
grouped_fits ss e f =
    let l = length-append ss (mark (codes ")") ∷ []) in
    record {
      deep = f.deep + 1;
      lies = lies_within f.deep (mark (codes "(")) (mark (codes ")")) ss round f.lies;
      at_place = λ p. under_more 1 (2 * length ss + 2) (3 * f.deep + 1 + 1) _ _ _ (placed p e) (omega (arith, l)) (omega arith) (under_brackets_if (is_looser e.binding p) 1 (2 * length ss) (3 * f.deep + 1) e.extent f.within);
    }

atom_fits : (ss : List Symbol) (e : IxExtent) → AtomFits ss e → FactorFits ss e
atom_fits ss e f = record {
  deep = f.deep;
  lies = f.lies;
  within = subst (Under 1 (2 * length ss) (3 * f.deep + 1)) (placed_whole e) (under_more 1 (2 * length ss) (3 * f.deep) _ _ _ (placed Whole e) (omega arith) (omega arith) (f.at_place Whole));
  at_place = λ p. under_more 1 (2 * length ss) (3 * f.deep) _ _ _ (placed p e) (omega arith) (omega arith) (f.at_place p);
}

negated_fits : (ss : List Symbol) (e : IxExtent) → AtomFits ss e → FactorFits (mark (codes "-") ∷ ss) (negated (placed UnderMinus e))
negated_fits ss e f =
    let inside = under_tokens 1 1 (2 * length ss) (3 * f.deep) (placed UnderMinus e) (f.at_place UnderMinus) in
    record {
      deep = f.deep;
      lies = lies_more f.deep (mark (codes "-")) ss (mark_lies _ refl refl refl) f.lies;
      within = under_more 1 (2 * length ss + 1) (3 * f.deep) _ _ _ (and_tokens 1 (placed UnderMinus e)) (omega arith) (omega arith) inside;
      at_place = λ p. under_more 1 (2 * length ss + 1 + 2) (3 * f.deep + 1) _ _ _ (placed p (negated (placed UnderMinus e))) (omega arith) (omega arith)
          (under_brackets_if (is_looser Sum p) 1 (2 * length ss + 1) (3 * f.deep) (and_tokens 1 (placed UnderMinus e)) inside);
    }

factor_fits : (ss : List Symbol) (e : IxExtent) → FactorFits ss e → TermFits ss e
factor_fits ss e f = record { deep = f.deep; lies = f.lies; within = f.within; summand = f.at_place RightOfSum; left = f.at_place LeftOfProduct }

product_fits : (xs ys : List Symbol) (a b : IxExtent) → TermFits xs a → FactorFits ys b → TermFits (xs ++ mark (codes "*") ∷ ys) (product a b)
product_fits xs ys a b f h =
    let l = length-append xs (mark (codes "*") ∷ ys) in
    let inside = under_tokens 1 0 _ _ _ (under_both 0 _ _ 0 _ _ (placed LeftOfProduct a) (placed RightOfProduct b) f.left (h.at_place RightOfProduct)) in
    let all : Under 1 (2 * length (xs ++ mark (codes "*") ∷ ys)) (3 * max f.deep h.deep + 1) (product a b).extent =
    under_more 0 (2 * length xs + 2 * length ys + 1) (max (3 * f.deep + 1) (3 * h.deep + 1)) _ _ _ (product a b).extent (omega (arith, l)) (omega arith) inside in
    let weak : Under 0 (2 * length (xs ++ mark (codes "*") ∷ ys)) (3 * max f.deep h.deep + 1) (product a b).extent = under_more 1 _ _ 0 _ _ (product a b).extent (omega arith) (omega arith) all in
    record { deep = max f.deep h.deep; lies = lies_joined f.deep h.deep xs (mark (codes "*")) ys (mark_lies _ refl refl refl) f.lies h.lies; within = all; summand = weak; left = weak }

term_fits : (ss : List Symbol) (e : IxExtent) → TermFits ss e → IxFits ss e
term_fits ss e f = record { deep = f.deep; lies = f.lies; within = f.within }

sum_fits : (xs : List Symbol) (m : Symbol) (ys : List Symbol) (a b : IxExtent) → IsInRow m → IxFits xs a → TermFits ys b → IxFits (xs ++ m ∷ ys) (sum a b)
sum_fits xs m ys a b k f h =
    let l = length-append xs (m ∷ ys) in
    let first : Under 1 (2 * length xs) (3 * f.deep + 1) (placed Whole a) = subst (Under 1 (2 * length xs) (3 * f.deep + 1)) (sym (placed_whole a)) f.within in
    let inside = under_tokens 1 1 _ _ _ (under_both 1 _ _ 0 _ _ (placed Whole a) (placed RightOfSum b) first h.summand) in
    record {
      deep = max f.deep h.deep;
      lies = lies_joined f.deep h.deep xs m ys k f.lies h.lies;
      within = under_more 1 (2 * length xs + 2 * length ys + 1) (max (3 * f.deep + 1) (3 * h.deep + 1)) _ _ _ (sum a b).extent (omega (arith, l)) (omega arith) inside;
    }

-- a call, which has a bracket of its own where it is negated
call_fits : (may_stand : Bool) (w : g.Name) (ss : List Symbol) (deep : ℕ) (inside : Extent) → Lies deep ss → Under 1 (2 * length ss) (3 * deep + 1) inside
    → AtomFits (word w ∷ mark (codes "(") ∷ (ss ++ mark (codes ")") ∷ [])) (called may_stand inside)
call_fits true w ss deep inside k u =
    let l = length-append ss (mark (codes ")") ∷ []) in
    let all = under_tokens 1 1 _ _ _ (under_brackets 1 (2 * length ss) (3 * deep + 1) inside u) in
    record {
      deep = deep + 1;
      lies = lies_more (deep + 1) (word w) _ (word_lies w) (lies_within deep (mark (codes "(")) (mark (codes ")")) ss round k);
      at_place = λ p. under_more 1 (2 * length ss + 2 + 1 + 2) (3 * deep + 1 + 1 + 1) _ _ _ (placed p (called true inside)) (omega (arith, l)) (omega arith)
          (under_brackets_if (is_looser Call p) 1 (2 * length ss + 2 + 1) (3 * deep + 1 + 1) (and_tokens 1 (bracketed inside)) all);
    }
call_fits false w ss deep inside k u =
    let l = length-append ss (mark (codes ")") ∷ []) in
    record {
      deep = deep + 1;
      lies = lies_more (deep + 1) (word w) _ (word_lies w) (lies_within deep (mark (codes "(")) (mark (codes ")")) ss round k);
      at_place = λ p. record { few = omega (arith, l); shallow = omega arith };
    }

-- ---- The expression that a text reads as

module _ (prelude : Bool) where
  atom_at : (ss : List Symbol) (x y : Ix) (e : IxExtent) → x ≡ y → ix_extent prelude x ≡ e → AtomFits ss e → AtomFits ss (ix_extent prelude y)
  atom_at ss x y e p q f = subst (λ z. AtomFits ss (ix_extent prelude z)) p (subst (AtomFits ss) (sym q) f)

  factor_at : (ss : List Symbol) (x y : Ix) (e : IxExtent) → x ≡ y → ix_extent prelude x ≡ e → FactorFits ss e → FactorFits ss (ix_extent prelude y)
  factor_at ss x y e p q f = subst (λ z. FactorFits ss (ix_extent prelude z)) p (subst (FactorFits ss) (sym q) f)

  term_at : (ss : List Symbol) (x y : Ix) (e : IxExtent) → x ≡ y → ix_extent prelude x ≡ e → TermFits ss e → TermFits ss (ix_extent prelude y)
  term_at ss x y e p q f = subst (λ z. TermFits ss (ix_extent prelude z)) p (subst (TermFits ss) (sym q) f)

  ix_at : (ss : List Symbol) (x y : Ix) (e : IxExtent) → x ≡ y → ix_extent prelude x ≡ e → IxFits ss e → IxFits ss (ix_extent prelude y)
  ix_at ss x y e p q f = subst (λ z. IxFits ss (ix_extent prelude z)) p (subst (IxFits ss) (sym q) f)

  choice_here : (f : Choice) (x y : Ix) → ix_extent prelude (choice_tree f x y) ≡ choice prelude (ix_extent prelude x) (ix_extent prelude y)
  choice_here g.minimum x y = min_here (ix_step prelude) x y
  choice_here g.maximum x y = max_here (ix_step prelude) x y
  choice_here g.remainder x y = mod_here (ix_step prelude) x y

  rounding_here : (f : Rounding) (x : Ix) (by : ℤ) → ix_extent prelude (rounding_tree f x by) ≡ quotient (divides prelude by) (ix_extent prelude x)
  rounding_here g.down x by = floord_here (ix_step prelude) x by
  rounding_here g.up x by = ceild_here (ix_step prelude) x by

  choice_fits : (f : Choice) (xs ys : List Symbol) (a b : IxExtent) → IxFits xs a → IxFits ys b
      → AtomFits (word (choice_name f) ∷ mark (codes "(") ∷ (xs ++ mark (codes ",") ∷ (ys ++ mark (codes ")") ∷ []))) (choice prelude a b)
  choice_fits f xs ys a b p q =
      let l = length-append xs (mark (codes ",") ∷ ys) in
      let first : Under 1 (2 * length xs) (3 * p.deep + 1) (placed Whole a) = subst (Under 1 (2 * length xs) (3 * p.deep + 1)) (sym (placed_whole a)) p.within in
      let second : Under 1 (2 * length ys) (3 * q.deep + 1) (placed Whole b) = subst (Under 1 (2 * length ys) (3 * q.deep + 1)) (sym (placed_whole b)) q.within in
      let inside = under_tokens 1 2 _ _ _ (under_both 1 _ _ 1 _ _ (placed Whole a) (placed Whole b) first second) in
      subst (λ l. AtomFits (word (choice_name f) ∷ mark (codes "(") ∷ l) (choice prelude a b)) (append_assoc xs (mark (codes ",") ∷ ys) (mark (codes ")") ∷ []))
      (call_fits prelude (choice_name f) (xs ++ mark (codes ",") ∷ ys) (max p.deep q.deep) (and_tokens 1 (beside (placed Whole a) (placed Whole b)))
      (lies_joined p.deep q.deep xs (mark (codes ",")) ys (mark_lies _ refl refl refl) p.lies q.lies)
      (under_more 2 (2 * length xs + 2 * length ys + 1) (max (3 * p.deep + 1) (3 * q.deep + 1)) _ _ _ _ (omega (arith, l)) (omega arith) inside))

  quotient_fits : (may_stand : Bool) (f : Rounding) (xs : List Symbol) (by : g.Digits) (a : IxExtent) → IxFits xs a
      → AtomFits (word (rounding_name f) ∷ mark (codes "(") ∷ (xs ++ mark (codes ",") ∷ number by ∷ mark (codes ")") ∷ [])) (quotient may_stand a)
  quotient_fits may_stand f xs by a p =
      let l = length-append xs (mark (codes ",") ∷ number by ∷ []) in
      let first : Under 1 (2 * length xs) (3 * p.deep + 1) (placed Whole a) = subst (Under 1 (2 * length xs) (3 * p.deep + 1)) (sym (placed_whole a)) p.within in
      let inside = under_tokens 2 1 _ _ _ first in
      let row = lies_joined p.deep 0 xs (mark (codes ",")) (number by ∷ []) (mark_lies _ refl refl refl) p.lies (lies_more 0 (number by) [] (number_lies by) lies_none) in
      let same : max p.deep 0 ≡ p.deep = omega arith in
      subst (λ l. AtomFits (word (rounding_name f) ∷ mark (codes "(") ∷ l) (quotient may_stand a)) (append_assoc xs (mark (codes ",") ∷ number by ∷ []) (mark (codes ")") ∷ []))
      (call_fits may_stand (rounding_name f) (xs ++ mark (codes ",") ∷ number by ∷ []) p.deep (and_tokens 2 (placed Whole a))
      (subst (λ d. Lies d (xs ++ mark (codes ",") ∷ number by ∷ [])) same row)
      (under_more 1 (2 * length xs + 2) (3 * p.deep + 1) _ _ _ _ (omega (arith, l)) (omega arith) inside))

  mutual
    pub ix_read : (scope : Scope) (at : ℕ) (a : IxText prelude) (e : Ix) → ix_tree scope (ix_draft at a) ≡ Ok e → IxFits (ix_symbols a) (ix_extent prelude e)
    ix_read scope at (g.term a) e h = term_fits _ _ (term_read scope at a e h)
    ix_read scope at (g.plus a b) e h =
        let p = both_ok (ix_tree scope (ix_draft at a)) _ e h in
        let q = both_ok (ix_tree scope (term_draft (at + length (ix_symbols a) + 1) b)) _ e p.2 in
        ix_at _ (ix.Add p.0 q.0) e _ (ok_of q.2) (add_here (ix_step prelude) p.0 q.0)
        (sum_fits (ix_symbols a) (mark (codes "+")) (term_symbols b) _ _ (mark_lies _ refl refl refl) (ix_read scope at a p.0 p.1) (term_read scope (at + length (ix_symbols a) + 1) b q.0 q.1))
    ix_read scope at (g.minus a b) e h =
        let p = both_ok (ix_tree scope (ix_draft at a)) _ e h in
        let q = both_ok (ix_tree scope (term_draft (at + length (ix_symbols a) + 1) b)) _ e p.2 in
        ix_at _ (ix.Sub p.0 q.0) e _ (ok_of q.2) (sub_here (ix_step prelude) p.0 q.0)
        (sum_fits (ix_symbols a) (mark (codes "-")) (term_symbols b) _ _ (mark_lies _ refl refl refl) (ix_read scope at a p.0 p.1) (term_read scope (at + length (ix_symbols a) + 1) b q.0 q.1))

    pub term_read : (scope : Scope) (at : ℕ) (a : TermText prelude) (e : Ix) → ix_tree scope (term_draft at a) ≡ Ok e → TermFits (term_symbols a) (ix_extent prelude e)
    term_read scope at (g.factor a) e h = factor_fits _ _ (factor_read scope at a e h)
    term_read scope at (g.times a b) e h =
        let p = both_ok (ix_tree scope (term_draft at a)) _ e h in
        let q = both_ok (ix_tree scope (factor_draft (at + length (term_symbols a) + 1) b)) _ e p.2 in
        term_at _ (ix.Mul p.0 q.0) e _ (ok_of q.2) (mul_here (ix_step prelude) p.0 q.0)
        (product_fits (term_symbols a) (factor_symbols b) _ _ (term_read scope at a p.0 p.1) (factor_read scope (at + length (term_symbols a) + 1) b q.0 q.1))

    factor_read : (scope : Scope) (at : ℕ) (a : FactorText prelude) (e : Ix) → ix_tree scope (factor_draft at a) ≡ Ok e → FactorFits (factor_symbols a) (ix_extent prelude e)
    factor_read scope at (g.atom a) e h = atom_fits _ _ (atom_read scope at a e h)
    factor_read scope at (g.negated a) e h =
        let p = both_ok (ix_tree scope (atom_draft (at + 1) a)) _ e h in
        factor_at _ (ix.Neg p.0) e _ (ok_of p.2) (neg_here (ix_step prelude) p.0) (negated_fits (atom_symbols a) _ (atom_read scope (at + 1) a p.0 p.1))

    atom_read : (scope : Scope) (at : ℕ) (a : AtomText prelude) (e : Ix) → ix_tree scope (atom_draft at a) ≡ Ok e → AtomFits (atom_symbols a) (ix_extent prelude e)
    atom_read scope at (g.literal digits) e h = atom_at _ (ix.Lit (pos (decimal digits))) e one_token (ok_of h) refl (one_fits (number digits) (number_lies digits))
    atom_read scope at (g.name w) e h =
        let p = both_ok (number_named scope at w) _ e h in
        atom_at _ (ix.Name p.0) e one_token (ok_of p.2) refl (one_fits (word w) (word_lies w))
    atom_read scope at (g.grouped a) e h = grouped_fits (ix_symbols a) _ (ix_read scope (at + 1) a e h)
    atom_read scope at (g.chosen k f a b) e h =
        let p = both_ok (ix_tree scope (ix_draft (at + 2) a)) _ e h in
        let q = both_ok (ix_tree scope (ix_draft (at + 2 + length (ix_symbols a) + 1) b)) _ e p.2 in
        atom_at _ (choice_tree f p.0 q.0) e _ (ok_of q.2) (choice_here f p.0 q.0)
        (choice_fits f (ix_symbols a) (ix_symbols b) _ _ (ix_read scope (at + 2) a p.0 p.1) (ix_read scope (at + 2 + length (ix_symbols a) + 1) b q.0 q.1))
    atom_read scope at (g.divided k f a by l) e h =
        let p = both_ok (ix_tree scope (ix_draft (at + 2) a)) _ e h in
        atom_at _ (rounding_tree f p.0 (pos (decimal by))) e _ (ok_of p.2) (rounding_here f p.0 (pos (decimal by)))
        (quotient_fits (divides prelude (pos (decimal by))) f (ix_symbols a) by _ (ix_read scope (at + 2) a p.0 p.1))

-- an expression by itself
pub record WholeFits (ss : List Symbol) (e : Extent) : Type 0 where
  pub deep : ℕ
  pub lies : Lies deep ss
  pub within : Under 1 (2 * length ss) (3 * deep + 1) e

pub whole_read : (prelude : Bool) (scope : Scope) (at : ℕ) (a : IxText prelude) (e : Ix) → ix_tree scope (ix_draft at a) ≡ Ok e → WholeFits (ix_symbols a) (whole prelude e)
whole_read prelude scope at a e h =
    let f = ix_read prelude scope at a e h in
    record { deep = f.deep; lies = f.lies; within = subst (Under 1 (2 * length (ix_symbols a)) (3 * f.deep + 1)) (sym (placed_whole (ix_extent prelude e))) f.within }
