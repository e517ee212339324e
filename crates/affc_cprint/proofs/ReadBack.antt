-- A whole-number expression that is read is printed as one that is read so, at each place where it can stand, and whose tokens a text can have.
use Rattle.std.proofs.Common.{◌≡◌, ℕ, ◌+◌, ◌^◌, ◌<◌, ◌&&◌, nat_le, Bool, true, false, List, [], ◌∷◌, ◌++◌, codes, Option, Some, None, is_some, Ok, pos, IsTrue, refl, sym, ap, subst, ◌∙◌}
use Rattle.std.proofs.lemmas.Bool.{and_parts}
use Rattle.std.specs.List.{list_all}
use Rattle.std.specs.Fmt.{decimal as digits_of}
use Rattle.affc_lex.specs.Bytes.{same, decimal as value_of}
use Rattle.affc_lex.specs.Pieces.{is_word, is_number, is_small}
use Rattle.affc_ast.specs.declared.tree.NameId.{NameId}
use Rattle.affc_ast.specs.declared.tree.Ix.{Ix}
use Rattle.affc_ast.specs.declared.tree.Ix.TheVariants as ix
use Rattle.affc_ast.specs.Recursion.{by_ix}
use Rattle.affc_grammar.specs.Grammar.{Name, Digits, Symbol, word, number as number_symbol, mark, Choice, minimum, maximum, remainder, Rounding, down, up, choice_name, rounding_name, is_divisor, IxText, term, plus, minus, TermText, factor, times, FactorText, atom, negated, AtomText, literal, name, grouped, chosen, divided, ix_symbols, term_symbols, factor_symbols, atom_symbols}
use Rattle.affc_grammar.specs.Draft.{ix_draft, term_draft, factor_draft, atom_draft}
use Rattle.affc_grammar.specs.Names.{Scope, number_named, ix_tree, choice_tree, rounding_tree}
use Rattle.affc_grammar.specs.Reads.{can_have}
use Rattle.affc_cprint.proofs.Numbers.{value_of-decimal, divisor_of}
use Rattle.affc_cprint.proofs.Nodes.{neg_here, add_here, sub_here, mul_here, min_here, max_here, mod_here, floord_here, ceild_here}
use Rattle.affc_cprint.proofs.Places.{some_held}
use Rattle.affc_cprint.proofs.Spelled.{AllHave, AllStand, have_parts, stand_both, IsName, IsNumeral, symbol_of_name, symbol_of_numeral, decimal_is_numeral, small_value}
use Rattle.affc_cprint.proofs.Sees.{ok_of, both_ok, then_is, Sees, number_back}
use Rattle.affc_grammar.specs.Printed.{Names, IxWritten, number_name, sum_written, product_written, atom_written, call_written, ix_step, chosen_written, divided_written, divided_by, holding}

pub in_parentheses : (ss : List Symbol) → AllStand ss → AllStand (mark (codes "(") ∷ (ss ++ mark (codes ")") ∷ []))
in_parentheses ss s = stand_both ss (mark (codes ")") ∷ []) s refl

pub word_of_symbol : (w : Name) (ss : List Symbol) → AllHave (word w ∷ ss) → (is_word w ≡ true) × AllHave ss
word_of_symbol w ss h = let p = and_parts (is_word w) (list_all (λ s. can_have s.kind s.bytes) ss) h in (p.0, p.1)

pub number_of_symbol : (ds : Digits) (ss : List Symbol) → AllHave (number_symbol ds ∷ ss) → (value_of ds < 2 ^ 64) × AllHave ss
number_of_symbol ds ss h =
    let p = and_parts (is_number ds && is_small ds) (list_all (λ s. can_have s.kind s.bytes) ss) h in
    (small_value ds (and_parts (is_number ds) (is_small ds) p.0).1, p.1)

-- ---- Places

-- what is written for the expression reads as it, at every place
pub record Back {prelude : Bool} (scope : Scope) (w : IxWritten prelude) (e : Ix) : Type 0 where
  pub whole : (at : ℕ) → ix_tree scope (ix_draft at w.whole) ≡ Ok e
  pub right_of_sum : (at : ℕ) → ix_tree scope (term_draft at w.right_of_sum) ≡ Ok e
  pub left_of_product : (at : ℕ) → ix_tree scope (term_draft at w.left_of_product) ≡ Ok e
  pub right_of_product : (at : ℕ) → ix_tree scope (factor_draft at w.right_of_product) ≡ Ok e
  pub under_minus : (at : ℕ) → ix_tree scope (atom_draft at w.under_minus) ≡ Ok e
  pub whole_stands : AllStand (ix_symbols w.whole)
  pub right_of_sum_stands : AllStand (term_symbols w.right_of_sum)
  pub left_of_product_stands : AllStand (term_symbols w.left_of_product)
  pub right_of_product_stands : AllStand (factor_symbols w.right_of_product)
  pub under_minus_stands : AllStand (atom_symbols w.under_minus)

sum_back : {prelude : Bool} (scope : Scope) (t : IxText prelude) (e : Ix) → ((at : ℕ) → ix_tree scope (ix_draft at t) ≡ Ok e) → AllStand (ix_symbols t) → Back scope (sum_written t) e
sum_back scope t e h s =
    let inside = in_parentheses (ix_symbols t) s in
    record {
      whole = h;
      right_of_sum = λ at. h (at + 1);
      left_of_product = λ at. h (at + 1);
      right_of_product = λ at. h (at + 1);
      under_minus = λ at. h (at + 1);
      whole_stands = s;
      right_of_sum_stands = inside;
      left_of_product_stands = inside;
      right_of_product_stands = inside;
      under_minus_stands = inside;
    }

product_back : {prelude : Bool} (scope : Scope) (t : TermText prelude) (e : Ix) → ((at : ℕ) → ix_tree scope (term_draft at t) ≡ Ok e) → AllStand (term_symbols t) → Back scope (product_written t) e
product_back scope t e h s =
    let inside = in_parentheses (term_symbols t) s in
    record {
      whole = h;
      right_of_sum = h;
      left_of_product = h;
      right_of_product = λ at. h (at + 1);
      under_minus = λ at. h (at + 1);
      whole_stands = s;
      right_of_sum_stands = s;
      left_of_product_stands = s;
      right_of_product_stands = inside;
      under_minus_stands = inside;
    }

atom_back : {prelude : Bool} (scope : Scope) (t : AtomText prelude) (e : Ix) → ((at : ℕ) → ix_tree scope (atom_draft at t) ≡ Ok e) → AllStand (atom_symbols t) → Back scope (atom_written t) e
atom_back scope t e h s = record {
  whole = h;
  right_of_sum = h;
  left_of_product = h;
  right_of_product = h;
  under_minus = h;
  whole_stands = s;
  right_of_sum_stands = s;
  left_of_product_stands = s;
  right_of_product_stands = s;
  under_minus_stands = s;
}

call_back : {prelude : Bool} (scope : Scope) (t : AtomText prelude) (e : Ix) → ((at : ℕ) → ix_tree scope (atom_draft at t) ≡ Ok e) → AllStand (atom_symbols t) → Back scope (call_written t) e
call_back scope t e h s = record {
  whole = h;
  right_of_sum = h;
  left_of_product = h;
  right_of_product = h;
  under_minus = λ at. h (at + 1);
  whole_stands = s;
  right_of_sum_stands = s;
  left_of_product_stands = s;
  right_of_product_stands = s;
  under_minus_stands = in_parentheses (atom_symbols t) s;
}

choice_is_name : (f : Choice) → IsName (choice_name f)
choice_is_name minimum = record { is = refl; other = refl }
choice_is_name maximum = record { is = refl; other = refl }
choice_is_name remainder = record { is = refl; other = refl }

rounding_is_name : (f : Rounding) → IsName (rounding_name f)
rounding_is_name down = record { is = refl; other = refl }
rounding_is_name up = record { is = refl; other = refl }

-- what is written for a call
with_prelude : (prelude : Bool) → IsTrue prelude → (scope : Scope) (f : Choice) (v w : IxWritten prelude) (x y : Ix) → Back scope v x → Back scope w y
    → Back scope (chosen_written prelude f v.whole w.whole) (choice_tree f x y)
with_prelude true on scope f v w x y bv bw = call_back scope (chosen refl f v.whole w.whole) (choice_tree f x y) (λ at. then_is _ _ x _ (bv.whole _) (then_is _ _ y _ (bw.whole _) refl))
    (symbol_of_name (choice_name f) (mark (codes "(") ∷ (ix_symbols v.whole ++ mark (codes ",") ∷ (ix_symbols w.whole ++ mark (codes ")") ∷ []))) (choice_is_name f)
    (stand_both (ix_symbols v.whole) (mark (codes ",") ∷ (ix_symbols w.whole ++ mark (codes ")") ∷ [])) bv.whole_stands (stand_both (ix_symbols w.whole) (mark (codes ")") ∷ []) bw.whole_stands refl)))
with_prelude false on scope f v w x y bv bw = absurd (cc)

quotient_back : (prelude : Bool) → IsTrue prelude → (scope : Scope) (f : Rounding) (n : ℕ) → n < 2 ^ 64 → nat_le 1 n ≡ true → (v : IxWritten prelude) (x : Ix) → Back scope v x
    → Back scope (divided_written prelude f v.whole (pos n)) (rounding_tree f x (pos n))
quotient_back false on scope f n small some v x bv = absurd (cc)
quotient_back true on scope f n small some v x bv = of_held (digits_of n) (value_of-decimal n small) (decimal_is_numeral n small) (holding (is_divisor (digits_of n))) (some_held (is_divisor (digits_of n)) (divisor_of n small ∙ some))
  where
    of_held : (ds : Digits) → value_of ds ≡ n → IsNumeral ds → (o : Option (IsTrue (is_divisor ds))) → is_some o ≡ true → Back scope (divided_by ds o f v.whole) (rounding_tree f x (pos n))
    of_held ds same numeral (Some d) s =
        call_back scope (divided refl f v.whole ds d) (rounding_tree f x (pos n)) (λ at. then_is _ _ x _ (bv.whole _) (ap (λ m. Ok (rounding_tree f x (pos m))) same))
        (symbol_of_name (rounding_name f) (mark (codes "(") ∷ (ix_symbols v.whole ++ mark (codes ",") ∷ number_symbol ds ∷ mark (codes ")") ∷ [])) (rounding_is_name f)
        (stand_both (ix_symbols v.whole) (mark (codes ",") ∷ number_symbol ds ∷ mark (codes ")") ∷ []) bv.whole_stands (symbol_of_numeral ds (mark (codes ")") ∷ []) numeral refl)))
    of_held ds same numeral None s = absurd (cc)

-- ---- Expressions

module _ (prelude : Bool) (scope : Scope) (names : Names) (sees : Sees scope names) where
  abbrev pub IsBack : Ix → Type 0
  IsBack e = Back scope (by_ix (ix_step prelude names) e) e

  pub add_back : (x y e : Ix) → ix.Add x y ≡ e → IsBack x → IsBack y → IsBack e
  add_back x y e is bx by = subst IsBack is (subst (λ w. Back scope w (ix.Add x y)) (sym (add_here (ix_step prelude names) x y))
      (sum_back scope (plus (by_ix (ix_step prelude names) x).whole (by_ix (ix_step prelude names) y).right_of_sum) (ix.Add x y) (λ at. then_is _ _ x _ (bx.whole at) (then_is _ _ y _ (by.right_of_sum _) refl))
      (stand_both (ix_symbols (by_ix (ix_step prelude names) x).whole) (mark (codes "+") ∷ term_symbols (by_ix (ix_step prelude names) y).right_of_sum) bx.whole_stands by.right_of_sum_stands)))

  pub sub_back : (x y e : Ix) → ix.Sub x y ≡ e → IsBack x → IsBack y → IsBack e
  sub_back x y e is bx by = subst IsBack is (subst (λ w. Back scope w (ix.Sub x y)) (sym (sub_here (ix_step prelude names) x y))
      (sum_back scope (minus (by_ix (ix_step prelude names) x).whole (by_ix (ix_step prelude names) y).right_of_sum) (ix.Sub x y) (λ at. then_is _ _ x _ (bx.whole at) (then_is _ _ y _ (by.right_of_sum _) refl))
      (stand_both (ix_symbols (by_ix (ix_step prelude names) x).whole) (mark (codes "-") ∷ term_symbols (by_ix (ix_step prelude names) y).right_of_sum) bx.whole_stands by.right_of_sum_stands)))

  pub mul_back : (x y e : Ix) → ix.Mul x y ≡ e → IsBack x → IsBack y → IsBack e
  mul_back x y e is bx by = subst IsBack is (subst (λ w. Back scope w (ix.Mul x y)) (sym (mul_here (ix_step prelude names) x y))
      (product_back scope (times (by_ix (ix_step prelude names) x).left_of_product (by_ix (ix_step prelude names) y).right_of_product) (ix.Mul x y) (λ at. then_is _ _ x _ (bx.left_of_product at) (then_is _ _ y _ (by.right_of_product _) refl))
      (stand_both (term_symbols (by_ix (ix_step prelude names) x).left_of_product) (mark (codes "*") ∷ factor_symbols (by_ix (ix_step prelude names) y).right_of_product) bx.left_of_product_stands by.right_of_product_stands)))

  pub neg_back : (x e : Ix) → ix.Neg x ≡ e → IsBack x → IsBack e
  neg_back x e is bx = subst IsBack is (subst (λ w. Back scope w (ix.Neg x)) (sym (neg_here (ix_step prelude names) x))
      (sum_back scope (term (factor (negated (by_ix (ix_step prelude names) x).under_minus))) (ix.Neg x) (λ at. then_is _ _ x _ (bx.under_minus _) refl) bx.under_minus_stands))

  pub lit_back : (n : ℕ) (e : Ix) → n < 2 ^ 64 → ix.Lit (pos n) ≡ e → IsBack e
  lit_back n e small is = subst IsBack is (atom_back scope (literal (digits_of n)) (ix.Lit (pos n)) (λ at. ap (λ m. Ok (ix.Lit (pos m))) (value_of-decimal n small)) (symbol_of_numeral (digits_of n) [] (decimal_is_numeral n small) refl))

  pub name_back : (id : NameId) (w : Name) (at : ℕ) (e : Ix) → number_named scope at w ≡ Ok id → is_word w ≡ true → ix.Name id ≡ e → IsBack e
  name_back id w at e named word_is is =
      let b = number_back scope names sees at w id named in
      let good : IsName (number_name names id) = record { is = ap is_word b.same_name ∙ word_is; other = ap (same (codes "static")) b.same_name ∙ b.other } in
      subst IsBack is (atom_back scope (name (number_name names id)) (ix.Name id) (λ k. then_is _ _ id _ (subst (λ v. number_named scope k v ≡ Ok id) (sym b.same_name) (b.again k)) refl)
      (symbol_of_name (number_name names id) [] good refl))

  -- a call, which stands only with the prelude
  pub choice_back : IsTrue prelude → (f : Choice) (x y e : Ix) → choice_tree f x y ≡ e → IsBack x → IsBack y → IsBack e
  choice_back on minimum x y e is bx by = subst IsBack is (subst (λ w. Back scope w (ix.Min x y)) (sym (min_here (ix_step prelude names) x y))
      (with_prelude prelude on scope minimum (by_ix (ix_step prelude names) x) (by_ix (ix_step prelude names) y) x y bx by))
  choice_back on maximum x y e is bx by = subst IsBack is (subst (λ w. Back scope w (ix.Max x y)) (sym (max_here (ix_step prelude names) x y))
      (with_prelude prelude on scope maximum (by_ix (ix_step prelude names) x) (by_ix (ix_step prelude names) y) x y bx by))
  choice_back on remainder x y e is bx by = subst IsBack is (subst (λ w. Back scope w (ix.Mod x y)) (sym (mod_here (ix_step prelude names) x y))
      (with_prelude prelude on scope remainder (by_ix (ix_step prelude names) x) (by_ix (ix_step prelude names) y) x y bx by))

  pub rounding_back : IsTrue prelude → (f : Rounding) (n : ℕ) → n < 2 ^ 64 → nat_le 1 n ≡ true → (x e : Ix) → rounding_tree f x (pos n) ≡ e → IsBack x → IsBack e
  rounding_back on down n small some x e is bx = subst IsBack is (subst (λ w. Back scope w (ix.Floord x (pos n))) (sym (floord_here (ix_step prelude names) x (pos n)))
      (quotient_back prelude on scope down n small some (by_ix (ix_step prelude names) x) x bx))
  rounding_back on up n small some x e is bx = subst IsBack is (subst (λ w. Back scope w (ix.Ceild x (pos n))) (sym (ceild_here (ix_step prelude names) x (pos n)))
      (quotient_back prelude on scope up n small some (by_ix (ix_step prelude names) x) x bx))

  mutual
    pub ix_back : (c : IxText prelude) → AllHave (ix_symbols c) → (at : ℕ) (e : Ix) → ix_tree scope (ix_draft at c) ≡ Ok e → IsBack e
    ix_back (term a) have at e h = term_back a have at e h
    ix_back (plus a b) have at e h =
        let s = have_parts (ix_symbols a) (mark (codes "+") ∷ term_symbols b) have in
        let p = both_ok (ix_tree scope (ix_draft at a)) _ e h in
        let q = both_ok (ix_tree scope (term_draft _ b)) _ e p.2 in
        add_back p.0 q.0 e (ok_of q.2) (ix_back a s.0 at p.0 p.1) (term_back b s.1 _ q.0 q.1)
    ix_back (minus a b) have at e h =
        let s = have_parts (ix_symbols a) (mark (codes "-") ∷ term_symbols b) have in
        let p = both_ok (ix_tree scope (ix_draft at a)) _ e h in
        let q = both_ok (ix_tree scope (term_draft _ b)) _ e p.2 in
        sub_back p.0 q.0 e (ok_of q.2) (ix_back a s.0 at p.0 p.1) (term_back b s.1 _ q.0 q.1)

    pub term_back : (c : TermText prelude) → AllHave (term_symbols c) → (at : ℕ) (e : Ix) → ix_tree scope (term_draft at c) ≡ Ok e → IsBack e
    term_back (factor a) have at e h = factor_back a have at e h
    term_back (times a b) have at e h =
        let s = have_parts (term_symbols a) (mark (codes "*") ∷ factor_symbols b) have in
        let p = both_ok (ix_tree scope (term_draft at a)) _ e h in
        let q = both_ok (ix_tree scope (factor_draft _ b)) _ e p.2 in
        mul_back p.0 q.0 e (ok_of q.2) (term_back a s.0 at p.0 p.1) (factor_back b s.1 _ q.0 q.1)

    pub factor_back : (c : FactorText prelude) → AllHave (factor_symbols c) → (at : ℕ) (e : Ix) → ix_tree scope (factor_draft at c) ≡ Ok e → IsBack e
    factor_back (atom a) have at e h = atom_text_back a have at e h
    factor_back (negated a) have at e h =
        let p = both_ok (ix_tree scope (atom_draft (at + 1) a)) _ e h in
        neg_back p.0 e (ok_of p.2) (atom_text_back a have (at + 1) p.0 p.1)

    pub atom_text_back : (c : AtomText prelude) → AllHave (atom_symbols c) → (at : ℕ) (e : Ix) → ix_tree scope (atom_draft at c) ≡ Ok e → IsBack e
    atom_text_back (literal digits) have at e h = lit_back (value_of digits) e (number_of_symbol digits [] have).0 (ok_of h)
    atom_text_back (name w) have at e h =
        let p = both_ok (number_named scope at w) _ e h in
        name_back p.0 w at e p.1 (word_of_symbol w [] have).0 (ok_of p.2)
    atom_text_back (grouped a) have at e h = ix_back a (have_parts (ix_symbols a) (mark (codes ")") ∷ []) have).0 (at + 1) e h
    atom_text_back (chosen on f a b) have at e h =
        let r = word_of_symbol (choice_name f) (mark (codes "(") ∷ (ix_symbols a ++ mark (codes ",") ∷ (ix_symbols b ++ mark (codes ")") ∷ []))) have in
        let s = have_parts (ix_symbols a) (mark (codes ",") ∷ (ix_symbols b ++ mark (codes ")") ∷ [])) r.1 in
        let t = have_parts (ix_symbols b) (mark (codes ")") ∷ []) s.1 in
        let p = both_ok (ix_tree scope (ix_draft (at + 2) a)) _ e h in
        let q = both_ok (ix_tree scope (ix_draft _ b)) _ e p.2 in
        choice_back on f p.0 q.0 e (ok_of q.2) (ix_back a s.0 (at + 2) p.0 p.1) (ix_back b t.0 _ q.0 q.1)
    atom_text_back (divided on f a by some) have at e h =
        let r = word_of_symbol (rounding_name f) (mark (codes "(") ∷ (ix_symbols a ++ mark (codes ",") ∷ number_symbol by ∷ mark (codes ")") ∷ [])) have in
        let s = have_parts (ix_symbols a) (mark (codes ",") ∷ number_symbol by ∷ mark (codes ")") ∷ []) r.1 in
        let p = both_ok (ix_tree scope (ix_draft (at + 2) a)) _ e h in
        rounding_back on f (value_of by) (number_of_symbol by (mark (codes ")") ∷ []) s.1).0 some p.0 e (ok_of p.2) (ix_back a s.0 (at + 2) p.0 p.1)
