-- Printed expressions and values have the tokens and brackets that are counted by the tree.
use Rattle.std.proofs.Common.{◌≡◌, ℕ, suc, ◌+◌, ◌&&◌, Bool, true, false, nat_lt, max, List, [], ◌∷◌, ◌++◌, length, map, codes, Option, Some, None, is_some, IsTrue, ℤ, nat_abs, refl, sym, ap, subst, ◌∙◌, arith, append_assoc, decimal as digits_of, if◌then◌else◌}
use Rattle.std.proofs.lemmas.Bool.{ltb-true, false≢true, and_parts}
use Rattle.affc_ast.specs.declared.tree.NameId.{NameId}
use Rattle.affc_ast.specs.declared.tree.ArrayId.{ArrayId}
use Rattle.affc_ast.specs.declared.tree.Op.{Op}
use Rattle.affc_ast.specs.declared.tree.Op.TheVariants.{Add, Sub, Mul, And, Or, Xor}
use Rattle.affc_ast.specs.declared.tree.Compare.{Compare}
use Rattle.affc_ast.specs.declared.tree.Rel.{Rel}
use Rattle.affc_ast.specs.declared.tree.Rel.TheVariants.{Less, LessEqual, Greater, GreaterEqual, Equal, NotEqual}
use Rattle.affc_ast.specs.declared.tree.Ix.{Ix}
use Rattle.affc_ast.specs.declared.tree.Ix.TheVariants as ix
use Rattle.affc_ast.specs.declared.tree.Ix.TheOpen.{Ix-F}
use Rattle.affc_ast.specs.declared.tree.Val.{Val}
use Rattle.affc_ast.specs.declared.tree.Val.TheOpen.{Val-F}
use Rattle.affc_ast.specs.declared.tree.Val.TheVariants as val
use Rattle.affc_ast.specs.declared.tree.Cond.{Cond}
use Rattle.affc_ast.specs.declared.tree.Cond.TheOpen.{Cond-F}
use Rattle.affc_ast.specs.declared.tree.Cond.TheVariants as cond
use Rattle.affc_ast.specs.Joined.{is_ordered}
use Rattle.affc_ast.specs.Recursion.{by_ix, by_val, by_cond}
use Rattle.affc_grammar.specs.Grammar.{Name, Digits, Symbol, word, number, mark, rel_mark, op_mark, shift_mark, Choice, minimum, maximum, remainder, choice_name, Rounding, down, up, rounding_name, is_divisor, is_shift, IxText, term, plus, minus, TermText, factor, times, negated, AtomText, literal, name, chosen, divided, DimsText, no_dims, and_dim, CondText, all_of, or_all, AllText, prim, and_prim, PrimText, enclosed, compared, divisible, zero_mark, ValueText, complement, load, constant, cast, ix_symbols, term_symbols, factor_symbols, atom_symbols, dims_symbols, dim_symbols, cond_symbols, all_symbols, prim_symbols, value_symbols}
use Rattle.affc_grammar.specs.Limits.{is_item}
use Rattle.affc_grammar.specs.Printed as printed
use Rattle.affc_grammar.specs.Printed.{Names, number_name, array_name, IxWritten, sum_written, product_written, atom_written, call_written, nothing_written, chosen_written, divided_by, divided_written, holding, ix_text, ix_written, and_dims, dims_text, CondWritten, prim_written, all_written, any_written, and_prims, or_alls, no_condition, divisible_by, cond_text, test_by, test_text, and_tests, tests_text, ValueWritten, primary_written, times_written, plus_written, shift_written, and_written, xor_written, or_written, binary_written, shift_by, value_text}
use Rattle.affc_cprint.specs.Places.{divides}
use Rattle.affc_cprint.specs.declared.brackets.Place.TheVariants.{Whole, RightOfSum, LeftOfProduct, RightOfProduct, UnderMinus}
use Rattle.affc_cprint.specs.declared.brackets.Level.TheVariants as level
use Rattle.affc_wellnamed.specs.declared.shape.Extent.{Extent}
use Rattle.affc_wellnamed.specs.declared.shape.Binding.TheVariants.{Sum, Product, Atom, Call}
use Rattle.affc_wellnamed.specs.declared.shape.IxExtent.{IxExtent}
use Rattle.affc_wellnamed.specs.declared.shape.CondExtent.{CondExtent}
use Rattle.affc_wellnamed.specs.declared.shape.ValExtent.{ValExtent}
use Rattle.affc_wellnamed.specs.Known.{Known, ix_known, compare_known, compares_known}
use Rattle.affc_wellnamed.specs.Shape as spec
use Rattle.affc_wellnamed.specs.Shape.{saturated, larger, nothing, beside, and_tokens, bracketed, placed, joined, called, ix_extent, whole, dims_behind, sides_extent, compare_extent, compares_behind, beside_mark, alone, joint_of, entries_behind, remainder_extent, cond_extent, at_level, val_extent}
use Rattle.affc_ast.proofs.Steps.{neg_here, add_here, sub_here, mul_here, min_here, max_here, mod_here, floord_here, ceild_here, not_here, bin_here, shift_here, all_here, any_here}
use Rattle.affc_cprint.proofs.Places.{some_held}
use Rattle.affc_cprint.proofs.ReadBackValues.{Each}
use Rattle.affc_wellnamed.proofs.Induction.{IxCases, every_ix, ValCases, every_val, CondCases, every_cond}
use Rattle.affc_wellnamed.proofs.Counts.{not_below, IsPlain, Row, row_both, plain_row, row_more, AreBrackets, row_in_brackets}

-- ---- Rows and what is counted of them

pub record Spans (ss : List Symbol) (e : Extent) : Type 0 where
  pub count : ℕ
  pub deep : ℕ
  pub row : Row count deep ss
  pub tokens : e.tokens ≡ saturated count
  pub depth : e.depth ≡ saturated deep

saturated_plus : (a b : ℕ) → saturated (a + b) ≡ saturated (saturated a + saturated b)
saturated_plus a b = omega arith

pub larger_is : (a b : ℕ) → larger a b ≡ max a b
larger_is a b = of (nat_lt a b) refl
  where
    of : (c : Bool) → nat_lt a b ≡ c → (if c then b else a) ≡ max a b
    of true e = let h = ltb-true a b e in omega (arith, h)
    of false e = let h = not_below a b e in omega (arith, h)

saturated_max : (a b : ℕ) → saturated (max a b) ≡ max (saturated a) (saturated b)
saturated_max a b = omega arith

pub spans_both : (xs ys : List Symbol) (a b : Extent) → Spans xs a → Spans ys b → Spans (xs ++ ys) (beside a b)
spans_both xs ys a b p q =
    let t = p.tokens in let u = q.tokens in let v = p.depth in let w = q.depth in
    record {
      count = p.count + q.count;
      deep = max p.deep q.deep;
      row = row_both p.count q.count p.deep q.deep xs ys p.row q.row;
      tokens = ap (λ n. saturated (n + b.tokens)) t ∙ ap (λ n. saturated (saturated p.count + n)) u ∙ sym (saturated_plus p.count q.count);
      depth = larger_is a.depth b.depth ∙ ap (λ n. max n b.depth) v ∙ ap (λ n. max (saturated p.deep) n) w ∙ sym (saturated_max p.deep q.deep);
    }

pub spans_brackets : (first last : Symbol) (ss : List Symbol) (a : Extent) → AreBrackets first last → Spans ss a → Spans (first ∷ (ss ++ last ∷ [])) (bracketed a)
spans_brackets first last ss a b p =
    let t = p.tokens in let v = p.depth in
    record {
      count = p.count + 2;
      deep = p.deep + 1;
      row = row_in_brackets first last p.count p.deep ss b p.row;
      tokens = omega (arith, t);
      depth = omega (arith, v);
    }

pub spans_one : (s : Symbol) → IsPlain s → Spans (s ∷ []) (record { tokens = 1; depth = 0 })
spans_one s p = record { count = 1; deep = 0; row = plain_row s p; tokens = refl; depth = refl }

-- a token between two parts
pub spans_joined : (s : Symbol) (xs ys : List Symbol) (a b : Extent) → IsPlain s → Spans xs a → Spans ys b → Spans (xs ++ s ∷ ys) (and_tokens 1 (beside a b))
spans_joined s xs ys a b p q r =
    let t = q.tokens in let u = r.tokens in let v = q.depth in let w = r.depth in
    record {
      count = q.count + (1 + r.count);
      deep = max q.deep r.deep;
      row = row_both q.count (1 + r.count) q.deep r.deep xs (s ∷ ys) q.row (row_more r.count r.deep s ys p r.row);
      tokens = omega (arith, t, u);
      depth = larger_is a.depth b.depth ∙ ap (λ n. max n b.depth) v ∙ ap (λ n. max (saturated q.deep) n) w ∙ sym (saturated_max q.deep r.deep);
    }

-- ---- Tokens

pub plain_word : (w : Name) → is_item (word w) ≡ false → IsPlain (word w)
plain_word w h = record { separator = refl; opening = refl; closing = refl; item = h }

pub plain_number : (digits : Digits) → IsPlain (number digits)
plain_number digits = record { separator = refl; opening = refl; closing = refl; item = refl }

pub round : AreBrackets (mark (codes "(")) (mark (codes ")"))
round = record { opens = refl; closes = refl; no_opening = refl; open_run = refl; close_run = refl; open_item = refl; close_item = refl }

pub square : AreBrackets (mark (codes "[")) (mark (codes "]"))
square = record { opens = refl; closes = refl; no_opening = refl; open_run = refl; close_run = refl; open_item = refl; close_item = refl }

-- no name is a word `for` or `if`
pub record AreQuiet (names : Names) : Type 0 where
  pub numbers : (id : NameId) → is_item (word (number_name names id)) ≡ false
  pub arrays : (id : ArrayId) → is_item (word (array_name names id)) ≡ false

-- ---- Expressions

-- what is written at each place spans what is counted there
pub record IxSpans {prelude : Bool} (w : IxWritten prelude) (s : IxExtent) : Type 0 where
  pub whole : Spans (ix_symbols w.whole) (placed Whole s)
  pub right_of_sum : Spans (term_symbols w.right_of_sum) (placed RightOfSum s)
  pub left_of_product : Spans (term_symbols w.left_of_product) (placed LeftOfProduct s)
  pub right_of_product : Spans (factor_symbols w.right_of_product) (placed RightOfProduct s)
  pub under_minus : Spans (atom_symbols w.under_minus) (placed UnderMinus s)

in_round : (ss : List Symbol) (e : Extent) → Spans ss e → Spans (mark (codes "(") ∷ (ss ++ mark (codes ")") ∷ [])) (bracketed e)
in_round ss e h = spans_brackets (mark (codes "(")) (mark (codes ")")) ss e round h

sum_spans : {prelude : Bool} (t : IxText prelude) (e : Extent) → Spans (ix_symbols t) e → IxSpans (sum_written t) (record { extent = e; binding = Sum })
sum_spans t e h = let i = in_round (ix_symbols t) e h in record { whole = h; right_of_sum = i; left_of_product = i; right_of_product = i; under_minus = i }

product_spans : {prelude : Bool} (t : TermText prelude) (e : Extent) → Spans (term_symbols t) e → IxSpans (product_written t) (record { extent = e; binding = Product })
product_spans t e h = let i = in_round (term_symbols t) e h in record { whole = h; right_of_sum = h; left_of_product = h; right_of_product = i; under_minus = i }

atom_spans : {prelude : Bool} (t : AtomText prelude) (e : Extent) → Spans (atom_symbols t) e → IxSpans (atom_written t) (record { extent = e; binding = Atom })
atom_spans t e h = record { whole = h; right_of_sum = h; left_of_product = h; right_of_product = h; under_minus = h }

call_spans : {prelude : Bool} (t : AtomText prelude) (e : Extent) → Spans (atom_symbols t) e → IxSpans (call_written t) (record { extent = e; binding = Call })
call_spans t e h = let i = in_round (atom_symbols t) e h in record { whole = h; right_of_sum = h; left_of_product = h; right_of_product = h; under_minus = i }

nothing_spans : (prelude : Bool) → IxSpans {prelude = prelude} nothing_written spec.one_token
nothing_spans prelude = atom_spans (literal (codes "0")) (record { tokens = 1; depth = 0 }) (spans_one (number (codes "0")) (plain_number (codes "0")))

plain_choice : (f : Choice) → IsPlain (word (choice_name f))
plain_choice minimum = plain_word (codes "affc_min") refl
plain_choice maximum = plain_word (codes "affc_max") refl
plain_choice remainder = plain_word (codes "affc_mod") refl

plain_rounding : (f : Rounding) → IsPlain (word (rounding_name f))
plain_rounding down = plain_word (codes "affc_floord") refl
plain_rounding up = plain_word (codes "affc_ceild") refl

call_row : (s : Symbol) (ss : List Symbol) (a : Extent) → IsPlain s → Spans ss a → Spans (s ∷ ss) (and_tokens 1 a)
call_row s ss a p q =
    let t = q.tokens in
    record { count = 1 + q.count; deep = q.deep; row = row_more q.count q.deep s ss p q.row; tokens = omega (arith, t); depth = q.depth }

chosen_spans : (prelude : Bool) (f : Choice) (v w : IxWritten prelude) (a b : IxExtent) → IxSpans v a → IxSpans w b → IxSpans (chosen_written prelude f v.whole w.whole) (spec.choice prelude a b)
chosen_spans true f v w a b p q =
    let inside : Spans (ix_symbols v.whole ++ mark (codes ",") ∷ ix_symbols w.whole) (and_tokens 1 (beside (placed Whole a) (placed Whole b))) =
    spans_joined (mark (codes ",")) (ix_symbols v.whole) (ix_symbols w.whole) (placed Whole a) (placed Whole b) (record { separator = refl; opening = refl; closing = refl; item = refl }) p.whole q.whole in
    let all = in_round (ix_symbols v.whole ++ mark (codes ",") ∷ ix_symbols w.whole) (and_tokens 1 (beside (placed Whole a) (placed Whole b))) inside in
    let grouped_so : (ix_symbols v.whole ++ mark (codes ",") ∷ ix_symbols w.whole) ++ mark (codes ")") ∷ [] ≡ ix_symbols v.whole ++ mark (codes ",") ∷ (ix_symbols w.whole ++ mark (codes ")") ∷ []) = append_assoc (ix_symbols v.whole) (mark (codes ",") ∷ ix_symbols w.whole) (mark (codes ")") ∷ []) in
    call_spans (chosen refl f v.whole w.whole) (and_tokens 1 (bracketed (and_tokens 1 (beside (placed Whole a) (placed Whole b)))))
    (call_row (word (choice_name f)) (mark (codes "(") ∷ (ix_symbols v.whole ++ mark (codes ",") ∷ (ix_symbols w.whole ++ mark (codes ")") ∷ []))) (bracketed (and_tokens 1 (beside (placed Whole a) (placed Whole b)))) (plain_choice f)
    (subst (λ l. Spans (mark (codes "(") ∷ l) (bracketed (and_tokens 1 (beside (placed Whole a) (placed Whole b))))) grouped_so all))
chosen_spans false f v w a b p q = nothing_spans false

divided_spans : (prelude : Bool) (f : Rounding) (v : IxWritten prelude) (a : IxExtent) (by : ℤ) → IxSpans v a → IxSpans (divided_written prelude f v.whole by) (spec.quotient (divides prelude by) a)
divided_spans false f v a by p = nothing_spans false
divided_spans true f v a by p = of (digits_of (nat_abs by)) (is_divisor (digits_of (nat_abs by))) refl (holding (is_divisor (digits_of (nat_abs by)))) refl
  where
    of : (ds : Digits) (b : Bool) → is_divisor ds ≡ b → (o : Option (IsTrue (is_divisor ds))) → o ≡ holding (is_divisor ds) → IxSpans (divided_by ds o f v.whole) (spec.quotient b a)
    of ds true e (Some d) q =
        let two : Spans (ix_symbols v.whole ++ mark (codes ",") ∷ number ds ∷ []) (and_tokens 2 (placed Whole a)) =
        let t = p.whole.tokens in
        let more = row_both p.whole.count 2 p.whole.deep 0 (ix_symbols v.whole) (mark (codes ",") ∷ number ds ∷ []) p.whole.row (row_more 1 0 (mark (codes ",")) (number ds ∷ []) (record { separator = refl; opening = refl; closing = refl; item = refl }) (plain_row (number ds) (plain_number ds))) in
        let same : max p.whole.deep 0 ≡ p.whole.deep = omega arith in
        record { count = p.whole.count + 2; deep = p.whole.deep; row = subst (λ m. Row (p.whole.count + 2) m (ix_symbols v.whole ++ mark (codes ",") ∷ number ds ∷ [])) same more; tokens = omega (arith, t); depth = p.whole.depth } in
        let all = in_round (ix_symbols v.whole ++ mark (codes ",") ∷ number ds ∷ []) (and_tokens 2 (placed Whole a)) two in
        let grouped_so : (ix_symbols v.whole ++ mark (codes ",") ∷ number ds ∷ []) ++ mark (codes ")") ∷ [] ≡ ix_symbols v.whole ++ mark (codes ",") ∷ number ds ∷ mark (codes ")") ∷ [] = append_assoc (ix_symbols v.whole) (mark (codes ",") ∷ number ds ∷ []) (mark (codes ")") ∷ []) in
        call_spans (divided refl f v.whole ds d) (and_tokens 1 (bracketed (and_tokens 2 (placed Whole a))))
        (call_row (word (rounding_name f)) (mark (codes "(") ∷ (ix_symbols v.whole ++ mark (codes ",") ∷ number ds ∷ mark (codes ")") ∷ [])) (bracketed (and_tokens 2 (placed Whole a))) (plain_rounding f)
        (subst (λ l. Spans (mark (codes "(") ∷ l) (bracketed (and_tokens 2 (placed Whole a)))) grouped_so all))
    of ds false e (Some d) q = absurd (false≢true (sym e ∙ d))
    of ds true e None q = absurd (some_off (is_divisor ds) e q)
      where
        some_off : (b : Bool) → b ≡ true → None ≡ holding b → ⊥
        some_off true h r = cc
        some_off false h r = false≢true h
    of ds false e None q = nothing_spans true

-- a mark between two parts
between : (bytes : List ℕ) → IsPlain (mark bytes) → (xs ys : List Symbol) (a b : Extent) → Spans xs a → Spans ys b → Spans (xs ++ mark bytes ∷ ys) (and_tokens 1 (beside a b))
between bytes p xs ys a b q r = spans_joined (mark bytes) xs ys a b p q r

shift_plain : (left : Bool) → IsPlain (mark (shift_mark left))
shift_plain true = record { separator = refl; opening = refl; closing = refl; item = refl }
shift_plain false = record { separator = refl; opening = refl; closing = refl; item = refl }

module _ (prelude : Bool) (names : Names) (quiet : AreQuiet names) where
  abbrev step : Ix-F (IxWritten prelude) → IxWritten prelude
  step = printed.ix_step prelude names

  abbrev Measures : Ix → Type 0
  Measures e = IxSpans (by_ix step e) (ix_extent prelude e)

  -- by one node
  at_node : (e : Ix) (w : IxWritten prelude) (s : IxExtent) → by_ix step e ≡ w → ix_extent prelude e ≡ s → IxSpans w s → Measures e
  at_node e w s p q h = subst (λ z. IxSpans z (ix_extent prelude e)) (sym p) (subst (IxSpans w) (sym q) h)

  ix_measures : IxCases Measures
  ix_measures = record {
    lit = λ n. atom_spans (literal (digits_of (nat_abs n))) (record { tokens = 1; depth = 0 }) (spans_one (number (digits_of (nat_abs n))) (plain_number (digits_of (nat_abs n))));
    name = λ id. atom_spans (name (number_name names id)) (record { tokens = 1; depth = 0 }) (spans_one (word (number_name names id)) (plain_word (number_name names id) (quiet.numbers id)));
    neg = λ a f. at_node (ix.Neg a) _ _ (neg_here step a) (neg_here (spec.ix_step prelude) a)
        (sum_spans (term (factor (negated (by_ix step a).under_minus))) (and_tokens 1 (placed UnderMinus (ix_extent prelude a)))
        (call_row (mark (codes "-")) (atom_symbols (by_ix step a).under_minus) (placed UnderMinus (ix_extent prelude a)) (record { separator = refl; opening = refl; closing = refl; item = refl }) f.under_minus));
    add = λ a b f g. at_node (ix.Add a b) _ _ (add_here step a b) (add_here (spec.ix_step prelude) a b)
        (sum_spans (plus (by_ix step a).whole (by_ix step b).right_of_sum) (and_tokens 1 (beside (placed Whole (ix_extent prelude a)) (placed RightOfSum (ix_extent prelude b))))
        (between (codes "+") (record { separator = refl; opening = refl; closing = refl; item = refl }) (ix_symbols (by_ix step a).whole) (term_symbols (by_ix step b).right_of_sum) (placed Whole (ix_extent prelude a)) (placed RightOfSum (ix_extent prelude b)) f.whole g.right_of_sum));
    sub = λ a b f g. at_node (ix.Sub a b) _ _ (sub_here step a b) (sub_here (spec.ix_step prelude) a b)
        (sum_spans (minus (by_ix step a).whole (by_ix step b).right_of_sum) (and_tokens 1 (beside (placed Whole (ix_extent prelude a)) (placed RightOfSum (ix_extent prelude b))))
        (between (codes "-") (record { separator = refl; opening = refl; closing = refl; item = refl }) (ix_symbols (by_ix step a).whole) (term_symbols (by_ix step b).right_of_sum) (placed Whole (ix_extent prelude a)) (placed RightOfSum (ix_extent prelude b)) f.whole g.right_of_sum));
    mul = λ a b f g. at_node (ix.Mul a b) _ _ (mul_here step a b) (mul_here (spec.ix_step prelude) a b)
        (product_spans (times (by_ix step a).left_of_product (by_ix step b).right_of_product) (and_tokens 1 (beside (placed LeftOfProduct (ix_extent prelude a)) (placed RightOfProduct (ix_extent prelude b))))
        (between (codes "*") (record { separator = refl; opening = refl; closing = refl; item = refl }) (term_symbols (by_ix step a).left_of_product) (factor_symbols (by_ix step b).right_of_product) (placed LeftOfProduct (ix_extent prelude a)) (placed RightOfProduct (ix_extent prelude b)) f.left_of_product g.right_of_product));
    min = λ a b f g. at_node (ix.Min a b) _ _ (min_here step a b) (min_here (spec.ix_step prelude) a b) (chosen_spans prelude minimum (by_ix step a) (by_ix step b) (ix_extent prelude a) (ix_extent prelude b) f g);
    max = λ a b f g. at_node (ix.Max a b) _ _ (max_here step a b) (max_here (spec.ix_step prelude) a b) (chosen_spans prelude maximum (by_ix step a) (by_ix step b) (ix_extent prelude a) (ix_extent prelude b) f g);
    remainder = λ a b f g. at_node (ix.Mod a b) _ _ (mod_here step a b) (mod_here (spec.ix_step prelude) a b) (chosen_spans prelude remainder (by_ix step a) (by_ix step b) (ix_extent prelude a) (ix_extent prelude b) f g);
    floord = λ a by f. at_node (ix.Floord a by) _ _ (floord_here step a by) (floord_here (spec.ix_step prelude) a by) (divided_spans prelude down (by_ix step a) (ix_extent prelude a) by f);
    ceild = λ a by f. at_node (ix.Ceild a by) _ _ (ceild_here step a by) (ceild_here (spec.ix_step prelude) a by) (divided_spans prelude up (by_ix step a) (ix_extent prelude a) by f);
  }

  pub ix_spans : (e : Ix) → Spans (ix_symbols (ix_text prelude names e)) (whole prelude e)
  ix_spans e = (every_ix Measures ix_measures e).whole

  -- ---- Subscripts, extents and comparisons

  pub dims_span : (ds : DimsText prelude) (ss : List Symbol) (a : Extent) (es : List Ix) → Spans (ss ++ dims_symbols ds) a → Spans (ss ++ dims_symbols (and_dims prelude names ds es)) (dims_behind prelude a es)
  dims_span ds ss a [] h = h
  dims_span ds ss a (e ∷ es) h =
      let text = ix_text prelude names e in
      let one = spans_brackets (mark (codes "[")) (mark (codes "]")) (ix_symbols text) (whole prelude e) square (ix_spans e) in
      dims_span (and_dim ds text) ss (beside a (bracketed (whole prelude e))) es
      (subst (λ l. Spans l (beside a (bracketed (whole prelude e)))) (append_assoc ss (dims_symbols ds) (dim_symbols text)) (spans_both (ss ++ dims_symbols ds) (dim_symbols text) a (bracketed (whole prelude e)) h one))

  plain_rel : (rel : Rel) → IsPlain (mark (rel_mark rel))
  plain_rel Less = record { separator = refl; opening = refl; closing = refl; item = refl }
  plain_rel LessEqual = record { separator = refl; opening = refl; closing = refl; item = refl }
  plain_rel Greater = record { separator = refl; opening = refl; closing = refl; item = refl }
  plain_rel GreaterEqual = record { separator = refl; opening = refl; closing = refl; item = refl }
  plain_rel Equal = record { separator = refl; opening = refl; closing = refl; item = refl }
  plain_rel NotEqual = record { separator = refl; opening = refl; closing = refl; item = refl }

  sides_span : (rel : Rel) (left right : Ix) → Spans (ix_symbols (ix_text prelude names left) ++ mark (rel_mark rel) ∷ ix_symbols (ix_text prelude names right)) (sides_extent prelude left right)
  sides_span rel left right = between (rel_mark rel) (plain_rel rel) (ix_symbols (ix_text prelude names left)) (ix_symbols (ix_text prelude names right)) (whole prelude left) (whole prelude right) (ix_spans left) (ix_spans right)

-- ---- Conditions

-- what is written at each place spans what is counted there
pub record CondSpans {prelude : Bool} (w : CondWritten prelude) (s : CondExtent) : Type 0 where
  pub whole : Spans (cond_symbols w.whole) s.extent
  pub in_any : Spans (all_symbols w.in_any) (beside_mark false s)
  pub in_all : Spans (prim_symbols w.in_all) (beside_mark true s)

plain_zero : (so : Bool) → IsPlain (mark (zero_mark so))
plain_zero true = record { separator = refl; opening = refl; closing = refl; item = refl }
plain_zero false = record { separator = refl; opening = refl; closing = refl; item = refl }

no_condition_spans : Spans (number (codes "0") ∷ mark (codes "<") ∷ number (codes "0") ∷ []) (record { tokens = 3; depth = 0 })
no_condition_spans =
    let zero_text = number (codes "0") in
    let p = plain_number (codes "0") in
    record {
      count = 3;
      deep = 0;
      row = row_more 2 0 zero_text (mark (codes "<") ∷ zero_text ∷ []) p (row_more 1 0 (mark (codes "<")) (zero_text ∷ []) (record { separator = refl; opening = refl; closing = refl; item = refl }) (plain_row zero_text p));
      tokens = refl;
      depth = refl;
    }

prim_spans : {prelude : Bool} (q : PrimText prelude true) (e : Extent) → Spans (prim_symbols q) e → CondSpans (prim_written q) (alone e)
prim_spans q e h = record { whole = h; in_any = h; in_all = h }

all_spans : {prelude : Bool} (a : AllText prelude true) (e : Extent) → Spans (all_symbols a) e → CondSpans (all_written a) (record { extent = e; joint = joint_of true })
all_spans a e h = record { whole = h; in_any = h; in_all = in_round (all_symbols a) e h }

any_spans : {prelude : Bool} (c : CondText prelude true) (e : Extent) → Spans (cond_symbols c) e → CondSpans (any_written c) (record { extent = e; joint = joint_of false })
any_spans c e h = let i = in_round (cond_symbols c) e h in record { whole = h; in_any = i; in_all = i }

nothing_holds : (prelude : Bool) → CondSpans {prelude = prelude} no_condition spec.no_condition
nothing_holds prelude = prim_spans (compared nothing_written.whole Less refl nothing_written.whole) (record { tokens = 3; depth = 0 }) no_condition_spans

remainder_spans : {prelude : Bool} (t : TermText prelude) (e : Extent) (by : ℤ) (so : Bool) → Spans (term_symbols t) e
    → CondSpans (divisible_by t (digits_of (nat_abs by)) (holding (is_divisor (digits_of (nat_abs by)))) so) (remainder_extent (divides true by) e)
remainder_spans {prelude = prelude} t e by so h = of (digits_of (nat_abs by)) (is_divisor (digits_of (nat_abs by))) refl (holding (is_divisor (digits_of (nat_abs by)))) refl
  where
    of : (ds : Digits) (b : Bool) → is_divisor ds ≡ b → (o : Option (IsTrue (is_divisor ds))) → o ≡ holding (is_divisor ds) → CondSpans (divisible_by t ds o so) (remainder_extent b e)
    of ds true q (Some d) r =
        let n = h.tokens in
        let zero_text = number (codes "0") in
        let same : max h.deep 0 ≡ h.deep = omega arith in
        let tail = row_more 3 0 (mark (codes "%")) (number ds ∷ mark (zero_mark so) ∷ zero_text ∷ []) (record { separator = refl; opening = refl; closing = refl; item = refl })
        (row_more 2 0 (number ds) (mark (zero_mark so) ∷ zero_text ∷ []) (plain_number ds) (row_more 1 0 (mark (zero_mark so)) (zero_text ∷ []) (plain_zero so) (plain_row zero_text (plain_number (codes "0"))))) in
        let all = row_both h.count 4 h.deep 0 (term_symbols t) (mark (codes "%") ∷ number ds ∷ mark (zero_mark so) ∷ zero_text ∷ []) h.row tail in
        prim_spans (divisible refl t ds d so) (and_tokens 4 e) (record {
          count = h.count + 4;
          deep = h.deep;
          row = subst (λ m. Row (h.count + 4) m (term_symbols t ++ mark (codes "%") ∷ number ds ∷ mark (zero_mark so) ∷ zero_text ∷ [])) same all;
          tokens = omega (arith, n);
          depth = h.depth;
        })
    of ds false q (Some d) r = absurd (false≢true (sym q ∙ d))
    of ds true q None r = absurd (some_off (is_divisor ds) q r)
      where
        some_off : (b : Bool) → b ≡ true → None ≡ holding b → ⊥
        some_off true h r = cc
        some_off false h r = false≢true h
    of ds false q None r = nothing_holds prelude

-- the first of conditions that are joined, and one more behind some, with so many marks
first_entry : (ss : List Symbol) (b : Extent) → Spans ss b → Spans ss (and_tokens 0 (beside nothing b))
first_entry ss b h =
    let t = h.tokens in let d = h.depth in let l = larger_is 0 b.depth in
    record { count = h.count; deep = h.deep; row = h.row; tokens = omega (arith, t); depth = omega (arith, d, l) }

entry_more : (bytes : List ℕ) → IsPlain (mark bytes) → (xs ys : List Symbol) (e b : Extent) (m : ℕ) → Spans xs (and_tokens m e) → Spans ys b → Spans (xs ++ mark bytes ∷ ys) (and_tokens (m + 1) (beside e b))
entry_more bytes p xs ys e b m q r =
    let h = between bytes p xs ys (and_tokens m e) b q r in
    let t = h.tokens in
    record { count = h.count; deep = h.deep; row = h.row; tokens = omega (arith, t); depth = h.depth }

module _ (prelude : Bool) (names : Names) (quiet : AreQuiet names) where
  abbrev step_c : Cond-F (CondWritten prelude) → CondWritten prelude
  step_c = printed.cond_step prelude names

  abbrev Counts : Cond → Type 0
  Counts c = CondSpans (by_cond step_c c) (cond_extent prelude c)

  at_cond : (c : Cond) (w : CondWritten prelude) (s : CondExtent) → by_cond step_c c ≡ w → cond_extent prelude c ≡ s → CondSpans w s → Counts c
  at_cond c w s p q h = subst (λ z. CondSpans z (cond_extent prelude c)) (sym p) (subst (CondSpans w) (sym q) h)

  prims_span : (a : AllText prelude true) (e : Extent) (m : ℕ) → Spans (all_symbols a) (and_tokens m e) → (cs : List Cond) → Each Counts cs
      → Spans (all_symbols (and_prims a (map (by_cond step_c) cs))) (and_tokens (m + length (map (cond_extent prelude) cs)) (entries_behind true e (map (cond_extent prelude) cs)))
  prims_span a e m h [] f = let same : m ≡ m + 0 = omega arith in subst (λ n. Spans (all_symbols a) (and_tokens n e)) same h
  prims_span a e m h (c ∷ cs) f =
      let q = (by_cond step_c c).in_all in
      let b = beside_mark true (cond_extent prelude c) in
      let same : m + 1 + length (map (cond_extent prelude) cs) ≡ m + length (map (cond_extent prelude) (c ∷ cs)) = omega arith in
      subst (λ n. Spans (all_symbols (and_prims (and_prim a q) (map (by_cond step_c) cs))) (and_tokens n (entries_behind true (beside e b) (map (cond_extent prelude) cs)))) same
      (prims_span (and_prim a q) (beside e b) (m + 1) (entry_more (codes "&&") (record { separator = refl; opening = refl; closing = refl; item = refl }) (all_symbols a) (prim_symbols q) e b m h f.0.in_all) cs f.1)

  alls_span : (a : CondText prelude true) (e : Extent) (m : ℕ) → Spans (cond_symbols a) (and_tokens m e) → (cs : List Cond) → Each Counts cs
      → Spans (cond_symbols (or_alls a (map (by_cond step_c) cs))) (and_tokens (m + length (map (cond_extent prelude) cs)) (entries_behind false e (map (cond_extent prelude) cs)))
  alls_span a e m h [] f = let same : m ≡ m + 0 = omega arith in subst (λ n. Spans (cond_symbols a) (and_tokens n e)) same h
  alls_span a e m h (c ∷ cs) f =
      let q = (by_cond step_c c).in_any in
      let b = beside_mark false (cond_extent prelude c) in
      let same : m + 1 + length (map (cond_extent prelude) cs) ≡ m + length (map (cond_extent prelude) (c ∷ cs)) = omega arith in
      subst (λ n. Spans (cond_symbols (or_alls (or_all refl a q) (map (by_cond step_c) cs))) (and_tokens n (entries_behind false (beside e b) (map (cond_extent prelude) cs)))) same
      (alls_span (or_all refl a q) (beside e b) (m + 1) (entry_more (codes "||") (record { separator = refl; opening = refl; closing = refl; item = refl }) (cond_symbols a) (all_symbols q) e b m h f.0.in_any) cs f.1)

  all_measure : (cs : List Cond) → Each Counts cs → Counts (cond.All cs)
  all_measure [] f = at_cond (cond.All []) _ _ (all_here step_c []) (all_here (spec.cond_step prelude) []) (nothing_holds prelude)
  all_measure (c ∷ cs) f = at_cond (cond.All (c ∷ cs)) _ _ (all_here step_c (c ∷ cs)) (all_here (spec.cond_step prelude) (c ∷ cs))
      (let b = beside_mark true (cond_extent prelude c) in
      let t = and_prims (prim (by_cond step_c c).in_all) (map (by_cond step_c) cs) in
      let n = length (map (cond_extent prelude) cs) in
      let e = entries_behind true (beside nothing b) (map (cond_extent prelude) cs) in
      let same : 0 + n ≡ n = omega arith in
      all_spans t (and_tokens n e) (subst (λ k. Spans (all_symbols t) (and_tokens k e)) same (prims_span (prim (by_cond step_c c).in_all) (beside nothing b) 0 (first_entry (prim_symbols (by_cond step_c c).in_all) b f.0.in_all) cs f.1)))

  any_measure : (cs : List Cond) → Each Counts cs → Counts (cond.Any cs)
  any_measure [] f = at_cond (cond.Any []) _ _ (any_here step_c []) (any_here (spec.cond_step prelude) []) (nothing_holds prelude)
  any_measure (c ∷ cs) f = at_cond (cond.Any (c ∷ cs)) _ _ (any_here step_c (c ∷ cs)) (any_here (spec.cond_step prelude) (c ∷ cs))
      (let b = beside_mark false (cond_extent prelude c) in
      let t = or_alls (all_of (by_cond step_c c).in_any) (map (by_cond step_c) cs) in
      let n = length (map (cond_extent prelude) cs) in
      let e = entries_behind false (beside nothing b) (map (cond_extent prelude) cs) in
      let same : 0 + n ≡ n = omega arith in
      any_spans t (and_tokens n e) (subst (λ k. Spans (cond_symbols t) (and_tokens k e)) same (alls_span (all_of (by_cond step_c c).in_any) (beside nothing b) 0 (first_entry (all_symbols (by_cond step_c c).in_any) b f.0.in_any) cs f.1)))

  cond_measures : CondCases Counts
  cond_measures = record {
    compare = λ rel left right. prim_spans (compared (ix_text prelude names left) rel refl (ix_text prelude names right)) (sides_extent prelude left right) (sides_span prelude names quiet rel left right);
    all = all_measure;
    any = any_measure;
    divides = λ value by so. remainder_spans (ix_written prelude names value).right_of_sum (placed RightOfSum (ix_extent prelude value)) by so (every_ix (Measures prelude names quiet) (ix_measures prelude names quiet) value).right_of_sum;
  }

  pub cond_spans : (c : Cond) → Spans (cond_symbols (cond_text prelude names c)) (cond_extent prelude c).extent
  cond_spans c = (every_cond Counts cond_measures c).whole

-- ---- Conditions before the function

module _ (names : Names) (quiet : AreQuiet names) where
  test_spans : (c : Compare) → is_ordered c.rel ≡ true → Spans (prim_symbols (test_text names c)) (compare_extent true c)
  test_spans c h = of (holding (is_ordered c.rel)) (some_held (is_ordered c.rel) h)
    where
      of : (o : Option (IsTrue (is_ordered c.rel))) → is_some o ≡ true → Spans (prim_symbols (test_by names c o)) (compare_extent true c)
      of (Some d) e = sides_span true names quiet c.rel c.left c.right
      of None e = absurd (cc)

  tests_span : (known : Known) (a : AllText true false) (e : Extent) → Spans (all_symbols a) e → (cs : List Compare) → compares_known known cs ≡ true → Spans (all_symbols (and_tests names a cs)) (compares_behind true e cs)
  tests_span known a e s [] h = s
  tests_span known a e s (c ∷ cs) h =
      let p = and_parts (compare_known known c) (compares_known known cs) h in
      let q = and_parts (is_ordered c.rel) (ix_known known c.left && ix_known known c.right) p.0 in
      tests_span known (and_prim a (test_text names c)) (and_tokens 1 (beside e (compare_extent true c)))
      (between (codes "&&") (record { separator = refl; opening = refl; closing = refl; item = refl }) (all_symbols a) (prim_symbols (test_text names c)) e (compare_extent true c) s (test_spans c q.0)) cs p.1

  pub tests_spans : (known : Known) (c : Compare) (cs : List Compare) → compares_known known (c ∷ cs) ≡ true → Spans (cond_symbols (tests_text names c cs)) (compares_behind true (compare_extent true c) cs)
  tests_spans known c cs h =
      let p = and_parts (compare_known known c) (compares_known known cs) h in
      let q = and_parts (is_ordered c.rel) (ix_known known c.left && ix_known known c.right) p.0 in
      tests_span known (prim (test_text names c)) (compare_extent true c) (test_spans c q.0) cs p.1

-- ---- Values

pub record ValSpans {prelude : Bool} (w : ValueWritten prelude) (s : ValExtent) : Type 0 where
  pub level_0 : Spans (value_symbols w.level_0) (at_level level.Primary s)
  pub level_1 : Spans (value_symbols w.level_1) (at_level level.Product s)
  pub level_2 : Spans (value_symbols w.level_2) (at_level level.Sum s)
  pub level_3 : Spans (value_symbols w.level_3) (at_level level.Shifted s)
  pub level_4 : Spans (value_symbols w.level_4) (at_level level.And s)
  pub level_5 : Spans (value_symbols w.level_5) (at_level level.Xor s)
  pub level_6 : Spans (value_symbols w.level_6) (at_level level.Or s)

module _ {prelude : Bool} where
  primary_spans : (t : ValueText prelude 0) (e : Extent) → Spans (value_symbols t) e → ValSpans (primary_written t) (record { extent = e; level = 0 })
  primary_spans t e h = record { level_0 = h; level_1 = h; level_2 = h; level_3 = h; level_4 = h; level_5 = h; level_6 = h }

  times_spans : (t : ValueText prelude 1) (e : Extent) → Spans (value_symbols t) e → ValSpans (times_written t) (record { extent = e; level = 1 })
  times_spans t e h = record { level_0 = in_round (value_symbols t) e h; level_1 = h; level_2 = h; level_3 = h; level_4 = h; level_5 = h; level_6 = h }

  plus_spans : (t : ValueText prelude 2) (e : Extent) → Spans (value_symbols t) e → ValSpans (plus_written t) (record { extent = e; level = 2 })
  plus_spans t e h = let i = in_round (value_symbols t) e h in record { level_0 = i; level_1 = i; level_2 = h; level_3 = h; level_4 = h; level_5 = h; level_6 = h }

  shift_spans : (t : ValueText prelude 3) (e : Extent) → Spans (value_symbols t) e → ValSpans (shift_written t) (record { extent = e; level = 3 })
  shift_spans t e h = let i = in_round (value_symbols t) e h in record { level_0 = i; level_1 = i; level_2 = i; level_3 = h; level_4 = h; level_5 = h; level_6 = h }

  and_spans : (t : ValueText prelude 4) (e : Extent) → Spans (value_symbols t) e → ValSpans (and_written t) (record { extent = e; level = 4 })
  and_spans t e h = let i = in_round (value_symbols t) e h in record { level_0 = i; level_1 = i; level_2 = i; level_3 = i; level_4 = h; level_5 = h; level_6 = h }

  xor_spans : (t : ValueText prelude 5) (e : Extent) → Spans (value_symbols t) e → ValSpans (xor_written t) (record { extent = e; level = 5 })
  xor_spans t e h = let i = in_round (value_symbols t) e h in record { level_0 = i; level_1 = i; level_2 = i; level_3 = i; level_4 = i; level_5 = h; level_6 = h }

  or_spans : (t : ValueText prelude 6) (e : Extent) → Spans (value_symbols t) e → ValSpans (or_written t) (record { extent = e; level = 6 })
  or_spans t e h = let i = in_round (value_symbols t) e h in record { level_0 = i; level_1 = i; level_2 = i; level_3 = i; level_4 = i; level_5 = i; level_6 = h }

  binary_spans : (op : Op) (v w : ValueWritten prelude) (a b : ValExtent) → ValSpans v a → ValSpans w b → ValSpans (binary_written op v w) (spec.binary op a b)
  binary_spans Mul v w a b p q = times_spans _ _ (between (op_mark Mul) (record { separator = refl; opening = refl; closing = refl; item = refl }) _ _ _ _ p.level_1 q.level_0)
  binary_spans Add v w a b p q = plus_spans _ _ (between (op_mark Add) (record { separator = refl; opening = refl; closing = refl; item = refl }) _ _ _ _ p.level_2 q.level_1)
  binary_spans Sub v w a b p q = plus_spans _ _ (between (op_mark Sub) (record { separator = refl; opening = refl; closing = refl; item = refl }) _ _ _ _ p.level_2 q.level_1)
  binary_spans And v w a b p q = and_spans _ _ (between (op_mark And) (record { separator = refl; opening = refl; closing = refl; item = refl }) _ _ _ _ p.level_4 q.level_3)
  binary_spans Xor v w a b p q = xor_spans _ _ (between (op_mark Xor) (record { separator = refl; opening = refl; closing = refl; item = refl }) _ _ _ _ p.level_5 q.level_4)
  binary_spans Or v w a b p q = or_spans _ _ (between (op_mark Or) (record { separator = refl; opening = refl; closing = refl; item = refl }) _ _ _ _ p.level_6 q.level_5)

  amount_spans : (left : Bool) (t : ValueText prelude 3) (ds : Digits) (o : Option (IsTrue (is_shift ds))) (e : Extent) → Spans (value_symbols t) e → Spans (value_symbols (shift_by left t ds o)) (and_tokens 2 e)
  amount_spans left t ds o e h = of o
    where
      two : (digits : Digits) → Spans (value_symbols t ++ mark (shift_mark left) ∷ number digits ∷ []) (and_tokens 2 e)
      two digits =
          let n = h.tokens in
          let same : max h.deep 0 ≡ h.deep = omega arith in
          let more = row_both h.count 2 h.deep 0 (value_symbols t) (mark (shift_mark left) ∷ number digits ∷ []) h.row (row_more 1 0 (mark (shift_mark left)) (number digits ∷ []) (shift_plain left) (plain_row (number digits) (plain_number digits))) in
          record { count = h.count + 2; deep = h.deep; row = subst (λ m. Row (h.count + 2) m (value_symbols t ++ mark (shift_mark left) ∷ number digits ∷ [])) same more; tokens = omega (arith, n); depth = h.depth }

      of : (o : Option (IsTrue (is_shift ds))) → Spans (value_symbols (shift_by left t ds o)) (and_tokens 2 e)
      of None = two (codes "0")
      of (Some d) = two ds

module _ (prelude : Bool) (names : Names) (quiet : AreQuiet names) where
  abbrev step_v : Val-F (ValueWritten prelude) → ValueWritten prelude
  step_v = printed.value_step prelude names

  abbrev Weighs : Val → Type 0
  Weighs v = ValSpans (by_val step_v v) (val_extent prelude v)

  at_value : (v : Val) (w : ValueWritten prelude) (s : ValExtent) → by_val step_v v ≡ w → val_extent prelude v ≡ s → ValSpans w s → Weighs v
  at_value v w s p q h = subst (λ z. ValSpans z (val_extent prelude v)) (sym p) (subst (ValSpans w) (sym q) h)

  cast_spans : (e : Ix) → Spans (value_symbols (cast (ix_text prelude names e))) (and_tokens 3 (bracketed (whole prelude e)))
  cast_spans e =
      let text = ix_text prelude names e in
      let w = word (codes "uint64_t") in
      let first = in_round (w ∷ []) (record { tokens = 1; depth = 0 }) (spans_one w (plain_word (codes "uint64_t") refl)) in
      let q = in_round (ix_symbols text) (whole prelude e) (ix_spans prelude names quiet e) in
      let t = first.tokens in let u = q.tokens in let v = first.depth in let x = q.depth in
      let row = row_both first.count q.count first.deep q.deep (mark (codes "(") ∷ w ∷ mark (codes ")") ∷ []) (mark (codes "(") ∷ (ix_symbols text ++ mark (codes ")") ∷ [])) first.row q.row in
      record { count = first.count + q.count; deep = max first.deep q.deep; row = row; tokens = omega (arith, t, u); depth = omega (arith, v, x) }

  val_measures : ValCases Weighs
  val_measures = record {
    load = λ id subs. primary_spans (load (array_name names id) (dims_text prelude names subs)) (dims_behind prelude (record { tokens = 1; depth = 0 }) subs)
        (dims_span prelude names quiet no_dims (word (array_name names id) ∷ []) (record { tokens = 1; depth = 0 }) subs (spans_one (word (array_name names id)) (plain_word (array_name names id) (quiet.arrays id))));
    const = λ n. primary_spans (constant (digits_of n ++ codes "ULL")) (record { tokens = 1; depth = 0 }) (spans_one _ (record { separator = refl; opening = refl; closing = refl; item = refl }));
    cast = λ e. primary_spans (cast (ix_text prelude names e)) (and_tokens 3 (bracketed (whole prelude e))) (cast_spans e);
    not = λ a f. at_value (val.Not a) _ _ (not_here step_v a) (not_here (spec.val_step prelude) a)
        (primary_spans (complement (by_val step_v a).level_0) (and_tokens 1 (at_level level.Primary (val_extent prelude a)))
        (call_row (mark (codes "~")) (value_symbols (by_val step_v a).level_0) (at_level level.Primary (val_extent prelude a)) (record { separator = refl; opening = refl; closing = refl; item = refl }) f.level_0));
    bin = λ op a b f g. at_value (val.Bin op a b) _ _ (bin_here step_v op a b) (bin_here (spec.val_step prelude) op a b) (binary_spans op (by_val step_v a) (by_val step_v b) (val_extent prelude a) (val_extent prelude b) f g);
    shift = λ left a by f. at_value (val.Shift left a by) _ _ (shift_here step_v left a by) (shift_here (spec.val_step prelude) left a by)
        (shift_spans _ (and_tokens 2 (at_level level.Shifted (val_extent prelude a))) (amount_spans left (by_val step_v a).level_3 (digits_of by) (holding (is_shift (digits_of by))) (at_level level.Shifted (val_extent prelude a)) f.level_3));
  }

  pub val_spans : (v : Val) → Spans (value_symbols (value_text prelude names v)) (at_level level.Or (val_extent prelude v))
  val_spans v = (every_val Weighs val_measures v).level_6
