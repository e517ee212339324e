-- What is written for an expression at its place, with the brackets that it has there.
use Rattle.std.proofs.Common.{◌≡◌, ℕ, List, ◌++◌, ap, ◌∙◌, Bool, true, false, if◌then◌else◌, Option, Some, None, is_some, ℤ, nat_abs, IsTrue, refl, sym, codes, append_assoc, decimal as digits_of}
use Rattle.std.proofs.lemmas.List.{append-nil}
use Rattle.affc_ast.proofs.Outs.{ix_outs}
use Rattle.affc_grammar.specs.Grammar.{Digits, IxText, TermText, FactorText, negated, AtomText, Choice, chosen, choice_name, Rounding, divided, rounding_name, is_divisor}
use Rattle.affc_grammar.specs.Printed.{IxWritten, negation_written, sum_written, product_written, call_written, nothing_written, chosen_written, divided_by, divided_written, holding}
use Rattle.affc_cprint.specs.declared.brackets.Place.{Place}
use Rattle.affc_cprint.specs.declared.brackets.Place.TheVariants.{Whole, RightOfSum, LeftOfProduct, RightOfProduct, UnderMinus}
use Rattle.affc_cprint.specs.Layout.{◌then◌, ix_layout, term_layout, factor_layout, atom_layout}
use Rattle.affc_cprint.specs.Places.{ix_at, bracketed, opened, closed, is_inside, is_factor, is_negated, divides, negated_layout, called, quotient_layout}

pub sum_at : {prelude : Bool} (place : Place) (a : IxText prelude) → ix_at place (sum_written a) ≡ bracketed (is_inside place) (ix_layout a)
sum_at Whole a = sym (append-nil (ix_layout a))
sum_at RightOfSum a = refl
sum_at LeftOfProduct a = refl
sum_at RightOfProduct a = refl
sum_at UnderMinus a = refl

negation_at : {prelude : Bool} (place : Place) (a : FactorText prelude) → ix_at place (negation_written a) ≡ bracketed (is_inside place) (factor_layout a)
negation_at Whole a = sym (append-nil (factor_layout a))
negation_at RightOfSum a = refl
negation_at LeftOfProduct a = refl
negation_at RightOfProduct a = refl
negation_at UnderMinus a = refl

pub product_at : {prelude : Bool} (place : Place) (a : TermText prelude) → ix_at place (product_written a) ≡ bracketed (is_factor place) (term_layout a)
product_at Whole a = sym (append-nil (term_layout a))
product_at RightOfSum a = sym (append-nil (term_layout a))
product_at LeftOfProduct a = sym (append-nil (term_layout a))
product_at RightOfProduct a = refl
product_at UnderMinus a = refl

pub call_at : {prelude : Bool} (place : Place) (a : AtomText prelude) → ix_at place (call_written a) ≡ bracketed (is_negated place) (atom_layout a)
call_at Whole a = sym (append-nil (atom_layout a))
call_at RightOfSum a = sym (append-nil (atom_layout a))
call_at LeftOfProduct a = sym (append-nil (atom_layout a))
call_at RightOfProduct a = sym (append-nil (atom_layout a))
call_at UnderMinus a = refl

pub nothing_at : (prelude : Bool) (place : Place) → ix_at place (nothing_written {prelude = prelude}) ≡ codes "0"
nothing_at prelude Whole = refl
nothing_at prelude RightOfSum = refl
nothing_at prelude LeftOfProduct = refl
nothing_at prelude RightOfProduct = refl
nothing_at prelude UnderMinus = refl

pub chosen_at : (prelude : Bool) (place : Place) (f : Choice) (a b : IxText prelude) → prelude ≡ true
    → ix_at place (chosen_written prelude f a b) ≡ bracketed (is_negated place) (choice_name f then codes "(" then ix_layout a then codes ", " then ix_layout b then codes ")")
chosen_at true place f a b h = call_at place (chosen refl f a b)
chosen_at false place f a b h = cc

pub no_choice_at : (prelude : Bool) (place : Place) (f : Choice) (a b : IxText prelude) → prelude ≡ false → ix_at place (chosen_written prelude f a b) ≡ codes "0"
no_choice_at true place f a b h = cc
no_choice_at false place f a b h = nothing_at _ place

pub some_held : (b : Bool) → b ≡ true → is_some (holding b) ≡ true
some_held true h = refl
some_held false h = cc

none_held : (b : Bool) → b ≡ false → is_some (holding b) ≡ false
none_held true h = cc
none_held false h = refl

pub divided_at : (prelude : Bool) (place : Place) (f : Rounding) (a : IxText prelude) (by : ℤ) → divides prelude by ≡ true
    → ix_at place (divided_written prelude f a by) ≡ bracketed (is_negated place) (rounding_name f then codes "(" then ix_layout a then codes ", " then digits_of (nat_abs by) then codes ")")
divided_at false place f a by h = cc
divided_at true place f a by h = step (digits_of (nat_abs by)) (holding (is_divisor (digits_of (nat_abs by)))) (some_held _ h)
  where
    step : (ds : Digits) (o : Option (IsTrue (is_divisor ds))) → is_some o ≡ true
        → ix_at place (divided_by ds o f a) ≡ bracketed (is_negated place) (rounding_name f then codes "(" then ix_layout a then codes ", " then ds then codes ")")
    step ds (Some d) e = call_at place (divided refl f a ds d)
    step ds None e = cc

pub undivided_at : (prelude : Bool) (place : Place) (f : Rounding) (a : IxText prelude) (by : ℤ) → divides prelude by ≡ false
    → ix_at place (divided_written prelude f a by) ≡ codes "0"
undivided_at false place f a by h = nothing_at _ place
undivided_at true place f a by h = step (digits_of (nat_abs by)) (holding (is_divisor (digits_of (nat_abs by)))) (none_held _ h)
  where
    step : (ds : Digits) (o : Option (IsTrue (is_divisor ds))) → is_some o ≡ false → ix_at place (divided_by ds o f a) ≡ codes "0"
    step ds (Some d) e = cc
    step ds None e = nothing_at _ place

-- the pieces as they are written, from the left
pub pieces : (w b : Bool) (text : List ℕ) → w ≡ b → bracketed b text ≡ (opened w ++ text) ++ closed w
pieces w b text e = ap (λ x. bracketed x text) (sym e) ∙ sym (append_assoc (opened w) text (closed w))

pub called_pieces : {prelude : Bool} (is_on w wanted : Bool) (word : List ℕ) (a b : IxWritten prelude) → is_on ≡ true → w ≡ wanted
    → (if is_on then bracketed wanted (word then ix_at Whole a then codes ", " then ix_at Whole b then codes ")") else codes "0")
    ≡ (opened w ++ (word then ix_at Whole a then codes ", " then ix_at Whole b then codes ")")) ++ closed w
called_pieces true w wanted word a b on h = pieces w wanted (word then ix_at Whole a then codes ", " then ix_at Whole b then codes ")") h
called_pieces false w wanted word a b on h = cc

pub quotient_pieces : {prelude : Bool} (is_written w wanted : Bool) (word : List ℕ) (a : IxWritten prelude) (by : ℤ) (n : ℕ) → is_written ≡ true → n ≡ nat_abs by → w ≡ wanted
    → quotient_layout is_written wanted word a by ≡ (opened w ++ (word then ix_at Whole a then codes ", " then digits_of n then codes ")")) ++ closed w
quotient_pieces true w wanted word a by n on size h =
    ap (λ k. bracketed wanted (word then ix_at Whole a then codes ", " then digits_of k then codes ")")) (sym size)
    ∙ pieces w wanted (word then ix_at Whole a then codes ", " then digits_of n then codes ")") h
quotient_pieces false w wanted word a by n on size h = cc

pub negation_text : {prelude : Bool} (place : Place) (e a : IxWritten prelude) → e ≡ negation_written (negated a.under_minus) → ix_at place e ≡ bracketed (is_inside place) (negated_layout a)
negation_text place e a is = ap (ix_at place) is ∙ negation_at place (negated a.under_minus)

pub sum_text : {prelude : Bool} (place : Place) (e : IxWritten prelude) (a : IxText prelude) → e ≡ sum_written a → ix_at place e ≡ bracketed (is_inside place) (ix_layout a)
sum_text place e a is = ap (ix_at place) is ∙ sum_at place a

pub product_text : {prelude : Bool} (place : Place) (e : IxWritten prelude) (a : TermText prelude) → e ≡ product_written a → ix_at place e ≡ bracketed (is_factor place) (term_layout a)
product_text place e a is = ap (ix_at place) is ∙ product_at place a

pub chosen_text : (prelude : Bool) (place : Place) (f : Choice) (e a b : IxWritten prelude) → e ≡ chosen_written prelude f a.whole b.whole
    → ix_at place e ≡ called prelude (is_negated place) (choice_name f then codes "(") a b
chosen_text true place f e a b is =
    ap (ix_at place) is ∙ chosen_at true place f a.whole b.whole refl
    ∙ ap (bracketed (is_negated place)) (sym (append_assoc (choice_name f) (codes "(") (ix_at Whole a then codes ", " then ix_at Whole b then codes ")")))
chosen_text false place f e a b is = ap (ix_at place) is ∙ no_choice_at false place f a.whole b.whole refl

pub divided_text : (prelude : Bool) (place : Place) (f : Rounding) (e a : IxWritten prelude) (by : ℤ) → e ≡ divided_written prelude f a.whole by
    → ix_at place e ≡ quotient_layout (divides prelude by) (is_negated place) (rounding_name f then codes "(") a by
divided_text prelude place f e a by is = ap (ix_at place) is ∙ by_test (divides prelude by) refl where
  by_test : (b : Bool) → divides prelude by ≡ b → ix_at place (divided_written prelude f a.whole by) ≡ quotient_layout b (is_negated place) (rounding_name f then codes "(") a by
  by_test true h = divided_at prelude place f a.whole by h ∙ ap (bracketed (is_negated place)) (sym (append_assoc (rounding_name f) (codes "(") (ix_at Whole a then codes ", " then digits_of (nat_abs by) then codes ")")))
  by_test false h = undivided_at prelude place f a.whole by h

pub ruleset at_places = (ix_outs, sum_at, product_at, call_at, chosen_at, no_choice_at, divided_at, undivided_at, append_assoc)
