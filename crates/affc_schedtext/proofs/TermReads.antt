-- Reading a term token by token is reading it by the grammar's rules among the tokens before the first name that is not seen.
use Rattle.std.proofs.Common.{◌≡◌, ℕ, zero, suc, ◌+◌, ◌-◌, ◌≤◌, Bool, true, false, List, [], ◌∷◌, ◌++◌, length, Option, Some, None, Ok, Err, refl, sym, ap, ◌∙◌, codes, cond, get_or, drop, map, ◌<◌, arith, length-append}
use Rattle.std.proofs.lemmas.List.{length-map}
use Rattle.affc_grammar.specs.Grammar.{Symbol}
use Rattle.affc_grammar.specs.Draft.{IxDraft, literal, negated, product, grouped, ix_draft}
use Rattle.affc_grammar.specs.Reader.{At, Deep, Read, Reader, then_read, after, either, fail}
use Rattle.affc_grammar.specs.Reading.{this_mark, any_word, sum_sign, ix_inside, read_ix}
use Rattle.affc_grammar.proofs.Rules.{ix_inside_rule}
use Rattle.affc_syntax.specs.declared.draft.symbol.Symbol as code
use Rattle.affc_syntax.specs.draft.Symbols.{seen}
use Rattle.affc_syntax.specs.Ahead.{with_rest, number_value}
use Rattle.affc_syntax.specs.Readers.{on_past, closed, mapped, all_more}
use Rattle.affc_syntax.specs.IxReading.{group, called, atom, factor, times, factors, joined, added, terms, expression, inside}
use Rattle.affc_syntax.proofs.Draws.{at_number, no_longer}
use Rattle.affc_syntax.proofs.Readers.{all_more_is, first_is}
use Rattle.affc_syntax.proofs.IxReads.{times_left, added_left, inside_left}
use Rattle.affc_syntax.proofs.IxExact.{expression_is, inside_is}
use Rattle.affc_schedtext.specs.declared.reading.Bracket.{Bracket}
use Rattle.affc_schedtext.specs.declared.reading.Place.{Place}
use Rattle.affc_schedtext.specs.declared.reading.Place.TheVariants.{Before, Signed, Behind}
use Rattle.affc_schedtext.specs.Outline.{Scope}
use Rattle.affc_schedtext.specs.Grammar.{is_seen}
use Rattle.affc_schedtext.specs.Reading.{seen_front, unseen_rest, followed_by}
use Rattle.affc_schedtext.specs.Drafting.{form}
use Rattle.affc_schedtext.specs.Terms.{top, below}
use Rattle.affc_schedtext.specs.TermReading.{Reading, Turned, going, off, deep, plus, factored, atom_turn, before_turn, opened_in, at_atom, closing_turn, behind_turn, turn_at, turn, whole, ended, after_turn, read_on, start}
use Rattle.affc_schedtext.proofs.FormRules.{front_and_rest}

-- ---- Readers one behind the other

then_then : {A B C : Type 0} (r : Read Symbol A) (f : A → Reader Symbol B) (g : B → Reader Symbol C) → then_read (then_read r f) g ≡ then_read r (λ a us. then_read (f a us) g)
then_then (Ok x) f g = refl
then_then (Err (At ts)) f g = refl
then_then (Err Deep) f g = refl

three : {A B C D : Type 0} (r : Read Symbol A) (f : A → Reader Symbol B) (g : B → Reader Symbol C) (h : C → Reader Symbol D) → then_read (then_read (then_read r f) g) h ≡ then_read r (λ a us. then_read (f a us) (λ b vs. then_read (g b vs) h))
three r f g h = then_then (then_read r f) g h ∙ then_then r f (λ b vs. then_read (g b vs) h)

four : {A B C D E : Type 0} (r : Read Symbol A) (f : A → Reader Symbol B) (g : B → Reader Symbol C) (h : C → Reader Symbol D) (k : D → Reader Symbol E)
    → then_read (then_read (then_read (then_read r f) g) h) k ≡ then_read r (λ a us. then_read (f a us) (λ b vs. then_read (g b vs) (λ c ws. then_read (h c ws) k)))
four r f g h k = then_then (then_read (then_read r f) g) h k ∙ three r f g (λ c ws. then_read (h c ws) k)

then_given : {A : Type 0} (r : Read Symbol A) → then_read r (λ a us. Ok (a, us)) ≡ r
then_given (Ok x) = refl
then_given (Err (At ts)) = refl
then_given (Err Deep) = refl

-- ---- What is read behind a place, by the grammar's rules

module _ (end : ℕ) where
  abbrev inner : ℕ → Reader Symbol IxDraft
  inner room = inside false end room

  -- behind a term, with its sum
  abbrev summed : ℕ → (List IxDraft → Reader Symbol IxDraft) → Option Bool → List IxDraft → IxDraft → Reader Symbol IxDraft
  summed room close sign es a us = then_read (terms false end (inner room) (top (plus sign (a ∷ below es))) us) (λ b vs. close (b ∷ below (plus sign (a ∷ below es))) vs)

  abbrev behind : ℕ → (List IxDraft → Reader Symbol IxDraft) → Option Bool → List IxDraft → Reader Symbol IxDraft
  behind room close sign es ts = then_read (factors false end (inner room) (top es) ts) (summed room close sign es)

  abbrev closing : List Bracket → List IxDraft → Reader Symbol IxDraft
  closing [] es ts = Ok (top es, ts)
  closing (o ∷ os) es ts = then_read (closed (codes ")") (grouped o.at (top es)) ts) (λ g us. behind o.room (closing os) o.sign (factored o.star o.minus (g ∷ below es)) us)

  abbrev before : ℕ → (List IxDraft → Reader Symbol IxDraft) → Option Bool → Option ℕ → List IxDraft → Reader Symbol IxDraft
  before room close sign star es ts = then_read (factor false end (inner room) ts) (λ a us. behind room close sign (factored star None (a ∷ es)) us)

  -- at an atom
  abbrev operand : ℕ → (List IxDraft → Reader Symbol IxDraft) → Option Bool → (star minus : Option ℕ) → List IxDraft → Reader Symbol IxDraft
  operand room close sign star minus es ts = then_read (atom false end (inner room) ts) (λ a us. behind room close sign (factored star minus (a ∷ es)) us)

  abbrev from_place : Reading → Place → Reader Symbol IxDraft
  from_place r (Before sign star) = before r.room (closing r.opened) sign star r.operands
  from_place r (Signed sign star minus) = operand r.room (closing r.opened) sign star (Some minus) r.operands
  from_place r (Behind sign) = behind r.room (closing r.opened) sign r.operands

  abbrev from : Reading → Reader Symbol IxDraft
  from r = from_place r r.place

  -- behind a turn at the first of these tokens
  abbrev turned : List Symbol → List Symbol → Turned → Read Symbol IxDraft
  turned ts us k = after_turn (λ q. from q us) ts k

  module _ (r : Reading) (s : Symbol) (us : List Symbol) where
    abbrev at : ℕ
    at = end - length (s ∷ us)

    bracket_is : (room : ℕ) (sign : Option Bool) (star minus : Option ℕ)
        → then_read (group at (inner room) us) (λ a vs. behind room (closing r.opened) sign (factored star minus (a ∷ r.operands)) vs) ≡ turned (s ∷ us) us (opened_in room at sign star minus r)
    unfolding inside
    bracket_is zero sign star minus = refl
    bracket_is (suc room) sign star minus =
        four (factor false end (inner room) us) (factors false end (inner room)) (terms false end (inner room)) (λ a vs. closed (codes ")") (grouped at a) vs) (λ a vs. behind (suc room) (closing r.opened) sign (factored star minus (a ∷ r.operands)) vs)

    atom_is : (o : Option ℕ) (w : Option (List ℕ)) (k : Option (Unit {0})) (sign : Option Bool) (star minus : Option ℕ) → Err (At (s ∷ us)) ≡ ended r.place r (s ∷ us)
        → then_read (on_past (with_rest us o) (λ n vs. Ok (literal at n, vs)) (on_past (with_rest us w) (λ w vs. called end at (inner r.room) w None vs) (on_past (with_rest us k) (λ _ vs. group at (inner r.room) vs) (Err (At (s ∷ us))))))
        (λ a vs. behind r.room (closing r.opened) sign (factored star minus (a ∷ r.operands)) vs)
        ≡ turned (s ∷ us) us (atom_turn at sign star minus r o w k)
    atom_is (Some n) w k sign star minus e = refl
    atom_is None (Some w) k sign star minus e = refl
    atom_is None None (Some k) sign star minus e = bracket_is r.room sign star minus
    atom_is None None None sign star minus e = e

    operand_is : (sign : Option Bool) (star minus : Option ℕ) → Err (At (s ∷ us)) ≡ ended r.place r (s ∷ us)
        → operand r.room (closing r.opened) sign star minus r.operands (s ∷ us) ≡ turned (s ∷ us) us (at_atom at sign star minus r s)
    operand_is sign star minus e = atom_is (number_value s) (any_word s) (this_mark (codes "(") s) sign star minus e

    -- the "-" of a factor
    before_is : (k : Option (Unit {0})) (sign : Option Bool) (star : Option ℕ) → Err (At (s ∷ us)) ≡ ended r.place r (s ∷ us)
        → then_read (on_past (with_rest us k) (λ _ us. then_read (atom false end (inner r.room) us) (λ a vs. Ok (negated at a, vs))) (atom false end (inner r.room) (s ∷ us))) (λ a vs. behind r.room (closing r.opened) sign (factored star None (a ∷ r.operands)) vs)
        ≡ turned (s ∷ us) us (before_turn at sign star r k (at_atom at sign star None r s))
    before_is (Some k) sign star e = then_then (atom false end (inner r.room) us) (λ a vs. Ok (negated at a, vs)) (λ a vs. behind r.room (closing r.opened) sign (factored star None (a ∷ r.operands)) vs)
    before_is None sign star e = operand_is sign star None e

    -- ---- Behind a factor

    multiplied : (sign : Option Bool) → (n : ℕ) → n ≡ at
        → then_read (then_read (then_read (factor false end (inner r.room) us) (λ b vs. Ok (product n (top r.operands) b, vs))) (factors false end (inner r.room))) (summed r.room (closing r.opened) sign r.operands)
        ≡ before r.room (closing r.opened) sign (Some at) r.operands us
    multiplied sign n e =
        three (factor false end (inner r.room) us) (λ b vs. Ok (product n (top r.operands) b, vs)) (factors false end (inner r.room)) (summed r.room (closing r.opened) sign r.operands)
        ∙ ap (λ m. before r.room (closing r.opened) sign (Some m) r.operands us) e

    -- the sum up to a term
    abbrev total : Option Bool → List IxDraft
    total sign = plus sign (top r.operands ∷ below r.operands)

    total_top : (sign : Option Bool) → top (total sign) ≡ top (plus sign r.operands)
    total_top None = refl
    total_top (Some p) = refl

    total_below : (sign : Option Bool) → below (total sign) ≡ below (plus sign r.operands)
    total_below None = refl
    total_below (Some p) = refl

    -- where neither a "*" nor a sign stands
    bracket_closed : (sign : Option Bool) (o : Bracket) (os : List Bracket) (c : Option (Unit {0})) → Err (At (s ∷ us)) ≡ ended r.place r (s ∷ us)
        → then_read (on_past (with_rest us c) (λ _ vs. Ok (grouped o.at (top (total sign)), vs)) (Err (At (s ∷ us)))) (λ g vs. behind o.room (closing os) o.sign (factored o.star o.minus (g ∷ below (total sign))) vs)
        ≡ turned (s ∷ us) us (closing_turn sign r (o ∷ os) c)
    bracket_closed sign o os None e = e
    bracket_closed sign o os (Some k) e = (λ i. behind o.room (closing os) o.sign (factored o.star o.minus (grouped o.at (total_top sign i) ∷ total_below sign i)) us)

    closing_is : (sign : Option Bool) (os : List Bracket) → whole os (plus sign r.operands) (s ∷ us) ≡ ended r.place r (s ∷ us)
        → closing os (top (total sign) ∷ below (total sign)) (s ∷ us) ≡ turned (s ∷ us) us (closing_turn sign r os (this_mark (codes ")") s))
    closing_is sign [] e = ap (λ a. Ok (a, s ∷ us)) (total_top sign) ∙ e
    closing_is sign (o ∷ os) e = bracket_closed sign o os (this_mark (codes ")") s) e

    -- by the sign of a sum
    sign_is : (sign p : Option Bool) → whole r.opened (plus sign r.operands) (s ∷ us) ≡ ended r.place r (s ∷ us)
        → then_read (on_past (with_rest us p) (λ p vs. then_read (added false end (inner r.room) p (top (total sign)) vs) (terms false end (inner r.room))) (Ok (top (total sign), s ∷ us))) (λ b vs. closing r.opened (b ∷ below (total sign)) vs)
        ≡ turned (s ∷ us) us (behind_turn at sign r None p (this_mark (codes ")") s))
    sign_is sign None e = closing_is sign r.opened e
    sign_is sign (Some p) e =
        four (factor false end (inner r.room) us) (factors false end (inner r.room)) (λ b vs. Ok (joined p (top (total sign)) b, vs)) (terms false end (inner r.room)) (λ b vs. closing r.opened (b ∷ below (total sign)) vs)
        ∙ (λ i. then_read (factor false end (inner r.room) us) (λ a vs. then_read (factors false end (inner r.room) a vs) (λ b ws. then_read (terms false end (inner r.room) (joined p (total_top sign i) b) ws) (λ d xs. closing r.opened (d ∷ total_below sign i) xs))))

    terms_at : (sign : Option Bool) → summed r.room (closing r.opened) sign r.operands (top r.operands) (s ∷ us)
        ≡ then_read (on_past (with_rest us (sum_sign s)) (λ p vs. then_read (added false end (inner r.room) p (top (total sign)) vs) (terms false end (inner r.room))) (Ok (top (total sign), s ∷ us))) (λ b vs. closing r.opened (b ∷ below (total sign)) vs)
    terms_at sign = ap (λ x. then_read x (λ b vs. closing r.opened (b ∷ below (total sign)) vs)) (all_more_is sum_sign (added false end (inner r.room)) (added_left false end (inner r.room) (inside_left false end r.room)) (top (total sign)) (s ∷ us))

    star_is : (sign : Option Bool) (k : Option (Unit {0})) → whole r.opened (plus sign r.operands) (s ∷ us) ≡ ended r.place r (s ∷ us)
        → then_read (on_past (with_rest us k) (λ k vs. then_read (times false end (inner r.room) k (top r.operands) vs) (factors false end (inner r.room))) (Ok (top r.operands, s ∷ us))) (summed r.room (closing r.opened) sign r.operands)
        ≡ turned (s ∷ us) us (behind_turn at sign r k (sum_sign s) (this_mark (codes ")") s))
    star_is sign None e = terms_at sign ∙ sign_is sign (sum_sign s) e
    star_is sign (Some k) e = multiplied sign (end - length us - 1) (omega arith)

    behind_is : (sign : Option Bool) → whole r.opened (plus sign r.operands) (s ∷ us) ≡ ended r.place r (s ∷ us) → behind r.room (closing r.opened) sign r.operands (s ∷ us) ≡ turned (s ∷ us) us (turn_at at r s (Behind sign))
    behind_is sign e =
        ap (λ x. then_read x (summed r.room (closing r.opened) sign r.operands)) (all_more_is (this_mark (codes "*")) (times false end (inner r.room)) (times_left false end (inner r.room) (inside_left false end r.room)) (top r.operands) (s ∷ us))
        ∙ star_is sign (this_mark (codes "*") s) e

    -- ---- At any place

    place_is : (p : Place) → r.place ≡ p → from_place r p (s ∷ us) ≡ turned (s ∷ us) us (turn_at at r s p)
    place_is (Before sign star) e = before_is (this_mark (codes "-") s) sign star (sym (ap (λ p. ended p r (s ∷ us)) e))
    place_is (Signed sign star minus) e = operand_is sign star (Some minus) (sym (ap (λ p. ended p r (s ∷ us)) e))
    place_is (Behind sign) e = behind_is sign (sym (ap (λ p. ended p r (s ∷ us)) e))

    from_is : from r (s ∷ us) ≡ turned (s ∷ us) us (turn at r s)
    from_is = place_is r.place refl

  -- before the end
  total_last : (sign : Option Bool) (es : List IxDraft) → top (plus sign (top es ∷ below es)) ≡ top (plus sign es)
  total_last None es = refl
  total_last (Some p) es = refl

  closing_last : (os : List Bracket) (a : IxDraft) (es fs : List IxDraft) → a ≡ top fs → closing os (a ∷ es) [] ≡ whole os fs []
  closing_last [] a es fs e = ap (λ b. Ok (b, [])) e
  closing_last (o ∷ os) a es fs e = refl

  last_is : (r : Reading) (p : Place) → from_place r p [] ≡ ended p r []
  unfolding all_more
  last_is r (Before sign star) = refl
  last_is r (Signed sign star minus) = refl
  last_is r (Behind sign) = closing_last r.opened (top (plus sign (top r.operands ∷ below r.operands))) (below (plus sign (top r.operands ∷ below r.operands))) (plus sign r.operands) (total_last sign r.operands)

-- ---- All tokens

whole_followed : (others : List Symbol) (os : List Bracket) (es : List IxDraft) (ts : List Symbol) → followed_by others (whole os es ts) ≡ whole os es (ts ++ others)
whole_followed others [] es ts = refl
whole_followed others (o ∷ os) es ts = refl

ended_followed : (others : List Symbol) (r : Reading) (p : Place) (ts : List Symbol) → followed_by others (ended p r ts) ≡ ended p r (ts ++ others)
ended_followed others r (Before sign star) ts = refl
ended_followed others r (Signed sign star minus) ts = refl
ended_followed others r (Behind sign) ts = whole_followed others r.opened (plus sign r.operands) ts

module _ (scope : Scope) (end : ℕ) where
  abbrev behind_front : List Symbol → ℕ
  behind_front ts = end - length (unseen_rest scope ts)

  stops : (n : ℕ) (r : Reading) (ts : List Symbol) → ended r.place r ts ≡ followed_by ts (from n r [])
  stops n r ts = sym (ap (followed_by ts) (last_is n r r.place) ∙ ended_followed ts r r.place [])

  abbrev Reads : List Symbol → Type 0
  Reads ts = (r : Reading) → read_on scope end r ts ≡ followed_by (unseen_rest scope ts) (from (behind_front ts) r (seen_front scope ts))

  reads : (r : Reading) (ts : List Symbol) → read_on scope end r ts ≡ followed_by (unseen_rest scope ts) (from (behind_front ts) r (seen_front scope ts))
  reads r [] = stops (end - 0) r []
  reads r (s ∷ ss) = by_sight (λ q. reads q ss) (is_seen scope s)
    where
      by_turn : Reads ss → (k : Turned) → after_turn (λ q. read_on scope end q ss) (s ∷ ss) k ≡ followed_by (unseen_rest scope ss) (after_turn (λ q. from (behind_front ss) q (seen_front scope ss)) (s ∷ seen_front scope ss) k)
      by_turn h (going q) = h q
      by_turn h (off q) = ap (λ l. ended q.place q (s ∷ l)) (front_and_rest scope ss) ∙ sym (ended_followed (unseen_rest scope ss) q q.place (s ∷ seen_front scope ss))
      by_turn h deep = refl

      same_place : end - length (s ∷ ss) ≡ behind_front ss - length (s ∷ seen_front scope ss)
      same_place = let count = ap length (front_and_rest scope ss) ∙ length-append (seen_front scope ss) (unseen_rest scope ss) in omega (arith, count)

      by_sight : Reads ss → (b : Bool) → cond b (after_turn (λ q. read_on scope end q ss) (s ∷ ss) (turn (end - length (s ∷ ss)) r s)) (ended r.place r (s ∷ ss))
          ≡ followed_by (cond b (unseen_rest scope ss) (s ∷ ss)) (from (end - length (cond b (unseen_rest scope ss) (s ∷ ss))) r (cond b (s ∷ seen_front scope ss) []))
      by_sight h false = stops (end - length (s ∷ ss)) r (s ∷ ss)
      by_sight h true =
          ap (λ n. after_turn (λ q. read_on scope end q ss) (s ∷ ss) (turn n r s)) same_place
          ∙ by_turn h (turn (behind_front ss - length (s ∷ seen_front scope ss)) r s)
          ∙ ap (followed_by (unseen_rest scope ss)) (sym (from_is (behind_front ss) r s (seen_front scope ss)))

  expression_from : (n room : ℕ) (us : List Symbol) → from n (start room) us ≡ expression false n (inside false n room) us
  expression_from n room us =
      sym (three (factor false n (inside false n room) us) (factors false n (inside false n room)) (terms false n (inside false n room)) (λ d ws. Ok (d, ws)))
      ∙ then_given (expression false n (inside false n room) us)

  pub form_is : (room : ℕ) (ts : List Symbol) → length ts ≤ end → form end room scope ts ≡ read_on scope end (start room) ts
  form_is room ts le =
      let front = seen_front scope ts in
      let n = behind_front ts in
      let count = ap length (front_and_rest scope ts) ∙ length-append front (unseen_rest scope ts) in
      let few : length front ≤ n = omega (arith, count, le) in
      let place : n - length front ≡ end - length ts = omega (arith, count) in
      sym (reads (start room) ts
      ∙ ap (followed_by (unseen_rest scope ts)) (expression_from n room front
      ∙ expression_is n (ix_inside false room) (inside false n room) (ix_inside_rule false room) (inside_is false n room) front few
      ∙ ap (λ at. mapped (ix_draft at) (read_ix false room front)) place))

-- ---- At the numbers of symbols

drop_past : {A : Type 0} (n : ℕ) (xs : List A) → length xs ≤ n → drop n xs ≡ []
drop_past zero [] le = refl
drop_past zero (x ∷ xs) le = absurd (omega (arith, le))
drop_past (suc n) [] le = refl
drop_past (suc n) (x ∷ xs) le = drop_past n xs (omega (arith, le))

module _ (scope : Scope) (symbols : List code.Symbol) where
  abbrev ss : List Symbol
  ss = map seen symbols

  none_left : (n : ℕ) → length symbols ≤ n → drop n ss ≡ []
  none_left n le = drop_past n ss (omega (arith, le, length-map symbols seen))

  -- behind the last symbol none stands
  pub none_stands : (room at next : ℕ) → length symbols < next → form at room scope (drop next ss) ≡ Err (At (drop next ss))
  unfolding after either fail
  none_stands room at next lt = ap (form at room scope) (none_left next (omega (arith, lt))) ∙ ap (λ l. Err (At l)) (sym (none_left next (omega (arith, lt))))

  pub at_end : (r : Reading) (at : ℕ) → length symbols ≤ at → read_on scope (length symbols) r (drop at ss) ≡ ended r.place r (drop at ss)
  at_end r at le = ap (read_on scope (length symbols) r) (none_left at le) ∙ ap (ended r.place r) (sym (none_left at le))

  module _ (r : Reading) (at : ℕ) (x : code.Symbol) (lt : at < length symbols) (is : x ≡ get_or symbols at x) where
    opened : read_on scope (length symbols) r (drop at ss)
        ≡ cond (is_seen scope (seen x)) (after_turn (λ q. read_on scope (length symbols) q (drop (at + 1) ss)) (drop at ss) (turn at r (seen x))) (ended r.place r (drop at ss))
    opened =
        let first = first_is symbols at x lt is in
        let number : length symbols - length (seen x ∷ drop (at + 1) ss) ≡ at = ap (λ l. length symbols - length l) (sym first) ∙ at_number symbols at (omega (arith, lt)) in
        ap (read_on scope (length symbols) r) first
        ∙ (λ i. cond (is_seen scope (seen x)) (after_turn (λ q. read_on scope (length symbols) q (drop (at + 1) ss)) (sym first i) (turn (number i) r (seen x))) (ended r.place r (sym first i)))

    pub at_unseen : is_seen scope (seen x) ≡ false → read_on scope (length symbols) r (drop at ss) ≡ ended r.place r (drop at ss)
    at_unseen e = opened ∙ ap (λ b. cond b (after_turn (λ q. read_on scope (length symbols) q (drop (at + 1) ss)) (drop at ss) (turn at r (seen x))) (ended r.place r (drop at ss))) e

    pub at_turn : is_seen scope (seen x) ≡ true → (k : Turned) → k ≡ turn at r (seen x) → read_on scope (length symbols) r (drop at ss) ≡ after_turn (λ q. read_on scope (length symbols) q (drop (at + 1) ss)) (drop at ss) k
    at_turn e k q =
        opened
        ∙ ap (λ b. cond b (after_turn (λ q. read_on scope (length symbols) q (drop (at + 1) ss)) (drop at ss) (turn at r (seen x))) (ended r.place r (drop at ss))) e
        ∙ ap (after_turn (λ q. read_on scope (length symbols) q (drop (at + 1) ss)) (drop at ss)) (sym q)

  -- what is answered, where the reading of the form comes to this
  pub answered : (room next : ℕ) → next ≤ length symbols → (r : Reading) (n : ℕ) → read_on scope (length symbols) r (drop n ss) ≡ read_on scope (length symbols) (start room) (drop next ss)
      → (read : Read Symbol IxDraft) → read_on scope (length symbols) r (drop n ss) ≡ read → form (length symbols) room scope (drop next ss) ≡ read
  answered room next le r n kept read e = form_is scope (length symbols) room (drop next ss) (no_longer symbols next) ∙ sym kept ∙ e
