-- The drafts that are read are those of the grammar's expressions, read by the grammar.
use Rattle.std.proofs.Common.{◌≡◌, ℕ, zero, suc, ◌+◌, ◌-◌, Bool, true, false, codes, ◌≤◌, List, [], ◌∷◌, ◌++◌, length, drop, map, Option, Some, None, IsTrue, if◌then◌else◌, Ok, Err, refl, sym, ap, ◌∙◌, arith, length-append}
use Rattle.std.specs.Option.{option_map, is_some}
use Rattle.affc_lex.specs.Bytes.{decimal}
use Rattle.affc_grammar.specs.Grammar as g
use Rattle.affc_grammar.specs.Grammar.{Symbol, Name, is_divisor, IxText, TermText, FactorText, AtomText, DimsText, mark, dims_symbols, ix_symbols, term_symbols, factor_symbols, atom_symbols}
use Rattle.affc_grammar.specs.Draft.{IxDraft, literal, name, negated, sum, difference, product, grouped, chosen, divided, ix_draft, term_draft, factor_draft, atom_draft, dims_draft}
use Rattle.affc_grammar.specs.Reader.{At, Reader, then_read, give, fail, deep, after, on}
use Rattle.affc_grammar.specs.Reading as r
use Rattle.affc_grammar.specs.Reading.{Callee, of_choice, of_rounding, this_mark, any_word, any_number, sum_sign, of_kind, is_number_kind, choose, callees, ix_inside}
use Rattle.affc_grammar.proofs.Rules.{Whole, factor_rule, times_rule, term_rule, plus_rule, ix_inside_rule, dim_rule}
use Rattle.affc_grammar.proofs.Tests.{sign_mark}
use Rattle.affc_syntax.specs.declared.draft.symbol.Symbol as code
use Rattle.affc_syntax.specs.draft.Symbols.{seen}
use Rattle.affc_syntax.specs.Ahead.{past, number_value, divisor_value}
use Rattle.affc_syntax.specs.Callees.{callee}
use Rattle.affc_syntax.specs.Readers.{mapped, closed}
use Rattle.affc_syntax.specs.IxReading.{group, choice_call, rounding_call, call, called, atom, factor, times, factors, term, joined, added, terms, expression, inside, dim, dims}
use Rattle.affc_syntax.proofs.Draws.{Draws, Placed, mapped_then, then_is, either_mapped, past_one, failed, either_turned, closed_is, all_is, lifted, then_past, at_number, no_longer}

number_turned : (x : Symbol) → number_value x ≡ option_map decimal (any_number x)
number_turned x = by_kind (is_number_kind x.kind)
  where
    by_kind : (b : Bool) → (if b then Some (decimal x.bytes) else None) ≡ option_map decimal (if b then Some x.bytes else None)
    by_kind true = refl
    by_kind false = refl

pub holding_some : (b : Bool) → is_some (r.holding b) ≡ b
holding_some true = refl
holding_some false = refl

abbrev pub Divisor : Type 0
Divisor = (by : List ℕ) × IsTrue (is_divisor by)

divisor_of : (bytes : List ℕ) (o : Option (IsTrue (is_divisor bytes))) → (if is_some o then Some (decimal bytes) else None) ≡ option_map (λ (p : Divisor). decimal p.0) (r.with_proof {P = λ by. IsTrue (is_divisor by)} bytes o)
divisor_of bytes None = refl
divisor_of bytes (Some h) = refl

pub divisor_turned : (x : Symbol) → divisor_value x ≡ option_map (λ (p : Divisor). decimal p.0) (r.divisor x)
divisor_turned x = by_kind (is_number_kind x.kind)
  where
    by_kind : (b : Bool) → (if b then (if is_divisor x.bytes then Some (decimal x.bytes) else None) else None) ≡ option_map (λ (p : Divisor). decimal p.0) (if b then r.with_proof {P = λ by. IsTrue (is_divisor by)} x.bytes (r.holding (is_divisor x.bytes)) else None)
    by_kind true = ap (λ b. if b then Some (decimal x.bytes) else None) (sym (holding_some (is_divisor x.bytes))) ∙ divisor_of x.bytes (r.holding (is_divisor x.bytes))
    by_kind false = refl

-- ---- Expressions

module _ (end : ℕ) {room : ℕ} (inner : Reader Symbol (IxText true)) (drawn : Reader Symbol IxDraft) (rule : Whole room 1 ix_symbols inner) (h : Draws end ix_draft drawn inner) where
  choice_is : (at : ℕ) (f : g.Choice) (us : List Symbol) → length us ≤ end → end - length us ≡ at + 2 → choice_call at drawn f us ≡ mapped (atom_draft at) (r.read_call inner (of_choice f) us)
  unfolding after
  choice_is at f us le e =
      then_is (drawn us) (inner us) (ix_draft (end - length us)) _ _ (atom_draft at) (h us le) (λ a vs q.
      either_mapped (this_mark (codes ",")) _ fail _ (Err (At vs)) (atom_draft at) vs
      (λ k ws c.
      let one = past_one (this_mark (codes ",")) vs k ws c in
      let whole = rule.sound us a vs q in
      let count : length us ≡ length (ix_symbols a) + length vs = ap length whole ∙ length-append (ix_symbols a) vs in
      let less : length ws ≤ end = omega arith in
      let place : end - length ws ≡ at + 2 + length (ix_symbols a) + 1 = omega arith in
      then_is (drawn ws) (inner ws) (ix_draft (end - length ws)) _ _ (atom_draft at) (h ws less) (λ b xs p.
      closed_is (codes ")") (g.chosen refl f a b) _ (atom_draft at) xs (λ i. chosen at f (ix_draft (e i) a) (ix_draft (place i) b))))
      (failed (atom_draft at) vs))

  rounding_is : (at : ℕ) (f : g.Rounding) (us : List Symbol) → length us ≤ end → end - length us ≡ at + 2 → rounding_call end at drawn f us ≡ mapped (atom_draft at) (r.read_call inner (of_rounding f) us)
  unfolding after
  rounding_is at f us le e =
      then_is (drawn us) (inner us) (ix_draft (end - length us)) _ _ (atom_draft at) (h us le) (λ a vs q.
      either_mapped (this_mark (codes ",")) _ fail _ (Err (At vs)) (atom_draft at) vs
      (λ k ws c.
      let one = past_one (this_mark (codes ",")) vs k ws c in
      let whole = rule.sound us a vs q in
      let count : length us ≡ length (ix_symbols a) + length vs = ap length whole ∙ length-append (ix_symbols a) vs in
      let place : end - length ws ≡ at + 2 + length (ix_symbols a) + 1 = omega arith in
      then_past (past divisor_value ws) ws (λ by xs. closed (codes ")") (divided at f (ix_draft (end - length us) a) (end - length ws) by) xs)
      ∙ either_turned r.divisor divisor_value (λ (p : Divisor). decimal p.0) divisor_turned _ fail (λ by xs. closed (codes ")") (divided at f (ix_draft (end - length us) a) (end - length ws) by) xs) (Err (At ws)) (atom_draft at) ws
      (λ by xs p. closed_is (codes ")") (g.divided refl f a by.0 by.1) _ (atom_draft at) xs (λ i. divided at f (ix_draft (e i) a) (place i) (decimal by.0)))
      (failed (atom_draft at) ws))
      (failed (atom_draft at) vs))

  call_is : (at : ℕ) (f : Callee) (us : List Symbol) → length us ≤ end → end - length us ≡ at + 2 → call end at drawn f us ≡ mapped (atom_draft at) (r.read_call inner f us)
  call_is at (of_choice f) us le e = choice_is at f us le e
  call_is at (of_rounding f) us le e = rounding_is at f us le e

  called_is : (at : ℕ) (w : Name) (o : Option Callee) (us : List Symbol) → length us ≤ end → end - length us ≡ at + 1 → called end at drawn w o us ≡ mapped (atom_draft at) (r.read_called inner w o us)
  unfolding give
  called_is at w None us le e = refl
  called_is at w (Some f) us le e =
      either_mapped (this_mark (codes "(")) (λ _. r.read_call inner f) (give (g.name w)) (λ _ vs. call end at drawn f vs) (Ok (name at w, us)) (atom_draft at) us
      (λ k vs c.
      let one = past_one (this_mark (codes "(")) us k vs c in
      let less : length vs ≤ end = omega arith in
      let place : end - length vs ≡ at + 2 = omega arith in
      call_is at f vs less place)
      refl

named_is : (end : ℕ) (prelude : Bool) {room : ℕ} (inner : Reader Symbol (IxText prelude)) (drawn : Reader Symbol IxDraft) → Whole room 1 ix_symbols inner → Draws end ix_draft drawn inner
    → (at : ℕ) (w : Name) (us : List Symbol) → length us ≤ end → end - length us ≡ at + 1 → called end at drawn w (callee prelude w) us ≡ mapped (atom_draft at) (r.read_named prelude inner w us)
unfolding give
named_is end true inner drawn rule h at w us le e = called_is end inner drawn rule h at w (choose callees w) us le e
named_is end false inner drawn rule h at w us le e = refl

module _ (end : ℕ) {prelude : Bool} {room : ℕ} (inner : Reader Symbol (IxText prelude)) (drawn : Reader Symbol IxDraft) (rule : Whole room 1 ix_symbols inner) (h : Draws end ix_draft drawn inner) where
  group_is : (at : ℕ) (us : List Symbol) → length us ≤ end → end - length us ≡ at + 1 → group at drawn us ≡ mapped (atom_draft at) (after inner (λ a. on (this_mark (codes ")")) (λ _. give (g.grouped a))) us)
  unfolding after
  group_is at us le e =
      then_is (drawn us) (inner us) (ix_draft (end - length us)) _ _ (atom_draft at) (h us le) (λ a vs q. closed_is (codes ")") (g.grouped a) _ (atom_draft at) vs (λ i. grouped at (ix_draft (e i) a)))

  atom_is : Draws end atom_draft (atom prelude end drawn) (r.read_atom prelude inner)
  unfolding give
  atom_is ts le =
      let at = end - length ts in
      either_turned any_number number_value decimal number_turned (λ digits. give (g.literal digits)) _ (λ n us. Ok (literal at n, us)) _ (atom_draft at) ts (λ digits us c. refl)
      (either_mapped any_word (λ w. r.read_named prelude inner w) _ (λ w us. called end at drawn w (callee prelude w) us) _ (atom_draft at) ts
      (λ w us c.
      let one = past_one any_word ts w us c in
      let less : length us ≤ end = omega arith in
      let place : end - length us ≡ end - length ts + 1 = omega arith in
      named_is end prelude inner drawn rule h at w us less place)
      (either_mapped (this_mark (codes "(")) _ fail (λ _ us. group at drawn us) (Err (At ts)) (atom_draft at) ts
      (λ k us c.
      let one = past_one (this_mark (codes "(")) ts k us c in
      let less : length us ≤ end = omega arith in
      let place : end - length us ≡ end - length ts + 1 = omega arith in
      group_is at us less place)
      (failed (atom_draft at) ts)))

  pub factor_is : Draws end factor_draft (factor prelude end drawn) (r.read_factor prelude inner)
  unfolding after give
  factor_is ts le =
      let at = end - length ts in
      either_mapped (this_mark (codes "-")) _ _ (λ _ us. then_read (atom prelude end drawn us) (λ a vs. Ok (negated at a, vs))) _ (factor_draft at) ts
      (λ k us c.
      let one = past_one (this_mark (codes "-")) ts k us c in
      let less : length us ≤ end = omega arith in
      let place : end - length us ≡ end - length ts + 1 = omega arith in
      ap (λ x. then_read x (λ a vs. Ok (negated at a, vs))) (atom_is us less)
      ∙ mapped_then (r.read_atom prelude inner us) (atom_draft (end - length us)) _ _ (factor_draft at) (λ a vs q. (λ i. Ok (negated at (atom_draft (place i) a), vs))))
      (atom_is ts le ∙ sym (lifted (r.read_atom prelude inner ts) g.atom (atom_draft at) (factor_draft at) (λ a. refl)))

  times_is : (p : ℕ) (k : Unit {0}) (left : TermText prelude) (ts us : List Symbol) → past (this_mark (codes "*")) ts ≡ Some (k, us) → Placed end p (length (term_symbols left)) ts → times prelude end drawn k (term_draft p left) us ≡ mapped (term_draft p) (r.times_more prelude inner k left us)
  unfolding after give
  times_is p k left ts us c here =
      let one = past_one (this_mark (codes "*")) ts k us c in
      let le = here.within in
      let e = here.place in
      let less : length us ≤ end = omega arith in
      let star : end - length us - 1 ≡ p + length (term_symbols left) = omega arith in
      let place : end - length us ≡ p + length (term_symbols left) + 1 = omega arith in
      ap (λ x. then_read x (λ b vs. Ok (product (end - length us - 1) (term_draft p left) b, vs))) (factor_is us less)
      ∙ mapped_then (r.read_factor prelude inner us) (factor_draft (end - length us)) _ _ (term_draft p) (λ b vs q. (λ i. Ok (product (star i) (term_draft p left) (factor_draft (place i) b), vs)))

  times_keeps : (p : ℕ) (k : Unit {0}) (left : TermText prelude) (ts us : List Symbol) → past (this_mark (codes "*")) ts ≡ Some (k, us) → Placed end p (length (term_symbols left)) ts → (b : TermText prelude) (vs : List Symbol) → r.times_more prelude inner k left us ≡ Ok (b, vs) → Placed end p (length (term_symbols b)) vs
  times_keeps p k left ts us c here b vs q =
      let one = past_one (this_mark (codes "*")) ts k us c in
      let le = here.within in
      let e = here.place in
      let whole = (times_rule rule k left).sound us b vs q in
      let count = ap length whole in
      let front = length-append (term_symbols left) (mark (codes "*") ∷ us) in
      let back = length-append (term_symbols b) vs in
      record { within = omega arith; place = omega arith }

  pub factors_is : (p : ℕ) (a : FactorText prelude) (ts : List Symbol) → Placed end p (length (factor_symbols a)) ts → factors prelude end drawn (factor_draft p a) ts ≡ mapped (term_draft p) (r.read_factors prelude inner a ts)
  factors_is p a ts here = all_is (this_mark (codes "*")) (r.times_more prelude inner) (times prelude end drawn) (term_draft p) (λ left us. Placed end p (length (term_symbols left)) us) (times_is p) (times_keeps p) (g.factor a) ts here

  pub term_is : Draws end term_draft (term prelude end drawn) (r.read_term prelude inner)
  unfolding after
  term_is ts le =
      let at = end - length ts in
      ap (λ x. then_read x (factors prelude end drawn)) (factor_is ts le)
      ∙ mapped_then (r.read_factor prelude inner ts) (factor_draft at) (r.read_factors prelude inner) (factors prelude end drawn) (term_draft at) (λ a us q.
      let whole = (factor_rule rule).sound ts a us q in
      let count = ap length whole in
      let parts = length-append (factor_symbols a) us in
      factors_is at a us (record { within = omega arith; place = omega arith }))

  joined_is : (p n m : ℕ) (is_plus : Bool) (left : IxText prelude) (b : TermText prelude) → n ≡ p + length (ix_symbols left) + 1 → joined is_plus (ix_draft p left) (term_draft n b) ≡ ix_draft p (r.joined is_plus left b)
  joined_is p n m true left b e = λ i. sum (ix_draft p left) (term_draft (e i) b)
  joined_is p n m false left b e = λ i. difference (ix_draft p left) (term_draft (e i) b)

  added_is : (p : ℕ) (k : Bool) (left : IxText prelude) (ts us : List Symbol) → past sum_sign ts ≡ Some (k, us) → Placed end p (length (ix_symbols left)) ts → added prelude end drawn k (ix_draft p left) us ≡ mapped (ix_draft p) (r.sum_more prelude inner k left us)
  unfolding after give
  added_is p k left ts us c here =
      let one = past_one sum_sign ts k us c in
      let le = here.within in
      let e = here.place in
      let less : length us ≤ end = omega arith in
      let place : end - length us ≡ p + length (ix_symbols left) + 1 = omega arith in
      ap (λ x. then_read x (λ b vs. Ok (joined k (ix_draft p left) b, vs))) (term_is us less)
      ∙ mapped_then (r.read_term prelude inner us) (term_draft (end - length us)) _ _ (ix_draft p) (λ b vs q. ap (λ d. Ok (d, vs)) (joined_is p (end - length us) 0 k left b place))

  added_keeps : (p : ℕ) (k : Bool) (left : IxText prelude) (ts us : List Symbol) → past sum_sign ts ≡ Some (k, us) → Placed end p (length (ix_symbols left)) ts → (b : IxText prelude) (vs : List Symbol) → r.sum_more prelude inner k left us ≡ Ok (b, vs) → Placed end p (length (ix_symbols b)) vs
  added_keeps p k left ts us c here b vs q =
      let one = past_one sum_sign ts k us c in
      let le = here.within in
      let e = here.place in
      let whole = (plus_rule rule k left).sound us b vs q in
      let count = ap length whole in
      let front = length-append (ix_symbols left) (mark (sign_mark k) ∷ us) in
      let back = length-append (ix_symbols b) vs in
      record { within = omega arith; place = omega arith }

  pub terms_is : (p : ℕ) (a : TermText prelude) (ts : List Symbol) → Placed end p (length (term_symbols a)) ts → terms prelude end drawn (term_draft p a) ts ≡ mapped (ix_draft p) (r.read_terms prelude inner a ts)
  terms_is p a ts here = all_is sum_sign (r.sum_more prelude inner) (added prelude end drawn) (ix_draft p) (λ left us. Placed end p (length (ix_symbols left)) us) (added_is p) (added_keeps p) (g.term a) ts here

  pub expression_is : Draws end ix_draft (expression prelude end drawn) (r.read_sum prelude inner)
  unfolding after
  expression_is ts le =
      let at = end - length ts in
      ap (λ x. then_read x (terms prelude end drawn)) (term_is ts le)
      ∙ mapped_then (r.read_term prelude inner ts) (term_draft at) (r.read_terms prelude inner) (terms prelude end drawn) (ix_draft at) (λ a us q.
      let whole = (term_rule rule).sound ts a us q in
      let count = ap length whole in
      let parts = length-append (term_symbols a) us in
      terms_is at a us (record { within = omega arith; place = omega arith }))

pub inside_is : (prelude : Bool) (end room : ℕ) → Draws end ix_draft (inside prelude end room) (ix_inside prelude room)
unfolding inside ix_inside deep
inside_is prelude end zero ts le = refl
inside_is prelude end (suc room) ts le = expression_is end (ix_inside prelude room) (inside prelude end room) (ix_inside_rule prelude room) (inside_is prelude end room) ts le

-- ---- Dimensions

module _ (prelude : Bool) (end room : ℕ) where
  dim_is : (p : ℕ) (k : Unit {0}) (left : DimsText prelude) (ts us : List Symbol) → past (this_mark (codes "[")) ts ≡ Some (k, us) → Placed end p (length (dims_symbols left)) ts → dim prelude end room k (dims_draft p left) us ≡ mapped (dims_draft p) (r.dims_more prelude room k left us)
  unfolding after
  dim_is p k left ts us c here =
      let one = past_one (this_mark (codes "[")) ts k us c in
      let le = here.within in
      let e = here.place in
      let less : length us ≤ end = omega arith in
      let place : end - length us ≡ p + length (dims_symbols left) + 1 = omega arith in
      then_is (inside prelude end room us) (ix_inside prelude room us) (ix_draft (end - length us)) _ _ (dims_draft p) (inside_is prelude end room us less) (λ a vs q.
      closed_is (codes "]") (g.and_dim left a) _ (dims_draft p) vs (λ i. dims_draft p left ++ ix_draft (place i) a ∷ []))

  dim_keeps : (p : ℕ) (k : Unit {0}) (left : DimsText prelude) (ts us : List Symbol) → past (this_mark (codes "[")) ts ≡ Some (k, us) → Placed end p (length (dims_symbols left)) ts → (b : DimsText prelude) (vs : List Symbol) → r.dims_more prelude room k left us ≡ Ok (b, vs) → Placed end p (length (dims_symbols b)) vs
  dim_keeps p k left ts us c here b vs q =
      let one = past_one (this_mark (codes "[")) ts k us c in
      let le = here.within in
      let e = here.place in
      let whole = (dim_rule prelude room k left).sound us b vs q in
      let count = ap length whole in
      let front = length-append (dims_symbols left) (mark (codes "[") ∷ us) in
      let back = length-append (dims_symbols b) vs in
      record { within = omega arith; place = omega arith }

  pub dims_is : Draws end dims_draft (dims prelude end room) (r.read_dims prelude room)
  dims_is ts le = all_is (this_mark (codes "[")) (r.dims_more prelude room) (dim prelude end room) (dims_draft (end - length ts)) (λ left us. Placed end (end - length ts) (length (dims_symbols left)) us) (dim_is (end - length ts)) (dim_keeps (end - length ts)) g.no_dims ts (record { within = le; place = omega arith })

-- ---- At the token of a number

pub expression_exact : (prelude : Bool) (room : ℕ) (symbols : List code.Symbol) (n : ℕ) → n ≤ length symbols
    → expression prelude (length symbols) (inside prelude (length symbols) room) (drop n (map seen symbols)) ≡ mapped (ix_draft n) (r.read_ix prelude room (drop n (map seen symbols)))
expression_exact prelude room symbols n le =
    expression_is (length symbols) (ix_inside prelude room) (inside prelude (length symbols) room) (ix_inside_rule prelude room) (inside_is prelude (length symbols) room) (drop n (map seen symbols)) (no_longer symbols n)
    ∙ ap (λ at. mapped (ix_draft at) (r.read_ix prelude room (drop n (map seen symbols)))) (at_number symbols n le)

pub dims_exact : (prelude : Bool) (room : ℕ) (symbols : List code.Symbol) (n : ℕ) → n ≤ length symbols
    → dims prelude (length symbols) room (drop n (map seen symbols)) ≡ mapped (dims_draft n) (r.read_dims prelude room (drop n (map seen symbols)))
dims_exact prelude room symbols n le =
    dims_is prelude (length symbols) room (drop n (map seen symbols)) (no_longer symbols n)
    ∙ ap (λ at. mapped (dims_draft at) (r.read_dims prelude room (drop n (map seen symbols)))) (at_number symbols n le)

pub inside_exact : (prelude : Bool) (room : ℕ) (symbols : List code.Symbol) (n : ℕ) → n ≤ length symbols
    → inside prelude (length symbols) room (drop n (map seen symbols)) ≡ mapped (ix_draft n) (ix_inside prelude room (drop n (map seen symbols)))
inside_exact prelude room symbols n le =
    inside_is prelude (length symbols) room (drop n (map seen symbols)) (no_longer symbols n)
    ∙ ap (λ at. mapped (ix_draft at) (ix_inside prelude room (drop n (map seen symbols)))) (at_number symbols n le)
