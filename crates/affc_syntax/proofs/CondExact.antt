-- The drafts of conditions that are read are those of the grammar's conditions, read by the grammar.
use Rattle.std.proofs.Common.{◌≡◌, ℕ, zero, suc, ◌+◌, ◌-◌, Bool, true, false, ◌||◌, ◌&&◌, codes, ◌≤◌, List, [], ◌∷◌, length, drop, map, Option, Some, None, IsTrue, if◌then◌else◌, Ok, Err, refl, sym, ap, ◌∙◌, arith, length-append}
use Rattle.std.specs.Option.{option_map, is_some}
use Rattle.affc_lex.specs.Bytes.{decimal}
use Rattle.affc_ast.specs.declared.tree.Rel.{Rel}
use Rattle.affc_ast.specs.Joined.{is_ordered}
use Rattle.affc_grammar.specs.Grammar as g
use Rattle.affc_grammar.specs.Grammar.{Symbol, is_mark_kind, IxText, TermText, FactorText, CondText, AllText, PrimText, mark, ix_symbols, term_symbols, factor_symbols, cond_symbols, all_symbols, prim_symbols}
use Rattle.affc_grammar.specs.Draft.{IxDraft, divisible, ix_draft, term_draft, factor_draft, cond_draft, all_draft, prim_draft}
use Rattle.affc_grammar.specs.Reader.{At, Reader, then_read, give, fail, deep, after}
use Rattle.affc_grammar.specs.Reading as r
use Rattle.affc_grammar.specs.Reading.{Half, this_mark, rels, choose, rel_of, zero_sign, zero_number, ix_inside}
use Rattle.affc_grammar.proofs.Rules.{Whole, half_symbols, mixed_symbols, factors_rule, terms_rule, sum_rule, ix_inside_rule, half_rule, prim_rule, and_rule, ands_rule, or_rule, mixed_inside_rule}
use Rattle.affc_syntax.specs.declared.draft.symbol.Symbol as code
use Rattle.affc_syntax.specs.draft.Symbols.{seen}
use Rattle.affc_syntax.specs.Ahead.{past, if_told, relation_value, divisor_value}
use Rattle.affc_syntax.specs.Readers.{on_past, mapped}
use Rattle.affc_syntax.specs.IxReading.{factors, terms, expression, inside}
use Rattle.affc_syntax.specs.CondReading.{Mixed, condition, index, compare, is_term, all_joined, any_joined, remainder, divided, compared, behind_parens, only_condition, half, prim, and_prim, ands, or_all, more_ors, ors, joined, half_more, mixed_inside, whole}
use Rattle.affc_syntax.proofs.Draws.{Draws, Placed, placed_on, then_is, either_mapped, either_turned, then_past, then_then, lifted, past_one, failed, all_is, at_number, no_longer}
use Rattle.affc_syntax.proofs.IxExact.{Divisor, divisor_turned, holding_some, factors_is, terms_is, expression_is, inside_is}

abbrev pub half_draft : {prelude wide : Bool} → ℕ → Half prelude wide → Mixed
half_draft at (r.condition q) = condition (prim_draft at q)
half_draft at (r.expression a) = index (ix_draft at a)

abbrev pub mixed_draft : {prelude wide : Bool} → ℕ → r.Mixed prelude wide → Mixed
mixed_draft at (r.conditions c) = condition (cond_draft at c)
mixed_draft at (r.index a) = index (ix_draft at a)

abbrev Told : Bool → Type 0
Told wide = (rel : Rel) × IsTrue (wide || is_ordered rel)

told_of : (wide : Bool) (rel : Rel) (o : Option (IsTrue (wide || is_ordered rel))) → (if is_some o then Some rel else None) ≡ option_map (λ (p : Told wide). p.0) (r.with_proof {P = λ rel. IsTrue (wide || is_ordered rel)} rel o)
told_of wide rel None = refl
told_of wide rel (Some h) = refl

if_told_is : (wide : Bool) (o : Option Rel) → if_told wide o ≡ option_map (λ (p : Told wide). p.0) (r.at_width wide o)
if_told_is wide None = refl
if_told_is wide (Some rel) = ap (λ b. if b then Some rel else None) (sym (holding_some (wide || is_ordered rel))) ∙ told_of wide rel (r.holding (wide || is_ordered rel))

rel_turned : (wide : Bool) (x : Symbol) → relation_value wide x ≡ option_map (λ (p : Told wide). p.0) (rel_of wide x)
rel_turned wide x = by_kind (is_mark_kind x.kind)
  where
    by_kind : (b : Bool) → (if b then if_told wide (choose rels x.bytes) else None) ≡ option_map (λ (p : Told wide). p.0) (if b then r.at_width wide (choose rels x.bytes) else None)
    by_kind true = if_told_is wide (choose rels x.bytes)
    by_kind false = refl

factor_is_term : {prelude : Bool} (p : ℕ) (f : FactorText prelude) → is_term (factor_draft p f) ≡ true
factor_is_term p (g.negated a) = refl
factor_is_term p (g.atom (g.literal digits)) = refl
factor_is_term p (g.atom (g.name w)) = refl
factor_is_term p (g.atom (g.grouped a)) = refl
factor_is_term p (g.atom (g.chosen _ f a b)) = refl
factor_is_term p (g.atom (g.divided _ f a by _)) = refl

draft_is_term : {prelude : Bool} (p : ℕ) (t : TermText prelude) → is_term (term_draft p t) ≡ true
draft_is_term p (g.factor f) = factor_is_term p f
draft_is_term p (g.times t f) = refl

-- behind a term and its "%"
remainder_is : (end : ℕ) {prelude : Bool} (p : ℕ) (t : TermText prelude) (us : List Symbol) → end - length us ≡ p + length (term_symbols t) + 1 → remainder end (term_draft p t) us ≡ mapped (half_draft p) (r.read_remainder t us)
unfolding give
remainder_is end p t us place =
    then_past (past divisor_value us) us (λ by vs. on_past (past zero_sign vs) (λ so ws. on_past (past zero_number ws) (λ _ xs. Ok (condition (divisible (term_draft p t) (end - length us) by so), xs)) (Err (At ws))) (Err (At vs)))
    ∙ either_turned r.divisor divisor_value (λ (d : Divisor). decimal d.0) divisor_turned _ fail
    (λ by vs. on_past (past zero_sign vs) (λ so ws. on_past (past zero_number ws) (λ _ xs. Ok (condition (divisible (term_draft p t) (end - length us) by so), xs)) (Err (At ws))) (Err (At vs))) (Err (At us)) (half_draft p) us
    (λ by vs c.
    either_mapped zero_sign _ fail (λ so ws. on_past (past zero_number ws) (λ _ xs. Ok (condition (divisible (term_draft p t) (end - length us) (decimal by.0) so), xs)) (Err (At ws))) (Err (At vs)) (half_draft p) vs
    (λ so ws e.
    either_mapped zero_number _ fail (λ _ xs. Ok (condition (divisible (term_draft p t) (end - length us) (decimal by.0) so), xs)) (Err (At ws)) (half_draft p) ws
    (λ k xs z. ap (λ n. Ok (condition (divisible (term_draft p t) n (decimal by.0) so), xs)) place)
    (failed (half_draft p) ws))
    (failed (half_draft p) vs))
    (failed (half_draft p) us)

divided_is : (end : ℕ) {prelude : Bool} (wide : Bool) (p : ℕ) (a : IxText prelude) (ts : List Symbol) → Placed end p (length (ix_symbols a)) ts → divided end (wide && is_term (ix_draft p a)) (ix_draft p a) ts ≡ mapped (half_draft p) (r.read_divided wide a ts)
unfolding give
divided_is end true p (g.term t) ts here =
    ap (λ b. divided end b (term_draft p t) ts) (draft_is_term p t)
    ∙ either_mapped (this_mark (codes "%")) (λ _. r.read_remainder t) (give (r.expression (g.term t))) (λ _ us. remainder end (term_draft p t) us) (Ok (index (term_draft p t), ts)) (half_draft p) ts
    (λ k us c.
    let one = past_one (this_mark (codes "%")) ts k us c in
    let le = here.within in
    let e = here.place in
    let place : end - length us ≡ p + length (term_symbols t) + 1 = omega arith in
    remainder_is end p t us place)
    refl
divided_is end true p (g.plus a t) ts here = refl
divided_is end true p (g.minus a t) ts here = refl
divided_is end false p (g.term t) ts here = refl
divided_is end false p (g.plus a t) ts here = refl
divided_is end false p (g.minus a t) ts here = refl

module _ (end : ℕ) {prelude : Bool} (wide : Bool) {room : ℕ} (inner : Reader Symbol (IxText prelude)) (drawn : Reader Symbol IxDraft) (rule : Whole room 1 ix_symbols inner) (h : Draws end ix_draft drawn inner) where
  compared_is : (p : ℕ) (a : IxText prelude) (ts : List Symbol) → Placed end p (length (ix_symbols a)) ts → compared prelude wide end drawn (ix_draft p a) ts ≡ mapped (half_draft p) (r.read_compared prelude wide inner a ts)
  unfolding after give
  compared_is p a ts here =
      either_turned (rel_of wide) (relation_value wide) (λ (k : Told wide). k.0) (rel_turned wide) _ (r.read_divided wide a) (λ rel us. then_read (expression prelude end drawn us) (λ b vs. Ok (condition (compare rel (ix_draft p a) b), vs))) (divided end (wide && is_term (ix_draft p a)) (ix_draft p a) ts) (half_draft p) ts
      (λ rel us c.
      let one = past_one (rel_of wide) ts rel us c in
      let le = here.within in
      let e = here.place in
      let less : length us ≤ end = omega arith in
      let place : end - length us ≡ p + length (ix_symbols a) + 1 = omega arith in
      then_is (expression prelude end drawn us) (r.read_sum prelude inner us) (ix_draft (end - length us)) _ _ (half_draft p) (expression_is end inner drawn rule h us less) (λ b vs q.
      (λ i. Ok (condition (compare rel.0 (ix_draft p a) (ix_draft (place i) b)), vs))))
      (divided_is end wide p a ts here)

  -- behind an expression in parentheses
  grouped_is : (p : ℕ) (a : IxText prelude) (ts : List Symbol) → Placed end p (1 + length (ix_symbols a) + 1) ts → behind_parens prelude wide end drawn p (index (ix_draft (p + 1) a)) ts ≡ mapped (half_draft p) (r.read_closed prelude wide inner (r.index a) ts)
  unfolding after
  grouped_is p a ts here =
      let atom : FactorText prelude = g.atom (g.grouped a) in
      let inside = length-append (ix_symbols a) (mark (codes ")") ∷ []) in
      let le = here.within in
      let e = here.place in
      let first : Placed end p (length (factor_symbols atom)) ts = record { within = le; place = omega arith } in
      then_is (factors prelude end drawn (factor_draft p atom) ts) (r.read_factors prelude inner atom ts) (term_draft p) _ _ (half_draft p) (factors_is end inner drawn rule h p atom ts first) (λ b us q.
      let second : Placed end p (length (term_symbols b)) us = placed_on (factor_symbols atom) (term_symbols b) first ((factors_rule rule atom).sound ts b us q) in
      then_is (terms prelude end drawn (term_draft p b) us) (r.read_terms prelude inner b us) (ix_draft p) _ _ (half_draft p) (terms_is end inner drawn rule h p b us second) (λ c vs s.
      compared_is p c vs (placed_on (term_symbols b) (ix_symbols c) second ((terms_rule rule b).sound us c vs s))))

  behind_is : (p : ℕ) (m : r.Mixed prelude wide) (ts : List Symbol) → Placed end p (1 + length (mixed_symbols m) + 1) ts → behind_parens prelude wide end drawn p (mixed_draft (p + 1) m) ts ≡ mapped (half_draft p) (r.read_closed prelude wide inner m ts)
  unfolding give
  behind_is p (r.conditions c) ts here = refl
  behind_is p (r.index a) ts here = grouped_is p a ts here

only_is : {prelude wide : Bool} (p : ℕ) (x : Half prelude wide) (ts : List Symbol) → only_condition (half_draft p x) ts ≡ mapped (prim_draft p) (r.only_condition x ts)
unfolding give fail
only_is p (r.condition q) ts = refl
only_is p (r.expression a) ts = refl

module _ (end : ℕ) {prelude : Bool} (wide : Bool) {room : ℕ} (inner : Reader Symbol (IxText prelude)) (drawn : Reader Symbol IxDraft) (rule : Whole room 1 ix_symbols inner) (h : Draws end ix_draft drawn inner)
    (mixed : Reader Symbol (r.Mixed prelude wide)) (drawn_mixed : Reader Symbol Mixed) (mixed_rule : Whole room 1 mixed_symbols mixed) (k : Draws end mixed_draft drawn_mixed mixed) where
  half_is : Draws end half_draft (half prelude wide end drawn drawn_mixed) (r.read_half prelude wide inner mixed)
  unfolding after
  half_is ts le =
      let at = end - length ts in
      either_mapped (this_mark (codes "(")) _ _
      (λ _ us. then_read (drawn_mixed us) (λ m vs. on_past (past (this_mark (codes ")")) vs) (λ _ ws. behind_parens prelude wide end drawn at m ws) (Err (At vs)))) _ (half_draft at) ts
      (λ o us c.
      let one = past_one (this_mark (codes "(")) ts o us c in
      let less : length us ≤ end = omega arith in
      let place : end - length us ≡ at + 1 = omega arith in
      then_is (drawn_mixed us) (mixed us) (mixed_draft (end - length us)) _ _ (half_draft at) (k us less) (λ m vs q.
      either_mapped (this_mark (codes ")")) _ fail (λ _ ws. behind_parens prelude wide end drawn at (mixed_draft (end - length us) m) ws) (Err (At vs)) (half_draft at) vs
      (λ o ws d.
      let two = past_one (this_mark (codes ")")) vs o ws d in
      let count = ap length (mixed_rule.sound us m vs q) ∙ length-append (mixed_symbols m) vs in
      ap (λ n. behind_parens prelude wide end drawn at (mixed_draft n m) ws) place
      ∙ behind_is end wide inner drawn rule h at m ws (record { within = omega arith; place = omega arith }))
      (failed (half_draft at) vs)))
      (then_is (expression prelude end drawn ts) (r.read_sum prelude inner ts) (ix_draft at) _ _ (half_draft at) (expression_is end inner drawn rule h ts le) (λ a us q.
      compared_is end wide inner drawn rule h at a us (placed_on [] (ix_symbols a) (record { within = le; place = omega arith }) ((sum_rule rule).sound ts a us q))))

  pub prim_is : Draws end prim_draft (prim prelude wide end drawn drawn_mixed) (r.read_prim prelude wide inner mixed)
  unfolding after
  prim_is ts le =
      let at = end - length ts in
      then_is (half prelude wide end drawn drawn_mixed ts) (r.read_half prelude wide inner mixed ts) (half_draft at) r.only_condition only_condition (prim_draft at) (half_is ts le) (λ x us q. only_is at x us)

  and_is : (p : ℕ) (u : Unit {0}) (left : AllText prelude wide) (ts us : List Symbol) → past (this_mark (codes "&&")) ts ≡ Some (u, us) → Placed end p (length (all_symbols left)) ts
      → and_prim prelude wide end drawn drawn_mixed u (all_draft p left) us ≡ mapped (all_draft p) (r.and_more prelude wide inner mixed u left us)
  unfolding after give
  and_is p u left ts us c here =
      let one = past_one (this_mark (codes "&&")) ts u us c in
      let le = here.within in
      let e = here.place in
      let less : length us ≤ end = omega arith in
      let place : end - length us ≡ p + length (all_symbols left) + 1 = omega arith in
      then_is (prim prelude wide end drawn drawn_mixed us) (r.read_prim prelude wide inner mixed us) (prim_draft (end - length us)) _ _ (all_draft p) (prim_is us less) (λ b vs q. (λ i. Ok (all_joined (all_draft p left) (prim_draft (place i) b), vs)))

  and_keeps : (p : ℕ) (u : Unit {0}) (left : AllText prelude wide) (ts us : List Symbol) → past (this_mark (codes "&&")) ts ≡ Some (u, us) → Placed end p (length (all_symbols left)) ts
      → (b : AllText prelude wide) (vs : List Symbol) → r.and_more prelude wide inner mixed u left us ≡ Ok (b, vs) → Placed end p (length (all_symbols b)) vs
  and_keeps p u left ts us c here b vs q =
      let one = past_one (this_mark (codes "&&")) ts u us c in
      let le = here.within in
      let e = here.place in
      let whole = (and_rule rule mixed_rule u left).sound us b vs q in
      let count = ap length whole in
      let front = length-append (all_symbols left) (mark (codes "&&") ∷ us) in
      let back = length-append (all_symbols b) vs in
      record { within = omega arith; place = omega arith }

  pub ands_is : (p : ℕ) (q : PrimText prelude wide) (ts : List Symbol) → Placed end p (length (prim_symbols q)) ts → ands prelude wide end drawn drawn_mixed (prim_draft p q) ts ≡ mapped (all_draft p) (r.read_ands prelude wide inner mixed q ts)
  ands_is p q ts here = all_is (this_mark (codes "&&")) (r.and_more prelude wide inner mixed) (and_prim prelude wide end drawn drawn_mixed) (all_draft p) (λ left us. Placed end p (length (all_symbols left)) us) (and_is p) (and_keeps p) (g.prim q) ts here

module _ (end : ℕ) {prelude : Bool} {room : ℕ} (inner : Reader Symbol (IxText prelude)) (drawn : Reader Symbol IxDraft) (rule : Whole room 1 ix_symbols inner) (h : Draws end ix_draft drawn inner)
    (mixed : Reader Symbol (r.Mixed prelude true)) (drawn_mixed : Reader Symbol Mixed) (mixed_rule : Whole room 1 mixed_symbols mixed) (k : Draws end mixed_draft drawn_mixed mixed) where
  or_is : (p : ℕ) (u : Unit {0}) (left : CondText prelude true) (ts us : List Symbol) → past (this_mark (codes "||")) ts ≡ Some (u, us) → Placed end p (length (cond_symbols left)) ts
      → or_all prelude true end drawn drawn_mixed u (cond_draft p left) us ≡ mapped (cond_draft p) (r.or_more prelude inner mixed u left us)
  unfolding after give
  or_is p u left ts us c here =
      let one = past_one (this_mark (codes "||")) ts u us c in
      let le = here.within in
      let e = here.place in
      let less : length us ≤ end = omega arith in
      let place : end - length us ≡ p + length (cond_symbols left) + 1 = omega arith in
      then_is (prim prelude true end drawn drawn_mixed us) (r.read_prim prelude true inner mixed us) (prim_draft (end - length us)) _ _ (cond_draft p) (prim_is end true inner drawn rule h mixed drawn_mixed mixed_rule k us less) (λ q vs z.
      let first : Placed end (end - length us) (length (prim_symbols q)) vs = placed_on [] (prim_symbols q) (record { within = less; place = omega arith }) ((prim_rule rule mixed_rule).sound us q vs z) in
      then_is (ands prelude true end drawn drawn_mixed (prim_draft (end - length us) q) vs) (r.read_ands prelude true inner mixed q vs) (all_draft (end - length us)) _ _ (cond_draft p) (ands_is end true inner drawn rule h mixed drawn_mixed mixed_rule k (end - length us) q vs first) (λ a ws s.
      (λ i. Ok (any_joined (cond_draft p left) (all_draft (place i) a), ws))))

  or_keeps : (p : ℕ) (u : Unit {0}) (left : CondText prelude true) (ts us : List Symbol) → past (this_mark (codes "||")) ts ≡ Some (u, us) → Placed end p (length (cond_symbols left)) ts
      → (b : CondText prelude true) (vs : List Symbol) → r.or_more prelude inner mixed u left us ≡ Ok (b, vs) → Placed end p (length (cond_symbols b)) vs
  or_keeps p u left ts us c here b vs q =
      let one = past_one (this_mark (codes "||")) ts u us c in
      let le = here.within in
      let e = here.place in
      let whole = (or_rule rule mixed_rule u left).sound us b vs q in
      let count = ap length whole in
      let front = length-append (cond_symbols left) (mark (codes "||") ∷ us) in
      let back = length-append (cond_symbols b) vs in
      record { within = omega arith; place = omega arith }

  more_ors_is : (p : ℕ) (a : AllText prelude true) (ts : List Symbol) → Placed end p (length (all_symbols a)) ts → more_ors prelude true end drawn drawn_mixed (all_draft p a) ts ≡ mapped (cond_draft p) (r.read_ors prelude true inner mixed a ts)
  more_ors_is p a ts here = all_is (this_mark (codes "||")) (r.or_more prelude inner mixed) (or_all prelude true end drawn drawn_mixed) (cond_draft p) (λ left us. Placed end p (length (cond_symbols left)) us) (or_is p) (or_keeps p) (g.all_of a) ts here

ors_is : (end : ℕ) {prelude : Bool} (wide : Bool) {room : ℕ} (inner : Reader Symbol (IxText prelude)) (drawn : Reader Symbol IxDraft) → Whole room 1 ix_symbols inner → Draws end ix_draft drawn inner
    → (mixed : Reader Symbol (r.Mixed prelude wide)) (drawn_mixed : Reader Symbol Mixed) → Whole room 1 mixed_symbols mixed → Draws end mixed_draft drawn_mixed mixed
    → (p : ℕ) (a : AllText prelude wide) (ts : List Symbol) → Placed end p (length (all_symbols a)) ts → ors prelude wide end drawn drawn_mixed wide (all_draft p a) ts ≡ mapped (cond_draft p) (r.read_ors prelude wide inner mixed a ts)
unfolding give
ors_is end true inner drawn rule h mixed drawn_mixed mixed_rule k p a ts here = more_ors_is end inner drawn rule h mixed drawn_mixed mixed_rule k p a ts here
ors_is end false inner drawn rule h mixed drawn_mixed mixed_rule k p a ts here = refl

module _ (end : ℕ) {prelude : Bool} (wide : Bool) {room : ℕ} (inner : Reader Symbol (IxText prelude)) (drawn : Reader Symbol IxDraft) (rule : Whole room 1 ix_symbols inner) (h : Draws end ix_draft drawn inner)
    (mixed : Reader Symbol (r.Mixed prelude wide)) (drawn_mixed : Reader Symbol Mixed) (mixed_rule : Whole room 1 mixed_symbols mixed) (k : Draws end mixed_draft drawn_mixed mixed) where
  half_more_is : (p : ℕ) (x : Half prelude wide) (ts : List Symbol) → Placed end p (length (half_symbols x)) ts → half_more prelude wide end drawn drawn_mixed (half_draft p x) ts ≡ mapped (mixed_draft p) (r.read_half_more prelude wide inner mixed x ts)
  unfolding after give
  half_more_is p (r.condition q) ts here =
      then_then (ands prelude wide end drawn drawn_mixed (prim_draft p q) ts) (ors prelude wide end drawn drawn_mixed wide) (λ c us. Ok (condition c, us))
      ∙ then_is (ands prelude wide end drawn drawn_mixed (prim_draft p q) ts) (r.read_ands prelude wide inner mixed q ts) (all_draft p) _ _ (mixed_draft p) (ands_is end wide inner drawn rule h mixed drawn_mixed mixed_rule k p q ts here) (λ a us y.
      then_is (ors prelude wide end drawn drawn_mixed wide (all_draft p a) us) (r.read_ors prelude wide inner mixed a us) (cond_draft p) _ _ (mixed_draft p) (ors_is end wide inner drawn rule h mixed drawn_mixed mixed_rule k p a us (placed_on (prim_symbols q) (all_symbols a) here ((ands_rule rule mixed_rule q).sound ts a us y))) (λ c vs z. refl))
  half_more_is p (r.expression a) ts here = refl

  -- what stands in parentheses
  parens_is : Draws end mixed_draft (λ ts. then_read (half prelude wide end drawn drawn_mixed ts) (half_more prelude wide end drawn drawn_mixed)) (after (r.read_half prelude wide inner mixed) (r.read_half_more prelude wide inner mixed))
  unfolding after
  parens_is ts le =
      let at = end - length ts in
      then_is (half prelude wide end drawn drawn_mixed ts) (r.read_half prelude wide inner mixed ts) (half_draft at) _ _ (mixed_draft at) (half_is end wide inner drawn rule h mixed drawn_mixed mixed_rule k ts le) (λ x us q.
      half_more_is at x us (placed_on [] (half_symbols x) (record { within = le; place = omega arith }) ((half_rule rule mixed_rule).sound ts x us q)))

  joined_is : (p : ℕ) (q : PrimText prelude wide) (ts : List Symbol) → Placed end p (length (prim_symbols q)) ts → joined prelude wide end drawn drawn_mixed (prim_draft p q) ts ≡ mapped (cond_draft p) (after (r.read_ands prelude wide inner mixed q) (λ a. after (r.read_ors prelude wide inner mixed a) give) ts)
  unfolding after
  joined_is p q ts here =
      then_is (ands prelude wide end drawn drawn_mixed (prim_draft p q) ts) (r.read_ands prelude wide inner mixed q ts) (all_draft p) _ _ (cond_draft p) (ands_is end wide inner drawn rule h mixed drawn_mixed mixed_rule k p q ts here) (λ a us y.
      ors_is end wide inner drawn rule h mixed drawn_mixed mixed_rule k p a us (placed_on (prim_symbols q) (all_symbols a) here ((ands_rule rule mixed_rule q).sound ts a us y))
      ∙ sym (lifted (r.read_ors prelude wide inner mixed a us) (λ c. c) (cond_draft p) (cond_draft p) (λ c. refl)))

  -- a condition to the end
  all_is_read : Draws end cond_draft (λ ts. then_read (prim prelude wide end drawn drawn_mixed ts) (joined prelude wide end drawn drawn_mixed)) (after (r.read_prim prelude wide inner mixed) (λ q. after (r.read_ands prelude wide inner mixed q) (λ a. after (r.read_ors prelude wide inner mixed a) give)))
  unfolding after
  all_is_read ts le =
      let at = end - length ts in
      then_is (prim prelude wide end drawn drawn_mixed ts) (r.read_prim prelude wide inner mixed ts) (prim_draft at) _ _ (cond_draft at) (prim_is end wide inner drawn rule h mixed drawn_mixed mixed_rule k ts le) (λ q us z.
      joined_is at q us (placed_on [] (prim_symbols q) (record { within = le; place = omega arith }) ((prim_rule rule mixed_rule).sound ts q us z)))

pub mixed_is : (prelude wide : Bool) (end room : ℕ) → Draws end mixed_draft (mixed_inside prelude wide end room) (r.mixed_inside prelude wide room)
unfolding mixed_inside r.mixed_inside deep
mixed_is prelude wide end zero ts le = refl
mixed_is prelude wide end (suc room) ts le =
    parens_is end wide (ix_inside prelude room) (inside prelude end room) (ix_inside_rule prelude room) (inside_is prelude end room)
    (r.mixed_inside prelude wide room) (mixed_inside prelude wide end room) (mixed_inside_rule prelude wide room) (mixed_is prelude wide end room) ts le

pub cond_is : (prelude wide : Bool) (end room : ℕ) → Draws end cond_draft (whole prelude wide end room) (r.read_cond prelude wide room)
cond_is prelude wide end room =
    all_is_read end wide (ix_inside prelude room) (inside prelude end room) (ix_inside_rule prelude room) (inside_is prelude end room)
    (r.mixed_inside prelude wide room) (mixed_inside prelude wide end room) (mixed_inside_rule prelude wide room) (mixed_is prelude wide end room)

pub cond_exact : (prelude wide : Bool) (room : ℕ) (symbols : List code.Symbol) (n : ℕ) → n ≤ length symbols
    → whole prelude wide (length symbols) room (drop n (map seen symbols)) ≡ mapped (cond_draft n) (r.read_cond prelude wide room (drop n (map seen symbols)))
cond_exact prelude wide room symbols n le =
    cond_is prelude wide (length symbols) room (drop n (map seen symbols)) (no_longer symbols n)
    ∙ ap (λ at. mapped (cond_draft at) (r.read_cond prelude wide room (drop n (map seen symbols)))) (at_number symbols n le)
