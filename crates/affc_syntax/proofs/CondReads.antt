-- The readers of conditions leave no more tokens than they were given, and their loops, as the code runs them.
use Rattle.std.proofs.Common.{◌≡◌, ℕ, zero, suc, ◌-◌, Bool, true, false, ◌&&◌, codes, ◌≤◌, ◌<◌, List, length, drop, map, Some, None, Ok, Err, sym, ap, subst, ◌∙◌, arith}
use Rattle.affc_grammar.specs.Grammar.{Symbol}
use Rattle.affc_grammar.specs.Draft.{IxDraft, CondDraft, divisible, grouped}
use Rattle.affc_grammar.specs.Reader.{At, Deep, Reader, then_read}
use Rattle.affc_grammar.specs.Reading.{this_mark, zero_sign, zero_number}
use Rattle.affc_syntax.specs.declared.ahead.Stop as stop
use Rattle.affc_syntax.specs.declared.draft.symbol.Symbol as code
use Rattle.affc_syntax.specs.draft.Symbols.{seen}
use Rattle.affc_syntax.specs.Ahead.{past, relation_value}
use Rattle.affc_syntax.specs.Readers.{Fails}
use Rattle.affc_syntax.specs.IxReading.{divisor, factors, terms, expression, inside}
use Rattle.affc_syntax.specs.CondReading.{Mixed, condition, index, compare, is_term, all_joined, any_joined, remainder, divided, compared, behind_parens, only_condition, half, prim, and_prim, ands, or_all, more_ors, ors, joined, half_more, mixed_inside, whole}
use Rattle.affc_syntax.proofs.Readers.{Shrinks, left_give, left_fail, left_then, past_shorter, on_test, loop_on, loop_end, loop_stop, all_left, less_left}
use Rattle.affc_syntax.proofs.IxReads.{divisor_left, factors_left, terms_left, expression_left, inside_left}

remainder_left : (end : ℕ) (a : IxDraft) → Shrinks (remainder end a)
remainder_left end a us =
    left_then (divisor us) _ (length us) (divisor_left us) (λ by vs.
    on_test zero_sign _ (Err (At vs)) vs (λ so ws. on_test zero_number _ (Err (At ws)) ws (λ _ xs. left_give (condition (divisible a (end - length us) by so)) xs (length xs) (omega arith)) (left_fail (At ws) (length ws))) (left_fail (At vs) (length vs)))

divided_left : (end : ℕ) (may : Bool) (a : IxDraft) → Shrinks (divided end may a)
divided_left end true a ts = on_test (this_mark (codes "%")) _ _ ts (λ _ us. remainder_left end a us) (left_give (index a) ts (length ts) (omega arith))
divided_left end false a ts = left_give (index a) ts (length ts) (omega arith)

module _ (prelude wide : Bool) (end : ℕ) (inner : Reader Symbol IxDraft) (h : Shrinks inner) where
  compared_left : (a : IxDraft) → Shrinks (compared prelude wide end inner a)
  compared_left a ts =
      on_test (relation_value wide) _ _ ts (λ rel us. left_then (expression prelude end inner us) _ (length us) (expression_left prelude end inner h us) (λ b vs. left_give (condition (compare rel a b)) vs (length vs) (omega arith)))
      (divided_left end (wide && is_term a) a ts)

  behind_left : (at : ℕ) (m : Mixed) → Shrinks (behind_parens prelude wide end inner at m)
  behind_left at (condition c) ts = left_give (condition c) ts (length ts) (omega arith)
  behind_left at (index a) ts =
      left_then (factors prelude end inner (grouped at a) ts) _ (length ts) (factors_left prelude end inner h (grouped at a) ts) (λ b us.
      left_then (terms prelude end inner b us) (compared prelude wide end inner) (length us) (terms_left prelude end inner h b us) compared_left)

only_left : (m : Mixed) → Shrinks (only_condition m)
only_left (condition c) ts = left_give c ts (length ts) (omega arith)
only_left (index a) ts = left_fail (At ts) (length ts)

module _ (prelude wide : Bool) (end : ℕ) (inner : Reader Symbol IxDraft) (mixed : Reader Symbol Mixed) (h : Shrinks inner) (k : Shrinks mixed) where
  half_left : Shrinks (half prelude wide end inner mixed)
  half_left ts =
      on_test (this_mark (codes "(")) _ _ ts
      (λ _ us. left_then (mixed us) _ (length us) (k us) (λ m vs. on_test (this_mark (codes ")")) _ (Err (At vs)) vs (λ _ ws. behind_left prelude wide end inner h (end - length ts) m ws) (left_fail (At vs) (length vs))))
      (left_then (expression prelude end inner ts) (compared prelude wide end inner) (length ts) (expression_left prelude end inner h ts) (compared_left prelude wide end inner h))

  prim_left : Shrinks (prim prelude wide end inner mixed)
  prim_left ts = left_then (half prelude wide end inner mixed ts) only_condition (length ts) (half_left ts) only_left

  pub and_left : (u : Unit {0}) (c : CondDraft) → Shrinks (and_prim prelude wide end inner mixed u c)
  and_left u c ts = left_then (prim prelude wide end inner mixed ts) _ (length ts) (prim_left ts) (λ d vs. left_give (all_joined c d) vs (length vs) (omega arith))

  pub all_ands_left : (c : CondDraft) → Shrinks (ands prelude wide end inner mixed c)
  all_ands_left = all_left (this_mark (codes "&&")) (and_prim prelude wide end inner mixed) and_left

  pub or_left : (u : Unit {0}) (c : CondDraft) → Shrinks (or_all prelude wide end inner mixed u c)
  or_left u c ts =
      left_then (prim prelude wide end inner mixed ts) _ (length ts) (prim_left ts) (λ q vs.
      left_then (ands prelude wide end inner mixed q vs) _ (length vs) (all_ands_left q vs) (λ d ws. left_give (any_joined c d) ws (length ws) (omega arith)))

  ors_left : (b : Bool) (c : CondDraft) → Shrinks (ors prelude wide end inner mixed b c)
  ors_left true c ts = all_left (this_mark (codes "||")) (or_all prelude wide end inner mixed) or_left c ts
  ors_left false c ts = left_give c ts (length ts) (omega arith)

  joined_left : (c : CondDraft) → Shrinks (joined prelude wide end inner mixed c)
  joined_left c ts = left_then (ands prelude wide end inner mixed c ts) (ors prelude wide end inner mixed wide) (length ts) (all_ands_left c ts) (ors_left wide)

  half_more_left : (m : Mixed) → Shrinks (half_more prelude wide end inner mixed m)
  half_more_left (condition c) ts = left_then (joined prelude wide end inner mixed c ts) _ (length ts) (joined_left c ts) (λ d us. left_give (condition d) us (length us) (omega arith))
  half_more_left (index a) ts = left_give (index a) ts (length ts) (omega arith)

pub mixed_left : (prelude wide : Bool) (end room : ℕ) → Shrinks (mixed_inside prelude wide end room)
unfolding mixed_inside
mixed_left prelude wide end zero ts = left_fail Deep (length ts)
mixed_left prelude wide end (suc room) ts =
    left_then (half prelude wide end (inside prelude end room) (mixed_inside prelude wide end room) ts) _ (length ts)
    (half_left prelude wide end (inside prelude end room) (mixed_inside prelude wide end room) (inside_left prelude end room) (mixed_left prelude wide end room) ts)
    (half_more_left prelude wide end (inside prelude end room) (mixed_inside prelude wide end room) (inside_left prelude end room) (mixed_left prelude wide end room))

-- behind a bracket that could be opened
pub mixed_on : (prelude wide : Bool) (end room : ℕ) (ts : List Symbol) (m : Mixed) (us : List Symbol) → 1 ≤ room → half prelude wide end (inside prelude end (room - 1)) (mixed_inside prelude wide end (room - 1)) ts ≡ Ok (m, us)
    → mixed_inside prelude wide end room ts ≡ half_more prelude wide end (inside prelude end (room - 1)) (mixed_inside prelude wide end (room - 1)) m us
unfolding mixed_inside
mixed_on prelude wide end zero ts m us some e = absurd (omega arith)
mixed_on prelude wide end (suc room) ts m us some e =
    let back : suc room - 1 ≡ room = omega arith in
    ap (λ x. then_read x (half_more prelude wide end (inside prelude end room) (mixed_inside prelude wide end room))) (subst (λ n. half prelude wide end (inside prelude end n) (mixed_inside prelude wide end n) ts ≡ Ok (m, us)) back e)
    ∙ ap (λ n. half_more prelude wide end (inside prelude end n) (mixed_inside prelude wide end n) m us) (sym back)

-- ---- The loops, as the code runs them

module _ (prelude wide : Bool) (end room : ℕ) where
  abbrev and_turn : Unit {0} → CondDraft → Reader Symbol CondDraft
  and_turn = and_prim prelude wide end (inside prelude end room) (mixed_inside prelude wide end room)

  abbrev or_turn : Unit {0} → CondDraft → Reader Symbol CondDraft
  or_turn = or_all prelude wide end (inside prelude end room) (mixed_inside prelude wide end room)

  abbrev pub and_loop : CondDraft → Reader Symbol CondDraft
  and_loop = ands prelude wide end (inside prelude end room) (mixed_inside prelude wide end room)

  abbrev pub or_loop : CondDraft → Reader Symbol CondDraft
  or_loop = more_ors prelude wide end (inside prelude end room) (mixed_inside prelude wide end room)

  and_turn_left : (u : Unit {0}) (c : CondDraft) → Shrinks (and_turn u c)
  and_turn_left = and_left prelude wide end (inside prelude end room) (mixed_inside prelude wide end room) (inside_left prelude end room) (mixed_left prelude wide end room)

  or_turn_left : (u : Unit {0}) (c : CondDraft) → Shrinks (or_turn u c)
  or_turn_left = or_left prelude wide end (inside prelude end room) (mixed_inside prelude wide end room) (inside_left prelude end room) (mixed_left prelude wide end room)

  pub whole_left : Shrinks (whole prelude wide end room)
  whole_left ts =
      left_then (prim prelude wide end (inside prelude end room) (mixed_inside prelude wide end room) ts) _ (length ts)
      (prim_left prelude wide end (inside prelude end room) (mixed_inside prelude wide end room) (inside_left prelude end room) (mixed_left prelude wide end room) ts)
      (joined_left prelude wide end (inside prelude end room) (mixed_inside prelude wide end room) (inside_left prelude end room) (mixed_left prelude wide end room))

  module _ (symbols : List code.Symbol) (left : CondDraft) (n b : ℕ) (e : past (this_mark (codes "&&")) (drop n (map seen symbols)) ≡ Some (tt, drop b (map seen symbols))) where
    pub ands_err : (f : stop.Stop) → Fails (map seen symbols) f (and_turn tt left (drop b (map seen symbols))) → Fails (map seen symbols) f (and_loop left (drop n (map seen symbols)))
    ands_err f q = loop_stop (this_mark (codes "&&")) and_turn and_turn_left (map seen symbols) left _ tt _ f e q

    pub ands_on : (x : CondDraft) (r : ℕ) → and_turn tt left (drop b (map seen symbols)) ≡ Ok (x, drop r (map seen symbols)) → and_loop left (drop n (map seen symbols)) ≡ and_loop x (drop r (map seen symbols))
    ands_on x r q = loop_on (this_mark (codes "&&")) and_turn and_turn_left left _ tt _ x _ e q

    pub ands_less : (x : CondDraft) (r : ℕ) → and_turn tt left (drop b (map seen symbols)) ≡ Ok (x, drop r (map seen symbols)) → length symbols - r < length symbols - n
    ands_less x r q = less_left symbols n b r (past_shorter (this_mark (codes "&&")) _ tt _ e) (and_turn_left tt left _ x _ q)

  module _ (symbols : List code.Symbol) (left : CondDraft) (n b : ℕ) (e : past (this_mark (codes "||")) (drop n (map seen symbols)) ≡ Some (tt, drop b (map seen symbols))) where
    pub ors_err : (f : stop.Stop) → Fails (map seen symbols) f (or_turn tt left (drop b (map seen symbols))) → Fails (map seen symbols) f (or_loop left (drop n (map seen symbols)))
    ors_err f q = loop_stop (this_mark (codes "||")) or_turn or_turn_left (map seen symbols) left _ tt _ f e q

    pub ors_on : (x : CondDraft) (r : ℕ) → or_turn tt left (drop b (map seen symbols)) ≡ Ok (x, drop r (map seen symbols)) → or_loop left (drop n (map seen symbols)) ≡ or_loop x (drop r (map seen symbols))
    ors_on x r q = loop_on (this_mark (codes "||")) or_turn or_turn_left left _ tt _ x _ e q

    pub ors_less : (x : CondDraft) (r : ℕ) → or_turn tt left (drop b (map seen symbols)) ≡ Ok (x, drop r (map seen symbols)) → length symbols - r < length symbols - n
    ors_less x r q = less_left symbols n b r (past_shorter (this_mark (codes "||")) _ tt _ e) (or_turn_left tt left _ x _ q)

  pub ands_end : (left : CondDraft) (ts : List Symbol) → past (this_mark (codes "&&")) ts ≡ None → and_loop left ts ≡ Ok (left, ts)
  ands_end left ts e = loop_end (this_mark (codes "&&")) and_turn and_turn_left left ts e

  pub ors_end : (left : CondDraft) (ts : List Symbol) → past (this_mark (codes "||")) ts ≡ None → or_loop left ts ≡ Ok (left, ts)
  ors_end left ts e = loop_end (this_mark (codes "||")) or_turn or_turn_left left ts e
