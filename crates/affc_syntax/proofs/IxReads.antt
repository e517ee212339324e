-- The readers of whole-number expressions leave no more tokens than they were given, and their loops, as the code runs them.
use Rattle.std.proofs.Common.{◌≡◌, ℕ, zero, suc, ◌-◌, Bool, codes, ◌<◌, List, [], ◌∷◌, ◌++◌, length, drop, map, Option, Some, None, Ok, Err, arith}
use Rattle.affc_grammar.specs.Grammar.{Symbol}
use Rattle.affc_grammar.specs.Draft.{IxDraft, literal, name, negated, product, grouped, chosen, divided}
use Rattle.affc_grammar.specs.Reader.{At, Deep, Reader}
use Rattle.affc_grammar.specs.Reading.{Callee, of_choice, of_rounding, this_mark, any_word, sum_sign}
use Rattle.affc_syntax.specs.declared.ahead.Stop as stop
use Rattle.affc_syntax.specs.declared.draft.symbol.Symbol as code
use Rattle.affc_syntax.specs.draft.Symbols.{seen}
use Rattle.affc_syntax.specs.Ahead.{past, number_value, divisor_value}
use Rattle.affc_syntax.specs.Callees.{callee}
use Rattle.affc_syntax.specs.Readers.{closed, Fails}
use Rattle.affc_syntax.specs.IxReading.{group, divisor, call, called, atom, factor, times, factors, term, joined, added, terms, expression, inside, dim, more_dims, dims}
use Rattle.affc_syntax.proofs.Readers.{Shrinks, left_give, left_fail, left_then, past_shorter, on_test, loop_on, loop_end, loop_stop, all_left, closed_left, less_left}

-- ---- Each reader of expressions

pub divisor_left : Shrinks divisor
divisor_left ts = on_test divisor_value (λ by us. Ok (by, us)) (Err (At ts)) ts (λ by us. left_give by us (length us) (omega arith)) (left_fail (At ts) (length ts))

module _ (prelude : Bool) (end : ℕ) (inner : Reader Symbol IxDraft) (h : Shrinks inner) where
  group_left : (at : ℕ) → Shrinks (group at inner)
  group_left at ts = left_then (inner ts) (λ a. closed (codes ")") (grouped at a)) (length ts) (h ts) (λ a. closed_left (codes ")") (grouped at a))

  call_left : (at : ℕ) (f : Callee) → Shrinks (call end at inner f)
  call_left at (of_choice f) ts =
      left_then (inner ts) _ (length ts) (h ts) (λ a vs.
      on_test (this_mark (codes ",")) _ (Err (At vs)) vs (λ _ ws. left_then (inner ws) _ (length ws) (h ws) (λ b. closed_left (codes ")") (chosen at f a b))) (left_fail (At vs) (length vs)))
  call_left at (of_rounding f) ts =
      left_then (inner ts) _ (length ts) (h ts) (λ a vs.
      on_test (this_mark (codes ",")) _ (Err (At vs)) vs (λ _ ws. left_then (divisor ws) _ (length ws) (divisor_left ws) (λ by. closed_left (codes ")") (divided at f a (end - length ws) by))) (left_fail (At vs) (length vs)))

  called_left : (at : ℕ) (w : List ℕ) (o : Option Callee) → Shrinks (called end at inner w o)
  called_left at w None ts = left_give (name at w) ts (length ts) (omega arith)
  called_left at w (Some f) ts = on_test (this_mark (codes "(")) (λ _ vs. call end at inner f vs) (Ok (name at w, ts)) ts (λ _. call_left at f) (left_give (name at w) ts (length ts) (omega arith))

  atom_left : Shrinks (atom prelude end inner)
  atom_left ts =
      on_test number_value _ _ ts (λ n us. left_give (literal (end - length ts) n) us (length us) (omega arith))
      (on_test any_word _ _ ts (λ w us. called_left (end - length ts) w (callee prelude w) us)
      (on_test (this_mark (codes "(")) _ _ ts (λ _ us. group_left (end - length ts) us) (left_fail (At ts) (length ts))))

  factor_left : Shrinks (factor prelude end inner)
  factor_left ts =
      on_test (this_mark (codes "-")) _ _ ts (λ _ us. left_then (atom prelude end inner us) _ (length us) (atom_left us) (λ a vs. left_give (negated (end - length ts) a) vs (length vs) (omega arith)))
      (atom_left ts)

  pub times_left : (u : Unit {0}) (left : IxDraft) → Shrinks (times prelude end inner u left)
  times_left u left ts = left_then (factor prelude end inner ts) _ (length ts) (factor_left ts) (λ b vs. left_give (product (end - length ts - 1) left b) vs (length vs) (omega arith))

  pub factors_left : (left : IxDraft) → Shrinks (factors prelude end inner left)
  factors_left = all_left (this_mark (codes "*")) (times prelude end inner) times_left

  pub term_left : Shrinks (term prelude end inner)
  term_left ts = left_then (factor prelude end inner ts) (factors prelude end inner) (length ts) (factor_left ts) factors_left

  pub added_left : (is_plus : Bool) (left : IxDraft) → Shrinks (added prelude end inner is_plus left)
  added_left is_plus left ts = left_then (term prelude end inner ts) _ (length ts) (term_left ts) (λ b vs. left_give (joined is_plus left b) vs (length vs) (omega arith))

  pub terms_left : (left : IxDraft) → Shrinks (terms prelude end inner left)
  terms_left = all_left sum_sign (added prelude end inner) added_left

  pub expression_left : Shrinks (expression prelude end inner)
  expression_left ts = left_then (term prelude end inner ts) (terms prelude end inner) (length ts) (term_left ts) terms_left

pub inside_left : (prelude : Bool) (end room : ℕ) → Shrinks (inside prelude end room)
unfolding inside
inside_left prelude end zero ts = left_fail Deep (length ts)
inside_left prelude end (suc room) ts = expression_left prelude end (inside prelude end room) (inside_left prelude end room) ts

-- ---- The two loops, as the code runs them

module _ (prelude : Bool) (end room : ℕ) (symbols : List code.Symbol) (left : IxDraft) (n b : ℕ) where
  pub factors_err : (f : stop.Stop) → past (this_mark (codes "*")) (drop n (map seen symbols)) ≡ Some (tt, drop b (map seen symbols)) → Fails (map seen symbols) f (times prelude end (inside prelude end room) tt left (drop b (map seen symbols)))
      → Fails (map seen symbols) f (factors prelude end (inside prelude end room) left (drop n (map seen symbols)))
  factors_err f e q = loop_stop (this_mark (codes "*")) (times prelude end (inside prelude end room)) (times_left prelude end (inside prelude end room) (inside_left prelude end room)) (map seen symbols) left _ tt _ f e q

  pub factors_on : (x : IxDraft) (r : ℕ) → past (this_mark (codes "*")) (drop n (map seen symbols)) ≡ Some (tt, drop b (map seen symbols)) → times prelude end (inside prelude end room) tt left (drop b (map seen symbols)) ≡ Ok (x, drop r (map seen symbols))
      → factors prelude end (inside prelude end room) left (drop n (map seen symbols)) ≡ factors prelude end (inside prelude end room) x (drop r (map seen symbols))
  factors_on x r e q = loop_on (this_mark (codes "*")) (times prelude end (inside prelude end room)) (times_left prelude end (inside prelude end room) (inside_left prelude end room)) left _ tt _ x _ e q

  pub factors_end : past (this_mark (codes "*")) (drop n (map seen symbols)) ≡ None → factors prelude end (inside prelude end room) left (drop n (map seen symbols)) ≡ Ok (left, drop n (map seen symbols))
  factors_end e = loop_end (this_mark (codes "*")) (times prelude end (inside prelude end room)) (times_left prelude end (inside prelude end room) (inside_left prelude end room)) left _ e

  pub terms_err : (k : Bool) (f : stop.Stop) → past sum_sign (drop n (map seen symbols)) ≡ Some (k, drop b (map seen symbols)) → Fails (map seen symbols) f (added prelude end (inside prelude end room) k left (drop b (map seen symbols)))
      → Fails (map seen symbols) f (terms prelude end (inside prelude end room) left (drop n (map seen symbols)))
  terms_err k f e q = loop_stop sum_sign (added prelude end (inside prelude end room)) (added_left prelude end (inside prelude end room) (inside_left prelude end room)) (map seen symbols) left _ k _ f e q

  pub terms_on : (k : Bool) (x : IxDraft) (r : ℕ) → past sum_sign (drop n (map seen symbols)) ≡ Some (k, drop b (map seen symbols)) → added prelude end (inside prelude end room) k left (drop b (map seen symbols)) ≡ Ok (x, drop r (map seen symbols))
      → terms prelude end (inside prelude end room) left (drop n (map seen symbols)) ≡ terms prelude end (inside prelude end room) x (drop r (map seen symbols))
  terms_on k x r e q = loop_on sum_sign (added prelude end (inside prelude end room)) (added_left prelude end (inside prelude end room) (inside_left prelude end room)) left _ k _ x _ e q

  pub terms_end : past sum_sign (drop n (map seen symbols)) ≡ None → terms prelude end (inside prelude end room) left (drop n (map seen symbols)) ≡ Ok (left, drop n (map seen symbols))
  terms_end e = loop_end sum_sign (added prelude end (inside prelude end room)) (added_left prelude end (inside prelude end room) (inside_left prelude end room)) left _ e

  pub factors_less : (x : IxDraft) (r : ℕ) → past (this_mark (codes "*")) (drop n (map seen symbols)) ≡ Some (tt, drop b (map seen symbols)) → times prelude end (inside prelude end room) tt left (drop b (map seen symbols)) ≡ Ok (x, drop r (map seen symbols))
      → length symbols - r < length symbols - n
  factors_less x r e q = less_left symbols n b r (past_shorter (this_mark (codes "*")) _ tt _ e) (times_left prelude end (inside prelude end room) (inside_left prelude end room) tt left _ x _ q)

  pub terms_less : (k : Bool) (x : IxDraft) (r : ℕ) → past sum_sign (drop n (map seen symbols)) ≡ Some (k, drop b (map seen symbols)) → added prelude end (inside prelude end room) k left (drop b (map seen symbols)) ≡ Ok (x, drop r (map seen symbols))
      → length symbols - r < length symbols - n
  terms_less k x r e q = less_left symbols n b r (past_shorter sum_sign _ k _ e) (added_left prelude end (inside prelude end room) (inside_left prelude end room) k left _ x _ q)

-- ---- Dimensions

pub dim_left : (prelude : Bool) (end room : ℕ) (u : Unit {0}) (ds : List IxDraft) → Shrinks (dim prelude end room u ds)
dim_left prelude end room u ds ts = left_then (inside prelude end room ts) _ (length ts) (inside_left prelude end room ts) (λ a. closed_left (codes "]") (ds ++ a ∷ []))

module _ (prelude : Bool) (end room : ℕ) (symbols : List code.Symbol) (left : List IxDraft) (n b : ℕ) where
  pub dims_err : (f : stop.Stop) → past (this_mark (codes "[")) (drop n (map seen symbols)) ≡ Some (tt, drop b (map seen symbols)) → Fails (map seen symbols) f (dim prelude end room tt left (drop b (map seen symbols)))
      → Fails (map seen symbols) f (more_dims prelude end room left (drop n (map seen symbols)))
  dims_err f e q = loop_stop (this_mark (codes "[")) (dim prelude end room) (dim_left prelude end room) (map seen symbols) left _ tt _ f e q

  pub dims_on : (x : List IxDraft) (r : ℕ) → past (this_mark (codes "[")) (drop n (map seen symbols)) ≡ Some (tt, drop b (map seen symbols)) → dim prelude end room tt left (drop b (map seen symbols)) ≡ Ok (x, drop r (map seen symbols))
      → more_dims prelude end room left (drop n (map seen symbols)) ≡ more_dims prelude end room x (drop r (map seen symbols))
  dims_on x r e q = loop_on (this_mark (codes "[")) (dim prelude end room) (dim_left prelude end room) left _ tt _ x _ e q

  pub dims_end : past (this_mark (codes "[")) (drop n (map seen symbols)) ≡ None → more_dims prelude end room left (drop n (map seen symbols)) ≡ Ok (left, drop n (map seen symbols))
  dims_end e = loop_end (this_mark (codes "[")) (dim prelude end room) (dim_left prelude end room) left _ e

  pub dims_less : (x : List IxDraft) (r : ℕ) → past (this_mark (codes "[")) (drop n (map seen symbols)) ≡ Some (tt, drop b (map seen symbols)) → dim prelude end room tt left (drop b (map seen symbols)) ≡ Ok (x, drop r (map seen symbols))
      → length symbols - r < length symbols - n
  dims_less x r e q = less_left symbols n b r (past_shorter (this_mark (codes "[")) _ tt _ e) (dim_left prelude end room tt left _ x _ q)

pub dims_left : (prelude : Bool) (end room : ℕ) → Shrinks (dims prelude end room)
dims_left prelude end room = all_left (this_mark (codes "[")) (dim prelude end room) (dim_left prelude end room) []
