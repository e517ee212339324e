-- The ranges in which questions are asked.
use Rattle.std.proofs.Common.{◌≡◌, ℕ, ◌+◌, ℤ, IsTrue, List, [], ◌∷◌, ◌++◌, length, sym, ap, subst, ◌∙◌, arith}
use Rattle.std.specs.List.{All}
use Rattle.std.proofs.lemmas.List.Elements.{All-append}
use Rattle.affc_system.specs.Pairs.{WithinReach}
use Rattle.affc_trace.specs.Law.{IsIn}
use Rattle.affc_trace.proofs.Runs.{length_append}
use Rattle.affc_nest.specs.Asked.{IsNest}
use Rattle.affc_nest.specs.declared.nest.Entry.{Entry}
use Rattle.affc_nest.specs.declared.nest.Nest.{Nest}
use Rattle.affc_nest.specs.Parts.{coordinates}
use Rattle.affc_nest.proofs.EntryLemmas.{ranges_hold_iterators}
use Rattle.affc_nest.proofs.IntervalLemmas.{close_range, reach, near_reach}
use Rattle.affc_nest.proofs.QuestionProofs.{nest_near}
use Rattle.affc_order.specs.Systems.{pair_columns}
use Rattle.affc_legal.specs.Answered.{IsFoundAs, AreRanges}
use Rattle.affc_sched.proofs.LegalLemmas.{entry_at}
use Rattle.affc_sched.proofs.Lists.{all_from}
use Rattle.affc_sched.proofs.PairLemmas.{stands_in, columns_of_pair}

-- ---- Ranges

record HasRanges (e : Entry) : Type 0 where
  each : length e.ranges ≡ coordinates e
  within : All WithinReach e.ranges

has_ranges : (nest : Nest) → IsNest nest → (e : Entry) → IsIn e nest.entries → IsTrue e.alive → HasRanges e
has_ranges nest n e i alive =
    let h = ranges_hold_iterators n.program e.part e n.has (entry_at n.program n.has e (subst (λ (z : Nest). IsIn e z.entries) n.is i)) alive in
    record { each = h.each; within = all_from WithinReach e.ranges (λ r k. reach r (close_range r (h.near r k).1)) }

-- the ranges of a pair of living statements
module _ (nest : Nest) (n : IsNest nest) (a b : Entry) (a_in : IsIn a nest.entries) (b_in : IsIn b nest.entries) (a_alive : IsTrue a.alive) (b_alive : IsTrue b.alive)
    (ranges : List (ℤ × ℤ)) (are : ranges ≡ nest.params ++ (a.ranges ++ b.ranges)) where
  pub ranges_reach : All WithinReach ranges
  ranges_reach =
      subst (All WithinReach) (sym are)
      (All-append WithinReach nest.params (a.ranges ++ b.ranges) (near_reach nest.params (nest_near nest n))
      (All-append WithinReach a.ranges b.ranges (has_ranges nest n a a_in a_alive).within (has_ranges nest n b b_in b_alive).within))

  pub ranges_long : length ranges ≡ pair_columns nest a.part b.part
  ranges_long =
      let u : length ranges ≡ length (nest.params ++ (a.ranges ++ b.ranges)) = ap length are in
      let v = length_append nest.params (a.ranges ++ b.ranges) in
      let w = length_append a.ranges b.ranges in
      let c = columns_of_pair nest n a b a_in b_in in
      let f = (has_ranges nest n a a_in a_alive).each in
      let g = (has_ranges nest n b b_in b_alive).each in
      sum (length nest.params) (length a.ranges) (length b.ranges) (length a.loops) (length b.loops) (length ranges) (u ∙ v ∙ ap (λ k. length nest.params + k) w) f g ∙ c
    where
      sum : (m k n l o t : ℕ) → t ≡ m + (k + n) → k ≡ l → n ≡ o → t ≡ (m + l) + o
      sum m k n l o t e f g = omega (arith, e, f, g)

  found_as : (e : Entry) → IsIn e nest.entries → IsFoundAs nest e
  found_as e i = record {
    loops = (stands_in nest n e i).loops;
    statement = (stands_in nest n e i).statement;
  }

  pub are_ranges : AreRanges nest a b ranges
  are_ranges = record {
    reach = ranges_reach;
    first_found = found_as a a_in;
    second_found = found_as b b_in;
    each = ranges_long ∙ sym (columns_of_pair nest n a b a_in b_in);
  }
