use Rattle.std.proofs.Common.{rules, ◌≡◌, ℕ, ◌+◌, ◌-◌, ◌≤◌, length, List, sym, subst, ◌∙◌, arith}
use Rattle.std.specs.List.{count_by}
use Rattle.affc_floor.specs.declared.span.Span.{Span}
use Rattle.affc_floor.specs.Spans.{begins, ends_at, left_open, open_at, IsGreatestBefore}
use Rattle.affc_floor.proofs.Tallies.{tallied}
use Rattle.affc_floor.proofs.Opens.{all_balanced, all_at_most, left_is_open, left_at_first, none_before, greater_now, no_greater, none_at_all, greatest}
use Rattle.affc_floor.proofs.greatest.sweep.Goals as goal
use Rattle.affc_floor.proofs.greatest.sweep.Goals.{then-most-count, else-most-count}

pub overflow_add-count : goal.overflow_add-count
overflow_add-count c =
    let i : ℕ = c.loop-i.i in
    let spans : List Span = c.args.spans.now in
    let b : c.index.result.now ≡ count_by (begins i) spans = tallied begins c.args.instants spans c.in_ok-begun.begun.items i c.index.result.now c.in_ok-begun.ensures c.loop-i-test.true c.index.ensures in
    let l : c.loop-i.count ≡ left_open i spans = c.loop-i.invariant.count in
    let few : left_open i spans + count_by (begins i) spans ≤ length spans = all_at_most i spans in
    let few' : c.loop-i.count + c.index.result.now ≤ length spans = omega arith in
    search (rules, few')

pub overflow_sub-count : goal.overflow_sub-count
overflow_sub-count c =
    let i : ℕ = c.loop-i.i in
    let spans : List Span = c.args.spans.now in
    let b : c.index.result.now ≡ count_by (begins i) spans = tallied begins c.args.instants spans c.in_ok-begun.begun.items i c.index.result.now c.in_ok-begun.ensures c.loop-i-test.true c.index.ensures in
    let e : c.index-in-loop-i.result.now ≡ count_by (ends_at i) spans = tallied ends_at c.args.instants spans c.in_ok-ended.ended.items i c.index-in-loop-i.result.now c.in_ok-ended.ensures c.loop-i-test.true c.index-in-loop-i.ensures in
    let l : c.loop-i.count ≡ left_open i spans = c.loop-i.invariant.count in
    let same : left_open i spans + count_by (begins i) spans ≡ open_at i spans + count_by (ends_at i) spans = all_balanced c.args.instants i spans c.requires in
    omega arith

pub loop-i-init : goal.loop-i-init
loop-i-init c = record { count = sym (left_at_first c.args.spans.now); greatest = none_before c.args.spans.now }

pub loop-i-preserved : goal.loop-i-preserved
loop-i-preserved c =
    let i : ℕ = c.loop-i.i in
    let spans : List Span = c.args.spans.now in
    let b : c.index.result.now ≡ count_by (begins i) spans = tallied begins c.args.instants spans c.in_ok-begun.begun.items i c.index.result.now c.in_ok-begun.ensures c.loop-i-test.true c.index.ensures in
    let e : c.index-in-loop-i.result.now ≡ count_by (ends_at i) spans = tallied ends_at c.args.instants spans c.in_ok-ended.ended.items i c.index-in-loop-i.result.now c.in_ok-ended.ensures c.loop-i-test.true c.index-in-loop-i.ensures in
    let l : c.loop-i.count ≡ left_open i spans = c.loop-i.invariant.count in
    let same : left_open i spans + count_by (begins i) spans ≡ open_at i spans + count_by (ends_at i) spans = all_balanced c.args.instants i spans c.requires in
    let count : c.loop-i.count + c.index.result.now - c.index-in-loop-i.result.now ≡ open_at i spans = omega arith in
    record {
      count = count ∙ sym (left_is_open i spans);
      greatest = elim c.if-most-count.branch [
        | then-most-count w ↦ subst (IsGreatestBefore (i + 1) spans) (sym w.most-is) (greater_now i (c.loop-i.count + c.index.result.now - c.index-in-loop-i.result.now) spans c.loop-i.most c.loop-i.invariant.greatest count w.if-most-count.true)
        | else-most-count w ↦ subst (IsGreatestBefore (i + 1) spans) (sym w.most-is) (no_greater i (c.loop-i.count + c.index.result.now - c.index-in-loop-i.result.now) spans c.loop-i.most c.loop-i.invariant.greatest count w.if-most-count.false)
      ];
    }

pub returns-then-most-eq0 : goal.returns-then-most-eq0
returns-then-most-eq0 c = λ j. none_at_all c.args.instants c.loop-i.i c.args.spans.now c.loop-i.most c.requires c.loop-i-test.false c.loop-i.invariant.greatest c.if-most-eq0.true j

pub returns : goal.returns
returns c = greatest c.args.instants c.loop-i.i c.args.spans.now c.loop-i.most c.requires c.loop-i-test.false c.loop-i.invariant.greatest c.if-most-eq0.false
