use Rattle.std.proofs.Common.{length, map, sym, ap, ◌∙◌, subst, arith}
use Rattle.affc_syntax.specs.draft.Symbols.{seen}
use Rattle.affc_syntax.specs.Readers.{Gives}
use Rattle.affc_schedtext.specs.Seen.{scope_seen}
use Rattle.affc_schedtext.specs.Terms.{term}
use Rattle.affc_schedtext.specs.TermReading.{going, off, deep, reading_seen, turned_seen}
use Rattle.affc_schedtext.proofs.TermReads.{none_stands, at_end, at_unseen, at_turn, answered}
use Rattle.affc_schedtext.proofs.reading.read_term.Goals as goal

pub returns-then-symbols-next : goal.returns-then-symbols-next
returns-then-symbols-next c = none_stands (scope_seen c.args.scope) c.args.symbols.now c.args.room (length c.args.symbols.now) c.args.next c.if-symbols-next.true

pub returns-then-not-is_seen : goal.returns-then-not-is_seen
returns-then-not-is_seen c =
    subst (Gives (map seen c.args.symbols.now) term c.ended.result)
    (sym (answered (scope_seen c.args.scope) c.args.symbols.now c.args.room c.args.next c.if-symbols-next.false (reading_seen c.loop-at.reading) c.loop-at.at c.loop-at.invariant.1 _
    (at_unseen (scope_seen c.args.scope) c.args.symbols.now (reading_seen c.loop-at.reading) c.loop-at.at c.index-symbols-at.result c.loop-at-test.true c.index-symbols-at.is (sym (c.if-not-is_seen.ensures)))))
    c.ended.ensures

pub returns-in-Off : goal.returns-in-Off
returns-in-Off c =
    subst (Gives (map seen c.args.symbols.now) term c.ended-in-Off.result)
    (sym (answered (scope_seen c.args.scope) c.args.symbols.now c.args.room c.args.next c.if-symbols-next.false (reading_seen c.loop-at.reading) c.loop-at.at c.loop-at.invariant.1 _
    (at_turn (scope_seen c.args.scope) c.args.symbols.now (reading_seen c.loop-at.reading) c.loop-at.at c.index-symbols-at.result c.loop-at-test.true c.index-symbols-at.is (sym (c.if-not-is_seen.ensures)) (off (reading_seen c.in-Off.whole))
    (ap turned_seen (sym c.in-Off.is) ∙ c.in_ok-longer.ensures))))
    c.ended-in-Off.ensures

pub returns-in-Deep : goal.returns-in-Deep
returns-in-Deep c =
    answered (scope_seen c.args.scope) c.args.symbols.now c.args.room c.args.next c.if-symbols-next.false (reading_seen c.loop-at.reading) c.loop-at.at c.loop-at.invariant.1 _
    (at_turn (scope_seen c.args.scope) c.args.symbols.now (reading_seen c.loop-at.reading) c.loop-at.at c.index-symbols-at.result c.loop-at-test.true c.index-symbols-at.is (sym (c.if-not-is_seen.ensures)) deep
    (ap turned_seen (sym c.in-Deep.is) ∙ c.in_ok-longer.ensures))

pub loop-at-preserved : goal.loop-at-preserved
loop-at-preserved c =
    let lt = c.loop-at-test.true in (
      omega (arith, lt),
      sym (at_turn (scope_seen c.args.scope) c.args.symbols.now (reading_seen c.loop-at.reading) c.loop-at.at c.index-symbols-at.result c.loop-at-test.true c.index-symbols-at.is (sym (c.if-not-is_seen.ensures)) (going (reading_seen c.in-Going.longer))
          (ap turned_seen (sym c.in-Going.is) ∙ c.in_ok-longer.ensures)) ∙ c.loop-at.invariant.1,
    )

pub returns : goal.returns
returns c =
    subst (Gives (map seen c.args.symbols.now) term c.ended-2.result)
    (sym (answered (scope_seen c.args.scope) c.args.symbols.now c.args.room c.args.next c.if-symbols-next.false (reading_seen c.loop-at.reading) c.loop-at.at c.loop-at.invariant.1 _
    (at_end (scope_seen c.args.scope) c.args.symbols.now (reading_seen c.loop-at.reading) c.loop-at.at (omega (arith, c.loop-at-test.false)))))
    c.ended-2.ensures
