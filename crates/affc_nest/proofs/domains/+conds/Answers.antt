use Rattle.std.proofs.Common.{rules, arith, sym, ap, ◌∙◌}
use Rattle.std.proofs.lemmas.Result.{on_ok_weaker}
use Rattle.affc_ast.specs.declared.tree.Cond.{the_lemmas as cond_lemmas}
use Rattle.affc_nest.specs.Domains.{test_rows, with_rows}
use Rattle.affc_nest.proofs.CondLemmas.{all_plain, all_counted, all_tested, any_plain, any_counted, any_tested, room_by, grows_by, rest_plain, rest_room, rest_grows, rest_rows}
use Rattle.affc_nest.proofs.RowLemmas.{columns_stay}
use Rattle.affc_nest.proofs.domains.+conds.Goals as goal

pub add_cond-add_conds-requires : goal.add_cond-add_conds-requires
add_cond-add_conds-requires t c =
    let x = c.args.cond.now in
    let n = all_counted x c.in-All.conds c.as_slice.result.now c.in-All.is c.as_slice.ensures in
    (first_of (grind (arith, cond_lemmas), search (rules, cond_lemmas)), (all_plain x c.in-All.conds c.as_slice.result.now c.in-All.is c.as_slice.ensures c.args.names c.requires.plain, (c.requires.columns, room_by _ _ _ n c.requires.room)))

pub add_cond-add_conds-requires-in-Any : goal.add_cond-add_conds-requires-in-Any
add_cond-add_conds-requires-in-Any t c =
    let x = c.args.cond.now in
    let n = any_counted x c.in-Any.conds c.as_slice-in-Any.result.now c.in-Any.is c.as_slice-in-Any.ensures in
    (first_of (grind (arith, cond_lemmas), search (rules, cond_lemmas)), (any_plain x c.in-Any.conds c.as_slice-in-Any.result.now c.in-Any.is c.as_slice-in-Any.ensures c.args.names c.requires.plain, (c.requires.columns, room_by _ _ _ n c.requires.room)))

pub add_cond-returns-else-is_denied-clause-value : goal.add_cond-returns-else-is_denied-clause-value
add_cond-returns-else-is_denied-clause-value t c =
    on_ok_weaker c.add_conds.result
    (λ e. e ∙ ap (λ ds. with_rows c.args.system.now (test_rows c.args.names c.args.more ds)) (all_tested c.args.cond.now c.in-All.conds c.as_slice.result.now c.in-All.is c.as_slice.ensures c.args.is_denied c.if-is_denied.false))
    c.add_conds.ensures.value

pub add_cond-returns-else-is_denied-clause-grows : goal.add_cond-returns-else-is_denied-clause-grows
add_cond-returns-else-is_denied-clause-grows t c =
    on_ok_weaker c.add_conds.result (grows_by _ _ _ _ (sym (all_counted c.args.cond.now c.in-All.conds c.as_slice.result.now c.in-All.is c.as_slice.ensures))) c.add_conds.ensures.grows

pub add_cond-returns-else-not-is_denied-clause-value : goal.add_cond-returns-else-not-is_denied-clause-value
add_cond-returns-else-not-is_denied-clause-value t c =
    on_ok_weaker c.add_conds-in-Any.result
    (λ e. e ∙ ap (λ ds. with_rows c.args.system.now (test_rows c.args.names c.args.more ds))
    (any_tested c.args.cond.now c.in-Any.conds c.as_slice-in-Any.result.now c.in-Any.is c.as_slice-in-Any.ensures c.args.is_denied c.if-not-is_denied.false))
    c.add_conds-in-Any.ensures.value

pub add_cond-returns-else-not-is_denied-clause-grows : goal.add_cond-returns-else-not-is_denied-clause-grows
add_cond-returns-else-not-is_denied-clause-grows t c =
    on_ok_weaker c.add_conds-in-Any.result (grows_by _ _ _ _ (sym (any_counted c.args.cond.now c.in-Any.conds c.as_slice-in-Any.result.now c.in-Any.is c.as_slice-in-Any.ensures))) c.add_conds-in-Any.ensures.grows

pub add_conds-loop-cond-preserved : goal.add_conds-loop-cond-preserved
add_conds-loop-cond-preserved t c =
    let cs = c.args.conds.now in
    let i = c.loop-cond.cond-index in
    let x = c.cond-item.result in
    let added = c.in_ok-add_cond.ensures in
    record {
      plain = rest_plain cs i x c.loop-cond-test.true c.cond-item.is c.args.names c.loop-cond.invariant.plain;
      columns = columns_stay c.loop-cond.system c.add_cond.new.system _ added.value ∙ c.loop-cond.invariant.columns;
      room = rest_room cs i x c.loop-cond-test.true c.cond-item.is _ _ added.grows c.loop-cond.invariant.room;
      value = rest_rows cs i x c.loop-cond-test.true c.cond-item.is c.args.names c.args.more c.args.is_denied c.loop-cond.system c.add_cond.new.system _ added.value c.loop-cond.invariant.value;
      grows = rest_grows cs i x c.loop-cond-test.true c.cond-item.is _ _ _ added.grows c.loop-cond.invariant.grows;
    }
