use Rattle.std.proofs.Common.{◌++◌, ap, ◌∙◌}
use Rattle.std.proofs.lemmas.Result.{IfOk-weaker}
use Rattle.affc_latest.proofs.LaterLemmas.{cast_fits, columns_few, orders_at, says_earlier, point_long}
use Rattle.affc_latest.proofs.later.is_earlier.Goals as goal

pub overflow_cast-columns : goal.overflow_cast-columns
overflow_cast-columns c =
    cast_fits c.args.nest.now c.requires.nest c.args.first.now c.args.second.now c.requires.first c.requires.second c.len-columns.result
    (c.len-columns.ensures
    ∙ point_long c.args.nest.now c.args.p.now c.in_ok-point.point c.args.first.now c.args.second.now c.requires.params c.requires.first c.requires.second
    (c.in_ok-point.ensures ∙ ap (λ xs. c.args.p.now ++ (xs ++ c.as_slice-2.result.now)) c.as_slice.ensures ∙ ap (λ xs. c.args.p.now ++ (c.args.first.now.iterators ++ xs)) c.as_slice-2.ensures))

pub meets_one-requires-clause-few : goal.meets_one-requires-clause-few
meets_one-requires-clause-few c =
    columns_few c.args.nest.now c.requires.nest c.args.first.now c.args.second.now c.requires.first c.requires.second c.len-columns.result
    (c.len-columns.ensures
    ∙ point_long c.args.nest.now c.args.p.now c.in_ok-point.point c.args.first.now c.args.second.now c.requires.params c.requires.first c.requires.second
    (c.in_ok-point.ensures ∙ ap (λ xs. c.args.p.now ++ (xs ++ c.as_slice-2.result.now)) c.as_slice.ensures ∙ ap (λ xs. c.args.p.now ++ (c.args.first.now.iterators ++ xs)) c.as_slice-2.ensures))

pub meets_one-requires-clause-fit : goal.meets_one-requires-clause-fit
meets_one-requires-clause-fit c =
    orders_at c.args.nest.now c.args.first.now c.args.second.now c.len-columns.result c.as_slice-3.result.now c.in_ok-orders.orders.items c.as_slice-3.ensures.value c.in_ok-orders.ensures.fit
    (c.len-columns.ensures
    ∙ point_long c.args.nest.now c.args.p.now c.in_ok-point.point c.args.first.now c.args.second.now c.requires.params c.requires.first c.requires.second
    (c.in_ok-point.ensures ∙ ap (λ xs. c.args.p.now ++ (xs ++ c.as_slice-2.result.now)) c.as_slice.ensures ∙ ap (λ xs. c.args.p.now ++ (c.args.first.now.iterators ++ xs)) c.as_slice-2.ensures))

pub returns : goal.returns
returns c =
    IfOk-weaker c.meets_one.result _ _
    (λ t h. says_earlier c.args.nest.now c.args.first.now c.args.second.now c.len-columns.result c.as_slice-3.result.now c.in_ok-orders.orders.items c.as_slice-3.ensures.value c.as_slice-4.result.now
    (c.args.p.now ++ (c.args.first.now.iterators ++ c.args.second.now.iterators)) t c.in_ok-orders.ensures.rows (c.as_slice-4.ensures ∙ c.in_ok-point.ensures ∙ ap (λ xs. c.args.p.now ++ (xs ++ c.as_slice-2.result.now)) c.as_slice.ensures ∙ ap (λ xs. c.args.p.now ++ (c.args.first.now.iterators ++ xs)) c.as_slice-2.ensures)
    (c.len-columns.ensures
    ∙ point_long c.args.nest.now c.args.p.now c.in_ok-point.point c.args.first.now c.args.second.now c.requires.params c.requires.first c.requires.second
    (c.in_ok-point.ensures ∙ ap (λ xs. c.args.p.now ++ (xs ++ c.as_slice-2.result.now)) c.as_slice.ensures ∙ ap (λ xs. c.args.p.now ++ (c.args.first.now.iterators ++ xs)) c.as_slice-2.ensures))
    h)
    c.meets_one.ensures
