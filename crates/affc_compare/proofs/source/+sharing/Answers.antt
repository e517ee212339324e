use Rattle.std.proofs.Common.{rules, ◌<◌, ◌^◌, map, refl, ap, subst, ◌∙◌, sym, arith}
use Rattle.affc_ast.specs.declared.tree.Stmt.{the_lemmas as stmt_lemmas}
use Rattle.affc_compare.proofs.NodeLemmas.{for_is, if_is, block_is, same_less, inner_less, fits_more}
use Rattle.affc_compare.specs.Sharing.{sharing, assigns_among, loops_among}
use Rattle.affc_compare.proofs.SharedLemmas.{in_body, first_in_body, second_in_body, in_other, few_of_body, few_of_other}
use Rattle.affc_compare.proofs.source.+sharing.Goals as goal

pub loops_in-loops_among-requires : goal.loops_in-loops_among-requires
loops_in-loops_among-requires t c =
    let is = for_is c.args.s.now c.in-For.iter c.in-For.low c.in-For.rel c.in-For.high c.in-For.body c.as_slice.result.now c.in-For.is c.as_slice.ensures in
    (grind (arith, stmt_lemmas), (same_less _ _ _ is.assigns c.requires.few, inner_less _ _ _ (is.loops c.args.a c.args.b) c.requires.shallow))

pub loops_in-overflow_add-result : goal.loops_in-overflow_add-result
loops_in-overflow_add-result t c =
    let is = for_is c.args.s.now c.in-For.iter c.in-For.low c.in-For.rel c.in-For.high c.in-For.body c.as_slice.result.now c.in-For.is c.as_slice.ensures in
    fits_more c.loops_among.result _ _ c.loops_among.ensures (is.loops c.args.a c.args.b) c.requires.shallow

pub loops_in-loops_among-requires-then-b-count : goal.loops_in-loops_among-requires-then-b-count
loops_in-loops_among-requires-then-b-count t c =
    let is = if_is c.args.s.now c.in-If.cond c.in-If.body c.in-If.other c.as_slice-in-If.result.now c.in-If.other c.in-If.is c.as_slice-in-If.ensures refl in
    let same = c.as_slice-then-b-count.ensures ∙ sym c.as_slice-in-If.ensures in
    let few = few_of_body c.args.s.now c.as_slice-in-If.result.now c.in-If.other c.args.a c.args.b c.count_among-count.result is c.count_among-count.ensures c.requires.few in
    let shares = in_body c.args.s.now c.as_slice-in-If.result.now c.in-If.other c.args.a c.args.b c.count_among-count.result is c.count_among-count.ensures c.if-a-count.true c.if-b-count.true in (
      grind (arith, stmt_lemmas),
      (subst (λ ss. assigns_among (map sharing ss) < 2 ^ 32) (sym same) few, same_less _ _ _ (shares ∙ ap (λ ss. loops_among (map sharing ss) c.args.a c.args.b) (sym same)) c.requires.shallow),
    )

pub loops_in-returns-then-b-count : goal.loops_in-returns-then-b-count
loops_in-returns-then-b-count t c =
    let is = if_is c.args.s.now c.in-If.cond c.in-If.body c.in-If.other c.as_slice-in-If.result.now c.in-If.other c.in-If.is c.as_slice-in-If.ensures refl in
    c.loops_among-then-b-count.ensures ∙ ap (λ ss. loops_among (map sharing ss) c.args.a c.args.b) (c.as_slice-then-b-count.ensures ∙ sym c.as_slice-in-If.ensures)
    ∙ sym (in_body c.args.s.now c.as_slice-in-If.result.now c.in-If.other c.args.a c.args.b c.count_among-count.result is c.count_among-count.ensures c.if-a-count.true c.if-b-count.true)

pub loops_in-returns-then-a-count : goal.loops_in-returns-then-a-count
loops_in-returns-then-a-count t c =
    let is = if_is c.args.s.now c.in-If.cond c.in-If.body c.in-If.other c.as_slice-in-If.result.now c.in-If.other c.in-If.is c.as_slice-in-If.ensures refl in
    sym (first_in_body c.args.s.now c.as_slice-in-If.result.now c.in-If.other c.args.a c.args.b c.count_among-count.result is c.count_among-count.ensures c.if-a-count.true c.if-b-count.false)

pub loops_in-returns-then-b-count-2 : goal.loops_in-returns-then-b-count-2
loops_in-returns-then-b-count-2 t c =
    let is = if_is c.args.s.now c.in-If.cond c.in-If.body c.in-If.other c.as_slice-in-If.result.now c.in-If.other c.in-If.is c.as_slice-in-If.ensures refl in
    sym (second_in_body c.args.s.now c.as_slice-in-If.result.now c.in-If.other c.args.a c.args.b c.count_among-count.result is c.count_among-count.ensures c.if-a-count.false c.if-b-count-2.true)

pub loops_in-loops_among-requires-in-If : goal.loops_in-loops_among-requires-in-If
loops_in-loops_among-requires-in-If t c =
    let is = if_is c.args.s.now c.in-If.cond c.in-If.body c.in-If.other c.as_slice-in-If.result.now c.as_slice-in-If-2.result.now c.in-If.is c.as_slice-in-If.ensures c.as_slice-in-If-2.ensures in
    let shares = in_other c.args.s.now c.as_slice-in-If.result.now c.as_slice-in-If-2.result.now c.args.a c.args.b c.count_among-count.result is c.count_among-count.ensures c.if-a-count.false c.if-b-count-2.false in
    (grind (arith, stmt_lemmas), (few_of_other c.args.s.now c.as_slice-in-If.result.now c.as_slice-in-If-2.result.now c.args.a c.args.b c.count_among-count.result is c.count_among-count.ensures c.requires.few, same_less _ _ _ shares c.requires.shallow))

pub loops_in-returns-else-b-count-2 : goal.loops_in-returns-else-b-count-2
loops_in-returns-else-b-count-2 t c =
    let is = if_is c.args.s.now c.in-If.cond c.in-If.body c.in-If.other c.as_slice-in-If.result.now c.as_slice-in-If-2.result.now c.in-If.is c.as_slice-in-If.ensures c.as_slice-in-If-2.ensures in
    c.loops_among-in-If.ensures ∙ sym (in_other c.args.s.now c.as_slice-in-If.result.now c.as_slice-in-If-2.result.now c.args.a c.args.b c.count_among-count.result is c.count_among-count.ensures c.if-a-count.false c.if-b-count-2.false)

pub loops_in-loops_among-requires-in-Block : goal.loops_in-loops_among-requires-in-Block
loops_in-loops_among-requires-in-Block t c =
    let is = block_is c.args.s.now c.in-Block.locals c.in-Block.body c.as_slice-in-Block.result.now c.in-Block.is c.as_slice-in-Block.ensures in
    (search (rules, stmt_lemmas), (same_less _ _ _ is.assigns c.requires.few, same_less _ _ _ (is.loops c.args.a c.args.b) c.requires.shallow))

pub loops_in-returns-in-For : goal.loops_in-returns-in-For
loops_in-returns-in-For t c =
    let is = for_is c.args.s.now c.in-For.iter c.in-For.low c.in-For.rel c.in-For.high c.in-For.body c.as_slice.result.now c.in-For.is c.as_slice.ensures in
    let e = is.loops c.args.a c.args.b in
    let l = c.loops_among.ensures in
    omega (arith, e, l)

pub loops_in-returns-in-Block : goal.loops_in-returns-in-Block
loops_in-returns-in-Block t c =
    let is = block_is c.args.s.now c.in-Block.locals c.in-Block.body c.as_slice-in-Block.result.now c.in-Block.is c.as_slice-in-Block.ensures in
    c.loops_among-in-Block.ensures ∙ sym (is.loops c.args.a c.args.b)
