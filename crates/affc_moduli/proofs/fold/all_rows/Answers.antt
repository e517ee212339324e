use Rattle.std.proofs.Common.{◌≡◌, ◌∙◌, ◌+◌, ◌∷◌, ◌++◌, [], sym, ap, subst, refl, length, arith}
use Rattle.std.specs.Prelude.{slice_get, get_or, Some}
use Rattle.std.proofs.lemmas.List.{length-append}
use Rattle.std.proofs.lemmas.Option.{slice_get-get_or}
use Rattle.affc_split.proofs.maximum.Laters.{then_later}
use Rattle.affc_moduli.specs.Rows.{AreKept, AreMarkedOr}
use Rattle.affc_moduli.proofs.OneRow.{slices_reduced}
use Rattle.affc_moduli.proofs.Results.{done_more, marked_more, marked_later}
use Rattle.affc_moduli.proofs.Spent.{none_later}
use Rattle.affc_moduli.proofs.fold.all_rows.Goals as goal

pub row_done-requires-clause-row : goal.row_done-requires-clause-row
row_done-requires-clause-row c = slice_get-get_or c.args.given.now.rows.now c.loop-k.k c.index-given-k.result (omega arith)

pub row_done-requires-clause-slices : goal.row_done-requires-clause-slices
row_done-requires-clause-slices c =
    slices_reduced c.args.given.now.context.now c.args.given.now.ranges.now c.args.given.now.rows.now c.loop-k.k c.args.given.now.pairs.now c.loop-k.regions c.reduce_all.new.regions (c.loop-k.invariant.slices c.loop-k-test.true) c.in-Ok.ensures

pub row_done-requires-clause-none : goal.row_done-requires-clause-none
row_done-requires-clause-none c = none_later c.args.given.now.some.now c.args.budget.now c.loop-k.budget c.loop-k.invariant.later c.requires.none

pub loop-k-preserved : goal.loop-k-preserved
loop-k-preserved c =
    let context = c.args.given.now.context.now in
    let ranges = c.args.given.now.ranges.now in
    let systems = c.args.given.now.pairs.now in
    let rows = c.args.given.now.rows.now in
    let made = c.loop-k.made in
    let m = c.in_ok-modulus.modulus in
    let e = c.in-Ok-push.ensures.ok in
    let count = c.loop-k.invariant.count in
    let row = get_or rows c.loop-k.k c.index-given-k.result in
    let at : slice_get rows c.loop-k.k ≡ Some row = slice_get-get_or rows c.loop-k.k c.index-given-k.result (omega arith) in
    let grown : length (made ++ m ∷ []) ≡ c.loop-k.k + 1 = let l = length-append made (m ∷ []) in omega arith in
    record {
      count = ap length e ∙ grown;
      kept = subst (λ ms. AreKept context ranges systems rows ms) (sym e)
          (done_more context ranges systems rows made c.loop-k.k row m count at c.in_ok-modulus.ensures.kept c.loop-k.invariant.kept);
      bound = subst (AreMarkedOr c.row_done.new.budget) (sym e)
          (marked_more c.row_done.new.budget made m c.in_ok-modulus.ensures.bound (marked_later c.loop-k.budget c.row_done.new.budget made c.row_done.ensures.later c.loop-k.invariant.bound));
      slices = c.in_ok-modulus.ensures.slices;
      later = then_later c.args.budget.now c.loop-k.budget c.row_done.new.budget c.loop-k.invariant.later c.row_done.ensures.later;
    }
