use Rattle.std.proofs.Common.{◌≡◌, ◌≤◌, ◌^◌, ℕ, ℤ, pos, arith}
use Rattle.std.specs.Prelude.{unsigned_abs}
use Rattle.std.proofs.lemmas.Int.{ints}
use Rattle.affc_moduli.proofs.Done.{kept_bound}
use Rattle.affc_moduli.proofs.Results.{both}
use Rattle.affc_moduli.proofs.Step.{wide}
use Rattle.affc_moduli.proofs.row.bounded.Goals as goal

size_of : (v : ℤ) (n : ℕ) → v ≡ pos n → n ≤ 2 ^ 53 → unsigned_abs v ≤ 2 ^ 53
size_of v n e h = omega (arith, ints)

pub unmarked-requires : goal.unmarked-requires
unmarked-requires c = size_of c.args.bound.now.most c.requires.far.0 c.requires.far.1 c.requires.far.2

pub returns : goal.returns
returns c =
    let dimensions = wide c.args.asked.now.given.context.now c.args.asked.now.given.ranges.now c.args.asked.now.given.extents.now c.args.asked.now.given.rows.now c.args.asked.now.given.pairs.now c.requires.asked.given.ready c.args.asked.now.line.k c.args.asked.now.line.row.now c.requires.asked.line.there c.args.asked.now.regions.now c.requires.asked.slices in
    both _ _ _ c.unmarked.result
    (λ m form mark. kept_bound c.args.asked.now.given.context.now c.args.asked.now.given.ranges.now c.args.asked.now.given.rows.now c.args.asked.now.line.k c.args.asked.now.line.row.now c.args.asked.now.given.pairs.now c.args.asked.now.regions.now c.requires.asked.slices dimensions
    c.columns.result c.args.bound.now.most c.columns.ensures.value c.requires.far m form mark)
    c.unmarked.ensures.form c.unmarked.ensures.mark
