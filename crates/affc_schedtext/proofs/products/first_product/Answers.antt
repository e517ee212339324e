use Rattle.std.proofs.Common.{◌≤◌, length, map, ap, ◌∙◌, arith}
use Rattle.affc_syntax.specs.draft.Symbols.{seen}
use Rattle.affc_schedtext.specs.Products.{turn, walked, walk_seen, start}
use Rattle.affc_schedtext.proofs.ProductTurns.{one_turn, all_turns}
use Rattle.affc_schedtext.proofs.products.first_product.Goals as goal

pub returns : goal.returns
returns c =
    let le : length c.args.symbols.now ≤ c.loop-at.at = omega (arith, c.loop-at-test.false) in
    all_turns c.args.symbols.now c.loop-at.at (walk_seen c.loop-at.walk) le c.loop-at.invariant

pub loop-at-preserved : goal.loop-at-preserved
loop-at-preserved c =
    let w = walk_seen c.loop-at.walk in
    one_turn c.args.symbols.now c.loop-at.at c.index-symbols-at.result w (walk_seen c.in_ok-walk.walk) (walked 0 start (map seen c.args.symbols.now))
    c.loop-at-test.true c.index-symbols-at.is (c.in_ok-walk.ensures ∙ ap (turn c.loop-at.at w) c.sign_of.ensures) c.loop-at.invariant
