use Rattle.std.proofs.Common.{◌≡◌, ◌+◌, [], ◌∷◌, ◌++◌, get_or, drop, ap, ◌∙◌, arith, rules}
use Rattle.std.proofs.lemmas.Grind.{common_steps}
use Rattle.std.proofs.lemmas.List.{get_or_default}
use Rattle.affc_leaf.specs.BoxCuts.{behind}
use Rattle.affc_leaf.proofs.BoxCuts.{behind_step}
use Rattle.affc_leaf.proofs.box_cuts.joined.Goals as goal

pub loop-pair-preserved : goal.loop-pair-preserved
loop-pair-preserved c =
    let next = c.args.next in
    let over = c.args.over.now in
    let i = c.loop-pair.pair-index in
    let pairs = c.loop-pair.pairs.items in
    let p = get_or over i (0, 0) in
    let e : c.push.new.self.items ≡ pairs ++ (next + p.0, p.1) ∷ [] = first_of (cc, search rules, grind (arith, common_steps)) in
    ap (λ l. l ++ behind next (drop (i + 1) over)) e ∙ behind_step next i over p pairs c.loop-pair-test.true (get_or_default over i (0, 0) p c.loop-pair-test.true) ∙ c.loop-pair.invariant
