use Rattle.std.proofs.Common.{◌∙◌, ap, subst, length}
use Rattle.std.specs.List.{All}
use Rattle.affc_system.specs.Systems.{IsRow}
use Rattle.std.proofs.lemmas.List.{length-map}
use Rattle.affc_leaf.proofs.Steps.{lows_answer}
use Rattle.affc_split.proofs.parts.single.Goals as goal

pub returns-clause-answer : goal.returns-clause-answer
returns-clause-answer c = lows_answer c.args.system.now c.args.bounds.now c.requires.width c.requires.ranges c.requires.single (subst (λ rs. All (IsRow c.args.system.now.columns) rs) c.rows-rows.ensures.rows c.rows-rows.ensures.fit) c.requires.none c.in-Ok.point.items c.in-Ok.ensures (ap length c.in-Ok.ensures ∙ length-map _ _)
