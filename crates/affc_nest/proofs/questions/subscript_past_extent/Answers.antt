use Rattle.std.proofs.Common.{◌≤◌, ℕ, Fits, w32, rules, arith, subst, sym}
use Rattle.affc_nest.specs.Questions.{widened}
use Rattle.affc_nest.specs.Sides.{IsSide}
use Rattle.affc_nest.proofs.QuestionProofs.{sub_side, extent_side_wide, domain_few, few_numbered}
use Rattle.affc_nest.proofs.questions.subscript_past_extent.Goals as goal

few_fit : (n : ℕ) → n ≤ 6 → Fits w32 n
few_fit n h = first_of (omega (arith, h), search (rules, h), grind (arith, h))

pub overflow_cast-coordinates : goal.overflow_cast-coordinates
overflow_cast-coordinates c = few_fit c.coordinates-coordinates.result (subst (λ n. n ≤ 6) (sym c.coordinates-coordinates.ensures) (few_numbered c.args.nest.now c.args.entry.now c.requires.nest c.requires.entry))

pub past-requires-clause-side : goal.past-requires-clause-side
past-requires-clause-side c = sub_side c.args.nest.now c.args.entry.now c.args.sub.now c.requires.nest c.requires.entry c.requires.sub

pub past-requires-clause-extent : goal.past-requires-clause-extent
past-requires-clause-extent c =
    subst (λ k. IsSide c.args.entry.now.domain.columns (widened k c.args.extent.now)) (sym c.coordinates-coordinates.ensures)
    (extent_side_wide c.args.nest.now c.args.entry.now c.args.extent.now c.requires.nest c.requires.entry c.requires.extent)

pub past-requires-clause-room : goal.past-requires-clause-room
past-requires-clause-room c = domain_few c.args.nest.now c.args.entry.now c.requires.nest c.requires.entry
