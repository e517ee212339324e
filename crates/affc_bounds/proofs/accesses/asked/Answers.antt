use Rattle.std.proofs.Common.{List, ℤ, Some, length, ap, subst, sym}
use Rattle.affc_bounds.specs.Looks.{IsLeastIn}
use Rattle.affc_bounds.proofs.AccessLemmas.{asked_first}
use Rattle.affc_bounds.proofs.accesses.asked.Goals as goal

pub returns-in_ok-found-in-Some-clause-first : goal.returns-in_ok-found-in-Some-clause-first
returns-in_ok-found-in-Some-clause-first c =
    asked_first c.args.look.now.nest.now c.args.look.now.entry.now c.args.access (length c.ranges-numbers.result.now) c.args.array c.args.question.now c.args.look.now.ranges.now
    c.as_slice.result.now c.split_at.result.0.now c.split_at.result.1.now c.in_ok-found-in-Some.found
    c.requires.ranges (ap length c.ranges-numbers.ensures.ranges)
    (subst (λ (x : List ℤ). IsLeastIn c.args.question.now c.args.look.now.ranges.now (Some x)) (sym c.as_slice.ensures)
    (subst (IsLeastIn c.args.question.now c.args.look.now.ranges.now) c.in-Some.is c.in_ok-least_point.ensures.least))
    c.split_at.ensures.front c.split_at.ensures.back c.split_at.ensures.front_len c.in_ok-found-in-Some.ensures.key c.in_ok-found-in-Some.ensures.fault
