use Rattle.std.proofs.Common.{rules, ◌∙◌, ◌+◌, ap, subst, Ok, Err}
use Rattle.affc_leaf.specs.Bounds.{ranges_of}
use Rattle.affc_leaf.proofs.Halves.{halves_points}
use Rattle.affc_leaf.proofs.Steps.{low_least}
use Rattle.affc_split.specs.declared.search.Found.TheVariants.{Empty, Point}
use Rattle.affc_split.specs.declared.search.Side.TheVariants.{Low, High}
use Rattle.affc_split.specs.Search.{IsFound, part_of, other_side}
use Rattle.affc_split.specs.Searches.{AreFewer, Spends}
use Rattle.affc_split.proofs.Openings.{halves_parts}
use Rattle.affc_split.proofs.Spending.{failed_first, known, known_here, rest_searched, rest_stopped, refused, failed_opened, leaf_found, opened_searched, low_point, low_stopped, high_stopped, both_searched, sides, fewer_points}
use Rattle.affc_split.proofs.search.+search.Goals as goal

pub half-returns-in_err-part-clause-spends : goal.half-returns-in_err-part-clause-spends
half-returns-in_err-part-clause-spends t c = failed_first (AreFewer 0) 1 _ c.args.budget.now c.from_residual.result (search rules)

pub half-returns-in_err-open-clause-spends : goal.half-returns-in_err-open-clause-spends
half-returns-in_err-open-clause-spends t c =
    let o = c.open.ensures in
    refused (AreFewer 0) _ c.args.budget.now c.open.new.self c.from_residual-in_err-open.result (record { limit = o.limit; grows = o.grows; uncounted = o.uncounted })
    c.in_err-open.ensures.unspent (o.limit ∙ c.in_err-open.ensures.stop) (search rules)

pub half-returns-in_err-proof-clause-spends : goal.half-returns-in_err-proof-clause-spends
half-returns-in_err-proof-clause-spends t c =
    let o = c.open.ensures in
    failed_opened _ c.args.budget.now c.open.new.self c.from_residual-in_err-proof.result (record { limit = o.limit; grows = o.grows; uncounted = o.uncounted }) o.step (search rules)

pub half-returns-in-Empty-clause-spends : goal.half-returns-in-Empty-clause-spends
half-returns-in-Empty-clause-spends t c =
    let o = c.open.ensures in
    leaf_found _ c.args.budget.now c.open.new.self (Empty c.in-Empty.proof) (record { limit = o.limit; grows = o.grows; uncounted = o.uncounted }) o.step c.in_ok-open.ensures.counted

pub half-returns-in-Point-clause-spends : goal.half-returns-in-Point-clause-spends
half-returns-in-Point-clause-spends t c =
    let o = c.open.ensures in
    leaf_found _ c.args.budget.now c.open.new.self (Point c.in-Point.point) (record { limit = o.limit; grows = o.grows; uncounted = o.uncounted }) o.step c.in_ok-open.ensures.counted

pub half-returns-clause-spends : goal.half-returns-clause-spends
half-returns-clause-spends t c =
    let here = c.args.here.now in
    let o = c.open.ensures in
    opened_searched (AreFewer 0) (ranges_of (part_of c.args.side here.bounds.now c.args.split here.next)) (ranges_of c.as_slice.result.now) c.args.budget.now c.open.new.self c.inside.new.budget c.inside.result
    (ap ranges_of (c.as_slice.ensures.value ∙ c.in_ok-part.ensures.value)) (record { limit = o.limit; grows = o.grows; uncounted = o.uncounted }) o.step c.in_ok-open.ensures.counted c.inside.ensures.spends

pub halved-returns-in-Ok-Point-clause-answer : goal.halved-returns-in-Ok-Point-clause-answer
halved-returns-in-Ok-Point-clause-answer t c =
    let here = c.args.here.now in
    let s = c.args.split in
    low_least here.system.now here.bounds.now s.column s.at here.next c.in-Ok-Point.point.items c.requires.free c.requires.split.high_in
    (subst (λ f. IsFound here.system.now (part_of Low here.bounds.now s here.next) (here.next + 1) f) c.in-Ok-Point.field-0-is c.in-Ok-Point.ensures.answer)

pub halved-returns-in-Ok-Point-clause-spends : goal.halved-returns-in-Ok-Point-clause-spends
halved-returns-in-Ok-Point-clause-spends t c =
    let here = c.args.here.now in
    let bs = here.bounds.now in
    let s = c.args.split in
    let h = c.requires.split in
    let low = ranges_of (part_of Low bs s here.next) in
    let least = subst (λ f. IsFound here.system.now (part_of Low bs s here.next) (here.next + 1) f) c.in-Ok-Point.field-0-is c.in-Ok-Point.ensures.answer in
    low_point low (ranges_of (part_of High bs s here.next)) (ranges_of bs) c.args.budget.now c.half.new.budget c.in-Ok-Point.point
    (halves_parts bs s.column s.at here.next here.next c.requires.ready.box.ranges h.there h.low_in h.high_in)
    (halves_points bs s.column s.at here.next here.next h.there h.low_in h.high_in) least.inside
    (subst (λ f. Spends (AreFewer 0) 1 low c.args.budget.now c.half.new.budget (Ok f)) c.in-Ok-Point.field-0-is c.in-Ok-Point.ensures.spends)

pub halved-returns-in-Err-clause-spends : goal.halved-returns-in-Err-clause-spends
halved-returns-in-Err-clause-spends t c =
    let here = c.args.here.now in
    let bs = here.bounds.now in
    let s = c.args.split in
    let h = c.requires.split in
    low_stopped (ranges_of (part_of Low bs s here.next)) (ranges_of (part_of High bs s here.next)) (ranges_of bs) c.args.budget.now c.half.new.budget c.in-Err.stop
    (halves_points bs s.column s.at here.next here.next h.there h.low_in h.high_in) c.in-Err.ensures.spends

pub halved-returns-in-Ok-clause-spends : goal.halved-returns-in-Ok-clause-spends
halved-returns-in-Ok-clause-spends t c =
    let here = c.args.here.now in
    let bs = here.bounds.now in
    let s = c.args.split in
    let low = part_of Low bs s here.next in
    let empty = subst (λ f. IsFound here.system.now low (here.next + 1) f) c.in-Ok-Empty.field-0-is c.in-Ok-Empty.ensures.answer in
    both_searched here.system.now bs s here.next here.next c.args.budget.now c.half.new.budget c.half-2.new.budget c.in-Ok-Empty.low c.in-Ok.found c.beside.result
    c.requires.ready.box.ranges c.requires.free c.requires.split empty.none c.beside.ensures.answer c.beside.ensures.memory c.beside.ensures.beside
    (subst (λ f. Spends (AreFewer 0) 1 (ranges_of low) c.args.budget.now c.half.new.budget (Ok f)) c.in-Ok-Empty.field-0-is c.in-Ok-Empty.ensures.spends) c.in-Ok.ensures.spends

pub halved-returns-in-Err-half-clause-spends : goal.halved-returns-in-Err-half-clause-spends
halved-returns-in-Err-half-clause-spends t c =
    let here = c.args.here.now in
    let bs = here.bounds.now in
    let s = c.args.split in
    let h = c.requires.split in
    high_stopped (ranges_of (part_of Low bs s here.next)) (ranges_of (part_of High bs s here.next)) (ranges_of bs) c.args.budget.now c.half.new.budget c.half-2.new.budget
    c.in-Ok-Empty.field-0 c.in-Err-half.stop c.stopped.result (halves_points bs s.column s.at here.next here.next h.there h.low_in h.high_in) c.stopped.ensures
    c.in-Ok-Empty.ensures.spends c.in-Err-half.ensures.spends

pub inside-returns-in_err-found-clause-spends : goal.inside-returns-in_err-found-clause-spends
inside-returns-in_err-found-clause-spends t c = failed_first (AreFewer 0) 0 _ c.args.budget.now c.from_residual.result (search rules)

pub inside-returns-in-Some-clause-spends : goal.inside-returns-in-Some-clause-spends
inside-returns-in-Some-clause-spends t c = known _ c.args.budget.now c.in-Some.found

pub inside-returns-in_err-trim-clause-spends : goal.inside-returns-in_err-trim-clause-spends
inside-returns-in_err-trim-clause-spends t c = failed_first (AreFewer 0) 0 _ c.args.budget.now c.from_residual-in_err-trim.result (search rules)

pub inside-returns-in_err-proof-clause-spends : goal.inside-returns-in_err-proof-clause-spends
inside-returns-in_err-proof-clause-spends t c = failed_first (AreFewer 0) 0 _ c.args.budget.now c.from_residual-in_err-proof.result (search rules)

pub inside-returns-in-Some-3-clause-spends : goal.inside-returns-in-Some-3-clause-spends
inside-returns-in-Some-3-clause-spends t c = known _ c.args.budget.now (Empty c.in-Some-3.proof)

pub inside-returns-in-None-clause-spends : goal.inside-returns-in-None-clause-spends
inside-returns-in-None-clause-spends t c = known_here _ c.args.budget.now c.single.result c.single.ensures.memory

pub trimmed-returns-in-Ok-clause-spends : goal.trimmed-returns-in-Ok-clause-spends
trimmed-returns-in-Ok-clause-spends t c =
    let here = c.args.here.now in
    let bs = here.bounds.now in
    let trim = c.args.trim in
    let rest = part_of (other_side trim.side) bs trim.split here.next in
    rest_searched (ranges_of rest) (ranges_of (part_of trim.side bs trim.split here.next)) (ranges_of bs) c.args.budget.now c.inside.new.budget _ c.in-Ok.found c.beside.result
    (sides bs trim.split trim.side here.next c.requires.ready.box.ranges c.requires.trim.split) (fewer_points bs trim.split (other_side trim.side) here.next c.requires.trim.split)
    c.beside.ensures.memory c.beside.ensures.beside
    (subst (λ v. Spends (AreFewer 0) 0 (ranges_of v) c.args.budget.now c.inside.new.budget (Ok c.in-Ok.found)) (c.as_slice.ensures.value ∙ c.requires.trim.rest) c.in-Ok.ensures.spends)

pub trimmed-returns-clause-spends : goal.trimmed-returns-clause-spends
trimmed-returns-clause-spends t c =
    let here = c.args.here.now in
    let bs = here.bounds.now in
    let trim = c.args.trim in
    let rest = part_of (other_side trim.side) bs trim.split here.next in
    rest_stopped (ranges_of rest) (ranges_of bs) c.args.budget.now c.inside.new.budget c.in-Err.stop c.stopped.result
    (fewer_points bs trim.split (other_side trim.side) here.next c.requires.trim.split) c.stopped.ensures
    (subst (λ v. Spends (AreFewer 0) 0 (ranges_of v) c.args.budget.now c.inside.new.budget (Err c.in-Err.stop)) (c.as_slice.ensures.value ∙ c.requires.trim.rest) c.in-Err.ensures.spends)
