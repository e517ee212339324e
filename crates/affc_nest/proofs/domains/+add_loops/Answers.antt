use Rattle.std.proofs.Common.{◌≡◌, ◌∷◌, ◌+◌, ◌-◌, pos, length, take, drop, get_or, List, ℤ, refl, ap, sym, subst, ◌∙◌}
use Rattle.affc_domain.specs.Rounds.{Loop}
use Rattle.affc_domain.proofs.Lists.{tail_is}
use Rattle.affc_nest.specs.declared.frames.Frame.{Frame}
use Rattle.affc_nest.specs.Frames.{seen, all_seen}
use Rattle.affc_nest.specs.Domains.{range_rows, with_rows}
use Rattle.affc_nest.specs.Sides.{NearRanges}
use Rattle.affc_nest.proofs.IntervalLemmas.{same_range}
use Rattle.affc_nest.proofs.RowLemmas.{loops_last}
use Rattle.affc_nest.proofs.domains.+add_loops.Goals as goal

pub returns-in_ok-add_loops-in-len1-up-ranges-clause-value : goal.returns-in_ok-add_loops-in-len1-up-ranges-clause-value
returns-in_ok-add_loops-in-len1-up-ranges-clause-value t c =
    let fs : List Frame = c.args.frames.now in
    let rest : List Frame = take (length fs - 1) (drop 1 fs) in
    let f : fs ≡ get_or fs 0 c.frame-item.result ∷ rest = tail_is fs c.frame-item.result c.in-len1-up.len_at_least in
    let g : all_seen fs ≡ Loop c.in-Loop.iter.now c.in-Loop.low.now c.in-Loop.rel c.in-Loop.high.now ∷ all_seen rest =
    ap all_seen f ∙ ap (λ (x : Frame). seen x ∷ all_seen rest) (sym c.frame-item.is ∙ c.in-Loop.is) in
    let h : c.args.ranges.now ≡ get_or c.args.ranges.now 0 (pos 0, pos 0) ∷ take (length c.args.ranges.now - 1) (drop 1 c.args.ranges.now) = tail_is c.args.ranges.now (pos 0, pos 0) c.in-len1-up-ranges.len_at_least in
    let x : ℤ × ℤ = get_or c.args.ranges.now 0 (pos 0, pos 0) in
    let near : NearRanges (x ∷ take (length c.args.ranges.now - 1) (drop 1 c.args.ranges.now)) = subst NearRanges h c.requires.near in
    let added : c.add_range.new.system ≡ with_rows c.add_bounds.new.system (range_rows c.add_bounds.new.system.columns c.args.names x) =
    c.in_ok-add_range-in-len1-up-ranges.ensures ∙ ap (λ r. with_rows c.add_bounds.new.system (range_rows c.add_bounds.new.system.columns c.args.names r)) (same_range x near.0 near.1) in
    loops_last c.args.system.now c.add_bounds.new.system c.add_range.new.system c.add_loops-in-len1-up-ranges.new.system c.args.names (c.args.names + 1) (c.columns.result - c.args.names)
    c.in-Loop.iter.now c.in-Loop.low.now c.in-Loop.rel c.in-Loop.high.now (get_or c.args.ranges.now 0 (pos 0, pos 0)) (take (length c.args.ranges.now - 1) (drop 1 c.args.ranges.now)) c.args.ranges.now (all_seen rest) (all_seen fs)
    g h c.requires.columns (ap (λ k. k - c.args.names) c.columns.ensures.value) refl c.in_ok-add_bounds-in-len1-up-ranges.ensures added c.in_ok-add_loops-in-len1-up-ranges.ensures.value
