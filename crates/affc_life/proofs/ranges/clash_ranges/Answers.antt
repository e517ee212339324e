use Rattle.std.proofs.Common.{◌≡◌, ◌+◌, ◌≤◌, ◌++◌, List, ℤ, length, map, rules, sym, ap, subst, ◌∙◌}
use Rattle.std.specs.List.{All}
use Rattle.affc_system.specs.Pairs.{WithinReach}
use Rattle.affc_domain.proofs.Lists.{length_map}
use Rattle.affc_quast.specs.Leaves.{path_ranges}
use Rattle.affc_quast.specs.SeenLeaves.{division_seen, leaf_seen}
use Rattle.affc_life.specs.Asked.{AreDivisions}
use Rattle.affc_life.proofs.SeatedLemmas.{start_near, start_long, start_few, at_leaf}
use Rattle.affc_life.proofs.ranges.clash_ranges.Goals as goal

pub add_quotients-requires-clause-divisions : goal.add_quotients-requires-clause-divisions
add_quotients-requires-clause-divisions c =
    let copy : c.in_ok-ranges.ranges ≡ c.args.nest.now.params = search rules in
    let start : c.append.new.self ≡ c.args.nest.now.params ++ c.args.reader.now.ranges =
    c.in_ok-append.ensures ∙ ap (λ a. a ++ c.ranges-2.result.now) copy ∙ ap (λ b. c.args.nest.now.params ++ b) c.ranges-2.ensures.ranges in
    subst (λ (rs : List (ℤ × ℤ)). AreDivisions (length rs) (map division_seen c.as_slice.result.now)) (sym start)
    (subst (λ n. AreDivisions n (map division_seen c.as_slice.result.now)) (sym (start_long c.args.nest.now c.args.reader.now (leaf_seen c.args.leaf.now) c.args.writer.now (at_leaf c.args.nest.now c.args.reader.now (leaf_seen c.args.leaf.now) c.args.writer.now c.requires)))
    (subst (λ ds. AreDivisions (length c.args.nest.now.params + length c.args.reader.now.loops) (map division_seen ds)) (sym c.as_slice.ensures) c.requires.path.divisions))

pub add_quotients-requires-clause-near : goal.add_quotients-requires-clause-near
add_quotients-requires-clause-near c =
    let copy : c.in_ok-ranges.ranges ≡ c.args.nest.now.params = search rules in
    let start : c.append.new.self ≡ c.args.nest.now.params ++ c.args.reader.now.ranges =
    c.in_ok-append.ensures ∙ ap (λ a. a ++ c.ranges-2.result.now) copy ∙ ap (λ b. c.args.nest.now.params ++ b) c.ranges-2.ensures.ranges in
    subst (All WithinReach) (sym start) (start_near c.args.nest.now c.args.reader.now (leaf_seen c.args.leaf.now) c.args.writer.now (at_leaf c.args.nest.now c.args.reader.now (leaf_seen c.args.leaf.now) c.args.writer.now c.requires))

pub add_quotients-requires-clause-few : goal.add_quotients-requires-clause-few
add_quotients-requires-clause-few c =
    let copy : c.in_ok-ranges.ranges ≡ c.args.nest.now.params = search rules in
    let start : c.append.new.self ≡ c.args.nest.now.params ++ c.args.reader.now.ranges =
    c.in_ok-append.ensures ∙ ap (λ a. a ++ c.ranges-2.result.now) copy ∙ ap (λ b. c.args.nest.now.params ++ b) c.ranges-2.ensures.ranges in
    subst (λ (rs : List (ℤ × ℤ)). length rs + length c.as_slice.result.now ≤ 500) (sym start)
    (subst (λ n. length (c.args.nest.now.params ++ c.args.reader.now.ranges) + n ≤ 500) (length_map division_seen c.args.leaf.now.divisions ∙ ap length (sym c.as_slice.ensures)) (start_few c.args.nest.now c.args.reader.now (leaf_seen c.args.leaf.now) c.args.writer.now c.requires))

pub returns : goal.returns
returns c =
    let copy : c.in_ok-ranges.ranges ≡ c.args.nest.now.params = search rules in
    let start : c.append.new.self ≡ c.args.nest.now.params ++ c.args.reader.now.ranges =
    c.in_ok-append.ensures ∙ ap (λ a. a ++ c.ranges-2.result.now) copy ∙ ap (λ b. c.args.nest.now.params ++ b) c.ranges-2.ensures.ranges in
    c.in_ok-append-2.ensures ∙ ap (λ rs. rs ++ c.ranges-5.result.now) c.in_ok-add_quotients.ensures
    ∙ ap (λ rs. path_ranges rs (map division_seen c.as_slice.result.now) ++ c.ranges-5.result.now) start
    ∙ ap (λ ds. path_ranges (c.args.nest.now.params ++ c.args.reader.now.ranges) (map division_seen ds) ++ c.ranges-5.result.now) c.as_slice.ensures
    ∙ ap (λ rs. path_ranges (c.args.nest.now.params ++ c.args.reader.now.ranges) (map division_seen c.args.leaf.now.divisions) ++ rs) c.ranges-5.ensures.ranges
