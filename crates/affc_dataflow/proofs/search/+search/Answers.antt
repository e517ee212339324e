use Rattle.std.proofs.Common.{◌≡◌, suc, ◌-◌, ◌≤◌, pos, ◌+ℤ◌, to_z, of_z, w64, rules, [], ◌∷◌, ◌++◌, length, get_or, map, take, drop, ap, subst, ◌∙◌, arith}
use Rattle.std.proofs.lemmas.Result.{IfOk-weaker}
use Rattle.affc_system.specs.Boxes.{IsRange, pin}
use Rattle.affc_quast.specs.Seen.{seen}
use Rattle.affc_quast.specs.Trees.{Test}
use Rattle.affc_dataflow.specs.Searches.{Covers, part_box, Fuel, IsSlightRange}
use Rattle.affc_dataflow.proofs.HalfLemmas.{test_form, halves_cover, next_covers, leaf_covers, next_fuel}
use Rattle.affc_dataflow.proofs.PartLemmas.{passed, next_passed, less_passed, not_less_passed, part_passed, covers_passed, middle_passed, some_left, at_slight, behind_slight, low_part, high_part, equal_ends, first_there, next_width, rest_all, then_later}
use Rattle.affc_dataflow.proofs.SlightLemmas.{one_more_slight, few_columns, front_fits, back_fits}
use Rattle.affc_dataflow.proofs.search.+search.Goals as goal

pub overflow_sub-left : goal.overflow_sub-left
overflow_sub-left t c =
    let r = c.requires in
    let m = middle_passed c.args.low c.args.high _ _ c.middle-at.result (passed c.args.low r.range_slight.0) (passed c.args.high r.range_slight.1) c.middle-at.ensures.low_in c.middle-at.ensures.high_in c.middle-at.ensures.low_half c.middle-at.ensures.high_half in
    some_left c.args.left c.args.low c.args.high c.middle-at.result c.args.rest.now m (less_passed c.args.low c.args.high _ _ (passed c.args.low r.range_slight.0) (passed c.args.high r.range_slight.1) c.if-low-high.true) r.range_slight r.fuel

pub search-requires : goal.search-requires
search-requires t c =
    let r = c.requires in
    let el = passed c.args.low r.range_slight.0 in
    let m = middle_passed c.args.low c.args.high _ _ c.middle-at.result el (passed c.args.high r.range_slight.1) c.middle-at.ensures.low_in c.middle-at.ensures.high_in c.middle-at.ensures.low_half c.middle-at.ensures.high_half in
    let one : 1 ≤ c.args.left = some_left c.args.left c.args.low c.args.high c.middle-at.result c.args.rest.now m (less_passed c.args.low c.args.high _ _ (passed c.args.low r.range_slight.0) (passed c.args.high r.range_slight.1) c.if-low-high.true) r.range_slight r.fuel in
    let slight = at_slight c.args.left c.args.low c.args.high c.middle-at.result c.args.rest.now m (less_passed c.args.low c.args.high _ _ (passed c.args.low r.range_slight.0) (passed c.args.high r.range_slight.1) c.if-low-high.true) r.range_slight r.fuel in
    let part = part_passed (c.args.left - 1) c.args.low c.middle-at.result _ _ c.args.rest.now el (passed c.middle-at.result slight)
    (low_part c.args.left c.args.low c.args.high c.middle-at.result c.args.rest.now m (less_passed c.args.low c.args.high _ _ (passed c.args.low r.range_slight.0) (passed c.args.high r.range_slight.1) c.if-low-high.true) r.range_slight r.fuel) in
    (first_of (omega (arith, c.decreases, one), search (rules, one)), (r.load, (r.width, (part.ordered, (r.rest_ordered, (r.point_slight, (part.slight, (r.rest_slight, part.fuel))))))))

pub overflow_sub-left-then-low-high : goal.overflow_sub-left-then-low-high
overflow_sub-left-then-low-high t c =
    let r = c.requires in
    let m = middle_passed c.args.low c.args.high _ _ c.middle-at.result (passed c.args.low r.range_slight.0) (passed c.args.high r.range_slight.1) c.middle-at.ensures.low_in c.middle-at.ensures.high_in c.middle-at.ensures.low_half c.middle-at.ensures.high_half in
    some_left c.args.left c.args.low c.args.high c.middle-at.result c.args.rest.now m (less_passed c.args.low c.args.high _ _ (passed c.args.low r.range_slight.0) (passed c.args.high r.range_slight.1) c.if-low-high.true) r.range_slight r.fuel

pub search-requires-then-low-high : goal.search-requires-then-low-high
search-requires-then-low-high t c =
    let r = c.requires in
    let eh = passed c.args.high r.range_slight.1 in
    let m = middle_passed c.args.low c.args.high _ _ c.middle-at.result (passed c.args.low r.range_slight.0) eh c.middle-at.ensures.low_in c.middle-at.ensures.high_in c.middle-at.ensures.low_half c.middle-at.ensures.high_half in
    let one : 1 ≤ c.args.left = some_left c.args.left c.args.low c.args.high c.middle-at.result c.args.rest.now m (less_passed c.args.low c.args.high _ _ (passed c.args.low r.range_slight.0) (passed c.args.high r.range_slight.1) c.if-low-high.true) r.range_slight r.fuel in
    let slight = at_slight c.args.left c.args.low c.args.high c.middle-at.result c.args.rest.now m (less_passed c.args.low c.args.high _ _ (passed c.args.low r.range_slight.0) (passed c.args.high r.range_slight.1) c.if-low-high.true) r.range_slight r.fuel in
    let behind = behind_slight c.args.left c.args.low c.args.high c.middle-at.result c.args.rest.now m (less_passed c.args.low c.args.high _ _ (passed c.args.low r.range_slight.0) (passed c.args.high r.range_slight.1) c.if-low-high.true) r.range_slight r.fuel in
    let part = part_passed (c.args.left - 1) (c.middle-at.result +ℤ pos 1) c.args.high _ _ c.args.rest.now (next_passed c.middle-at.result slight behind) eh
    (high_part c.args.left c.args.low c.args.high c.middle-at.result c.args.rest.now m (less_passed c.args.low c.args.high _ _ (passed c.args.low r.range_slight.0) (passed c.args.high r.range_slight.1) c.if-low-high.true) r.range_slight r.fuel) in
    (first_of (omega (arith, c.decreases, one), search (rules, one)), (r.load, (r.width, (part.ordered, (r.rest_ordered, (r.point_slight, (part.slight, (r.rest_slight, part.fuel))))))))

pub overflow_cast-before : goal.overflow_cast-before
overflow_cast-before t c =
    let l = c.args.load.now in
    front_fits (length c.args.point.now) (length c.args.rest.now) (length l.nest.now.params) (length l.reader.now.loops) c.requires.width (few_columns l.nest.now l.reader.now l.access.now l.number c.requires.load)

pub overflow_cast-behind : goal.overflow_cast-behind
overflow_cast-behind t c =
    let l = c.args.load.now in
    back_fits (length c.args.point.now) (length c.args.rest.now) (length l.nest.now.params) (length l.reader.now.loops) c.requires.width (few_columns l.nest.now l.reader.now l.access.now l.number c.requires.load)

pub returns-then-low-high-clause-right : goal.returns-then-low-high-clause-right
returns-then-low-high-clause-right t c =
    let l = c.args.load.now in
    let r = c.requires in
    let el = passed c.args.low r.range_slight.0 in
    let eh = passed c.args.high r.range_slight.1 in
    let m = middle_passed c.args.low c.args.high _ _ c.middle-at.result el eh c.middle-at.ensures.low_in c.middle-at.ensures.high_in c.middle-at.ensures.low_half c.middle-at.ensures.high_half in
    let one : 1 ≤ c.args.left = some_left c.args.left c.args.low c.args.high c.middle-at.result c.args.rest.now m (less_passed c.args.low c.args.high _ _ (passed c.args.low r.range_slight.0) (passed c.args.high r.range_slight.1) c.if-low-high.true) r.range_slight r.fuel in
    let slight = at_slight c.args.left c.args.low c.args.high c.middle-at.result c.args.rest.now m (less_passed c.args.low c.args.high _ _ (passed c.args.low r.range_slight.0) (passed c.args.high r.range_slight.1) c.if-low-high.true) r.range_slight r.fuel in
    let behind = behind_slight c.args.left c.args.low c.args.high c.middle-at.result c.args.rest.now m (less_passed c.args.low c.args.high _ _ (passed c.args.low r.range_slight.0) (passed c.args.high r.range_slight.1) c.if-low-high.true) r.range_slight r.fuel in
    let ea = passed c.middle-at.result slight in
    halves_cover l.nest.now l.reader.now l.access.now c.args.point.now c.args.low c.args.high c.middle-at.result c.args.rest.now c.args.left (seen c.in_ok-yes.yes) (seen c.in_ok-no.no) (seen c.in_ok-tree-2.tree) r.width slight one
    (c.in_ok-tree-2.ensures ∙ ap (λ z. Test (test_form (length c.args.point.now) z (length c.args.rest.now)) (seen c.in_ok-yes.yes) (seen c.in_ok-no.no)) ea)
    (covers_passed l.nest.now l.reader.now l.access.now c.args.point.now c.args.low c.middle-at.result _ _ c.args.rest.now (c.args.left - 1) (seen c.in_ok-yes.yes) el ea c.in_ok-yes.ensures.right)
    (covers_passed l.nest.now l.reader.now l.access.now c.args.point.now (c.middle-at.result +ℤ pos 1) c.args.high _ _ c.args.rest.now (c.args.left - 1) (seen c.in_ok-no.no) (next_passed c.middle-at.result slight behind) eh c.in_ok-no.ensures.right)

pub returns-then-low-high-clause-later : goal.returns-then-low-high-clause-later
returns-then-low-high-clause-later t c =
    then_later c.args.budget.now c.search.new.budget c.search-then-low-high.new.budget
    (then_later c.args.budget.now c.guessed_in.new.budget c.search.new.budget c.in_ok-tree.ensures.later c.in_ok-yes.ensures.later) c.in_ok-no.ensures.later

pub leaf-requires-clause-slight : goal.leaf-requires-clause-slight
leaf-requires-clause-slight t c =
    let el = passed c.args.low c.requires.range_slight.0 in
    one_more_slight c.args.point.now c.as_slice.result.now c.args.low (c.as_slice.ensures ∙ c.in_ok-whole.ensures ∙ ap (λ z. c.args.point.now ++ z ∷ []) el) c.requires.point_slight c.requires.range_slight.0

pub returns-in-empty-clause-right : goal.returns-in-empty-clause-right
returns-in-empty-clause-right t c =
    let l = c.args.load.now in
    let el = passed c.args.low c.requires.range_slight.0 in
    IfOk-weaker c.leaf.result (λ q. Covers l.nest.now l.reader.now l.access.now (map pin c.as_slice.result.now) 0 (seen q))
    (λ q. Covers l.nest.now l.reader.now l.access.now (part_box c.args.point.now c.args.low c.args.high c.args.rest.now) c.args.left (seen q))
    (λ q h. leaf_covers l.nest.now l.reader.now l.access.now c.args.point.now c.as_slice.result.now c.args.low c.args.high c.args.rest.now c.args.left (seen q) (equal_ends c.args.low c.args.high c.requires.ordered (not_less_passed c.args.low c.args.high _ _ el (passed c.args.high c.requires.range_slight.1) c.if-low-high.false))
    (c.as_slice.ensures ∙ c.in_ok-whole.ensures ∙ ap (λ z. c.args.point.now ++ z ∷ []) el) (omega (arith, c.in-empty.len_below)) h)
    c.leaf.ensures.right

pub search-requires-in-len1-up : goal.search-requires-in-len1-up
search-requires-in-len1-up t c =
    let r = c.requires in
    let rest = c.args.rest.now in
    let some : 1 ≤ length rest = c.in-len1-up.len_at_least in
    let first = get_or rest 0 (pos 0, pos 0) in
    let more = take (length rest - 1) (drop 1 rest) in
    let q : rest ≡ first ∷ more = first_there rest (pos 0, pos 0) some in
    let w = c.as_slice-in-len1-up.ensures ∙ c.in_ok-whole.ensures ∙ ap (λ z. c.args.point.now ++ z ∷ []) (passed c.args.low r.range_slight.0) in
    let slight : IsSlightRange first = r.rest_slight 0 (pos 0, pos 0) some in
    let part = part_passed c.args.left first.0 first.1 _ _ more (passed first.0 slight.0) (passed first.1 slight.1)
    (record { ordered = r.rest_ordered 0 (pos 0, pos 0) some; slight = slight; fuel = subst (Fuel c.args.left) q (next_fuel c.args.left (c.args.low, c.args.high) rest r.fuel) }) in
    let fewer : length rest ≡ suc (length more) = ap length q in (
      first_of (omega (arith, c.decreases, fewer), search (rules, fewer)),
      (
        r.load,
        (
          next_width c.args.point.now c.as_slice-in-len1-up.result.now c.args.low rest more first _ w q r.width,
          (
            part.ordered,
            (
              rest_all IsRange rest more first q r.rest_ordered,
              (
                one_more_slight c.args.point.now c.as_slice-in-len1-up.result.now c.args.low w r.point_slight r.range_slight.0,
                (
                  part.slight,
                  (rest_all IsSlightRange rest more first q r.rest_slight, part.fuel),
                ),
              ),
            ),
          ),
        ),
      ),
    )

pub returns-clause-right : goal.returns-clause-right
returns-clause-right t c =
    let l = c.args.load.now in
    let r = c.requires in
    let rest = c.args.rest.now in
    let some : 1 ≤ length rest = c.in-len1-up.len_at_least in
    let first = get_or rest 0 (pos 0, pos 0) in
    let more = take (length rest - 1) (drop 1 rest) in
    let whole = c.as_slice-in-len1-up.result.now in
    let q : rest ≡ first ∷ more = first_there rest (pos 0, pos 0) some in
    let w = c.as_slice-in-len1-up.ensures ∙ c.in_ok-whole.ensures ∙ ap (λ z. c.args.point.now ++ z ∷ []) (passed c.args.low r.range_slight.0) in
    let slight : IsSlightRange first = r.rest_slight 0 (pos 0, pos 0) some in
    IfOk-weaker c.search-in-len1-up.result (λ t'. Covers l.nest.now l.reader.now l.access.now (part_box whole (to_z w64 (of_z w64 first.0)) (to_z w64 (of_z w64 first.1)) more) c.args.left (seen t'))
    (λ t'. Covers l.nest.now l.reader.now l.access.now (part_box c.args.point.now c.args.low c.args.high rest) c.args.left (seen t'))
    (λ t' h. next_covers l.nest.now l.reader.now l.access.now c.args.point.now whole c.args.low c.args.high first more rest c.args.left (seen t') (equal_ends c.args.low c.args.high r.ordered (not_less_passed c.args.low c.args.high _ _ (passed c.args.low r.range_slight.0) (passed c.args.high r.range_slight.1) c.if-low-high.false)) w q
    (covers_passed l.nest.now l.reader.now l.access.now whole first.0 first.1 _ _ more c.args.left (seen t') (passed first.0 slight.0) (passed first.1 slight.1) h))
    c.search-in-len1-up.ensures.right
