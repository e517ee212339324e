use Rattle.std.proofs.Common.{arith, ◌≡◌, ◌∙◌, ◌+◌, ◌*◌, ◌++◌, ap, sym, subst, length}
use Rattle.std.proofs.lemmas.List.{length-append}
use Rattle.std.specs.List.{All}
use Rattle.affc_system.specs.Systems.{Rows, IsRow}
use Rattle.affc_farkas.specs.Proofs.{ValidProof}
use Rattle.affc_leaf.specs.Boxed.{with_box, box_rows}
use Rattle.affc_leaf.specs.Bounds.{ranges_of}
use Rattle.affc_leaf.specs.BoxCuts.{IsSeen}
use Rattle.affc_leaf.specs.Points.{IsLeastPoint}
use Rattle.affc_leaf.specs.Parts.{IsLeast, IsEmpty}
use Rattle.affc_leaf.proofs.Whole.{len_rows, ranges_back}
use Rattle.affc_leaf.proofs.Boxes.{boxed_least, boxed_valid}
use Rattle.affc_split.proofs.decision.seen_whole.Goals as goal

pub seen_by_rounds-requires-clause-next : goal.seen_by_rounds-requires-clause-next
seen_by_rounds-requires-clause-next c =
    let rows = c.args.system.now.rows in
    let columns = c.args.system.now.columns in
    let a = length-append rows (box_rows columns 0 c.args.ranges.now) in
    let b = len_rows columns 0 c.args.ranges.now in
    let e : length rows + 2 * columns ≡ length (rows ++ box_rows columns 0 c.args.ranges.now) = omega (arith, a, b, c.requires.columns) in
    c.requires.next ∙ e ∙ ap (λ (s : Rows). length s.rows) (sym c.in_ok-boxed.ensures)

pub returns-in-Empty-clause-empty : goal.returns-in-Empty-clause-empty
returns-in-Empty-clause-empty c =
    let system = c.args.system.now in
    let bounds = c.args.bounds.now in
    let fit = subst (λ rs. All (IsRow system.columns) rs) c.rows-rows.ensures.rows c.rows-rows.ensures.fit in
    let a = subst (λ f. IsSeen c.in_ok-boxed.boxed bounds c.args.next f) c.in-Empty.is c.in_ok-proof.ensures in
    let b = subst (λ s. IsEmpty s bounds c.args.next c.in-Empty.proof.value) c.in_ok-boxed.ensures a in
    subst (λ p. ValidProof (with_box system c.args.ranges.now) p) (sym c.into_inner.ensures)
    (boxed_valid system c.args.ranges.now bounds c.args.next c.in-Empty.proof.value c.requires.columns c.requires.reach fit c.requires.bounds c.requires.next b)

pub returns-in-Point-clause-point : goal.returns-in-Point-clause-point
returns-in-Point-clause-point c =
    let system = c.args.system.now in
    let ranges = c.args.ranges.now in
    let x = c.in-Point.point.items in
    let a = subst (λ f. IsSeen c.in_ok-boxed.boxed c.args.bounds.now c.args.next f) c.in-Point.is c.in_ok-proof.ensures in
    let b = subst (λ s. IsLeast s c.args.bounds.now x) c.in_ok-boxed.ensures a in
    boxed_least system ranges x (subst (λ rs. IsLeastPoint (with_box system ranges) rs x) (ap ranges_of c.requires.bounds ∙ ranges_back (length system.rows) ranges) b)
