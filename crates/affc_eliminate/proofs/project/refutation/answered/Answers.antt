use Rattle.std.proofs.Common.{◌<◌, length, get_or, sym, subst}
use Rattle.std.specs.List.{All}
use Rattle.affc_eliminate.specs.declared.kept.Kept.{Kept}
use Rattle.affc_eliminate.specs.project.States.{IsContradiction}
use Rattle.affc_eliminate.proofs.project.Contradictions.{leaf_of, some_point}
use Rattle.affc_eliminate.proofs.project.refutation.answered.Goals as goal

pub returns-in-Some : goal.returns-in-Some
returns-in-Some c =
    let place = c.in-Some.place in
    let k = c.swap_remove-kept.result in
    let some : (place < length c.args.work.live.items) × ((d : Kept) → IsContradiction (get_or c.args.work.live.items place d).row) =
    subst (λ ks. (place < length ks) × ((d : Kept) → IsContradiction (get_or ks place d).row)) c.as_slice.ensures.value c.in-Some.ensures.some in
    leaf_of c.args.system.now.columns c.args.system.now.rows c.args.work.made.items c.args.work.live.items k c.requires.state (place, some.0, sym c.swap_remove-kept.ensures.value)
    (subst (λ (q : Kept). IsContradiction q.row) (sym c.swap_remove-kept.ensures.value) (some.1 k)) c.pairs-pairs.ensures.multipliers

pub returns : goal.returns
returns c = some_point c.args.system.now.columns c.args.system.now.rows c.args.work.made.items c.args.work.live.items c.requires
    (subst (All (λ (k : Kept). IsContradiction k.row → ⊥)) c.as_slice.ensures.value c.in-None.ensures.none)
