use Rattle.std.proofs.Common.{◌≡◌, ◌∷◌, map, rules}
use Rattle.std.specs.Vec.Iter.{into_iter_items}
use Rattle.affc_certvalue.specs.fold.Drafts.{draft_entry}
use Rattle.affc_cert.proofs.Broken.{step_broken}
use Rattle.affc_cert.proofs.json.multiply.Goals as goal

pub returns-in_default-clause-broken : goal.returns-in_default-clause-broken
returns-in_default-clause-broken c =
    λ k same.
    let steps : into_iter_items c.loop-draft.draft-iterator ≡ c.in-Some.draft ∷ into_iter_items c.next.new.self = search rules in
    step_broken c.loop-draft.folds c.in-Some.draft (into_iter_items c.next.new.self) (into_iter_items c.loop-draft.draft-iterator) (map draft_entry c.args.drafts.items) c.len.result k c.loop-draft.invariant steps
    c.in_default.ensures.none c.len.ensures same
