use Rattle.std.proofs.Common.{◌≡◌, ◌++◌, map}
use Rattle.std.specs.Vec.Iter.{into_iter_items}
use Rattle.affc_certvalue.specs.fold.Drafts.{draft_entry}
use Rattle.affc_certvalue.specs.fold.Entries.{entry_of}
use Rattle.affc_cert.proofs.json.multiply.Given as goal

abbrev pub invariant-loop-draft : goal.invariant-loop-draft
invariant-loop-draft l = map entry_of l.folds ++ map draft_entry (into_iter_items l.draft-iterator) ≡ map draft_entry l.fn.drafts.items
