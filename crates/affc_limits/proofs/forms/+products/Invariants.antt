use Rattle.std.proofs.Common.{◌≡◌, ◌≤◌}
use Rattle.affc_syntax.proofs.draft.Nodes.{nodes}
use Rattle.affc_syntax.specs.draft.Drafts.{ix}
use Rattle.affc_limits.specs.Places.{closed, products}
use Rattle.affc_limits.proofs.forms.+products.Given as goal

abbrev pub decreases-products : goal.decreases-products
decreases-products l = nodes (ix l.e.now)

abbrev pub invariant-loop-here : goal.invariant-loop-here
invariant-loop-here l = (closed (products (ix l.here)) l.behind ≡ products (ix l.fn.e)) × (nodes (ix l.here) ≤ nodes (ix l.fn.e))

abbrev pub decreases-loop-here : goal.decreases-loop-here
decreases-loop-here l = nodes (ix l.here)
