use Rattle.std.proofs.Common.{◌≡◌, ◌≤◌, ◌*◌, ◌^◌, ◌+ℤ◌, drop}
use Rattle.std.specs.Prelude.{unsigned_abs}
use Rattle.affc_leaf.specs.Bounds.{top}
use Rattle.affc_leaf.proofs.tops.top_products.Given as goal

abbrev pub invariant-loop-i : goal.invariant-loop-i
invariant-loop-i l = record {
  made : l.sum +ℤ top (drop l.i l.coefs) (drop l.i l.bounds) ≡ top l.coefs l.bounds;
  small : unsigned_abs l.sum ≤ l.i * 2 ^ 113;
}
