-- What a certificate is asked of.
use Rattle.std.proofs.Common.{ℕ, ◌-◌, ◌<◌, List, length, arith}
use Rattle.affc_domain.proofs.Lists.{there_is}
use Rattle.affc_nest.specs.declared.nest.Nest.{Nest}
use Rattle.affc_quast.specs.Limits.{narrow, HaveShapes, AreTreesWithin}
use Rattle.affc_quast.specs.Trees.{Tree}
use Rattle.affc_life.proofs.FoundLemmas.{found_trees_keep_limits}
use Rattle.affc_certify.specs.Asked.{AreAsked}

-- trees that were found
pub trees_asked : (nest : Nest) (trees : List Tree) → AreTreesWithin narrow 302 12 nest trees → AreAsked nest trees
trees_asked nest trees limits = record { shapes = shapes; limits = found_trees_keep_limits nest trees limits; no_more = limits.no_more }
  where
    fewer : (n m : ℕ) → m < n - 1 → m < n
    fewer n m h = omega (arith, h)

    shapes : HaveShapes nest trees
    shapes statement load e there below =
        let x = there_is e.accesses load (fewer (length e.accesses) load below) in
        let t = limits.each statement load e x.0 there below x.1 in
        (t.0, t.1, t.2.shaped)
