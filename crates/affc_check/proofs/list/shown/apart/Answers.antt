use Rattle.affc_life.specs.Products.{found_system}
use Rattle.affc_check.proofs.list.FoldLemmas.{elements_along}
use Rattle.affc_check.proofs.list.shown.apart.Goals as goal

pub is_behind-requires-clause-elements : goal.is_behind-requires-clause-elements
is_behind-requires-clause-elements c = elements_along c.args.along.now.rows.now c.args.along.now.row.now c.args.along.now.modulus.now (found_system c.args.found.now) c.requires.along

pub shown_rows-requires : goal.shown_rows-requires
shown_rows-requires c = let h = c.requires.along in record { basis = h.basis; there = h.there; over = h.over; first = h.first; second = h.second }
