use Rattle.std.proofs.Common.{◌≡◌, ◌*ℤ◌, map, take}
use Rattle.affc_leaf.proofs.cuts.divided_coefs.Given as goal

abbrev pub invariant-loop-c : goal.invariant-loop-c
invariant-loop-c l = map (λ q. l.g *ℤ q) l.quotients.items ≡ take l.c-index l.coefs
