-- The trees that the search finds keep the limits.
use Rattle.std.proofs.Common.{ℕ, ◌+◌, ◌-◌, ◌^◌, ◌≤◌, ◌<◌, ℤ, pos, ◌≤ℤ◌, length, refl, sym, subst, ◌∙◌, arith}
use Rattle.std.proofs.lemmas.Int.{ints}
use Rattle.std.proofs.lemmas.List.Elements.{All-weaker}
use Rattle.std.proofs.lemmas.Option.{same_Some}
use Rattle.affc_rows.specs.Forms.{Affine}
use Rattle.affc_rows.proofs.SizeLemmas.{within_raised}
use Rattle.affc_domain.proofs.Lists.{there_is}
use Rattle.affc_nest.specs.declared.nest.Nest.{Nest}
use Rattle.affc_quast.specs.Limits.{FitsForm, FitsTree, NamesStores, narrow, widest}
use Rattle.affc_quast.specs.Trees.{Tree, Test, Div, Source, Input, depth_of}
use Rattle.affc_life.specs.Asked.{NamesParts, KeepsLimits}
use Rattle.affc_life.specs.Laws.{FoundTreesKeepLimits}
use Rattle.affc_life.proofs.LightLemmas.{form_within}

names : (nest : Nest) (array : ℕ) (tree : Tree) → NamesStores nest array tree → NamesParts nest tree
names nest array (Test f on off) h = (names nest array on h.0, names nest array off h.1)
names nest array (Div f by rest) h = names nest array rest h
names nest array (Source s forms) h = record { entry = h.entry; there = h.there; each = h.each }
names nest array Input h = tt

form_fits : (f : Affine) → FitsForm narrow f → FitsForm widest f
form_fits f h =
    let w = within_raised (length f.coefs) (2 ^ 20) (2 ^ 40) (2 ^ 24) (2 ^ 50) f (omega arith) (omega arith) (form_within narrow (length f.coefs) f refl h) in
    record { coefs_fit = w.coefs_fit; constant_fits = w.constant_fits }

tree_fits : (tree : Tree) → FitsTree narrow tree → FitsTree widest tree
tree_fits (Test f on off) h = (form_fits f h.0, tree_fits on h.1, tree_fits off h.2)
tree_fits (Div f by rest) h = (form_fits f h.0, less by h.1, tree_fits rest h.2)
  where
    less : (z : ℤ) → z ≤ℤ pos (2 ^ 20) → z ≤ℤ pos (2 ^ 24)
    less z h = omega (arith, ints, h)
tree_fits (Source s forms) h = All-weaker (FitsForm narrow) (FitsForm widest) form_fits forms h
tree_fits Input h = tt

pub found_trees_keep_limits : FoundTreesKeepLimits
found_trees_keep_limits nest trees found part load e tree at counts there =
    let x = there_is e.accesses load (within load (length e.accesses) counts) in
    let t = found.each part load e x.0 at counts x.1 in
    let k : KeepsLimits nest (length nest.params + length e.loops) t.0 =
    record { shaped = t.2.shaped; named = names nest x.0.array.0 t.0 t.2.stores; fits = tree_fits t.0 t.2.fits; short = more (depth_of t.0) t.2.short } in
    subst (KeepsLimits nest (length nest.params + length e.loops)) (same_Some t.0 tree (sym t.1 ∙ there)) k
  where
    within : (k n : ℕ) → k < n - 1 → k < n
    within k n h = omega (arith, h)

    more : (n : ℕ) → n ≤ 302 → n ≤ 400
    more n h = omega (arith, h)
