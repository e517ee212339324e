use Rattle.std.proofs.Common.{◌≡◌, suc, ◌-◌, length, map, take, drop, ap, sym, ◌∙◌, arith}
use Rattle.std.proofs.lemmas.List.{drop-map}
use Rattle.affc_domain.proofs.Lists.{first_and_rest}
use Rattle.affc_quast.specs.Seen.{seen}
use Rattle.affc_life.proofs.WalkLemmas.{trees_behind}
use Rattle.affc_life.proofs.walk.+trees_from.Goals as goal

pub returns-else-loads-trees : goal.returns-else-loads-trees
returns-else-loads-trees t c =
    let es = c.args.entries.now in
    let one_back : c.args.part ≡ suc (c.args.part - 1) = first_of (omega (arith, c.if-part-eq0.false), grind (arith, c.if-part-eq0.false)) in
    trees_behind c.entry-item.result es (take (length es - 1) (drop 1 es)) (map seen c.args.trees.now) (map seen c.split_at.result.1.now) (map seen c.trees_from.result.now) c.args.part (c.args.part - 1) c.saturating_sub-loads.result
    (first_and_rest es c.entry-item.result c.in-len1-up.len_at_least c.entry-item.is) one_back (c.saturating_sub-loads.ensures ∙ ap (λ n. n - 1) c.len.ensures)
    (ap (map seen) c.split_at.ensures.back ∙ sym (drop-map seen c.saturating_sub-loads.result c.args.trees.now)) c.trees_from.ensures
