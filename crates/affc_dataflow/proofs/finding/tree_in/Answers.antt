use Rattle.std.proofs.Common.{◌≡◌, ◌-◌, ◌≤◌, pos, to_z, of_z, w64, [], ◌∷◌, length, get_or, take, drop}
use Rattle.std.proofs.lemmas.Result.{IfOk-weaker}
use Rattle.affc_quast.specs.Seen.{seen}
use Rattle.affc_dataflow.specs.Searches.{Covers, part_box, IsSlightRange}
use Rattle.affc_dataflow.proofs.PartLemmas.{passed, first_there, nothing_whole, first_whole}
use Rattle.affc_dataflow.proofs.finding.tree_in.Goals as goal

pub returns-in-empty-clause-right : goal.returns-in-empty-clause-right
returns-in-empty-clause-right c =
    let l = c.args.load.now in
    IfOk-weaker c.leaf.result (λ q. Covers l.nest.now l.reader.now l.access.now [] 0 (seen q)) (λ q. Covers l.nest.now l.reader.now l.access.now c.args.ranges.now 302 (seen q))
    (λ q h. nothing_whole l.nest.now l.reader.now l.access.now c.args.ranges.now 302 (seen q) c.in-empty.len_below h) c.leaf.ensures.right

pub returns-in-len1-up-clause-right : goal.returns-in-len1-up-clause-right
returns-in-len1-up-clause-right c =
    let l = c.args.load.now in
    let ranges = c.args.ranges.now in
    let some : 1 ≤ length ranges = c.in-len1-up.len_at_least in
    let first = get_or ranges 0 (pos 0, pos 0) in
    let rest = take (length ranges - 1) (drop 1 ranges) in
    let q : ranges ≡ first ∷ rest = first_there ranges (pos 0, pos 0) some in
    let slight : IsSlightRange first = c.requires.slight 0 (pos 0, pos 0) some in
    IfOk-weaker c.search.result (λ t. Covers l.nest.now l.reader.now l.access.now (part_box [] (to_z w64 (of_z w64 first.0)) (to_z w64 (of_z w64 first.1)) rest) 302 (seen t))
    (λ t. Covers l.nest.now l.reader.now l.access.now ranges 302 (seen t))
    (λ t h. first_whole l.nest.now l.reader.now l.access.now ranges rest first _ _ 302 (seen t) q (passed first.0 slight.0) (passed first.1 slight.1) h)
    c.search.ensures.right
