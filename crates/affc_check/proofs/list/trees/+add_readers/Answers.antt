use Rattle.std.proofs.Common.{◌-◌, ◌++◌, length, map, flat_map, take, drop, sym, ap}
use Rattle.std.proofs.lemmas.Result.{on_ok_weaker}
use Rattle.affc_domain.proofs.Lists.{first_and_rest}
use Rattle.affc_quast.specs.Seen.{seen}
use Rattle.affc_life.specs.Clashes.{Walk, clashes_of_entry}
use Rattle.affc_check.specs.list.Passes.{items_by_entry}
use Rattle.affc_check.proofs.list.ListingLemmas.{none_below}
use Rattle.affc_check.proofs.list.LoadLemmas.{nothing_put, put_same, put_twice}
use Rattle.affc_check.proofs.list.trees.+add_readers.Goals as goal

pub returns-in-empty : goal.returns-in-empty
returns-in-empty t c =
    let F = items_by_entry c.args.nest.now (map seen c.args.trees.now) in
    let C = λ (walk : Walk). clashes_of_entry c.args.nest.now walk (map seen c.args.trees.now) in
    let none = none_below c.args.readers.now c.in-empty.len_below in
    nothing_put c.args.nest.now (flat_map F c.args.readers.now) (λ walk. flat_map (C walk) c.args.readers.now) c.args.out.now (ap (flat_map F) none) (λ walk. ap (flat_map (C walk)) none)

pub returns-in_ok-add_reader-in-len1-up : goal.returns-in_ok-add_reader-in-len1-up
returns-in_ok-add_reader-in-len1-up t c =
    let nest = c.args.nest.now in
    let F = items_by_entry nest (map seen c.args.trees.now) in
    let C = λ (walk : Walk). clashes_of_entry nest walk (map seen c.args.trees.now) in
    let es = c.args.readers.now in
    let rest = take (length es - 1) (drop 1 es) in
    let e = c.reader-item.result in
    let is = first_and_rest es e c.in-len1-up.len_at_least c.reader-item.is in
    on_ok_weaker c.add_readers.result
    (λ h. put_same nest (F e ++ flat_map F rest) (flat_map F es) (λ walk. C walk e ++ flat_map (C walk) rest) (λ walk. flat_map (C walk) es) c.args.out.now c.add_readers.new.out (ap (flat_map F) (sym is)) (λ walk. ap (flat_map (C walk)) (sym is))
    (put_twice nest (F e) (flat_map F rest) (λ walk. C walk e) (λ walk. flat_map (C walk) rest) c.args.out.now c.add_reader.new.out c.add_readers.new.out c.in_ok-add_reader-in-len1-up.ensures h))
    c.add_readers.ensures
