use Rattle.std.proofs.Common.{◌-◌, length, map, flat_map, take, drop}
use Rattle.std.proofs.lemmas.Result.{on_ok_weaker}
use Rattle.affc_domain.proofs.Lists.{first_and_rest}
use Rattle.affc_quast.specs.Seen.{seen}
use Rattle.affc_life.specs.Clashes.{clashes_of_entry}
use Rattle.affc_life.specs.Drafts.{drafted, walk_of}
use Rattle.affc_life.proofs.WalkLemmas.{next_made}
use Rattle.affc_life.proofs.walk.+add_readers.Goals as goal

pub returns-in_ok-add_reader-in-len1-up : goal.returns-in_ok-add_reader-in-len1-up
returns-in_ok-add_reader-in-len1-up t c =
    let rs = c.args.readers.now in
    on_ok_weaker c.add_readers.result
    (next_made (clashes_of_entry c.args.asked.now.nest.now (walk_of c.args.asked.now) (map seen c.args.trees.now)) rs (take (length rs - 1) (drop 1 rs)) c.reader-item.result
    (flat_map drafted c.args.out.now.items) (flat_map drafted c.add_reader.new.out.items) (flat_map drafted c.add_readers.new.out.items) (first_and_rest rs c.reader-item.result c.in-len1-up.len_at_least c.reader-item.is)
    c.in_ok-add_reader-in-len1-up.ensures)
    c.add_readers.ensures
