use Rattle.std.proofs.Common.{◌-◌, length, flat_map, take, drop}
use Rattle.std.proofs.lemmas.Result.{on_ok_weaker}
use Rattle.affc_domain.proofs.Lists.{first_and_rest}
use Rattle.affc_quast.specs.SeenLeaves.{leaf_seen}
use Rattle.affc_life.specs.Clashes.{clashes_with}
use Rattle.affc_life.specs.Drafts.{drafted, instance_named, walk_of}
use Rattle.affc_life.proofs.WalkLemmas.{next_made}
use Rattle.affc_life.proofs.walk.+add_writers.Goals as goal

pub returns-in_ok-add_writer-in-len1-up : goal.returns-in_ok-add_writer-in-len1-up
returns-in_ok-add_writer-in-len1-up t c =
    let ws = c.args.writers.now in
    on_ok_weaker c.add_writers.result
    (next_made (clashes_with c.args.asked.now.nest.now (walk_of c.args.asked.now) c.args.reader.now c.args.load.now (leaf_seen c.args.leaf.now) (instance_named c.args.named.now)) ws (take (length ws - 1) (drop 1 ws)) c.writer-item.result
    (flat_map drafted c.args.out.now.items) (flat_map drafted c.add_writer.new.out.items) (flat_map drafted c.add_writers.new.out.items) (first_and_rest ws c.writer-item.result c.in-len1-up.len_at_least c.writer-item.is)
    c.in_ok-add_writer-in-len1-up.ensures)
    c.add_writers.ensures
