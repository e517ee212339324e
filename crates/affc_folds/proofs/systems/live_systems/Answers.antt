use Rattle.std.proofs.Common.{flat_map, sym, subst}
use Rattle.std.specs.List.{All}
use Rattle.std.proofs.lemmas.Result.{IfOk-weaker}
use Rattle.affc_trace.specs.Dataflow.{LivePair}
use Rattle.affc_quast.specs.Seen.{trees_of}
use Rattle.affc_life.specs.Products.{systems_in}
use Rattle.affc_folds.specs.Systems.{AreKept, KeepsRoom}
use Rattle.affc_folds.proofs.FoldLemmas.{live_systems}
use Rattle.affc_folds.proofs.KeptLemmas.{kept_pairs}
use Rattle.affc_folds.proofs.ChoiceLemmas.{all_keep_room}
use Rattle.affc_folds.proofs.systems.live_systems.Goals as goal

pub all_wanted-requires : goal.all_wanted-requires
all_wanted-requires c =
    let products = c.in_ok-products.products.items in
    let live = live_systems c.args.asked.now.program.now c.args.asked.now.nest.now (trees_of c.args.asked.now.flow.now) c.args.asked.now.schedule.now c.requires.analysed c.args.array.0 c.args.info.now c.requires.there (flat_map systems_in products) c.in_ok-products.ensures.systems in
    record {
      room = subst (All KeepsRoom) (sym c.as_slice.ensures.value) (all_keep_room c.args.asked.now.nest.now.context c.args.asked.now.nest.now.params c.args.info.now.extents products live.conflicts);
    }

pub returns-clause-live : goal.returns-clause-live
returns-clause-live c =
    let products = c.in_ok-products.products.items in
    let live = live_systems c.args.asked.now.program.now c.args.asked.now.nest.now (trees_of c.args.asked.now.flow.now) c.args.asked.now.schedule.now c.requires.analysed c.args.array.0 c.args.info.now c.requires.there (flat_map systems_in products) c.in_ok-products.ensures.systems in
    IfOk-weaker c.all_wanted.result _ _
    (λ kept h. kept_pairs (flat_map systems_in products) kept.items (subst (λ ps. AreKept (flat_map systems_in ps) kept.items) c.as_slice.ensures.value h) c.args.asked.now.program.now (LivePair c.args.asked.now.program.now c.args.asked.now.schedule.now) c.args.asked.now.nest.now c.args.array.0 c.args.info.now.extents live)
    c.all_wanted.ensures.kept
