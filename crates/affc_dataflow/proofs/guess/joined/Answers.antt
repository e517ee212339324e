use Rattle.std.proofs.lemmas.Result.{IfOk-weaker}
use Rattle.affc_quast.specs.Seen.{seen}
use Rattle.affc_dataflow.proofs.GuessLemmas.{sides_cover}
use Rattle.affc_dataflow.proofs.guess.joined.Goals as goal

pub returns : goal.returns
returns c =
    let l = c.args.load.now in
    let s = c.args.sides in
    record {
      right = IfOk-weaker c.test_of.result _ _ (λ tree is. sides_cover l.nest.now l.reader.now l.access.now c.args.place.now.path.now c.args.place.now.ranges.now c.args.depth.left c.args.depth.divisions s.form s.yes s.no (seen c.args.yes) (seen c.args.no)
          (seen tree) c.requires.up c.requires.down c.requires.wide c.requires.fits c.requires.some is c.requires.on c.requires.off) c.test_of.ensures;
    }
