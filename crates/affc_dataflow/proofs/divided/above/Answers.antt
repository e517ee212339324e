use Rattle.std.proofs.Common.{subst}
use Rattle.std.proofs.lemmas.Result.{IfOk-weaker}
use Rattle.std.specs.List.{All}
use Rattle.affc_system.specs.Systems.{IsRow}
use Rattle.affc_quast.specs.Seen.{seen}
use Rattle.affc_dataflow.proofs.GuessLemmas.{rows_wide, above_right}
use Rattle.affc_dataflow.proofs.divided.above.Goals as goal

pub returns : goal.returns
returns c =
    let l = c.args.load.now in
    let p = c.args.place.now.path.now in
    let d = c.args.division.now in
    let b = c.args.below.now in
    record {
      right = IfOk-weaker c.division_of.result _ _ (λ tree is. above_right l.nest.now l.reader.now l.access.now p c.args.place.now.ranges.now c.args.depth.left c.args.depth.divisions
          (rows_wide p.columns p.rows (subst (λ rows. All (IsRow p.columns) rows) c.rows-rows.ensures.rows c.rows-rows.ensures.fit))
          d.form d.by b.range b.path b.ranges (seen c.args.rest) (seen tree) c.requires.wide c.requires.fits c.requires.by c.requires.small c.requires.some c.requires.more c.requires.range c.requires.path c.requires.ranges c.requires.right
          is) c.division_of.ensures;
    }
