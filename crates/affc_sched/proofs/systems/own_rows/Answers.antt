use Rattle.std.proofs.Common.{◌≡◌, ◌+◌, ◌*◌, ◌≤◌, arith, length, ap, sym, subst}
use Rattle.affc_nest.proofs.QuestionProofs.{domain_small}
use Rattle.affc_sched.proofs.SystemLemmas.{enough_rows, fewer}
use Rattle.affc_sched.proofs.systems.own_rows.Goals as goal

pub split_at-requires : goal.split_at-requires
split_at-requires c =
    let p : length c.ranges-2.result.now ≡ length c.args.nest.now.params = ap length c.ranges-2.ensures.ranges in
    let q : length c.rows.result.now ≡ length c.args.nest.now.context.rows = ap length c.rows.ensures.rows in
    let r : length c.rows-2.result.now ≡ length c.args.entry.now.domain.rows = ap length c.rows-2.ensures.rows in
    let h : 2 * length c.args.nest.now.params + length c.args.nest.now.context.rows ≤ length c.args.entry.now.domain.rows = enough_rows c.args.nest.now c.requires.nest c.args.entry.now c.requires.entry c.requires.living in
    omega arith

pub returns-clause-few : goal.returns-clause-few
returns-clause-few c =
    fewer _ c.rows-2.result.now _ c.split_at.ensures.back
    (subst (λ rows. length rows ≤ 134) (sym c.rows-2.ensures.rows) (domain_small c.args.nest.now c.args.entry.now c.requires.nest c.requires.entry))
