use Rattle.std.proofs.Common.{◌+◌, ◌&&◌, not, ap, ◌∙◌, sym, rules, to_z-of_z, arith}
use mir.Syntax.{w64}
use mir.Val.{SFits}
use Rattle.std.proofs.lemmas.Bool.{lt-ltb}
use Rattle.affc_cprint.specs.Seen.{seen}
use Rattle.affc_cprint.specs.Forms.{is_none}
use Rattle.affc_cprint.proofs.Writes.{◌next◌, ends, told}
use Rattle.affc_cprint.proofs.Joined.{remainder_text, all_pieces, any_pieces, entries_step}
use Rattle.affc_cprint.proofs.stmt.+conditions.Goals as goal

pub cond-returns-in-Divides : goal.cond-returns-in-Divides
cond-returns-in-Divides t c =
    let by : SFits w64 c.in-Divides.by = search rules in
    told c.remainder.result _ _ _ _ (simp to_z-of_z at c.remainder.ensures) (remainder_text c.args.prelude (seen c.args.names.now) c.args.place c.args.c.now c.in-Divides.of c.in-Divides.by c.in-Divides.yes c.in-Divides.is)

pub cond-returns-in_ok-entries-in-All : goal.cond-returns-in_ok-entries-in-All
cond-returns-in_ok-entries-in-All t c =
    ends c.close.result _ _ _ (c.in_ok-open-in-All.ensures next c.in_ok-entries-in-All.ensures) c.close.ensures
    (all_pieces c.args.prelude (seen c.args.names.now) c.args.place c.args.c.now c.in-All.list c.as_slice-in-All.result.now c.as_slice.result.now c.is_wrapped-wanted.result c.in-All.is c.as_slice-in-All.ensures c.as_slice.ensures
    (c.is_wrapped-wanted.ensures ∙ ap (λ b. b && not (is_none c.as_slice.result.now)) c.is_in_all.ensures))

pub cond-returns-in_ok-entries-in-Any : goal.cond-returns-in_ok-entries-in-Any
cond-returns-in_ok-entries-in-Any t c =
    ends c.close-in-Any.result _ _ _ (c.in_ok-open-in-Any.ensures next c.in_ok-entries-in-Any.ensures) c.close-in-Any.ensures
    (any_pieces c.args.prelude (seen c.args.names.now) c.args.place c.args.c.now c.in-Any.list c.as_slice-in-Any-2.result.now c.as_slice-in-Any.result.now c.is_wrapped-wanted-in-Any.result c.in-Any.is c.as_slice-in-Any-2.ensures c.as_slice-in-Any.ensures
    (c.is_wrapped-wanted-in-Any.ensures ∙ ap (λ b. b && not (is_none c.as_slice-in-Any.result.now)) c.is_joined.ensures))

pub entries-loop-c-preserved : goal.entries-loop-c-preserved
entries-loop-c-preserved t c = (
  entries_step c.args.prelude (seen c.args.names.now) c.args.mark.now c.args.place c.args.list.now c.loop-c.c-index c.c-item.result c.loop-c.is_later (omega arith) c.c-item.is c.loop-c.invariant.1
      c.loop-c.invariant.0 c.in_ok-between.ensures c.in_ok-cond.ensures,
  sym (lt-ltb 0 (c.loop-c.c-index + 1) (omega arith)),
)
