use Rattle.std.proofs.Common.{refl, ◌<◌, length, take, sym, subst, ◌∙◌}
use Rattle.std.specs.List.{All}
use Rattle.affc_eliminate.specs.declared.kept.Kept.{Kept}
use Rattle.affc_eliminate.specs.project.States.{IsState, IsCancelled, HasContradiction}
use Rattle.affc_eliminate.proofs.project.Contradictions.{over_first}
use Rattle.affc_eliminate.proofs.project.Parts.{state_part, state_columns}
use Rattle.affc_eliminate.proofs.project.work.advance.Goals as goal

pub enough-count-requires : goal.enough-count-requires
enough-count-requires g c =
    subst (All (λ (k : Kept). c.args.column < length k.row.coefs)) (sym c.as_slice.ensures.value)
    (state_columns c.args.system.now.columns c.args.system.now.rows c.args.column c.args.work.made.items c.args.work.live.items c.requires.column_in c.requires.state)

pub cancel-requires-clause-state : goal.cancel-requires-clause-state
cancel-requires-clause-state g c =
    let rows = c.args.system.now.rows in
    let columns = c.args.system.now.columns in
    let made = c.args.work.made.items in
    let n = c.enough-count.result in
    subst (λ ms. IsState columns rows ms (take n c.as_slice-then-count-len-2.result.now)) (sym (c.in-Ok.ensures.items ∙ c.as_slice-then-count-len.ensures.value))
    (subst (λ ks. IsState columns rows made (take n ks)) (sym c.as_slice-then-count-len-2.ensures.value) (state_part columns rows made c.args.work.live.items n c.requires.state))

pub returns-then-has_contradiction-clause-ok : goal.returns-then-has_contradiction-clause-ok
returns-then-has_contradiction-clause-ok g c =
    let rows = c.args.system.now.rows in
    let columns = c.args.system.now.columns in
    let n = c.enough-count.result in
    let new = c.in-Ok-cancel.part in
    over_first columns rows c.args.column c.args.work.made.items c.args.work.live.items n new
    (subst (λ ks. IsCancelled columns rows c.args.column c.args.work.made.items (take n ks) new) c.as_slice-then-count-len-2.ensures.value
    (subst (λ ms. IsCancelled columns rows c.args.column ms (take n c.as_slice-then-count-len-2.result.now) new) (c.in-Ok.ensures.items ∙ c.as_slice-then-count-len.ensures.value) c.in-Ok-cancel.ensures.ok))
    (subst HasContradiction c.as_slice-in-Ok-cancel.ensures.value (c.if-has_contradiction.ensures.0 refl))
