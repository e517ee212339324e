use Rattle.std.proofs.Common.{flat_map, sym, ap, ◌∙◌}
use Rattle.std.proofs.lemmas.Result.{IfOk-weaker}
use Rattle.affc_trace.proofs.LastStores.{append_nil}
use Rattle.affc_life.proofs.LimitLemmas.{only_entry}
use Rattle.affc_check.specs.list.Held.{listed_said}
use Rattle.affc_check.proofs.LookLemmas.{looks_of_none, looks_same, looks_halves}
use Rattle.affc_check.proofs.checks.+look_all.Goals as goal

pub returns-in-empty : goal.returns-in-empty
returns-in-empty t c = looks_of_none c.args.looked c.args.listed.now c.in-empty.len_below

pub returns-in-len1 : goal.returns-in-len1
returns-in-len1 t c =
    let xs = c.args.listed.now in
    let x = c.one-item.result in
    let only = only_entry xs x c.in-len1.len_at_least c.in-len1.len_below c.one-item.is in
    IfOk-weaker c.look_at.result _ _
    (λ new h. looks_same c.args.looked new (listed_said x) (flat_map listed_said xs) (sym (append_nil (listed_said x)) ∙ ap (flat_map listed_said) (sym only)) h) c.look_at.ensures

pub returns-in_ok-half-in_default : goal.returns-in_ok-half-in_default
returns-in_ok-half-in_default t c =
    IfOk-weaker c.look_all-in_default.result _ _
    (λ new h. looks_halves c.args.looked c.in_ok-half-in_default.half new c.split_at.result.0.now c.split_at.result.1.now c.args.listed.now c.split_at.ensures.by_index.0 c.in_ok-half-in_default.ensures h) c.look_all-in_default.ensures
