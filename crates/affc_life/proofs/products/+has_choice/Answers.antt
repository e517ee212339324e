use Rattle.std.proofs.Common.{◌≡◌, ◌-◌, [], length, take, drop, IsTrue, rules}
use Rattle.affc_domain.proofs.Lists.{first_and_rest}
use Rattle.affc_life.proofs.KeptLemmas.{choice_here}
use Rattle.affc_life.proofs.products.+has_choice.Goals as goal

pub returns-then-not-is_empty : goal.returns-then-not-is_empty
returns-then-not-is_empty t c =
    let fs = c.args.factors.now in
    let some : c.alternatives-item.result ≡ [] → ⊥ = search rules in
    choice_here fs (take (length fs - 1) (drop 1 fs)) c.alternatives-item.result (IsTrue c.has_choice.result) (first_and_rest fs c.alternatives-item.result c.in-len1-up.len_at_least c.alternatives-item.is) some c.has_choice.ensures
