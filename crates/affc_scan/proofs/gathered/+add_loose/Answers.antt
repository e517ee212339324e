use Rattle.std.proofs.Common.{◌≡◌, ◌++◌, ◌∷◌, [], length, List, refl, sym, subst}
use Rattle.affc_trace.proofs.LastStores.{append_nil}
use Rattle.affc_loopends.specs.declared.scanned.scanned.Loose.{Loose}
use Rattle.affc_loopends.specs.scanned.Scanned.{loose_from}
use Rattle.affc_scan.proofs.Gathering.{last_loose}
use Rattle.affc_scan.proofs.gathered.+add_loose.Goals as goal

pub returns-in-Between : goal.returns-in-Between
returns-in-Between t c =
    let mid : List Loose = c.add_loose.new.made.items in
    last_loose c.args.statement (length c.pop.new.self) c.args.bounds c.pop.new.self c.in-Some.last c.args.made.now.items mid mid
    c.in-Some.ensures refl c.in_ok-add_loose.ensures (subst (λ b. mid ≡ mid ++ loose_from c.args.statement (length c.pop.new.self) (b ∷ [])) (sym c.in-Between.is) (sym (append_nil mid)))

pub returns : goal.returns
returns t c =
    let mid : List Loose = c.add_loose.new.made.items in
    last_loose c.args.statement c.len-component.result c.args.bounds c.pop.new.self c.in-Some.last c.args.made.now.items mid c.push.new.self.items
    c.in-Some.ensures c.len-component.ensures c.in_ok-add_loose.ensures (subst (λ b. c.push.new.self.items ≡ mid ++ loose_from c.args.statement c.len-component.result (b ∷ [])) (sym c.in-Loose.is) c.in_ok-push-in-Loose.ensures.items)
