use Rattle.std.proofs.Common.{subst, sym, arith, ◌≡◌, None}
use Rattle.affc_grammar.specs.Names as n
use Rattle.affc_names.proofs.Tables.{counted_more}
use Rattle.affc_names.proofs.scope.Scope.add_number.Goals as goal

pub invariant_of-self-2 : goal.invariant_of-self-2
invariant_of-self-2 c = counted_more c.self.inside _ (record { name = c.args.name.now; thing = n.number c.self.inside.numbers c.args.is_iterator }) c.in_ok-insert.ensures.added
    (subst (λ s. n.thing_of s c.args.name.now ≡ None) (sym c.self.view_is) c.requires) (omega arith) (omega arith) c.self.invariant
