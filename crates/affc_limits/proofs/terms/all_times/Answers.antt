use Rattle.std.proofs.Common.{Some, ◌*ℤ◌, refl, ap, ◌∙◌}
use Rattle.affc_limits.specs.declared.terms.Term.{Term}
use Rattle.affc_limits.specs.Terms.{coefficient}
use Rattle.affc_limits.proofs.TermLaws.{coefficient-append, more_turn, parted_turn}
use Rattle.affc_limits.proofs.terms.all_times.Goals as goal

pub loop-term-preserved : goal.loop-term-preserved
loop-term-preserved c =
    let t = c.in-Some.term in
    let u : Term = record { name = t.name; number = t.number *ℤ c.args.by.now } in
    record {
      sums = λ w.
          more_turn w (Some c.args.by.now) (coefficient w c.loop-term.made) c.loop-term.terms c.pop.new.self t u.number (coefficient w c.in_ok-made.made) _
          c.in-Some.ensures refl (ap (coefficient w) c.in_ok-made.ensures ∙ coefficient-append w c.loop-term.made u) (c.loop-term.invariant.sums w);
      apart = λ a. parted_turn c.loop-term.terms c.pop.new.self c.loop-term.made c.in_ok-made.made t u c.in-Some.ensures refl c.in_ok-made.ensures (c.loop-term.invariant.apart a);
    }
