use Rattle.std.proofs.Common.{◌≡◌, ◌+ℤ◌, false, get_or, subst, sym, ap, ◌∙◌}
use Rattle.affc_limits.specs.Terms.{coefficient, has, IsAt, AreApart}
use Rattle.affc_limits.proofs.TermLaws.{coefficient-append, with_own, apart-append, apart-set}
use Rattle.affc_limits.proofs.terms.with_term.Goals as goal

pub returns-in_ok-push-in-None-clause-sums : goal.returns-in_ok-push-in-None-clause-sums
returns-in_ok-push-in-None-clause-sums c = λ w. ap (coefficient w) c.in_ok-push-in-None.ensures.ok ∙ coefficient-append w c.args.terms c.args.term

pub returns-in_ok-push-in-None-clause-apart : goal.returns-in_ok-push-in-None-clause-apart
returns-in_ok-push-in-None-clause-apart c = λ a.
    let absent : has c.args.term.name c.args.terms ≡ false = ap (λ n. has n c.args.terms) (sym c.as_str.ensures) ∙ ap (has c.as_str.result.now) (sym c.as_slice.ensures) ∙ c.in-None.ensures in
    subst AreApart (sym c.in_ok-push-in-None.ensures.ok) (apart-append c.args.terms c.args.term a absent)

pub returns-in_ok-number-in-Some-clause-sums : goal.returns-in_ok-number-in-Some-clause-sums
returns-in_ok-number-in-Some-clause-sums c = λ w.
    let at : IsAt c.args.term.name c.args.terms c.in-Some.i = subst (λ l. IsAt c.args.term.name l c.in-Some.i) c.as_slice.ensures (subst (λ n. IsAt n c.as_slice.result.now c.in-Some.i) c.as_str.ensures c.in-Some.ensures) in
    with_own w c.args.terms c.set.new.self c.in-Some.i c.index-as_slice-i.result c.args.term c.in_ok-number-in-Some.number
    at (c.in_ok-number-in-Some.ensures ∙ ap (λ l. c.args.term.number +ℤ (get_or l c.in-Some.i c.index-as_slice-i.result).number) c.as_slice-in-Some.ensures) c.set.ensures

pub returns-in_ok-number-in-Some-clause-apart : goal.returns-in_ok-number-in-Some-clause-apart
returns-in_ok-number-in-Some-clause-apart c = λ a.
    let at : IsAt c.args.term.name c.args.terms c.in-Some.i = subst (λ l. IsAt c.args.term.name l c.in-Some.i) c.as_slice.ensures (subst (λ n. IsAt n c.as_slice.result.now c.in-Some.i) c.as_str.ensures c.in-Some.ensures) in
    subst AreApart (sym c.set.ensures) (apart-set c.args.terms c.in-Some.i c.index-as_slice-i.result (record { name = c.args.term.name; number = c.in_ok-number-in-Some.number }) at.0 (at.1 c.index-as_slice-i.result) a)
