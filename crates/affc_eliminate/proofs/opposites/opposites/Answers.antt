use Rattle.std.proofs.Common.{◌≡◌, ◌≤◌, ◌∙◌, ◌<ℤ◌, pos, length, sym, subst, arith}
use Rattle.std.proofs.lemmas.Int.{ints}
use Rattle.affc_eliminate.specs.declared.kept.Kept.{Kept}
use Rattle.affc_eliminate.proofs.Opposed.{none_more, none_of_all, none_yet}
use Rattle.affc_eliminate.proofs.opposites.opposites.Goals as goal
use Rattle.affc_eliminate.proofs.opposites.opposites.Goals.{then-entry-gt0+in_default, else-entry-gt0}

pub loop-positive-init : goal.loop-positive-init
loop-positive-init c = none_yet c.args.rows.now c.args.column

pub entry-requires : goal.entry-requires
entry-requires c =
    let k = c.index-rows-positive.result in
    let w = subst (λ (q : Kept). length q.row.coefs ≡ c.requires.0) (sym c.index-rows-positive.is) (c.requires.2 c.loop-positive.positive k c.loop-positive-test.true) in
    let lt = c.requires.1 in
    omega (arith, w, lt)

pub returns-in-Some-clause-some : goal.returns-in-Some-clause-some
returns-in-Some-clause-some c =
    let h : pos 0 <ℤ c.entry.result = omega (arith, ints) in
    let found = c.in-Some.ensures.some in
    record {
      first = c.index-rows-positive.result;
      second = found.0;
      first_at = (c.loop-positive-test.true, sym c.index-rows-positive.is);
      second_at = found.1;
      positive = subst (λ z. pos 0 <ℤ z) c.entry.ensures h;
      opposite = found.2;
    }

pub loop-positive-preserved : goal.loop-positive-preserved
loop-positive-preserved c =
    none_more c.args.rows.now c.args.column c.loop-positive.positive c.index-rows-positive.result (c.loop-positive-test.true, sym c.index-rows-positive.is)
    (λ up. elim c.if-entry-gt0.branch [
      | then-entry-gt0+in_default w ↦ w.in_default.ensures.none
      | else-entry-gt0 w ↦ let h = subst (λ z. pos 0 <ℤ z) (sym c.entry.ensures) up in let k = w.if-entry-gt0 in absurd (omega (arith, ints))
    ]) c.loop-positive.invariant

pub returns-clause-none : goal.returns-clause-none
returns-clause-none c =
    let done : length c.args.rows.now ≤ c.loop-positive.positive = omega arith in
    none_of_all c.args.rows.now c.args.column c.requires.0 c.loop-positive.positive c.requires.2 c.requires.1 done c.loop-positive.invariant
