use Rattle.std.proofs.Common.{◌≤◌, length, arith, rules}
use Rattle.std.specs.Prelude.{IsTrue}
use Rattle.affc_split.proofs.maximum.Laters.{then_later}
use Rattle.affc_moduli.proofs.Lifted.{comparable_at, below_more, below_all}
use Rattle.affc_moduli.proofs.enough.all_below.Goals as goal

pub is_below-requires-clause-width : goal.is_below-requires-clause-width
is_below-requires-clause-width c =
    (comparable_at (length c.args.modulus.now.coefs) c.args.regions.now c.args.forms.now c.loop-i.i c.index-regions-i.result c.index-forms-i.result c.requires.comparable (omega arith) c.requires.one_each c.index-regions-i.is c.index-forms-i.is).width

pub is_below-requires-clause-coefs : goal.is_below-requires-clause-coefs
is_below-requires-clause-coefs c =
    (comparable_at (length c.args.modulus.now.coefs) c.args.regions.now c.args.forms.now c.loop-i.i c.index-regions-i.result c.index-forms-i.result c.requires.comparable (omega arith) c.requires.one_each c.index-regions-i.is c.index-forms-i.is).coefs

pub is_below-requires-clause-constant : goal.is_below-requires-clause-constant
is_below-requires-clause-constant c =
    (comparable_at (length c.args.modulus.now.coefs) c.args.regions.now c.args.forms.now c.loop-i.i c.index-regions-i.result c.index-forms-i.result c.requires.comparable (omega arith) c.requires.one_each c.index-regions-i.is c.index-forms-i.is).constant

pub is_below-requires-clause-within : goal.is_below-requires-clause-within
is_below-requires-clause-within c =
    (comparable_at (length c.args.modulus.now.coefs) c.args.regions.now c.args.forms.now c.loop-i.i c.index-regions-i.result c.index-forms-i.result c.requires.comparable (omega arith) c.requires.one_each c.index-regions-i.is c.index-forms-i.is).within

pub is_below-requires-clause-room : goal.is_below-requires-clause-room
is_below-requires-clause-room c =
    (comparable_at (length c.args.modulus.now.coefs) c.args.regions.now c.args.forms.now c.loop-i.i c.index-regions-i.result c.index-forms-i.result c.requires.comparable (omega arith) c.requires.one_each c.index-regions-i.is c.index-forms-i.is).room

pub loop-i-preserved : goal.loop-i-preserved
loop-i-preserved c =
    let yes : IsTrue c.in_ok-is_below.field-0 = search rules in
    record {
      below = below_more c.loop-i.i c.args.regions.now c.args.forms.now c.args.modulus.now c.index-regions-i.result c.index-forms-i.result (omega arith) c.requires.one_each c.index-regions-i.is c.index-forms-i.is
          (c.in_ok-is_below.ensures.below yes) c.loop-i.invariant.below;
      later = then_later c.args.budget.now c.loop-i.budget c.is_below.new.budget c.loop-i.invariant.later c.is_below.ensures.later;
    }

pub returns-clause-below : goal.returns-clause-below
returns-clause-below c = λ yes.
    let done : length c.args.regions.now ≤ c.loop-i.i = omega arith in
    below_all c.loop-i.i c.args.regions.now c.args.forms.now c.args.modulus.now done c.loop-i.invariant.below
