use Rattle.std.proofs.Common.{ℕ, sym, subst, rules}
use Rattle.std.specs.Prelude.{IsTrue, FitsSigned}
use Rattle.std.specs.Int.{w64}
use Rattle.std.proofs.lemmas.Int.{to_z-of_z}
use Rattle.affc_basis.specs.Moduli.{IsModulus}
use Rattle.affc_moduli.specs.Enough.{AreComparable}
use Rattle.affc_moduli.proofs.AskedLemmas.{fs_each, gs_each, fs_comparable, gs_comparable}
use Rattle.affc_moduli.proofs.Suited.{comparable_by, suited}
use Rattle.affc_moduli.proofs.forms.suits.Goals as goal

pub all_below-requires-clause-comparable : goal.all_below-requires-clause-comparable
all_below-requires-clause-comparable c =
    let yes : IsTrue c.keeps_limits.result = search rules in
    comparable_by c.columns-parameters.result c.args.asked.now.regions.now c.args.asked.now.line.fs.now c.args.form.now (c.keeps_limits.ensures.0 yes)
    (subst (λ (n : ℕ). AreComparable n c.args.asked.now.regions.now c.args.asked.now.line.fs.now) (sym c.columns-parameters.ensures.value) (fs_comparable c.args.asked.now c.requires.asked c.args.context.now.system c.requires.context))

pub all_below-requires-2-clause-comparable : goal.all_below-requires-2-clause-comparable
all_below-requires-2-clause-comparable c =
    let yes : IsTrue c.keeps_limits.result = search rules in
    comparable_by c.columns-parameters.result c.args.asked.now.regions.now c.args.asked.now.line.gs.now c.args.form.now (c.keeps_limits.ensures.0 yes)
    (subst (λ (n : ℕ). AreComparable n c.args.asked.now.regions.now c.args.asked.now.line.gs.now) (sym c.columns-parameters.ensures.value) (gs_comparable c.args.asked.now c.requires.asked c.args.context.now.system c.requires.context))

pub returns-clause-suitable : goal.returns-clause-suitable
returns-clause-suitable c =
    let yes : IsTrue c.keeps_limits.result = search rules in
    let within : IsTrue c.in_ok-is_within.field-0 = search rules in
    let positive : IsTrue c.in_ok-is_positive.field-0 = search rules in
    let below : IsTrue c.in_ok-all_below.field-0 = search rules in
    let fits : FitsSigned w64 c.args.need = c.ranges.need in
    let most = simp to_z-of_z at (c.in_ok-is_within.ensures.within within) in
    suited c.args.context.now c.args.asked.now.regions.now c.args.asked.now.line.fs.now c.args.asked.now.line.gs.now c.args.form.now c.args.need c.all_below-2.result
    (subst (λ (n : ℕ). IsModulus n c.args.form.now) c.columns-parameters.ensures.value (c.keeps_limits.ensures.0 yes))
    (c.in_ok-is_positive.ensures.positive positive) most (c.in_ok-all_below.ensures.below below) c.all_below-2.ensures.below

pub all_below-requires-clause-one_each : goal.all_below-requires-clause-one_each
all_below-requires-clause-one_each c = fs_each c.args.asked.now c.requires.asked

pub all_below-requires-2-clause-one_each : goal.all_below-requires-2-clause-one_each
all_below-requires-2-clause-one_each c = gs_each c.args.asked.now c.requires.asked
