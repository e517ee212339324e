use Rattle.std.proofs.Common.{◌≡◌, ◌≤◌, ◌^◌, ◌≤ℤ◌, ℤ, sym, subst, arith}
use Rattle.std.specs.Prelude.{FitsSigned, Option, IfSome, unsigned_abs}
use Rattle.std.specs.Int.{w64}
use Rattle.std.proofs.lemmas.Int.{to_z-of_z, fits_signed_from_abs}
use Rattle.std.proofs.lemmas.Result.{IfOk-weaker}
use Rattle.affc_rows.specs.Forms.{value}
use Rattle.affc_split.specs.maximum.Regions.{IsAnswer, IsBounded}
use Rattle.affc_split.specs.declared.maximum.search.Best.{Best}
use Rattle.affc_split.proofs.maximum.Laters.{then_later}
use Rattle.affc_moduli.proofs.Ties.{rises, positive_by, reached_by}
use Rattle.affc_moduli.proofs.extremes.with_way.Goals as goal

pub met-requires-clause-positive : goal.met-requires-clause-positive
met-requires-clause-positive c =
    let near = c.floor_of-floor.ensures.near in
    let f : FitsSigned w64 c.floor_of-floor.result = fits_signed_from_abs w64 c.floor_of-floor.result (omega (arith, near)) in
    let answer = simp to_z-of_z at c.in_ok-found.ensures.answer in
    let some = subst (λ (o : Option Best). IsAnswer c.args.way.now.region.now c.args.way.now.form.now c.floor_of-floor.result o) c.in-Some.is answer in
    positive_by c.floor_of-floor.result c.in-Some.best.value c.floor_of-floor.ensures.natural some.0

pub returns-in-None-clause-bounded : goal.returns-in-None-clause-bounded
returns-in-None-clause-bounded c =
    let near = c.floor_of-floor.ensures.near in
    let f : FitsSigned w64 c.floor_of-floor.result = fits_signed_from_abs w64 c.floor_of-floor.result (omega (arith, near)) in
    let answer = simp to_z-of_z at c.in_ok-found.ensures.answer in
    let none = subst (λ (o : Option Best). IsAnswer c.args.way.now.region.now c.args.way.now.form.now c.floor_of-floor.result o) c.in-None.is answer in
    let low = c.requires.sought.near in
    let g : FitsSigned w64 c.args.sought.level = fits_signed_from_abs w64 c.args.sought.level (omega (arith, low)) in
    let within = simp to_z-of_z at c.floor_of-floor.ensures.within in
    λ z inside. rises (value c.args.way.now.form.now z) c.floor_of-floor.result c.args.sought.level (none z inside) within

pub returns-in-Some-clause-rises : goal.returns-in-Some-clause-rises
returns-in-Some-clause-rises c =
    let near = c.floor_of-floor.ensures.near in
    let f : FitsSigned w64 c.floor_of-floor.result = fits_signed_from_abs w64 c.floor_of-floor.result (omega (arith, near)) in
    let answer = simp to_z-of_z at c.in_ok-found.ensures.answer in
    let some = subst (λ (o : Option Best). IsAnswer c.args.way.now.region.now c.args.way.now.form.now c.floor_of-floor.result o) c.in-Some.is answer in
    let low = c.requires.sought.near in
    let h : FitsSigned w64 c.args.sought.level = fits_signed_from_abs w64 c.args.sought.level (omega (arith, low)) in
    let above = simp to_z-of_z at c.floor_of-floor.ensures.above in
    let level = c.met.ensures.level in
    IfOk-weaker c.met.result (λ s. s.level ≡ c.in-Some.best.value) (λ s. c.args.sought.level ≤ℤ s.level)
    (λ s e. subst (λ (v : ℤ). c.args.sought.level ≤ℤ v) (sym e) (reached_by c.args.sought.level c.floor_of-floor.result c.in-Some.best.value above some.0)) level

pub returns-in-Some-clause-bounded : goal.returns-in-Some-clause-bounded
returns-in-Some-clause-bounded c =
    let near = c.floor_of-floor.ensures.near in
    let f : FitsSigned w64 c.floor_of-floor.result = fits_signed_from_abs w64 c.floor_of-floor.result (omega (arith, near)) in
    let answer = simp to_z-of_z at c.in_ok-found.ensures.answer in
    let some = subst (λ (o : Option Best). IsAnswer c.args.way.now.region.now c.args.way.now.form.now c.floor_of-floor.result o) c.in-Some.is answer in
    let level = c.met.ensures.level in
    IfOk-weaker c.met.result (λ s. s.level ≡ c.in-Some.best.value) (λ s. IsBounded c.args.way.now.region.now c.args.way.now.form.now s.level)
    (λ s e z inside. subst (λ (v : ℤ). value c.args.way.now.form.now z ≤ℤ v) (sym e) (some.1.bounded z inside)) level

pub returns-in-Some-clause-later : goal.returns-in-Some-clause-later
returns-in-Some-clause-later c = then_later c.args.budget.now c.maximum.new.budget c.met.new.budget c.maximum.ensures.later c.met.ensures.later
