use Rattle.std.proofs.Common.{◌∙◌, List, ℤ, refl, sym, ap, subst}
use Rattle.std.proofs.lemmas.Result.{err_from_is_err_and}
use Rattle.affc_decide.specs.Words.{texts_of}
use Rattle.affc_decide.specs.Blocks.{Ranges, Say, ends_of}
use Rattle.affc_decide.proofs.Said.{ranges_none, say_once, some_same}
use Rattle.affc_decide.proofs.block.set_ranges.Goals as goal

pub returns-in_err-ranges-in-Some-clause-none : goal.returns-in_err-ranges-in-Some-clause-none
returns-in_err-ranges-in-Some-clause-none c =
    let p = err_from_is_err_and c.from_residual-in_err-ranges-in-Some.result c.from_residual-in_err-ranges-in-Some.ensures.1 in
    rw (p.1, p.2) (λ is. ranges_none (texts_of c.args.more.now) c.args.block.now (λ ranges added after say taken.
    let ends = say_once (texts_of c.args.more.now) (ends_of ranges) c.in_ok-ends.ends.items say c.in_ok-ends.ensures.said ∙ sym c.as_slice.ensures.value in
    let block = some_same taken.0 c.in-Some.block (sym taken.1 ∙ c.in-Some.is) in
    c.in_err-ranges-in-Some.ensures.none is ranges ends taken.3 (taken.4 ∙ ap (λ b. b.columns) block)))

pub returns-in-Some-clause-taken : goal.returns-in-Some-clause-taken
returns-in-Some-clause-taken c =
    let ends = c.in_ok-ranges-in-Some.ensures.ends ∙ c.as_slice.ensures.value in (
      Ranges c.in_ok-ranges-in-Some.ranges,
      (texts_of c.args.more.now, refl, subst (λ (ns : List ℤ). Say (texts_of c.args.more.now) ns) (sym ends) c.in_ok-ends.ensures.said),
      (c.in-Some.block, c.in-Some.is, refl, c.in_ok-ranges-in-Some.ensures.ordered, c.in_ok-ranges-in-Some.ensures.width, refl),
    )
