use Rattle.std.proofs.Common.{rules, ◌≡◌, sym, subst, refl}
use Rattle.std.specs.Prelude.{FitsSigned}
use Rattle.std.specs.Int.{w64}
use Rattle.std.proofs.lemmas.Int.{to_z-of_z}
use Rattle.affc_leaf.proofs.FlatParts.{IsSplitOf, split_answer}
use Rattle.affc_leaf.proofs.flat.joined.Goals as goal

pub returns : goal.returns
returns c =
    let here = c.args.here.now in
    let f : FitsSigned w64 c.args.at = search rules in
    let e : c.in_ok-form.form ≡ c.args.form.now = search rules in
    let s : IsSplitOf c.args.form.now c.args.at c.args.low.value c.args.high.value c.in-Ok.proof.value =
    subst (IsSplitOf c.args.form.now c.args.at c.args.low.value c.args.high.value) (sym c.in-Ok.ensures.ok) (e, simp to_z-of_z refl, refl, refl) in
    record {
      answer = split_answer here.system.now here.bounds.now here.next c.args.part.now.rows c.args.form.now c.args.at c.args.low.value c.args.high.value c.in-Ok.proof.value
          c.requires.width c.requires.zero c.requires.low_fits c.requires.high_fits c.requires.low c.requires.high s;
    }
