use Rattle.std.proofs.Common.{◌∙◌, List, ℕ, sym, ap, subst}
use Rattle.affc_farkas.specs.Multiples.{AreMultipliers}
use Rattle.affc_rows.specs.Forms.{Affine}
use Rattle.affc_eliminate.specs.declared.kept.Kept.{Kept}
use Rattle.affc_eliminate.proofs.work.copied.Goals as goal

pub unreachable-requires : goal.unreachable-requires
unreachable-requires c = c.in_default.ensures.none (subst AreMultipliers (sym (c.in_ok-pairs.ensures.items ∙ c.pairs.ensures.pairs)) c.pairs.ensures.multipliers)

pub returns : goal.returns
returns c =
    let row = c.args.row.now in
    let make : Affine → List (ℕ × ℕ) → Kept = λ f by. record { row = f; from = by; number = row.number } in
    ap (λ f. make f c.in-Some.from) c.in_ok-form.ensures.cases ∙ ap (λ by. make row.row by) (c.in-Some.ensures.pairs ∙ c.in_ok-pairs.ensures.items ∙ c.pairs.ensures.pairs)
