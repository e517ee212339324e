use Rattle.std.proofs.Common.{◌≡◌, subst, ap, ◌++◌, ◌∷◌, [], IfSome, List}
use Rattle.std.specs.List.{All}
use Rattle.affc_rows.specs.Forms.{Affine}
use Rattle.affc_system.specs.Systems.{Rows, IsRow}
use Rattle.affc_leaf.specs.BoxCuts.{IsBoxCut, IsEmptyWith}
use Rattle.affc_leaf.proofs.BoxCuts.{empty_behind}
use Rattle.affc_leaf.proofs.box_cuts.+cut_and_leaf.Goals as goal

pub returns-in-Ok : goal.returns-in-Ok
returns-in-Ok t c =
    let system = c.args.system.now in
    let bounds = c.args.bounds.now in
    let cuts = c.args.cuts in
    let cut = c.in-Some.cut in
    let b = subst (λ o. IfSome o (λ k. IsBoxCut system bounds k.by k.g k.row)) c.in-Some.is c.in_ok-cut.ensures.cut in
    let v = subst (λ o. IfSome o (λ k. c.push_planned.new.cuts ≡ record cuts { rows = cuts.rows ++ k.row ∷ [] })) c.in-Some.is c.in_ok-cut.ensures.value in
    let fit = subst (λ rs. All (IsRow cuts.columns) rs) c.rows-cuts.ensures.rows c.rows-cuts.ensures.fit in
    record {
      answer = empty_behind system bounds c.args.next cuts.rows cut.by cut.g cut.row c.in-Ok.rest c.behind_cut.result b
          (subst (λ n. All (IsRow n) cuts.rows) c.requires.columns fit)
          (subst (λ (l : List Affine). IfSome c.in-Ok.rest (λ p. IsEmptyWith system bounds c.args.next l p.value)) (ap (λ (s : Rows). s.rows) v) c.in-Ok.ensures.answer) c.behind_cut.ensures;
    }
