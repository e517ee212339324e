-- A data text stands for one data set.
use Rattle.std.proofs.Common.{◌≡◌, ℕ, ℤ, true, ◌&&◌, List, [], ◌∷◌, ◌++◌, sym, subst, ◌∙◌}
use Rattle.std.proofs.lemmas.Bool.{and_parts}
use Rattle.affc_ast.specs.declared.tree.Param.{Param}
use Rattle.affc_ast.specs.declared.tree.Param.TheVariants.{Number, Array}
use Rattle.affc_ast.specs.Index.{is_int64}
use Rattle.affc_interp.specs.DataText.{HasLines, element_count}
use Rattle.affc_interp.specs.Laws.{ranges_fit, DataAreOne}
use Rattle.affc_interp.proofs.DataLines.{fits_so, one_number_line, one_array_line}
use Rattle.affc_interp.proofs.Feeds.{no_lines, number_cut, array_cut}

lines_are_one : (before : List ℤ) (ps : List Param) (p q : List ℤ) (values others : List (List ℕ)) (text rest more : List ℕ) → ranges_fit ps ≡ true
    → HasLines before ps p values text rest → HasLines before ps q others text more → (p ≡ q) × (values ≡ others) × (rest ≡ more)
lines_are_one before [] p q values others text rest more fit h k =
    let a = no_lines before p values text rest h in
    let b = no_lines before q others text more k in
    (sym a.0 ∙ b.0, sym a.1 ∙ b.1, sym a.2 ∙ b.2)
lines_are_one before (Number name low high ∷ ps) p q values others text rest more fit h k =
    let a = number_cut name low high ps before text p values rest h in
    let b = number_cut name low high ps before text q others more k in
    let both = and_parts (is_int64 low && is_int64 high) (ranges_fit ps) fit in
    let fits = and_parts (is_int64 low) (is_int64 high) both.0 in
    let u = one_number_line name low high text a.0 b.0 a.3 b.3 (fits_so low fits.0) (fits_so high fits.1) a.4 b.4 in
    let same : HasLines (before ++ a.0 ∷ []) ps b.1 others a.3 more =
    subst (λ z. HasLines (before ++ z ∷ []) ps b.1 others a.3 more) (sym u.0) (subst (λ t. HasLines (before ++ b.0 ∷ []) ps b.1 others t more) (sym u.1) b.5) in
    let v = lines_are_one (before ++ a.0 ∷ []) ps a.1 b.1 values others a.3 rest more both.1 a.5 same in
    (a.2 ∙ (λ i. u.0 i ∷ v.0 i) ∙ sym b.2, v.1, v.2)
lines_are_one before (Array d ∷ ps) p q values others text rest more fit h k =
    let a = array_cut d ps before text ps p values rest h in
    let b = array_cut d ps before text ps q others more k in
    let u = one_array_line d.name (element_count d before) text a.0 a.3 b.0 b.3 a.4 b.4 in
    let v = lines_are_one before ps p q a.1 b.1 a.3 rest more fit a.5 (subst (λ t. HasLines before ps q b.1 t more) (sym u.1) b.5) in
    (v.0, sym a.2 ∙ (λ i. u.0 i ∷ v.1 i) ∙ b.2, v.2)

pub data_are_one : DataAreOne
data_are_one text program p q values others fit f g =
    let u = lines_are_one [] program.params p q values others text [] [] fit f.lines g.lines in
    (u.0, u.1)
