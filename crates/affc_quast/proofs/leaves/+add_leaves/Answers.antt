use Rattle.std.proofs.Common.{◌≡◌, ℕ, ℤ, suc, ◌+◌, ◌++◌, ◌∷◌, [], List, rules, FitsSigned, w64, map, sym, ap, ◌∙◌, arith}
use Rattle.std.proofs.lemmas.Int.{to_z-of_z}
use Rattle.affc_rows.specs.Forms.{Affine}
use Rattle.affc_nest.specs.Divisions.{division_rows}
use Rattle.affc_quast.specs.Leaves.{Leaf, leaves_of}
use Rattle.affc_quast.specs.Seen.{seen}
use Rattle.affc_quast.specs.SeenLeaves.{division_seen, leaf_seen, under}
use Rattle.affc_quast.specs.declared.quast.Quast.{Quast}
use Rattle.affc_quast.proofs.PathLemmas.{test_made, division_made}
use Rattle.affc_quast.proofs.leaves.+add_leaves.Goals as goal

pub returns-in_ok-add_leaves-in-Test-2 : goal.returns-in_ok-add_leaves-in-Test-2
returns-in_ok-add_leaves-in-Test-2 t c =
    let n = c.args.columns in
    let form : Affine = c.in-Test.form in
    let ds : List (Affine × ℤ) = map division_seen c.args.divisions.now in
    let old : List Leaf = map leaf_seen c.args.out.now.items in
    let first : List Leaf = map leaf_seen c.add_leaves.new.out.items in
    let new : List Leaf = map leaf_seen c.add_leaves-in-Test.new.out.items in
    let yes_is : c.deref.result.now ≡ c.in-Test.yes.value = search rules in
    let no_is : c.deref-in-Test.result.now ≡ c.in-Test.no.value = search rules in
    test_made n form (seen c.in-Test.yes.value) (seen c.in-Test.no.value) c.args.rows.now c.as_slice.result.now c.as_slice-in-Test.result.now ds old first new
    (c.as_slice.ensures ∙ c.in_ok-on-in-Test.ensures) (c.as_slice-in-Test.ensures ∙ c.in_ok-off-in-Test.ensures)
    (c.in_ok-add_leaves-in-Test.ensures ∙ ap (λ (q : Quast). old ++ map (under c.as_slice.result.now ds) (leaves_of n (seen q))) yes_is)
    (c.in_ok-add_leaves-in-Test-2.ensures ∙ ap (λ (q : Quast). first ++ map (under c.as_slice-in-Test.result.now ds) (leaves_of n (seen q))) no_is)
    ∙ ap (λ (q : Quast). old ++ map (under c.args.rows.now ds) (leaves_of n (seen q))) (sym c.in-Test.is)

pub returns-in_ok-add_leaves-in-Div : goal.returns-in_ok-add_leaves-in-Div
returns-in_ok-add_leaves-in-Div t c =
    let n = c.args.columns in
    let form : Affine = c.in-Div.form in
    let by : ℤ = c.in-Div.by in
    let ds : List (Affine × ℤ) = map division_seen c.args.divisions.now in
    let old : List Leaf = map leaf_seen c.args.out.now.items in
    let new : List Leaf = map leaf_seen c.add_leaves-in-Div.new.out.items in
    let rest_is : c.deref-in-Div.result.now ≡ c.in-Div.rest.value = search rules in
    let fit : FitsSigned w64 c.in-Div.by = search rules in
    let path_made : c.in_ok-path-in-Div.path ≡ c.args.rows.now ++ division_rows n form by = simp to_z-of_z at c.in_ok-path-in-Div.ensures in
    let all_made : map division_seen c.in_ok-all-in-Div.all ≡ ds ++ (form, by) ∷ [] = simp to_z-of_z at c.in_ok-all-in-Div.ensures in
    let path_is : c.as_slice-in-Div.result.now ≡ c.args.rows.now ++ division_rows n form by = c.as_slice-in-Div.ensures ∙ path_made in
    let all_is : map division_seen c.as_slice-in-Div-2.result.now ≡ ds ++ (form, by) ∷ [] = ap (map division_seen) c.as_slice-in-Div-2.ensures ∙ all_made in
    division_made n (n + 1) form by (seen c.in-Div.rest.value) c.args.rows.now c.as_slice-in-Div.result.now ds (map division_seen c.as_slice-in-Div-2.result.now) old new
    (one n) path_is all_is
    (c.in_ok-add_leaves-in-Div.ensures
    ∙ ap (λ (q : Quast). old ++ map (under c.as_slice-in-Div.result.now (map division_seen c.as_slice-in-Div-2.result.now)) (leaves_of (n + 1) (seen q))) rest_is)
    ∙ ap (λ (q : Quast). old ++ map (under c.args.rows.now ds) (leaves_of n (seen q))) (sym c.in-Div.is)
  where
    one : (n : ℕ) → n + 1 ≡ suc n
    one n = omega arith
