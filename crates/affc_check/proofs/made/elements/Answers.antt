use Rattle.std.proofs.Common.{◌≤◌, length, sym, ap, subst, ◌∙◌, arith}
use Rattle.std.specs.List.{All}
use Rattle.affc_rows.specs.Forms.{Affine, value, values_of}
use Rattle.affc_system.specs.Pairs.{IsSubscript}
use Rattle.affc_certvalue.specs.Limits.{IsWord}
use Rattle.affc_check.specs.list.Items.{is_behind}
use Rattle.affc_check.proofs.list.FoldLemmas.{elements_along}
use Rattle.affc_check.proofs.MadeLemmas.{behind_pair, ahead_pair}
use Rattle.affc_check.proofs.made.elements.Goals as goal

pub is_behind-requires-clause-elements : goal.is_behind-requires-clause-elements
is_behind-requires-clause-elements c = elements_along c.args.along.now.rows.now c.args.along.now.row.now c.args.along.now.modulus.now c.args.pair.now c.requires.along

pub element-requires-clause-few : goal.element-requires-clause-few
element-requires-clause-few c = let few : c.columns-columns.result ≤ 128 = c.columns-columns.ensures.few in omega (arith, few, c.columns-columns.ensures.value, c.requires.words.width)

pub element-requires-clause-subscripts : goal.element-requires-clause-subscripts
element-requires-clause-subscripts c =
    subst (λ xs. All (IsSubscript (length c.args.point.now)) xs) (sym c.as_slice.ensures.value)
    (subst (λ n. All (IsSubscript n) c.args.pair.now.x.items) (sym c.requires.words.width) c.args.pair.now.x_fits)

pub element-requires-clause-words : goal.element-requires-clause-words
element-requires-clause-words c = subst (λ xs. All (λ (f : Affine). IsWord (value f c.args.point.now)) xs) (sym c.as_slice.ensures.value) c.requires.words.first

pub element-requires-2-clause-few : goal.element-requires-2-clause-few
element-requires-2-clause-few c = let few : c.columns-columns.result ≤ 128 = c.columns-columns.ensures.few in omega (arith, few, c.columns-columns.ensures.value, c.requires.words.width)

pub element-requires-2-clause-subscripts : goal.element-requires-2-clause-subscripts
element-requires-2-clause-subscripts c =
    subst (λ xs. All (IsSubscript (length c.args.point.now)) xs) (sym c.as_slice-2.ensures.value)
    (subst (λ n. All (IsSubscript n) c.args.pair.now.y.items) (sym c.requires.words.width) c.args.pair.now.y_fits)

pub element-requires-2-clause-words : goal.element-requires-2-clause-words
element-requires-2-clause-words c = subst (λ xs. All (λ (f : Affine). IsWord (value f c.args.point.now)) xs) (sym c.as_slice-2.ensures.value) c.requires.words.second

pub returns-then-branch : goal.returns-then-branch
returns-then-branch c =
    let s = c.args.pair.now in
    let point = c.args.point.now in
    behind_pair (is_behind c.args.along.now.row.now s point) (values_of s.x.items point) (values_of s.y.items point) c.in_ok-x.x c.in_ok-y.y (sym c.in_ok-is_behind.ensures ∙ c.if-branch.true)
    (c.in_ok-x.ensures ∙ ap (λ fs. values_of fs point) c.as_slice.ensures.value) (c.in_ok-y.ensures ∙ ap (λ fs. values_of fs point) c.as_slice-2.ensures.value)

pub returns-else-branch : goal.returns-else-branch
returns-else-branch c =
    let s = c.args.pair.now in
    let point = c.args.point.now in
    ahead_pair (is_behind c.args.along.now.row.now s point) (values_of s.x.items point) (values_of s.y.items point) c.in_ok-x.x c.in_ok-y.y (sym c.in_ok-is_behind.ensures ∙ c.if-branch.false)
    (c.in_ok-x.ensures ∙ ap (λ fs. values_of fs point) c.as_slice.ensures.value) (c.in_ok-y.ensures ∙ ap (λ fs. values_of fs point) c.as_slice-2.ensures.value)
