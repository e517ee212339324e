-- Seeking an entry of lists one behind the other by its number.
use Rattle.std.proofs.Common.{◌≡◌, ℕ, zero, suc, ◌+◌, ◌<◌, List, [], ◌∷◌, ◌++◌, length, flat_map, drop, get_or, Some, sym, ap, subst, ◌∙◌, arith}
use Rattle.std.specs.Prelude.{slice_get}
use Rattle.std.proofs.lemmas.List.{length-append, length-map}
use Rattle.affc_trace.proofs.Runs.{slice_left, slice_right}
use Rattle.affc_domain.proofs.Lists.{to_mapped}
use Rattle.affc_rows.specs.Forms.{Affine}
use Rattle.affc_nest.specs.Domains.{with_rows}
use Rattle.affc_system.specs.declared.pairs.PairSystem.{PairSystem}
use Rattle.std.specs.List.{All, AllByRecursion as Each}
use Rattle.std.proofs.lemmas.List.Elements.{All-nil, All-from_recursion}
use Rattle.std.proofs.lemmas.Option.{same_Some}
use Rattle.affc_system.specs.Systems.{IsRow}
use Rattle.affc_products.specs.Blocks.{choices}
use Rattle.affc_products.proofs.ChoiceLemmas.{choices_of_rows, rows_together}
use Rattle.affc_products.proofs.Eaches.{each_left}
use Rattle.affc_life.specs.declared.clash.ClashProduct.{ClashProduct}
use Rattle.affc_life.specs.Products.{systems_in}
use Rattle.std.proofs.Math.Seq.{drop-cons}

-- how many steps seeking among choices takes at most
abbrev pub steps : List (List (List Affine)) → ℕ
steps [] = 0
steps (alternatives ∷ factors) = suc (length alternatives + steps factors)

-- an entry of the second part
pub in_second : {A : Type 0} (xs ys : List A) (number left : ℕ) → number ≡ length xs + left → slice_get (xs ++ ys) number ≡ slice_get ys left
in_second xs ys number left e = ap (slice_get (xs ++ ys)) e ∙ slice_right xs ys left

-- ---- Products

-- the system of a product with these rows behind the base's
abbrev pub with_choice : ClashProduct → List Affine → PairSystem
with_choice p rows = record p.base { system = with_rows p.base.system rows }

module _ (products : List ClashProduct) (i : ℕ) (p : ClashProduct) (within : i < length products) (is : p ≡ get_or products i p) where
  next : drop i products ≡ p ∷ drop (i + 1) products
  next = drop-cons products i p within ∙ ap (λ q. q ∷ drop (suc i) products) (sym is) ∙ ap (λ n. p ∷ drop n products) (one i)
    where
      one : (n : ℕ) → suc n ≡ n + 1
      one n = omega arith

  pub sought_here : (factors : List (List (List Affine))) (left : ℕ) (rows : List Affine) → factors ≡ p.factors → slice_get (choices factors) left ≡ Some rows
      → slice_get (flat_map systems_in (drop i products)) left ≡ Some (with_choice p rows)
  sought_here factors left rows f e =
      ap (λ ps. slice_get (flat_map systems_in ps) left) next
      ∙ slice_left (systems_in p) (flat_map systems_in (drop (i + 1) products)) left (with_choice p rows) (to_mapped (with_choice p) (choices p.factors) left rows (ap (λ fs. slice_get (choices fs) left) (sym f) ∙ e))

  pub sought_later : (factors : List (List (List Affine))) (left further : ℕ) → factors ≡ p.factors → left ≡ length (choices factors) + further
      → slice_get (flat_map systems_in (drop i products)) left ≡ slice_get (flat_map systems_in (drop (i + 1) products)) further
  sought_later factors left further f e =
      ap (λ ps. slice_get (flat_map systems_in ps) left) next
      ∙ in_second (systems_in p) (flat_map systems_in (drop (i + 1) products)) left further
      (e ∙ ap (λ fs. length (choices fs) + further) f ∙ ap (λ n. n + further) (sym (length-map (choices p.factors) (with_choice p))))

  pub counted_later : (factors : List (List (List Affine))) (number left further : ℕ) → factors ≡ p.factors → left ≡ length (choices factors) + further
      → number + length (flat_map systems_in (drop i products)) ≡ length (flat_map systems_in products) + left
      → number + length (flat_map systems_in (drop (i + 1) products)) ≡ length (flat_map systems_in products) + further
  counted_later factors number left further f e h =
      let own : length (systems_in p) ≡ length (choices factors) = length-map (choices p.factors) (with_choice p) ∙ ap (λ fs. length (choices fs)) (sym f) in
      let all : length (flat_map systems_in (drop i products)) ≡ length (systems_in p) + length (flat_map systems_in (drop (i + 1) products)) =
      ap (λ ps. length (flat_map systems_in ps)) next ∙ length-append (systems_in p) (flat_map systems_in (drop (i + 1) products)) in
      sum number (length (flat_map systems_in (drop i products))) (length (flat_map systems_in products)) left (length (choices factors)) further (length (systems_in p)) (length (flat_map systems_in (drop (i + 1) products))) e own all h
    where
      sum : (n d l left c f o m : ℕ) → left ≡ c + f → o ≡ c → d ≡ o + m → n + d ≡ l + left → n + m ≡ l + f
      sum n d l left c f o m a b e h = omega (arith, a, b, e, h)

-- ---- Rows

choice_at : (P : Affine → Type 0) (cs : List (List Affine)) (n : ℕ) (rows : List Affine) → Each (Each P) cs → slice_get cs n ≡ Some rows → Each P rows
choice_at P [] n rows h e = absurd (cc)
choice_at P (c ∷ cs) zero rows h e = let same : c ≡ rows = same_Some c rows e in subst (Each P) same h.0
choice_at P (c ∷ cs) (suc n) rows h e = choice_at P cs n rows h.1 e

-- those of a choice are over the columns where those of each factor are
pub choice_fits : (columns : ℕ) (fs : List (List (List Affine))) (n : ℕ) (rows : List Affine) → All (All (All (IsRow columns))) fs → slice_get (choices fs) n ≡ Some rows → All (IsRow columns) rows
choice_fits columns fs n rows h e =
    All-from_recursion (IsRow columns) rows
    (choice_at (IsRow columns) (choices fs) n rows
    (choices_of_rows (IsRow columns) fs (each_left (Each (Each (IsRow columns))) fs ([] ∷ []) (rows_together columns fs [] h (All-nil (All (IsRow columns)))))) e)
