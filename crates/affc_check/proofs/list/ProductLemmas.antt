-- Questions in product form.
use Rattle.std.proofs.Common.{zero, suc, ◌≡◌, ◌≢◌, ℕ, List, [], ◌∷◌, ◌++◌, map, flat_map, take, Some, refl, sym, ap, subst, inl, inr, ◌∙◌}
use Rattle.std.specs.Prelude.{slice_get}
use Rattle.std.specs.List.{All}
use Rattle.std.proofs.lemmas.List.Elements.{All-head, All-tail}
use Rattle.affc_rows.specs.Forms.{Affine}
use Rattle.affc_system.specs.Systems.{Rows}
use Rattle.affc_system.specs.declared.pairs.PairSystem.{PairSystem}
use Rattle.affc_trace.specs.Law.{IsIn}
use Rattle.affc_trace.proofs.EndedReads.{append_assoc}
use Rattle.affc_nest.specs.Domains.{gap_row, with_rows}
use Rattle.affc_products.proofs.Eaches.{each_right}
use Rattle.affc_conflicts.specs.Questions.{distance, agree_rows, over_columns, distance_question, distance_questions}
use Rattle.affc_products.specs.Parts.{IsWithin}
use Rattle.affc_products.specs.Products.{choices, product}
use Rattle.affc_products.specs.Blocks.{AnyPast}
use Rattle.affc_products.proofs.ProductLemmas.{choices_with_last}
use Rattle.affc_life.specs.Products.{systems_in}
use Rattle.affc_life.specs.declared.clash.ClashProduct.{ClashProduct}
use Rattle.affc_questions.specs.Asked.{IsAlong}
use Rattle.affc_questions.specs.Tails.{distance_tail}
use Rattle.affc_check.specs.list.Items.{Question}
use Rattle.affc_sched.specs.Touched.{Each}
use Rattle.affc_check.specs.list.Walks.{clash_systems}
use Rattle.affc_check.specs.list.Limits.{AnyPasses}

-- ---- Limits

question_in : (qs : List Rows) (n : ℕ) (q : Rows) → slice_get qs n ≡ Some q → IsIn (Question q) (map Question qs)
question_in [] n q e = absurd (cc)
question_in (p ∷ ps) zero q e = inl (cc)
question_in (p ∷ ps) (suc n) q e = inr (question_in ps n q e)

-- a question past the limits is an item that passes
pub past_passes : (qs : List Rows) → AnyPast qs → AnyPasses (map Question qs)
past_passes qs h = record { question = h.question; there = question_in qs h.number h.question h.there; passes = h.past }

none_of : (qs : List Rows) → All IsWithin qs → (q : Rows) → IsIn (Question q) (map Question qs) → IsWithin q
none_of [] h q i = absurd i
none_of (p ∷ ps) h q (inl e) = let same : q ≡ p = cc in subst IsWithin (sym same) (All-head IsWithin p ps h)
none_of (p ∷ ps) h q (inr i) = none_of ps (All-tail IsWithin p ps h) q i

-- and where all are within them, none does
pub within_passes : (qs : List Rows) → All IsWithin qs → ¬ (AnyPasses (map Question qs))
within_passes qs h = λ (a : AnyPasses (map Question qs)). a.passes (none_of qs h a.question a.there)

-- ---- Products

-- the questions on the distances in the clash systems of a product
module _ (rows : List Affine) (k : ℕ) (row b : Affine) (p : ClashProduct) where
  abbrev tail_of : (xs ys : List Affine) → List Affine
  tail_of xs ys = distance_tail rows k row b p.base xs ys

  abbrev tails : List (List Affine)
  tails = tail_of p.base.x.items p.base.y.items ∷ tail_of p.base.y.items p.base.x.items ∷ []

  abbrev system_with : List Affine → PairSystem
  system_with c = record p.base { system = with_rows p.base.system c }

  moved : (c : List Affine) (xs ys : List Affine) → distance_question rows k row b (system_with c) xs ys ≡ record { columns = p.base.system.columns; rows = p.base.system.rows ++ (c ++ tail_of xs ys) }
  moved c xs ys =
      let front = p.base.system.rows in
      let agree = agree_rows p.base (take k rows) in
      let last = gap_row (over_columns p.base.system.columns b) (distance row xs ys) 0 ∷ [] in
      ap (λ rs. record { columns = p.base.system.columns; rows = rs }) (append_assoc (front ++ c) agree last ∙ append_assoc front c (agree ++ last))

  each : (cs : List (List Affine))
      → distance_questions rows k row b (map system_with cs) ≡ map (λ rows. record { columns = p.base.system.columns; rows = p.base.system.rows ++ rows }) (flat_map (λ c. map (λ t. c ++ t) tails) cs)
  each [] = refl
  each (c ∷ cs) =
      ap (λ q. q ∷ distance_question rows k row b (system_with c) p.base.y.items p.base.x.items ∷ distance_questions rows k row b (map system_with cs)) (moved c p.base.x.items p.base.y.items)
      ∙ ap (λ q. record { columns = p.base.system.columns; rows = p.base.system.rows ++ (c ++ tail_of p.base.x.items p.base.y.items) } ∷ q ∷ distance_questions rows k row b (map system_with cs)) (moved c p.base.y.items p.base.x.items)
      ∙ ap (λ qs. record { columns = p.base.system.columns; rows = p.base.system.rows ++ (c ++ tail_of p.base.x.items p.base.y.items) }
      ∷ record { columns = p.base.system.columns; rows = p.base.system.rows ++ (c ++ tail_of p.base.y.items p.base.x.items) } ∷ qs) (each cs)

  pub distances_of_product : distance_questions rows k row b (systems_in p) ≡ product p.base.system.columns p.base.system.rows (p.factors ++ tails ∷ [])
  distances_of_product =
      each (choices p.factors) ∙ ap (map (λ rows. record { columns = p.base.system.columns; rows = p.base.system.rows ++ rows })) (sym (choices_with_last p.factors tails))

-- ---- The bases of products

base_along : (rows : List Affine) (row b : Affine) (p : ClashProduct) (cs : List (List Affine)) (more : List PairSystem) → cs ≢ [] → Each (IsAlong rows row b) (map (λ c. record p.base { system = with_rows p.base.system c }) cs ++ more) → IsAlong rows row b p.base
base_along rows row b p [] more some h = absurd (some refl)
base_along rows row b p (c ∷ cs) more some h = let a = h.0 in record { basis = a.basis; there = a.there; over = a.over; first = a.first; second = a.second }

-- what holds of the elements of each clash system holds of each base's
pub bases_along : (rows : List Affine) (row b : Affine) (ps : List ClashProduct) → Each (IsAlong rows row b) (clash_systems ps) → Each (λ p. IsAlong rows row b p.base) ps
bases_along rows row b [] h = tt
bases_along rows row b (p ∷ ps) h = (base_along rows row b p (choices p.factors) (clash_systems ps) p.some h, bases_along rows row b ps (each_right (IsAlong rows row b) (systems_in p) (clash_systems ps) h))
