-- A draft's systems and the questions of its product.
use Rattle.std.proofs.Common.{◌≡◌, ◌≢◌, ℕ, zero, suc, ◌<◌, ◌≤◌, List, [], ◌∷◌, ◌++◌, length, map, flat_map, get_or, refl, sym, ap, subst, ◌∙◌, ◌⊎◌, inl, inr, arith}
use Rattle.std.specs.Prelude.{◌↔◌}
use Rattle.std.specs.List.{All}
use Rattle.std.proofs.lemmas.List.Elements.{All-nil, All-cons, All-head, All-tail, All-weaker, recursion_from_All}
use Rattle.affc_rows.specs.Forms.{Affine, HaveColumns}
use Rattle.affc_system.specs.Pairs.{IsSubscript}
use Rattle.affc_system.specs.Systems.{Rows, FitsRow, IsRow}
use Rattle.affc_system.specs.declared.pairs.PairSystem.{PairSystem}
use Rattle.affc_trace.specs.Law.{IsIn}
use Rattle.affc_trace.proofs.Members.{in_map, to_map, to_flat_map}
use Rattle.affc_domain.proofs.Lists.{from_map, stands_in, in_all}
use Rattle.affc_nest.specs.Domains.{with_rows}
use Rattle.affc_products.specs.Blocks.{choices, product, AnyPast}
use Rattle.affc_products.specs.Parts.{IsWithin}
use Rattle.affc_life.specs.declared.draft.Draft.{Draft}
use Rattle.affc_life.specs.declared.clash.ClashProduct.{ClashProduct}
use Rattle.affc_life.specs.Clashes.{Clash, clash_of}
use Rattle.affc_life.specs.Drafts.{drafted, draft_by, IsPaired}
use Rattle.affc_life.specs.Products.{systems_in}
use Rattle.affc_life.specs.Sizes.{IsLarge, AnyLarge}
use Rattle.affc_products.proofs.ChoiceLemmas.{Chosen, within_all, factors_all}
use Rattle.affc_products.proofs.ProductLemmas.{choices_without_last}
use Rattle.affc_life.proofs.ChoiceLemmas.{map_twice, map_same, flat_one}
use Rattle.affc_life.proofs.LimitLemmas.{all_first, all_second, larger, none_in_parts}

-- ---- Choices

no_maps : {A : Type 0} (us : List (List A)) → flat_map (λ u. map (λ v. u ++ v) []) us ≡ []
no_maps [] = refl
no_maps (u ∷ us) = no_maps us

-- there is one where there is one of the others, and an alternative
pub choice_here : (factors rest : List (List (List Affine))) (alternatives : List (List Affine)) (P : Type 0) → factors ≡ alternatives ∷ rest → (alternatives ≡ [] → ⊥)
    → P ↔ (choices rest ≢ []) → P ↔ (choices factors ≢ [])
choice_here factors rest alternatives P is some h =
    (λ p. subst (λ fs. choices fs ≢ []) (sym is) (here alternatives (choices rest) some (h.0 p)), λ n. h.1 (λ e. n (ap choices is ∙ ap (λ cs. flat_map (λ u. map (λ v. u ++ v) cs) alternatives) e ∙ no_maps alternatives)))
  where
    here : (us cs : List (List Affine)) → (us ≡ [] → ⊥) → cs ≢ [] → flat_map (λ u. map (λ v. u ++ v) cs) us ≢ []
    here [] cs n m e = absurd (n refl)
    here (u ∷ us) [] n m e = absurd (m refl)
    here (u ∷ us) (c ∷ cs) n m e = absurd (cc)

-- none
pub no_choice : (cs : List (List Affine)) → (cs ≢ [] → ⊥) → cs ≡ []
no_choice [] n = refl
no_choice (c ∷ cs) n = absurd (n (λ e. absurd (cc)))

either : (n m : ℕ) → (n ≤ m) ⊎ (m < n)
either zero m = inl (omega arith)
either (suc n) zero = inr (omega arith)
either (suc n) (suc m) = elim (either n m) [ inl h ↦ inl (omega (arith, h)) | inr h ↦ inr (omega (arith, h)) ]

-- ---- Limits

-- rows over these columns that aren't within the limits
pub fitting_rows : (columns : ℕ) (rows : List Affine) → HaveColumns columns rows → All FitsRow rows → All (IsRow columns) rows
fitting_rows columns [] w f = All-nil (IsRow columns)
fitting_rows columns (r ∷ rows) w f =
    All-cons (IsRow columns) r rows (record { width = All-head (λ g. length g.coefs ≡ columns) r rows w; fits = All-head FitsRow r rows f })
    (fitting_rows columns rows (All-tail (λ g. length g.coefs ≡ columns) r rows w) (All-tail FitsRow r rows f))

not_within : (s : Rows) → HaveColumns s.columns s.rows → (IsWithin s → ⊥) → IsLarge s
not_within s w n = elim (either s.columns 128) [
  | inr h ↦ inl h
  | inl h ↦ elim (either (length s.rows) 1024) [
    | inr g ↦ inr (inl g)
    | inl g ↦ inr (inr (λ all. n (record { columns = h; few = g; rows = fitting_rows s.columns s.rows w all })))
  ]
]

within_fits : (s : Rows) → IsWithin s → IsLarge s → ⊥
within_fits s h (inl l) = more s.columns h.columns l
  where
    more : (n : ℕ) → n ≤ 128 → 128 < n → ⊥
    more n a b = omega (arith, a, b)
within_fits s h (inr (inl l)) = more (length s.rows) h.few l
  where
    more : (n : ℕ) → n ≤ 1024 → 1024 < n → ⊥
    more n a b = omega (arith, a, b)
within_fits s h (inr (inr n)) = n (All-weaker (IsRow s.columns) FitsRow (λ f r. r.fits) s.rows h.rows)

module _ (d : Draft) where
  abbrev make : List Affine → Rows
  make rows = record { columns = d.columns; rows = d.front.items ++ rows }

  -- the questions of its product
  questions_are : (tails : List (List Affine)) → tails ≡ [] ∷ [] → product d.columns d.front.items (d.factors ++ tails ∷ []) ≡ product d.columns d.front.items d.factors
  questions_are tails e =
      ap (λ ts. product d.columns d.front.items (d.factors ++ ts ∷ [])) e ∙ ap (map (λ rows. record { columns = d.columns; rows = d.front.items ++ rows })) (choices_without_last d.factors)

  pub all_kept : (tails : List (List Affine)) → tails ≡ [] ∷ [] → All IsWithin (product d.columns d.front.items (d.factors ++ tails ∷ [])) → All IsWithin (product d.columns d.front.items d.factors)
  all_kept tails e h = subst (All IsWithin) (questions_are tails e) h

  pub none_past : (tails : List (List Affine)) → tails ≡ [] ∷ [] → All IsWithin (product d.columns d.front.items (d.factors ++ tails ∷ [])) → AnyLarge (drafted d) → ⊥
  none_past tails e h any =
      let m = in_map (draft_by d) (choices d.factors) any.clash any.there in
      within_fits any.clash.system
      (subst (λ (c : Clash). IsWithin c.system) (sym m.2) (in_all IsWithin (product d.columns d.front.items d.factors) (make m.0) (subst (All IsWithin) (questions_are tails e) h) (to_map make (choices d.factors) m.0 m.1)))
      any.large

  pub one_past : (tails : List (List Affine)) → tails ≡ [] ∷ [] → All IsPaired (drafted d) → AnyPast (product d.columns d.front.items (d.factors ++ tails ∷ [])) → AnyLarge (drafted d)
  one_past tails e paired h =
      let past = subst AnyPast (questions_are tails e) h in
      let m = from_map make (choices d.factors) past.number past.question past.there in
      let there : IsIn (draft_by d m.0) (drafted d) = to_map (draft_by d) (choices d.factors) m.0 (stands_in (choices d.factors) past.number m.0 m.1) in
      record {
        clash = draft_by d m.0;
        there = there;
        large = not_within (make m.0) (in_all IsPaired (drafted d) (draft_by d m.0) paired there).width (λ w. past.past (subst IsWithin (sym m.2) w));
      }

  -- ---- Where there is a choice

  abbrev some_choice : (cs : List (List Affine)) → cs ≢ [] → (c : List Affine) × IsIn c cs
  some_choice [] n = absurd (n refl)
  some_choice (c ∷ cs) n = (c, inl refl)

  module _ (some : choices d.factors ≢ []) where
    abbrev first_choice : List Affine
    first_choice = (some_choice (choices d.factors) some).0

    first_there : IsIn (draft_by d first_choice) (drafted d)
    first_there = to_map (draft_by d) (choices d.factors) first_choice (some_choice (choices d.factors) some).1

    pub large_front_of : IsLarge (record { columns = d.columns; rows = d.front.items }) → AnyLarge (drafted d)
    large_front_of h = record { clash = draft_by d first_choice; there = first_there; large = larger d.columns d.front.items first_choice h }

    module _ (paired : All IsPaired (drafted d)) where
      first_paired : IsPaired (draft_by d first_choice)
      first_paired = in_all IsPaired (drafted d) (draft_by d first_choice) paired first_there

      pub front_wide : HaveColumns d.columns d.front.items
      front_wide = all_first (λ f. length f.coefs ≡ d.columns) d.front.items first_choice first_paired.width

      pub x_fits : All (IsSubscript d.columns) d.x.items
      x_fits = first_paired.first

      pub y_fits : All (IsSubscript d.columns) d.y.items
      y_fits = first_paired.second

-- ---- Products

-- the systems of a product are those of the draft that it is made of
pub product_made : (base : PairSystem) (factors : List (List (List Affine))) (d : Draft) → base.system ≡ record { columns = d.columns; rows = d.front.items } → base.ranges ≡ d.ranges → base.x.items ≡ d.x.items
    → base.y.items ≡ d.y.items → factors ≡ d.factors → map clash_of (map (λ rows. record base { system = with_rows base.system rows }) (choices factors)) ≡ drafted d
product_made base factors d s r i j f =
    map_twice clash_of (λ rows. record base { system = with_rows base.system rows }) (choices factors)
    ∙ map_same (λ rows. clash_of (record base { system = with_rows base.system rows })) (draft_by d) same (choices factors) ∙ ap (λ fs. map (draft_by d) (choices fs)) f
  where
    same : (rows : List Affine) → clash_of (record base { system = with_rows base.system rows }) ≡ draft_by d rows
    same rows k = record { system = with_rows (s k) rows; ranges = r k; x = i k; y = j k }

-- the rows of its factors
pub alternatives_there : (fs : List (List (List Affine))) → choices fs ≢ [] → Chosen fs
alternatives_there [] n = tt
alternatives_there ([] ∷ fs) n = absurd (n refl)
alternatives_there ((u ∷ us) ∷ fs) n = (omega arith, alternatives_there fs (λ e. n (ap (λ cs. flat_map (λ u. map (λ v. u ++ v) cs) (u ∷ us)) e ∙ no_maps (u ∷ us))))

pub factors_fit : (columns : ℕ) (front : List Affine) (fs : List (List (List Affine))) → choices fs ≢ [] → All IsWithin (product columns front fs) → All (All (All (IsRow columns))) fs
factors_fit columns front fs n h = factors_all columns fs (within_all columns front fs (alternatives_there fs n) (recursion_from_All IsWithin (product columns front fs) h)).factors_fit

-- ---- Entries

entry_in : {A : Type 0} (xs : List A) (i : ℕ) (x : A) → i < length xs → x ≡ get_or xs i x → IsIn x xs
entry_in [] i x h e = absurd (omega (arith, h))
entry_in (y ∷ xs) zero x h e = inl e
entry_in (y ∷ xs) (suc i) x h e = inr (entry_in xs i x (omega (arith, h)) e)

module _ (drafts : List Draft) (i : ℕ) (d : Draft) (within : i < length drafts) (is : d ≡ get_or drafts i d) where
  pub paired_at : All IsPaired (flat_map drafted drafts) → All IsPaired (drafted d)
  paired_at h = each drafts h (entry_in drafts i d within is)
    where
      each : (ds : List Draft) → All IsPaired (flat_map drafted ds) → IsIn d ds → All IsPaired (drafted d)
      each [] h i = absurd i
      each (x ∷ ds) h (inl e) = subst (λ (y : Draft). All IsPaired (drafted y)) (sym e) (all_first IsPaired (drafted x) (flat_map drafted ds) h)
      each (x ∷ ds) h (inr i) = each ds (all_second IsPaired (drafted x) (flat_map drafted ds) h) i

  pub large_at : AnyLarge (drafted d) → AnyLarge (flat_map drafted drafts)
  large_at h = record { clash = h.clash; there = to_flat_map drafted drafts d h.clash (entry_in drafts i d within is) h.there; large = h.large }

-- the next draft's
pub next_product : (out : List ClashProduct) (new : List ClashProduct) (before : List Draft) (d : Draft) → map clash_of (flat_map systems_in out) ≡ flat_map drafted before
    → map clash_of (flat_map systems_in new) ≡ map clash_of (flat_map systems_in out) ++ drafted d → map clash_of (flat_map systems_in new) ≡ flat_map drafted (before ++ d ∷ [])
next_product out new before d e h = h ∙ ap (λ cs. cs ++ drafted d) e ∙ sym (flat_one drafted before d)

pub next_fits : (before : List Draft) (d : Draft) → (AnyLarge (flat_map drafted before) → ⊥) → (AnyLarge (drafted d) → ⊥) → AnyLarge (flat_map drafted (before ++ d ∷ [])) → ⊥
next_fits before d a b = none_in_parts (flat_map drafted (before ++ d ∷ [])) (flat_map drafted before) (drafted d) (flat_one drafted before d) a b
