-- Items put behind others.
use Rattle.std.proofs.Common.{◌≡◌, ℕ, ℤ, Option, Some, None, List, [], ◌∷◌, ◌++◌, map, flat_map, refl, sym, ap, ap₂, subst, ◌∙◌}
use Rattle.std.specs.Prelude.{slice_get}
use Rattle.std.proofs.lemmas.List.{map-append}
use Rattle.affc_rows.specs.Forms.{Affine}
use Rattle.affc_system.specs.Systems.{Rows}
use Rattle.affc_trace.specs.Law.{IsIn}
use Rattle.affc_trace.proofs.EndedReads.{append_assoc}
use Rattle.affc_trace.proofs.LastStores.{append_nil}
use Rattle.affc_domain.proofs.Lists.{stands_in}
use Rattle.affc_nest.specs.Asked.{IsExtent, IsSubscript}
use Rattle.affc_nest.specs.Questions.{extents_or_none}
use Rattle.affc_nest.specs.declared.nest.Access.{Access}
use Rattle.affc_nest.specs.declared.nest.ArrayInfo.{ArrayInfo}
use Rattle.affc_nest.specs.declared.nest.Entry.{Entry}
use Rattle.affc_nest.specs.declared.nest.Nest.{Nest}
use Rattle.affc_sched.specs.Touched.{Each}
use Rattle.affc_sched.specs.Questions as sched
use Rattle.affc_products.specs.Groups.{group_systems}
use Rattle.affc_sched.proofs.Lists.{each_from}
use Rattle.affc_questions.specs.Listed.{in_ranges}
use Rattle.affc_questions.specs.declared.ranged.Ranged.{Ranged}
use Rattle.affc_check.specs.list.Held.{legality_item, flow_item}
use Rattle.affc_check.specs.list.Items.{Question}

-- nothing more
pub none_more : {A : Type 0} (xs more : List A) → more ≡ [] → xs ≡ xs ++ more
none_more xs more e = sym (append_nil xs) ∙ ap (λ ys. xs ++ ys) (sym e)

-- those of the first, and those of the others
pub next_listed : {A B C : Type 0} (g : B → C) (F : A → List B) (xs rest : List A) (x : A) (old first new : List C) → xs ≡ x ∷ rest
    → first ≡ old ++ map g (F x) → new ≡ first ++ map g (flat_map F rest) → new ≡ old ++ map g (flat_map F xs)
next_listed g F xs rest x old first new i d e =
    e ∙ ap (λ s. s ++ map g (flat_map F rest)) d ∙ append_assoc old (map g (F x)) (map g (flat_map F rest))
    ∙ ap (λ ys. old ++ ys) (sym (map-append g (F x) (flat_map F rest))) ∙ ap (λ ys. old ++ map g (flat_map F ys)) (sym i)

pub next_mapped : {A B C : Type 0} (g : B → C) (f : A → B) (xs rest : List A) (x : A) (old first new : List C) → xs ≡ x ∷ rest
    → first ≡ old ++ g (f x) ∷ [] → new ≡ first ++ map g (map f rest) → new ≡ old ++ map g (map f xs)
next_mapped g f xs rest x old first new i d e =
    e ∙ ap (λ s. s ++ map g (map f rest)) d ∙ append_assoc old (g (f x) ∷ []) (map g (map f rest)) ∙ ap (λ ys. old ++ map g (map f ys)) (sym i)

-- one more behind those so far
pub one_more : {A B : Type 0} (g : A → B) (old first new : List B) (xs ys : List A) (x : A) → ys ≡ xs ++ x ∷ [] → first ≡ old ++ map g xs → new ≡ first ++ g x ∷ [] → new ≡ old ++ map g ys
one_more g old first new xs ys x i d e =
    e ∙ ap (λ s. s ++ g x ∷ []) d ∙ append_assoc old (map g xs) (g x ∷ []) ∙ ap (λ zs. old ++ zs) (sym (map-append g xs (x ∷ []))) ∙ ap (λ zs. old ++ map g zs) (sym i)

-- questions by their systems
pub by_systems : (qs : List sched.Question) → map Question (map (λ (q : sched.Question). q.system) qs) ≡ map legality_item qs
by_systems [] = refl
by_systems (q ∷ qs) = ap (λ is. Question q.system ∷ is) (by_systems qs)

-- those of groups, in whatever ranges
pub by_groups : (ranges : List (ℤ × ℤ)) (rs : List Ranged) → map Question (flat_map group_systems (map (λ (r : Ranged). r.group) rs)) ≡ map flow_item (flat_map (in_ranges ranges) rs)
by_groups ranges [] = refl
by_groups ranges (r ∷ rs) =
    map-append Question (group_systems r.group) (flat_map group_systems (map (λ (r : Ranged). r.group) rs)) ∙ ap₂ (λ xs ys. xs ++ ys) (each (group_systems r.group)) (by_groups ranges rs)
    ∙ sym (map-append flow_item (in_ranges ranges r) (flat_map (in_ranges ranges) rs))
  where
    each : (ss : List Rows) → map Question ss ≡ map flow_item (map (λ s. record { system = s; ranges = ranges ++ r.behind }) ss)
    each [] = refl
    each (s ∷ ss) = ap (λ is. Question s ∷ is) (each ss)

-- ---- What is known of each

pub each_in : {A : Type 0} (P : A → Type 0) (xs ys : List A) → xs ≡ ys → ((x : A) → IsIn x ys → P x) → Each P xs
each_in P xs ys e h = subst (Each P) (sym e) (each_from P ys h)

pub each_extent : (nest : Nest) (a : ArrayInfo) (es : List Affine) → IsIn a nest.arrays → es ≡ a.extents → Each (IsExtent nest) es
each_extent nest a es i e = each_in (IsExtent nest) es a.extents e (λ x j. record { array = a; declared = i; of_array = j })

pub each_subscript : (entry : Entry) (x : Access) (ss : List Affine) → IsIn x entry.accesses → ss ≡ x.subs → Each (IsSubscript entry) ss
each_subscript entry x ss i e = each_in (IsSubscript entry) ss x.subs e (λ s j. record { access = x; made = i; of_access = j })

pub each_there : {A : Type 0} (xs ys : List A) → xs ≡ ys → Each (λ x. IsIn x ys) xs
each_there xs ys e = each_in (λ x. IsIn x ys) xs ys e (λ x i. i)

pub first_in : {A : Type 0} (xs rest : List A) (x : A) (all : List A) → xs ≡ x ∷ rest → Each (λ y. IsIn y all) xs → IsIn x all
first_in xs rest x all e h = (subst (Each (λ y. IsIn y all)) e h).0

pub extents_there : (nest : Nest) (array : ℕ) → Each (IsExtent nest) (extents_or_none (slice_get nest.arrays array))
extents_there nest array = there (slice_get nest.arrays array) refl
  where
    there : (o : Option ArrayInfo) → slice_get nest.arrays array ≡ o → Each (IsExtent nest) (extents_or_none o)
    there None e = tt
    there (Some a) e = each_extent nest a a.extents (stands_in nest.arrays array a e) refl
