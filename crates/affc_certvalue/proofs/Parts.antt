-- Verdicts on lists of exactly so many parts, and on the entries of a form, at the places of a list.
use Rattle.affc_certvalue.proofs.Steps.{worse_worse, worse_fine, worse_shape}
use Rattle.affc_certvalue.specs.Verdicts.{worse, within, all_of, exactly, form_entries, behind_tag}
use Rattle.affc_certvalue.specs.declared.verdict.Verdict.{Verdict}
use Rattle.affc_certvalue.specs.declared.verdict.Verdict.TheVariants.{Shape}
use Rattle.serde_json.specs.Data.{Data}
use Rattle.serde_json.specs.View.{view, items_view}
use Rattle.serde_json.specs.declared.value.Value.{Value}
use Rattle.std.proofs.Common.{◌≡◌, ◌≢◌, ℕ, zero, suc, ◌-◌, ◌<◌, List, [], ◌∷◌, length, get_or, take, ℤ, refl, sym, ap, ◌∙◌, arith}

-- ---- Exactly so many parts

pub other_length : (js : List (Data → Verdict)) (vs : List Value) → length vs ≢ length js → exactly js (items_view vs) ≡ Shape
other_length [] [] h = absurd (h refl)
other_length [] (v ∷ vs) h = refl
other_length (j ∷ js) [] h = refl
other_length (j ∷ js) (v ∷ vs) h = ap (worse (j (view v))) (other_length js vs (λ e. h (ap suc e))) ∙ worse_shape _

pub exactly_two : (f g : Data → Verdict) (vs : List Value) (d e : Value) → length vs ≡ 2 → exactly (f ∷ g ∷ []) (items_view vs) ≡ worse (f (view (get_or vs 0 d))) (g (view (get_or vs 1 e)))
exactly_two f g [] d e h = absurd (omega arith)
exactly_two f g (a ∷ []) d e h = absurd (omega arith)
exactly_two f g (a ∷ b ∷ []) d e h = ap (worse (f (view a))) (worse_fine _)
exactly_two f g (a ∷ b ∷ c ∷ vs) d e h = absurd (omega arith)

pub other_than_two : (f g : Data → Verdict) (vs : List Value) → length vs ≢ 2 → exactly (f ∷ g ∷ []) (items_view vs) ≡ Shape
other_than_two f g vs h = other_length (f ∷ g ∷ []) vs h

-- behind the tag

tagged_other : (js : List (Data → Verdict)) (vs : List Value) → length vs ≢ suc (length js) → 0 < length js → exactly js (behind_tag (items_view vs)) ≡ Shape
tagged_other [] vs h some = absurd (omega arith)
tagged_other (j ∷ js) [] h some = refl
tagged_other (j ∷ js) (v ∷ vs) h some = other_length (j ∷ js) vs (λ e. h (ap suc e))

pub other_than_one : (f : Data → Verdict) (vs : List Value) → length vs ≢ 2 → exactly (f ∷ []) (behind_tag (items_view vs)) ≡ Shape
other_than_one f vs h = tagged_other (f ∷ []) vs h (omega arith)

pub other_than_2 : (f g : Data → Verdict) (vs : List Value) → length vs ≢ 3 → exactly (f ∷ g ∷ []) (behind_tag (items_view vs)) ≡ Shape
other_than_2 f g vs h = tagged_other (f ∷ g ∷ []) vs h (omega arith)

pub other_than_3 : (f g k : Data → Verdict) (vs : List Value) → length vs ≢ 4 → exactly (f ∷ g ∷ k ∷ []) (behind_tag (items_view vs)) ≡ Shape
other_than_3 f g k vs h = tagged_other (f ∷ g ∷ k ∷ []) vs h (omega arith)

pub tagged_one : (f : Data → Verdict) (vs : List Value) (d : Value) → length vs ≡ 2 → exactly (f ∷ []) (behind_tag (items_view vs)) ≡ f (view (get_or vs 1 d))
tagged_one f [] d h = absurd (omega arith)
tagged_one f (t ∷ []) d h = absurd (omega arith)
tagged_one f (t ∷ a ∷ []) d h = worse_fine _
tagged_one f (t ∷ a ∷ b ∷ vs) d h = absurd (omega arith)

pub tagged_two : (f g : Data → Verdict) (vs : List Value) (d e : Value) → length vs ≡ 3 → exactly (f ∷ g ∷ []) (behind_tag (items_view vs)) ≡ worse (f (view (get_or vs 1 d))) (g (view (get_or vs 2 e)))
tagged_two f g [] d e h = absurd (omega arith)
tagged_two f g (t ∷ vs) d e h = exactly_two f g vs d e (omega arith)

pub tagged_three : (f g k : Data → Verdict) (vs : List Value) (d e r : Value) → length vs ≡ 4
    → exactly (f ∷ g ∷ k ∷ []) (behind_tag (items_view vs)) ≡ worse (f (view (get_or vs 1 d))) (worse (g (view (get_or vs 2 e))) (k (view (get_or vs 3 r))))
tagged_three f g k [] d e r h = absurd (omega arith)
tagged_three f g k (t ∷ []) d e r h = absurd (omega arith)
tagged_three f g k (t ∷ a ∷ vs) d e r h = ap (worse (f (view a))) (exactly_two g k vs e r (omega arith))

pub ruleset exactly_parts = (other_than_two, exactly_two, other_than_one, other_than_2, other_than_3, tagged_one, tagged_two, tagged_three)

-- ---- The entries of a form

form_split_at : (m c : ℤ) (vs : List Value) (n : ℕ) (d : Value) → length vs ≡ suc n
    → form_entries m c (items_view vs) ≡ worse (all_of (within m) (items_view (take n vs))) (within c (view (get_or vs n d)))
form_split_at m c [] n d h = absurd (omega arith)
form_split_at m c (a ∷ []) zero d h = refl
form_split_at m c (a ∷ []) (suc n) d h = absurd (omega arith)
form_split_at m c (a ∷ b ∷ vs) zero d h = absurd (omega arith)
form_split_at m c (a ∷ b ∷ vs) (suc n) d h =
    ap (worse (within m (view a))) (form_split_at m c (b ∷ vs) n d (omega arith))
    ∙ sym (worse_worse (within m (view a)) (all_of (within m) (items_view (take n (b ∷ vs)))) (within c (view (get_or (b ∷ vs) n d))))

pub form_split : (m c : ℤ) (vs : List Value) (d : Value) → 0 < length vs
    → form_entries m c (items_view vs) ≡ worse (all_of (within m) (items_view (take (length vs - 1) vs))) (within c (view (get_or vs (length vs - 1) d)))
form_split m c vs d h = form_split_at m c vs (length vs - 1) d (omega arith)

pub form_empty : (m c : ℤ) (vs : List Value) → length vs ≡ 0 → form_entries m c (items_view vs) ≡ Shape
form_empty m c [] h = refl
form_empty m c (a ∷ vs) h = absurd (omega arith)

pub ruleset entry_steps = (form_split, form_empty)
