-- Questions in groups.
use Rattle.std.proofs.Common.{◌≡◌, ℕ, ◌+◌, List, [], ◌∷◌, ◌++◌, map, flat_map, sym, ap, subst, inl, inr, ◌∙◌}
use Rattle.std.specs.List.{All}
use Rattle.std.proofs.lemmas.List.Elements.{All-head, All-tail}
use Rattle.std.proofs.lemmas.List.{map-append}
use Rattle.std.proofs.lemmas.List.Concat.{flat_map-append}
use Rattle.affc_trace.proofs.LastStores.{append_nil}
use Rattle.affc_system.specs.Systems.{Rows}
use Rattle.affc_trace.specs.Law.{IsIn}
use Rattle.affc_products.specs.Parts.{IsWithin}
use Rattle.affc_products.specs.declared.group.Group.{Group}
use Rattle.affc_products.specs.Groups.{group_systems}
use Rattle.affc_check.specs.list.Groups.{part_items}
use Rattle.affc_check.specs.list.Items.{Item, Question, Shown}
use Rattle.affc_check.specs.list.Limits.{AnyPasses}
use Rattle.affc_check.specs.list.Listed.{AreListed, PartsListed, IsFirstPart}
use Rattle.affc_check.proofs.list.PartLemmas.{part_listed, part_here, part_later}

-- ---- Groups one after the other

pub part_append : (xs ys : List Group) → part_items (xs ++ ys) ≡ part_items xs ++ part_items ys
part_append xs ys = ap (map Question) (flat_map-append group_systems xs ys) ∙ map-append Question (flat_map group_systems xs) (flat_map group_systems ys)

pub part_of_one : (g : Group) → part_items (g ∷ []) ≡ map Question (group_systems g)
part_of_one g = ap (map Question) (append_nil (group_systems g))

-- ---- Parts one after the other

module _ (parts rest : List (List Group)) (part : List Group) (is : parts ≡ part ∷ rest) where
  pub parts_listed : (a b c : List Item) → AreListed a b (part_items part) → PartsListed b c (map part_items rest) → PartsListed a c (map part_items parts)
  parts_listed a b c h g = subst (λ ps. PartsListed a c (map part_items ps)) (sym is) (part_listed a b c (part_items part) (map part_items rest) h g)

  pub first_passes : (first n : ℕ) → n ≡ first → AnyPasses (part_items part) → IsFirstPart AnyPasses first (map part_items parts) n
  first_passes first n e h = subst (λ ps. IsFirstPart AnyPasses first (map part_items ps) n) (sym is) (part_here AnyPasses first n (part_items part) (map part_items rest) e h)

  pub later_passes : (first next n : ℕ) → next ≡ first + 1 → ¬ (AnyPasses (part_items part)) → IsFirstPart AnyPasses next (map part_items rest) n → IsFirstPart AnyPasses first (map part_items parts) n
  later_passes first next n e clear h = subst (λ ps. IsFirstPart AnyPasses first (map part_items ps) n) (sym is) (part_later AnyPasses first next n (part_items part) (map part_items rest) e clear h)

-- ---- Groups that keep the limits

same_question : (p q : Rows) → Question p ≡ Question q → p ≡ q
same_question p q e = ap asked e
  where
    asked : Item → Rows
    asked (Question r) = r
    asked (Shown r x) = r

is_kept : (q : Rows) (ss : List Rows) → All IsWithin ss → IsIn (Question q) (map Question ss) → IsWithin q
is_kept q [] h i = absurd i
is_kept q (s ∷ ss) h i =
    elim i [
      | inl e ↦ subst IsWithin (sym (same_question q s e)) (All-head IsWithin s ss h)
      | inr more ↦ is_kept q ss (All-tail IsWithin s ss h) more
    ]

pub kept_none_passes : (ss : List Rows) → All IsWithin ss → AnyPasses (map Question ss) → ⊥
kept_none_passes ss h a = a.passes (is_kept a.question ss h a.there)
