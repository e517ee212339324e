-- Folds that are taken one after the other.
use Rattle.std.proofs.Common.{◌≡◌, List, [], ◌∷◌, ◌++◌, reverse, refl, sym, ap, subst, ◌∙◌, inl, inr}
use Rattle.std.specs.Prelude.{◌⊎◌}
use Rattle.std.proofs.lemmas.List.{append-nil, append_assoc, reverse-append, reverse-reverse}
use Rattle.affc_ast.specs.declared.tree.ArrayId.{ArrayId}
use Rattle.affc_basis.specs.declared.fold.Fold.{Fold}
use Rattle.affc_split.specs.Budgets.{Account, IsLater}
use Rattle.affc_moduli.specs.Ended.{IsSpent}
use Rattle.affc_moduli.proofs.Spent.{stays_spent}
use Rattle.affc_certify.specs.Left.{IsPart, AreLeft}
use Rattle.affc_certify.specs.Making.{AreTaken, IsPut}

-- ---- Parts of lists

nothing : {A : Type 0} (ys : List A) → IsPart [] ys
nothing [] = tt
nothing (y ∷ ys) = tt

last_one : {A : Type 0} (ys : List A) (z : A) → IsPart (z ∷ []) (ys ++ z ∷ [])
last_one [] z = inl (refl, tt)
last_one (y ∷ ys) z = inr (last_one ys z)

-- one more in the longer list, and in both
part_more : {A : Type 0} (xs ys : List A) (z : A) → IsPart xs ys → IsPart xs (ys ++ z ∷ [])
part_more [] ys z h = nothing (ys ++ z ∷ [])
part_more (x ∷ xs) [] z h = absurd h
part_more (x ∷ xs) (y ∷ ys) z h = elim h [ inl p ↦ inl (p.0, part_more xs ys z p.1) | inr t ↦ inr (part_more (x ∷ xs) ys z t) ]

part_both : {A : Type 0} (xs ys : List A) (z : A) → IsPart xs ys → IsPart (xs ++ z ∷ []) (ys ++ z ∷ [])
part_both [] ys z h = last_one ys z
part_both (x ∷ xs) [] z h = absurd h
part_both (x ∷ xs) (y ∷ ys) z h = elim h [ inl p ↦ inl (p.0, part_both xs ys z p.1) | inr t ↦ inr (part_both (x ∷ xs) ys z t) ]

-- ---- Folds

abbrev Folds : Type 0
Folds = List (ArrayId × Fold)

none_left : (budget : Account) → AreLeft budget [] []
none_left budget = record { part = tt; all = inl refl }

left_later : (before after : Account) (folds kept : Folds) → IsLater before after → AreLeft before folds kept → AreLeft after folds kept
left_later before after folds kept later h =
    record { part = h.part; all = elim h.all [ inl e ↦ inl e | inr s ↦ inr (stays_spent before after later s) ] }

one_kept : (budget : Account) (folds kept : Folds) (fold : ArrayId × Fold) → AreLeft budget folds kept → AreLeft budget (folds ++ fold ∷ []) (kept ++ fold ∷ [])
one_kept budget folds kept fold h =
    record { part = part_both kept folds fold h.part; all = elim h.all [ inl e ↦ inl (ap (λ fs. fs ++ fold ∷ []) e) | inr s ↦ inr s ] }

one_gone : (budget : Account) (folds kept : Folds) (fold : ArrayId × Fold) → IsSpent budget → AreLeft budget folds kept → AreLeft budget (folds ++ fold ∷ []) kept
one_gone budget folds kept fold spent h = record { part = part_more kept folds fold h.part; all = inr spent }

-- the last of those that are left is the next one
next_one : (taken left rest : Folds) (fold : ArrayId × Fold) → left ≡ rest ++ fold ∷ [] → taken ++ reverse left ≡ (taken ++ fold ∷ []) ++ reverse rest
next_one taken left rest fold e =
    ap (λ l. taken ++ reverse l) e ∙ ap (λ l. taken ++ l) (reverse-append rest (fold ∷ [])) ∙ sym (append_assoc taken (fold ∷ []) (reverse rest))

-- ---- Steps

-- at first
pub first_taken : (folds left : Folds) (budget : Account) → left ≡ reverse folds → AreTaken folds budget left []
first_taken folds left budget e = record {
  taken = [];
  split = sym (ap reverse e ∙ reverse-reverse folds);
  are = none_left budget;
}

pub taken_later : (folds : Folds) (before after : Account) (left kept : Folds) → IsLater before after → AreTaken folds before left kept → AreTaken folds after left kept
taken_later folds before after left kept later h =
    record { taken = h.taken; split = h.split; are = left_later before after h.taken kept later h.are }

-- one is kept
pub one_more_kept : (folds : Folds) (budget : Account) (left rest kept : Folds) (fold : ArrayId × Fold) → left ≡ rest ++ fold ∷ []
    → AreTaken folds budget left kept → AreTaken folds budget rest (kept ++ fold ∷ [])
one_more_kept folds budget left rest kept fold e h = record {
  taken = h.taken ++ fold ∷ [];
  split = h.split ∙ next_one h.taken left rest fold e;
  are = one_kept budget h.taken kept fold h.are;
}

-- one is kept or left out
pub one_put : (folds : Folds) (before after : Account) (left rest kept kept' : Folds) (fold : ArrayId × Fold) → left ≡ rest ++ fold ∷ [] → IsLater before after
    → IsPut after fold kept kept' → AreTaken folds before left kept → AreTaken folds after rest kept'
one_put folds before after left rest kept kept' fold e later put h = elim put [
  | inl same ↦ subst (AreTaken folds after rest) (sym same) (one_more_kept folds after left rest kept fold e (taken_later folds before after left kept later h))
  | inr none ↦ subst (AreTaken folds after rest) (sym none.0) (record {
    taken = h.taken ++ fold ∷ [];
    split = h.split ∙ next_one h.taken left rest fold e;
    are = one_gone after h.taken kept fold none.1 (left_later before after h.taken kept later h.are);
  })
]

-- at last
pub all_taken : (folds : Folds) (budget : Account) (left kept : Folds) → left ≡ [] → AreTaken folds budget left kept → AreLeft budget folds kept
all_taken folds budget left kept e h =
    subst (λ fs. AreLeft budget fs kept) (sym (h.split ∙ ap (λ l. h.taken ++ reverse l) e ∙ append-nil h.taken)) h.are
