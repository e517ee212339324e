-- Conditions as they are moved, and lists that are made by adding one entry after the other.
use Rattle.std.proofs.Common.{◌≡◌, ℕ, suc, ◌+◌, ◌<◌, ℤ, Bool, true, false, not, if◌then◌else◌, List, [], ◌∷◌, ◌++◌, length, map, drop, get_or, drop-cons, sym, ap, ◌∙◌, arith}
use Rattle.affc_ast.specs.declared.tree.Cond.{Cond}
use Rattle.affc_ast.specs.declared.tree.Cond.TheVariants as c
use Rattle.affc_ast.specs.declared.tree.Ix.{Ix}
use Rattle.affc_ast.specs.declared.tree.Rel.{Rel}
use Rattle.affc_ast.specs.Denials.{denied_step, denied}
use Rattle.affc_ast.specs.Fits.{all_true}
use Rattle.affc_ast.proofs.Steps.{all_here, any_here}
use Rattle.affc_trace.proofs.EndedReads.{append_assoc}
use Rattle.affc_trace.proofs.Targets.{map_map}
use Rattle.affc_domain.proofs.Lists.{both_true}
use Rattle.affc_loops.specs.Trees.{moved, moved_cond_step, moved_cond}
use Rattle.affc_nest.specs.Frames.{denied_if, opposite_if}
use Rattle.affc_scan.specs.InSight.{in_sight, cond_sight_step, cond_in_sight}
use Rattle.affc_scan.specs.Conditions.{joined_as, moved_each}

-- ---- Conditions

module _ (first more : ℕ) where
  pub compare_moved : (is_denied : Bool) (x : Cond) (rel : Rel) (left right : Ix) → x ≡ c.Compare rel left right
      → c.Compare (opposite_if is_denied rel) (moved first more left) (moved first more right) ≡ moved_cond first more (denied_if is_denied x)
  compare_moved false x rel left right g = ap (moved_cond first more) (sym g)
  compare_moved true x rel left right g = ap (λ y. moved_cond first more (denied y)) (sym g)

  pub remainder_moved : (is_denied : Bool) (x : Cond) (value : Ix) (by : ℤ) (so : Bool) → x ≡ c.Divides value by so
      → c.Divides (moved first more value) by (if is_denied then not so else so) ≡ moved_cond first more (denied_if is_denied x)
  remainder_moved false x value by so g = ap (moved_cond first more) (sym g)
  remainder_moved true x value by so g = ap (λ y. moved_cond first more (denied y)) (sym g)

  pub all_moved : (is_denied : Bool) (x : Cond) (cs : List Cond) → x ≡ c.All cs → joined_as is_denied (moved_each first more is_denied cs) ≡ moved_cond first more (denied_if is_denied x)
  all_moved false x cs g = sym (all_here (moved_cond_step first more) cs) ∙ ap (moved_cond first more) (sym g)
  all_moved true x cs g =
      ap c.Any (sym (map_map denied (moved_cond first more) cs))
      ∙ sym (any_here (moved_cond_step first more) (map denied cs))
      ∙ sym (ap (moved_cond first more) (all_here denied_step cs))
      ∙ ap (λ y. moved_cond first more (denied y)) (sym g)

  pub any_moved : (is_denied : Bool) (x : Cond) (cs : List Cond) → x ≡ c.Any cs → joined_as (not is_denied) (moved_each first more is_denied cs) ≡ moved_cond first more (denied_if is_denied x)
  any_moved false x cs g = sym (any_here (moved_cond_step first more) cs) ∙ ap (moved_cond first more) (sym g)
  any_moved true x cs g =
      ap c.All (sym (map_map denied (moved_cond first more) cs))
      ∙ sym (all_here (moved_cond_step first more) (map denied cs))
      ∙ sym (ap (moved_cond first more) (any_here denied_step cs))
      ∙ ap (λ y. moved_cond first more (denied y)) (sym g)

-- ---- Their names are in sight

pub compare_seen : (x : Cond) (rel : Rel) (left right : Ix) → x ≡ c.Compare rel left right → cond_in_sight x ≡ true → (in_sight left ≡ true) × (in_sight right ≡ true)
compare_seen x rel left right g h = both_true (in_sight left) (in_sight right) (sym (ap cond_in_sight g) ∙ h)

pub remainder_seen : (x : Cond) (value : Ix) (by : ℤ) (so : Bool) → x ≡ c.Divides value by so → cond_in_sight x ≡ true → in_sight value ≡ true
remainder_seen x value by so g h = sym (ap cond_in_sight g) ∙ h

pub all_seen : (x : Cond) (cs : List Cond) → x ≡ c.All cs → cond_in_sight x ≡ true → all_true (map cond_in_sight cs) ≡ true
all_seen x cs g h = sym (all_here cond_sight_step cs) ∙ sym (ap cond_in_sight g) ∙ h

pub any_seen : (x : Cond) (cs : List Cond) → x ≡ c.Any cs → cond_in_sight x ≡ true → all_true (map cond_in_sight cs) ≡ true
any_seen x cs g h = sym (any_here cond_sight_step cs) ∙ sym (ap cond_in_sight g) ∙ h

-- ---- One entry more of a list

front : (xs : List Cond) (i : ℕ) (x : Cond) → i < length xs → x ≡ get_or xs i x → drop i xs ≡ x ∷ drop (i + 1) xs
front xs i x h e = drop-cons xs i x h ∙ ap (λ z. z ∷ drop (suc i) xs) (sym e) ∙ ap (λ n. x ∷ drop n xs) (suc_is i)
  where
    suc_is : (i : ℕ) → suc i ≡ i + 1
    suc_is i = omega arith

seen_front : (i : ℕ) (cs : List Cond) (x : Cond) → i < length cs → x ≡ get_or cs i x → all_true (map cond_in_sight (drop i cs)) ≡ true → (cond_in_sight x ≡ true) × (all_true (map cond_in_sight (drop (i + 1) cs)) ≡ true)
seen_front i cs x h e p = both_true (cond_in_sight x) (all_true (map cond_in_sight (drop (i + 1) cs))) (ap (λ ys. all_true (map cond_in_sight ys)) (sym (front cs i x h e)) ∙ p)

pub first_seen : (i : ℕ) (cs : List Cond) (x : Cond) → i < length cs → x ≡ get_or cs i x → all_true (map cond_in_sight (drop i cs)) ≡ true → cond_in_sight x ≡ true
first_seen i cs x h e p = (seen_front i cs x h e p).0

pub rest_seen : (i : ℕ) (cs : List Cond) (x : Cond) → i < length cs → x ≡ get_or cs i x → all_true (map cond_in_sight (drop i cs)) ≡ true → all_true (map cond_in_sight (drop (i + 1) cs)) ≡ true
rest_seen i cs x h e p = (seen_front i cs x h e p).1

pub one_more_cond : (first more : ℕ) (is_denied : Bool) (i : ℕ) (cs : List Cond) (x y : Cond) (made made' whole : List Cond) → i < length cs → x ≡ get_or cs i x → y ≡ moved_cond first more (denied_if is_denied x) → made' ≡ made ++ y ∷ []
    → made ++ moved_each first more is_denied (drop i cs) ≡ whole → made' ++ moved_each first more is_denied (drop (i + 1) cs) ≡ whole
one_more_cond first more is_denied i cs x y made made' whole h e f g w =
    ap (λ ys. ys ++ moved_each first more is_denied (drop (i + 1) cs)) (g ∙ ap (λ z. made ++ z ∷ []) f)
    ∙ append_assoc made (moved_cond first more (denied_if is_denied x) ∷ []) (moved_each first more is_denied (drop (i + 1) cs))
    ∙ ap (λ ys. made ++ moved_each first more is_denied ys) (sym (front cs i x h e))
    ∙ w

pub one_more_ix : (made : List Ix) (e : Ix) (es : List Ix) (first more : ℕ) → (made ++ moved first more e ∷ []) ++ map (moved first more) es ≡ made ++ map (moved first more) (e ∷ es)
one_more_ix made e es first more = append_assoc made (moved first more e ∷ []) (map (moved first more) es)
