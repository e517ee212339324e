-- The least of several limits, one after another.
use Rattle.std.proofs.Common.{◌≡◌, ℕ, Bool, true, false, cond, if◌then◌else◌, nat_le, nat_lt, List, [], ◌∷◌, ◌++◌, map, filter, Option, Some, None, refl, sym, ap, ◌∙◌, arith}
use Rattle.std.proofs.lemmas.Bool.Decides.{nat_tests}
use Rattle.affc_grammar.specs.declared.fault.LimitName.{LimitName}
use Rattle.affc_grammar.specs.Limits as l
use Rattle.affc_grammar.specs.Limits.{Passed, nearer, passed_at, limits_of, Assigned, passes}
use Rattle.affc_limits.specs.Places.{least, lesser}
use Rattle.affc_limits.specs.Nearest.{at_place, nearest, with_limit, unless}

nearest_assoc : (a b c : Option Passed) → nearest a (nearest b c) ≡ nearest (nearest a b) c
nearest_assoc None b c = refl
nearest_assoc (Some a) None c = refl
nearest_assoc (Some a) (Some b) None = both (nat_le a.at b.at)
  where
    both : (t : Bool) → cond t (Some a) (Some b) ≡ nearest (cond t (Some a) (Some b)) None
    both true = refl
    both false = refl
nearest_assoc (Some a) (Some b) (Some c) = grind (arith, nat_tests)

least-append : (xs ys : List Passed) → l.least (xs ++ ys) ≡ nearest (l.least xs) (l.least ys)
least-append [] ys = refl
least-append (x ∷ xs) ys = ap (nearest (Some x)) (least-append xs ys) ∙ nearest_assoc (Some x) (l.least xs) (l.least ys)

nearer_place : (which : LimitName) (n : ℕ) (o : Option ℕ) → nearer (record { at = n; which = which }) (at_place which o) ≡ at_place which (lesser (Some n) o)
nearer_place which n None = refl
nearer_place which n (Some m) = both (nat_le n m)
  where
    both : (t : Bool) → cond t (Some (record { at = n; which = which })) (Some (record { at = m; which = which })) ≡ at_place which (cond t (Some n) (Some m))
    both true = refl
    both false = refl

least-places : (which : LimitName) (ns : List ℕ) → l.least (passed_at which ns) ≡ at_place which (least ns)
least-places which [] = refl
least-places which (n ∷ ns) = ap (nearer (record { at = n; which = which })) (least-places which ns) ∙ nearer_place which n (least ns)

pub one_limit : (which : LimitName) (place : Option ℕ) (ns : List ℕ) → place ≡ least ns → with_limit None which place ≡ l.least (passed_at which ns)
one_limit which place ns is = ap (at_place which) is ∙ sym (least-places which ns)

-- one limit more
pub more : (found : Option Passed) (xs : List Passed) (which : LimitName) (place : Option ℕ) (ns : List ℕ) → found ≡ l.least xs → place ≡ least ns → with_limit found which place ≡ l.least (xs ++ passed_at which ns)
more found xs which place ns was is =
    (λ i. nearest (was i) (at_place which (is i)))
    ∙ ap (nearest (l.least xs)) (sym (least-places which ns))
    ∙ sym (least-append xs (passed_at which ns))

pub empty_is : (has_prelude : Bool) (place : Option ℕ) (ns : List ℕ) → place ≡ least ns → unless has_prelude place ≡ least (if (limits_of has_prelude).empty then ns else [])
empty_is true place ns is = refl
empty_is false place ns is = is

none_kept : (xs : List Assigned) → filter (λ a. false) xs ≡ []
none_kept [] = refl
none_kept (x ∷ xs) = none_kept xs

pub compared_is : (has_prelude : Bool) (place : Option ℕ) (xs : List Assigned) → place ≡ least (map (λ a. a.at) (filter (λ a. nat_lt 32 a.round.comparisons) xs))
    → unless has_prelude place ≡ least (map (λ a. a.at) (filter (λ a. passes ((limits_of has_prelude).comparisons) a.round.comparisons) xs))
compared_is true place xs is = sym (ap (λ ys. least (map (λ a. a.at) ys)) (none_kept xs))
compared_is false place xs is = is

pub pieces_is : (has_prelude : Bool) (place : Option ℕ) (xs : List Assigned) → place ≡ least (map (λ a. a.at) (filter (λ a. nat_lt 16 a.round.pieces) xs))
    → unless has_prelude place ≡ least (map (λ a. a.at) (filter (λ a. passes ((limits_of has_prelude).pieces) a.round.pieces) xs))
pieces_is true place xs is = sym (ap (λ ys. least (map (λ a. a.at) ys)) (none_kept xs))
pieces_is false place xs is = is
