-- The first place and the least place of two lists.
use Rattle.std.proofs.Common.{◌≡◌, ℕ, suc, Bool, true, false, ◌&&◌, ◌||◌, cond, nat_le, nat_lt, List, [], ◌∷◌, ◌++◌, length, Option, Some, None, refl, sym, ap, ◌∙◌, arith, ◌<◌, ◌+◌, get_or, take, map, fold, add-one}
use Rattle.std.proofs.lemmas.Bool.Decides.{nat_tests}
use Rattle.affc_grammar.specs.Grammar as g
use Rattle.affc_grammar.specs.Draft as d
use Rattle.std.specs.List.{flat_map}
use Rattle.std.proofs.lemmas.List.{append-nil, map-append}
use Rattle.std.proofs.Math.Seq.{take-suc}
use Rattle.affc_syntax.specs.declared.draft.draft.Choice.{Choice}
use Rattle.affc_syntax.specs.declared.draft.draft.IxDraft as code
use Rattle.affc_syntax.specs.declared.draft.draft.IxDraft.TheVariants as c
use Rattle.affc_syntax.proofs.draft.Nodes.{nodes}
use Rattle.affc_syntax.proofs.draft.Outs.{ix-Sum, ix-Difference, ix-Product, ix-Chosen}
use Rattle.affc_syntax.specs.draft.Drafts.{ix}
use Rattle.affc_grammar.specs.Limits.{at_if, names_in, products_in, holds_names}
use Rattle.affc_limits.specs.declared.forms.Behind.{Behind}
use Rattle.affc_limits.specs.declared.forms.Factors.{Factors}
use Rattle.affc_limits.specs.Places.{first, first_of, lesser, least, place_if, products, both_products, product_products, closed, before_part, before_side, with_places}

pub first-append : (xs ys : List ℕ) → first (xs ++ ys) ≡ first_of (first xs) (first ys)
first-append [] ys = refl
first-append (x ∷ xs) ys = refl

pub any-append : {A : Type 0} (xs ys : List A) → nat_lt 0 (length (xs ++ ys)) ≡ (nat_lt 0 (length xs) || nat_lt 0 (length ys))
any-append [] ys = refl
any-append (x ∷ xs) ys = some_of (length (xs ++ ys)) ∙ sym (ap (λ b. b || nat_lt 0 (length ys)) (some_of (length xs)))
  where
    some_of : (n : ℕ) → nat_lt 0 (suc n) ≡ true
    some_of n = grind (arith, nat_tests)

pub lesser_assoc : (a b c : Option ℕ) → lesser a (lesser b c) ≡ lesser (lesser a b) c
lesser_assoc None b c = refl
lesser_assoc (Some a) None c = refl
lesser_assoc (Some a) (Some b) None = both (nat_le a b)
  where
    both : (t : Bool) → cond t (Some a) (Some b) ≡ lesser (cond t (Some a) (Some b)) None
    both true = refl
    both false = refl
lesser_assoc (Some a) (Some b) (Some c) = grind (arith, nat_tests)

pub least-append : (xs ys : List ℕ) → least (xs ++ ys) ≡ lesser (least xs) (least ys)
least-append [] ys = refl
least-append (x ∷ xs) ys = ap (lesser (Some x)) (least-append xs ys) ∙ lesser_assoc (Some x) (least xs) (least ys)

first_if : (b : Bool) (at : ℕ) → first (at_if b at) ≡ place_if b at
first_if true at = refl
first_if false at = refl

pub least_if : (b : Bool) (at : ℕ) → least (at_if b at) ≡ place_if b at
least_if true at = refl
least_if false at = refl

pub products-sum : (a b : d.IxDraft) → products (d.sum a b) ≡ both_products (products a) (products b)
products-sum a b = λ i. record { has_names = any-append (names_in a) (names_in b) i; first_refused = first-append (products_in a) (products_in b) i }

pub products-difference : (a b : d.IxDraft) → products (d.difference a b) ≡ both_products (products a) (products b)
products-difference a b = λ i. record { has_names = any-append (names_in a) (names_in b) i; first_refused = first-append (products_in a) (products_in b) i }

pub products-chosen : (at : ℕ) (f : g.Choice) (a b : d.IxDraft) → products (d.chosen at f a b) ≡ both_products (products a) (products b)
products-chosen at f a b = λ i. record { has_names = any-append (names_in a) (names_in b) i; first_refused = first-append (products_in a) (products_in b) i }

pub products-product : (at : ℕ) (a b : d.IxDraft) → products (d.product at a b) ≡ product_products at (products a) (products b)
products-product at a b =
    let t = holds_names a && holds_names b in
    let here : first ((products_in a ++ at_if t at) ++ products_in b) ≡ first_of (first_of (first (products_in a)) (place_if t at)) (first (products_in b)) =
    first-append (products_in a ++ at_if t at) (products_in b) ∙ ap (λ o. first_of o (first (products_in b))) (first-append (products_in a) (at_if t at) ∙ ap (first_of (first (products_in a))) (first_if t at)) in
    λ i. record { has_names = any-append (names_in a) (names_in b) i; first_refused = here i }

pub first_assoc : (a b c : Option ℕ) → first_of a (first_of b c) ≡ first_of (first_of a b) c
first_assoc None b c = refl
first_assoc (Some a) b c = refl

first-none : (a : Option ℕ) → first_of a None ≡ a
first-none None = refl
first-none (Some n) = refl

or_assoc : (a b c : Bool) → (a || (b || c)) ≡ ((a || b) || c)
or_assoc true b c = refl
or_assoc false b c = refl

pub closed-part : (a b : Factors) (k : Behind) → closed a (before_part b k) ≡ closed (both_products a b) k
closed-part a b k = λ i. record { has_names = or_assoc a.has_names b.has_names k.has_names i; first_refused = by a.has_names b.has_names i }
  where
    by : (x y : Bool) → first_of a.first_refused (cond x (first_of b.first_refused k.if_named) (first_of b.first_refused (cond y k.if_named k.if_bare))) ≡ first_of (first_of a.first_refused b.first_refused) (cond (x || y) k.if_named k.if_bare)
    by true y = first_assoc a.first_refused b.first_refused k.if_named
    by false y = first_assoc a.first_refused b.first_refused (cond y k.if_named k.if_bare)

pub closed-side : (at : ℕ) (a b : Factors) (k : Behind) → closed a (before_side at b k) ≡ closed (product_products at a b) k
closed-side at a b k = λ i. record { has_names = or_assoc a.has_names b.has_names k.has_names i; first_refused = by a.has_names b.has_names i }
  where
    by : (x y : Bool) → first_of a.first_refused (cond x (first_of (place_if y at) (first_of b.first_refused k.if_named)) (first_of b.first_refused (cond y k.if_named k.if_bare)))
        ≡ first_of (first_of (first_of a.first_refused (place_if (x && y) at)) b.first_refused) (cond (x || y) k.if_named k.if_bare)
    by true y = first_assoc a.first_refused (place_if y at) (first_of b.first_refused k.if_named) ∙ first_assoc (first_of a.first_refused (place_if y at)) b.first_refused k.if_named
    by false y = first_assoc a.first_refused b.first_refused (cond y k.if_named k.if_bare) ∙ ap (λ o. first_of (first_of o b.first_refused) (cond y k.if_named k.if_bare)) (sym (first-none a.first_refused))

-- nothing stands behind
pub closed-none : (a : Factors) → closed a (record { has_names = false; if_named = None; if_bare = None }) ≡ a
closed-none a = λ i. record { has_names = or_false a.has_names i; first_refused = (by a.has_names ∙ first-none a.first_refused) i }
  where
    or_false : (x : Bool) → (x || false) ≡ x
    or_false true = refl
    or_false false = refl

    by : (x : Bool) → first_of a.first_refused (cond x None None) ≡ first_of a.first_refused None
    by true = refl
    by false = refl

-- An operand, and what stands behind it, where it is the left of two parts; it has fewer nodes than the two.

pub sum_turn : (x l r l' r' : code.IxDraft) (f : Factors) (k k' : Behind) → x ≡ c.Sum l r → l' ≡ l → r' ≡ r → f ≡ products (ix r') → k' ≡ before_part f k
    → closed (products (ix l')) k' ≡ closed (products (ix x)) k
sum_turn x l r l' r' f k k' is l_is r_is f_is k_is =
    ap (λ z. closed (products (ix l')) z) (k_is ∙ ap (λ z. before_part z k) f_is)
    ∙ ap (λ z. closed (products (ix z)) (before_part (products (ix r')) k)) l_is
    ∙ ap (λ z. closed (products (ix l)) (before_part (products (ix z)) k)) r_is
    ∙ closed-part (products (ix l)) (products (ix r)) k
    ∙ ap (λ z. closed z k) (sym (products-sum (ix l) (ix r)))
    ∙ ap (λ z. closed (products z) k) (sym (ap ix is ∙ ix-Sum l r))

pub difference_turn : (x l r l' r' : code.IxDraft) (f : Factors) (k k' : Behind) → x ≡ c.Difference l r → l' ≡ l → r' ≡ r → f ≡ products (ix r') → k' ≡ before_part f k
    → closed (products (ix l')) k' ≡ closed (products (ix x)) k
difference_turn x l r l' r' f k k' is l_is r_is f_is k_is =
    sum_turn (c.Sum l r) l r l' r' f k k' refl l_is r_is f_is k_is
    ∙ ap (λ z. closed (products z) k) (ix-Sum l r)
    ∙ ap (λ z. closed (products z) k) (sym (ap ix is ∙ ix-Difference l r))

pub chosen_turn : (x l r l' r' : code.IxDraft) (at : ℕ) (g : Choice) (f : Factors) (k k' : Behind) → x ≡ c.Chosen at g l r → l' ≡ l → r' ≡ r → f ≡ products (ix r') → k' ≡ before_part f k
    → closed (products (ix l')) k' ≡ closed (products (ix x)) k
chosen_turn x l r l' r' at g f k k' is l_is r_is f_is k_is =
    sum_turn (c.Sum l r) l r l' r' f k k' refl l_is r_is f_is k_is
    ∙ ap (λ z. closed (products z) k) (ix-Sum l r)
    ∙ ap (λ z. closed (products z) k) (sym (ap ix is ∙ ix-Chosen at g l r))

pub product_turn : (x l r l' r' : code.IxDraft) (at : ℕ) (f : Factors) (k k' : Behind) → x ≡ c.Product at l r → l' ≡ l → r' ≡ r → f ≡ products (ix r') → k' ≡ before_side at f k
    → closed (products (ix l')) k' ≡ closed (products (ix x)) k
product_turn x l r l' r' at f k k' is l_is r_is f_is k_is =
    ap (λ z. closed (products (ix l')) z) (k_is ∙ ap (λ z. before_side at z k) f_is)
    ∙ ap (λ z. closed (products (ix z)) (before_side at (products (ix r')) k)) l_is
    ∙ ap (λ z. closed (products (ix l)) (before_side at (products (ix z)) k)) r_is
    ∙ closed-side at (products (ix l)) (products (ix r)) k
    ∙ ap (λ z. closed z k) (sym (products-product at (ix l) (ix r)))
    ∙ ap (λ z. closed (products z) k) (sym (ap ix is ∙ ix-Product at l r))

pub sum_fewer : (x l r l' : code.IxDraft) → x ≡ c.Sum l r → l' ≡ l → nodes (ix l') < nodes (ix x)
sum_fewer x l r l' is l_is =
    let h : nodes (ix x) ≡ 1 + (nodes (ix l) + nodes (ix r)) = ap (λ z. nodes (ix z)) is ∙ ap nodes (ix-Sum l r) in
    let g : nodes (ix l') ≡ nodes (ix l) = ap (λ z. nodes (ix z)) l_is in
    omega (arith, h, g)

pub difference_fewer : (x l r l' : code.IxDraft) → x ≡ c.Difference l r → l' ≡ l → nodes (ix l') < nodes (ix x)
difference_fewer x l r l' is l_is =
    let h : nodes (ix x) ≡ 1 + (nodes (ix l) + nodes (ix r)) = ap (λ z. nodes (ix z)) is ∙ ap nodes (ix-Difference l r) in
    let g : nodes (ix l') ≡ nodes (ix l) = ap (λ z. nodes (ix z)) l_is in
    omega (arith, h, g)

pub chosen_fewer : (x l r l' : code.IxDraft) (at : ℕ) (g : Choice) → x ≡ c.Chosen at g l r → l' ≡ l → nodes (ix l') < nodes (ix x)
chosen_fewer x l r l' at g is l_is =
    let h : nodes (ix x) ≡ 1 + (nodes (ix l) + nodes (ix r)) = ap (λ z. nodes (ix z)) is ∙ ap nodes (ix-Chosen at g l r) in
    let g : nodes (ix l') ≡ nodes (ix l) = ap (λ z. nodes (ix z)) l_is in
    omega (arith, h, g)

pub product_fewer : (x l r l' : code.IxDraft) (at : ℕ) → x ≡ c.Product at l r → l' ≡ l → nodes (ix l') < nodes (ix x)
product_fewer x l r l' at is l_is =
    let h : nodes (ix x) ≡ 1 + (nodes (ix l) + nodes (ix r)) = ap (λ z. nodes (ix z)) is ∙ ap nodes (ix-Product at l r) in
    let g : nodes (ix l') ≡ nodes (ix l) = ap (λ z. nodes (ix z)) l_is in
    omega (arith, h, g)

pub lesser-none : (a : Option ℕ) → lesser a None ≡ a
lesser-none None = refl
lesser-none (Some n) = refl

pub lesser-again : (a b c : Option ℕ) → lesser (lesser a b) (lesser a c) ≡ lesser (lesser a b) c
lesser-again None b c = refl
lesser-again (Some a) None None = grind (arith, nat_tests)
lesser-again (Some a) None (Some c) = grind (arith, nat_tests)
lesser-again (Some a) (Some b) None = grind (arith, nat_tests)
lesser-again (Some a) (Some b) (Some c) = grind (arith, nat_tests)

pub ruleset product_laws = (products-sum, products-difference, products-chosen, products-product, closed-part, closed-side, closed-none)

pub ruleset least_laws = (least-append, least_if, lesser_assoc, lesser-none)

-- ---- Of several expressions

pub least-one : (f : d.IxDraft → List ℕ) (x : d.IxDraft) → least (flat_map f (x ∷ [])) ≡ least (f x)
least-one f x = ap least (append-nil (f x))

pub least-both : (f : d.IxDraft → List ℕ) (xs ys : List d.IxDraft) → least (flat_map f (xs ++ ys)) ≡ lesser (least (flat_map f xs)) (least (flat_map f ys))
least-both f [] ys = refl
least-both f (x ∷ xs) ys =
    least-append (f x) (flat_map f (xs ++ ys))
    ∙ ap (lesser (least (f x))) (least-both f xs ys)
    ∙ lesser_assoc (least (f x)) (least (flat_map f xs)) (least (flat_map f ys))
    ∙ ap (λ o. lesser o (least (flat_map f ys))) (sym (least-append (f x) (flat_map f xs)))

pub ruleset value_laws = (least-one, least-both)

first-snoc : (f : d.IxDraft → List ℕ) (xs : List d.IxDraft) (x : d.IxDraft) → first (flat_map f (xs ++ x ∷ [])) ≡ first_of (first (flat_map f xs)) (first (f x))
first-snoc f [] x = ap first (append-nil (f x))
first-snoc f (y ∷ ys) x =
    first-append (f y) (flat_map f (ys ++ x ∷ []))
    ∙ ap (first_of (first (f y))) (first-snoc f ys x)
    ∙ first_assoc (first (f y)) (first (flat_map f ys)) (first (f x))
    ∙ ap (λ o. first_of o (first (f x))) (sym (first-append (f y) (flat_map f ys)))

pub first-one : (f : d.IxDraft → List ℕ) (x : d.IxDraft) → first (flat_map f (x ∷ [])) ≡ first (f x)
first-one f x = ap first (append-nil (f x))

pub first-both : (f : d.IxDraft → List ℕ) (xs ys : List d.IxDraft) → first (flat_map f (xs ++ ys)) ≡ first_of (first (flat_map f xs)) (first (flat_map f ys))
first-both f [] ys = refl
first-both f (x ∷ xs) ys =
    first-append (f x) (flat_map f (xs ++ ys))
    ∙ ap (first_of (first (f x))) (first-both f xs ys)
    ∙ first_assoc (first (f x)) (first (flat_map f xs)) (first (flat_map f ys))
    ∙ ap (λ o. first_of o (first (flat_map f ys))) (sym (first-append (f x) (flat_map f xs)))

pub ruleset first_value_laws = (first-one, first-both)

pub first_turn : (f : d.IxDraft → List ℕ) (es : List code.IxDraft) (i : ℕ) (e : code.IxDraft) → i < length es → e ≡ get_or es i e
    → first_of (first (flat_map f (map ix (take i es)))) (first (f (ix e))) ≡ first (flat_map f (map ix (take (i + 1) es)))
first_turn f es i e lt is =
    sym (first-snoc f (map ix (take i es)) (ix e))
    ∙ ap (λ l. first (flat_map f l)) (sym (map-append ix (take i es) (e ∷ [])))
    ∙ ap (λ l. first (flat_map f (map ix l))) (ap (λ x. take i es ++ x ∷ []) is ∙ sym (take-suc es i e lt) ∙ ap (λ n. take n es) (sym (add-one i)))

-- the places of things, one after another
pub places_all : {B : Type 0} (places : B → List ℕ) (found : Option ℕ) (bs : List B) → fold (with_places places) found bs ≡ lesser found (least (flat_map places bs))
places_all places found [] = sym (lesser-none found)
places_all places found (b ∷ bs) =
    places_all places (lesser found (least (places b))) bs
    ∙ sym (lesser_assoc found (least (places b)) (least (flat_map places bs)))
    ∙ ap (lesser found) (sym (least-append (places b) (flat_map places bs)))
