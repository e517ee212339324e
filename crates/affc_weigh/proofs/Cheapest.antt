-- The first of the folds that cost least, from the last on.
use Rattle.std.proofs.Common.{◌≡◌, ℕ, zero, suc, ◌+◌, ◌-◌, ◌<◌, ◌≤◌, List, [], ◌∷◌, length, take, map, Option, Some, None, refl, sym, ap, subst, ◌∙◌, ◌⊎◌, inl, inr, arith}
use Rattle.std.specs.Prelude.{slice_get, slice_index_or, drop, IfSome, IfNone}
use Rattle.std.proofs.lemmas.List.{take_all}
use Rattle.std.proofs.Math.Nat.{le_refl}
use Rattle.std.proofs.lemmas.Option.{none-some, same_Some}
use Rattle.affc_weigh.specs.Choices.{price_of, IsFirstLeast, IsChosen, NoneFound}
use Rattle.affc_weigh.specs.declared.choice.Price.{Price}
use Rattle.affc_weigh.specs.declared.choosing.Place.{Place}
use Rattle.affc_weigh.specs.declared.ratings.Rated.{Rated}

pub none_yet : (found : List (Option Rated)) → found ≡ [] → NoneFound found
none_yet [] e j one at = none-some (Some one) at
none_yet (x ∷ xs) e j one at = absurd (omega (arith, ap length e))

-- ---- None was found for the first

pub none_first : (rest : List (Option Rated)) → NoneFound rest → NoneFound (None ∷ rest)
none_first rest h zero one at = none-some one (same_Some None (Some one) at)
none_first rest h (suc j) one at = h j one at

pub passed_over : (rest : List (Option Rated)) (number : ℕ) (one : Rated) → IsFirstLeast rest number one → IsFirstLeast (None ∷ rest) (number + 1) one
passed_over rest number one h = subst (λ n. IsFirstLeast (None ∷ rest) n one) next (record { there = h.there; least = least; first = first })
  where
    next : suc number ≡ number + 1
    next = omega arith

    least : (j : ℕ) (other : Rated) → slice_get (None ∷ rest) j ≡ Some (Some other) → one.price.cost ≤ other.price.cost
    least zero other at = absurd (none-some other (same_Some None (Some other) at))
    least (suc j) other at = h.least j other at

    first : (j : ℕ) (other : Rated) → j < suc number → slice_get (None ∷ rest) j ≡ Some (Some other) → one.price.cost < other.price.cost
    first zero other below at = absurd (none-some other (same_Some None (Some other) at))
    first (suc j) other below at = h.first j other (under j number below) at
      where
        under : (j n : ℕ) → suc j < suc n → j < n
        under j n g = omega (arith, g)

-- ---- The first is there

its_cost : (one other : Rated) → Some one ≡ Some other → one.price.cost ≡ other.price.cost
its_cost one other e = ap (λ (r : Rated). r.price.cost) (same_Some one other e)

no_more : (a b : ℕ) → a ≡ b → a ≤ b
no_more a b e = omega (arith, e)

through : (a b c : ℕ) → a ≤ b → b ≤ c → a ≤ c
through a b c h g = omega (arith, h, g)

pub alone : (rest : List (Option Rated)) (one : Rated) → NoneFound rest → IsFirstLeast (Some one ∷ rest) 0 one
alone rest one h = record { there = refl; least = least; first = λ j other below at. absurd (omega (arith, below)) }
  where
    least : (j : ℕ) (other : Rated) → slice_get (Some one ∷ rest) j ≡ Some (Some other) → one.price.cost ≤ other.price.cost
    least zero other at = no_more one.price.cost other.price.cost (its_cost one other (same_Some (Some one) (Some other) at))
    least (suc j) other at = absurd (h j other at)

pub no_dearer : (rest : List (Option Rated)) (number : ℕ) (one behind : Rated) → IsFirstLeast rest number behind → one.price.cost ≤ behind.price.cost → IsFirstLeast (Some one ∷ rest) 0 one
no_dearer rest number one behind h g = record { there = refl; least = least; first = λ j other below at. absurd (omega (arith, below)) }
  where
    least : (j : ℕ) (other : Rated) → slice_get (Some one ∷ rest) j ≡ Some (Some other) → one.price.cost ≤ other.price.cost
    least zero other at = no_more one.price.cost other.price.cost (its_cost one other (same_Some (Some one) (Some other) at))
    least (suc j) other at = through one.price.cost behind.price.cost other.price.cost g (h.least j other at)

pub dearer : (rest : List (Option Rated)) (number : ℕ) (one behind : Rated) → IsFirstLeast rest number behind → behind.price.cost < one.price.cost → IsFirstLeast (Some one ∷ rest) (number + 1) behind
dearer rest number one behind h g = subst (λ n. IsFirstLeast (Some one ∷ rest) n behind) next (record { there = h.there; least = least; first = first })
  where
    next : suc number ≡ number + 1
    next = omega arith

    at_head : (other : Rated) → slice_get (Some one ∷ rest) zero ≡ Some (Some other) → behind.price.cost < other.price.cost
    at_head other at = below (behind.price.cost) (one.price.cost) (other.price.cost) g (its_cost one other (same_Some (Some one) (Some other) at))
      where
        below : (a b c : ℕ) → a < b → b ≡ c → a < c
        below a b c h e = omega (arith, h, e)

    less : (a b : ℕ) → a < b → a ≤ b
    less a b h = omega (arith, h)

    least : (j : ℕ) (other : Rated) → slice_get (Some one ∷ rest) j ≡ Some (Some other) → behind.price.cost ≤ other.price.cost
    least zero other at = less behind.price.cost other.price.cost (at_head other at)
    least (suc j) other at = h.least j other at

    first : (j : ℕ) (other : Rated) → j < suc number → slice_get (Some one ∷ rest) j ≡ Some (Some other) → behind.price.cost < other.price.cost
    first zero other below at = at_head other at
    first (suc j) other below at = h.first j other (under j number below) at
      where
        under : (j n : ℕ) → suc j < suc n → j < n
        under j n g = omega (arith, g)

-- ---- The code's steps

order : (a b : ℕ) → (a < b) ⊎ (b ≤ a)
order a zero = inr (omega arith)
order zero (suc b) = inl (omega arith)
order (suc a) (suc b) = elim (order a b) [ inl h ↦ inl (omega (arith, h)) | inr h ↦ inr (omega (arith, h)) ]

-- a list by its first element and the others
parts : {A : Type 0} (xs : List A) (x : A) → 1 ≤ length xs → x ≡ slice_index_or xs 0 x → xs ≡ x ∷ take (length xs - 1) (drop 1 xs)
parts [] x h e = absurd (omega (arith, h))
parts (y ∷ ys) x h e = ap (λ z. z ∷ ys) (sym e) ∙ ap (λ zs. x ∷ zs) (sym (take_all (length (y ∷ ys) - 1) ys (enough (length ys) (length (y ∷ ys)) refl)))
  where
    enough : (n m : ℕ) → m ≡ suc n → n ≤ m - 1
    enough n m e = omega (arith, e)

-- what is found among these
abbrev pub IsAt : List (Option Rated) → Place → Type 0
IsAt found at = (one : Rated) × IsFirstLeast found at.number one × (one.price.cost ≡ at.cost)

abbrev pub next : Place → Place
next at = record { number = at.number + 1; cost = at.cost }

pub after_none : (found : List (Option Rated)) (x : Option Rated) → 1 ≤ length found → x ≡ slice_index_or found 0 x → x ≡ None → (r s : Option Place)
    → (r ≡ None → s ≡ None) → IfSome r (λ at. s ≡ Some (next at)) → IfSome r (IsAt (take (length found - 1) (drop 1 found))) → IfSome s (IsAt found)
after_none found x long first none None s to_none to_some here = subst (λ o. IfSome o (IsAt found)) (sym (to_none refl)) tt
after_none found x long first none (Some at) s to_none to_some here =
    subst (λ o. IfSome o (IsAt found)) (sym to_some)
    (subst (λ xs. IsAt xs (next at)) (sym (parts found x long first ∙ ap (λ y. y ∷ take (length found - 1) (drop 1 found)) none))
    (here.0, passed_over (take (length found - 1) (drop 1 found)) at.number here.0 here.1, here.2))

pub after_some : (found : List (Option Rated)) (x : Option Rated) (one : Rated) → 1 ≤ length found → x ≡ slice_index_or found 0 x → x ≡ Some one → (r s : Option Place)
    → (r ≡ None → s ≡ Some (record { number = 0; cost = one.price.cost }))
    → IfSome r (λ at. at.cost < one.price.cost → s ≡ Some (next at)) → IfSome r (λ at. one.price.cost ≤ at.cost → s ≡ Some (record { number = 0; cost = one.price.cost }))
    → IfNone r (NoneFound (take (length found - 1) (drop 1 found))) → IfSome r (IsAt (take (length found - 1) (drop 1 found))) → IfSome s (IsAt found)
after_some found x one long first some r s to_here to_behind to_before none here = by_rest r refl none here
  where
    rest : List (Option Rated)
    rest = take (length found - 1) (drop 1 found)

    whole : found ≡ Some one ∷ rest
    whole = parts found x long first ∙ ap (λ y. y ∷ rest) some

    taken : (at : Place) → s ≡ Some at → IsAt (Some one ∷ rest) at → IfSome s (IsAt found)
    taken at e h = subst (λ o. IfSome o (IsAt found)) (sym e) (subst (λ xs. IsAt xs at) (sym whole) h)

    by_rest : (o : Option Place) → o ≡ r → IfNone o (NoneFound rest) → IfSome o (IsAt rest) → IfSome s (IsAt found)
    by_rest None e none here = taken (record { number = 0; cost = one.price.cost }) (to_here (sym e)) (one, alone rest one none, refl)
    by_rest (Some at) e none here =
        let behind = subst (λ p. IfSome p (λ at. at.cost < one.price.cost → s ≡ Some (next at))) (sym e) to_behind in
        let before = subst (λ p. IfSome p (λ at. one.price.cost ≤ at.cost → s ≡ Some (record { number = 0; cost = one.price.cost }))) (sym e) to_before in
        by_order (order at.cost one.price.cost) behind before
      where
        by_order : (at.cost < one.price.cost) ⊎ (one.price.cost ≤ at.cost) → (at.cost < one.price.cost → s ≡ Some (next at)) → (one.price.cost ≤ at.cost → s ≡ Some (record { number = 0; cost = one.price.cost })) → IfSome s (IsAt found)
        by_order (inl less) behind before = taken (next at) (behind less) (here.0, dearer rest at.number one here.0 here.1 (subst (λ c. c < one.price.cost) (sym here.2) less), here.2)
        by_order (inr more) behind before = taken (record { number = 0; cost = one.price.cost }) (before more) (one, no_dearer rest at.number one here.0 here.1 (subst (λ c. one.price.cost ≤ c) (sym here.2) more), refl)

pub the_choice : (found seen seen' : List (Option Rated)) (at : Place) (one : Rated) (prices : List (Option Price)) → seen ≡ found → seen' ≡ found → IsAt seen at → slice_get found at.number ≡ Some (Some one)
    → prices ≡ map price_of seen' → IsChosen found one.fold (record { cost = at.cost; number = at.number; prices = prices })
the_choice found seen seen' at one prices e e' h there told =
    let first : IsFirstLeast found at.number h.0 = subst (λ xs. IsFirstLeast xs at.number h.0) e h.1 in
    let same : h.0 ≡ one = same_Some h.0 one (same_Some (Some h.0) (Some one) (sym first.there ∙ there)) in
    record {
      one = one;
      is_first = subst (IsFirstLeast found at.number) same first;
      its_fold = refl;
      its_cost = sym h.2 ∙ ap (λ (r : Rated). r.price.cost) same;
      prices = told ∙ ap (map price_of) e';
    }
