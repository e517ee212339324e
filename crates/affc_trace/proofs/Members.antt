-- What lists that compute hold.
use Rattle.std.proofs.Common.{◌≡◌, ◌≢◌, Bool, true, false, true≢false, if◌then◌else◌, List, [], ◌∷◌, ◌++◌, map, flat_map, refl, sym, ap, subst, ◌∙◌, ◌⊎◌, inl, inr}
use Rattle.std.specs.Prelude.{filter, not, ◌&&◌, ◌||◌}
use Rattle.std.specs.Bool.{Decides}
use Rattle.affc_ast.specs.declared.tree.Instance.{Instance}
use Rattle.affc_trace.specs.Law.{IsIn}
use Rattle.affc_trace.specs.Orders.{Earlier, AreDistinct}
use Rattle.affc_trace.specs.Dataflow.{same_instance, up_to, past, is_among}
use Rattle.affc_trace.proofs.Legality.{later_is_in, earlier_is_in, one_way, either_way, in_front, in_rest, from_front, still_earlier}
use Rattle.affc_trace.proofs.Targets.{same_instance_decides}

-- ---- members

pub to_first : {A : Type 0} (xs ys : List A) (a : A) → IsIn a xs → IsIn a (xs ++ ys)
to_first [] ys a i = absurd i
to_first (x ∷ xs) ys a (inl e) = inl e
to_first (x ∷ xs) ys a (inr i) = inr (to_first xs ys a i)

pub to_second : {A : Type 0} (xs ys : List A) (a : A) → IsIn a ys → IsIn a (xs ++ ys)
to_second [] ys a i = i
to_second (x ∷ xs) ys a i = inr (to_second xs ys a i)

pub to_flat_map : {A B : Type 0} (f : A → List B) (xs : List A) (x : A) (b : B) → IsIn x xs → IsIn b (f x) → IsIn b (flat_map f xs)
to_flat_map f [] x b i j = absurd i
to_flat_map f (y ∷ xs) x b (inl e) j = to_first (f y) (flat_map f xs) b (subst (λ z. IsIn b (f z)) e j)
to_flat_map f (y ∷ xs) x b (inr i) j = to_second (f y) (flat_map f xs) b (to_flat_map f xs x b i j)

pub in_map : {A B : Type 0} (f : A → B) (xs : List A) (b : B) → IsIn b (map f xs) → (x : A) × IsIn x xs × (b ≡ f x)
in_map f [] b i = absurd i
in_map f (x ∷ xs) b (inl e) = (x, inl refl, e)
in_map f (x ∷ xs) b (inr i) = let r = in_map f xs b i in (r.0, inr r.1, r.2)

pub to_map : {A B : Type 0} (f : A → B) (xs : List A) (x : A) → IsIn x xs → IsIn (f x) (map f xs)
to_map f [] x i = absurd i
to_map f (y ∷ xs) x (inl e) = inl (ap f e)
to_map f (y ∷ xs) x (inr i) = inr (to_map f xs x i)

filter_cases : {A : Type 0} (p : A → Bool) (x : A) (t : Bool) (zs : List A) (a : A) → p x ≡ t → IsIn a (if t then x ∷ zs else zs) → ((a ≡ x) × (p x ≡ true)) ⊎ IsIn a zs
filter_cases p x true zs a e (inl q) = inl (q, e)
filter_cases p x true zs a e (inr i) = inr i
filter_cases p x false zs a e i = inr i

pub in_filter : {A : Type 0} (p : A → Bool) (xs : List A) (a : A) → IsIn a (filter p xs) → IsIn a xs × (p a ≡ true)
in_filter p [] a i = absurd i
in_filter p (x ∷ xs) a i = elim (filter_cases p x (p x) (filter p xs) a refl i) [
  | inl q ↦ (inl q.0, ap p q.0 ∙ q.1)
  | inr j ↦ (let r = in_filter p xs a j in (inr r.0, r.1))
]

filter_keeps : {A : Type 0} (p : A → Bool) (x : A) (t : Bool) (zs : List A) (a : A) → p x ≡ t → p a ≡ true → (a ≡ x) ⊎ IsIn a zs → IsIn a (if t then x ∷ zs else zs)
filter_keeps p x true zs a e f (inl q) = inl q
filter_keeps p x true zs a e f (inr i) = inr i
filter_keeps p x false zs a e f (inl q) = absurd (true≢false (sym f ∙ ap p q ∙ e))
filter_keeps p x false zs a e f (inr i) = i

pub to_filter : {A : Type 0} (p : A → Bool) (xs : List A) (a : A) → IsIn a xs → p a ≡ true → IsIn a (filter p xs)
to_filter p [] a i e = absurd i
to_filter p (x ∷ xs) a (inl q) e = filter_keeps p x (p x) (filter p xs) a refl e (inl q)
to_filter p (x ∷ xs) a (inr i) e = filter_keeps p x (p x) (filter p xs) a refl e (inr (to_filter p xs a i e))

pub no_members : {A : Type 0} (xs : List A) → ((a : A) → ¬ (IsIn a xs)) → xs ≡ []
no_members [] n = refl
no_members (x ∷ xs) n = absurd (n x (inl refl))

-- ---- tests

pub both_hold : (a b : Bool) → a && b ≡ true → (a ≡ true) × (b ≡ true)
both_hold true b e = (refl, e)
both_hold false b e = absurd (true≢false (sym e))

pub hold_both : (a b : Bool) → a ≡ true → b ≡ true → a && b ≡ true
hold_both true b e f = f
hold_both false b e f = absurd (true≢false (sym e))

pub either_holds : (a b : Bool) → a || b ≡ true → (a ≡ true) ⊎ (b ≡ true)
either_holds true b e = inl refl
either_holds false b e = inr e

pub holds_first : (a b : Bool) → a ≡ true → a || b ≡ true
holds_first true b e = refl
holds_first false b e = absurd (true≢false (sym e))

pub holds_second : (a b : Bool) → b ≡ true → a || b ≡ true
holds_second true b e = refl
holds_second false b e = e

pub not_true : (a : Bool) → not a ≡ true → a ≡ true → ⊥
not_true true e f = true≢false (sym e)
not_true false e f = true≢false (sym f)

pub true_not : (a : Bool) → (a ≡ true → ⊥) → not a ≡ true
true_not true n = absurd (n refl)
true_not false n = refl

module _ {A : Type 0} (same : A → A → Bool) (decides : (x y : A) → Decides (same x y) (x ≡ y)) where
  pub among_is_in : (x : A) (ys : List A) → is_among same x ys ≡ true → IsIn x ys
  among_is_in x [] e = absurd (true≢false (sym e))
  among_is_in x (y ∷ ys) e = elim (either_holds (same x y) (is_among same x ys) e) [ inl s ↦ inl ((decides x y).0 s) | inr r ↦ inr (among_is_in x ys r) ]

  pub in_is_among : (x : A) (ys : List A) → IsIn x ys → is_among same x ys ≡ true
  in_is_among x [] i = absurd i
  in_is_among x (y ∷ ys) (inl e) = holds_first (same x y) (is_among same x ys) ((decides x y).1 e)
  in_is_among x (y ∷ ys) (inr i) = holds_second (same x y) (is_among same x ys) (in_is_among x ys i)

-- ---- the instances before and after one

same_itself : (b : Instance) → same_instance b b ≡ true
same_itself b = (same_instance_decides b b).1 refl

differ : (a b : Instance) → a ≢ b → same_instance a b ≡ false
differ a b n = by_test (same_instance a b) refl
  where
    by_test : (t : Bool) → same_instance a b ≡ t → t ≡ false
    by_test true e = absurd (n ((same_instance_decides a b).0 e))
    by_test false e = refl

up_to_here : (b x : Instance) (is : List Instance) (t : Bool) → same_instance b x ≡ t → IsIn b (x ∷ is) → (IsIn b is → is ≡ up_to b is ++ b ∷ past b is)
    → x ∷ is ≡ (if t then [] else x ∷ up_to b is) ++ b ∷ (if t then is else past b is)
up_to_here b x is true e i rest = ap (λ y. y ∷ is) (sym ((same_instance_decides b x).0 e))
up_to_here b x is false e (inl q) rest = absurd (true≢false (sym ((same_instance_decides b x).1 q) ∙ e))
up_to_here b x is false e (inr i) rest = ap (λ l. x ∷ l) (rest i)

-- a list is what stands before an instance of it, the instance, and what stands after
pub split_up_to : (is : List Instance) (b : Instance) → IsIn b is → is ≡ up_to b is ++ b ∷ past b is
split_up_to [] b i = absurd i
split_up_to (x ∷ is) b i = up_to_here b x is (same_instance b x) refl i (split_up_to is b)

pub up_to_split : (done rest : List Instance) (b : Instance) → AreDistinct (done ++ b ∷ rest) → up_to b (done ++ b ∷ rest) ≡ done
up_to_split [] rest b d = ap (λ t. if t then [] else b ∷ up_to b rest) (same_itself b)
up_to_split (a ∷ done) rest b d =
    ap (λ t. if t then [] else a ∷ up_to b (done ++ b ∷ rest)) (differ b a (λ e. d.0 (subst (λ z. IsIn z (done ++ b ∷ rest)) e (in_rest done rest b))))
    ∙ ap (λ l. a ∷ l) (up_to_split done rest b d.1)

module _ (is : List Instance) (distinct : AreDistinct is) (b : Instance) (b_in : IsIn b is) where
  pub before_is_earlier : (a : Instance) → IsIn a (up_to b is) → Earlier is a b
  before_is_earlier a i = subst (λ z. Earlier z a b) (sym (split_up_to is b b_in)) (from_front (up_to b is) (past b is) a b i)

  pub earlier_is_before : (a : Instance) → Earlier is a b → IsIn a (up_to b is)
  earlier_is_before a e = in_front (up_to b is) (past b is) a b (subst AreDistinct (split_up_to is b b_in) distinct) (subst (λ z. Earlier z a b) (split_up_to is b b_in) e)

  pub earlier_inside : (a c : Instance) → Earlier (up_to b is) a c → Earlier is a c
  earlier_inside a c e = subst (λ z. Earlier z a c) (sym (split_up_to is b b_in)) (still_earlier (up_to b is) (b ∷ past b is) a c e)

earlier_trans : (is : List Instance) (a b c : Instance) → AreDistinct is → Earlier is a b → Earlier is b c → Earlier is a c
earlier_trans [] a b c d e f = e
earlier_trans (x ∷ is) a b c d (inl e) (inl f) = absurd (d.0 (subst (λ z. IsIn z is) f.0 e.1))
earlier_trans (x ∷ is) a b c d (inl e) (inr f) = inl (e.0, later_is_in is b c f)
earlier_trans (x ∷ is) a b c d (inr e) (inl f) = absurd (d.0 (subst (λ z. IsIn z is) f.0 (later_is_in is a b e)))
earlier_trans (x ∷ is) a b c d (inr e) (inr f) = inr (earlier_trans is a b c d.1 e f)

past_cases : (a x c : Instance) (is : List Instance) (t : Bool) → same_instance a x ≡ t → (IsIn c (past a is) → Earlier is a c) → IsIn c (if t then is else past a is) → Earlier (x ∷ is) a c
past_cases a x c is true e rest i = inl ((same_instance_decides a x).0 e, i)
past_cases a x c is false e rest i = inr (rest i)

pub past_is_later : (is : List Instance) (a c : Instance) → IsIn c (past a is) → Earlier is a c
past_is_later [] a c i = i
past_is_later (x ∷ is) a c i = past_cases a x c is (same_instance a x) refl (past_is_later is a c) i

pub later_is_past : (is : List Instance) (a c : Instance) → AreDistinct is → Earlier is a c → IsIn c (past a is)
later_is_past [] a c d e = e
later_is_past (x ∷ is) a c d (inl e) = subst (λ t. IsIn c (if t then is else past a is)) (sym ((same_instance_decides a x).1 e.0)) e.1
later_is_past (x ∷ is) a c d (inr e) =
    subst (λ t. IsIn c (if t then is else past a is)) (sym (differ a x (λ q. d.0 (subst (λ z. IsIn z is) q (earlier_is_in is a c e))))) (later_is_past is a c d.1 e)

distinct_front : (is js : List Instance) → AreDistinct (is ++ js) → AreDistinct is
distinct_front [] js d = tt
distinct_front (x ∷ is) js d = (λ i. d.0 (to_first is js x i), distinct_front is js d.1)

module _ (is : List Instance) (distinct : AreDistinct is) (a b : Instance) (b_in : IsIn b is) where
  pub between_is_within : (c : Instance) → IsIn c (past a (up_to b is)) → Earlier is a c × Earlier is c b
  between_is_within c i =
      let e = past_is_later (up_to b is) a c i in
      (earlier_inside is distinct b b_in a c e, before_is_earlier is distinct b b_in c (later_is_in (up_to b is) a c e))

  pub within_is_between : (c : Instance) → Earlier is a c → Earlier is c b → IsIn c (past a (up_to b is))
  within_is_between c e f =
      let front : AreDistinct (up_to b is) = distinct_front (up_to b is) (b ∷ past b is) (subst AreDistinct (split_up_to is b b_in) distinct) in
      let a_in = earlier_is_before is distinct b b_in a (earlier_trans is a c b distinct e f) in
      let c_in = earlier_is_before is distinct b b_in c f in
      let apart : a ≢ c = λ q. one_way is a c distinct e (subst (λ z. Earlier is z a) q (subst (λ z. Earlier is a z) (sym q) e)) in
      later_is_past (up_to b is) a c front (elim (either_way (up_to b is) a c apart a_in c_in) [
        | inl g ↦ g
        | inr g ↦ absurd (one_way is a c distinct e (earlier_inside is distinct b b_in c a g))
      ])
