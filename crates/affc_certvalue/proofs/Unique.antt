-- Two lists of one value are one, and so are two forms.
use Rattle.affc_certvalue.specs.Values.{list_value, list_of, whole_value, numbers_value, form_value, forms_value}
use Rattle.affc_rows.specs.Forms.{Affine}
use Rattle.serde_json.specs.Data.{Data, Members, member, object}
use Rattle.serde_json.specs.View.{items_of}
use Rattle.std.proofs.Common.{◌≡◌, ℕ, ℤ, pos, negsuc, List, [], ◌∷◌, ◌++◌, map, refl, ap₂}

-- ---- Lists

abbrev OneToOne : {A : Type 0} → (A → Data) → Type 0
OneToOne {A = A} f = (x y : A) → f x ≡ f y → x ≡ y

pub head_same : {A : Type 0} (x y : A) (xs ys : List A) → x ∷ xs ≡ y ∷ ys → x ≡ y
head_same x y xs ys e = cc

pub tail_same : {A : Type 0} (x y : A) (xs ys : List A) → x ∷ xs ≡ y ∷ ys → xs ≡ ys
tail_same x y xs ys e = cc

items_same : (ds es : List Data) → items_of ds ≡ items_of es → ds ≡ es
items_same [] [] e = refl
items_same [] (x ∷ es) e = absurd (cc)
items_same (d ∷ ds) [] e = absurd (cc)
items_same (d ∷ ds) (x ∷ es) e =
    let first : d ≡ x = cc in
    let rest : items_of ds ≡ items_of es = cc in
    ap₂ (λ a rest. a ∷ rest) first (items_same ds es rest)

pub list_same : (ds es : List Data) → list_value ds ≡ list_value es → ds ≡ es
list_same ds es e =
    let same : items_of ds ≡ items_of es = cc in
    items_same ds es same

map_same : {A : Type 0} (f : A → Data) → OneToOne f → (xs ys : List A) → map f xs ≡ map f ys → xs ≡ ys
map_same f one [] [] e = refl
map_same f one [] (y ∷ ys) e = absurd (cc)
map_same f one (x ∷ xs) [] e = absurd (cc)
map_same f one (x ∷ xs) (y ∷ ys) e = ap₂ (λ a rest. a ∷ rest) (one x y (head_same _ _ _ _ e)) (map_same f one xs ys (tail_same _ _ _ _ e))

pub list_of_same : {A : Type 0} (f : A → Data) → OneToOne f → (xs ys : List A) → list_of f xs ≡ list_of f ys → xs ≡ ys
list_of_same f one xs ys e = map_same f one xs ys (list_same (map f xs) (map f ys) e)

-- ---- Numbers and forms

pub whole_same : (x y : ℤ) → whole_value x ≡ whole_value y → x ≡ y
whole_same (pos m) (pos n) e = cc
whole_same (pos m) (negsuc n) e = absurd (cc)
whole_same (negsuc m) (pos n) e = absurd (cc)
whole_same (negsuc m) (negsuc n) e = cc

pub numbers_same : (xs ys : List ℤ) → numbers_value xs ≡ numbers_value ys → xs ≡ ys
numbers_same xs ys e = list_of_same whole_value whole_same xs ys e

abbrev AreOne : {A : Type 0} → List A → List A → A → A → Type 0
AreOne xs ys x y = (xs ≡ ys) × (x ≡ y)

last_same : {A : Type 0} (xs ys : List A) (x y : A) → xs ++ x ∷ [] ≡ ys ++ y ∷ [] → AreOne xs ys x y
last_same [] [] x y e = (refl, head_same _ _ _ _ e)
last_same [] (b ∷ []) x y e = absurd (cc)
last_same [] (b ∷ c ∷ ys) x y e = absurd (cc)
last_same (a ∷ []) [] x y e = absurd (cc)
last_same (a ∷ c ∷ xs) [] x y e = absurd (cc)
last_same (a ∷ xs) (b ∷ ys) x y e =
    let rest = last_same xs ys x y (tail_same _ _ _ _ e) in
    (ap₂ (λ p ps. p ∷ ps) (head_same _ _ _ _ e) rest.0, rest.1)

form_of : (f g : Affine) → f.coefs ≡ g.coefs → f.constant ≡ g.constant → f ≡ g
form_of f g e h = ap₂ (λ cs c. record { coefs = cs; constant = c }) e h

pub form_same : (f g : Affine) → form_value f ≡ form_value g → f ≡ g
form_same f g e = let same = last_same f.coefs g.coefs f.constant g.constant (numbers_same (f.coefs ++ f.constant ∷ []) (g.coefs ++ g.constant ∷ []) e) in form_of f g same.0 same.1

pub forms_same : (fs gs : List Affine) → forms_value fs ≡ forms_value gs → fs ≡ gs
forms_same fs gs e = list_of_same form_value form_same fs gs e

pub natural_same : (m n : ℕ) → whole_value (pos m) ≡ whole_value (pos n) → m ≡ n
natural_same m n e = cc

-- ---- Proofs: a list of nodes begins with one proof alone

pub two_same : (t s a b : Data) → list_value (t ∷ a ∷ []) ≡ list_value (s ∷ b ∷ []) → a ≡ b
two_same t s a b e = head_same _ _ _ _ (tail_same _ _ _ _ (list_same (t ∷ a ∷ []) (s ∷ b ∷ []) e))

abbrev ThreeOne : (a b c d : Data) → Type 0
ThreeOne a b c d = (a ≡ c) × (b ≡ d)

pub three_same : (t s a b c d : Data) → list_value (t ∷ a ∷ b ∷ []) ≡ list_value (s ∷ c ∷ d ∷ []) → ThreeOne a b c d
three_same t s a b c d e =
    let same = tail_same _ _ _ _ (list_same (t ∷ a ∷ b ∷ []) (s ∷ c ∷ d ∷ []) e) in
    (head_same _ _ _ _ same, head_same _ _ _ _ (tail_same _ _ _ _ same))

abbrev FourOne : (a b c x y z : Data) → Type 0
FourOne a b c x y z = (a ≡ x) × (b ≡ y) × (c ≡ z)

pub four_same : (t s a b c x y z : Data) → list_value (t ∷ a ∷ b ∷ c ∷ []) ≡ list_value (s ∷ x ∷ y ∷ z ∷ []) → FourOne a b c x y z
four_same t s a b c x y z e =
    let first = tail_same _ _ _ _ (list_same (t ∷ a ∷ b ∷ c ∷ []) (s ∷ x ∷ y ∷ z ∷ []) e) in
    let second = tail_same _ _ _ _ first in
    (head_same _ _ _ _ first, head_same _ _ _ _ second, head_same _ _ _ _ (tail_same _ _ _ _ second))

-- ---- Folds

pub member_same : (k l : List ℕ) (d e : Data) (ms ns : Members) → member k d ms ≡ member l e ns → d ≡ e
member_same k l d e ms ns h = cc

pub members_same : (k l : List ℕ) (d e : Data) (ms ns : Members) → member k d ms ≡ member l e ns → ms ≡ ns
members_same k l d e ms ns h = cc

pub object_same : (ms ns : Members) → object ms ≡ object ns → ms ≡ ns
object_same ms ns e = cc
