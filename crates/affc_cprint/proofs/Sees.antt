-- The names that are printed, and those that are visible where a text is read.
use Rattle.std.proofs.Common.{◌≡◌, ◌⊎◌, inl, inr, ℕ, zero, suc, ◌+◌, ◌&&◌, ◌==◌, Bool, true, false, not, List, [], ◌∷◌, ◌++◌, length, Option, Some, None, is_some, Ok, Err, unwrap_or, codes, count_by, refl, sym, ap, ◌∙◌, arith, length-append, if◌then◌else◌}
use Rattle.std.specs.List.{find, slice_get}
use Rattle.std.proofs.lemmas.Bool.{eqb-true, eq-eqb, and_parts, and_from, false≢true}
use Rattle.std.proofs.lemmas.List.Sums.{sum_by-cons}
use Rattle.affc_lex.specs.Bytes.{same}
use Rattle.affc_ast.specs.declared.tree.NameId.{NameId}
use Rattle.affc_ast.specs.declared.tree.ArrayId.{ArrayId}
use Rattle.affc_ast.specs.declared.tree.Role.{Role}
use Rattle.affc_grammar.specs.declared.fault.NameWhy.{NameWhy}
use Rattle.affc_grammar.specs.declared.fault.NameWhy.TheVariants.{Twice, Reserved, Const, Kind}
use Rattle.affc_grammar.specs.Grammar.{Name}
use Rattle.affc_grammar.specs.Printed.{Names, number_name, array_name, and_number, and_array_name}
use Rattle.affc_grammar.specs.Names.{Thing, function, number, array, Visible, Scope, Checked, ◌>>=◌, allowed, first_reason, thing_of, is_number_thing, is_array_thing, with_thing, with_number, with_array, is_refused_word, why_declared, why_number, why_array, number_id, array_id, number_named, array_named, is_input}
use Rattle.affc_cprint.proofs.Spelled.{not_true, never}

-- ---- Bytes

pub same_is : (xs ys : List ℕ) → same xs ys ≡ true → xs ≡ ys
same_is [] [] h = refl
same_is [] (y ∷ ys) h = absurd (false≢true h)
same_is (x ∷ xs) [] h = absurd (false≢true h)
same_is (x ∷ xs) (y ∷ ys) h =
    let p = and_parts (x == y) (same xs ys) h in
    ap (λ z. z ∷ xs) (eqb-true x y p.0) ∙ ap (λ zs. y ∷ zs) (same_is xs ys p.1)

pub same_self : (xs : List ℕ) → same xs xs ≡ true
same_self [] = refl
same_self (x ∷ xs) = and_from _ _ (eq-eqb x x refl) (same_self xs)

-- ---- What is answered in steps

pub ok_of : {A : Type 0} {x y : A} → ◌≡◌ {A = Checked A} (Ok x) (Ok y) → x ≡ y
ok_of {x = x} e = ap (λ r. elim r [ Ok a ↦ a | Err f ↦ x ]) e

-- a step that ends well had a first part that did
pub both_ok : {A B : Type 0} (r : Checked A) (f : A → Checked B) (b : B) → (r >>= f) ≡ Ok b → (a : A) × (r ≡ Ok a) × (f a ≡ Ok b)
both_ok (Ok a) f b e = (a, refl, e)
both_ok (Err x) f b e = absurd (cc)

pub then_is : {A B : Type 0} (r : Checked A) (f : A → Checked B) (a : A) (b : B) → r ≡ Ok a → f a ≡ Ok b → (r >>= f) ≡ Ok b
then_is r f a b e d = ap (λ r. r >>= f) e ∙ d

pub allowed_ok : {A : Type 0} (why : Option NameWhy) (at : ℕ) (r : Checked A) (a : A) → allowed why at r ≡ Ok a → (why ≡ None) × (r ≡ Ok a)
allowed_ok None at r a e = (refl, e)
allowed_ok (Some w) at r a e = absurd (cc)

pub allowed_is : {A : Type 0} (why : Option NameWhy) (at : ℕ) (r : Checked A) (a : A) → why ≡ None → r ≡ Ok a → allowed why at r ≡ Ok a
allowed_is why at r a e d = ap (λ w. allowed w at r) e ∙ d

-- ---- Words that aren't refused

static_refused : (scope : Scope) (it : Bool) → is_refused_word scope it (codes "static") ≡ true
static_refused scope it = of it scope.has_prelude
  where
    of : (it p : Bool) → not (it && p && false) ≡ true
    of true true = refl
    of true false = refl
    of false true = refl
    of false false = refl

pub not_static : (scope : Scope) (it : Bool) (w : Name) → is_refused_word scope it w ≡ false → same (codes "static") w ≡ false
not_static scope it w h = not_true (same (codes "static") w) (λ e. never (ap (is_refused_word scope it) (sym (same_is (codes "static") w e)) ∙ static_refused scope it) h)

pub first_none : (b : Bool) (why : NameWhy) (rest : List (Bool × NameWhy)) → first_reason ((b, why) ∷ rest) ≡ None → (b ≡ false) × (first_reason rest ≡ None)
first_none true why rest e = absurd (cc)
first_none false why rest e = (refl, e)

pub declared_none : (scope : Scope) (it : Bool) (w : Name) → why_declared scope it w ≡ None → (is_some (thing_of scope w) ≡ false) × (is_refused_word scope it w ≡ false)
declared_none scope it w e =
    let p = first_none (is_some (thing_of scope w)) Twice ((is_refused_word scope it w, Reserved) ∷ []) e in
    (p.0, (first_none (is_refused_word scope it w) Reserved [] p.1).0)

-- ---- The printed names are those of the scope

pub record Sees (scope : Scope) (names : Names) : Type 0 where
  pub numbers : (w : Name) (id : ℕ) (it : Bool) → thing_of scope w ≡ Some (number id it) → slice_get names.numbers id ≡ Some w
  pub arrays : (w : Name) (id : ℕ) (role : Role) (n : ℕ) → thing_of scope w ≡ Some (array id role n) → slice_get names.arrays id ≡ Some w
  pub number_count : count_by is_number_thing scope.visible ≡ length names.numbers
  pub array_count : count_by is_array_thing scope.visible ≡ length names.arrays

get_last : (xs : List Name) (w : Name) → slice_get (xs ++ w ∷ []) (length xs) ≡ Some w
get_last [] w = refl
get_last (x ∷ xs) w = get_last xs w

get_before : (xs ys : List Name) (i : ℕ) (w : Name) → slice_get xs i ≡ Some w → slice_get (xs ++ ys) i ≡ Some w
get_before [] ys i w e = absurd (cc)
get_before (x ∷ xs) ys zero w e = e
get_before (x ∷ xs) ys (suc i) w e = get_before xs ys i w e

-- what is found with one more thing
pub new_or_old : (scope : Scope) (w v : Name) (thing t : Thing) → thing_of (with_thing scope w thing) v ≡ Some t → ((w ≡ v) × (thing ≡ t)) ⊎ (thing_of scope v ≡ Some t)
new_or_old scope w v thing t e = of (same w v) refl e
  where
    of : (b : Bool) → same w v ≡ b → (elim (if b then Some (record { name = w; thing = thing }) else find (λ x. same x.name v) scope.visible) [ None ↦ None | Some x ↦ Some x.thing ]) ≡ Some t
        → ((w ≡ v) × (thing ≡ t)) ⊎ (thing_of scope v ≡ Some t)
    of true q e = inl (same_is w v q, some_is thing t e)
      where
        some_is : (a b : Thing) → Some a ≡ Some b → a ≡ b
        some_is a b e = cc
    of false q e = inr e

count_one : (test : Visible → Bool) (v : Visible) (vs : List Visible) → test v ≡ true → count_by test (v ∷ vs) ≡ 1 + count_by test vs
count_one test v vs h = sum_by-cons (λ x. if test x then 1 else 0) v vs ∙ ap (λ b. (if b then 1 else 0) + count_by test vs) h

count_none : (test : Visible → Bool) (v : Visible) (vs : List Visible) → test v ≡ false → count_by test (v ∷ vs) ≡ count_by test vs
count_none test v vs h =
    let none : 0 + count_by test vs ≡ count_by test vs = omega arith in
    sum_by-cons (λ x. if test x then 1 else 0) v vs ∙ ap (λ b. (if b then 1 else 0) + count_by test vs) h ∙ none

one_more : (n : ℕ) (xs : List Name) (w : Name) → n ≡ length xs → 1 + n ≡ length (xs ++ w ∷ [])
one_more n xs w e = let l = length-append xs (w ∷ []) in omega (arith, e, l)

pub sees_number : (it : Bool) (scope : Scope) (names : Names) (w : Name) → Sees scope names → Sees (with_number it scope w) (and_number names w)
sees_number it scope names w sees =
    let thing : Thing = number (count_by is_number_thing scope.visible) it in
    record {
      numbers = λ v id it' e. numbers v id it' (new_or_old scope w v thing (number id it') e);
      arrays = λ v id role n e. arrays v id role n (new_or_old scope w v thing (array id role n) e);
      number_count = count_one is_number_thing (record { name = w; thing = thing }) scope.visible refl ∙ one_more (count_by is_number_thing scope.visible) names.numbers w sees.number_count;
      array_count = count_none is_array_thing (record { name = w; thing = thing }) scope.visible refl ∙ sees.array_count;
    }
  where
    numbers : (v : Name) (id : ℕ) (it' : Bool) → ((w ≡ v) × (number (count_by is_number_thing scope.visible) it ≡ number id it')) ⊎ (thing_of scope v ≡ Some (number id it')) → slice_get (names.numbers ++ w ∷ []) id ≡ Some v
    numbers v id it' (inl e) =
        let at : length names.numbers ≡ id = sym sees.number_count ∙ id_of _ _ it it' e.1 in
        ap (slice_get (names.numbers ++ w ∷ [])) (sym at) ∙ get_last names.numbers w ∙ ap (λ x. Some x) e.0
      where
        id_of : (a b : ℕ) (s t : Bool) → number a s ≡ number b t → a ≡ b
        id_of a b s t e = cc
    numbers v id it' (inr e) = get_before names.numbers (w ∷ []) id v (sees.numbers v id it' e)

    arrays : (v : Name) (id : ℕ) (role : Role) (n : ℕ) → ((w ≡ v) × (number (count_by is_number_thing scope.visible) it ≡ array id role n)) ⊎ (thing_of scope v ≡ Some (array id role n)) → slice_get names.arrays id ≡ Some v
    arrays v id role n (inl e) = absurd (apart _ it id role n e.1)
      where
        apart : (a : ℕ) (s : Bool) (b : ℕ) (r : Role) (m : ℕ) → number a s ≡ array b r m → ⊥
        apart a s b r m e = cc
    arrays v id role n (inr e) = sees.arrays v id role n e

pub sees_array : (scope : Scope) (names : Names) (w : Name) (role : Role) (n : ℕ) → Sees scope names → Sees (with_array scope w role n) (and_array_name names w)
sees_array scope names w role n sees =
    let thing : Thing = array (count_by is_array_thing scope.visible) role n in
    record {
      numbers = λ v id it' e. numbers v id it' (new_or_old scope w v thing (number id it') e);
      arrays = λ v id r m e. arrays v id r m (new_or_old scope w v thing (array id r m) e);
      number_count = count_none is_number_thing (record { name = w; thing = thing }) scope.visible refl ∙ sees.number_count;
      array_count = count_one is_array_thing (record { name = w; thing = thing }) scope.visible refl ∙ one_more (count_by is_array_thing scope.visible) names.arrays w sees.array_count;
    }
  where
    numbers : (v : Name) (id : ℕ) (it' : Bool) → ((w ≡ v) × (array (count_by is_array_thing scope.visible) role n ≡ number id it')) ⊎ (thing_of scope v ≡ Some (number id it')) → slice_get names.numbers id ≡ Some v
    numbers v id it' (inl e) = absurd (apart _ role n id it' e.1)
      where
        apart : (b : ℕ) (r : Role) (m : ℕ) (a : ℕ) (s : Bool) → array b r m ≡ number a s → ⊥
        apart b r m a s e = cc
    numbers v id it' (inr e) = sees.numbers v id it' e

    arrays : (v : Name) (id : ℕ) (r : Role) (m : ℕ) → ((w ≡ v) × (array (count_by is_array_thing scope.visible) role n ≡ array id r m)) ⊎ (thing_of scope v ≡ Some (array id r m)) → slice_get (names.arrays ++ w ∷ []) id ≡ Some v
    arrays v id r m (inl e) =
        let at : length names.arrays ≡ id = sym sees.array_count ∙ id_of _ _ role r n m e.1 in
        ap (slice_get (names.arrays ++ w ∷ [])) (sym at) ∙ get_last names.arrays w ∙ ap (λ x. Some x) e.0
      where
        id_of : (a b : ℕ) (s t : Role) (k l : ℕ) → array a s k ≡ array b t l → a ≡ b
        id_of a b s t k l e = cc
    arrays v id r m (inr e) = get_before names.arrays (w ∷ []) id v (sees.arrays v id r m e)

-- ---- Names that are looked up

pub record NumberBack (scope : Scope) (names : Names) (w : Name) (id : NameId) : Type 0 where
  pub same_name : number_name names id ≡ w
  pub again : (at : ℕ) → number_named scope at w ≡ Ok id
  pub other : same (codes "static") w ≡ false

pub number_back : (scope : Scope) (names : Names) → Sees scope names → (at : ℕ) (w : Name) (id : NameId) → number_named scope at w ≡ Ok id → NumberBack scope names w id
number_back scope names sees at w id e =
    let p = allowed_ok (why_number scope w (thing_of scope w)) at (Ok (number_id (thing_of scope w))) id e in
    record { same_name = found.0 p.0 p.1; again = λ at'. allowed_is (why_number scope w (thing_of scope w)) at' (Ok (number_id (thing_of scope w))) id p.0 p.1; other = found.1 p.0 }
  where
    named : (t : Option Thing) → thing_of scope w ≡ t → why_number scope w t ≡ None → ◌≡◌ {A = Checked NameId} (Ok (number_id t)) (Ok id) → number_name names id ≡ w
    named None q e f = absurd (cc)
    named (Some function) q e f = absurd (of (is_refused_word scope false w) e)
      where
        of : (b : Bool) → first_reason ((b, Reserved) ∷ (true, Kind) ∷ []) ≡ None → ⊥
        of true h = cc
        of false h = cc
    named (Some (number n it)) q e f = ap (λ i. number_name names i) (sym (ok_of f)) ∙ ap (λ o. unwrap_or o []) (sees.numbers w n it q)
    named (Some (array n role d)) q e f = absurd (of (is_refused_word scope false w) e)
      where
        of : (b : Bool) → first_reason ((b, Reserved) ∷ (true, Kind) ∷ []) ≡ None → ⊥
        of true h = cc
        of false h = cc

    unreserved : (t : Option Thing) → why_number scope w t ≡ None → same (codes "static") w ≡ false
    unreserved None e = absurd (cc)
    unreserved (Some function) e = not_static scope false w (first_none (is_refused_word scope false w) Reserved ((true, Kind) ∷ []) e).0
    unreserved (Some (number n it)) e = not_static scope it w (first_none (is_refused_word scope it w) Reserved [] e).0
    unreserved (Some (array n role d)) e = not_static scope false w (first_none (is_refused_word scope false w) Reserved ((true, Kind) ∷ []) e).0

    found : (why_number scope w (thing_of scope w) ≡ None → ◌≡◌ {A = Checked NameId} (Ok (number_id (thing_of scope w))) (Ok id) → number_name names id ≡ w) × (why_number scope w (thing_of scope w) ≡ None → same (codes "static") w ≡ false)
    found = (named (thing_of scope w) refl, unreserved (thing_of scope w))

pub record ArrayBack (scope : Scope) (names : Names) (is_store : Bool) (w : Name) (id : ArrayId) (count : ℕ) : Type 0 where
  pub same_name : array_name names id ≡ w
  pub again : (at : ℕ) → array_named scope at w is_store count ≡ Ok id
  pub other : same (codes "static") w ≡ false

pub array_back : (scope : Scope) (names : Names) → Sees scope names → (at : ℕ) (w : Name) (is_store : Bool) (count : ℕ) (id : ArrayId) → array_named scope at w is_store count ≡ Ok id → ArrayBack scope names is_store w id count
array_back scope names sees at w is_store count id e =
    let p = allowed_ok (why_array scope w is_store count (thing_of scope w)) at (Ok (array_id (thing_of scope w))) id e in
    record { same_name = found.0 p.0 p.1; again = λ at'. allowed_is (why_array scope w is_store count (thing_of scope w)) at' (Ok (array_id (thing_of scope w))) id p.0 p.1; other = found.1 p.0 }
  where
    of : (b : Bool) → first_reason ((b, Reserved) ∷ (true, Kind) ∷ []) ≡ None → ⊥
    of true h = cc
    of false h = cc

    named : (t : Option Thing) → thing_of scope w ≡ t → why_array scope w is_store count t ≡ None → ◌≡◌ {A = Checked ArrayId} (Ok (array_id t)) (Ok id) → array_name names id ≡ w
    named None q e f = absurd (cc)
    named (Some function) q e f = absurd (of (is_refused_word scope false w) e)
    named (Some (number n it)) q e f = absurd (of (is_refused_word scope it w) e)
    named (Some (array n role d)) q e f = ap (λ i. array_name names i) (sym (ok_of f)) ∙ ap (λ o. unwrap_or o []) (sees.arrays w n role d q)

    unreserved : (t : Option Thing) → why_array scope w is_store count t ≡ None → same (codes "static") w ≡ false
    unreserved None e = absurd (cc)
    unreserved (Some function) e = absurd (of (is_refused_word scope false w) e)
    unreserved (Some (number n it)) e = absurd (of (is_refused_word scope it w) e)
    unreserved (Some (array n role d)) e = not_static scope false w (first_none (is_refused_word scope false w) Reserved ((is_store && is_input role, Const) ∷ (not (d == count), Kind) ∷ []) e).0

    found : (why_array scope w is_store count (thing_of scope w) ≡ None → ◌≡◌ {A = Checked ArrayId} (Ok (array_id (thing_of scope w))) (Ok id) → array_name names id ≡ w) × (why_array scope w is_store count (thing_of scope w) ≡ None → same (codes "static") w ≡ false)
    found = (named (thing_of scope w) refl, unreserved (thing_of scope w))
