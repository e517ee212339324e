-- A table of names as a list from the latest to the first.
use Rattle.std.proofs.Common.{◌≡◌, ℕ, ◌+◌, ◌≤◌, Bool, true, false, cond, count_by, List, [], ◌∷◌, ◌++◌, Option, Some, None, refl, sym, ap, ◌∙◌, subst, arith}
use Rattle.std.specs.Option.{option_map, option_or}
use Rattle.std.specs.List.{find}
use Rattle.std.specs.String.{string_bytes, string_eq}
use Rattle.indexmap.specs.IndexMap.{insert_entry}
use Rattle.indexmap.proofs.MapLemmas.{absent_from_lookup, insert_entry-absent}
use Rattle.std.specs.Str.{bytes_eq}
use Rattle.std.specs.declared.string.String.{String}
use Rattle.std.specs.Map.{lookup}
use Rattle.std.proofs.lemmas.List.Folds.{find-append}
use Rattle.std.proofs.lemmas.List.Sums.{sum_by-cons}
use Rattle.std.proofs.lemmas.Slice.Eq.{bytes_eq-Decides}
use Rattle.affc_lex.specs.Bytes.{same}
use Rattle.affc_grammar.specs.Names.{Visible, is_number_thing, is_array_thing}
use Rattle.affc_names.specs.declared.scope.Thing.{Thing}
use Rattle.affc_names.specs.Things.{thing_seen}
use Rattle.affc_names.specs.Visible.{thing_in}
use Rattle.affc_names.specs.Table.{visible_of, latest_first, AreApart}
use Rattle.affc_names.specs.declared.scope.Scope.TheInside.{Inside}
use Rattle.affc_names.specs.Inside.{IsCounted}

-- ---- Names

pub same_is : (xs ys : List ℕ) → same xs ys ≡ true → xs ≡ ys
same_is xs ys h = (bytes_eq-Decides xs ys).0 h

false_or_true : {P : Type 0} (b : Bool) → b ≡ true → b ≡ false → P
false_or_true true e f = absurd (cc)
false_or_true false e f = absurd (cc)

pub same_self : (xs : List ℕ) → same xs xs ≡ true
same_self xs = (bytes_eq-Decides xs xs).1 refl

pub same_turned : (xs ys : List ℕ) → same xs ys ≡ same ys xs
same_turned xs ys = by (same xs ys) refl (same ys xs) refl
  where
    by : (b : Bool) → same xs ys ≡ b → (c : Bool) → same ys xs ≡ c → same xs ys ≡ same ys xs
    by true e true f = e ∙ sym f
    by false e false f = e ∙ sym f
    by true e false f = false_or_true (same ys xs) ((bytes_eq-Decides ys xs).1 (sym (same_is xs ys e))) f
    by false e true f = false_or_true (same xs ys) ((bytes_eq-Decides xs ys).1 (sym (same_is ys xs f))) e

-- ---- The list

pub latest-snoc : {A : Type 0} (es : List (String A × Thing)) (e : String A × Thing) → latest_first (es ++ e ∷ []) ≡ visible_of e ∷ latest_first es
latest-snoc [] e = refl
latest-snoc (x ∷ es) e = ap (λ l. l ++ visible_of x ∷ []) (latest-snoc es e)

named : List ℕ → Visible → Bool
named w v = same v.name w

or_none : {A : Type 0} (a b : Option A) → option_or a b ≡ None → (a ≡ None) × (b ≡ None)
or_none None b e = (refl, e)
or_none (Some a) b e = absurd (cc)

one_none : (v : Visible) (w : List ℕ) → find (λ u. same u.name w) (v ∷ []) ≡ None → same v.name w ≡ false
one_none v w e = by (same v.name w) refl
  where
    by : (b : Bool) → same v.name w ≡ b → same v.name w ≡ false
    by false f = f
    by true f = absurd (let there : find (λ u. same u.name w) (v ∷ []) ≡ Some v = ap (λ b. cond b (Some v) None) f in cc)

apart_front : (vs : List Visible) (v : Visible) → AreApart (vs ++ v ∷ []) → AreApart vs × (find (λ u. same u.name v.name) vs ≡ None)
apart_front [] v h = (tt, refl)
apart_front (u ∷ vs) v h =
    let rest = apart_front vs v h.1 in
    let both = or_none (find (λ x. same x.name u.name) vs) (find (λ x. same x.name u.name) (v ∷ [])) (sym (find-append (λ x. same x.name u.name) vs (v ∷ [])) ∙ h.0) in
    let other : same u.name v.name ≡ false = same_turned u.name v.name ∙ one_none v u.name both.1 in
    ((both.0, rest.0), ap (λ b. cond b (Some u) (find (λ x. same x.name v.name) vs)) other ∙ rest.1)

pub found : {A : Type 0} (es : List (String A × Thing)) (w : List ℕ) → AreApart (latest_first es) → option_map thing_seen (lookup (λ k. bytes_eq w (string_bytes k)) es) ≡ thing_in (find (λ v. same v.name w) (latest_first es))
found [] w h = refl
found {A} (e ∷ es) w h = by (found es w (apart_front (latest_first es) (visible_of e) h).0) (same (visible_of e).name w) refl
  where
    front : AreApart (latest_first es) × (find (λ u. same u.name (visible_of e).name) (latest_first es) ≡ None)
    front = apart_front (latest_first es) (visible_of e) h

    split : find (λ v. same v.name w) (latest_first es ++ visible_of e ∷ []) ≡ option_or (find (λ v. same v.name w) (latest_first es)) (find (λ v. same v.name w) (visible_of e ∷ []))
    split = find-append (λ v. same v.name w) (latest_first es) (visible_of e ∷ [])

    by : option_map thing_seen (lookup (λ k. bytes_eq w (string_bytes k)) es) ≡ thing_in (find (λ v. same v.name w) (latest_first es)) → (b : Bool) → same (visible_of e).name w ≡ b → option_map thing_seen (lookup (λ k. bytes_eq w (string_bytes k)) (e ∷ es)) ≡ thing_in (find (λ v. same v.name w) (latest_first (e ∷ es)))
    by before true s =
        let here : bytes_eq w (string_bytes e.0) ≡ true = same_turned w (string_bytes e.0) ∙ s in
        let none : find (λ v. same v.name w) (latest_first es) ≡ None = subst (λ x. find (λ v. same v.name x) (latest_first es) ≡ None) (same_is (visible_of e).name w s) front.1 in
        ap (λ b. option_map thing_seen (cond b (Some e.1) (lookup (λ k. bytes_eq w (string_bytes k)) es))) here
        ∙ sym (ap thing_in (split ∙ ap (λ o. option_or o (find (λ v. same v.name w) (visible_of e ∷ []))) none ∙ ap (λ b. cond b (Some (visible_of e)) None) s))
    by before false s =
        let other : bytes_eq w (string_bytes e.0) ≡ false = same_turned w (string_bytes e.0) ∙ s in
        ap (λ b. option_map thing_seen (cond b (Some e.1) (lookup (λ k. bytes_eq w (string_bytes k)) es))) other
        ∙ before
        ∙ sym (ap thing_in (split ∙ ap (λ b. option_or (find (λ v. same v.name w) (latest_first es)) (cond b (Some (visible_of e)) None)) s ∙ or_nothing (find (λ v. same v.name w) (latest_first es))))
      where
        or_nothing : (o : Option Visible) → option_or o None ≡ o
        or_nothing None = refl
        or_nothing (Some v) = refl

map_none : {A B : Type 0} (f : A → B) (o : Option A) → option_map f o ≡ None → o ≡ None
map_none f None e = refl
map_none f (Some a) e = absurd (cc)

pub absent : {A : Type 0} (es : List (String A × Thing)) (w : List ℕ) → AreApart (latest_first es) → thing_in (find (λ v. same v.name w) (latest_first es)) ≡ None → lookup (λ k. bytes_eq w (string_bytes k)) es ≡ None
absent es w h e = map_none thing_seen _ (found es w h ∙ e)

thing_none : (o : Option Visible) → thing_in o ≡ None → o ≡ None
thing_none None e = refl
thing_none (Some v) e = absurd (cc)

pub still_apart : (v : Visible) (vs : List Visible) → AreApart vs → thing_in (find (λ u. same u.name v.name) vs) ≡ None → AreApart (v ∷ vs)
still_apart v vs h e = (thing_none _ e, h)

counted : (p : Visible → Bool) (v : Visible) (vs : List Visible) → count_by p (v ∷ vs) ≡ count_by p vs + cond (p v) 1 0
counted p v vs = sum_by-cons (λ x. cond (p x) 1 0) v vs ∙ omega arith

pub inserted : {A : Type 0} (es new : List (String A × Thing)) (k : String A) (w : List ℕ) (t : Thing) → string_bytes k ≡ w → AreApart (latest_first es)
    → thing_in (find (λ v. same v.name w) (latest_first es)) ≡ None → new ≡ insert_entry string_eq es k t → latest_first new ≡ record { name = w; thing = thing_seen t } ∷ latest_first es
inserted es new k w t name h none is =
    let free : lookup (string_eq k) es ≡ None = subst (λ x. lookup (λ j. bytes_eq x (string_bytes j)) es ≡ None) (sym name) (absent es w h none) in
    ap latest_first (is ∙ insert_entry-absent string_eq k t es (absent_from_lookup (string_eq k) es free))
    ∙ latest-snoc es (k, t)
    ∙ ap (λ x. with_name x ∷ latest_first es) name
  where
    with_name : List ℕ → Visible
    with_name x = record { name = x; thing = thing_seen t }

pub counted_more : (a b : Inside) (v : Visible) → latest_first b.things.entries ≡ v ∷ latest_first a.things.entries → thing_in (find (λ u. same u.name v.name) (latest_first a.things.entries)) ≡ None
    → b.numbers ≡ a.numbers + cond (is_number_thing v) 1 0 → b.arrays ≡ a.arrays + cond (is_array_thing v) 1 0 → IsCounted a → IsCounted b
counted_more a b v is none numbers arrays h = record {
  apart = subst AreApart (sym is) (still_apart v (latest_first a.things.entries) h.apart none);
  numbers = numbers ∙ ap (λ n. n + cond (is_number_thing v) 1 0) h.numbers ∙ sym (counted is_number_thing v (latest_first a.things.entries)) ∙ ap (count_by is_number_thing) (sym is);
  arrays = arrays ∙ ap (λ n. n + cond (is_array_thing v) 1 0) h.arrays ∙ sym (counted is_array_thing v (latest_first a.things.entries)) ∙ ap (count_by is_array_thing) (sym is);
}

-- the count of a list with a thing that is counted isn't 0
pub one_at_least : (p : Visible → Bool) (v : Visible) (vs all : List Visible) (count : ℕ) → count ≡ count_by p all → all ≡ v ∷ vs → p v ≡ true → 1 ≤ count
one_at_least p v vs all count is here e =
    let n : count_by p all ≡ count_by p vs + 1 = ap (count_by p) here ∙ counted p v vs ∙ ap (λ b. count_by p vs + cond b 1 0) e in
    omega (arith, n, is)
