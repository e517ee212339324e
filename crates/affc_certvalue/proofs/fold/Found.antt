-- What folds are, from what the looks into a value gave.
use Rattle.affc_certvalue.proofs.fold.Keyed.{modulus_names, witness_names, fold_names}
use Rattle.affc_certvalue.specs.fold.Bases.{plain}
use Rattle.affc_certvalue.specs.fold.Entries.{FoldEntry, coefs_of}
use Rattle.affc_certvalue.specs.fold.Values.{matrix_value, clash_value, point_value, least_value, modulus_value, moduli_value, fold_value}
use Rattle.affc_certvalue.specs.declared.fold.fold.CertLeast.{CertLeast}
use Rattle.affc_certvalue.specs.declared.fold.fold.CertModulus.{CertModulus}
use Rattle.affc_certvalue.proofs.Keyed.{with_keys, these}
use Rattle.affc_certvalue.specs.Keys.{has_keys}
use Rattle.affc_certvalue.specs.Values.{whole_value, form_value, numbers_value}
use Rattle.affc_rows.specs.Forms.{Affine}
use Rattle.serde_json.specs.Data.{Data, object, no_members, member}
use Rattle.serde_json.specs.Find.{get}
use Rattle.std.proofs.Common.{◌≡◌, ◌+◌, pos, List, [], ◌∷◌, ◌++◌, length, map, Some, true, codes, refl, sym, ap, ap₂, ◌∙◌, arith, add-one}
use Rattle.std.proofs.lemmas.List.{map_more}
use Rattle.std.proofs.lemmas.Option.{same_Some}

-- ---- Rows without constants

plain_append : (xs : List Affine) (f : Affine) → plain (coefs_of (xs ++ f ∷ [])) ≡ plain (coefs_of xs) ++ record { coefs = f.coefs; constant = pos 0 } ∷ []
plain_append [] f = refl
plain_append (x ∷ xs) f = ap (λ fs. record { coefs = x.coefs; constant = pos 0 } ∷ fs) (plain_append xs f)

pub plain_form : (f : Affine) → f.constant ≡ pos 0 → f ≡ record { coefs = f.coefs; constant = pos 0 }
plain_form f h = ap (λ z. record { coefs = f.coefs; constant = z }) h

pub plain_more : (xs : List Affine) (f : Affine) → xs ≡ plain (coefs_of xs) → f.constant ≡ pos 0 → xs ++ f ∷ [] ≡ plain (coefs_of (xs ++ f ∷ []))
plain_more xs f e h = ap₂ (λ fs g. fs ++ g ∷ []) e (plain_form f h) ∙ sym (plain_append xs f)

pub twice_more : {A B C : Type 0} (f : B → C) (g : A → B) (xs : List A) (x : A) → map f (map g (xs ++ x ∷ [])) ≡ map f (map g xs) ++ f (g x) ∷ []
twice_more f g [] x = refl
twice_more f g (y ∷ xs) x = ap (λ fs. f (g y) ∷ fs) (twice_more f g xs x)

pub ruleset row_steps = (plain_more, twice_more, map_more, add-one)

pub ruleset draft_steps = (twice_more, map_more, add-one)

-- ---- Objects

modulus_of : (ds : List Data) (a b : Data) → length ds ≡ 2 → Some a ≡ get (codes "form") (object (with_keys modulus_names ds)) → Some b ≡ get (codes "least") (object (with_keys modulus_names ds))
    → object (member (codes "form") a (member (codes "least") b no_members)) ≡ object (with_keys modulus_names ds)
modulus_of [] a b h e f = absurd (omega arith)
modulus_of (x ∷ []) a b h e f = absurd (omega arith)
modulus_of (x ∷ y ∷ []) a b h e f = ap₂ (λ p q. object (member (codes "form") p (member (codes "least") q no_members))) (same_Some _ _ e) (same_Some _ _ f)
modulus_of (x ∷ y ∷ z ∷ ds) a b h e f = absurd (omega arith)

modulus_object : (d a b : Data) → has_keys modulus_names d ≡ true → Some a ≡ get (codes "form") d → Some b ≡ get (codes "least") d → object (member (codes "form") a (member (codes "least") b no_members)) ≡ d
modulus_object d a b k e f =
    let under = these modulus_names d k in
    modulus_of under.0 a b under.1 (e ∙ ap (get (codes "form")) under.2) (f ∙ ap (get (codes "least")) under.2) ∙ sym under.2

pub is_modulus : (m : CertModulus) (d a b : Data) → has_keys modulus_names d ≡ true → Some a ≡ get (codes "form") d → Some b ≡ get (codes "least") d → form_value m.form ≡ a → least_value m.least ≡ b → modulus_value m ≡ d
is_modulus m d a b k e f g h = ap₂ (λ p q. object (member (codes "form") p (member (codes "least") q no_members))) g h ∙ modulus_object d a b k e f

witness_of : (ds : List Data) (a b c : Data) → length ds ≡ 3 → Some a ≡ get (codes "clash") (object (with_keys witness_names ds)) → Some b ≡ get (codes "p") (object (with_keys witness_names ds))
    → Some c ≡ get (codes "point") (object (with_keys witness_names ds))
    → object (member (codes "clash") a (member (codes "p") b (member (codes "point") c no_members))) ≡ object (with_keys witness_names ds)
witness_of [] a b c h e f g = absurd (omega arith)
witness_of (x ∷ []) a b c h e f g = absurd (omega arith)
witness_of (x ∷ y ∷ []) a b c h e f g = absurd (omega arith)
witness_of (x ∷ y ∷ z ∷ []) a b c h e f g = rw (same_Some _ _ e, same_Some _ _ f, same_Some _ _ g) refl
witness_of (x ∷ y ∷ z ∷ w ∷ ds) a b c h e f g = absurd (omega arith)

pub is_witness : (l : CertLeast) (d a b c : Data) → has_keys witness_names d ≡ true → Some a ≡ get (codes "clash") d → Some b ≡ get (codes "p") d → Some c ≡ get (codes "point") d
    → clash_value l.pair ≡ a → numbers_value l.p ≡ b → point_value l.pair ≡ c → least_value (Some l) ≡ d
is_witness l d a b c k e f g u v w =
    let under = these witness_names d k in
    rw (u, v, w) (witness_of under.0 a b c under.1 (e ∙ ap (get (codes "clash")) under.2) (f ∙ ap (get (codes "p")) under.2) (g ∙ ap (get (codes "point")) under.2) ∙ sym under.2)

fold_of : (ds : List Data) (a b c x : Data) → length ds ≡ 4 → Some a ≡ get (codes "array") (object (with_keys fold_names ds)) → Some b ≡ get (codes "inverse") (object (with_keys fold_names ds))
    → Some c ≡ get (codes "moduli") (object (with_keys fold_names ds)) → Some x ≡ get (codes "rows") (object (with_keys fold_names ds))
    → object (member (codes "array") a (member (codes "inverse") b (member (codes "moduli") c (member (codes "rows") x no_members)))) ≡ object (with_keys fold_names ds)
fold_of [] a b c x h e f g i = absurd (omega arith)
fold_of (p ∷ []) a b c x h e f g i = absurd (omega arith)
fold_of (p ∷ q ∷ []) a b c x h e f g i = absurd (omega arith)
fold_of (p ∷ q ∷ r ∷ []) a b c x h e f g i = absurd (omega arith)
fold_of (p ∷ q ∷ r ∷ s ∷ []) a b c x h e f g i = rw (same_Some _ _ e, same_Some _ _ f, same_Some _ _ g, same_Some _ _ i) refl
fold_of (p ∷ q ∷ r ∷ s ∷ t ∷ ds) a b c x h e f g i = absurd (omega arith)

pub is_fold : (f : FoldEntry) (d a b c x : Data) → has_keys fold_names d ≡ true → Some a ≡ get (codes "array") d → Some b ≡ get (codes "inverse") d → Some c ≡ get (codes "moduli") d → Some x ≡ get (codes "rows") d
    → whole_value (pos f.array) ≡ a → matrix_value f.inverse ≡ b → moduli_value f.moduli ≡ c → matrix_value f.rows ≡ x → fold_value f ≡ d
is_fold f d a b c x k e g h i u v w y =
    let under = these fold_names d k in
    rw (u, v, w, y)
    (fold_of under.0 a b c x under.1 (e ∙ ap (get (codes "array")) under.2) (g ∙ ap (get (codes "inverse")) under.2) (h ∙ ap (get (codes "moduli")) under.2) (i ∙ ap (get (codes "rows")) under.2) ∙ sym under.2)

pub ruleset objects_found = (is_modulus, is_witness, is_fold)
