-- What a value is, from what the looks into it gave.
use Rattle.affc_certvalue.specs.Values.{whole_value, list_value, numbers_value, form_value}
use Rattle.affc_rows.specs.Forms.{Affine}
use Rattle.serde_json.specs.Data.{Num, unsigned, negative, float, Data, null, boolean, number, string, array, object, Items}
use Rattle.serde_json.specs.Find.{as_number, as_i64, as_u64, as_array, of_integer}
use Rattle.serde_json.specs.View.{view, items_view}
use Rattle.serde_json.specs.declared.value.Value.{Value}
use Rattle.std.proofs.Common.{◌≡◌, ℕ, zero, suc, ◌+◌, ◌-◌, ◌<◌, ℤ, pos, negsuc, ◌<ℤ◌, List, [], ◌∷◌, ◌++◌, length, get_or, take, map, Some, None, refl, sym, ap, ap₂, ◌∙◌, arith, add-one}
use Rattle.std.proofs.lemmas.List.{map_more}

pub is_array : (d : Data) (ds : Items) → Some ds ≡ as_array d → array ds ≡ d
is_array null ds e = absurd (cc)
is_array (boolean b) ds e = absurd (cc)
is_array (number n) ds e = absurd (cc)
is_array (string s) ds e = absurd (cc)
is_array (array es) ds e = cc
is_array (object ms) ds e = absurd (cc)

pub is_number : (d : Data) (n : Num) → Some n ≡ as_number d → number n ≡ d
is_number null n e = absurd (cc)
is_number (boolean b) n e = absurd (cc)
is_number (number m) n e = cc
is_number (string s) n e = absurd (cc)
is_number (array ds) n e = absurd (cc)
is_number (object ms) n e = absurd (cc)

pub is_unsigned : (n : Num) (k : ℕ) → Some k ≡ as_u64 n → unsigned k ≡ n
is_unsigned (unsigned m) k e = cc
is_unsigned (negative z) k e = absurd (cc)
is_unsigned (float x) k e = absurd (cc)

pub is_negative : (n : Num) (z : ℤ) → None ≡ as_u64 n → Some z ≡ as_i64 n → z <ℤ pos 0 → of_integer z ≡ n
is_negative (unsigned m) z e f h = absurd (cc)
is_negative (negative y) (pos k) e f h = absurd (grind (arith, h))
is_negative (negative y) (negsuc k) e f h = cc
is_negative (float x) z e f h = absurd (cc)

pub ruleset number_steps = (is_number, is_unsigned, is_negative)

pub ruleset map_steps = (map_more, add-one)

-- a list that is an array's, value by value
pub is_list : (d : Data) (vs : List Value) (ds : List Data) → Some (items_view vs) ≡ as_array d → ds ≡ map view vs → list_value ds ≡ d
is_list d vs ds e f = ap list_value f ∙ is_array d (items_view vs) e

front_and_last : (vs : List Value) (n : ℕ) (d : Value) → length vs ≡ suc n → map view vs ≡ map view (take n vs) ++ view (get_or vs n d) ∷ []
front_and_last [] n d h = absurd (omega arith)
front_and_last (a ∷ []) zero d h = refl
front_and_last (a ∷ []) (suc n) d h = absurd (omega arith)
front_and_last (a ∷ b ∷ vs) zero d h = absurd (omega arith)
front_and_last (a ∷ b ∷ vs) (suc n) d h = ap (λ ds. view a ∷ ds) (front_and_last (b ∷ vs) n d (omega arith))

map_last : (cs : List ℤ) (k : ℤ) → map whole_value (cs ++ k ∷ []) ≡ map whole_value cs ++ whole_value k ∷ []
map_last [] k = refl
map_last (c ∷ cs) k = ap (λ ds. whole_value c ∷ ds) (map_last cs k)

pub is_form : (f : Affine) (d : Data) (vs : List Value) (v : Value) → Some (items_view vs) ≡ as_array d → 0 < length vs → map whole_value f.coefs ≡ map view (take (length vs - 1) vs)
    → whole_value f.constant ≡ view (get_or vs (length vs - 1) v) → form_value f ≡ d
is_form f d vs v e some front last =
    is_list d vs (map whole_value (f.coefs ++ f.constant ∷ [])) e
    (map_last f.coefs f.constant ∙ ap₂ (λ ds x. ds ++ x ∷ []) front last ∙ sym (front_and_last vs (length vs - 1) v (omega arith)))

pub is_coefs : (cs : List ℤ) (d : Data) (vs : List Value) → Some (items_view vs) ≡ as_array d → map whole_value cs ≡ map view vs → numbers_value cs ≡ d
is_coefs cs d vs e f = is_list d vs (map whole_value cs) e f

pub ruleset form_steps = (is_form, is_coefs)
