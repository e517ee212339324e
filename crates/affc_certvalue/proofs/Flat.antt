-- Values without floats that nest only so deep.
use Rattle.affc_certvalue.specs.Values.{list_value, list_of, whole_value, numbers_value, form_value}
use Rattle.affc_rows.specs.Forms.{Affine}
use Rattle.serde_json.specs.Data.{Data, string, object, Members, member, no_members, depth, items_depth, members_depth}
use Rattle.serde_json.specs.View.{items_of}
use Rattle.serde_json.specs.Written.{has_float, items_have_float, members_have_float}
use Rattle.std.proofs.Common.{◌≡◌, ℕ, suc, ◌≤◌, ◌||◌, ℤ, pos, negsuc, false, List, [], ◌∷◌, ◌++◌, map, refl, ap₂, arith}
use Rattle.std.specs.Prelude.{⊤}

abbrev pub IsFlat : ℕ → Data → Type 0
IsFlat k d = (has_float d ≡ false) × (depth d ≤ k)

abbrev pub AllFlat : ℕ → List Data → Type 0
AllFlat k [] = ⊤
AllFlat k (d ∷ ds) = IsFlat k d × AllFlat k ds

items_flat : (k : ℕ) (ds : List Data) → AllFlat k ds → (items_have_float (items_of ds) ≡ false) × (items_depth (items_of ds) ≤ k)
items_flat k [] h = (refl, omega arith)
items_flat k (d ∷ ds) h = let rest = items_flat k ds h.1 in (ap₂ (λ x y. x || y) h.0.0 rest.0, omega (arith, h.0.1, rest.1))

pub list_flat : (k : ℕ) (ds : List Data) → AllFlat k ds → IsFlat (suc k) (list_value ds)
list_flat k ds h = let all = items_flat k ds h in (all.0, omega (arith, all.1))

pub weaker : (j k : ℕ) (d : Data) → j ≤ k → IsFlat j d → IsFlat k d
weaker j k d h f = (f.0, omega (arith, f.1, h))

map_flat : {A : Type 0} (k : ℕ) (f : A → Data) (xs : List A) → ((a : A) → IsFlat k (f a)) → AllFlat k (map f xs)
map_flat k f [] h = tt
map_flat k f (x ∷ xs) h = (h x, map_flat k f xs h)

pub list_of_flat : {A : Type 0} (k : ℕ) (f : A → Data) (xs : List A) → ((a : A) → IsFlat k (f a)) → IsFlat (suc k) (list_of f xs)
list_of_flat k f xs h = list_flat k (map f xs) (map_flat k f xs h)

pub both_flat : (k : ℕ) (ds es : List Data) → AllFlat k ds → AllFlat k es → AllFlat k (ds ++ es)
both_flat k [] es h g = g
both_flat k (d ∷ ds) es h g = (h.0, both_flat k ds es h.1 g)

pub whole_flat : (z : ℤ) → IsFlat 0 (whole_value z)
whole_flat (pos n) = (refl, omega arith)
whole_flat (negsuc n) = (refl, omega arith)

pub string_flat : (k : ℕ) (s : List ℕ) → IsFlat k (string s)
string_flat k s = (refl, omega arith)

pub numbers_flat : (cs : List ℤ) → IsFlat 1 (numbers_value cs)
numbers_flat cs = list_of_flat 0 whole_value cs whole_flat

pub form_flat : (k : ℕ) (f : Affine) → 1 ≤ k → IsFlat k (form_value f)
form_flat k f h = weaker 1 k (form_value f) h (numbers_flat (f.coefs ++ f.constant ∷ []))

pub number_flat : (k : ℕ) (z : ℤ) → IsFlat k (whole_value z)
number_flat k z = weaker 0 k (whole_value z) (omega arith) (whole_flat z)

-- ---- Objects

abbrev AreFlat : ℕ → Members → Type 0
AreFlat k ms = (members_have_float ms ≡ false) × (members_depth ms ≤ k)

pub none_flat : (k : ℕ) → AreFlat k no_members
none_flat k = (refl, omega arith)

pub member_flat : (k : ℕ) (name : List ℕ) (d : Data) (ms : Members) → IsFlat k d → AreFlat k ms → AreFlat k (member name d ms)
member_flat k name d ms h g = (ap₂ (λ x y. x || y) h.0 g.0, omega (arith, h.1, g.1))

pub object_flat : (k : ℕ) (ms : Members) → AreFlat k ms → IsFlat (suc k) (object ms)
object_flat k ms h = (h.0, omega (arith, h.1))
