-- Objects with exactly these keys: what stands under each.
use Rattle.affc_certvalue.proofs.Steps.{worse_shape}
use Rattle.affc_certvalue.specs.Keys.{are_keys, has_keys}
use Rattle.affc_certvalue.specs.Verdicts.{worse, keyed, members}
use Rattle.affc_certvalue.specs.declared.verdict.Verdict.{Verdict}
use Rattle.affc_certvalue.specs.declared.verdict.Verdict.TheVariants.{Shape}
use Rattle.serde_json.proofs.Views.{Entry}
use Rattle.serde_json.specs.Data.{Data, null, boolean, number, string, array, object, Members, no_members, member}
use Rattle.serde_json.specs.View.{members_view}
use Rattle.std.proofs.Common.{◌≡◌, ℕ, zero, suc, ◌-◌, ◌<◌, ◌≤◌, nat_eq, List, [], ◌∷◌, length, get_or, take, drop, map, Bor, string_bytes, Bool, true, false, ◌&&◌, true≢false, if◌then◌else◌, bytes_eq, take_all, refl, sym, ap, ap₂, ◌∙◌, arith}
use Rattle.std.proofs.Math.Dec.{eqb-suc-zero}
use Rattle.std.proofs.lemmas.Slice.Eq.{bytes_eq-Decides}

-- ---- Key by key

abbrev texts : List (Bor (List ℕ)) → List (List ℕ)
texts ks = map (λ k. k.now) ks

front : (ks : List (Bor (List ℕ))) (d : Bor (List ℕ)) → 1 ≤ length ks → ks ≡ get_or ks 0 d ∷ take (length ks - 1) (drop 1 ks)
front [] d h = absurd (omega (arith, h))
front (k ∷ ks) d h = let n : length (k ∷ ks) - 1 ≡ length ks = omega arith in rw n (ap (λ xs. k ∷ xs) (sym (take_all (length ks) ks (omega arith))))

step_by : (ks : List (List ℕ)) (k : List ℕ) (rest : List (List ℕ)) (es : List Entry) (e : Entry) (left : List Entry) (b : Bool) → ks ≡ k ∷ rest → es ≡ e ∷ left → bytes_eq (string_bytes e.0) k ≡ b
    → are_keys ks (members_view es) ≡ (b && are_keys rest (members_view left))
step_by ks k rest es e left b h g w = rw (h, g) (ap (λ x. x && are_keys rest (members_view left)) w)

pub keys_many : (ks : List (Bor (List ℕ))) (es : List Entry) (e : Entry) (left : List Entry) → es ≡ e ∷ left → length ks < 1 → are_keys (texts ks) (members_view es) ≡ false
keys_many [] es e left h n = rw h refl
keys_many (k ∷ ks) es e left h n = absurd (omega (arith, n))

pub keys_other : (ks : List (Bor (List ℕ))) (d : Bor (List ℕ)) (es : List Entry) (e : Entry) (left : List Entry) → es ≡ e ∷ left → 1 ≤ length ks → bytes_eq (string_bytes e.0) (get_or ks 0 d).now ≡ false
    → are_keys (texts ks) (members_view es) ≡ false
keys_other ks d es e left g h w = step_by (texts ks) (get_or ks 0 d).now (texts (take (length ks - 1) (drop 1 ks))) es e left false (ap texts (front ks d h)) g w

pub keys_same : (ks : List (Bor (List ℕ))) (d : Bor (List ℕ)) (es : List Entry) (e : Entry) (left : List Entry) → es ≡ e ∷ left → 1 ≤ length ks → bytes_eq (string_bytes e.0) (get_or ks 0 d).now ≡ true
    → are_keys (texts ks) (members_view es) ≡ are_keys (texts (take (length ks - 1) (drop 1 ks))) (members_view left)
keys_same ks d es e left g h w = step_by (texts ks) (get_or ks 0 d).now (texts (take (length ks - 1) (drop 1 ks))) es e left true (ap texts (front ks d h)) g w

pub keys_done : (ks : List (Bor (List ℕ))) (es : List Entry) → es ≡ [] → are_keys (texts ks) (members_view es) ≡ nat_eq (length ks) 0
keys_done [] es g = rw g refl
keys_done (k ∷ ks) es g = rw g (sym (eqb-suc-zero (length ks)))

pub ruleset key_steps = (keys_many, keys_other, keys_same, keys_done)

abbrev pub Field : Type 0
Field = List ℕ × (Data → Verdict)

abbrev keys_of : List Field → List (List ℕ)
keys_of parts = map (λ p. p.0) parts

-- ---- Other keys

unkeyed_by : (b : Bool) (v rest : Verdict) (more : Bool) → (b && more) ≡ false → (more ≡ false → rest ≡ Shape) → (if b then worse v rest else Shape) ≡ Shape
unkeyed_by true v rest more e h = ap (worse v) (h e) ∙ worse_shape v
unkeyed_by false v rest more e h = refl

unkeyed : (parts : List Field) (ms : Members) → are_keys (keys_of parts) ms ≡ false → keyed parts ms ≡ Shape
unkeyed [] no_members e = absurd (true≢false e)
unkeyed [] (member l d ms) e = refl
unkeyed (p ∷ ps) no_members e = refl
unkeyed (p ∷ ps) (member l d ms) e = unkeyed_by (bytes_eq l p.0) (p.1 d) (keyed ps ms) (are_keys (keys_of ps) ms) e (unkeyed ps ms)

pub other_keys : (parts : List Field) (d : Data) → has_keys (keys_of parts) d ≡ false → members parts d ≡ Shape
other_keys parts null e = refl
other_keys parts (boolean b) e = refl
other_keys parts (number n) e = refl
other_keys parts (string s) e = refl
other_keys parts (array ds) e = refl
other_keys parts (object ms) e = unkeyed parts ms e

-- ---- These keys

abbrev pub with_keys : List (List ℕ) → List Data → Members
with_keys [] ds = no_members
with_keys (k ∷ ks) [] = no_members
with_keys (k ∷ ks) (d ∷ ds) = member k d (with_keys ks ds)

both : (a b : Bool) → (a && b) ≡ true → (a ≡ true) × (b ≡ true)
both true b e = (refl, e)
both false b e = absurd (true≢false (sym e))

abbrev IsWith : List (List ℕ) → Members → Type 0
IsWith ks ms = (ds : List Data) × (length ds ≡ length ks) × (ms ≡ with_keys ks ds)

with_these : (ks : List (List ℕ)) (ms : Members) → are_keys ks ms ≡ true → IsWith ks ms
with_these [] no_members e = ([], refl, refl)
with_these [] (member l d ms) e = absurd (true≢false (sym e))
with_these (k ∷ ks) no_members e = absurd (true≢false (sym e))
with_these (k ∷ ks) (member l d ms) e =
    let h = both (bytes_eq l k) (are_keys ks ms) e in
    let rest = with_these ks ms h.1 in
    (d ∷ rest.0, ap suc rest.1, ap₂ (λ x y. member x d y) ((bytes_eq-Decides l k).0 h.0) rest.2)

abbrev pub AreUnder : List (List ℕ) → Data → Type 0
AreUnder ks d = (ds : List Data) × (length ds ≡ length ks) × (d ≡ object (with_keys ks ds))

pub these : (ks : List (List ℕ)) (d : Data) → has_keys ks d ≡ true → AreUnder ks d
these ks null e = absurd (true≢false (sym e))
these ks (boolean b) e = absurd (true≢false (sym e))
these ks (number n) e = absurd (true≢false (sym e))
these ks (string s) e = absurd (true≢false (sym e))
these ks (array ds) e = absurd (true≢false (sym e))
these ks (object ms) e = let h = with_these ks ms e in (h.0, h.1, ap object h.2)
