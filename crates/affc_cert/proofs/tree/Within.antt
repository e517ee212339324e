-- Trees that have nothing wrong are those within the limits.
use Rattle.affc_cert.specs.tree.Within.{NamesStores, IsTreeWithin}
use Rattle.affc_cert.specs.tree.Trees.{tree_form, forms, loops_at, source_at, source_by, path, deeper, tree_node, tree_nodes, tree}
use Rattle.affc_cert.specs.tree.Values.{test_node, div_node, source_node, input_node, tree_nodes_of, tree_value}
use Rattle.affc_cert.specs.declared.tree.kind.Place.{Place}
use Rattle.affc_cert.specs.declared.tree.layout.Load.{Load}
use Rattle.affc_cert.specs.declared.tree.layout.Store.{Store}
use Rattle.affc_certvalue.proofs.Within.{both_are, between_fine, between_is, many_fine, many_are, over_fine, over_is}
use Rattle.affc_certvalue.specs.Limits.{IsWord}
use Rattle.affc_certvalue.specs.Values.{list_value, whole_value, form_value, forms_value}
use Rattle.affc_certvalue.specs.Verdicts.{worse, whole, list, many}
use Rattle.affc_certvalue.specs.declared.verdict.Verdict.{Verdict}
use Rattle.affc_certvalue.specs.declared.verdict.Verdict.TheVariants.{Shape, Number, Fine}
use Rattle.affc_quast.specs.Limits.{Shaped, FitsForm, FitsTree, widest}
use Rattle.affc_quast.specs.Trees.{Tree, Test, Div, Source, Input, depth_of}
use Rattle.affc_rows.specs.Forms.{Affine, HaveColumns}
use Rattle.serde_json.specs.Data.{Data}
use Rattle.serde_json.specs.View.{items_of}
use Rattle.std.proofs.Common.{◌≡◌, ℕ, zero, suc, ◌+◌, ◌^◌, ◌<◌, ◌≤◌, ℤ, pos, negsuc, ◌≤ℤ◌, unsigned_abs, Bool, true, false, List, [], ◌∷◌, ◌++◌, length, map, Option, Some, None, if◌then◌else◌, nat_lt, refl, sym, ap, ap₂, ◌∙◌, subst, arith, lt-ltb, append-nil, append_assoc}
use Rattle.std.proofs.lemmas.Bool.{ltb-true}
use Rattle.std.proofs.lemmas.Int.{ints}
use Rattle.std.specs.List.{All}

-- ---- Forms

abbrev IsFormOver : ℕ → Affine → Type 0
IsFormOver columns f = (length f.coefs ≡ columns) × FitsForm widest f

tree_form_fine : (columns : ℕ) (f : Affine) → IsFormOver columns f → list (tree_form columns) (form_value f) ≡ Fine
tree_form_fine columns f h = over_fine columns 16777216 1125899906842624 f (omega arith) (omega arith) (h.0, record { coefs = h.1.coefs_fit; constant = h.1.constant_fits })

tree_form_is : (columns : ℕ) (f : Affine) → list (tree_form columns) (form_value f) ≡ Fine → IsFormOver columns f
tree_form_is columns f e = let found = over_is columns 16777216 1125899906842624 f e in (found.0, record { coefs_fit = found.1.coefs; constant_fits = found.1.constant })

-- ---- Paths

path_fine : (inner : ℕ) → inner < 400 → path inner ≡ Fine
path_fine inner h = rw (lt-ltb inner 400 h) refl

path_by : (b : Bool) → (if b then Fine else Number) ≡ Fine → b ≡ true
path_by true e = refl
path_by false e = absurd (cc)

path_is : (inner : ℕ) → path inner ≡ Fine → inner < 400
path_is inner e = ltb-true inner 400 (path_by (nat_lt inner 400) e)

-- ---- Tests

test_fine : (ss : List Store) (place : Place) (f : Affine) → place.inner < 400 → IsFormOver place.columns f → list (tree_node ss place) (test_node f) ≡ Fine
test_fine ss place f k h = ap₂ (λ x y. worse x (worse y Fine)) (path_fine place.inner k) (tree_form_fine place.columns f h)

abbrev IsTest : Place → Affine → Type 0
IsTest place f = (place.inner < 400) × IsFormOver place.columns f

test_is : (ss : List Store) (place : Place) (f : Affine) → list (tree_node ss place) (test_node f) ≡ Fine → IsTest place f
test_is ss place f e =
    let form = list (tree_form place.columns) (form_value f) in
    let two = both_are (path place.inner) (worse form Fine) e in
    (path_is place.inner two.0, tree_form_is place.columns f (both_are form Fine two.1).0)

-- ---- Divisions

abbrev IsDivisor : ℤ → Type 0
IsDivisor by = (pos 1 ≤ℤ by) × (by ≤ℤ pos (2 ^ 24))

order_is : (m n : ℕ) → pos m ≤ℤ pos n → m ≤ n
order_is m n h = omega (arith, ints)

ordered : (m n : ℕ) → m ≤ n → pos m ≤ℤ pos n
ordered m n h = omega (arith, ints)

never : (n : ℕ) → pos 1 ≤ℤ negsuc n → ⊥
never n h = omega (arith, ints)

by_fine : (by : ℤ) → IsDivisor by → whole (pos 1) (pos 16777216) (whole_value by) ≡ Fine
by_fine (pos n) h = between_fine 1 16777216 n (omega arith) (order_is 1 n h.0) (order_is n 16777216 h.1)
by_fine (negsuc n) h = absurd (never n h.0)

by_is : (by : ℤ) → whole (pos 1) (pos 16777216) (whole_value by) ≡ Fine → IsDivisor by
by_is (pos n) e = let found = between_is 1 16777216 n e in (ordered 1 n found.0, ordered n 16777216 found.1)
by_is (negsuc n) e = absurd (cc)

div_fine : (ss : List Store) (place : Place) (f : Affine) (by : ℤ) → place.inner < 400 → IsFormOver place.columns f → IsDivisor by → list (tree_node ss place) (div_node f by) ≡ Fine
div_fine ss place f by k h d = ap₂ worse (path_fine place.inner k) (ap₂ (λ x y. worse x (worse y Fine)) (tree_form_fine place.columns f h) (by_fine by d))

abbrev IsDiv : Place → Affine → ℤ → Type 0
IsDiv place f by = (place.inner < 400) × IsFormOver place.columns f × IsDivisor by

div_is : (ss : List Store) (place : Place) (f : Affine) (by : ℤ) → list (tree_node ss place) (div_node f by) ≡ Fine → IsDiv place f by
div_is ss place f by e =
    let form = list (tree_form place.columns) (form_value f) in
    let divisor = whole (pos 1) (pos 16777216) (whole_value by) in
    let two = both_are (path place.inner) (worse form (worse divisor Fine)) e in
    let rest = both_are form (worse divisor Fine) two.1 in
    (path_is place.inner two.0, tree_form_is place.columns f rest.0, by_is by (both_are divisor Fine rest.1).0)

-- ---- Leaves

forms_over : (columns : ℕ) (fs : List Affine) → HaveColumns columns fs → All (FitsForm widest) fs → All (IsFormOver columns) fs
forms_over columns fs h s = λ k d less. (h k d less, s k d less)

source_fine : (ss : List Store) (place : Place) (s : ℕ) (fs : List Affine) → IsWord (pos s) → loops_at s ss ≡ Some (length fs) → All (IsFormOver place.columns) fs → list (tree_node ss place) (source_node s fs) ≡ Fine
source_fine ss place s fs small e h =
    rw (lt-ltb s (2 ^ 63) (omega (arith, small)), e) (many_fine (length fs) (list (tree_form place.columns)) form_value (IsFormOver place.columns) (tree_form_fine place.columns) fs refl h)

abbrev IsNamed : Option ℕ → ℕ → List Affine → Type 0
IsNamed loops columns fs = (loops ≡ Some (length fs)) × All (IsFormOver columns) fs

source_at_is : (loops : Option ℕ) (columns : ℕ) (fs : List Affine) → source_at loops columns (forms_value fs) ≡ Fine → IsNamed loops columns fs
source_at_is None columns fs e = absurd (cc)
source_at_is (Some n) columns fs e =
    let found = many_are n (list (tree_form columns)) form_value (IsFormOver columns) (tree_form_is columns) fs e in
    (ap Some (sym found.0), found.1)

abbrev IsSource : List Store → Bool → ℕ → ℕ → List Affine → Type 0
IsSource ss b columns s fs = (b ≡ true) × IsNamed (loops_at s ss) columns fs

source_by_is : (ss : List Store) (columns : ℕ) (b : Bool) (s : ℕ) (fs : List Affine) → source_by ss columns (if b then Some (pos s) else None) (forms_value fs) ≡ Fine → IsSource ss b columns s fs
source_by_is ss columns true s fs e = (refl, source_at_is (loops_at s ss) columns fs e)
source_by_is ss columns false s fs e = let bad : Number ≡ Fine = (both_are Number (list (forms columns) (forms_value fs)) e).0 in absurd (cc)

source_is : (ss : List Store) (place : Place) (s : ℕ) (fs : List Affine) → list (tree_node ss place) (source_node s fs) ≡ Fine → IsSource ss (nat_lt s (2 ^ 63)) place.columns s fs
source_is ss place s fs e = source_by_is ss place.columns (nat_lt s (2 ^ 63)) s fs e

word_of : (s : ℕ) → nat_lt s (2 ^ 63) ≡ true → IsWord (pos s)
word_of s e = let less = ltb-true s (2 ^ 63) e in omega (arith, less)

-- ---- Trees

columns_kept : (place : Place) (t : Tree) → Shaped place.columns t → Shaped (deeper 0 place).columns t
columns_kept place t h = let none : place.columns ≡ place.columns + 0 = omega arith in subst (λ n. Shaped n t) none h

columns_back : (place : Place) (t : Tree) → Shaped (deeper 0 place).columns t → Shaped place.columns t
columns_back place t h = let none : place.columns + 0 ≡ place.columns = omega arith in subst (λ n. Shaped n t) none h

column_more : (place : Place) (t : Tree) → Shaped (suc place.columns) t → Shaped (deeper 1 place).columns t
column_more place t h = let one : suc place.columns ≡ place.columns + 1 = omega arith in subst (λ n. Shaped n t) one h

column_back : (place : Place) (t : Tree) → Shaped (deeper 1 place).columns t → Shaped (suc place.columns) t
column_back place t h = let one : place.columns + 1 ≡ suc place.columns = omega arith in subst (λ n. Shaped n t) one h

-- below so many columns and inner nodes
abbrev IsBelow : List Store → Place → Tree → Type 0
IsBelow ss place t = Shaped place.columns t × FitsTree widest t × (place.inner + depth_of t ≤ 400) × NamesStores ss t

-- the nodes of a tree within the limits take the place that is open
nodes_fine : (t : Tree) (ss : List Store) (place : Place) → IsBelow ss place t → (places : List Place) (more : List Data)
    → tree_nodes ss (place ∷ places) (items_of (tree_nodes_of t ++ more)) ≡ tree_nodes ss places (items_of more)
nodes_fine (Test f on off) ss place h places more =
    let short : place.inner < 400 = omega (arith, h.2) in
    let first : (deeper 0 place).inner + depth_of on ≤ 400 = omega (arith, h.2) in
    let second : (deeper 0 place).inner + depth_of off ≤ 400 = omega (arith, h.2) in
    ap (λ v. worse v (tree_nodes ss (deeper 0 place ∷ deeper 0 place ∷ places) (items_of ((tree_nodes_of on ++ tree_nodes_of off) ++ more)))) (test_fine ss place f short (h.0.0, h.1.0))
    ∙ ap (λ ds. tree_nodes ss (deeper 0 place ∷ deeper 0 place ∷ places) (items_of ds)) (append_assoc (tree_nodes_of on) (tree_nodes_of off) more)
    ∙ nodes_fine on ss (deeper 0 place) (columns_kept place on h.0.1, h.1.1, first, h.3.0) (deeper 0 place ∷ places) (tree_nodes_of off ++ more)
    ∙ nodes_fine off ss (deeper 0 place) (columns_kept place off h.0.2, h.1.2, second, h.3.1) places more
nodes_fine (Div f by rest) ss place h places more =
    let short : place.inner < 400 = omega (arith, h.2) in
    let below : (deeper 1 place).inner + depth_of rest ≤ 400 = omega (arith, h.2) in
    ap (λ v. worse v (tree_nodes ss (deeper 1 place ∷ places) (items_of (tree_nodes_of rest ++ more)))) (div_fine ss place f by short (h.0.0, h.1.0) (h.0.1, h.1.1))
    ∙ nodes_fine rest ss (deeper 1 place) (column_more place rest h.0.2, h.1.2, below, h.3) places more
nodes_fine (Source s fs) ss place h places more = ap (λ v. worse v (tree_nodes ss places (items_of more))) (source_fine ss place s fs h.3.0 h.3.1 (forms_over place.columns fs h.0 h.1))
nodes_fine Input ss place h places more = refl

abbrev IsFound : List Store → Place → Tree → List Place → List Data → Type 0
IsFound ss place t places more = IsBelow ss place t × (tree_nodes ss places (items_of more) ≡ Fine)

nodes_are : (t : Tree) (ss : List Store) (place : Place) → place.inner ≤ 400 → (places : List Place) (more : List Data)
    → tree_nodes ss (place ∷ places) (items_of (tree_nodes_of t ++ more)) ≡ Fine → IsFound ss place t places more
nodes_are (Test f on off) ss place k places more e =
    let behind = tree_nodes ss (deeper 0 place ∷ deeper 0 place ∷ places) (items_of ((tree_nodes_of on ++ tree_nodes_of off) ++ more)) in
    let two = both_are (list (tree_node ss place) (test_node f)) behind e in
    let here = test_is ss place f two.0 in
    let short : (deeper 0 place).inner ≤ 400 = omega (arith, here.0) in
    let rest = ap (λ ds. tree_nodes ss (deeper 0 place ∷ deeper 0 place ∷ places) (items_of ds)) (sym (append_assoc (tree_nodes_of on) (tree_nodes_of off) more)) ∙ two.1 in
    let first = nodes_are on ss (deeper 0 place) short (deeper 0 place ∷ places) (tree_nodes_of off ++ more) rest in
    let second = nodes_are off ss (deeper 0 place) short places more first.1 in
    let deep : place.inner + depth_of (Test f on off) ≤ 400 = omega (arith, first.0.2, second.0.2) in
    (((here.1.0, columns_back place on first.0.0, columns_back place off second.0.0), (here.1.1, first.0.1, second.0.1), deep, (first.0.3, second.0.3)), second.1)
nodes_are (Div f by rest) ss place k places more e =
    let behind = tree_nodes ss (deeper 1 place ∷ places) (items_of (tree_nodes_of rest ++ more)) in
    let two = both_are (list (tree_node ss place) (div_node f by)) behind e in
    let here = div_is ss place f by two.0 in
    let short : (deeper 1 place).inner ≤ 400 = omega (arith, here.0) in
    let below = nodes_are rest ss (deeper 1 place) short places more two.1 in
    let deep : place.inner + depth_of (Div f by rest) ≤ 400 = omega (arith, below.0.2) in
    (((here.1.0, here.2.0, column_back place rest below.0.0), (here.1.1, here.2.1, below.0.1), deep, below.0.3), below.1)
nodes_are (Source s fs) ss place k places more e =
    let two = both_are (list (tree_node ss place) (source_node s fs)) (tree_nodes ss places (items_of more)) e in
    let here = source_is ss place s fs two.0 in
    let deep : place.inner + depth_of (Source s fs) ≤ 400 = omega (arith, k) in
    (((λ i d less. (here.1.1 i d less).0), (λ i d less. (here.1.1 i d less).1), deep, (word_of s here.0, here.1.0)), two.1)
nodes_are Input ss place k places more e =
    let deep : place.inner + depth_of Input ≤ 400 = omega (arith, k) in
    ((tt, tt, deep, tt), (both_are (list (tree_node ss place) input_node) (tree_nodes ss places (items_of more)) e).1)

abbrev root : Load → Place
root load = record { columns = load.columns; inner = 0 }

pub tree_fine : (load : Load) (t : Tree) → IsTreeWithin load t → tree load (tree_value t) ≡ Fine
tree_fine load t h =
    let short : 0 + depth_of t ≤ 400 = omega (arith, h.short) in
    ap (λ ds. tree_nodes load.stores (root load ∷ []) (items_of ds)) (sym (append-nil (tree_nodes_of t))) ∙ nodes_fine t load.stores (root load) (h.shaped, h.fits, short, h.named) [] []

pub tree_is : (load : Load) (t : Tree) → tree load (tree_value t) ≡ Fine → IsTreeWithin load t
tree_is load t e =
    let found = nodes_are t load.stores (root load) (omega arith) [] [] (ap (λ ds. tree_nodes load.stores (root load ∷ []) (items_of ds)) (append-nil (tree_nodes_of t)) ∙ e) in
    record { shaped = found.0.0; fits = found.0.1; short = omega (arith, found.0.2); named = found.0.3 }
