-- Paths that come back as they were, and the leaves behind them.
use Rattle.std.proofs.Common.{◌≡◌, ℕ, suc, ◌+◌, ◌-◌, ◌<◌, ◌≤◌, ℤ, List, [], ◌∷◌, ◌++◌, map, flat_map, None, Some, Option, length, refl, sym, ap, ap₂, subst, arith, ◌∙◌}
use Rattle.std.specs.Prelude.{MatchOption, max}
use Rattle.std.proofs.lemmas.List.{length-append, same_from_push, map-append}
use Rattle.std.proofs.lemmas.List.Concat.{flat_map-append}
use Rattle.affc_rows.specs.Forms.{Affine}
use Rattle.affc_trace.proofs.EndedReads.{append_assoc}
use Rattle.affc_nest.specs.Divisions.{division_rows}
use Rattle.affc_nest.specs.declared.divisions.Division.{Division}
use Rattle.affc_products.proofs.Eaches.{each_left, each_right}
use Rattle.affc_sched.specs.Touched.{Each}
use Rattle.affc_quast.specs.Leaves as seen
use Rattle.affc_quast.specs.Leaves.{negated, leaves_of}
use Rattle.affc_quast.specs.Limits.{Shaped, FitsTree, widest}
use Rattle.affc_quast.specs.SeenLeaves.{division_seen}
use Rattle.affc_quast.specs.Trees.{Tree, Test, Div, depth_of, divisions_of}
use Rattle.affc_quast.specs.declared.leaves.Leaf.{Leaf}
use Rattle.affc_quast.proofs.PathLemmas.{test_made, division_made, leaves_made}
use Rattle.affc_life.specs.Paths.{at_root, with_row, with_named, leaves_under, IsDivided}

-- ---- What was put behind

-- the last of a list is taken
pub taken : {A : Type 0} (old new front : List A) (last : A) (o : Option A) → MatchOption o ((old ≡ []) × (new ≡ [])) (λ x. old ≡ new ++ x ∷ []) → old ≡ front ++ last ∷ [] → new ≡ front
taken old new front last None h e = let l = ap length (sym h.0 ∙ e) in let m = length-append front (last ∷ []) in absurd (omega (arith, l, m))
taken old new front last (Some x) h e = (same_from_push new front x last (sym h ∙ e)).0

pub row_taken : (path front : Leaf) (row : Affine) (new : List Affine) → path ≡ with_row front row → new ≡ front.rows → record path { rows = new } ≡ front
row_taken path front row new e h = ap (λ (p : Leaf). record p { rows = new }) e ∙ ap (λ rs. record front { rows = rs }) h

-- the last two are taken
two_taken : {A : Type 0} (old mid new front two : List A) (a b : Option A) → length two ≡ 2 → old ≡ front ++ two → MatchOption a ((old ≡ []) × (mid ≡ [])) (λ x. old ≡ mid ++ x ∷ [])
    → MatchOption b ((mid ≡ []) × (new ≡ [])) (λ x. mid ≡ new ++ x ∷ []) → new ≡ front
two_taken old mid new front [] a b l e f g = absurd (omega (arith, l))
two_taken old mid new front (x ∷ []) a b l e f g = absurd (omega (arith, l))
two_taken old mid new front (x ∷ y ∷ []) a b l e f g = taken mid new front x b g (taken old mid (front ++ x ∷ []) y a f (e ∙ sym (append_assoc front (x ∷ []) (y ∷ []))))
two_taken old mid new front (x ∷ y ∷ z ∷ zs) a b l e f g = absurd (omega (arith, l))

pub division_taken : (old path : Leaf) (form : Affine) (by : ℤ) → IsDivided path form by old → (columns : ℕ) (high low : List Affine) (divisions : List Division) (a b : Option Affine) (d : Option Division) → columns ≡ old.columns - 1
    → MatchOption a ((old.rows ≡ []) × (high ≡ [])) (λ x. old.rows ≡ high ++ x ∷ []) → MatchOption b ((high ≡ []) × (low ≡ [])) (λ x. high ≡ low ++ x ∷ [])
    → MatchOption d ((old.divisions ≡ []) × (divisions ≡ [])) (λ x. old.divisions ≡ divisions ++ x ∷ [])
    → ◌≡◌ {A = Leaf} (record { columns = columns; rows = low; divisions = divisions; named = old.named }) path
division_taken old path form by h columns high low divisions a b d e f g k =
    let rows : low ≡ path.rows = two_taken old.rows high low path.rows (division_rows path.columns form by) a b refl h.rows f g in
    let others : divisions ≡ path.divisions = taken old.divisions divisions path.divisions h.division d k h.divisions in
    let many : columns ≡ path.columns = one old.columns path.columns columns e h.columns in
    ap (λ n. the (record { columns = n; rows = low; divisions = divisions; named = old.named })) many ∙ ap (λ rs. the (record { columns = path.columns; rows = rs; divisions = divisions; named = old.named })) rows
    ∙ ap (λ ds. the (record { columns = path.columns; rows = path.rows; divisions = ds; named = old.named })) others ∙ ap (λ n. with_named path n) h.named
  where
    the : Leaf → Leaf
    the l = l

    one : (o p c : ℕ) → c ≡ o - 1 → o ≡ p + 1 → c ≡ p
    one o p c e f = omega (arith, e, f)

-- ---- Leaves

pub test_under : (path : Leaf) (f : Affine) (on off : Tree) → leaves_under path (Test f on off) ≡ leaves_under (with_row path f) on ++ leaves_under (with_row path (negated f)) off
test_under path f on off =
    let ds = map division_seen path.divisions in
    let first = leaves_under (with_row path f) on in
    sym (test_made path.columns f on off path.rows (path.rows ++ f ∷ []) (path.rows ++ negated f ∷ []) ds [] first (first ++ leaves_under (with_row path (negated f)) off) (λ i. path.rows ++ f ∷ []) (λ i. path.rows ++ negated f ∷ []) (λ i. first)
    (λ i. first ++ leaves_under (with_row path (negated f)) off))

pub division_under : (path new : Leaf) (f : Affine) (by : ℤ) (rest : Tree) → IsDivided path f by new → leaves_under path (Div f by rest) ≡ leaves_under new rest
division_under path new f by rest h =
    let ds = map division_seen path.divisions in
    let all : map division_seen new.divisions ≡ ds ++ (f, by) ∷ [] = ap (map division_seen) h.divisions ∙ map-append division_seen path.divisions (h.division ∷ []) ∙ ap (λ d. ds ++ d ∷ []) h.is in
    sym (division_made path.columns new.columns f by rest path.rows new.rows ds (map division_seen new.divisions) [] (leaves_under new rest) (one path.columns new.columns h.columns) h.rows all (λ i. leaves_under new rest))
  where
    one : (n m : ℕ) → m ≡ n + 1 → m ≡ suc n
    one n m e = omega (arith, e)

-- nothing stands above
pub root_under : (n : ℕ) (tree : Tree) → leaves_under (at_root n) tree ≡ leaves_of n tree
root_under n tree = leaves_made n tree [] [] [] (leaves_under (at_root n) tree) (λ i. []) (λ i. []) (λ i. []) (λ i. leaves_under (at_root n) tree)

pub path_to_root : (path : Leaf) (tree : Tree) (m n : ℕ) → path ≡ at_root m → m ≡ n → leaves_under path tree ≡ leaves_of n tree
path_to_root path tree m n e f = ap (λ p. leaves_under p tree) (e ∙ ap at_root f) ∙ root_under n tree

-- ---- What a walk over a tree asks

-- the path is open and the tree keeps the limits at its end, and this holds of each leaf
abbrev pub Walks : (P : seen.Leaf → Type 0) → Leaf → Tree → Type 0
Walks P path tree = path.named ≡ None × (Shaped path.columns tree × (FitsTree widest tree × (path.columns + divisions_of tree ≤ 1000 × Each P (leaves_under path tree))))

less_of_two : (a b n : ℕ) → n + max a b ≤ 1000 → (n + a ≤ 1000) × (n + b ≤ 1000)
less_of_two a b n h = (grind (arith, h), grind (arith, h))

module _ (P : seen.Leaf → Type 0) (path new : Leaf) (f : Affine) (on off tree sub : Tree) (test : tree ≡ Test f on off) where
  test_walks : Walks P path tree → Walks P path (Test f on off)
  test_walks w = subst (Walks P path) test w

  pub on_walks : new ≡ with_row path f → sub ≡ on → Walks P path tree → Walks P new sub
  on_walks e s w =
      let h = test_walks w in
      let all = subst (Each P) (test_under path f on off) h.1.1.1.1 in
      subst (λ p. Walks P p sub) (sym e) (subst (Walks P (with_row path f)) (sym s)
      (h.0, (h.1.0.1, (h.1.1.0.1, ((less_of_two (divisions_of on) (divisions_of off) path.columns h.1.1.1.0).0, each_left P (leaves_under (with_row path f) on) (leaves_under (with_row path (negated f)) off) all)))))

  pub off_walks : new ≡ with_row path (negated f) → sub ≡ off → Walks P path tree → Walks P new sub
  off_walks e s w =
      let h = test_walks w in
      let all = subst (Each P) (test_under path f on off) h.1.1.1.1 in
      subst (λ p. Walks P p sub) (sym e) (subst (Walks P (with_row path (negated f))) (sym s)
      (h.0, (h.1.0.2, (h.1.1.0.2, ((less_of_two (divisions_of on) (divisions_of off) path.columns h.1.1.1.0).1, each_right P (leaves_under (with_row path f) on) (leaves_under (with_row path (negated f)) off) all)))))

  pub on_less : (t : ℕ) → sub ≡ on → depth_of tree ≡ t → depth_of sub < t
  on_less t s e = through (depth_of sub) (depth_of on) (depth_of off) t (ap depth_of s) (sym (ap depth_of test) ∙ e)
    where
      through : (s a b t : ℕ) → s ≡ a → suc (max a b) ≡ t → s < t
      through s a b t e f = grind (arith, e, f)

  pub off_less : (t : ℕ) → sub ≡ off → depth_of tree ≡ t → depth_of sub < t
  off_less t s e = through (depth_of sub) (depth_of on) (depth_of off) t (ap depth_of s) (sym (ap depth_of test) ∙ e)
    where
      through : (s a b t : ℕ) → s ≡ b → suc (max a b) ≡ t → s < t
      through s a b t e f = grind (arith, e, f)

module _ (path new : Leaf) (f : Affine) (by : ℤ) (rest tree sub : Tree) (divided : tree ≡ Div f by rest) (s : sub ≡ rest) where
  pub rest_walks : (P : seen.Leaf → Type 0) → IsDivided path f by new → Walks P path tree → Walks P new sub
  rest_walks P d w =
      let h = subst (Walks P path) divided w in
      subst (Walks P new) (sym s) (
        d.named ∙ h.0,
        (subst (λ n. Shaped n rest) (more path.columns new.columns d.columns) h.1.0.2, (h.1.1.0.2, (room path.columns new.columns (divisions_of rest) d.columns h.1.1.1.0, subst (Each P) (division_under path new f by rest d) h.1.1.1.1))),
      )
    where
      more : (n m : ℕ) → m ≡ n + 1 → suc n ≡ m
      more n m e = omega (arith, e)

      room : (n m d : ℕ) → m ≡ n + 1 → n + suc d ≤ 1000 → m + d ≤ 1000
      room n m d e h = omega (arith, e, h)

  pub rest_less : (t : ℕ) → depth_of tree ≡ t → depth_of sub < t
  rest_less t e = through (depth_of sub) (depth_of rest) t (ap depth_of s) (sym (ap depth_of divided) ∙ e)
    where
      through : (s a t : ℕ) → s ≡ a → suc a ≡ t → s < t
      through s a t e f = omega (arith, e, f)

-- ---- What is made of their leaves

pub rest_flat : {B : Type 0} (F : seen.Leaf → List B) (path new : Leaf) (f : Affine) (by : ℤ) (rest tree sub : Tree) → tree ≡ Div f by rest → sub ≡ rest → IsDivided path f by new → flat_map F (leaves_under new sub) ≡ flat_map F (leaves_under path tree)
rest_flat F path new f by rest tree sub divided s d = ap (λ t. flat_map F (leaves_under new t)) s ∙ ap (flat_map F) (sym (division_under path new f by rest d)) ∙ ap (λ t. flat_map F (leaves_under path t)) (sym divided)

pub test_flat : {B : Type 0} (F : seen.Leaf → List B) (path front back : Leaf) (f : Affine) (on off tree first second : Tree) → tree ≡ Test f on off → front ≡ with_row path f → back ≡ with_row path (negated f) → first ≡ on → second ≡ off
    → flat_map F (leaves_under front first) ++ flat_map F (leaves_under back second) ≡ flat_map F (leaves_under path tree)
test_flat F path front back f on off tree first second test y n a b =
    ap₂ (λ p t. flat_map F (leaves_under p t) ++ flat_map F (leaves_under back second)) y a ∙ ap₂ (λ p t. flat_map F (leaves_under (with_row path f) on) ++ flat_map F (leaves_under p t)) n b
    ∙ sym (ap (λ t. flat_map F (leaves_under path t)) test ∙ ap (flat_map F) (test_under path f on off) ∙ flat_map-append F (leaves_under (with_row path f) on) (leaves_under (with_row path (negated f)) off))

-- two lists put behind one after the other
pub both_put : {B : Type 0} (old mid new xs ys zs : List B) → mid ≡ old ++ xs → new ≡ mid ++ ys → xs ++ ys ≡ zs → new ≡ old ++ zs
both_put old mid new xs ys zs d e h = e ∙ ap (λ l. l ++ ys) d ∙ append_assoc old xs ys ∙ ap (λ l. old ++ l) h
