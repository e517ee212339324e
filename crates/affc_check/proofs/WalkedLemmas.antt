-- Walks over clash systems, one behind the other.
use Rattle.std.proofs.Common.{◌≡◌, ℕ, ◌+◌, ℤ, pos, negsuc, false, if◌then◌else◌, List, [], ◌∷◌, ◌++◌, length, map, flat_map, Option, None, Some, refl, sym, ap, subst, inl, inr, arith, ◌∙◌}
use Rattle.std.specs.Prelude.{nat_eq, slice_get}
use Rattle.std.proofs.lemmas.Bool.{eq-eqb}
use Rattle.std.proofs.lemmas.List.{length-append, map-append}
use Rattle.std.proofs.lemmas.List.Concat.{flat_map-append}
use Rattle.affc_rows.specs.Forms.{Affine}
use Rattle.affc_system.specs.declared.pairs.PairSystem.{PairSystem}
use Rattle.affc_trace.specs.Law.{IsIn}
use Rattle.affc_trace.proofs.EndedReads.{append_assoc}
use Rattle.affc_trace.proofs.LastStores.{append_nil}
use Rattle.affc_trace.proofs.Members.{to_map}
use Rattle.affc_trace.proofs.Once.{in_append}
use Rattle.affc_trace.proofs.Runs.{slice_left, slice_right}
use Rattle.affc_domain.proofs.Lists.{length_map, to_mapped}
use Rattle.affc_sched.specs.Touched.{Each}
use Rattle.affc_quast.specs.Leaves as seen
use Rattle.affc_quast.specs.Leaves.{leaves_of, negated}
use Rattle.affc_quast.specs.Seen as quast
use Rattle.affc_quast.specs.SeenLeaves.{division_seen, leaf_seen}
use Rattle.affc_quast.specs.Trees.{Tree, Test, Source}
use Rattle.affc_quast.specs.declared.leaves.Leaf.{Leaf}
use Rattle.affc_nest.specs.Parts.{coordinates}
use Rattle.affc_life.specs.Asked.{IsPath}
use Rattle.affc_life.specs.Clashes.{Clash, clash_of}
use Rattle.affc_life.specs.Paths.{with_row, with_named, leaves_under}
use Rattle.affc_life.specs.Sizes.{AnyLarge}
use Rattle.affc_life.specs.declared.clash.ClashProduct.{ClashProduct}
use Rattle.affc_life.proofs.PathLemmas.{test_flat}
use Rattle.affc_questions.specs.Asked.{IsAlong}
use Rattle.affc_conflicts.specs.Questions.{distance_questions}
use Rattle.affc_check.specs.Looked.{AreLooked}
use Rattle.affc_check.specs.Walked.{along_items, AreAlong, IsHere, StandsAt, Seeks, Walked, Breaks, leaf_clashes, walk_in, IsWalked}
use Rattle.affc_check.specs.list.ByClash.{questions_by, clash_at}
use Rattle.affc_check.specs.list.Items.{Question}
use Rattle.affc_check.specs.list.Limits.{AnyPasses}
use Rattle.affc_check.specs.list.Loads.{part_clashes}
use Rattle.affc_check.specs.list.Walks.{clash_systems}
use Rattle.affc_check.specs.declared.list.item.Loaded.{Loaded}
use Rattle.affc_check.specs.declared.list.shown.Along.{Along}
use Rattle.affc_check.specs.declared.walks.Carried.{Carried}
use Rattle.affc_check.specs.declared.walks.Clashing.{Clashing}
use Rattle.affc_check.specs.declared.walks.Sought.{Sought}
use Rattle.affc_check.proofs.LookLemmas.{none_looked, looked_twice}
use Rattle.affc_check.proofs.list.PartLemmas.{passes_front, passes_behind, in_before, in_behind}

-- ---- Limits

large_front : (xs ys : List Clash) → AnyLarge xs → AnyLarge (xs ++ ys)
large_front xs ys h = record { clash = h.clash; there = in_before h.clash xs ys h.there; large = h.large }

large_behind : (xs ys : List Clash) → AnyLarge ys → AnyLarge (xs ++ ys)
large_behind xs ys h = record { clash = h.clash; there = in_behind h.clash xs ys h.there; large = h.large }

neither_large : (xs ys : List Clash) → ¬ (AnyLarge xs) → ¬ (AnyLarge ys) → ¬ (AnyLarge (xs ++ ys))
neither_large xs ys h g = λ (a : AnyLarge (xs ++ ys)).
    elim (in_append xs ys a.clash a.there) [
      | inl i ↦ h (record { clash = a.clash; there = i; large = a.large })
      | inr i ↦ g (record { clash = a.clash; there = i; large = a.large })
    ]

none_large : AnyLarge [] → ⊥
none_large a = absurd a.there

-- ---- Along a row

along_both : (along : Option Along) (xs ys : List Clash) → along_items along (xs ++ ys) ≡ along_items along xs ++ along_items along ys
along_both None xs ys = refl
along_both (Some a) xs ys =
    let F = questions_by a.rows.now a.k a.row.now a.modulus.now in
    ap (map Question) (flat_map-append F xs ys) ∙ map-append Question (flat_map F xs) (flat_map F ys)

along_none : (along : Option Along) → along_items along [] ≡ []
along_none None = refl
along_none (Some a) = refl

pub along_front : (along : Option Along) (xs ys zs : List Clash) → zs ≡ xs ++ ys → AreAlong along zs → AreAlong along xs
along_front None xs ys zs e h = tt
along_front (Some a) xs ys zs e h = λ s i. h s (subst (IsIn (clash_of s)) (sym e) (in_before (clash_of s) xs ys i))

pub along_behind : (along : Option Along) (xs ys zs : List Clash) → zs ≡ xs ++ ys → AreAlong along zs → AreAlong along ys
along_behind None xs ys zs e h = tt
along_behind (Some a) xs ys zs e h = λ s i. h s (subst (IsIn (clash_of s)) (sym e) (in_behind (clash_of s) xs ys i))

-- each of these clash systems is
pub each_along : (rows : List Affine) (row modulus : Affine) (ss : List PairSystem) → ((s : PairSystem) → IsIn s ss → IsAlong rows row modulus s) → Each (IsAlong rows row modulus) ss
each_along rows row modulus [] h = tt
each_along rows row modulus (s ∷ ss) h = (h s (inl refl), each_along rows row modulus ss (λ t i. h t (inr i)))

-- the questions on the distances in clash systems, by what these say
pub along_are : (a : Along) (ss : List PairSystem) → map Question (distance_questions a.rows.now a.k a.row.now a.modulus.now ss) ≡ along_items (Some a) (map clash_of ss)
along_are a [] = refl
along_are a (s ∷ ss) = ap (λ qs. map Question (questions_by a.rows.now a.k a.row.now a.modulus.now (clash_of s)) ++ qs) (along_are a ss)

-- ---- One that is sought

seeks_none : (s : Sought) → Seeks s s []
seeks_none s before z h = subst (λ cs. StandsAt s cs z) (sym (append_nil before)) h

seeks_twice : (a b c : Sought) (xs ys : List Clash) → Seeks a b xs → Seeks b c ys → Seeks a c (xs ++ ys)
seeks_twice a b c xs ys h g before z s = subst (λ cs. StandsAt c cs z) (append_assoc before xs ys) (g (before ++ xs) z (h before z s))

at_left : (xs ys : List Clash) (z : ℤ) (c : Clash) → clash_at xs z ≡ Some c → clash_at (xs ++ ys) z ≡ Some c
at_left xs ys (pos n) c e = slice_left xs ys n c e
at_left xs ys (negsuc n) c e = absurd (cc)

-- where it was found
pub here_stays : (products : List ClashProduct) (n : ℕ) (before cs : List Clash) (z : ℤ) → IsHere before z products n → IsHere (before ++ cs) z products n
here_stays products n before cs z h = record {
  clash = h.clash;
  there = at_left before cs z h.clash h.there;
  is = h.is;
  among = λ s i. in_before (clash_of s) before cs (h.among s i);
}

-- it is found
pub found_here : (products : List ClashProduct) (n : ℕ) (s : PairSystem) (before : List Clash) (z : ℤ) → slice_get (clash_systems products) n ≡ Some s → z ≡ pos (length before + n)
    → IsHere (before ++ map clash_of (clash_systems products)) z products n
found_here products n s before z e q =
    let cs = map clash_of (clash_systems products) in
    let at : slice_get cs n ≡ Some (clash_of s) = to_mapped clash_of (clash_systems products) n s e in
    record {
      clash = clash_of s;
      there = ap (clash_at (before ++ cs)) q ∙ slice_right before cs n ∙ at;
      is = at;
      among = λ t i. in_behind (clash_of t) before cs (to_map clash_of (clash_systems products) t i);
    }

-- it is further on
pub found_past : (products : List ClashProduct) (n left : ℕ) (before : List Clash) (z : ℤ) → n ≡ length (clash_systems products) + left → z ≡ pos (length before + n)
    → z ≡ pos (length (before ++ map clash_of (clash_systems products)) + left)
found_past products n left before z e q =
    let cs = map clash_of (clash_systems products) in
    q ∙ ap pos (sum (length before) n (length (clash_systems products)) left (length (before ++ cs)) (length cs) e (length-append before cs) (length_map clash_of (clash_systems products)))
  where
    sum : (b n m l t c : ℕ) → n ≡ m + l → t ≡ b + c → c ≡ m → b + n ≡ t + l
    sum b n m l t c e f g = omega (arith, e, f, g)

-- ---- Walks

pub walked_none : (along : Option Along) (c : Carried) → Walked along c c []
walked_none along c = record {
  looked = subst (AreLooked c.looked c.looked) (sym (along_none along)) (none_looked c.looked);
  sought = seeks_none c.sought;
  systems = [];
  are = refl;
  fits = none_large;
}

pub walked_twice : (along : Option Along) (a b c : Carried) (xs ys : List Clash) → Walked along a b xs → Walked along b c ys → Walked along a c (xs ++ ys)
walked_twice along a b c xs ys h g = record {
  looked = subst (AreLooked a.looked c.looked) (sym (along_both along xs ys)) (looked_twice a.looked b.looked c.looked (along_items along xs) (along_items along ys) h.looked g.looked);
  sought = seeks_twice a.sought b.sought c.sought xs ys h.sought g.sought;
  systems = h.systems ++ g.systems;
  are = map-append clash_of h.systems g.systems ∙ ap (λ z. z ++ map clash_of g.systems) h.are ∙ ap (λ z. xs ++ z) g.are;
  fits = neither_large xs ys h.fits g.fits;
}

pub breaks_front : (along : Option Along) (xs ys : List Clash) → Breaks along xs → Breaks along (xs ++ ys)
breaks_front along xs ys (inl h) = inl (large_front xs ys h)
breaks_front along xs ys (inr h) = inr (subst AnyPasses (sym (along_both along xs ys)) (passes_front (along_items along xs) (along_items along ys) h))

pub breaks_behind : (along : Option Along) (xs ys : List Clash) → Breaks along ys → Breaks along (xs ++ ys)
breaks_behind along xs ys (inl h) = inl (large_behind xs ys h)
breaks_behind along xs ys (inr h) = inr (subst AnyPasses (sym (along_both along xs ys)) (passes_behind (along_items along xs) (along_items along ys) h))

-- ---- Trees

-- a leaf that names an instance
module _ (path : Leaf) (part : ℕ) (forms : List Affine) where
  abbrev one_leaf : List Affine → List (Affine × ℤ) → List seen.Leaf
  one_leaf rows divisions = record { columns = path.columns; rows = rows; divisions = divisions; named = Some (record { part = part; iterators = forms }) } ∷ []

  one_under : leaf_seen (with_named path (Some (record { part = part; forms = forms }))) ∷ [] ≡ leaves_under path (Source part forms)
  one_under = ap (λ rs. one_leaf rs (map division_seen path.divisions)) (sym (append_nil path.rows)) ∙ ap (one_leaf (path.rows ++ [])) (sym (append_nil (map division_seen path.divisions)))

pub source_end : (F : seen.Leaf → List Clash) (path : Leaf) (part : ℕ) (forms : List Affine) (tree : Tree) → tree ≡ Source part forms → F (leaf_seen (with_named path (Some (record { part = part; forms = forms })))) ≡ flat_map F (leaves_under path tree)
source_end F path part forms tree e =
    sym (append_nil (F (leaf_seen (with_named path (Some (record { part = part; forms = forms })))))) ∙ ap (flat_map F) (one_under path part forms) ∙ ap (λ t. flat_map F (leaves_under path t)) (sym e)

module _ (along : Option Along) (F : seen.Leaf → List Clash) (path front back : Leaf) (f : Affine) (on off tree first second : Tree) (test : tree ≡ Test f on off) (y : front ≡ with_row path f) (n : back ≡ with_row path (negated f)) (a : first ≡ on) (b : second ≡ off) where
  both_clashes : flat_map F (leaves_under front first) ++ flat_map F (leaves_under back second) ≡ flat_map F (leaves_under path tree)
  both_clashes = test_flat F path front back f on off tree first second test y n a b

  pub test_walked : (i j k : Carried) → Walked along i j (flat_map F (leaves_under front first)) → Walked along j k (flat_map F (leaves_under back second)) → Walked along i k (flat_map F (leaves_under path tree))
  test_walked i j k h g = subst (Walked along i k) both_clashes (walked_twice along i j k (flat_map F (leaves_under front first)) (flat_map F (leaves_under back second)) h g)

  pub off_breaks : Breaks along (flat_map F (leaves_under back second)) → Breaks along (flat_map F (leaves_under path tree))
  off_breaks h = subst (Breaks along) both_clashes (breaks_behind along (flat_map F (leaves_under front first)) (flat_map F (leaves_under back second)) h)

pub on_breaks : (along : Option Along) (F : seen.Leaf → List Clash) (path front : Leaf) (f : Affine) (on off tree first : Tree) → tree ≡ Test f on off → front ≡ with_row path f → first ≡ on → Breaks along (flat_map F (leaves_under front first))
    → Breaks along (flat_map F (leaves_under path tree))
on_breaks along F path front f on off tree first test y a h =
    subst (Breaks along) (both_clashes along F path front (with_row path (negated f)) f on off tree first off test y refl a refl)
    (breaks_front along (flat_map F (leaves_under front first)) (flat_map F (leaves_under (with_row path (negated f)) off)) h)

-- what a walk asks of leaves, where their clash systems are along the row
pub each_walked : (a : Clashing) (l : Loaded) (leaves : List seen.Leaf) → Each (IsPath a.nest.now (length a.nest.now.params + coordinates l.reader.now)) leaves → AreAlong a.along (flat_map (leaf_clashes a l) leaves) → Each (IsWalked a l) leaves
each_walked a l [] h g = tt
each_walked a l (leaf ∷ leaves) h g =
    let own = leaf_clashes a l leaf in
    let others = flat_map (leaf_clashes a l) leaves in (
      record { path = h.0; along = along_front a.along own others (own ++ others) refl g },
      each_walked a l leaves h.1 (along_behind a.along own others (own ++ others) refl g),
    )

-- the clash systems of a load of the array, leaf by leaf, and of another load
pub load_clashes : (a : Clashing) (l : Loaded) → l.load.now.array.0 ≡ a.array.0
    → flat_map (leaf_clashes a l) (leaves_of (length a.nest.now.params + coordinates l.reader.now) (quast.seen l.tree.now)) ≡ part_clashes a.nest.now (walk_in a) (Some l)
load_clashes a l e =
    ap (λ t. if t then flat_map (leaf_clashes a l) (leaves_of (length a.nest.now.params + coordinates l.reader.now) (quast.seen l.tree.now)) else []) (sym (eq-eqb l.load.now.array.0 a.array.0 e))

pub other_clashes : (a : Clashing) (l : Loaded) → nat_eq l.load.now.array.0 a.array.0 ≡ false → part_clashes a.nest.now (walk_in a) (Some l) ≡ []
other_clashes a l e = ap (λ t. if t then flat_map (leaf_clashes a l) (leaves_of (length a.nest.now.params + coordinates l.reader.now) (quast.seen l.tree.now)) else []) e
