-- What the items of folds are asked of, and what they depend on.
use Rattle.std.proofs.Common.{◌≡◌, ℕ, zero, suc, ◌≤◌, ℤ, pos, negsuc, if◌then◌else◌, List, [], ◌∷◌, ◌++◌, length, map, flat_map, take, Option, Some, None, refl, sym, ap, subst, inl, inr, arith, ◌∙◌}
use Rattle.std.specs.Prelude.{nat_eq, int_lt, ◌&&◌, slice_get}
use Rattle.std.specs.Cmp.Lexicographic.{slice_cmp}
use Rattle.std.specs.List.{All, Contains}
use Rattle.std.specs.Ordering.{is_eq, int_cmp}
use Rattle.std.proofs.lemmas.List.Elements.{All-head, All-tail}
use Rattle.std.proofs.lemmas.List.Concat.{flat_map-append}
use Rattle.std.proofs.lemmas.Option.{slice_get_within, get_or_from_slice_get}
use Rattle.affc_rows.specs.Forms.{Affine, value, mixed_form}
use Rattle.affc_system.specs.Systems.{Rows}
use Rattle.affc_system.specs.declared.pairs.PairSystem.{PairSystem}
use Rattle.affc_ast.specs.declared.tree.Program.{Program}
use Rattle.affc_ast.specs.declared.tree.Rel.TheVariants.{Equal}
use Rattle.affc_trace.specs.declared.schedule.Schedule.{Schedule}
use Rattle.affc_trace.specs.Law.{IsIn}
use Rattle.affc_basis.specs.Bases.{AreWithin}
use Rattle.affc_basis.specs.Moduli.{IsModulus}
use Rattle.affc_domain.proofs.Lists.{place_of, in_all}
use Rattle.affc_nest.specs.Domains.{gap_row, compare_rows, number_form, with_rows}
use Rattle.affc_nest.specs.declared.nest.Nest.{Nest}
use Rattle.affc_nest.specs.Laws.{HasNest, NamesArrays}
use Rattle.affc_nest.specs.Nests.{nest_of, nowhere}
use Rattle.affc_nest.specs.Questions.{whole_context}
use Rattle.affc_sched.specs.Legality.{IsAsked}
use Rattle.affc_quast.specs.Trees.{Tree}
use Rattle.affc_sched.proofs.Lists.{each_from}
use Rattle.affc_conflicts.specs.Laws.{IsOver}
use Rattle.affc_conflicts.specs.Questions.{distance, over_columns, positive_question, greater_question, distance_question, distance_questions}
use Rattle.affc_life.specs.Asked.{KeepLimits}
use Rattle.affc_life.specs.Clashes.{Clash, clash_of, clashes}
use Rattle.affc_life.specs.Laws.{AreShaped}
use Rattle.affc_life.specs.Products.{systems_in}
use Rattle.affc_life.specs.declared.clash.ClashProduct.{ClashProduct}
use Rattle.affc_life.specs.Sizes.{AnyLarge}
use Rattle.affc_certvalue.specs.fold.Limits.{IsMarkWithin}
use Rattle.affc_certvalue.specs.declared.fold.fold.CertFold.{CertFold}
use Rattle.affc_certvalue.specs.declared.fold.fold.CertModulus.{CertModulus}
use Rattle.affc_questions.specs.Asked.{IsAlong, AreElements}
use Rattle.affc_check.specs.list.ByClash.{slice_by, questions_by, clash_at}
use Rattle.affc_check.specs.Walked.{AreRowsAlong}
use Rattle.affc_check.specs.list.Certs.{modulus_said, IsFoldSaid}
use Rattle.affc_check.specs.list.Items.{Item, Question, Shown, LeastShown, ModulusShown, FoldShown, numbered, pair_in, pair_item, mark_items, row_items, rows_items, fold_items}
use Rattle.affc_check.specs.list.Limits.{AnyPasses}
use Rattle.affc_check.specs.list.Listed.{AreListed}
use Rattle.affc_check.specs.list.Passes.{FoldPasses}
use Rattle.affc_check.specs.list.Walks.{clash_systems, fold_shown, AreRowsAsked, IsFoldAsked}
use Rattle.affc_check.proofs.list.Over.{is_over, are_over}
use Rattle.affc_check.proofs.list.PartLemmas.{passes_front, passes_behind, listed_twice}

-- ---- The elements of a clash system along a row

one_there : {A : Type 0} (xs : List A) (x : A) → IsIn x xs → 1 ≤ length xs
one_there [] x i = absurd i
one_there (y ∷ ys) x i = omega arith

pub elements_along : (rows : List Affine) (row b : Affine) (s : PairSystem) → IsAlong rows row b s → AreElements s.system.columns row s.x.items s.y.items
elements_along rows row b s h = record {
  some = subst (λ n. 1 ≤ n) (sym h.first) (one_there rows row h.there);
  few = subst (λ n. n ≤ 4) (sym h.first) h.basis.few;
  each = h.second ∙ sym h.first;
  width = in_all (λ (r : Affine). length r.coefs ≡ length rows) rows row h.basis.square h.there ∙ sym h.first;
  small = in_all (λ (r : Affine). AreWithin 256 r.coefs) rows row h.basis.small h.there;
  first = s.x_fits;
  second = s.y_fits;
}

-- ---- Rows with their moduli

is_held : {A : Type 0} (xs : List A) (i : ℕ) (x : A) → slice_get xs i ≡ Some x → Contains xs x
is_held xs i x e = (i, slice_get_within xs i x e, get_or_from_slice_get xs i x x e)

module _ (nest : Nest) (c : CertFold) (systems : List PairSystem) (over : (s : PairSystem) → IsIn s systems → IsOver nest.context.columns (length c.basis.rows) s) where
  along : (row : Affine) (m : CertModulus) → IsIn row c.basis.rows → IsModulus nest.context.columns m.form → (s : PairSystem) → IsIn s systems → IsAlong c.basis.rows row m.form s
  along row m there fits s i = let o = over s i in record {
    basis = record { few = c.basis.square.few; square = c.basis.square.columns; small = c.basis.row_bounds };
    there = there;
    over = record {
      parameters = subst (λ n. n ≤ s.system.columns) (sym fits.width) o.parameters_first;
      fits = record { width = refl; coefs_fit = fits.coefs_fit; constant_fits = fits.constant_fits };
    };
    first = o.x_each;
    second = o.y_each;
  }

  rows_along : (more : List Affine) (ms : List CertModulus) → ((row : Affine) → IsIn row more → IsIn row c.basis.rows) → All (λ m. IsModulus nest.context.columns m.form) ms
      → All (λ m. IsMarkWithin nest.context.columns m.least) ms → AreRowsAsked nest systems c.basis.rows more ms
  rows_along [] ms there fits marks = tt
  rows_along (row ∷ more) [] there fits marks = tt
  rows_along (row ∷ more) (m ∷ ms) there fits marks =
      let fit = All-head (λ (m : CertModulus). IsModulus nest.context.columns m.form) m ms fits in (
        each_from (IsAlong c.basis.rows row m.form) systems (along row m (there row (inl refl)) fit),
        fit,
        All-head (λ (m : CertModulus). IsMarkWithin nest.context.columns m.least) m ms marks,
        rows_along more ms (λ r i. there r (inr i)) (All-tail (λ (m : CertModulus). IsModulus nest.context.columns m.form) m ms fits)
            (All-tail (λ (m : CertModulus). IsMarkWithin nest.context.columns m.least) m ms marks),
      )

-- the same of clash systems by what they say
module _ (nest : Nest) (c : CertFold) (cs : List Clash) (over : (s : PairSystem) → IsIn (clash_of s) cs → IsOver nest.context.columns (length c.basis.rows) s) where
  clashes_along : (more : List Affine) (ms : List CertModulus) → ((row : Affine) → IsIn row more → IsIn row c.basis.rows) → All (λ m. IsModulus nest.context.columns m.form) ms
      → All (λ m. IsMarkWithin nest.context.columns m.least) ms → AreRowsAlong nest cs c.basis.rows more ms
  clashes_along [] ms there fits marks = tt
  clashes_along (row ∷ more) [] there fits marks = tt
  clashes_along (row ∷ more) (m ∷ ms) there fits marks =
      let fit = All-head (λ (m : CertModulus). IsModulus nest.context.columns m.form) m ms fits in (
        λ s i. along nest c (s ∷ []) (λ t j. elim j [ inl e ↦ subst (IsOver nest.context.columns (length c.basis.rows)) (sym e) (over s i) | inr k ↦ absurd k ]) row m (there row (inl refl)) fit s (inl refl),
        fit,
        All-head (λ (m : CertModulus). IsMarkWithin nest.context.columns m.least) m ms marks,
        clashes_along more ms (λ r i. there r (inr i)) (All-tail (λ (m : CertModulus). IsModulus nest.context.columns m.form) m ms fits)
            (All-tail (λ (m : CertModulus). IsMarkWithin nest.context.columns m.least) m ms marks),
      )

shaped_of : (nest : Nest) (trees : List Tree) → KeepLimits nest trees → AreShaped nest trees
shaped_of nest trees limits s k e tree at less there = (limits s k e tree at less there).shaped

of_program : (program : Program) (schedule : Schedule) (trees : List Tree) (c : CertFold) (systems : List PairSystem) → HasNest program → NamesArrays program
    → IsFoldAsked (nest_of program) trees c → map clash_of systems ≡ clashes (nest_of program) trees schedule c.array.0 → AreRowsAsked (nest_of program) systems c.basis.rows c.basis.rows c.moduli
of_program program schedule trees c systems has named h are =
    let info = h.of_array.info in
    rows_along (nest_of program) c systems
    (λ s i.
    let at = place_of systems s i in
    subst (λ n. IsOver (nest_of program).context.columns n s) (sym h.of_array.dimensions)
    (are_over program has named trees (shaped_of (nest_of program) trees h.limits) schedule c.array.0 info h.of_array.declared systems are s (is_held systems at.0 s at.1)))
    c.basis.rows c.moduli (λ r i. i) h.of_array.moduli h.within.marks

pub rows_asked : (nest : Nest) (schedule : Schedule) (trees : List Tree) (c : CertFold) (systems : List PairSystem) → IsAsked nest schedule → IsFoldAsked nest trees c
    → map clash_of systems ≡ clashes nest trees schedule c.array.0 → AreRowsAsked nest systems c.basis.rows c.basis.rows c.moduli
rows_asked nest schedule trees c systems asked =
    subst (λ (n : Nest). IsFoldAsked n trees c → map clash_of systems ≡ clashes n trees schedule c.array.0 → AreRowsAsked n systems c.basis.rows c.basis.rows c.moduli) (sym asked.scheduled.is)
    (of_program asked.scheduled.program schedule trees c systems asked.scheduled.has asked.named)

clashes_of_program : (program : Program) (schedule : Schedule) (trees : List Tree) (c : CertFold) → HasNest program → NamesArrays program → IsFoldAsked (nest_of program) trees c
    → AreRowsAlong (nest_of program) (clashes (nest_of program) trees schedule c.array.0) c.basis.rows c.basis.rows c.moduli
clashes_of_program program schedule trees c has named h =
    let info = h.of_array.info in
    clashes_along (nest_of program) c (clashes (nest_of program) trees schedule c.array.0)
    (λ s i.
    subst (λ n. IsOver (nest_of program).context.columns n s) (sym h.of_array.dimensions)
    (is_over program has named trees (shaped_of (nest_of program) trees h.limits) schedule c.array.0 info h.of_array.declared s i))
    c.basis.rows c.moduli (λ r i. i) h.of_array.moduli h.within.marks

pub clashes_asked : (nest : Nest) (schedule : Schedule) (trees : List Tree) (c : CertFold) → IsAsked nest schedule → IsFoldAsked nest trees c
    → AreRowsAlong nest (clashes nest trees schedule c.array.0) c.basis.rows c.basis.rows c.moduli
clashes_asked nest schedule trees c asked =
    subst (λ (n : Nest). IsFoldAsked n trees c → AreRowsAlong n (clashes n trees schedule c.array.0) c.basis.rows c.basis.rows c.moduli) (sym asked.scheduled.is)
    (clashes_of_program asked.scheduled.program schedule trees c asked.scheduled.has asked.named)

-- ---- The items depend on the clash systems alone, not on how these are held

abbrev shown_by : (rows : List Affine) → ℕ → (row b : Affine) → Clash → (xs ys : List Affine) → Rows
shown_by rows k row b c xs ys =
    with_rows (slice_by rows k c)
    (compare_rows Equal (distance row xs ys) (mixed_form (pos 1) (over_columns c.system.columns b) (negsuc 0) (number_form c.system.columns (pos 1)))
    ++ gap_row (number_form c.system.columns (pos 1)) (distance row xs ys) 0 ∷ [])

abbrev farthest_by : (rows : List Affine) → ℕ → (row b : Affine) → Clash → (point : List ℤ) → Item
farthest_by rows k row b c point =
    if int_lt (value (distance row c.x c.y) point) (pos 0) then Shown (shown_by rows k row b c c.y c.x) point else Shown (shown_by rows k row b c c.x c.y) point

abbrev pub pair_by : Nest → (rows : List Affine) → ℕ → (row b : Affine) → (p point : List ℤ) → Option Clash → Item
pair_by nest rows k row b p point None = Shown (nowhere 0) []
pair_by nest rows k row b p point (Some c) =
    if nat_eq (length point) c.system.columns && is_eq (slice_cmp int_cmp (take nest.context.columns point) p) then farthest_by rows k row b c point else Shown (nowhere 0) []

module _ (nest : Nest) (rows : List Affine) (k : ℕ) (row b : Affine) where
  pub distances_are : (systems : List PairSystem) → distance_questions rows k row b systems ≡ flat_map (questions_by rows k row b) (map clash_of systems)
  distances_are [] = refl
  distances_are (s ∷ ss) = ap (λ qs. questions_by rows k row b (clash_of s) ++ qs) (distances_are ss)

  pair_at : (p point : List ℤ) (systems : List PairSystem) (n : ℕ) → pair_in nest rows k row b p point (slice_get systems n) ≡ pair_by nest rows k row b p point (slice_get (map clash_of systems) n)
  pair_at p point [] n = refl
  pair_at p point (s ∷ ss) zero = refl
  pair_at p point (s ∷ ss) (suc n) = pair_at p point ss n

  pub pair_is : (p point : List ℤ) (systems : List PairSystem) (z : ℤ) → pair_in nest rows k row b p point (numbered systems z) ≡ pair_by nest rows k row b p point (clash_at (map clash_of systems) z)
  pair_is p point systems (pos n) = pair_at p point systems n
  pair_is p point systems (negsuc n) = refl

  module _ (ss ts : List PairSystem) (same : map clash_of ss ≡ map clash_of ts) where
    same_pair : (p : List ℤ) (pair : Option (ℤ × List ℤ)) → pair_item nest rows k row b ss p pair ≡ pair_item nest rows k row b ts p pair
    same_pair p None = refl
    same_pair p (Some pair) =
        pair_is p pair.1 ss pair.0 ∙ ap (λ cs. pair_by nest rows k row b p pair.1 (clash_at cs pair.0)) same ∙ sym (pair_is p pair.1 ts pair.0)

    same_mark : (least : Option LeastShown) → mark_items nest rows k row b ss least ≡ mark_items nest rows k row b ts least
    same_mark None = refl
    same_mark (Some l) = ap (λ i. Shown (whole_context nest) l.p ∷ i ∷ Question (greater_question nest.context nest.params b l.p) ∷ []) (same_pair l.p l.pair)

    same_distances : distance_questions rows k row b ss ≡ distance_questions rows k row b ts
    same_distances = distances_are ss ∙ ap (flat_map (questions_by rows k row b)) same ∙ sym (distances_are ts)

same_rows : (nest : Nest) (ss ts : List PairSystem) → map clash_of ss ≡ map clash_of ts → (rows : List Affine) (k : ℕ) (more : List Affine) (ms : List ModulusShown)
    → rows_items nest ss rows k more ms ≡ rows_items nest ts rows k more ms
same_rows nest ss ts same rows k [] ms = refl
same_rows nest ss ts same rows k (row ∷ more) [] = refl
same_rows nest ss ts same rows k (row ∷ more) (m ∷ ms) =
    ap (λ qs. (Question (positive_question nest.context nest.params m.form) ∷ (map Question qs ++ mark_items nest rows k row m.form ss m.least)) ++ rows_items nest ss rows (suc k) more ms) (same_distances nest rows k row m.form ss ts same)
    ∙ ap (λ is. (Question (positive_question nest.context nest.params m.form) ∷ (map Question (distance_questions rows k row m.form ts) ++ is)) ++ rows_items nest ss rows (suc k) more ms) (same_mark nest rows k row m.form ss ts same m.least)
    ∙ ap (λ is. row_items nest ts rows k row m ++ is) (same_rows nest ss ts same rows (suc k) more ms)

-- a certificate says one list of items of a fold
pub same_fold : (nest : Nest) (schedule : Schedule) (trees : List Tree) (c : CertFold) (f g : FoldShown) → IsFoldSaid nest schedule trees c f → IsFoldSaid nest schedule trees c g → fold_items nest f ≡ fold_items nest g
same_fold nest schedule trees c f g h i =
    same_rows nest f.systems g.systems (h.systems ∙ sym i.systems) f.rows 0 f.rows f.moduli
    ∙ ap (λ rows. rows_items nest g.systems rows 0 rows f.moduli) (h.rows ∙ sym i.rows) ∙ ap (λ ms. rows_items nest g.systems g.rows 0 g.rows ms) (h.moduli ∙ sym i.moduli)

-- ---- Row by row

pub distances_both : (rows : List Affine) (k : ℕ) (row b : Affine) (xs ys : List PairSystem)
    → map Question (distance_questions rows k row b (xs ++ ys)) ≡ map Question (distance_questions rows k row b xs) ++ map Question (distance_questions rows k row b ys)
distances_both rows k row b [] ys = refl
distances_both rows k row b (s ∷ ss) ys =
    ap (λ is. Question (distance_question rows k row b s s.x.items s.y.items) ∷ Question (distance_question rows k row b s s.y.items s.x.items) ∷ is) (distances_both rows k row b ss ys)

pub products_both : (rows : List Affine) (k : ℕ) (row b : Affine) (xs ys : List ClashProduct)
    → map Question (distance_questions rows k row b (clash_systems (xs ++ ys))) ≡ map Question (distance_questions rows k row b (clash_systems xs)) ++ map Question (distance_questions rows k row b (clash_systems ys))
products_both rows k row b xs ys = ap (λ ss. map Question (distance_questions rows k row b ss)) (flat_map-append systems_in xs ys) ∙ distances_both rows k row b (clash_systems xs) (clash_systems ys)

-- the items of a row
pub row_listed : (nest : Nest) (systems : List PairSystem) (rows : List Affine) (k : ℕ) (row : Affine) (m : ModulusShown) (a b c d : List Item)
    → AreListed a b (Question (positive_question nest.context nest.params m.form) ∷ []) → AreListed b c (map Question (distance_questions rows k row m.form systems))
    → AreListed c d (mark_items nest rows k row m.form systems m.least) → AreListed a d (row_items nest systems rows k row m)
row_listed nest systems rows k row m a b c d h g f =
    let ds = map Question (distance_questions rows k row m.form systems) in
    let ms = mark_items nest rows k row m.form systems m.least in
    listed_twice a b d (Question (positive_question nest.context nest.params m.form) ∷ []) (ds ++ ms) h (listed_twice b c d ds ms g f)

pub positive_passes : (nest : Nest) (systems : List PairSystem) (rows : List Affine) (k : ℕ) (row : Affine) (m : ModulusShown) → AnyPasses (Question (positive_question nest.context nest.params m.form) ∷ []) → AnyPasses (row_items nest systems rows k row m)
positive_passes nest systems rows k row m h =
    passes_front (Question (positive_question nest.context nest.params m.form) ∷ []) (map Question (distance_questions rows k row m.form systems) ++ mark_items nest rows k row m.form systems m.least) h

pub distance_passes : (nest : Nest) (systems : List PairSystem) (rows : List Affine) (k : ℕ) (row : Affine) (m : ModulusShown) → AnyPasses (map Question (distance_questions rows k row m.form systems)) → AnyPasses (row_items nest systems rows k row m)
distance_passes nest systems rows k row m h =
    let ds = map Question (distance_questions rows k row m.form systems) in
    let ms = mark_items nest rows k row m.form systems m.least in
    passes_behind (Question (positive_question nest.context nest.params m.form) ∷ []) (ds ++ ms) (passes_front ds ms h)

pub mark_passes : (nest : Nest) (systems : List PairSystem) (rows : List Affine) (k : ℕ) (row : Affine) (m : ModulusShown) → AnyPasses (mark_items nest rows k row m.form systems m.least) → AnyPasses (row_items nest systems rows k row m)
mark_passes nest systems rows k row m h =
    let ds = map Question (distance_questions rows k row m.form systems) in
    let ms = mark_items nest rows k row m.form systems m.least in
    passes_behind (Question (positive_question nest.context nest.params m.form) ∷ []) (ds ++ ms) (passes_behind ds ms h)

-- the items of rows
module _ (nest : Nest) (systems : List PairSystem) (rows : List Affine) (k n : ℕ) (next : n ≡ suc k) (more others : List Affine) (row : Affine) (ms rest : List CertModulus) (m : CertModulus) (is : more ≡ row ∷ others) (js : ms ≡ m ∷ rest) where
  pub parted : rows_items nest systems rows k more (map modulus_said ms) ≡ row_items nest systems rows k row (modulus_said m) ++ rows_items nest systems rows n others (map modulus_said rest)
  parted =
      ap (λ z. rows_items nest systems rows k z (map modulus_said ms)) is ∙ ap (λ z. rows_items nest systems rows k (row ∷ others) (map modulus_said z)) js
      ∙ ap (λ j. row_items nest systems rows k row (modulus_said m) ++ rows_items nest systems rows j others (map modulus_said rest)) (sym next)

  pub rows_listed : (a b c : List Item) → AreListed a b (row_items nest systems rows k row (modulus_said m)) → AreListed b c (rows_items nest systems rows n others (map modulus_said rest))
      → AreListed a c (rows_items nest systems rows k more (map modulus_said ms))
  rows_listed a b c h g = subst (AreListed a c) (sym parted) (listed_twice a b c (row_items nest systems rows k row (modulus_said m)) (rows_items nest systems rows n others (map modulus_said rest)) h g)

  pub row_first : AnyPasses (row_items nest systems rows k row (modulus_said m)) → AnyPasses (rows_items nest systems rows k more (map modulus_said ms))
  row_first h = subst AnyPasses (sym parted) (passes_front (row_items nest systems rows k row (modulus_said m)) (rows_items nest systems rows n others (map modulus_said rest)) h)

  pub row_later : AnyPasses (rows_items nest systems rows n others (map modulus_said rest)) → AnyPasses (rows_items nest systems rows k more (map modulus_said ms))
  row_later h = subst AnyPasses (sym parted) (passes_behind (row_items nest systems rows k row (modulus_said m)) (rows_items nest systems rows n others (map modulus_said rest)) h)

-- ---- Whether a fold passes

pub fold_within : (nest : Nest) (schedule : Schedule) (trees : List Tree) (c : CertFold) (f : FoldShown) → IsFoldSaid nest schedule trees c f → ¬ (AnyLarge (clashes nest trees schedule c.array.0)) → ¬ (AnyPasses (fold_items nest f))
    → ¬ (FoldPasses nest schedule trees c)
fold_within nest schedule trees c f said large none = λ (p : FoldPasses nest schedule trees c).
    elim p [
      | inl l ↦ large l
      | inr q ↦ none (subst AnyPasses (same_fold nest schedule trees c q.0 f q.1 said) q.2)
    ]

pub fold_past : (nest : Nest) (schedule : Schedule) (trees : List Tree) (c : CertFold) (f : FoldShown) → IsFoldSaid nest schedule trees c f → AnyPasses (fold_items nest f) → FoldPasses nest schedule trees c
fold_past nest schedule trees c f said h = inr (f, said, h)

pub fold_is_said : (nest : Nest) (schedule : Schedule) (trees : List Tree) (c : CertFold) (systems : List PairSystem) → map clash_of systems ≡ clashes nest trees schedule c.array.0 → IsFoldSaid nest schedule trees c (fold_shown c systems)
fold_is_said nest schedule trees c systems e = record { array = refl; rows = refl; moduli = refl; systems = e }
