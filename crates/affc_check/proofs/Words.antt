-- The elements of a valid certificate's marks fit 64 bits.
use Rattle.std.proofs.Common.{◌≡◌, ℕ, suc, ◌*◌, ◌^◌, ◌≤◌, ℤ, pos, negsuc, ◌+ℤ◌, ◌*ℤ◌, ◌≤ℤ◌, ◌<ℤ◌, Bool, true, false, if◌then◌else◌, IsTrue, List, [], ◌∷◌, ◌++◌, length, map, take, Option, Some, None, refl, sym, ap, subst, ◌∙◌, inl, inr, arith, lit<}
use Rattle.std.specs.Prelude.{unsigned_abs, slice_get, int_le, int_lt, ◌&&◌}
use Rattle.std.specs.List.{All, Contains}
use Rattle.std.proofs.lemmas.Int.{ints, unsigned_abs-mul}
use Rattle.std.proofs.lemmas.List.Elements.{All-nil, All-cons, All-head, All-tail, All-weaker}
use Rattle.std.proofs.Math.Nat.{mul-le-mul_left}
use Rattle.affc_rows.specs.Forms.{Affine, dot, value, values_of, mixed_form}
use Rattle.affc_rows.proofs.IntLemmas.{abs-add}
use Rattle.affc_system.specs.Pairs.{IsSubscript}
use Rattle.affc_system.specs.Systems.{IsPoint}
use Rattle.affc_system.specs.declared.pairs.PairSystem.{PairSystem}
use Rattle.affc_system.proofs.SystemLemmas.{point_of_fewer_rows}
use Rattle.affc_ast.specs.declared.tree.Instance.{Instance}
use Rattle.affc_ast.specs.declared.tree.Program.{Program}
use Rattle.affc_ast.specs.declared.tree.Rel.TheVariants.{Equal}
use Rattle.affc_ast.specs.Trace.{trace, events}
use Rattle.affc_ast.specs.Values.{is_within}
use Rattle.affc_trace.specs.declared.schedule.Schedule.{Schedule}
use Rattle.affc_trace.specs.Law.{IsIn}
use Rattle.affc_trace.specs.Laws.{IsInContext}
use Rattle.affc_trace.specs.Target.{IsScheduleOf}
use Rattle.affc_trace.proofs.Members.{to_first, to_second}
use Rattle.affc_domain.specs.Ranges.{number_ranges}
use Rattle.affc_domain.proofs.Lists.{both_true, true_le, true_lt}
use Rattle.affc_nest.specs.Domains.{gap_row, compare_rows, number_form}
use Rattle.affc_nest.specs.declared.nest.ArrayInfo.{ArrayInfo}
use Rattle.affc_nest.specs.declared.nest.Nest.{Nest}
use Rattle.affc_nest.specs.Laws.{HasNest, NamesArrays, StaysWithin}
use Rattle.affc_nest.specs.Nests.{nest_of}
use Rattle.affc_nest.specs.Questions.{extents_or_none}
use Rattle.affc_nest.proofs.QuestionLemmas.{extents_there}
use Rattle.affc_sched.specs.Touched.{Each}
use Rattle.affc_sched.specs.Legality.{IsAsked}
use Rattle.affc_sched.proofs.LegalLemmas.{instance_of}
use Rattle.affc_quast.specs.Seen.{trees_of}
use Rattle.affc_quast.specs.Trees.{Tree}
use Rattle.affc_conflicts.specs.Questions.{distance, agree_rows, over_columns, distance_questions, slice_system, shown_system}
use Rattle.affc_life.specs.Clashes.{clash_of, clashes}
use Rattle.affc_life.specs.Laws.{AreShaped}
use Rattle.affc_life.proofs.LiveLemmas.{Cut, facts_at, cut_front, front_long, at_length, x_touched, y_touched, points_are_in_context}
use Rattle.affc_life.proofs.MadeLemmas.{Made, made}
use Rattle.affc_life.proofs.ContextLemmas.{near_context}
use Rattle.affc_life.proofs.NestLemmas.{has_forms}
use Rattle.affc_cert.specs.declared.cert.Cert.{Cert}
use Rattle.affc_certvalue.specs.Limits.{IsWord}
use Rattle.affc_certvalue.proofs.Within.{small_word}
use Rattle.affc_certvalue.specs.declared.fold.fold.CertFold.{CertFold}
use Rattle.affc_check.specs.list.Certs.{IsCertWithin, AreFoldsSaid, AreItems}
use Rattle.affc_check.specs.list.Items.{Item, Question, Shown, LeastShown, ModulusShown, FoldShown, is_behind, is_point_at, nothing, farthest, pair_in, pair_item, mark_items, row_items, rows_items, items}
use Rattle.affc_check.specs.list.Limits.{HoldsOfNone}
use Rattle.affc_check.specs.list.Passes.{FoldPasses, NonePasses}
use Rattle.affc_check.proofs.list.Over.{are_shaped, asked_of}
use Rattle.affc_check.specs.Laws.{IsReadFor}
use Rattle.affc_check.specs.Made.{AreWordsAt, IsPairFit, IsMarkFit, AreRowsFit, FoldFits}
use Rattle.affc_check.specs.Valid.{AreValid}
use Rattle.affc_check.proofs.Marks.{nothing_shown, contained}
use Rattle.affc_check.proofs.Parts.{fold_holds, stays_within}
use Rattle.affc_check.proofs.Read.{certs_are_read}
use Rattle.affc_check.proofs.Sound.{Holds}

-- ---- Extents are small

abbrev Near : List ℤ → Type 0
Near xs = All (λ x. unsigned_abs x ≤ 2 ^ 24) xs

abbrev AreSmallAt : List Affine → List ℤ → Type 0
AreSmallAt es p = All (λ e. value e p ≤ℤ pos (2 ^ 43)) es

product : (c x : ℤ) → unsigned_abs c ≤ 65536 → unsigned_abs x ≤ 2 ^ 24 → unsigned_abs (c *ℤ x) ≤ 2 ^ 40
product c x h k =
    let p : unsigned_abs c * unsigned_abs x ≤ unsigned_abs c * 2 ^ 24 = mul-le-mul_left (unsigned_abs c) k in
    omega (arith, p, h, unsigned_abs-mul c x)

sum_near : (a b : ℤ) (n : ℕ) → unsigned_abs a ≤ 2 ^ 40 → unsigned_abs b ≤ n * 2 ^ 40 → unsigned_abs (a +ℤ b) ≤ suc n * 2 ^ 40
sum_near a b n h k = omega (arith, abs-add a b)

dot_near : (cs xs : List ℤ) → All (λ c. unsigned_abs c ≤ 65536) cs → Near xs → unsigned_abs (dot cs xs) ≤ length cs * 2 ^ 40
dot_near [] xs h k = omega arith
dot_near (c ∷ cs) [] h k = omega arith
dot_near (c ∷ cs) (x ∷ xs) h k =
    sum_near (c *ℤ x) (dot cs xs) (length cs) (product c x (All-head (λ c. unsigned_abs c ≤ 65536) c cs h) (All-head (λ x. unsigned_abs x ≤ 2 ^ 24) x xs k))
    (dot_near cs xs (All-tail (λ c. unsigned_abs c ≤ 65536) c cs h) (All-tail (λ x. unsigned_abs x ≤ 2 ^ 24) x xs k))

four : (d k : ℤ) (n : ℕ) → n ≤ 4 → unsigned_abs d ≤ n * 2 ^ 40 → unsigned_abs k ≤ 16777216 → (d +ℤ k) ≤ℤ pos (2 ^ 43)
four d k n h a b = omega (arith, ints)

small_at : (n : ℕ) (e : Affine) (p : List ℤ) → n ≤ 4 → IsSubscript n e → Near p → value e p ≤ℤ pos (2 ^ 43)
small_at n e p few s near = four (dot e.coefs p) e.constant n few (subst (λ m. unsigned_abs (dot e.coefs p) ≤ m * 2 ^ 40) s.width (dot_near e.coefs p s.coefs_fit near)) s.constant_fits

-- ---- Elements within them

inside_word : (x e : ℤ) → pos 0 ≤ℤ x → x <ℤ e → e ≤ℤ pos (2 ^ 43) → IsWord x
inside_word x e a b h = small_word (2 ^ 43) x (lit< tt) (small x e a b h)
  where
    small : (x e : ℤ) → pos 0 ≤ℤ x → x <ℤ e → e ≤ℤ pos (2 ^ 43) → unsigned_abs x ≤ 2 ^ 43
    small x e a b h = omega (arith, ints)

within_words : (fs es : List Affine) (z p : List ℤ) → AreSmallAt es p → IsTrue (is_within (values_of fs z) (values_of es p)) → All (λ f. IsWord (value f z)) fs
within_words [] es z p k h = All-nil (λ f. IsWord (value f z))
within_words (f ∷ fs) [] z p k h = absurd (cc)
within_words (f ∷ fs) (e ∷ es) z p k h =
    let x = value f z in
    let a = both_true (int_le (pos 0) x && int_lt x (value e p)) (is_within (values_of fs z) (values_of es p)) h in
    let b = both_true (int_le (pos 0) x) (int_lt x (value e p)) a.0 in
    All-cons (λ f. IsWord (value f z)) f fs (inside_word x (value e p) (true_le (pos 0) x b.0) (true_lt x (value e p) b.1) (All-head (λ e. value e p ≤ℤ pos (2 ^ 43)) e es k))
    (within_words fs es z p (All-tail (λ e. value e p ≤ℤ pos (2 ^ 43)) e es k) a.1)

-- ---- At the points of an array's clash systems

module _ (program : Program) (has : HasNest program) (trees : List Tree) (shaped : AreShaped (nest_of program) trees) (schedule : Schedule)
    (array : ℕ) (info : ArrayInfo) (declared : slice_get (nest_of program).arrays array ≡ Some info) (stays : (p : List ℤ) → IsInContext program p → StaysWithin program p) where
  small_extents : (p : List ℤ) → IsInContext program p → AreSmallAt info.extents p
  small_extents p inside =
      let n = length (number_ranges program.params) in
      All-weaker (IsSubscript n) (λ e. value e p ≤ℤ pos (2 ^ 43)) (λ e s. small_at n e p has.plain.few_numbers s ((near_context program has.plain).near p inside)) info.extents
      (has_forms program has.plain array info declared).forms

  -- the subscripts of an element of the array that an instance touches
  touched : (p : List ℤ) → IsInContext program p → (i : Instance) → IsIn i (trace program p) → (fs : List Affine) (z : List ℤ) → IsIn (array, values_of fs z) (events program p i)
      → All (λ f. IsWord (value f z)) fs
  touched p inside i runs fs z there =
      let are = extents_there program p array has.plain (at_length program p inside) ∙ ap (λ o. values_of (extents_or_none o) p) declared in
      within_words fs info.extents z p (small_extents p inside) (subst (λ es. IsTrue (is_within (values_of fs z) es)) are ((stays p inside).accesses i (array, values_of fs z) runs there))

  module _ (s : PairSystem) (asked : IsIn (clash_of s) (clashes (nest_of program) trees schedule array)) (z : List ℤ) (point : IsPoint s.system z) where
    k : Made (nest_of program) trees schedule array (clash_of s)
    k = made (nest_of program) trees schedule array (clash_of s) asked

    abbrev p : List ℤ
    p = take (length (number_ranges program.params)) z

    long : length (take (length (number_ranges program.params)) z) ≡ length (number_ranges program.params)
    long = front_long program has trees schedule array shaped (clash_of s) k z point

    t : Cut program has trees schedule array shaped (clash_of s) k (take (length (number_ranges program.params)) z) z
    t = cut_front program has trees schedule array shaped (clash_of s) k z point

    inside : IsInContext program (take (length (number_ranges program.params)) z)
    inside = points_are_in_context program trees schedule array (clash_of s) z has shaped asked point

    are_words : AreWordsAt s z
    are_words = record {
      width = point.width;
      first = touched p inside (instance_of k.reader t.bs) (facts_at program has trees schedule array shaped (clash_of s) k p long z t).reader_runs s.x.items z
          (x_touched program has trees schedule array shaped (clash_of s) k p long z t);
      second = touched p inside (instance_of k.of_leaf.writer t.cs) (facts_at program has trees schedule array shaped (clash_of s) k p long z t).writer_runs s.y.items z
          (y_touched program has trees schedule array shaped (clash_of s) k p long z t);
    }

-- ---- Marks

-- a point at which the elements of a system lie far apart is one of the system
own_point : (rows : List Affine) (k : ℕ) (row b : Affine) (s : PairSystem) (xs ys : List Affine) (z : List ℤ) → IsPoint (shown_system rows k row b s xs ys) z → IsPoint s.system z
own_point rows k row b s xs ys z h =
    let d = distance row xs ys in
    let one = number_form s.system.columns (pos 1) in
    let parts = point_of_fewer_rows (slice_system rows k s) (compare_rows Equal d (mixed_form (pos 1) (over_columns s.system.columns b) (negsuc 0) one) ++ gap_row one d 0 ∷ []) z h in
    (point_of_fewer_rows s.system (agree_rows s (take k rows)) z parts.0).0

module _ (nest : Nest) (systems : List PairSystem) (all : List Affine) (words : (s : PairSystem) → Contains systems s → (z : List ℤ) → IsPoint s.system z → AreWordsAt s z) where
  with_system : (k : ℕ) (row b : Affine) (p point : List ℤ) (s : PairSystem) → Contains systems s → Holds (pair_in nest all k row b p point (Some s)) → AreWordsAt s point
  with_system k row b p point s there is = by_test (is_point_at nest.context.columns p point s) is
    where
      far : (t : Bool) → Holds (if t then Shown (shown_system all k row b s s.y.items s.x.items) point else Shown (shown_system all k row b s s.x.items s.y.items) point) → IsPoint s.system point
      far true h = own_point all k row b s s.y.items s.x.items point h
      far false h = own_point all k row b s s.x.items s.y.items point h

      by_test : (t : Bool) → Holds (if t then farthest nest all k row b s point else nothing nest all k row b) → AreWordsAt s point
      by_test true h = words s there point (far (is_behind row s point) h)
      by_test false h = absurd (nothing_shown h)

  pair_fits : (k : ℕ) (row b : Affine) (p : List ℤ) (o : Option (ℤ × List ℤ)) → Holds (pair_item nest all k row b systems p o) → IsPairFit systems o
  pair_fits k row b p None h = tt
  pair_fits k row b p (Some pair) h = λ s e. with_system k row b p pair.1 s (contained systems pair.0 s e) (subst (λ o. Holds (pair_in nest all k row b p pair.1 o)) e h)

  mark_fits : (k : ℕ) (row b : Affine) (o : Option LeastShown) → ((i : Item) → IsIn i (mark_items nest all k row b systems o) → Holds i) → IsMarkFit systems o
  mark_fits k row b None h = tt
  mark_fits k row b (Some l) h = pair_fits k row b l.p l.pair (h (pair_item nest all k row b systems l.p l.pair) (inr (inl refl)))

  rows_fit : (k : ℕ) (rows : List Affine) (ms : List ModulusShown) → ((i : Item) → IsIn i (rows_items nest systems all k rows ms) → Holds i) → AreRowsFit systems rows ms
  rows_fit k [] ms h = tt
  rows_fit k (row ∷ rows) [] h = tt
  rows_fit k (row ∷ rows) (m ∷ ms) h = (
    mark_fits k row m.form m.least (λ i there.
        h i (to_first (row_items nest systems all k row m) (rows_items nest systems all (suc k) rows ms) i
        (inr (to_second (map Question (distance_questions all k row m.form systems)) (mark_items nest all k row m.form systems m.least) i there)))),
    rows_fit (suc k) rows ms (λ i there. h i (to_second (row_items nest systems all k row m) (rows_items nest systems all (suc k) rows ms) i there)),
  )

-- ---- Folds

each_fit : (nest : Nest) (schedule : Schedule) (trees : List Tree) (cs : List CertFold) (fs : List FoldShown) → AreFoldsSaid nest schedule trees cs fs → HoldsOfNone (FoldPasses nest schedule trees) cs
    → ((f : FoldShown) → IsIn f fs → AreRowsFit f.systems f.rows f.moduli) → Each (FoldFits nest schedule trees) cs
each_fit nest schedule trees [] fs said none h = tt
each_fit nest schedule trees (c ∷ cs) [] said none h = absurd said
each_fit nest schedule trees (c ∷ cs) (f ∷ fs) said none h = (
  record { fits = λ large. none.none 0 c refl (inl large); fold = f; said = said.0; fit = h f (inl refl) },
  each_fit nest schedule trees cs fs said.1 (record { none = λ k x e. none.none (suc k) x e }) (λ g i. h g (inr i)),
)

of_program : (program : Program) (schedule : Schedule) (c : Cert) (is : List Item) → HasNest program → NamesArrays program → IsScheduleOf program schedule
    → IsCertWithin (nest_of program) c → AreItems (nest_of program) schedule c is → HoldsOfNone (FoldPasses (nest_of program) schedule (trees_of c.flow)) c.folds → AreValid is c.proofs
    → Each (FoldFits (nest_of program) schedule (trees_of c.flow)) c.folds
of_program program schedule c is has named fits within l none valid =
    let trees = trees_of c.flow in
    let folds = l.folds in
    let r : IsReadFor program schedule trees folds = certs_are_read program schedule c folds has named fits within.certificate l.said in
    let shaped = are_shaped program trees r.shapes in
    let v : AreValid (items (nest_of program) schedule c.context trees folds) c.proofs = subst (λ is. AreValid is c.proofs) l.are valid in
    let stays = stays_within program schedule c.context trees folds c.proofs v has named in
    each_fit (nest_of program) schedule trees c.folds folds l.said none
    (λ f i.
    let a = r.arrays f i in
    rows_fit (nest_of program) f.systems f.rows
    (λ s there z point.
    are_words program has trees shaped schedule f.array a.info a.declared stays s (asked_of program has named trees shaped schedule f.array a.info a.declared f.systems a.systems s there) z point) 0 f.rows f.moduli
    (fold_holds program schedule c.context trees folds c.proofs v f i))

-- where a certificate is valid
pub folds_fit : (nest : Nest) (schedule : Schedule) (c : Cert) (is : List Item) → IsAsked nest schedule → IsCertWithin nest c → AreItems nest schedule c is → NonePasses nest schedule c → AreValid is c.proofs
    → Each (FoldFits nest schedule (trees_of c.flow)) c.folds
folds_fit nest schedule c is asked within l none valid =
    let a = asked.scheduled in
    subst (λ (n : Nest). IsCertWithin n c → AreItems n schedule c is → HoldsOfNone (FoldPasses n schedule (trees_of c.flow)) c.folds → Each (FoldFits n schedule (trees_of c.flow)) c.folds) (sym a.is)
    (λ w k h. of_program a.program schedule c is a.has asked.named a.fits w k h valid) within l none.folds
