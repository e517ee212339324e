-- Valid items pass no limit.
use Rattle.std.proofs.Common.{◌≡◌, ℕ, suc, ◌≤◌, ◌<◌, ℤ, List, [], ◌∷◌, ◌++◌, length, map, None, refl, sym, ap, subst, ◌∙◌, inl, inr, arith, length-append}
use Rattle.std.specs.Prelude.{flat_map, take}
use Rattle.std.specs.List.{All, AllZip}
use Rattle.std.proofs.lemmas.Bool.{ltb-true}
use Rattle.std.proofs.lemmas.List.Elements.{All-nil, All-cons, All-head, All-tail}
use Rattle.affc_rows.specs.Forms.{Affine}
use Rattle.affc_system.specs.Systems.{Rows, IsRow, FitsRow}
use Rattle.affc_system.specs.declared.pairs.PairSystem.{PairSystem}
use Rattle.affc_farkas.specs.declared.proof.Proof.{Proof, Leaf, Cut', Split'}
use Rattle.affc_farkas.specs.Depths.{StandAtNode}
use Rattle.affc_trace.specs.declared.schedule.Schedule.{Schedule}
use Rattle.affc_trace.specs.Law.{IsIn}
use Rattle.affc_trace.proofs.Members.{to_first, to_second, to_map, to_flat_map, in_map}
use Rattle.affc_domain.proofs.Lists.{stands_in}
use Rattle.affc_nest.specs.declared.nest.Nest.{Nest}
use Rattle.affc_nest.specs.Domains.{gap_row}
use Rattle.affc_nest.specs.Questions.{extent_questions, bound_questions}
use Rattle.affc_sched.specs.Questions.{legality_questions}
use Rattle.affc_quast.specs.Seen.{trees_of}
use Rattle.affc_quast.specs.Trees.{Tree}
use Rattle.affc_flow.specs.Questions.{flow_questions}
use Rattle.affc_conflicts.specs.Questions.{distance, agree_rows, over_columns, distance_question, distance_questions}
use Rattle.affc_life.specs.Clashes.{Clash, clash_of, clashes}
use Rattle.affc_life.specs.Sizes.{IsLarge, AnyLarge}
use Rattle.affc_products.specs.Parts.{IsWithin}
use Rattle.affc_cert.specs.Certificates.{Certificate, seen}
use Rattle.affc_cert.specs.Refusals.{refusal}
use Rattle.affc_cert.specs.Values.{cert_value}
use Rattle.affc_cert.specs.declared.cert.Cert.{Cert}
use Rattle.affc_cert.specs.declared.layout.Layout.{Layout}
use Rattle.affc_certvalue.specs.fold.Entries.{entry_of}
use Rattle.affc_certvalue.specs.fold.Limits.{IsFoldWithin}
use Rattle.affc_certvalue.specs.declared.fold.fold.CertFold.{CertFold}
use Rattle.affc_certvalue.specs.declared.fold.fold.CertModulus.{CertModulus}
use Rattle.affc_check.specs.list.Certs.{IsFoldSaid, AreFoldsSaid, AreItems, modulus_said}
use Rattle.affc_check.specs.list.Held.{flow_item, legality_item}
use Rattle.affc_check.specs.list.Items.{Item, Question, Shown, ModulusShown, FoldShown, row_items, rows_items, mark_items, fold_items, items}
use Rattle.affc_check.specs.list.Limits.{AnyPasses}
use Rattle.affc_check.specs.list.Passes.{items_by_tree, FoldPasses, PassesFirst}
use Rattle.affc_check.specs.Valid.{IsProved, AreValid}
use Rattle.affc_check.proofs.list.FoldLemmas.{same_fold}
use Rattle.affc_check.proofs.list.TreeLemmas.{trees_flat}
use Rattle.affc_check.proofs.ReadFor.{zip_in}
use Rattle.affc_accept.specs.Columns.{in_text}
use Rattle.affc_accept.specs.Layouts.{dimensions_of, IsLayout}
use Rattle.affc_accept.proofs.Alike.{same_array, said_alike, like_in}
use Rattle.affc_accept.proofs.Refused.{certificate_within}
use Rattle.affc_accept.proofs.Listed.{temporary_in}

-- ---- Questions with a valid proof are within the limits

stands_on_top : (rows : List Affine) (p : Proof) → StandAtNode rows p rows
stands_on_top rows (Leaf by) = refl
stands_on_top rows (Cut' by g row p rest) = inl refl
stands_on_top rows (Split' form at p low q high) = inl refl

proved_within : (q : Rows) (p : Proof) → IsProved q p → IsWithin q
proved_within q p h = record { columns = h.columns; few = h.few q.rows (stands_on_top q.rows p); rows = h.rows }

in_valid : (is : List Item) (ps : List Proof) (q : Rows) → AreValid is ps → IsIn (Question q) is → IsWithin q
in_valid [] ps q v i = absurd i
in_valid (Shown system point ∷ is) ps q v (inl e) = absurd (cc)
in_valid (Shown system point ∷ is) ps q v (inr i) = in_valid is ps q v.1 i
in_valid (Question system ∷ is) [] q v i = absurd v
in_valid (Question system ∷ is) (p ∷ ps) q v (inl e) = let same : system ≡ q = cc in subst IsWithin same (proved_within system p v.0)
in_valid (Question system ∷ is) (p ∷ ps) q v (inr i) = in_valid is ps q v.1 i

-- ---- Where an item stands among all

module _ (nest : Nest) (schedule : Schedule) (context : List ℤ) (trees : List Tree) (folds : List FoldShown) (i : Item) where
  abbrev extents : List Item
  extents = map Question (extent_questions nest)

  abbrev bounds : List Item
  bounds = map Question (bound_questions nest)

  abbrev of_trees : List Item
  of_trees = map flow_item (flow_questions nest trees)

  abbrev of_order : List Item
  of_order = map legality_item (legality_questions nest schedule)

  abbrev of_folds : List Item
  of_folds = flat_map (fold_items nest) folds

  tree_among : IsIn i of_trees → IsIn i (items nest schedule context trees folds)
  tree_among h = inr (to_second extents (bounds ++ (of_trees ++ (of_order ++ of_folds))) i (to_second bounds (of_trees ++ (of_order ++ of_folds)) i (to_first of_trees (of_order ++ of_folds) i h)))

  fold_among : IsIn i of_folds → IsIn i (items nest schedule context trees folds)
  fold_among h =
      inr (to_second extents (bounds ++ (of_trees ++ (of_order ++ of_folds))) i
      (to_second bounds (of_trees ++ (of_order ++ of_folds)) i (to_second of_trees (of_order ++ of_folds) i (to_second of_order of_folds i h))))

-- ---- A large clash system makes its questions large

-- a system with rows more
more_rows : (s : Rows) (more last : List Affine) → IsWithin (record { columns = s.columns; rows = (s.rows ++ more) ++ last }) → ¬ (IsLarge s)
more_rows s more last w (inl wide) = let c = w.columns in absurd (omega (arith, c, wide))
more_rows s more last w (inr (inl long)) =
    let n = w.few in
    let first = length-append (s.rows ++ more) last in
    let second = length-append s.rows more in
    absurd (omega (arith, n, first, second, long))
more_rows s more last w (inr (inr unfit)) = unfit (front s.rows (λ r i. (at_all ((s.rows ++ more) ++ last) r w.rows (to_first (s.rows ++ more) last r (to_first s.rows more r i))).fits))
  where
    at_all : (rs : List Affine) (r : Affine) → All (IsRow s.columns) rs → IsIn r rs → IsRow s.columns r
    at_all [] r h i = absurd i
    at_all (x ∷ rs) r h (inl e) = subst (IsRow s.columns) (sym e) (All-head (IsRow s.columns) x rs h)
    at_all (x ∷ rs) r h (inr i) = at_all rs r (All-tail (IsRow s.columns) x rs h) i

    front : (rs : List Affine) → ((r : Affine) → IsIn r rs → FitsRow r) → All FitsRow rs
    front [] h = All-nil FitsRow
    front (x ∷ rs) h = All-cons FitsRow x rs (h x (inl refl)) (front rs (λ r i. h r (inr i)))

-- some question is asked of each clash system
record AsksOf (is : List Item) (s : PairSystem) : Type 0 where
  rows : List Affine
  row : Affine
  modulus : Affine
  there : IsIn (Question (distance_question rows 0 row modulus s s.x.items s.y.items)) is

asks : (nest : Nest) (systems : List PairSystem) (rows more : List Affine) (ms : List ModulusShown) (s : PairSystem) → 1 ≤ length more → length ms ≡ length more → IsIn s systems → AsksOf (rows_items nest systems rows 0 more ms) s
asks nest systems rows [] ms s some e i = absurd (omega (arith, some))
asks nest systems rows (row ∷ more) [] s some e i = absurd (omega (arith, e))
asks nest systems rows (row ∷ more) (m ∷ ms) s some e i =
    let q = distance_question rows 0 row m.form s s.x.items s.y.items in
    let own = λ (t : PairSystem). distance_question rows 0 row m.form t t.x.items t.y.items ∷ distance_question rows 0 row m.form t t.y.items t.x.items ∷ [] in
    let among : IsIn q (distance_questions rows 0 row m.form systems) = to_flat_map own systems s q i (inl refl) in
    let ds = map Question (distance_questions rows 0 row m.form systems) in
    let marks = mark_items nest rows 0 row m.form systems m.least in
    record {
      rows = rows;
      row = row;
      modulus = m.form;
      there = to_first (row_items nest systems rows 0 row m) (rows_items nest systems rows 1 more ms) (Question q) (inr (to_first ds marks (Question q) (to_map Question (distance_questions rows 0 row m.form systems) q among)));
    }

-- ---- Folds

-- what is said of a fold
said_for : (nest : Nest) (schedule : Schedule) (trees : List Tree) (cs : List CertFold) (fs : List FoldShown) (c : CertFold) → AreFoldsSaid nest schedule trees cs fs → IsIn c cs → (f : FoldShown) × IsIn f fs × IsFoldSaid nest schedule trees c f
said_for nest schedule trees [] fs c h i = absurd i
said_for nest schedule trees (d ∷ cs) [] c h i = absurd h
said_for nest schedule trees (d ∷ cs) (f ∷ fs) c h (inl e) = (f, inl refl, subst (λ x. IsFoldSaid nest schedule trees x f) (sym e) h.0)
said_for nest schedule trees (d ∷ cs) (f ∷ fs) c h (inr i) = let r = said_for nest schedule trees cs fs c h.1 i in (r.0, inr r.1, r.2)

record HasRows (c : CertFold) : Type 0 where
  some : 1 ≤ length c.basis.rows
  each : length c.moduli ≡ length c.basis.rows

-- a fold has a row for each dimension, of which there is one
has_rows : (nest : Nest) (layout : Layout) (cs : List CertFold) (c : CertFold) → IsLayout nest layout → AllZip (IsFoldWithin layout.parameters) layout.temporaries (map entry_of cs) → IsIn c cs → HasRows c
has_rows nest layout cs c l within i =
    let z = zip_in (IsFoldWithin layout.parameters) layout.temporaries (map entry_of cs) (entry_of c) within (to_map entry_of cs c i) in
    let h = temporary_in 0 nest.arrays (dimensions_of z.0) (subst (IsIn (dimensions_of z.0)) l.temporaries (to_map dimensions_of layout.temporaries z.0 z.1)) in
    let long : length c.basis.rows ≡ z.0.dimensions = sym (many c.basis.rows) ∙ z.2.rows.each in
    let some : 0 < length h.info.extents = ltb-true 0 (length h.info.extents) h.some in
    record { some = enough (length c.basis.rows) z.0.dimensions (length h.info.extents) long h.dimensions some; each = z.2.each ∙ sym long }
  where
    many : (rows : List Affine) → length (map (λ (r : Affine). r.coefs) rows) ≡ length rows
    many [] = refl
    many (r ∷ rows) = ap suc (many rows)

    enough : (a b c : ℕ) → a ≡ b → b ≡ c → 0 < c → 1 ≤ a
    enough a b c e f l = omega (arith, e, f, l)

-- ---- Two certificates that say the same

module _ (nest : Nest) (schedule : Schedule) (a b : Cert) (layout : Layout) (same : seen a ≡ seen b) (l : IsLayout nest layout) (right : refusal layout (cert_value (in_text layout (seen a))) ≡ None)
    (is : List Item) (are : AreItems nest schedule a is) (valid : AreValid is a.proofs) where
  trees_same : trees_of a.flow ≡ trees_of b.flow
  trees_same = ap (λ (s : Certificate). s.trees) same

  all_within : (q : Rows) → IsIn (Question q) (items nest schedule a.context (trees_of a.flow) are.folds) → IsWithin q
  all_within q i = in_valid is a.proofs q valid (subst (IsIn (Question q)) (sym are.are) i)

  no_tree : AnyPasses (flat_map (λ items. items) (items_by_tree nest (trees_of b.flow))) → ⊥
  no_tree h =
      let here : IsIn (Question h.question) (map flow_item (flow_questions nest (trees_of a.flow))) =
      subst (λ ts. IsIn (Question h.question) (map flow_item (flow_questions nest ts))) (sym trees_same) (subst (IsIn (Question h.question)) (trees_flat nest (trees_of b.flow)) h.there) in
      h.passes (all_within h.question (tree_among nest schedule a.context (trees_of a.flow) are.folds (Question h.question) here))

  no_fold_item : (f : FoldShown) → IsIn f are.folds → (q : Rows) → IsIn (Question q) (fold_items nest f) → IsWithin q
  no_fold_item f i q j = all_within q (fold_among nest schedule a.context (trees_of a.flow) are.folds (Question q) (to_flat_map (fold_items nest) are.folds f (Question q) i j))

  no_large : (c : CertFold) (f : FoldShown) → HasRows c → IsIn f are.folds → IsFoldSaid nest schedule (trees_of b.flow) c f → AnyLarge (clashes nest (trees_of b.flow) schedule c.array.0) → ⊥
  no_large c f has i said large =
      let s = in_map clash_of f.systems large.clash (subst (IsIn large.clash) (sym said.systems) large.there) in
      let rows : length f.rows ≡ length c.basis.rows = ap length said.rows in
      let moduli : length f.moduli ≡ length c.moduli = ap length said.moduli ∙ many c.moduli in
      let some = has.some in
      let each = has.each in
      let q = asks nest f.systems f.rows f.rows f.moduli s.0 (omega (arith, some, rows)) (omega (arith, each, rows, moduli)) s.1 in
      more_rows s.0.system (agree_rows s.0 (take 0 q.rows)) (gap_row (over_columns s.0.system.columns q.modulus) (distance q.row s.0.x.items s.0.y.items) 0 ∷ [])
      (no_fold_item f i (distance_question q.rows 0 q.row q.modulus s.0 s.0.x.items s.0.y.items) q.there)
      (subst (λ (k : Clash). IsLarge k.system) s.2 large.large)
    where
      many : (ms : List CertModulus) → length (map modulus_said ms) ≡ length ms
      many [] = refl
      many (m ∷ ms) = ap suc (many ms)

  no_fold : (d : CertFold) → IsIn d b.folds → FoldPasses nest schedule (trees_of b.flow) d → ⊥
  no_fold d i passes =
      let r = like_in a.folds b.folds d (ap (λ (s : Certificate). s.folds) same) i in
      let f = said_for nest schedule (trees_of a.flow) a.folds are.folds r.0 are.said r.1 in
      let said : IsFoldSaid nest schedule (trees_of b.flow) d f.0 = said_alike r.0 d r.2 nest schedule (trees_of b.flow) f.0 (subst (λ ts. IsFoldSaid nest schedule ts r.0 f.0) trees_same f.2) in
      elim passes [
        | inl large ↦ (
            let mine : IsFoldSaid nest schedule (trees_of b.flow) r.0 f.0 = subst (λ ts. IsFoldSaid nest schedule ts r.0 f.0) trees_same f.2 in
            no_large r.0 f.0 (has_rows nest layout a.folds r.0 l (certificate_within layout (seen a) right).folds r.1) f.1 mine
            (subst (λ n. AnyLarge (clashes nest (trees_of b.flow) schedule n)) (sym (same_array r.0 d r.2)) large)
            )
        | inr g ↦ (
            let p : AnyPasses (fold_items nest f.0) = subst AnyPasses (same_fold nest schedule (trees_of b.flow) d g.0 f.0 g.1 said) g.2 in
            p.passes (no_fold_item f.0 f.1 p.question p.there)
            )
      ]

  -- so the other passes no limit
  pub valid_passes_nothing : (part : ℕ) → PassesFirst nest schedule b part → ⊥
  valid_passes_nothing part (inl t) =
      let lists = items_by_tree nest (trees_of b.flow) in
      let here = stands_in lists t.tree t.first.item t.first.there in
      let p = t.first.holds in
      no_tree (record { question = p.question; there = to_flat_map (λ (z : List Item). z) lists t.first.item (Question p.question) here p.there; passes = p.passes })
  valid_passes_nothing part (inr f) = no_fold f.first.item (stands_in b.folds f.fold f.first.item f.first.there) f.first.holds
