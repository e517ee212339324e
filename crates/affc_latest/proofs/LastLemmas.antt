-- The greatest point of the system of a statement's stores is the latest of them.
use Rattle.std.proofs.Common.{◌≡◌, ℕ, suc, ◌^◌, ◌≤◌, ℤ, ◌≤ℤ◌, ◌<ℤ◌, true, IsTrue, List, [], ◌∷◌, ◌++◌, length, map, take, drop, Option, Some, None, refl, sym, ap, subst, ◌∙◌, ◌⊎◌, inl, inr, arith}
use Rattle.std.specs.Prelude.{unsigned_abs, ◌&&◌, nat_le, nat_abs, IfSome}
use Rattle.std.specs.List.{All}
use Rattle.std.proofs.lemmas.Bool.{leb-true}
use Rattle.std.proofs.lemmas.Int.{ints}
use Rattle.std.proofs.lemmas.List.Elements.{All-nil, All-cons}
use Rattle.affc_system.specs.Boxes.{InBox, pin}
use Rattle.affc_system.specs.Order.{LexLe}
use Rattle.affc_system.specs.Systems.{Rows, IsPoint}
use Rattle.affc_ast.specs.declared.tree.Instance.{Instance}
use Rattle.affc_ast.specs.declared.tree.Program.{Program}
use Rattle.affc_ast.specs.Trace.{trace}
use Rattle.affc_trace.specs.Law.{IsIn}
use Rattle.affc_trace.specs.Orders.{Earlier}
use Rattle.affc_domain.specs.Ranges.{is_near, number_ranges}
use Rattle.affc_domain.proofs.Lists.{both_true}
use Rattle.affc_domain.proofs.ColumnLemmas.{cons_is}
use Rattle.affc_domain.proofs.RangeLemmas.{box_append}
use Rattle.affc_nest.specs.declared.nest.Access.{Access}
use Rattle.affc_nest.specs.declared.nest.Entry.{Entry}
use Rattle.affc_nest.specs.Laws.{HasNest, element_at}
use Rattle.affc_nest.specs.Nests.{nest_of}
use Rattle.affc_nest.proofs.EntryLemmas.{ranges_hold_iterators}
use Rattle.affc_order.specs.Systems.{source_systems}
use Rattle.affc_sched.proofs.LegalLemmas.{entry_at}
use Rattle.affc_latest.specs.Latest.{IsLatest}
use Rattle.affc_flow.specs.Laws.{Loads}
use Rattle.affc_flow.specs.Writers.{Writes}
use Rattle.affc_latest.specs.Stores.{StoresBefore, store_system, beside_box, IsLastIn, IsStoreBy, IsWriterAt}
use Rattle.affc_latest.proofs.LatestLemmas.{in_lex_order}
use Rattle.affc_flow.proofs.PathLemmas.{parameters_are}
use Rattle.affc_latest.proofs.StoreLemmas.{point_stores}

-- ---- Points of which most numbers are given

pub in_pinned : (xs : List ℤ) → InBox (map pin xs) xs
in_pinned [] = tt
in_pinned (x ∷ xs) = (least x, least x, in_pinned xs)
  where
    least : (x : ℤ) → x ≤ℤ x
    least x = omega (arith, ints)

same_number : (x y : ℤ) → x ≤ℤ y → y ≤ℤ x → y ≡ x
same_number x y h g = omega (arith, ints)

pub pinned_is : (xs ys : List ℤ) → InBox (map pin xs) ys → ys ≡ xs
pinned_is [] [] b = refl
pinned_is [] (y ∷ ys) b = absurd b
pinned_is (x ∷ xs) [] b = absurd b
pinned_is (x ∷ xs) (y ∷ ys) b = cons_is y x ys xs (same_number x y b.0 b.1) (pinned_is xs ys b.2)

pinned_front : (p : List ℤ) (rs : List (ℤ × ℤ)) (zs : List ℤ) → InBox (map pin p ++ rs) zs → (zs ≡ p ++ drop (length p) zs) × InBox rs (drop (length p) zs)
pinned_front [] rs zs b = (refl, b)
pinned_front (x ∷ p) rs [] b = absurd b
pinned_front (x ∷ p) rs (z ∷ zs) b =
    let r = pinned_front p rs zs b.2 in
    (cons_is z x zs (p ++ drop (length p) zs) (same_number x z b.0 b.1) r.0, r.1)

pinned_back : (rs : List (ℤ × ℤ)) (its zs : List ℤ) → InBox (rs ++ map pin its) zs → (zs ≡ take (length rs) zs ++ its) × InBox rs (take (length rs) zs)
pinned_back [] its zs b = (pinned_is its zs b, tt)
pinned_back (r ∷ rs) its [] b = absurd b
pinned_back (r ∷ rs) its (z ∷ zs) b =
    let q = pinned_back rs its zs b.2 in
    (ap (λ ys. z ∷ ys) q.0, (b.0, b.1, q.1))

-- the numbers between the parameters and the last iterators
record Between (p : List ℤ) (rs : List (ℤ × ℤ)) (its zs : List ℤ) (m n : ℕ) : Type 0 where
  whole : zs ≡ p ++ (take n (drop m zs) ++ its)
  inside : InBox rs (take n (drop m zs))

between : (p : List ℤ) (rs : List (ℤ × ℤ)) (its zs : List ℤ) (m n : ℕ) → length p ≡ m → length rs ≡ n → InBox (beside_box p rs its) zs → Between p rs its zs m n
between p rs its zs m n l k b =
    let f = pinned_front p (rs ++ map pin its) zs b in
    let g = pinned_back rs its (drop (length p) zs) f.1 in
    let h : Between p rs its zs (length p) (length rs) = record { whole = f.0 ∙ ap (λ ys. p ++ ys) g.0; inside = g.1 } in
    subst (λ i. Between p rs its zs i n) l (subst (λ j. Between p rs its zs (length p) j) k h)

pub box_long : (rs : List (ℤ × ℤ)) (xs : List ℤ) → InBox rs xs → length xs ≡ length rs
box_long [] [] b = refl
box_long [] (x ∷ xs) b = absurd b
box_long (r ∷ rs) [] b = absurd b
box_long (r ∷ rs) (x ∷ xs) b = ap suc (box_long rs xs b.2)

-- ---- Lexicographic order

lex_behind : (p xs ys : List ℤ) → LexLe (p ++ xs) (p ++ ys) → LexLe xs ys
lex_behind [] xs ys l = l
lex_behind (x ∷ p) xs ys (inl h) = absurd (itself x h)
  where
    itself : (x : ℤ) → x <ℤ x → ⊥
    itself x h = omega (arith, ints)
lex_behind (x ∷ p) xs ys (inr h) = lex_behind p xs ys h.1

lex_before : (xs ys its : List ℤ) → length xs ≡ length ys → LexLe (xs ++ its) (ys ++ its) → LexLe xs ys
lex_before [] ys its e l = tt
lex_before (x ∷ xs) [] its e l = absurd (omega (arith, e))
lex_before (x ∷ xs) (y ∷ ys) its e (inl h) = inl h
lex_before (x ∷ xs) (y ∷ ys) its e (inr h) = inr (h.0, lex_before xs ys its (omega (arith, e)) h.1)

-- ---- Ranges of iterators

pub within : (z : ℤ) (n k : ℕ) → nat_le (nat_abs z) n ≡ true → n ≤ k → unsigned_abs z ≤ k
within z n k e h = let l : unsigned_abs z ≤ n = leb-true (nat_abs z) n e in omega (arith, l, h)

pub near_inside : (rs : List (ℤ × ℤ)) (xs : List ℤ) → ((r : ℤ × ℤ) → IsIn r rs → IsTrue (is_near r.0 && is_near r.1)) → InBox rs xs → All (λ x. unsigned_abs x ≤ 2 ^ 40) xs
near_inside [] [] h b = All-nil (λ x. unsigned_abs x ≤ 2 ^ 40)
near_inside [] (x ∷ xs) h b = absurd b
near_inside (r ∷ rs) [] h b = absurd b
near_inside (r ∷ rs) (x ∷ xs) h b =
    let n = both_true (is_near r.0) (is_near r.1) (h r (inl refl)) in
    All-cons (λ x. unsigned_abs x ≤ 2 ^ 40) x xs (inner r.0 r.1 x (within r.0 (2 ^ 31) (2 ^ 40) n.0 (omega arith)) (within r.1 (2 ^ 31) (2 ^ 40) n.1 (omega arith)) b.0 b.1)
    (near_inside rs xs (λ q i. h q (inr i)) b.2)
  where
    inner : (l u x : ℤ) → unsigned_abs l ≤ 2 ^ 40 → unsigned_abs u ≤ 2 ^ 40 → l ≤ℤ x → x ≤ℤ u → unsigned_abs x ≤ 2 ^ 40
    inner l u x a b c d = grind (arith, ints)

-- ---- The latest by one system of the order

module _ (program : Program) (p its : List ℤ) (e : Entry) (x : Access) (h : Loads program p its e x) (v : Entry) (y : Access) (writes : Writes (nest_of program) x.array.0 v y) (made : IsIn y v.accesses) where
  -- a store lies in the ranges
  store_inside : (ws : List ℤ) → StoresBefore program p (record { statement = e.part; iterators = its }) (element_at (p ++ its) x) v (record { statement = v.part; iterators = ws }) → InBox (beside_box p v.ranges its) (p ++ (ws ++ its))
  store_inside ws q =
      let r : InBox v.ranges ws =
      (ranges_hold_iterators program v.part v h.has (entry_at program h.has v writes.among) writes.alive).hold p (record { statement = v.part; iterators = ws }) refl h.context q.runs in
      box_append (map pin p) (v.ranges ++ map pin its) p (ws ++ its) (in_pinned p) (box_append v.ranges (map pin its) ws its r (in_pinned its))

  module _ (o : Rows) (i : IsIn o (source_systems (nest_of program) v.part e.part)) where
    pub is_stored : (w : Instance) → IsStoreBy (nest_of program) program p its v e y x o w → StoresBefore program p (record { statement = e.part; iterators = its }) (element_at (p ++ its) x) v (record { statement = v.part; iterators = w.iterators })
    is_stored w s = point_stores program p its e x h v y writes made o i w.iterators s.long s.point

    pub latest_by : (found : Option Instance) → IsLastIn (store_system (nest_of program) v e y x o) (beside_box p v.ranges its) v.part (length (number_ranges program.params)) (length v.loops) found
        → IsLatest (trace program p) (IsStoreBy (nest_of program) program p its v e y x o) found
    latest_by None none = λ w s. none (p ++ (w.iterators ++ its)) (store_inside w.iterators (is_stored w s)) s.point
    latest_by (Some u) g =
        let zs : List ℤ = g.0 in
        let ws : List ℤ = take (length v.loops) (drop (length (number_ranges program.params)) g.0) in
        let each = (ranges_hold_iterators program v.part v h.has (entry_at program h.has v writes.among) writes.alive).each in
        let t = between p v.ranges its zs (length (number_ranges program.params)) (length v.loops) (parameters_are program p its e x h) each g.1.inside in
        let long : length ws ≡ length v.loops = box_long v.ranges ws t.inside ∙ each in
        let meets : IsPoint (store_system (nest_of program) v e y x o) (p ++ (ws ++ its)) = subst (IsPoint (store_system (nest_of program) v e y x o)) t.whole g.1.meets in
        let here = point_stores program p its e x h v y writes made o i ws long meets in
        let u' : Instance = record { statement = v.part; iterators = ws } in
        subst (λ z. IsLatest (trace program p) (IsStoreBy (nest_of program) program p its v e y x o) (Some z)) (sym g.2) (
          record { statement = refl; long = long; runs = here.runs; point = meets },
          λ w s.
              let there = is_stored w s in
              let lex : LexLe (p ++ (w.iterators ++ its)) (p ++ (ws ++ its)) =
              subst (LexLe (p ++ (w.iterators ++ its))) t.whole (g.1.greatest (p ++ (w.iterators ++ its)) (store_inside w.iterators there) s.point) in
              let l : LexLe w.iterators ws = lex_before w.iterators ws its (s.long ∙ sym long) (lex_behind p (w.iterators ++ its) (ws ++ its) lex) in
              let w' : Instance = record { statement = v.part; iterators = w.iterators } in
              let is : w ≡ w' = λ i. record { statement = s.statement i; iterators = w.iterators } in
              subst (λ z. (z ≡ u') ⊎ Earlier (trace program p) z u') (sym is) (in_lex_order program p w' u' there.runs here.runs refl l),
        )

-- ---- What it names

module _ (program : Program) (has : HasNest program) (p : List ℤ) (l : length p ≡ length (number_ranges program.params)) (its : List ℤ) (array : ℕ) (v : Entry) (y : Access) (writes : Writes (nest_of program) array v y) where
  pub names_writer : (system : Rows) (found : Option Instance) → IsLastIn system (beside_box p v.ranges its) v.part (length (number_ranges program.params)) (length v.loops) found → IfSome found (IsWriterAt (nest_of program) array)
  names_writer system None g = tt
  names_writer system (Some u) g =
      let at = entry_at program has v writes.among in
      let r = ranges_hold_iterators program v.part v has at writes.alive in
      let ws : List ℤ = take (length v.loops) (drop (length (number_ranges program.params)) g.0) in
      let t = between p v.ranges its g.0 (length (number_ranges program.params)) (length v.loops) l r.each g.1.inside in
      subst (IsWriterAt (nest_of program) array) (sym g.2)
      (record {
        entry = v;
        there = at;
        alive = writes.alive;
        store = y;
        is_store = writes.last;
        of_array = writes.of_array;
        long = box_long v.ranges ws t.inside ∙ r.each;
        near = near_inside v.ranges ws (λ q i. (r.near q i).1) t.inside;
      })
