-- Trees that are right under the tests and divisions above them: leaves by their questions, tests by both sides, and divisions.
use Rattle.std.proofs.Common.{◌≡◌, ℕ, zero, suc, ◌+◌, ◌-◌, ◌^◌, ◌≤◌, ℤ, pos, negsuc, ◌≤ℤ◌, false, List, [], ◌∷◌, ◌++◌, length, map, drop, replicate, Option, Some, None, refl, sym, ap, ap₂, subst, ◌∙◌, inl, arith}
use Rattle.std.specs.Prelude.{max, int_le, slice_get, IfSome}
use Rattle.std.specs.List.{All}
use Rattle.std.proofs.lemmas.Int.{ints}
use Rattle.std.proofs.lemmas.Option.{same_Some, slice_get_within}
use Rattle.std.proofs.lemmas.List.Elements.{All-nil, All-cons, All-drop, All-head, All-tail}
use Rattle.affc_rows.specs.Forms.{Affine, value, HaveColumns}
use Rattle.affc_rows.proofs.SizeLemmas.{within_raised}
use Rattle.affc_system.specs.Boxes.{InBox}
use Rattle.affc_system.specs.Systems.{Rows, IsRow, Met}
use Rattle.affc_ast.specs.Index.{floor_of}
use Rattle.affc_ast.specs.declared.tree.Program.{Program}
use Rattle.affc_trace.specs.Law.{IsIn}
use Rattle.affc_trace.proofs.EndedReads.{append_assoc}
use Rattle.affc_trace.proofs.LastStores.{append_nil}
use Rattle.affc_trace.proofs.Members.{to_flat_map}
use Rattle.affc_trace.proofs.Runs.{length_append}
use Rattle.affc_domain.proofs.RangeLemmas.{box_push}
use Rattle.affc_nest.specs.Asked.{IsNest}
use Rattle.affc_nest.specs.Domains.{with_rows}
use Rattle.affc_nest.specs.Questions.{widened}
use Rattle.affc_nest.specs.declared.nest.Access.{Access}
use Rattle.affc_nest.specs.declared.nest.Entry.{Entry}
use Rattle.affc_nest.specs.declared.nest.Nest.{Nest}
use Rattle.affc_nest.specs.Nests.{nest_of}
use Rattle.affc_nest.specs.Wide.{IsWide}
use Rattle.affc_nest.proofs.DomainLemmas.{from_all, met_append}
use Rattle.affc_nest.proofs.EntryLemmas.{points_are_instances}
use Rattle.affc_domain.proofs.Lists as first
use Rattle.affc_order.specs.Placed.{IsPlaced}
use Rattle.affc_order.specs.Posed.{Posed}
use Rattle.affc_order.specs.Systems.{loops_or_none}
use Rattle.affc_order.specs.Spread.{spread}
use Rattle.affc_sched.proofs.LegalLemmas.{entry_at}
use Rattle.affc_sched.proofs.PairLemmas.{stands_in}
use Rattle.affc_quast.specs.Laws.{IsOver}
use Rattle.affc_nest.specs.Divisions.{division_rows}
use Rattle.affc_quast.specs.Leaves.{padded, negated}
use Rattle.affc_quast.specs.Limits.{narrow, FitsForm, Shaped}
use Rattle.affc_quast.specs.Paths.{IsNear}
use Rattle.affc_quast.specs.Trees.{Tree, Test, Div, Source, Input, instance_at, named_at, quotients_at, depth_of, divisions_of}
use Rattle.affc_nest.proofs.DivisionLemmas.{floor_is, floor_grows, division_met}
use Rattle.affc_quast.proofs.LeafLemmas.{padded_value, short_value, says_negated}
use Rattle.affc_flow.specs.Asked.{writers_of}
use Rattle.affc_dataflow.specs.Guesses.{leaf_under, CoversOn, divided_path, IsQuotientRange}
use Rattle.affc_flow.specs.Laws.{Loads, IsSourceOf, NoneHasAPoint}
use Rattle.affc_flow.specs.Questions.{leaf_questions}
use Rattle.affc_questions.specs.Asked.{IsLeafOf}
use Rattle.affc_dataflow.specs.Searches.{Covers, IsLoad}
use Rattle.affc_flow.specs.Writers.{Writes}
use Rattle.affc_latest.proofs.BesideLemmas.{is_nest}
use Rattle.affc_dataflow.proofs.HalfLemmas.{test_says_side}
use Rattle.affc_flow.proofs.NamesLemmas.{leaf_names_with}
use Rattle.affc_flow.proofs.PathLemmas.{parameters_are, reader_stands}
use Rattle.affc_flow.proofs.WriterLemmas.{from_writers}

-- ---- Widths

pub rows_wide : (n : ℕ) (rows : List Affine) → All (IsRow n) rows → HaveColumns n rows
rows_wide n [] h = All-nil (λ g. length g.coefs ≡ n)
rows_wide n (r ∷ rows) h = All-cons (λ g. length g.coefs ≡ n) r rows (All-head (IsRow n) r rows h).width (rows_wide n rows (All-tail (IsRow n) r rows h))

at_most : (n : ℕ) (fs : List Affine) → HaveColumns n fs → All (λ r. length r.coefs ≤ n) fs
at_most n [] h = All-nil (λ r. length r.coefs ≤ n)
at_most n (f ∷ fs) h = All-cons (λ r. length r.coefs ≤ n) f fs (no_more (All-head (λ g. length g.coefs ≡ n) f fs h)) (at_most n fs (All-tail (λ g. length g.coefs ≡ n) f fs h))
  where
    no_more : {a : ℕ} → a ≡ n → a ≤ n
    no_more e = omega (arith, e)

-- ---- Statements that store the array

-- the only one, where its store is found
pub writes_here : (nest : Nest) (array k : ℕ) (w : Entry) (z : Access) → slice_get nest.entries k ≡ Some w → writers_of array w ≡ (w, z) ∷ [] → Writes nest array w z
writes_here nest array k w z at is = from_writers nest array (w, z) (to_flat_map (writers_of array) nest.entries w (w, z) (first.stands_in nest.entries k w at) (subst (IsIn (w, z)) (sym is) (inl refl)))

-- ---- A leaf under tests and divisions

met_drop : (k : ℕ) (xs : List ℤ) (rows : List Affine) → Met xs rows → Met xs (drop k rows)
met_drop zero xs rows m = m
met_drop (suc k) xs [] m = tt
met_drop (suc k) xs (r ∷ rows) m = met_drop k xs rows m.1

pub placed : (nest : Nest) (columns part : ℕ) (forms : List Affine) (w : Entry) → slice_get nest.entries part ≡ Some w → length forms ≡ length w.loops → All (IsRow columns) forms → IsPlaced nest columns (record { part = part; iterators = forms })
placed nest columns part forms w at each rows = record { part = slice_get_within nest.entries part w at; each = each ∙ ap (λ o. length (loops_or_none o)) (sym at); rows = rows }

module _ (nest : Nest) (e : Entry) (x : Access) (number : ℕ) (h : IsLoad nest e x number) (path : Rows) (ranges : List (ℤ × ℤ)) (wide : HaveColumns path.columns path.rows) where
  pub leaf_is_of : (o : Option Posed) → length nest.params + length e.loops ≤ path.columns → path.columns ≤ 128 → ((a : Posed) → o ≡ Some a → IsPlaced nest path.columns a) → IsLeafOf nest e x (leaf_under e path o)
  leaf_is_of o first few named = record {
    nested = is_nest nest h.nested;
    reads = record { there = h.touched.there; alive = h.touched.alive };
    loads = h.touched.among;
    first = first;
    few = fewer path.columns few;
    rows = All-drop (λ r. length r.coefs ≤ path.columns) (length e.domain.rows) path.rows (at_most path.columns path.rows wide);
    named = named;
  }
    where
      fewer : (k : ℕ) → k ≤ 128 → k ≤ 410
      fewer k l = omega (arith, l)

  leaf_right : (o : Option Posed) → ((a : Posed) → o ≡ Some a → HaveColumns path.columns a.iterators) → NoneHasAPoint (leaf_questions nest e x ranges (leaf_under e path o))
      → (program : Program) (p its qs : List ℤ) → nest ≡ nest_of program → Loads program p its e x → length ((p ++ its) ++ qs) ≡ path.columns
      → InBox ranges ((p ++ its) ++ qs) → Met ((p ++ its) ++ qs) path.rows → IsSourceOf program p its e x (instance_at o ((p ++ its) ++ qs))
  leaf_right o named none program p its qs is loads long inside met =
      let zs = (p ++ its) ++ qs in
      let none' : NoneHasAPoint (leaf_questions (nest_of program) e x ranges (leaf_under e path o)) = subst (λ n. NoneHasAPoint (leaf_questions n e x ranges (leaf_under e path o))) is none in
      let over : IsOver path.columns (leaf_under e path o) = record {
        width = same path.columns;
        rows = All-drop (λ r. length r.coefs ≤ path.columns) (length e.domain.rows) path.rows (at_most path.columns path.rows wide);
        named = named;
      } in
      leaf_names_with program p its qs e x ranges (leaf_under e path o) loads path.columns over long (met_drop (length e.domain.rows) zs path.rows met) inside (λ q more i meets box. none' q i (zs ++ more) box meets)
    where
      same : (m : ℕ) → m ≡ m + 0
      same m = omega arith

  pub source_right : (w : Entry) (z : Access) → Writes nest x.array.0 w z → (forms : List Affine) → HaveColumns path.columns forms → length forms ≡ length w.loops → All (FitsForm narrow) forms
      → NoneHasAPoint (leaf_questions nest e x ranges (leaf_under e path (Some (record { part = w.part; iterators = forms })))) → CoversOn nest e x path ranges 0 0 (Source w.part forms)
  source_right w z writes forms width each fits none =
      let posed : Posed = record { part = w.part; iterators = forms } in
      let whole : IsNest nest = is_nest nest h.nested in
      record {
        right = λ program p its qs is loads long inside met. record {
          source = leaf_right (Some posed) (λ a q. subst (λ (a : Posed). HaveColumns path.columns a.iterators) (same_Some posed a q) width) none program p its qs is loads long inside met;
          near = All-nil IsNear;
        };
        within = record {
          shaped = width;
          stores = record {
            entry = w;
            there = subst (λ (m : Nest). slice_get m.entries w.part ≡ Some w) (sym whole.is) (entry_at whole.program whole.has w (subst (λ (m : Nest). IsIn w m.entries) whole.is writes.among));
            alive = writes.alive;
            store = z;
            is_store = writes.last;
            of_array = writes.of_array;
            each = each;
          };
          fits = fits;
          short = omega arith;
          few = omega arith;
        };
      }

  pub input_right : NoneHasAPoint (leaf_questions nest e x ranges (leaf_under e path None)) → CoversOn nest e x path ranges 0 0 Input
  input_right none = record {
    right = λ program p its qs is loads long inside met. record { source = leaf_right None (λ a q. absurd (cc)) none program p its qs is loads long inside met; near = All-nil IsNear };
    within = record { shaped = tt; stores = tt; fits = tt; short = omega arith; few = omega arith };
  }

-- ---- Paths

spread_rows : (rows : List Affine) → map (spread 0 0 1) rows ≡ map (widened 1) rows
spread_rows [] = refl
spread_rows (f ∷ rows) = ap (λ gs. widened 1 f ∷ gs) (spread_rows rows)

-- the path behind a division
pub divided_is : (path : Rows) (form : Affine) (by : ℤ) (columns : ℕ) (rows none made slice : List Affine) (first second third : Rows) → columns ≡ path.columns → first ≡ record { columns = columns + 1; rows = [] } → rows ≡ path.rows
    → second ≡ with_rows first (map (spread 0 0 1) rows) → none ≡ [] → made ≡ none ++ division_rows columns form by → slice ≡ made → third ≡ with_rows second slice → third ≡ divided_path path form by
divided_is path form by columns rows none made slice first second third c a r b n d q e =
    e ∙ ap (λ s. with_rows s slice) (b ∙ ap (λ s. with_rows s (map (spread 0 0 1) rows)) a) ∙ (λ i. record { columns = next columns path.columns c i; rows = all i })
  where
    next : (m n : ℕ) → m ≡ n → m + 1 ≡ suc n
    next m n e = omega (arith, e)

    all : map (spread 0 0 1) rows ++ slice ≡ map (widened 1) path.rows ++ division_rows path.columns form by
    all =
        ap₂ (λ xs ys. xs ++ ys) (ap (map (spread 0 0 1)) r ∙ spread_rows path.rows)
        (q ∙ d ∙ ap (λ rs. rs ++ division_rows columns form by) n ∙ ap (λ k. division_rows k form by) c)

-- a form of a tree is wide
pub narrow_wide : (n : ℕ) (f : Affine) → length f.coefs ≡ n → FitsForm narrow f → IsWide n f
narrow_wide n f e h = within_raised n (2 ^ 20) (2 ^ 40) (2 ^ 110) (2 ^ 110) f (omega arith) (omega arith) (record { width = e; coefs_fit = h.coefs_fit; constant_fits = h.constant_fits })

-- ---- Tests

module _ (nest : Nest) (e : Entry) (x : Access) (path : Rows) (ranges : List (ℤ × ℤ)) (left divisions : ℕ) where
  -- a leaf has no tests and no divisions above it
  pub leaf_covers : (tree : Tree) → CoversOn nest e x path ranges 0 0 tree → CoversOn nest e x path ranges left divisions tree
  leaf_covers tree c = record {
    right = c.right;
    within = record { shaped = c.within.shaped; stores = c.within.stores; fits = c.within.fits; short = more left c.within.short; few = more divisions c.within.few };
  }
    where
      more : {d : ℕ} (n : ℕ) → d ≤ 0 → d ≤ n
      more n h = omega (arith, h)

  pub sides_cover : (form : Affine) (up down : Rows) (on off tree : Tree) → up ≡ with_rows path (form ∷ []) → down ≡ with_rows path (negated form ∷ []) → length form.coefs ≡ path.columns
      → FitsForm narrow form → 1 ≤ left → tree ≡ Test form on off → CoversOn nest e x up ranges (left - 1) divisions on → CoversOn nest e x down ranges (left - 1) divisions off → CoversOn nest e x path ranges left divisions tree
  sides_cover form up down on off tree y n wide fits some is a b =
      subst (CoversOn nest e x path ranges left divisions) (sym is) (record {
        right = λ program p its qs q loads long inside met.
            let zs = (p ++ its) ++ qs in
            let both = test_says_side (λ source quotients. IsSourceOf program p its e x source × All IsNear quotients) form on off zs
            (λ v. let c = a.right program p its qs q loads (long ∙ sym (ap (λ (r : Rows). r.columns) y)) inside (subst (λ (r : Rows). Met zs r.rows) (sym y) (met_append zs path.rows (form ∷ []) met (v, tt))) in (c.source, c.near))
            (λ v. let c = b.right program p its qs q loads (long ∙ sym (ap (λ (r : Rows). r.columns) n)) inside
            (subst (λ (r : Rows). Met zs r.rows) (sym n) (met_append zs path.rows (negated form ∷ []) met (says_negated form zs (wide ∙ sym long) (below (value form zs) v), tt))) in (c.source, c.near)) in
            record { source = both.0; near = both.1 };
        within = record {
          shaped = (wide, subst (λ (r : Rows). Shaped r.columns on) y a.within.shaped, subst (λ (r : Rows). Shaped r.columns off) n b.within.shaped);
          stores = (a.within.stores, b.within.stores);
          fits = (fits, a.within.fits, b.within.fits);
          short = deeper (depth_of on) (depth_of off) some a.within.short b.within.short;
          few = most (divisions_of on) (divisions_of off) a.within.few b.within.few;
        };
      })
    where
      below : (z : ℤ) → z ≤ℤ negsuc 0 → int_le (pos 0) z ≡ false
      below z h = grind (arith, ints)

      deeper : (a b : ℕ) → 1 ≤ left → a ≤ left - 1 → b ≤ left - 1 → suc (max a b) ≤ left
      deeper a b k h g = omega (arith, k, h, g)

      most : (a b : ℕ) → a ≤ divisions → b ≤ divisions → max a b ≤ divisions
      most a b h g = omega (arith, h, g)

-- ---- Divisions

padded_widened : (n k columns : ℕ) (f : Affine) → columns ≡ n + k → length f.coefs ≡ n → padded columns f ≡ widened k f
padded_widened n k columns f c e = λ i. record { coefs = f.coefs ++ replicate (more (length f.coefs) c e i) (pos 0); constant = f.constant }
  where
    more : (l : ℕ) → columns ≡ n + k → l ≡ n → columns - l ≡ k
    more l c e = omega (arith, c, e)

met_widened : (rows : List Affine) (xs : List ℤ) (q : ℤ) → HaveColumns (length xs) rows → Met xs rows → Met (xs ++ q ∷ []) (map (widened 1) rows)
met_widened [] xs q w m = tt
met_widened (r ∷ rows) xs q w m = (
  subst (λ z. pos 0 ≤ℤ z) (sym (value_same (All-head (λ g. length g.coefs ≡ length xs) r rows w))) m.0,
  met_widened rows xs q (All-tail (λ g. length g.coefs ≡ length xs) r rows w) m.1,
)
  where
    short : {a : ℕ} → a ≡ length xs → a ≤ length xs
    short e = omega (arith, e)

    value_same : length r.coefs ≡ length xs → value (widened 1 r) (xs ++ q ∷ []) ≡ value r xs
    value_same e =
        ap (λ g. value g (xs ++ q ∷ [])) (sym (padded_widened (length xs) 1 (length xs + 1) r refl e)) ∙ padded_value (length xs + 1) r (xs ++ q ∷ []) ∙ short_value r xs (q ∷ []) (short e)

-- a number between two that are within 2^60
near_between : (a q b : ℤ) → IsNear a → IsNear b → a ≤ℤ q → q ≤ℤ b → IsNear q
near_between a q b h g l u = grind (arith, ints)

module _ (nest : Nest) (e : Entry) (x : Access) (path : Rows) (ranges : List (ℤ × ℤ)) (left divisions : ℕ) (wide : HaveColumns path.columns path.rows) where
  pub division_covers : (form : Affine) (k : ℕ) (range : ℤ × ℤ) (rest : Tree) → length form.coefs ≡ path.columns → FitsForm narrow form → pos (suc k) ≤ℤ pos (2 ^ 20) → 1 ≤ left → 1 ≤ divisions
      → IsQuotientRange ranges form (pos (suc k)) range
      → CoversOn nest e x (divided_path path form (pos (suc k))) (ranges ++ range ∷ []) (left - 1) (divisions - 1) rest → CoversOn nest e x path ranges left divisions (Div form (pos (suc k)) rest)
  division_covers form k range rest w fits small some another within_range c = record {
    right = λ program p its qs is loads long inside met.
        let zs = (p ++ its) ++ qs in
        let q = floor_of (value form zs) (pos (suc k)) in
        let one : (p ++ its) ++ (qs ++ q ∷ []) ≡ zs ++ q ∷ [] = sym (append_assoc (p ++ its) qs (q ∷ [])) in
        let bounds = within_range.holds zs inside in
        let same : length form.coefs ≡ length zs = w ∙ sym long in
        let met' : Met (zs ++ q ∷ []) (divided_path path form (pos (suc k))).rows =
        met_append (zs ++ q ∷ []) (map (widened 1) path.rows) (division_rows path.columns form (pos (suc k)))
        (met_widened path.rows zs q (subst (λ n. HaveColumns n path.rows) (sym long) wide) met)
        (subst (λ n. Met (zs ++ q ∷ []) (division_rows n form (pos (suc k)))) long (division_met zs q form k same (floor_is k (value form zs)))) in
        let r = c.right program p its (qs ++ q ∷ []) is loads (ap length one ∙ length_append zs (q ∷ []) ∙ next (length zs) path.columns long)
        (subst (InBox (ranges ++ range ∷ [])) (sym one) (box_push ranges zs range q inside bounds.0 bounds.1)) (subst (λ ys. Met ys (divided_path path form (pos (suc k))).rows) (sym one) met') in
        record {
          source = subst (λ ys. IsSourceOf program p its e x (named_at rest ys)) one r.source;
          near = All-cons IsNear q (quotients_at rest (zs ++ q ∷ [])) (near_between range.0 q range.1 within_range.near.0 within_range.near.1 bounds.0 bounds.1)
              (subst (λ ys. All IsNear (quotients_at rest ys)) one r.near);
        };
    within = record {
      shaped = (w, some_by k, c.within.shaped);
      stores = c.within.stores;
      fits = (fits, small, c.within.fits);
      short = deeper (depth_of rest) some c.within.short;
      few = more (divisions_of rest) another c.within.few;
    };
  }
    where
      next : (a b : ℕ) → a ≡ b → a + 1 ≡ suc b
      next a b e = omega (arith, e)

      some_by : (k : ℕ) → pos 1 ≤ℤ pos (suc k)
      some_by k = omega (arith, ints)

      deeper : (a : ℕ) → 1 ≤ left → a ≤ left - 1 → suc a ≤ left
      deeper a h g = omega (arith, h, g)

      more : (a : ℕ) → 1 ≤ divisions → a ≤ divisions - 1 → suc a ≤ divisions
      more a h g = omega (arith, h, g)

  -- the tree of a division, where that below it is right
  pub above_right : (form : Affine) (by : ℤ) (range : ℤ × ℤ) (path_below : Rows) (ranges_below : List (ℤ × ℤ)) (rest tree : Tree) → length form.coefs ≡ path.columns → FitsForm narrow form → pos 1 ≤ℤ by → by ≤ℤ pos (2 ^ 20) → 1 ≤ left → 1 ≤ divisions
      → IsQuotientRange ranges form by range → path_below ≡ divided_path path form by → ranges_below ≡ ranges ++ range ∷ []
      → CoversOn nest e x path_below ranges_below (left - 1) (divisions - 1) rest → tree ≡ Div form by rest → CoversOn nest e x path ranges left divisions tree
  above_right form (pos zero) range path_below ranges_below rest tree w fits some small l d h y r c is = absurd (omega (arith, ints, some))
  above_right form (negsuc k) range path_below ranges_below rest tree w fits some small l d h y r c is = absurd (omega (arith, ints, some))
  above_right form (pos (suc k)) range path_below ranges_below rest tree w fits some small l d h y r c is =
      subst (CoversOn nest e x path ranges left divisions) (sym is)
      (division_covers form k range rest w fits small l d h (subst (λ rs. CoversOn nest e x (divided_path path form (pos (suc k))) rs (left - 1) (divisions - 1) rest) r (subst (λ p. CoversOn nest e x p ranges_below (left - 1) (divisions - 1) rest) y c)))

-- the range of a quotient, by the least and the greatest value of its form
quotient_range_is : (ranges : List (ℤ × ℤ)) (form : Affine) (by low high : ℤ) (range : ℤ × ℤ) → pos 1 ≤ℤ by
    → ((xs : List ℤ) → InBox ranges xs → (low ≤ℤ value form xs) × (value form xs ≤ℤ high)) → range.0 ≡ floor_of low by → range.1 ≡ floor_of high by → IsNear range.0 → IsNear range.1
    → IsQuotientRange ranges form by range
quotient_range_is ranges form (pos zero) low high range some bounds a b u v = absurd (omega (arith, ints, some))
quotient_range_is ranges form (negsuc k) low high range some bounds a b u v = absurd (omega (arith, ints, some))
quotient_range_is ranges form (pos (suc k)) low high range some bounds a b u v = record {
  holds = λ xs inside. let h = bounds xs inside in (
    subst (λ z. z ≤ℤ floor_of (value form xs) (pos (suc k))) (sym a) (floor_grows k low (value form xs) h.0),
    subst (λ z. floor_of (value form xs) (pos (suc k)) ≤ℤ z) (sym b) (floor_grows k (value form xs) high h.1),
  );
  near = (u, v);
}

pub ends_are : (ranges : List (ℤ × ℤ)) (form : Affine) (by low high : ℤ) (found : Option (ℤ × ℤ)) → pos 1 ≤ℤ by
    → ((xs : List ℤ) → InBox ranges xs → (low ≤ℤ value form xs) × (value form xs ≤ℤ high)) → IfSome found (λ r. r.0 ≡ floor_of low by) → IfSome found (λ r. r.1 ≡ floor_of high by)
    → IfSome found (λ r. IsNear r.0 × IsNear r.1) → IfSome found (IsQuotientRange ranges form by)
ends_are ranges form by low high None some bounds a b n = tt
ends_are ranges form by low high (Some r) some bounds a b n = quotient_range_is ranges form by low high r some bounds a b n.0 n.1

-- ---- Where the path is the statement's domain

module _ (nest : Nest) (e : Entry) (x : Access) (number : ℕ) (h : IsLoad nest e x number) (ranges : List (ℤ × ℤ)) (left divisions : ℕ) (few : divisions ≤ 12) where
  pub whole_covers : (tree : Tree) → CoversOn nest e x e.domain ranges left divisions tree → Covers nest e x ranges left tree
  whole_covers tree c =
      let columns : e.domain.columns ≡ length nest.params + length e.loops = (stands_in nest (is_nest nest h.nested) e h.touched.there).columns in
      record {
        right = λ program p its q loads inside.
            let s = reader_stands program p its e x loads in
            let l = parameters_are program p its e x loads in
            let m = (points_are_instances program p (record { statement = e.part; iterators = its }) e loads.has s.at s.alive l).1 (loads.context, loads.runs) in
            let none : (p ++ its) ++ [] ≡ p ++ its = append_nil (p ++ its) in
            let long : length ((p ++ its) ++ []) ≡ e.domain.columns =
            ap length none ∙ length_append p its ∙ ap (λ k. k + length its) (l ∙ ap (λ (n : Nest). length n.params) (sym q)) ∙ ap (λ k. length nest.params + k) s.long ∙ sym columns in
            let r = c.right program p its [] q loads long (subst (InBox ranges) (sym none) inside) (subst (λ ys. Met ys e.domain.rows) (sym none) (from_all (p ++ its) e.domain.rows m.meets)) in
            record { source = subst (λ ys. IsSourceOf program p its e x (named_at tree ys)) none r.source; near = subst (λ ys. All IsNear (quotients_at tree ys)) none r.near };
        within = record {
          shaped = subst (λ k. Shaped k tree) columns c.within.shaped;
          stores = c.within.stores;
          fits = c.within.fits;
          short = c.within.short;
          few = through (divisions_of tree) c.within.few;
        };
      }
    where
      through : (a : ℕ) → a ≤ divisions → a ≤ 12
      through a g = omega (arith, few, g)
