-- The steps by which the ends of all statements are gathered.
use Rattle.std.proofs.Common.{◌≡◌, ℕ, suc, ◌+◌, ℤ, List, [], ◌∷◌, ◌++◌, map, length, refl, sym, ap, ◌∙◌, arith}
use Rattle.std.specs.List.{All}
use Rattle.std.proofs.lemmas.List.{length-map}
use Rattle.affc_rows.specs.Forms.{Affine}
use Rattle.affc_system.specs.Systems.{Rows}
use Rattle.affc_ast.specs.declared.tree.Ix.{Ix}
use Rattle.affc_trace.proofs.EndedReads.{append_assoc}
use Rattle.affc_trace.proofs.LastStores.{append_nil}
use Rattle.affc_nest.specs.declared.nest.Nest.{Nest}
use Rattle.affc_loops.specs.Ends.{joined, ends_from, both_ends, each_ends}
use Rattle.affc_loops.specs.Loops.{times_of}
use Rattle.affc_loops.specs.Spans.{span}
use Rattle.affc_loops.proofs.EndLists.{from_long}
use Rattle.affc_loopends.specs.declared.bounds.Bounds.{Bounds}
use Rattle.affc_loopends.specs.declared.bounds.Bounds.TheVariants.{Between, Loose as Without}
use Rattle.affc_loopends.specs.Ends.{IsProjectedRow}
use Rattle.affc_loopends.specs.Sizes.{IsModest}
use Rattle.affc_loopends.specs.Whys.{AreBoundsFrom}
use Rattle.affc_loopends.specs.declared.scanned.scanned.Loose.{Loose}
use Rattle.affc_loopends.specs.scanned.Scanned.{sides_of, loose_from, all_loose, all_sides}
use Rattle.affc_scan.specs.declared.gathered.Gathered.{Gathered}
use Rattle.affc_scan.specs.EndRows.{IsEndRow, HaveEndRows}
use Rattle.affc_scan.specs.Gathered.{IsProjectable, GathersOne, GathersMore, Gathers}
use Rattle.affc_scan.specs.Numbered.{Numbered, scheduled_in}

-- ---- Projected rows can be printed

end_rows : (system : Rows) (column : ℕ) (ranges : List (ℤ × ℤ)) (rows : List Affine) → All (IsProjectedRow system (suc column)) rows → All (IsModest ranges) rows → All (IsEndRow column) rows
end_rows system column ranges rows p m = λ i d l. record { width = (p i d l).is_row.terms.width; modest = record { coefs = (m i d l).coefs; constant = (m i d l).constant } }

pub bounds_rows : (system : Rows) (column : ℕ) (ranges : List (ℤ × ℤ)) (bs : List Bounds) → AreBoundsFrom system column ranges bs → HaveEndRows column bs
bounds_rows system column ranges [] h = tt
bounds_rows system column ranges (Between lower upper ∷ bs) h =
    ((end_rows system column ranges lower.items (h.0).0.projected_lower (h.0).1, end_rows system column ranges upper.items (h.0).0.projected_upper (h.0).2), bounds_rows system (suc column) ranges bs h.1)
bounds_rows system column ranges (Without why ∷ bs) h = (tt, bounds_rows system (suc column) ranges bs h.1)

-- ---- Loose components

loose_append : (statement component : ℕ) (bs : List Bounds) (b : Bounds) → loose_from statement component (bs ++ b ∷ []) ≡ loose_from statement component bs ++ loose_from statement (component + length bs) (b ∷ [])
loose_append statement component [] b = let q : component ≡ component + 0 = omega arith in ap (λ n. loose_from statement n (b ∷ [])) q
loose_append statement component (Between lower upper ∷ bs) b =
    let q : suc component + length bs ≡ component + suc (length bs) = omega arith in
    loose_append statement (suc component) bs b ∙ ap (λ n. loose_from statement (suc component) bs ++ loose_from statement n (b ∷ [])) q
loose_append statement component (Without why ∷ bs) b =
    let q : suc component + length bs ≡ component + suc (length bs) = omega arith in
    ap (λ l. record { statement = statement; component = component; why = why } ∷ l)
    (loose_append statement (suc component) bs b ∙ ap (λ n. loose_from statement (suc component) bs ++ loose_from statement n (b ∷ [])) q)

pub last_loose : (statement component : ℕ) (all before : List Bounds) (b : Bounds) (old mid new : List Loose) → all ≡ before ++ b ∷ [] → component ≡ length before
    → mid ≡ old ++ loose_from statement 0 before → new ≡ mid ++ loose_from statement component (b ∷ []) → new ≡ old ++ loose_from statement 0 all
last_loose statement component all before b old mid new a e m n =
    let q : component ≡ 0 + length before = omega arith in
    n
    ∙ ap (λ z. z ++ loose_from statement component (b ∷ [])) m
    ∙ append_assoc old (loose_from statement 0 before) (loose_from statement component (b ∷ []))
    ∙ ap (λ k. old ++ (loose_from statement 0 before ++ loose_from statement k (b ∷ []))) q
    ∙ ap (λ z. old ++ z) (sym (loose_append statement 0 before b))
    ∙ ap (λ z. old ++ loose_from statement 0 z) (sym a)

-- ---- One statement

pub own_long : (nest : Nest) (ranges : List (ℤ × ℤ)) (first : ℕ) (s : Numbered) (bounds : List Bounds) (ends : List (Ix × Ix)) → IsProjectable nest ranges s → length bounds ≡ length s.times.forms
    → ends ≡ ends_from first first (map sides_of bounds) (times_of nest.params (scheduled_in s)) → length ranges ≡ length nest.params + length ends
own_long nest ranges first s bounds ends p l e =
    let times : length (times_of nest.params (scheduled_in s)) ≡ length s.times.forms = length-map s.times.forms (span (nest.params ++ s.entry.ranges)) in
    let sides : length (map sides_of bounds) ≡ length bounds = length-map bounds sides_of in
    let long : length ends ≡ length (times_of nest.params (scheduled_in s)) =
    ap length e ∙ from_long first first (map sides_of bounds) (times_of nest.params (scheduled_in s)) (sides ∙ l ∙ sym times) in
    let c : length ranges ≡ length nest.params + length s.times.forms = p.columns in
    omega arith

-- ---- Several statements

module _ (nest : Nest) (ranges : List (ℤ × ℤ)) (first : ℕ) where
  pub none_more : (made : Gathered) → GathersMore nest ranges first [] made made
  none_more made = record { bounds = []; are_bounds = tt; ends = refl; loose = sym (append_nil made.loose.items) }

  pub one_more : (s : Numbered) (ss : List Numbered) (made own both all : Gathered) → GathersOne nest ranges first s own → both.ends ≡ both_ends made.ends own.ends
      → both.loose.items ≡ made.loose.items ++ own.loose.items → GathersMore nest ranges first ss both all → GathersMore nest ranges first (s ∷ ss) made all
  one_more s ss made own both all o e l m = record {
    bounds = o.bounds ∷ m.bounds;
    are_bounds = (o.are_bounds, m.are_bounds);
    ends = m.ends ∙ ap (λ z. joined both_ends z (each_ends first nest.params (map scheduled_in ss) (all_sides m.bounds))) (e ∙ ap (both_ends made.ends) o.ends);
    loose = m.loose ∙ ap (λ z. z ++ all_loose (map scheduled_in ss) m.bounds) (l ∙ ap (λ z. made.loose.items ++ z) o.loose)
        ∙ append_assoc made.loose.items (loose_from s.entry.statement 0 o.bounds) (all_loose (map scheduled_in ss) m.bounds);
  }

  pub none_at_all : (made : Gathered) → made.ends ≡ [] → made.loose.items ≡ [] → Gathers nest ranges first [] made
  none_at_all made e l = record { bounds = []; are_bounds = tt; ends = e; loose = l }

  pub all_of : (s : Numbered) (ss : List Numbered) (own all : Gathered) → GathersOne nest ranges first s own → GathersMore nest ranges first ss own all → Gathers nest ranges first (s ∷ ss) all
  all_of s ss own all o m = record {
    bounds = o.bounds ∷ m.bounds;
    are_bounds = (o.are_bounds, m.are_bounds);
    ends = m.ends ∙ ap (λ z. joined both_ends z (each_ends first nest.params (map scheduled_in ss) (all_sides m.bounds))) o.ends;
    loose = m.loose ∙ ap (λ z. z ++ all_loose (map scheduled_in ss) m.bounds) o.loose;
  }
