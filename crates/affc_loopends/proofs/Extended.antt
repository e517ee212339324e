-- Whole numbers between the ends extend to time points, at which the ends hold.
use Rattle.std.proofs.Common.{◌≡◌, ℕ, suc, ◌+◌, List, [], ◌∷◌, ◌++◌, length, map, take, ℤ, pos, ◌≤ℤ◌, refl, sym, ap, subst, ◌∙◌, append_assoc, append-nil, arith}
use Rattle.std.proofs.lemmas.List.{take-append-le, take_all}
use Rattle.std.proofs.lemmas.List.Elements.{All-weaker}
use Rattle.affc_rows.specs.Forms.{Affine, HaveColumns}
use Rattle.affc_rows.specs.Vocabulary.{form_at}
use Rattle.affc_rows.proofs.ValueLemmas.{length-composed}
use Rattle.affc_rows.proofs.VocabularyLemmas.{unit_width}
use Rattle.affc_farkas.specs.Rational.{scaled_value}
use Rattle.affc_eliminate.specs.project.Projections.{ExtendsWhole}
use Rattle.affc_system.specs.Systems.{Rows, Meets}
use Rattle.affc_domain.proofs.Lists.{length_push}
use Rattle.affc_domain.proofs.ColumnLemmas.{no_columns, more_columns, append_columns}
use Rattle.affc_nest.specs.Domains.{gap_row, column_form, domain_rows}
use Rattle.affc_nest.proofs.WidthLemmas.{gap_wide}
use Rattle.affc_order.proofs.ColumnLemmas.{at_width}
use Rattle.affc_loopends.specs.TimeSets.{Timed, IsShaped, IsTimePoint}
use Rattle.affc_loopends.specs.TimeRows.{images, component_rows, system_of}
use Rattle.affc_loopends.specs.Ends.{AreEndsFrom, LieBetween, IsProjectedRow}
use Rattle.affc_loopends.specs.Laws.{RowsAreExact, EndsHold, TurnsExtend, WholePointsLieBetween}
use Rattle.affc_loopends.proofs.Instances.{whole_value}
use Rattle.affc_loopends.proofs.Exact.{exact}
use Rattle.affc_loopends.proofs.Projected.{row_holds}

pub rows_are_exact : RowsAreExact
rows_are_exact s x d shaped width one = exact s x d shaped width one

-- ---- Widths

components_wide : (c j : ℕ) (gs fs : List Affine) → HaveColumns c (component_rows c j gs fs)
components_wide c j gs [] = no_columns c
components_wide c j gs (f ∷ fs) =
    let a = column_form c j in
    let b = form_at c gs f in
    let u = unit_width c j in
    let v = length-composed f.coefs gs 0 c in
    more_columns c (gap_row b a 0) (gap_row a b 0 ∷ component_rows c (suc j) gs fs) (gap_wide c b a 0 v u)
    (more_columns c (gap_row a b 0) (component_rows c (suc j) gs fs) (gap_wide c a b 0 u v) (components_wide c (suc j) gs fs))

pub system_wide : (s : Timed) → HaveColumns (system_of s).columns (system_of s).rows
system_wide s =
    let m = length s.params in
    let c = m + length s.times in
    let gs = images m (length s.times) s.inverse in
    append_columns c (map (form_at c gs) (domain_rows s.params s.context s.ranges s.around)) (component_rows c m gs s.times)
    (at_width c gs (domain_rows s.params s.context s.ranges s.around)) (components_wide c m gs s.times)

-- ---- Ends

pub ends_hold : EndsHold
ends_hold s column lower upper x d shaped ends point =
    let q = system_of s in
    let holds = (exact s x d shaped point.width point.divisor).1 point in
    let P : Affine → Type 0 = λ r. pos 0 ≤ℤ scaled_value r (take (suc column) x) d in
    let each : (r : Affine) → IsProjectedRow q (suc column) r → P r = λ r p. row_holds q (suc column) r x d p ends.inside (system_wide s) point.width holds in
    (All-weaker (IsProjectedRow q (suc column)) P each lower ends.projected_lower, All-weaker (IsProjectedRow q (suc column)) P each upper ends.projected_upper)

-- ---- Turns

extends : (system : Rows) (ends : List (List Affine × List Affine)) (before ts : List ℤ) (column : ℕ) → length before ≡ column → AreEndsFrom system column ends
    → ExtendsWhole system.columns system.rows before → LieBetween ends before ts → ExtendsWhole system.columns system.rows (before ++ ts)
extends system [] before [] column l a e b = subst (λ ys. ExtendsWhole system.columns system.rows ys) (sym (append-nil before)) e
extends system (n ∷ ends) before [] column l a e b = subst (λ ys. ExtendsWhole system.columns system.rows ys) (sym (append-nil before)) e
extends system [] before (t ∷ ts) column l a e b = absurd b
extends system (n ∷ ends) before (t ∷ ts) column l a e b =
    subst (λ ys. ExtendsWhole system.columns system.rows ys) (append_assoc before (t ∷ []) ts)
    (extends system ends (before ++ t ∷ []) ts (suc column) (length_push before t ∙ ap suc l) a.1 ((a.0).extend before t l e b.0 b.1) b.2)

pub turns_extend : TurnsExtend
turns_extend s ends p ts shaped l a e b =
    let q = system_of s in
    let start : ExtendsWhole q.columns q.rows p = record {
      point = record { x = e.x; d = e.d; width = e.is_time_point.width; divisor = e.is_time_point.divisor; meets = (exact s e.x e.d shaped e.is_time_point.width e.is_time_point.divisor).1 e.is_time_point };
      begins = e.begins;
    } in
    let end = extends q ends p ts (length p) refl a start b in
    record {
      x = end.point.x;
      d = end.point.d;
      is_time_point = (exact s end.point.x end.point.d shaped end.point.width end.point.divisor).0 end.point.meets;
      begins = end.begins;
    }

-- ---- Whole time points

module _ (s : Timed) (x : List ℤ) (shaped : IsShaped s) (point : IsTimePoint s x (pos 1)) where
  lie_between : (ends : List (List Affine × List Affine)) (before ts : List ℤ) (column : ℕ) → x ≡ before ++ ts → length before ≡ column → length ts ≡ length ends → AreEndsFrom (system_of s) column ends → LieBetween ends before ts
  lie_between ends before [] column is at l a = tt
  lie_between [] before (t ∷ ts) column is at l a = absurd (omega arith)
  lie_between (e ∷ ends) before (t ∷ ts) column is at l a =
      let more : length (before ++ t ∷ []) ≡ suc column = length_push before t ∙ ap suc at in
      let all : x ≡ (before ++ t ∷ []) ++ ts = is ∙ sym (append_assoc before (t ∷ []) ts) in
      let first : take (suc column) x ≡ before ++ t ∷ [] =
      ap (take (suc column)) all ∙ take-append-le (suc column) (before ++ t ∷ []) ts (omega arith) ∙ take_all (suc column) (before ++ t ∷ []) (omega arith) in
      let hold = ends_hold s column e.0 e.1 x (pos 1) shaped a.0 point in
      let meets : (r : Affine) → pos 0 ≤ℤ scaled_value r (take (suc column) x) (pos 1) → Meets (before ++ t ∷ []) r =
      λ r h. subst (λ z. pos 0 ≤ℤ z) (ap (λ ys. scaled_value r ys (pos 1)) first ∙ whole_value r (before ++ t ∷ [])) h in (
        All-weaker (λ r. pos 0 ≤ℤ scaled_value r (take (suc column) x) (pos 1)) (Meets (before ++ t ∷ [])) meets e.0 hold.0,
        All-weaker (λ r. pos 0 ≤ℤ scaled_value r (take (suc column) x) (pos 1)) (Meets (before ++ t ∷ [])) meets e.1 hold.1,
        lie_between ends (before ++ t ∷ []) ts (suc column) all more (omega arith) a.1,
      )

pub whole_points_lie_between : WholePointsLieBetween
whole_points_lie_between s ends p ts shaped l a point = lie_between s (p ++ ts) shaped point ends p ts (length p) refl refl l a
