-- All components of a statement.
use Rattle.std.proofs.Common.{◌≡◌, ℕ, suc, ◌+◌, List, [], ◌∷◌, ◌++◌, length, length-append, ℤ, sym, ap, subst, ◌∙◌, arith}
use Rattle.affc_system.specs.Systems.{Rows}
use Rattle.affc_domain.specs.Ranges.{number_ranges}
use Rattle.affc_nest.proofs.EntryLemmas.{site_of, ranges_there, domain_is}
use Rattle.affc_loopends.specs.declared.bounds.Bounds.{Bounds}
use Rattle.affc_loopends.specs.declared.bounds.Bounds.TheVariants.{Between, Loose}
use Rattle.affc_loopends.specs.Ends.{AreEnds}
use Rattle.affc_loopends.specs.Laws.{EntriesAreTimed, BoundsAreEnds}
use Rattle.affc_loopends.specs.TimeRows.{time_system}
use Rattle.affc_loopends.specs.Whys.{IsBounds, AreBoundsFrom}

one_on : (n : ℕ) → n + 0 ≡ n
one_on n = omega arith

pub bounds_more : (system : Rows) (first column : ℕ) (ranges : List (ℤ × ℤ)) (bs : List Bounds) (b : Bounds) → AreBoundsFrom system first ranges bs → first + length bs ≡ column → IsBounds system column ranges b
    → AreBoundsFrom system first ranges (bs ++ b ∷ [])
bounds_more system first column ranges [] b h e g = (subst (λ n. IsBounds system n ranges b) (sym e ∙ one_on first) g, tt)
bounds_more system first column ranges (x ∷ bs) b h e g = (h.0, bounds_more system (suc first) column ranges bs b h.1 (next first (length bs) ∙ e) g)
  where
    next : (n k : ℕ) → suc n + k ≡ n + suc k
    next n k = omega arith

pub entries_are_timed : EntriesAreTimed
entries_are_timed program statement e m has h alive =
    let s = site_of program statement e h in
    let w = ranges_there program statement e has s alive in
    let d = domain_is program statement e s w.0 w.1 in
    let ps = number_ranges program.params in
    (s.its_rounds, w.0, s.rounds_at, w.1, ap (λ (q : Rows). time_system (length ps) q.rows m.forms m.inverse) d)

pub ends_step : (system : Rows) (first column : ℕ) (ranges : List (ℤ × ℤ)) (bs next : List Bounds) (b : Bounds) → AreBoundsFrom system first ranges bs × (first + length bs ≡ column) → next ≡ bs ++ b ∷ [] → IsBounds system column ranges b
    → AreBoundsFrom system first ranges next × (first + length next ≡ column + 1)
ends_step system first column ranges bs next b h e g = (
  subst (AreBoundsFrom system first ranges) (sym e) (bounds_more system first column ranges bs b h.0 h.1 g),
  longer (length next) (length bs) (ap length e ∙ length-append bs (b ∷ [])) h.1,
)
  where
    longer : (n k : ℕ) → n ≡ k + 1 → first + k ≡ column → first + n ≡ column + 1
    longer n k e f = omega arith

pub bounds_are_ends : BoundsAreEnds
bounds_are_ends system column ranges [] [] h b = tt
bounds_are_ends system column ranges [] (e ∷ es) h b = absurd b
bounds_are_ends system column ranges (Between lower upper ∷ bs) [] h b = absurd b
bounds_are_ends system column ranges (Loose why ∷ bs) [] h b = absurd b
bounds_are_ends system column ranges (Loose why ∷ bs) (e ∷ es) h b = absurd b
bounds_are_ends system column ranges (Between lower upper ∷ bs) (e ∷ es) h b =
    (subst (λ ys. AreEnds system column e.0 ys) b.1 (subst (λ xs. AreEnds system column xs upper.items) b.0 (h.0).0), bounds_are_ends system (suc column) ranges bs es h.1 b.2)
