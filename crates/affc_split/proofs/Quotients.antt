-- What is found without a cut, by what is found with it.
use Rattle.std.proofs.Common.{◌≡◌, ℕ, ◌+◌, ◌<◌, List, [], ◌∷◌, length, ℤ, sym, ap, subst, arith, Result, Ok, Err}
use Rattle.std.specs.Prelude.{IfOk, OnErr}
use Rattle.std.specs.List.{All}
use Rattle.affc_rows.specs.Forms.{Affine}
use Rattle.affc_system.specs.Systems.{Rows, IsRow}
use Rattle.affc_farkas.specs.declared.proof.Proof.{Proof, Leaf, Cut', Split'}
use Rattle.affc_simplex.specs.declared.bounds.Bound.{Bound}
use Rattle.affc_leaf.specs.Cuts.{IsCutOf, IsCutBefore}
use Rattle.affc_leaf.specs.declared.cuts.Quotient.{Quotient}
use Rattle.affc_leaf.specs.Parts.{IsLeast, IsEmpty}
use Rattle.affc_leaf.proofs.Divisions.{with_cut, cut_least, cut_empty}
use Rattle.affc_split.specs.declared.budget.Stop.{Stop}
use Rattle.affc_split.specs.declared.budget.Stop.TheVariants.{Memory}
use Rattle.affc_split.specs.declared.search.Found.{Found}
use Rattle.affc_split.specs.declared.search.Found.TheVariants.{Empty, Point}
use Rattle.affc_split.specs.Budgets.{Account}
use Rattle.affc_split.specs.Openings.{nodes}
use Rattle.affc_split.specs.Search.{IsFound}
use Rattle.affc_split.specs.Searches.{AreFewer, IsBehind, Searched, Spends}
use Rattle.affc_split.proofs.Openings.{roomier}
use Rattle.affc_split.proofs.Spending.{failed}

-- the cut is of a row of the first system, and the second one has it behind the rows of the first
pub record HasCut (before after : Rows) (cut : Quotient) : Type 0 where
  pub taken : IsCutOf before cut.number cut.g cut.row
  pub fits : IsRow before.columns cut.row
  pub rows : All (IsRow before.columns) before.rows
  pub value : after ≡ with_cut before cut.row

pub found_behind : (before after : Rows) (cut : Quotient) (bs : List Bound) (next : ℕ) (f : Found) (r : Result Found Stop) → HasCut before after cut → next ≡ length before.rows
    → IsFound after bs (next + 1) f → IfOk r (IsBehind cut f) → IfOk r (IsFound before bs next)
found_behind before after cut bs next f (Err e) h n a b = tt
found_behind before after cut bs next (Point x) (Ok g) h n a b =
    subst (λ g. IsFound before bs next g) (sym b) (cut_least before cut.number cut.g cut.row bs x.items h.taken (subst (λ s. IsLeast s bs x.items) h.value a))
found_behind before after cut bs next (Empty p) (Ok (Point x)) h n a b = absurd b
found_behind before after cut bs next (Empty p) (Ok (Empty q)) h n a b =
    cut_empty before cut.number cut.g cut.row bs next p.value q.value h.rows h.taken h.fits n (subst (λ s. IsEmpty s bs (next + 1) p.value) h.value a) b

cut_nodes : (by : List (ℕ × ℕ)) (g : ℤ) (row : Affine) (rest q : Proof) → IsCutBefore by g row rest q → nodes q ≡ nodes rest + 1
cut_nodes by g row rest (Leaf m) h = absurd h
cut_nodes by g row rest (Split' form at p low q high) h = absurd h
cut_nodes by g row rest (Cut' m k c p after) h = ap (λ r. nodes r + 1) h.3

room_cut : (n : ℕ) → 0 + n < ((n + 1) + 1) + 0
room_cut n = omega arith

opened_behind : (whole : List (ℤ × ℤ)) (a b : Account) (cut : Quotient) (f g : Found) → IsBehind cut f g → Searched 0 whole a b (AreFewer 0 f) → Searched 0 whole a b (AreFewer 0 g)
opened_behind whole a b cut (Point x) g h s = subst (λ k. Searched 0 whole a b (AreFewer 0 k)) (sym h) s
opened_behind whole a b cut (Empty p) (Point x) h s = absurd h
opened_behind whole a b cut (Empty p) (Empty q) h s =
    roomier 0 0 0 whole a b p (Empty q) (nodes p.value + 1) (room_cut (nodes p.value)) (cut_nodes ((cut.number, 1) ∷ []) cut.g cut.row p.value q.value h) s

pub spends_behind : (whole : List (ℤ × ℤ)) (a b : Account) (cut : Quotient) (f : Found) (r : Result Found Stop) → OnErr r (r ≡ Err Memory) → IfOk r (IsBehind cut f)
    → Spends (AreFewer 0) 0 whole a b (Ok f) → Spends (AreFewer 0) 0 whole a b r
spends_behind whole a b cut f (Err e) m h s = failed (AreFewer 0) 0 whole a b (Err e) s.later s.cost m
spends_behind whole a b cut f (Ok g) m h s = record {
  later = s.later;
  cost = s.cost;
  opened = opened_behind whole a b cut f g h s.opened;
  stop = tt;
  short = tt;
}
