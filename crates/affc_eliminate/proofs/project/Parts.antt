-- The first rows of a state are one.
use Rattle.std.proofs.Common.{◌≡◌, ℕ, ◌<◌, List, length, take, get_or, min, pos, sym, ap, subst, ◌∙◌, arith}
use Rattle.std.specs.List.{All}
use Rattle.std.proofs.lemmas.List.{get_or-take, length-take}
use Rattle.std.proofs.lemmas.List.Elements.{All-take, All-weaker, Contains-get_or}
use Rattle.affc_rows.specs.Forms.{Affine}
use Rattle.affc_farkas.specs.Multiples.{entry_of, multiple_sum}
use Rattle.affc_farkas.specs.declared.pair.Pair.{Pair}
use Rattle.affc_eliminate.specs.declared.kept.Kept.{Kept}
use Rattle.affc_eliminate.specs.project.States.{IsIn, AreZero, IsState}
use Rattle.affc_eliminate.proofs.project.Tables.{live_width}

within : (i n m k : ℕ) → k ≡ min n m → i < k → (i < n) × (i < m)
within i n m k e h = (omega arith, omega arith)

in_part : (live : List Kept) (n i : ℕ) → i < length (take n live) → (i < n) × (i < length live)
in_part live n i h = within i n (length live) (length (take n live)) (length-take n live) h

pub state_part : (columns : ℕ) (rows : List Affine) (made : List Pair) (live : List Kept) (n : ℕ) → IsState columns rows made live → IsState columns rows made (take n live)
state_part columns rows made live n h = record {
  table = h.table;
  is_table = h.is_table;
  sums = record {
    few = h.sums.few;
    widths = h.sums.widths;
    sums = All-take (λ k. k.row ≡ multiple_sum columns rows k.from) n live h.sums.sums;
    named = All-take (λ k. All (λ p. p.0 < 1024) k.from) n live h.sums.named;
  };
  inside = All-take (IsIn (length rows) h.table) n live h.inside;
  numbered = λ i j k il jl ne e.
      let a = in_part live n i il in
      let b = in_part live n j jl in
      h.numbered i j k a.1 b.1 ne (ap (λ (q : Kept). q.number) (sym (get_or-take n live i k a.0)) ∙ e ∙ ap (λ (q : Kept). q.number) (get_or-take n live j k b.0));
  cancelled = All-weaker (λ q. (q.column < columns) × AreZero q.column live) (λ q. (q.column < columns) × AreZero q.column (take n live))
      (λ q z. (z.0, All-take (λ k. entry_of k.row q.column ≡ pos 0) n live z.1)) made h.cancelled;
}

-- the rows have the column
pub state_columns : (columns : ℕ) (rows : List Affine) (column : ℕ) (made : List Pair) (live : List Kept) → column < columns → IsState columns rows made live → All (λ k. column < length k.row.coefs) live
state_columns columns rows column made live lt h = λ i d l. subst (λ n. column < n) (sym (live_width columns rows made live (get_or live i d) h (Contains-get_or live i d l))) lt
